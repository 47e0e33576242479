use Rattle.std.proofs.Common.{List, [], sym, subst}
use Rattle.core_journal.specs.declared.event.Event.{Event}
use Rattle.core_journal.specs.Prefix.{IsPrefix}
use Rattle.core_stretches.proofs.MakesAddUp.{makes_chain}
use Rattle.core_stretches.proofs.MakesTell.{makes_later}
use Rattle.layer_rows.proofs.WorkGoesOn.{number_on}
use Rattle.layer_rows.proofs.vertices.look_for.Goals as goal

pub walk-requires-clause-number : goal.walk-requires-clause-number
walk-requires-clause-number c =
    number_on c.args.token.now.view c.start-position.new.token.view [] c.start-position.ensures.makes c.requires.number

pub returns-clause-walked : goal.returns-clause-walked
returns-clause-walked c =
    let v = c.args.token.now.view in
    let m = c.start-position.new.token.view in
    let w = c.walk.new.token.view in
    record {
      from = c.start-position.result;
      key_is = c.start-position.ensures.key;
      since = subst (λ (j : List Event). IsPrefix v.front j) (sym c.start-position.ensures.moment)
          (makes_later v m [] c.start-position.ensures.makes).grows;
      makes = makes_chain v m w [] [] c.start-position.ensures.makes c.walk.ensures.makes;
      found = c.walk.ensures.found;
    }
