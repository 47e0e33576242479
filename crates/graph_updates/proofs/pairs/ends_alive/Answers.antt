use Rattle.std.proofs.Common.{[], inl, inr, refl}
use Rattle.core_journal.specs.Life.{vertex_marked}
use Rattle.core_stretches.proofs.MakesAddUp.{makes_chain}
use Rattle.core_stretches.proofs.MakesTell.{makes_later}
use Rattle.graph_updates.proofs.EndsTell.{key_later, mark_later, marked_over, met_linked, unmarked_alive}
use Rattle.graph_updates.proofs.PairsTell.{unmarked_since}
use Rattle.graph_updates.proofs.pairs.ends_alive.Goals as goal

pub is_alive-from-requires-clause-linked : goal.is_alive-from-requires-clause-linked
is_alive-from-requires-clause-linked c = met_linked c.args.token.now.view c.requires.table.layout c.requires.table.sound
    c.args.ends.from c.requires.from

pub is_alive-to-requires-clause-linked : goal.is_alive-to-requires-clause-linked
is_alive-to-requires-clause-linked c =
    let v = c.args.token.now.view in
    let m = c.is_alive-from.new.token.view in
    let l = met_linked v c.requires.table.layout c.requires.table.sound c.args.ends.to c.requires.to in
    (l.0, key_later v m (makes_later v m [] c.is_alive-from.ensures.makes).grows c.args.ends.to l.0 l.1)

pub returns-then-not-from-clause-makes : goal.returns-then-not-from-clause-makes
returns-then-not-from-clause-makes c = makes_chain c.args.token.now.view c.is_alive-from.new.token.view
    c.is_alive-to.new.token.view [] [] c.is_alive-from.ensures.makes c.is_alive-to.ensures.makes

pub returns-then-not-to-clause-makes : goal.returns-then-not-to-clause-makes
returns-then-not-to-clause-makes c = makes_chain c.args.token.now.view c.is_alive-from.new.token.view
    c.is_alive-to.new.token.view [] [] c.is_alive-from.ensures.makes c.is_alive-to.ensures.makes

pub returns-clause-makes : goal.returns-clause-makes
returns-clause-makes c = makes_chain c.args.token.now.view c.is_alive-from.new.token.view
    c.is_alive-to.new.token.view [] [] c.is_alive-from.ensures.makes c.is_alive-to.ensures.makes

pub returns-then-not-from-clause-alive : goal.returns-then-not-from-clause-alive
returns-then-not-from-clause-alive c =
    let m = c.is_alive-from.new.token.view in
    let w = c.is_alive-to.new.token.view in
    let dead = marked_over c.is_alive-from.result (vertex_marked m.front c.args.ends.from) c.is_alive-from.ensures.alive
    c.if-not-from.true in
    (inl refl, mark_later m w (makes_later m w [] c.is_alive-to.ensures.makes).grows c.args.ends.from dead)

pub returns-then-not-to-clause-alive : goal.returns-then-not-to-clause-alive
returns-then-not-to-clause-alive c =
    let w = c.is_alive-to.new.token.view in (
      inr refl,
      marked_over c.is_alive-to.result (vertex_marked w.front c.args.ends.to) c.is_alive-to.ensures.alive
          c.if-not-to.true,
    )

pub returns-clause-alive : goal.returns-clause-alive
returns-clause-alive c =
    let v = c.args.token.now.view in
    let m = c.is_alive-from.new.token.view in
    let w = c.is_alive-to.new.token.view in
    let first = (makes_later v m [] c.is_alive-from.ensures.makes).grows in
    let second = (makes_later m w [] c.is_alive-to.ensures.makes).grows in
    let from = unmarked_alive c.is_alive-from.result (vertex_marked m.front c.args.ends.from)
    c.is_alive-from.ensures.alive c.if-not-from.false in
    let to = unmarked_alive c.is_alive-to.result (vertex_marked w.front c.args.ends.to) c.is_alive-to.ensures.alive
    c.if-not-to.false in (
      unmarked_since v.front m.front first c.args.ends.from from,
      unmarked_since v.front m.front first c.args.ends.to
          (unmarked_since m.front w.front second c.args.ends.to to),
    )
