use Rattle.std.proofs.Common.{arith, ap, subst, ◌≡◌, ◌∙◌, [], ◌∷◌}
use Rattle.packed_link.specs.declared.link.Life.{Life}
use Rattle.core_journal.specs.Event.{raises}
use Rattle.core_rule.specs.OwnEvents.{raise_event}
use Rattle.core_rule.proofs.ViewShows.{goes_further}
use Rattle.core_stretches.specs.Makes.{Makes}
use Rattle.core_stretches.proofs.MakesAddUp.{makes_chain}
use Rattle.core_stretches.proofs.MakesTell.{makes_counts, makes_goes}
use Rattle.edge_list.specs.EdgePositions.{IsSeenEdge}
use Rattle.edge_list.specs.declared.edge.Edge.{Edge}
use Rattle.edge_calls.proofs.calls.remove.Goals as goal

pub raise-raised-requires-clause-limit : goal.raise-raised-requires-clause-limit
raise-raised-requires-clause-limit c =
    let v = c.args.token.now.view in
    let m = c.start.new.token.view in
    let w = c.walk.new.token.view in
    let walked : Makes v [] w = makes_chain v m w [] [] c.start.ensures.makes c.walk.ensures.makes in
    let n = makes_counts raises v w [] walked in
    omega (arith, n, c.requires.limit)

pub returns-clause-removed : goal.returns-clause-removed
returns-clause-removed c =
    let v = c.args.token.now.view in
    let m = c.start.new.token.view in
    let w = c.walk.new.token.view in
    let walked : Makes v [] w = makes_chain v m w [] [] c.start.ensures.makes c.walk.ensures.makes in
    let s = c.in-Here.sighting in
    let found = c.in-Here.ensures.found in
    let started = c.in-At.ensures.started in
    let seen : IsSeenEdge w c.args.from s.edge s.moment.value.view.front = subst
    (λ (y : Life). IsSeenEdge w y s.edge s.moment.value.view.front) started.source_is found.seen in
    let key : s.edge.key ≡ c.args.key = found.key ∙ started.key_is in
    let r = c.raise-raised.new.token.view in
    let up = c.raise-raised.ensures.raised in
    record {
      then = r;
      goes = goes_further v w r (makes_goes v w [] tt walked)
          (makes_goes w r (raise_event w c.args.from up.found ∷ []) ((λ y. absurd (cc), λ y. absurd (cc)), tt)
          up.makes);
      raised = c.raise-raised.result;
      source_is = up.source_is;
      key_is = ap (λ (e : Edge). e.key) up.edge_is ∙ key;
      marked = c.mark.ensures.marked;
    }
