use Rattle.std.proofs.Common.{arith, ap, refl, subst, ◌≡◌, ◌∙◌, [], ◌∷◌}
use Rattle.packed_link.specs.declared.link.Life.{Life}
use Rattle.core_journal.specs.Event.{pops, raises}
use Rattle.core_rule.specs.OwnEvents.{pop_event, raise_event}
use Rattle.core_rule.specs.Views.{GoesOn}
use Rattle.core_rule.proofs.ViewShows.{goes_further}
use Rattle.core_stretches.specs.Makes.{Makes}
use Rattle.core_stretches.proofs.HoldingsStay.{makes_fresh_by_kind, makes_none}
use Rattle.core_stretches.proofs.MakesAddUp.{makes_chain}
use Rattle.core_stretches.proofs.MakesTell.{makes_counts, makes_goes}
use Rattle.edge_list.specs.EdgePositions.{IsSeenEdge}
use Rattle.edge_list.specs.declared.edge.Edge.{Edge}
use Rattle.edge_calls.proofs.TriesGoOn.{seen_taken, taken_goes}
use Rattle.edge_calls.proofs.calls.change.Goals as goal

pub take-requires-clause-none : goal.take-requires-clause-none
take-requires-clause-none c =
    let v = c.args.token.now.view in
    let m = c.start.new.token.view in
    let w = c.walk.new.token.view in
    let walked : Makes v [] w = makes_chain v m w [] [] c.start.ensures.makes c.walk.ensures.makes in
    makes_none v w [] c.requires.table.layout tt walked c.requires.none

pub take-requires-clause-limit : goal.take-requires-clause-limit
take-requires-clause-limit c =
    let v = c.args.token.now.view in
    let m = c.start.new.token.view in
    let w = c.walk.new.token.view in
    let walked : Makes v [] w = makes_chain v m w [] [] c.start.ensures.makes c.walk.ensures.makes in
    let n = makes_counts pops v w [] walked in
    omega (arith, n, c.requires.limit)

pub raise-raised-requires-clause-seen : goal.raise-raised-requires-clause-seen
raise-raised-requires-clause-seen c =
    let v = c.args.token.now.view in
    let m = c.start.new.token.view in
    let w = c.walk.new.token.view in
    let walked : Makes v [] w = makes_chain v m w [] [] c.start.ensures.makes c.walk.ensures.makes in
    let t = c.take.new.token.view in
    let x = c.in-Node.fresh in
    let taken = c.in-Node.ensures.taken in
    let went : GoesOn v w = makes_goes v w [] tt walked in
    let s = c.in-Here.sighting in
    let found = c.in-Here.ensures.found in
    let started = c.in-At.ensures.started in
    let seen : IsSeenEdge w c.args.from s.edge s.moment.value.view.front = subst
    (λ (y : Life). IsSeenEdge w y s.edge s.moment.value.view.front) started.source_is found.seen in (
      s.moment.value.view.front,
      seen_taken w t x c.args.from s.edge s.moment.value.view.front
          c.walk.ensures.table.layout taken seen,
    )

pub raise-raised-requires-clause-limit : goal.raise-raised-requires-clause-limit
raise-raised-requires-clause-limit c =
    let v = c.args.token.now.view in
    let m = c.start.new.token.view in
    let w = c.walk.new.token.view in
    let walked : Makes v [] w = makes_chain v m w [] [] c.start.ensures.makes c.walk.ensures.makes in
    let t = c.take.new.token.view in
    let x = c.in-Node.fresh in
    let taken = c.in-Node.ensures.taken in
    let went : GoesOn v w = makes_goes v w [] tt walked in
    let n = makes_counts raises v w [] walked in
    let k = makes_counts raises w t (pop_event w taken.seen taken.next ∷ []) taken.makes in
    omega (arith, n, k, c.requires.raises)

pub replace-requires-clause-fresh : goal.replace-requires-clause-fresh
replace-requires-clause-fresh c =
    let v = c.args.token.now.view in
    let m = c.start.new.token.view in
    let w = c.walk.new.token.view in
    let walked : Makes v [] w = makes_chain v m w [] [] c.start.ensures.makes c.walk.ensures.makes in
    let t = c.take.new.token.view in
    let x = c.in-Node.fresh in
    let taken = c.in-Node.ensures.taken in
    let went : GoesOn v w = makes_goes v w [] tt walked in
    let s = c.in-Here.sighting in
    let found = c.in-Here.ensures.found in
    let started = c.in-At.ensures.started in
    let seen : IsSeenEdge w c.args.from s.edge s.moment.value.view.front = subst
    (λ (y : Life). IsSeenEdge w y s.edge s.moment.value.view.front) started.source_is found.seen in
    let key : s.edge.key ≡ c.args.key = found.key ∙ started.key_is in
    let r = c.raise-raised.new.token.view in
    let up = c.raise-raised.ensures.raised in
    (makes_fresh_by_kind t r (raise_event t c.args.from up.found ∷ []) c.take.ensures.table.layout x (refl, tt) up.makes
    taken.held).0

pub returns-clause-changed : goal.returns-clause-changed
returns-clause-changed c =
    let v = c.args.token.now.view in
    let m = c.start.new.token.view in
    let w = c.walk.new.token.view in
    let walked : Makes v [] w = makes_chain v m w [] [] c.start.ensures.makes c.walk.ensures.makes in
    let t = c.take.new.token.view in
    let x = c.in-Node.fresh in
    let taken = c.in-Node.ensures.taken in
    let went : GoesOn v w = makes_goes v w [] tt walked in
    let s = c.in-Here.sighting in
    let found = c.in-Here.ensures.found in
    let started = c.in-At.ensures.started in
    let seen : IsSeenEdge w c.args.from s.edge s.moment.value.view.front = subst
    (λ (y : Life). IsSeenEdge w y s.edge s.moment.value.view.front) started.source_is found.seen in
    let key : s.edge.key ≡ c.args.key = found.key ∙ started.key_is in
    let r = c.raise-raised.new.token.view in
    let up = c.raise-raised.ensures.raised in
    record {
      then = r;
      goes = goes_further v w r went (goes_further w t r (taken_goes w t x taken)
          (makes_goes t r (raise_event t c.args.from up.found ∷ []) ((λ y. absurd (cc), λ y. absurd (cc)), tt)
          up.makes));
      raised = c.raise-raised.result;
      source_is = up.source_is;
      key_is = ap (λ (e : Edge). e.key) up.edge_is ∙ key;
      fresh = x;
      replaced = c.replace.ensures.replaced;
    }
