use Rattle.std.proofs.Common.{◌≡◌, ◌+◌, [], ◌∷◌, subst, ◌∙◌, inl, inr}
use Rattle.core_rule.proofs.ViewShows.{vertex_still}
use Rattle.core_journal.proofs.Lists.{prefix_refl, prefix_trans}
use Rattle.core_rule.specs.OwnEvents.{pop_event}
use Rattle.core_stretches.proofs.MakesAddUp.{makes_self}
use Rattle.core_stretches.proofs.MakesTell.{makes_goes, makes_later}
use Rattle.graph_table.specs.declared.answers.LinkTried.{LinkTried}
use Rattle.layer_rows.specs.Rows.{IsPrepended, taken_by}
use Rattle.vertex_calls.proofs.Causes.{came_to_none, took_none}
use Rattle.layer_rows.proofs.CausesTell.{none_since}
use Rattle.layer_rows.proofs.EdgesInFront.{edge_added}
use Rattle.layer_rows.proofs.WorkGoesOn.{building_begins, building_loads, taken_loads, walked_here}
use Rattle.layer_rows.proofs.edges.add_edge.Goals as goal

pub look_for-requires-clause-pass : goal.look_for-requires-clause-pass
look_for-requires-clause-pass c =
    let v = c.args.token.now.view in
    let n = c.in-Node.ensures.taken in
    (building_begins v c.take.new.token.view n.seen n.next c.in-Node.fresh c.requires.table.layout n.makes n.held
    c.requires.work).0.holding.pass

pub prepend_edge-requires-clause-building : goal.prepend_edge-requires-clause-building
prepend_edge-requires-clause-building c =
    let v = c.args.token.now.view in
    let m = c.take.new.token.view in
    let n = c.in-Node.ensures.taken in
    let x = c.in-Node.fresh in
    let begun = building_begins v m n.seen n.next x c.requires.table.layout n.makes n.held c.requires.work in
    let first = c.look_for.new.token.view in
    building_loads first c.look_for-2.new.token.view x c.look_for.ensures.table.layout
    c.in-Here-look_for.ensures.walked.makes
    (building_loads m first x c.take.ensures.table.layout c.in-Here.ensures.walked.makes begun.0)

pub prepend_edge-requires-clause-source : goal.prepend_edge-requires-clause-source
prepend_edge-requires-clause-source c =
    let first = c.look_for.new.token.view in
    let second = c.look_for-2.new.token.view in
    vertex_still first second c.look_for.ensures.table.layout
    (makes_goes first second [] tt c.in-Here-look_for.ensures.walked.makes) c.in-Here.source.life
    c.in-Here.ensures.walked.found.met

pub returns-in-Some-Won-clause-added : goal.returns-in-Some-Won-clause-added
returns-in-Some-Won-clause-added c =
    let v = c.args.token.now.view in
    let m = c.take.new.token.view in
    let n = c.in-Node.ensures.taken in
    let x = c.in-Node.fresh in
    let begun = building_begins v m n.seen n.next x c.requires.table.layout n.makes n.held c.requires.work in
    let first = c.look_for.new.token.view in
    let second = c.look_for-2.new.token.view in
    let w = c.prepend_edge.new.token.view in
    let source = c.in-Here.source.life in
    let taken : taken_by second ≡ taken_by v + 1 = taken_loads first second c.in-Here-look_for.ensures.walked.makes ∙
    (taken_loads m first c.in-Here.ensures.walked.makes ∙ begun.1) in
    let target = c.in-Here-look_for.target.life in
    let before = (makes_later v m (pop_event v n.seen n.next ∷ []) n.makes).grows in
    let between = (makes_later first second [] c.in-Here-look_for.ensures.walked.makes).grows in
    let there = walked_here v m first second c.args.from c.in-Here.source before between c.in-Here.ensures.walked in
    let reached = prefix_trans v.front m.front first.front before
    (makes_later m first [] c.in-Here.ensures.walked.makes).grows in
    let target_there = walked_here v first second second c.args.to c.in-Here-look_for.target reached
    (prefix_refl second.front) c.in-Here-look_for.ensures.walked in
    edge_added v second w c.args.from c.args.to source target c.in-Some-Won.life x c.args.weight taken _ _ there
    target_there
    (subst (λ (r : LinkTried). IsPrepended r source target c.args.weight x second w) c.in-Some-Won.field-0-is
    c.in-Some-Won.ensures.tried)

pub returns-in_default-clause-none : goal.returns-in_default-clause-none
returns-in_default-clause-none c = λ _.
    let v = c.args.token.now.view in
    inl (took_none v v c.take.new.token.view c.take.result
    (makes_self v c.requires.work.resting.numbered c.requires.table.sound) c.take.ensures.taken c.in_default.not-Node)

pub returns-in_default-look_for-clause-none : goal.returns-in_default-look_for-clause-none
returns-in_default-look_for-clause-none c = λ _.
    let v = c.args.token.now.view in
    let m = c.take.new.token.view in
    let n = c.in-Node.ensures.taken in
    let w = c.look_for.new.token.view in
    inr (inl (none_since v m w c.args.from (makes_later v m (pop_event v n.seen n.next ∷ []) n.makes).grows
    (came_to_none m w c.args.from c.look_for.result c.look_for.ensures.walked c.in_default-look_for.not-Here)))

pub returns-in_default-look_for-2-clause-none : goal.returns-in_default-look_for-2-clause-none
returns-in_default-look_for-2-clause-none c = λ _.
    let v = c.args.token.now.view in
    let m = c.take.new.token.view in
    let n = c.in-Node.ensures.taken in
    let u = c.look_for.new.token.view in
    let w = c.look_for-2.new.token.view in
    let before = prefix_trans v.front m.front u.front (makes_later v m (pop_event v n.seen n.next ∷ []) n.makes).grows
    (makes_later m u [] c.in-Here.ensures.walked.makes).grows in
    inr (inr (inl (none_since v u w c.args.to before
    (came_to_none u w c.args.to c.look_for-2.result c.look_for-2.ensures.walked c.in_default-look_for-2.not-Here))))

pub returns-in-Some-Lost-clause-none : goal.returns-in-Some-Lost-clause-none
returns-in-Some-Lost-clause-none c = λ _.
    let v = c.args.token.now.view in
    let m = c.take.new.token.view in
    let n = c.in-Node.ensures.taken in
    let first = c.look_for.new.token.view in
    let second = c.look_for-2.new.token.view in
    let w = c.prepend_edge.new.token.view in
    let source = c.in-Here.source.life in
    let target = c.in-Here-look_for.target.life in
    let before = (makes_later v m (pop_event v n.seen n.next ∷ []) n.makes).grows in
    let between = (makes_later first second [] c.in-Here-look_for.ensures.walked.makes).grows in
    let reached = prefix_trans v.front m.front first.front before
    (makes_later m first [] c.in-Here.ensures.walked.makes).grows in
    inr (inr (inr (record {
      then = second;
      source = source;
      target = target;
      source_at = c.in-Here.source.moment.value.view.front;
      source_there = walked_here v m first second c.args.from c.in-Here.source before between
          c.in-Here.ensures.walked;
      target_at = c.in-Here-look_for.target.moment.value.view.front;
      target_there = walked_here v first second second c.args.to c.in-Here-look_for.target reached
          (prefix_refl second.front) c.in-Here-look_for.ensures.walked;
      cause = inr (record {
        node = c.in-Node.fresh;
        back = c.in-Some-Lost.field-0-0;
        found = c.in-Some-Lost.field-0-1;
        tried = subst (λ (r : LinkTried). IsPrepended r source target c.args.weight c.in-Node.fresh second w)
            c.in-Some-Lost.field-0-is c.in-Some-Lost.ensures.tried;
      });
    })))

pub returns-clause-none : goal.returns-clause-none
returns-clause-none c = λ none.
    let v = c.args.token.now.view in
    let m = c.take.new.token.view in
    let n = c.in-Node.ensures.taken in
    let first = c.look_for.new.token.view in
    let second = c.look_for-2.new.token.view in
    let w = c.prepend_edge.new.token.view in
    let source = c.in-Here.source.life in
    let target = c.in-Here-look_for.target.life in
    let before = (makes_later v m (pop_event v n.seen n.next ∷ []) n.makes).grows in
    let between = (makes_later first second [] c.in-Here-look_for.ensures.walked.makes).grows in
    let reached = prefix_trans v.front m.front first.front before
    (makes_later m first [] c.in-Here.ensures.walked.makes).grows in
    inr (inr (inr (record {
      then = second;
      source = source;
      target = target;
      source_at = c.in-Here.source.moment.value.view.front;
      source_there = walked_here v m first second c.args.from c.in-Here.source before between
          c.in-Here.ensures.walked;
      target_at = c.in-Here-look_for.target.moment.value.view.front;
      target_there = walked_here v first second second c.args.to c.in-Here-look_for.target reached
          (prefix_refl second.front) c.in-Here-look_for.ensures.walked;
      cause = inl (c.in-None.ensures.none none);
    })))
