use Rattle.std.proofs.Common.{◌≡◌, ◌+◌, ◌∷◌, [], ℕ, subst, ◌∙◌, sym, inl, inr}
use Rattle.core_journal.proofs.Lists.{prefix_trans}
use Rattle.core_rule.specs.OwnEvents.{pop_event}
use Rattle.core_stretches.proofs.MakesAddUp.{makes_self}
use Rattle.core_stretches.proofs.MakesTell.{makes_later}
use Rattle.packed_link.specs.Link.{index_of}
use Rattle.packed_link.specs.declared.link.Life.{Life}
use Rattle.layer_rows.specs.Rows.{IsVertexAdded, taken_by}
use Rattle.vertex_calls.proofs.Causes.{no_gap, took_none}
use Rattle.layer_rows.proofs.CausesTell.{lost_word, no_gap_since}
use Rattle.layer_rows.proofs.VerticesInGaps.{building_filled, gap_filled, vertex_added}
use Rattle.layer_rows.proofs.WorkGoesOn.{building_begins, building_loads, taken_loads}
use Rattle.layer_rows.proofs.vertices.add_vertex.Goals as goal

pub look_for-requires-clause-pass : goal.look_for-requires-clause-pass
look_for-requires-clause-pass c =
    let v = c.args.token.now.view in
    let n = c.in-Node.ensures.taken in
    (building_begins v c.take.new.token.view n.seen n.next c.in-Node.fresh c.requires.table.layout n.makes n.held
    c.requires.work).0.holding.pass

pub fill_vertex-requires-clause-fresh : goal.fill_vertex-requires-clause-fresh
fill_vertex-requires-clause-fresh c =
    let v = c.args.token.now.view in
    let m = c.take.new.token.view in
    let n = c.in-Node.ensures.taken in
    let x = c.in-Node.fresh in
    let begun = building_begins v m n.seen n.next x c.requires.table.layout n.makes n.held c.requires.work in
    let b = building_loads m c.look_for.new.token.view x c.take.ensures.table.layout c.in-Gone.ensures.walked.makes
    begun.0 in
    record { life = b.holding.held.life; fresh = b.holding.held.fresh }

pub link-requires-clause-gap : goal.link-requires-clause-gap
link-requires-clause-gap c =
    let v = c.args.token.now.view in
    let m = c.take.new.token.view in
    let n = c.in-Node.ensures.taken in
    let x = c.in-Node.fresh in
    let begun = building_begins v m n.seen n.next x c.requires.table.layout n.makes n.held c.requires.work in
    let u = c.look_for.new.token.view in
    let b = building_loads m u x c.take.ensures.table.layout c.in-Gone.ensures.walked.makes begun.0 in
    gap_filled u c.fill_vertex.new.token.view x c.args.key (index_of c.word.result.0) c.in-Gone.position
    c.look_for.ensures.table.layout c.fill_vertex.ensures.makes b c.in-Gone.ensures.walked.found.gap

pub returns-in-Done-clause-added : goal.returns-in-Done-clause-added
returns-in-Done-clause-added c =
    let v = c.args.token.now.view in
    let m = c.take.new.token.view in
    let n = c.in-Node.ensures.taken in
    let x = c.in-Node.fresh in
    let begun = building_begins v m n.seen n.next x c.requires.table.layout n.makes n.held c.requires.work in
    let u = c.look_for.new.token.view in
    let f = c.fill_vertex.new.token.view in
    let w = c.link.new.token.view in
    let walked = c.in-Gone.ensures.walked in
    let p = c.in-Gone.position in
    let b = building_loads m u x c.take.ensures.table.layout walked.makes begun.0 in
    let filled = building_filled u f x c.args.key (index_of c.word.result.0) c.look_for.ensures.table.layout
    c.fill_vertex.ensures.makes c.fill_vertex.ensures.filled.held b in
    let taken : taken_by f ≡ taken_by v + 1 = filled.1 ∙ (taken_loads m u walked.makes ∙ begun.1) in
    let added = vertex_added v f w p x c.fill_vertex.ensures.table.layout filled.0 taken c.in-Done.ensures.linked.1 in
    let here = subst (λ (k : ℕ). IsVertexAdded k v w x) (walked.found.key ∙ walked.key_is) added in
    subst (λ (y : Life). IsVertexAdded c.args.key v w y) (sym c.in-Done.ensures.linked.0) here

pub returns-in_default-clause-none : goal.returns-in_default-clause-none
returns-in_default-clause-none c = λ _.
    let v = c.args.token.now.view in
    inl (took_none v v c.take.new.token.view c.take.result
    (makes_self v c.requires.work.resting.numbered c.requires.table.sound) c.take.ensures.taken c.in_default.not-Node)

pub returns-in_default-look_for-clause-none : goal.returns-in_default-look_for-clause-none
returns-in_default-look_for-clause-none c = λ _.
    let v = c.args.token.now.view in
    let m = c.take.new.token.view in
    let n = c.in-Node.ensures.taken in
    let w = c.look_for.new.token.view in
    inr (inl (no_gap_since v m w c.args.key (makes_later v m (pop_event v n.seen n.next ∷ []) n.makes).grows
    (no_gap m w c.args.key c.look_for.result c.look_for.ensures.walked c.in_default-look_for.not-Gone)))

pub returns-in-Lost-clause-none : goal.returns-in-Lost-clause-none
returns-in-Lost-clause-none c = λ _.
    let v = c.args.token.now.view in
    let m = c.take.new.token.view in
    let n = c.in-Node.ensures.taken in
    let walked = c.in-Gone.ensures.walked in
    let p = c.in-Gone.position in
    inr (inr (lost_word v m c.link.new.token.view c.fill_vertex.new.token.view c.args.key p
    (makes_later v m (pop_event v n.seen n.next ∷ []) n.makes).grows (walked.found.key ∙ walked.key_is)
    (prefix_trans m.front walked.from.moment p.moment walked.since walked.found.there.since)
    c.in-Lost.ensures.linked.1))
