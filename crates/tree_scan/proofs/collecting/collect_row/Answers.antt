use Rattle.std.proofs.Common.{◌≡◌, ◌<◌, ℕ, List, length, refl, sym, ap, ◌∙◌, subst}
use Rattle.packed_link.specs.Layout.{Sizes, second_at, third_at}
use Rattle.core_journal.specs.declared.event.Event.{Event}
use Rattle.core_rule.specs.declared.view.View.{View}
use Rattle.core_scans.specs.Walking.{IsMore}
use Rattle.core_scans.proofs.PushesKeepLives.{more_chain, more_started}
use Rattle.core_stretches.proofs.WordsLeadOn.{loads_make}
use Rattle.scan_record.specs.Scan.{ScanValue, row_at, with_started}
use Rattle.scan_record.specs.declared.rows.VertexRow.{VertexRow}
use Rattle.tree_scan.specs.Collects.{IsAtEdge, IsAtRow}
use Rattle.tree_scan.proofs.EdgesLoaded.{first_loaded, place_is, then_loaded}
use Rattle.tree_scan.proofs.RowsCollected.{row_begun}
use Rattle.tree_scan.proofs.collecting.collect_row.Goals as goal

pub collect_list-requires-clause-stands : goal.collect_list-requires-clause-stands
collect_list-requires-clause-stands c =
    let g = c.args.table.now in
    let t = c.args.token.now in
    let v = t.view in
    let a = c.load-counter.new.token in
    let b = c.load-head.new.token in
    let s = c.args.scan.now in
    let x = (row_at s s.next).life.index in
    let is : c.vertex-index.result.life.index ≡ x = ap (λ (r : VertexRow). r.life.index)
    (c.vertex-index.ensures ∙ ap (row_at s) c.requires.row) in
    let low : s.next < length s.rows = subst (λ (n : ℕ). n < length s.rows) c.requires.row c.requires.inside in
    let at = λ (f : Sizes → ℕ → ℕ) (p : ℕ) (h : p ≡ f c.layout-layout.result c.vertex-index.result.life.index).
    place_is f p c.layout-layout.result g.sizes v.sizes c.vertex-index.result.life.index x h
    c.layout-layout.ensures.sizes c.requires.table.sizes is in
    let first = first_loaded g t a c.third_at.result (third_at v.sizes x) c.load-counter.result c.requires.table
    c.requires.number c.load-counter.ensures.looked
    (at (λ z i. third_at z i) c.third_at.result c.third_at.ensures.place) in
    let second = then_loaded g v a b c.second_at.result (second_at v.sizes x) c.load-head.result
    c.load-counter.ensures.table c.requires.number first.goes c.load-head.ensures.looked
    (at (λ z i. second_at z i) c.second_at.result c.second_at.ensures.place) in
    let on = first_loaded g a b c.second_at.result c.second_at.result c.load-head.result c.load-counter.ensures.table
    (ap (λ (y : View). y.numbered) first.goes.view ∙ c.requires.number) c.load-head.ensures.looked refl in
    let made = loads_make v a.view b.view c.third_at.result c.load-counter.result c.second_at.result
    c.load-head.result c.requires.number c.requires.table.sound c.load-counter.ensures.looked
    c.load-head.ensures.looked in
    let scan : c.start_edges.new.self ≡ with_started s s.next c.load-counter.result c.load-head.result =
    c.start_edges.ensures.started
    ∙ ap (λ (n : ℕ). with_started s n c.load-counter.result c.load-head.result) c.requires.row in
    let begun = λ (start : List Event) (h : IsAtRow v start s). subst
    (λ (y : ScanValue). IsAtEdge b.view start y c.load-head.result 0) (sym scan)
    (row_begun v a.view b.view c.requires.table.layout made on.goes start s c.vertices-rows.ensures.valid h low
    c.load-counter.result c.load-head.result first second) in
    (c.requires.stands.0, begun c.requires.stands.0 c.requires.stands.1)

pub returns-clause-more : goal.returns-clause-more
returns-clause-more c =
    let s = c.args.scan.now in
    let started = subst (IsMore s) (sym c.start_edges.ensures.started)
    (more_started s c.vertices-rows.ensures.valid c.args.row c.load-counter.result c.load-head.result) in
    more_chain s c.start_edges.new.self c.collect_list.new.scan started c.collect_list.ensures.grown.more

pub returns-clause-stands : goal.returns-clause-stands
returns-clause-stands c =
    let g = c.args.table.now in
    let t = c.args.token.now in
    let v = t.view in
    let a = c.load-counter.new.token in
    let b = c.load-head.new.token in
    let s = c.args.scan.now in
    let x = (row_at s s.next).life.index in
    let is : c.vertex-index.result.life.index ≡ x = ap (λ (r : VertexRow). r.life.index)
    (c.vertex-index.ensures ∙ ap (row_at s) c.requires.row) in
    let low : s.next < length s.rows = subst (λ (n : ℕ). n < length s.rows) c.requires.row c.requires.inside in
    let at = λ (f : Sizes → ℕ → ℕ) (p : ℕ) (h : p ≡ f c.layout-layout.result c.vertex-index.result.life.index).
    place_is f p c.layout-layout.result g.sizes v.sizes c.vertex-index.result.life.index x h
    c.layout-layout.ensures.sizes c.requires.table.sizes is in
    let first = first_loaded g t a c.third_at.result (third_at v.sizes x) c.load-counter.result c.requires.table
    c.requires.number c.load-counter.ensures.looked
    (at (λ z i. third_at z i) c.third_at.result c.third_at.ensures.place) in
    let second = then_loaded g v a b c.second_at.result (second_at v.sizes x) c.load-head.result
    c.load-counter.ensures.table c.requires.number first.goes c.load-head.ensures.looked
    (at (λ z i. second_at z i) c.second_at.result c.second_at.ensures.place) in
    let on = first_loaded g a b c.second_at.result c.second_at.result c.load-head.result c.load-counter.ensures.table
    (ap (λ (y : View). y.numbered) first.goes.view ∙ c.requires.number) c.load-head.ensures.looked refl in
    let made = loads_make v a.view b.view c.third_at.result c.load-counter.result c.second_at.result
    c.load-head.result c.requires.number c.requires.table.sound c.load-counter.ensures.looked
    c.load-head.ensures.looked in
    let scan : c.start_edges.new.self ≡ with_started s s.next c.load-counter.result c.load-head.result =
    c.start_edges.ensures.started
    ∙ ap (λ (n : ℕ). with_started s n c.load-counter.result c.load-head.result) c.requires.row in
    let begun = λ (start : List Event) (h : IsAtRow v start s). subst
    (λ (y : ScanValue). IsAtEdge b.view start y c.load-head.result 0) (sym scan)
    (row_begun v a.view b.view c.requires.table.layout made on.goes start s c.vertices-rows.ensures.valid h low
    c.load-counter.result c.load-head.result first second) in
    λ start h. c.collect_list.ensures.stands start (begun start h)
