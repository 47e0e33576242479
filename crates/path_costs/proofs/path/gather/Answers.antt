use Rattle.std.proofs.Common.{◌≡◌, ℕ, ◌+◌, List, ◌∷◌, length, take, reverse, get_or, set, refl, sym, ap, ◌∙◌, subst}
use Rattle.std.proofs.Common.{arith, length-set}
use Rattle.graph_kinds.specs.Path.{IsPath, GoesByLeastKeys}
use Rattle.scan_record.specs.declared.rows.VertexRow.{VertexRow}
use Rattle.scan_record.specs.Asked.{root_of}
use Rattle.scan_record.specs.Scan.{ScanValue}
use Rattle.scan_record.specs.ScanGraph.{graph_of_scan}
use Rattle.scan_record.proofs.Gathered.{one_more}
use Rattle.path_costs.specs.Search.{key_of_row, parent_of, row_cost}
use Rattle.path_costs.proofs.WaysBack.{IsWayBack, way_first, way_room, parent_cheaper, way_next}
use Rattle.path_costs.proofs.path.gather.Goals as goal

pub loop-at-init : goal.loop-at-init
loop-at-init c = record {
  rest = refl;
  long = c.vertices.ensures.valid.slot_zero_of_rows;
  few = omega arith;
  way = way_first c.args.scan.now c.args.row c.requires.row c.requires.settled;
}

pub set_work-requires-clause-row : goal.set_work-requires-clause-row
set_work-requires-clause-row c =
    let now = c.loop-at.invariant in
    let room = way_room c.args.scan.now (key_of_row c.args.scan.now c.args.row) c.loop-at.at c.loop-at.scan.slot_zero
    c.loop-at.count c.requires.tree now.long now.few now.way in
    omega (arith, room, ap (λ (t : ScanValue). length t.rows) now.rest)

pub set_work-requires-2-clause-row : goal.set_work-requires-2-clause-row
set_work-requires-2-clause-row c =
    let now = c.loop-at.invariant in
    let room = way_room c.args.scan.now (key_of_row c.args.scan.now c.args.row) c.loop-at.at c.loop-at.scan.slot_zero
    c.loop-at.count c.requires.tree now.long now.few now.way in
    omega (arith, room, ap (λ (t : ScanValue). length t.rows) now.rest)

pub loop-at-preserved : goal.loop-at-preserved
loop-at-preserved c =
    let old = c.args.scan.now in
    let s = c.loop-at.scan in
    let new = c.set_work.new.self in
    let at = c.loop-at.at in
    let count = c.loop-at.count in
    let now = c.loop-at.invariant in
    let end = key_of_row old c.args.row in
    let room = way_room old end at s.slot_zero count c.requires.tree now.long now.few now.way in
    let key : c.vertex.result.key ≡ key_of_row old at = ap (λ (v : VertexRow). v.key) c.vertex.ensures ∙ ap
    (λ (t : ScanValue). key_of_row t at) now.rest in
    let slot : new.slot_zero ≡ set s.slot_zero count (key_of_row old at) = ap
    (λ (t : ScanValue). t.slot_zero) c.set_work.ensures ∙ ap (set s.slot_zero count) key in
    let with_zero : List ℕ → ScanValue = λ (z : List ℕ). record s { slot_zero = z } in
    let on_old : ScanValue → ScanValue = λ (t : ScanValue). record t { slot_zero = new.slot_zero } in
    let rest : new ≡ record old { slot_zero = new.slot_zero } = c.set_work.ensures ∙
    (ap with_zero (sym (ap (λ (t : ScanValue). t.slot_zero) c.set_work.ensures)) ∙ ap on_old now.rest) in
    let parent : c.work-at.result ≡ parent_of old at = c.work-at.ensures ∙ ap
    (λ (t : ScanValue). parent_of t at) rest in
    let next = way_next old c.requires.tree end at (reverse (take count s.slot_zero)) now.way c.loop-at-test.true in
    let more : key_of_row old at ∷ reverse (take count s.slot_zero) ≡ reverse (take (count + 1) new.slot_zero) =
    one_more s.slot_zero count (key_of_row old at) (omega (arith, room, now.long)) ∙ ap
    (λ (xs : List ℕ). reverse (take (count + 1) xs)) (sym slot) in
    record {
      rest = rest;
      long = ap (λ (xs : List ℕ). length xs) slot ∙ (length-set s.slot_zero count (key_of_row old at) ∙ now.long);
      few = omega (arith, room);
      way = subst (λ (q : ℕ). IsWayBack old end q (reverse (take (count + 1) new.slot_zero))) (sym parent)
          (subst (IsWayBack old end (parent_of old at)) more next);
    }

pub loop-at-smaller : goal.loop-at-smaller
loop-at-smaller c =
    let old = c.args.scan.now in
    let now = c.loop-at.invariant in
    let two : c.set_work.new.self.slot_two ≡ old.slot_two = ap (λ (t : ScanValue). t.slot_two) c.set_work.ensures ∙ ap
    (λ (t : ScanValue). t.slot_two) now.rest in
    let parent : c.work-at.result ≡ parent_of old c.loop-at.at = c.work-at.ensures ∙ ap
    (λ (xs : List ℕ). get_or xs c.loop-at.at 0) two in
    let less = parent_cheaper old c.requires.tree (key_of_row old c.args.row) c.loop-at.at
    (reverse (take c.loop-at.count c.loop-at.scan.slot_zero)) now.way c.loop-at-test.true in
    omega (arith, less, ap (row_cost old) parent)

pub returns-clause-count : goal.returns-clause-count
returns-clause-count c =
    let now = c.loop-at.invariant in
    let room = way_room c.args.scan.now (key_of_row c.args.scan.now c.args.row) c.loop-at.at c.loop-at.scan.slot_zero
    c.loop-at.count c.requires.tree now.long now.few now.way in
    omega (arith, room)

-- the key of row 0 comes last
whole : (c : goal.After-set_work-2) → key_of_row c.args.scan.now c.loop-at.at ∷ reverse
    (take c.loop-at.count c.loop-at.scan.slot_zero) ≡ reverse
    (take (c.loop-at.count + 1) c.set_work-2.new.self.slot_zero)
whole c =
    let old = c.args.scan.now in
    let s = c.loop-at.scan in
    let count = c.loop-at.count in
    let now = c.loop-at.invariant in
    let zero : c.loop-at.at ≡ 0 = omega (arith, c.loop-at-test.false) in
    let room = way_room old (key_of_row old c.args.row) c.loop-at.at s.slot_zero count c.requires.tree now.long now.few
    now.way in
    let key : c.vertex-2.result.key ≡ key_of_row old c.loop-at.at = ap (λ (v : VertexRow). v.key) c.vertex-2.ensures ∙
    (ap (λ (t : ScanValue). key_of_row t 0) now.rest ∙ ap (key_of_row old) (sym zero)) in
    let slot : c.set_work-2.new.self.slot_zero ≡ set s.slot_zero count (key_of_row old c.loop-at.at) = ap
    (λ (t : ScanValue). t.slot_zero) c.set_work-2.ensures ∙ ap (set s.slot_zero count) key in
    one_more s.slot_zero count (key_of_row old c.loop-at.at) (omega (arith, room, now.long)) ∙ ap
    (λ (xs : List ℕ). reverse (take (count + 1) xs)) (sym slot)

pub returns-clause-path : goal.returns-clause-path
returns-clause-path c =
    let old = c.args.scan.now in
    let zero : c.loop-at.at ≡ 0 = omega (arith, c.loop-at-test.false) in
    subst (IsPath (graph_of_scan old) (root_of old) (key_of_row old c.args.row)) (whole c)
    (subst (λ (a : ℕ). IsPath (graph_of_scan old) a (key_of_row old c.args.row)
    (key_of_row old c.loop-at.at ∷ reverse (take c.loop-at.count c.loop-at.scan.slot_zero)))
    (ap (key_of_row old) zero) c.loop-at.invariant.way.path)

pub returns-clause-keys : goal.returns-clause-keys
returns-clause-keys c = subst (GoesByLeastKeys (graph_of_scan c.args.scan.now) (root_of c.args.scan.now))
    (whole c) c.loop-at.invariant.way.least
