-- A scan stays one where a vertex row is pushed.
use Rattle.std.proofs.Common.{◌≡◌, ◌≢◌, ℕ, ◌+◌, ◌-◌, ◌<◌, ◌≤◌, ◌^◌, List, [], ◌∷◌, ◌++◌, length, refl, sym, ap, subst}
use Rattle.std.proofs.Common.{arith, ◌∙◌}
use Rattle.std.proofs.Math.ListN.{set, length-set}
use Rattle.std.specs.Prelude.{slice_index}
use Rattle.std.proofs.lemmas.List.{get_or_append_left, length_push, get_or-set_same, get_or-set_other}
use Rattle.packed_link.specs.declared.link.Life.{Life}
use Rattle.scan_record.specs.declared.rows.VertexRow.{VertexRow}
use Rattle.scan_record.specs.declared.scan.Scan.TheInside.{Inside}
use Rattle.scan_record.specs.Scan.{ScanValue, IsScan, row_at, edge_at, new_row, blank_life, with_vertex}
use Rattle.scan_record.specs.Storage.{scan_of, Knows, HasRoom, IsStored}
use Rattle.scan_record.proofs.Places.{each_pushed}

-- a row that was there keeps its number
pub row_at-with_vertex : (s : ScanValue) (life : Life) (key k : ℕ) → k < length s.rows → row_at
    (with_vertex s life key) k ≡ row_at s k
row_at-with_vertex s life key k h = get_or_append_left s.rows (new_row life key ∷ []) (new_row blank_life 0) k h

pub IsScan-with_vertex : (s : ScanValue) (life : Life) (key : ℕ) → IsScan s → length s.rows < s.nodes
    → life.index < s.nodes → ((k : ℕ) → k < length s.rows → (row_at s k).life.index ≢ life.index) → key < 2 ^ 32
    → IsScan (with_vertex s life key)
IsScan-with_vertex s life key is room index absent key_fits =
    let more : length (s.rows ++ new_row life key ∷ []) ≡ length s.rows + 1 = length_push s.rows (new_row life key) in
    let old = row_at-with_vertex s life key in
    let pushed = λ (P : ℕ → VertexRow → Type 0) (here : (k : ℕ) → k < length s.rows → P k (row_at s k))
    (there : P (length s.rows) (new_row life key)).
    each_pushed P s.rows (new_row life key) (new_row blank_life 0) here there in
    record {
      few_nodes = is.few_nodes;
      rows_fit = omega arith;
      edges_fit = is.edges_fit;
      keys_fit = is.keys_fit;
      ends_fit = is.ends_fit;
      costs_of_rows = omega (arith, length_push s.costs 0, is.costs_of_rows);
      slot_zero_of_rows = omega (arith, length_push s.slot_zero 0, is.slot_zero_of_rows);
      slot_one_of_rows = omega (arith, length_push s.slot_one 0, is.slot_one_of_rows);
      slot_two_of_rows = omega (arith, length_push s.slot_two 0, is.slot_two_of_rows);
      index_fits = pushed (λ k row. row.life.index < s.nodes) is.index_fits index;
      indices_differ = λ j k lt h. pushed (λ n row. j < n → (row_at (with_vertex s life key) j).life.index ≢
          row.life.index)
          (λ n inside l. rw (old j (omega arith)) (is.indices_differ j n l inside))
          (λ l. rw (old j l) (absent j l)) k h lt;
      key_fits = pushed (λ k row. row.key < 2 ^ 32) is.key_fits key_fits;
      started_in_order = is.started_in_order;
      started_are_rows = omega (arith, is.started_are_rows);
      not_started = λ k from h. pushed (λ n row. s.next ≤ n → row ≡ new_row row.life row.key)
          (λ n inside l. is.not_started n l inside) (λ _. refl) k h from;
      edges_end = pushed (λ k row. row.first + row.count ≤ length s.edges) is.edges_end (omega arith);
      last_ends = λ some. rw (old (s.next - 1) (omega (arith, is.started_are_rows))) (is.last_ends some);
      apart = λ j k lt h some. pushed (λ n row. j < n → 0 < row.count → (row_at (with_vertex s life key) j).first +
          (row_at (with_vertex s life key) j).count ≤ row.first)
          (λ n inside l c. rw (old j (omega arith)) (is.apart j n l inside c))
          (λ _ c. absurd (omega arith)) k h lt some;
      held = λ p h. let r = is.held p h in (
        r.0,
        omega (arith, r.1),
        subst (λ (row : VertexRow). row.first ≤ p) (sym (old r.0 r.1)) r.2,
        subst
            (λ (row : VertexRow). p < row.first + row.count) (sym (old r.0 r.1)) r.3,
      );
      rising = λ k p q h from lt to. pushed (λ n row. row.first ≤ p → p < q → q < row.first + row.count →
          (edge_at s p).key < (edge_at s q).key)
          (λ n inside f l t. is.rising n p q inside f l t) (λ f l t. absurd (omega arith)) k h from lt to;
      edge_key_fits = is.edge_key_fits;
      weighed = is.weighed;
      weight_fits = is.weight_fits;
      targets_are_rows = λ p t h e. let inside = is.targets_are_rows p t h e in omega arith;
    }

pub Knows-with_vertex : (numbers : List ℕ) (s : ScanValue) (life : Life) (key : ℕ) → Knows numbers s
    → life.index < length numbers → ((k : ℕ) → k < length s.rows → (row_at s k).life.index ≢ life.index) → Knows
    (set numbers life.index (length s.rows)) (with_vertex s life key)
Knows-with_vertex numbers s life key known index absent =
    each_pushed (λ k row. slice_index (set numbers life.index (length s.rows)) row.life.index ≡ k) s.rows
    (new_row life key) (new_row blank_life 0)
    (λ k h. get_or-set_other numbers life.index (row_at s k).life.index (length s.rows) 0 (absent k h) ∙ known k h)
    (get_or-set_same numbers life.index (length s.rows) 0 index)

-- what the fields hold after the push
pub vertex_stored : (a b : Inside) (s : ScanValue) (life : Life) (key : ℕ) → IsStored a → scan_of a ≡ s
    → length s.rows < s.nodes → life.index < s.nodes → ((k : ℕ) → k < length s.rows →
    (row_at s k).life.index ≢ life.index) → key < 2 ^ 32
    → scan_of b ≡ with_vertex (scan_of a) life key → b.numbers.items ≡ set a.numbers.items life.index
    (length a.rows.items) → HasRoom b → IsStored b
vertex_stored a b s life key stored is room index absent fits now table there =
    let absent_here : (k : ℕ) → k < length a.rows.items → (row_at (scan_of a) k).life.index ≢ life.index =
    subst (λ (v : ScanValue). (k : ℕ) → k < length v.rows → (row_at v k).life.index ≢ life.index) (sym is) absent in
    let room_here : length a.rows.items < a.nodes = subst (λ (v : ScanValue). length v.rows < v.nodes) (sym is) room in
    let index_here : life.index < a.nodes = subst (λ (v : ScanValue). life.index < v.nodes) (sym is) index in
    record {
      scan = subst IsScan (sym now) (IsScan-with_vertex (scan_of a) life key stored.scan room_here index_here
          absent_here fits);
      entries = ap length table ∙ length-set a.numbers.items life.index (length a.rows.items) ∙ stored.entries ∙ sym
          (ap (λ (v : ScanValue). v.nodes) now);
      known = subst (Knows b.numbers.items) (sym now) (subst (λ (numbers : List ℕ). Knows numbers
          (with_vertex (scan_of a) life key)) (sym table)
          (Knows-with_vertex a.numbers.items (scan_of a) life key stored.known
          (subst (λ (n : ℕ). life.index < n) (sym stored.entries) index_here) absent_here));
      room = there;
    }
