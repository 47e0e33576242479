-- A scan stays one where the edges of a row are started, and where an edge is pushed.
use Rattle.std.proofs.Common.{◌≡◌, ◌≢◌, ℕ, ◌+◌, ◌-◌, ◌<◌, ◌≤◌, List, length, get_or, refl, sym, ap, subst, inl, inr}
use Rattle.std.proofs.Common.{arith, ◌∙◌}
use Rattle.std.proofs.Math.ListN.{set, length-set}
use Rattle.std.specs.Prelude.{slice_index}
use Rattle.std.proofs.lemmas.Bool.{cases_eq}
use Rattle.std.proofs.lemmas.List.{get_or-set_same, get_or-set_other}
use Rattle.packed_link.specs.declared.link.Life.{Life}
use Rattle.scan_record.specs.declared.rows.VertexRow.{VertexRow}
use Rattle.scan_record.specs.declared.scan.Scan.TheInside.{Inside}
use Rattle.scan_record.specs.Scan.{ScanValue, IsScan, row_at, edge_at, new_row, blank_life, with_started}
use Rattle.scan_record.specs.Storage.{scan_of, Knows, HasRoom, IsStored}
use Rattle.scan_record.proofs.Places.{each_written, told_written}

-- the row as it is after the start
abbrev pub started_row : ScanValue → ℕ → ℕ → ℕ → VertexRow
started_row s i counter head = record (row_at s i) { counter = counter; head = head; first = length s.edges; count = 0 }

pub IsScan-with_started : (s : ScanValue) (i counter head : ℕ) → IsScan s → i < length s.rows → s.next ≤ i → IsScan
    (with_started s i counter head)
IsScan-with_started s i counter head is inside from =
    let row = started_row s i counter head in
    let lives = told_written (λ (r : VertexRow). r.life) s.rows i row (new_row blank_life 0) refl in
    let keys = told_written (λ (r : VertexRow). r.key) s.rows i row (new_row blank_life 0) refl in
    let same : length (set s.rows i row) ≡ length s.rows = length-set s.rows i row in
    let here : row_at (with_started s i counter head) i ≡ row = get_or-set_same s.rows i row
    (new_row blank_life 0) inside in
    let there : (k : ℕ) → k ≢ i → row_at (with_started s i counter head) k ≡ row_at s k = λ k other. get_or-set_other
    s.rows i k row (new_row blank_life 0) other in
    let none_past : (k : ℕ) → s.next ≤ k → k < length s.rows → (row_at s k).count ≡ 0 = λ k past h. ap
    (λ (r : VertexRow). r.count) (is.not_started k past h) in
    let written = λ (P : ℕ → VertexRow → Type 0) (others : (k : ℕ) → k < length s.rows → k ≢ i → P k (row_at s k))
    (this : P i row).
    each_written P s.rows i row (new_row blank_life 0) inside others this in
    record {
      few_nodes = is.few_nodes;
      rows_fit = omega (arith, is.rows_fit);
      edges_fit = is.edges_fit;
      keys_fit = is.keys_fit;
      ends_fit = is.ends_fit;
      costs_of_rows = is.costs_of_rows ∙ sym same;
      slot_zero_of_rows = is.slot_zero_of_rows ∙ sym same;
      slot_one_of_rows = is.slot_one_of_rows ∙ sym same;
      slot_two_of_rows = is.slot_two_of_rows ∙ sym same;
      index_fits = λ k h. rw (lives k) (is.index_fits k (omega arith));
      indices_differ = λ j k lt h. rw (lives j, lives k) (is.indices_differ j k lt (omega arith));
      key_fits = λ k h. rw (keys k) (is.key_fits k (omega arith));
      started_in_order = omega (arith, is.started_in_order);
      started_are_rows = omega arith;
      not_started = λ k past h. rw (there k (omega arith)) (is.not_started k (omega arith) (omega arith));
      edges_end = written (λ k r. r.first + r.count ≤ length s.edges) (λ k h _. is.edges_end k h) (omega arith);
      last_ends = λ _. let at : i + 1 - 1 ≡ i = omega arith in rw (at, here) (omega arith);
      apart = λ j k lt h some. written (λ n r. j < n → 0 < r.count → (row_at (with_started s i counter head) j).first +
          (row_at (with_started s i counter head) j).count ≤ r.first)
          (λ n within other l c. elim (cases_eq j i) as (λ _. (row_at (with_started s i counter head) j).first +
          (row_at (with_started s i counter head) j).count ≤ (row_at s n).first) [
            | inl this ↦ let none : (row_at s n).count ≡ 0 = none_past n (omega arith) within in absurd (omega arith)
            | inr apart ↦ rw (there j apart) (is.apart j n l within c)
          ]) (λ _ c. absurd (omega arith)) k h lt some;
      held = λ p h. let r = is.held p h in
          let other : r.0 ≢ i = λ this. let none : (row_at s i).count ≡ 0 = none_past i from inside in
          let start : (row_at s i).first ≤ p = subst (λ (n : ℕ). (row_at s n).first ≤ p) this r.2 in
          let end : p < (row_at s i).first + (row_at s i).count = subst
          (λ (n : ℕ). p < (row_at s n).first + (row_at s n).count) this r.3 in omega arith in (
            r.0,
            omega (arith, r.1),
            subst (λ (row : VertexRow). row.first ≤ p) (sym (there r.0 other)) r.2,
            subst
                (λ (row : VertexRow). p < row.first + row.count) (sym (there r.0 other)) r.3,
          );
      rising = λ k p q h start lt end. written (λ n r. r.first ≤ p → q < r.first + r.count → (edge_at s p).key <
          (edge_at s q).key)
          (λ n within _ f t. is.rising n p q within f lt t) (λ f t. absurd (omega arith)) k h start end;
      edge_key_fits = is.edge_key_fits;
      weighed = is.weighed;
      weight_fits = is.weight_fits;
      targets_are_rows = λ p t h e. let within = is.targets_are_rows p t h e in omega arith;
    }

-- a table that knows the rows knows them where their lives stay
pub Knows-lives : (numbers : List ℕ) (s : ScanValue) (rows : List VertexRow) → length rows ≡ length s.rows →
    ((k : ℕ) → (get_or rows k (new_row blank_life 0)).life ≡ (row_at s k).life) → Knows numbers s
    → (k : ℕ) → k < length rows → slice_index numbers (get_or rows k (new_row blank_life 0)).life.index ≡ k
Knows-lives numbers s rows same lives known k h = ap (λ (life : Life). slice_index numbers life.index) (lives k)
    ∙ known k (omega arith)

-- what the fields hold after the start
pub start_stored : (a b : Inside) (s : ScanValue) (i counter head : ℕ) → IsStored a → scan_of a ≡ s → i < length s.rows
    → s.next ≤ i
    → scan_of b ≡ with_started (scan_of a) i counter head → b.numbers.items ≡ a.numbers.items → HasRoom b → IsStored b
start_stored a b s i counter head stored is row rising now table there =
    let row_here : i < length a.rows.items = subst (λ (v : ScanValue). i < length v.rows) (sym is) row in
    let rising_here : a.next ≤ i = subst (λ (v : ScanValue). v.next ≤ i) (sym is) rising in
    let start = started_row (scan_of a) i counter head in
    record {
      scan = subst IsScan (sym now) (IsScan-with_started (scan_of a) i counter head stored.scan row_here rising_here);
      entries = ap length table ∙ stored.entries ∙ sym (ap (λ (v : ScanValue). v.nodes) now);
      known = subst (Knows b.numbers.items) (sym now) (subst (λ (numbers : List ℕ). Knows numbers
          (with_started (scan_of a) i counter head)) (sym table)
          (Knows-lives a.numbers.items (scan_of a) (set a.rows.items i start) (length-set a.rows.items i start)
          (told_written (λ (r : VertexRow). r.life) a.rows.items i start (new_row blank_life 0) refl) stored.known));
      room = there;
    }
