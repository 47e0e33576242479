-- A scan stays one where an edge is pushed to the row started last.
use Rattle.std.proofs.Common.{◌≡◌, ◌≢◌, ℕ, ◌+◌, ◌-◌, ◌<◌, ◌≤◌, ◌^◌, List, [], ◌∷◌, ◌++◌, length, get_or, drop, refl}
use Rattle.std.proofs.Common.{sym, ap, subst, inl, inr, arith, ◌∙◌}
use Rattle.std.proofs.Math.ListN.{set, length-set}
use Rattle.std.specs.Prelude.{All, Some, None, Option}
use Rattle.std.specs.Option.{ForSome}
use Rattle.std.proofs.lemmas.Bool.{cases_eq, cases_lt}
use Rattle.std.proofs.lemmas.List.{get_or-set_same, get_or-set_other, get_or_append_left, get_or_push, length_push}
use Rattle.std.proofs.lemmas.List.{length-take-le, length-drop, get_or-take, get_or-drop}
use Rattle.std.proofs.lemmas.List.Elements.{All-get_or}
use Rattle.scan_record.specs.declared.rows.VertexRow.{VertexRow}
use Rattle.scan_record.specs.declared.rows.EdgeRow.{EdgeRow}
use Rattle.scan_record.specs.declared.scan.Scan.TheInside.{Inside}
use Rattle.scan_record.specs.Scan.{ScanValue, IsScan, row_at, edge_at, edges_of, last_edges, new_row, blank_life}
use Rattle.scan_record.specs.Scan.{blank_edge, with_edge}
use Rattle.scan_record.specs.Storage.{scan_of, Knows, HasRoom, IsStored}
use Rattle.scan_record.proofs.Places.{each_pushed, each_written, told_written}
use Rattle.scan_record.proofs.Starts.{Knows-lives}

-- how many edges a row has, and which they are
pub length-edges_of : (s : ScanValue) (k : ℕ) → IsScan s → k < length s.rows → length (edges_of s (row_at s k)) ≡
    (row_at s k).count
length-edges_of s k is h =
    let end : (row_at s k).first + (row_at s k).count ≤ length s.edges = is.edges_end k h in
    length-take-le (row_at s k).count (drop (row_at s k).first s.edges)
    (omega (arith, length-drop (row_at s k).first s.edges, end))

pub get_or-edges_of : (s : ScanValue) (row : VertexRow) (n : ℕ) → n < row.count → get_or
    (edges_of s row) n blank_edge ≡ edge_at s (row.first + n)
get_or-edges_of s row n h = get_or-take row.count (drop row.first s.edges) n blank_edge h
    ∙ get_or-drop row.first s.edges n blank_edge

-- what all edges of a row meet, each meets at its place
pub all_places : (P : EdgeRow → Type 0) (s : ScanValue) (k : ℕ) → IsScan s → k < length s.rows → All P
    (edges_of s (row_at s k)) → (p : ℕ) → (row_at s k).first ≤ p → p < (row_at s k).first + (row_at s k).count → P
    (edge_at s p)
all_places P s k is h all p from to =
    let n : ℕ = p - (row_at s k).first in
    let inside : n < (row_at s k).count = omega arith in
    let place : (row_at s k).first + n ≡ p = omega arith in
    subst (λ (q : ℕ). P (edge_at s q)) place (subst P (get_or-edges_of s (row_at s k) n inside)
    (All-get_or P (edges_of s (row_at s k)) n blank_edge (rw (length-edges_of s k is h) inside) all))

-- the row started last as it is after the push
abbrev pub longer_row : ScanValue → VertexRow
longer_row s = record (row_at s (s.next - 1)) { count = (row_at s (s.next - 1)).count + 1 }

target_row : (target : Option ℕ) (n t : ℕ) → ForSome target (λ row. row < n) → target ≡ Some t → t < n
target_row None n t h e = absurd (cc)
target_row (Some u) n t h e = let same : u ≡ t = cc in let inside : u < n = h u refl in omega arith

pub IsScan-with_edge : (s : ScanValue) (edge : EdgeRow) → IsScan s → length s.edges < s.nodes → 0 < s.next
    → 1 ≤ edge.weight → ForSome edge.target (λ row. row < length s.rows) → All (λ e. e.key < edge.key) (last_edges s)
    → edge.key < 2 ^ 32 → edge.weight < 2 ^ 32 → IsScan (with_edge s edge)
IsScan-with_edge s edge is room some weighed target rising key_fits weight_fits =
    let i : ℕ = s.next - 1 in
    let inside : i < length s.rows = omega (arith, is.started_are_rows) in
    let row = longer_row s in
    let lives = told_written (λ (r : VertexRow). r.life) s.rows i row (new_row blank_life 0) refl in
    let keys = told_written (λ (r : VertexRow). r.key) s.rows i row (new_row blank_life 0) refl in
    let firsts = told_written (λ (r : VertexRow). r.first) s.rows i row (new_row blank_life 0) refl in
    let same : length (set s.rows i row) ≡ length s.rows = length-set s.rows i row in
    let more : length (s.edges ++ edge ∷ []) ≡ length s.edges + 1 = length_push s.edges edge in
    let here : row_at (with_edge s edge) i ≡ row = get_or-set_same s.rows i row (new_row blank_life 0) inside in
    let there : (k : ℕ) → k ≢ i → row_at (with_edge s edge) k ≡ row_at s k = λ k other. get_or-set_other s.rows i k row
    (new_row blank_life 0) other in
    let old_edge : (p : ℕ) → p < length s.edges → edge_at (with_edge s edge) p ≡ edge_at s p = λ p h. get_or_append_left
    s.edges (edge ∷ []) blank_edge p h in
    let none_past : (k : ℕ) → s.next ≤ k → k < length s.rows → (row_at s k).count ≡ 0 = λ k past h. ap
    (λ (r : VertexRow). r.count) (is.not_started k past h) in
    let ends : (row_at s i).first + (row_at s i).count ≡ length s.edges = is.last_ends some in
    let written = λ (P : ℕ → VertexRow → Type 0) (others : (k : ℕ) → k < length s.rows → k ≢ i → P k (row_at s k))
    (this : P i row).
    each_written P s.rows i row (new_row blank_life 0) inside others this in
    let pushed = λ (P : ℕ → EdgeRow → Type 0) (olds : (p : ℕ) → p < length s.edges → P p (edge_at s p))
    (this : P (length s.edges) edge).
    each_pushed P s.edges edge blank_edge olds this in
    record {
      few_nodes = is.few_nodes;
      rows_fit = omega (arith, is.rows_fit);
      edges_fit = omega arith;
      keys_fit = is.keys_fit;
      ends_fit = is.ends_fit;
      costs_of_rows = is.costs_of_rows ∙ sym same;
      slot_zero_of_rows = is.slot_zero_of_rows ∙ sym same;
      slot_one_of_rows = is.slot_one_of_rows ∙ sym same;
      slot_two_of_rows = is.slot_two_of_rows ∙ sym same;
      index_fits = λ k h. rw (lives k) (is.index_fits k (omega arith));
      indices_differ = λ j k lt h. rw (lives j, lives k) (is.indices_differ j k lt (omega arith));
      key_fits = λ k h. rw (keys k) (is.key_fits k (omega arith));
      started_in_order = is.started_in_order;
      started_are_rows = omega (arith, is.started_are_rows);
      not_started = λ k past h. rw (there k (omega arith)) (is.not_started k past (omega arith));
      edges_end = written (λ k r. r.first + r.count ≤ length (s.edges ++ edge ∷ []))
          (λ k h _. let e = is.edges_end k h in omega arith) (omega arith);
      last_ends = λ _. rw here (omega arith);
      apart = λ j k lt h more_than_none. written (λ n r. j < n → 0 < r.count → (row_at (with_edge s edge) j).first +
          (row_at (with_edge s edge) j).count ≤ r.first)
          (λ n within other l c. elim (cases_eq j i) as (λ _. (row_at (with_edge s edge) j).first +
          (row_at (with_edge s edge) j).count ≤ (row_at s n).first) [
            | inl this ↦ let none : (row_at s n).count ≡ 0 = none_past n (omega arith) within in absurd (omega arith)
            | inr apart ↦ rw (there j apart) (is.apart j n l within c)
          ])
          (λ l c. rw (there j (omega arith)) (elim (cases_lt 0 (row_at s i).count) as
          (λ _. (row_at s j).first + (row_at s j).count ≤ (row_at s i).first) [
            | inl held ↦ is.apart j i l inside held
            | inr none ↦ let before = is.edges_end j (omega arith) in omega arith
          ])) k h lt more_than_none;
      held = λ p h. elim (cases_lt p (length s.edges)) as (λ _. (k : ℕ) × (k < length (set s.rows i row)) ×
          ((row_at (with_edge s edge) k).first ≤ p) × (p < (row_at (with_edge s edge) k).first +
          (row_at (with_edge s edge) k).count)) [
            | inl before ↦ let r = is.held p before in
                elim (cases_eq r.0 i) as (λ _. (k : ℕ) × (k < length (set s.rows i row)) ×
                ((row_at (with_edge s edge) k).first ≤ p) × (p < (row_at (with_edge s edge) k).first +
                (row_at (with_edge s edge) k).count)) [
                  | inl this ↦
                      let start : (row_at s i).first ≤ p = subst (λ (n : ℕ). (row_at s n).first ≤ p) this r.2 in
                      let end : p < (row_at s i).first + (row_at s i).count = subst
                      (λ (n : ℕ). p < (row_at s n).first + (row_at s n).count) this r.3 in (
                        i,
                        omega arith,
                        subst (λ (v : VertexRow). v.first ≤ p) (sym here) start,
                        subst
                            (λ (v : VertexRow). p < v.first + v.count) (sym here) (omega arith),
                      )
                  | inr other ↦ (
                    r.0,
                    omega (arith, r.1),
                    subst (λ (v : VertexRow). v.first ≤ p) (sym (there r.0 other)) r.2,
                    subst
                        (λ (v : VertexRow). p < v.first + v.count) (sym (there r.0 other)) r.3,
                  )
                ]
            | inr past ↦ (
              i,
              omega arith,
              subst (λ (v : VertexRow). v.first ≤ p) (sym here) (omega arith),
              subst
                  (λ (v : VertexRow). p < v.first + v.count) (sym here) (omega arith),
            )
          ];
      rising = λ k p q h start lt end. written (λ n r. r.first ≤ p → q < r.first + r.count →
          (edge_at (with_edge s edge) p).key < (edge_at (with_edge s edge) q).key)
          (λ n within _ f t. let e = is.edges_end n within in rw (old_edge p (omega arith), old_edge q (omega arith))
          (is.rising n p q within f lt t))
          (λ f t. elim (cases_lt q (length s.edges)) as (λ _. (edge_at (with_edge s edge) p).key <
          (edge_at (with_edge s edge) q).key) [
            | inl before ↦ rw (old_edge p (omega arith), old_edge q before) (is.rising i p q inside f lt (omega arith))
            | inr past ↦
                let last : length s.edges ≡ q = omega arith in
                let new : edge_at (with_edge s edge) q ≡ edge = get_or_push s.edges edge blank_edge q last in
                rw (old_edge p (omega arith), new) (all_places (λ e. e.key < edge.key) s i is inside rising p f
                (omega arith))
          ]) k h start end;
      edge_key_fits = pushed (λ p e. e.key < 2 ^ 32) is.edge_key_fits key_fits;
      weighed = pushed (λ p e. 1 ≤ e.weight) is.weighed weighed;
      weight_fits = pushed (λ p e. e.weight < 2 ^ 32) is.weight_fits weight_fits;
      targets_are_rows = λ p t h e. subst (λ (n : ℕ). t < n) (sym same)
          (pushed (λ n v. v.target ≡ Some t → t < length s.rows) (λ n within to. is.targets_are_rows n t within to)
          (λ to. target_row edge.target (length s.rows) t target to) p h e);
    }

-- what the fields hold after the push
pub edge_stored : (a b : Inside) (s : ScanValue) (edge : EdgeRow) → IsStored a → scan_of a ≡ s
    → length s.edges < s.nodes → 0 < s.next → 1 ≤ edge.weight → ForSome edge.target (λ row. row < length s.rows) → All
    (λ e. e.key < edge.key) (last_edges s) → edge.key < 2 ^ 32 → edge.weight < 2 ^ 32
    → scan_of b ≡ with_edge (scan_of a) edge → b.numbers.items ≡ a.numbers.items → HasRoom b → IsStored b
edge_stored a b s edge stored is room some weighed target rising key_fits weight_fits now table there =
    let one : IsScan s = subst IsScan is stored.scan in
    let i : ℕ = a.next - 1 in
    let row = longer_row (scan_of a) in
    record {
      scan = subst IsScan (ap (λ (v : ScanValue). with_edge v edge) (sym is) ∙ sym now)
          (IsScan-with_edge s edge one room some weighed target rising key_fits weight_fits);
      entries = ap length table ∙ stored.entries ∙ sym (ap (λ (v : ScanValue). v.nodes) now);
      known = subst (Knows b.numbers.items) (sym now) (subst (λ (numbers : List ℕ). Knows numbers
          (with_edge (scan_of a) edge)) (sym table)
          (Knows-lives a.numbers.items (scan_of a) (set a.rows.items i row) (length-set a.rows.items i row)
          (told_written (λ (r : VertexRow). r.life) a.rows.items i row (new_row blank_life 0) refl) stored.known));
      room = there;
    }
