-- There is room in the scan for each vertex and each edge that collect comes to.
use Rattle.std.proofs.Common.{◌≡◌, ◌≢◌, ◌⊎◌, ℕ, zero, suc, ◌+◌, ◌-◌, ◌<◌, ◌≤◌, ◌==◌, Bool, true, false, cond, List, []}
use Rattle.std.proofs.Common.{◌∷◌, ◌++◌, length, get_or, Some, inl, inr, ⊎_elim, refl, sym, ap, ◌∙◌, subst, arith}
use Rattle.std.proofs.Common.{length-append, eqb-true}
use Rattle.std.proofs.lemmas.List.{get_or_append_left}
use mathlib.Core.Logic.{dite}
use native.Mathlib.Decide.{ℕ_discrete}
use Rattle.graph_kinds.specs.History.{Every}
use Rattle.packed_link.specs.Link.{index_of, nowhere}
use Rattle.packed_link.specs.Layout.{IsLayout}
use Rattle.packed_link.specs.declared.link.Life.{Life}
use Rattle.scan_record.specs.declared.rows.VertexRow.{VertexRow}
use Rattle.scan_record.specs.declared.rows.EdgeRow.{EdgeRow}
use Rattle.scan_record.specs.Scan.{ScanValue, IsScan, row_at, edge_at, edges_of, new_row, blank_life, blank_edge}
use Rattle.scan_record.proofs.Edges.{length-edges_of, get_or-edges_of}
use Rattle.scan_record.proofs.Places.{each_pushed}
use Rattle.core_journal.specs.declared.event.Event.{Event}
use Rattle.core_journal.specs.Life.{link_of}
use Rattle.core_journal.specs.Prefix.{IsPrefix}
use Rattle.core_journal.specs.Reuse.{pass_in}
use Rattle.core_journal.proofs.Lists.{prefix_refl, prefix_trans}
use Rattle.core_kept.specs.Kept.{IsKept, IsQuiet}
use Rattle.core_kept.specs.Nodes.{node_in}
use Rattle.core_rule.specs.Fronts.{MetVertex, key_in}
use Rattle.core_rule.specs.declared.view.View.{View}
use Rattle.core_lists.proofs.LinkTellsPresence.{link_there}
use Rattle.core_kept.proofs.Induction.{kept_front}
use Rattle.core_kept.proofs.MetWords.{still_met}
use Rattle.core_rule.proofs.ViewShows.{edge_shown}
use Rattle.core_scans.specs.Seen.{IsEdgeSeen}
use Rattle.core_scans.specs.Walking.{AreRowsMet, IsNextEdge, last_row, IsWithin}
use Rattle.core_scans.proofs.FrontsKeepLives.{some_is, link_on, every_at, get_at, less_by}
use Rattle.core_scans.proofs.RecordedOfWalk.{row_edges, open_edges}
use Rattle.core_scans.proofs.RowIsHeld.{same_pass}

-- numbers that differ and are all below m are at most m
pub injects : (n m : ℕ) (f : ℕ → ℕ) → ((k : ℕ) → k < n → f k < m) → ((j k : ℕ) → j < k → k < n → f j ≢ f k) → n ≤ m
injects zero m f below apart = omega arith
injects (suc n) zero f below apart = absurd (omega (arith, below 0 (omega arith)))
injects (suc n) (suc m) f below apart = omega (
  arith,
  injects n m (λ k. cond (f k == m) (f n) (f k))
      (λ k low. within k low (f k == m) refl) (λ j k less low. differ j k less low (f j == m) (f k == m) refl refl),
)
  where
    within : (k : ℕ) → k < n → (b : Bool) → (f k == m) ≡ b → cond b (f n) (f k) < m
    within k low true e =
        let at : f k ≡ m = eqb-true (f k) m e in
        let ne : f k ≢ f n = apart k n low (omega arith) in
        let top = below n (omega arith) in
        omega (arith, at, ne, top)
    within k low false e =
        let ne : f k ≢ m = λ h. no_eq (f k) m h e in
        omega (arith, below k (omega (arith, low)), ne)
      where
        no_eq : (x y : ℕ) → x ≡ y → (x == y) ≡ false → ⊥
        no_eq x y h g = grind arith

    differ : (j k : ℕ) → j < k → k < n → (a b : Bool) → (f j == m) ≡ a → (f k == m) ≡ b
        → cond a (f n) (f j) ≢ cond b (f n) (f k)
    differ j k less low true true x y h = apart j k less (omega (arith, low)) (eqb-true (f j) m x
        ∙ sym (eqb-true (f k) m y))
    differ j k less low true false x y h = apart k n low (omega arith) (sym h)
    differ j k less low false true x y h = apart j n (omega (arith, less, low)) (omega arith) h
    differ j k less low false false x y h = apart j k less (omega (arith, low)) h

-- a vertex of which no row has the index: there is room for its row
pub room_for_row : (v : View) (start : List Event) (s : ScanValue) (x : Life) → IsScan s → AreRowsMet v start s
    → MetVertex v x → ((k : ℕ) → k < length s.rows → (row_at s k).life.index ≢ x.index) → length s.rows < v.sizes.nodes
room_for_row v start s x is rows m none =
    let all : List VertexRow = s.rows ++ new_row x 0 ∷ [] in
    let n : length all ≡ length s.rows + 1 = length-append s.rows (new_row x 0 ∷ []) in
    let f : ℕ → ℕ = λ k. (get_or all k (new_row blank_life 0)).life.index in
    let below : (k : ℕ) → k < length all → f k < v.sizes.nodes = each_pushed
    (λ (k : ℕ) (r : VertexRow). r.life.index < v.sizes.nodes) s.rows (new_row x 0) (new_row blank_life 0)
    (λ k low. (rows k low).met.life.there) m.life.there in
    let apart : (k : ℕ) → k < length all → (j : ℕ) → j < k → (row_at s j).life.index ≢ f k = each_pushed
    (λ (k : ℕ) (r : VertexRow). (j : ℕ) → j < k → (row_at s j).life.index ≢ r.life.index) s.rows (new_row x 0)
    (new_row blank_life 0) (λ k low j less. is.indices_differ j k less low) (λ j less. none j less) in
    let old : (j : ℕ) → j < length s.rows → f j ≡ (row_at s j).life.index = λ j low. ap
    (λ (r : VertexRow). r.life.index) (get_or_append_left s.rows (new_row x 0 ∷ []) (new_row blank_life 0) j low) in
    let most = injects (length s.rows + 1) v.sizes.nodes f (λ k low. below k (omega (arith, n, low)))
    (λ j k less low h. apart k (omega (arith, n, low)) j less (sym (old j (omega (arith, less, low))) ∙ h)) in
    omega (arith, most)

-- where the caller made no event since the start of its pass, in which the scan was begun
module _ (v : View) (z : IsLayout v.sizes) (start : List Event) (s : ScanValue) (kept : IsKept v.sizes v.front)
    (quiet : IsQuiet v.front v.number (length start)) (open_ : (pass_in v.sizes start v.number).is_open ≡ true)
    (is : IsScan s) (at steps : ℕ) (h : IsWithin v start s at steps) where
  -- an edge row at a place: the row that it counts for, and what its node is now
  record IsAtPlace (p : ℕ) : Type 0 where
    pub row : ℕ
    pub low : row < length s.rows
    pub from : (row_at s row).first ≤ p
    pub to : p < (row_at s row).first + (row_at s row).count
    pub there : (edge_at s p).life.index < v.sizes.nodes
    pub life : (edge_at s p).life.tag ≡ (node_in v.sizes v.front (edge_at s p).life.index).tag
    pub link : Event
    pub is_link : link_of v.front (edge_at s p).life ≡ Some link
    pub source : link.source ≡ (row_at s row).life
    pub key : link.key ≡ (edge_at s p).key

  -- an edge that was seen is in its life still
  seen_now : (k p : ℕ) → k < length s.rows → (row_at s k).first ≤ p → p < (row_at s k).first + (row_at s k).count
      → (begin : List Event) → IsPrefix start begin → IsEdgeSeen v.sizes v.number s begin v.front (row_at s k).life
      (edge_at s p) → IsAtPlace p
  seen_now k p low from to begin after e =
      let there = link_there v.sizes e.moment (kept_front v.sizes e.moment v.front e.before kept) (edge_at s p).life
      e.link e.is in
      let start_m = prefix_trans start begin e.moment after e.after in
      let m = still_met v.sizes z e.moment v.front kept v.number (edge_at s p).life.index
      (same_pass v.sizes z v.number start v.front v.front s kept (prefix_refl v.front) quiet open_ e.moment v.front
      start_m e.before (prefix_refl v.front)) e.met in
      record {
        row = k;
        low = low;
        from = from;
        to = to;
        there = there;
        life = e.life
            ∙ sym m.1.tag;
        link = e.link;
        is_link = link_on e.moment v.front e.before (edge_at s p).life e.link e.is;
        source = e.from;
        key = e.key;
      }

  edge_of_row : (k p : ℕ) → k < length s.rows → (row_at s k).first ≤ p → p < (row_at s k).first + (row_at s k).count
      → (P : EdgeRow → Type 0) → Every P (edges_of s (row_at s k)) → P (edge_at s p)
  edge_of_row k p low from to P f =
      let n : ℕ = p - (row_at s k).first in
      let inside : n < (row_at s k).count = omega (arith, from, to) in
      let place : (row_at s k).first + n ≡ p = omega (arith, from) in
      let got = get_at (edges_of s (row_at s k)) n blank_edge (omega (arith, length-edges_of s k is low, inside)) in
      let here : edge_at s p ≡ get_or (edges_of s (row_at s k)) n blank_edge = ap (edge_at s) (sym place)
      ∙ sym (get_or-edges_of s (row_at s k) n inside) in
      subst P (sym here) (every_at P (edges_of s (row_at s k)) n (get_or (edges_of s (row_at s k)) n blank_edge) f got)

  at_place : (p : ℕ) → p < length s.edges → IsAtPlace p
  at_place p low =
      let r = is.held p low in
      let begun : r.0 < s.next = below_next r.0 r.1 (omega (arith, r.2, r.3)) in
      dite (ℕ_discrete r.0 (s.next - 1))
      (λ same.
      let inside : s.next - 1 < length s.rows = omega (arith, h.begun, h.some) in
      let from : (row_at s (s.next - 1)).first ≤ p = subst (λ (n : ℕ). (row_at s n).first ≤ p) same r.2 in
      let to : p < (row_at s (s.next - 1)).first + (row_at s (s.next - 1)).count = subst
      (λ (n : ℕ). p < (row_at s n).first + (row_at s n).count) same r.3 in
      seen_now (s.next - 1) p inside from to h.row.begin
      (prefix_trans start h.row.found h.row.begin h.row.after h.row.then)
      (edge_of_row (s.next - 1) p inside from to (IsEdgeSeen v.sizes v.number s h.row.begin v.front (last_row s).life)
      (open_edges v.sizes v.number s start v.front (last_row s) at steps h.row)))
      (λ ne.
      let q = h.seen r.0 (omega (arith, begun, ne)) in
      seen_now r.0 p r.1 r.2 r.3 q.begin (prefix_trans start q.found q.begin q.after q.then)
      (edge_of_row r.0 p r.1 r.2 r.3 (IsEdgeSeen v.sizes v.number s q.begin v.front (row_at s r.0).life)
      (row_edges v.sizes v.number s start v.front (row_at s r.0) q)))
    where
      below_next : (k : ℕ) → k < length s.rows → 0 < (row_at s k).count → k < s.next
      below_next k inside some = less_by k s.next (λ (from : s.next ≤ k).
          let none : (row_at s k).count ≡ 0 = ap (λ (r : VertexRow). r.count) (is.not_started k from inside) in
          omega (arith, some, none))

  -- two places of one node are of one life, one row and one key
  same_node : (p q : ℕ) (a : IsAtPlace p) (b : IsAtPlace q) → (edge_at s p).life.index ≡ (edge_at s q).life.index
      → ((row_at s a.row).life ≡ (row_at s b.row).life) × ((edge_at s p).key ≡ (edge_at s q).key)
  same_node p q a b same =
      let tag : (edge_at s p).life.tag ≡ (edge_at s q).life.tag = a.life
      ∙ (ap (λ (y : ℕ). (node_in v.sizes v.front y).tag) same ∙ sym b.life) in
      let one : (edge_at s p).life ≡ (edge_at s q).life = λ i. record { index = same i; tag = tag i } in
      let link : a.link ≡ b.link = some_is a.link b.link (sym a.is_link ∙ (ap (link_of v.front) one ∙ b.is_link)) in (
        sym a.source ∙ (ap (λ (e : Event). e.source) link ∙ b.source),
        sym a.key
            ∙ (ap (λ (e : Event). e.key) link ∙ b.key),
      )

  one_row : (j k : ℕ) → j < length s.rows → k < length s.rows → (row_at s j).life ≡ (row_at s k).life → j ≡ k
  one_row j k low_j low_k same = dite (ℕ_discrete j k) (λ e. e) (λ ne. absurd (⊎_elim
      (λ (lt : j < k). is.indices_differ j k lt low_k (ap (λ (x : Life). x.index) same))
      (λ (gt : k < j). is.indices_differ k j gt low_j (sym (ap (λ (x : Life). x.index) same))) (apart j k ne)))
    where
      apart : (x y : ℕ) → x ≢ y → (x < y) ⊎ (y < x)
      apart zero zero ne = absurd (ne refl)
      apart zero (suc y) ne = inl (omega arith)
      apart (suc x) zero ne = inr (omega arith)
      apart (suc x) (suc y) ne = ⊎_elim (λ (h : x < y). inl (omega arith)) (λ (h : y < x). inr (omega arith))
          (apart x y (λ h. ne (ap suc h)))

  edges_apart : (p q : ℕ) → p < q → q < length s.edges → (edge_at s p).life.index ≢ (edge_at s q).life.index
  edges_apart p q less low same =
      let a = at_place p (omega arith) in
      let b = at_place q low in
      let r = same_node p q a b same in
      let row : a.row ≡ b.row = one_row a.row b.row a.low b.low r.0 in
      let to : q < (row_at s a.row).first + (row_at s a.row).count = subst
      (λ (n : ℕ). q < (row_at s n).first + (row_at s n).count) (sym row) b.to in
      omega (arith, is.rising a.row p q a.low a.from less to, r.1)

  -- the next edge is of no recorded node
  module _ (n : IsNextEdge v (last_row s).life (edges_of s (last_row s)) (index_of at)) where
    new_apart : (p : ℕ) → p < length s.edges → (edge_at s p).life.index ≢ n.life.index
    new_apart p low same =
        let a = at_place p low in
        let shown = edge_shown v z kept (last_row s).life n.life n.met in
        let tag : (edge_at s p).life.tag ≡ n.life.tag = a.life ∙ (ap (λ (y : ℕ). (node_in v.sizes v.front y).tag) same
        ∙ sym n.met.life.tag) in
        let one : (edge_at s p).life ≡ n.life = λ i. record { index = same i; tag = tag i } in
        let link : a.link ≡ shown.link = some_is a.link shown.link (sym a.is_link
        ∙ (ap (link_of v.front) one ∙ shown.is)) in
        let inside : s.next - 1 < length s.rows = omega (arith, h.begun, h.some) in
        let row : a.row ≡ s.next - 1 = one_row a.row (s.next - 1) a.low inside
        (sym a.source ∙ (ap (λ (e : Event). e.source) link ∙ shown.from)) in
        let key : (edge_at s p).key ≡ key_in v n.life.index = sym a.key
        ∙ (ap (λ (e : Event). e.key) link ∙ shown.key) in
        let from : (row_at s (s.next - 1)).first ≤ p = subst (λ (m : ℕ). (row_at s m).first ≤ p) row a.from in
        let to : p < (row_at s (s.next - 1)).first + (row_at s (s.next - 1)).count = subst
        (λ (m : ℕ). p < (row_at s m).first + (row_at s m).count) row a.to in
        let low_key : (edge_at s p).key < key_in v (index_of at) = edge_of_row (s.next - 1) p inside from to
        (λ (e : EdgeRow). e.key < key_in v (index_of at)) n.above in
        let same_key : key_in v n.life.index ≡ key_in v (index_of at) = ap (key_in v) n.is in
        omega (arith, low_key, key, same_key)

    room : length s.edges < v.sizes.nodes
    room =
        let more : EdgeRow = record blank_edge { life = n.life } in
        let all : List EdgeRow = s.edges ++ more ∷ [] in
        let long : length all ≡ length s.edges + 1 = length-append s.edges (more ∷ []) in
        let f : ℕ → ℕ = λ k. (get_or all k blank_edge).life.index in
        let below : (k : ℕ) → k < length all → f k < v.sizes.nodes = each_pushed
        (λ (k : ℕ) (e : EdgeRow). e.life.index < v.sizes.nodes) s.edges more blank_edge
        (λ k low. (at_place k low).there) n.met.life.there in
        let apart : (k : ℕ) → k < length all → (j : ℕ) → j < k → (edge_at s j).life.index ≢ f k = each_pushed
        (λ (k : ℕ) (e : EdgeRow). (j : ℕ) → j < k → (edge_at s j).life.index ≢ e.life.index) s.edges more blank_edge
        (λ k low j less. edges_apart j k less low) (λ j less. new_apart j less) in
        let old : (j : ℕ) → j < length s.edges → f j ≡ (edge_at s j).life.index = λ j low. ap
        (λ (e : EdgeRow). e.life.index) (get_or_append_left s.edges (more ∷ []) blank_edge j low) in
        let most = injects (length s.edges + 1) v.sizes.nodes f (λ k low. below k (omega (arith, long, low)))
        (λ j k less low g. apart k (omega (arith, long, low)) j less (sym (old j (omega (arith, less, low))) ∙ g)) in
        omega (arith, most)

  pub room_for_edge : index_of at ≢ nowhere → length s.edges < v.sizes.nodes
  room_for_edge some = ⊎_elim (λ (none : index_of at ≡ nowhere). absurd (some none))
      (λ (n : IsNextEdge v (last_row s).life (edges_of s (last_row s)) (index_of at)). room n) h.onward
