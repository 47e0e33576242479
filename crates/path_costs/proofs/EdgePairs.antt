-- The edges of a row that have a target are the pairs from its key.
use Rattle.std.proofs.Common.{◌≡◌, ◌≢◌, ℕ, zero, suc, ◌+◌, ◌-◌, ◌<◌, ◌≤◌, ◌==◌, ◌&&◌, Bool, true, false, cond, inl, inr}
use Rattle.std.proofs.Common.{List, [], ◌∷◌, length, get_or, find, option_map, Option, Some, None, is_some, refl, sym}
use Rattle.std.proofs.Common.{ap, ◌∙◌, arith}
use Rattle.std.proofs.lemmas.Bool.{eqb-true, eq-eqb, ne_eqb, cases_lt}
use Rattle.scan_record.specs.declared.rows.EdgeRow.{EdgeRow}
use Rattle.scan_record.specs.Scan.{ScanValue, IsScan, IsComplete, blank_edge, row_at, edge_at, edges_of}
use Rattle.scan_record.specs.ScanGraph.{leads_to, weight_to}
use Rattle.scan_record.proofs.Edges.{length-edges_of, get_or-edges_of}
use Rattle.scan_record.proofs.GraphOfScan.{weights_law}
use Rattle.path_costs.specs.Search.{key_of_row, HasPair}

fails_both : (b c : Bool) → c ≡ false → (b && c) ≡ false
fails_both true c e = e
fails_both false c e = refl

-- the edge at a place, where none before it has its key, has the weight that is found
weight_there : (edges : List EdgeRow) (j t : ℕ) → j < length edges → (get_or edges j blank_edge).target ≡ Some t →
    ((i : ℕ) → i < j → (get_or edges i blank_edge).key ≢ (get_or edges j blank_edge).key)
    → weight_to (get_or edges j blank_edge).key edges ≡ Some (get_or edges j blank_edge).weight
weight_there [] j t h e others = absurd (omega arith)
weight_there (edge ∷ edges) zero t h e others =
    let leads : leads_to edge.key edge ≡ true = ap (λ (o : Option ℕ). is_some o && (edge.key == edge.key)) e
    ∙ eq-eqb edge.key edge.key refl in
    ap (λ (b : Bool). option_map (λ (f : EdgeRow). f.weight) (cond b (Some edge) (find (leads_to edge.key) edges)))
    leads
weight_there (edge ∷ edges) (suc j) t h e others =
    let key : ℕ = (get_or edges j blank_edge).key in
    let passed : leads_to key edge ≡ false = fails_both (is_some edge.target) (edge.key == key)
    (ne_eqb edge.key key (others 0 (omega arith))) in
    ap (λ (b : Bool). option_map (λ (f : EdgeRow). f.weight) (cond b (Some edge) (find (leads_to key) edges))) passed
    ∙ weight_there edges j t (omega arith) e (λ i lt. others (suc i) (omega arith))

-- an edge of the list that leads to a key
record LeadsAt (edges : List EdgeRow) (b w : ℕ) : Type 0 where
  pub place : ℕ
  pub inside : place < length edges
  pub row : ℕ
  pub target : (get_or edges place blank_edge).target ≡ Some row
  pub key : (get_or edges place blank_edge).key ≡ b
  pub weight : (get_or edges place blank_edge).weight ≡ w

behind : (edge : EdgeRow) (edges : List EdgeRow) (b w : ℕ) → LeadsAt edges b w → LeadsAt (edge ∷ edges) b w
behind edge edges b w l = record {
  place = suc l.place;
  inside = omega
      (arith, l.inside);
  row = l.row;
  target = l.target;
  key = l.key;
  weight = l.weight;
}

found_at : (edges : List EdgeRow) (b w : ℕ) → weight_to b edges ≡ Some w → LeadsAt edges b w
found_at [] b w h = absurd (cc)
found_at (edge ∷ edges) b w h =
    elim edge.target as (λ o. edge.target ≡ o → option_map (λ (e : EdgeRow). e.weight)
    (cond (is_some o && (edge.key == b)) (Some edge) (find (leads_to b) edges)) ≡ Some w → LeadsAt
    (edge ∷ edges) b w) [
      | None ↦ λ _ f. behind edge edges b w (found_at edges b w f)
      | Some t ↦ λ is f. elim (edge.key == b) as (λ c. (edge.key == b) ≡ c → option_map (λ (e : EdgeRow). e.weight)
          (cond c (Some edge) (find (leads_to b) edges)) ≡ Some w → LeadsAt (edge ∷ edges) b w) [
            | true ↦ λ same g. record {
              place = 0;
              inside = omega arith;
              row = t;
              target = is;
              key = eqb-true edge.key b
                  same;
              weight = (cc);
            }
            | false ↦ λ _ g. behind edge edges b w (found_at edges b w g)
          ] refl f
    ] refl h

-- rows with the same key are one
pub same_row : (s : ScanValue) → IsComplete s → (j k : ℕ) → j < length s.rows → k < length s.rows
    → key_of_row s j ≡ key_of_row s k → j ≡ k
same_row s is j k g h e = elim (cases_lt j k) as (λ _. j ≡ k) [
  | inl lt ↦ absurd (is.keys_differ j k lt h e)
  | inr le ↦ elim (cases_lt k j) as (λ _. j ≡ k) [
    | inl lt ↦ absurd (is.keys_differ k j lt g (sym e))
    | inr ge ↦ omega (arith, le, ge)
  ]
]

-- an edge from a row, by its place
pub record IsEdge (s : ScanValue) (x y w : ℕ) : Type 0 where
  pub place : ℕ
  pub low : (row_at s x).first ≤ place
  pub high : place < (row_at s x).first + (row_at s x).count
  pub target : (edge_at s place).target ≡ Some y
  pub weight : (edge_at s place).weight ≡ w

module _ (s : ScanValue) (scan : IsScan s) (is : IsComplete s) (x : ℕ) (h : x < length s.rows) where
  pub within : (p : ℕ) → p < (row_at s x).first + (row_at s x).count → p < length s.edges
  within p high = let fits = scan.edges_end x h in omega arith

  at : (p : ℕ) → (row_at s x).first ≤ p → p < (row_at s x).first + (row_at s x).count → get_or (edges_of s (row_at s x))
      (p - (row_at s x).first) blank_edge ≡ edge_at s p
  at p low high =
      let back : (row_at s x).first + (p - (row_at s x).first) ≡ p = omega arith in
      get_or-edges_of s (row_at s x) (p - (row_at s x).first) (omega arith) ∙ ap (edge_at s) back

  -- an edge with a target is a pair
  pub edge_pair : (p t : ℕ) → (row_at s x).first ≤ p → p < (row_at s x).first + (row_at s x).count →
      (edge_at s p).target ≡ Some t → HasPair s x t (edge_at s p).weight
  edge_pair p t low high e =
      let edges : List EdgeRow = edges_of s (row_at s x) in
      let j : ℕ = p - (row_at s x).first in
      let here = at p low high in
      let inside : j < length edges = omega (arith, low, high, length-edges_of s x scan h) in
      let key : (get_or edges j blank_edge).key ≡ key_of_row s t = ap (λ (f : EdgeRow). f.key) here ∙ sym
      (is.target_keys p t (within p high) e) in
      weights_law s x (key_of_row s t) scan is h
      ∙ (ap (λ (k : ℕ). weight_to k edges) (sym key)
      ∙ (weight_there edges j t inside (ap (λ (f : EdgeRow). f.target) here ∙ e) earlier
      ∙ ap (λ (f : EdgeRow). Some f.weight) here))
    where
      earlier : (i : ℕ) → i < p - (row_at s x).first → (get_or (edges_of s (row_at s x)) i blank_edge).key ≢
          (get_or (edges_of s (row_at s x)) (p - (row_at s x).first) blank_edge).key
      earlier i lt same =
          let q : ℕ = (row_at s x).first + i in
          let there = get_or-edges_of s (row_at s x) i (omega (arith, lt, high)) in
          let less = scan.rising x q p h (omega arith) (omega (arith, lt)) high in
          absurd (omega (
            arith,
            less,
            ap (λ (f : EdgeRow). f.key) there,
            ap (λ (f : EdgeRow). f.key)
                (at p low high),
            same,
          ))

  -- a pair to the key of a row is an edge
  pub pair_edge : (y w : ℕ) → y < length s.rows → HasPair s x y w → IsEdge s x y w
  pair_edge y w k pair =
      let edges : List EdgeRow = edges_of s (row_at s x) in
      let l : LeadsAt edges (key_of_row s y) w = found_at edges (key_of_row s y) w
      (sym (weights_law s x (key_of_row s y) scan is h) ∙ pair) in
      let long = length-edges_of s x scan h in
      let p : ℕ = (row_at s x).first + l.place in
      let high : p < (row_at s x).first + (row_at s x).count = omega (arith, l.inside, long) in
      let here : get_or edges l.place blank_edge ≡ edge_at s p = get_or-edges_of s (row_at s x) l.place
      (omega (arith, l.inside, long)) in
      let target : (edge_at s p).target ≡ Some l.row = ap (λ (f : EdgeRow). f.target) (sym here) ∙ l.target in
      let key : key_of_row s l.row ≡ key_of_row s y = is.target_keys p l.row (within p high) target ∙
      (ap (λ (f : EdgeRow). f.key) (sym here) ∙ l.key) in
      let same : l.row ≡ y = same_row s is l.row y (scan.targets_are_rows p l.row (within p high) target) k key in
      record {
        place = p;
        low = omega arith;
        high = high;
        target = target ∙ ap (λ (r : ℕ). Some r) same;
        weight = ap
            (λ (f : EdgeRow). f.weight) (sym here) ∙ l.weight;
      }
