-- What the graph of a scan answers, by the rows and edges of the scan.
use Rattle.std.proofs.Common.{◌≡◌, ◌≢◌, ℕ, zero, suc, ◌+◌, ◌<◌, ◌==◌, true, false, cond, ◌||◌, ◌&&◌, List, [], ◌∷◌}
use Rattle.std.proofs.Common.{◌++◌, length, get_or, map, filter_map, Option, Some, None, is_some, inl, inr, refl, sym}
use Rattle.std.proofs.Common.{ap, subst, arith, ◌∙◌}
use Rattle.std.specs.Prelude.{All, find, flat_map, option_map}
use Rattle.std.specs.List.{AllPairs, list_any, cons_option}
use Rattle.std.specs.declared.cmp.Ordering.{Ordering}
use Rattle.std.specs.declared.cmp.Ordering.TheVariants.{Less, Equal, Greater}
use Rattle.std.specs.Ordering.{nat_cmp, eq_by_cmp, ordering_then, is_eq}
use Rattle.std.specs.Cmp.{IsTotalOrder, then_total, on_total, nat_cmp_total, unsigned_tied}
use Rattle.std.specs.FinMap as finmap
use Rattle.std.specs.FinMap.Entries as entry
use Rattle.std.specs.FinSet as set
use Rattle.std.proofs.lemmas.Bool.{cases_eq, cases_lt, ne_eqb}
use Rattle.std.proofs.lemmas.List.{get_or_default}
use Rattle.std.proofs.lemmas.List.Elements.{All-nil, All-cons, All-head, All-tail, All-weaker, All-append}
use Rattle.std.proofs.lemmas.List.Elements.{All-from_get_or}
use Rattle.graph_kinds.specs.Graph.{Graph, pair_cmp, has, weight_of, neighbours}
use Rattle.graph_kinds.specs.Levels.{stands_in}
use Rattle.graph_kinds.proofs.PathsLists.{In, stands, in_standing}
use Rattle.graph_kinds.proofs.PathsPairs.{IsAscending, neighbours_rise, same_rising}
use Rattle.scan_record.specs.declared.rows.VertexRow.{VertexRow}
use Rattle.scan_record.specs.declared.rows.EdgeRow.{EdgeRow}
use Rattle.scan_record.specs.Scan.{ScanValue, IsScan, IsComplete, row_at, edge_at, edges_of, new_row, blank_life}
use Rattle.scan_record.specs.Scan.{blank_edge}
use Rattle.scan_record.specs.ScanGraph.{pair_of, pairs_of, graph_of_scan, target_keys, leads_to, weight_to}
use Rattle.scan_record.proofs.Edges.{length-edges_of, get_or-edges_of}
use Rattle.scan_record.proofs.FoundItems.{any_map, itself}

-- what is true at each place of a row is true of all its edges
pub all_edges : (P : EdgeRow → Type 0) (s : ScanValue) (k : ℕ) → IsScan s → k < length s.rows →
    ((p : ℕ) → p < length s.edges → P (edge_at s p)) → All P (edges_of s (row_at s k))
all_edges P s k is h at =
    let end = is.edges_end k h in
    let long : length (edges_of s (row_at s k)) ≡ (row_at s k).count = length-edges_of s k is h in
    All-from_get_or P (edges_of s (row_at s k)) blank_edge (λ n l.
    let inside : n < (row_at s k).count = omega arith in
    subst P (sym (get_or-edges_of s (row_at s k) n inside)) (at ((row_at s k).first + n) (omega arith)))

-- the edges of a row stand by rising key
pub edges_climb : (s : ScanValue) (k : ℕ) → IsScan s → k < length s.rows → AllPairs (λ e f. e.key < f.key)
    (edges_of s (row_at s k))
edges_climb s k is h i j d lt l =
    let row = row_at s k in
    let edges = edges_of s row in
    let long : length edges ≡ row.count = length-edges_of s k is h in
    let at : (n : ℕ) → n < length edges → get_or edges n d ≡ edge_at s (row.first + n) = λ n inside.
    get_or_default edges n d blank_edge inside ∙ get_or-edges_of s row n (omega arith) in
    rw (at i (omega arith), at j l) (is.rising k (row.first + i) (row.first + j) h (omega arith) (omega arith)
    (omega arith))

-- pairs tie where both keys are equal
pub pair_total : IsTotalOrder pair_cmp
pair_total = then_total (on_total (λ (p : ℕ × ℕ). p.0) nat_cmp_total) (on_total (λ (p : ℕ × ℕ). p.1) nat_cmp_total)

pair_tied : (a b c d : ℕ) → eq_by_cmp pair_cmp (a, b) (c, d) ≡ ((a == c) && (b == d))
pair_tied a b c d = by (nat_cmp a c) (nat_cmp b d) ∙ (λ i. unsigned_tied a c i && unsigned_tied b d i)
  where
    by : (r s : Ordering) → is_eq (ordering_then r s) ≡ (is_eq r && is_eq s)
    by Less s = refl
    by Equal s = refl
    by Greater s = refl

turned : (x y : ℕ) → (x == y) ≡ (y == x)
turned x y = elim (cases_eq x y) as (λ _. (x == y) ≡ (y == x)) [
  | inl same ↦ ap (λ (n : ℕ). n == y) same ∙ ap (λ (n : ℕ). y == n) (sym same)
  | inr other ↦ ne_eqb x y other ∙ sym (ne_eqb y x (λ e. other (sym e)))
]

tied_second : (a b y : ℕ) → eq_by_cmp pair_cmp (a, b) (a, y) ≡ (y == b)
tied_second a b y = pair_tied a b a y ∙ ap (λ c. c && (b == y)) (itself a) ∙ turned b y

tied_apart : (a b : ℕ) (p : ℕ × ℕ) → p.0 ≢ a → eq_by_cmp pair_cmp (a, b) p ≡ false
tied_apart a b p apart = pair_tied a b p.0 p.1 ∙ ap (λ c. c && (b == p.1)) (ne_eqb a p.0 (λ e. apart (sym e)))

-- entries of another first key are passed over
pub look_none : (a b : ℕ) (es : List ((ℕ × ℕ) × ℕ)) → All (λ e. e.0.0 ≢ a) es → entry.find pair_cmp (a, b) es ≡ None
look_none a b [] all = refl
look_none a b (e ∷ es) all = ap (λ c. cond c (Some e.1) (entry.find pair_cmp (a, b) es))
    (tied_apart a b e.0 (All-head (λ e. e.0.0 ≢ a) e es all)) ∙ look_none a b es (All-tail (λ e. e.0.0 ≢ a) e es all)

look_past : (a b : ℕ) (es rest : List ((ℕ × ℕ) × ℕ)) → All (λ e. e.0.0 ≢ a) es → entry.find pair_cmp (a, b)
    (es ++ rest) ≡ entry.find pair_cmp (a, b) rest
look_past a b [] rest all = refl
look_past a b (e ∷ es) rest all = ap (λ c. cond c (Some e.1) (entry.find pair_cmp (a, b) (es ++ rest)))
    (tied_apart a b e.0 (All-head (λ e. e.0.0 ≢ a) e es all)) ∙ look_past a b es rest
    (All-tail (λ e. e.0.0 ≢ a) e es all)

look_within : (a b : ℕ) (es rest : List ((ℕ × ℕ) × ℕ)) → All (λ e. e.0.0 ≢ a) rest → entry.find pair_cmp (a, b)
    (es ++ rest) ≡ entry.find pair_cmp (a, b) es
look_within a b [] rest all = look_none a b rest all
look_within a b (e ∷ es) rest all = ap (λ o. cond (eq_by_cmp pair_cmp (a, b) e.0) (Some e.1) o)
    (look_within a b es rest all)

-- the pairs of a row lead from its key
pairs_from : (s : ScanValue) (from : ℕ) (edges : List EdgeRow) → All (λ e. e.0.0 ≡ from)
    (filter_map (pair_of s from) edges)
pairs_from s from [] = All-nil (λ e. e.0.0 ≡ from)
pairs_from s from (edge ∷ edges) =
    elim edge.target as (λ o. All (λ e. e.0.0 ≡ from) (cons_option
    (option_map (λ t. ((from, (row_at s t).key), edge.weight)) o) (filter_map (pair_of s from) edges))) [
      | None ↦ pairs_from s from edges
      | Some t ↦ All-cons (λ e. e.0.0 ≡ from) ((from, (row_at s t).key), edge.weight)
          (filter_map (pair_of s from) edges) refl (pairs_from s from edges)
    ]

pairs_apart : (s : ScanValue) (a : ℕ) (row : VertexRow) → row.key ≢ a → All (λ e. e.0.0 ≢ a) (pairs_of s row)
pairs_apart s a row apart = All-weaker (λ e. e.0.0 ≡ row.key) (λ e. e.0.0 ≢ a) (λ e same at. apart (sym same ∙ at))
    (pairs_of s row) (pairs_from s row.key (edges_of s row))

pub all_apart : (s : ScanValue) (a : ℕ) (rows : List VertexRow) → All (λ row. row.key ≢ a) rows → All (λ e. e.0.0 ≢ a)
    (flat_map (pairs_of s) rows)
all_apart s a [] all = All-nil (λ e. e.0.0 ≢ a)
all_apart s a (row ∷ rows) all = All-append (λ e. e.0.0 ≢ a) (pairs_of s row) (flat_map (pairs_of s) rows)
    (pairs_apart s a row (All-head (λ row. row.key ≢ a) row rows all))
    (all_apart s a rows (All-tail (λ row. row.key ≢ a) row rows all))

-- the one row of a key has all pairs from it
one_row : (s : ScanValue) (a b : ℕ) (d : VertexRow) (rows : List VertexRow) (k : ℕ) → k < length rows →
    (get_or rows k d).key ≡ a → ((j : ℕ) → j < length rows → j ≢ k → (get_or rows j d).key ≢ a)
    → entry.find pair_cmp (a, b) (flat_map (pairs_of s) rows) ≡ entry.find pair_cmp (a, b)
    (pairs_of s (get_or rows k d))
one_row s a b d [] k h same others = absurd (omega arith)
one_row s a b d (row ∷ rows) zero h same others =
    look_within a b (pairs_of s row) (flat_map (pairs_of s) rows)
    (all_apart s a rows (All-from_get_or (λ row. row.key ≢ a) rows d
    (λ j l. others (suc j) (omega arith) (λ e. absurd (omega arith)))))
one_row s a b d (row ∷ rows) (suc k) h same others =
    look_past a b (pairs_of s row) (flat_map (pairs_of s) rows)
    (pairs_apart s a row (others zero (omega arith) (λ e. absurd (omega arith))))
    ∙ one_row s a b d rows k (omega arith) same (λ j l apart. others (suc j) (omega arith) (λ e. apart (omega arith)))

-- an edge's target has the edge's key
abbrev pub LeadsToKey : ScanValue → EdgeRow → Type 0
LeadsToKey s edge = (t : ℕ) → edge.target ≡ Some t → (row_at s t).key ≡ edge.key

weight_pairs : (s : ScanValue) (a b : ℕ) (edges : List EdgeRow) → All (LeadsToKey s) edges → entry.find pair_cmp (a, b)
    (filter_map (pair_of s a) edges) ≡ weight_to b edges
weight_pairs s a b [] all = refl
weight_pairs s a b (edge ∷ edges) all =
    let later = weight_pairs s a b edges (All-tail (LeadsToKey s) edge edges all) in
    elim edge.target as (λ o. edge.target ≡ o
    → entry.find pair_cmp (a, b) (cons_option (option_map (λ t. ((a, (row_at s t).key), edge.weight)) o)
    (filter_map (pair_of s a) edges))
    ≡ option_map (λ e. e.weight) (cond (is_some o && (edge.key == b)) (Some edge) (find (leads_to b) edges))) [
      | None ↦ λ _. later
      | Some t ↦ λ is.
          let same : (row_at s t).key ≡ edge.key = All-head (LeadsToKey s) edge edges all t is in
          ap (λ c. cond c (Some edge.weight) (entry.find pair_cmp (a, b) (filter_map (pair_of s a) edges)))
          (tied_second a b (row_at s t).key ∙ ap (λ (n : ℕ). n == b) same)
          ∙ elim (edge.key == b) as (λ c. cond c (Some edge.weight)
          (entry.find pair_cmp (a, b) (filter_map (pair_of s a) edges)) ≡ option_map (λ e. e.weight)
          (cond c (Some edge) (find (leads_to b) edges))) [
            | true ↦ refl
            | false ↦ later
          ]
    ] refl

-- what a row of the scan tells of its key
pub weights_law : (s : ScanValue) (k key : ℕ) → IsScan s → IsComplete s → k < length s.rows → weight_of
    (graph_of_scan s) (row_at s k).key key ≡ weight_to key (edges_of s (row_at s k))
weights_law s k key is full h =
    let a : ℕ = (row_at s k).key in
    finmap.get-from_entries pair_total (flat_map (pairs_of s) s.rows) (a, key)
    ∙ one_row s a key (new_row blank_life 0) s.rows k h refl (λ j l other.
    elim (cases_lt j k) as (λ _. (row_at s j).key ≢ (row_at s k).key) [
      | inl before ↦ full.keys_differ j k before h
      | inr after ↦ λ e. full.keys_differ k j (omega arith) l (sym e)
    ])
    ∙ weight_pairs s a key (edges_of s (row_at s k)) (all_edges (LeadsToKey s) s k is h
    (λ p l t e. full.target_keys p t l e))

pub keys_law : (s : ScanValue) (key : ℕ) → has (graph_of_scan s) key ≡ list_any (λ row. row.key == key) s.rows
keys_law s key = set.contains-from_list_nat (map (λ row. row.key) s.rows) key ∙ any_map (λ (row : VertexRow). row.key)
    (λ y. y == key) s.rows

leads_standing : (b : ℕ) (edges : List EdgeRow) → is_some (weight_to b edges) ≡ stands_in (target_keys edges) b
leads_standing b [] = refl
leads_standing b (edge ∷ edges) =
    let later = leads_standing b edges in
    elim edge.target as (λ o. is_some (option_map (λ (e : EdgeRow). e.weight)
    (cond (is_some o && (edge.key == b)) (Some edge) (find (leads_to b) edges)))
    ≡ stands_in (cons_option (option_map (λ _. edge.key) o) (target_keys edges)) b) [
      | None ↦ later
      | Some t ↦ elim (edge.key == b) as (λ c. is_some (option_map (λ (e : EdgeRow). e.weight)
          (cond c (Some edge) (find (leads_to b) edges))) ≡ (c || stands_in (target_keys edges) b)) [
            | true ↦ refl
            | false ↦ later
          ]
    ]

targets_above : (x z : ℕ) (edges : List EdgeRow) → All (λ e. x < e.key) edges → In z (target_keys edges) → x < z
targets_above x z [] all h = absurd h
targets_above x z (edge ∷ edges) all h =
    let later = targets_above x z edges (All-tail (λ e. x < e.key) edge edges all) in
    elim edge.target as (λ o. In z (cons_option (option_map (λ _. edge.key) o) (target_keys edges)) → x < z) [
      | None ↦ later
      | Some t ↦ λ k. elim k as (λ _. x < z) [
        | inl e ↦ subst (λ (n : ℕ). x < n) e (All-head (λ e. x < e.key) edge edges all)
        | inr l ↦ later l
      ]
    ] h

targets_rise : (edges : List EdgeRow) → AllPairs (λ e f. e.key < f.key) edges → IsAscending (target_keys edges)
targets_rise [] chain = tt
targets_rise (edge ∷ edges) chain =
    let first : All (λ e. edge.key < e.key) edges = λ k d h. chain zero (suc k) d (omega arith) (omega arith) in
    let later = targets_rise edges (λ i j d lt h. chain (suc i) (suc j) d (omega arith) (omega arith)) in
    elim edge.target as (λ o. IsAscending (cons_option (option_map (λ _. edge.key) o) (target_keys edges))) [
      | None ↦ later
      | Some t ↦ ((λ z h. targets_above edge.key z edges first h), later)
    ]

pub neighbours_law : ((g : Graph) (x y : ℕ) → stands_in (neighbours g x) y ≡ is_some (weight_of g x y))
    → (s : ScanValue) (k : ℕ) → IsScan s → IsComplete s → k < length s.rows → neighbours (graph_of_scan s)
    (row_at s k).key ≡ target_keys (edges_of s (row_at s k))
neighbours_law pairs s k is full h =
    let g = graph_of_scan s in
    let key = (row_at s k).key in
    let edges = edges_of s (row_at s k) in
    let same : (z : ℕ) → stands_in (neighbours g key) z ≡ stands_in (target_keys edges) z = λ z.
    pairs g key z ∙ ap (λ (o : Option ℕ). is_some o) (weights_law s k z is full h) ∙ leads_standing z edges in
    same_rising (neighbours g key) (target_keys edges) (neighbours_rise g key)
    (targets_rise edges (edges_climb s k is h))
    (λ z on. in_standing (target_keys edges) z (sym (same z) ∙ stands (neighbours g key) z on))
    (λ z on. in_standing (neighbours g key) z (same z ∙ stands (target_keys edges) z on))
