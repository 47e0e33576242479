-- The list of all pairs of the maps: what is found in it, and that it rises.
use Rattle.std.proofs.Common.{◌≡◌, ℕ, ◌&&◌, Bool, true, false, cond, List, [], ◌∷◌, ◌++◌, Option, Some, None, map, refl}
use Rattle.std.proofs.Common.{sym, ap, ◌∙◌, true≢false}
use Rattle.std.specs.declared.cmp.Ordering.{Ordering}
use Rattle.std.specs.declared.cmp.Ordering.TheVariants.{Less, Equal, Greater}
use Rattle.std.specs.Ordering.{nat_cmp, is_eq, is_lt, eq_by_cmp, ordering_then}
use Rattle.std.specs.Cmp.{nat_cmp_total, eq_by_cmp_equiv, tied_itself}
use Rattle.std.specs.Option.{option_or}
use Rattle.std.specs.List.{flat_map, AllByRecursion}
use Rattle.std.specs.List.Sorted.{IsStrictlySortedBy}
use Rattle.std.specs.BTreeMap.{is_at}
use Rattle.std.specs.Map.{lookup, keys_of}
use Rattle.std.specs.FinMap as finite_map
use Rattle.std.specs.FinMap.Entries.{below_all}
use Rattle.std.proofs.lemmas.Map.{lookup-none}
use Rattle.std.proofs.lemmas.Map.Keys.{sorted_head, sorted_tail, IsDistinct-from_sorted}
use Rattle.std.proofs.lemmas.Map.Entries.{none_past_head, lookup_head, lookup_tail}
use Rattle.graph_kinds.specs.Graph.{pair_cmp}
use Rattle.graph_kinds.proofs.Calls.{and_left, and_right}
use Rattle.plain_graph.specs.Kept.{Edges, pairs_from, weight_by}

-- the pairs from one key, of a list of edges
abbrev pub paired_from : ℕ → List (ℕ × ℕ) → List ((ℕ × ℕ) × ℕ)
paired_from k es = map (λ e. ((k, e.0), e.1)) es

find-append : {K X : Type 0} (R : K → K → Ordering) (q : K) (xs ys : List (K × X)) → finite_map.find R q
    (xs ++ ys) ≡ option_or (finite_map.find R q xs) (finite_map.find R q ys)
find-append R q [] ys = refl
find-append R q (x ∷ xs) ys =
    ap (cond (eq_by_cmp R q x.0) (Some x.1)) (find-append R q xs ys)
    ∙ elim (eq_by_cmp R q x.0) as (λ b. cond b (Some x.1) (option_or (finite_map.find R q xs) (finite_map.find R q ys))
    ≡ option_or (cond b (Some x.1) (finite_map.find R q xs)) (finite_map.find R q ys))
    [ true ↦ refl | false ↦ refl ]

find-paired_from : (a b k : ℕ) (es : List (ℕ × ℕ)) → finite_map.find pair_cmp (a, b) (paired_from k es) ≡ cond
    (is_eq (nat_cmp a k)) (lookup (is_at (nat_cmp b)) es) None
find-paired_from a b k [] = elim (nat_cmp a k) as (λ o. None ≡ cond {A = Option ℕ} (is_eq o) None None)
    [ Less ↦ refl | Equal ↦ refl | Greater ↦ refl ]
find-paired_from a b k (e ∷ es) =
    ap (cond (is_eq (ordering_then (nat_cmp a k) (nat_cmp b e.0))) (Some e.1)) (find-paired_from a b k es)
    ∙ elim (nat_cmp a k) as (λ o. cond (is_eq (ordering_then o (nat_cmp b e.0))) (Some e.1)
    (cond (is_eq o) (lookup (is_at (nat_cmp b)) es) None) ≡ cond (is_eq o)
    (lookup (is_at (nat_cmp b)) (e ∷ es)) None) [ Less ↦ refl | Equal ↦ refl | Greater ↦ refl ]

or-none : (x : Option ℕ) → option_or x None ≡ x
or-none None = refl
or-none (Some w) = refl

-- a look-up among all pairs is a look-up of the edge among the edges of the vertex
pub find-pairs : (a b : ℕ) (vs : List (ℕ × Edges)) → IsStrictlySortedBy nat_cmp (keys_of vs) → finite_map.find pair_cmp
    (a, b) (flat_map pairs_from vs) ≡ weight_by (lookup (is_at (nat_cmp a)) vs) b
find-pairs a b [] rising = refl
find-pairs a b (v ∷ vs) rising =
    let rest = find-pairs a b vs (sorted_tail nat_cmp v.0 (keys_of vs) rising) in
    find-append pair_cmp (a, b) (pairs_from v) (flat_map pairs_from vs)
    ∙ ((λ i. option_or (find-paired_from a b v.0 v.1.entries i) (rest i)) ∙ by (is_eq (nat_cmp a v.0)) refl)
  where
    by : (t : Bool) → is_eq (nat_cmp a v.0) ≡ t → option_or (cond t (lookup (is_at (nat_cmp b)) v.1.entries) None)
        (weight_by (lookup (is_at (nat_cmp a)) vs) b) ≡ weight_by (cond t (Some v.1) (lookup (is_at (nat_cmp a)) vs)) b
    by true e =
        let gone = lookup-none (is_at (nat_cmp a)) vs (none_past_head (eq_by_cmp_equiv nat_cmp_total) a v vs
        (IsDistinct-from_sorted nat_cmp (keys_of (v ∷ vs)) rising) e) in
        ap (λ x. option_or (lookup (is_at (nat_cmp b)) v.1.entries) (weight_by x b)) gone ∙ or-none
        (lookup (is_at (nat_cmp b)) v.1.entries)
    by false e = refl

both : (a b : Bool) → a ≡ true → b ≡ true → (a && b) ≡ true
both true b d e = e
both false b d e = absurd (true≢false (sym d))

below-append : (x : ℕ × ℕ) (es fs : List ((ℕ × ℕ) × ℕ)) → below_all pair_cmp x es ≡ true
    → below_all pair_cmp x fs ≡ true → below_all pair_cmp x (es ++ fs) ≡ true
below-append x [] fs d e = e
below-append x (p ∷ es) fs d e = both _ _ (and_left _ _ d) (below-append x es fs (and_right _ _ d) e)

-- an edge's pair is below those of the edges after it
below-row : (k b : ℕ) (es : List (ℕ × ℕ)) → AllByRecursion (λ y. nat_cmp b y ≡ Less) (keys_of es) → (t : Ordering)
    → nat_cmp k k ≡ t → t ≡ Equal → below_all pair_cmp (k, b) (paired_from k es) ≡ true
below-row k b [] h t d e = refl
below-row k b (f ∷ es) h t d e = both _ _ (ap (λ o. is_lt (ordering_then o (nat_cmp b f.0))) (d ∙ e) ∙ ap is_lt h.0)
    (below-row k b es h.1 t d e)

-- a pair is below those of a vertex with a higher key
below-later : (k b j : ℕ) (es : List (ℕ × ℕ)) → nat_cmp k j ≡ Less → below_all pair_cmp (k, b) (paired_from j es) ≡ true
below-later k b j [] h = refl
below-later k b j (f ∷ es) h = both _ _ (ap (λ o. is_lt (ordering_then o (nat_cmp b f.0))) h) (below-later k b j es h)

below-others : (k b : ℕ) (vs : List (ℕ × Edges)) → AllByRecursion (λ y. nat_cmp k y ≡ Less) (keys_of vs)
    → below_all pair_cmp (k, b) (flat_map pairs_from vs) ≡ true
below-others k b [] h = refl
below-others k b (v ∷ vs) h = below-append (k, b) (pairs_from v) (flat_map pairs_from vs)
    (below-later k b v.0 v.1.entries h.0) (below-others k b vs h.1)

-- the pairs of a vertex, with pairs behind them that rise and are above each of these
sorted-row : (k : ℕ) (es : List (ℕ × ℕ)) (later : List ((ℕ × ℕ) × ℕ)) → IsStrictlySortedBy nat_cmp (keys_of es)
    → ((b : ℕ) → below_all pair_cmp (k, b) later ≡ true) → finite_map.is_sorted pair_cmp later ≡ true
    → finite_map.is_sorted pair_cmp (paired_from k es ++ later) ≡ true
sorted-row k [] later rising above rest = rest
sorted-row k (e ∷ es) later rising above rest =
    both _ _ (below-append (k, e.0) (paired_from k es) later (below-row k e.0 es
    (sorted_head nat_cmp e.0 (keys_of es) rising) _ refl (tied_itself nat_cmp_total k)) (above e.0))
    (sorted-row k es later (sorted_tail nat_cmp e.0 (keys_of es) rising) above rest)

-- each vertex's edges rise
abbrev pub RowsRise : List (ℕ × Edges) → Type 0
RowsRise [] = Unit {0}
RowsRise (v ∷ vs) = IsStrictlySortedBy nat_cmp (keys_of v.1.entries) × RowsRise vs

-- all pairs of the maps, one vertex after another, rise
pub sorted-pairs : (vs : List (ℕ × Edges)) → IsStrictlySortedBy nat_cmp (keys_of vs) → RowsRise vs
    → finite_map.is_sorted pair_cmp (flat_map pairs_from vs) ≡ true
sorted-pairs [] rising rows = refl
sorted-pairs (v ∷ vs) rising rows =
    sorted-row v.0 v.1.entries (flat_map pairs_from vs) rows.0
    (λ b. below-others v.0 b vs (sorted_head nat_cmp v.0 (keys_of vs) rising))
    (sorted-pairs vs (sorted_tail nat_cmp v.0 (keys_of vs) rising) rows.1)

-- rows rise one by one where each that a look-up finds does
pub rows_rise : (vs : List (ℕ × Edges)) → IsStrictlySortedBy nat_cmp (keys_of vs) →
    ((k : ℕ) (edges : Edges) → lookup (is_at (nat_cmp k)) vs ≡ Some edges → IsStrictlySortedBy nat_cmp
    (keys_of edges.entries)) → RowsRise vs
rows_rise [] rising each = tt
rows_rise (v ∷ vs) rising each =
    let head = lookup_head (is_at (nat_cmp v.0)) v vs (ap is_eq (tied_itself nat_cmp_total v.0)) in (
      each v.0 v.1 head,
      rows_rise vs (sorted_tail nat_cmp v.0 (keys_of vs) rising)
          (λ k edges e. each k edges (later k edges e)),
    )
  where
    later : (k : ℕ) (edges : Edges) → lookup (is_at (nat_cmp k)) vs ≡ Some edges → lookup (is_at (nat_cmp k))
        (v ∷ vs) ≡ Some edges
    later k edges e = by (is_eq (nat_cmp k v.0)) refl
      where
        by : (t : Bool) → is_eq (nat_cmp k v.0) ≡ t → lookup (is_at (nat_cmp k)) (v ∷ vs) ≡ Some edges
        by true t =
            let gone = lookup-none (is_at (nat_cmp k)) vs (none_past_head (eq_by_cmp_equiv nat_cmp_total) k v vs
            (IsDistinct-from_sorted nat_cmp (keys_of (v ∷ vs)) rising) t) in
            let no : Some edges ≡ None = sym e ∙ gone in absurd (cc)
        by false t = lookup_tail (is_at (nat_cmp k)) v vs t ∙ e
