-- The graph that the maps hold, by look-ups.
use Rattle.std.proofs.Common.{◌≡◌, ℕ, ◌+◌, ◌||◌, ◌&&◌, true, false, cond, List, [], ◌∷◌, map, length, Some, None, refl}
use Rattle.std.proofs.Common.{sym, ap, subst, ◌∙◌, arith}
use lib.Dec.{T}
use Rattle.std.specs.declared.cmp.Ordering.TheVariants.{Less}
use Rattle.std.specs.Ordering.{nat_cmp, eq_by_cmp, is_lt}
use Rattle.std.specs.FinMap.Entries.{below_all}
use Rattle.std.specs.Cmp.{nat_cmp_total}
use Rattle.std.specs.List.{flat_map, list_any, AllByRecursion, IsDistinct}
use Rattle.std.specs.List.Sorted.{IsStrictlySortedBy}
use Rattle.std.specs.BTreeMap.{is_at, IsOrdered, keys, values, btree_map_len}
use Rattle.std.specs.Map.{keys_of, values_of}
use Rattle.std.specs.FinMap as finite_map
use Rattle.std.specs.FinSet as finite_set
use Rattle.std.proofs.lemmas.Map.Made.{is_some-lookup}
use Rattle.std.proofs.lemmas.Map.Keys.{sorted_head, sorted_tail, IsDistinct-head, IsDistinct-tail}
use Rattle.std.proofs.lemmas.Map.Keys.{IsDistinct-from_sorted}
use Rattle.std.proofs.lemmas.Map.Entries.{length-keys_of}
use Rattle.std.proofs.lemmas.List.{length-append, length-map}
use Rattle.graph_kinds.specs.Graph.{Graph, pair_cmp, empty_graph, sorted_keys, has, weight_of, key_count, pair_count}
use Rattle.plain_graph.specs.Kept.{Edges, Vertices, pairs_from, pairs_in, edges_in, graph_in_maps, holds, weight_held}
use Rattle.plain_graph.specs.Kept.{Rises}
use Rattle.plain_graph.proofs.Pairs.{find-pairs, sorted-pairs, rows_rise}
use Rattle.graph_kinds.proofs.Graphs.{pair_total, pair_same, same_graph}

pub has-held : (m : Vertices) (k : ℕ) → has (graph_in_maps m) k ≡ holds m k
unfolding graph_in_maps
has-held m k = finite_set.contains-from_list nat_cmp_total (keys m) k ∙ sym
    (is_some-lookup (is_at (nat_cmp k)) m.entries)

pub weight-held : (m : Vertices) → IsOrdered nat_cmp m → (a b : ℕ) → weight_of (graph_in_maps m) a b ≡ weight_held m a b
unfolding graph_in_maps
weight-held m rising a b = finite_map.get-from_entries pair_total (flat_map pairs_from m.entries) (a, b)
    ∙ find-pairs a b m.entries rising

-- a graph that answers as the maps do is the one that they hold
pub graph_from_held : (m : Vertices) → Rises m → (g : Graph) → ((k : ℕ) → holds m k ≡ has g k) →
    ((a b : ℕ) → weight_held m a b ≡ weight_of g a b) → graph_in_maps m ≡ g
graph_from_held m rises g same_keys same_weights = same_graph (graph_in_maps m) g (λ k. has-held m k ∙ same_keys k)
    (λ a b. weight-held m rises.outer a b ∙ same_weights a b)

-- the entries of the pairs are all edges, one vertex after another
pub entries-held : (m : Vertices) → Rises m → finite_map.entries (graph_in_maps m).pairs ≡ pairs_in m
unfolding graph_in_maps
entries-held m rises =
    let sorted = subst T (sym (sorted-pairs m.entries rises.outer (rows_rise m.entries rises.outer rises.inner))) tt in
    ap finite_map.entries (finite_map.same_map pair_total pair_same _
    (finite_map.from_sorted (flat_map pairs_from m.entries))
    (λ q. finite_map.get-from_entries pair_total _ q ∙ sym (finite_map.get-from_sorted pair_cmp _ q sorted)))
    ∙ finite_map.entries-from_sorted pair_cmp (flat_map pairs_from m.entries) sorted

length-pairs : (vs : List (ℕ × Edges)) → length (flat_map pairs_from vs) ≡ edges_in (values_of vs)
length-pairs [] = refl
length-pairs (v ∷ vs) = omega (
  arith,
  length-append (pairs_from v)
      (flat_map pairs_from vs),
  length-map {B = (ℕ × ℕ) × ℕ} v.1.entries
      (λ (e : ℕ × ℕ). ((v.0, e.0), e.1)),
  length-pairs vs,
)

pub pair_count-held : (m : Vertices) → Rises m → pair_count (graph_in_maps m) ≡ edges_in (values m)
pair_count-held m rises = finite_map.len-entries _ ∙ (ap length (entries-held m rises) ∙ length-pairs m.entries)

not_any : (k : ℕ) (ks : List ℕ) → AllByRecursion (λ y. eq_by_cmp nat_cmp k y ≡ false) ks → list_any
    (eq_by_cmp nat_cmp k) ks ≡ false
not_any k [] h = refl
not_any k (x ∷ ks) h = ap (λ b. b || list_any (eq_by_cmp nat_cmp k) ks) h.0 ∙ not_any k ks h.1

len-from_list : (ks : List ℕ) → IsDistinct (eq_by_cmp nat_cmp) ks → finite_set.len
    (finite_set.from_list {R = nat_cmp} ks) ≡ length ks
len-from_list [] h = finite_set.len-empty nat_cmp
len-from_list (k ∷ ks) h =
    let rest = len-from_list ks (IsDistinct-tail _ k ks h) in
    let new = finite_set.contains-from_list nat_cmp_total ks k ∙ not_any k ks (IsDistinct-head _ k ks h) in
    finite_set.len-insert nat_cmp_total (finite_set.from_list ks) k
    ∙ (ap (λ b. cond b (finite_set.len (finite_set.from_list {R = nat_cmp} ks))
    (finite_set.len (finite_set.from_list {R = nat_cmp} ks) + 1)) new ∙ omega (arith, rest))

pub key_count-held : (m : Vertices) → IsOrdered nat_cmp m → key_count (graph_in_maps m) ≡ btree_map_len m
unfolding graph_in_maps
key_count-held m rising = len-from_list (keys m) (IsDistinct-from_sorted nat_cmp (keys m) rising)
    ∙ length-keys_of m.entries

pub held-empty : (m : Vertices) → m.entries ≡ [] → graph_in_maps m ≡ empty_graph
unfolding graph_in_maps
held-empty m e = ap (λ (es : List (ℕ × Edges)). record {
  keys = finite_set.from_list
      (keys_of es);
  pairs = finite_map.from_entries (flat_map pairs_from es);
}) e

-- keys as the entries of a set
abbrev units : List ℕ → List (ℕ × Unit {0})
units ks = map (λ k. (k, tt {0})) ks

find-units : (q : ℕ) (ks : List ℕ) → finite_map.find nat_cmp q (units ks) ≡ cond (list_any (eq_by_cmp nat_cmp q) ks)
    (Some (tt {0})) None
find-units q [] = refl
find-units q (k ∷ ks) =
    ap (cond (eq_by_cmp nat_cmp q k) (Some (tt {0}))) (find-units q ks)
    ∙ elim (eq_by_cmp nat_cmp q k) as (λ b. cond b (Some (tt {0}))
    (cond (list_any (eq_by_cmp nat_cmp q) ks) (Some (tt {0})) None) ≡ cond (b || list_any (eq_by_cmp nat_cmp q) ks)
    (Some (tt {0})) None) [ true ↦ refl | false ↦ refl ]

below-units : (k : ℕ) (ks : List ℕ) → AllByRecursion (λ y. nat_cmp k y ≡ Less) ks → below_all nat_cmp k
    (units ks) ≡ true
below-units k [] h = refl
below-units k (x ∷ ks) h = ap (λ o. is_lt o && below_all nat_cmp k (units ks)) h.0 ∙ below-units k ks h.1

sorted-units : (ks : List ℕ) → IsStrictlySortedBy nat_cmp ks → finite_map.is_sorted nat_cmp (units ks) ≡ true
sorted-units [] h = refl
sorted-units (k ∷ ks) h = ap (λ b. b && finite_map.is_sorted nat_cmp (units ks))
    (below-units k ks (sorted_head nat_cmp k ks h)) ∙ sorted-units ks (sorted_tail nat_cmp k ks h)

keys-units : (ks : List ℕ) → map (λ (e : ℕ × Unit {0}). e.0) (units ks) ≡ ks
keys-units [] = refl
keys-units (k ∷ ks) = ap (λ xs. k ∷ xs) (keys-units ks)

-- the keys of the graph by rising key are those of the map
pub sorted_keys-held : (m : Vertices) → IsOrdered nat_cmp m → sorted_keys (graph_in_maps m) ≡ keys m
sorted_keys-held m rising =
    let sorted = subst T (sym (sorted-units (keys m) rising)) tt in
    let items = finite_set.items (graph_in_maps m).keys in
    let members : (q : ℕ) → list_any (eq_by_cmp nat_cmp q) items ≡ list_any (eq_by_cmp nat_cmp q) (keys m) =
    λ q. sym (finite_set.contains-items (graph_in_maps m).keys q) ∙
    (has-held m q ∙ is_some-lookup (is_at (nat_cmp q)) m.entries) in
    let same = finite_map.same_map nat_cmp_total finite_map.nat_cmp-IsAntisymmetric
    (finite_map.from_entries (units items)) (finite_map.from_sorted (units (keys m)))
    (λ q. finite_map.get-from_entries nat_cmp_total (units items) q
    ∙ (find-units q items
    ∙ (ap (λ b. cond b (Some (tt {0})) None) (members q)
    ∙ (sym (find-units q (keys m)) ∙ sym (finite_map.get-from_sorted nat_cmp (units (keys m)) q sorted))))) in
    ap finite_map.keys same ∙ (ap (map (λ (e : ℕ × Unit {0}). e.0))
    (finite_map.entries-from_sorted nat_cmp (units (keys m)) sorted) ∙ keys-units (keys m))
