-- The sorted keys of a graph rise strictly, and are its keys.
use Rattle.std.proofs.Common.{◌≡◌, ℕ, ◌<◌, ◌==◌, ◌||◌, true, T, inl, inr, List, [], ◌∷◌, is_some, refl, sym, ap, ◌∙◌}
use Rattle.std.proofs.Common.{subst, arith}
use Rattle.std.specs.Prelude.{map as list_map}
use Rattle.std.specs.List.{list_any}
use Rattle.std.specs.List.Sorted.{IsStrictlyIncreasing}
use Rattle.std.specs.declared.cmp.Ordering.{Ordering}
use Rattle.std.specs.declared.cmp.Ordering.TheVariants.{Less, Equal, Greater}
use Rattle.std.specs.Ordering.{nat_cmp, eq_by_cmp, is_lt}
use Rattle.std.specs.Cmp.{nat_cmp_total, nat_eq_equiv, ranked, unsigned_tied}
use Rattle.std.proofs.lemmas.Bool.{true≢false, and_parts}
use Rattle.std.specs.FinMap as map
use Rattle.std.specs.FinMap.Entries.{below_all, is_sorted, is_some-find}
use Rattle.std.specs.FinSet as set
use Rattle.graph_kinds.specs.Graph.{Graph, has, sorted_keys}
use Rattle.graph_kinds.specs.Levels.{stands_in}
use Rattle.graph_kinds.proofs.PathsLists.{In}
use Rattle.graph_kinds.proofs.PathsPairs.{IsAscending, rises_next, bool_true}

-- the entries of the keys of a set
abbrev SetEntry : Type 0
SetEntry = ℕ × Unit {0}

below : (x y : ℕ) → is_lt (nat_cmp x y) ≡ true → x < y
below x y lt = by (nat_cmp x y) refl lt
  where
    by : (r : Ordering) → nat_cmp x y ≡ r → is_lt r ≡ true → x < y
    by Less e t = ranked x y Less (sym e)
    by Equal e t = absurd (true≢false (sym t))
    by Greater e t = absurd (true≢false (sym t))

above : (x z : ℕ) (es : List SetEntry) → T (below_all nat_cmp x es) → In z (list_map (λ e. e.0) es) → x < z
above x z [] b h = absurd h
above x z (e ∷ es) b h =
    let parts = and_parts (is_lt (nat_cmp x e.0)) (below_all nat_cmp x es) (bool_true _ b) in
    let lt = below x e.0 parts.0 in
    elim h as (λ _. x < z) [ inl same ↦ omega (arith, lt, same) | inr l ↦ above x z es (subst T (sym parts.1) tt) l ]

rising : (es : List SetEntry) → T (is_sorted nat_cmp es) → IsAscending (list_map (λ e. e.0) es)
rising [] s = tt
rising (e ∷ es) s =
    let parts = and_parts (below_all nat_cmp e.0 es) (is_sorted nat_cmp es) (bool_true _ s) in
    (λ z h. above e.0 z es (subst T (sym parts.0) tt) h, rising es (subst T (sym parts.1) tt))

pub sorted-rise : (g : Graph) → IsStrictlyIncreasing (sorted_keys g)
sorted-rise g =
    let m = map.from_entries {X = Unit {0}} {R = nat_cmp} (list_map (λ k. (k, tt)) (set.items g.keys)) in
    rises_next (map.keys m) (rising (map.entries m) (map.entries_sorted m))

-- two ways to look for a number in a list
looked : (k : ℕ) (xs : List ℕ) → list_any (eq_by_cmp nat_cmp k) xs ≡ list_any (λ y. y == k) xs
looked k [] = refl
looked k (x ∷ xs) = λ i. (unsigned_tied k x ∙ nat_eq_equiv.symm k x) i || looked k xs i

-- the keys of the entries of numbers are the numbers
unmarked : (xs : List ℕ) → list_map (λ e. e.0) (list_map (λ k. let e : SetEntry = (k, tt) in e) xs) ≡ xs
unmarked [] = refl
unmarked (x ∷ xs) = ap (λ ys. x ∷ ys) (unmarked xs)

pub sorted-exact : (g : Graph) (k : ℕ) → stands_in (sorted_keys g) k ≡ has g k
sorted-exact g k =
    let es : List SetEntry = list_map (λ k. (k, tt)) (set.items g.keys) in
    let m = map.from_entries {X = Unit {0}} {R = nat_cmp} es in
    sym (looked k (map.keys m))
    ∙ (sym (map.contains_key-keys m k)
    ∙ (ap is_some (map.get-from_entries nat_cmp_total es k)
    ∙ (is_some-find nat_cmp k es
    ∙ (ap (list_any (eq_by_cmp nat_cmp k)) (unmarked (set.items g.keys))
    ∙ sym (set.contains-items g.keys k)))))
