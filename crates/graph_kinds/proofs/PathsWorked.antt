-- The answers on the worked graphs.
use Rattle.std.proofs.Common.{◌≡◌, ℕ, T, ◌+◌, ◌≤◌, ◌==◌, leb, Bool, true, false, cond, not, ◌&&◌, ◌||◌, inl, inr, List}
use Rattle.std.proofs.Common.{[], ◌∷◌, refl, sym, ap, ◌∙◌, subst, unwrap_or, is_some, Option, Some, None}
use Rattle.std.proofs.lemmas.Bool.{true≢false, eq-eqb, leb-true, and_parts, or_cases}
use Rattle.std.specs.FinMap as map
use Rattle.std.specs.FinSet as set
use Rattle.std.specs.List.{list_all}
use Rattle.std.specs.Ordering.{nat_cmp, eq_by_cmp}
use Rattle.std.specs.Cmp.{nat_cmp_total}
use Rattle.graph_kinds.specs.Graph.{Graph, IsGraph, pair_cmp, weight_of, key_count}
use Rattle.graph_kinds.specs.Levels.{stands_in, levels_of, reach_path}
use Rattle.graph_kinds.specs.Path.{IsPath, least_cost, is_before, cheapest_path, LeadsOver, IsKeyBefore}
use Rattle.graph_kinds.specs.Worked.{graph_from, two_ways, detour, tie, dead_end}
use Rattle.graph_kinds.proofs.PathsLists.{In}
use Rattle.graph_kinds.proofs.PathsWalks.{same_pair}
use Rattle.graph_kinds.proofs.CostsCheapest.{leads, leads_test}
use Rattle.graph_kinds.proofs.CostsOnly.{only_law}

-- how many numbers of a list differ
abbrev distinct_count : List ℕ → ℕ
distinct_count [] = 0
distinct_count (k ∷ ks) = cond (stands_in ks k) (distinct_count ks) (distinct_count ks + 1)

-- a set of a list has as many keys
len-from_list : (ks : List ℕ) → set.len (set.from_list {R = nat_cmp} ks) ≡ distinct_count ks
len-from_list [] = set.len-empty nat_cmp
len-from_list (k ∷ ks) =
    set.len-insert nat_cmp_total (set.from_list ks) k
    ∙ ap (λ (b : Bool). cond b (set.len (set.from_list {R = nat_cmp} ks))
    (set.len (set.from_list {R = nat_cmp} ks) + 1)) (set.contains-from_list_nat ks k)
    ∙ ap (λ (n : ℕ). cond (stands_in ks k) n (n + 1)) (len-from_list ks)

-- what a map of pairs in order holds and answers
listed : (es : List ((ℕ × ℕ) × ℕ)) → map.is_sorted pair_cmp es ≡ true → map.entries
    (map.from_sorted {R = pair_cmp} es) ≡ es
listed es s = map.entries-from_sorted pair_cmp es (subst T (sym s) tt)

weighed : (es : List ((ℕ × ℕ) × ℕ)) (q : ℕ × ℕ) → map.is_sorted pair_cmp es ≡ true → map.get
    (map.from_sorted {R = pair_cmp} es) q ≡ map.find pair_cmp q es
weighed es q s = map.get-from_sorted pair_cmp es q (subst T (sym s) tt)

-- how many keys each graph has
two_ways_count : key_count two_ways ≡ 6
two_ways_count = len-from_list (1 ∷ 2 ∷ 3 ∷ 4 ∷ 9 ∷ 10 ∷ [])

detour_count : key_count detour ≡ 3
detour_count = len-from_list (1 ∷ 2 ∷ 3 ∷ [])

tie_count : key_count tie ≡ 4
tie_count = len-from_list (1 ∷ 2 ∷ 3 ∷ 4 ∷ [])

dead_end_count : key_count dead_end ≡ 4
dead_end_count = len-from_list (1 ∷ 2 ∷ 3 ∷ 4 ∷ [])

-- levels, paths and costs, by computing
pub two_ways_levels : levels_of two_ways 1 ≡ (1 ∷ []) ∷ (2 ∷ 3 ∷ []) ∷ (9 ∷ 4 ∷ []) ∷ (10 ∷ []) ∷ []
two_ways_levels = rw two_ways_count (simp listed)

pub two_ways_reach : reach_path two_ways 1 10 ≡ Some (1 ∷ 2 ∷ 9 ∷ 10 ∷ [])
two_ways_reach = rw two_ways_count (simp (listed, weighed))

pub detour_reach : reach_path detour 1 2 ≡ Some (1 ∷ 2 ∷ [])
detour_reach = rw detour_count (simp (listed, weighed))

pub detour_cost : least_cost detour 1 2 ≡ Some 3
detour_cost = rw detour_count (simp (listed, weighed))

pub tie_cost : least_cost tie 1 4 ≡ Some 3
tie_cost = rw tie_count (simp (listed, weighed))

pub dead_end_levels : levels_of dead_end 1 ≡ (1 ∷ []) ∷ (2 ∷ 3 ∷ []) ∷ (4 ∷ []) ∷ []
dead_end_levels = rw dead_end_count (simp listed)

pub dead_end_reach : reach_path dead_end 3 1 ≡ None
dead_end_reach = rw dead_end_count (simp listed)

pub dead_end_cost : least_cost dead_end 3 1 ≡ None
dead_end_cost = rw dead_end_count (simp listed)

-- a pair that is found stands in the list
found_in : (q : ℕ × ℕ) (w : ℕ) (es : List ((ℕ × ℕ) × ℕ)) → map.find pair_cmp q es ≡ Some w → In (q, w) es
found_in q w [] is = absurd (cc)
found_in q w (e ∷ es) is = elim (eq_by_cmp pair_cmp q e.0) as
    (λ b. eq_by_cmp pair_cmp q e.0 ≡ b → cond b (Some e.1) (map.find pair_cmp q es) ≡ Some w → In (q, w) (e ∷ es)) [
      | true ↦ λ t found.
          let same = same_pair q.0 q.1 e.0 t in
          let weight : e.1 ≡ w = ap (λ (o : Option ℕ). unwrap_or o w) found in
          inl (λ i. ((same.0 i, same.1 i), weight i))
      | false ↦ λ t later. inr (found_in q w es later)
    ] refl is

-- what passes for all passes for each
all_in : (p : (ℕ × ℕ) × ℕ → Bool) (e : (ℕ × ℕ) × ℕ) (es : List ((ℕ × ℕ) × ℕ)) → list_all p es ≡ true → In e es
    → p e ≡ true
all_in p e [] all h = absurd h
all_in p e (f ∷ es) all (inl same) = ap p (sym same) ∙ (and_parts (p f) (list_all p es) all).0
all_in p e (f ∷ es) all (inr h) = all_in p e es (and_parts (p f) (list_all p es) all).1 h

-- both keys of the pair are listed, and its weight is at least 1
abbrev fits : List ℕ → (ℕ × ℕ) × ℕ → Bool
fits keys e = stands_in keys e.0.0 && (stands_in keys e.0.1 && leb 1 e.1)

-- x is no more than the first key of this pair, where a cheapest way to y leads over it
abbrev no_less : Graph → ℕ → ℕ → ℕ → (ℕ × ℕ) × ℕ → Bool
no_less g a x y e = not (e.0.1 == y) || (not (is_before g a y e.0.0) || leb x e.0.0)

module _ (keys : List ℕ) (es : List ((ℕ × ℕ) × ℕ)) (s : map.is_sorted pair_cmp es ≡ true) where
  -- each pair of the graph stands in the list
  pair_in : (a b w : ℕ) → weight_of (graph_from keys es) a b ≡ Some w → In ((a, b), w) es
  pair_in a b w is = found_in (a, b) w es (sym (weighed es (a, b) s) ∙ is)

  -- where all pairs fit, it is a graph
  graph_is : list_all (fits keys) es ≡ true → IsGraph (graph_from keys es)
  graph_is all = record {
    from_key = λ a b w is. set.contains-from_list_nat keys a ∙ (and_parts _ _ (fit a b w is)).0;
    to_key = λ a b w is. set.contains-from_list_nat keys b ∙ (and_parts _ _ (and_parts _ _ (fit a b w is)).1).0;
    weighed = λ a b w is. leb-true 1 w (and_parts _ _ (and_parts _ _ (fit a b w is)).1).1;
  }
    where
      fit : (a b w : ℕ) → weight_of (graph_from keys es) a b ≡ Some w →
          (stands_in keys a && (stands_in keys b && leb 1 w)) ≡ true
      fit a b w is = all_in (fits keys) ((a, b), w) es all (pair_in a b w is)

  -- where no pair offers a lesser key, it is the key before
  key_is : (a x y : ℕ) → is_before (graph_from keys es) a y x ≡ true → list_all
      (no_less (graph_from keys es) a x y) es ≡ true → IsKeyBefore (graph_from keys es) a x y
  key_is a x y t all = record { leads = leads (graph_from keys es) a x y t; least = λ z l. bound z l }
    where
      bound : (z : ℕ) → LeadsOver (graph_from keys es) a z y → x ≤ z
      bound z l =
          let here = is_before (graph_from keys es) a y z in
          let passed = all_in (no_less (graph_from keys es) a x y) ((z, y), l.weight) es all
          (pair_in z y l.weight l.pair) in
          elim (or_cases (not (y == y)) (not here || leb x z) passed) as (λ _. x ≤ z) [
            | inl other ↦ absurd (true≢false (sym other ∙ ap not (eq-eqb y y refl)))
            | inr rest ↦ elim (or_cases (not here) (leb x z) rest) as (λ _. x ≤ z) [
              | inl no_way ↦ absurd (true≢false (sym no_way ∙ ap not (leads_test (graph_from keys es) a z y l)))
              | inr le ↦ leb-true x z le
            ]
          ]

-- the cheapest path of the detour, by its keys before
abbrev detour_keys : List ℕ
detour_keys = 1 ∷ 2 ∷ 3 ∷ []

abbrev detour_pairs : List ((ℕ × ℕ) × ℕ)
detour_pairs = ((1, 2), 10) ∷ ((1, 3), 1) ∷ ((3, 2), 2) ∷ []

detour_before : IsKeyBefore detour 1 1 3 × IsKeyBefore detour 1 3 2
detour_before = (
  key_is detour_keys detour_pairs refl 1 1 3 (rw detour_count (simp (listed, weighed)))
      (rw detour_count (simp (listed, weighed))),
  key_is detour_keys detour_pairs refl 1 3 2 (rw detour_count (simp (listed, weighed)))
      (rw detour_count (simp (listed, weighed))),
)

pub detour_cheapest : cheapest_path detour 1 2 ≡ 1 ∷ 3 ∷ 2 ∷ []
detour_cheapest =
    let first : is_some (weight_of detour 1 3) ≡ true = simp weighed in
    let second : is_some (weight_of detour 3 2) ≡ true = simp weighed in
    let path : IsPath detour 1 2 (1 ∷ 3 ∷ 2 ∷ []) = (
      refl,
      first,
      (refl, second, (refl, refl, set.contains-from_list_nat detour_keys 2)),
    ) in
    sym (only_law detour 1 2 (1 ∷ 3 ∷ 2 ∷ []) (graph_is detour_keys detour_pairs refl refl)
    (set.contains-from_list_nat detour_keys 1) path (detour_before.0, (detour_before.1, tt)))

-- and that of the tie
abbrev tie_keys : List ℕ
tie_keys = 1 ∷ 2 ∷ 3 ∷ 4 ∷ []

abbrev tie_pairs : List ((ℕ × ℕ) × ℕ)
tie_pairs = ((1, 2), 2) ∷ ((1, 3), 1) ∷ ((2, 4), 1) ∷ ((3, 4), 2) ∷ []

tie_before : IsKeyBefore tie 1 1 2 × IsKeyBefore tie 1 2 4
tie_before = (
  key_is tie_keys tie_pairs refl 1 1 2 (rw tie_count (simp (listed, weighed))) (rw tie_count (simp (listed, weighed))),
  key_is tie_keys tie_pairs refl 1 2 4 (rw tie_count (simp (listed, weighed))) (rw tie_count (simp (listed, weighed))),
)

pub tie_cheapest : cheapest_path tie 1 4 ≡ 1 ∷ 2 ∷ 4 ∷ []
tie_cheapest =
    let first : is_some (weight_of tie 1 2) ≡ true = simp weighed in
    let second : is_some (weight_of tie 2 4) ≡ true = simp weighed in
    let path : IsPath tie 1 4 (1 ∷ 2 ∷ 4 ∷ []) = (
      refl,
      first,
      (refl, second, (refl, refl, set.contains-from_list_nat tie_keys 4)),
    ) in
    sym (only_law tie 1 4 (1 ∷ 2 ∷ 4 ∷ []) (graph_is tie_keys tie_pairs refl refl)
    (set.contains-from_list_nat tie_keys 1) path (tie_before.0, (tie_before.1, tt)))
