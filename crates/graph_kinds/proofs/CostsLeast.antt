-- The least cost of the listed paths is the least cost of all.
use Rattle.std.proofs.Common.{◌≡◌, ℕ, ◌≤◌, min, true, ◌↔◌, inl, inr, List, [], ◌∷◌, map, filter, unwrap_or, Option}
use Rattle.std.proofs.Common.{Some, None, refl, ap, ◌∙◌, subst, arith}
use Rattle.std.proofs.lemmas.Bool.{cases_lt}
use Rattle.graph_kinds.specs.Graph.{Graph, IsGraph, has, key_count}
use Rattle.graph_kinds.specs.Path.{IsPath, cost_of, IsLeastCost, short_paths, ends_with, least, least_cost}
use Rattle.graph_kinds.proofs.PathsLists.{In, in_map, map_in, in_filter, filter_in}
use Rattle.graph_kinds.proofs.CostsPaths.{IsRoute, path_ends, short_listed, short_path, cut, route_short}

-- c stands in the list, and nothing there is less
pub record IsLeastOf (xs : List ℕ) (c : ℕ) : Type 0 where
  pub within : In c xs
  pub bound : (y : ℕ) → In y xs → c ≤ y

-- the least of a list with one more number, by the least of those behind it
least_of : (x : ℕ) (xs : List ℕ) → ((d : ℕ) → least xs ≡ Some d → IsLeastOf xs d) → (o : Option ℕ) → least xs ≡ o →
    (c : ℕ) → min x (unwrap_or o x) ≡ c → IsLeastOf (x ∷ xs) c
least_of x [] later None e c is = record {
  within = inl (omega (arith, is));
  bound = λ y h. elim h as
      (λ _. c ≤ y) [ inl same ↦ omega (arith, is, same) | inr k ↦ absurd k ];
}
least_of x (z ∷ zs) later None e c is = absurd (cc)
least_of x xs later (Some d) e c is =
    let r = later d e in
    record {
      within = elim (cases_lt d x) as (λ _. In c (x ∷ xs)) [
        | inl lt ↦ let same : d ≡ c = omega (arith, is, lt) in inr (subst (λ (y : ℕ). In y xs) same r.within)
        | inr le ↦ inl (omega (arith, is, le))
      ];
      bound = λ y h. elim h as (λ _. c ≤ y) [
        | inl same ↦ omega (arith, is, same)
        | inr k ↦ omega
            (arith, is, r.bound y k)
      ];
    }

-- what `least` answers is the least
pub least_is : (xs : List ℕ) (c : ℕ) → least xs ≡ Some c → IsLeastOf xs c
least_is [] c e = absurd (cc)
least_is (x ∷ xs) c e = least_of x xs (λ d. least_is xs d) (least xs) refl c (ap (λ (o : Option ℕ). unwrap_or o c) e)

-- a list with an item has a least one
pub least_there : (x : ℕ) (xs : List ℕ) → In x xs → (c : ℕ) × (least xs ≡ Some c)
least_there x [] h = absurd h
least_there x (y ∷ ys) h = (min y (unwrap_or (least ys) y), refl)

module _ (g : Graph) (a b : ℕ) (is : IsGraph g) (there : has g a ≡ true) where
  -- a cost that is listed is that of a path
  cost_path : (c : ℕ) → In c (map (cost_of g) (filter (ends_with b) (short_paths g (key_count g) a))) → (p : List ℕ)
      × IsPath g a b p × (cost_of g p ≡ c)
  cost_path c h =
      let r = map_in (cost_of g) c (filter (ends_with b) (short_paths g (key_count g) a)) h in
      let f = filter_in (ends_with b) r.0 (short_paths g (key_count g) a) r.1 in
      (r.0, short_path g a b (key_count g) r.0 is there f.0 f.1, r.2)

  -- and of each path a cost is listed that is no greater
  path_cost : (p : List ℕ) → IsPath g a b p → (c : ℕ) × In c (map (cost_of g)
      (filter (ends_with b) (short_paths g (key_count g) a))) × (c ≤ cost_of g p)
  path_cost p h =
      let r : IsRoute g a b (cost_of g p) = cut g a b p h in
      let listed = short_listed g a b (key_count g) r.path r.is_path (route_short g a b (cost_of g p) is r) in (
        cost_of g r.path,
        in_map (cost_of g) r.path _ (in_filter (ends_with b) r.path
            (short_paths g (key_count g) a) listed (path_ends g a b r.path r.is_path)),
        r.cheap,
      )

  -- the least cost of the listed paths is the least of all
  pub some_least : (c : ℕ) → least_cost g a b ≡ Some c → IsLeastCost g a b c
  some_least c e =
      let l = least_is (map (cost_of g) (filter (ends_with b) (short_paths g (key_count g) a))) c e in
      let p = cost_path c l.within in
      record {
        path = p.0;
        is_path = p.1;
        cost = p.2;
        least = λ q h. let r = path_cost q h in omega
            (arith, r.2, l.bound r.0 r.1);
      }

  -- where a path leads there is a least cost
  pub path_least : (p : List ℕ) → IsPath g a b p → (c : ℕ) × (least_cost g a b ≡ Some c)
  path_least p h = let r = path_cost p h in least_there r.0 (map (cost_of g)
      (filter (ends_with b) (short_paths g (key_count g) a))) r.1

  -- the least cost of all paths is answered
  pub least_some : (c : ℕ) → IsLeastCost g a b c → least_cost g a b ≡ Some c
  least_some c l =
      let r = path_least l.path l.is_path in
      let k : IsLeastCost g a b r.0 = some_least r.0 r.1 in
      let same : r.0 ≡ c = omega (arith, k.least l.path l.is_path, l.cost, l.least k.path k.is_path, k.cost) in
      r.1 ∙ ap (λ (d : ℕ). Some d) same

  -- without a least cost there is no path
  pub none_empty : least_cost g a b ≡ None → (p : List ℕ) → ¬ (IsPath g a b p)
  none_empty e p h = let r = path_least p h in let f = r.1 in cc

  -- and back
  pub empty_none : ((p : List ℕ) → ¬ (IsPath g a b p)) → least_cost g a b ≡ None
  empty_none empty = from (least_cost g a b) refl
    where
      from : (o : Option ℕ) → least_cost g a b ≡ o → least_cost g a b ≡ None
      from None e = e
      from (Some c) e = let l = some_least c e in absurd (empty l.path l.is_path)

-- the clauses of the law
pub least_law : (g : Graph) (a b c : ℕ) → IsGraph g → has g a ≡ true → (least_cost g a b ≡ Some c) ↔ IsLeastCost g a b c
least_law g a b c is there = (some_least g a b is there c, least_some g a b is there c)

pub no_cost_law : (g : Graph) (a b : ℕ) → IsGraph g → has g a ≡ true → (least_cost g a b ≡ None) ↔
    ((p : List ℕ) → ¬ (IsPath g a b p))
no_cost_law g a b is there = (none_empty g a b is there, empty_none g a b is there)

pub itself_law : (g : Graph) (a : ℕ) → IsGraph g → has g a ≡ true → least_cost g a a ≡ Some 0
itself_law g a is there = least_some g a a is there 0 (record
    { path = a ∷ []; is_path = (refl, refl, there); cost = refl; least = λ p h. omega arith })
