-- The listed paths are the paths of fewer pairs than the graph has keys, and each path costs no less than one of them.
use Rattle.std.proofs.Common.{◌≡◌, ℕ, zero, suc, ◌+◌, ◌≤◌, true, inl, inr, List, [], ◌∷◌, length, map, unwrap_or}
use Rattle.std.proofs.Common.{is_some, refl, sym, ap, subst, arith}
use Rattle.std.proofs.lemmas.Bool.{eq-eqb, eqb-true, cases_lt}
use Rattle.graph_kinds.specs.Graph.{Graph, IsGraph, has, weight_of, neighbours, key_count}
use Rattle.graph_kinds.specs.Path.{IsPath, cost_of, paths_of, short_paths, ends_with}
use Rattle.graph_kinds.proofs.PathsLists.{In, Once, in_left, in_right, in_either, in_map, map_in, in_flat, flat_in}
use Rattle.graph_kinds.proofs.PathsLists.{in_or_not, few}
use Rattle.graph_kinds.proofs.PathsWalks.{in_neighbours, neighbours_in, key_behind, path_keys}

-- a path to b ends with b
pub path_ends : (g : Graph) (a b : ℕ) (p : List ℕ) → IsPath g a b p → ends_with b p ≡ true
path_ends g a b [] h = absurd h
path_ends g a b (x ∷ []) h = eq-eqb x b h.1
path_ends g a b (x ∷ y ∷ p) h = path_ends g y b (y ∷ p) h.2

-- each path of n pairs is listed
pub path_listed : (g : Graph) (a b n : ℕ) (p : List ℕ) → IsPath g a b p → length p ≡ n + 1 → In p (paths_of g n a)
path_listed g a b n [] h long = absurd h
path_listed g a b zero (x ∷ []) h long = inl (ap (λ (z : ℕ). z ∷ []) (sym h.0))
path_listed g a b (suc n) (x ∷ []) h long = absurd (omega arith)
path_listed g a b zero (x ∷ y ∷ p) h long = absurd (omega arith)
path_listed g a b (suc n) (x ∷ y ∷ p) h long =
    let later = path_listed g y b n (y ∷ p) h.2 (omega arith) in
    let here : is_some (weight_of g a y) ≡ true = subst (λ (z : ℕ). is_some (weight_of g z y) ≡ true) h.0 h.1 in
    subst (λ (z : ℕ). In (z ∷ y ∷ p) (paths_of g (suc n) a)) (sym h.0)
    (in_flat (λ z. map (λ q. a ∷ q) (paths_of g n z)) y (a ∷ y ∷ p) (neighbours g a) (in_neighbours g a y here)
    (in_map (λ q. a ∷ q) (y ∷ p) (paths_of g n y) later))

-- a path with one more key at its front
path_before : (g : Graph) (a y b : ℕ) (q : List ℕ) → IsPath g y b q → is_some (weight_of g a y) ≡ true → IsPath g a b
    (a ∷ q)
path_before g a y b [] h pair = absurd h
path_before g a y b (z ∷ []) h pair = (
  refl,
  subst (λ (u : ℕ). is_some (weight_of g a u) ≡ true) (sym h.0) pair,
  (refl, h.1, h.2),
)
path_before g a y b (z ∷ u ∷ q) h pair = (
  refl,
  subst (λ (v : ℕ). is_some (weight_of g a v) ≡ true) (sym h.0) pair,
  (refl, h.1, h.2),
)

-- a listed path has a key, so one more at its front changes no end
ends_before : (b x : ℕ) (n : ℕ) (g : Graph) (y : ℕ) (q : List ℕ) → In q (paths_of g n y) → ends_with b (x ∷ q) ≡ true
    → ends_with b q ≡ true
ends_before b x n g y [] h e = absurd (none n y h)
  where
    none : (m z : ℕ) → In [] (paths_of g m z) → ⊥
    none zero z (inl k) = absurd (cc)
    none zero z (inr k) = k
    none (suc m) z k =
        let r = flat_in (λ v. map (λ p. z ∷ p) (paths_of g m v)) [] (neighbours g z) k in
        let s = map_in (λ p. z ∷ p) [] (paths_of g m r.0) r.2 in
        let f = s.2 in absurd (cc)
ends_before b x n g y (z ∷ q) h e = e

-- what is listed and ends with b is a path to b
pub listed_path : (g : Graph) (a b n : ℕ) (p : List ℕ) → IsGraph g → has g a ≡ true → In p (paths_of g n a)
    → ends_with b p ≡ true → IsPath g a b p
listed_path g a b zero p is there (inl same) e =
    let end : a ≡ b = eqb-true a b (subst (λ (q : List ℕ). ends_with b q ≡ true) (sym same) e) in
    subst (IsPath g a b) same (refl, end, there)
listed_path g a b zero p is there (inr h) e = absurd h
listed_path g a b (suc n) p is there h e =
    let r = flat_in (λ y. map (λ q. a ∷ q) (paths_of g n y)) p (neighbours g a) h in
    let s = map_in (λ q. a ∷ q) p (paths_of g n r.0) r.2 in
    let pair = neighbours_in g a r.0 r.1 in
    let end : ends_with b (a ∷ s.0) ≡ true = subst (λ (q : List ℕ). ends_with b q ≡ true) (sym s.2) e in
    let later = listed_path g r.0 b n s.0 is (key_behind g is a r.0 pair) s.1 (ends_before b a n g r.0 s.0 s.1 end) in
    subst (IsPath g a b) s.2 (path_before g a r.0 b s.0 later pair)

-- each path of fewer than n pairs is listed
pub short_listed : (g : Graph) (a b n : ℕ) (p : List ℕ) → IsPath g a b p → length p ≤ n → In p (short_paths g n a)
short_listed g a b zero [] h short = absurd h
short_listed g a b zero (x ∷ p) h short = absurd (omega arith)
short_listed g a b (suc n) p h short = elim (cases_lt n (length p)) as (λ _. In p (short_paths g (suc n) a)) [
  | inl lt ↦ in_right p (short_paths g n a) (paths_of g n a) (path_listed g a b n p h (omega (arith, lt, short)))
  | inr le ↦ in_left p (short_paths g n a) (paths_of g n a) (short_listed g a b n p h le)
]

-- what is listed there and ends with b is a path to b
pub short_path : (g : Graph) (a b n : ℕ) (p : List ℕ) → IsGraph g → has g a ≡ true → In p (short_paths g n a)
    → ends_with b p ≡ true → IsPath g a b p
short_path g a b zero p is there h e = absurd h
short_path g a b (suc n) p is there h e = elim (in_either p (short_paths g n a) (paths_of g n a) h) as
    (λ _. IsPath g a b p) [
      | inl k ↦ short_path g a b n p is there k e
      | inr k ↦ listed_path g a b n p is there k e
    ]

-- a path from x to b that meets no key twice and costs no more than c
pub record IsRoute (g : Graph) (x b c : ℕ) : Type 0 where
  pub path : List ℕ
  pub is_path : IsPath g x b path
  pub once : Once path
  pub cheap : cost_of g path ≤ c

-- a higher bound
cheaper : (g : Graph) (x b c d : ℕ) → c ≤ d → IsRoute g x b c → IsRoute g x b d
cheaper g x b c d le r = record {
  path = r.path;
  is_path = r.is_path;
  once = r.once;
  cheap = omega
      (arith, r.cheap, le);
}

-- the part of a path from one of its keys on
part_from : (g : Graph) (y b x : ℕ) (q : List ℕ) → IsPath g y b q → Once q → In x q → IsRoute g x b (cost_of g q)
part_from g y b x [] h o k = absurd k
part_from g y b x (z ∷ []) h o (inl e) = record {
  path = z ∷ [];
  is_path =
      (e, h.1, h.2);
  once = o;
  cheap = omega arith;
}
part_from g y b x (z ∷ []) h o (inr k) = absurd k
part_from g y b x (z ∷ u ∷ q) h o (inl e) = record {
  path = z ∷ u ∷ q;
  is_path =
      (e, h.1, h.2);
  once = o;
  cheap = omega arith;
}
part_from g y b x (z ∷ u ∷ q) h o (inr k) = cheaper g x b (cost_of g (u ∷ q)) (cost_of g (z ∷ u ∷ q)) (omega arith)
    (part_from g u b x (u ∷ q) h.2 o.1 k)

-- a path from y begins with y
pub path_head : (g : Graph) (y b : ℕ) (q : List ℕ) → IsPath g y b q → (rest : List ℕ) × (q ≡ y ∷ rest)
path_head g y b [] h = absurd h
path_head g y b (z ∷ []) h = ([], ap (λ (u : ℕ). u ∷ []) h.0)
path_head g y b (z ∷ u ∷ q) h = (u ∷ q, ap (λ (v : ℕ). v ∷ u ∷ q) h.0)

-- one more pair at the front, where a round is left out
route_on : (g : Graph) (a x y b c : ℕ) → x ≡ a → is_some (weight_of g x y) ≡ true → IsRoute g y b c → IsRoute g a b
    (unwrap_or (weight_of g x y) 0 + c)
route_on g a x y b c same pair r = elim (in_or_not r.path x) as
    (λ _. IsRoute g a b (unwrap_or (weight_of g x y) 0 + c)) [
      | inl k ↦ subst (λ (z : ℕ). IsRoute g z b (unwrap_or (weight_of g x y) 0 + c)) same
          (cheaper g x b (cost_of g r.path) _ (omega (arith, r.cheap)) (part_from g y b x r.path r.is_path r.once k))
      | inr new ↦ let head = path_head g y b r.path r.is_path in
          record {
            path = x ∷ y ∷ head.0;
            is_path = (same, pair, subst (IsPath g y b) head.1 r.is_path);
            once = (λ k. new (subst (In x) (sym head.1) k), subst Once head.1 r.once);
            cheap = omega (arith, r.cheap, ap (cost_of g) head.1);
          }
    ]

-- each path can be cut to one that meets no key twice
pub cut : (g : Graph) (a b : ℕ) (p : List ℕ) → IsPath g a b p → IsRoute g a b (cost_of g p)
cut g a b [] h = absurd h
cut g a b (x ∷ []) h = record { path = x ∷ []; is_path = h; once = (λ k. k, tt); cheap = omega arith }
cut g a b (x ∷ y ∷ p) h = route_on g a x y b (cost_of g (y ∷ p)) h.0 h.1 (cut g y b (y ∷ p) h.2)

-- a path that meets no key twice has no more keys than the graph
pub route_short : (g : Graph) (a b c : ℕ) → IsGraph g → (r : IsRoute g a b c) → length r.path ≤ key_count g
route_short g a b c is r = few g.keys r.path r.once (path_keys g a b r.path is r.is_path)
