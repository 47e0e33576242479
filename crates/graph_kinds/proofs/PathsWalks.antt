-- Neighbours are pairs of the graph, and a path of n pairs is a walk of n steps.
use Rattle.std.proofs.Common.{◌≡◌, ℕ, zero, suc, ◌+◌, ◌==◌, Bool, true, false, cond, inl, inr, List, [], ◌∷◌, ◌++◌}
use Rattle.std.proofs.Common.{length, filter_map, Option, Some, None, is_some, refl, sym, ap, ◌∙◌, subst, arith}
use Rattle.std.proofs.Common.{length-append}
use Rattle.std.proofs.lemmas.Bool.{true≢false, eq-eqb, eqb-true, and_parts, and_from}
use Rattle.std.specs.List.{cons_option}
use Rattle.std.specs.Ordering.{eq_by_cmp}
use Rattle.std.specs.FinMap as map
use Rattle.graph_kinds.specs.Graph.{Graph, IsGraph, pair_cmp, has, weight_of, neighbour_by, neighbours}
use Rattle.graph_kinds.specs.Path.{IsPath}
use Rattle.graph_kinds.proofs.Graphs.{pair_tied}
use Rattle.graph_kinds.proofs.PathsLists.{In}

-- a pair that is there has a weight
pub weight_there : (o : Option ℕ) → is_some o ≡ true → (w : ℕ) × (o ≡ Some w)
weight_there None e = absurd (true≢false (sym e))
weight_there (Some w) e = (w, refl)

-- pairs that tie are equal, and back
pub same_pair : (x y : ℕ) (p : ℕ × ℕ) → eq_by_cmp pair_cmp (x, y) p ≡ true → (p.0 ≡ x) × (p.1 ≡ y)
same_pair x y p t =
    let both = and_parts (x == p.0) (y == p.1) (sym (pair_tied x y p.0 p.1) ∙ t) in
    (sym (eqb-true x p.0 both.0), sym (eqb-true y p.1 both.1))

tied_pair : (x y : ℕ) (p : ℕ × ℕ) → p.0 ≡ x → p.1 ≡ y → eq_by_cmp pair_cmp (x, y) p ≡ true
tied_pair x y p e f = pair_tied x y p.0 p.1 ∙ and_from (x == p.0) (y == p.1) (eq-eqb x p.0 (sym e))
    (eq-eqb y p.1 (sym f))

-- a pair that is found is listed among the neighbours, and back
in_entries : (x y w : ℕ) (es : List ((ℕ × ℕ) × ℕ)) → map.find pair_cmp (x, y) es ≡ Some w → In y
    (filter_map (neighbour_by x) es)
in_entries x y w [] is = absurd (cc)
in_entries x y w (e ∷ es) is =
    let rest = filter_map (neighbour_by x) es in
    elim (eq_by_cmp pair_cmp (x, y) e.0) as (λ b. eq_by_cmp pair_cmp (x, y) e.0 ≡ b → cond b (Some e.1)
    (map.find pair_cmp (x, y) es) ≡ Some w → In y (cons_option (cond (e.0.0 == x) (Some e.0.1) None) rest)) [
      | true ↦ λ t _. let same = same_pair x y e.0 t in
          subst (λ (b : Bool). In y (cons_option (cond b (Some e.0.1) None) rest)) (sym (eq-eqb e.0.0 x same.0))
          (inl same.1)
      | false ↦ λ t later. elim (e.0.0 == x) as (λ b. In y (cons_option (cond b (Some e.0.1) None) rest))
          [ true ↦ inr (in_entries x y w es later) | false ↦ in_entries x y w es later ]
    ] refl is

entries_in : (x y : ℕ) (es : List ((ℕ × ℕ) × ℕ)) → In y (filter_map (neighbour_by x) es) → is_some
    (map.find pair_cmp (x, y) es) ≡ true
entries_in x y [] h = absurd h
entries_in x y (e ∷ es) h =
    let rest = filter_map (neighbour_by x) es in
    elim (eq_by_cmp pair_cmp (x, y) e.0) as (λ b. eq_by_cmp pair_cmp (x, y) e.0 ≡ b → is_some
    (cond b (Some e.1) (map.find pair_cmp (x, y) es)) ≡ true) [
      | true ↦ λ t. refl
      | false ↦ λ t. elim (e.0.0 == x) as (λ c. (e.0.0 == x) ≡ c → In y (cons_option (cond c (Some e.0.1) None) rest)
          → is_some (map.find pair_cmp (x, y) es) ≡ true) [
            | true ↦ λ u k. elim k as (λ _. is_some (map.find pair_cmp (x, y) es) ≡ true) [
              | inl s ↦ absurd (true≢false (sym (tied_pair x y e.0 (eqb-true e.0.0 x u) s) ∙ t))
              | inr l ↦ entries_in x y es l
            ]
            | false ↦ λ u k. entries_in x y es k
          ] refl h
    ] refl

-- the neighbours of x are the keys to which a pair leads from x
pub in_neighbours : (g : Graph) (x y : ℕ) → is_some (weight_of g x y) ≡ true → In y (neighbours g x)
in_neighbours g x y h = let r = weight_there (weight_of g x y) h in in_entries x y r.0 (map.entries g.pairs)
    (sym (map.get-entries g.pairs (x, y)) ∙ r.1)

pub neighbours_in : (g : Graph) (x y : ℕ) → In y (neighbours g x) → is_some (weight_of g x y) ≡ true
neighbours_in g x y h = ap (λ (o : Option ℕ). is_some o) (map.get-entries g.pairs (x, y)) ∙ entries_in x y
    (map.entries g.pairs) h

-- x is reached from a in n steps
abbrev pub Walk : Graph → ℕ → ℕ → ℕ → Type 0
Walk g a zero x = a ≡ x
Walk g a (suc n) x = (y : ℕ) × Walk g a n y × (is_some (weight_of g y x) ≡ true)

-- the second key of a pair is a key of the graph
pub key_behind : (g : Graph) → IsGraph g → (x y : ℕ) → is_some (weight_of g x y) ≡ true → has g y ≡ true
key_behind g is x y h = let r = weight_there (weight_of g x y) h in is.to_key x y r.0 r.1

-- a walk leads to a key
pub walk_key : (g : Graph) (a : ℕ) → IsGraph g → has g a ≡ true → (n x : ℕ) → Walk g a n x → has g x ≡ true
walk_key g a is there zero x e = subst (λ (z : ℕ). has g z ≡ true) e there
walk_key g a is there (suc n) x w = key_behind g is w.0 x w.2

-- a path runs over keys of the graph
pub path_keys : (g : Graph) (a b : ℕ) (p : List ℕ) → IsGraph g → IsPath g a b p → (x : ℕ) → In x p → has g x ≡ true
path_keys g a b [] is h x k = absurd h
path_keys g a b (y ∷ []) is h x (inl e) = subst (λ (z : ℕ). has g z ≡ true) e h.2
path_keys g a b (y ∷ []) is h x (inr k) = absurd k
path_keys g a b (y ∷ z ∷ p) is h x (inl e) = let w = weight_there (weight_of g y z) h.1 in subst
    (λ (u : ℕ). has g u ≡ true) e (is.from_key y z w.0 w.1)
path_keys g a b (y ∷ z ∷ p) is h x (inr k) = path_keys g z b (z ∷ p) is h.2 x k

-- a path with one more pair at its end
pub path_on : (g : Graph) (a y x : ℕ) (q : List ℕ) → IsPath g a y q → is_some (weight_of g y x) ≡ true → has g x ≡ true
    → IsPath g a x (q ++ x ∷ [])
path_on g a y x [] h pair there = absurd h
path_on g a y x (z ∷ []) h pair there = (
  h.0,
  subst (λ (u : ℕ). is_some (weight_of g u x) ≡ true) (sym h.1) pair,
  (refl, refl, there),
)
path_on g a y x (z ∷ u ∷ q) h pair there = (h.0, h.1, path_on g u y x (u ∷ q) h.2 pair there)

-- a walk of n steps gives a path of n pairs
pub path_from_walk : (g : Graph) (a : ℕ) → IsGraph g → has g a ≡ true → (n x : ℕ) → Walk g a n x → (p : List ℕ)
    × IsPath g a x p × (length p ≡ n + 1)
path_from_walk g a is there zero x e = (a ∷ [], (refl, e, there), refl)
path_from_walk g a is there (suc n) x w =
    let r = path_from_walk g a is there n w.0 w.1 in (
      r.0 ++ x ∷ [],
      path_on g a w.0 x r.0 r.1 w.2 (key_behind g is w.0 x w.2),
      omega
          (arith, length-append r.0 (x ∷ []), r.2),
    )

-- a walk on along a path
pub walk_along : (g : Graph) (a n z x : ℕ) → Walk g a n z → (p : List ℕ) → IsPath g z x p → (k : ℕ) × Walk g a k x ×
    (k + 1 ≡ n + length p)
walk_along g a n z x w [] h = absurd h
walk_along g a n z x w (y ∷ []) h = (n, subst (λ (u : ℕ). Walk g a n u) (sym h.0 ∙ h.1) w, omega arith)
walk_along g a n z x w (y ∷ u ∷ p) h =
    let step : Walk g a (suc n) u = (z, w, subst (λ (v : ℕ). is_some (weight_of g v u) ≡ true) h.0 h.1) in
    let r = walk_along g a (suc n) u x step (u ∷ p) h.2 in
    (r.0, r.1, omega (arith, r.2))

-- a path is a walk of as many steps as it has pairs
pub walk_from_path : (g : Graph) (a x : ℕ) (p : List ℕ) → IsPath g a x p → (k : ℕ) × Walk g a k x × (k + 1 ≡ length p)
walk_from_path g a x p h = let r = walk_along g a 0 a x refl p h in (r.0, r.1, omega (arith, r.2))
