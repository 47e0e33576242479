-- Levels are distances: the turns of the walk in levels, said by paths.
use Rattle.std.proofs.Common.{◌≡◌, ◌≢◌, ℕ, zero, suc, ◌+◌, ◌<◌, ◌≤◌, true, ◌↔◌, inl, inr, List, [], ◌∷◌, length}
use Rattle.std.proofs.Common.{AllPairs, refl, subst, arith}
use Rattle.std.proofs.lemmas.Bool.{cases_lt}
use Rattle.std.specs.List.{concat}
use Rattle.graph_kinds.specs.Graph.{Graph, IsGraph, has, key_count}
use Rattle.graph_kinds.specs.Path.{IsPath, IsDistance}
use Rattle.graph_kinds.specs.Levels.{stands_in, levels_from, levels_of, level_at}
use Rattle.graph_kinds.proofs.PathsLists.{In, in_left, in_right, in_either, pairs_from_once, stands, in_standing, few}
use Rattle.graph_kinds.proofs.PathsWalks.{Walk, path_from_walk, walk_from_path}
use Rattle.graph_kinds.proofs.LevelsTurns.{Sooner, IsLevelled, first_turn, levelled, once_from, all_from, filled}

-- a distance is the least number of steps
pub distance_is_walk : (g : Graph) (a x n : ℕ) → IsGraph g → has g a ≡ true → IsDistance g a x n → Walk g a n x ×
    (Sooner g a n x → ⊥)
distance_is_walk g a x n is there d =
    let w = walk_from_path g a x d.path d.is_path in
    let long : w.0 ≡ n = omega (arith, w.2, d.pairs) in
    (subst (λ (m : ℕ). Walk g a m x) long w.1, λ s. nearer s)
  where
    nearer : Sooner g a n x → ⊥
    nearer s = let p = path_from_walk g a is there s.0 x s.2 in absurd (omega (arith, s.1, p.2, d.fewest p.0 p.1))

-- and back
pub walk_is_distance : (g : Graph) (a x n : ℕ) → IsGraph g → has g a ≡ true → Walk g a n x → (Sooner g a n x → ⊥)
    → IsDistance g a x n
walk_is_distance g a x n is there w new =
    let p = path_from_walk g a is there n x w in
    record { path = p.0; is_path = p.1; pairs = p.2; fewest = λ q h. fewest q h }
  where
    fewest : (q : List ℕ) → IsPath g a x q → n + 1 ≤ length q
    fewest q h = let v = walk_from_path g a x q h in
        elim (cases_lt v.0 n) as (λ _. n + 1 ≤ length q) [
          | inl lt ↦ absurd (new (v.0, lt, v.1))
          | inr le ↦ omega
              (arith, le, v.2)
        ]

-- the levels from a are levels by distance
all_levelled : (g : Graph) (a : ℕ) → IsGraph g → has g a ≡ true → IsLevelled g a 0 (levels_of g a)
all_levelled g a is there = levelled g a is there (key_count g) 0 [] (a ∷ []) (first_turn g a) (omega arith)

-- the clauses of the law, and what they share
pub level_law : (g : Graph) (a x i : ℕ) → IsGraph g → has g a ≡ true → (stands_in (level_at (levels_of g a) i) x ≡ true)
    ↔ IsDistance g a x i
level_law g a x i is there = (
  λ h. (let r = (all_levelled g a is there).at_distance x i (in_standing (level_at (levels_of g a) i) x h) in
      let now : 0 + i ≡ i = omega arith in
      walk_is_distance g a x i is there (subst (λ (n : ℕ). Walk g a n x) now r.0)
      (λ s. r.1 (s.0, omega (arith, s.1), s.2))),
  λ d. (let w = distance_is_walk g a x i is there d in
      let now : i ≡ 0 + i = omega arith in
      stands (level_at (levels_of g a) i) x ((all_levelled g a is there).at_level x i
      (subst (λ (n : ℕ). Walk g a n x) now w.0) (λ s. w.1 (s.0, omega (arith, s.1), s.2)))),
)

-- what stands in a level stands in the levels
pub in_some_level : (x : ℕ) (ls : List (List ℕ)) (i : ℕ) → In x (level_at ls i) → (i < length ls) × In x (concat ls)
in_some_level x [] i h = absurd h
in_some_level x (l ∷ ls) zero h = (omega arith, in_left x l (concat ls) h)
in_some_level x (l ∷ ls) (suc i) h = let r = in_some_level x ls i h in
    (omega (arith, r.0), in_right x l (concat ls) r.1)

-- what stands in the levels stands in one
level_of : (x : ℕ) (ls : List (List ℕ)) → In x (concat ls) → (i : ℕ) × In x (level_at ls i)
level_of x [] h = absurd h
level_of x (l ∷ ls) h = elim (in_either x l (concat ls) h) as (λ _. (i : ℕ) × In x (level_at (l ∷ ls) i)) [
  | inl k ↦ (0, k)
  | inr k ↦ let r = level_of x ls k in (suc r.0, r.1)
]

pub within_law : (g : Graph) (a x i : ℕ) → IsGraph g → has g a ≡ true → IsDistance g a x i → i < length (levels_of g a)
within_law g a x i is there d = (in_some_level x (levels_of g a) i
    (in_standing (level_at (levels_of g a) i) x ((level_law g a x i is there).1 d))).0

pub once_law : (g : Graph) (a : ℕ) → AllPairs (λ x y. x ≢ y) (concat (levels_of g a))
once_law g a = pairs_from_once (concat (levels_of g a)) (once_from g a (key_count g) 0 [] (a ∷ []) (first_turn g a))

pub all_law : (g : Graph) (a x : ℕ) → IsGraph g → has g a ≡ true → (stands_in (concat (levels_of g a)) x ≡ true) ↔
    ((p : List ℕ) × IsPath g a x p)
all_law g a x is there = (
  λ h. (let r = level_of x (levels_of g a) (in_standing (concat (levels_of g a)) x h) in
      let w = (all_levelled g a is there).at_distance x r.0 r.1 in
      let p = path_from_walk g a is there (0 + r.0) x w.0 in
      (p.0, p.1)),
  λ p. (let w = walk_from_path g a x p.0 p.1 in
      stands (concat (levels_of g a)) x (all_from g a is there (key_count g) 0 [] (a ∷ []) (first_turn g a)
      (omega arith) w.0 x w.1)),
)

pub filled_law : (g : Graph) (a i : ℕ) → i < length (levels_of g a) → level_at (levels_of g a) i ≢ []
filled_law g a i h = filled g (key_count g) [] (a ∷ []) i h

pub start_law : (g : Graph) (a : ℕ) → has g a ≡ true → level_at (levels_of g a) 0 ≡ a ∷ []
start_law g a there = from (key_count g) (few g.keys (a ∷ []) (λ h. h, tt)
    (λ x h. elim h as (λ _. has g x ≡ true) [ inl e ↦ subst (λ (z : ℕ). has g z ≡ true) e there | inr l ↦ absurd l ]))
  where
    from : (n : ℕ) → 1 ≤ n → level_at (levels_from g n [] (a ∷ [])) 0 ≡ a ∷ []
    from zero h = absurd (omega arith)
    from (suc n) h = refl
