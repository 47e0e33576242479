-- Only one path to a key goes by the least keys.
use Rattle.std.proofs.Common.{◌≡◌, ℕ, zero, suc, ◌+◌, ◌≤◌, true, inl, inr, ◌⊎◌, List, [], ◌∷◌, ◌++◌, length}
use Rattle.std.proofs.Common.{length-append, unwrap_or, Option, Some, is_some, refl, sym, ap, ◌∙◌, subst, arith}
use Rattle.graph_kinds.specs.Graph.{Graph, IsGraph, has, weight_of}
use Rattle.graph_kinds.specs.Path.{IsPath, least_cost, cheapest_path, LeadsOver, IsKeyBefore, GoesByLeastKeys}
use Rattle.graph_kinds.proofs.PathsWalks.{weight_there}
use Rattle.graph_kinds.proofs.CostsPaths.{path_head}
use Rattle.graph_kinds.proofs.CostsLeast.{path_least, itself_law}
use Rattle.graph_kinds.proofs.CostsCheapest.{IsCheapest, cheapest}

-- a path with the key before its last one
record IsSplit (g : Graph) (a start b : ℕ) (p : List ℕ) : Type 0 where
  pub x : ℕ
  pub front : List ℕ
  pub whole : p ≡ front ++ b ∷ []
  pub is_path : IsPath g start x front
  pub keys : GoesByLeastKeys g a front
  pub key : IsKeyBefore g a x b

-- the split of a path with one more pair at its front
split_on : (g : Graph) (a start b x y : ℕ) (p : List ℕ) → IsGraph g → x ≡ start → is_some (weight_of g x y) ≡ true
    → IsKeyBefore g a x y
    → ((p ≡ b ∷ []) × (y ≡ b)) ⊎ IsSplit g a y b p → IsSplit g a start b (x ∷ p)
split_on g a start b x y p is same pair k (inl e) =
    let w = weight_there (weight_of g x y) pair in
    record {
      x = x;
      front = x ∷ [];
      whole = ap (λ (q : List ℕ). x ∷ q) e.0;
      is_path = (same, refl, is.from_key x y w.0 w.1);
      keys = tt;
      key = subst (IsKeyBefore g a x) e.1 k;
    }
split_on g a start b x y p is same pair k (inr s) =
    let head = path_head g y s.x s.front s.is_path in
    record {
      x = s.x;
      front = x ∷ y ∷ head.0;
      whole = ap (λ (q : List ℕ). x ∷ q) (s.whole ∙ ap (λ (q : List ℕ). q ++ b ∷ []) head.1);
      is_path = (same, pair, subst (IsPath g y s.x) head.1 s.is_path);
      keys = (k, subst (GoesByLeastKeys g a) head.1 s.keys);
      key = s.key;
    }

-- each path is one key or has a key before its last one
split : (g : Graph) (a start b : ℕ) (p : List ℕ) → IsGraph g → IsPath g start b p → GoesByLeastKeys g a p →
    ((p ≡ b ∷ []) × (start ≡ b)) ⊎ IsSplit g a start b p
split g a start b [] is h k = absurd h
split g a start b (x ∷ []) is h k = inl (ap (λ (z : ℕ). z ∷ []) h.1, sym h.0 ∙ h.1)
split g a start b (x ∷ y ∷ p) is h k = inr (split_on g a start b x y (y ∷ p) is h.0 h.1 k.0
    (split g a y b (y ∷ p) is h.2 k.1))

-- no key stands before the first
none_before : (g : Graph) (a x b : ℕ) → IsGraph g → has g a ≡ true → IsKeyBefore g a x b → a ≡ b → ⊥
none_before g a x b is there k same =
    let l : LeadsOver g a x b = k.leads in
    let e : least_cost g a b ≡ Some 0 = subst (λ (z : ℕ). least_cost g a z ≡ Some 0) same (itself_law g a is there) in
    let total : l.cost + l.weight ≡ 0 = ap (λ (o : Option ℕ). unwrap_or o 0) (sym l.to_y ∙ e) in
    absurd (omega (arith, total, is.weighed x b l.weight l.pair))

-- two paths to a key by the least keys are one, from the last key back
same_path : (g : Graph) (a : ℕ) → IsGraph g → has g a ≡ true → (n b : ℕ) (p q : List ℕ) → length p ≤ n → IsPath g a b p
    → GoesByLeastKeys g a p → IsPath g a b q → GoesByLeastKeys g a q → p ≡ q
same_path g a is there zero b [] q short h k i j = absurd h
same_path g a is there zero b (x ∷ p) q short h k i j = absurd (omega arith)
same_path g a is there (suc n) b p q short h k i j =
    elim (split g a a b p is h k) as (λ _. p ≡ q) [
      | inl e ↦ elim (split g a a b q is i j) as (λ _. p ≡ q) [
        | inl f ↦ e.0 ∙ sym f.0
        | inr t ↦ absurd (none_before g a t.x b is there t.key e.1)
      ]
      | inr s ↦ elim (split g a a b q is i j) as (λ _. p ≡ q) [
        | inl f ↦ absurd (none_before g a s.x b is there s.key f.1)
        | inr t ↦
            let same : s.x ≡ t.x = omega (arith, s.key.least t.x t.key.leads, t.key.least s.x s.key.leads) in
            let short_front : length s.front ≤ n = omega (
              arith,
              short,
              ap length s.whole,
              length-append s.front
                  (b ∷ []),
            ) in
            let fronts = same_path g a is there n s.x s.front t.front short_front s.is_path s.keys
            (subst (λ (z : ℕ). IsPath g a z t.front) (sym same) t.is_path) t.keys in
            s.whole ∙ (ap (λ (f : List ℕ). f ++ b ∷ []) fronts ∙ sym t.whole)
      ]
    ]

-- so each such path is the one found backwards
pub only_law : (g : Graph) (a b : ℕ) (p : List ℕ) → IsGraph g → has g a ≡ true → IsPath g a b p → GoesByLeastKeys g a p
    → p ≡ cheapest_path g a b
only_law g a b p is there h k =
    let r = path_least g a b is there p h in
    let c : IsCheapest g a b r.0 (cheapest_path g a b) = cheapest g is a there b r.0 r.1 in
    same_path g a is there (length p) b p (cheapest_path g a b) (omega arith) h k c.is_path c.keys
