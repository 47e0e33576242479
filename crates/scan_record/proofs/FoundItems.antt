-- What a test finds in a list.
use Rattle.std.proofs.Common.{◌≡◌, ℕ, zero, suc, ◌<◌, ◌==◌, Bool, true, false, ◌||◌, List, [], ◌∷◌, length, get_or}
use Rattle.std.proofs.Common.{map, refl, sym, ap, arith, ◌∙◌, true≢false}
use Rattle.std.specs.Prelude.{All}
use Rattle.std.specs.List.{list_any}
use Rattle.std.proofs.lemmas.List.Elements.{All-nil, All-cons}

-- where no item passes a test, it finds none
pub any_none : {X : Type 0} (test : X → Bool) (xs : List X) → list_any test xs ≡ false → All (λ x. test x ≡ false) xs
any_none test [] h = All-nil (λ x. test x ≡ false)
any_none test (x ∷ xs) h = elim (test x) as (λ b. test x ≡ b → (b || list_any test xs) ≡ false → All
    (λ y. test y ≡ false) (x ∷ xs)) [
      | true ↦ λ _ e. absurd (true≢false e)
      | false ↦ λ t later. All-cons (λ y. test y ≡ false) x xs t (any_none test xs later)
    ] refl h

-- an item that passes a test, by its place
pub any_place : {X : Type 0} (test : X → Bool) (d : X) (xs : List X) → list_any test xs ≡ true → (k : ℕ) ×
    (k < length xs) × (test (get_or xs k d) ≡ true)
any_place test d [] h = absurd (true≢false (sym h))
any_place test d (x ∷ xs) h = elim (test x) as (λ b. test x ≡ b → (b || list_any test xs) ≡ true → (k : ℕ) ×
    (k < length (x ∷ xs)) × (test (get_or (x ∷ xs) k d) ≡ true)) [
      | true ↦ λ t _. (zero, omega arith, t)
      | false ↦ λ _ later. let r = any_place test d xs later in (suc r.0, omega (arith, r.1), r.2)
    ] refl h

pub any_map : {X Y : Type 0} (f : X → Y) (test : Y → Bool) (xs : List X) → list_any test (map f xs) ≡ list_any
    (λ x. test (f x)) xs
any_map f test [] = refl
any_map f test (x ∷ xs) = ap (λ b. test (f x) || b) (any_map f test xs)

pub itself : (x : ℕ) → (x == x) ≡ true
itself x = elim (x == x) as (λ b. (x == x) ≡ b → b ≡ true) [
  | true ↦ λ _. refl
  | false ↦ λ e. absurd
      (true≢false (sym (same x) ∙ e))
] refl
  where
    same : (n : ℕ) → (n == n) ≡ true
    same n = grind arith
