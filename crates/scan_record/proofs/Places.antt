-- What holds at each place of a list, after a push at its end or a write at one place.
use Rattle.std.proofs.Common.{◌≡◌, ◌≢◌, ℕ, zero, suc, ◌+◌, ◌<◌, List, [], ◌∷◌, ◌++◌, length, get_or, refl, sym, subst}
use Rattle.std.proofs.Common.{inl, inr, arith}
use Rattle.std.proofs.Math.ListN.{set, length-set}
use Rattle.std.proofs.lemmas.Bool.{cases_eq, cases_lt}
use Rattle.std.proofs.lemmas.List.{get_or_append_left, get_or_push, get_or-set_same, get_or-set_other, length_push}

-- what holds at each place of a list, and of an item at the place behind it, holds at each place after the push
pub each_pushed : {X : Type 0} (P : ℕ → X → Type 0) (xs : List X) (y d : X) →
    ((k : ℕ) → k < length xs → P k (get_or xs k d)) → P (length xs) y → (k : ℕ) → k < length (xs ++ y ∷ []) → P k
    (get_or (xs ++ y ∷ []) k d)
each_pushed P xs y d here there k h = elim (cases_lt k (length xs)) as (λ _. P k (get_or (xs ++ y ∷ []) k d)) [
  | inl lt ↦ subst (P k) (sym (get_or_append_left xs (y ∷ []) d k lt)) (here k lt)
  | inr ge ↦
      let more : length (xs ++ y ∷ []) ≡ length xs + 1 = length_push xs y in
      let last : length xs ≡ k = omega arith in
      subst (P k) (sym (get_or_push xs y d k last)) (subst (λ (n : ℕ). P n y) last there)
]

-- what holds at each other place of a list, and of an item at the place i, holds at each place after the write at i
pub each_written : {X : Type 0} (P : ℕ → X → Type 0) (xs : List X) (i : ℕ) (y d : X) → i < length xs →
    ((k : ℕ) → k < length xs → k ≢ i → P k (get_or xs k d)) → P i y → (k : ℕ) → k < length (set xs i y) → P k
    (get_or (set xs i y) k d)
each_written P xs i y d inside here there k h = elim (cases_eq k i) as (λ _. P k (get_or (set xs i y) k d)) [
  | inl same ↦ subst (λ (n : ℕ). P n (get_or (set xs i y) n d)) (sym same)
      (subst (P i) (sym (get_or-set_same xs i y d inside)) there)
  | inr other ↦ subst (P k) (sym (get_or-set_other xs i k y d other))
      (here k (subst (λ (n : ℕ). k < n) (length-set xs i y) h) other)
]

-- a write that keeps what f tells keeps it at each place
pub told_written : {X Y : Type 0} (f : X → Y) (xs : List X) (i : ℕ) (y d : X) → f y ≡ f (get_or xs i d) → (k : ℕ) → f
    (get_or (set xs i y) k d) ≡ f (get_or xs k d)
told_written f [] i y d e k = refl
told_written f (x ∷ xs) zero y d e zero = e
told_written f (x ∷ xs) zero y d e (suc k) = refl
told_written f (x ∷ xs) (suc i) y d e zero = refl
told_written f (x ∷ xs) (suc i) y d e (suc k) = told_written f xs i y d e k
