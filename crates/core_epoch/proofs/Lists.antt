-- What stands on a list, and that it stands there once.
use Rattle.std.proofs.Common.{◌≡◌, ◌≢◌, ◌⊎◌, ℕ, zero, suc, ◌+◌, ◌<◌, ◌≤◌, List, [], ◌∷◌, get_or, sym, ◌∙◌, arith, inl}
use Rattle.std.proofs.Common.{inr, ⊎_elim}
use Rattle.std.specs.Prelude.{AllPairs, Contains}
use Rattle.std.specs.List.{range_with_len}
use mathlib.Core.Logic.{dite}
use native.Mathlib.Decide.{ℕ_discrete}
use Rattle.std.proofs.lemmas.List.Elements.{Contains-get_or}

-- nothing is on no list
pub contains_none : (x : ℕ) → Contains [] x → ⊥
contains_none x at = let low = at.1 in omega arith

-- the first element, and a later one
pub contains_first : (x y : ℕ) (xs : List ℕ) → y ≡ x → Contains (y ∷ xs) x
contains_first x y xs same = (0, omega arith, same)

pub contains_later : (x y : ℕ) (xs : List ℕ) → Contains xs x → Contains (y ∷ xs) x
contains_later x y xs at = (suc at.0, omega (arith, at.1), at.2)

-- an element is the first or a later one
pub contains_cases : (x y : ℕ) (xs : List ℕ) → Contains (y ∷ xs) x → (y ≡ x) ⊎ Contains xs x
contains_cases x y xs (zero, low, at) = inl at
contains_cases x y xs (suc k, low, at) = inr (k, omega arith, at)

-- of elements that differ, the first stands apart from the rest, and the rest differ
pub once_first : (x : ℕ) (xs : List ℕ) → AllPairs ◌≢◌ (x ∷ xs) → (y : ℕ) → Contains xs y → x ≢ y
once_first x xs once y (k, low, at) = λ same. once 0 (suc k) y (omega arith) (omega (arith, low)) (same ∙ sym at)

pub once_rest : (x : ℕ) (xs : List ℕ) → AllPairs ◌≢◌ (x ∷ xs) → AllPairs ◌≢◌ xs
once_rest x xs once i j d low high = once (suc i) (suc j) d (omega (arith, low)) (omega (arith, high))

-- elements that differ, with one before them that differs from each
pub once_more : (x : ℕ) (xs : List ℕ) → ((y : ℕ) → Contains xs y → x ≢ y) → AllPairs ◌≢◌ xs → AllPairs ◌≢◌ (x ∷ xs)
once_more x xs apart once i zero d low high = absurd (omega arith)
once_more x xs apart once zero (suc j) d low high = apart (get_or xs j d) (Contains-get_or xs j d (omega arith))
once_more x xs apart once (suc i) (suc j) d low high = once i j d (omega arith) (omega arith)

-- the numbers from one on
pub range_contains : (k n x : ℕ) → k ≤ x → x < k + n → Contains (range_with_len k n) x
range_contains k zero x h t = absurd (omega (arith, h, t))
range_contains k (suc n) x h t = dite (ℕ_discrete k x)
    (λ same. contains_first x k (range_with_len (k + 1) n) same)
    (λ ne. contains_later x k (range_with_len (k + 1) n) (range_contains (k + 1) n x (omega (arith, h, ne))
    (omega (arith, t))))

pub range_within : (k n x : ℕ) → Contains (range_with_len k n) x → (k ≤ x) × (x < k + n)
range_within k zero x at = absurd (contains_none x at)
range_within k (suc n) x at =
    let later : Contains (range_with_len (k + 1) n) x → (k ≤ x) × (x < k + suc n) = λ m. let h = range_within
    (k + 1) n x m in (omega (arith, h.0), omega (arith, h.1)) in
    ⊎_elim (λ (same : k ≡ x). (omega (arith, same), omega (arith, same))) later
    (contains_cases x k (range_with_len (k + 1) n) at)

pub range_once : (k n : ℕ) → AllPairs ◌≢◌ (range_with_len k n)
range_once k zero = λ i j d low high. absurd (omega arith)
range_once k (suc n) = once_more k (range_with_len (k + 1) n)
    (λ y at same. let h = range_within (k + 1) n y at in omega (arith, h.0, same)) (range_once (k + 1) n)
