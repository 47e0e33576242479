-- The order of a heap: none costs less than the row at place 0.
use Rattle.std.proofs.Common.{◌≡◌, ℕ, zero, suc, ◌-◌, ◌/◌, ◌<◌, ◌≤◌, inl, inr, sym, subst, arith}
use Rattle.std.proofs.lemmas.Bool.{cases_lt}
use Rattle.path_costs.specs.Heap.{IsBelow}

-- a place but the first is right below another
pub above : (p : ℕ) → 0 < p → IsBelow ((p - 1) / 2) p
above p pos = (omega arith, omega arith)

-- in a heap in order none costs less than the first
pub first_least : (cost : ℕ → ℕ) (places : ℕ) → ((q p : ℕ) → p < places → IsBelow q p → cost q ≤ cost p) → (n p : ℕ)
    → p ≤ n → p < places → cost 0 ≤ cost p
first_least cost places ordered zero p le h =
    let e : p ≡ 0 = omega arith in
    subst (λ (r : ℕ). cost 0 ≤ cost r) (sym e) (omega arith)
first_least cost places ordered (suc n) p le h = elim (cases_lt 0 p) as (λ _. cost 0 ≤ cost p) [
  | inl pos ↦
      let q : ℕ = (p - 1) / 2 in
      let b = above p pos in
      let before = first_least cost places ordered n q (omega (arith, b.0, le)) (omega (arith, b.0, h)) in
      omega (arith, before, ordered q p h b)
  | inr none ↦
      let e : p ≡ 0 = omega (arith, none) in
      subst (λ (r : ℕ). cost 0 ≤ cost r) (sym e) (omega arith)
]
