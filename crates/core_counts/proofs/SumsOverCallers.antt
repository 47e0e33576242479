-- The events of some kinds are the sum of those of each caller.
use Rattle.std.proofs.Common.{◌≡◌, ◌≢◌, ℕ, zero, suc, ◌+◌, ◌*◌, ◌<◌, ◌≤◌, Bool, true, false, cond, List, [], ◌∷◌, ◌++◌}
use Rattle.std.proofs.Common.{refl, sym, ap, subst, arith}
use mathlib.Core.Logic.{dite}
use native.Mathlib.Decide.{ℕ_discrete}
use Rattle.packed_link.specs.Layout.{Sizes}
use Rattle.core_journal.specs.declared.event.Kind.{Kind}
use Rattle.core_journal.specs.declared.event.Event.{Event}
use Rattle.core_journal.specs.State.{State, state}
use Rattle.core_journal.proofs.States.{state-snoc}
use Rattle.core_kept.specs.Counts.{made, all_made}
use Rattle.core_kept.specs.Kept.{IsKept}
use Rattle.core_kept.proofs.Induction.{kept_all}
use Rattle.core_kept.proofs.PastLives.{count_snoc}
use Rattle.core_kept.proofs.Callers.{called_by, drawn_more, made_other, made_none, made_one}
use Rattle.core_counts.specs.Totals.{total}

total_same : (f g : ℕ → ℕ) (n : ℕ) → ((i : ℕ) → i < n → f i ≡ g i) → total f n ≡ total g n
total_same f g zero h = refl
total_same f g (suc n) h = let a = h n (omega arith) in let b = total_same f g n
    (λ i low. h i (omega (arith, low))) in omega (arith, a, b)

total_one : (f g : ℕ → ℕ) (n k : ℕ) → k < n → g k ≡ f k + 1 → ((i : ℕ) → i ≢ k → g i ≡ f i) → total g n ≡ total f n + 1
total_one f g zero k low one rest = absurd (omega (arith, low))
total_one f g (suc n) k low one rest = dite (ℕ_discrete k n)
    (λ same.
    let a : g n ≡ f n + 1 = subst (λ (i : ℕ). g i ≡ f i + 1) same one in
    let b = total_same g f n (λ i less. rest i (λ h. omega (arith, h, same, less))) in
    omega (arith, a, b))
    (λ ne.
    let a = rest n (λ h. ne (sym h)) in
    let b = total_one f g n k (omega (arith, low, ne)) one rest in
    omega (arith, a, b))

pub total_most : (f g : ℕ → ℕ) (n : ℕ) → ((i : ℕ) → i < n → f i ≤ g i) → total f n ≤ total g n
total_most f g zero h = omega arith
total_most f g (suc n) h = let a = h n (omega arith) in let b = total_most f g n
    (λ i low. h i (omega (arith, low))) in omega (arith, a, b)

times : (n most : ℕ) → suc n * most ≡ most + n * most
times n most = omega arith

pub total_times : (f : ℕ → ℕ) (most n : ℕ) → ((i : ℕ) → i < n → f i ≤ most) → total f n ≤ n * most
total_times f most zero h = omega arith
total_times f most (suc n) h = let a = h n (omega arith) in let b = total_times f most n
    (λ i low. h i (omega (arith, low))) in omega (arith, a, b, times n most)

total_none : (f : ℕ → ℕ) (n : ℕ) → ((i : ℕ) → f i ≡ 0) → total f n ≡ 0
total_none f zero h = refl
total_none f (suc n) h = let a = h n in let b = total_none f n h in omega (arith, a, b)

module _ (sizes : Sizes) (test : Kind → Bool) (callers : ℕ) where
  sum_step : (past : List Event) (e : Event) → e.caller < callers → all_made test past ≡ total
      (λ (i : ℕ). made test i past) callers → all_made test (past ++ e ∷ []) ≡ total
      (λ (i : ℕ). made test i (past ++ e ∷ [])) callers
  sum_step past e low h = by (test e.kind) refl (count_snoc (λ (d : Event). test d.kind) past e)
    where
      by : (b : Bool) → test e.kind ≡ b → all_made test (past ++ e ∷ []) ≡ all_made test past + cond b 1 0
          → all_made test (past ++ e ∷ []) ≡ total (λ (i : ℕ). made test i (past ++ e ∷ [])) callers
      by true t more = let one = total_one (λ (i : ℕ). made test i past)
          (λ (i : ℕ). made test i (past ++ e ∷ [])) callers e.caller low (made_one test past e t)
          (λ i ne. made_other test i past e (λ h. ne (sym h))) in omega (arith, more, h, one)
      by false t more = let same = total_same (λ (i : ℕ). made test i (past ++ e ∷ []))
          (λ (i : ℕ). made test i past) callers (λ i _. made_none test i past e t) in omega (arith, more, h, same)

  pub all_sum : (journal : List Event) → IsKept sizes journal → (state sizes journal).drawn ≤ callers
      → all_made test journal ≡ total (λ (i : ℕ). made test i journal) callers
  all_sum journal kept = kept_all sizes (λ (j : List Event). (state sizes j).drawn ≤ callers → all_made test j ≡ total
      (λ (i : ℕ). made test i j) callers)
      (λ past e k h ok low.
      let drawn = ap (λ (s : State). s.drawn) (state-snoc sizes past e) in
      sum_step past e (omega (arith, called_by e.kind sizes past e ok.by ok.as_kind, drawn, low))
      (h (omega (arith, drawn_more sizes past e, low))))
      (λ low. sym (total_none (λ (i : ℕ). made test i []) callers (λ i. refl))) journal kept

pub total_times_more : (f g : ℕ → ℕ) (most n : ℕ) → ((i : ℕ) → i < n → f i ≤ most + g i)
    → total f n ≤ n * most + total g n
total_times_more f g most zero h = omega arith
total_times_more f g most (suc n) h = let a = h n (omega arith) in let b = total_times_more f g most n
    (λ i low. h i (omega (arith, low))) in omega (arith, a, b, times n most)
