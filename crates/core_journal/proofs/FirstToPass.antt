-- Where an event passes a test, one is the first that does.
use Rattle.std.proofs.Common.{◌≡◌, ◌≢◌, ℕ, zero, suc, ◌+◌, ◌-◌, ◌<◌, ◌≤◌, Bool, true, false, List, take, Option, Some}
use Rattle.std.proofs.Common.{None, refl, sym, ap, ◌∙◌, subst, arith, true≢false}
use Rattle.std.specs.Prelude.{slice_get}
use mathlib.Core.Logic.{dite}
use native.Mathlib.Decide.{ℕ_discrete}
use Rattle.core_journal.specs.declared.event.Event.{Event}
use Rattle.core_journal.specs.Passing.{IsFirst}

module _ (test : List Event → Event → Bool) (journal : List Event) where
  abbrev FirstUpTo : ℕ → ℕ → Type 0
  FirstUpTo start p = (m : ℕ) × (m ≤ p) × IsFirst test journal start m

  earlier : (start p : ℕ) → FirstUpTo (start + 1) p → ((e : Event) → slice_get journal start ≡ Some e → test
      (take start journal) e ≡ false) → FirstUpTo start p
  earlier start p (m, until, f) none = (
    m,
    until,
    record {
      event = f.event;
      since = omega (arith, f.since);
      at = f.at;
      passes = f.passes;
      before = λ k e from less at. dite (ℕ_discrete k start)
          (λ is. subst (λ (i : ℕ). test (take i journal) e ≡ false) (sym is)
          (none e (subst (λ (i : ℕ). slice_get journal i ≡ Some e) is at)))
          (λ ne. f.before k e (next k start from ne) less at);
    },
  )
    where
      next : (k s : ℕ) → s ≤ k → k ≢ s → s + 1 ≤ k
      next zero zero less ne = absurd (ne refl)
      next (suc k) zero less ne = omega arith
      next zero (suc s) less ne = absurd (omega arith)
      next (suc k) (suc s) less ne = omega (arith, next k s (omega arith) (λ is. ne (ap suc is)))

  first_by : (n start p : ℕ) (e : Event) → p ≡ start + n → slice_get journal p ≡ Some e → test (take p journal) e ≡ true
      → FirstUpTo start p
  first_by zero start p e is at h = (
    p,
    omega arith,
    record {
      event = e;
      since = omega
          (arith, is);
      at = at;
      passes = h;
      before = λ k d from less _. absurd (omega (arith, is, from, less));
    },
  )
  first_by (suc n) start p e is at h = by (first_by n (start + 1) p e (omega (arith, is)) at h)
      (slice_get journal start) refl
    where
      case : FirstUpTo (start + 1) p → (d : Event) → slice_get journal start ≡ Some d → (b : Bool) → test
          (take start journal) d ≡ b → FirstUpTo start p
      case later d here true t = (
        start,
        omega (arith, is),
        record {
          event = d;
          since = omega arith;
          at = here;
          passes = t;
          before = λ k c from less _. absurd
              (omega (arith, from, less));
        },
      )
      case later d here false t = earlier start p later (λ c at_c. let same : d ≡ c = cc in ap
          (test (take start journal)) (sym same) ∙ t)

      by : FirstUpTo (start + 1) p → (o : Option Event) → slice_get journal start ≡ o → FirstUpTo start p
      by later None here = earlier start p later (λ c at_c. absurd (cc))
      by later (Some d) here = case later d here (test (take start journal) d) refl

  -- where an event passes, one is the first that does
  pub first_passing : (start p : ℕ) (e : Event) → start ≤ p → slice_get journal p ≡ Some e → test
      (take p journal) e ≡ true → FirstUpTo start p
  first_passing start p e since at h = first_by (p - start) start p e (omega arith) at h

  -- and only one
  pub one_first : (start m n : ℕ) → IsFirst test journal start m → IsFirst test journal start n → m ≡ n
  one_first start m n f g = omega (arith, no_later m n f g, no_later n m g f)
    where
      not_less : (a b : ℕ) → (a < b → ⊥) → b ≤ a
      not_less a zero h = omega arith
      not_less zero (suc b) h = absurd (h (omega arith))
      not_less (suc a) (suc b) h = omega (arith, not_less a b (λ (g : a < b). h (omega arith)))

      no_later : (m n : ℕ) → IsFirst test journal start m → IsFirst test journal start n → m ≤ n
      no_later m n f g = not_less n m (λ (h : n < m). true≢false (sym g.passes ∙ f.before n g.event g.since h g.at))
