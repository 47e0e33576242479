-- The ends of lives beside open passes, step by step.
use Rattle.std.proofs.Common.{◌≡◌, ℕ, ◌+◌, ◌<◌, ◌≤◌, ◌⊎◌, Bool, List, [], ◌∷◌, true, false, refl, arith, ⊎_elim, inl}
use Rattle.std.proofs.Common.{inr}
use mathlib.Core.Logic.{dite}
use native.Mathlib.Decide.{dec_le}
use Rattle.core_epoch.specs.Run.{IsRunOf, last_of}
use Rattle.core_epoch.specs.Clock.{Clock, IsNewClock, Announcements, IsNear}
use Rattle.core_epoch.specs.Steps.{ClockStep}
use Rattle.core_epoch.specs.Ends.{Ends, Ended, Ordered, EndsSome, GivesOld, Moment, IsNewMoment, Follows, IsSafe}
use Rattle.core_epoch.proofs.Births.{announcements_kept, announcements_new, epoch_rises, steps_count, near_kept}
use Rattle.core_epoch.proofs.Births.{near_new, open_after}

-- two numbers in order
le_or_lt : (a b : ℕ) → (a ≤ b) ⊎ (b < a)
le_or_lt a b = dite (dec_le a b) (λ h. inl h) (λ h. inr (omega (arith, h)))

-- no open pass began before the end of a life that ended two epochs ago
pub old_end_before : (clock : Clock) (ends : Ends) (i x : ℕ) → IsNear clock → Ordered clock ends
    → ends.epoch x + 2 ≤ clock.epoch → clock.is_open i ≡ true → ends.ended x ≤ clock.since i
old_end_before clock ends i x near c old o = ⊎_elim (λ h. h)
    (λ h. absurd (omega (arith, c.later i x o h, old, near.near i o)))
    (le_or_lt (ends.ended x) (clock.since i))

module _ (callers : ℕ) (old new : Clock) (before after : Ends) where
  pub ended_kept : Ended old before → ClockStep callers old new → EndsSome old before after → Ended new after
  ended_kept c step s =
      let rises : old.epoch ≤ new.epoch = epoch_rises callers old new step in
      let count : new.count ≡ old.count + 1 = steps_count callers old new step in
      record {
        epoch = λ x. ⊎_elim (λ k. omega (arith, k.epoch, c.epoch x, rises)) (λ n. omega (arith, n.epoch, rises)) (s x);
        ended = λ x. ⊎_elim (λ k. omega (arith, k.ended, c.ended x, count)) (λ n. omega (arith, n.ended, count)) (s x);
      }

  -- of a pass that was open
  later_was : Announcements callers old → Ordered old before → EndsSome old before after → (x i : ℕ)
      → old.is_open i ≡ true → old.since i < after.ended x → old.birth i ≤ after.epoch x
  later_was a c s x i o h = ⊎_elim
      (λ k. omega (arith, c.later i x o (omega (arith, h, k.ended)), k.epoch))
      (λ n. omega (arith, (a.inside i o).born, n.epoch)) (s x)

  unspent_was : IsNear old → Ordered old before → EndsSome old before after → GivesOld old before after → (x i : ℕ)
      → after.is_spent x ≡ false → old.is_open i ≡ true → after.ended x ≤ old.since i
  unspent_was near c s g x i u o = ⊎_elim
      (λ k. omega (arith, k.ended, by (before.is_spent x) refl))
      (λ n. let t : after.is_spent x ≡ true = n.spent in absurd (cc)) (s x)
    where
      by : (b : Bool) → before.is_spent x ≡ b → before.ended x ≤ old.since i
      by true is = old_end_before old before i x near c (g x is u) o
      by false is = c.unspent i x o is

  pub ordered_kept : Announcements callers old → IsNear old → Ended old before → Ordered old before
      → ClockStep callers old new → EndsSome old before after → GivesOld old before after → Ordered new after
  ordered_kept a near e c step s g = record {
    later = λ i x. open_after callers old new (λ (i birth since : ℕ). since < after.ended x → birth ≤ after.epoch x)
        step
        (λ i o h. later_was a c s x i o h)
        (λ i h. ⊎_elim (λ k. absurd (omega (arith, k.ended, e.ended x, h))) (λ n. omega (arith, n.epoch)) (s x)) i;
    unspent = λ i x o u. open_after callers old new (λ (i birth since : ℕ). after.ended x ≤ since) step
        (λ i o. unspent_was near c s g x i u o)
        (λ i. ⊎_elim (λ k. omega (arith, k.ended, e.ended x))
        (λ n. let t : after.is_spent x ≡ true = n.spent in absurd (cc)) (s x)) i o;
  }

pub ordered_new : (callers : ℕ) (clock : Clock) (ends : Ends) → IsNewClock callers clock → Ordered clock ends
ordered_new callers clock ends n = record {
  later = λ i x o h. let t = n.closed i in absurd
      (cc);
  unspent = λ i x o u. let t = n.closed i in absurd (cc);
}

-- along runs
module _ (callers : ℕ) where
  safe_kept : (old new : Moment) → IsSafe callers old → Follows callers old new → IsSafe callers new
  safe_kept old new c f = record {
    announcements = announcements_kept callers old.clock new.clock c.announcements f.step;
    near = near_kept callers old.clock new.clock c.announcements c.near f.step f.moves;
    ended = ended_kept callers old.clock new.clock old.ends new.ends c.ended f.step f.ends;
    ordered = ordered_kept callers old.clock new.clock old.ends new.ends c.announcements c.near c.ended c.ordered f.step
        f.ends f.gives;
  }

  safe_run : (first : Moment) (rest : List Moment) → IsSafe callers first → IsRunOf (Follows callers) first rest
      → IsSafe callers (last_of first rest)
  safe_run first [] c run = c
  safe_run first (next ∷ rest) c run = safe_run next rest (safe_kept first next c run.0) run.1

  pub run_is_safe : (first : Moment) (rest : List Moment) → IsNewMoment callers first → IsRunOf
      (Follows callers) first rest → IsSafe callers (last_of first rest)
  run_is_safe first rest n run = safe_run first rest record {
    announcements = announcements_new callers first.clock n.clock;
    near = near_new callers first.clock n.clock;
    ended = n.ends;
    ordered = ordered_new callers first.clock first.ends n.clock;
  } run
