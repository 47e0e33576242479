-- An open pass began at most one epoch ago.
use Rattle.std.proofs.Common.{ℕ, ◌<◌, List, arith, ⊎_elim, inl, inr}
use Rattle.packed_link.specs.Layout.{Sizes, epoch_at}
use Rattle.core_epoch.specs.Clock.{IsClear, IsNear}
use Rattle.core_epoch.specs.Steps.{MovesClear}
use Rattle.core_epoch.proofs.Births.{clear_kept, found_clear, near_kept}
use Rattle.core_journal.specs.declared.event.Kind.{Kind}
use Rattle.core_journal.specs.declared.event.Kind.TheVariants.{MoveEpoch}
use Rattle.core_journal.specs.declared.event.Event.{Event}
use Rattle.core_journal.specs.Machine.{word_at}
use Rattle.core_journal.specs.State.{State, state_by, state}
use Rattle.core_kept.specs.Kept.{AllowedAs, IsKept}
use Rattle.core_kept.specs.Moments.{clock_by, clock_in}
use Rattle.core_kept.specs.Passes.{IsChecked}
use Rattle.core_kept.proofs.Induction.{kept_front}
use Rattle.core_kept.proofs.ByKind.{KeepsByKind, holds_all, holds_onward}
use Rattle.core_kept.proofs.FirstWords.{numbers}
use Rattle.core_kept.proofs.Announcements.{announcements, clock_step, epoch_was}

clear_step : (sizes : Sizes) (seen i : ℕ) → KeepsByKind sizes
    (λ (s : State) (w : ℕ → ℕ). IsClear seen i (clock_by sizes s w))
clear_step sizes seen i past e kept c k by ok w a = clear_kept sizes.callers (clock_in sizes past)
    (clock_by sizes (state_by k sizes e (state sizes past)) w) seen i c (clock_step k sizes past e kept ok w a)

-- a caller that was checked after the epoch was seen has no pass that began before that epoch, whatever began in
-- between
pub checked : (sizes : Sizes) (from past : List Event) (i : ℕ) → i < sizes.callers → IsKept sizes past
    → IsChecked sizes from past (word_at sizes from (epoch_at sizes)) i → IsClear
    (word_at sizes from (epoch_at sizes)) i (clock_in sizes past)
checked sizes from past i small kept c =
    let then = kept_front sizes c.moment past c.before kept in
    let seen = word_at sizes from (epoch_at sizes) in
    holds_onward sizes (λ (s : State) (w : ℕ → ℕ). IsClear seen i (clock_by sizes s w))
    (clear_step sizes seen i) c.moment past c.before kept
    (found_clear sizes.callers seen i (clock_in sizes c.moment) (announcements sizes c.moment then)
    (epoch_was sizes from c.moment c.after then) c.clear)

-- the epoch moves on only where each caller is clear of it
moves_clear : (k : Kind) (sizes : Sizes) (past : List Event) (e : Event) → IsKept sizes past → AllowedAs k sizes past e
    → (w : ℕ → ℕ) → MovesClear sizes.callers (clock_in sizes past)
    (clock_by sizes (state_by k sizes e (state sizes past)) w)
moves_clear MoveEpoch sizes past e kept ok w more i small =
    let l = ok.checked i small in
    let k : IsChecked sizes ok.loaded past (word_at sizes ok.loaded (epoch_at sizes)) i = record {
      moment = l.moment;
      after = l.after;
      before = l.before;
      clear = ⊎_elim (λ h. inl h)
          (λ h. inr (omega (arith, h, ok.seen))) l.clear;
    } in
    let c = checked sizes ok.loaded past i small kept k in
    let epoch = (numbers sizes past kept).epoch in
    record { reached = omega arith; born = λ o. omega (arith, c.born o, ok.seen, epoch) }
moves_clear _ sizes past e kept ok w more i small = absurd (omega (arith, more))

near_step : (sizes : Sizes) → KeepsByKind sizes (λ (s : State) (w : ℕ → ℕ). IsNear (clock_by sizes s w))
near_step sizes past e kept c k by ok w a = near_kept sizes.callers (clock_in sizes past)
    (clock_by sizes (state_by k sizes e (state sizes past)) w) (announcements sizes past kept) c
    (clock_step k sizes past e kept ok w a) (moves_clear k sizes past e kept ok w)

-- the epoch and open passes after each kept journal
pub near : (sizes : Sizes) (journal : List Event) → IsKept sizes journal → IsNear (clock_in sizes journal)
near sizes journal kept = holds_all sizes (λ (s : State) (w : ℕ → ℕ). IsNear (clock_by sizes s w)) (near_step sizes)
    (record { near = λ i o. absurd (cc) }) journal kept
