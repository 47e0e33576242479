-- Passes: each event is a step of core_epoch's clock, so an announcement is 0 outside its pass, and in it one above an
-- epoch
-- that is no later than the pass's birth.
use Rattle.std.proofs.Common.{◌≡◌, ◌≢◌, ℕ, ◌<◌, ◌≤◌, List, [], true, false, refl, ap, ◌∙◌, subst, arith}
use Rattle.packed_link.specs.Layout.{Sizes, AnnounceWord, epoch_at, announce_at}
use Rattle.core_epoch.specs.Clock.{Announcements}
use Rattle.core_epoch.specs.Steps.{KeepsPass, ClockStep, announce, withdraw, move, rest}
use Rattle.core_epoch.proofs.Births.{announcements_new, announcements_kept}
use Rattle.core_journal.specs.declared.event.Kind.{Kind}
use Rattle.core_journal.specs.declared.event.Kind.TheVariants.{Announce as Announcing, Withdraw, MoveEpoch}
use Rattle.core_journal.specs.declared.event.Event.{Event}
use Rattle.core_journal.specs.Prefix.{IsPrefix}
use Rattle.core_journal.specs.Machine.{word_at}
use Rattle.core_journal.specs.State.{Pass, State, put, state_by, opening, state}
use Rattle.core_journal.proofs.MachineWords.{word_first}
use Rattle.core_kept.specs.Kept.{AllowedAs, IsKept}
use Rattle.core_kept.specs.Moments.{clock_by, clock_in}
use Rattle.core_kept.proofs.Induction.{kept_front}
use Rattle.core_kept.proofs.ByKind.{IsAfter, KeepsByKind, put_same, put_other, holds_all, holds_onward}
use Rattle.core_kept.proofs.FirstWords.{numbers}

rises_step : (sizes : Sizes) (low : ℕ) → KeepsByKind sizes (λ (s : State) (w : ℕ → ℕ). low ≤ s.epoch)
rises_step sizes low past e kept h MoveEpoch by ok w a = omega (arith, h)
rises_step sizes low past e kept h _ by ok w a = h

-- the epoch only rises
pub epoch_rises : (sizes : Sizes) (front journal : List Event) → IsPrefix front journal → IsKept sizes journal →
    (state sizes front).epoch ≤ (state sizes journal).epoch
epoch_rises sizes front journal p kept = holds_onward sizes (λ (s : State) (w : ℕ → ℕ).
    (state sizes front).epoch ≤ s.epoch) (rises_step sizes (state sizes front).epoch) front journal p kept (omega arith)

-- an epoch that was loaded at an earlier moment
pub epoch_was : (sizes : Sizes) (front journal : List Event) → IsPrefix front journal → IsKept sizes journal
    → word_at sizes front (epoch_at sizes) ≤ (state sizes journal).epoch
epoch_was sizes front journal p kept = omega (
  arith,
  epoch_rises sizes front journal p kept,
  (numbers sizes front (kept_front sizes front journal p kept)).epoch,
)

-- so the word of the epoch only rises
pub epoch_word_rises : (sizes : Sizes) (front journal : List Event) → IsPrefix front journal → IsKept sizes journal
    → word_at sizes front (epoch_at sizes) ≤ word_at sizes journal (epoch_at sizes)
epoch_word_rises sizes front journal p kept = omega (
  arith,
  epoch_was sizes front journal p kept,
  (numbers sizes journal kept).epoch,
)

-- a pass that is not its caller's stays
pass_else : (sizes : Sizes) (past : List Event) (e : Event) (w : ℕ → ℕ) (q : Pass) (s' : State) → IsAfter sizes past e w
    → e.place ≡ announce_at sizes e.caller
    → ((i : ℕ) → s'.pass i ≡ put e.caller q (state sizes past).pass i) → (i : ℕ) → i ≢ e.caller
    → KeepsPass sizes.callers (clock_in sizes past) (clock_by sizes s' w) i
pass_else sizes past e w q s' a place is i ne =
    let same : s'.pass i ≡ (state sizes past).pass i = is i ∙ put_other e.caller q (state sizes past).pass i ne in
    record {
      is_open = ap (λ (q : Pass). q.is_open) same;
      birth = ap (λ (q : Pass). q.birth) same;
      since = ap (λ (q : Pass). q.since) same;
      word = λ _. a.else (announce_at sizes i) (λ h. ne (omega (arith, place, h)));
    }

-- where no announcement is written, all passes stay
passes_stay : (sizes : Sizes) (past : List Event) (e : Event) (w : ℕ → ℕ) (s' : State) → IsAfter sizes past e w →
    ((i : ℕ) → i < sizes.callers → announce_at sizes i ≢ e.place)
    → ((i : ℕ) → s'.pass i ≡ (state sizes past).pass i) → (i : ℕ) → KeepsPass sizes.callers (clock_in sizes past)
    (clock_by sizes s' w) i
passes_stay sizes past e w s' a else is i = record {
  is_open = ap (λ (q : Pass). q.is_open) (is i);
  birth = ap (λ (q : Pass). q.birth) (is i);
  since = ap (λ (q : Pass). q.since) (is i);
  word = λ small. a.else (announce_at sizes i) (else i small);
}

-- each event is a step of the clock
pub clock_step : (k : Kind) (sizes : Sizes) (past : List Event) (e : Event) → IsKept sizes past
    → AllowedAs k sizes past e → (w : ℕ → ℕ) → IsAfter sizes past e w
    → ClockStep sizes.callers (clock_in sizes past) (clock_by sizes (state_by k sizes e (state sizes past)) w)
clock_step Announcing sizes past e kept ok w a =
    let s : State = state sizes past in
    let q : Pass = record { is_open = true; birth = s.epoch; since = s.count } in
    let here : put e.caller q s.pass e.caller ≡ q = put_same e.caller q s.pass in
    announce e.caller (word_at sizes ok.loaded (epoch_at sizes)) record {
      there = ok.there;
      closed = ok.closed;
      reached = epoch_was sizes ok.loaded past ok.before kept;
      opens = ap (λ (q : Pass). q.is_open) here;
      birth = ap (λ (q : Pass). q.birth) here;
      since = ap (λ (q : Pass). q.since) here;
      word = subst (λ (i : ℕ). w i ≡ e.word) ok.place (a.here (omega (arith, ok.place, ok.there))) ∙ ok.word;
      others = pass_else sizes past e w q (state_by Announcing sizes e (state sizes past)) a ok.place (λ i. refl);
      epoch = refl;
      count = refl;
    }
clock_step Withdraw sizes past e kept ok w a =
    let s : State = state sizes past in
    let q : Pass = record (s.pass e.caller) { is_open = false } in
    let here : put e.caller q s.pass e.caller ≡ q = put_same e.caller q s.pass in
    withdraw e.caller record {
      there = ok.there;
      open_before = ok.pass;
      closes = ap (λ (q : Pass). q.is_open) here;
      word = subst (λ (i : ℕ). w i ≡ e.word) ok.place (a.here (omega (arith, ok.place, ok.there))) ∙ ok.word;
      others = pass_else sizes past e w q (state_by Withdraw sizes e (state sizes past)) a ok.place (λ i. refl);
      epoch = refl;
      count = refl;
    }
clock_step MoveEpoch sizes past e kept ok w a = move record {
  passes = passes_stay sizes past e w
      (state_by MoveEpoch sizes e (state sizes past)) a (λ i small h. omega (arith, ok.place, h, small))
      (λ i. refl);
  epoch = refl;
  count = refl;
}
clock_step k sizes past e kept ok w a = rest record {
  passes = passes_stay sizes past e w
      (state_by k sizes e (state sizes past)) a (λ i small h. omega (arith, ok.place, ok.there, h, small))
      (λ i. refl);
  epoch = refl;
  count = refl;
}

announcements_step : (sizes : Sizes) → KeepsByKind sizes (λ (s : State) (w : ℕ → ℕ). Announcements sizes.callers
    (clock_by sizes s w))
announcements_step sizes past e kept c k by ok w a = announcements_kept sizes.callers (clock_in sizes past)
    (clock_by sizes (state_by k sizes e (state sizes past)) w) c (clock_step k sizes past e kept ok w a)

-- each announcement
pub announcements : (sizes : Sizes) (journal : List Event) → IsKept sizes journal → Announcements sizes.callers
    (clock_in sizes journal)
announcements sizes journal kept = holds_all sizes (λ (s : State) (w : ℕ → ℕ). Announcements sizes.callers
    (clock_by sizes s w)) (announcements_step sizes)
    (announcements_new sizes.callers (clock_by sizes (opening sizes) (word_at sizes [])) record
    { closed = λ i. refl; silent = λ i small. word_first sizes (AnnounceWord i) small }) journal kept
