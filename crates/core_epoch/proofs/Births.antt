-- Announcements and births of passes, step by step.
use Rattle.std.proofs.Common.{◌≡◌, ℕ, ◌+◌, ◌<◌, ◌≤◌, List, [], ◌∷◌, true, false, refl, sym, ap, ◌∙◌, subst, arith}
use Rattle.std.proofs.Common.{⊎_elim}
use mathlib.Core.Logic.{dite}
use native.Mathlib.Decide.{ℕ_discrete}
use Rattle.core_epoch.specs.Run.{IsRunOf, last_of}
use Rattle.core_epoch.specs.Clock.{Clock, IsNewClock, IsOpenPass, Announcements, IsNear, IsClear}
use Rattle.core_epoch.specs.Steps.{KeepsPass, Announces, Withdraws, ClockStep, announce, withdraw, move, rest}
use Rattle.core_epoch.specs.Steps.{MovesClear, IsFoundClear}

module _ (callers : ℕ) (old new : Clock) where
  -- a pass that is kept
  inside_kept : (i : ℕ) → KeepsPass callers old new i → old.epoch ≤ new.epoch → old.count ≤ new.count
      → Announcements callers old → new.is_open i ≡ true → IsOpenPass callers new i
  inside_kept i keep later more c o =
      let was : IsOpenPass callers old i = c.inside i (sym keep.is_open ∙ o) in
      let word : new.word i ≡ old.word i = keep.word was.there in
      record {
        there = was.there;
        some = omega (arith, word, was.some);
        old = omega
            (arith, word, was.old, keep.birth);
        born = omega (arith, was.born, keep.birth, later);
        began = omega
            (arith, was.began, keep.since, more);
      }

  outside_kept : (i : ℕ) → KeepsPass callers old new i → Announcements callers old → i < callers → new.is_open i ≡ false
      → new.word i ≡ 0
  outside_kept i keep c small o = keep.word small ∙ c.outside i small (sym keep.is_open ∙ o)

  announcements_all : ((i : ℕ) → KeepsPass callers old new i) → old.epoch ≤ new.epoch → old.count ≤ new.count
      → Announcements callers old → Announcements callers new
  announcements_all keep later more c = record {
    inside = λ i o. inside_kept i
        (keep i) later more c o;
    outside = λ i small o. outside_kept i (keep i) c small o;
  }

  announcements_opened : (caller loaded : ℕ) → Announces callers old new caller loaded → Announcements callers old
      → Announcements callers new
  announcements_opened caller loaded s c = record {
    inside = λ i o. dite (ℕ_discrete i caller)
        (λ same. subst (IsOpenPass callers new) (sym same) record {
          there = s.there;
          some = omega (arith, s.word);
          old = omega
              (arith, s.word, s.birth, s.reached);
          born = omega (arith, s.birth, s.epoch);
          began = omega
              (arith, s.since, s.count);
        })
        (λ ne. inside_kept i (s.others i ne) (omega (arith, s.epoch)) (omega (arith, s.count)) c o);
    outside = λ i small o. dite (ℕ_discrete i caller)
        (λ same. let t : new.is_open i ≡ true = ap new.is_open same ∙ s.opens in absurd (cc))
        (λ ne. outside_kept i (s.others i ne) c small o);
  }

  announcements_closed : (caller : ℕ) → Withdraws callers old new caller → Announcements callers old
      → Announcements callers new
  announcements_closed caller s c = record {
    inside = λ i o. dite (ℕ_discrete i caller)
        (λ same. let t : new.is_open i ≡ false = ap new.is_open same ∙ s.closes in absurd (cc))
        (λ ne. inside_kept i (s.others i ne) (omega (arith, s.epoch)) (omega (arith, s.count)) c o);
    outside = λ i small o. dite (ℕ_discrete i caller)
        (λ same. ap new.word same ∙ s.word)
        (λ ne. outside_kept i (s.others i ne) c small o);
  }

  -- each step keeps what announcements tell
  pub announcements_kept : Announcements callers old → ClockStep callers old new → Announcements callers new
  announcements_kept c (announce caller loaded s) = announcements_opened caller loaded s c
  announcements_kept c (withdraw caller s) = announcements_closed caller s c
  announcements_kept c (move s) = announcements_all s.passes (omega (arith, s.epoch)) (omega (arith, s.count)) c
  announcements_kept c (rest s) = announcements_all s.passes (omega (arith, s.epoch)) (omega (arith, s.count)) c

  -- each step keeps the epoch or moves it on, and is counted
  pub epoch_rises : ClockStep callers old new → old.epoch ≤ new.epoch
  epoch_rises (announce caller loaded s) = omega (arith, s.epoch)
  epoch_rises (withdraw caller s) = omega (arith, s.epoch)
  epoch_rises (move s) = omega (arith, s.epoch)
  epoch_rises (rest s) = omega (arith, s.epoch)

  pub steps_count : ClockStep callers old new → new.count ≡ old.count + 1
  steps_count (announce caller loaded s) = s.count
  steps_count (withdraw caller s) = s.count
  steps_count (move s) = s.count
  steps_count (rest s) = s.count

  -- a fact of an open pass holds after a step, where it holds of a new pass and stays of one that is kept
  pub open_after : (P : ℕ → ℕ → ℕ → Type 0) → ClockStep callers old new
      → ((i : ℕ) → old.is_open i ≡ true → P i (old.birth i) (old.since i)) → ((i : ℕ) → P i old.epoch old.count)
      → (i : ℕ) → new.is_open i ≡ true → P i (new.birth i) (new.since i)
  open_after P step was fresh i o = by step
    where
      kept : KeepsPass callers old new i → P i (new.birth i) (new.since i)
      kept keep = subst (λ (n : ℕ). P i (new.birth i) n) (sym keep.since)
          (subst (λ (n : ℕ). P i n (old.since i)) (sym keep.birth) (was i (sym keep.is_open ∙ o)))

      begun : (caller loaded : ℕ) → Announces callers old new caller loaded → P i (new.birth i) (new.since i)
      begun caller loaded s = dite (ℕ_discrete i caller)
          (λ same.
          let birth : new.birth i ≡ old.epoch = ap new.birth same ∙ s.birth in
          let since : new.since i ≡ old.count = ap new.since same ∙ s.since in
          subst (λ (n : ℕ). P i (new.birth i) n) (sym since) (subst (λ (n : ℕ). P i n old.count) (sym birth) (fresh i)))
          (λ ne. kept (s.others i ne))

      ended : (caller : ℕ) → Withdraws callers old new caller → P i (new.birth i) (new.since i)
      ended caller s = dite (ℕ_discrete i caller)
          (λ same. let t : new.is_open i ≡ false = ap new.is_open same ∙ s.closes in absurd (cc))
          (λ ne. kept (s.others i ne))

      by : ClockStep callers old new → P i (new.birth i) (new.since i)
      by (announce caller loaded s) = begun caller loaded s
      by (withdraw caller s) = ended caller s
      by (move s) = kept (s.passes i)
      by (rest s) = kept (s.passes i)

  -- being clear is kept by each step
  pub clear_kept : (seen caller : ℕ) → IsClear seen caller old → ClockStep callers old new → IsClear seen caller new
  clear_kept seen caller c step = record {
    reached = omega (arith, c.reached, epoch_rises step);
    born = λ o. open_after (λ (i birth since : ℕ). i ≡ caller → seen ≤ birth) step
        (λ i was same. let h : old.is_open caller ≡ true = ap old.is_open (sym same) ∙ was in omega
        (arith, c.born h, ap old.birth same)) (λ i same. c.reached) caller o refl;
  }

  -- the epoch is at most one above the birth of an open pass, where it moves on only if each caller is clear of it
  pub near_kept : Announcements callers old → IsNear old → ClockStep callers old new → MovesClear callers old new
      → IsNear new
  near_kept a c step clear = record {
    near = λ i o. open_after (λ (i birth since : ℕ). new.epoch ≤ birth + 1) step was
        (λ i. omega (arith, one_more step)) i o;
  }
    where
      one_more : ClockStep callers old new → new.epoch ≤ old.epoch + 1
      one_more (announce caller loaded s) = omega (arith, s.epoch)
      one_more (withdraw caller s) = omega (arith, s.epoch)
      one_more (move s) = omega (arith, s.epoch)
      one_more (rest s) = omega (arith, s.epoch)

      moved : (i : ℕ) → old.is_open i ≡ true → new.epoch ≡ old.epoch + 1 → new.epoch ≤ old.birth i + 1
      moved i o is = omega (arith, is, (clear (omega (arith, is)) i (a.inside i o).there).born o)

      stayed : (i : ℕ) → old.is_open i ≡ true → new.epoch ≡ old.epoch → new.epoch ≤ old.birth i + 1
      stayed i o is = omega (arith, is, c.near i o)

      was : (i : ℕ) → old.is_open i ≡ true → new.epoch ≤ old.birth i + 1
      was i o = by step
        where
          by : ClockStep callers old new → new.epoch ≤ old.birth i + 1
          by (announce caller loaded s) = stayed i o s.epoch
          by (withdraw caller s) = stayed i o s.epoch
          by (move s) = moved i o s.epoch
          by (rest s) = stayed i o s.epoch

-- where no pass is open
pub announcements_new : (callers : ℕ) (clock : Clock) → IsNewClock callers clock → Announcements callers clock
announcements_new callers clock n = record {
  inside = λ i o. let t = n.closed i in absurd
      (cc);
  outside = λ i small o. n.silent i small;
}

pub near_new : (callers : ℕ) (clock : Clock) → IsNewClock callers clock → IsNear clock
near_new callers clock n = record { near = λ i o. let t = n.closed i in absurd (cc) }

-- a caller that was found clear
pub found_clear : (callers seen caller : ℕ) (clock : Clock) → Announcements callers clock → seen ≤ clock.epoch
    → IsFoundClear seen caller clock → IsClear seen caller clock
found_clear callers seen caller clock a reached found = record {
  reached = reached;
  born = λ o. let q = a.inside caller o in ⊎_elim (λ h. absurd (omega (arith, h, q.some)))
      (λ h. omega (arith, h, q.old)) found;
}

-- along runs
module _ (callers : ℕ) where
  pub epoch_runs : (first : Clock) (run : List Clock) → IsRunOf (ClockStep callers) first run → first.epoch ≤
      (last_of first run).epoch
  epoch_runs first [] go = omega arith
  epoch_runs first (next ∷ more) go = omega (arith, epoch_rises callers first next go.0, epoch_runs next more go.1)

  announcements_run : (first : Clock) (run : List Clock) → Announcements callers first → IsRunOf
      (ClockStep callers) first run → Announcements callers (last_of first run)
  announcements_run first [] c go = c
  announcements_run first (next ∷ more) c go = announcements_run next more
      (announcements_kept callers first next c go.0) go.1

  clear_run : (seen caller : ℕ) (first : Clock) (run : List Clock) → IsClear seen caller first → IsRunOf
      (ClockStep callers) first run → IsClear seen caller (last_of first run)
  clear_run seen caller first [] c go = c
  clear_run seen caller first (next ∷ more) c go = clear_run seen caller next more
      (clear_kept callers first next seen caller c go.0) go.1

  pub checks_clear : (caller : ℕ) (loaded : Clock) (between later : List Clock) → Announcements callers loaded → IsRunOf
      (ClockStep callers) loaded between → IsFoundClear loaded.epoch caller (last_of loaded between)
      → IsRunOf (ClockStep callers) (last_of loaded between) later → IsClear loaded.epoch caller
      (last_of (last_of loaded between) later)
  checks_clear caller loaded between later a run found more =
      clear_run loaded.epoch caller (last_of loaded between) later
      (found_clear callers loaded.epoch caller (last_of loaded between) (announcements_run loaded between a run)
      (epoch_runs loaded between run) found) more
