-- Words 1, 2 and 3: how many numbers are drawn, the epoch, and the changes of the free list.
use Rattle.std.proofs.Common.{◌≡◌, ℕ, List, subst, arith}
use Rattle.packed_link.specs.Layout.{Sizes, NumberWord, EpochWord}
use Rattle.core_journal.specs.declared.event.Kind.TheVariants.{DrawNumber, MoveEpoch}
use Rattle.core_journal.specs.declared.event.Event.{Event}
use Rattle.core_journal.specs.Machine.{word_at}
use Rattle.core_journal.specs.State.{state}
use Rattle.core_journal.proofs.MachineWords.{word_first}
use Rattle.core_kept.specs.Kept.{IsKept}
use Rattle.core_kept.specs.Facts.{FirstWords}
use Rattle.core_kept.proofs.ByKind.{KeepsByKind, holds_all}

numbers_step : (sizes : Sizes) → KeepsByKind sizes (FirstWords sizes)
numbers_step sizes past e kept c DrawNumber by ok w a =
    let here : w 1 ≡ e.word = subst (λ (i : ℕ). w i ≡ e.word) ok.place (a.here (omega (arith, ok.place))) in
    record {
      numbers = omega (arith, here, ok.word, c.numbers);
      room = omega (arith, ok.there, ok.caller);
      epoch = omega
          (arith, a.else 2 (omega (arith, ok.place)), c.epoch);
    }
numbers_step sizes past e kept c MoveEpoch by ok w a =
    let here : w 2 ≡ e.word = subst (λ (i : ℕ). w i ≡ e.word) ok.place (a.here (omega (arith, ok.place))) in
    record {
      numbers = omega (arith, a.else 1 (omega (arith, ok.place)), c.numbers);
      room = c.room;
      epoch = omega
          (arith, here, ok.word, c.epoch);
    }
numbers_step sizes past e kept c _ by ok w a =
    record {
      numbers = omega (arith, a.else 1 (λ h. omega (arith, ok.place, h)), c.numbers);
      room = c.room;
      epoch =
          omega (arith, a.else 2 (λ h. omega (arith, ok.place, h)), c.epoch);
    }

-- words 1 and 2
pub numbers : (sizes : Sizes) (journal : List Event) → IsKept sizes journal → FirstWords sizes (state sizes journal)
    (word_at sizes journal)
numbers sizes journal kept = holds_all sizes (FirstWords sizes) (numbers_step sizes)
    (record { numbers = word_first sizes NumberWord tt; room = omega arith; epoch = word_first sizes EpochWord tt })
    journal kept
