-- When a caller only looks: by its token's view, and up to an earlier moment.
use Rattle.std.proofs.Common.{◌≡◌, ℕ, ◌≤◌, true, List, length, Some, subst, arith}
use Rattle.std.specs.Prelude.{slice_get}
use Rattle.packed_link.specs.Layout.{Sizes}
use Rattle.core_journal.specs.declared.event.Event.{Event}
use Rattle.core_journal.specs.Prefix.{IsPrefix}
use Rattle.core_journal.specs.Reuse.{pass_in}
use Rattle.core_journal.proofs.Lists.{get_front}
use Rattle.core_kept.proofs.Induction.{kept_front}
use Rattle.core_rule.specs.Plays.{IsSound}
use Rattle.core_rule.specs.declared.view.View.{View}
use Rattle.core_scans.specs.Seen.{OnlyLooks}

pub looks_by_view : (v : View) → IsSound v → v.numbered ≡ true → (start : List Event) → v.last ≤ length start
    → (pass_in v.sizes start v.number).is_open ≡ true → OnlyLooks v.sizes v.number start v.front
looks_by_view v sound numbered start last opened = record {
  kept = sound.kept;
  opened = opened;
  quiet = record { none = λ k e far at. (sound.quiet numbered).none k e (omega (arith, last, far)) at };
}

pub looks_until : (sizes : Sizes) (caller : ℕ) (start front now : List Event) → OnlyLooks sizes caller start now
    → IsPrefix front now → OnlyLooks sizes caller start front
looks_until sizes caller start front now looks p = record {
  kept = kept_front sizes front now p looks.kept;
  opened = looks.opened;
  quiet = record {
    none = λ k e far at. looks.quiet.none k e far
        (subst (λ (l : List Event). slice_get l k ≡ Some e) p.whole (get_front front p.rest k e at));
  };
}
