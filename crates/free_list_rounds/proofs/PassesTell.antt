-- What opening and closing a pass and moving the epoch leave of a caller at work.
use Rattle.std.proofs.Common.{◌≡◌, ℕ, true, false, [], ◌∷◌, refl, arith, ◌∙◌}
use Rattle.packed_link.specs.Layout.{IsLayout}
use Rattle.core_rule.specs.OwnEvents.{announce_event, move_event, withdraw_event}
use Rattle.core_rule.specs.declared.view.View.{View}
use Rattle.core_stretches.specs.Holdings.{HasNoPass}
use Rattle.core_stretches.specs.Makes.{Makes}
use Rattle.core_stretches.proofs.MakesTell.{makes_later}
use Rattle.epoch_limbo.specs.Advances.{MatchAdvanced}
use Rattle.epoch_limbo.specs.Passes.{IsOpened}
use Rattle.epoch_limbo.specs.declared.advancing.Advanced.{Advanced}
use Rattle.epoch_limbo.specs.declared.advancing.Advanced.TheVariants.{Held, Lost, Moved}
use Rattle.free_list_rounds.specs.Rounds.{CountsGo, SparesGo, WorkGoes}
use Rattle.free_list_rounds.proofs.WorkGoesOn.{counts_go, pass_goes, spares_go, work_goes}

-- what each of these calls leaves
pub record LeavesWork (moved : ℕ) (v w : View) : Type 0 where
  pub numbered : v.numbered ≡ true → w.numbered ≡ true
  pub work : WorkGoes v w
  pub spares : SparesGo v w
  pub counts : CountsGo 0 0 moved v w

pub opened : (v w : View) → IsLayout v.sizes → IsOpened v w → LeavesWork 0 v w
opened v w z o =
    record {
      numbered = λ has. (makes_later v w (announce_event v o.epoch ∷ []) o.makes).numbered ∙ has;
      work = work_goes v w (announce_event v o.epoch ∷ []) z o.makes (
        record {
          gets = record { unlinks = refl; closes = λ is. absurd (cc); gives = λ b. absurd b };
          gives = λ is. absurd (cc);
        },
        tt,
      );
      spares = spares_go v w (announce_event v o.epoch ∷ []) z o.makes (((λ is. absurd (cc)), refl), tt);
      counts = counts_go v w (announce_event v o.epoch ∷ []) z o.makes 0 0 0 refl refl (omega arith);
    }

pub closed : (v w : View) → IsLayout v.sizes → Makes v (withdraw_event v ∷ []) w → LeavesWork 0 v w
closed v w z makes = record {
  numbered = λ has. (makes_later v w (withdraw_event v ∷ []) makes).numbered ∙ has;
  work = work_goes v w (withdraw_event v ∷ []) z makes (
    record {
      gets = record { unlinks = refl; closes = λ is. absurd (cc); gives = λ b. absurd b };
      gives = λ is. absurd (cc);
    },
    tt,
  );
  spares = spares_go v w (withdraw_event v ∷ []) z makes (((λ is. absurd (cc)), refl), tt);
  counts = counts_go v w (withdraw_event v ∷ []) z makes 0 0 0 refl refl (omega arith);
}

nothing : (v w : View) → IsLayout v.sizes → Makes v [] w → LeavesWork 1 v w × (HasNoPass v → HasNoPass w)
nothing v w z makes = (
  record {
    numbered = λ has. (makes_later v w [] makes).numbered ∙ has;
    work = work_goes v w [] z makes tt;
    spares = spares_go v w [] z makes tt;
    counts = counts_go v w [] z makes 0 0 1 refl refl (omega arith);
  },
  pass_goes v w [] z makes false tt,
)

pub advanced : (r : Advanced) (v w : View) → IsLayout v.sizes → MatchAdvanced r v w
    → LeavesWork 1 v w × (HasNoPass v → HasNoPass w)
advanced Moved v w z m = (
  record {
    numbered = λ has. (makes_later v w (move_event v m.epoch ∷ []) m.makes).numbered ∙ has;
    work = work_goes v w (move_event v m.epoch ∷ []) z m.makes (
      record {
        gets = record { unlinks = refl; closes = λ is. absurd (cc); gives = λ b. absurd b };
        gives = λ is. absurd (cc);
      },
      tt,
    );
    spares = spares_go v w (move_event v m.epoch ∷ []) z m.makes (((λ is. absurd (cc)), refl), tt);
    counts = counts_go v w (move_event v m.epoch ∷ []) z m.makes 0 0 1 refl refl (omega arith);
  },
  pass_goes v w (move_event v m.epoch ∷ []) z m.makes false (((λ is. absurd (cc)), (λ is. absurd (cc))), tt),
)
advanced (Held caller) v w z m = nothing v w z m.makes
advanced Lost v w z m = nothing v w z m.makes
