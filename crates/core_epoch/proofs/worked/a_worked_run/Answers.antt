use Rattle.std.proofs.Common.{refl, arith}
use Rattle.core_epoch.specs.Clock.{IsClear}
use Rattle.core_epoch.specs.Worked.{opened, zero_announced, first_moved, five_unlinked, one_announced, zero_withdrawn}
use Rattle.core_epoch.specs.Worked.{both_withdrawn, second_moved, again_announced, third_moved}
use Rattle.core_epoch.proofs.WorkedRun.{announced_follows, withdrawn_follows, moved_follows, unlinked_follows}
use Rattle.core_epoch.proofs.WorkedRun.{given_back_follows, both}
use Rattle.core_epoch.proofs.worked.a_worked_run.Goals as goal

pub returns-clause-runs : goal.returns-clause-runs
returns-clause-runs c = (
  announced_follows 2 opened 0 0 (omega arith) refl (omega arith),
  (
    moved_follows 2 zero_announced (both (λ i. IsClear 0 i zero_announced.clock) record
        { reached = omega arith; born = λ _. omega arith } record { reached = omega arith; born = λ _. omega arith }),
    (
      unlinked_follows 2 first_moved 5,
      (
        announced_follows 2 five_unlinked 1 0 (omega arith) refl (omega arith),
        (
          withdrawn_follows 2 one_announced 0 (omega arith) refl,
          (
            withdrawn_follows 2 zero_withdrawn 1 (omega arith) refl,
            (
              moved_follows 2 both_withdrawn (both (λ i. IsClear 1 i both_withdrawn.clock) record
                  { reached = omega arith; born = λ h. absurd (cc) } record
                  { reached = omega arith; born = λ h. absurd (cc) }),
              (
                announced_follows 2 second_moved 0 2 (omega arith) refl (omega arith),
                (
                  moved_follows 2 again_announced (both (λ i. IsClear 2 i again_announced.clock) record
                      { reached = omega arith; born = λ _. omega arith } record
                      { reached = omega arith; born = λ h. absurd (cc) }),
                  (
                    given_back_follows 2 third_moved 5 (omega arith),
                    tt,
                  ),
                ),
              ),
            ),
          ),
        ),
      ),
    ),
  ),
)
