use Rattle.std.proofs.Common.{refl, arith}
use Rattle.core_epoch.proofs.worked.an_unchecked_move_is_unsafe.Goals as goal

pub returns-clause-far : goal.returns-clause-far
returns-clause-far c = λ n. omega (arith, n.near 0 refl)
