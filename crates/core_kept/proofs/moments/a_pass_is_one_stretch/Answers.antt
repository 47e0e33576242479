use Rattle.core_kept.proofs.PassBetween.{pass_between}
use Rattle.core_kept.proofs.moments.a_pass_is_one_stretch.Goals as goal

pub returns : goal.returns
returns c = λ sizes caller first middle last kept p q opened same. pass_between sizes caller first middle last kept p q
    opened same
