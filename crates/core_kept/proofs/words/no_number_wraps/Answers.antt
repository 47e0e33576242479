use Rattle.core_kept.proofs.NoWrap.{bounds}
use Rattle.core_kept.proofs.words.no_number_wraps.Goals as goal

pub returns : goal.returns
returns c = λ sizes z journal kept. bounds sizes z journal kept
