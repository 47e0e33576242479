use Rattle.core_kept.proofs.PastLives.{counters}
use Rattle.core_kept.proofs.words.counters_count_raises.Goals as goal

pub returns : goal.returns
returns c = λ sizes z journal kept. counters sizes z journal kept
