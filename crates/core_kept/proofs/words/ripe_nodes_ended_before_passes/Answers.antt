use Rattle.core_kept.proofs.Ripe.{ended, ordered, ripe_before}
use Rattle.core_kept.proofs.words.ripe_nodes_ended_before_passes.Goals as goal

pub returns-clause-ended : goal.returns-clause-ended
returns-clause-ended c = λ sizes journal kept. ended sizes journal kept

pub returns-clause-ordered : goal.returns-clause-ordered
returns-clause-ordered c = λ sizes z journal kept. ordered sizes z journal kept

pub returns-clause-ripe : goal.returns-clause-ripe
returns-clause-ripe c = λ sizes z journal kept caller x i r o. ripe_before sizes z journal kept caller x i r o
