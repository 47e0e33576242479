use Rattle.core_rule.proofs.FoundMarkedIsSpent.{found_at}
use Rattle.core_rule.proofs.FrozenWordStays.{frozen_beyond, frozen_next_step, frozen_marked, head_frozen_word}
use Rattle.core_rule.proofs.FrozenWordStays.{edge_frozen_word}
use Rattle.core_rule.proofs.lists.frozen_words_stay.Goals as goal

pub returns-clause-others : goal.returns-clause-others
returns-clause-others c = λ sizes z caller last x place front journal p kept quiet old spent k f. frozen_beyond sizes z
    caller last x place front journal p kept quiet old spent k f

pub returns-clause-own : goal.returns-clause-own
returns-clause-own c = λ sizes z past e caller x place kept unstored unpushed spent k f. frozen_next_step sizes z past e
    caller x kept unstored unpushed spent k place f

pub returns-clause-marked : goal.returns-clause-marked
returns-clause-marked c = λ sizes z journal kept x place k f. frozen_marked sizes z journal kept x k place f

pub returns-clause-head : goal.returns-clause-head
returns-clause-head c = λ sizes past e kept is. head_frozen_word sizes past e kept is

pub returns-clause-edge : goal.returns-clause-edge
returns-clause-edge c = λ sizes z past e x place kept is spent k f leads. edge_frozen_word sizes z past e x place kept
    is spent k f leads

pub returns-clause-found : goal.returns-clause-found
returns-clause-found c = λ sizes z journal kept caller x place y spent k f leads some dead. found_at sizes z journal
    kept caller x place spent k f y leads some dead
