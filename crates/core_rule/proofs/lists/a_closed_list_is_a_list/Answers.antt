use Rattle.core_lists.proofs.FrozenToEndIsList.{kept_met, kept_lives, kept_leads, has_keeps}
use Rattle.core_lists.proofs.FrozenWordLeads.{frozen_next, frozen_finished}
use Rattle.core_rule.proofs.FrozenWordStays.{list_steps}
use Rattle.core_lists.proofs.SpentVertexKeepsList.{own_list_stays}
use Rattle.core_rule.proofs.lists.a_closed_list_is_a_list.Goals as goal

pub returns-clause-list : goal.returns-clause-list
returns-clause-list c = λ sizes z journal kept x has. has_keeps sizes z journal kept x has

pub returns-clause-met : goal.returns-clause-met
returns-clause-met c = λ sizes z journal kept x k. kept_met sizes z journal kept x k

pub returns-clause-lives : goal.returns-clause-lives
returns-clause-lives c = λ sizes z journal kept x k l. kept_lives sizes z journal kept x k l

pub returns-clause-leads : goal.returns-clause-leads
returns-clause-leads c = λ sizes z journal kept x place k f. kept_leads sizes z journal kept x place k f

pub returns-clause-stays : goal.returns-clause-stays
returns-clause-stays c = λ sizes z caller last x front journal p kept quiet old spent k. own_list_stays sizes z caller
    last x front journal p kept quiet old spent k

pub returns-clause-next : goal.returns-clause-next
returns-clause-next c = λ sizes z journal kept x place y k f leads some t. frozen_next sizes z journal kept x place k f
    y leads some t

pub returns-clause-end : goal.returns-clause-end
returns-clause-end c = λ sizes z journal kept x place k f none. frozen_finished sizes z journal kept x place k f none

pub returns-clause-own : goal.returns-clause-own
returns-clause-own c = λ sizes z past e caller x kept unstored unpushed spent k. list_steps sizes z past e caller x kept
    unstored unpushed spent k
