use Rattle.core_lists.proofs.EventKeepsRest.{fresh_kept, spent_kept, spent_still, pass_kept, none_kept}
use Rattle.core_lists.proofs.own.each_event_keeps_the_rest.Goals as goal

pub returns-clause-fresh : goal.returns-clause-fresh
returns-clause-fresh c = λ sizes z past e kept caller x there ne f. fresh_kept sizes past e kept z caller x there ne f

pub returns-clause-spent : goal.returns-clause-spent
returns-clause-spent c = λ sizes z past e kept caller x there ne f. spent_kept sizes past e kept z caller x there ne f

pub returns-clause-pass : goal.returns-clause-pass
returns-clause-pass c = λ sizes past e kept a w caller. pass_kept sizes past e kept a w caller

pub returns-clause-none_fresh : goal.returns-clause-none_fresh
returns-clause-none_fresh c = λ sizes past e kept other caller none. none_kept sizes past e kept other caller none

pub returns-clause-spent_still : goal.returns-clause-spent_still
returns-clause-spent_still c = λ sizes z past e kept caller x other f. spent_still sizes past e kept z caller x other f
