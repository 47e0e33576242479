use Rattle.core_counts.proofs.AllNodesOfGraph.{empty_none}
use Rattle.core_counts.proofs.SweptTables.{each_is}
use Rattle.core_counts.proofs.ExactFull.{swept_all}
use Rattle.core_counts.proofs.sweeping.a_full_table_is_all_graph.Goals as goal

pub returns-clause-each : goal.returns-clause-each
returns-clause-each c = λ sizes z journal kept caller none fresh spent swept x t. each_is sizes z journal kept caller
    (empty_none sizes z journal kept none) fresh spent swept x t

pub returns-clause-alone : goal.returns-clause-alone
returns-clause-alone c = λ sizes z journal kept caller none fresh spent swept others. swept_all sizes z journal kept
    caller none fresh spent swept others
