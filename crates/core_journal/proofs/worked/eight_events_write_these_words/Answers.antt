use Rattle.core_journal.proofs.WorkedWords.{words_last, free_eight, bucket_eight, node_eight, pass_eight, graph_eight}
use Rattle.core_journal.proofs.worked.eight_events_write_these_words.Goals as goal

pub returns-clause-after : goal.returns-clause-after
returns-clause-after c = words_last

pub returns-clause-free : goal.returns-clause-free
returns-clause-free c = free_eight

pub returns-clause-bucket : goal.returns-clause-bucket
returns-clause-bucket c = bucket_eight

pub returns-clause-node : goal.returns-clause-node
returns-clause-node c = node_eight

pub returns-clause-pass : goal.returns-clause-pass
returns-clause-pass c = pass_eight

pub returns-clause-graph : goal.returns-clause-graph
returns-clause-graph c = graph_eight
