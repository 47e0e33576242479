use Rattle.graph_kinds.proofs.Calls.{empty_valid, after_valid}
use Rattle.graph_kinds.proofs.laws.calls_keep_graphs.Goals as goal

pub returns-clause-empty : goal.returns-clause-empty
returns-clause-empty c = empty_valid

pub returns-clause-after : goal.returns-clause-after
returns-clause-after c = after_valid
