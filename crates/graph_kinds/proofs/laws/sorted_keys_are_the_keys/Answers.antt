use Rattle.graph_kinds.proofs.Sorted.{sorted-rise, sorted-exact}
use Rattle.graph_kinds.proofs.laws.sorted_keys_are_the_keys.Goals as goal

pub returns-clause-rising : goal.returns-clause-rising
returns-clause-rising c = sorted-rise

pub returns-clause-exact : goal.returns-clause-exact
returns-clause-exact c = sorted-exact
