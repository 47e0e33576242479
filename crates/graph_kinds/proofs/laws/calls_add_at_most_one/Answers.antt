use Rattle.std.proofs.Common.{◌+◌}
use Rattle.std.specs.Ordering.{nat_cmp}
use Rattle.std.specs.FinMap as map
use Rattle.std.specs.FinSet as set
use Rattle.std.proofs.Common.{ℕ}
use Rattle.graph_kinds.specs.Graph.{pair_cmp}
use Rattle.graph_kinds.proofs.Calls.{after_same, one_more, none_more, added_alters}
use Rattle.graph_kinds.proofs.laws.calls_add_at_most_one.Goals as goal

pub returns-clause-stays : goal.returns-clause-stays
returns-clause-stays c = after_same

pub returns-clause-empty : goal.returns-clause-empty
returns-clause-empty c = λ i. set.len-empty nat_cmp i + map.len-empty pair_cmp ℕ i

pub returns-clause-one : goal.returns-clause-one
returns-clause-one c = one_more

pub returns-clause-none : goal.returns-clause-none
returns-clause-none c = none_more

pub returns-clause-adds : goal.returns-clause-adds
returns-clause-adds c = added_alters
