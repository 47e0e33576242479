use Rattle.graph_kinds.proofs.Histories.{not-without, not-in_time}
use Rattle.graph_kinds.proofs.laws.overtaken_items_need_a_removal.Goals as goal

pub returns-clause-without : goal.returns-clause-without
returns-clause-without c = not-without

pub returns-clause-in_time : goal.returns-clause-in_time
returns-clause-in_time c = not-in_time
