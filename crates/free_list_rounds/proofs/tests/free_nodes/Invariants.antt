use Rattle.graph_table.specs.Tokens.{IsOf}
use Rattle.free_list_rounds.proofs.tests.free_nodes.Given as goal

abbrev pub invariant-loop : goal.invariant-loop
invariant-loop l = IsOf l.fn.table l.token
