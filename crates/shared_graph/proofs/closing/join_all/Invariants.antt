use Rattle.graph_kinds.specs.History.{Every}
use Rattle.graph_table.specs.Tokens.{IsOf}
use Rattle.shared_graph.specs.Callers.{CallerValue}
use Rattle.shared_graph.specs.Joining.{IsJoined}
use Rattle.shared_graph.proofs.closing.join_all.Given as goal

abbrev pub invariant-loop-caller : goal.invariant-loop-caller
invariant-loop-caller l = record {
  of : IsOf l.table l.token;
  joined : Every (IsJoined l.token.view) l.yielded;
  still : (c : CallerValue) → IsJoined l.initial.token.view c → IsJoined l.token.view c;
}
