-- What contracts see of a port over a shared graph.
use Rattle.graph_table.specs.Tokens.{TableValue}
use Rattle.shared_graph.specs.Callers.{CallerValue}
use Rattle.shared_graph.specs.declared.port.GraphPort.{GraphPort}

-- the graph that it is a port of
abbrev pub graph_in : GraphPort → TableValue
graph_in p = p.graph.now

-- the caller whose calls it answers
abbrev pub caller_in : GraphPort → CallerValue
caller_in p = p.caller
