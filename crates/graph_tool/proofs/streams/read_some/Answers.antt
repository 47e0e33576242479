use Rattle.graph_tool.proofs.Known.{keeps-consumes}
use Rattle.graph_tool.proofs.streams.read_some.Goals as goal

pub returns-in-Ok-clause-known : goal.returns-in-Ok-clause-known
returns-in-Ok-clause-known g c = keeps-consumes _ _ _ _ c.loop.invariant c.in-Ok.ensures.bytes.0
