use Rattle.graph_tool.proofs.Known.{keeps-more, appends-none}
use Rattle.graph_tool.proofs.streams.write_some.Goals as goal

pub returns-in-Ok-eq0-clause-known_failed : goal.returns-in-Ok-eq0-clause-known_failed
returns-in-Ok-eq0-clause-known_failed g c = keeps-more _ _ _ c.loop.invariant
    (appends-none _ _ (rw c.in-Ok-eq0.field-0-test at c.in-Ok-eq0.ensures.bytes))
