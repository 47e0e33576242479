use Rattle.plain_graph.proofs.Held.{held-empty}
use Rattle.plain_graph.proofs.Steps.{kept-empty, mirror-empty}
use Rattle.plain_graph.proofs.graph.PlainGraph.new.Goals as goal

pub invariant_of-result : goal.invariant_of-result
invariant_of-result c = record {
  kept = kept-empty c.new.result c.new.ensures.empty c.new.ensures.ordered;
  mirror =
      mirror-empty c.new.result c.new-2.result c.new.ensures.empty c.new-2.ensures.empty c.new-2.ensures.ordered;
}

pub returns : goal.returns
returns c = held-empty c.new.result c.new.ensures.empty
