use Rattle.scan_record.proofs.GraphOfScan.{keys_law, weights_law, neighbours_law}
use Rattle.scan_record.proofs.laws.scan_graph_looked_up.Goals as goal

pub returns : goal.returns
returns c = record {
  keys = keys_law;
  weights = weights_law;
  neighbours = neighbours_law c.neighbours_rise.ensures.pairs;
}
