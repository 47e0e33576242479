use Rattle.std.proofs.Common.{◌+◌, ◌≤◌, length}
use Rattle.std.specs.BTreeMap.{btree_map_len}
use Rattle.plain_graph.proofs.Cuts.{IsCutTo}
use Rattle.plain_graph.proofs.maps.remove_edges.Given as goal

-- the edges to the key are taken out but those from the keys of the iterator
abbrev pub invariant-loop-from : goal.invariant-loop-from
invariant-loop-from l = record {
  cut : IsCutTo l.fn.vertices l.vertices l.key l.from-iterator l.count;
  few : l.count + length l.from-iterator ≤ btree_map_len l.named;
}
