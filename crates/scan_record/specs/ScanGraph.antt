-- The graph of a scan: the keys of its vertex rows, and an edge for each edge row that has a target.
use Rattle.std.specs.Prelude.{ℕ, List, map, flat_map, filter_map, find, Bool, ◌&&◌, ◌==◌, is_some, Option, option_map}
use Rattle.std.specs.FinMap as finmap
use Rattle.std.specs.FinSet as set
use Rattle.graph_kinds.specs.Graph.{Graph}
use Rattle.scan_record.specs.declared.rows.VertexRow.{VertexRow}
use Rattle.scan_record.specs.declared.rows.EdgeRow.{EdgeRow}
use Rattle.scan_record.specs.Scan.{ScanValue, row_at, edges_of}

-- the pair of an edge of the row with the key `from`, and its weight: it leads to the key of its target, if it has one
abbrev pub pair_of : ScanValue → ℕ → EdgeRow → Option ((ℕ × ℕ) × ℕ)
pair_of s from edge = option_map (λ t. ((from, (row_at s t).key), edge.weight)) edge.target

-- the pairs of the edges of a vertex row
abbrev pub pairs_of : ScanValue → VertexRow → List ((ℕ × ℕ) × ℕ)
pairs_of s row = filter_map (pair_of s row.key) (edges_of s row)

-- the graph of a scan: the keys of its rows, and the pairs of their edges; of two edge rows of one pair the first
-- counts
abbrev pub graph_of_scan : ScanValue → Graph
graph_of_scan s = record {
  keys = set.from_list (map (λ row. row.key) s.rows);
  pairs = finmap.from_entries (flat_map (pairs_of s) s.rows);
}

-- the key to which an edge leads, where it has a target
abbrev pub target_key : EdgeRow → Option ℕ
target_key edge = option_map (λ _. edge.key) edge.target

-- the keys to which edges lead, in their order
abbrev pub target_keys : List EdgeRow → List ℕ
target_keys edges = filter_map target_key edges

-- whether an edge leads to a row with this key
abbrev pub leads_to : ℕ → EdgeRow → Bool
leads_to key edge = is_some edge.target && (edge.key == key)

-- the weight of the first edge that leads to a key, if there is one
abbrev pub weight_to : ℕ → List EdgeRow → Option ℕ
weight_to key edges = option_map (λ edge. edge.weight) (find (leads_to key) edges)
