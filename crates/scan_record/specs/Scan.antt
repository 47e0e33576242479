-- A scan: one collected part of a graph as rows, beside an answer region and work room for each vertex row.
-- Rows and edges are numbered from 0 in the order of their pushes; what a number past the end names is blank.
use Rattle.std.specs.Prelude.{◌≡◌, ◌≢◌, ℕ, zero, suc, ◌+◌, ◌-◌, ◌<◌, ◌≤◌, ◌^◌, List, [], ◌∷◌, ◌++◌, length, take, drop}
use Rattle.std.specs.Prelude.{slice_index_or, slice_set, Some, None}
use Rattle.packed_link.specs.declared.link.Life.{Life}
use Rattle.scan_record.specs.declared.rows.VertexRow.{VertexRow}
use Rattle.scan_record.specs.declared.rows.EdgeRow.{EdgeRow}

-- what a scan holds: how many rows fit; the vertex rows; how many of them were started, and the number after the one
-- started last; the edge rows; the keys and level ends of the answer region; and the work room, where each vertex
-- row has a cost and a number in each of three slots
pub record ScanValue : Type 0 where
  pub nodes : ℕ
  pub rows : List VertexRow
  pub started : ℕ
  pub next : ℕ
  pub edges : List EdgeRow
  pub keys : List ℕ
  pub ends : List ℕ
  pub costs : List ℕ
  pub slot_zero : List ℕ
  pub slot_one : List ℕ
  pub slot_two : List ℕ

-- a scan without rows and without an answer
abbrev pub empty_scan : ℕ → ScanValue
empty_scan nodes = record {
  nodes = nodes;
  rows = [];
  started = 0;
  next = 0;
  edges = [];
  keys = [];
  ends = [];
  costs = [];
  slot_zero = [];
  slot_one = [];
  slot_two = [];
}

-- the row of a vertex whose edges were not started
abbrev pub new_row : Life → ℕ → VertexRow
new_row life key = record { life = life; key = key; counter = 0; head = 0; first = 0; count = 0 }

-- a life that no node has: a node's lives have tags from 1 on
abbrev pub blank_life : Life
blank_life = record { index = 0; tag = 0 }

-- the edge row that stands for a place with none
abbrev pub blank_edge : EdgeRow
blank_edge = record { life = blank_life; link = 0; key = 0; weight = 0; target = None }

-- the vertex row of this number, or a blank one where there is none
abbrev pub row_at : ScanValue → ℕ → VertexRow
row_at s k = slice_index_or s.rows k (new_row blank_life 0)

-- the edge row at this place, or a blank one where there is none
abbrev pub edge_at : ScanValue → ℕ → EdgeRow
edge_at s place = slice_index_or s.edges place blank_edge

-- the edges of a vertex row, in the order of their pushes
abbrev pub edges_of : ScanValue → VertexRow → List EdgeRow
edges_of s row = take row.count (drop row.first s.edges)

-- the edges of the row started last, where one was started
abbrev pub last_edges : ScanValue → List EdgeRow
last_edges s = edges_of s (row_at s (s.next - 1))

-- the scan with one more vertex row, whose cost and work numbers are 0
abbrev pub with_vertex : ScanValue → Life → ℕ → ScanValue
with_vertex s life key = record s {
  rows = s.rows ++ new_row life key ∷ [];
  costs = s.costs ++ 0 ∷ [];
  slot_zero = s.slot_zero ++ 0 ∷ [];
  slot_one = s.slot_one ++ 0 ∷ [];
  slot_two = s.slot_two ++ 0 ∷ [];
}

-- the scan after the edges of a row were started, with the words counter and head
abbrev pub with_started : ScanValue → ℕ → ℕ → ℕ → ScanValue
with_started s k counter head = record s {
  rows = slice_set s.rows k (record (row_at s k) { counter = counter; head = head; first = length s.edges; count = 0 });
  started = s.started + 1;
  next = k + 1;
}

-- the scan with one more edge, which counts for the row started last
abbrev pub with_edge : ScanValue → EdgeRow → ScanValue
with_edge s edge = let last = row_at s (s.next - 1) in record s {
  rows = slice_set s.rows (s.next - 1) (record last { count = last.count + 1 });
  edges = s.edges ++ edge ∷ [];
}

-- the numbers in a slot of the work room, one for each vertex row
abbrev pub slot_of : ScanValue → ℕ → List ℕ
slot_of s zero = s.slot_zero
slot_of s (suc zero) = s.slot_one
slot_of s (suc (suc _)) = s.slot_two

-- the scan with other numbers in a slot of the work room
abbrev pub with_slot : ScanValue → ℕ → List ℕ → ScanValue
with_slot s zero numbers = record s { slot_zero = numbers }
with_slot s (suc zero) numbers = record s { slot_one = numbers }
with_slot s (suc (suc _)) numbers = record s { slot_two = numbers }

-- what is true of every scan: its sizes and numbers are within their limits, the indices of vertex rows differ, each
-- edge counts for one vertex row, with the keys of a row's edges rising, and a target is a row
pub record IsScan (s : ScanValue) : Type 0 where
  pub few_nodes : s.nodes ≤ 65536
  pub rows_fit : length s.rows ≤ s.nodes
  pub edges_fit : length s.edges ≤ s.nodes
  pub keys_fit : length s.keys ≤ s.nodes
  pub ends_fit : length s.ends ≤ s.nodes
  pub costs_of_rows : length s.costs ≡ length s.rows
  pub slot_zero_of_rows : length s.slot_zero ≡ length s.rows
  pub slot_one_of_rows : length s.slot_one ≡ length s.rows
  pub slot_two_of_rows : length s.slot_two ≡ length s.rows
  pub index_fits : (k : ℕ) → k < length s.rows → (row_at s k).life.index < s.nodes
  pub indices_differ : (j k : ℕ) → j < k → k < length s.rows → (row_at s j).life.index ≢ (row_at s k).life.index
  pub key_fits : (k : ℕ) → k < length s.rows → (row_at s k).key < 2 ^ 32
  pub started_in_order : s.started ≤ s.next
  pub started_are_rows : s.next ≤ length s.rows
  pub not_started : (k : ℕ) → s.next ≤ k → k < length s.rows → row_at s k ≡ new_row (row_at s k).life (row_at s k).key
  pub edges_end : (k : ℕ) → k < length s.rows → (row_at s k).first + (row_at s k).count ≤ length s.edges
  pub last_ends : 0 < s.next → (row_at s (s.next - 1)).first + (row_at s (s.next - 1)).count ≡ length s.edges
  pub apart : (j k : ℕ) → j < k → k < length s.rows → 0 < (row_at s k).count
      → (row_at s j).first + (row_at s j).count ≤ (row_at s k).first
  pub held : (p : ℕ) → p < length s.edges
      → (k : ℕ) × (k < length s.rows) × ((row_at s k).first ≤ p) × (p < (row_at s k).first + (row_at s k).count)
  pub rising : (k p q : ℕ) → k < length s.rows → (row_at s k).first ≤ p → p < q
      → q < (row_at s k).first + (row_at s k).count → (edge_at s p).key < (edge_at s q).key
  pub edge_key_fits : (p : ℕ) → p < length s.edges → (edge_at s p).key < 2 ^ 32
  pub weighed : (p : ℕ) → p < length s.edges → 1 ≤ (edge_at s p).weight
  pub weight_fits : (p : ℕ) → p < length s.edges → (edge_at s p).weight < 2 ^ 32
  pub targets_are_rows : (p t : ℕ) → p < length s.edges → (edge_at s p).target ≡ Some t → t < length s.rows

-- a scan is complete: it has a row 0, every row was started, the keys of vertex rows differ, and each target's key is
-- its edge's key
pub record IsComplete (s : ScanValue) : Type 0 where
  pub has_root : 0 < length s.rows
  pub all_started : s.started ≡ length s.rows
  pub keys_differ : (j k : ℕ) → j < k → k < length s.rows → (row_at s j).key ≢ (row_at s k).key
  pub target_keys : (p t : ℕ) → p < length s.edges → (edge_at s p).target ≡ Some t
      → (row_at s t).key ≡ (edge_at s p).key
