-- How a scan is stored: a vector for each of its lists, with room for as many items as there are nodes, and a table
-- that has the number of a node's row at the node's index.
use Rattle.std.specs.Prelude.{◌≡◌, ℕ, ◌<◌, ◌≤◌, List, length, slice_index, vec_capacity}
use Rattle.scan_record.specs.declared.scan.Scan.TheInside.{Inside}
use Rattle.scan_record.specs.Scan.{ScanValue, IsScan, row_at}

-- what the vectors hold
abbrev pub scan_of : Inside → ScanValue
scan_of a = record {
  nodes = a.nodes;
  rows = a.rows.items;
  started = a.started;
  next = a.next;
  edges = a.edges.items;
  keys = a.keys.items;
  ends = a.ends.items;
  costs = a.costs.items;
  slot_zero = a.slot_zero.items;
  slot_one = a.slot_one.items;
  slot_two = a.slot_two.items;
}

-- the table has the number of each row at the index of the row's node
abbrev pub Knows : List ℕ → ScanValue → Type 0
Knows numbers s = (k : ℕ) → k < length s.rows → slice_index numbers (row_at s k).life.index ≡ k

-- each vector has room for as many items as there are nodes
pub record HasRoom (a : Inside) : Type 0 where
  pub rows : a.nodes ≤ vec_capacity a.rows
  pub edges : a.nodes ≤ vec_capacity a.edges
  pub keys : a.nodes ≤ vec_capacity a.keys
  pub ends : a.nodes ≤ vec_capacity a.ends
  pub costs : a.nodes ≤ vec_capacity a.costs
  pub slot_zero : a.nodes ≤ vec_capacity a.slot_zero
  pub slot_one : a.nodes ≤ vec_capacity a.slot_one
  pub slot_two : a.nodes ≤ vec_capacity a.slot_two

-- what the vectors hold is a scan that the table knows, and each vector has room
pub record IsStored (a : Inside) : Type 0 where
  pub scan : IsScan (scan_of a)
  pub entries : length a.numbers.items ≡ a.nodes
  pub known : Knows a.numbers.items (scan_of a)
  pub room : HasRoom a
