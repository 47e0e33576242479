-- A search by cost (Dijkstra 1959): rows are settled by rising cost, and the edges of a settled row are followed.
-- The states are those of `states_of`: 0 not met, 1 settled, 2 waiting.
use Rattle.std.specs.Prelude.{◌≡◌, ◌≢◌, ℕ, ◌+◌, ◌-◌, ◌*◌, ◌^◌, ◌<◌, ◌≤◌, List, Some, length, slice_index}
use Rattle.graph_kinds.specs.Graph.{IsGraph, weight_of}
use Rattle.graph_kinds.specs.Path.{IsPath, cost_of, least_cost, IsKeyBefore}
use Rattle.scan_record.specs.Scan.{ScanValue, row_at}
use Rattle.scan_record.specs.ScanGraph.{graph_of_scan}
use Rattle.scan_record.specs.Asked.{root_of, KeepsRows}
use Rattle.path_costs.specs.Heap.{state_of, settled_count}

-- the key of a row
abbrev pub key_of_row : ScanValue → ℕ → ℕ
key_of_row s r = (row_at s r).key

-- the cost of a row: that of the way by which it was met
abbrev pub row_cost : ScanValue → ℕ → ℕ
row_cost s r = slice_index s.costs r

-- the row before a row on that way
abbrev pub parent_of : ScanValue → ℕ → ℕ
parent_of s r = slice_index s.slot_two r

-- the greatest weight, since weights are below 2 ^ 32
abbrev pub greatest_weight : ℕ
greatest_weight = 2 ^ 32 - 1

-- the pair from x to y has weight w
abbrev pub HasPair : ScanValue → ℕ → ℕ → ℕ → Type 0
HasPair s x y w = weight_of (graph_of_scan s) (key_of_row s x) (key_of_row s y) ≡ Some w

-- the pair from x to y of weight w was followed: y is met and costs no more than over x, and where it costs as
-- much, its parent's key is no greater than that of x
pub record IsFollowed (s : ScanValue) (x y w : ℕ) : Type 0 where
  pub met : 1 ≤ state_of s y
  pub cost : row_cost s y ≤ row_cost s x + w
  pub least : 0 < y → row_cost s y ≡ row_cost s x + w → key_of_row s (parent_of s y) ≤ key_of_row s x

-- the parent of y is settled, and y costs the weight of the pair from there more
pub record HasParent (s : ScanValue) (y : ℕ) : Type 0 where
  pub row : parent_of s y < length s.rows
  pub settled : state_of s (parent_of s y) ≡ 1
  pub weight : ℕ
  pub pair : HasPair s (parent_of s y) y weight
  pub total : row_cost s (parent_of s y) + weight ≡ row_cost s y

-- a path leads to y, of the cost of y
pub record IsReached (s : ScanValue) (y : ℕ) : Type 0 where
  pub path : List ℕ
  pub is_path : IsPath (graph_of_scan s) (root_of s) (key_of_row s y) path
  pub cost : cost_of (graph_of_scan s) path ≡ row_cost s y

-- the state of a search: row 0 is met and costs nothing; each row that is met is reached, and but for row 0 has a
-- parent; a settled row costs no more than one that waits; no row costs more than the greatest weight for each row
-- that is settled; and each pair of a settled row was followed, but for the pairs of one row
pub record IsSearchBut (s : ScanValue) (left_out : ℕ) : Type 0 where
  pub graph : IsGraph (graph_of_scan s)
  pub root : 1 ≤ state_of s 0
  pub root_cost : row_cost s 0 ≡ 0
  pub reached : (y : ℕ) → y < length s.rows → 1 ≤ state_of s y → IsReached s y
  pub parents : (y : ℕ) → 0 < y → y < length s.rows → 1 ≤ state_of s y → HasParent s y
  pub ordered : (x y : ℕ) → x < length s.rows → y < length s.rows → state_of s x ≡ 1 → state_of s y ≡ 2
      → row_cost s x ≤ row_cost s y
  pub below : (y : ℕ) → y < length s.rows → 1 ≤ state_of s y → row_cost s y ≤ settled_count s * greatest_weight
  pub followed : (x y w : ℕ) → x < length s.rows → y < length s.rows → state_of s x ≡ 1 → x ≢ left_out
      → HasPair s x y w → IsFollowed s x y w

-- the same, with no row left out
abbrev pub IsSearch : ScanValue → Type 0
IsSearch s = IsSearchBut s (length s.rows)

-- the pairs of the row settled last are being followed: none costs more, and another pair may be added to its cost
pub record IsOpen (s : ScanValue) (x : ℕ) : Type 0 where
  pub search : IsSearchBut s x
  pub row : x < length s.rows
  pub settled : state_of s x ≡ 1
  pub last : (y : ℕ) → y < length s.rows → state_of s y ≡ 1 → row_cost s y ≤ row_cost s x
  pub room : row_cost s x + greatest_weight ≤ settled_count s * greatest_weight

-- the pair from x to y was followed, and those that were followed before still are; no more rows are settled
pub record FollowsPair (old new : ScanValue) (x y w : ℕ) : Type 0 where
  pub open_row : IsOpen new x
  pub followed : IsFollowed new x y w
  pub earlier : (z v : ℕ) → z < length old.rows → HasPair old x z v → IsFollowed old x z v → IsFollowed new x z v
  pub settled : settled_count new ≡ settled_count old
  pub only : (z : ℕ) → state_of new z ≡ 1 → state_of old z ≡ 1
  pub kept : KeepsRows old new

-- a settled row has the least cost of a path to its key, below 2 ^ 48, and its parent's key is the least before its own
pub record IsSettledTree (s : ScanValue) : Type 0 where
  pub graph : IsGraph (graph_of_scan s)
  pub costs : (y : ℕ) → y < length s.rows → state_of s y ≡ 1
      → least_cost (graph_of_scan s) (root_of s) (key_of_row s y) ≡ Some (row_cost s y)
  pub parents : (y : ℕ) → 0 < y → y < length s.rows → state_of s y ≡ 1 → HasParent s y
      × IsKeyBefore (graph_of_scan s) (root_of s) (key_of_row s (parent_of s y)) (key_of_row s y)
  pub below : (y : ℕ) → y < length s.rows → state_of s y ≡ 1 → row_cost s y ≤ 65536 * greatest_weight
