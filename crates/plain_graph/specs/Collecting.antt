-- How a scan collects the part of a graph that is reached from a key: row 0 is that key's, and each key to which an
-- edge leads from a row gets the next row when it is met first.
use Rattle.std.specs.Prelude.{◌≡◌, ◌≢◌, ℕ, ◌<◌, ◌≤◌, ◌%◌, ◌⊎◌, List, [], length, map, All, Option, Some, None}
use Rattle.std.specs.Prelude.{slice_index}
use Rattle.std.specs.Ordering.{nat_cmp}
use Rattle.std.specs.BTreeMap.{get}
use Rattle.scan_record.specs.declared.rows.EdgeRow.{EdgeRow}
use Rattle.scan_record.specs.Scan.{ScanValue, row_at, edges_of, with_vertex}
use Rattle.graph_kinds.specs.Path.{IsPath}
use Rattle.plain_graph.specs.declared.numbers.Numbers.{Numbers}
use Rattle.plain_graph.specs.Kept.{Edges, Vertices, graph_in_maps}

-- the bucket of a key: there are 65,536
abbrev pub bucket_of : ℕ → ℕ
bucket_of key = key % 65536

-- the row of a number is there, and its key is of a bucket
abbrev pub IsOfBucket : ScanValue → ℕ → ℕ → Type 0
IsOfBucket s bucket r = (r < length s.rows) × (bucket_of (row_at s r).key ≡ bucket)

-- the number that stands in the bucket of a key
abbrev pub first_in : Numbers → ℕ → ℕ
first_in numbers key = slice_index numbers.firsts.items (bucket_of key)

-- the keys of rows differ; in the bucket of a row's key stands the number of a row of that bucket; and each row's
-- number stands in its bucket, or is found at its key among the others
pub record IsNumbering (numbers : Numbers) (s : ScanValue) : Type 0 where
  pub wide : length numbers.firsts.items ≡ 65536
  pub differ : (j k : ℕ) → j < k → k < length s.rows → (row_at s j).key ≢ (row_at s k).key
  pub taken : (k : ℕ) → k < length s.rows → IsOfBucket s (bucket_of (row_at s k).key)
      (first_in numbers (row_at s k).key)
  pub found : (k : ℕ) → k < length s.rows → (first_in numbers (row_at s k).key ≡ k)
      ⊎ (get nat_cmp numbers.others (row_at s k).key ≡ Some k)

-- each row's life has the row's number as its index
abbrev pub HasRowLives : ScanValue → Type 0
HasRowLives s = (k : ℕ) → k < length s.rows → (row_at s k).life.index ≡ k

-- the scan with one more row of this key, whose life has the row's number as its index
abbrev pub with_key : ScanValue → ℕ → ScanValue
with_key s key = with_vertex s (record { index = length s.rows; tag = 1 }) key

-- the rows and edges are as before, and a row that is new has the key
pub record MeetsKey (old new : ScanValue) (key : ℕ) : Type 0 where
  pub longer : length old.rows ≤ length new.rows
  pub rows : (k : ℕ) → k < length old.rows → row_at new k ≡ row_at old k
  pub fresh : (k : ℕ) → length old.rows ≤ k → k < length new.rows → (row_at new k).key ≡ key
  pub edges : new.edges ≡ old.edges
  pub started : new.started ≡ old.started
  pub next : new.next ≡ old.next
  pub keys : new.keys ≡ old.keys
  pub ends : new.ends ≡ old.ends

-- what an edge row tells of its edge: the key of its target, and its weight
abbrev pub told : EdgeRow → ℕ × ℕ
told e = (e.key, e.weight)

-- the edges out of a vertex that may not be there, as a list
abbrev pub edge_list : Option Edges → List (ℕ × ℕ)
edge_list None = []
edge_list (Some edges) = edges.entries

-- the edges out of the vertex with a key
abbrev pub edges_at : Vertices → ℕ → List (ℕ × ℕ)
edges_at m k = edge_list (get nat_cmp m k)

-- an edge row leads to the row that has its key
pub record LeadsToRow (s : ScanValue) (e : EdgeRow) : Type 0 where
  pub row : ℕ
  pub target : e.target ≡ Some row
  pub within : row < length s.rows
  pub key : (row_at s row).key ≡ e.key

-- a path leads from one key to another
pub record IsWithinReach (m : Vertices) (a b : ℕ) : Type 0 where
  pub path : List ℕ
  pub is_path : IsPath (graph_in_maps m) a b path

-- a part of the graph was collected: each row's key is reached from that of row 0, the first n rows have the edges of
-- their vertices, the edges of row `at` are next, and each edge leads to its row
pub record IsCollected (m : Vertices) (numbers : Numbers) (s : ScanValue) (n at : ℕ) : Type 0 where
  pub some : 0 < length s.rows
  pub within : n ≤ length s.rows
  pub numbering : IsNumbering numbers s
  pub indexed : HasRowLives s
  pub reached : (k : ℕ) → k < length s.rows → IsWithinReach m (row_at s 0).key (row_at s k).key
  pub next : s.next ≡ at
  pub started : s.started ≡ at
  pub done : (k : ℕ) → k < n → map told (edges_of s (row_at s k)) ≡ edges_at m (row_at s k).key
  pub targets : All (LeadsToRow s) s.edges
  pub no_keys : s.keys ≡ []
  pub no_ends : s.ends ≡ []
