-- What collect asks of its root, what it leaves, and what it carries from load to load.
use Rattle.std.specs.Prelude.{◌≡◌, ◌⊎◌, ℕ, ◌<◌, ◌≤◌, Bool, true, false, Option, Some, None, List, length}
use Rattle.packed_link.specs.Layout.{Sizes}
use Rattle.packed_link.specs.Link.{index_of}
use Rattle.packed_link.specs.declared.link.Life.{Life}
use Rattle.core_journal.specs.declared.event.Event.{Event}
use Rattle.core_journal.specs.GraphOf.{present_key}
use Rattle.core_journal.specs.Life.{key_of, link_of, vertex_marked}
use Rattle.core_journal.specs.Prefix.{IsPrefix}
use Rattle.core_lists.specs.Walks.{LeadsTo}
use Rattle.core_rule.specs.Fronts.{MetEdge, MetVertex, key_in}
use Rattle.core_rule.specs.declared.view.View.{View}
use Rattle.core_scans.specs.Seen.{IsTargetSeen, OnlyLooks}
use Rattle.core_scans.specs.Walking.{AreRowsReached, IsBetween, IsEdgeLoaded, IsFoundReplaced, IsMore, IsWithin}
use Rattle.scan_record.specs.Asked.{root_of}
use Rattle.scan_record.specs.Scan.{IsScan, ScanValue, row_at, with_vertex}
use Rattle.tree_scan.specs.Verdicts.{IsFilledScan}
use Rattle.tree_scan.specs.declared.collecting.Aim.{Aim}
use Rattle.tree_scan.specs.declared.collecting.Aim.TheVariants.{Replaced, Target}
use Rattle.tree_scan.specs.declared.collecting.LoadedEdge.{LoadedEdge}

-- a root was found present with its key at a front, in a pass that was open there, and the token only looked since
pub record IsRootFound (v : View) (start : List Event) (root : Life) (key : ℕ) : Type 0 where
  pub front : IsPrefix start v.front
  pub present : present_key start root ≡ Some key
  pub met : MetVertex v root
  pub key_is : key_in v root.index ≡ key
  pub looks : OnlyLooks v.sizes v.number start v.front

-- a collect that ended at a view's front filled the scan from a root, which was found at an earlier front
pub record IsCollectedFrom (w : View) (start : List Event) (root : Life) (key : ℕ) (s : ScanValue) : Type 0 where
  pub filled : IsFilledScan w start w.front s
  pub valid : IsScan s
  pub root_is : (row_at s 0).life ≡ root
  pub key_is : root_of s ≡ key

-- collect stands between two rows of a scan that has room for the table
pub record IsAtRow (v : View) (start : List Event) (s : ScanValue) : Type 0 where
  pub looks : OnlyLooks v.sizes v.number start v.front
  pub between : IsBetween v start s
  pub reached : AreRowsReached s (length s.rows)
  pub room : v.sizes.nodes ≤ s.nodes

-- collect stands within a row, after so many meetings at a word of its list
pub record IsAtEdge (v : View) (start : List Event) (s : ScanValue) (at steps : ℕ) : Type 0 where
  pub looks : OnlyLooks v.sizes v.number start v.front
  pub within : IsWithin v start s at steps
  pub reached : AreRowsReached s (length s.rows)
  pub room : v.sizes.nodes ≤ s.nodes

-- collect stands at some word of a list, somewhere within a row
pub record IsInRow (v : View) (s : ScanValue) : Type 0 where
  pub start : List Event
  pub at : ℕ
  pub steps : ℕ
  pub stands : IsAtEdge v start s at steps

-- a scan has more than another, and as much room; the row that was started last is the same
pub record IsGrown (s t : ScanValue) : Type 0 where
  pub more : IsMore s t
  pub nodes : t.nodes ≡ s.nodes
  pub next : t.next ≡ s.next

-- a word leads to an edge of a source that was met
pub record LeadsToMet (v : View) (at : ℕ) : Type 0 where
  pub source : Life
  pub life : Life
  pub is : life.index ≡ index_of at
  pub met : MetEdge v source life

-- a word leads to none or to a node of the table
abbrev pub LeadsInside : Sizes → ℕ → Type 0
LeadsInside sizes word = LeadsTo word (λ index. index < sizes.nodes)

-- the edge to which a word leads, with its words, of which the link was loaded last
pub record IsEdgeTold (v : View) (at : ℕ) (e : LoadedEdge) : Type 0 where
  pub loaded : IsEdgeLoaded v at e.row
  pub weighed : 1 ≤ e.row.weight
  pub leads : LeadsInside v.sizes e.row.link
  pub target : (link : Event) → link_of v.front e.row.life ≡ Some link → link.target ≡ e.target
  pub key : key_of v.front e.target ≡ Some e.row.key

-- whether an edge of this key with this marked link was replaced
abbrev pub MatchReplaced : Bool → View → ℕ → ℕ → Type 0
MatchReplaced true v key link = IsFoundReplaced v key link
MatchReplaced false v key link = IsFoundReplaced v key link → ⊥

-- the scan is as it was, or has one more row, of a target's life, which is the row that is told
abbrev pub IsPushedFor : ScanValue → ScanValue → Life → ℕ → Option ℕ → Type 0
IsPushedFor s t target key row = (t ≡ s) ⊎ ((t ≡ with_vertex s target key) × (row ≡ Some (length s.rows)))

-- the row of a target's life; or none, and that life is over
pub record IsTargetRow (w : View) (s t : ScanValue) (target : Life) (key : ℕ) (row : Option ℕ) : Type 0 where
  pub pushed : IsPushedFor s t target key row
  pub is : (n : ℕ) → row ≡ Some n → (n < length t.rows) × ((row_at t n).life ≡ target)
  pub over : row ≡ None → vertex_marked w.front target ≡ true

-- an edge wasn't found replaced, and this is what is recorded of its target
pub record IsAimed (w : View) (s t : ScanValue) (e : LoadedEdge) (row : Option ℕ) : Type 0 where
  pub pushed : IsPushedFor s t e.target e.row.key row
  pub seen : IsTargetSeen t w.front (record e.row { target = row }) e.target
  pub unreplaced : IsFoundReplaced w e.row.key e.row.link → ⊥

-- what becomes of an edge that was loaded: it's passed over, or recorded with its target
abbrev pub MatchAim : Aim → View → ScanValue → ScanValue → LoadedEdge → Type 0
MatchAim Replaced w s t e = (t ≡ s) × IsFoundReplaced w e.row.key e.row.link
MatchAim (Target row) w s t e = IsAimed w s t e row
