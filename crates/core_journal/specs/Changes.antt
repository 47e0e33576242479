-- What each kind of event does to the graph: the premises of its row, over the lives before it.
use Rattle.std.specs.Prelude.{◌≡◌, ◌≢◌, ℕ, Bool, not, ◌||◌, true, false, List, Some, None}
use Rattle.packed_link.specs.declared.link.Life.{Life}
use Rattle.core_journal.specs.declared.event.Kind.{Kind}
use Rattle.core_journal.specs.declared.event.Kind.TheVariants.{LinkVertex, MarkVertex, LinkEdge, MarkEdge, ReplaceEdge}
use Rattle.core_journal.specs.declared.event.Kind.TheVariants.{FreezeEdge}
use Rattle.core_journal.specs.declared.event.Event.{Event}
use Rattle.core_journal.specs.Event.{links, marks_vertex, cuts_edge}
use Rattle.core_journal.specs.Life.{key_of, link_of, vertex_marked, edge_marked}
use Rattle.core_journal.specs.GraphOf.{present_key, present_pair}

-- the kinds that neither link nor mark
abbrev pub is_idle : Kind → Bool
is_idle k = not (links k || marks_vertex k || cuts_edge k)

-- a vertex life is linked that was neither linked nor marked, and that no edge has as its source or target
pub record IsNewVertex (past : List Event) (e : Event) : Type 0 where
  pub kind : e.kind ≡ LinkVertex
  pub new : key_of past e.life ≡ None
  pub unmarked : vertex_marked past e.life ≡ false
  pub unnamed : (x : Life) (link : Event) → link_of past x ≡ Some link → (link.source ≢ e.life) × (link.target ≢ e.life)

-- a present vertex life is marked, and it is the only one of its key
pub record IsRemovedVertex (past : List Event) (e : Event) (key : ℕ) : Type 0 where
  pub kind : e.kind ≡ MarkVertex
  pub there : present_key past e.life ≡ Some key
  pub only : (x : Life) → present_key past x ≡ Some key → x ≡ e.life

-- an edge life is linked that was neither linked nor marked
pub record IsNewEdge (past : List Event) (e : Event) : Type 0 where
  pub kind : e.kind ≡ LinkEdge
  pub new : link_of past e.life ≡ None
  pub unmarked : edge_marked past e.life ≡ false

-- a present edge life is marked, and it is the only one of its pair
pub record IsRemovedEdge (past : List Event) (e : Event) (a b : ℕ) : Type 0 where
  pub kind : e.kind ≡ MarkEdge
  pub weight : ℕ
  pub there : present_pair past e.life ≡ Some ((a, b), weight)
  pub only : (x : Life) (w : ℕ) → present_pair past x ≡ Some ((a, b), w) → x ≡ e.life

-- an edge life is linked that was neither linked nor marked, and another one is marked, which it replaces
pub record IsReplacing (past : List Event) (e : Event) : Type 0 where
  pub kind : e.kind ≡ ReplaceEdge
  pub new : link_of past e.life ≡ None
  pub unmarked : edge_marked past e.life ≡ false
  pub apart : e.life ≢ e.old

-- the edge that is replaced is present, and the new one has its pair
pub record IsReplacedEdge (past : List Event) (e : Event) (a b : ℕ) : Type 0 where
  pub replaces : IsReplacing past e
  pub weight : ℕ
  pub there : present_pair past e.old ≡ Some ((a, b), weight)
  pub source : present_key past e.source ≡ Some a
  pub target : present_key past e.target ≡ Some b

-- an edge is frozen whose source is marked
pub record IsFrozenEdge (past : List Event) (e : Event) : Type 0 where
  pub kind : e.kind ≡ FreezeEdge
  pub gone : (link : Event) → link_of past e.life ≡ Some link → vertex_marked past link.source ≡ true
