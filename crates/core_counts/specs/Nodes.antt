-- Which nodes are the keys and the pairs of the graph, and how many there are.
use Rattle.std.specs.Prelude.{◌≡◌, ◌≢◌, ℕ, ◌<◌, Bool, true, false, not, ◌&&◌, ◌==◌, List}
use Rattle.packed_link.specs.Layout.{Sizes}
use Rattle.packed_link.specs.declared.link.Life.{Life}
use Rattle.core_journal.specs.declared.event.Event.{Event}
use Rattle.core_journal.specs.State.{Free, Fresh, Spent, Node, State, is_linked, state}
use Rattle.core_kept.specs.Nodes.{node_in}

-- a node is a vertex that is linked and not marked
abbrev pub is_key : Node → Bool
is_key v = is_linked v.mode && (v.vertex && not v.marked)

-- a life is that of such a node
abbrev pub is_key_life : State → Life → Bool
is_key_life s x = is_key (s.node x.index) && ((s.node x.index).tag == x.tag)

-- a node is an edge that is linked and not marked, and its source and its target are such vertices
abbrev pub is_pair : State → Node → Bool
is_pair s v = (is_linked v.mode && (not v.vertex && not v.marked)) && (is_key_life s v.source && is_key_life s v.target)

-- no node is free, fresh or spent; no linked node is marked, and each linked edge has both ends
pub record IsAllGraph (sizes : Sizes) (journal : List Event) : Type 0 where
  pub free : (x : ℕ) → x < sizes.nodes → (node_in sizes journal x).mode ≢ Free
  pub fresh : (x : ℕ) → x < sizes.nodes → (node_in sizes journal x).mode ≢ Fresh
  pub spent : (x : ℕ) → x < sizes.nodes → (node_in sizes journal x).mode ≢ Spent
  pub marked : (x : ℕ) → x < sizes.nodes → (node_in sizes journal x).marked ≡ false
  pub source : (x : ℕ) → x < sizes.nodes → (node_in sizes journal x).vertex ≡ false
      → is_key_life (state sizes journal) (node_in sizes journal x).source ≡ true
  pub target : (x : ℕ) → x < sizes.nodes → (node_in sizes journal x).vertex ≡ false
      → is_key_life (state sizes journal) (node_in sizes journal x).target ≡ true
