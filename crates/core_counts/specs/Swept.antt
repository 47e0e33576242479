-- What a sweep leaves of the lists: nothing marked, and no edge without its target; and whose a node is then.
use Rattle.std.specs.Prelude.{◌≡◌, ◌≢◌, ℕ, ◌<◌, true, false, ◌⊎◌, List}
use Rattle.packed_link.specs.Layout.{Sizes}
use Rattle.core_journal.specs.declared.event.Event.{Event}
use Rattle.core_journal.specs.State.{Linked, Node, State, state}
use Rattle.core_kept.specs.Freezing.{IsSpentVertex}
use Rattle.core_kept.specs.Nodes.{node_in, IsSpentWith, IsFreshWith, IsLinkedEdge, IsLinkedVertex}
use Rattle.core_counts.specs.Nodes.{is_key, is_key_life, is_pair}

-- a vertex that is linked isn't marked
abbrev pub IsCleanVertex : Node → Type 0
IsCleanVertex v = v.mode ≡ Linked → v.vertex ≡ true → v.marked ≡ false

-- where an edge is linked from a linked vertex, it isn't marked and has its target
abbrev pub IsCleanEdge : State → ℕ → Type 0
IsCleanEdge s y = (s.node y).mode ≡ Linked → (s.node y).vertex ≡ false
    → (s.node (s.node y).source.index).mode ≡ Linked
    → ((s.node y).marked ≡ false) × (is_key_life s (s.node y).target ≡ true)

-- no bucket's chain holds a marked vertex, and no list of a linked vertex a marked edge or one without its target
pub record IsSwept (sizes : Sizes) (journal : List Event) : Type 0 where
  pub vertices : (x : ℕ) → x < sizes.nodes → IsLinkedVertex sizes journal x → (node_in sizes journal x).marked ≡ false
  pub edges : (y : ℕ) → y < sizes.nodes → IsLinkedEdge sizes journal y
      → (node_in sizes journal (node_in sizes journal y).source.index).mode ≡ Linked
      → ((node_in sizes journal y).marked ≡ false)
      × (is_key_life (state sizes journal) (node_in sizes journal y).target ≡ true)

-- a node is with another caller: fresh with it, spent by it, or a linked edge whose source it spent
pub record IsAnothers (sizes : Sizes) (journal : List Event) (caller x : ℕ) : Type 0 where
  pub other : ℕ
  pub apart : other ≢ caller
  pub how : (IsFreshWith sizes journal other x ⊎ IsSpentWith sizes journal other x)
      ⊎ (IsLinkedEdge sizes journal x × IsSpentVertex sizes journal other (node_in sizes journal x).source.index)

-- a node is a key or a pair of the graph, or with another caller
abbrev pub IsOfGraphOr : Sizes → List Event → ℕ → ℕ → Type 0
IsOfGraphOr sizes journal caller x =
    ((is_key (node_in sizes journal x) ≡ true) ⊎ (is_pair (state sizes journal) (node_in sizes journal x) ≡ true))
    ⊎ IsAnothers sizes journal caller x
