-- When the list of an unlinked vertex may be closed at its head, and an edge on a closed list be marked.
use Rattle.std.specs.Prelude.{◌≡◌, ℕ, ◌<◌, ◌⊎◌, true, List}
use Rattle.packed_link.specs.Link.{with_mark, index_of, mark_of}
use Rattle.packed_link.specs.Layout.{Sizes, link_at, second_at}
use Rattle.core_journal.specs.declared.event.Event.{Event}
use Rattle.core_journal.specs.Machine.{word_at}
use Rattle.core_journal.specs.State.{Spent, state}
use Rattle.core_kept.specs.Nodes.{node_in, is_frozen, IsVertex, IsLinkedEdge}

-- a vertex is spent by the caller who unlinked it
pub record IsSpentVertex (sizes : Sizes) (past : List Event) (caller x : ℕ) : Type 0 where
  pub spent : (node_in sizes past x).mode ≡ Spent
  pub vertex : (node_in sizes past x).vertex ≡ true
  pub mine : (node_in sizes past x).who ≡ caller

-- the caller who unlinked a vertex closes the list of its edges at its head, once
pub record IsFreezeHead (sizes : Sizes) (past : List Event) (e : Event) : Type 0 where
  pub life : e.life.tag ≡ (node_in sizes past e.life.index).tag
  pub there : e.life.index < sizes.nodes
  pub place : e.place ≡ second_at sizes e.life.index
  pub spent : IsSpentVertex sizes past e.caller e.life.index
  pub unmarked : mark_of (word_at sizes past e.place) ≡ 0
  pub word : e.word ≡ with_mark (word_at sizes past e.place)

-- a word of a closed list is frozen: it's the second word of the vertex, or the link of an edge of its frozen part
pub record IsFrozenWord (sizes : Sizes) (past : List Event) (x place : ℕ) : Type 0 where
  pub head : (state sizes past).frozen x ≡ true
  pub at : (place ≡ second_at sizes x)
      ⊎ ((y : ℕ) × (is_frozen (state sizes past) x y ≡ true) × (place ≡ link_at sizes y))

-- the caller who unlinked an edge's source marks the edge, to which a frozen word of that source's list leads
pub record IsFreezeEdge (sizes : Sizes) (past : List Event) (e : Event) : Type 0 where
  pub life : e.life.tag ≡ (node_in sizes past e.life.index).tag
  pub there : e.life.index < sizes.nodes
  pub place : e.place ≡ link_at sizes e.life.index
  pub linked : IsLinkedEdge sizes past e.life.index
  pub source : IsVertex sizes past (node_in sizes past e.life.index).source
  pub spent : IsSpentVertex sizes past e.caller (node_in sizes past e.life.index).source.index
  pub before : ℕ
  pub frozen : IsFrozenWord sizes past (node_in sizes past e.life.index).source.index before
  pub leads : index_of (word_at sizes past before) ≡ e.life.index
  pub unmarked : mark_of (word_at sizes past e.place) ≡ 0
  pub word : e.word ≡ with_mark (word_at sizes past e.place)
