-- When a node may be taken and filled, and a spent node be given back.
use Rattle.std.specs.Prelude.{◌≡◌, ℕ, ◌+◌, ◌<◌, ◌^◌, ◌⊎◌, true, List}
use Rattle.packed_link.specs.Link.{pack, index_of, mark_of, tag_of, nowhere}
use Rattle.packed_link.specs.Layout.{Sizes, free_at, key_at, link_at}
use Rattle.core_journal.specs.Event.{pops}
use Rattle.core_journal.specs.declared.event.Event.{Event}
use Rattle.core_journal.specs.Machine.{word_at}
use Rattle.core_journal.specs.State.{state}
use Rattle.core_kept.specs.Counts.{made, most_pops}
use Rattle.core_kept.specs.Nodes.{node_in, is_listed, IsFreshWith, IsFrozenToEnd, IsRipe}

-- a caller that holds no fresh node takes the first free one, for its next life, and the free list then begins with
-- the node behind it
pub record IsPopFree (sizes : Sizes) (past : List Event) (e : Event) : Type 0 where
  pub life : e.life.tag ≡ tag_of (word_at sizes past (link_at sizes e.life.index)) + 1
  pub there : e.life.index < sizes.nodes
  pub place : e.place ≡ free_at sizes
  pub seen : index_of (word_at sizes past (free_at sizes)) ≡ e.life.index
  pub word : e.word ≡ pack (index_of (word_at sizes past (link_at sizes e.life.index))) 0
      (tag_of (word_at sizes past (free_at sizes)) + 1)
  pub holds_none : (x : ℕ) → x < sizes.nodes → IsFreshWith sizes past e.caller x → ⊥
  pub limit : made pops e.caller past < most_pops

-- a caller stores to a word of the node that it took; a link word has the life's tag and no mark
pub record IsStorePrivate (sizes : Sizes) (past : List Event) (e : Event) : Type 0 where
  pub life : e.life.tag ≡ (node_in sizes past e.life.index).tag
  pub there : e.life.index < sizes.nodes
  pub field : ℕ
  pub place : (e.place ≡ key_at sizes e.life.index + field) × (field < 4)
  pub word : e.word < 2 ^ 64
  pub link : e.place ≡ link_at sizes e.life.index → (tag_of e.word ≡ e.life.tag) × (mark_of e.word ≡ 0)
  pub fresh : IsFreshWith sizes past e.caller e.life.index

-- a caller stores the link of a ripe node for the free list: a vertex's own list, and the list from which an edge was
-- handed over, is frozen to its end
pub record IsStoreFree (sizes : Sizes) (past : List Event) (e : Event) : Type 0 where
  pub life : e.life.tag ≡ (node_in sizes past e.life.index).tag
  pub there : e.life.index < sizes.nodes
  pub place : e.place ≡ link_at sizes e.life.index
  pub next : ℕ
  pub next_there : (next < sizes.nodes) ⊎ (next ≡ nowhere)
  pub word : e.word ≡ pack next 1 (node_in sizes past e.life.index).tag
  pub ripe : IsRipe sizes past e.caller e.life.index
  pub own_list : (node_in sizes past e.life.index).vertex ≡ true → IsFrozenToEnd sizes past e.life.index
  pub list : (x : ℕ) → x < sizes.nodes → is_listed (state sizes past) x e.life.index ≡ true → IsFrozenToEnd sizes past x

-- a caller gives back a ripe node whose link it stored: the node leads to the first free one, and is first now
pub record IsPushFree (sizes : Sizes) (past : List Event) (e : Event) : Type 0 where
  pub life : e.life.tag ≡ (node_in sizes past e.life.index).tag
  pub there : e.life.index < sizes.nodes
  pub place : e.place ≡ free_at sizes
  pub ripe : IsRipe sizes past e.caller e.life.index
  pub stored : (node_in sizes past e.life.index).stored ≡ true
  pub ready : index_of (word_at sizes past (link_at sizes e.life.index)) ≡ index_of (word_at sizes past (free_at sizes))
  pub word : e.word ≡ pack e.life.index 0 (tag_of (word_at sizes past (free_at sizes)) + 1)
