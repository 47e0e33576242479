-- What a token must know by its front, so that its next step of a kind is allowed wherever it wins: one condition a
-- kind. "Met" is what an open pass has met (`HasMet`). An earlier moment, at which the token loaded a word, stands only
-- in those for taking a node, announcing, moving the epoch on, raising, marking and replacing an edge, and where the
-- node is ripe.
use Rattle.std.specs.Prelude.{◌≡◌, ◌≢◌, ℕ, ◌+◌, ◌%◌, ◌<◌, ◌^◌, ◌⊎◌, true, false, List, Some, length}
use Rattle.packed_link.specs.Link.{index_of, mark_of, tag_of, nowhere}
use Rattle.packed_link.specs.Layout.{free_at, epoch_at, bucket_at, key_at, link_at, second_at}
use Rattle.packed_link.specs.declared.link.Life.{Life}
use Rattle.core_journal.specs.Event.{pops, raises, moves}
use Rattle.core_journal.specs.declared.event.Event.{Event}
use Rattle.core_journal.specs.Prefix.{IsPrefix}
use Rattle.core_journal.specs.Machine.{word_at}
use Rattle.core_journal.specs.Life.{link_of, edge_marked}
use Rattle.core_journal.specs.Reuse.{pass_in}
use Rattle.core_journal.specs.State.{state}
use Rattle.core_kept.specs.Counts.{made, most_pops, most_raises, most_moves}
use Rattle.core_kept.specs.Nodes.{node_in, is_listed, IsFreshWith, IsFrozenToEnd, IsRipe}
use Rattle.core_lists.specs.Chains.{KeepsList}
use Rattle.core_kept.specs.Passes.{IsChecked}
use Rattle.core_kept.specs.Vertices.{IsFilledVertex}
use Rattle.core_kept.specs.Edges.{IsFilledEdge, IsRaisedFor}
use Rattle.core_kept.specs.Freezing.{IsSpentVertex, IsFrozenWord}
use Rattle.core_kept.specs.Facts.{HasMet}
use Rattle.core_rule.specs.declared.view.View.{View}

-- a life is that of its node at the token's front
pub record IsLifeAt (v : View) (x : Life) : Type 0 where
  pub there : x.index < v.sizes.nodes
  pub tag : x.tag ≡ (node_in v.sizes v.front x.index).tag

-- the token's open pass has met a life, which is that of a vertex
pub record MetVertex (v : View) (x : Life) : Type 0 where
  pub life : IsLifeAt v x
  pub met : HasMet v.sizes v.front v.number x.index
  pub vertex : (node_in v.sizes v.front x.index).vertex ≡ true

-- the token's open pass has met a life, which is that of an edge of this source
pub record MetEdge (v : View) (source x : Life) : Type 0 where
  pub life : IsLifeAt v x
  pub met : HasMet v.sizes v.front v.number x.index
  pub edge : (node_in v.sizes v.front x.index).vertex ≡ false
  pub from : (node_in v.sizes v.front x.index).source ≡ source

-- the key in a node's key word
abbrev pub key_in : View → ℕ → ℕ
key_in v x = word_at v.sizes v.front (key_at v.sizes x)

-- the word of the free list was seen, and after that the link of the node to which it leads; the token holds no fresh
-- node
pub record MayPopFree (v : View) (seen next : ℕ) : Type 0 where
  pub there : index_of seen < v.sizes.nodes
  pub first : List Event
  pub second : List Event
  pub then : IsPrefix first second
  pub before : IsPrefix second v.front
  pub word : word_at v.sizes first (free_at v.sizes) ≡ seen
  pub link : word_at v.sizes second (link_at v.sizes (index_of seen)) ≡ next
  pub holds_none : (x : ℕ) → x < v.sizes.nodes → IsFreshWith v.sizes v.front v.number x → ⊥
  pub limit : made pops v.number v.front < most_pops

-- the node is fresh with the token, and a link word that is stored has its life's tag and no mark
pub record MayStorePrivate (v : View) (x : Life) (field word : ℕ) : Type 0 where
  pub life : IsLifeAt v x
  pub field_is : field < 4
  pub fits : word < 2 ^ 64
  pub link : key_at v.sizes x.index + field ≡ link_at v.sizes x.index → (tag_of word ≡ x.tag) × (mark_of word ≡ 0)
  pub fresh : IsFreshWith v.sizes v.front v.number x.index

-- a vertex that was met has a smaller key of the same bucket, and this place is its link
pub record IsVertexBelow (v : View) (key place : ℕ) (x : Life) : Type 0 where
  pub met : MetVertex v x
  pub place_is : place ≡ link_at v.sizes x.index
  pub below : key_in v x.index < key
  pub bucket : key_in v x.index % v.sizes.buckets ≡ key % v.sizes.buckets

-- a word behind which a vertex of this key may stand: that of the key's bucket, or the link of a vertex before it
abbrev pub IsBeforeVertex : View → ℕ → ℕ → Type 0
IsBeforeVertex v key place =
    (place ≡ bucket_at v.sizes (key % v.sizes.buckets)) ⊎ ((x : Life) × IsVertexBelow v key place x)

-- a vertex that was met has this index and a greater key
pub record IsVertexAbove (v : View) (key index : ℕ) : Type 0 where
  pub life : Life
  pub is : life.index ≡ index
  pub met : MetVertex v life
  pub above : key < key_in v index

-- the unmarked word seen leads to none or to a vertex of a greater key, and the fresh node is filled with where it
-- leads
pub record MayLinkVertex (v : View) (place seen key : ℕ) (x : Life) : Type 0 where
  pub life : IsLifeAt v x
  pub pass : (pass_in v.sizes v.front v.number).is_open ≡ true
  pub before : IsBeforeVertex v key place
  pub behind : index_of seen ≢ nowhere → IsVertexAbove v key (index_of seen)
  pub unmarked : mark_of seen ≡ 0
  pub fresh : IsFreshWith v.sizes v.front v.number x.index
  pub filled : IsFilledVertex v.sizes v.front x.index key (index_of seen)

-- a vertex that was met
pub record MayMarkVertex (v : View) (x : Life) : Type 0 where
  pub vertex : MetVertex v x

-- a vertex that was met, and this place is its link
pub record IsVertexLink (v : View) (place : ℕ) (x : Life) : Type 0 where
  pub met : MetVertex v x
  pub place_is : place ≡ link_at v.sizes x.index

-- a word that leads to vertices: that of a bucket, or the link of a vertex that was met
abbrev pub LeadsToVertex : View → ℕ → Type 0
LeadsToVertex v place =
    ((j : ℕ) × (j < v.sizes.buckets) × (place ≡ bucket_at v.sizes j)) ⊎ ((x : Life) × IsVertexLink v place x)

-- the unmarked word seen leads to a vertex that was met and is marked
pub record MayUnlinkVertex (v : View) (place seen next : ℕ) (x : Life) : Type 0 where
  pub pass : (pass_in v.sizes v.front v.number).is_open ≡ true
  pub before : LeadsToVertex v place
  pub unmarked : mark_of seen ≡ 0
  pub leads : index_of seen ≡ x.index
  pub vertex : MetVertex v x
  pub dead : mark_of (word_at v.sizes v.front (link_at v.sizes x.index)) ≡ 1
  pub next_is : next ≡ index_of (word_at v.sizes v.front (link_at v.sizes x.index))

-- an edge of this source that was met has a smaller key, and this place is its link
pub record IsEdgeBelow (v : View) (source : Life) (key place : ℕ) (x : Life) : Type 0 where
  pub met : MetEdge v source x
  pub place_is : place ≡ link_at v.sizes x.index
  pub below : key_in v x.index < key

-- a word behind which an edge of this source and key may stand: the source's second word, or the link of an edge before
-- it
abbrev pub IsBeforeEdge : View → Life → ℕ → ℕ → Type 0
IsBeforeEdge v source key place =
    (place ≡ second_at v.sizes source.index) ⊎ ((x : Life) × IsEdgeBelow v source key place x)

-- an edge of this source that was met has this index and a greater key
pub record IsEdgeAbove (v : View) (source : Life) (key index : ℕ) : Type 0 where
  pub life : Life
  pub is : life.index ≡ index
  pub met : MetEdge v source life
  pub above : key < key_in v index

-- the source was met, the unmarked word seen leads to none or to an edge of a greater key, the fresh node is filled
-- with where it leads, and the target was met and has the edge's key
pub record MayLinkEdge (v : View) (place seen key : ℕ) (source target : Life) (weight : ℕ) (x : Life) : Type 0 where
  pub life : IsLifeAt v x
  pub from : MetVertex v source
  pub before : IsBeforeEdge v source key place
  pub behind : index_of seen ≢ nowhere → IsEdgeAbove v source key (index_of seen)
  pub unmarked : mark_of seen ≡ 0
  pub fresh : IsFreshWith v.sizes v.front v.number x.index
  pub filled : IsFilledEdge v.sizes v.front x.index key (index_of seen) target weight
  pub to : MetVertex v target
  pub to_key : key_in v target.index ≡ key

-- the vertex was met, and at a moment of this pass an edge of it was linked and not marked
pub record MayRaise (v : View) (x : Life) : Type 0 where
  pub vertex : MetVertex v x
  pub moment : List Event
  pub before : IsPrefix moment v.front
  pub since : (pass_in v.sizes v.front v.number).since < length moment
  pub edge : Life
  pub link : Event
  pub linked : link_of moment edge ≡ Some link
  pub from : link.source ≡ x
  pub unmarked : edge_marked moment edge ≡ false
  pub limit : made raises v.number v.front < most_raises

-- the edge was met, and in this pass the token raised the counter of its source when the edge was linked
pub record MayMarkEdge (v : View) (source x : Life) : Type 0 where
  pub edge : MetEdge v source x
  pub raised : IsRaisedFor v.sizes v.front v.number x source

-- the edge was met, and in this pass the token raised the counter of its source when the edge was linked; the word seen
-- is unmarked, and the fresh node is filled with where it leads, with the edge's key and target, and with another
-- weight
pub record MayReplaceEdge (v : View) (seen key : ℕ) (source target : Life) (weight : ℕ) (old x : Life) : Type 0 where
  pub life : IsLifeAt v x
  pub edge : MetEdge v source old
  pub raised : IsRaisedFor v.sizes v.front v.number old source
  pub unmarked : mark_of seen ≡ 0
  pub fresh : IsFreshWith v.sizes v.front v.number x.index
  pub filled : IsFilledEdge v.sizes v.front x.index key (index_of seen) target weight
  pub link : Event
  pub link_is : link_of v.front old ≡ Some link
  pub same_key : link.key ≡ key
  pub same_target : link.target ≡ target
  pub other_weight : link.weight ≢ weight

-- an edge of this source that was met, and this place is its link
pub record IsEdgeLink (v : View) (source : Life) (place : ℕ) (x : Life) : Type 0 where
  pub met : MetEdge v source x
  pub place_is : place ≡ link_at v.sizes x.index

-- a word that leads to edges of this source: its second word, or the link of an edge that was met
abbrev pub LeadsToEdge : View → Life → ℕ → Type 0
LeadsToEdge v source place = (place ≡ second_at v.sizes source.index) ⊎ ((x : Life) × IsEdgeLink v source place x)

-- the source was met, and the unmarked word seen leads to an edge of it that was met and is marked
pub record MayUnlinkEdge (v : View) (place seen next : ℕ) (source x : Life) : Type 0 where
  pub from : MetVertex v source
  pub before : LeadsToEdge v source place
  pub unmarked : mark_of seen ≡ 0
  pub leads : index_of seen ≡ x.index
  pub edge : MetEdge v source x
  pub dead : mark_of (word_at v.sizes v.front (link_at v.sizes x.index)) ≡ 1
  pub next_is : next ≡ index_of (word_at v.sizes v.front (link_at v.sizes x.index))

-- the token has no pass, and the epoch was this one at a moment, however long ago
pub record MayAnnounce (v : View) (epoch : ℕ) : Type 0 where
  pub there : v.number < v.sizes.callers
  pub loaded : List Event
  pub before : IsPrefix loaded v.front
  pub word : word_at v.sizes loaded (epoch_at v.sizes) ≡ epoch
  pub closed : (pass_in v.sizes v.front v.number).is_open ≡ false

-- the token has a pass
pub record MayWithdraw (v : View) : Type 0 where
  pub there : v.number < v.sizes.callers
  pub pass : (pass_in v.sizes v.front v.number).is_open ≡ true

-- the token has no pass, the epoch was this one at a moment, and each caller was checked after that
pub record MayMoveEpoch (v : View) (seen : ℕ) : Type 0 where
  pub there : v.number < v.sizes.callers
  pub loaded : List Event
  pub before : IsPrefix loaded v.front
  pub word : word_at v.sizes loaded (epoch_at v.sizes) ≡ seen
  pub checked : (i : ℕ) → i < v.sizes.callers → IsChecked v.sizes loaded v.front seen i
  pub closed : (pass_in v.sizes v.front v.number).is_open ≡ false
  pub limit : made moves v.number v.front < most_moves

-- the token unlinked the vertex
pub record MayFreezeHead (v : View) (x : Life) : Type 0 where
  pub life : IsLifeAt v x
  pub spent : IsSpentVertex v.sizes v.front v.number x.index

-- the token unlinked the vertex, whose list has no edge yet that was stored for the free list, and a frozen word of the
-- list leads to this edge
pub record MayFreezeEdge (v : View) (source : Life) (place : ℕ) (x : Life) : Type 0 where
  pub life : IsLifeAt v source
  pub spent : IsSpentVertex v.sizes v.front v.number source.index
  pub list : KeepsList v.sizes v.front source.index
  pub frozen : IsFrozenWord v.sizes v.front source.index place
  pub edge : IsLifeAt v x
  pub leads : index_of (word_at v.sizes v.front place) ≡ x.index

-- the node is ripe, and the lists that may lead to it are frozen to their ends: its own, and that from which it was
-- handed over
pub record MayStoreFree (v : View) (next : ℕ) (x : Life) : Type 0 where
  pub life : IsLifeAt v x
  pub next_there : (next < v.sizes.nodes) ⊎ (next ≡ nowhere)
  pub ripe : IsRipe v.sizes v.front v.number x.index
  pub own_list : (node_in v.sizes v.front x.index).vertex ≡ true → IsFrozenToEnd v.sizes v.front x.index
  pub list : (y : ℕ) → y < v.sizes.nodes → is_listed (state v.sizes v.front) y x.index ≡ true
      → IsFrozenToEnd v.sizes v.front y

-- the word of the free list was seen, the node is ripe, and its link was stored with where that word leads
pub record MayPushFree (v : View) (seen : ℕ) (x : Life) : Type 0 where
  pub life : IsLifeAt v x
  pub first : List Event
  pub before : IsPrefix first v.front
  pub word : word_at v.sizes first (free_at v.sizes) ≡ seen
  pub ripe : IsRipe v.sizes v.front v.number x.index
  pub stored : (node_in v.sizes v.front x.index).stored ≡ true
  pub ready : index_of (word_at v.sizes v.front (link_at v.sizes x.index)) ≡ index_of seen
