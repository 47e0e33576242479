-- The chains of the table at a moment: the vertices of each bucket, and the list of edges of each vertex.
use Rattle.std.specs.Prelude.{◌≡◌, ℕ, ◌%◌, ◌<◌, ◌⊎◌, true, false, List, Option, Some, None}
use Rattle.packed_link.specs.Link.{index_of, nowhere}
use Rattle.packed_link.specs.Layout.{Sizes, bucket_at, key_at, link_at, second_at}
use Rattle.packed_link.specs.declared.link.Life.{Life}
use Rattle.core_chain.specs.Chain.{Chain, ChainWord, Head, Next}
use Rattle.core_chain.specs.Met.{IsMet}
use Rattle.core_chain.specs.Table.{Places, chain_in}
use Rattle.core_journal.specs.declared.event.Event.{Event}
use Rattle.core_journal.specs.Life.{key_of, link_of, edge_marked, unlinked}
use Rattle.core_journal.specs.Machine.{word_at}
use Rattle.core_journal.specs.State.{Linked, Spent, state}
use Rattle.core_kept.specs.Nodes.{is_of_bucket, node_in, is_listed, is_frozen, IsUsed, IsLinkedEdge, IsFrozenToEnd}
use Rattle.core_kept.specs.Freezing.{IsFrozenWord}

-- the words of a bucket: its own word is the head, and each vertex has its link
abbrev pub bucket_word : Sizes → ℕ → ChainWord → ℕ
bucket_word sizes j Head = bucket_at sizes j
bucket_word sizes j (Next x) = link_at sizes x

-- where the words and the keys of a bucket's chain stand in the table
abbrev pub bucket_places : Sizes → ℕ → Places
bucket_places sizes j = record { word_at = bucket_word sizes j; key_at = key_at sizes }

-- the words of the list of a vertex: its second word is the head, and each edge has its link
abbrev pub list_word : Sizes → ℕ → ChainWord → ℕ
list_word sizes x Head = second_at sizes x
list_word sizes x (Next y) = link_at sizes y

-- where the words and the keys of a vertex's list stand in the table
abbrev pub list_places : Sizes → ℕ → Places
list_places sizes x = record { word_at = list_word sizes x; key_at = key_at sizes }

-- the chain of a bucket: its linked vertices, marked or not
abbrev pub bucket_chain : Sizes → List Event → ℕ → Chain
bucket_chain sizes journal j =
    chain_in (word_at sizes journal) (bucket_places sizes j) (is_of_bucket sizes (state sizes journal) j) (λ x. 0)

-- the chain of a vertex's edges
abbrev pub edge_chain : Sizes → List Event → ℕ → Chain
edge_chain sizes journal x =
    chain_in (word_at sizes journal) (list_places sizes x) (is_listed (state sizes journal) x)
    (λ y. (node_in sizes journal y).since)

-- the life that a node is in
abbrev pub life_in : Sizes → List Event → ℕ → Life
life_in sizes journal x = record { index = x; tag = (node_in sizes journal x).tag }

-- a vertex is linked or spent, and its list isn't frozen to its end
pub record HasList (sizes : Sizes) (journal : List Event) (x : ℕ) : Type 0 where
  pub there : x < sizes.nodes
  pub used : IsUsed (node_in sizes journal x).mode
  pub vertex : (node_in sizes journal x).vertex ≡ true
  pub unfinished : IsFrozenToEnd sizes journal x → ⊥

-- a life was linked as a vertex with a key of this bucket, and not unlinked
pub record IsVertexOf (sizes : Sizes) (journal : List Event) (j : ℕ) (x : Life) : Type 0 where
  pub key : ℕ
  pub key_is : key_of journal x ≡ Some key
  pub of_bucket : key % sizes.buckets ≡ j
  pub stays : unlinked journal x ≡ false

-- a life was linked as an edge of this source, and not unlinked
pub record IsEdgeOf (journal : List Event) (source x : Life) : Type 0 where
  pub link : Event
  pub is : link_of journal x ≡ Some link
  pub from : link.source ≡ source
  pub stays : unlinked journal x ≡ false

-- an edge is marked, and it was linked before another
pub record IsOlder (sizes : Sizes) (journal : List Event) (x y : Life) : Type 0 where
  pub marked : edge_marked journal x ≡ true
  pub before : (node_in sizes journal x.index).since < (node_in sizes journal y.index).since

-- a life is its node's still, which is linked or spent and isn't stored for the free list
pub record IsUnstored (sizes : Sizes) (journal : List Event) (x : Life) : Type 0 where
  pub life : x.tag ≡ (node_in sizes journal x.index).tag
  pub used : IsUsed (node_in sizes journal x.index).mode
  pub unstored : (node_in sizes journal x.index).stored ≡ false

-- a vertex is linked or spent, and no edge of its life that wasn't unlinked was stored for the free list: its list is
-- one still, frozen to its end or not
pub record KeepsList (sizes : Sizes) (journal : List Event) (x : ℕ) : Type 0 where
  pub there : x < sizes.nodes
  pub used : IsUsed (node_in sizes journal x).mode
  pub vertex : (node_in sizes journal x).vertex ≡ true
  pub edges : (y : Life) → IsEdgeOf journal (life_in sizes journal x) y → IsUnstored sizes journal y

-- a vertex is the one whose list is being frozen, if there is one
abbrev pub IsBeingFrozen : Option ℕ → ℕ → Type 0
IsBeingFrozen None x = ⊥
IsBeingFrozen (Some y) x = x ≡ y

-- a life is that of a node on the chain of this bucket
pub record IsInBucket (sizes : Sizes) (journal : List Event) (j : ℕ) (x : Life) : Type 0 where
  pub there : x.index < sizes.nodes
  pub life : x.tag ≡ (node_in sizes journal x.index).tag
  pub on : is_of_bucket sizes (state sizes journal) j x.index ≡ true

-- a life is that of a node on the list of this vertex
pub record IsInList (sizes : Sizes) (journal : List Event) (vertex : ℕ) (x : Life) : Type 0 where
  pub there : x.index < sizes.nodes
  pub life : x.tag ≡ (node_in sizes journal x.index).tag
  pub on : is_listed (state sizes journal) vertex x.index ≡ true

-- from the word of each bucket, link after link, one meets its linked vertices, each once, by strictly rising keys
pub record BucketChains (sizes : Sizes) (journal : List Event) : Type 0 where
  pub each : (j : ℕ) → j < sizes.buckets → IsMet (bucket_chain sizes journal j) ((state sizes journal).bucket j)

-- from the second word of a vertex, link after link, one meets the edges of its list, each once, by rising keys: two
-- neighbours have one key only where the first is marked
pub record EdgeLists (sizes : Sizes) (journal : List Event) : Type 0 where
  pub each : (x : ℕ) → HasList sizes journal x → IsMet (edge_chain sizes journal x) ((state sizes journal).edges x)

-- the frozen part of a list, which begins it, holds exactly its edges that were handed over; the others are linked. A
-- frozen word leads to none, or to an edge of this list
pub record FrozenParts (sizes : Sizes) (journal : List Event) : Type 0 where
  pub handed : (x y : ℕ) → HasList sizes journal x → is_frozen (state sizes journal) x y ≡ true
      → (node_in sizes journal y).mode ≡ Spent
  pub linked : (x y : ℕ) → HasList sizes journal x → is_listed (state sizes journal) x y ≡ true
      → is_frozen (state sizes journal) x y ≡ false → (node_in sizes journal y).mode ≡ Linked
  pub leads : (x place : ℕ) → HasList sizes journal x → IsFrozenWord sizes journal x place
      → (index_of (word_at sizes journal place) ≡ nowhere)
      ⊎ (is_listed (state sizes journal) x (index_of (word_at sizes journal place)) ≡ true)

-- a linked edge stands on the list of its source, which is in the life that was the edge's source
pub record IsAtSource (sizes : Sizes) (journal : List Event) (y : ℕ) : Type 0 where
  pub list : HasList sizes journal (node_in sizes journal y).source.index
  pub life : (node_in sizes journal y).source.tag ≡ (node_in sizes journal (node_in sizes journal y).source.index).tag
  pub on : is_listed (state sizes journal) (node_in sizes journal y).source.index y ≡ true

-- the source of each linked edge is linked, or spent and not frozen to its end; and a vertex whose list isn't frozen to
-- its end isn't stored for the free list
pub record Sources (sizes : Sizes) (journal : List Event) : Type 0 where
  pub each : (y : ℕ) → y < sizes.nodes → IsLinkedEdge sizes journal y → IsAtSource sizes journal y
  pub unstored : (x : ℕ) → HasList sizes journal x → (node_in sizes journal x).stored ≡ false
