-- When an edge may be linked, its source's counter be raised, and the edge be marked and unlinked.
use Rattle.std.specs.Prelude.{◌≡◌, ◌≢◌, ℕ, ◌+◌, ◌<◌, ◌≤◌, ◌^◌, true, false, List, Some, length, slice_get, take}
use Rattle.packed_link.specs.Link.{pack, with_mark, index_of, mark_of, tag_of, nowhere}
use Rattle.packed_link.specs.Layout.{Sizes, key_at, link_at, second_at, third_at}
use Rattle.packed_link.specs.declared.link.Life.{Life}
use Rattle.core_journal.specs.Event.{raises}
use Rattle.core_journal.specs.declared.event.Kind.TheVariants.{Raise}
use Rattle.core_journal.specs.declared.event.Event.{Event}
use Rattle.core_journal.specs.Prefix.{IsPrefix}
use Rattle.core_journal.specs.Machine.{word_at}
use Rattle.core_journal.specs.Life.{key_of, link_of, edge_linked, edge_marked}
use Rattle.core_journal.specs.Reuse.{pass_in}
use Rattle.core_kept.specs.Counts.{made, most_raises}
use Rattle.core_kept.specs.Nodes.{node_in, IsFreshWith, IsVertex, IsLinkedEdge, IsListWord}
use Rattle.core_kept.specs.Facts.{HasMet}

-- the words of a node are those of an edge in its life, whose link leads to a node or none
pub record IsFilledEdge (sizes : Sizes) (past : List Event) (x key next : ℕ) (to : Life) (weight : ℕ) : Type 0 where
  pub key_word : word_at sizes past (key_at sizes x) ≡ key
  pub key_fits : key < 2 ^ 32
  pub link_word : word_at sizes past (link_at sizes x) ≡ pack next 0 (node_in sizes past x).tag
  pub second_word : word_at sizes past (second_at sizes x) ≡ pack to.index 0 to.tag
  pub third_word : word_at sizes past (third_at sizes x) ≡ weight
  pub some : 1 ≤ weight
  pub weight_fits : weight < 2 ^ 32

-- the key lies strictly between those before and behind a word of a list
pub record IsEdgeGap (sizes : Sizes) (past : List Event) (place key : ℕ) : Type 0 where
  pub below : (x : ℕ) → place ≡ link_at sizes x → word_at sizes past (key_at sizes x) < key
  pub above : index_of (word_at sizes past place) ≢ nowhere
      → key < word_at sizes past (key_at sizes (index_of (word_at sizes past place)))

-- the link is that of a linked edge with this source
pub record IsEdgeFrom (sizes : Sizes) (past : List Event) (source : Life) (x : ℕ) : Type 0 where
  pub linked : IsLinkedEdge sizes past x
  pub from : (node_in sizes past x).source ≡ source

-- in its pass a caller links the edge that it filled behind an unmarked word, which is the second word of its source or
-- the link of a linked edge with this source; its pass has met the source and the target, which is a vertex of its key
pub record IsLinkEdge (sizes : Sizes) (past : List Event) (e : Event) : Type 0 where
  pub life : e.life.tag ≡ (node_in sizes past e.life.index).tag
  pub there : e.life.index < sizes.nodes
  pub source : IsVertex sizes past e.source
  pub source_met : HasMet sizes past e.caller e.source.index
  pub before : ℕ
  pub place : IsListWord sizes e.place e.source.index before
  pub linked : (x : ℕ) → e.place ≡ link_at sizes x → IsEdgeFrom sizes past e.source x
  pub unmarked : mark_of (word_at sizes past e.place) ≡ 0
  pub gap : IsEdgeGap sizes past e.place e.key
  pub word : e.word ≡ pack e.life.index 0 (tag_of (word_at sizes past e.place))
  pub fresh : IsFreshWith sizes past e.caller e.life.index
  pub filled : IsFilledEdge sizes past e.life.index e.key (index_of (word_at sizes past e.place)) e.target e.weight
  pub target : IsVertex sizes past e.target
  pub target_met : HasMet sizes past e.caller e.target.index
  pub target_key : key_of past e.target ≡ Some e.key
  pub pass : (pass_in sizes past e.caller).is_open ≡ true

-- in its pass a caller raises the counter of a vertex that the pass has met, of which an edge was linked and unmarked
-- at a moment of this pass
pub record IsRaise (sizes : Sizes) (past : List Event) (e : Event) : Type 0 where
  pub life : e.life.tag ≡ (node_in sizes past e.life.index).tag
  pub there : e.life.index < sizes.nodes
  pub place : e.place ≡ third_at sizes e.life.index
  pub vertex : IsVertex sizes past e.life
  pub met : HasMet sizes past e.caller e.life.index
  pub moment : List Event
  pub before : IsPrefix moment past
  pub since : (pass_in sizes past e.caller).since < length moment
  pub edge : Life
  pub link : Event
  pub linked : link_of moment edge ≡ Some link
  pub from : link.source ≡ e.life
  pub unmarked : edge_marked moment edge ≡ false
  pub word : e.word ≡ word_at sizes past e.place + 1
  pub pass : (pass_in sizes past e.caller).is_open ≡ true
  pub limit : made raises e.caller past < most_raises

-- since its last pass began a caller raised the counter of the source of an edge that was linked by then
pub record IsRaisedFor (sizes : Sizes) (past : List Event) (caller : ℕ) (edge source : Life) : Type 0 where
  pub number : ℕ
  pub since : (pass_in sizes past caller).since < number
  pub raise : Event
  pub at : slice_get past number ≡ Some raise
  pub kind : raise.kind ≡ Raise
  pub by : raise.caller ≡ caller
  pub vertex : raise.life ≡ source
  pub linked : edge_linked (take number past) edge ≡ true

-- in its pass a caller marks a linked edge, after it raised the counter of the edge's source
pub record IsMarkEdge (sizes : Sizes) (past : List Event) (e : Event) : Type 0 where
  pub life : e.life.tag ≡ (node_in sizes past e.life.index).tag
  pub there : e.life.index < sizes.nodes
  pub place : e.place ≡ link_at sizes e.life.index
  pub linked : IsLinkedEdge sizes past e.life.index
  pub unmarked : mark_of (word_at sizes past e.place) ≡ 0
  pub word : e.word ≡ with_mark (word_at sizes past e.place)
  pub raised : IsRaisedFor sizes past e.caller e.life (node_in sizes past e.life.index).source
  pub pass : (pass_in sizes past e.caller).is_open ≡ true

-- in its pass a caller unlinks a marked edge from the unmarked word that leads to it; its pass has met the source
pub record IsUnlinkEdge (sizes : Sizes) (past : List Event) (e : Event) : Type 0 where
  pub life : e.life.tag ≡ (node_in sizes past e.life.index).tag
  pub there : e.life.index < sizes.nodes
  pub source : IsVertex sizes past (node_in sizes past e.life.index).source
  pub source_met : HasMet sizes past e.caller (node_in sizes past e.life.index).source.index
  pub before : ℕ
  pub place : IsListWord sizes e.place (node_in sizes past e.life.index).source.index before
  pub before_linked : (x : ℕ) → e.place ≡ link_at sizes x
      → IsEdgeFrom sizes past (node_in sizes past e.life.index).source x
  pub unmarked : mark_of (word_at sizes past e.place) ≡ 0
  pub leads : index_of (word_at sizes past e.place) ≡ e.life.index
  pub linked : IsLinkedEdge sizes past e.life.index
  pub dead : mark_of (word_at sizes past (link_at sizes e.life.index)) ≡ 1
  pub word : e.word ≡ pack (index_of (word_at sizes past (link_at sizes e.life.index))) 0
      (tag_of (word_at sizes past e.place))
  pub pass : (pass_in sizes past e.caller).is_open ≡ true

-- in its pass a caller marks an unmarked edge and links the one that it filled behind it, which has its key, source and
-- target and another weight, after it raised the counter of the source
pub record IsReplaceEdge (sizes : Sizes) (past : List Event) (e : Event) : Type 0 where
  pub life : e.life.tag ≡ (node_in sizes past e.life.index).tag
  pub there : e.life.index < sizes.nodes
  pub old_life : e.old.tag ≡ (node_in sizes past e.old.index).tag
  pub old_there : e.old.index < sizes.nodes
  pub place : e.place ≡ link_at sizes e.old.index
  pub linked : IsLinkedEdge sizes past e.old.index
  pub unmarked : mark_of (word_at sizes past e.place) ≡ 0
  pub word : e.word ≡ pack e.life.index 1 (tag_of (word_at sizes past e.place))
  pub fresh : IsFreshWith sizes past e.caller e.life.index
  pub filled : IsFilledEdge sizes past e.life.index e.key (index_of (word_at sizes past e.place)) e.target e.weight
  pub key : e.key ≡ (node_in sizes past e.old.index).key
  pub source : e.source ≡ (node_in sizes past e.old.index).source
  pub target : e.target ≡ (node_in sizes past e.old.index).target
  pub other : e.weight ≢ (node_in sizes past e.old.index).weight
  pub raised : IsRaisedFor sizes past e.caller e.old (node_in sizes past e.old.index).source
  pub pass : (pass_in sizes past e.caller).is_open ≡ true
