-- When a vertex may be linked, marked and unlinked.
use Rattle.std.specs.Prelude.{◌≡◌, ◌≢◌, ℕ, ◌%◌, ◌<◌, ◌^◌, true, List}
use Rattle.packed_link.specs.Link.{pack, with_mark, index_of, mark_of, tag_of, nowhere}
use Rattle.packed_link.specs.Layout.{Sizes, bucket_at, key_at, link_at, second_at, third_at}
use Rattle.core_journal.specs.declared.event.Event.{Event}
use Rattle.core_journal.specs.Machine.{word_at}
use Rattle.core_journal.specs.Reuse.{pass_in}
use Rattle.core_kept.specs.Nodes.{node_in, IsFreshWith, IsLinkedVertex, IsBucketWord}

-- the words of a node are those of a vertex of this key in its life, whose link leads to a node or none
pub record IsFilledVertex (sizes : Sizes) (past : List Event) (x key next : ℕ) : Type 0 where
  pub key_word : word_at sizes past (key_at sizes x) ≡ key
  pub key_fits : key < 2 ^ 32
  pub link_word : word_at sizes past (link_at sizes x) ≡ pack next 0 (node_in sizes past x).tag
  pub second_word : word_at sizes past (second_at sizes x) ≡ pack nowhere 0 (node_in sizes past x).tag
  pub third_word : word_at sizes past (third_at sizes x) ≡ 0

-- the key lies strictly between those before and behind a word of the bucket of this key
pub record IsVertexGap (sizes : Sizes) (past : List Event) (place key : ℕ) : Type 0 where
  pub bucket_word : (j : ℕ) → place ≡ bucket_at sizes j → j < sizes.buckets → j ≡ key % sizes.buckets
  pub bucket : (x : ℕ) → place ≡ link_at sizes x
      → word_at sizes past (key_at sizes x) % sizes.buckets ≡ key % sizes.buckets
  pub below : (x : ℕ) → place ≡ link_at sizes x → word_at sizes past (key_at sizes x) < key
  pub above : index_of (word_at sizes past place) ≢ nowhere
      → key < word_at sizes past (key_at sizes (index_of (word_at sizes past place)))

-- in its pass a caller links the vertex that it filled behind an unmarked word, which is that of the bucket of its key
-- or the link of a linked vertex
pub record IsLinkVertex (sizes : Sizes) (past : List Event) (e : Event) : Type 0 where
  pub life : e.life.tag ≡ (node_in sizes past e.life.index).tag
  pub there : e.life.index < sizes.nodes
  pub bucket : ℕ
  pub before : ℕ
  pub place : IsBucketWord sizes e.place bucket before
  pub linked : (x : ℕ) → e.place ≡ link_at sizes x → IsLinkedVertex sizes past x
  pub unmarked : mark_of (word_at sizes past e.place) ≡ 0
  pub gap : IsVertexGap sizes past e.place e.key
  pub word : e.word ≡ pack e.life.index 0 (tag_of (word_at sizes past e.place))
  pub fresh : IsFreshWith sizes past e.caller e.life.index
  pub filled : IsFilledVertex sizes past e.life.index e.key (index_of (word_at sizes past e.place))
  pub pass : (pass_in sizes past e.caller).is_open ≡ true

-- in its pass a caller marks a linked vertex
pub record IsMarkVertex (sizes : Sizes) (past : List Event) (e : Event) : Type 0 where
  pub life : e.life.tag ≡ (node_in sizes past e.life.index).tag
  pub there : e.life.index < sizes.nodes
  pub place : e.place ≡ link_at sizes e.life.index
  pub linked : IsLinkedVertex sizes past e.life.index
  pub unmarked : mark_of (word_at sizes past e.place) ≡ 0
  pub word : e.word ≡ with_mark (word_at sizes past e.place)
  pub pass : (pass_in sizes past e.caller).is_open ≡ true

-- in its pass a caller unlinks a marked vertex from the unmarked word that leads to it
pub record IsUnlinkVertex (sizes : Sizes) (past : List Event) (e : Event) : Type 0 where
  pub life : e.life.tag ≡ (node_in sizes past e.life.index).tag
  pub there : e.life.index < sizes.nodes
  pub bucket : ℕ
  pub before : ℕ
  pub place : IsBucketWord sizes e.place bucket before
  pub before_linked : (x : ℕ) → e.place ≡ link_at sizes x → IsLinkedVertex sizes past x
  pub unmarked : mark_of (word_at sizes past e.place) ≡ 0
  pub leads : index_of (word_at sizes past e.place) ≡ e.life.index
  pub linked : IsLinkedVertex sizes past e.life.index
  pub dead : mark_of (word_at sizes past (link_at sizes e.life.index)) ≡ 1
  pub word : e.word ≡ pack (index_of (word_at sizes past (link_at sizes e.life.index))) 0
      (tag_of (word_at sizes past e.place))
  pub pass : (pass_in sizes past e.caller).is_open ≡ true
