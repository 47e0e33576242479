-- What holds after each kept journal of the words beside the state: numbers, and the words of each node by its state.
use Rattle.std.specs.Prelude.{List, ◌≡◌, ◌≢◌, ℕ, ◌+◌, ◌<◌, ◌≤◌, ◌^◌, ◌⊎◌, Bool, true, false, Some, None}
use Rattle.packed_link.specs.Link.{pack, index_of, mark_of, tag_of, mark_bit, nowhere}
use Rattle.packed_link.specs.Layout.{Sizes, number_at, epoch_at, key_at, link_at, second_at, third_at}
use Rattle.packed_link.specs.declared.link.Life.{Life}
use Rattle.core_journal.specs.Event.{links}
use Rattle.core_journal.specs.State.{Free, Fresh, Linked, Spent, Node, State, state}
use Rattle.core_journal.specs.declared.event.Kind.{Kind}
use Rattle.core_journal.specs.declared.event.Event.{Event}
use Rattle.core_journal.specs.Life.{key_of, link_of, vertex_marked, edge_marked}
use Rattle.core_journal.specs.Machine.{word_at}
use Rattle.core_journal.specs.Prefix.{IsPrefix}
use Rattle.core_journal.specs.Reuse.{pass_in}
use Rattle.core_kept.specs.Counts.{about, raised}
use Rattle.core_kept.specs.Nodes.{node_in, IsUsed}

-- the first words count: how many numbers are drawn, and the epoch
pub record FirstWords (sizes : Sizes) (s : State) (w : ℕ → ℕ) : Type 0 where
  pub numbers : w (number_at sizes) ≡ s.drawn
  pub room : s.drawn ≤ sizes.callers
  pub epoch : w (epoch_at sizes) ≡ s.epoch

-- a link word that is marked, of a life with this tag
pub record IsDeadLink (tag word : ℕ) : Type 0 where
  pub life : tag_of word ≡ tag
  pub marked : mark_of word ≡ 1

-- a link word of a node that is being filled: as its last life left it, or unmarked and of its own life
abbrev pub IsFreshLink : ℕ → ℕ → Type 0
IsFreshLink tag word = ((tag_of word + 1 ≡ tag) × (mark_of word ≡ 1)) ⊎ ((tag_of word ≡ tag) × (mark_of word ≡ 0))

-- the link word of a linked node: of its life, and marked where the node is
pub record IsLiveLink (tag word : ℕ) (marked : Bool) : Type 0 where
  pub life : tag_of word ≡ tag
  pub mark : mark_of word ≡ mark_bit marked

-- the link word of a node, by its state
pub record IsLinkWord (sizes : Sizes) (v : Node) (word : ℕ) : Type 0 where
  pub free : v.mode ≡ Free → IsDeadLink v.tag word
  pub fresh : v.mode ≡ Fresh → IsFreshLink v.tag word
  pub linked : v.mode ≡ Linked → IsLiveLink v.tag word v.marked
  pub spent : v.mode ≡ Spent → IsDeadLink v.tag word
  pub marked : v.mode ≡ Spent → v.marked ≡ true
  pub stored : v.mode ≡ Spent → v.stored ≡ true → (index_of word < sizes.nodes) ⊎ (index_of word ≡ nowhere)
  pub unstored : v.mode ≡ Linked → v.stored ≡ false
  pub unmarked : v.mode ≡ Fresh → (v.marked ≡ false) × (v.stored ≡ false)

-- the link word of each node is as the node's state says
pub record LinkWords (sizes : Sizes) (s : State) (w : ℕ → ℕ) : Type 0 where
  pub each : (x : ℕ) → x < sizes.nodes → IsLinkWord sizes (s.node x) (w (link_at sizes x))

-- the other words of a node that was linked as a vertex: its key, and its second word, marked where its list is closed
pub record IsVertexWords (sizes : Sizes) (key tag : ℕ) (frozen : Bool) (x : ℕ) (w : ℕ → ℕ) : Type 0 where
  pub key_word : w (key_at sizes x) ≡ key
  pub key_fits : key < 2 ^ 32
  pub second_life : tag_of (w (second_at sizes x)) ≡ tag
  pub second_mark : mark_of (w (second_at sizes x)) ≡ mark_bit frozen

-- the other words of a node that was linked as an edge: its key, its target and its weight
pub record IsEdgeWords (sizes : Sizes) (key : ℕ) (target : Life) (weight x : ℕ) (w : ℕ → ℕ) : Type 0 where
  pub key_word : w (key_at sizes x) ≡ key
  pub key_fits : key < 2 ^ 32
  pub target_word : w (second_at sizes x) ≡ pack target.index 0 target.tag
  pub weight_word : w (third_at sizes x) ≡ weight
  pub some : 1 ≤ weight
  pub weight_fits : weight < 2 ^ 32

-- the other words of a node while it's linked or spent, stored or not
pub record IsContent (sizes : Sizes) (v : Node) (frozen : Bool) (x : ℕ) (w : ℕ → ℕ) : Type 0 where
  pub vertex : IsUsed v.mode → v.vertex ≡ true → IsVertexWords sizes v.key v.tag frozen x w
  pub edge : IsUsed v.mode → v.vertex ≡ false → IsEdgeWords sizes v.key v.target v.weight x w
  pub fresh : v.mode ≡ Fresh → frozen ≡ false

-- the other words of each node are those with which it was linked
pub record Contents (sizes : Sizes) (s : State) (w : ℕ → ℕ) : Type 0 where
  pub each : (x : ℕ) → x < sizes.nodes → IsContent sizes (s.node x) (s.frozen x) x w

-- the third word of a node that was linked as a vertex is the number of raises of its life, and no fresh node was
-- raised
pub record IsCounter (sizes : Sizes) (journal : List Event) (v : Node) (x : ℕ) (w : ℕ → ℕ) : Type 0 where
  pub third : IsUsed v.mode → v.vertex ≡ true
      → w (third_at sizes x) ≡ raised (record { index = x; tag = v.tag }) journal
  pub fresh : v.mode ≡ Fresh → raised (record { index = x; tag = v.tag }) journal ≡ 0

-- the third word of each vertex counts the raises of its life
pub record Counters (sizes : Sizes) (journal : List Event) (s : State) (w : ℕ → ℕ) : Type 0 where
  pub each : (x : ℕ) → x < sizes.nodes → IsCounter sizes journal (s.node x) x w

-- no event is about a later life of a node than the one that it's in, nor marks such a life as an edge
pub record Lives (journal : List Event) (s : State) : Type 0 where
  pub later : (test : Kind → Bool) (x : Life) → (s.node x.index).tag < x.tag → about test x journal ≡ 0
  pub cut : (x : Life) → (s.node x.index).tag < x.tag → edge_marked journal x ≡ false

-- each life is linked at most once, and that of a fresh node not yet
pub record LinkedOnce (journal : List Event) (s : State) : Type 0 where
  pub once : (x : Life) → about links x journal ≤ 1
  pub fresh : (x : ℕ) → (s.node x).mode ≡ Fresh → about links (record { index = x; tag = (s.node x).tag }) journal ≡ 0

-- no number of the table wraps: the changes of the free list, the lives of nodes, the epoch, and the counters of
-- vertices
pub record Bounds (sizes : Sizes) (s : State) (w : ℕ → ℕ) : Type 0 where
  pub changes : s.changes ≤ 2 ^ 37
  pub lives : (x : ℕ) → (s.node x).tag ≤ 2 ^ 36
  pub epoch : s.epoch ≤ 2 ^ 38
  pub counters : (x : ℕ) → x < sizes.nodes → IsUsed (s.node x).mode → (s.node x).vertex ≡ true
      → w (third_at sizes x) ≤ 2 ^ 42

-- a node and its four words are after a journal what they were after a front of it
pub record IsHeld (sizes : Sizes) (front journal : List Event) (x : ℕ) : Type 0 where
  pub node : node_in sizes journal x ≡ node_in sizes front x
  pub key : word_at sizes journal (key_at sizes x) ≡ word_at sizes front (key_at sizes x)
  pub link : word_at sizes journal (link_at sizes x) ≡ word_at sizes front (link_at sizes x)
  pub second : word_at sizes journal (second_at sizes x) ≡ word_at sizes front (second_at sizes x)
  pub third : word_at sizes journal (third_at sizes x) ≡ word_at sizes front (third_at sizes x)

-- a node, its key, its link and whether its list is closed are after a journal what they were after a front of it
pub record IsKeptSpent (sizes : Sizes) (front journal : List Event) (x : ℕ) : Type 0 where
  pub node : node_in sizes journal x ≡ node_in sizes front x
  pub key : word_at sizes journal (key_at sizes x) ≡ word_at sizes front (key_at sizes x)
  pub link : word_at sizes journal (link_at sizes x) ≡ word_at sizes front (link_at sizes x)
  pub closed : (state sizes journal).frozen x ≡ (state sizes front).frozen x

-- an edge life was linked with the source, target, key and weight that its node has
pub record IsLinkOf (journal : List Event) (x : Life) (source target : Life) (key weight : ℕ) : Type 0 where
  pub link : Event
  pub is : link_of journal x ≡ Some link
  pub from : link.source ≡ source
  pub to : link.target ≡ target
  pub of_key : link.key ≡ key
  pub of_weight : link.weight ≡ weight

-- a life was neither linked nor marked
pub record IsNewLife (journal : List Event) (x : Life) : Type 0 where
  pub key : key_of journal x ≡ None
  pub link : link_of journal x ≡ None
  pub vertex : vertex_marked journal x ≡ false
  pub edge : edge_marked journal x ≡ false

-- what a node says of its life is what the journal's events say: the key or the edge that was linked, and the mark
pub record IsNamed (journal : List Event) (v : Node) (x : ℕ) : Type 0 where
  pub vertex_key : IsUsed v.mode → v.vertex ≡ true → key_of journal (record { index = x; tag = v.tag }) ≡ Some v.key
  pub vertex_mark : IsUsed v.mode → v.vertex ≡ true
      → vertex_marked journal (record { index = x; tag = v.tag }) ≡ v.marked
  pub edge_link : IsUsed v.mode → v.vertex ≡ false
      → IsLinkOf journal (record { index = x; tag = v.tag }) v.source v.target v.key v.weight
  pub edge_mark : IsUsed v.mode → v.vertex ≡ false → edge_marked journal (record { index = x; tag = v.tag }) ≡ v.marked
  pub new : v.mode ≡ Fresh → IsNewLife journal (record { index = x; tag = v.tag })

-- what each node says of its life is what the journal's events say
pub record Named (sizes : Sizes) (journal : List Event) (s : State) : Type 0 where
  pub each : (x : ℕ) → x < sizes.nodes → IsNamed journal (s.node x) x

-- the source and the target of each edge that was linked were linked as vertices, the target with the edge's key
pub record EdgeEnds (journal : List Event) : Type 0 where
  pub source : (x : Life) (link : Event) → link_of journal x ≡ Some link → key_of journal link.source ≢ None
  pub target : (x : Life) (link : Event) → link_of journal x ≡ Some link → key_of journal link.target ≡ Some link.key

-- an open pass has met a node: it's linked, or it was spent after the pass began. So each linked node counts as met,
-- whether a walk came to it or not: it's what a walk in this pass may come to
pub record HasMet (sizes : Sizes) (journal : List Event) (caller x : ℕ) : Type 0 where
  pub pass : (pass_in sizes journal caller).is_open ≡ true
  pub free : (node_in sizes journal x).mode ≢ Free
  pub fresh : (node_in sizes journal x).mode ≢ Fresh
  pub spent : (node_in sizes journal x).mode ≡ Spent
      → (pass_in sizes journal caller).since < (node_in sizes journal x).ended

-- a caller's pass that was open at a front is open still
pub record IsSamePass (sizes : Sizes) (front journal : List Event) (caller : ℕ) : Type 0 where
  pub before : IsPrefix front journal
  pub open_still : (pass_in sizes journal caller).is_open ≡ true
  pub since : (pass_in sizes journal caller).since ≡ (pass_in sizes front caller).since
