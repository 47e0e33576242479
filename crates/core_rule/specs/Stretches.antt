-- What a token did between two of its views, and views that show the same.
use Rattle.std.specs.Prelude.{◌≡◌, ◌≢◌, ℕ, ◌^◌, ◌<◌, ◌≤◌, ◌==◌, ◌&&◌, Bool, true, false, ltb}
use Rattle.std.specs.Prelude.{List, Some, length, take, slice_get}
use Rattle.packed_link.specs.Link.{index_of, tag_of}
use Rattle.packed_link.specs.declared.link.Life.{Life}
use Rattle.packed_link.specs.Layout.{Sizes, key_at, link_at, second_at, third_at}
use Rattle.core_journal.specs.declared.event.Kind.{Kind}
use Rattle.core_journal.specs.declared.event.Kind.TheVariants.{DrawNumber, PopFree, StorePrivate, LinkVertex}
use Rattle.core_journal.specs.declared.event.Kind.TheVariants.{MarkVertex, UnlinkVertex, LinkEdge, Raise, MarkEdge}
use Rattle.core_journal.specs.declared.event.Kind.TheVariants.{UnlinkEdge, ReplaceEdge, Announce, Withdraw, MoveEpoch}
use Rattle.core_journal.specs.declared.event.Kind.TheVariants.{FreezeHead, FreezeEdge, StoreFree, PushFree}
use Rattle.core_journal.specs.declared.event.Event.{Event}
use Rattle.core_journal.specs.GraphOf.{changes}
use Rattle.core_journal.specs.Life.{link_of}
use Rattle.core_journal.specs.Machine.{word_at}
use Rattle.core_journal.specs.Reuse.{pass_in}
use Rattle.core_journal.specs.State.{Node}
use Rattle.core_kept.specs.Counts.{count_below}
use Rattle.core_kept.specs.Moments.{is_spent}
use Rattle.core_kept.specs.Nodes.{node_in, IsFreshWith}
use Rattle.core_rule.specs.declared.view.View.{View}

-- the token's pass is open
abbrev pub HasPass : View → Type 0
HasPass v = (pass_in v.sizes v.front v.number).is_open ≡ true

-- the token holds no fresh node
pub record HasNoFresh (v : View) : Type 0 where
  pub none : (x : ℕ) → x < v.sizes.nodes → IsFreshWith v.sizes v.front v.number x → ⊥

-- of each own event that stands in a view behind an earlier one this holds, with the journal before it
pub record Own (P : List Event → Event → Type 0) (v w : View) : Type 0 where
  pub each : (k : ℕ) (e : Event) → length v.front ≤ k → slice_get w.front k ≡ Some e → e.caller ≡ v.number
      → P (take k w.front) e

-- the event is at another place
abbrev pub Elsewhere : ℕ → List Event → Event → Type 0
Elsewhere place past e = e.place ≢ place

-- the event gives another node back, or none
abbrev pub GivesOther : ℕ → Event → Type 0
GivesOther x e = e.kind ≡ PushFree → e.life.index ≢ x

-- the event stores no link for the free list and gives no node back
abbrev pub GivesNone : Event → Type 0
GivesNone e = (e.kind ≢ StoreFree) × (e.kind ≢ PushFree)

-- the event leaves the graph as it is
abbrev pub Leaves : List Event → Event → Type 0
Leaves past e = changes past e ≡ false

-- two views are of one table and caller and have the same front: they differ by the book, the last event, the numbers
-- that were joined and the right to draw at most
pub record IsAlike (v w : View) : Type 0 where
  pub sizes : w.sizes ≡ v.sizes
  pub front : w.front ≡ v.front
  pub number : w.number ≡ v.number

-- the kinds of events that are about a fresh node: it's filled or linked
abbrev pub is_of_fresh : Kind → Bool
is_of_fresh DrawNumber = false
is_of_fresh PopFree = false
is_of_fresh StorePrivate = true
is_of_fresh LinkVertex = true
is_of_fresh MarkVertex = false
is_of_fresh UnlinkVertex = false
is_of_fresh LinkEdge = true
is_of_fresh Raise = false
is_of_fresh MarkEdge = false
is_of_fresh UnlinkEdge = false
is_of_fresh ReplaceEdge = true
is_of_fresh Announce = false
is_of_fresh Withdraw = false
is_of_fresh MoveEpoch = false
is_of_fresh FreezeHead = false
is_of_fresh FreezeEdge = false
is_of_fresh StoreFree = false
is_of_fresh PushFree = false

-- the kinds of events that change what is kept of a spent node: its list is closed, or it's given back
abbrev pub is_of_spent : Kind → Bool
is_of_spent DrawNumber = false
is_of_spent PopFree = false
is_of_spent StorePrivate = false
is_of_spent LinkVertex = false
is_of_spent MarkVertex = false
is_of_spent UnlinkVertex = false
is_of_spent LinkEdge = false
is_of_spent Raise = false
is_of_spent MarkEdge = false
is_of_spent UnlinkEdge = false
is_of_spent ReplaceEdge = false
is_of_spent Announce = false
is_of_spent Withdraw = false
is_of_spent MoveEpoch = false
is_of_spent FreezeHead = true
is_of_spent FreezeEdge = false
is_of_spent StoreFree = true
is_of_spent PushFree = true

-- a node is what it was, and so is each of its words but the one at a place
pub record IsHeldBut (sizes : Sizes) (front journal : List Event) (x place : ℕ) : Type 0 where
  pub node : node_in sizes journal x ≡ node_in sizes front x
  pub key : key_at sizes x ≢ place → word_at sizes journal (key_at sizes x) ≡ word_at sizes front (key_at sizes x)
  pub link : link_at sizes x ≢ place → word_at sizes journal (link_at sizes x) ≡ word_at sizes front (link_at sizes x)
  pub second : second_at sizes x ≢ place
      → word_at sizes journal (second_at sizes x) ≡ word_at sizes front (second_at sizes x)
  pub third : third_at sizes x ≢ place
      → word_at sizes journal (third_at sizes x) ≡ word_at sizes front (third_at sizes x)

-- whether a node is spent with a caller, and was spent after a length of the journal
abbrev pub is_spent_since : Node → ℕ → ℕ → Bool
is_spent_since n caller since = is_spent n.mode && ((n.who == caller) && ltb since n.ended)

-- how many nodes the token has spent since its pass began
abbrev pub spent_since : View → ℕ
spent_since v =
    count_below (λ x. is_spent_since (node_in v.sizes v.front x) v.number (pass_in v.sizes v.front v.number).since)
    v.sizes.nodes

-- the second word of an edge has the index and the tag of the life to which the edge was linked: a node of the table,
-- and a tag that fits
pub record IsTargetShown (v : View) (x : Life) : Type 0 where
  pub link : Event
  pub is : link_of v.front x ≡ Some link
  pub index : index_of (word_at v.sizes v.front (second_at v.sizes x.index)) ≡ link.target.index
  pub tag : tag_of (word_at v.sizes v.front (second_at v.sizes x.index)) ≡ link.target.tag
  pub there : index_of (word_at v.sizes v.front (second_at v.sizes x.index)) < v.sizes.nodes
  pub low : tag_of (word_at v.sizes v.front (second_at v.sizes x.index)) < 2 ^ 39
