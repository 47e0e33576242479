-- Where each node is: on the free list, with a caller who fills it, linked, or with the caller who unlinked it.
use Rattle.std.specs.Prelude.{◌≡◌, ℕ, List, Contains}
use Rattle.packed_link.specs.Layout.{Sizes, link_at}
use Rattle.core_journal.specs.declared.event.Event.{Event}
use Rattle.core_journal.specs.Machine.{word_at}
use Rattle.core_journal.specs.State.{Free, Fresh, Linked, Spent, state}
use Rattle.core_kept.specs.Facts.{IsDeadLink, IsFreshLink, IsLiveLink}
use Rattle.core_kept.specs.Nodes.{node_in}

-- a node is free and on the free list, or fresh or spent with a caller, or linked
pub data Standing : Type 0 where
  OnFreeList : Standing
  FreshWith : ℕ → Standing
  OnChain : Standing
  SpentBy : ℕ → Standing

-- its link word is marked, and still that of its last life
pub record IsFreeNode (sizes : Sizes) (journal : List Event) (x : ℕ) : Type 0 where
  pub mode : (node_in sizes journal x).mode ≡ Free
  pub listed : Contains (state sizes journal).free x
  pub link : IsDeadLink (node_in sizes journal x).tag (word_at sizes journal (link_at sizes x))

-- its link word is as its last life left it, or unmarked and of its own life
pub record IsFreshNode (sizes : Sizes) (journal : List Event) (caller x : ℕ) : Type 0 where
  pub mode : (node_in sizes journal x).mode ≡ Fresh
  pub with : (node_in sizes journal x).who ≡ caller
  pub link : IsFreshLink (node_in sizes journal x).tag (word_at sizes journal (link_at sizes x))

-- its link word is of its life, and marked where the node is
pub record IsLinkedNode (sizes : Sizes) (journal : List Event) (x : ℕ) : Type 0 where
  pub mode : (node_in sizes journal x).mode ≡ Linked
  pub link : IsLiveLink (node_in sizes journal x).tag (word_at sizes journal (link_at sizes x))
      (node_in sizes journal x).marked

-- its link word is of its life, and marked
pub record IsSpentNode (sizes : Sizes) (journal : List Event) (caller x : ℕ) : Type 0 where
  pub mode : (node_in sizes journal x).mode ≡ Spent
  pub by : (node_in sizes journal x).who ≡ caller
  pub link : IsDeadLink (node_in sizes journal x).tag (word_at sizes journal (link_at sizes x))

-- what each standing says of the node and its link word
abbrev pub StandsAs : Sizes → List Event → ℕ → Standing → Type 0
StandsAs sizes journal x OnFreeList = IsFreeNode sizes journal x
StandsAs sizes journal x (FreshWith caller) = IsFreshNode sizes journal caller x
StandsAs sizes journal x OnChain = IsLinkedNode sizes journal x
StandsAs sizes journal x (SpentBy caller) = IsSpentNode sizes journal caller x
