-- What the conditions of the kinds say of nodes: their lives, the words that lead to them, and lists that are closed.
use Rattle.std.specs.Prelude.{◌≡◌, ℕ, ◌+◌, ◌%◌, ◌&&◌, ◌<◌, ◌≤◌, ◌⊎◌, ◌==◌, Bool, true, false, List}
use Rattle.std.specs.List.{list_any}
use Rattle.packed_link.specs.Layout.{Sizes, epoch_at, bucket_at, link_at, second_at}
use Rattle.packed_link.specs.declared.link.Life.{Life}
use Rattle.core_journal.specs.declared.event.Event.{Event}
use Rattle.core_journal.specs.Prefix.{IsPrefix}
use Rattle.core_journal.specs.Machine.{word_at}
use Rattle.core_journal.specs.State.{Mode, is_linked, Linked, Fresh, Spent, Node, State, frozen_part, state}

-- a node after a journal
abbrev pub node_in : Sizes → List Event → ℕ → Node
node_in sizes journal x = (state sizes journal).node x

-- whether a node stands on the list of a vertex
abbrev pub is_listed : State → ℕ → ℕ → Bool
is_listed s x y = list_any (λ z. z == y) (s.edges x)

-- whether a node stands on the frozen part of the list of a vertex
abbrev pub is_frozen : State → ℕ → ℕ → Bool
is_frozen s x y = list_any (λ z. z == y) (frozen_part s x)

-- whether a node is a linked vertex with a key of this bucket
abbrev pub is_of_bucket : Sizes → State → ℕ → ℕ → Bool
is_of_bucket sizes s j x = is_linked (s.node x).mode && ((s.node x).vertex && ((s.node x).key % sizes.buckets == j))

-- a node that was linked and isn't given back: it's linked, or spent
abbrev pub IsUsed : Mode → Type 0
IsUsed Linked = Unit {0}
IsUsed Spent = Unit {0}
IsUsed _ = ⊥

-- a node is fresh with a caller
pub record IsFreshWith (sizes : Sizes) (past : List Event) (caller x : ℕ) : Type 0 where
  pub fresh : (node_in sizes past x).mode ≡ Fresh
  pub mine : (node_in sizes past x).who ≡ caller

-- a node is spent with a caller
pub record IsSpentWith (sizes : Sizes) (past : List Event) (caller x : ℕ) : Type 0 where
  pub spent : (node_in sizes past x).mode ≡ Spent
  pub mine : (node_in sizes past x).who ≡ caller

-- a life is that of a vertex which is linked or spent
pub record IsVertex (sizes : Sizes) (past : List Event) (x : Life) : Type 0 where
  pub there : x.index < sizes.nodes
  pub life : x.tag ≡ (node_in sizes past x.index).tag
  pub used : IsUsed (node_in sizes past x.index).mode
  pub vertex : (node_in sizes past x.index).vertex ≡ true

-- a vertex is linked
pub record IsLinkedVertex (sizes : Sizes) (past : List Event) (x : ℕ) : Type 0 where
  pub linked : (node_in sizes past x).mode ≡ Linked
  pub vertex : (node_in sizes past x).vertex ≡ true

-- an edge is linked
pub record IsLinkedEdge (sizes : Sizes) (past : List Event) (x : ℕ) : Type 0 where
  pub linked : (node_in sizes past x).mode ≡ Linked
  pub edge : (node_in sizes past x).vertex ≡ false

-- the words that lead to the vertices of a bucket: its own word, and the link of a node
abbrev pub IsBucketWord : Sizes → ℕ → ℕ → ℕ → Type 0
IsBucketWord sizes place bucket before =
    ((place ≡ bucket_at sizes bucket) × (bucket < sizes.buckets))
    ⊎ ((place ≡ link_at sizes before) × (before < sizes.nodes))

-- the words that lead to the edges of a source: its second word, and the link of a node
abbrev pub IsListWord : Sizes → ℕ → ℕ → ℕ → Type 0
IsListWord sizes place source before =
    ((place ≡ second_at sizes source) × (source < sizes.nodes))
    ⊎ ((place ≡ link_at sizes before) × (before < sizes.nodes))

-- the list of a vertex is frozen to its end: it's closed at its head, and each of its edges is marked
pub record IsFrozenToEnd (sizes : Sizes) (past : List Event) (x : ℕ) : Type 0 where
  pub head : (state sizes past).frozen x ≡ true
  pub edges : (y : ℕ) → is_listed (state sizes past) x y ≡ true → (node_in sizes past y).marked ≡ true

-- a node that is spent with a caller has a stamp: in this life it was spent at a moment at which the epoch was at most
-- the stamp
pub record IsStamped (sizes : Sizes) (past : List Event) (caller x stamp : ℕ) : Type 0 where
  pub spent : IsSpentWith sizes past caller x
  pub when : List Event
  pub when_before : IsPrefix when past
  pub when_spent : (node_in sizes when x).mode ≡ Spent
  pub when_life : (node_in sizes when x).tag ≡ (node_in sizes past x).tag
  pub when_epoch : word_at sizes when (epoch_at sizes) ≤ stamp

-- a spent node is ripe for its caller: it has a stamp, and an epoch two above the stamp was shown
pub record IsRipe (sizes : Sizes) (past : List Event) (caller x : ℕ) : Type 0 where
  pub stamp : ℕ
  pub stamped : IsStamped sizes past caller x stamp
  pub shown : List Event
  pub shown_before : IsPrefix shown past
  pub shown_epoch : stamp + 2 ≤ word_at sizes shown (epoch_at sizes)
