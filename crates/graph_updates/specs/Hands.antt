-- What contracts see of a hand, what every call on a hand asks, and when a hand is in order.
use Rattle.std.specs.Prelude.{◌≡◌, ℕ, ◌+◌, ◌*◌, ◌^◌, ◌<◌, ◌≤◌, Bool, true, cond, [], Option, Some, None}
use Rattle.packed_link.specs.declared.link.Life.{Life}
use Rattle.core_journal.specs.declared.book.Book.{Book}
use Rattle.core_journal.specs.Event.{pops, moves}
use Rattle.core_journal.specs.Reuse.{pass_in}
use Rattle.core_journal.specs.Right.{IsBookOf}
use Rattle.core_counts.specs.Totals.{RaisesOnce}
use Rattle.core_kept.specs.Counts.{made}
use Rattle.core_kept.specs.Nodes.{node_in, IsFreshWith, IsLinkedEdge, IsSpentWith}
use Rattle.core_rule.specs.Stretches.{HasNoFresh}
use Rattle.core_rule.specs.declared.view.View.{View}
use Rattle.core_stretches.specs.Holdings.{IsHeldFresh}
use Rattle.epoch_limbo.specs.Limbos.{LimboValue, IsLimboOf}
use Rattle.graph_table.specs.Tokens.{TableValue, TokenValue, IsOf}
use Rattle.graph_updates.specs.Burying.{IsIn}

-- a hand: its token, the nodes that it spent and has not given back, the node that it took and didn't link, how many
-- uses it has had, and whether it spent a node since it last began
pub record HandValue : Type 0 where
  pub token : TokenValue
  pub limbo : LimboValue
  pub spare : Option Life
  pub uses : ℕ
  pub retired : Bool

-- the limbo is of the token, and has room for all nodes
pub record IsRoomyLimbo (limbo : LimboValue) (v : View) : Type 0 where
  pub of : IsLimboOf None v limbo.nodes
  pub room : v.sizes.nodes ≤ limbo.room

-- the limbo has every node that the token spent
pub record HasAllSpent (limbo : LimboValue) (v : View) : Type 0 where
  pub each : (y : ℕ) → IsSpentWith v.sizes v.front v.number y → IsIn limbo.nodes y

-- the spare node, if there is one, is fresh with the token
abbrev pub HoldsSpare : Option Life → View → Type 0
HoldsSpare None v = Unit {0}
HoldsSpare (Some x) v = IsHeldFresh v x

-- and no other node is
abbrev pub HoldsNoOther : Option Life → View → Type 0
HoldsNoOther None v = HasNoFresh v
HoldsNoOther (Some x) v = (y : ℕ) → IsFreshWith v.sizes v.front v.number y → y ≡ x.index

-- what every call on a hand asks: it's of this table and has a number, its limbo is of its token, the lists that may
-- lead to a node of the limbo are frozen to their ends, and its spare node is fresh with its token
pub record IsHandOf (g : TableValue) (h : HandValue) : Type 0 where
  pub of : IsOf g h.token
  pub numbered : h.token.view.numbered ≡ true
  pub there : h.token.view.number < h.token.view.sizes.callers
  pub limbo : IsRoomyLimbo h.limbo h.token.view
  pub spare : HoldsSpare h.spare h.token.view

-- the token's book
abbrev pub book_of : View → Book
book_of v = record { caller = v.number; entries = v.book }

-- how many moves of the epoch the end of an open call may make still
abbrev pub moves_due : View → ℕ
moves_due v = cond (pass_in v.sizes v.front v.number).is_open 1 0

-- a hand has its nodes: all that it spent and hasn't given back are in its limbo, and no node but its spare is fresh
-- with it
pub record HasItsNodes (h : HandValue) : Type 0 where
  pub spent : HasAllSpent h.limbo h.token.view
  pub fresh : HoldsNoOther h.spare h.token.view

-- no edge is linked whose source life the token has spent; it follows where the token's limbo has all that it spent,
-- since the lists of these vertices are frozen to their ends
pub record HasNoEdgeOfSpent (v : View) : Type 0 where
  pub none : (y : ℕ) → y < v.sizes.nodes → IsLinkedEdge v.sizes v.front y
      → IsSpentWith v.sizes v.front v.number (node_in v.sizes v.front y).source.index → ⊥

-- a hand is in order: its book is true of its front, so that each entry is right and framed and each own event that
-- changes the graph has just one own entry; it took at most one node a use, and moved the epoch on at most three times
-- a use; it raised a counter once for each of some edges that are over, and for at most one that it gave up a use; and
-- it has its nodes
pub record IsInOrder (h : HandValue) : Type 0 where
  pub book : IsBookOf h.token.view.sizes h.token.view.front (book_of h.token.view)
  pub taken : made pops h.token.view.number h.token.view.front ≤ h.uses
  pub moved : made moves h.token.view.number h.token.view.front + moves_due h.token.view ≤ 3 * h.uses
  pub uses : h.uses ≤ 2 ^ 32
  pub again : ℕ
  pub given_up : again ≤ h.uses
  pub raised : RaisesOnce h.token.view.front h.token.view.front h.token.view.number again []
  pub nodes : HasItsNodes h
