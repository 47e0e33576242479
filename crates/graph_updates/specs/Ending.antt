-- What beginning, ending and settling tell.
use Rattle.std.specs.Prelude.{◌≡◌, ◌≢◌, ◌⊎◌, ℕ, ◌+◌, ◌^◌, ◌<◌, ◌≤◌, Bool, true, false, List, [], ◌∷◌, ◌++◌}
use Rattle.graph_kinds.specs.History.{Every}
use Rattle.packed_link.specs.Layout.{Sizes, announce_at, epoch_at}
use Rattle.core_journal.specs.declared.event.Kind.{Kind}
use Rattle.core_journal.specs.declared.event.Kind.TheVariants.{MoveEpoch, PushFree, StoreFree, Withdraw}
use Rattle.core_journal.specs.declared.event.Event.{Event}
use Rattle.core_journal.specs.Machine.{word_at}
use Rattle.core_journal.specs.Prefix.{IsPrefix}
use Rattle.core_journal.specs.Reuse.{pass_in}
use Rattle.core_journal.specs.State.{Free}
use Rattle.core_kept.specs.Nodes.{node_in}
use Rattle.core_rule.specs.OwnEvents.{withdraw_event}
use Rattle.core_rule.specs.declared.view.View.{View}
use Rattle.core_stretches.specs.Holdings.{HasNoPass}
use Rattle.core_stretches.specs.Makes.{Makes}
use Rattle.core_stretches.specs.Moments.{HoldsBetween}
use Rattle.epoch_limbo.specs.Advances.{MatchAdvanced}
use Rattle.epoch_limbo.specs.Limbos.{LimboValue, index_in}
use Rattle.epoch_limbo.specs.Passes.{EpochIs, IsOpened}
use Rattle.epoch_limbo.specs.declared.advancing.Advanced.{Advanced}
use Rattle.graph_table.specs.Tokens.{RipeValue}
use Rattle.graph_updates.specs.Hands.{HandValue, HasAllSpent, HasItsNodes, IsRoomyLimbo}
use Rattle.graph_updates.specs.Parts.{Fell, LeavesGraph, MakesOnly}
use Rattle.graph_updates.specs.declared.ending.Begun.{Begun}
use Rattle.graph_updates.specs.declared.ending.Begun.TheVariants as begun
use Rattle.graph_updates.specs.declared.ending.Gift.{Gift}
use Rattle.graph_updates.specs.declared.ending.Gift.TheVariants as gift
use Rattle.graph_updates.specs.declared.ending.Settled.{Settled}
use Rattle.graph_updates.specs.declared.ending.Settled.TheVariants as settled

-- a call has begun: one use is counted, and the pass is open
pub record HasBegun (old new : HandValue) : Type 0 where
  pub opened : IsOpened old.token.view new.token.view
  pub limbo : new.limbo ≡ old.limbo
  pub spare : new.spare ≡ old.spare
  pub uses : new.uses ≡ old.uses + 1
  pub retired : new.retired ≡ false
  pub nodes : HasItsNodes old → HasItsNodes new

-- a call has begun, or the hand has had all its uses
abbrev pub MatchBegun : Begun → HandValue → HandValue → Type 0
MatchBegun begun.Done old new = (old.uses < 2 ^ 32) × HasBegun old new
MatchBegun begun.Worn old new = (old.uses ≡ 2 ^ 32) × (new ≡ old)

-- the kinds that give a node back
abbrev pub IsGiving : Kind → Type 0
IsGiving k = (k ≡ StoreFree) ⊎ (k ≡ PushFree)

-- the node is free
abbrev pub IsFreeIn : Sizes → ℕ → List Event → Type 0
IsFreeIn sizes x journal = (node_in sizes journal x).mode ≡ Free

-- a node was free at a moment between two views
abbrev pub WasFreed : View → View → RipeValue → Type 0
WasFreed v w r = (at : List Event) × HoldsBetween v.front w.front (IsFreeIn v.sizes (index_in r)) at

-- a node is ripe by the epoch of a view's front
abbrev pub IsRipeBy : View → RipeValue → Type 0
IsRipeBy v r = r.stamp + 2 ≤ word_at v.sizes v.front (epoch_at v.sizes)

-- the oldest nodes of a limbo were given back, each ripe at this epoch and free at a moment since; the limbo is of the
-- token still, and has all that it spent where it had
pub record GivesOldest (epoch : ℕ) (old new : LimboValue) (v w : View) : Type 0 where
  pub only : MakesOnly IsGiving v w
  pub gone : List RipeValue
  pub nodes : old.nodes ≡ gone ++ new.nodes
  pub room : new.room ≡ old.room
  pub ripe : Every (λ (r : RipeValue). r.stamp + 2 ≤ epoch) gone
  pub freed : Every (WasFreed v w) gone
  pub limbo : IsRoomyLimbo new w
  pub all : HasAllSpent old v → HasAllSpent new w

-- no node of a limbo is ripe at an epoch
abbrev pub NoneRipe : ℕ → LimboValue → Type 0
NoneRipe epoch limbo = Every (λ (r : RipeValue). epoch < r.stamp + 2) limbo.nodes

-- what giving the oldest node back came to
abbrev pub MatchGift : Gift → ℕ → LimboValue → LimboValue → View → View → Type 0
MatchGift gift.Given epoch old new v w =
    GivesOldest epoch old new v w × ((r : RipeValue) × (old.nodes ≡ r ∷ new.nodes))
MatchGift gift.NoneRipe epoch old new v w = (new ≡ old) × ((w ≡ v) × NoneRipe epoch new)
MatchGift gift.Lost epoch old new v w = GivesOldest epoch old new v w × Fell 1 w.number v.front w.front

-- each node that is ripe at an epoch which this call loaded was given back, or a foreign event fell
pub record HasGiven (epoch : ℕ) (none : Bool) (old new : LimboValue) (v w : View) : Type 0 where
  pub loaded : List Event
  pub found : HoldsBetween v.front w.front (EpochIs v epoch) loaded
  pub given : GivesOldest epoch old new v w
  pub left : none ≡ true → NoneRipe epoch new
  pub lost : none ≡ false → Fell 1 w.number v.front w.front

-- the kinds with which a call ends
abbrev pub IsEnding : Kind → Type 0
IsEnding k = (k ≡ Withdraw) ⊎ ((k ≡ MoveEpoch) ⊎ IsGiving k)

-- the epoch was moved on if that could be, and then each node that was ripe at an epoch loaded after that was given
-- back, or a foreign event fell
pub record HasTidied (old new : LimboValue) (v w : View) : Type 0 where
  pub result : Advanced
  pub moved : View
  pub advanced : MatchAdvanced result v moved
  pub epoch : ℕ
  pub none : Bool
  pub given : HasGiven epoch none old new moved w

-- a call has ended: the pass was closed; and then, if the hand had retired a node, it was tidied, and else nothing was
-- done
pub record IsFinished (old new : HandValue) : Type 0 where
  pub only : MakesOnly IsEnding old.token.view new.token.view
  pub stretch : LeavesGraph false 0 1 old.token.view new.token.view
  pub closed : HasNoPass new.token.view
  pub gone : List RipeValue
  pub limbo : old.limbo.nodes ≡ gone ++ new.limbo.nodes
  pub room : new.limbo.room ≡ old.limbo.room
  pub shut : View
  pub withdrew : Makes old.token.view (withdraw_event old.token.view ∷ []) shut
  pub tidied : old.retired ≡ true → HasTidied old.limbo new.limbo shut new.token.view
  pub still : old.retired ≡ false → (new.limbo ≡ old.limbo) × (new.token.view ≡ shut)
  pub spare : new.spare ≡ old.spare
  pub uses : new.uses ≡ old.uses
  pub retired : new.retired ≡ false
  pub nodes : HasItsNodes old → HasItsNodes new

-- another caller's open pass lags: the epoch that it announced is below the epoch of the table
pub record LagsIn (sizes : Sizes) (caller i : ℕ) (journal : List Event) : Type 0 where
  pub other : i ≢ caller
  pub there : i < sizes.callers
  pub opened : (pass_in sizes journal i).is_open ≡ true
  pub older : word_at sizes journal (announce_at sizes i) ≤ word_at sizes journal (epoch_at sizes)

-- no other caller's pass lagged at any moment between two fronts
abbrev pub NoneLagged : Sizes → ℕ → (old new : List Event) → Type 0
NoneLagged sizes caller old new = (at : List Event) → IsPrefix old at → IsPrefix at new → (i : ℕ)
    → LagsIn sizes caller i at → ⊥

-- the epoch was moved on twice, each time if that could be
pub record HasMovedTwice (v w : View) : Type 0 where
  pub one : Advanced
  pub first : View
  pub once : MatchAdvanced one v first
  pub two : Advanced
  pub twice : MatchAdvanced two first w

-- what settling leaves however it ends: the epoch was moved on twice if that could be, and then no own event fell but
-- that nodes were given back, the oldest of the limbo: each was ripe by the epoch of the new front, and free at a
-- moment since the moves
pub record HasSettled (old new : HandValue) : Type 0 where
  pub stretch : LeavesGraph false 0 2 old.token.view new.token.view
  pub moved : View
  pub moves : HasMovedTwice old.token.view moved
  pub gives : MakesOnly IsGiving moved new.token.view
  pub gone : List RipeValue
  pub limbo : old.limbo.nodes ≡ gone ++ new.limbo.nodes
  pub ripe : Every (IsRipeBy new.token.view) gone
  pub freed : Every (WasFreed moved new.token.view) gone
  pub room : new.limbo.room ≡ old.limbo.room
  pub spare : new.spare ≡ old.spare
  pub uses : new.uses ≡ old.uses + 1

-- each node that is ripe at an epoch which this call loaded after its moves was given back: the limbo holds only stamps
-- of one less than it or more; and if no other caller's pass lagged, it's empty
pub record IsSettledAt (epoch : ℕ) (moved : View) (old new : HandValue) : Type 0 where
  pub loaded : List Event
  pub found : HoldsBetween moved.front new.token.view.front (EpochIs old.token.view epoch) loaded
  pub left : NoneRipe epoch new.limbo
  pub empty : NoneLagged old.token.view.sizes old.token.view.number old.token.view.front new.token.view.front
      → new.limbo.nodes ≡ []

abbrev pub MatchSettled : Settled → ℕ → HandValue → HandValue → Type 0
MatchSettled (settled.Done epoch) tries old new =
    (old.uses < 2 ^ 32) × ((s : HasSettled old new) × IsSettledAt epoch s.moved old new)
MatchSettled settled.Again tries old new =
    (old.uses < 2 ^ 32) × ((s : HasSettled old new)
    × Fell tries new.token.view.number s.moved.front new.token.view.front)
MatchSettled settled.Worn tries old new = (old.uses ≡ 2 ^ 32) × (new ≡ old)
