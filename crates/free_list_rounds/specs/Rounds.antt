-- What holds of a caller between two of its rounds, and what each part of a round leaves of it.
use Rattle.std.specs.Prelude.{◌≡◌, ℕ, ◌+◌, ◌*◌, ◌<◌, ◌≤◌, true, Option, Some, None}
use Rattle.packed_link.specs.declared.link.Life.{Life}
use Rattle.core_journal.specs.Event.{pops, pushes, moves}
use Rattle.core_kept.specs.Counts.{made}
use Rattle.core_rule.specs.Stretches.{HasNoFresh}
use Rattle.core_rule.specs.declared.view.View.{View}
use Rattle.core_stretches.specs.Holdings.{HasNoPass, IsHeldFresh}
use Rattle.epoch_limbo.specs.Limbos.{LimboValue}
use Rattle.graph_table.specs.Tokens.{TokenValue}
use Rattle.graph_updates.specs.Burying.{HasAllSpentBut, IsToBury}
use Rattle.graph_updates.specs.Hands.{HasAllSpent, IsRoomyLimbo}

-- a caller: its token, the nodes that it spent, the one that it took and didn't link, how many rounds it has made, and
-- how many nodes it has taken from the free list and given back
pub record WorkerValue : Type 0 where
  pub token : TokenValue
  pub limbo : LimboValue
  pub spare : Option Life
  pub rounds : ℕ
  pub taken : ℕ
  pub given : ℕ

-- the limbo is of the token, has every node that the token spent, and has room for all nodes
pub record LimboHoldsAll (limbo : LimboValue) (v : View) : Type 0 where
  pub there : v.number < v.sizes.callers
  pub roomy : IsRoomyLimbo limbo v
  pub all : HasAllSpent limbo v

-- the spare node is fresh with the token; where there's none, the token holds no fresh node
abbrev pub HoldsSpareOrNone : Option Life → View → Type 0
HoldsSpareOrNone None v = HasNoFresh v
HoldsSpareOrNone (Some x) v = IsHeldFresh v x

-- the token took exactly so many nodes, gave back exactly so many, and moved the epoch at most so often
pub record HasMade (takes gives most_moved : ℕ) (v : View) : Type 0 where
  pub taken : made pops v.number v.front ≡ takes
  pub given : made pushes v.number v.front ≡ gives
  pub moved : made moves v.number v.front ≤ most_moved

-- between two rounds: the token has its number and no open pass, its limbo has all that it spent, it holds its spare
-- node and no other; what the caller counted is what the token took and gave back; and it took no more nodes than it
-- made rounds, gave back at most 2^32 a round, and moved the epoch no more often than it made rounds
pub record IsBetweenRounds (c : WorkerValue) : Type 0 where
  pub numbered : c.token.view.numbered ≡ true
  pub closed : HasNoPass c.token.view
  pub work : LimboHoldsAll c.limbo c.token.view
  pub spare : HoldsSpareOrNone c.spare c.token.view
  pub made : HasMade c.taken c.given c.rounds c.token.view
  pub few_taken : c.taken ≤ c.rounds
  pub few_given : c.given ≤ c.rounds * 4294967296

-- a limbo that has all that the token spent has it still
abbrev pub WorkGoes : View → View → Type 0
WorkGoes v w = (limbo : LimboValue) → LimboHoldsAll limbo v → LimboHoldsAll limbo w

-- the spare node is held still, or none
abbrev pub SparesGo : View → View → Type 0
SparesGo v w = (spare : Option Life) → HoldsSpareOrNone spare v → HoldsSpareOrNone spare w

-- the token took exactly so many nodes more, gave back exactly so many more, and moved the epoch at most so often more
pub record CountsGo (takes gives shifts : ℕ) (v w : View) : Type 0 where
  pub taken : made pops w.number w.front ≡ made pops v.number v.front + takes
  pub given : made pushes w.number w.front ≡ made pushes v.number v.front + gives
  pub moved : made moves w.number w.front ≤ made moves v.number v.front + shifts

-- within some rounds a caller reached a goal: it took so many nodes more and gave back so many more, or it made all of
-- these rounds
pub record HasTurnedOver (goal limit : ℕ) (before after : WorkerValue) : Type 0 where
  pub within : after.rounds ≤ before.rounds + limit
  pub taken : after.rounds < before.rounds + limit → before.taken + goal ≤ after.taken
  pub given : after.rounds < before.rounds + limit → before.given + goal ≤ after.given

-- what a try to unlink came to: a limbo that had all that the token spent has all but the vertex, which is to be
-- buried, or it has all still
abbrev pub MatchToBury : Option Life → View → View → Type 0
MatchToBury (Some x) v w = (limbo : LimboValue) → LimboHoldsAll limbo v
    → (w.number < w.sizes.callers) × IsToBury limbo w x × HasAllSpentBut x.index w limbo.nodes
MatchToBury None v w = WorkGoes v w
