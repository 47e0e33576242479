-- What a token knows between the calls of a worked row, and what these tell.
use Rattle.std.specs.Prelude.{◌≡◌, ◌≢◌, ◌⊎◌, ℕ, ◌+◌, ◌<◌, ◌≤◌, Bool, true, false, List, [], ◌∷◌, Option, None}
use Rattle.graph_kinds.specs.declared.call.Call.TheVariants.{AddVertex}
use Rattle.packed_link.specs.Layout.{IsLayout, epoch_at, second_at}
use Rattle.packed_link.specs.Link.{index_of, mark_of, nowhere}
use Rattle.packed_link.specs.declared.link.Life.{Life}
use Rattle.core_journal.specs.declared.event.Kind.TheVariants.{LinkEdge}
use Rattle.core_journal.specs.declared.event.Event.{Event}
use Rattle.core_journal.specs.Event.{pops, moves}
use Rattle.core_journal.specs.Machine.{word_at}
use Rattle.core_journal.specs.Prefix.{IsPrefix}
use Rattle.core_journal.specs.Reuse.{pass_in}
use Rattle.core_journal.specs.State.{state}
use Rattle.core_kept.specs.Counts.{made}
use Rattle.core_kept.specs.Nodes.{IsSpentWith}
use Rattle.core_rule.specs.Fronts.{key_in}
use Rattle.core_rule.specs.OwnEvents.{announce_event, link_edge_event, withdraw_event}
use Rattle.core_rule.specs.Plays.{IsSound}
use Rattle.core_rule.specs.Stretches.{HasPass}
use Rattle.core_rule.specs.declared.view.View.{View}
use Rattle.core_stretches.specs.Holdings.{IsUnlinkedVertex}
use Rattle.core_stretches.specs.Makes.{Makes}
use Rattle.core_stretches.specs.Moments.{Carries, EndsBy, Has, HoldsBetween}
use Rattle.epoch_limbo.specs.Limbos.{IsLimboOf, LimboValue, MatchRipe}
use Rattle.graph_table.specs.Filled.{MayLinkFilledEdge, filled_edge_event}
use Rattle.graph_table.specs.Table.{MatchLink}
use Rattle.graph_table.specs.Tokens.{RipeValue}
use Rattle.graph_table.specs.declared.answers.LinkTried.{LinkTried}
use Rattle.table_calls.specs.Resting.{IsHolding, IsResting}
use Rattle.table_calls.specs.Vertices.{MatchHeld}

-- how many nodes the token took
abbrev pub taken_by : View → ℕ
taken_by v = made pops v.number v.front

-- how often the token moved the epoch on
abbrev pub moved_by : View → ℕ
moved_by v = made moves v.number v.front

-- no node is spent with the token
pub record HasSpentNone (v : View) : Type 0 where
  pub none : (x : ℕ) → IsSpentWith v.sizes v.front v.number x → ⊥

-- the token has a number and an open pass, holds no fresh node and no spent one, and never moved the epoch on
pub record IsAtWork (v : View) : Type 0 where
  pub resting : IsResting true v
  pub unspent : HasSpentNone v
  pub unmoved : moved_by v ≡ 0

-- the token has a number and an open pass, holds this fresh node and no spent one, and never moved the epoch on
pub record IsBuilding (v : View) (x : Life) : Type 0 where
  pub holding : IsHolding v x
  pub unspent : HasSpentNone v
  pub unmoved : moved_by v ≡ 0

-- the token took no node, moved no epoch, and holds no spent node where it held none
pub record IsIdle (v w : View) : Type 0 where
  pub unspent : HasSpentNone v → HasSpentNone w
  pub taken : taken_by w ≡ taken_by v
  pub moved : moved_by w ≡ moved_by v

-- the token closed its pass and opened the next one, and made no other event
pub record IsRenewed (v w : View) : Type 0 where
  pub between : View
  pub epoch : ℕ
  pub makes : Makes v (withdraw_event v ∷ announce_event between epoch ∷ []) w

-- a node was taken and linked as a vertex of this key by the last event of the front, which adds the key to the graph
pub record IsVertexAdded (key : ℕ) (v w : View) (x : Life) : Type 0 where
  pub work : IsAtWork w
  pub taken : taken_by w ≡ taken_by v + 1
  pub event : Event
  pub of : event.life ≡ x
  pub carries : Carries (AddVertex key) event w

-- the source's second word was marked when it was loaded, or led to an edge that has this key or a smaller one
pub record IsNoFront (source : Life) (key : ℕ) (v w : View) : Type 0 where
  pub then : View
  pub before : Makes v [] then
  pub behind : Makes then [] w
  pub seen : ℕ
  pub word : seen ≡ word_at then.sizes then.front (second_at then.sizes source.index)
  pub cause : (mark_of seen ≡ 1) ⊎ ((index_of seen ≢ nowhere) × (key_in w (index_of seen) ≤ key))

-- the fresh node was filled as an edge that may stand in front of the source's list, and was linked there or not
pub record IsPrepended (r : LinkTried) (source target : Life) (weight : ℕ) (x : Life) (v w : View) : Type 0 where
  pub then : View
  pub sound : IsSound then
  pub layout : IsLayout then.sizes
  pub building : IsBuilding then x
  pub taken : taken_by then ≡ taken_by v
  pub place : ℕ
  pub at : place ≡ second_at then.sizes source.index
  pub seen : ℕ
  pub may : MayLinkFilledEdge then place seen x
  pub key : ℕ
  pub event_is : filled_edge_event then place seen x ≡ link_edge_event then place seen key source target weight x
  pub grows : IsPrefix v.front then.front
  pub tried : MatchLink r then place seen x (filled_edge_event then place seen x) w
  pub held : MatchHeld r w

-- a node was taken and linked as an edge of this weight by the last event of the front, from a vertex that was present
-- with the one key since the old front to one that was present with the other
pub record IsEdgeAdded (from to weight : ℕ) (v w : View) (x : Life) : Type 0 where
  pub work : IsAtWork w
  pub taken : taken_by w ≡ taken_by v + 1
  pub event : Event
  pub kind : event.kind ≡ LinkEdge
  pub of : event.life ≡ x
  pub weighs : event.weight ≡ weight
  pub source_at : List Event
  pub source : HoldsBetween v.front w.front (Has from event.source) source_at
  pub target_at : List Event
  pub target : HoldsBetween v.front w.front (Has to event.target) target_at
  pub last : EndsBy event w

-- in its open pass the token unlinked a vertex, whose list is open at its head; it spent no other node, and never moved
-- the epoch on
pub record HasUnlinkedOne (v : View) (x : Life) : Type 0 where
  pub numbered : v.numbered ≡ true
  pub there : v.number < v.sizes.callers
  pub pass : HasPass v
  pub vertex : IsUnlinkedVertex v x
  pub unclosed : (state v.sizes v.front).frozen x.index ≡ false
  pub only : (y : ℕ) → IsSpentWith v.sizes v.front v.number y → y ≡ x.index
  pub unmoved : moved_by v ≡ 0

-- the token has a number, its pass is open or not, it moved the epoch on at most so often, and the limbo is its own
pub record IsWaiting (opened : Bool) (moves : ℕ) (v : View) (nodes : List RipeValue) : Type 0 where
  pub numbered : v.numbered ≡ true
  pub there : v.number < v.sizes.callers
  pub pass : (pass_in v.sizes v.front v.number).is_open ≡ opened
  pub moved : moved_by v ≤ moves
  pub limbo : IsLimboOf None v nodes

-- the limbo was asked for a ripe node with the epoch at the new front
pub record IsAskedFor (r : Option RipeValue) (old new : LimboValue) (v w : View) : Type 0 where
  pub loads : Makes v [] w
  pub ripe : MatchRipe r old new w (word_at w.sizes w.front (epoch_at w.sizes))
