-- What the calls tell that close the list of an unlinked vertex, and those that give a node back.
use Rattle.std.specs.Prelude.{ℕ, ◌+◌, ◌<◌, None}
use Rattle.packed_link.specs.Layout.{epoch_at, link_at, second_at}
use Rattle.packed_link.specs.declared.link.Life.{Life}
use Rattle.core_kept.specs.Freezing.{IsFrozenWord}
use Rattle.core_rule.specs.Fronts.{MayFreezeEdge}
use Rattle.core_rule.specs.OwnEvents.{freeze_edge_event}
use Rattle.core_rule.specs.Retired.{IsRetired}
use Rattle.core_rule.specs.declared.view.View.{View}
use Rattle.graph_table.specs.Table.{MatchMark}
use Rattle.table_calls.specs.Loads.{HasLoaded}
use Rattle.table_calls.specs.Vertices.{word_in}
use Rattle.core_stretches.specs.Holdings.{IsUnlinkedVertex}

-- the token unlinked the vertex, and its list is closed at its head
pub record IsClosedList (v : View) (x : Life) : Type 0 where
  pub unlinked : IsUnlinkedVertex v x
  pub head : IsFrozenWord v.sizes v.front x.index (second_at v.sizes x.index)

-- the first edge of a closed list was found, and marked where it wasn't yet
pub record FreezesFirst (v : View) (from : Life) (found : ℕ) (x : Life) (w : View) : Type 0 where
  pub then : View
  pub loaded : HasLoaded v then
  pub may : MayFreezeEdge then from (second_at then.sizes from.index) x
  pub marked : MatchMark then (link_at then.sizes x.index) found (freeze_edge_event then x found) w

-- what the token retired is retired still
pub record KeepsRetired (v w : View) : Type 0 where
  pub each : (x : Life) (stamp : ℕ) → IsRetired None v x stamp → IsRetired None w x stamp

-- the epoch isn't two above a stamp
abbrev pub IsEarly : View → ℕ → Type 0
IsEarly v stamp = word_in v (epoch_at v.sizes) < stamp + 2
