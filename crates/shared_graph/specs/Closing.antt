-- What closing a graph tells.
use Rattle.std.specs.Prelude.{◌≡◌, ℕ, ◌<◌, List, length, slice_index_or}
use Rattle.graph_kinds.specs.Graph.{Graph}
use Rattle.core_journal.specs.declared.event.Event.{Event}
use Rattle.core_journal.specs.GraphOf.{graph_of}
use Rattle.core_journal.specs.Prefix.{IsPrefix}
use Rattle.graph_table.specs.Tokens.{TableValue}
use Rattle.shared_graph.specs.Callers.{CallerValue, HoldsEach, IsEnded, front_of}
use Rattle.shared_graph.specs.Gathering.{LookOnEach}
use Rattle.shared_graph.specs.declared.closing.CloseMemory.{CloseMemory}

-- a graph was read by the first caller after it had met all others: if nobody made an event since that meeting, it's
-- the graph of what the first caller had seen then
pub record IsReadBetween (old new : List CallerValue) (g : Graph) : Type 0 where
  pub front : List Event
  pub met : (i : ℕ) (d : CallerValue) → i < length old → IsPrefix (front_of (slice_index_or old i d)) front
  pub begins : (d : CallerValue) → IsPrefix front (front_of (slice_index_or new 0 d))
  pub graph : (d : CallerValue) → front_of (slice_index_or new 0 d) ≡ front → g ≡ graph_of front

-- a graph that was closed: the callers have ended, and it's the graph of the whole journal
pub record IsClosedAs (g : TableValue) (cs : List CallerValue) (x : Graph) : Type 0 where
  pub journal : List Event
  pub ended : IsEnded g cs journal
  pub graph : x ≡ graph_of journal

-- the graph wasn't closed and is handed back with all its callers, which have looked on
pub record IsHandedBack (g : TableValue) (cs : List CallerValue) (r : CloseMemory) : Type 0 where
  pub same : r.graph ≡ g
  pub each : HoldsEach g r.callers.items
  pub looks : LookOnEach cs r.callers.items
