-- Fresh nodes that are filled: what the node's own words say of the event that links it.
use Rattle.std.specs.Prelude.{ℕ}
use Rattle.packed_link.specs.declared.link.Life.{Life}
use Rattle.core_journal.specs.declared.event.Event.{Event}
use Rattle.core_rule.specs.Fronts.{MayLinkVertex, MayLinkEdge, MayReplaceEdge, key_in}
use Rattle.core_rule.specs.OwnEvents.{link_vertex_event, link_edge_event, replace_event}
use Rattle.core_rule.specs.declared.view.View.{View}
use Rattle.graph_table.specs.Table.{list_at, source_in, target_in, weight_in}

-- a vertex may be linked with the key in its node
abbrev pub MayLinkFilledVertex : View → ℕ → ℕ → Life → Type 0
MayLinkFilledVertex v place seen x = MayLinkVertex v place seen (key_in v x.index) x

-- the event that links it
abbrev pub filled_vertex_event : View → ℕ → ℕ → Life → Event
filled_vertex_event v place seen x = link_vertex_event v place seen (key_in v x.index) x

-- an edge may be linked with the key, the target and the weight in its node, on the list to which the place belongs
abbrev pub MayLinkFilledEdge : View → ℕ → ℕ → Life → Type 0
MayLinkFilledEdge v place seen x =
    MayLinkEdge v place seen (key_in v x.index) (list_at v place) (target_in v x.index) (weight_in v x.index) x

-- the event that links it
abbrev pub filled_edge_event : View → ℕ → ℕ → Life → Event
filled_edge_event v place seen x =
    link_edge_event v place seen (key_in v x.index) (list_at v place) (target_in v x.index) (weight_in v x.index) x

-- an edge may be replaced by one with the key, the target and the weight in its node
abbrev pub MayReplaceByFilled : View → ℕ → Life → Life → Type 0
MayReplaceByFilled v seen old x =
    MayReplaceEdge v seen (key_in v x.index) (source_in v old.index) (target_in v x.index) (weight_in v x.index) old x

-- the event that replaces it
abbrev pub replaced_event : View → ℕ → Life → Life → Event
replaced_event v seen old x =
    replace_event v seen (key_in v x.index) (source_in v old.index) (target_in v x.index) (weight_in v x.index) old x
