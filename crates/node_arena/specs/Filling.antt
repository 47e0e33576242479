-- What filling a node tells.
use Rattle.std.specs.Prelude.{ℕ, List, [], ◌∷◌}
use Rattle.packed_link.specs.Link.{pack, nowhere}
use Rattle.packed_link.specs.declared.link.Life.{Life}
use Rattle.core_journal.specs.declared.event.Event.{Event}
use Rattle.core_rule.specs.OwnEvents.{store_event}
use Rattle.core_rule.specs.declared.view.View.{View}

-- the stores that fill a node as a vertex: its key, its link to the next vertex, a second word that leads to no edge,
-- and its counter
abbrev pub vertex_stores : View → Life → (key next : ℕ) → List Event
vertex_stores v x key next =
    store_event v x 0 key
    ∷ store_event v x 1 (pack next 0 x.tag)
    ∷ store_event v x 2 (pack nowhere 0 x.tag)
    ∷ store_event v x 3 0
    ∷ []

-- the stores that fill a node as an edge: the key of its target, its link to the next edge, its target and its weight
abbrev pub edge_stores : View → Life → (key next : ℕ) → (target : Life) → (weight : ℕ) → List Event
edge_stores v x key next target weight =
    store_event v x 0 key
    ∷ store_event v x 1 (pack next 0 x.tag)
    ∷ store_event v x 2 (pack target.index 0 target.tag)
    ∷ store_event v x 3 weight
    ∷ []
