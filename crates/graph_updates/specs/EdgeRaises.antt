-- What a call on an edge keeps of its raises: it raises once for each edge, and marks or replaces that edge, but for
-- the
-- last one at most.
use Rattle.std.specs.Prelude.{◌≡◌, ◌≢◌, ◌⊎◌, ℕ, ◌≤◌, ◌^◌, true, false, All, List, [], ◌∷◌, ◌++◌, Option, None, Some}
use Rattle.packed_link.specs.declared.link.Life.{Life}
use Rattle.core_journal.specs.declared.event.Event.{Event}
use Rattle.core_journal.specs.Life.{edge_marked, key_of, link_of, vertex_marked}
use Rattle.core_journal.specs.Prefix.{IsPrefix}
use Rattle.core_counts.specs.Totals.{RaisesOnce}
use Rattle.core_rule.specs.declared.view.View.{View}
use Rattle.core_rule.specs.OwnEvents.{raise_event}
use Rattle.core_stretches.specs.Makes.{Makes}
use Rattle.edge_list.specs.EdgeMarks.{IsRaisedEdge, RaisedValue}
use Rattle.edge_list.specs.declared.edge.Edge.{Edge}

-- the edge for which a call raised last, if it raised
abbrev pub last_raised : Option RaisedValue → List Life
last_raised None = []
last_raised (Some r) = r.edge.life ∷ []

-- it's an edge of the pair's keys, which this pass met
abbrev pub IsRaisedOn : (a b : ℕ) → View → Option RaisedValue → Type 0
IsRaisedOn a b v None = Unit {0}
IsRaisedOn a b v (Some r) = IsRaisedEdge v r × ((r.edge.key ≡ b) × (key_of v.front r.source ≡ Some a))

-- what a caller raised was for edges that are over, but for the last one and for so many
pub record HasRaised (last : Option RaisedValue) (v : View) : Type 0 where
  pub again : ℕ
  pub few : again ≤ 2 ^ 32
  pub once : RaisesOnce v.front v.front v.number again (last_raised last)

-- if what a caller raised before a stretch was for edges that are over, but for the last one and for so many, it's so
-- after it
pub record RaisesKept (old new : Option RaisedValue) (v w : View) : Type 0 where
  pub each : (again : ℕ) → RaisesOnce v.front v.front v.number again (last_raised old)
      → RaisesOnce w.front w.front w.number again (last_raised new)

-- the edge for which a call raised last is one of a source's key and a target's key, which this pass met; if its source
-- is another life, that one is over
abbrev pub IsLastRaised : (source : Life) → (key : ℕ) → View → Option RaisedValue → Type 0
IsLastRaised source key v None = Unit {0}
IsLastRaised source key v (Some r) =
    IsRaisedEdge v r × ((r.edge.key ≡ key) × ((key_of v.front r.source ≡ key_of v.front source)
    × ((r.source ≡ source) ⊎ (vertex_marked v.front r.source ≡ true))))

-- an edge needs no raise for a source any more: it's marked, or it's one of another source, which is over
pub record IsPast (source : Life) (journal : List Event) (x : Life) : Type 0 where
  pub link : Event
  pub linked : link_of journal x ≡ Some link
  pub past : (edge_marked journal x ≡ true) ⊎ ((link.source ≢ source) × (vertex_marked journal link.source ≡ true))

-- what a caller raised since a start was for edges that were over at the start, for the last one, for edges that need
-- no
-- raise any more, and for so many
pub record HasRaisedFrom (source : Life) (start : List Event) (again : ℕ) (last : Option RaisedValue) (v : View)
    : Type 0 where
  pub others : List Life
  pub past : All (IsPast source v.front) others
  pub once : RaisesOnce start v.front v.number again (last_raised last ++ others)

-- there's a start of that kind, at which the source wasn't marked
pub record HasRaisedSome (source : Life) (last : Option RaisedValue) (v : View) : Type 0 where
  pub start : List Event
  pub since : IsPrefix start v.front
  pub unmarked : vertex_marked start source ≡ false
  pub again : ℕ
  pub few : again ≤ 2 ^ 32
  pub so : HasRaisedFrom source start again last v

-- and it's one by the end of a stretch, whichever it is
pub record RaisesFor (source : Life) (key : ℕ) (old new : Option RaisedValue) (v w : View) : Type 0 where
  pub each : (start : List Event) (again : ℕ) → IsPrefix start v.front → vertex_marked start source ≡ false
      → IsLastRaised source key v old → HasRaisedFrom source start again old v
      → HasRaisedFrom source start again new w

-- the counter of the source of an edge was raised for it, unless it was the one for which this call raised last
pub record IsRaisedOnce (source : Life) (edge : Edge) (last : Option RaisedValue) (v w : View) (r : RaisedValue)
    : Type 0 where
  pub source_is : r.source ≡ source
  pub edge_is : r.edge ≡ edge
  pub raised : IsRaisedEdge w r
  pub own : List Event
  pub makes : Makes v own w
  pub once : ((last ≡ Some r) × (own ≡ []))
      ⊎ (((found : ℕ) × (own ≡ raise_event v source found ∷ [])) × (last_raised last ≢ edge.life ∷ []))
