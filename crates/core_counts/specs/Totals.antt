-- How often a life goes through each of its stages, and how many events of a kind there are at most.
use Rattle.std.specs.Prelude.{◌≡◌, ◌≢◌, ◌⊎◌, ℕ, zero, suc, ◌+◌, ◌≤◌, true, false, ◌&&◌, List, ◌++◌, length}
use Rattle.std.specs.Prelude.{filter}
use Rattle.std.specs.Prelude.{All, AllPairs, Some}
use Rattle.packed_link.specs.declared.link.Life.{Life}
use Rattle.core_journal.specs.Event.{unlinks_vertex, unlinks_edge, pushes}
use Rattle.core_journal.specs.declared.event.Event.{Event}
use Rattle.core_journal.specs.Event.{same_life, pops, links, links_vertex, marks_vertex, links_edge, cuts_edge}
use Rattle.core_journal.specs.Event.{cut_life}
use Rattle.core_journal.specs.Event.{freezes_head, raises}
use Rattle.core_journal.specs.Life.{edge_linked, edge_marked, link_of, vertex_marked}
use Rattle.core_kept.specs.Counts.{made, about}

-- how many events mark an edge life, by its removal, by the freezing of its list, or by the edge that replaces it
abbrev pub cuts : Life → List Event → ℕ
cuts x journal = length (filter (λ (e : Event). cuts_edge e.kind && same_life x (cut_life e)) journal)

-- the sum of a number for each caller below a number of callers
abbrev pub total : (ℕ → ℕ) → ℕ → ℕ
total f zero = 0
total f (suc n) = f n + total f n

-- a life goes one way, through each stage at most once: it's taken; linked, as a vertex or an edge; marked; unlinked,
-- but for an edge that is handed over; the list of a vertex is closed at its head; and it's given back, a vertex with a
-- closed list and an edge that is marked
pub record GoesOneWay (journal : List Event) (x : Life) : Type 0 where
  pub taken : about pops x journal ≤ 1
  pub linked : about links x journal ≤ about pops x journal
  pub vertex_marked : about marks_vertex x journal ≤ about links_vertex x journal
  pub vertex_unlinked : about unlinks_vertex x journal ≤ about marks_vertex x journal
  pub closed : about freezes_head x journal ≤ about unlinks_vertex x journal
  pub edge_marked : cuts x journal ≤ about links_edge x journal
  pub edge_unlinked : about unlinks_edge x journal ≤ cuts x journal
  pub given_back : about pushes x journal ≤ about freezes_head x journal + cuts x journal

-- the vertex life from which an edge life was linked is marked
pub record IsSourceMarked (journal : List Event) (x : Life) : Type 0 where
  pub link : Event
  pub linked : link_of journal x ≡ Some link
  pub marked : vertex_marked journal link.source ≡ true

-- an edge life is over: it's marked, or its source is
abbrev pub IsEdgeOver : List Event → Life → Type 0
IsEdgeOver journal x = (edge_marked journal x ≡ true) ⊎ IsSourceMarked journal x

-- a caller raised counters at most once for each of some edges, which were linked and differ, and so often again
pub record RaisesApart (journal : List Event) (caller again : ℕ) : Type 0 where
  pub edges : List Life
  pub apart : AllPairs ◌≢◌ edges
  pub linked : All (λ (x : Life). edge_linked journal x ≡ true) edges
  pub few : made raises caller journal ≤ length edges + again

-- the same, as a call keeps it from its start on: the edges for which a caller raised before are over at the start, and
-- beside them it raised for those that it holds
pub record RaisesOnce (start journal : List Event) (caller again : ℕ) (held : List Life) : Type 0 where
  pub edges : List Life
  pub apart : AllPairs ◌≢◌ (held ++ edges)
  pub linked : All (λ (x : Life). edge_linked journal x ≡ true) (held ++ edges)
  pub over : All (IsEdgeOver start) edges
  pub few : made raises caller journal ≤ length (held ++ edges) + again

-- an edge isn't over at a front, and is linked by a later journal: there it's unmarked, and so is the source from which
-- it's linked then
pub record IsNotOver (front journal : List Event) (x : Life) : Type 0 where
  pub link : Event
  pub linked : link_of journal x ≡ Some link
  pub unmarked : edge_marked front x ≡ false
  pub source : vertex_marked front link.source ≡ false
