-- Kept journals, each with an event in mind that is refused behind it.
use Rattle.std.specs.Prelude.{ℕ, List, [], ◌∷◌, ◌++◌, take, get_or}
use Rattle.packed_link.specs.Link.{pack, nowhere}
use Rattle.packed_link.specs.Layout.{Sizes, epoch_at, link_at, third_at}
use Rattle.core_journal.specs.declared.event.Event.{Event}
use Rattle.core_journal.specs.declared.event.Kind.TheVariants.{MarkVertex, MoveEpoch, Raise, UnlinkVertex}
use Rattle.core_journal.specs.Event.{blank}
use Rattle.core_journal.specs.TwoCallers.{draws_number, announces, withdraws, takes, two_vertices}
use Rattle.core_journal.specs.Worked.{small, first_life}
use Rattle.core_kept.specs.Kept.{IsKept}
use Rattle.core_worked.specs.TwoLives.{takes_edge, removes_vertex, closes_head, moves_epoch, with_an_edge, without_edge}
use Rattle.core_worked.specs.TwoLives.{with_other, without_source, two_lives, raises_source, marks_first}

-- a journal is kept, and with this event behind it no longer
pub record IsRefusedBehind (sizes : Sizes) (past : List Event) (e : Event) : Type 0 where
  pub front : IsKept sizes past
  pub whole : IsKept sizes (past ++ e ∷ []) → ⊥

-- caller 0 holds a node that it took and hasn't linked: it may not take another one
abbrev pub holding : List Event
holding = draws_number 0 1 ∷ draws_number 1 2 ∷ announces 0 ∷ takes 0 0 1 ∷ []

-- caller 0 has closed its pass before event n of the worked journal: where that event is made in a pass, it may not be
-- made now
abbrev pub outside : ℕ → List Event
outside n = take n two_lives ++ withdraws 0 ∷ []

-- the events of the worked journal that are made in a pass: vertices are linked, an edge is, its counter is raised,
-- it's marked and unlinked, and a vertex is marked and unlinked
abbrev pub made_in_a_pass : List ℕ
made_in_a_pass = 8 ∷ 16 ∷ 24 ∷ 27 ∷ 28 ∷ 29 ∷ 37 ∷ 40 ∷ 41 ∷ []

-- event n of the worked journal
abbrev pub event_of : ℕ → Event
event_of n = get_or two_lives n blank

-- caller 0 has a pass: it may not move the epoch on to 1
abbrev pub inside : List Event
inside = draws_number 0 1 ∷ draws_number 1 2 ∷ announces 0 ∷ []

-- caller 0 moves the epoch on while its own pass is open
abbrev pub moves_own : Event
moves_own = record blank { kind = MoveEpoch; place = epoch_at small; word = 1 }

-- two vertices stand, and no edge was linked: no counter may be raised
abbrev pub edgeless : List Event
edgeless = two_vertices ++ announces 0 ∷ []

-- caller 0 has opened a pass and raised no counter: it may not mark the edge
abbrev pub unraised : List Event
unraised = with_an_edge ++ announces 0 ∷ []

-- in one pass an edge is filled, its source is removed, and the empty list of that is closed: the edge may not be
-- linked any more
abbrev pub closed : List Event
closed = without_edge ++ (takes_edge 3 6 ++ (removes_vertex ++ closes_head nowhere ∷ []))

-- a vertex with an edge was removed before the pass of caller 0 began: its counter may not be raised
abbrev pub unmet : List Event
unmet = with_other ++ (announces 0 ∷ removes_vertex ++ (withdraws 0 ∷ announces 0 ∷ []))

-- its counter, which was raised once, is raised again
abbrev pub raises_again : Event
raises_again = record blank { kind = Raise; place = third_at small 0; word = 2; life = first_life 0 }

-- a vertex was removed before the pass in which an edge from it is filled: the edge may not be linked
abbrev pub unmet_source : List Event
unmet_source = without_edge ++ (announces 0 ∷ removes_vertex ++ (withdraws 0 ∷ takes_edge 3 6))

-- the vertex of node 1 is marked, and unlinked behind that of node 0
abbrev pub removes_other : List Event
removes_other =
    record blank { kind = MarkVertex; place = link_at small 1; word = pack nowhere 1 1; life = first_life 1 }
    ∷ record blank { kind = UnlinkVertex; place = link_at small 0; word = pack nowhere 0 1; life = first_life 1 }
    ∷ []

-- a vertex was removed before the pass in which an edge to it is filled: the edge may not be linked
abbrev pub unmet_target : List Event
unmet_target = two_vertices ++ (announces 0 ∷ removes_other ++ (withdraws 0 ∷ takes_edge 2 5))

-- an edge is marked, and its source was removed before the pass of caller 0 began: the edge may not be unlinked
abbrev pub unmet_list : List Event
unmet_list =
    with_an_edge ++ (announces 0 ∷ raises_source ∷ marks_first ∷ removes_vertex ++ (withdraws 0 ∷ announces 0 ∷ []))

-- caller 0 has a pass that announced epoch 0, and the epoch is 1: caller 1 may not move it on to 2
abbrev pub lagging : List Event
lagging = draws_number 0 1 ∷ draws_number 1 2 ∷ announces 0 ∷ moves_epoch 1 ∷ []

-- the nodes of an edge and of its source were spent in epoch 0, and the epoch is 1: neither may be given back
abbrev pub early : List Event
early = without_source ++ moves_epoch 1 ∷ []

-- a removed vertex was spent in epoch 0, and the epoch is 2, but its list isn't closed: its node may not be given back
abbrev pub unclosed : List Event
unclosed = with_other ++ (announces 0 ∷ removes_vertex ++ (withdraws 0 ∷ moves_epoch 1 ∷ moves_epoch 2 ∷ []))
