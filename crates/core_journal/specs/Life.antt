-- The lives of a journal: which were linked, marked and unlinked in it, and as what.
use Rattle.std.specs.Prelude.{ℕ, Bool, ◌&&◌, List, Option, find, option_map}
use Rattle.std.specs.List.{list_any}
use Rattle.packed_link.specs.declared.link.Life.{Life}
use Rattle.core_journal.specs.declared.event.Event.{Event}
use Rattle.core_journal.specs.Event.{same_life, links_vertex, marks_vertex, links_edge, cuts_edge, cut_life, unlinks}
use Rattle.core_journal.specs.Event.{freezes_head}

-- the life was linked as a vertex
abbrev pub vertex_linked : List Event → Life → Bool
vertex_linked journal x = list_any (λ (e : Event). links_vertex e.kind && same_life x e.life) journal

-- the life was marked as a vertex
abbrev pub vertex_marked : List Event → Life → Bool
vertex_marked journal x = list_any (λ (e : Event). marks_vertex e.kind && same_life x e.life) journal

-- the life was linked as an edge
abbrev pub edge_linked : List Event → Life → Bool
edge_linked journal x = list_any (λ (e : Event). links_edge e.kind && same_life x e.life) journal

-- the life was marked as an edge, or replaced
abbrev pub edge_marked : List Event → Life → Bool
edge_marked journal x = list_any (λ (e : Event). cuts_edge e.kind && same_life x (cut_life e)) journal

-- the life was taken off its list
abbrev pub unlinked : List Event → Life → Bool
unlinked journal x = list_any (λ (e : Event). unlinks e.kind && same_life x e.life) journal

-- the list of the life's edges was closed at its head
abbrev pub head_frozen : List Event → Life → Bool
head_frozen journal x = list_any (λ (e : Event). freezes_head e.kind && same_life x e.life) journal

-- the key with which a vertex life was linked, if it was: its first link counts
unfoldable pub key_of : List Event → Life → Option ℕ
key_of journal x =
    option_map (λ (e : Event). e.key) (find (λ (e : Event). links_vertex e.kind && same_life x e.life) journal)

-- the event that linked an edge life, if one did: the first that did counts
unfoldable pub link_of : List Event → Life → Option Event
link_of journal x = find (λ (e : Event). links_edge e.kind && same_life x e.life) journal
