-- The graph of a journal, and what an event is to it. No list is walked: the graph is that of the lives.
use Rattle.std.specs.Prelude.{◌≡◌, ℕ, Bool, true, cond, not, ◌&&◌, ◌==◌, List, [], ◌∷◌, ◌++◌, Option, Some, None}
use Rattle.std.specs.Prelude.{filter_map, reverse, nat_eq, option_map, option_and_then}
use Rattle.std.specs.Cmp.Lexicographic.{pointwise}
use Rattle.std.specs.FinMap as map
use Rattle.std.specs.FinSet as set
use Rattle.graph_kinds.specs.Graph.{Graph}
use Rattle.graph_kinds.specs.Answer.{alters, after}
use Rattle.graph_kinds.specs.declared.call.Call.{Call}
use Rattle.graph_kinds.specs.declared.call.Call.TheVariants.{AddVertex, RemoveVertex, AddEdge, RemoveEdge}
use Rattle.packed_link.specs.declared.link.Life.{Life}
use Rattle.core_journal.specs.declared.event.Kind.{Kind}
use Rattle.core_journal.specs.declared.event.Kind.TheVariants.{DrawNumber, PopFree, StorePrivate, LinkVertex}
use Rattle.core_journal.specs.declared.event.Kind.TheVariants.{MarkVertex, UnlinkVertex, LinkEdge, Raise, MarkEdge}
use Rattle.core_journal.specs.declared.event.Kind.TheVariants.{UnlinkEdge, ReplaceEdge, Announce, Withdraw, MoveEpoch}
use Rattle.core_journal.specs.declared.event.Kind.TheVariants.{FreezeHead, FreezeEdge, StoreFree, PushFree}
use Rattle.core_journal.specs.declared.event.Event.{Event}
use Rattle.core_journal.specs.Event.{links_vertex, marks_vertex, links_edge}
use Rattle.core_journal.specs.Life.{key_of, link_of, vertex_marked, edge_marked}

-- the keys of an edge's two ends, where both are told
abbrev pub both : Option ℕ → Option ℕ → Option (ℕ × ℕ)
both (Some a) (Some b) = Some (a, b)
both _ _ = None

-- the key of a vertex life that is linked and not marked
abbrev pub present_key : List Event → Life → Option ℕ
present_key journal x = cond (vertex_marked journal x) None (key_of journal x)

-- a pair of keys, where it is told, with a weight
abbrev pub weighed : ℕ → Option (ℕ × ℕ) → Option ((ℕ × ℕ) × ℕ)
weighed w ends = option_map (λ p. (p, w)) ends

-- the keys and the weight of an edge that was linked by this event, where its source and target are present
abbrev pub pair_between : List Event → Event → Option ((ℕ × ℕ) × ℕ)
pair_between journal link =
    weighed link.weight (both (present_key journal link.source) (present_key journal link.target))

-- the keys and the weight of an edge life that is linked and not marked, where its source and target are present
abbrev pub present_pair : List Event → Life → Option ((ℕ × ℕ) × ℕ)
present_pair journal x = cond (edge_marked journal x) None (option_and_then (pair_between journal) (link_of journal x))

-- the key that a vertex link has in the graph after a journal, if it has one still
abbrev pub key_by : List Event → Event → Option ℕ
key_by journal e = cond (links_vertex e.kind) (present_key journal e.life) None

-- the pair that an edge link has in the graph after a journal, if it has one still
abbrev pub pair_by : List Event → Event → Option ((ℕ × ℕ) × ℕ)
pair_by journal e = cond (links_edge e.kind) (present_pair journal e.life) None

-- the graph of a journal: the keys of the present vertex lives and the pairs of the present edge lives;
-- of two edges of one pair the one that was linked last counts
unfoldable pub graph_of : List Event → Graph
graph_of journal = record {
  keys = set.from_list (filter_map (key_by journal) journal);
  pairs = map.from_entries (filter_map (pair_by journal) (reverse journal));
}

-- the keys of an edge's source and target
abbrev pub ends_of : List Event → Event → Option (ℕ × ℕ)
ends_of past link = both (key_of past link.source) (key_of past link.target)

-- the event that linked an edge, by the kind of an event on it
abbrev pub edge_by : Kind → List Event → Event → Option Event
edge_by LinkEdge past e = Some e
edge_by ReplaceEdge past e = Some e
edge_by MarkEdge past e = link_of past e.life
edge_by DrawNumber past e = None
edge_by PopFree past e = None
edge_by StorePrivate past e = None
edge_by LinkVertex past e = None
edge_by MarkVertex past e = None
edge_by UnlinkVertex past e = None
edge_by Raise past e = None
edge_by UnlinkEdge past e = None
edge_by Announce past e = None
edge_by Withdraw past e = None
edge_by MoveEpoch past e = None
edge_by FreezeHead past e = None
edge_by FreezeEdge past e = None
edge_by StoreFree past e = None
edge_by PushFree past e = None

-- the event that linked the edge which an edge event is about
abbrev pub edge_of : List Event → Event → Option Event
edge_of past e = edge_by e.kind past e

-- the call of an event of each kind
abbrev pub call_by : Kind → List Event → Event → Option Call
call_by LinkVertex past e = Some (AddVertex e.key)
call_by MarkVertex past e = option_map RemoveVertex (key_of past e.life)
call_by LinkEdge past e = option_map (λ p. AddEdge p.0 p.1 e.weight) (ends_of past e)
call_by ReplaceEdge past e = option_map (λ p. AddEdge p.0 p.1 e.weight) (ends_of past e)
call_by MarkEdge past e = option_map (λ p. RemoveEdge p.0 p.1) (option_and_then (ends_of past) (link_of past e.life))
call_by DrawNumber past e = None
call_by PopFree past e = None
call_by StorePrivate past e = None
call_by UnlinkVertex past e = None
call_by Raise past e = None
call_by UnlinkEdge past e = None
call_by Announce past e = None
call_by Withdraw past e = None
call_by MoveEpoch past e = None
call_by FreezeHead past e = None
call_by FreezeEdge past e = None
call_by StoreFree past e = None
call_by PushFree past e = None

-- the call that an event carries out, with the keys of its lives
abbrev pub call_of : List Event → Event → Option Call
call_of past e = call_by e.kind past e

-- whether two pairs with their weights are one
abbrev pub same_pair : (ℕ × ℕ) × ℕ → (ℕ × ℕ) × ℕ → Bool
same_pair x y = (x.0.0 == y.0.0) && ((x.0.1 == y.0.1) && (x.1 == y.1))

-- whether two graphs are one: the same keys, and the same pairs with the same weights
unfoldable pub same_graph : Graph → Graph → Bool
same_graph g h =
    pointwise nat_eq (set.items g.keys) (set.items h.keys)
    && pointwise same_pair (map.entries g.pairs) (map.entries h.pairs)

-- whether an event changes the graph
unfoldable pub changes : List Event → Event → Bool
changes past e = not (same_graph (graph_of past) (graph_of (past ++ e ∷ [])))

-- an event carries out its call: the call alters the graph before the event, and the graph after the event is that
-- after the call
pub record CarriesOut (past : List Event) (e : Event) : Type 0 where
  pub call : Call
  pub is : call_of past e ≡ Some call
  pub alters : alters (graph_of past) call ≡ true
  pub leads : graph_of (past ++ e ∷ []) ≡ after (graph_of past) call

-- a mark of a vertex changes the graph, and an event that changes the graph carries out its call
pub record IsRegularEvent (past : List Event) (e : Event) : Type 0 where
  pub removal : marks_vertex e.kind ≡ true → changes past e ≡ true
  pub carried : changes past e ≡ true → CarriesOut past e

-- events that are regular behind others
abbrev pub RegularFrom : List Event → List Event → Type 0
RegularFrom past [] = Unit {0}
RegularFrom past (e ∷ es) = IsRegularEvent past e × RegularFrom (past ++ e ∷ []) es

-- each event of the journal is regular after those before it
pub record IsRegular (journal : List Event) : Type 0 where
  pub steps : RegularFrom [] journal
