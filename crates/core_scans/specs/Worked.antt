-- A worked journal of queries beside another caller, and what their scans record. Caller 0 adds the vertices 1 and 2
-- and an edge from 1 to 2. While caller 1 asks from vertex 1 on, caller 0 adds an edge from 1 to itself and removes it,
-- and then replaces the edge from 1 to 2.
use Rattle.std.specs.Prelude.{ℕ, ◌+◌, List, [], ◌∷◌, ◌++◌, Some, take}
use Rattle.packed_link.specs.Link.{pack, nowhere}
use Rattle.packed_link.specs.Layout.{key_at, link_at, second_at, third_at}
use Rattle.scan_record.specs.declared.rows.VertexRow.{VertexRow}
use Rattle.scan_record.specs.declared.rows.EdgeRow.{EdgeRow}
use Rattle.scan_record.specs.Scan.{ScanValue, empty_scan}
use Rattle.core_journal.specs.declared.event.Kind.TheVariants.{LinkEdge, Raise, MarkEdge, UnlinkEdge, ReplaceEdge}
use Rattle.core_journal.specs.declared.event.Event.{Event}
use Rattle.core_journal.specs.Event.{blank}
use Rattle.core_journal.specs.TwoCallers.{announces, withdraws, takes, fills, two_vertices}
use Rattle.core_journal.specs.Worked.{small, first_life}

-- caller 0 takes node x, and fills it for an edge with this key and weight, which leads on by this link, and of which
-- the target is the vertex of a node
abbrev pub fills_edge : ℕ → ℕ → ℕ → ℕ → ℕ → List Event
fills_edge x key link target weight =
    takes 0 x (x + 1)
    ∷ fills 0 x (key_at small x) key
    ∷ fills 0 x (link_at small x) link
    ∷ fills 0 x (second_at small x) (pack target 0 1)
    ∷ fills 0 x (third_at small x) weight
    ∷ []

-- it links the edge of node x into the list of vertex 1, in front
abbrev pub links_in_front : ℕ → ℕ → ℕ → ℕ → Event
links_in_front x key target weight =
    record blank {
      kind = LinkEdge;
      place = second_at small 0;
      word = pack x 0 1;
      life = first_life x;
      key = key;
      source = first_life 0;
      target = first_life target;
      weight = weight;
    }

-- it raises the counter of vertex 1 to n
abbrev pub raises_first : ℕ → Event
raises_first n = record blank { kind = Raise; place = third_at small 0; word = n; life = first_life 0 }

-- the edge from 1 to 2 of weight 3 is added: events 18 to 25
abbrev pub adds_edge_to_two : List Event
adds_edge_to_two =
    announces 0 ∷ fills_edge 2 2 (pack nowhere 0 1) 1 3 ++ (links_in_front 2 2 1 3 ∷ withdraws 0 ∷ [])

-- the edge from 1 to 1 is added in front of it, marked and unlinked: events 27 to 36
abbrev pub toggles_edge : List Event
toggles_edge =
    announces 0
    ∷ fills_edge 3 1 (pack 2 0 1) 0 4
    ++ (links_in_front 3 1 0 4
    ∷ raises_first 1
    ∷ record blank { kind = MarkEdge; place = link_at small 3; word = pack 2 1 1; life = first_life 3 }
    ∷ record blank { kind = UnlinkEdge; place = second_at small 0; word = pack 2 0 1; life = first_life 3 }
    ∷ [])

-- the edge from 1 to 2 is replaced by one of weight 7: events 37 to 43
abbrev pub replaces_it : List Event
replaces_it =
    fills_edge 4 2 (pack nowhere 0 1) 1 7
    ++ (raises_first 2
    ∷ record blank {
      kind = ReplaceEdge;
      place = link_at small 2;
      word = pack 4 1 1;
      life = first_life 4;
      key = 2;
      source = first_life 0;
      target = first_life 1;
      weight = 7;
      old = first_life 2;
    }
    ∷ [])

-- all events; caller 1 opens its pass by event 26
abbrev pub beside_queries : List Event
beside_queries = two_vertices ++ (adds_edge_to_two ++ (announces 1 ∷ toggles_edge ++ replaces_it))

-- a front of them
abbrev pub moment : ℕ → List Event
moment n = take n beside_queries

-- the row of vertex 1, with a counter and one edge; its head leads to the first edge from 1 to 2
abbrev pub row_one : ℕ → VertexRow
row_one counter = record {
  life = first_life 0;
  key = 1;
  counter = counter;
  head = pack 2 0 1;
  first = 0;
  count = 1;
}

-- the row of vertex 2, which has no edge
abbrev pub row_two : VertexRow
row_two = record { life = first_life 1; key = 2; counter = 0; head = pack nowhere 0 1; first = 1; count = 0 }

-- the edge from 1 to 2, of node x
abbrev pub edge_to_two : ℕ → ℕ → EdgeRow
edge_to_two x weight = record {
  life = first_life x;
  link = pack nowhere 0 1;
  key = 2;
  weight = weight;
  target = Some 1;
}

-- a scan from vertex 1: both vertices, and the edge
abbrev pub scan_from_one : ℕ → EdgeRow → ScanValue
scan_from_one counter edge = record (empty_scan 8) {
  rows = row_one counter ∷ row_two ∷ [];
  started = 2;
  next = 2;
  edges = edge ∷ [];
  costs = 0 ∷ 0 ∷ [];
  slot_zero = 0 ∷ 0 ∷ [];
  slot_one = 0 ∷ 0 ∷ [];
  slot_two = 0 ∷ 0 ∷ [];
}

-- what is recorded before the edge from 1 to 1 comes, after it's gone, and after the edge from 1 to 2 was replaced
abbrev pub scan_before : ScanValue
scan_before = scan_from_one 0 (edge_to_two 2 3)

abbrev pub scan_between : ScanValue
scan_between = scan_from_one 1 (edge_to_two 2 3)

abbrev pub scan_after : ScanValue
scan_after = scan_from_one 2 (edge_to_two 4 7)
