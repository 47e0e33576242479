-- A worked journal in which nodes are linked, unlinked and frozen in front of others and behind others. Behind two
-- vertices and an edge between them, caller 0 adds a vertex in front of both, and an edge to it in front of the first
-- edge. It removes that first edge, adds it again with another node, and removes the source of both edges, whose list
-- is closed edge by edge.
use Rattle.std.specs.Prelude.{List, [], ◌∷◌, ◌++◌}
use Rattle.packed_link.specs.Link.{pack, nowhere}
use Rattle.packed_link.specs.Layout.{bucket_at, key_at, link_at, second_at, third_at}
use Rattle.core_journal.specs.declared.event.Kind.TheVariants.{LinkVertex, MarkVertex, UnlinkVertex, LinkEdge, Raise}
use Rattle.core_journal.specs.declared.event.Kind.TheVariants.{UnlinkEdge, FreezeEdge}
use Rattle.core_journal.specs.declared.event.Event.{Event}
use Rattle.core_journal.specs.Event.{blank}
use Rattle.core_journal.specs.TwoCallers.{announces, withdraws, takes, fills}
use Rattle.core_journal.specs.Worked.{small, first_life}
use Rattle.core_worked.specs.TwoLives.{takes_edge, marks_first, closes_head, with_an_edge}

-- the vertex of key 0, that of node 3, is added in front of the one of key 1: events 26 to 33
abbrev pub adds_vertex : List Event
adds_vertex =
    announces 0
    ∷ takes 0 3 4
    ∷ fills 0 3 (key_at small 3) 0
    ∷ fills 0 3 (link_at small 3) (pack 0 0 1)
    ∷ fills 0 3 (second_at small 3) (pack nowhere 0 1)
    ∷ fills 0 3 (third_at small 3) 0
    ∷ record blank { kind = LinkVertex; place = bucket_at small 0; word = pack 3 0 0; life = first_life 3; key = 0 }
    ∷ withdraws 0
    ∷ []

-- an edge from key 1 to key 0, that of node 4, is added in front of the first edge: events 34 to 41
abbrev pub adds_edge : List Event
adds_edge =
    announces 0
    ∷ takes 0 4 5
    ∷ fills 0 4 (key_at small 4) 0
    ∷ fills 0 4 (link_at small 4) (pack 2 0 1)
    ∷ fills 0 4 (second_at small 4) (pack 3 0 1)
    ∷ fills 0 4 (third_at small 4) 7
    ∷ record blank {
      kind = LinkEdge;
      place = second_at small 0;
      word = pack 4 0 1;
      life = first_life 4;
      key = 0;
      source = first_life 0;
      target = first_life 3;
      weight = 7;
    }
    ∷ withdraws 0
    ∷ []

-- the first edge is removed behind that one: events 42 to 46
abbrev pub removes_behind : List Event
removes_behind =
    announces 0
    ∷ record blank { kind = Raise; place = third_at small 0; word = 1; life = first_life 0 }
    ∷ marks_first
    ∷ record blank { kind = UnlinkEdge; place = link_at small 4; word = pack nowhere 0 1; life = first_life 2 }
    ∷ withdraws 0
    ∷ []

-- it's added there again with node 5: events 47 to 54
abbrev pub adds_behind : List Event
adds_behind =
    takes_edge 5 6 ++ record blank {
      kind = LinkEdge;
      place = link_at small 4;
      word = pack 5 0 1;
      life = first_life 5;
      key = 2;
      source = first_life 0;
      target = first_life 1;
      weight = 6;
    } ∷ withdraws 0 ∷ []

-- the vertex of key 1 is removed behind that of key 0, and its list is closed at its head and at both edges: events 55
-- to 61
abbrev pub removes_source : List Event
removes_source =
    announces 0
    ∷ record blank { kind = MarkVertex; place = link_at small 0; word = pack 1 1 1; life = first_life 0 }
    ∷ record blank { kind = UnlinkVertex; place = link_at small 3; word = pack 1 0 1; life = first_life 0 }
    ∷ closes_head 4
    ∷ record blank { kind = FreezeEdge; place = link_at small 4; word = pack 5 1 1; life = first_life 4 }
    ∷ record blank { kind = FreezeEdge; place = link_at small 5; word = pack nowhere 1 1; life = first_life 5 }
    ∷ withdraws 0
    ∷ []

-- all events
abbrev pub beside_others : List Event
beside_others = with_an_edge ++ (adds_vertex ++ (adds_edge ++ (removes_behind ++ (adds_behind ++ removes_source))))
