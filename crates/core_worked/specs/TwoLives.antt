-- A worked journal with all kinds of events but the replacing of an edge, and the words after it. Behind two vertices
-- that caller 0 added, it adds an edge between them, removes it, adds it again with another node, and removes its
-- source, whose list is closed. Caller 1 moves the epoch on twice. Then caller 0 gives the nodes of the second edge and
-- of its source back, and takes the latter for a second life.
use Rattle.std.specs.Prelude.{ℕ, ◌+◌, List, [], ◌∷◌, ◌++◌, take}
use Rattle.std.specs.FinMap as map
use Rattle.std.specs.FinSet as set
use Rattle.graph_kinds.specs.Graph.{Graph}
use Rattle.packed_link.specs.Link.{pack, nowhere}
use Rattle.packed_link.specs.Layout.{epoch_at, free_at, announce_at, bucket_at, key_at, link_at, second_at, third_at}
use Rattle.core_journal.specs.declared.event.Kind.TheVariants.{PopFree, MarkVertex, UnlinkVertex, LinkEdge, Raise}
use Rattle.core_journal.specs.declared.event.Kind.TheVariants.{MarkEdge, UnlinkEdge, Announce, MoveEpoch, FreezeHead}
use Rattle.core_journal.specs.declared.event.Kind.TheVariants.{FreezeEdge, StoreFree, PushFree}
use Rattle.core_journal.specs.declared.event.Event.{Event}
use Rattle.core_journal.specs.Event.{blank}
use Rattle.core_journal.specs.Worked.{small, first_life}
use Rattle.core_journal.specs.TwoCallers.{announces, withdraws, takes, fills, two_vertices}
use Rattle.core_lists.specs.Walks.{Load}

-- in a new pass caller 0 takes node x, and fills it for an edge to node 1 with this weight
abbrev pub takes_edge : ℕ → ℕ → List Event
takes_edge x weight =
    announces 0
    ∷ takes 0 x (x + 1)
    ∷ fills 0 x (key_at small x) 2
    ∷ fills 0 x (link_at small x) (pack nowhere 0 1)
    ∷ fills 0 x (second_at small x) (pack 1 0 1)
    ∷ fills 0 x (third_at small x) weight
    ∷ []

-- it links the edge into the list of node 0, which is empty
abbrev pub links_new : ℕ → ℕ → Event
links_new x weight =
    record blank {
      kind = LinkEdge;
      place = second_at small 0;
      word = pack x 0 1;
      life = first_life x;
      key = 2;
      source = first_life 0;
      target = first_life 1;
      weight = weight;
    }

-- the first edge, that of node 2, is marked
abbrev pub marks_first : Event
marks_first = record blank { kind = MarkEdge; place = link_at small 2; word = pack nowhere 1 1; life = first_life 2 }

-- the counter of its source, the vertex of node 0, is raised for the first time
abbrev pub raises_source : Event
raises_source = record blank { kind = Raise; place = third_at small 0; word = 1; life = first_life 0 }

-- in a new pass caller 0 removes it: it raises the counter of the edge's source first
abbrev pub removes_edge : List Event
removes_edge =
    announces 0
    ∷ raises_source
    ∷ marks_first
    ∷ record blank { kind = UnlinkEdge; place = second_at small 0; word = pack nowhere 0 1; life = first_life 2 }
    ∷ withdraws 0
    ∷ []

-- the vertex of node 0 is marked
abbrev pub marks_a_vertex : Event
marks_a_vertex = record blank { kind = MarkVertex; place = link_at small 0; word = pack 1 1 1; life = first_life 0 }

-- it's unlinked
abbrev pub unlinks_a_vertex : Event
unlinks_a_vertex =
    record blank { kind = UnlinkVertex; place = bucket_at small 0; word = pack 1 0 0; life = first_life 0 }

-- the vertex of node 0 is removed
abbrev pub removes_vertex : List Event
removes_vertex = marks_a_vertex ∷ unlinks_a_vertex ∷ []

-- its list is closed at its head, which leads to node x
abbrev pub closes_head : ℕ → Event
closes_head x = record blank { kind = FreezeHead; place = second_at small 0; word = pack x 1 1; life = first_life 0 }

-- the second edge, that of node 3, is marked there and handed over
abbrev pub freezes_second : Event
freezes_second =
    record blank { kind = FreezeEdge; place = link_at small 3; word = pack nowhere 1 1; life = first_life 3 }

-- caller 1 moves the epoch on to n
abbrev pub moves_epoch : ℕ → Event
moves_epoch n = record blank { caller = 1; kind = MoveEpoch; place = epoch_at small; word = n }

-- caller 0 stores the link of node x for the free list, in front of the first free node
abbrev pub stores_link : ℕ → ℕ → Event
stores_link x first =
    record blank { kind = StoreFree; place = link_at small x; word = pack first 1 1; life = first_life x }

-- it gives the node back
abbrev pub gives_back : ℕ → ℕ → ℕ → List Event
gives_back x first changes =
    stores_link x first ∷ record blank {
      kind = PushFree;
      place = free_at small;
      word = pack x 0 changes;
      life = first_life x;
    } ∷ []

-- in a pass that begins in epoch 2, node 0 is taken for its second life
abbrev pub takes_again : List Event
takes_again =
    record blank { kind = Announce; place = announce_at small 0; word = 3 }
    ∷ record blank { kind = PopFree; place = free_at small; word = pack 3 0 7; life = record { index = 0; tag = 2 } }
    ∷ []

-- up to the pass that adds the first edge: events 0 to 25
abbrev pub with_an_edge : List Event
with_an_edge = two_vertices ++ (takes_edge 2 5 ++ links_new 2 5 ∷ withdraws 0 ∷ [])

-- up to the pass that removes it: events 26 to 30
abbrev pub without_edge : List Event
without_edge = with_an_edge ++ removes_edge

-- up to the pass that adds the second edge: events 31 to 38
abbrev pub with_other : List Event
with_other = without_edge ++ (takes_edge 3 6 ++ links_new 3 6 ∷ withdraws 0 ∷ [])

-- up to the pass that removes its source: events 39 to 44
abbrev pub without_source : List Event
without_source = with_other ++ (announces 0 ∷ removes_vertex ++ (closes_head 3 ∷ freezes_second ∷ withdraws 0 ∷ []))

-- up to the two nodes being free again: events 45 to 50
abbrev pub node_given_back : List Event
node_given_back = without_source ++ (moves_epoch 1 ∷ moves_epoch 2 ∷ gives_back 3 4 5 ++ gives_back 0 3 6)

-- all events, 0 to 52
abbrev pub two_lives : List Event
two_lives = node_given_back ++ takes_again

-- the graph with the keys 1 and 2, and these pairs
abbrev pub two_keys : List ((ℕ × ℕ) × ℕ) → Graph
two_keys pairs = record { keys = set.from_list (1 ∷ 2 ∷ []); pairs = map.from_entries pairs }

-- the graph with the key 2 alone
abbrev pub key_two : Graph
key_two = record { keys = set.from_list (2 ∷ []); pairs = map.empty }

-- the words of the table after all events, place by place
abbrev pub lives_words : List ℕ
lives_words =
    0 ∷ 2 ∷ 2 ∷ pack 3 0 7 ∷ 3 ∷ 0 ∷ pack 1 0 0
    ∷ 1 ∷ pack 3 1 1 ∷ pack 3 1 1 ∷ 1
    ∷ 2 ∷ pack nowhere 0 1 ∷ pack nowhere 0 1 ∷ 0
    ∷ 2 ∷ pack nowhere 1 1 ∷ pack 1 0 1 ∷ 5
    ∷ 2 ∷ pack 4 1 1 ∷ pack 1 0 1 ∷ 6
    ∷ 0 ∷ pack 5 1 0 ∷ 0 ∷ 0
    ∷ 0 ∷ pack 6 1 0 ∷ 0 ∷ 0
    ∷ 0 ∷ pack 7 1 0 ∷ 0 ∷ 0
    ∷ 0 ∷ pack nowhere 1 0 ∷ 0 ∷ 0
    ∷ []

-- a load behind the first n events
abbrev pub load_at : ℕ → ℕ → Load
load_at n place = record { moment = take n two_lives; place = place }

-- in the pass that removes the vertex of node 0, the loads of caller 0, the last one first: from the bucket to node 0,
-- from its link to node 1 once it's unlinked, from its second word to node 3 once its list is frozen, and to none
-- behind that
abbrev pub walk_in_a_frozen_list : List Load
walk_in_a_frozen_list =
    load_at 44 (link_at small 3) ∷ load_at 44 (second_at small 0) ∷ load_at 42 (link_at small 0)
    ∷ load_at 40 (bucket_at small 0) ∷ []
