-- The first eight events of a table for one caller, with two nodes and one bucket: the caller adds the vertex of key 7.
use Rattle.std.specs.Prelude.{ℕ, List, [], ◌∷◌}
use Rattle.std.specs.FinMap as map
use Rattle.std.specs.FinSet as set
use Rattle.graph_kinds.specs.Graph.{Graph}
use Rattle.packed_link.specs.Layout.{Sizes}
use Rattle.core_journal.specs.declared.event.Kind.TheVariants.{DrawNumber, PopFree, StorePrivate, LinkVertex, Announce}
use Rattle.core_journal.specs.declared.event.Event.{Event}
use Rattle.core_journal.specs.Event.{blank}
use Rattle.core_journal.specs.Worked.{first_life}

-- a table for one caller, with two nodes and one bucket
abbrev pub tiny : Sizes
tiny = record { callers = 1; nodes = 2; buckets = 1 }

-- the words at opening, places 0 to 13
abbrev pub words_before : List ℕ
words_before = 0 ∷ 0 ∷ 0 ∷ 0 ∷ 0 ∷ 16777215 ∷ 0 ∷ 16777217 ∷ 0 ∷ 0 ∷ 0 ∷ 33554431 ∷ 0 ∷ 0 ∷ []

-- a number is drawn, a pass is opened, node 0 is taken and its four words are filled, and it is linked into bucket 0
abbrev pub eight_events : List Event
eight_events =
    record blank { kind = DrawNumber; place = 1; word = 1 }
    ∷ record blank { kind = Announce; place = 4; word = 1 }
    ∷ record blank { kind = PopFree; place = 3; word = 33554433; life = first_life 0 }
    ∷ record blank { kind = StorePrivate; place = 6; word = 7; life = first_life 0 }
    ∷ record blank { kind = StorePrivate; place = 7; word = 50331647; life = first_life 0 }
    ∷ record blank { kind = StorePrivate; place = 8; word = 50331647; life = first_life 0 }
    ∷ record blank { kind = StorePrivate; place = 9; word = 0; life = first_life 0 }
    ∷ record blank { kind = LinkVertex; place = 5; word = 0; life = first_life 0; key = 7 }
    ∷ []

-- the words after them
abbrev pub words_after : List ℕ
words_after = 0 ∷ 1 ∷ 0 ∷ 33554433 ∷ 1 ∷ 0 ∷ 7 ∷ 50331647 ∷ 50331647 ∷ 0 ∷ 0 ∷ 33554431 ∷ 0 ∷ 0 ∷ []

-- the graph with the one key 7
abbrev pub key_seven : Graph
key_seven = record { keys = set.from_list (7 ∷ []); pairs = map.empty }
