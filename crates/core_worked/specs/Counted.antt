-- What the laws of counts are shown on beside the journal with two lives: a table with one node, which is taken and
-- linked, so that the free list is empty and the node is all graph; books of two callers; and a call that is given up.
use Rattle.std.specs.Prelude.{List, [], ◌∷◌}
use Rattle.graph_kinds.specs.Answer.{plain}
use Rattle.graph_kinds.specs.declared.call.Call.TheVariants.{AddEdge, HasVertex}
use Rattle.graph_kinds.specs.declared.outcome.Outcome.TheVariants.{Again, Yes}
use Rattle.graph_kinds.specs.declared.entry.Class.TheVariants.{Silent}
use Rattle.graph_kinds.specs.declared.entry.Entry.{Entry}
use Rattle.packed_link.specs.Link.{pack, nowhere}
use Rattle.packed_link.specs.Layout.{Sizes, number_at, free_at, announce_at, bucket_at, key_at, link_at, second_at}
use Rattle.packed_link.specs.Layout.{third_at}
use Rattle.core_journal.specs.declared.book.Book.{Book}
use Rattle.core_journal.specs.declared.event.Event.{Event}
use Rattle.core_journal.specs.declared.event.Kind.TheVariants.{DrawNumber, PopFree, StorePrivate, LinkVertex, Announce}
use Rattle.core_journal.specs.Event.{blank}
use Rattle.core_journal.specs.Worked.{first_life}

-- a table for one caller, with one node and one bucket
abbrev pub one_node : Sizes
one_node = record { callers = 1; nodes = 1; buckets = 1 }

-- a number is drawn, a pass is opened, the node is taken and filled, and it's linked as the vertex of key 7
abbrev pub one_vertex : List Event
one_vertex =
    record blank { kind = DrawNumber; place = number_at one_node; word = 1 }
    ∷ record blank { kind = Announce; place = announce_at one_node 0; word = 1 }
    ∷ record blank { kind = PopFree; place = free_at one_node; word = pack nowhere 0 1; life = first_life 0 }
    ∷ record blank { kind = StorePrivate; place = key_at one_node 0; word = 7; life = first_life 0 }
    ∷ record blank { kind = StorePrivate; place = link_at one_node 0; word = pack nowhere 0 1; life = first_life 0 }
    ∷ record blank { kind = StorePrivate; place = second_at one_node 0; word = pack nowhere 0 1; life = first_life 0 }
    ∷ record blank { kind = StorePrivate; place = third_at one_node 0; word = 0; life = first_life 0 }
    ∷ record blank { kind = LinkVertex; place = bucket_at one_node 0; word = pack 0 0 0; life = first_life 0; key = 7 }
    ∷ []

-- the books of the two callers of a worked journal, without their entries
abbrev pub two_books : List Book
two_books = record { caller = 0; entries = [] } ∷ record { caller = 1; entries = [] } ∷ []

-- caller 0 gives up a call in the worked journal of two callers at once: in its three tries, between events 20 and 28,
-- caller 1 marked a vertex, unlinked it and closed its list
abbrev pub given_up : Entry
given_up =
    record {
      call = AddEdge 1 2 5;
      tries = 3;
      answer = plain Again;
      class = Silent;
      place = 28;
      start = 20;
      end = 28;
    }

-- caller 1 asks for vertex 2 in the journal with two lives, while it moves the epoch on
abbrev pub asks_for_two : Entry
asks_for_two =
    record { call = HasVertex 2; tries = 1; answer = plain Yes; class = Silent; place = 45; start = 45; end = 47 }
