-- A worked journal: an edge is linked, and its target is removed by another caller while the call still runs.
use Rattle.std.specs.Prelude.{ℕ, List, [], ◌∷◌}
use Rattle.std.specs.FinMap as map
use Rattle.std.specs.FinSet as set
use Rattle.graph_kinds.specs.Graph.{Graph}
use Rattle.graph_kinds.specs.Answer.{plain}
use Rattle.graph_kinds.specs.History.{Item}
use Rattle.graph_kinds.specs.declared.call.Call.{Call}
use Rattle.graph_kinds.specs.declared.call.Call.TheVariants.{AddVertex, RemoveVertex, AddEdge}
use Rattle.graph_kinds.specs.declared.outcome.Outcome.{Outcome}
use Rattle.graph_kinds.specs.declared.outcome.Outcome.TheVariants.{Added, Removed, Overtaken}
use Rattle.graph_kinds.specs.declared.entry.Class.TheVariants.{Own}
use Rattle.graph_kinds.specs.declared.entry.Entry.{Entry}
use Rattle.packed_link.specs.Layout.{Sizes}
use Rattle.packed_link.specs.declared.link.Life.{Life}
use Rattle.core_journal.specs.declared.book.Book.{Book}
use Rattle.core_journal.specs.declared.event.Kind.TheVariants.{LinkVertex, MarkVertex, LinkEdge}
use Rattle.core_journal.specs.declared.event.Event.{Event}
use Rattle.core_journal.specs.Event.{blank}
use Rattle.core_journal.specs.History.{item}

-- a table for two callers, with eight nodes and one bucket
abbrev pub small : Sizes
small = record { callers = 2; nodes = 8; buckets = 1 }

-- the first life of a node
abbrev pub first_life : ℕ → Life
first_life x = record { index = x; tag = 1 }

-- caller 0 links the vertices 1 and 2 and an edge between them; caller 1 marks vertex 2
abbrev pub worked_journal : List Event
worked_journal =
    record blank { kind = LinkVertex; life = first_life 0; key = 1 }
    ∷ record blank { kind = LinkVertex; life = first_life 1; key = 2 }
    ∷ record blank {
      kind = LinkEdge;
      life = first_life 2;
      key = 2;
      source = first_life 0;
      target = first_life 1;
      weight = 5;
    }
    ∷ record blank { caller = 1; kind = MarkVertex; life = first_life 1 }
    ∷ []

-- an own entry with one try
abbrev pub own : Call → Outcome → ℕ → ℕ → ℕ → Entry
own call outcome place start end = record {
  call = call;
  tries = 1;
  answer = plain outcome;
  class = Own;
  place = place;
  start = start;
  end = end;
}

-- the calls of caller 0
abbrev pub first_book : Book
first_book = record {
  caller = 0;
  entries = own (AddVertex 1) Added 0 0 1 ∷ own (AddVertex 2) Added 1 1 2 ∷ own (AddEdge 1 2 5) Overtaken 2 2 4 ∷ [];
}

-- the calls of caller 1
abbrev pub second_book : Book
second_book = record { caller = 1; entries = own (RemoveVertex 2) (Removed 0) 3 0 4 ∷ [] }

-- the books of both
abbrev pub worked_books : List Book
worked_books = first_book ∷ second_book ∷ []

-- their history
abbrev pub worked_history : List Item
worked_history =
    item 0 (own (AddVertex 1) Added 0 0 1)
    ∷ item 0 (own (AddVertex 2) Added 1 1 2)
    ∷ item 0 (own (AddEdge 1 2 5) Overtaken 2 2 4)
    ∷ item 1 (own (RemoveVertex 2) (Removed 0) 3 0 4)
    ∷ []

-- the graph with the one key 1
abbrev pub one_key : Graph
one_key = record { keys = set.from_list (1 ∷ []); pairs = map.empty }
