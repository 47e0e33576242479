-- A worked journal from the opening on, with the words of the table: one caller links an edge to a vertex that another
-- caller removes in between.
-- Caller 0 adds the vertices 1 and 2. Then it takes and fills a node for an edge from 1 to 2; caller 1 marks vertex 2,
-- unlinks it and closes its list; caller 0 links the edge, and finds vertex 2 gone.
use Rattle.std.specs.Prelude.{ℕ, ◌+◌, List, [], ◌∷◌, ◌++◌}
use Rattle.graph_kinds.specs.Answer.{plain}
use Rattle.graph_kinds.specs.History.{Item}
use Rattle.graph_kinds.specs.declared.call.Call.TheVariants.{AddVertex, RemoveVertex, HasEdge, AddEdge}
use Rattle.graph_kinds.specs.declared.outcome.Outcome.TheVariants.{Added, Removed, Overtaken, NoVertex}
use Rattle.graph_kinds.specs.declared.entry.Class.TheVariants.{Silent, Late}
use Rattle.graph_kinds.specs.declared.entry.Entry.{Entry}
use Rattle.packed_link.specs.Link.{pack, nowhere}
use Rattle.packed_link.specs.Layout.{number_at, free_at, announce_at, bucket_at, key_at, link_at, second_at, third_at}
use Rattle.core_journal.specs.declared.book.Book.{Book}
use Rattle.core_journal.specs.declared.event.Kind.TheVariants.{DrawNumber, PopFree, StorePrivate, LinkVertex}
use Rattle.core_journal.specs.declared.event.Kind.TheVariants.{MarkVertex, UnlinkVertex, LinkEdge, Announce, Withdraw}
use Rattle.core_journal.specs.declared.event.Kind.TheVariants.{FreezeHead}
use Rattle.core_journal.specs.declared.event.Event.{Event}
use Rattle.core_journal.specs.Event.{blank}
use Rattle.core_journal.specs.History.{item}
use Rattle.core_journal.specs.Worked.{small, first_life, own}

-- caller c is the n-th to draw a number
abbrev pub draws_number : ℕ → ℕ → Event
draws_number c n = record blank { caller = c; kind = DrawNumber; place = number_at small; word = n }

-- caller c opens a pass in epoch 0
abbrev pub announces : ℕ → Event
announces c = record blank { caller = c; kind = Announce; place = announce_at small c; word = 1 }

-- caller c closes its pass
abbrev pub withdraws : ℕ → Event
withdraws c = record blank { caller = c; kind = Withdraw; place = announce_at small c; word = 0 }

-- caller c takes node x for its first life; the free list then begins with the node behind it, and has changed so often
abbrev pub takes : ℕ → ℕ → ℕ → Event
takes c x changes = record blank {
  caller = c;
  kind = PopFree;
  place = free_at small;
  word = pack (x + 1) 0 changes;
  life = first_life x;
}

-- caller c fills one word of node x
abbrev pub fills : ℕ → ℕ → ℕ → ℕ → Event
fills c x place word = record blank { caller = c; kind = StorePrivate; place = place; word = word; life = first_life x }

-- the two vertices are added: events 0 to 17
abbrev pub two_vertices : List Event
two_vertices =
    draws_number 0 1
    ∷ draws_number 1 2
    ∷ announces 0
    ∷ takes 0 0 1
    ∷ fills 0 0 (key_at small 0) 1
    ∷ fills 0 0 (link_at small 0) (pack nowhere 0 1)
    ∷ fills 0 0 (second_at small 0) (pack nowhere 0 1)
    ∷ fills 0 0 (third_at small 0) 0
    ∷ record blank { kind = LinkVertex; place = bucket_at small 0; word = pack 0 0 0; life = first_life 0; key = 1 }
    ∷ withdraws 0
    ∷ announces 0
    ∷ takes 0 1 2
    ∷ fills 0 1 (key_at small 1) 2
    ∷ fills 0 1 (link_at small 1) (pack nowhere 0 1)
    ∷ fills 0 1 (second_at small 1) (pack nowhere 0 1)
    ∷ fills 0 1 (third_at small 1) 0
    ∷ record blank { kind = LinkVertex; place = link_at small 0; word = pack 1 0 1; life = first_life 1; key = 2 }
    ∷ withdraws 0
    ∷ []

-- the edge is filled and linked while its target is removed: events 18 to 32
abbrev pub overtaken_edge : List Event
overtaken_edge =
    announces 0
    ∷ announces 1
    ∷ takes 0 2 3
    ∷ fills 0 2 (key_at small 2) 2
    ∷ record blank {
      caller = 1;
      kind = MarkVertex;
      place = link_at small 1;
      word = pack nowhere 1 1;
      life = first_life 1;
    }
    ∷ fills 0 2 (link_at small 2) (pack nowhere 0 1)
    ∷ record blank {
      caller = 1;
      kind = UnlinkVertex;
      place = link_at small 0;
      word = pack nowhere 0 1;
      life = first_life 1;
    }
    ∷ fills 0 2 (second_at small 2) (pack 1 0 1)
    ∷ record blank {
      caller = 1;
      kind = FreezeHead;
      place = second_at small 1;
      word = pack nowhere 1 1;
      life = first_life 1;
    }
    ∷ fills 0 2 (third_at small 2) 5
    ∷ withdraws 1
    ∷ record blank {
      kind = LinkEdge;
      place = second_at small 0;
      word = pack 2 0 1;
      life = first_life 2;
      key = 2;
      source = first_life 0;
      target = first_life 1;
      weight = 5;
    }
    ∷ withdraws 0
    ∷ announces 1
    ∷ withdraws 1
    ∷ []

-- all events
abbrev pub callers_journal : List Event
callers_journal = two_vertices ++ overtaken_edge

-- the edge is overtaken by the mark of event 22
abbrev pub late_entry : Entry
late_entry = record {
  call = AddEdge 1 2 5;
  tries = 1;
  answer = plain Overtaken;
  class = Late;
  place = 22;
  start = 18;
  end = 31;
}

-- behind the link, caller 1 looks for the edge
abbrev pub look_up : Entry
look_up = record {
  call = HasEdge 1 2;
  tries = 1;
  answer = plain NoVertex;
  class = Silent;
  place = 32;
  start = 29;
  end = 33;
}

-- the calls of the two callers
abbrev pub callers_books : List Book
callers_books =
    record { caller = 0; entries = own (AddVertex 1) Added 8 1 10 ∷ own (AddVertex 2) Added 16 10 18 ∷ late_entry ∷ [] }
    ∷ record { caller = 1; entries = own (RemoveVertex 2) (Removed 0) 22 2 29 ∷ look_up ∷ [] }
    ∷ []

-- their history: the add of the edge stands just before the removal that overtook it
abbrev pub callers_history : List Item
callers_history =
    item 0 (own (AddVertex 1) Added 8 1 10)
    ∷ item 0 (own (AddVertex 2) Added 16 10 18)
    ∷ item 0 late_entry
    ∷ item 1 (own (RemoveVertex 2) (Removed 0) 22 2 29)
    ∷ item 1 look_up
    ∷ []

-- the words of the table after it, place by place
abbrev pub callers_words : List ℕ
callers_words =
    0 ∷ 2 ∷ 0 ∷ pack 3 0 3 ∷ 0 ∷ 0 ∷ pack 0 0 0
    ∷ 1 ∷ pack nowhere 0 1 ∷ pack 2 0 1 ∷ 0
    ∷ 2 ∷ pack nowhere 1 1 ∷ pack nowhere 1 1 ∷ 0
    ∷ 2 ∷ pack nowhere 0 1 ∷ pack 1 0 1 ∷ 5
    ∷ 0 ∷ pack 4 1 0 ∷ 0 ∷ 0
    ∷ 0 ∷ pack 5 1 0 ∷ 0 ∷ 0
    ∷ 0 ∷ pack 6 1 0 ∷ 0 ∷ 0
    ∷ 0 ∷ pack 7 1 0 ∷ 0 ∷ 0
    ∷ 0 ∷ pack nowhere 1 0 ∷ 0 ∷ 0
    ∷ []
