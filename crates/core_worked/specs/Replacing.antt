-- A worked journal with all eighteen kinds of events, its books and its history. Behind two vertices and an edge
-- between them, caller 0 replaces the edge, replaces the new one, and removes the one that is there then; it adds the
-- pair anew and replaces that edge too. Then it removes the source, whose list is closed: the replaced edge is handed
-- over with its head, and the last one is frozen. Caller 1 moves the epoch on twice, and the node of the first edge is
-- given back.
use Rattle.std.specs.Prelude.{ℕ, List, [], ◌∷◌, ◌++◌}
use Rattle.graph_kinds.specs.Answer.{plain}
use Rattle.graph_kinds.specs.History.{Item}
use Rattle.graph_kinds.specs.declared.answer.Answer.{Answer}
use Rattle.graph_kinds.specs.declared.call.Row.{Row}
use Rattle.graph_kinds.specs.declared.call.Call.TheVariants.{AddVertex, RemoveVertex, AddEdge, RemoveEdge}
use Rattle.graph_kinds.specs.declared.outcome.Outcome.TheVariants.{Added, Changed, Removed}
use Rattle.packed_link.specs.Link.{pack, nowhere}
use Rattle.packed_link.specs.Layout.{key_at, link_at, second_at, third_at}
use Rattle.core_journal.specs.declared.book.Book.{Book}
use Rattle.core_journal.specs.declared.event.Kind.TheVariants.{MarkVertex, Raise, MarkEdge, UnlinkEdge, FreezeEdge}
use Rattle.core_journal.specs.declared.event.Kind.TheVariants.{ReplaceEdge}
use Rattle.core_journal.specs.declared.event.Event.{Event}
use Rattle.core_journal.specs.Event.{blank}
use Rattle.core_journal.specs.History.{item}
use Rattle.core_journal.specs.TwoCallers.{announces, withdraws, takes, fills}
use Rattle.core_journal.specs.Worked.{small, first_life, own}
use Rattle.core_worked.specs.TwoLives.{takes_edge, links_new, marks_first, removes_vertex, closes_head, moves_epoch}
use Rattle.core_worked.specs.TwoLives.{gives_back, with_an_edge}

-- caller 0 raises the counter of the source, the vertex of node 0, to n
abbrev pub raises_to : ℕ → Event
raises_to n = record blank { kind = Raise; place = third_at small 0; word = n; life = first_life 0 }

-- it replaces the edge of node old by that of node x, which has this weight
abbrev pub replaces_by : ℕ → ℕ → ℕ → Event
replaces_by old x weight =
    record blank {
      kind = ReplaceEdge;
      place = link_at small old;
      word = pack x 1 1;
      life = first_life x;
      key = 2;
      source = first_life 0;
      target = first_life 1;
      weight = weight;
      old = first_life old;
    }

-- in a new pass it does so: it fills node x, and raises the counter to n first
abbrev pub replaces_edge : ℕ → ℕ → ℕ → ℕ → List Event
replaces_edge n old x weight =
    takes_edge x weight ++ (raises_to n ∷ replaces_by old x weight ∷ withdraws 0 ∷ [])

-- the first edge on the list, that of node x, is unlinked: the list then begins with the edge of node next
abbrev pub unlinks_first : ℕ → ℕ → Event
unlinks_first x next =
    record blank { kind = UnlinkEdge; place = second_at small 0; word = pack next 0 1; life = first_life x }

-- in a new pass it removes the edge that replaced two others, that of node 4, and unlinks all three
abbrev pub removes_latest : List Event
removes_latest =
    announces 0
    ∷ raises_to 3
    ∷ record blank { kind = MarkEdge; place = link_at small 4; word = pack nowhere 1 1; life = first_life 4 }
    ∷ unlinks_first 2 3
    ∷ unlinks_first 3 4
    ∷ unlinks_first 4 nowhere
    ∷ withdraws 0
    ∷ []

-- the edge of node 6, to which that of node 5 leads, is frozen
abbrev pub freezes_last : Event
freezes_last = record blank { kind = FreezeEdge; place = link_at small 6; word = pack nowhere 1 1; life = first_life 6 }

-- up to the pass in which the edge is replaced: events 26 to 34
abbrev pub replaced_once : List Event
replaced_once = with_an_edge ++ replaces_edge 1 2 3 6

-- up to the pass in which it's replaced again: events 35 to 43
abbrev pub replaced_twice : List Event
replaced_twice = replaced_once ++ replaces_edge 2 3 4 7

-- up to the pass that removes it: events 44 to 50
abbrev pub removed_then : List Event
removed_then = replaced_twice ++ removes_latest

-- up to the pass that adds the pair anew: events 51 to 58
abbrev pub added_anew : List Event
added_anew = removed_then ++ (takes_edge 5 8 ++ links_new 5 8 ∷ withdraws 0 ∷ [])

-- up to the pass in which that edge is replaced: events 59 to 67
abbrev pub replaced_anew : List Event
replaced_anew = added_anew ++ replaces_edge 4 5 6 9

-- up to the pass that removes the source, and freezes its list: events 68 to 73
abbrev pub frozen_behind : List Event
frozen_behind = replaced_anew ++ (announces 0 ∷ removes_vertex ++ (closes_head 5 ∷ freezes_last ∷ withdraws 0 ∷ []))

-- all events, 0 to 77
abbrev pub replacing_journal : List Event
replacing_journal = frozen_behind ++ (moves_epoch 1 ∷ moves_epoch 2 ∷ gives_back 2 7 8)

-- the words of the table after all events, place by place
abbrev pub replacing_words : List ℕ
replacing_words =
    0 ∷ 2 ∷ 2 ∷ pack 2 0 8 ∷ 0 ∷ 0 ∷ pack 1 0 0
    ∷ 1 ∷ pack 1 1 1 ∷ pack 5 1 1 ∷ 4
    ∷ 2 ∷ pack nowhere 0 1 ∷ pack nowhere 0 1 ∷ 0
    ∷ 2 ∷ pack 7 1 1 ∷ pack 1 0 1 ∷ 5
    ∷ 2 ∷ pack 4 1 1 ∷ pack 1 0 1 ∷ 6
    ∷ 2 ∷ pack nowhere 1 1 ∷ pack 1 0 1 ∷ 7
    ∷ 2 ∷ pack 6 1 1 ∷ pack 1 0 1 ∷ 8
    ∷ 2 ∷ pack nowhere 1 1 ∷ pack 1 0 1 ∷ 9
    ∷ 0 ∷ pack nowhere 1 0 ∷ 0 ∷ 0
    ∷ []

-- the calls of caller 0, and those of caller 1, which made none
abbrev pub replacing_books : List Book
replacing_books =
    record {
      caller = 0;
      entries =
          own (AddVertex 1) Added 8 1 10
          ∷ own (AddVertex 2) Added 16 10 18
          ∷ own (AddEdge 1 2 5) Added 24 18 26
          ∷ own (AddEdge 1 2 6) (Changed 5) 33 26 35
          ∷ own (AddEdge 1 2 7) (Changed 6) 42 35 44
          ∷ own (RemoveEdge 1 2) (Removed 7) 46 44 51
          ∷ own (AddEdge 1 2 8) Added 57 51 59
          ∷ own (AddEdge 1 2 9) (Changed 8) 66 59 68
          ∷ own (RemoveVertex 1) (Removed 0) 69 68 74
          ∷ [];
    } ∷ record { caller = 1; entries = [] } ∷ []

-- their history
abbrev pub replacing_history : List Item
replacing_history =
    item 0 (own (AddVertex 1) Added 8 1 10)
    ∷ item 0 (own (AddVertex 2) Added 16 10 18)
    ∷ item 0 (own (AddEdge 1 2 5) Added 24 18 26)
    ∷ item 0 (own (AddEdge 1 2 6) (Changed 5) 33 26 35)
    ∷ item 0 (own (AddEdge 1 2 7) (Changed 6) 42 35 44)
    ∷ item 0 (own (RemoveEdge 1 2) (Removed 7) 46 44 51)
    ∷ item 0 (own (AddEdge 1 2 8) Added 57 51 59)
    ∷ item 0 (own (AddEdge 1 2 9) (Changed 8) 66 59 68)
    ∷ item 0 (own (RemoveVertex 1) (Removed 0) 69 68 74)
    ∷ []

-- the rows of these calls, all of caller 0
abbrev pub replacing_rows : List Row
replacing_rows =
    record { caller = 0; call = AddVertex 1 }
    ∷ record { caller = 0; call = AddVertex 2 }
    ∷ record { caller = 0; call = AddEdge 1 2 5 }
    ∷ record { caller = 0; call = AddEdge 1 2 6 }
    ∷ record { caller = 0; call = AddEdge 1 2 7 }
    ∷ record { caller = 0; call = RemoveEdge 1 2 }
    ∷ record { caller = 0; call = AddEdge 1 2 8 }
    ∷ record { caller = 0; call = AddEdge 1 2 9 }
    ∷ record { caller = 0; call = RemoveVertex 1 }
    ∷ []

-- their answers, row by row
abbrev pub replacing_replies : List Answer
replacing_replies =
    plain Added
    ∷ plain Added
    ∷ plain Added
    ∷ plain (Changed 5)
    ∷ plain (Changed 6)
    ∷ plain (Removed 7)
    ∷ plain Added
    ∷ plain (Changed 8)
    ∷ plain (Removed 0)
    ∷ []

-- the new edge is filled, and the counter wasn't raised for the old one: it may not be replaced
abbrev pub not_raised_for : List Event
not_raised_for = with_an_edge ++ takes_edge 3 6

-- the new edge has the weight of the old one: that may not be replaced
abbrev pub same_weight : List Event
same_weight = with_an_edge ++ (takes_edge 3 5 ++ raises_to 1 ∷ [])

-- the new edge is filled for another target, the vertex of node 0: the old one may not be replaced
abbrev pub other_target : List Event
other_target =
    with_an_edge ++ (announces 0
    ∷ takes 0 3 4
    ∷ fills 0 3 (key_at small 3) 2
    ∷ fills 0 3 (link_at small 3) (pack nowhere 0 1)
    ∷ fills 0 3 (second_at small 3) (pack 0 0 1)
    ∷ fills 0 3 (third_at small 3) 6
    ∷ raises_to 1
    ∷ [])

-- the old edge is replaced by one to that target
abbrev pub replaces_target : Event
replaces_target = record (replaces_by 2 3 6) { target = first_life 0 }

-- the edge is to be replaced, and its target, the vertex of node 1, was marked since
abbrev pub hidden_meanwhile : List Event
hidden_meanwhile =
    with_an_edge ++ (takes_edge 3 6 ++ (raises_to 1
    ∷ record blank { kind = MarkVertex; place = link_at small 1; word = pack nowhere 1 1; life = first_life 1 }
    ∷ []))

-- the old edge was marked since its link was seen: it may not be replaced
abbrev pub marked_meanwhile : List Event
marked_meanwhile = with_an_edge ++ (takes_edge 3 6 ++ (raises_to 1 ∷ marks_first ∷ []))
