-- The worked journal is regular, its books are true of it, and its graph has one key.
use Rattle.std.proofs.Common.{◌≡◌, ℕ, Bool, true, false, cond, List, [], ◌∷◌, Some, None, refl, subst, arith, inr}
use Rattle.std.specs.Prelude.{option_map}
use Rattle.graph_kinds.specs.Graph.{has, weight_of}
use Rattle.graph_kinds.specs.History.{Every, IsLegal}
use Rattle.graph_kinds.specs.declared.call.Call.TheVariants.{AddVertex, RemoveVertex, AddEdge}
use Rattle.graph_kinds.specs.declared.outcome.Outcome.TheVariants.{Added, Removed, Overtaken}
use Rattle.packed_link.specs.declared.link.Life.{Life}
use Rattle.core_journal.specs.declared.event.Kind.TheVariants.{LinkVertex, LinkEdge, MarkVertex}
use Rattle.core_journal.specs.declared.event.Event.{Event}
use Rattle.core_journal.specs.Event.{same_life, blank}
use Rattle.core_journal.specs.Life.{key_of, link_of}
use Rattle.core_journal.specs.GraphOf.{graph_of, present_key, IsRegular}
use Rattle.core_journal.specs.History.{history, history_of, turns, IsClosed}
use Rattle.core_journal.specs.Right.{IsBookOf, CallersApart, IsMarkedAfter}
use Rattle.core_journal.specs.Changes.{IsNewVertex, IsRemovedVertex, IsNewEdge}
use Rattle.core_journal.specs.Worked.{small, first_life, own, worked_journal, first_book, second_book, worked_books}
use Rattle.core_journal.specs.Worked.{worked_history, one_key}
use Rattle.core_journal.proofs.Calls.{adds_vertex, removes_there, adds_edge}
use Rattle.core_journal.proofs.Snoc.{same_is}
use Rattle.core_journal.proofs.GraphRows.{has-graph, weight-graph, new_vertex_graph, removed_vertex_graph}
use Rattle.core_journal.proofs.GraphRows.{new_edge_graph}
use Rattle.core_journal.proofs.Regular.{new_vertex_regular, removed_vertex_regular, new_edge_regular}
use Rattle.core_journal.proofs.Computed.{answers_added, answers_gone, own_right, covers_by, closed_by}
use Rattle.core_journal.proofs.Laws.{history_legal}

abbrev e0 : Event
e0 = record blank { kind = LinkVertex; life = first_life 0; key = 1 }

abbrev e1 : Event
e1 = record blank { kind = LinkVertex; life = first_life 1; key = 2 }

abbrev e2 : Event
e2 = record blank {
  kind = LinkEdge;
  life = first_life 2;
  key = 2;
  source = first_life 0;
  target = first_life 1;
  weight
      = 5;
}

abbrev e3 : Event
e3 = record blank { caller = 1; kind = MarkVertex; life = first_life 1 }

abbrev past2 : List Event
past2 = e0 ∷ e1 ∷ []

abbrev past3 : List Event
past3 = e0 ∷ e1 ∷ e2 ∷ []

-- computed: the graph
pub worked_graph : graph_of worked_journal ≡ one_key
unfolding graph_of key_of link_of
worked_graph = refl

no_one : has (graph_of []) 1 ≡ false
unfolding key_of
no_one = has-graph [] 1

no_two : has (graph_of (e0 ∷ [])) 2 ≡ false
unfolding key_of
no_two = has-graph (e0 ∷ []) 2

one_two : has (graph_of past2) 1 ≡ true
unfolding key_of
one_two = has-graph past2 1

two_two : has (graph_of past2) 2 ≡ true
unfolding key_of
two_two = has-graph past2 2

no_pair : weight_of (graph_of past2) 1 2 ≡ None
unfolding key_of link_of
no_pair = weight-graph past2 1 2

two_three : has (graph_of past3) 2 ≡ true
unfolding key_of
two_three = has-graph past3 2

new0 : IsNewVertex [] e0
unfolding key_of link_of
new0 = record { kind = refl; new = refl; unmarked = refl; unnamed = λ x link is. absurd (cc) }

new1 : IsNewVertex (e0 ∷ []) e1
unfolding key_of link_of
new1 = record { kind = refl; new = refl; unmarked = refl; unnamed = λ x link is. absurd (cc) }

new2 : IsNewEdge past2 e2
unfolding link_of
new2 = record { kind = refl; new = refl; unmarked = refl }

source2 : present_key past2 (first_life 0) ≡ Some 1
unfolding key_of
source2 = refl

target2 : present_key past2 (first_life 1) ≡ Some 2
unfolding key_of
target2 = refl

-- of two vertex lives only the second has the second's key
second_only : (x : Life) (s t : Bool) → same_life x (first_life 0) ≡ s → same_life x (first_life 1) ≡ t
    → option_map (λ (e : Event). e.key) (cond s (Some e0) (cond t (Some e1) None)) ≡ Some 2 → x ≡ first_life 1
second_only x true t f g e = let one : ◌≡◌ {A = ℕ} 1 2 = cc in absurd (omega (arith, one))
second_only x false true f g e = same_is x (first_life 1) g
second_only x false false f g e = absurd (cc)

removed3 : IsRemovedVertex past3 e3 2
unfolding key_of
removed3 = record {
  kind = refl;
  there = refl;
  only = λ x is. second_only x (same_life x (first_life 0))
      (same_life x (first_life 1)) refl refl is;
}

-- each event is regular
pub worked_regular : IsRegular worked_journal
worked_regular = record {
  steps = (
    new_vertex_regular [] e0 new0 no_one,
    (
      new_vertex_regular (e0 ∷ []) e1 new1 no_two,
      (new_edge_regular past2 e2 1 2 new2 source2 target2 no_pair, (removed_vertex_regular past3 e3 2 removed3, tt)),
    ),
  );
}

-- the books are of two callers
pub worked_apart : CallersApart worked_books
worked_apart = (((λ h. omega (arith, h)), tt), (tt, tt))

marked_after : IsMarkedAfter worked_journal 0 (own (AddEdge 1 2 5) Overtaken 2 2 4) e2
marked_after = record {
  reply = refl;
  pair = tt;
  link = e2;
  edge = refl;
  number = 3;
  since = omega arith;
  until = omega arith;
  mark = e3;
  at = refl;
  other = λ h. omega (arith, h);
  marks = refl;
  life = inr refl;
}

first_true : IsBookOf small worked_journal first_book
first_true = record {
  right = (
    own_right worked_journal 0 (own (AddVertex 1) Added 0 0 1) e0 refl refl (adds_vertex (graph_of []) 1 no_one)
        (new_vertex_graph [] e0 new0) (answers_added (graph_of []) 1 no_one),
    (
      own_right worked_journal 0 (own (AddVertex 2) Added 1 1 2) e1 refl refl
          (adds_vertex (graph_of (e0 ∷ [])) 2 no_two) (new_vertex_graph (e0 ∷ []) e1 new1)
          (answers_added (graph_of (e0 ∷ [])) 2 no_two),
      (
        own_right worked_journal 0 (own (AddEdge 1 2 5) Overtaken 2 2 4) e2 refl refl
            (adds_edge (graph_of past2) 1 2 5 one_two two_two no_pair)
            (new_edge_graph past2 e2 1 2 new2 source2 target2) marked_after,
        tt,
      ),
    ),
  );
  framed = record {
    order = (
      record {
        apart = omega arith;
        since = omega arith;
        until = omega arith;
        within = omega arith;
        before = λ h. omega
            arith;
      },
      (
        record {
          apart = omega arith;
          since = omega arith;
          until = omega arith;
          within = omega arith;
          before = λ h.
              omega arith;
        },
        (
          record {
            apart = omega arith;
            since = omega arith;
            until = omega arith;
            within = omega arith;
            before = λ h.
                omega arith;
          },
          tt,
        ),
      ),
    );
  };
  covers = covers_by worked_journal 0 4 first_book.entries refl (λ e at. absurd (cc));
}

second_true : IsBookOf small worked_journal second_book
second_true = record {
  right = (
    own_right worked_journal 1 (own (RemoveVertex 2) (Removed 0) 3 0 4) e3 refl refl
        (removes_there (graph_of past3) 2 two_three) (removed_vertex_graph past3 e3 2 removed3)
        (answers_gone (graph_of past3) 2 two_three),
    tt,
  );
  framed = record {
    order = (
      record {
        apart = omega arith;
        since = omega arith;
        until = omega arith;
        within = omega
            arith;
        before = λ h. omega arith;
      },
      tt,
    );
  };
  covers = covers_by worked_journal 1 4 second_book.entries refl (λ e at. absurd (cc));
}

-- the books are true
pub worked_true : Every (IsBookOf small worked_journal) worked_books
worked_true = (first_true, (second_true, tt))

-- computed: the history
pub worked_items : history worked_journal worked_books ≡ worked_history
unfolding history_of turns
worked_items = refl

-- so it is legal
pub worked_legal : IsLegal worked_history one_key
worked_legal = subst (λ h. IsLegal h one_key) worked_items (subst
    (IsLegal (history worked_journal worked_books)) worked_graph
    (history_legal small worked_journal worked_books worked_regular worked_apart worked_true))

-- no other caller changes the graph
pub worked_closed : IsClosed worked_journal worked_books
worked_closed = closed_by worked_journal first_book second_book refl refl refl
