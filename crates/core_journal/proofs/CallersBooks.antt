-- The journal of two callers is regular, its books are true of it, and its graph has one key.
use Rattle.std.proofs.Common.{◌≡◌, ℕ, Bool, true, false, cond, ◌&&◌, List, [], ◌∷◌, ◌++◌, map, Option, Some, None, refl}
use Rattle.std.proofs.Common.{ap, ◌∙◌, subst, arith, inr}
use Rattle.std.specs.Prelude.{option_map, take, drop}
use Rattle.graph_kinds.specs.Graph.{has}
use Rattle.graph_kinds.specs.History.{Every, IsLegal}
use Rattle.graph_kinds.specs.declared.call.Call.TheVariants.{AddVertex, RemoveVertex}
use Rattle.graph_kinds.specs.declared.outcome.Outcome.TheVariants.{Added, Removed}
use Rattle.packed_link.specs.Link.{pack, nowhere}
use Rattle.packed_link.specs.Layout.{bucket_at, link_at, second_at}
use Rattle.packed_link.specs.declared.link.Life.{Life}
use Rattle.core_journal.specs.declared.event.Kind.TheVariants.{LinkVertex, LinkEdge, MarkVertex}
use Rattle.core_journal.specs.declared.event.Event.{Event}
use Rattle.core_journal.specs.Event.{same_life, blank}
use Rattle.core_journal.specs.Life.{key_of, link_of}
use Rattle.core_journal.specs.GraphOf.{graph_of, pair_between, changes, IsRegular}
use Rattle.core_journal.specs.History.{Turn, turn, history, history_of, turns, IsClosed}
use Rattle.core_journal.specs.Right.{IsBookOf, CallersApart, RightLate, IsAnswer}
use Rattle.core_journal.specs.Changes.{IsNewVertex, IsRemovedVertex, IsNewEdge}
use Rattle.core_journal.specs.Worked.{small, first_life, own, one_key}
use Rattle.core_journal.specs.TwoCallers.{callers_journal, late_entry, look_up, callers_books, callers_history}
use Rattle.core_journal.proofs.Calls.{adds_vertex, removes_there}
use Rattle.core_journal.proofs.Snoc.{same_is}
use Rattle.core_journal.proofs.GraphRows.{has-graph, new_vertex_graph, removed_vertex_graph, no_edge_graph}
use Rattle.core_journal.proofs.Regular.{changes_not, new_vertex_regular, removed_vertex_regular, no_edge_regular}
use Rattle.core_journal.proofs.Computed.{idle_stretch, still, still_turn, idle_turns, answers_added, answers_gone}
use Rattle.core_journal.proofs.Computed.{answers_no_vertex, looks_only, own_right, covers_by, closed_by}
use Rattle.core_journal.proofs.Laws.{history_legal}

-- the four events that link or mark, at 8, 16, 22 and 29

abbrev link_one : Event
link_one = record blank {
  kind = LinkVertex;
  place = bucket_at small 0;
  word = pack 0 0 0;
  life = first_life 0;
  key = 1;
}

abbrev link_two : Event
link_two = record blank { kind = LinkVertex; place = link_at small 0; word = pack 1 0 1; life = first_life 1; key = 2 }

abbrev mark_two : Event
mark_two = record blank {
  caller = 1;
  kind = MarkVertex;
  place = link_at small 1;
  word = pack nowhere 1 1;
  life =
      first_life 1;
}

abbrev link_edge : Event
link_edge = record blank {
  kind = LinkEdge;
  place = second_at small 0;
  word = pack 2 0 1;
  life = first_life 2;
  key = 2;
  source = first_life 0;
  target = first_life 1;
  weight = 5;
}

-- what stands before, between and behind them
abbrev before : ℕ → List Event
before n = take n callers_journal

abbrev between : ℕ → ℕ → List Event
between m n = drop m (take n callers_journal)

-- computed: the graph
pub callers_graph : graph_of callers_journal ≡ one_key
unfolding graph_of key_of link_of
callers_graph = refl

no_one : has (graph_of (before 8)) 1 ≡ false
unfolding key_of
no_one = has-graph (before 8) 1

no_two : has (graph_of (before 16)) 2 ≡ false
unfolding key_of
no_two = has-graph (before 16) 2

two_there : has (graph_of (before 22)) 2 ≡ true
unfolding key_of
two_there = has-graph (before 22) 2

two_gone : has (graph_of (before 32)) 2 ≡ false
unfolding key_of
two_gone = has-graph (before 32) 2

new_one : IsNewVertex (before 8) link_one
unfolding key_of link_of
new_one = record { kind = refl; new = refl; unmarked = refl; unnamed = λ x link is. absurd (cc) }

new_two : IsNewVertex (before 16) link_two
unfolding key_of link_of
new_two = record { kind = refl; new = refl; unmarked = refl; unnamed = λ x link is. absurd (cc) }

second_only : (x : Life) (s t : Bool) → same_life x (first_life 0) ≡ s → same_life x (first_life 1) ≡ t
    → option_map (λ (e : Event). e.key) (cond s (Some link_one) (cond t (Some link_two) None)) ≡ Some 2
    → x ≡ first_life 1
second_only x true t f g e = let one : ◌≡◌ {A = ℕ} 1 2 = cc in absurd (omega (arith, one))
second_only x false true f g e = same_is x (first_life 1) g
second_only x false false f g e = absurd (cc)

removed_two : IsRemovedVertex (before 22) mark_two 2
unfolding key_of
removed_two = record {
  kind = refl;
  there = refl;
  only = λ x is. second_only x (same_life x (first_life 0))
      (same_life x (first_life 1)) refl refl is;
}

new_edge : IsNewEdge (before 29) link_edge
unfolding link_of
new_edge = record { kind = refl; new = refl; unmarked = refl }

no_target : pair_between (before 29) link_edge ≡ None
unfolding key_of
no_target = refl

-- each event is regular
pub callers_regular : IsRegular callers_journal
callers_regular = record {
  steps = idle_stretch [] (before 8) (drop 8 callers_journal) refl (
    new_vertex_regular (before 8) link_one new_one no_one,
    idle_stretch (before 9) (between 9 16) (drop 16 callers_journal) refl (
      new_vertex_regular (before 16) link_two new_two no_two,
      idle_stretch (before 17) (between 17 22) (drop 22 callers_journal) refl (
        removed_vertex_regular (before 22) mark_two 2 removed_two,
        idle_stretch (before 23) (between 23 29) (drop 29 callers_journal) refl (
          no_edge_regular (before 29) link_edge new_edge no_target,
          idle_stretch (before 30) (drop 30 callers_journal) [] refl tt,
        ),
      ),
    ),
  );
}

-- the books are of two callers
pub callers_apart : CallersApart callers_books
callers_apart = (((λ h. omega (arith, h)), tt), (tt, tt))

-- the link of the edge changes nothing
dull_link : (e : Event) → ◌≡◌ {A = Option Event} (Some link_edge) (Some e) → changes (before 29) e ≡ false
dull_link e at = let same : link_edge ≡ e = cc in subst (λ (d : Event). changes (before 29) d ≡ false) same
    (changes_not (before 29) link_edge (no_edge_graph (before 29) link_edge new_edge no_target))

-- the late entry is right
pub late_right : RightLate callers_journal 0 late_entry
unfolding key_of
late_right = record {
  reply = refl;
  pair = tt;
  mark = mark_two;
  at = refl;
  other = λ h. omega (arith, h);
  marks = refl;
  key = 2;
  key_is = refl;
  touched = inr refl;
  number = 29;
  since = omega arith;
  until = omega arith;
  made = link_edge;
  made_at = refl;
  made_by = refl;
  made_call = refl;
}

and_no : (b c : Bool) → c ≡ false → (b && c) ≡ false
and_no true c h = h
and_no false c h = refl

look_right : IsAnswer (graph_of (before 32)) look_up
look_right =
    let none = and_no (has (graph_of (before 32)) 1) (has (graph_of (before 32)) 2) two_gone in
    record {
      reply = answers_no_vertex (graph_of (before 32)) 1 2 none;
      stays = looks_only
          (graph_of (before 32)) 1 2 none;
    }

-- the books are true
pub callers_true : Every (IsBookOf small callers_journal) callers_books
callers_true = (
  record {
    right = (
      own_right callers_journal 0 (own (AddVertex 1) Added 8 1 10) link_one refl refl
          (adds_vertex (graph_of (before 8)) 1 no_one) (new_vertex_graph (before 8) link_one new_one)
          (answers_added (graph_of (before 8)) 1 no_one),
      (
        own_right callers_journal 0 (own (AddVertex 2) Added 16 10 18) link_two refl refl
            (adds_vertex (graph_of (before 16)) 2 no_two) (new_vertex_graph (before 16) link_two new_two)
            (answers_added (graph_of (before 16)) 2 no_two),
        (late_right, tt),
      ),
    );
    framed = record {
      order = (
        record {
          apart = omega arith;
          since = omega arith;
          until = omega arith;
          within = omega arith;
          before = λ h.
              omega arith;
        },
        (
          record {
            apart = omega arith;
            since = omega arith;
            until = omega arith;
            within = omega arith;
            before = λ h.
                omega arith;
          },
          (
            record {
              apart = omega arith;
              since = omega arith;
              until = omega arith;
              within = omega arith;
              before = λ h.
                  omega arith;
            },
            tt,
          ),
        ),
      );
    };
    covers = covers_by callers_journal 0 29 (own (AddVertex 1) Added 8 1 10 ∷ own
        (AddVertex 2) Added 16 10 18 ∷ late_entry ∷ []) refl dull_link;
  },
  (
    record {
      right = (
        own_right callers_journal 1 (own (RemoveVertex 2) (Removed 0) 22 2 29) mark_two refl refl
            (removes_there (graph_of (before 22)) 2 two_there) (removed_vertex_graph (before 22) mark_two 2 removed_two)
            (answers_gone (graph_of (before 22)) 2 two_there),
        (look_right, tt),
      );
      framed = record {
        order = (
          record {
            apart = omega arith;
            since = omega arith;
            until = omega arith;
            within = omega arith;
            before = λ h.
                omega arith;
          },
          (
            record {
              apart = omega arith;
              since = omega arith;
              until = omega arith;
              within = omega arith;
              before = λ h.
                  absurd (cc);
            },
            tt,
          ),
        );
      };
      covers = covers_by callers_journal 1 29 (own (RemoveVertex 2) (Removed 0) 22 2 29 ∷ look_up ∷ []) refl dull_link;
    },
    tt,
  ),
)

-- its turns: all but four events change nothing
abbrev callers_turns : List Turn
callers_turns =
    map still (before 8)
    ++ turn (before 8) link_one ∷ (map still (between 9 16)
    ++ turn (before 16) link_two ∷ (map still (between 17 22)
    ++ turn (before 22) mark_two ∷ (map still (between 23 29)
    ++ still link_edge ∷ map still (drop 30 callers_journal))))

turns_callers : turns callers_journal ≡ callers_turns
unfolding turns
turns_callers =
    idle_turns [] (before 8) (drop 8 callers_journal) refl
    ∙ ap (λ (l : List Turn). map still (before 8) ++ turn (before 8) link_one ∷ l)
    (idle_turns (before 9) (between 9 16) (drop 16 callers_journal) refl
    ∙ ap (λ (l : List Turn). map still (between 9 16) ++ turn (before 16) link_two ∷ l)
    (idle_turns (before 17) (between 17 22) (drop 22 callers_journal) refl
    ∙ ap (λ (l : List Turn). map still (between 17 22) ++ turn (before 22) mark_two ∷ l)
    (idle_turns (before 23) (between 23 29) (drop 29 callers_journal) refl
    ∙ (λ i. map still (between 23 29) ++ still_turn (before 29) link_edge
    (no_edge_graph (before 29) link_edge new_edge no_target) i ∷ idle_turns (before 30)
    (drop 30 callers_journal) [] refl i))))

-- computed: the history
pub callers_items : history callers_journal callers_books ≡ callers_history
unfolding history_of
callers_items = ap (λ ts. history_of ts callers_books) turns_callers

-- so it is legal
pub callers_legal : IsLegal callers_history one_key
callers_legal = subst (λ h. IsLegal h one_key) callers_items (subst
    (IsLegal (history callers_journal callers_books)) callers_graph
    (history_legal small callers_journal callers_books callers_regular callers_apart callers_true))

-- no other caller changes the graph
pub callers_closed : IsClosed callers_journal callers_books
callers_closed = closed_by callers_journal _ _ refl refl refl
