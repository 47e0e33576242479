-- What events of the worked journals do to the graph, and when a call is overtaken.
use Rattle.std.proofs.Common.{◌≡◌, ℕ, ◌≤◌, None, List, take, drop, get_or, refl, ap, inr, arith, lit<, lit≤, ◌++◌, ◌∷◌}
use Rattle.std.proofs.Common.{[]}
use Rattle.graph_kinds.specs.Answer.{change}
use Rattle.graph_kinds.specs.declared.call.Call.TheVariants.{AddEdge, AddVertex, RemoveEdge, RemoveVertex}
use Rattle.packed_link.specs.declared.link.Life.{Life}
use Rattle.core_journal.specs.declared.event.Event.{Event}
use Rattle.core_journal.specs.Changes.{IsNewEdge, IsRemovedEdge, IsRemovedVertex, IsReplacedEdge}
use Rattle.core_journal.specs.Event.{blank}
use Rattle.core_journal.specs.Foreign.{foreign}
use Rattle.core_journal.specs.GraphOf.{IsRegularEvent, graph_of, present_pair}
use Rattle.core_journal.specs.Life.{key_of, link_of}
use Rattle.core_journal.specs.Overtaken.{IsFirstMark, IsLiving}
use Rattle.core_journal.specs.TwoCallers.{callers_journal}
use Rattle.core_journal.specs.Worked.{first_life, small}
use Rattle.core_journal.proofs.FirstMarks.{first_mark, own_case}
use Rattle.core_journal.proofs.ForeignAddsUp.{one_foreign, longer_same}
use Rattle.core_journal.proofs.GraphRows.{frozen_graph, hidden_graph, hidden_replaced_graph, idle_graph, new_edge_graph}
use Rattle.core_journal.proofs.GraphRows.{new_vertex_graph, no_edge_graph, removed_edge_graph, removed_vertex_graph}
use Rattle.core_journal.proofs.GraphRows.{replaced_edge_graph}
use Rattle.core_journal.proofs.Regular.{hidden_regular, removed_edge_regular, removed_vertex_regular}
use Rattle.core_lists.proofs.OneEdgeOfPair.{removed_pair}
use Rattle.core_lists.proofs.OneVertexOfKey.{one_present}
use Rattle.core_kept.proofs.EdgeEnds.{new_edge}
use Rattle.core_kept.proofs.Induction.{allowed_at}
use Rattle.core_worked.specs.Replacing.{hidden_meanwhile, replaces_by, replacing_journal}
use Rattle.core_worked.specs.TwoLives.{freezes_second, links_new, marks_a_vertex, marks_first}
use Rattle.core_worked.proofs.KnownSteps.{front_kept}
use Rattle.core_worked.proofs.LawSteps.{kept}
use Rattle.core_worked.proofs.TwoCallersKept.{callers_kept}
use Rattle.core_worked.proofs.TwoLives.{before, event}
use Rattle.core_worked.proofs.TwoLivesShown.{small_layout}
use Rattle.core_worked.proofs.WorkedKept.{edge_is_new, frozen_is_of_marked, replacing_is_new, vertex_is_new}
use Rattle.std.proofs.Common.{Bool, true, false, not, ◌&&◌, ◌==◌, cond, sym, ◌∙◌, true≢false, Some}
use Rattle.std.specs.Prelude.{slice_get}
use Rattle.std.specs.List.{list_all}
use Rattle.graph_kinds.specs.Answer.{alters, answer, is_change, plain}
use Rattle.graph_kinds.specs.Graph.{has}
use Rattle.graph_kinds.specs.declared.outcome.Outcome.TheVariants.{No, Yes}
use Rattle.core_journal.specs.Changes.{is_idle}
use Rattle.core_journal.specs.Right.{IsBookOf}
use Rattle.core_journal.specs.GraphOf.{changes}
use Rattle.core_journal.proofs.Onward.{book_more, book_push}
use Rattle.core_journal.proofs.GraphRows.{has-graph}
use Rattle.core_journal.proofs.Regular.{changes_not, hidden_replaced_regular, replaced_edge_regular}
use Rattle.core_lists.proofs.OneEdgeOfPair.{one_pair}
use Rattle.core_worked.specs.Counted.{asks_for_two}
use Rattle.core_worked.proofs.Replacing.{kept_33}
use Rattle.core_worked.proofs.SmallSteps.{none_such}

abbrev first : ℕ → List Event
first n = take n callers_journal

pub vertex_linked_then : graph_of (before 17) ≡ change (graph_of (before 16)) (AddVertex 2)
vertex_linked_then = new_vertex_graph (before 16) (event 16) vertex_is_new

removed_40 : IsRemovedVertex (before 40) marks_a_vertex 1
unfolding key_of
removed_40 = record {
  kind = refl;
  there = refl;
  only = λ x h. one_present small small_layout (before 40) (kept 40) x
      (first_life 0) 1 h refl;
}

pub vertex_marked_then : graph_of (before 41) ≡ change (graph_of (before 40)) (RemoveVertex 1)
vertex_marked_then = removed_vertex_graph (before 40) marks_a_vertex 1 removed_40

pub edge_linked_then : graph_of (before 25) ≡ change (graph_of (before 24)) (AddEdge 1 2 5)
unfolding key_of
edge_linked_then = new_edge_graph (before 24) (links_new 2 5) 1 2 edge_is_new refl refl

link_29 : IsNewEdge (first 29) (get_or callers_journal 29 blank)
link_29 = new_edge small small_layout (first 29) (get_or callers_journal 29 blank)
    (front_kept callers_journal callers_kept 29) refl (allowed_at small callers_journal 29
    (get_or callers_journal 29 blank) callers_kept refl).as_kind

pub none_linked_then : graph_of (first 30) ≡ graph_of (first 29)
unfolding key_of
none_linked_then = no_edge_graph (first 29) (get_or callers_journal 29 blank) link_29 refl

removed_28 : IsRemovedEdge (before 28) marks_first 1 2
unfolding key_of link_of
removed_28 = removed_pair small small_layout (before 28) (kept 28) marks_first 1 2 5 refl refl

pub edge_marked_then : graph_of (before 29) ≡ change (graph_of (before 28)) (RemoveEdge 1 2)
edge_marked_then = removed_edge_graph (before 28) marks_first 1 2 removed_28

hidden_43 : present_pair (before 43) (first_life 3) ≡ None
unfolding key_of link_of
hidden_43 = refl

pub none_marked_then : graph_of (before 44) ≡ graph_of (before 43)
none_marked_then = hidden_graph (before 43) freezes_second refl hidden_43

replaced_33 : IsReplacedEdge (take 33 replacing_journal) (replaces_by 2 3 6) 1 2
unfolding key_of link_of
replaced_33 = record { replaces = replacing_is_new; weight = 5; there = refl; source = refl; target = refl }

pub edge_replaced_then : graph_of (take 34 replacing_journal) ≡ change (graph_of (take 33 replacing_journal))
    (AddEdge 1 2 6)
edge_replaced_then = replaced_edge_graph (take 33 replacing_journal) (replaces_by 2 3 6) 1 2 replaced_33

pub none_replaced_then : graph_of (hidden_meanwhile ++ replaces_by 2 3 6 ∷ []) ≡ graph_of hidden_meanwhile
unfolding key_of link_of
none_replaced_then = hidden_replaced_graph hidden_meanwhile (replaces_by 2 3 6)
    (record {
      kind = refl;
      new = refl;
      unmarked = refl;
      apart = λ same. let h : 3 ≡ 2 = ap
          (λ (l : Life). l.index) same in omega (arith, h);
    }) refl refl

pub none_frozen_then : graph_of (before 43 ++ freezes_second ∷ []) ≡ graph_of (before 43)
none_frozen_then = frozen_graph (before 43) freezes_second frozen_is_of_marked

pub unlinked_then : graph_of (before 42) ≡ graph_of (before 41)
unlinked_then = idle_graph (before 41) (event 41) refl

pub mark_is_regular : IsRegularEvent (before 40) marks_a_vertex
mark_is_regular = removed_vertex_regular (before 40) marks_a_vertex 1 removed_40

pub removal_is_regular : IsRegularEvent (before 28) marks_first
removal_is_regular = removed_edge_regular (before 28) marks_first 1 2 removed_28

pub replacing_is_regular : IsRegularEvent (take 33 replacing_journal) (replaces_by 2 3 6)
unfolding key_of link_of
replacing_is_regular = replaced_edge_regular (take 33 replacing_journal) (replaces_by 2 3 6) 1 2
    (record { replaces = replacing_is_new; weight = 5; there = refl; source = refl; target = refl })
    (λ x w h. one_pair small small_layout (take 33 replacing_journal) kept_33 x (first_life 2) 1 2 w 5 h refl)
    (λ h. omega (arith, h))

pub hidden_is_regular : IsRegularEvent hidden_meanwhile (replaces_by 2 3 6)
unfolding key_of link_of
hidden_is_regular = hidden_replaced_regular hidden_meanwhile (replaces_by 2 3 6)
    (record {
      kind = refl;
      new = refl;
      unmarked = refl;
      apart = λ same. let h : 3 ≡ 2 = ap
          (λ (l : Life). l.index) same in omega (arith, h);
    }) refl refl

pub freezing_is_regular : IsRegularEvent (before 43) freezes_second
freezing_is_regular = hidden_regular (before 43) freezes_second refl hidden_43

-- a call that is overtaken

pub first_of_both : IsFirstMark callers_journal (first_life 0) (first_life 1) 22
first_of_both = record {
  mark = get_or callers_journal 22 blank;
  at = refl;
  kind = refl;
  life = inr refl;
  first_of_u =
      refl;
  first_of_v = refl;
}

living_0 : IsLiving (first 18) (first_life 0)
living_0 = record { linked = refl; unmarked = refl }

living_1 : IsLiving (first 18) (first_life 1)
living_1 = record { linked = refl; unmarked = refl }

pub mark_exists : (m : ℕ) × IsFirstMark callers_journal (first_life 0) (first_life 1) m
mark_exists = first_mark callers_journal (first_life 0) (first_life 1) (inr refl)

pub both_living : IsLiving (first 20) (first_life 0) × IsLiving (first 20) (first_life 1)
both_living = own_case callers_journal (first_life 0) (first_life 1) 18 18 20 22 living_0 living_1 (lit≤ tt)
    (lit≤ tt) first_of_both (lit≤ tt)

pub same_in_front : foreign callers_journal 0 20 25 ≡ foreign (first 25) 0 20 25
same_in_front = longer_same (first 25) callers_journal (record { rest = drop 25 callers_journal; whole = refl }) 0 20 25
    (lit≤ tt)

pub one_there : 1 ≤ foreign callers_journal 0 20 25
one_there = one_foreign callers_journal 0 20 25 22 (get_or callers_journal 22 blank) (lit≤ tt) (lit< tt) refl refl
    (λ h. omega (arith, h))

-- the book of caller 1, which changes nothing in the journal with two lives

-- each event of caller 1 neither links nor marks
idle_of_one : (n : ℕ) → list_all (λ (d : Event). not ((d.caller == 1) && not (is_idle d.kind))) (before n) ≡ true →
    (p : ℕ) (e : Event) → slice_get (before n) p ≡ Some e → e.caller ≡ 1 → changes (take p (before n)) e ≡ false
idle_of_one n h p e at mine = changes_not (take p (before n)) e
    (idle_graph (take p (before n)) e (by (is_idle e.kind) refl))
  where
    by : (b : Bool) → is_idle e.kind ≡ b → is_idle e.kind ≡ true
    by true is = is
    by false is = absurd (none_such (λ (d : Event). (d.caller == 1) && not (is_idle d.kind)) (before n) h p e at
        (ap (λ (k : ℕ). (k == 1) && not (is_idle e.kind)) mine ∙ ap (λ (b : Bool). not b) is))

pub front_book : IsBookOf small (before 45) (record { caller = 1; entries = [] })
front_book = record {
  right = tt;
  framed = record { order = tt };
  covers = λ p e at mine does. absurd
      (true≢false (sym does ∙ idle_of_one 45 refl p e at mine));
}

pub book_stays : IsBookOf small (before 47) (record { caller = 1; entries = [] })
book_stays = book_more small (before 45) (drop 45 (before 47)) (record { caller = 1; entries = [] }) front_book
    (λ p e since at mine. idle_of_one 47 refl p e at mine)

has_two : has (graph_of (before 45)) 2 ≡ true
unfolding key_of
has_two = has-graph (before 45) 2

pub book_extends : IsBookOf small (before 47) (record { caller = 1; entries = asks_for_two ∷ [] })
unfolding answer alters
book_extends = book_push small (before 45) (drop 45 (before 47))
    (record { caller = 1; entries = [] }) asks_for_two front_book
    (record { apart = lit≤ tt; since = lit≤ tt; until = lit≤ tt; within = lit≤ tt; before = λ h. absurd (cc) })
    (record {
      reply = sym (ap (λ (b : Bool). plain (cond b Yes No)) has_two);
      stays = ap
          (λ (b : Bool). is_change (cond b Yes No)) has_two;
    })
    (λ p e since at mine does. absurd (true≢false (sym does ∙ idle_of_one 47 refl p e at mine)))
