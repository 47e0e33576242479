-- The laws of moments on the worked journals: their premises are met, computed.
use Rattle.std.proofs.Common.{◌≡◌, ◌⊎◌, ℕ, zero, suc, ◌+◌, ◌≤◌, Bool, true, false, true≢false, cond, eq-eqb, List, []}
use Rattle.std.proofs.Common.{Some, None, take, drop, length, refl, sym, ap, ◌∙◌, arith, inl, inr, lit<, lit≤}
use Rattle.std.specs.Prelude.{get_or, slice_get}
use Rattle.graph_kinds.specs.Graph.{Graph, IsGraph, has, weight_of}
use Rattle.packed_link.specs.Layout.{key_at}
use Rattle.packed_link.specs.declared.link.Life.{Life}
use Rattle.core_journal.specs.declared.event.Event.{Event}
use Rattle.core_journal.specs.Event.{blank, counted, cuts_edge, marks_vertex, same_life, unlinks}
use Rattle.core_journal.specs.Foreign.{foreign}
use Rattle.core_journal.specs.GraphOf.{graph_of, changes}
use Rattle.core_journal.specs.Life.{edge_marked, key_of, link_of}
use Rattle.core_journal.specs.Machine.{machine, word_at}
use Rattle.core_journal.specs.Marks.{IsCutOf, IsMarkOf}
use Rattle.core_journal.specs.Passing.{IsFirst, changes_made, is_own_change}
use Rattle.core_journal.specs.State.{state}
use Rattle.core_journal.specs.TwoCallers.{callers_journal}
use Rattle.core_journal.specs.Worked.{small, first_life, worked_journal}
use Rattle.core_journal.proofs.EachIsCounted.{passing-nil, passing_one, passing_other, own_change, other_change}
use Rattle.core_journal.proofs.EachIsCounted.{own_none, own_only}
use Rattle.core_journal.proofs.FirstMarkOfLife.{first_mark_of, first_cut_of}
use Rattle.core_journal.proofs.FirstToPass.{first_passing}
use Rattle.core_journal.proofs.ForeignAddsUp.{adds_up, foreign_found}
use Rattle.core_journal.specs.Foreign.{IsForeign}
use Rattle.core_journal.proofs.GraphRows.{has-graph}
use Rattle.core_journal.proofs.Regular.{changes_yes}
use Rattle.core_journal.proofs.Snoc.{same_is}
use Rattle.core_kept.specs.Kept.{IsKept}
use Rattle.core_kept.proofs.MadeBetween.{one_between}
use Rattle.core_lists.specs.Changed.{HasNoneAt, IsChangedByAnother}
use Rattle.core_lists.specs.MarkEffects.{IsKeyGone, IsPairCut}
use Rattle.core_lists.specs.Uncounted.{StaysButUnlinked, StaysUncounted}
use Rattle.core_lists.proofs.ChangedByAnother.{node_changed}
use Rattle.core_lists.proofs.GraphOfLives.{graph_is}
use Rattle.core_lists.proofs.MarksTakeAway.{mark_gone, pair_cut}
use Rattle.core_lists.proofs.OwnUnlinksOnly.{stays_but_unlinked}
use Rattle.core_lists.proofs.GraphOfLives.{weight_between, no_edge_no_pair}
use Rattle.core_lists.proofs.UncountedEvents.{stays_uncounted}
use Rattle.core_worked.specs.Replacing.{replacing_journal, replaces_by}
use Rattle.core_worked.specs.TwoLives.{links_new, marks_first, two_lives}
use Rattle.core_worked.proofs.KnownSteps.{front_kept}
use Rattle.core_worked.proofs.Replacing.{replacing_kept}
use Rattle.core_worked.proofs.SmallSteps.{none_such, quiet_from}
use Rattle.core_worked.proofs.TwoCallersKept.{callers_kept}
use Rattle.core_worked.proofs.TwoLives.{before, two_lives_kept}
use Rattle.core_worked.proofs.TwoLivesShown.{small_layout}

abbrev first : ℕ → List Event
first n = take n callers_journal

kept_before : (n : ℕ) → IsKept small (before n)
kept_before n = front_kept two_lives two_lives_kept n

pub worked_is_graph : IsGraph (graph_of two_lives)
worked_is_graph = graph_is small small_layout two_lives two_lives_kept

-- the first edge stands between keys 1 and 2
pub pair_of_edge : weight_of (graph_of (before 26)) 1 2 ≡ Some 5
unfolding key_of link_of
pair_of_edge = weight_between small small_layout (before 26) (kept_before 26) (first_life 2)
    (links_new 2 5) 1 2 refl refl refl refl

-- then it's removed, and no edge is unmarked
only_link : (x : Life) → link_of (before 31) x ≡ cond (same_life x (first_life 2)) (Some (links_new 2 5)) None
unfolding link_of
only_link x = refl

all_marked : (x : Life) (link : Event) → link_of (before 31) x ≡ Some link → edge_marked (before 31) x ≡ true
all_marked x link is = by (same_life x (first_life 2)) refl (sym (only_link x) ∙ is)
  where
    by : (b : Bool) → same_life x (first_life 2) ≡ b → cond b (Some (links_new 2 5)) None ≡ Some link → edge_marked
        (before 31) x ≡ true
    by true same h = ap (edge_marked (before 31)) (same_is x (first_life 2) same)
    by false same h = absurd (cc)

pub no_pair_left : weight_of (graph_of (before 31)) 1 2 ≡ None
unfolding key_of
no_pair_left = no_edge_no_pair small small_layout (before 31) (kept_before 31) (first_life 0) 1 2 refl
    (λ x link is from key. all_marked x link is)

-- caller 1 marks vertex 2 while a call of caller 0 runs
abbrev mark_of_two : IsMarkOf callers_journal (first_life 1) 22
mark_of_two = record { event = get_or callers_journal 22 blank; at = refl; marks = refl; life = refl; unmarked = refl }

pub mark_found : (m : ℕ) × (length (first 20) ≤ m) × IsMarkOf callers_journal (first_life 1) m
mark_found = first_mark_of (first 20) callers_journal (record { rest = drop 20 callers_journal; whole = refl })
    (first_life 1) refl refl

pub two_gone : IsKeyGone callers_journal 22 2
unfolding key_of
two_gone = mark_gone small small_layout callers_journal callers_kept (first_life 1) 22 2 mark_of_two refl

pub first_mark : (m : ℕ) × (m ≤ 22) × IsFirst (λ past e. marks_vertex e.kind) callers_journal 20 m
first_mark = first_passing (λ past e. marks_vertex e.kind) callers_journal 20 22 (get_or callers_journal 22 blank)
    (lit≤ tt) refl refl

-- the first edge is marked in the graph that has its pair
abbrev cut_of_edge : IsCutOf two_lives (first_life 2) 28
cut_of_edge = record { event = marks_first; at = refl; cuts = refl; life = refl; uncut = refl }

pub cut_found : (m : ℕ) × (length (before 26) ≤ m) × IsCutOf two_lives (first_life 2) m
cut_found = first_cut_of (before 26) two_lives (record { rest = drop 26 two_lives; whole = refl })
    (first_life 2) refl refl

pub edge_gone : IsPairCut two_lives (links_new 2 5) marks_first 28 1 2
unfolding key_of link_of
edge_gone = pair_cut small small_layout two_lives two_lives_kept (first_life 2) 28
    (links_new 2 5) 1 2 cut_of_edge refl refl refl

-- it's replaced in the other journal, and its pair has the new weight
abbrev cut_by_replacing : IsCutOf replacing_journal (first_life 2) 33
cut_by_replacing = record { event = replaces_by 2 3 6; at = refl; cuts = refl; life = refl; uncut = refl }

pub edge_replaced : IsPairCut replacing_journal (links_new 2 5) (replaces_by 2 3 6) 33 1 2
unfolding key_of link_of
edge_replaced = pair_cut small small_layout replacing_journal replacing_kept (first_life 2) 33
    (links_new 2 5) 1 2 cut_by_replacing refl refl refl

-- three foreign events of caller 1, one and then two
pub foreign_three : foreign callers_journal 0 20 28 ≡ 3
foreign_three = adds_up callers_journal 0 20 24 28 (lit≤ tt) (lit≤ tt)

pub foreign_some : IsForeign callers_journal 0 20 24
foreign_some = foreign_found callers_journal 0 20 24 (lit≤ tt)

-- the link of vertex 2 isn't what it was
none_at_link : HasNoneAt (first 22) (first 23) 0 (key_at small 1 + 1)
none_at_link = record { none = λ p e since at mine. absurd ((quiet_from 0 22 (first 23) refl).none p e since at mine) }

pub link_changed : IsChangedByAnother (first 22) (first 23) 0 (key_at small 1 + 1)
unfolding machine word_at state
link_changed = node_changed small (first 22) (first 23) (record { rest = drop 22 (first 23); whole = refl })
    (front_kept callers_journal callers_kept 23) 0 small_layout refl refl 1 1 (lit< tt)
    (record {
      pass = refl;
      free = λ (is : _). absurd (cc);
      fresh = λ (is : _). absurd (cc);
      spent = λ (is : _). absurd
          (cc);
    }) none_at_link (λ is. true≢false (sym (eq-eqb (word_at small (first 23) (key_at small 1 + 1))
    (word_at small (first 22) (key_at small 1 + 1)) is)))

-- caller 0 marks one edge between two moments
pub one_cut : (q : ℕ) (e : Event) → length (before 28) ≤ q → slice_get (before 31) q ≡ Some e → e.caller ≡ 0
    → cuts_edge e.kind ≡ true → q ≡ 28
one_cut q e since at by is = one_between cuts_edge 0 (before 28) (before 31)
    (record { rest = drop 28 (before 31); whole = refl }) refl 28 q marks_first e
    (lit≤ tt) refl refl refl since at by is

-- the epoch is moved on, and nothing else
pub moved_only : StaysUncounted small (before 45) (before 47)
moved_only = stays_uncounted small small_layout (before 45) (before 47)
    (record { rest = drop 45 (before 47); whole = refl }) (kept_before 47)
    (record {
      each = λ k e at. failed (counted e.kind) (none_such (λ e. counted e.kind)
          (drop 45 (before 47)) refl k e at);
    })
  where
    failed : (b : Bool) → (b ≡ true → ⊥) → b ≡ false
    failed false h = refl
    failed true h = absurd (h refl)

-- an edge is unlinked, and the pass closed
pub unlinked_only : StaysButUnlinked small (before 29) (drop 29 (before 31)) 0
unlinked_only = stays_but_unlinked small small_layout (before 29) 0 (drop 29 (before 31)) (kept_before 31)
    (record { each = each })
  where
    each : (k : ℕ) (e : Event) → slice_get (drop 29 (before 31)) k ≡ Some e → (counted e.kind ≡ false) ⊎
        ((unlinks e.kind ≡ true) × (e.caller ≡ 0))
    each zero e at = let same : get_or two_lives 29 blank ≡ e = cc in inr
        (ap (λ (d : Event). unlinks d.kind) (sym same), ap (λ (d : Event). d.caller) (sym same))
    each (suc zero) e at = let same : get_or two_lives 30 blank ≡ e = cc in inl
        (ap (λ (d : Event). counted d.kind) (sym same))
    each (suc (suc k)) e at = absurd (cc)

-- in the short worked journal the first event of caller 0 changes the graph, and the last event is caller 1's
does_change : changes [] (get_or worked_journal 0 blank) ≡ true
unfolding key_of
does_change = changes_yes [] (get_or worked_journal 0 blank) (λ same. true≢false
    (sym (has-graph (take 1 worked_journal) 1) ∙ (ap (λ (g : Graph). has g 1) same ∙ has-graph [] 1)))

pub one_change : changes_made 0 (take 1 worked_journal) ≡ 1
one_change = passing_one (is_own_change 0) [] (get_or worked_journal 0 blank)
    (own_change 0 [] (get_or worked_journal 0 blank) refl does_change) ∙ ap (λ (n : ℕ). n + 1)
    (passing-nil (is_own_change 0))

pub as_many : changes_made 0 worked_journal ≡ changes_made 0 (take 3 worked_journal)
as_many = passing_other (is_own_change 0) (take 3 worked_journal) (get_or worked_journal 3 blank)
    (other_change 0 (take 3 worked_journal) (get_or worked_journal 3 blank) (inl (λ is. absurd (cc))))

pub only_first : (p : ℕ) (e : Event) → slice_get (take 1 worked_journal) p ≡ Some e → e.caller ≡ 0 → changes
    (take p (take 1 worked_journal)) e ≡ true → p ≡ 0
only_first p e at by does = own_only 0 [] (take 1 worked_journal)
    (record { rest = take 1 worked_journal; whole = refl }) (one_change ∙ ap (λ (n : ℕ). n + 1)
    (sym (passing-nil (is_own_change 0)))) 0 p (get_or worked_journal 0 blank) e (lit≤ tt) refl refl does_change
    (omega arith) at by does

pub none_after : (p : ℕ) (e : Event) → length (take 3 worked_journal) ≤ p → slice_get worked_journal p ≡ Some e
    → e.caller ≡ 0 → changes (take p worked_journal) e ≡ false
none_after p e since at by = own_none 0 (take 3 worked_journal) worked_journal
    (record { rest = drop 3 worked_journal; whole = refl }) as_many p e since at by
