-- The laws of counts at replacements, and at a raise that is given up.
use Rattle.std.proofs.Common.{◌≡◌, ◌⊎◌, ℕ, zero, suc, ◌+◌, ◌^◌, ◌<◌, ◌≤◌, [], ◌∷◌, ◌++◌, take, drop, refl, inl, ⊎_elim}
use Rattle.std.proofs.Common.{arith, lit≤, All}
use Rattle.std.specs.Prelude.{true}
use Rattle.graph_kinds.specs.Graph.{key_count, pair_count}
use Rattle.packed_link.specs.declared.link.Life.{Life}
use Rattle.core_journal.specs.Event.{counted, cuts_edge, links_edge, raises, replaces, unlinks_edge}
use Rattle.core_journal.specs.Foreign.{foreign}
use Rattle.core_journal.specs.GraphOf.{graph_of}
use Rattle.core_journal.specs.Life.{edge_linked, edge_marked, link_of}
use Rattle.core_journal.specs.Prefix.{IsPrefix}
use Rattle.core_journal.specs.Right.{IsAgain}
use Rattle.core_journal.specs.State.{state}
use Rattle.core_journal.specs.TwoCallers.{callers_journal}
use Rattle.core_journal.specs.Worked.{small, first_life}
use Rattle.core_kept.specs.Counts.{all_made, made}
use Rattle.core_kept.specs.Nodes.{node_in, IsSpentWith}
use Rattle.core_kept.proofs.Induction.{last_allowed}
use Rattle.core_counts.specs.Nodes.{IsAllGraph}
use Rattle.core_counts.specs.Spending.{IsOwnUnlink, IsHandedOver}
use Rattle.core_counts.specs.Totals.{GoesOneWay, IsNotOver, IsEdgeOver, RaisesApart, RaisesOnce, total}
use Rattle.core_counts.proofs.AllNodesOfGraph.{counted_all, few_nodes_of_graph}
use Rattle.core_counts.proofs.CleanEdges.{linked_same}
use Rattle.core_counts.proofs.CountedAreFew.{few_by_kinds, few_by_links, few_of_callers, foreign_few}
use Rattle.core_counts.proofs.FewerOfEachLife.{fewer_cut, fewer_cuts}
use Rattle.core_counts.proofs.GraphNodes.{keys_are, pairs_are}
use Rattle.core_counts.proofs.LivesGoOneWay.{one_way}
use Rattle.core_counts.proofs.NodesBecomeSpent.{becoming}
use Rattle.core_counts.proofs.RaisesOfEdges.{apart_opening, apart_other, apart_others, apart_raise, once_apart}
use Rattle.core_counts.proofs.RaisesOfEdges.{once_done, once_few, once_links, once_lost, once_opening, once_raise}
use Rattle.core_counts.proofs.RaisesOfEdges.{once_stays}
use Rattle.core_counts.proofs.SumsOverCallers.{total_most}
use Rattle.core_worked.specs.Counted.{given_up, one_node, one_vertex}
use Rattle.core_worked.specs.Replacing.{raises_to, replaced_anew, replacing_journal, same_weight}
use Rattle.core_worked.specs.TwoLives.{closes_head, with_an_edge}
use Rattle.core_worked.proofs.OneNode.{least_layout, one_vertex_kept}
use Rattle.core_worked.proofs.Replacing.{event, first, kept_33, kept_34, kept_68, kept_71, kept_72, replacing_kept}
use Rattle.core_worked.proofs.ReplacingSteps.{refused_same_weight}
use Rattle.core_worked.proofs.SmallSteps.{quiet_from}
use Rattle.core_worked.proofs.TwoLives.{before}
use Rattle.core_worked.proofs.TwoLives as lives
use Rattle.core_worked.proofs.TwoLivesShown.{small_layout}

-- raises of caller 0 in the journal with two lives

pub apart_first : RaisesApart (before 1) 0 0
apart_first = apart_other 0 0 [] (lives.event 0) refl (apart_opening 0)

pub apart_raised : RaisesApart (before 28) 0 0
apart_raised = apart_raise 0 0 (before 27) (lives.event 27) (first_life 2) refl none
    (λ i d low. absurd (omega (arith, low)))
  where
    none : RaisesApart (before 27) 0 0
    none = record {
      edges = [];
      apart = λ i j d low high. absurd (omega (arith, high));
      linked = λ i d low. absurd
          (omega (arith, low));
      few = lit≤ tt;
    }

pub apart_beyond : RaisesApart (before 47) 0 0
apart_beyond = apart_others 0 0 45 (before 45) (before 47) (record { rest = drop 45 (before 47); whole = refl })
    (lit≤ tt) (quiet_from 0 45 (before 47) refl)
    (record {
      edges = first_life 2 ∷ [];
      apart = λ i j d low high. absurd
          (omega (arith, low, high));
      linked = one;
      few = lit≤ tt;
    })
  where
    one : All (λ (x : Life). edge_linked (before 45) x ≡ true) (first_life 2 ∷ [])
    one zero d low = refl
    one (suc i) d low = absurd (omega (arith, low))

-- raises of caller 0 in the journal with replacements, each for an edge that is over by the next one

longer : (n m : ℕ) → first n ++ drop n (first m) ≡ first m → IsPrefix (first n) (first m)
longer n m is = record { rest = drop n (first m); whole = is }

-- a raise from one moment to another, for an edge that isn't over at the first
held : (start at x : ℕ) → first start ++ drop start (first at) ≡ first at → made raises 0 (first at) ≡ made raises 0
    (first start) → IsNotOver (first start) (first at) (first_life x) → RaisesOnce (first start) (first start) 0 0 []
    → RaisesOnce (first start) (first at ++ event at ∷ []) 0 0 (first_life x ∷ [])
held start at x grows same n a =
    once_raise 0 0 [] (first start) (first at) (event at) (first_life x) (longer start at grows) n
    (λ i d low. absurd (omega (arith, low))) (once_stays 0 0 [] (first start) (first start) (first at)
    (longer start at grows) same a)

-- the edge is marked by a later moment, and nothing was raised since
done : (start mid end x : ℕ) → first start ++ drop start (first end) ≡ first end → first mid ++ drop mid
    (first end) ≡ first end → made raises 0 (first end) ≡ made raises 0 (first mid) → edge_marked (first end)
    (first_life x) ≡ true → RaisesOnce (first start) (first mid) 0 0 (first_life x ∷ [])
    → RaisesOnce (first end) (first end) 0 0 []
done start mid end x grows more same marked a =
    once_done 0 0 (first_life x ∷ []) (first start) (first end) (longer start end grows) over
    (once_stays 0 0 (first_life x ∷ []) (first start) (first mid) (first end) (longer mid end more) same a)
  where
    over : All (IsEdgeOver (first end)) (first_life x ∷ [])
    over zero d low = inl marked
    over (suc i) d low = absurd (omega (arith, low))

none_at : (n : ℕ) → made raises 0 (first n) ≡ 0 → RaisesOnce (first n) (first n) 0 0 []
none_at n none = once_done 0 0 [] [] (first n) (record { rest = first n; whole = refl })
    (λ i d low. absurd (omega (arith, low)))
    (once_stays 0 0 [] [] [] (first n) (record { rest = first n; whole = refl }) none (once_opening 0))

pub held_first : RaisesOnce (first 26) (first 33) 0 0 (first_life 2 ∷ [])
unfolding link_of
held_first = held 26 32 2 refl refl (record { link = event 24; linked = refl; unmarked = refl; source = refl })
    (none_at 26 refl)

at_35 : RaisesOnce (first 35) (first 35) 0 0 []
at_35 = done 26 33 35 2 refl refl refl refl held_first

held_second : RaisesOnce (first 35) (first 42) 0 0 (first_life 3 ∷ [])
unfolding link_of
held_second = held 35 41 3 refl refl (record { link = event 33; linked = refl; unmarked = refl; source = refl }) at_35

at_44 : RaisesOnce (first 44) (first 44) 0 0 []
at_44 = done 35 42 44 3 refl refl refl refl held_second

held_third : RaisesOnce (first 44) (first 46) 0 0 (first_life 4 ∷ [])
unfolding link_of
held_third = held 44 45 4 refl refl (record { link = event 42; linked = refl; unmarked = refl; source = refl }) at_44

at_59 : RaisesOnce (first 59) (first 59) 0 0 []
at_59 = done 44 46 59 4 refl refl refl refl held_third

held_fourth : RaisesOnce (first 59) (first 66) 0 0 (first_life 5 ∷ [])
unfolding link_of
held_fourth = held 59 65 5 refl refl (record { link = event 57; linked = refl; unmarked = refl; source = refl }) at_59

pub all_done : RaisesOnce replacing_journal replacing_journal 0 0 []
all_done = done 59 66 78 5 refl refl refl refl held_fourth

pub four_raises : made raises 0 replacing_journal ≤ all_made links_edge replacing_journal + 0
four_raises = once_links 0 0 [] replacing_journal replacing_journal all_done

-- a raise that is given up

pub one_lost : RaisesOnce same_weight same_weight 0 1 []
unfolding link_of
one_lost = once_lost 0 0 (first_life 2) [] with_an_edge same_weight
    (record { rest = drop 26 same_weight; whole = refl }) (λ i d low. absurd (omega (arith, low)))
    (once_raise 0 0 [] with_an_edge (take 32 same_weight) (raises_to 1) (first_life 2)
    (record { rest = drop 26 (take 32 same_weight); whole = refl })
    (record { link = event 24; linked = refl; unmarked = refl; source = refl })
    (λ i d low. absurd (omega (arith, low)))
    (once_stays 0 0 [] with_an_edge with_an_edge (take 32 same_weight)
    (record { rest = drop 26 (take 32 same_weight); whole = refl }) refl (none_at 26 refl)))

pub few_lost : made raises 0 same_weight ≤ 2 ^ 36 + 1
few_lost = once_few small small_layout same_weight same_weight refused_same_weight.front 0 1 [] one_lost

-- lives and sums

pub replaced_way : GoesOneWay replacing_journal (first_life 2)
replaced_way = one_way small small_layout replacing_journal replacing_kept (first_life 2)

pub few_unlinks : all_made unlinks_edge replacing_journal ≤ all_made cuts_edge replacing_journal
few_unlinks = fewer_cut unlinks_edge replacing_journal (λ x. (one_way small small_layout replacing_journal
    replacing_kept x).edge_unlinked)

pub few_marks : all_made cuts_edge replacing_journal ≤ all_made links_edge replacing_journal
few_marks = fewer_cuts links_edge replacing_journal (λ x. (one_way small small_layout replacing_journal replacing_kept
    x).edge_marked)

each_apart : (i : ℕ) → i < 2 → RaisesApart replacing_journal i 0
each_apart zero low = once_apart 0 0 [] replacing_journal replacing_journal all_done
each_apart (suc zero) low = once_apart 1 0 [] [] replacing_journal
    (once_stays 1 0 [] [] [] replacing_journal (record { rest = replacing_journal; whole = refl }) refl
    (once_opening 1))
each_apart (suc (suc n)) low = absurd (omega (arith, low))

pub below_kinds : all_made counted replacing_journal + all_made replaces replacing_journal ≤ 47
unfolding state
below_kinds = few_by_kinds small small_layout replacing_journal replacing_kept 2 (lit≤ tt) (λ i. 0) each_apart

pub below_links : all_made counted replacing_journal ≤ 52
unfolding state
below_links = few_by_links small small_layout replacing_journal replacing_kept 2 (lit≤ tt) (λ i. 0) each_apart

pub below_takes : all_made counted replacing_journal ≤ 70
unfolding state
below_takes = few_of_callers small small_layout replacing_journal replacing_kept 2 7 (lit≤ tt) (λ i. 0) each_apart
    (lit≤ tt) (lit≤ tt)

pub below_each : total (λ (i : ℕ). made raises i replacing_journal) 2 ≤ total
    (λ (i : ℕ). made counted i replacing_journal) 2
below_each = total_most (λ (i : ℕ). made raises i replacing_journal)
    (λ (i : ℕ). made counted i replacing_journal) 2 each
  where
    each : (i : ℕ) → i < 2 → made raises i replacing_journal ≤ made counted i replacing_journal
    each zero low = lit≤ tt
    each (suc zero) low = lit≤ tt
    each (suc (suc n)) low = absurd (omega (arith, low))

pub below_counted : foreign callers_journal 0 20 28 ≤ all_made counted callers_journal
below_counted = foreign_few callers_journal 0 20 28

pub is_again : IsAgain callers_journal 0 given_up
is_again = record { reply = refl; place = refl; lost = lit≤ tt }

pub tries_few : given_up.tries ≤ all_made counted callers_journal
tries_few = let h = is_again.lost in omega (arith, h, foreign_few callers_journal 0 20 28)

-- the graph and its nodes

pub two_keys_left : key_count (graph_of replaced_anew) ≡ 2
unfolding state
two_keys_left = keys_are small small_layout (first 68) kept_68

pub one_pair_left : pair_count (graph_of replaced_anew) ≡ 1
unfolding state
one_pair_left = pairs_are small small_layout (first 68) kept_68

pub few_of_table : key_count (graph_of replaced_anew) + pair_count (graph_of replaced_anew) ≤ 8
few_of_table = few_nodes_of_graph small small_layout (first 68) kept_68

pub whole_graph : key_count (graph_of one_vertex) + pair_count (graph_of one_vertex) ≡ 1
unfolding state
whole_graph =
    let keys : key_count (graph_of one_vertex) ≡ 1 = keys_are one_node least_layout one_vertex one_vertex_kept in
    let pairs : pair_count (graph_of one_vertex) ≡ 0 = pairs_are one_node least_layout one_vertex one_vertex_kept in
    omega (arith, keys, pairs)

pub only_graph : IsAllGraph one_node one_vertex
only_graph = counted_all one_node least_layout one_vertex one_vertex_kept whole_graph

pub target_stays : node_in small (first 34) 1 ≡ node_in small (first 33) 1
unfolding state
target_stays = linked_same small small_layout (first 33) (event 33) kept_33
    (last_allowed small (first 33) (event 33) kept_34) 1 refl refl (λ h. absurd (cc))
    (λ h is. absurd (omega (arith, is)))

pub replaced_handed : IsHandedOver small (first 71) (closes_head 5) 0 5
unfolding state
replaced_handed = ⊎_elim (λ (a : IsSpentWith small (first 71) 0 5 ⊎ IsOwnUnlink (closes_head 5) 0 5). ⊎_elim
    (λ (b : IsSpentWith small (first 71) 0 5). let s = b.spent in absurd (cc))
    (λ (b : IsOwnUnlink (closes_head 5) 0 5). let u = b.unlinks in absurd (cc)) a)
    (λ (h : IsHandedOver small (first 71) (closes_head 5) 0 5). h)
    (becoming small small_layout (first 71) (closes_head 5) kept_71
    (last_allowed small (first 71) (closes_head 5) kept_72) 0 5 (record { spent = refl; mine = refl }))
