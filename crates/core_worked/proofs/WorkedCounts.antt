-- The laws of counts at worked journals.
use Rattle.std.proofs.Common.{◌≡◌, ◌≢◌, ◌⊎◌, ℕ, zero, suc, ◌+◌, ◌-◌, ◌*◌, ◌<◌, ◌≤◌, Bool, true, false, not, ◌&&◌, ◌||◌}
use Rattle.std.proofs.Common.{◌==◌, None, Some, List, [], ◌∷◌, ◌++◌, take, refl, inl, ⊎_elim, arith, lit≤, All}
use Rattle.std.specs.Prelude.{drop}
use Rattle.std.specs.List.{sum_by, list_any}
use Rattle.graph_kinds.specs.Graph.{key_count, pair_count}
use Rattle.core_journal.specs.declared.book.Book.{Book}
use Rattle.core_journal.specs.declared.event.Event.{Event}
use Rattle.core_journal.specs.Event.{counted, cuts_edge, links, links_edge, links_vertex, pops}
use Rattle.core_journal.specs.GraphOf.{graph_of}
use Rattle.core_journal.specs.Life.{link_of}
use Rattle.core_journal.specs.Prefix.{IsPrefix}
use Rattle.core_journal.specs.State.{Mode, Free, Linked, Spent, state}
use Rattle.core_journal.specs.Worked.{small, first_life}
use Rattle.core_kept.specs.Moments.{is_spent}
use Rattle.core_kept.specs.Counts.{all_made, made}
use Rattle.core_kept.specs.Freezing.{IsSpentVertex}
use Rattle.core_kept.specs.Kept.{IsKept, IsQuiet}
use Rattle.core_kept.specs.Nodes.{node_in, is_frozen, IsSpentWith, IsFrozenToEnd}
use Rattle.core_kept.proofs.Induction.{kept_front, last_allowed}
use Rattle.core_kept.proofs.NodesInPlace.{used_there}
use Rattle.core_counts.specs.Nodes.{IsAllGraph}
use Rattle.core_counts.specs.Spending.{IsOwnUnlink, IsHandedOver, AreFinished, GotOnly}
use Rattle.core_counts.specs.Totals.{IsNotOver, IsEdgeOver, RaisesApart, RaisesOnce, total}
use Rattle.core_counts.proofs.AllNodesOfGraph.{empty_none, all_counted}
use Rattle.core_counts.proofs.NodesBecomeSpent.{becoming, settled, IsSettled}
use Rattle.core_counts.proofs.SumsOverBooks.{of_books}
use Rattle.core_counts.proofs.SumsOverCallers.{all_sum}
use Rattle.core_counts.proofs.CountedAreFew.{few_by_links}
use Rattle.core_counts.proofs.FewerOfEachLife.{fewer_in_all, fewer_cuts}
use Rattle.core_counts.proofs.GraphNodes.{keys_are, pairs_are}
use Rattle.core_counts.proofs.KnownSpentNodes.{got_itself, got_beyond, got_own, got_unlink, got_begins, got_done}
use Rattle.core_counts.proofs.KnownSpentNodes.{got_more}
use Rattle.core_counts.proofs.LivesGoOneWay.{one_way}
use Rattle.core_counts.proofs.RaisesOfEdges.{once_opening, once_stays, once_raise, once_done, once_apart}
use Rattle.core_counts.proofs.IdleCallers.{HasNothing, has_nothing}
use Rattle.core_worked.proofs.OneNode.{least_layout, one_vertex_kept, one_vertex_empty}
use Rattle.core_worked.specs.Counted.{one_node, one_vertex, two_books}
use Rattle.core_worked.specs.TwoLives.{two_lives, with_an_edge, freezes_second}
use Rattle.core_worked.proofs.SmallSteps.{below, whole, frozen_list, quiet_from}
use Rattle.core_worked.proofs.TwoLives.{event, two_lives_kept}
use Rattle.core_worked.proofs.TwoLivesShown.{small_layout}

front : (n : ℕ) → take n two_lives ++ drop n two_lives ≡ two_lives → IsPrefix (take n two_lives) two_lives
front n h = record { rest = drop n two_lives; whole = h }

pub kept_at : (n : ℕ) → take n two_lives ++ drop n two_lives ≡ two_lives → IsKept small (take n two_lives)
kept_at n h = kept_front small (take n two_lives) two_lives (front n h) two_lives_kept

-- caller 0 raises for the edge of node 2
not_over : IsNotOver (take 27 two_lives) (take 27 two_lives) (first_life 2)
unfolding link_of
not_over = record { link = event 24; linked = refl; unmarked = refl; source = refl }

at_start : RaisesOnce (take 27 two_lives) (take 27 two_lives) 0 0 []
at_start = once_done 0 0 [] [] (take 27 two_lives) (record { rest = take 27 two_lives; whole = refl })
    (λ i d low. absurd (omega (arith, low)))
    (once_stays 0 0 [] [] [] (take 27 two_lives) (record { rest = take 27 two_lives; whole = refl }) refl
    (once_opening 0))

pub raised : RaisesOnce (take 27 two_lives) (take 28 two_lives) 0 0 (first_life 2 ∷ [])
raised = once_raise 0 0 [] (take 27 two_lives) (take 27 two_lives) (event 27) (first_life 2)
    (whole (take 27 two_lives)) not_over (λ i d low. absurd (omega (arith, low))) at_start

pub over : RaisesOnce two_lives two_lives 0 0 []
over = once_done 0 0 (first_life 2 ∷ []) (take 27 two_lives) two_lives (front 27 refl) (λ i d low. by i d low)
    (once_stays 0 0 (first_life 2 ∷ []) (take 27 two_lives) (take 28 two_lives) two_lives (front 28 refl) refl raised)
  where
    by : All (IsEdgeOver two_lives) (first_life 2 ∷ [])
    by zero d low = inl refl
    by (suc i) d low = absurd (omega (arith, low))

idle_apart : RaisesApart two_lives 1 0
idle_apart = once_apart 1 0 [] [] two_lives (once_stays 1 0 [] [] [] two_lives
    (record { rest = two_lives; whole = refl }) refl (once_opening 1))

pub few : all_made counted two_lives ≤ 6 * all_made pops two_lives + 2 *
    (all_made pops two_lives - all_made links_vertex two_lives) + 0
unfolding state
few = few_by_links small small_layout two_lives two_lives_kept 2 (lit≤ tt) (λ i. 0) each
  where
    each : (i : ℕ) → i < 2 → RaisesApart two_lives i 0
    each zero low = once_apart 0 0 [] two_lives two_lives over
    each (suc zero) low = idle_apart
    each (suc (suc n)) low = absurd (omega (arith, low))

pub sum_is : all_made counted two_lives ≡ total (λ (i : ℕ). made counted i two_lives) 2
unfolding state
sum_is = all_sum small counted 2 two_lives two_lives_kept (lit≤ tt)

pub books_sum : all_made counted two_lives ≤ sum_by (λ (b : Book). made counted b.caller two_lives) two_books
unfolding state
books_sum = of_books small two_lives two_lives_kept counted two_books
    (λ (b : Book). made counted b.caller two_lives) each (omega arith, (omega arith, tt))
  where
    each : (i : ℕ) → i < (state small two_lives).drawn → list_any (λ (b : Book). i == b.caller) two_books ≡ true
    each zero low = refl
    each (suc zero) low = refl
    each (suc (suc n)) low = absurd (omega (arith, low))

pub links_few : all_made links two_lives ≤ all_made pops two_lives
links_few = fewer_in_all links pops two_lives (λ x. (one_way small small_layout two_lives two_lives_kept x).linked)

pub marks_few : all_made cuts_edge two_lives ≤ all_made links_edge two_lives
marks_few = fewer_cuts links_edge two_lives (λ x. (one_way small small_layout two_lives two_lives_kept x).edge_marked)

-- the graph of a table with an edge, and of one with one node
pub counted_keys : key_count (graph_of with_an_edge) ≡ 2
unfolding state
counted_keys = keys_are small small_layout (take 26 two_lives) (kept_at 26 refl)

pub counted_pairs : pair_count (graph_of with_an_edge) ≡ 1
unfolding state
counted_pairs = pairs_are small small_layout (take 26 two_lives) (kept_at 26 refl)

pub none_left : (x : ℕ) → x < 1 → (node_in one_node one_vertex x).mode ≢ Free
none_left x t = empty_none one_node least_layout one_vertex one_vertex_kept one_vertex_empty x t

pub all_one : IsAllGraph one_node one_vertex
unfolding state
all_one = record {
  free = none_left;
  fresh = λ x t m. let is : (node_in one_node one_vertex x).mode ≡ Linked = at_zero
      (λ y. (node_in one_node one_vertex y).mode ≡ Linked) x t refl in absurd (cc);
  spent = λ x t m. let is : (node_in one_node one_vertex x).mode ≡ Linked = at_zero
      (λ y. (node_in one_node one_vertex y).mode ≡ Linked) x t refl in absurd (cc);
  marked = λ x t. at_zero (λ y. (node_in one_node one_vertex y).marked ≡ false) x t refl;
  source = λ x t e. let is : (node_in one_node one_vertex x).vertex ≡ true = at_zero
      (λ y. (node_in one_node one_vertex y).vertex ≡ true) x t refl in absurd (cc);
  target = λ x t e. let is : (node_in one_node one_vertex x).vertex ≡ true = at_zero
      (λ y. (node_in one_node one_vertex y).vertex ≡ true) x t refl in absurd (cc);
}
  where
    at_zero : (P : ℕ → Type 0) (x : ℕ) → x < 1 → P 0 → P x
    at_zero P zero t h = h
    at_zero P (suc n) t h = absurd (omega (arith, t))

pub full_one : key_count (graph_of one_vertex) + pair_count (graph_of one_vertex) ≡ 1
full_one = all_counted one_node least_layout one_vertex one_vertex_kept all_one

-- the edge of node 3 is handed over
pub handed : IsHandedOver small (take 43 two_lives) freezes_second 0 3
unfolding state
handed = ⊎_elim (λ (a : IsSpentWith small (take 43 two_lives) 0 3 ⊎ IsOwnUnlink freezes_second 0 3). ⊎_elim
    (λ (b : IsSpentWith small (take 43 two_lives) 0 3). let s = b.spent in absurd (cc))
    (λ (b : IsOwnUnlink freezes_second 0 3). let u = b.unlinks in absurd (cc)) a)
    (λ (h : IsHandedOver small (take 43 two_lives) freezes_second 0 3). h)
    (becoming small small_layout (take 43 two_lives) freezes_second (kept_at 43 refl)
    (last_allowed small (take 43 two_lives) freezes_second (kept_at 44 refl)) 0 3
    (record { spent = refl; mine = refl }))

-- whether a node isn't a vertex that's spent
abbrev no_spent : List Event → ℕ → Bool
no_spent past x = not (is_spent (node_in small past x).mode && (node_in small past x).vertex)

not_spent : (past : List Event) (x : ℕ) → no_spent past x ≡ true → (caller : ℕ) → IsSpentVertex small past caller x → ⊥
not_spent past x h caller s = by (node_in small past x).mode (node_in small past x).vertex s.spent s.vertex h
  where
    by : (m : Mode) (v : Bool) → m ≡ Spent → v ≡ true → not (is_spent m && v) ≡ true → ⊥
    by Spent true a b h = absurd (cc)
    by Spent false a b h = absurd (cc)
    by _ v a b h = absurd (cc)

there : (past : List Event) → IsKept small past → (x : ℕ) → (node_in small past x).mode ≡ Spent → x < 8
there past kept x m = used_there small past x kept (λ f. absurd (cc))

none_finished : AreFinished small (take 41 two_lives) 0 None
unfolding state
none_finished = record {
  each = λ v _ s _. absurd (not_spent (take 41 two_lives) v
      (below 8 (no_spent (take 41 two_lives)) refl v (there (take 41 two_lives) (kept_at 41 refl) v s.spent)) 0 s);
}

got_head : GotOnly small (take 41 two_lives) (take 43 two_lives) 0 (Some 0) (0 ∷ [])
unfolding state
got_head =
    let first = got_itself small (take 41 two_lives) 0 None none_finished tt in
    let cut : GotOnly small (take 41 two_lives) (take 42 two_lives) 0 None (0 ∷ []) = got_unlink small small_layout
    (take 41 two_lives) (event 41) (kept_at 42 refl) None refl (take 41 two_lives) [] first in
    let begun : GotOnly small (take 41 two_lives) (take 42 two_lives) 0 (Some 0) (0 ∷ []) = got_begins small
    (take 41 two_lives) (take 42 two_lives) 0 0 (0 ∷ []) cut
    (record { spent = refl; vertex = refl; mine = refl }) in
    got_own small small_layout (take 42 two_lives) (event 42) (kept_at 43 refl) (Some 0)
    (record { unlinks = refl; closes = λ _. refl; gives = λ _ h. absurd (cc) }) (take 41 two_lives) (0 ∷ []) begun

frozen_end : IsFrozenToEnd small (take 44 two_lives) 0
unfolding state
frozen_end = frozen_list (take 44 two_lives) refl refl refl

got_end : GotOnly small (take 41 two_lives) (take 45 two_lives) 0 None (3 ∷ 0 ∷ [])
unfolding state
got_end =
    let frozen : GotOnly small (take 41 two_lives) (take 44 two_lives) 0 (Some 0) (0 ∷ []) = got_own small small_layout
    (take 43 two_lives) (event 43) (kept_at 44 refl) (Some 0)
    (record { unlinks = refl; closes = λ h. absurd (cc); gives = λ _ h. absurd (cc) }) (take 41 two_lives)
    (0 ∷ []) got_head in
    let both = got_more small (take 41 two_lives) (take 44 two_lives) 0 3 (Some 0) (0 ∷ []) frozen in
    let done : GotOnly small (take 41 two_lives) (take 44 two_lives) 0 None (3 ∷ 0 ∷ []) = got_done small
    (take 41 two_lives) (take 44 two_lives) 0 0 (3 ∷ 0 ∷ []) both frozen_end (λ y on. part y on) in
    got_own small small_layout (take 44 two_lives) (event 44) (kept_at 45 refl) None
    (record { unlinks = refl; closes = λ h. absurd (cc); gives = λ h. absurd h }) (take 41 two_lives)
    (3 ∷ 0 ∷ []) done
  where
    first : (b : Bool) → (b || false) ≡ true → (b || true) ≡ true
    first true h = refl
    first false h = absurd (cc)

    more : (b c : Bool) → (b || false) ≡ true → (b || (c || false)) ≡ true
    more true c h = refl
    more false c h = absurd (cc)

    part : (y : ℕ) → is_frozen (state small (take 44 two_lives)) 0 y ≡ true → list_any (λ (z : ℕ). z == y)
        (3 ∷ 0 ∷ []) ≡ true
    part y on = more (3 == y) (0 == y) on

quiet : IsQuiet (take 47 two_lives) 0 45
quiet = quiet_from 0 45 (take 47 two_lives) refl

pub got_all : GotOnly small (take 41 two_lives) (take 47 two_lives) 0 None (3 ∷ 0 ∷ [])
got_all = got_beyond small small_layout 0 45 None (take 45 two_lives) (take 47 two_lives)
    (record { rest = event 45 ∷ event 46 ∷ []; whole = refl }) (kept_at 47 refl) quiet (lit≤ tt) (take 41 two_lives)
    (3 ∷ 0 ∷ []) got_end

pub at_rest : IsSettled small (take 45 two_lives) (take 47 two_lives) 0
unfolding state
at_rest = settled small small_layout 0 45 (take 45 two_lives) (take 47 two_lives)
    (record { rest = event 45 ∷ event 46 ∷ []; whole = refl }) (kept_at 47 refl) quiet (lit≤ tt)
    (λ x s. by x s (there (take 45 two_lives) (kept_at 45 refl) x s.spent))
  where
    by : (x : ℕ) → IsSpentVertex small (take 45 two_lives) 0 x → x < 8 → IsFrozenToEnd small (take 45 two_lives) x
    by zero s t = frozen_list (take 45 two_lives) refl refl refl
    by (suc n) s t = absurd (not_spent (take 45 two_lives) (suc n)
        (below 7 (λ x. no_spent (take 45 two_lives) (suc x)) refl n (omega (arith, t))) 0 s)

pub idle : HasNothing small (take 45 two_lives) 1
idle = has_nothing small small_layout (take 45 two_lives) (kept_at 45 refl) 1 refl
