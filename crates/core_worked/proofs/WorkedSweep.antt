-- The laws of sweeping at worked journals.
use Rattle.std.proofs.Common.{◌≡◌, ◌≢◌, ℕ, zero, suc, ◌+◌, ◌<◌, true, false, take, length, filter, Bool, ◌&&◌, ◌==◌}
use Rattle.std.proofs.Common.{refl, sym, arith, ne_eqb}
use Rattle.graph_kinds.specs.Graph.{key_count, pair_count}
use Rattle.core_journal.specs.declared.event.Event.{Event}
use Rattle.core_journal.specs.GraphOf.{graph_of}
use Rattle.core_journal.specs.Right.{NoneFree}
use Rattle.core_journal.specs.State.{Linked, state}
use Rattle.core_journal.specs.Worked.{small}
use Rattle.core_kept.specs.Counts.{made}
use Rattle.core_kept.specs.Nodes.{node_in, IsFreshWith, IsSpentWith}
use Rattle.core_kept.proofs.Induction.{last_allowed}
use Rattle.core_kept.proofs.NodesInPlace.{used_there}
use Rattle.core_counts.specs.Spending.{acts}
use Rattle.core_counts.specs.Swept.{IsCleanEdge, IsCleanVertex, IsOfGraphOr, IsSwept}
use Rattle.core_counts.proofs.SweptTables.{each_is}
use Rattle.core_counts.proofs.CleanEdges.{clean_edge, linked_same}
use Rattle.core_counts.proofs.CleanVertices.{clean_stays}
use Rattle.core_counts.proofs.ExactFull.{full_exact, all_empty}
use Rattle.core_worked.specs.Counted.{one_node, one_vertex}
use Rattle.core_worked.specs.TwoLives.{two_lives}
use Rattle.core_worked.proofs.OneNode.{least_layout, one_vertex_kept, one_vertex_empty}
use Rattle.core_worked.proofs.TwoLives.{event}
use Rattle.core_worked.proofs.TwoLivesShown.{small_layout}
use Rattle.core_worked.proofs.WorkedCounts.{kept_at, none_left, full_one}

pub clean_one : IsCleanVertex (node_in small (take 46 two_lives) 1)
unfolding state
clean_one = clean_stays small small_layout (take 45 two_lives) (event 45) (kept_at 45 refl)
    (last_allowed small (take 45 two_lives) (event 45) (kept_at 46 refl)) 1 (λ h. absurd (cc)) (λ _ _. refl)

pub same_one : node_in small (take 46 two_lives) 1 ≡ node_in small (take 45 two_lives) 1
unfolding state
same_one = linked_same small small_layout (take 45 two_lives) (event 45) (kept_at 45 refl)
    (last_allowed small (take 45 two_lives) (event 45) (kept_at 46 refl)) 1 refl refl (λ h. absurd (cc))
    (λ h. absurd (cc))

pub clean_two : IsCleanEdge (state small (take 26 two_lives)) 2
unfolding state
clean_two = clean_edge small small_layout (take 25 two_lives) (event 25) (kept_at 25 refl)
    (last_allowed small (take 25 two_lives) (event 25) (kept_at 26 refl)) 2 (λ h. absurd (cc)) (λ h. absurd (cc))
    (λ h. absurd (cc)) (λ h. absurd (cc)) (λ _ _ _. (refl, refl))

at_zero : (P : ℕ → Type 0) (x : ℕ) → x < 1 → P 0 → P x
at_zero P zero t h = h
at_zero P (suc n) t h = absurd (omega (arith, t))

linked_one : (x : ℕ) → x < 1 → (node_in one_node one_vertex x).mode ≡ Linked
unfolding state
linked_one x t = at_zero (λ y. (node_in one_node one_vertex y).mode ≡ Linked) x t refl

no_fresh : (caller x : ℕ) → IsFreshWith one_node one_vertex caller x → ⊥
no_fresh caller x f = let m = f.fresh in let is = linked_one x
    (used_there one_node one_vertex x one_vertex_kept (λ h. absurd (cc))) in absurd (cc)

no_spent : (caller x : ℕ) → IsSpentWith one_node one_vertex caller x → ⊥
no_spent caller x f = let m = f.spent in let is = linked_one x
    (used_there one_node one_vertex x one_vertex_kept (λ h. absurd (cc))) in absurd (cc)

pub swept_one : IsSwept one_node one_vertex
unfolding state
swept_one = record {
  vertices = λ x t _. at_zero (λ y. (node_in one_node one_vertex y).marked ≡ false) x t refl;
  edges = λ y t e. let v : (node_in one_node one_vertex y).vertex ≡ true = at_zero
      (λ x. (node_in one_node one_vertex x).vertex ≡ true) y t refl in let w = e.edge in absurd (cc);
}

pub each_one : (x : ℕ) → x < 1 → IsOfGraphOr one_node one_vertex 0 x
each_one x t = each_is one_node least_layout one_vertex one_vertex_kept 0 none_left (no_fresh 0)
    (no_spent 0) swept_one x t

-- all events are those of caller 0
idle_else : (i : ℕ) → i ≢ 0 → made acts i one_vertex ≡ 0
idle_else i ne = by (0 == i) (ne_eqb 0 i (λ h. ne (sym h)))
  where
    by : (b : Bool) → b ≡ false → length (filter (λ (d : Event). acts d.kind && b) one_vertex) ≡ 0
    by true h = absurd (cc)
    by false h = refl

pub exact_one : key_count (graph_of (take 8 one_vertex)) + pair_count (graph_of (take 8 one_vertex)) ≡ 1
exact_one = full_exact one_node least_layout (take 8 one_vertex) one_vertex one_vertex_kept refl 0 one_vertex_empty
    (no_fresh 0) (no_spent 0) swept_one idle_else

pub empty_one : NoneFree one_node one_vertex
empty_one = all_empty one_node least_layout one_vertex one_vertex one_vertex_kept refl full_one
