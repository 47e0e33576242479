-- What stands after calls in order, one call more at a time.
use Rattle.std.proofs.Common.{◌≡◌, ℕ, zero, suc, ◌+◌, ◌^◌, ◌<◌, ◌≤◌, List, [], ◌∷◌, ◌++◌, length, take, get_or, refl}
use Rattle.std.proofs.Common.{sym, ap, subst, ◌∙◌, arith}
use Rattle.std.proofs.lemmas.List.{length-append, length-map, length-take-le, map-append, take_more}
use Rattle.std.proofs.lemmas.List.Elements.{All-append}
use Rattle.std.specs.List.{All}
use Rattle.std.specs.Ordering.{nat_cmp}
use Rattle.std.specs.FinMap as finite_map
use Rattle.std.specs.FinSet as finite_set
use Rattle.graph_kinds.specs.declared.call.Row.{Row}
use Rattle.graph_kinds.specs.declared.call.Call.{Call}
use Rattle.graph_kinds.specs.declared.answer.Answer.{Answer}
use Rattle.graph_kinds.specs.Graph.{Graph, pair_cmp, empty_graph}
use Rattle.graph_kinds.specs.History.{calls_of}
use Rattle.graph_kinds.specs.Answer.{answer, after, answers, after_all}
use Rattle.plain_graph.specs.Calls.{CostIsBelow}
use Rattle.plain_graph.proofs.Changes.{count_of, count-after}

after_all-push : (g : Graph) (cs : List Call) (c : Call) → after_all g (cs ++ c ∷ []) ≡ after (after_all g cs) c
after_all-push g [] c = refl
after_all-push g (d ∷ cs) c = after_all-push (after g d) cs c

answers-push : (g : Graph) (cs : List Call) (c : Call) → answers g (cs ++ c ∷ []) ≡ answers g cs ++ answer
    (after_all g cs) c ∷ []
answers-push g [] c = refl
answers-push g (d ∷ cs) c = ap (λ rs. answer g d ∷ rs) (answers-push (after g d) cs c)

-- these calls, in order from the empty graph, were given these answers and led to this graph
pub record IsReplay (calls : List Call) (given : List Answer) (g : Graph) : Type 0 where
  pub graph : g ≡ after_all empty_graph calls
  pub answers_given : given ≡ answers empty_graph calls
  pub few : count_of g ≤ length calls
  pub bounded : All (λ (a : Answer). CostIsBelow (2 ^ 48) a.outcome) given

-- what holds of one answer
one_answer : (P : Answer → Type 0) (r : Answer) → P r → All P (r ∷ [])
one_answer P r is zero d h = is
one_answer P r is (suc k) d h = absurd (omega (arith, h))

-- one call more
replay_more : (calls : List Call) (given : List Answer) (g : Graph) → IsReplay calls given g
    → (c : Call) (r : Answer) (h : Graph) → r ≡ answer g c → h ≡ after g c → CostIsBelow (2 ^ 48) r.outcome → IsReplay
    (calls ++ c ∷ []) (given ++ r ∷ []) h
replay_more calls given g so_far c r h answered left below = record {
  graph = left ∙ (ap (λ (x : Graph). after x c) so_far.graph ∙ sym (after_all-push empty_graph calls c));
  answers_given =
      (λ i. so_far.answers_given i ++ (answered ∙ ap (λ (x : Graph). answer x c) so_far.graph) i ∷ [])
      ∙ sym (answers-push empty_graph calls c);
  few = omega (arith, ap count_of left, count-after g c, so_far.few, length-append calls (c ∷ []));
  bounded = All-append (λ (a : Answer). CostIsBelow (2 ^ 48) a.outcome) given (r ∷ []) so_far.bounded
      (one_answer (λ (a : Answer). CostIsBelow (2 ^ 48) a.outcome) r below);
}

-- no call
pub replay_none : (given : List Answer) (g : Graph) → given ≡ [] → g ≡ empty_graph → IsReplay [] given g
replay_none given g none empty = record {
  graph = empty;
  answers_given = none;
  few = omega (arith, ap count_of empty, finite_set.len-empty nat_cmp, finite_map.len-empty pair_cmp ℕ);
  bounded = subst (All (λ (a : Answer). CostIsBelow (2 ^ 48) a.outcome)) (sym none)
      (λ k d h. absurd (omega (arith, h)));
}

-- the calls of the first rows, and of one row more
pub length-calls : (rows : List Row) (i : ℕ) → i ≤ length rows → length (calls_of (take i rows)) ≡ i
length-calls rows i within = length-map (take i rows) (λ (row : Row). row.call) ∙ length-take-le i rows within

calls_more : (rows : List Row) (i : ℕ) (d : Row) → i < length rows → calls_of (take (i + 1) rows) ≡ calls_of
    (take i rows) ++ (get_or rows i d).call ∷ []
calls_more rows i d within = ap calls_of (take_more rows i d within) ∙ map-append (λ (row : Row). row.call)
    (take i rows) (get_or rows i d ∷ [])

-- one row more
pub replay_row : (rows : List Row) (i : ℕ) (d : Row) → i < length rows → (given : List Answer) (g : Graph) → IsReplay
    (calls_of (take i rows)) given g
    → (r : Answer) (h : Graph) → r ≡ answer g (get_or rows i d).call → h ≡ after g (get_or rows i d).call → CostIsBelow
    (2 ^ 48) r.outcome → IsReplay (calls_of (take (i + 1) rows)) (given ++ r ∷ []) h
replay_row rows i d within given g so_far r h answered left below = subst
    (λ (cs : List Call). IsReplay cs (given ++ r ∷ []) h) (sym (calls_more rows i d within))
    (replay_more _ given g so_far _ r h answered left below)
