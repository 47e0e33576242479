-- What is answered to each call, by look-ups, and what then stands after it.
use Rattle.std.proofs.Common.{◌≡◌, ℕ, ◌<◌, ◌&&◌, ◌==◌, eqb, eqb-true, true≢false, Bool, true, false, cond, Option, Some}
use Rattle.std.proofs.Common.{None, List, Result, Ok, Err, refl, sym, ap, ap₂, subst, ◌∙◌}
use Rattle.std.specs.Prelude.{IfOk, OnOk}
use Rattle.std.specs.Option.{option_eq}
use Rattle.graph_kinds.specs.declared.call.Call.{Call}
use Rattle.graph_kinds.specs.declared.call.Call.TheVariants.{AddVertex, RemoveVertex, HasVertex, AddEdge, RemoveEdge}
use Rattle.graph_kinds.specs.declared.call.Call.TheVariants.{HasEdge, Reach, Levels, Cheapest}
use Rattle.graph_kinds.specs.declared.outcome.Outcome.{Outcome}
use Rattle.graph_kinds.specs.declared.outcome.Outcome.TheVariants as out
use Rattle.graph_kinds.specs.Graph.{Graph, has, weight_of, IsGraph}
use Rattle.graph_kinds.specs.Levels.{levels_of, reach_path}
use Rattle.graph_kinds.specs.Path.{least_cost, cheapest_path}
use Rattle.graph_kinds.specs.declared.answer.Answer.{Answer}
use Rattle.graph_kinds.specs.Answer.{answer, alters, after, change, plain, on_keys, by_weight, by_path, by_levels}
use Rattle.graph_kinds.specs.Answer.{by_cost, is_change, there_with, IsPathCall, IsWellMade}
use Rattle.graph_kinds.proofs.Calls.{after_valid}
use Rattle.plain_graph.specs.Calls.{CostIsBelow, outcome_of_put}

-- by the outcome, the graph is changed or stays
pub after_outcome : (g : Graph) (c : Call) (o : Outcome) → plain o ≡ answer g c → cond (is_change o)
    (change g c) g ≡ after g c
unfolding after alters
after_outcome g c o e = ap (λ a. cond (is_change a.outcome) (change g c) g) e

-- what a well-made call leaves of a graph is a graph
pub after_sound : (g h : Graph) (c : Call) → IsGraph g → IsWellMade c → h ≡ after g c → IsGraph h
after_sound g h c sound made is = subst IsGraph (sym is) (after_valid g c made sound)

-- what holds in any case holds where a call succeeded
pub on_ok : {A : Type 0} {E : Type 0} (r : Result A E) (P : Type 0) → P → OnOk r P
on_ok (Ok x) P p = p
on_ok (Err e) P p = tt

-- a question changes nothing
stays : (g : Graph) (t : Bool) → cond t g g ≡ g
stays g true = refl
stays g false = refl

pub after_reach : (g : Graph) (a b : ℕ) → after g (Reach a b) ≡ g
unfolding after
after_reach g a b = stays g (alters g (Reach a b))

pub after_levels : (g : Graph) (a : ℕ) → after g (Levels a) ≡ g
unfolding after
after_levels g a = stays g (alters g (Levels a))

pub after_cheapest : (g : Graph) (a b : ℕ) → after g (Cheapest a b) ≡ g
unfolding after
after_cheapest g a b = stays g (alters g (Cheapest a b))

pub after_has_edge : (g : Graph) (a b : ℕ) → after g (HasEdge a b) ≡ g
unfolding after
after_has_edge g a b = stays g (alters g (HasEdge a b))

pub answer_reach : (g : Graph) (a b : ℕ) (t : Bool) → (has g a && has g b) ≡ t → cond t (by_path (reach_path g a b))
    (plain out.NoVertex) ≡ answer g (Reach a b)
unfolding answer
answer_reach g a b t both = ap (λ s. cond s (by_path (reach_path g a b)) (plain out.NoVertex)) (sym both)

pub answer_levels : (g : Graph) (a : ℕ) (t : Bool) → has g a ≡ t → cond t (by_levels (levels_of g a))
    (plain out.NoVertex) ≡ answer g (Levels a)
unfolding answer
answer_levels g a t there = ap (λ s. cond s (by_levels (levels_of g a)) (plain out.NoVertex)) (sym there)

pub answer_cheapest : (g : Graph) (a b : ℕ) (t : Bool) → (has g a && has g b) ≡ t → cond t
    (by_cost (least_cost g a b) (cheapest_path g a b)) (plain out.NoVertex) ≡ answer g (Cheapest a b)
unfolding answer
answer_cheapest g a b t both = ap (λ s. cond s (by_cost (least_cost g a b) (cheapest_path g a b)) (plain out.NoVertex))
    (sym both)

-- the least cost and, where there is one, its path
pub cost_alike : (c d : Option ℕ) (p q : List ℕ) → c ≡ d → ((w : ℕ) → d ≡ Some w → p ≡ q) → by_cost c p ≡ by_cost d q
cost_alike c d p q same path = ap (λ x. by_cost x p) same ∙ by d path
  where
    by : (d : Option ℕ) → ((w : ℕ) → d ≡ Some w → p ≡ q) → by_cost d p ≡ by_cost d q
    by None path = refl
    by (Some w) path = ap (by_cost (Some w)) (path w refl)

module _ (g : Graph) (k : ℕ) where
  pub answer_add_vertex : (b : Bool) → has g k ≡ b → plain (cond b (out.Present 0) out.Added) ≡ answer g (AddVertex k)
  unfolding answer
  answer_add_vertex b e = ap (λ t. plain (cond t (out.Present 0) out.Added)) (sym e)

  pub answer_remove_vertex : (b : Bool) → has g k ≡ b → plain (cond b (out.Removed 0) out.Absent) ≡ answer g
      (RemoveVertex k)
  unfolding answer
  answer_remove_vertex b e = ap (λ t. plain (cond t (out.Removed 0) out.Absent)) (sym e)

  pub answer_has_vertex : (b : Bool) → has g k ≡ b → plain (cond b out.Yes out.No) ≡ answer g (HasVertex k)
  unfolding answer
  answer_has_vertex b e = ap (λ t. plain (cond t out.Yes out.No)) (sym e)

module _ (g : Graph) (a b : ℕ) (t : Bool) (x : Option ℕ) (both : (has g a && has g b) ≡ t)
    (weight : weight_of g a b ≡ x) where
  on_pair : (there : ℕ → Outcome) (gone : Outcome) → cond t (by_weight x there gone)
      (plain out.NoVertex) ≡ on_keys g a b (by_weight (weight_of g a b) there gone)
  on_pair there gone = λ i. cond (sym both i) (by_weight (sym weight i) there gone) (plain out.NoVertex)

  pub answer_add_edge : (w : ℕ) → cond t (by_weight x (there_with w) out.Added) (plain out.NoVertex) ≡ answer g
      (AddEdge a b w)
  unfolding answer
  answer_add_edge w = on_pair (there_with w) out.Added

  pub answer_remove_edge : cond t (by_weight x out.Removed out.NoEdge) (plain out.NoVertex) ≡ answer g (RemoveEdge a b)
  unfolding answer
  answer_remove_edge = on_pair out.Removed out.NoEdge

  pub answer_has_edge : cond t (by_weight x out.Edge out.NoEdge) (plain out.NoVertex) ≡ answer g (HasEdge a b)
  unfolding answer
  answer_has_edge = on_pair out.Edge out.NoEdge

-- the ends of an edge are there
pub both_there : (g : Graph) (a b w : ℕ) → IsGraph g → weight_of g a b ≡ Some w → (has g a && has g b) ≡ true
both_there g a b w sound there = ap₂ (λ s t. s && t) (sound.from_key a b w there) (sound.to_key a b w there)

-- an edge was put, and its source is there; or none was, and it isn't
pub source_there : (t : Bool) (x y : Option ℕ) (r : Option (Option ℕ)) → r ≡ cond t (Some x) None → r ≡ Some y
    → (t ≡ true) × (y ≡ x)
source_there true x y r e f = let same : Some y ≡ Some x = sym f ∙ e in (refl, cc)
source_there false x y r e f = let no : None ≡ Some y = sym e ∙ f in absurd (cc)

pub source_gone : (t : Bool) (x : Option ℕ) (r : Option (Option ℕ)) → r ≡ cond t (Some x) None → r ≡ None → t ≡ false
source_gone true x r e f = let no : None ≡ Some x = sym f ∙ e in absurd (cc)
source_gone false x r e f = refl

-- no edge leads from a key that isn't there
pub no_edge_from : (g : Graph) (a b : ℕ) → IsGraph g → has g a ≡ false → weight_of g a b ≡ None
no_edge_from g a b sound gone = by (weight_of g a b) refl
  where
    by : (o : Option ℕ) → weight_of g a b ≡ o → weight_of g a b ≡ None
    by None e = e
    by (Some w) e = absurd (true≢false (sym (sound.from_key a b w e) ∙ gone))

-- where one of two keys isn't there, an add of an edge between them is answered so, and leaves all
module _ (g : Graph) (a b w : ℕ) (lacks : (has g a && has g b) ≡ false) where
  pub lacks_end : plain out.NoVertex ≡ answer g (AddEdge a b w)
  lacks_end = answer_add_edge g a b false (weight_of g a b) lacks refl w

  pub lacks_end_left : g ≡ after g (AddEdge a b w)
  lacks_end_left = after_outcome g (AddEdge a b w) out.NoVertex lacks_end

pub lacks_source : (s t : Bool) → s ≡ false → (s && t) ≡ false
lacks_source s t e = ap (λ x. x && t) e

pub lacks_target : (s t : Bool) → t ≡ false → (s && t) ≡ false
lacks_target true t e = e
lacks_target false t e = refl

-- where both ends are there, the weight before is told and the edge is put
module _ (g h : Graph) (a b w : ℕ) (o : Option (Option ℕ)) (x : Option ℕ)
    (told : o ≡ cond (has g a) (Some (weight_of g a b)) None) (is : o ≡ Some x) where
  there : (has g a ≡ true) × (x ≡ weight_of g a b)
  there = source_there (has g a) (weight_of g a b) x o told is

  pub entered_both : has g b ≡ true → (has g a && has g b) ≡ true
  entered_both to = ap₂ (λ s t. s && t) there.0 to

  pub entered_weight : weight_of g a b ≡ x
  entered_weight = sym there.1

  pub entered_graph : h ≡ cond (has g a) (change g (AddEdge a b w)) g → h ≡ change g (AddEdge a b w)
  entered_graph e = e ∙ ap (λ t. cond t (change g (AddEdge a b w)) g) there.0

-- where there is no edge between two keys: what is answered by which of them are there, and that a removal leaves all
module _ (g : Graph) (a b : ℕ) (none : weight_of g a b ≡ None) where
  plain_by : (t : Bool) → plain (cond t out.NoEdge out.NoVertex) ≡ cond t (plain out.NoEdge) (plain out.NoVertex)
  plain_by true = refl
  plain_by false = refl

  quiet : (t : Bool) → is_change (cond t out.NoEdge out.NoVertex) ≡ false
  quiet true = refl
  quiet false = refl

  module _ (o : Outcome) (is : o ≡ cond (has g a && has g b) out.NoEdge out.NoVertex) where
    pub no_edge_there : plain o ≡ answer g (HasEdge a b)
    no_edge_there = ap plain is ∙ (plain_by (has g a && has g b)
        ∙ answer_has_edge g a b (has g a && has g b) None refl none)

    pub no_edge_removed : plain o ≡ answer g (RemoveEdge a b)
    no_edge_removed = ap plain is ∙ (plain_by (has g a && has g b)
        ∙ answer_remove_edge g a b (has g a && has g b) None refl none)

    pub no_edge_left : g ≡ after g (RemoveEdge a b)
    no_edge_left = sym (ap (λ t. cond t (change g (RemoveEdge a b)) g)
        (ap (λ x. is_change x) is ∙ quiet (has g a && has g b)))
        ∙ after_outcome g (RemoveEdge a b) o no_edge_removed

-- which keys are there, by the source and then by the target
pub by_source : (s t : Bool) → s ≡ false → out.NoVertex ≡ cond (s && t) out.NoEdge out.NoVertex
by_source s t gone = sym (ap (λ x. cond (x && t) out.NoEdge out.NoVertex) gone)

pub by_target : (s t : Bool) (o : Outcome) → s ≡ true → o ≡ cond t out.NoEdge out.NoVertex → o ≡ cond (s && t)
    out.NoEdge out.NoVertex
by_target s t o there is = is ∙ sym (ap (λ x. cond (x && t) out.NoEdge out.NoVertex) there)

-- what equals a weight is that weight
pub is_some_of : (x : Option ℕ) (w : ℕ) → true ≡ option_eq eqb x (Some w) → x ≡ Some w
is_some_of None w e = absurd (true≢false e)
is_some_of (Some x) w e = ap (λ n. Some n) (eqb-true x w (sym e))

-- an add of an edge, by the weight before: where it's this one, it's present, and else replaced
pub add_by : (w : ℕ) (x : Option ℕ) → by_weight x (there_with w) out.Added ≡ cond (option_eq eqb x (Some w))
    (plain (out.Present w)) (plain (outcome_of_put x))
add_by w None = refl
add_by w (Some x) = by (x == w) refl
  where
    by : (t : Bool) → (x == w) ≡ t → plain (cond t (out.Present x) (out.Changed x)) ≡ cond t (plain (out.Present w))
        (plain (out.Changed x))
    by true e = ap (λ n. plain (out.Present n)) (eqb-true x w e)
    by false e = refl

module _ (g : Graph) (a b w : ℕ) (x : Option ℕ) (both : (has g a && has g b) ≡ true)
    (weight : weight_of g a b ≡ x) where
  added_by : cond (option_eq eqb x (Some w)) (plain (out.Present w)) (plain (outcome_of_put x)) ≡ answer g
      (AddEdge a b w)
  added_by = sym (add_by w x) ∙ answer_add_edge g a b true x both weight w

  pub present_is : true ≡ option_eq eqb x (Some w) → plain (out.Present w) ≡ answer g (AddEdge a b w)
  present_is same = ap (λ t. cond t (plain (out.Present w)) (plain (outcome_of_put x))) same ∙ added_by

  module _ (other : false ≡ option_eq eqb x (Some w)) where
    replaced : plain (outcome_of_put x) ≡ answer g (AddEdge a b w)
    replaced = ap (λ t. cond t (plain (out.Present w)) (plain (outcome_of_put x))) other ∙ added_by

    pub replaced_is : (o : Outcome) → o ≡ outcome_of_put x → plain o ≡ answer g (AddEdge a b w)
    replaced_is o is = ap plain is ∙ replaced

    pub replaced_after : change g (AddEdge a b w) ≡ after g (AddEdge a b w)
    replaced_after = sym (ap (λ t. cond t (change g (AddEdge a b w)) g) (changes x)) ∙ after_outcome g (AddEdge a b w)
        (outcome_of_put x) replaced
      where
        changes : (x : Option ℕ) → is_change (outcome_of_put x) ≡ true
        changes None = refl
        changes (Some y) = refl

there_below : (limit w x : ℕ) → CostIsBelow limit (there_with w x)
there_below limit w x = elim (x == w) as (λ t. CostIsBelow limit (cond t (out.Present x) (out.Changed x)))
    [ true ↦ tt | false ↦ tt ]

-- only a cheapest path has a cost
module _ (limit : ℕ) where
  plain_either : (b : Bool) (x y : Outcome) → CostIsBelow limit x → CostIsBelow limit y → CostIsBelow limit (cond b x y)
  plain_either true x y p q = p
  plain_either false x y p q = q

  either : (b : Bool) (x y : Answer) → CostIsBelow limit x.outcome → CostIsBelow limit y.outcome → CostIsBelow limit
      (cond b x y).outcome
  either true x y p q = p
  either false x y p q = q

  weighted : (o : Option ℕ) (there : ℕ → Outcome) (gone : Outcome) → ((w : ℕ) → CostIsBelow limit (there w))
      → CostIsBelow limit gone → CostIsBelow limit (by_weight o there gone).outcome
  weighted None there gone p q = q
  weighted (Some w) there gone p q = p w

  path_below : (o : Option (List ℕ)) → CostIsBelow limit (by_path o).outcome
  path_below None = tt
  path_below (Some p) = tt

  pub reach_below : (g : Graph) (a b : ℕ) → CostIsBelow limit (answer g (Reach a b)).outcome
  unfolding answer
  reach_below g a b = either (has g a && has g b) (by_path (reach_path g a b)) (plain out.NoVertex)
      (path_below (reach_path g a b)) tt

  pub levels_below : (g : Graph) (a : ℕ) → CostIsBelow limit (answer g (Levels a)).outcome
  unfolding answer
  levels_below g a = either (has g a) (by_levels (levels_of g a)) (plain out.NoVertex) tt tt

  update_below : (g : Graph) (call : Call) → ¬ (IsPathCall call) → CostIsBelow limit (answer g call).outcome
  unfolding answer
  update_below g (AddVertex k) update = plain_either (has g k) (out.Present 0) out.Added tt tt
  update_below g (RemoveVertex k) update = plain_either (has g k) (out.Removed 0) out.Absent tt tt
  update_below g (HasVertex k) update = plain_either (has g k) out.Yes out.No tt tt
  update_below g (AddEdge a b w) update = either (has g a && has g b)
      (by_weight (weight_of g a b) (there_with w) out.Added) (plain out.NoVertex)
      (weighted (weight_of g a b) (there_with w) out.Added (there_below limit w) tt) tt
  update_below g (RemoveEdge a b) update = either (has g a && has g b)
      (by_weight (weight_of g a b) out.Removed out.NoEdge) (plain out.NoVertex)
      (weighted (weight_of g a b) out.Removed out.NoEdge (λ _. tt) tt) tt
  update_below g (HasEdge a b) update = either (has g a && has g b) (by_weight (weight_of g a b) out.Edge out.NoEdge)
      (plain out.NoVertex) (weighted (weight_of g a b) out.Edge out.NoEdge (λ _. tt) tt) tt
  update_below g (Reach a b) update = absurd (update tt)
  update_below g (Levels a) update = absurd (update tt)
  update_below g (Cheapest a b) update = absurd (update tt)

  pub updated_below : (g : Graph) (call : Call) (a : Answer) → ¬ (IsPathCall call) → a ≡ answer g call
      → CostIsBelow limit a.outcome
  updated_below g call a update is = subst (λ (x : Answer). CostIsBelow limit x.outcome) (sym is)
      (update_below g call update)

  -- an outcome whose cost, if it's one, is below the limit
  pub outcome_below : (o : Outcome) → ((c : ℕ) → o ≡ out.Cost c → c < limit) → CostIsBelow limit o
  outcome_below (out.Cost c) h = h c refl
  outcome_below _ h = tt

  -- where a call succeeded with such an answer
  pub ok_below : {E : Type 0} (r : Result Answer E) (x : Answer) → IfOk r (λ a. a ≡ x) → CostIsBelow limit x.outcome
      → IfOk r (λ a. CostIsBelow limit a.outcome)
  ok_below (Ok a) x e h = subst (λ (y : Answer). CostIsBelow limit y.outcome) (sym e) h
  ok_below (Err e) x is h = tt
