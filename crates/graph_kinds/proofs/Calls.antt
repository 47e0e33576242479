-- What calls answer and change: plain outcomes, valid graphs, counts, and a replay that is legal.
use Rattle.std.proofs.Common.{◌≡◌, ℕ, ◌+◌, ◌-◌, ◌≤◌, Bool, true, false, cond, not, ◌&&◌, ◌||◌, ◌==◌, List, [], ◌∷◌}
use Rattle.std.proofs.Common.{length, Option, Some, None, refl, sym, ap, ◌∙◌, true≢false, arith, eqb-true, subst}
use Rattle.std.specs.Prelude.{is_some, suc}
use Rattle.std.specs.Cmp.{nat_cmp_total}
use Rattle.std.specs.FinMap as map
use Rattle.std.specs.FinSet as set
use Rattle.graph_kinds.specs.declared.call.Call.{Call}
use Rattle.graph_kinds.specs.declared.call.Call.TheVariants.{AddVertex, RemoveVertex, HasVertex, AddEdge, RemoveEdge}
use Rattle.graph_kinds.specs.declared.call.Call.TheVariants.{HasEdge, Reach, Levels, Cheapest}
use Rattle.graph_kinds.specs.declared.call.Row.{Row}
use Rattle.graph_kinds.specs.declared.outcome.Outcome.{Outcome}
use Rattle.graph_kinds.specs.declared.outcome.Outcome.TheVariants as out
use Rattle.graph_kinds.specs.declared.answer.Answer.{Answer}
use Rattle.graph_kinds.specs.Graph.{Graph, IsGraph, pair_cmp, empty_graph, has, weight_of, key_count, pair_count}
use Rattle.graph_kinds.specs.Answer.{IsWellMade, answer, alters, needs_node, after, change, without, is_change}
use Rattle.graph_kinds.specs.Answer.{is_added, plain, by_weight, on_keys, by_path, by_levels, by_cost, answers}
use Rattle.graph_kinds.specs.Answer.{after_all, there_with, is_new, grows}
use Rattle.graph_kinds.specs.Levels.{reach_path, levels_of}
use Rattle.graph_kinds.specs.Path.{least_cost, cheapest_path}
use Rattle.graph_kinds.specs.History.{Item, Demand, LegalFrom, left_by, answered, calls_of, item_by}
use Rattle.graph_kinds.proofs.Graphs.{pair_total, same_graph, has_put, has_cut, weight_put, weight_cut, weight_kept}
use Rattle.graph_kinds.proofs.Graphs.{len-retain_keys}

or_true : (b : Bool) → (b || true) ≡ true
or_true true = refl
or_true false = refl

pub and_left : (a b : Bool) → (a && b) ≡ true → a ≡ true
and_left true b e = refl
and_left false b e = absurd (true≢false (sym e))

pub and_right : (a b : Bool) → (a && b) ≡ true → b ≡ true
and_right true b e = e
and_right false b e = absurd (true≢false (sym e))

-- an outcome that a graph alone gives
abbrev pub IsPlain : Outcome → Type 0
IsPlain out.Overtaken = ⊥
IsPlain out.Full = ⊥
IsPlain out.Again = ⊥
IsPlain out.Worn = ⊥
IsPlain _ = Unit {0}

plain_weight : (w : Option ℕ) (there : ℕ → Outcome) (gone : Outcome) → ((x : ℕ) → IsPlain (there x)) → IsPlain gone
    → IsPlain (by_weight w there gone).outcome
plain_weight None there gone p q = q
plain_weight (Some w) there gone p q = p w

plain_there : (w x : ℕ) → IsPlain (there_with w x)
plain_there w x = elim (x == w) as (λ t. IsPlain (cond t (out.Present x) (out.Changed x))) [ true ↦ tt | false ↦ tt ]

plain_path : (p : Option (List ℕ)) → IsPlain (by_path p).outcome
plain_path None = tt
plain_path (Some p) = tt

plain_cost : (c : Option ℕ) (p : List ℕ) → IsPlain (by_cost c p).outcome
plain_cost None p = tt
plain_cost (Some c) p = tt

plain_keys : (g : Graph) (a b : ℕ) (r : Answer) → IsPlain r.outcome → IsPlain (on_keys g a b r).outcome
plain_keys g a b r p = elim (has g a && has g b) as (λ t. IsPlain (cond t r (plain out.NoVertex)).outcome)
    [ true ↦ p | false ↦ tt ]

-- an answer is never Overtaken, Full, Again or Worn
pub answer-plain : (g : Graph) (c : Call) → IsPlain (answer g c).outcome
unfolding answer
answer-plain g (AddVertex k) = elim (has g k) as (λ b. IsPlain (cond b (out.Present 0) out.Added))
    [ true ↦ tt | false ↦ tt ]
answer-plain g (RemoveVertex k) = elim (has g k) as (λ b. IsPlain (cond b (out.Removed 0) out.Absent))
    [ true ↦ tt | false ↦ tt ]
answer-plain g (HasVertex k) = elim (has g k) as (λ b. IsPlain (cond b out.Yes out.No)) [ true ↦ tt | false ↦ tt ]
answer-plain g (AddEdge a b w) = plain_keys g a b _ (plain_weight (weight_of g a b) (there_with w) out.Added
    (plain_there w) tt)
answer-plain g (RemoveEdge a b) = plain_keys g a b _ (plain_weight (weight_of g a b) out.Removed out.NoEdge
    (λ x. tt) tt)
answer-plain g (HasEdge a b) = plain_keys g a b _ (plain_weight (weight_of g a b) out.Edge out.NoEdge (λ x. tt) tt)
answer-plain g (Reach a b) = plain_keys g a b _ (plain_path (reach_path g a b))
answer-plain g (Levels a) = elim (has g a) as (λ t. IsPlain (cond t (by_levels (levels_of g a))
    (plain out.NoVertex)).outcome) [ true ↦ tt | false ↦ tt ]
answer-plain g (Cheapest a b) = plain_keys g a b _ (plain_cost (least_cost g a b) (cheapest_path g a b))

pub after_same : (g : Graph) (c : Call) → alters g c ≡ false → after g c ≡ g
unfolding after
after_same g c e = ap (λ b. cond b (change g c) g) e

pub after_change : (g : Graph) (c : Call) → alters g c ≡ true → after g c ≡ change g c
unfolding after
after_change g c e = ap (λ b. cond b (change g c) g) e

-- what holds of the graph, and of the changed graph where the call alters it, holds after a call
module _ (P : Graph → Type 0) (g : Graph) (c : Call) where
  pub after_either : (alters g c ≡ true → P (change g c)) → P g → P (after g c)
  after_either changed same = by (alters g c) refl
    where
      by : (b : Bool) → alters g c ≡ b → P (after g c)
      by true e = subst P (sym (after_change g c e)) (changed e)
      by false e = subst P (sym (after_same g c e)) same

-- an edge call that changes something finds both keys
pub keys_there : (g : Graph) (a b : ℕ) (r : Answer) → is_change (on_keys g a b r).outcome ≡ true →
    (has g a && has g b) ≡ true
keys_there g a b r e = by (has g a && has g b) e
  where
    by : (t : Bool) → is_change (cond t r (plain out.NoVertex)).outcome ≡ true → t ≡ true
    by true e = refl
    by false e = absurd (true≢false (sym e))

-- a pair that has no end among the keys has no weight
pub no_weight : (g : Graph) → IsGraph g → (a b : ℕ) → (has g a && has g b) ≡ false → weight_of g a b ≡ None
no_weight g v a b gone = by (weight_of g a b) refl
  where
    by : (w : Option ℕ) → weight_of g a b ≡ w → w ≡ None
    by None e = refl
    by (Some w) e = absurd (true≢false (sym (ap (λ t. t && has g b) (v.from_key a b w e) ∙ v.to_key a b w e) ∙ gone))

same_yes : (b c : Bool) → cond b out.Yes out.No ≡ cond c out.Yes out.No → b ≡ c
same_yes true true e = refl
same_yes true false e = absurd (cc)
same_yes false true e = absurd (cc)
same_yes false false e = refl

same_weight : (v w : Option ℕ) → (by_weight v out.Edge out.NoEdge).outcome ≡ (by_weight w out.Edge out.NoEdge).outcome
    → v ≡ w
same_weight None None e = refl
same_weight None (Some w) e = absurd (cc)
same_weight (Some v) None e = absurd (cc)
same_weight (Some v) (Some w) e = let same : v ≡ w = cc in ap (λ (x : ℕ). Some x) same

pub alike-same : (g h : Graph) → IsGraph g → IsGraph h → ((c : Call) → answer g c ≡ answer h c) → g ≡ h
unfolding answer
alike-same g h valid_g valid_h alike = same_graph g h keys weights
  where
    keys : (k : ℕ) → has g k ≡ has h k
    keys k = same_yes (has g k) (has h k) (ap (λ (r : Answer). r.outcome) (alike (HasVertex k)))

    both : (a b : ℕ) → (has g a && has g b) ≡ (has h a && has h b)
    both a b = λ i. keys a i && keys b i

    at : (a b : ℕ) (t : Bool) → (has g a && has g b) ≡ t → weight_of g a b ≡ weight_of h a b
    at a b false e = no_weight g valid_g a b e ∙ sym (no_weight h valid_h a b (sym (both a b) ∙ e))
    at a b true e =
        let left : (on_keys g a b (by_weight (weight_of g a b) out.Edge out.NoEdge)).outcome ≡
        (by_weight (weight_of g a b) out.Edge out.NoEdge).outcome =
        ap (λ t. (cond t (by_weight (weight_of g a b) out.Edge out.NoEdge) (plain out.NoVertex)).outcome) e in
        let right : (on_keys h a b (by_weight (weight_of h a b) out.Edge out.NoEdge)).outcome ≡
        (by_weight (weight_of h a b) out.Edge out.NoEdge).outcome =
        ap (λ t. (cond t (by_weight (weight_of h a b) out.Edge out.NoEdge) (plain out.NoVertex)).outcome)
        (sym (both a b) ∙ e) in
        same_weight _ _ (sym left ∙ (ap (λ (r : Answer). r.outcome) (alike (HasEdge a b)) ∙ right))

    weights : (a b : ℕ) → weight_of g a b ≡ weight_of h a b
    weights a b = at a b (has g a && has g b) refl

pub empty_valid : IsGraph empty_graph
empty_valid = record {
  from_key = λ a b w e. absurd (none a b w e);
  to_key = λ a b w e. absurd (none a b w e);
  weighed = λ a b w e. absurd (none a b w e);
}
  where
    none : (a b w : ℕ) → weight_of empty_graph a b ≡ Some w → ⊥
    none a b w e = let h : None ≡ Some w = sym (map.get-empty pair_cmp (a, b)) ∙ e in absurd (cc)

vertex_added : (g : Graph) (k : ℕ) → IsGraph g → IsGraph (change g (AddVertex k))
vertex_added g k v = record {
  from_key = λ a b w e. has_put g.keys k a ∙ (ap (λ t. (a == k) || t) (v.from_key a b w e) ∙ or_true (a == k));
  to_key = λ a b w e. has_put g.keys k b ∙ (ap (λ t. (b == k) || t) (v.to_key a b w e) ∙ or_true (b == k));
  weighed = v.weighed;
}

kept_some : (t : Bool) (x : Option ℕ) (w : ℕ) → cond t x None ≡ Some w → (t ≡ true) × (x ≡ Some w)
kept_some true x w e = (refl, e)
kept_some false x w e = absurd (cc)

vertex_removed : (g : Graph) (k : ℕ) → IsGraph g → IsGraph (without g k)
vertex_removed g k v = record {
  from_key = λ a b w e. let s = at a b w e in has_cut g.keys k a ∙
      (λ i. and_left (not (a == k)) (not (b == k)) s.0 i && v.from_key a b w s.1 i);
  to_key = λ a b w e. let s = at a b w e in has_cut g.keys k b ∙
      (λ i. and_right (not (a == k)) (not (b == k)) s.0 i && v.to_key a b w s.1 i);
  weighed = λ a b w e. v.weighed a b w (at a b w e).1;
}
  where
    at : (a b w : ℕ) → weight_of (without g k) a b ≡ Some w → ((not (a == k) && not (b == k)) ≡ true) ×
        (weight_of g a b ≡ Some w)
    at a b w e = kept_some (not (a == k) && not (b == k)) (weight_of g a b) w
        (sym (weight_kept g.pairs (λ p. not (p.0 == k) && not (p.1 == k)) a b) ∙ e)

edge_added : (g : Graph) (c d x : ℕ) → IsGraph g → 1 ≤ x → (has g c && has g d) ≡ true → IsGraph
    (change g (AddEdge c d x))
edge_added g c d x v some there = record {
  from_key = λ a b w e. by_new (λ w. has g a ≡ true) a b w e (λ f s. subst (λ k. has g k ≡ true) (sym f)
      (and_left (has g c) (has g d) there)) (v.from_key a b w);
  to_key = λ a b w e. by_new (λ w. has g b ≡ true) a b w e (λ f s. subst (λ k. has g k ≡ true) (sym s)
      (and_right (has g c) (has g d) there)) (v.to_key a b w);
  weighed = λ a b w e. by_new (λ w. 1 ≤ w) a b w e (λ f s. some) (v.weighed a b w);
}
  where
    split : (P : ℕ → Type 0) (t : Bool) (o : Option ℕ) (w : ℕ) → cond t (Some x) o ≡ Some w → (t ≡ true → P x) →
        (o ≡ Some w → P w) → P w
    split P true o w e new old = let same : x ≡ w = cc in subst P same (new refl)
    split P false o w e new old = old e

    by_new : (P : ℕ → Type 0) (a b w : ℕ) → weight_of (change g (AddEdge c d x)) a b ≡ Some w → (a ≡ c → b ≡ d → P x) →
        (weight_of g a b ≡ Some w → P w) → P w
    by_new P a b w e new old =
        split P ((a == c) && (b == d)) (weight_of g a b) w (sym (weight_put g.pairs c d x a b) ∙ e)
        (λ t. new (eqb-true a c (and_left (a == c) (b == d) t)) (eqb-true b d (and_right (a == c) (b == d) t))) old

edge_removed : (g : Graph) (c d : ℕ) → IsGraph g → IsGraph (change g (RemoveEdge c d))
edge_removed g c d v = record {
  from_key = λ a b w e. v.from_key a b w (at a b w e);
  to_key = λ a b w e. v.to_key a b w (at a b w e);
  weighed = λ a b w e. v.weighed a b w (at a b w e);
}
  where
    old : (t : Bool) (o : Option ℕ) (w : ℕ) → cond t None o ≡ Some w → o ≡ Some w
    old true o w e = absurd (cc)
    old false o w e = e

    at : (a b w : ℕ) → weight_of (change g (RemoveEdge c d)) a b ≡ Some w → weight_of g a b ≡ Some w
    at a b w e = old ((a == c) && (b == d)) (weight_of g a b) w (sym (weight_cut g.pairs c d a b) ∙ e)

pub after_valid : (g : Graph) (c : Call) → IsWellMade c → IsGraph g → IsGraph (after g c)
unfolding alters answer
after_valid g c made v = after_either IsGraph g c (λ e. by c made e) v
  where
    by : (c : Call) → IsWellMade c → alters g c ≡ true → IsGraph (change g c)
    by (AddVertex k) made e = vertex_added g k v
    by (RemoveVertex k) made e = vertex_removed g k v
    by (HasVertex k) made e = v
    by (AddEdge a b w) made e = edge_added g a b w v made (keys_there g a b _ e)
    by (RemoveEdge a b) made e = edge_removed g a b v
    by (HasEdge a b) made e = v
    by (Reach a b) made e = v
    by (Levels a) made e = v
    by (Cheapest a b) made e = v

-- an answer that adds is not one that removes, looks up or asks for a way
no_add_weight : (g : Graph) (a b : ℕ) (there : ℕ → Outcome) (gone : Outcome) → ((w : ℕ) → is_new (there w) ≡ false)
    → is_new gone ≡ false → is_new (on_keys g a b (by_weight (weight_of g a b) there gone)).outcome ≡ false
no_add_weight g a b there gone p q = by (has g a && has g b) (weight_of g a b)
  where
    by : (t : Bool) (w : Option ℕ) → is_new (cond t (by_weight w there gone) (plain out.NoVertex)).outcome ≡ false
    by false w = refl
    by true None = q
    by true (Some w) = p w

added_there : (g : Graph) (a b u : ℕ) → is_new (on_keys g a b
    (by_weight (weight_of g a b) (there_with u) out.Added)).outcome ≡ true → ((has g a && has g b) ≡ true) ×
    (weight_of g a b ≡ None)
added_there g a b u e = by (has g a && has g b) (weight_of g a b) e
  where
    by : (t : Bool) (w : Option ℕ) → is_new (cond t (by_weight w (there_with u) out.Added) (plain out.NoVertex)).outcome
        ≡ true → (t ≡ true) × (w ≡ None)
    by false w e = absurd (true≢false (sym e))
    by true None e = (refl, refl)
    by true (Some w) e = absurd (elim (w == u) as (λ t. is_new (cond t (out.Present w) (out.Changed w)) ≡ true → ⊥)
        [ true ↦ λ f. true≢false (sym f) | false ↦ λ f. true≢false (sym f) ] e)

fresh_key : (g : Graph) (k : ℕ) → is_new (cond (has g k) (out.Present 0) out.Added) ≡ true → has g k ≡ false
fresh_key g k e = by (has g k) e
  where
    by : (t : Bool) → is_new (cond t (out.Present 0) out.Added) ≡ true → t ≡ false
    by true e = absurd (true≢false (sym e))
    by false e = refl

pub added_alters : (g : Graph) (c : Call) → needs_node g c ≡ true → alters g c ≡ true
unfolding needs_node alters
added_alters g c e = by (answer g c).outcome e
  where
    by : (o : Outcome) → is_added o ≡ true → is_change o ≡ true
    by out.Added e = refl
    by (out.Changed w) e = refl
    by out.Overtaken e = absurd (true≢false (sym e))
    by _ e = absurd (true≢false (sym e))

new_alters : (g : Graph) (c : Call) → grows g c ≡ true → alters g c ≡ true
unfolding grows alters
new_alters g c e = by (answer g c).outcome e
  where
    by : (o : Outcome) → is_new o ≡ true → is_change o ≡ true
    by out.Added e = refl
    by _ e = absurd (true≢false (sym e))

key_more : (g : Graph) (k : ℕ) → has g k ≡ false → set.len (set.insert g.keys k) ≡ set.len g.keys + 1
key_more g k e = set.len-insert nat_cmp_total g.keys k ∙ ap (λ t. cond t (set.len g.keys) (set.len g.keys + 1)) e

pair_more : (g : Graph) (a b w : ℕ) → weight_of g a b ≡ None → map.len
    (map.insert g.pairs (a, b) w) ≡ map.len g.pairs + 1
pair_more g a b w e = map.len-insert pair_total g.pairs (a, b) w ∙ ap
    (λ o. cond (is_some o) (map.len g.pairs) (map.len g.pairs + 1)) e

pub one_more : (g : Graph) (c : Call) → grows g c ≡ true → key_count (after g c) + pair_count
    (after g c) ≡ key_count g + pair_count g + 1
unfolding grows answer
one_more g c e = subst (λ (h : Graph). key_count h + pair_count h ≡ key_count g + pair_count g + 1)
    (sym (after_change g c (new_alters g c e))) (by c e)
  where
    no : (c : Call) → is_new (answer g c).outcome ≡ false → is_new (answer g c).outcome ≡ true → key_count
        (change g c) + pair_count (change g c) ≡ key_count g + pair_count g + 1
    no c f t = absurd (true≢false (sym t ∙ f))

    by : (c : Call) → grows g c ≡ true → key_count (change g c) + pair_count
        (change g c) ≡ key_count g + pair_count g + 1
    by (AddVertex k) e = let h = key_more g k (fresh_key g k e) in omega arith
    by (RemoveVertex k) e = no (RemoveVertex k) (elim (has g k) as
        (λ t. is_new (cond t (out.Removed 0) out.Absent) ≡ false) [ true ↦ refl | false ↦ refl ]) e
    by (HasVertex k) e = no (HasVertex k) (elim (has g k) as (λ t. is_new (cond t out.Yes out.No) ≡ false)
        [ true ↦ refl | false ↦ refl ]) e
    by (AddEdge a b w) e = let h = pair_more g a b w (added_there g a b w e).1 in omega arith
    by (RemoveEdge a b) e = no (RemoveEdge a b) (no_add_weight g a b out.Removed out.NoEdge (λ w. refl) refl) e
    by (HasEdge a b) e = no (HasEdge a b) (no_add_weight g a b out.Edge out.NoEdge (λ w. refl) refl) e
    by (Reach a b) e = no (Reach a b) (elim (has g a && has g b) as
        (λ t. is_new (cond t (by_path (reach_path g a b)) (plain out.NoVertex)).outcome ≡ false) [
          | true ↦ elim (reach_path g a b) as (λ p. is_new (by_path p).outcome ≡ false) [ None ↦ refl | Some p ↦ refl ]
          | false ↦ refl
        ]) e
    by (Levels a) e = no (Levels a) (elim (has g a) as (λ t. is_new
        (cond t (by_levels (levels_of g a)) (plain out.NoVertex)).outcome ≡ false) [ true ↦ refl | false ↦ refl ]) e
    by (Cheapest a b) e = no (Cheapest a b) (elim (has g a && has g b) as
        (λ t. is_new (cond t (by_cost (least_cost g a b) (cheapest_path g a b)) (plain out.NoVertex)).outcome ≡ false) [
          | true ↦ elim (least_cost g a b) as (λ c. is_new (by_cost c (cheapest_path g a b)).outcome ≡ false)
              [ None ↦ refl | Some c ↦ refl ]
          | false ↦ refl
        ]) e

key_less : (g : Graph) (k : ℕ) → set.len (set.remove g.keys k) ≤ set.len g.keys
key_less g k = let h = set.len-remove nat_cmp_total g.keys k in by (set.contains g.keys k) h
  where
    by : (t : Bool) → set.len (set.remove g.keys k) ≡ cond t (set.len g.keys - 1) (set.len g.keys) → set.len
        (set.remove g.keys k) ≤ set.len g.keys
    by true h = omega arith
    by false h = omega arith

pair_less : (g : Graph) (a b : ℕ) → map.len (map.remove g.pairs (a, b)) ≤ map.len g.pairs
pair_less g a b = let h = map.len-remove pair_total g.pairs (a, b) in by (map.contains_key g.pairs (a, b)) h
  where
    by : (t : Bool) → map.len (map.remove g.pairs (a, b)) ≡ cond t (map.len g.pairs - 1) (map.len g.pairs) → map.len
        (map.remove g.pairs (a, b)) ≤ map.len g.pairs
    by true h = omega arith
    by false h = omega arith

pub none_more : (g : Graph) (c : Call) → grows g c ≡ false → key_count (after g c) + pair_count
    (after g c) ≤ key_count g + pair_count g
unfolding grows alters answer
none_more g c e = after_either (λ (h : Graph). key_count h + pair_count h ≤ key_count g + pair_count g) g c (by c e)
    (omega arith)
  where
    adds : (o : Outcome) → is_new o ≡ false → is_change o ≡ true → ((w : ℕ) → o ≡ out.Removed w → ⊥) →
        ((w : ℕ) → o ≡ out.Changed w → ⊥) → ⊥
    adds out.Added f t r c = absurd (true≢false f)
    adds (out.Removed w) f t r c = r w refl
    adds (out.Changed w) f t r c = c w refl
    adds _ f t r c = true≢false (sym t)

    vertex : (t : Bool) (w : ℕ) → cond t (out.Present 0) out.Added ≡ out.Removed w → ⊥
    vertex true w e = cc
    vertex false w e = cc

    unchanged : (t : Bool) (w : ℕ) → cond t (out.Present 0) out.Added ≡ out.Changed w → ⊥
    unchanged true w e = cc
    unchanged false w e = cc

    edge : (t : Bool) (o : Option ℕ) (w : ℕ) → is_new (cond t (by_weight o (there_with w) out.Added)
        (plain out.NoVertex)).outcome ≡ false
        → is_change (cond t (by_weight o (there_with w) out.Added) (plain out.NoVertex)).outcome ≡ true
        → is_some o ≡ true
    edge true None w e a = absurd (true≢false e)
    edge true (Some x) w e a = refl
    edge false o w e a = absurd (true≢false (sym a))

    by : (c : Call) → grows g c ≡ false → alters g c ≡ true → key_count (change g c) + pair_count
        (change g c) ≤ key_count g + pair_count g
    by (AddVertex k) e a = absurd (adds (cond (has g k) (out.Present 0) out.Added) e a (vertex (has g k))
        (unchanged (has g k)))
    by (RemoveVertex k) e a = let h = key_less g k in let i = len-retain_keys g.pairs
        (λ p. not (p.0 == k) && not (p.1 == k)) in omega arith
    by (HasVertex k) e a = omega arith
    by (AddEdge c d w) e a =
        let there = edge (has g c && has g d) (weight_of g c d) w e a in
        let h = map.len-insert pair_total g.pairs (c, d) w ∙ ap
        (λ t. cond t (map.len g.pairs) (map.len g.pairs + 1)) there in omega arith
    by (RemoveEdge c d) e a = let h = pair_less g c d in omega arith
    by (HasEdge c d) e a = omega arith
    by (Reach c d) e a = omega arith
    by (Levels c) e a = omega arith
    by (Cheapest c d) e a = omega arith

demand_plain : (o : Outcome) → IsPlain o → (r : Answer) (g : Graph) (i : Item) (later : List Item) → r ≡ answer g i.call
    → Demand o r g i later
demand_plain out.Overtaken p r g i later e = absurd p
demand_plain out.Full p r g i later e = absurd p
demand_plain out.Again p r g i later e = absurd p
demand_plain _ p r g i later e = e

left_plain : (o : Outcome) → IsPlain o → (g : Graph) (c : Call) → left_by o g c ≡ after g c
left_plain out.Overtaken p g c = absurd p
left_plain out.Full p g c = absurd p
left_plain out.Again p g c = absurd p
left_plain _ p g c = refl

pub replay_legal : (g : Graph) (rows : List Row) → LegalFrom g (answered rows (answers g (calls_of rows)))
    (after_all g (calls_of rows))
replay_legal g [] = refl
replay_legal g (r ∷ rows) = (
  demand_plain (answer g r.call).outcome (answer-plain g r.call) (answer g r.call) g (item_by (r, answer g r.call))
      (answered rows (answers (after g r.call) (calls_of rows))) refl,
  subst (λ (h : Graph). LegalFrom h (answered rows (answers (after g r.call) (calls_of rows)))
      (after_all (after g r.call) (calls_of rows)))
      (sym (left_plain (answer g r.call).outcome (answer-plain g r.call) g r.call))
      (replay_legal (after g r.call) rows),
)

pub length-answers : (g : Graph) (rows : List Row) → length (answers g (calls_of rows)) ≡ length rows
length-answers g [] = refl
length-answers g (r ∷ rows) = ap (λ n. suc n) (length-answers (after g r.call) rows)
