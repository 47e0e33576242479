-- What maps hold after edges were taken out of them, and how many edges that leaves.
use Rattle.std.proofs.Common.{◌≡◌, ℕ, ◌+◌, ◌-◌, ◌==◌, ◌&&◌, eqb-true, eq-eqb, Bool, true, false, cond, List, []}
use Rattle.std.proofs.Common.{◌∷◌, Option, Some, None, is_some, true≢false, refl, sym, ap, subst, ◌∙◌, arith}
use Rattle.std.specs.Prelude.{IsSome}
use Rattle.std.specs.Ordering.{nat_cmp}
use Rattle.std.specs.Map.{lookup, remove_entry, values_of}
use Rattle.std.specs.BTreeMap.{is_at, get, btree_map_len}
use Rattle.std.specs.FinMap as finite_map
use Rattle.graph_kinds.specs.declared.call.Call.TheVariants.{RemoveEdge}
use Rattle.graph_kinds.specs.Graph.{pair_count}
use Rattle.graph_kinds.specs.Answer.{change}
use Rattle.graph_kinds.proofs.Graphs.{pair_total}
use Rattle.plain_graph.specs.Kept.{Edges, Vertices, Rises, holds, weight_held, weight_by, edges_in, edges_out}
use Rattle.plain_graph.specs.Kept.{graph_in_maps}
use Rattle.plain_graph.proofs.Changes.{weight-cut, some_pair}
use Rattle.plain_graph.proofs.Held.{has-held, weight-held, graph_from_held, pair_count-held}
use Rattle.plain_graph.proofs.Numbering.{at_key}

-- a vertex that is taken out takes the edges out of it with it
edges-remove_entry : (test : ℕ → Bool) (es : List (ℕ × Edges)) → edges_in (values_of (remove_entry test es)) + edges_out
    (lookup test es) ≡ edges_in (values_of es)
edges-remove_entry test [] = refl
edges-remove_entry test (e ∷ es) =
    let others = edges-remove_entry test es in
    elim (test e.0) as (λ (t : Bool). edges_in (values_of (cond t es (e ∷ remove_entry test es))) + edges_out
    (cond t (Some e.1) (lookup test es)) ≡ btree_map_len e.1 + edges_in (values_of es))
    [ true ↦ omega arith | false ↦ omega (arith, others) ]

pub count-cut_vertex : (m n : Vertices) → Rises m → Rises n → (k : ℕ) → n.entries ≡ remove_entry (is_at (nat_cmp k))
    m.entries → pair_count (graph_in_maps n) + edges_out (get nat_cmp m k) ≡ pair_count (graph_in_maps m)
count-cut_vertex m n before after k entries = omega (
  arith,
  pair_count-held m before,
  pair_count-held n after,
  ap (λ (es : List (ℕ × Edges)). edges_in (values_of es)) entries,
  edges-remove_entry (is_at (nat_cmp k)) m.entries,
)

-- an edge that was there is one less, and where there was none, all are left
module _ (m n : Vertices) (before : Rises m) (after : Rises n) (x y : ℕ) (keys : (q : ℕ) → holds n q ≡ holds m q)
    (weights : (a b : ℕ) → weight_held n a b ≡ cond ((x == a) && (y == b)) None (weight_held m a b)) where
  view-cut : graph_in_maps n ≡ change (graph_in_maps m) (RemoveEdge x y)
  view-cut = graph_from_held n after _ (λ q. keys q ∙ sym (has-held m q)) (λ a b. weights a b ∙
      (ap (cond ((x == a) && (y == b)) None) (sym (weight-held m before.outer a b))
      ∙ sym (weight-cut (graph_in_maps m) x y a b)))

  pub count-cut_edge : pair_count (graph_in_maps n) ≡ cond (is_some (weight_held m x y))
      (pair_count (graph_in_maps m) - 1) (pair_count (graph_in_maps m))
  count-cut_edge = ap pair_count view-cut
      ∙ (finite_map.len-remove pair_total (graph_in_maps m).pairs (x, y)
      ∙ ap (λ (o : Option ℕ). cond (is_some o) (pair_count (graph_in_maps m) - 1) (pair_count (graph_in_maps m)))
      (weight-held m before.outer x y))

  pub count-one : (w : ℕ) → weight_held m x y ≡ Some w → pair_count (graph_in_maps n) + 1 ≡ pair_count (graph_in_maps m)
  count-one w there =
      let some = some_pair (graph_in_maps m) x y (ap is_some (weight-held m before.outer x y ∙ there)) in
      let less = count-cut_edge ∙ ap (λ (o : Option ℕ). cond (is_some o) (pair_count (graph_in_maps m) - 1)
      (pair_count (graph_in_maps m))) there in
      omega (arith, some, less)

  pub count-none : weight_held m x y ≡ None → pair_count (graph_in_maps n) + 0 ≡ pair_count (graph_in_maps m)
  count-none gone =
      let same = count-cut_edge ∙ ap (λ (o : Option ℕ). cond (is_some o) (pair_count (graph_in_maps m) - 1)
      (pair_count (graph_in_maps m))) gone in
      omega (arith, same)

-- what was told of an edge, by its source
pub told_weight : (m : Vertices) (x y : ℕ) (o : Option ℕ) → Some o ≡ cond (holds m x) (Some (weight_held m x y)) None
    → weight_held m x y ≡ o
told_weight m x y o told = by (holds m x) told
  where
    by : (t : Bool) → Some o ≡ cond t (Some (weight_held m x y)) None → weight_held m x y ≡ o
    by true e = cc
    by false e = let no : Some o ≡ None = e in absurd (cc)

pub told_none : (m : Vertices) (x y : ℕ) → None ≡ cond (holds m x) (Some (weight_held m x y)) None
    → weight_held m x y ≡ None
told_none m x y told = by (get nat_cmp m x) told
  where
    by : (o : Option Edges) → None ≡ cond (is_some o) (Some (weight_by o y)) None → weight_by o y ≡ None
    by None e = refl
    by (Some edges) e = let no : None ≡ Some (weight_by (Some edges) y) = e in absurd (cc)

-- the edges to a key were taken out but those from the keys that are left, and counted
pub record IsCutTo (m n : Vertices) (key : ℕ) (left : List (ℕ × ℕ)) (count : ℕ) : Type 0 where
  pub rises : Rises n
  pub keys : (q : ℕ) → holds n q ≡ holds m q
  pub others : (a b : ℕ) → (key == b) ≡ false → weight_held n a b ≡ weight_held m a b
  pub named : (a : ℕ) → IsSome (weight_held n a key) → IsSome (lookup (is_at (nat_cmp a)) left)
  pub counted : pair_count (graph_in_maps n) + count ≡ pair_count (graph_in_maps m)

pub cut_begins : (m : Vertices) (key : ℕ) (named : List (ℕ × ℕ)) → Rises m → ((a : ℕ) → IsSome (weight_held m a key)
    → IsSome (lookup (is_at (nat_cmp a)) named)) → IsCutTo m m key named 0
cut_begins m key named rises all = record {
  rises = rises;
  keys = λ q. refl;
  others = λ a b other. refl;
  named = all;
  counted = omega arith;
}

pub cut_more : (m n next : Vertices) (key : ℕ) (e : ℕ × ℕ) (left : List (ℕ × ℕ)) (count : ℕ)
    → IsCutTo m n key (e ∷ left) count → Rises next → ((q : ℕ) → holds next q ≡ holds n q)
    → ((a b : ℕ) → weight_held next a b ≡ cond ((e.0 == a) && (key == b)) None (weight_held n a b)) → (one : ℕ)
    → pair_count (graph_in_maps next) + one ≡ pair_count (graph_in_maps n) → IsCutTo m next key left (count + one)
cut_more m n next key e left count p rises keys weights one counted = record {
  rises = rises;
  keys = λ q. keys q ∙ p.keys q;
  others = λ a b other. weights a b ∙ (ap (λ (t : Bool). cond ((e.0 == a) && t) None (weight_held n a b)) other
      ∙ (elim (e.0 == a) as (λ (s : Bool). cond (s && false) None (weight_held n a b) ≡ weight_held n a b)
      [ true ↦ refl | false ↦ refl ] ∙ p.others a b other));
  named = λ a there. by a (e.0 == a) refl (subst IsSome (weights a key
      ∙ ap (λ (t : Bool). cond ((e.0 == a) && t) None (weight_held n a key)) (eq-eqb key key refl)) there);
  counted = omega (arith, counted, p.counted);
}
  where
    by : (a : ℕ) (s : Bool) → (e.0 == a) ≡ s → IsSome (cond ((e.0 == a) && true) None (weight_held n a key))
        → IsSome (lookup (is_at (nat_cmp a)) left)
    by a true same there = absurd (true≢false (sym (subst (λ (s : Bool). IsSome (cond (s && true) None
        (weight_held n a key))) same there)))
    by a false apart there =
        let stays = subst (λ (s : Bool). IsSome (cond (s && true) None (weight_held n a key))) apart there in
        subst (λ (s : Bool). IsSome (cond s (Some e.1) (lookup (is_at (nat_cmp a)) left))) (at_key a e.0 ∙ apart)
        (p.named a stays)

pub cut_ends : (m n : Vertices) (key count : ℕ) → IsCutTo m n key [] count → (a b : ℕ) → weight_held n a b ≡ cond
    (key == b) None (weight_held m a b)
cut_ends m n key count p a b = by (key == b) refl
  where
    gone : (o : Option ℕ) → weight_held n a key ≡ o → weight_held n a key ≡ None
    gone None e = e
    gone (Some w) e = absurd (true≢false (sym (p.named a (subst IsSome (sym e) refl))))

    by : (t : Bool) → (key == b) ≡ t → weight_held n a b ≡ cond t None (weight_held m a b)
    by true same = ap (weight_held n a) (sym (eqb-true key b same)) ∙ gone (weight_held n a key) refl
    by false other = p.others a b other
