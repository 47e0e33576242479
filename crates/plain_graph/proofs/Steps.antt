-- What a step on the maps makes of the graph that they hold, and that the maps keep what they keep.
use Rattle.std.proofs.Common.{◌≡◌, ℕ, ◌+◌, ◌-◌, ◌<◌, ◌≤◌, ◌==◌, ◌&&◌, ◌||◌, false, List, [], true, cond, Option, Some}
use Rattle.std.proofs.Common.{None, Result, Ok, Err, OnOk, OnErr, is_some, refl, sym, ap, subst, ◌∙◌, arith, eqb-true}
use Rattle.std.proofs.Common.{Bool, true≢false}
use Rattle.std.specs.Ordering.{nat_cmp}
use Rattle.std.specs.BTreeMap.{IsOrdered, get, is_at}
use Rattle.std.specs.Map.{lookup}
use Rattle.std.specs.FinMap as finite_map
use Rattle.std.specs.FinSet as finite_set
use Rattle.graph_kinds.specs.declared.answer.Memory.{Memory}
use Rattle.graph_kinds.specs.declared.call.Call.TheVariants.{AddVertex, AddEdge, RemoveEdge}
use Rattle.graph_kinds.specs.Graph.{Graph, pair_cmp, empty_graph, has, weight_of, pair_count, IsGraph}
use Rattle.graph_kinds.specs.Answer.{change, without}
use Rattle.plain_graph.specs.Kept.{Edges, Vertices, graph_in_maps, holds, weight_held, weight_by, Rises, IsCountedGraph}
use Rattle.plain_graph.specs.Kept.{IsMirror, IsIndexedGraph}
use Rattle.plain_graph.proofs.Changes.{count_of, has-add, has-without, weight-without, weight-add, weight-cut}
use Rattle.plain_graph.proofs.Changes.{sound-add_vertex, sound-without, sound-add_edge, sound-cut_edge}
use Rattle.plain_graph.proofs.Changes.{count-add_vertex, count-add_edge, count-without, count-cut_edge, some_pair}
use Rattle.plain_graph.proofs.Held.{has-held, weight-held, graph_from_held, held-empty}
use Rattle.plain_graph.proofs.Outcomes.{source_there}
use Rattle.graph_kinds.proofs.Graphs.{pair_total}

-- maps that rise and hold such a graph, with the count of its edges, keep what they keep
kept_of : (n : Vertices) → Rises n → (h : Graph) → graph_in_maps n ≡ h → IsGraph h → count_of h ≤ 65536 → (edges : ℕ)
    → edges ≡ pair_count h → IsCountedGraph n edges
kept_of n rises h is sound few edges counted = record {
  rising = rises;
  sound = subst IsGraph (sym is) sound;
  few = subst (λ (g : Graph). count_of g ≤ 65536) (sym is) few;
  counted = counted ∙ sym (ap pair_count is);
}

-- maps without entries keep what they keep
pub kept-empty : (m : Vertices) → m.entries ≡ [] → IsOrdered nat_cmp m → IsCountedGraph m 0
kept-empty m e ordered = kept_of m (record { outer = ordered; inner = none }) empty_graph (held-empty m e)
    (record {
      from_key = λ a b w f. absurd (no a b w f);
      to_key = λ a b w f. absurd
          (no a b w f);
      weighed = λ a b w f. absurd (no a b w f);
    })
    (omega (arith, finite_set.len-empty nat_cmp, finite_map.len-empty pair_cmp ℕ)) 0
    (sym (finite_map.len-empty pair_cmp ℕ))
  where
    none : (k : ℕ) (edges : Edges) → get nat_cmp m k ≡ Some edges → IsOrdered nat_cmp edges
    none k edges f = let no : None ≡ Some edges = ap (lookup (is_at (nat_cmp k))) (sym e) ∙ f in absurd (cc)

    no : (a b w : ℕ) → weight_of empty_graph a b ≡ Some w → ⊥
    no a b w f = let none : None ≡ Some w = sym (finite_map.get-empty pair_cmp (a, b)) ∙ f in cc

-- and their index is that of no edges
pub mirror-empty : (m sources : Vertices) → m.entries ≡ [] → sources.entries ≡ [] → IsOrdered nat_cmp sources
    → IsMirror m sources
mirror-empty m sources e f ordered = record {
  rising = record { outer = ordered; inner = none };
  weights = λ a b. ap (λ (es : List (ℕ × Edges)). weight_by (lookup (is_at (nat_cmp b)) es) a) f ∙ sym
      (ap (λ (es : List (ℕ × Edges)). weight_by (lookup (is_at (nat_cmp a)) es) b) e);
}
  where
    none : (k : ℕ) (edges : Edges) → get nat_cmp sources k ≡ Some edges → IsOrdered nat_cmp edges
    none k edges g = let no : None ≡ Some edges = ap (lookup (is_at (nat_cmp k))) (sym f) ∙ g in absurd (cc)

-- an index stays right where the maps keep their weights
pub mirror-kept : (m n sources : Vertices) → ((a b : ℕ) → weight_held n a b ≡ weight_held m a b) → IsMirror m sources
    → IsMirror n sources
mirror-kept m n sources weights mirror = record {
  rising = mirror.rising;
  weights = λ a b. mirror.weights a b ∙ sym
      (weights a b);
}

-- after a vertex was put where it wasn't there, and where it was not put
module _ (m n : Vertices) (k : ℕ) (others : (q : ℕ) → (k == q) ≡ false → holds n q ≡ holds m q) where
  pub keys-entered : holds n k ≡ true → (q : ℕ) → holds n q ≡ ((k == q) || holds m q)
  keys-entered there q = by (k == q) refl
    where
      by : (t : Bool) → (k == q) ≡ t → holds n q ≡ (t || holds m q)
      by true e = ap (holds n) (sym (eqb-true k q e)) ∙ there
      by false e = others q e

  pub keys-left : holds n k ≡ holds m k → (q : ℕ) → holds n q ≡ holds m q
  keys-left same q = by (k == q) refl
    where
      by : (t : Bool) → (k == q) ≡ t → holds n q ≡ holds m q
      by true e = ap (holds n) (sym (eqb-true k q e)) ∙ (same ∙ ap (holds m) (eqb-true k q e))
      by false e = others q e

-- what is looked up in the maps is the weight of the graph
module _ (m sources : Vertices) {edges : ℕ} (g : Graph) (view : graph_in_maps m ≡ g)
    (kept : IsIndexedGraph m sources edges) where
  pub weight-looked_up : (a b : ℕ) → weight_held m a b ≡ weight_of g a b
  weight-looked_up a b = sym (weight-held m kept.kept.rising.outer a b) ∙ ap (λ (h : Graph). weight_of h a b) view

  -- and so is what is told of an edge by its source
  pub told-looked_up : (a b : ℕ) → cond (holds m a) (Some (weight_held m a b)) None ≡ cond (has g a)
      (Some (weight_of g a b)) None
  told-looked_up a b =
      let there = sym (has-held m a) ∙ ap (λ (h : Graph). has h a) view in
      λ i. cond (there i) (Some (weight-looked_up a b i)) None

module _ (m n : Vertices) {edges : ℕ} (g : Graph) (view : graph_in_maps m ≡ g) (kept : IsCountedGraph m edges)
    (rises : Rises n) where
  has_now : (k : ℕ) → holds m k ≡ has g k
  has_now k = sym (has-held m k) ∙ ap (λ (h : Graph). has h k) view

  weight_now : (a b : ℕ) → weight_held m a b ≡ weight_of g a b
  weight_now a b = sym (weight-held m kept.rising.outer a b) ∙ ap (λ (h : Graph). weight_of h a b) view

  sound_now : IsGraph g
  sound_now = subst IsGraph view kept.sound

  few_now : count_of g ≤ 65536
  few_now = subst (λ (h : Graph). count_of h ≤ 65536) view kept.few

  counted_now : edges ≡ pair_count g
  counted_now = kept.counted ∙ ap pair_count view

  pub view-stays : ((q : ℕ) → holds n q ≡ holds m q) → ((a b : ℕ) → weight_held n a b ≡ weight_held m a b)
      → graph_in_maps n ≡ g
  view-stays keys weights = graph_from_held n rises g (λ k. keys k ∙ has_now k) (λ a b. weights a b ∙ weight_now a b)

  pub kept-stays : ((q : ℕ) → holds n q ≡ holds m q) → ((a b : ℕ) → weight_held n a b ≡ weight_held m a b)
      → IsCountedGraph n edges
  kept-stays keys weights = kept_of n rises g (view-stays keys weights) sound_now few_now edges counted_now

  module _ (k : ℕ) where
    pub view-add_vertex : ((q : ℕ) → holds n q ≡ ((k == q) || holds m q)) →
        ((a b : ℕ) → weight_held n a b ≡ weight_held m a b) → graph_in_maps n ≡ change g (AddVertex k)
    view-add_vertex keys weights = graph_from_held n rises _ (λ q. keys q ∙
        (ap (λ t. (k == q) || t) (has_now q) ∙ sym (has-add g k q))) (λ a b. weights a b ∙ weight_now a b)

    pub kept-add_vertex : {A : Type 0} (r : Result A Memory) → count_of g < 65536 → OnOk r
        ((q : ℕ) → holds n q ≡ ((k == q) || holds m q)) → OnErr r ((q : ℕ) → holds n q ≡ holds m q) →
        ((a b : ℕ) → weight_held n a b ≡ weight_held m a b) → IsCountedGraph n edges
    kept-add_vertex (Ok u) room ok err weights = kept_of n rises _ (view-add_vertex ok weights)
        (sound-add_vertex g k sound_now) (omega (arith, count-add_vertex g k)) edges counted_now
    kept-add_vertex (Err u) room ok err weights = kept-stays err weights

    -- a vertex was taken out with the edges from and to it
    module _ (keys : (q : ℕ) → holds n q ≡ cond (k == q) false (holds m q))
        (weights : (a b : ℕ) → weight_held n a b ≡ cond (k == b) None (cond (k == a) None (weight_held m a b))) where
      either : (s t : Bool) (w : Option ℕ) → cond t None (cond s None w) ≡ cond (s || t) None w
      either true true w = refl
      either true false w = refl
      either false t w = refl

      pub view-cut_vertex : graph_in_maps n ≡ without g k
      view-cut_vertex = graph_from_held n rises _
          (λ q. keys q ∙ (ap (cond (k == q) false) (has_now q) ∙ sym (has-without g k q)))
          (λ a b. weights a b ∙ (either (k == a) (k == b) (weight_held m a b)
          ∙ (ap (cond ((k == a) || (k == b)) None) (weight_now a b) ∙ sym (weight-without g k a b))))

      pub kept-cut_vertex : (taken count : ℕ) → pair_count (graph_in_maps n) + taken ≡ pair_count (graph_in_maps m)
          → count ≡ edges - taken → IsCountedGraph n count
      kept-cut_vertex taken count less counted = kept_of n rises _ view-cut_vertex (sound-without g k sound_now)
          (let fewer = count-without g k in omega (arith, few_now)) count
          (let now = ap pair_count view-cut_vertex in omega (arith, less, counted, kept.counted, now))

    -- a vertex that isn't there took nothing with it
    module _ (absent : holds m k ≡ false) where
      pub keys-absent : ((q : ℕ) → holds n q ≡ cond (k == q) false (holds m q)) → (q : ℕ) → holds n q ≡ holds m q
      keys-absent keys q = keys q ∙ by (k == q) refl
        where
          by : (t : Bool) → (k == q) ≡ t → cond t false (holds m q) ≡ holds m q
          by true e = sym (sym (ap (holds m) (eqb-true k q e)) ∙ absent)
          by false e = refl

      pub weights-absent : ((a b : ℕ) → weight_held n a b ≡ cond (k == a) None (weight_held m a b)) → (a b : ℕ)
          → weight_held n a b ≡ weight_held m a b
      weights-absent weights a b = weights a b ∙ by (k == a) refl
        where
          gone : (o : Option Edges) → is_some o ≡ false → None ≡ weight_by o b
          gone None e = refl
          gone (Some edges) e = absurd (true≢false e)

          by : (t : Bool) → (k == a) ≡ t → cond t None (weight_held m a b) ≡ weight_held m a b
          by true e = gone (get nat_cmp m a) (sym (ap (holds m) (eqb-true k a e)) ∙ absent)
          by false e = refl

  module _ (x y : ℕ) (keys : (q : ℕ) → holds n q ≡ holds m q) where
    pub view-add_edge : (w : ℕ) → ((a b : ℕ) → weight_held n a b ≡ cond ((x == a) && (y == b)) (Some w)
        (weight_held m a b)) → graph_in_maps n ≡ change g (AddEdge x y w)
    view-add_edge w weights = graph_from_held n rises _ (λ q. keys q ∙ has_now q)
        (λ a b. weights a b ∙ (ap (cond ((x == a) && (y == b)) (Some w)) (weight_now a b) ∙ sym
        (weight-add g x y w a b)))

    pub kept-add_edge : (w : ℕ) → has g x ≡ true → has g y ≡ true → 1 ≤ w → count_of g < 65536 →
        ((a b : ℕ) → weight_held n a b ≡ cond ((x == a) && (y == b)) (Some w) (weight_held m a b))
        → (count : ℕ) → count ≡ cond (is_some (weight_held m x y)) edges (edges + 1) → IsCountedGraph n count
    kept-add_edge w from to weighed room weights count counted = kept_of n rises _ (view-add_edge w weights)
        (sound-add_edge g x y w sound_now from to weighed) (omega (arith, count-add_edge g x y w)) count
        (counted ∙ ((λ i. cond (is_some (weight_now x y i)) (counted_now i) (counted_now i + 1)) ∙ sym
        (finite_map.len-insert pair_total g.pairs (x, y) w)))

    -- an edge was put where its source is there, and the weight before was told
    module _ (w : ℕ) (o : Option (Option ℕ)) (before : Option ℕ) (weights : (a b : ℕ) → weight_held n a b
        ≡ cond (holds m x && ((x == a) && (y == b))) (Some w) (weight_held m a b))
        (told : o ≡ cond (holds m x) (Some (weight_held m x y)) None) (is : o ≡ Some before) where
      source : has g x ≡ true
      source = sym (has_now x) ∙ (source_there (holds m x) _ _ o told is).0

      was : before ≡ weight_held m x y
      was = (source_there (holds m x) _ _ o told is).1

      put : (a b : ℕ) → weight_held n a b ≡ cond ((x == a) && (y == b)) (Some w) (weight_held m a b)
      put a b = weights a b ∙ ap (λ (t : Bool). cond (t && ((x == a) && (y == b))) (Some w) (weight_held m a b))
          (source_there (holds m x) _ _ o told is).0

      pub entered-before : Some before ≡ cond (has g x) (Some (weight_of g x y)) None
      entered-before = ap (λ (v : Option ℕ). Some v) (was ∙ weight_now x y)
          ∙ sym (ap (λ (t : Bool). cond t (Some (weight_of g x y)) None) source)

      pub view-entered : graph_in_maps n ≡ cond (has g x) (change g (AddEdge x y w)) g
      view-entered = view-add_edge w put ∙ sym (ap (λ (t : Bool). cond t (change g (AddEdge x y w)) g) source)

      pub kept-entered : has g y ≡ true → 1 ≤ w → count_of g < 65536 → (count : ℕ)
          → count ≡ cond (is_some before) edges (edges + 1) → IsCountedGraph n count
      kept-entered to weighed room count counted = kept-add_edge w source to weighed room put count
          (counted ∙ ap (λ (v : Option ℕ). cond (is_some v) edges (edges + 1)) was)

    pub view-cut_edge : ((a b : ℕ) → weight_held n a b ≡ cond ((x == a) && (y == b)) None (weight_held m a b))
        → graph_in_maps n ≡ change g (RemoveEdge x y)
    view-cut_edge weights = graph_from_held n rises _ (λ q. keys q ∙ has_now q)
        (λ a b. weights a b ∙ (ap (cond ((x == a) && (y == b)) None) (weight_now a b) ∙ sym (weight-cut g x y a b)))

    pub kept-cut_edge : ((a b : ℕ) → weight_held n a b ≡ cond ((x == a) && (y == b)) None (weight_held m a b))
        → (count : ℕ) → count ≡ cond (is_some (weight_held m x y)) (edges - 1) edges → IsCountedGraph n count
    kept-cut_edge weights count counted = kept_of n rises _ (view-cut_edge weights) (sound-cut_edge g x y sound_now)
        (let less = count-cut_edge g x y in omega (arith, few_now)) count
        (counted ∙ ((λ i. cond (is_some (weight_now x y i)) (counted_now i - 1) (counted_now i)) ∙ sym
        (finite_map.len-remove pair_total g.pairs (x, y))))

    -- an edge that is there is counted
    pub counted-there : is_some (weight_held m x y) ≡ true → 1 ≤ edges
    counted-there there = omega (arith, counted_now, some_pair g x y (sym (ap is_some (weight_now x y)) ∙ there))
