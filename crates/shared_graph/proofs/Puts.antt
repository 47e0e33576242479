-- A graph that is built by putting in what was read.
use Rattle.std.proofs.Common.{◌≡◌, ℕ, ◌+◌, ◌<◌, ◌≤◌, Bool, true, false, cond, ◌&&◌, ◌||◌, ◌==◌, List, [], ◌∷◌}
use Rattle.std.proofs.Common.{Option, Some, None, length, refl, sym, ap, ap₂, ◌∙◌, subst, arith, inl, inr, ⊎_elim}
use Rattle.std.proofs.Common.{eqb-true}
use Rattle.std.proofs.Common.{eq-eqb, true≢false, drop, get_or}
use Rattle.std.specs.Prelude.{nat_lt}
use Rattle.std.specs.Cmp.{nat_cmp_total}
use Rattle.std.specs.Ordering.{nat_cmp}
use Rattle.std.specs.FinMap as map
use Rattle.std.specs.FinSet as set
use Rattle.std.proofs.lemmas.Bool.{and_parts, and_from}
use Rattle.std.proofs.lemmas.List.{at_drop_more}
use Rattle.graph_kinds.specs.Graph.{Graph, IsGraph, empty_graph, has, weight_of, key_count, pair_cmp, pair_count}
use Rattle.graph_kinds.specs.Answer.{change}
use Rattle.graph_kinds.specs.declared.call.Call.TheVariants.{AddVertex, AddEdge}
use Rattle.graph_kinds.proofs.Graphs.{has_put, pair_total, same_graph, weight_put}
use Rattle.shared_graph.specs.declared.reading.ReadVertex.{ReadVertex}
use Rattle.shared_graph.specs.declared.reading.ReadEdge.{ReadEdge}
use Rattle.shared_graph.specs.Reading.{edge_fits, with_fitting_edge, with_fitting_edges, with_vertices}
use Rattle.shared_graph.proofs.Elements.{IsIn}

-- how many keys and pairs a graph has
abbrev pub size : Graph → ℕ
size g = key_count g + pair_count g

pub empty_size : (g : Graph) → g ≡ empty_graph → size g ≡ 0
empty_size g is = omega (arith, ap size is, set.len-empty nat_cmp, map.len-empty pair_cmp ℕ)

pub vertex_adds : (g : Graph) (k : ℕ) → size (change g (AddVertex k)) ≤ size g + 1
vertex_adds g k = by (set.contains g.keys k) (set.len-insert nat_cmp_total g.keys k)
  where
    by : (b : Bool) → set.len (set.insert g.keys k) ≡ cond b (set.len g.keys) (set.len g.keys + 1)
        → size (change g (AddVertex k)) ≤ size g + 1
    by true h = omega (arith, h)
    by false h = omega (arith, h)

pub edge_adds : (g : Graph) (a b w : ℕ) → size (change g (AddEdge a b w)) ≤ size g + 1
edge_adds g a b w = by (map.contains_key g.pairs (a, b)) (map.len-insert pair_total g.pairs (a, b) w)
  where
    by : (t : Bool) → map.len (map.insert g.pairs (a, b) w) ≡ cond t (map.len g.pairs) (map.len g.pairs + 1)
        → size (change g (AddEdge a b w)) ≤ size g + 1
    by true h = omega (arith, h)
    by false h = omega (arith, h)

pub fitting_adds : (g : Graph) (e : ReadEdge) → size (with_fitting_edge g e) ≤ size g + 1
fitting_adds g e = by (edge_fits g e)
  where
    by : (t : Bool) → size (cond t (change g (AddEdge e.from e.to e.weight)) g) ≤ size g + 1
    by true = edge_adds g e.from e.to e.weight
    by false = omega arith

pub vertex_room : (g h : Graph) (k : ℕ) → h ≡ change g (AddVertex k) → size h ≤ size g + 1
vertex_room g h k is = subst (λ x. size x ≤ size g + 1) (sym is) (vertex_adds g k)

pub edge_room : (g h : Graph) (e : ReadEdge) → h ≡ with_fitting_edge g e → size h ≤ size g + 1
edge_room g h e is = subst (λ x. size x ≤ size g + 1) (sym is) (fitting_adds g e)

-- one more of a list is put
pub vertex_put : (g h f : Graph) (vs : List ReadVertex) (i : ℕ) (v : ReadVertex) → i < length vs
    → h ≡ change g (AddVertex (get_or vs i v).key) → with_vertices g (drop i vs) ≡ with_vertices f vs
    → with_vertices h (drop (i + 1) vs) ≡ with_vertices f vs
vertex_put g h f vs i v low is old = ap (λ x. with_vertices x (drop (i + 1) vs)) is
    ∙ (sym (at_drop_more (with_vertices g) vs i v low) ∙ old)

pub edge_put : (g h f : Graph) (es : List ReadEdge) (i : ℕ) (e : ReadEdge) → i < length es
    → h ≡ with_fitting_edge g (get_or es i e) → with_fitting_edges g (drop i es) ≡ with_fitting_edges f es
    → with_fitting_edges h (drop (i + 1) es) ≡ with_fitting_edges f es
edge_put g h f es i e low is old = ap (λ x. with_fitting_edges x (drop (i + 1) es)) is
    ∙ (sym (at_drop_more (with_fitting_edges g) es i e low) ∙ old)

-- the vertices leave the pairs alone, and the edges the keys
pub vertices_pairs : (g : Graph) (vs : List ReadVertex) → (with_vertices g vs).pairs ≡ g.pairs
vertices_pairs g [] = refl
vertices_pairs g (v ∷ vs) = vertices_pairs (change g (AddVertex v.key)) vs

fitted_keys : (b : Bool) (g : Graph) (e : ReadEdge) → (cond b (change g (AddEdge e.from e.to e.weight)) g).keys ≡ g.keys
fitted_keys true g e = refl
fitted_keys false g e = refl

pub edges_keys : (g : Graph) (es : List ReadEdge) → (with_fitting_edges g es).keys ≡ g.keys
edges_keys g [] = refl
edges_keys g (e ∷ es) = edges_keys (cond (edge_fits g e) (change g (AddEdge e.from e.to e.weight)) g) es
    ∙ fitted_keys (edge_fits g e) g e

-- keys that stay, and those that are put
keys_stay : (g : Graph) (vs : List ReadVertex) (k : ℕ) → has g k ≡ true → has (with_vertices g vs) k ≡ true
keys_stay g [] k h = h
keys_stay g (v ∷ vs) k h = keys_stay (change g (AddVertex v.key)) vs k
    (has_put g.keys v.key k ∙ or_right (k == v.key) (has g k) h)
  where
    or_right : (a b : Bool) → b ≡ true → (a || b) ≡ true
    or_right true b h = refl
    or_right false b h = h

keys_put : (g : Graph) (vs : List ReadVertex) (v : ReadVertex) → IsIn vs v → has (with_vertices g vs) v.key ≡ true
keys_put g [] v h = absurd h
keys_put g (u ∷ vs) v h = ⊎_elim
    (λ (e : u ≡ v). keys_stay (change g (AddVertex u.key)) vs v.key
    (has_put g.keys u.key v.key ∙ ap (λ b. b || has g v.key) (eq-eqb v.key u.key (ap (λ (x : ReadVertex). x.key)
    (sym e)))))
    (λ (t : IsIn vs v). keys_put (change g (AddVertex u.key)) vs v t) h

module _ (G : Graph) where
  -- only keys of another graph are put
  keys_only : (g : Graph) (vs : List ReadVertex) → ((v : ReadVertex) → IsIn vs v → has G v.key ≡ true)
      → ((k : ℕ) → has g k ≡ true → has G k ≡ true) → (k : ℕ) → has (with_vertices g vs) k ≡ true → has G k ≡ true
  keys_only g [] all old k h = old k h
  keys_only g (v ∷ vs) all old k h = keys_only (change g (AddVertex v.key)) vs (λ u t. all u (inr t)) now k h
    where
      now : (q : ℕ) → has (change g (AddVertex v.key)) q ≡ true → has G q ≡ true
      now q t = by (q == v.key) refl (sym (has_put g.keys v.key q) ∙ t)
        where
          by : (b : Bool) → (q == v.key) ≡ b → (b || has g q) ≡ true → has G q ≡ true
          by true e t = subst (λ i. has G i ≡ true) (sym (eqb-true q v.key e)) (all v (inl refl))
          by false e t = old q t

  -- the weights of a graph are those of the other
  abbrev pub HasItsWeights : Graph → Type 0
  HasItsWeights g = (a b w : ℕ) → weight_of g a b ≡ Some w → weight_of G a b ≡ Some w

  weights_more : (g : Graph) (t : Bool) (e : ReadEdge) → weight_of G e.from e.to ≡ Some e.weight → HasItsWeights g
      → HasItsWeights (cond t (change g (AddEdge e.from e.to e.weight)) g)
  weights_more g false e is old a b w h = old a b w h
  weights_more g true e is old a b w h = by ((a == e.from) && (b == e.to)) refl
      (sym (weight_put g.pairs e.from e.to e.weight a b) ∙ h)
    where
      by : (t : Bool) → ((a == e.from) && (b == e.to)) ≡ t → cond t (Some e.weight) (weight_of g a b) ≡ Some w
          → weight_of G a b ≡ Some w
      by true s f =
          let p = and_parts (a == e.from) (b == e.to) s in
          ap₂ (weight_of G) (eqb-true a e.from p.0) (eqb-true b e.to p.1) ∙ (is ∙ f)
      by false s f = old a b w f

  weights_only : (g : Graph) (es : List ReadEdge)
      → ((e : ReadEdge) → IsIn es e → weight_of G e.from e.to ≡ Some e.weight) → HasItsWeights g
      → HasItsWeights (with_fitting_edges g es)
  weights_only g [] all old = old
  weights_only g (e ∷ es) all old = weights_only (cond (edge_fits g e) (change g (AddEdge e.from e.to e.weight)) g) es
      (λ d t. all d (inr t)) (weights_more g (edge_fits g e) e (all e (inl refl)) old)

  -- a pair that is there stays, with its own weight
  weights_stay : (g : Graph) (es : List ReadEdge)
      → ((e : ReadEdge) → IsIn es e → weight_of G e.from e.to ≡ Some e.weight) → (a b w : ℕ)
      → weight_of G a b ≡ Some w → weight_of g a b ≡ Some w → weight_of (with_fitting_edges g es) a b ≡ Some w
  weights_stay g [] all a b w is h = h
  weights_stay g (e ∷ es) all a b w is h = weights_stay (cond (edge_fits g e) (change g
      (AddEdge e.from e.to e.weight)) g) es
      (λ d t. all d (inr t)) a b w is (by (edge_fits g e))
    where
      same : (t : Bool) → ((a == e.from) && (b == e.to)) ≡ t → cond t (Some e.weight) (weight_of g a b) ≡ Some w
      same true s =
          let p = and_parts (a == e.from) (b == e.to) s in
          sym (all e (inl refl)) ∙ (sym (ap₂ (weight_of G) (eqb-true a e.from p.0) (eqb-true b e.to p.1)) ∙ is)
      same false s = h

      by : (t : Bool) → weight_of (cond t (change g (AddEdge e.from e.to e.weight)) g) a b ≡ Some w
      by true = weight_put g.pairs e.from e.to e.weight a b ∙ same ((a == e.from) && (b == e.to)) refl
      by false = h

  module _ (sound : IsGraph G) where
    fits_there : (g : Graph) → ((k : ℕ) → has g k ≡ has G k) → (e : ReadEdge)
        → weight_of G e.from e.to ≡ Some e.weight → edge_fits g e ≡ true
    fits_there g keys e is = and_from (has g e.from) (has g e.to && nat_lt 0 e.weight)
        (keys e.from ∙ sound.from_key e.from e.to e.weight is)
        (and_from (has g e.to) (nat_lt 0 e.weight) (keys e.to ∙ sound.to_key e.from e.to e.weight is)
        (some e.weight (sound.weighed e.from e.to e.weight is)))
      where
        some : (n : ℕ) → 1 ≤ n → nat_lt 0 n ≡ true
        some n h = grind (arith, h)

    weights_put : (g : Graph) (es : List ReadEdge) → ((k : ℕ) → has g k ≡ has G k)
        → ((e : ReadEdge) → IsIn es e → weight_of G e.from e.to ≡ Some e.weight) → (e : ReadEdge) → IsIn es e
        → weight_of (with_fitting_edges g es) e.from e.to ≡ Some e.weight
    weights_put g [] keys all e h = absurd h
    weights_put g (d ∷ es) keys all e h = ⊎_elim
        (λ (s : d ≡ e). weights_stay (cond (edge_fits g d) (change g (AddEdge d.from d.to d.weight)) g) es
        (λ x t. all x (inr t)) e.from e.to e.weight (all e h) (now s))
        (λ (t : IsIn es e). weights_put (cond (edge_fits g d) (change g (AddEdge d.from d.to d.weight)) g) es
        (λ k. ap (λ ks. set.contains ks k) (fitted_keys (edge_fits g d) g d) ∙ keys k) (λ x t. all x (inr t)) e t) h
      where
        put : (b c w : ℕ) → ((b == b) && (c == c)) ≡ true
        put b c w = and_from (b == b) (c == c) (eq-eqb b b refl) (eq-eqb c c refl)

        now : d ≡ e → weight_of (cond (edge_fits g d) (change g
            (AddEdge d.from d.to d.weight)) g) e.from e.to ≡ Some e.weight
        now s =
            let here : weight_of (change g (AddEdge d.from d.to d.weight)) d.from d.to ≡ Some d.weight =
            weight_put g.pairs d.from d.to d.weight d.from d.to
            ∙ ap (λ t. cond t (Some d.weight) (weight_of g d.from d.to)) (put d.from d.to d.weight) in
            ap (λ t. weight_of (cond t (change g (AddEdge d.from d.to d.weight)) g) e.from e.to)
            (fits_there g keys d (all d (inl refl)))
            ∙ subst (λ (x : ReadEdge). weight_of (change g (AddEdge d.from d.to d.weight)) x.from x.to ≡ Some
            x.weight) s here

    -- where the vertices are the keys of a graph and the edges its pairs, that graph is built
    pub built : (vs : List ReadVertex) (es : List ReadEdge)
        → ((v : ReadVertex) → IsIn vs v → has G v.key ≡ true)
        → ((k : ℕ) → has G k ≡ true → (v : ReadVertex) × IsIn vs v × (v.key ≡ k))
        → ((e : ReadEdge) → IsIn es e → weight_of G e.from e.to ≡ Some e.weight)
        → ((a b w : ℕ) → weight_of G a b ≡ Some w → IsIn es (record { from = a; to = b; weight = w }))
        → with_fitting_edges (with_vertices empty_graph vs) es ≡ G
    built vs es keys all_keys pairs all_pairs = same_graph (with_fitting_edges (with_vertices empty_graph vs) es) G
        (λ k. ap (λ ks. set.contains ks k) (edges_keys (with_vertices empty_graph vs) es) ∙ has_same k)
        (λ a b. weight_same a b (weight_of G a b) refl (weight_of (with_fitting_edges
        (with_vertices empty_graph vs) es) a b) refl)
      where
        same_bool : (x y : Bool) → (x ≡ true → y ≡ true) → (y ≡ true → x ≡ true) → x ≡ y
        same_bool true y f h = sym (f refl)
        same_bool false true f h = h refl
        same_bool false false f h = refl

        has_same : (k : ℕ) → has (with_vertices empty_graph vs) k ≡ has G k
        has_same k = same_bool (has (with_vertices empty_graph vs) k) (has G k) (keys_only empty_graph vs keys
            (λ q h. absurd (true≢false (sym h ∙ set.contains-empty nat_cmp q))) k)
            (λ h. let v = all_keys k h in subst (λ q. has (with_vertices empty_graph vs) q ≡ true) v.2
            (keys_put empty_graph vs v.0 v.1))

        weight_same : (a b : ℕ) (o : Option ℕ) → weight_of G a b ≡ o → (q : Option ℕ)
            → weight_of (with_fitting_edges (with_vertices empty_graph vs) es) a b ≡ q
            → weight_of (with_fitting_edges (with_vertices empty_graph vs) es) a b ≡ weight_of G a b
        weight_same a b (Some w) is q own = weights_put (with_vertices empty_graph vs) es has_same pairs
            (record { from = a; to = b; weight = w }) (all_pairs a b w is) ∙ sym is
        weight_same a b None is None own = own ∙ sym is
        weight_same a b None is (Some w) own =
            let t = weights_only (with_vertices empty_graph vs) es pairs (λ x y n h. absurd (none x y n h)) a b w own in
            absurd (cc)
          where
            none : (x y n : ℕ) → weight_of (with_vertices empty_graph vs) x y ≡ Some n → ⊥
            none x y n h = let p : weight_of (with_vertices empty_graph vs) x y ≡ None = ap (λ m. map.get m (x, y))
                (vertices_pairs empty_graph vs)
                ∙ map.get-empty pair_cmp (x, y) in
                absurd (cc)
