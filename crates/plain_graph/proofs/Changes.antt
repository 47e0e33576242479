-- What a change of the graph leaves at each key and at each pair, how it counts, and that it leaves a graph.
use Rattle.std.proofs.Common.{◌≡◌, ℕ, zero, suc, ◌+◌, ◌-◌, ◌≤◌, ◌==◌, ◌&&◌, ◌||◌, not, Bool, true, false, cond}
use Rattle.std.proofs.Common.{Option, Some, None, is_some, true≢false, refl, sym, ap, ap₂, ◌∙◌, arith, eqb-true}
use Rattle.std.specs.Cmp.{nat_cmp_total, nat_eq_equiv}
use Rattle.std.specs.FinMap as finite_map
use Rattle.std.specs.FinSet as finite_set
use Rattle.graph_kinds.specs.declared.call.Call.{Call}
use Rattle.graph_kinds.specs.declared.call.Call.TheVariants.{AddVertex, AddEdge, RemoveEdge}
use Rattle.graph_kinds.specs.Graph.{Graph, pair_cmp, has, weight_of, key_count, pair_count, IsGraph}
use Rattle.graph_kinds.specs.Answer.{grows, after, change, without}
use Rattle.graph_kinds.proofs.Graphs.{pair_total, same_graph, has_put, has_cut, weight_put, weight_cut, weight_kept}
use Rattle.graph_kinds.proofs.Graphs.{len-retain_keys}
use Rattle.graph_kinds.proofs.Calls.{none_more as none_added, one_more as one_added}

pub has-add : (g : Graph) (k q : ℕ) → has (change g (AddVertex k)) q ≡ ((k == q) || has g q)
has-add g k q = has_put g.keys k q ∙ ap (λ b. b || has g q) (nat_eq_equiv.symm q k)

-- a vertex that is there is no new one
pub there-add_vertex : (g : Graph) (k : ℕ) → has g k ≡ true → g ≡ change g (AddVertex k)
there-add_vertex g k there = same_graph g _ (λ q. by q (k == q) refl ∙ sym (has-add g k q)) (λ a b. refl)
  where
    by : (q : ℕ) (t : Bool) → (k == q) ≡ t → has g q ≡ ((k == q) || has g q)
    by q true e = ap (has g) (sym (eqb-true k q e)) ∙ (there ∙ ap (λ u. u || has g q) (sym e))
    by q false e = ap (λ u. u || has g q) (sym e)

pub has-without : (g : Graph) (k q : ℕ) → has (without g k) q ≡ cond (k == q) false (has g q)
has-without g k q =
    has_cut g.keys k q
    ∙ (ap (λ b. not b && has g q) (nat_eq_equiv.symm q k) ∙ elim (k == q) as
    (λ b. (not b && has g q) ≡ cond b false (has g q)) [ true ↦ refl | false ↦ refl ])

pub weight-without : (g : Graph) (k a b : ℕ) → weight_of (without g k) a b ≡ cond ((k == a) || (k == b)) None
    (weight_of g a b)
weight-without g k a b =
    weight_kept g.pairs (λ p. not (p.0 == k) && not (p.1 == k)) a b
    ∙ ((λ i. cond (not (nat_eq_equiv.symm a k i) && not (nat_eq_equiv.symm b k i)) (weight_of g a b) None) ∙ by (k == a)
    (k == b))
  where
    by : (s t : Bool) → cond (not s && not t) (weight_of g a b) None ≡ cond (s || t) None (weight_of g a b)
    by true t = refl
    by false true = refl
    by false false = refl

-- where no pair has the key, none is lost with it
weight-bare : (g : Graph) (k : ℕ) → ((a : ℕ) → weight_of g a k ≡ None) → ((b : ℕ) → weight_of g k b ≡ None) →
    (a b : ℕ) → weight_of (without g k) a b ≡ weight_of g a b
weight-bare g k no_source no_target a b = weight-without g k a b ∙ by (k == a) (k == b) refl refl
  where
    by : (s t : Bool) → (k == a) ≡ s → (k == b) ≡ t → cond (s || t) None (weight_of g a b) ≡ weight_of g a b
    by true t p q = sym (ap (λ x. weight_of g x b) (sym (eqb-true k a p)) ∙ no_target b)
    by false true p q = sym (ap (weight_of g a) (sym (eqb-true k b q)) ∙ no_source a)
    by false false p q = refl

-- a key that is no vertex takes nothing with it
pub without-absent : (g : Graph) (k : ℕ) → IsGraph g → has g k ≡ false → without g k ≡ g
without-absent g k sound absent = same_graph (without g k) g
    (λ q. has-without g k q ∙ by q (k == q) refl)
    (weight-bare g k (λ a. no_source a (weight_of g a k) refl) (λ b. no_target b (weight_of g k b) refl))
  where
    by : (q : ℕ) (t : Bool) → (k == q) ≡ t → cond t false (has g q) ≡ has g q
    by q true e = sym absent ∙ ap (has g) (eqb-true k q e)
    by q false e = refl

    no_source : (a : ℕ) (o : Option ℕ) → weight_of g a k ≡ o → weight_of g a k ≡ None
    no_source a None e = e
    no_source a (Some w) e = absurd (true≢false (sym (sound.to_key a k w e) ∙ absent))

    no_target : (b : ℕ) (o : Option ℕ) → weight_of g k b ≡ o → weight_of g k b ≡ None
    no_target b None e = e
    no_target b (Some w) e = absurd (true≢false (sym (sound.from_key k b w e) ∙ absent))

pub weight-add : (g : Graph) (x y w a b : ℕ) → weight_of (change g (AddEdge x y w)) a b ≡ cond ((x == a) && (y == b))
    (Some w) (weight_of g a b)
weight-add g x y w a b = weight_put g.pairs x y w a b ∙ (λ i. cond (nat_eq_equiv.symm a x i && nat_eq_equiv.symm b y i)
    (Some w) (weight_of g a b))

pub weight-cut : (g : Graph) (x y a b : ℕ) → weight_of (change g (RemoveEdge x y)) a b ≡ cond
    ((x == a) && (y == b)) None (weight_of g a b)
weight-cut g x y a b = weight_cut g.pairs x y a b ∙ (λ i. cond (nat_eq_equiv.symm a x i && nat_eq_equiv.symm b y i) None
    (weight_of g a b))

-- an edge that is there with this weight is no new one, and one that isn't there takes nothing with it
pub there-add_edge : (g : Graph) (x y w : ℕ) → weight_of g x y ≡ Some w → change g (AddEdge x y w) ≡ g
there-add_edge g x y w there = same_graph _ g (λ q. refl) (λ a b. weight-add g x y w a b ∙ by a b (x == a)
    (y == b) refl refl)
  where
    by : (a b : ℕ) (s t : Bool) → (x == a) ≡ s → (y == b) ≡ t → cond (s && t) (Some w)
        (weight_of g a b) ≡ weight_of g a b
    by a b true true p q = sym there ∙ ap₂ (weight_of g) (eqb-true x a p) (eqb-true y b q)
    by a b true false p q = refl
    by a b false t p q = refl

pub absent-cut_edge : (g : Graph) (x y : ℕ) → weight_of g x y ≡ None → change g (RemoveEdge x y) ≡ g
absent-cut_edge g x y none = same_graph _ g (λ q. refl) (λ a b. weight-cut g x y a b ∙ by a b (x == a)
    (y == b) refl refl)
  where
    by : (a b : ℕ) (s t : Bool) → (x == a) ≡ s → (y == b) ≡ t → cond (s && t) None (weight_of g a b) ≡ weight_of g a b
    by a b true true p q = sym none ∙ ap₂ (weight_of g) (eqb-true x a p) (eqb-true y b q)
    by a b true false p q = refl
    by a b false t p q = refl

-- what makes a graph sound, pair by pair
pub record IsSoundPair (g : Graph) (a b w : ℕ) : Type 0 where
  pub from_key : has g a ≡ true
  pub to_key : has g b ≡ true
  pub weighed : 1 ≤ w

pub sound_pairs : (g : Graph) → ((a b w : ℕ) → weight_of g a b ≡ Some w → IsSoundPair g a b w) → IsGraph g
sound_pairs g each = record {
  from_key = λ a b w e. (each a b w e).from_key;
  to_key = λ a b w e. (each a b w e).to_key;
  weighed = λ a b w e. (each a b w e).weighed;
}

or-true : (b : Bool) → (b || true) ≡ true
or-true true = refl
or-true false = refl

pub sound-add_vertex : (g : Graph) (k : ℕ) → IsGraph g → IsGraph (change g (AddVertex k))
sound-add_vertex g k sound = sound_pairs _ (λ a b w e. record {
  from_key = has-add g k a ∙ (ap (λ t. (k == a) || t) (sound.from_key a b w e) ∙ or-true (k == a));
  to_key = has-add g k b ∙ (ap (λ t. (k == b) || t) (sound.to_key a b w e) ∙ or-true (k == b));
  weighed = sound.weighed a b w e;
})

pub sound-without : (g : Graph) (k : ℕ) → IsGraph g → IsGraph (without g k)
sound-without g k sound = sound_pairs _ (λ a b w e. by a b w (k == a) (k == b) refl refl
    (sym (weight-without g k a b) ∙ e))
  where
    by : (a b w : ℕ) (s t : Bool) → (k == a) ≡ s → (k == b) ≡ t → cond ((k == a) || (k == b)) None
        (weight_of g a b) ≡ Some w → IsSoundPair (without g k) a b w
    by a b w true t p q e = let no : None ≡ Some w = ap (λ u. cond (u || (k == b)) None (weight_of g a b)) (sym p)
        ∙ e in absurd (cc)
    by a b w false true p q e = let no : None ≡ Some w = (λ i. cond (sym p i || sym q i) None (weight_of g a b))
        ∙ e in absurd (cc)
    by a b w false false p q e =
        let was : weight_of g a b ≡ Some w = (λ i. cond (sym p i || sym q i) None (weight_of g a b)) ∙ e in
        record {
          from_key = has-without g k a ∙ (ap (λ u. cond u false (has g a)) p ∙ sound.from_key a b w was);
          to_key = has-without g k b ∙ (ap (λ u. cond u false (has g b)) q ∙ sound.to_key a b w was);
          weighed = sound.weighed a b w was;
        }

pub sound-add_edge : (g : Graph) (x y w : ℕ) → IsGraph g → has g x ≡ true → has g y ≡ true → 1 ≤ w → IsGraph
    (change g (AddEdge x y w))
sound-add_edge g x y w sound from to weighed = sound_pairs _ (λ a b v e. by a b v (x == a) (y == b) refl refl
    (sym (weight-add g x y w a b) ∙ e))
  where
    old : (a b v : ℕ) → weight_of g a b ≡ Some v → IsSoundPair (change g (AddEdge x y w)) a b v
    old a b v e = record {
      from_key = sound.from_key a b v e;
      to_key = sound.to_key a b v e;
      weighed = sound.weighed a b
          v e;
    }

    by : (a b v : ℕ) (s t : Bool) → (x == a) ≡ s → (y == b) ≡ t → cond ((x == a) && (y == b)) (Some w)
        (weight_of g a b) ≡ Some v → IsSoundPair (change g (AddEdge x y w)) a b v
    by a b v true true p q e =
        let is : Some w ≡ Some v = (λ i. cond (sym p i && sym q i) (Some w) (weight_of g a b)) ∙ e in
        let same : w ≡ v = cc in
        record {
          from_key = ap (has g) (sym (eqb-true x a p)) ∙ from;
          to_key = ap (has g) (sym (eqb-true y b q)) ∙ to;
          weighed = omega arith;
        }
    by a b v true false p q e = old a b v ((λ i. cond (sym p i && sym q i) (Some w) (weight_of g a b)) ∙ e)
    by a b v false t p q e = old a b v ((λ i. cond (sym p i && (y == b)) (Some w) (weight_of g a b)) ∙ e)

pub sound-cut_edge : (g : Graph) (x y : ℕ) → IsGraph g → IsGraph (change g (RemoveEdge x y))
sound-cut_edge g x y sound = sound_pairs _ (λ a b v e. by a b v ((x == a) && (y == b)) (sym (weight-cut g x y a b) ∙ e))
  where
    by : (a b v : ℕ) (t : Bool) → cond t None (weight_of g a b) ≡ Some v → IsSoundPair (change g (RemoveEdge x y)) a b v
    by a b v true e = absurd (cc)
    by a b v false e = record {
      from_key = sound.from_key a b v e;
      to_key = sound.to_key a b v e;
      weighed =
          sound.weighed a b v e;
    }

-- vertices and edges
abbrev pub count_of : Graph → ℕ
count_of g = key_count g + pair_count g

one_more : (b : Bool) (n : ℕ) → cond b n (n + 1) ≤ n + 1
one_more true n = omega arith
one_more false n = omega arith

one_less : (b : Bool) (n : ℕ) → cond b (n - 1) n ≤ n
one_less true n = omega arith
one_less false n = omega arith

pub count-add_vertex : (g : Graph) (k : ℕ) → count_of (change g (AddVertex k)) ≤ count_of g + 1
count-add_vertex g k = omega (arith, finite_set.len-insert nat_cmp_total g.keys k, one_more (has g k) (key_count g))

pub count-add_edge : (g : Graph) (a b w : ℕ) → count_of (change g (AddEdge a b w)) ≤ count_of g + 1
count-add_edge g a b w = omega (
  arith,
  finite_map.len-insert pair_total g.pairs (a, b) w,
  one_more
      (finite_map.contains_key g.pairs (a, b)) (pair_count g),
)

pub count-without : (g : Graph) (k : ℕ) → count_of (without g k) ≤ count_of g
count-without g k =
    omega (
      arith,
      finite_set.len-remove nat_cmp_total g.keys k,
      one_less (has g k)
          (key_count g),
      len-retain_keys g.pairs (λ p. not (p.0 == k) && not (p.1 == k)),
    )

-- a graph with a pair has at least one
pub some_pair : (g : Graph) (a b : ℕ) → is_some (weight_of g a b) ≡ true → 1 ≤ pair_count g
some_pair g a b there = by (pair_count g) refl
  where
    by : (count : ℕ) → count ≡ pair_count g → 1 ≤ count
    by zero e =
        let nothing : weight_of g a b ≡ None = ap (λ ps. finite_map.get ps (a, b))
        (finite_map.empty_of_len g.pairs (sym e)) ∙ finite_map.get-empty pair_cmp (a, b) in
        absurd (true≢false (sym there ∙ ap is_some nothing))
    by (suc count) e = omega arith

pub count-cut_edge : (g : Graph) (a b : ℕ) → count_of (change g (RemoveEdge a b)) ≤ count_of g
count-cut_edge g a b = omega (
  arith,
  finite_map.len-remove pair_total g.pairs (a, b),
  one_less
      (finite_map.contains_key g.pairs (a, b)) (pair_count g),
)

-- a call adds at most one vertex or edge
pub count-after : (g : Graph) (c : Call) → count_of (after g c) ≤ count_of g + 1
count-after g c = by (grows g c) refl
  where
    by : (t : Bool) → grows g c ≡ t → count_of (after g c) ≤ count_of g + 1
    by true e = omega (arith, one_added g c e)
    by false e = omega (arith, none_added g c e)
