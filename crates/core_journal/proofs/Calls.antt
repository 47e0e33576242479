-- What calls change, as far as a history needs it.
use Rattle.std.proofs.Common.{◌≡◌, ◌≢◌, ℕ, Bool, true, false, cond, not, ◌&&◌, ◌||◌, ◌==◌, ◌⊎◌, inl, inr, Option, Some}
use Rattle.std.proofs.Common.{None, List, refl, sym, ap, ◌∙◌, true≢false, arith, ne_eqb, eqb-true, eq-eqb}
use mathlib.Core.Logic.{dite}
use native.Mathlib.Decide.{ℕ_discrete}
use Rattle.std.specs.Prelude.{Decides, nat_eq}
use Rattle.std.specs.Cmp.Lexicographic.{pointwise, pointwise_decides, bytes_decides}
use Rattle.std.specs.FinMap as map
use Rattle.std.specs.FinSet as set
use Rattle.std.specs.Ordering.{nat_cmp, eq_by_cmp}
use Rattle.std.specs.Cmp.{nat_cmp_total}
use Rattle.std.specs.List.{list_any}
use Rattle.graph_kinds.specs.declared.call.Call.{Call}
use Rattle.graph_kinds.specs.declared.call.Call.TheVariants.{AddVertex, RemoveVertex, HasVertex, AddEdge, RemoveEdge}
use Rattle.graph_kinds.specs.declared.call.Call.TheVariants.{HasEdge, Reach, Levels, Cheapest}
use Rattle.graph_kinds.specs.declared.outcome.Outcome.{Outcome}
use Rattle.graph_kinds.specs.declared.outcome.Outcome.TheVariants as out
use Rattle.graph_kinds.specs.Graph.{Graph, has, weight_of}
use Rattle.graph_kinds.specs.Answer.{answer, alters, after, change, without, is_change, plain, by_weight, by_path}
use Rattle.graph_kinds.specs.Answer.{by_levels, by_cost, there_with}
use Rattle.graph_kinds.specs.Levels.{reach_path, levels_of}
use Rattle.graph_kinds.specs.Path.{least_cost, cheapest_path}
use Rattle.graph_kinds.specs.History.{Touches}
use Rattle.graph_kinds.proofs.Graphs.{has_put, has_cut, weight_put, weight_cut, weight_kept}
use Rattle.graph_kinds.proofs.Graphs as graphs
use Rattle.graph_kinds.proofs.Calls.{and_left, and_right, after_change, after_either}
use Rattle.core_journal.specs.Right.{IsEdgeCall}
use Rattle.core_journal.specs.GraphOf.{same_pair, same_graph}

set_same : (k : ℕ) → (k == k) ≡ true
set_same k = grind arith

or_true : (b : Bool) → (b || true) ≡ true
or_true true = refl
or_true false = refl

and_false : (t : Bool) → (t && false) ≡ false
and_false true = refl
and_false false = refl

-- to remove a key that is there alters the graph
pub removes_there : (g : Graph) (k : ℕ) → has g k ≡ true → alters g (RemoveVertex k) ≡ true
unfolding alters answer
removes_there g k h = ap (λ b. is_change (cond b (out.Removed 0) out.Absent)) h

-- and is answered Removed
pub answers_removed : (g : Graph) (k : ℕ) → has g k ≡ true → (answer g (RemoveVertex k)).outcome ≡ out.Removed 0
unfolding answer
answers_removed g k h = ap (λ b. cond b (out.Removed 0) out.Absent) h

-- two graphs with a key answer its removal alike
pub same_removal : (x z : Graph) (k : ℕ) → has x k ≡ true → has z k ≡ true → answer x (RemoveVertex k) ≡ answer z
    (RemoveVertex k)
unfolding answer
same_removal x z k hx hz = ap (λ b. plain (cond b (out.Removed 0) out.Absent)) (hx ∙ sym hz)

-- a removal that alters the graph finds its key
pub there_removed : (g : Graph) (k : ℕ) → alters g (RemoveVertex k) ≡ true → has g k ≡ true
unfolding alters answer
there_removed g k e = by (has g k) e
  where
    by : (b : Bool) → is_change (cond b (out.Removed 0) out.Absent) ≡ true → b ≡ true
    by true e = refl
    by false e = absurd (cc)

-- the graph after a removal
pub after_removal : (g : Graph) (k : ℕ) → has g k ≡ true → after g (RemoveVertex k) ≡ without g k
after_removal g k h = after_change g (RemoveVertex k) (removes_there g k h)

-- to add a key that is not there alters the graph
pub adds_vertex : (g : Graph) (k : ℕ) → has g k ≡ false → alters g (AddVertex k) ≡ true
unfolding alters answer
adds_vertex g k h = ap (λ b. is_change (cond b (out.Present 0) out.Added)) h

there_added : (g : Graph) (k : ℕ) → alters g (AddVertex k) ≡ true → has g k ≡ false
unfolding alters answer
there_added g k e = by (has g k) e
  where
    by : (b : Bool) → is_change (cond b (out.Present 0) out.Added) ≡ true → b ≡ false
    by true e = absurd (cc)
    by false e = refl

has_added : (g : Graph) (j k : ℕ) → has g k ≡ true → has (change g (AddVertex j)) k ≡ true
has_added g j k h = has_put g.keys j k ∙ (ap (λ b. (k == j) || b) h ∙ or_true (k == j))

has_left : (g : Graph) (j k : ℕ) → k ≢ j → has g k ≡ true → has (without g j) k ≡ true
has_left g j k ne h = has_cut g.keys j k ∙ (λ i. not (ne_eqb k j ne i) && h i)

has_gone : (g : Graph) (k : ℕ) → has (without g k) k ≡ false
has_gone g k = has_cut g.keys k k ∙ ap (λ b. not b && has g k) (set_same k)

-- a key goes only by its removal
pub only_removal : (g : Graph) (c : Call) (k : ℕ) → has g k ≡ true → after g c ≡ after g (RemoveVertex k)
    → c ≡ RemoveVertex k
only_removal g c k h e = by c gone
  where
    gone : has (after g c) k ≡ false
    gone = ap (λ (x : Graph). has x k) (e ∙ after_removal g k h) ∙ has_gone g k

    still : (c : Call) → has (change g c) k ≡ true → has (after g c) k ≡ false → c ≡ RemoveVertex k
    still c there gone = absurd (true≢false (sym (after_either (λ x. has x k ≡ true) g c (λ a. there) h) ∙ gone))

    by : (c : Call) → has (after g c) k ≡ false → c ≡ RemoveVertex k
    by (AddVertex j) gone = still (AddVertex j) (has_added g j k h) gone
    by (RemoveVertex j) gone = dite (ℕ_discrete k j)
        (λ same. ap RemoveVertex (sym same))
        (λ ne. still (RemoveVertex j) (has_left g j k ne h) gone)
    by (HasVertex j) gone = still (HasVertex j) h gone
    by (AddEdge a b w) gone = still (AddEdge a b w) h gone
    by (RemoveEdge a b) gone = still (RemoveEdge a b) h gone
    by (HasEdge a b) gone = still (HasEdge a b) h gone
    by (Reach a b) gone = still (Reach a b) h gone
    by (Levels a) gone = still (Levels a) h gone
    by (Cheapest a b) gone = still (Cheapest a b) h gone

-- a graph that a removal of this key doesn't tell from another
pub record AlikeFor (k : ℕ) (x y : Graph) : Type 0 where
  pub there : has y k ≡ true
  pub left : after y (RemoveVertex k) ≡ after x (RemoveVertex k)

-- a pair that the removal of a key keeps
abbrev kept : ℕ → ℕ × ℕ → Bool
kept k p = not (p.0 == k) && not (p.1 == k)

passes_neither : (a b k : ℕ) → (k ≡ a) ⊎ (k ≡ b) → kept k (a, b) ≡ false
passes_neither a b k (inl e) = ap (λ t. not t && not (b == k)) (ap (λ j. a == j) e ∙ set_same a)
passes_neither a b k (inr e) = ap (λ t. not (a == k) && not t) (ap (λ j. b == j) e ∙ set_same b) ∙ and_false
    (not (a == k))

-- where a pair goes with the key, its weight before doesn't matter
same_rest : (x y : Graph) (k a b : ℕ) → has x k ≡ true → y.keys ≡ x.keys → kept k (a, b) ≡ false
    → ((c d : ℕ) → ((c == a) && (d == b)) ≡ false → weight_of y c d ≡ weight_of x c d) → AlikeFor k x y
same_rest x y k a b h keys gone same =
    let there : has y k ≡ true = ap (λ s. set.contains s k) keys ∙ h in
    record {
      there = there;
      left = after_removal y k there ∙ (graphs.same_graph (without y k) (without x k)
          (λ j. ap (λ s. set.contains (set.remove s k) j) keys) (λ c d. pair c d ((c == a) && (d == b)) refl) ∙ sym
          (after_removal x k h));
    }
  where
    pair : (c d : ℕ) (t : Bool) → ((c == a) && (d == b)) ≡ t → weight_of (without y k) c d ≡ weight_of (without x k) c d
    pair c d false e = weight_kept y.pairs (kept k) c d ∙ (ap (λ o. cond (kept k (c, d)) o None) (same c d e) ∙ sym
        (weight_kept x.pairs (kept k) c d))
    pair c d true e =
        let f : c ≡ a = eqb-true c a (and_left (c == a) (d == b) e) in
        let s : d ≡ b = eqb-true d b (and_right (c == a) (d == b) e) in
        let out : kept k (c, d) ≡ false = (λ i. kept k (f i, s i)) ∙ gone in
        weight_kept y.pairs (kept k) c d ∙ (ap (λ t. cond t (weight_of y c d) None) out ∙ sym
        (weight_kept x.pairs (kept k) c d ∙ ap (λ t. cond t (weight_of x c d) None) out))

-- a call on a pair with this key changes nothing that the key's removal leaves
pub alike_edge : (k : ℕ) (x : Graph) (c : Call) → has x k ≡ true → Touches c k → AlikeFor k x (after x c)
alike_edge k x (AddEdge a b w) h t = after_either (AlikeFor k x) x (AddEdge a b w)
    (λ e. same_rest x _ k a b h refl (passes_neither a b k t)
    (λ c d e. weight_put x.pairs a b w c d ∙ ap (λ u. cond u (Some w) (weight_of x c d)) e))
    (record { there = h; left = refl })
alike_edge k x (RemoveEdge a b) h t = after_either (AlikeFor k x) x (RemoveEdge a b)
    (λ e. same_rest x _ k a b h refl (passes_neither a b k t)
    (λ c d e. weight_cut x.pairs a b c d ∙ ap (λ u. cond u None (weight_of x c d)) e))
    (record { there = h; left = refl })
alike_edge k x (AddVertex j) h t = absurd t
alike_edge k x (RemoveVertex j) h t = absurd t
alike_edge k x (HasVertex j) h t = absurd t
alike_edge k x (HasEdge a b) h t = absurd t
alike_edge k x (Reach a b) h t = absurd t
alike_edge k x (Levels a) h t = absurd t
alike_edge k x (Cheapest a b) h t = absurd t

-- graphs alike for a key, one after the other
pub alike_trans : (k : ℕ) (x y z : Graph) → AlikeFor k x y → AlikeFor k y z → AlikeFor k x z
alike_trans k x y z f g = record { there = g.there; left = g.left ∙ f.left }

abbrev pub called_pair : Call → ℕ × ℕ
called_pair (AddEdge a b w) = (a, b)
called_pair (RemoveEdge a b) = (a, b)
called_pair _ = (0, 0)

abbrev pair_weight : Graph → Call → Option ℕ
pair_weight g c = weight_of g (called_pair c).0 (called_pair c).1

changed_there : (w x : ℕ) → is_change (there_with w x) ≡ true → x ≢ w
changed_there w x e same =
    let f : (x == w) ≡ true = eq-eqb x w same in
    let g : is_change (out.Present x) ≡ true = sym (ap (λ t. is_change (cond t (out.Present x) (out.Changed x))) f)
    ∙ e in cc

add_alters : (b : Bool) (o : Option ℕ) (w : ℕ) → is_change (cond b (by_weight o (there_with w) out.Added)
    (plain out.NoVertex)).outcome ≡ true → (b ≡ true) × (o ≢ Some w)
add_alters true None w e = (refl, λ f. absurd (cc))
add_alters true (Some x) w e = (refl, λ f. changed_there w x e (cc))
add_alters false o w e = absurd (cc)

remove_alters : (b : Bool) (w : Option ℕ) → is_change (cond b (by_weight w out.Removed out.NoEdge)
    (plain out.NoVertex)).outcome ≡ true → (b ≡ true) × (w ≢ None)
remove_alters true None e = absurd (cc)
remove_alters true (Some w) e = (refl, λ f. absurd (cc))
remove_alters false w e = absurd (cc)

-- to add a pair that is not there alters the graph
pub adds_edge : (g : Graph) (a b w : ℕ) → has g a ≡ true → has g b ≡ true → weight_of g a b ≡ None → alters g
    (AddEdge a b w) ≡ true
unfolding alters answer
adds_edge g a b w ha hb none = λ i. is_change (cond (ha i && hb i) (by_weight (none i) (there_with w) out.Added)
    (plain out.NoVertex)).outcome

-- to add a pair that is there with another weight alters the graph
pub changes_edge : (g : Graph) (a b v w : ℕ) → has g a ≡ true → has g b ≡ true → weight_of g a b ≡ Some v → v ≢ w
    → alters g (AddEdge a b w) ≡ true
unfolding alters answer
changes_edge g a b v w ha hb there ne =
    (λ i. is_change (cond (ha i && hb i) (by_weight (there i) (there_with w) out.Added) (plain out.NoVertex)).outcome)
    ∙ ap (λ t. is_change (cond t (out.Present v) (out.Changed v))) (ne_eqb v w ne)

-- to remove a pair that is there alters the graph
pub removes_edge : (g : Graph) (a b w : ℕ) → has g a ≡ true → has g b ≡ true → weight_of g a b ≡ Some w → alters g
    (RemoveEdge a b) ≡ true
unfolding alters answer
removes_edge g a b w ha hb there = λ i. is_change (cond (ha i && hb i) (by_weight (there i) out.Removed out.NoEdge)
    (plain out.NoVertex)).outcome

-- an edge call that alters the graph: both keys are there, and the pair's weight changes
pub record IsEdgeChange (x : Graph) (c : Call) : Type 0 where
  pub source : has x (called_pair c).0 ≡ true
  pub target : has x (called_pair c).1 ≡ true
  pub turned : pair_weight (after x c) c ≢ pair_weight x c

itself : (a b : ℕ) → ((a == a) && (b == b)) ≡ true
itself a b = ap (λ t. t && (b == b)) (set_same a) ∙ set_same b

-- an edge call that alters the graph finds its keys and changes its pair
pub edge_change : (x : Graph) (c : Call) → IsEdgeCall c → alters x c ≡ true → IsEdgeChange x c
unfolding alters answer
edge_change x (AddEdge a b w) h e =
    let two = add_alters (has x a && has x b) (weight_of x a b) w e in
    let now : weight_of (after x (AddEdge a b w)) a b ≡ Some w = ap (λ (g : Graph). weight_of g a b)
    (after_change x (AddEdge a b w) e)
    ∙ (weight_put x.pairs a b w a b ∙ ap (λ t. cond t (Some w) (weight_of x a b)) (itself a b)) in
    record {
      source = and_left (has x a) (has x b) two.0;
      target = and_right (has x a)
          (has x b) two.0;
      turned = λ same. two.1 (sym same ∙ now);
    }
edge_change x (RemoveEdge a b) h e =
    let two = remove_alters (has x a && has x b) (weight_of x a b) e in
    let now : weight_of (after x (RemoveEdge a b)) a b ≡ None = ap (λ (g : Graph). weight_of g a b)
    (after_change x (RemoveEdge a b) e)
    ∙ (weight_cut x.pairs a b a b ∙ ap (λ t. cond t None (weight_of x a b)) (itself a b)) in
    record {
      source = and_left (has x a) (has x b) two.0;
      target = and_right (has x a)
          (has x b) two.0;
      turned = λ same. two.1 (sym same ∙ now);
    }
edge_change x (AddVertex k) h e = absurd h
edge_change x (RemoveVertex k) h e = absurd h
edge_change x (HasVertex k) h e = absurd h
edge_change x (HasEdge a b) h e = absurd h
edge_change x (Reach a b) h e = absurd h
edge_change x (Levels a) h e = absurd h
edge_change x (Cheapest a b) h e = absurd h

-- an edge call changes no other pair
edge_else : (x : Graph) (c : Call) (a b : ℕ) → IsEdgeCall c → ((a == (called_pair c).0) && (b == (called_pair c).1))
    ≡ false
    → weight_of (after x c) a b ≡ weight_of x a b
edge_else x (AddEdge c d w) a b h e = after_either (λ g. weight_of g a b ≡ weight_of x a b) x (AddEdge c d w)
    (λ f. weight_put x.pairs c d w a b ∙ ap (λ t. cond t (Some w) (weight_of x a b)) e) refl
edge_else x (RemoveEdge c d) a b h e = after_either (λ g. weight_of g a b ≡ weight_of x a b) x (RemoveEdge c d)
    (λ f. weight_cut x.pairs c d a b ∙ ap (λ t. cond t None (weight_of x a b)) e) refl
edge_else x (AddVertex k) a b h e = absurd h
edge_else x (RemoveVertex k) a b h e = absurd h
edge_else x (HasVertex k) a b h e = absurd h
edge_else x (HasEdge c d) a b h e = absurd h
edge_else x (Reach c d) a b h e = absurd h
edge_else x (Levels c) a b h e = absurd h
edge_else x (Cheapest c d) a b h e = absurd h

-- two edge calls with one change are on one pair
pub one_pair : (x : Graph) (c d : Call) → IsEdgeCall c → IsEdgeCall d → alters x d ≡ true → after x c ≡ after x d
    → called_pair d ≡ called_pair c
one_pair x c d hc hd does same = by (((called_pair d).0 == (called_pair c).0) &&
    ((called_pair d).1 == (called_pair c).1)) refl
  where
    by : (b : Bool) → (((called_pair d).0 == (called_pair c).0) && ((called_pair d).1 == (called_pair c).1)) ≡ b →
        called_pair d ≡ called_pair c
    by true e =
        let f = eqb-true (called_pair d).0 (called_pair c).0 (and_left ((called_pair d).0 == (called_pair c).0)
        ((called_pair d).1 == (called_pair c).1) e) in
        let s = eqb-true (called_pair d).1 (called_pair c).1 (and_right ((called_pair d).0 == (called_pair c).0)
        ((called_pair d).1 == (called_pair c).1) e) in
        λ i. (f i, s i)
    by false e = absurd ((edge_change x d hd does).turned (ap (λ (g : Graph). pair_weight g d) (sym same)
        ∙ edge_else x c (called_pair d).0 (called_pair d).1 hc e))

-- an edge call is on its first key
pub touches_first : (c : Call) (k : ℕ) → IsEdgeCall c → k ≡ (called_pair c).0 → Touches c k
touches_first (AddEdge a b w) k h e = inl e
touches_first (RemoveEdge a b) k h e = inl e
touches_first (AddVertex j) k h e = absurd h
touches_first (RemoveVertex j) k h e = absurd h
touches_first (HasVertex j) k h e = absurd h
touches_first (HasEdge a b) k h e = absurd h
touches_first (Reach a b) k h e = absurd h
touches_first (Levels a) k h e = absurd h
touches_first (Cheapest a b) k h e = absurd h

-- and on its second
pub touches_second : (c : Call) (k : ℕ) → IsEdgeCall c → k ≡ (called_pair c).1 → Touches c k
touches_second (AddEdge a b w) k h e = inr e
touches_second (RemoveEdge a b) k h e = inr e
touches_second (AddVertex j) k h e = absurd h
touches_second (RemoveVertex j) k h e = absurd h
touches_second (HasVertex j) k h e = absurd h
touches_second (HasEdge a b) k h e = absurd h
touches_second (Reach a b) k h e = absurd h
touches_second (Levels a) k h e = absurd h
touches_second (Cheapest a b) k h e = absurd h

same_pairs : (x y : (ℕ × ℕ) × ℕ) → Decides (same_pair x y) (x ≡ y)
same_pairs x y = (
  λ e.
      let first = eqb-true x.0.0 y.0.0 (and_left (x.0.0 == y.0.0) ((x.0.1 == y.0.1) && (x.1 == y.1)) e) in
      let rest = and_right (x.0.0 == y.0.0) ((x.0.1 == y.0.1) && (x.1 == y.1)) e in
      let second = eqb-true x.0.1 y.0.1 (and_left (x.0.1 == y.0.1) (x.1 == y.1) rest) in
      let third = eqb-true x.1 y.1 (and_right (x.0.1 == y.0.1) (x.1 == y.1) rest) in
      λ i. ((first i, second i), third i),
  λ e. ap (same_pair x) (sym e) ∙ own,
)
  where
    own : same_pair x x ≡ true
    own = ap (λ b. b && ((x.0.1 == x.0.1) && (x.1 == x.1))) (set_same x.0.0) ∙
        (ap (λ b. b && (x.1 == x.1)) (set_same x.0.1) ∙ set_same x.1)

-- graphs that the test finds to be one are one
pub same_graph_is : (g h : Graph) → same_graph g h ≡ true → g ≡ h
unfolding same_graph
same_graph_is g h e =
    let items = (bytes_decides (set.items g.keys) (set.items h.keys)).0
    (and_left (pointwise nat_eq (set.items g.keys) (set.items h.keys))
    (pointwise same_pair (map.entries g.pairs) (map.entries h.pairs)) e) in
    let pairs = (pointwise_decides same_pairs (map.entries g.pairs) (map.entries h.pairs)).0
    (and_right (pointwise nat_eq (set.items g.keys) (set.items h.keys))
    (pointwise same_pair (map.entries g.pairs) (map.entries h.pairs)) e) in
    let k = set.same_set nat_cmp_total map.nat_cmp-IsAntisymmetric g.keys h.keys
    (λ q. set.contains-items g.keys q ∙ (ap (list_any (eq_by_cmp nat_cmp q)) items ∙ sym
    (set.contains-items h.keys q))) in
    let p = map.same_entries_map g.pairs h.pairs pairs in
    λ i. record { keys = k i; pairs = p i }

-- the test finds a graph to be itself
pub same_graph_self : (g : Graph) → same_graph g g ≡ true
unfolding same_graph
same_graph_self g =
    let keys = (bytes_decides (set.items g.keys) (set.items g.keys)).1 refl in
    let pairs = (pointwise_decides same_pairs (map.entries g.pairs) (map.entries g.pairs)).1 refl in
    λ i. keys i && pairs i

-- a call that only looks alters nothing
look : (b : Bool) (p q : Outcome) → is_change p ≡ false → is_change q ≡ false → is_change (cond b p q) ≡ true → ⊥
look true p q f g e = true≢false (sym e ∙ f)
look false p q f g e = true≢false (sym e ∙ g)

edge : (b : Bool) (w : Option ℕ) → is_change (cond b (by_weight w out.Edge out.NoEdge) (plain out.NoVertex)).outcome ≡
    true → ⊥
edge true None e = true≢false (sym e)
edge true (Some w) e = true≢false (sym e)
edge false w e = true≢false (sym e)

path : (b : Bool) (p : Option (List ℕ)) → is_change (cond b (by_path p) (plain out.NoVertex)).outcome ≡ true → ⊥
path true None e = true≢false (sym e)
path true (Some p) e = true≢false (sym e)
path false p e = true≢false (sym e)

look_levels : (b : Bool) (ls : List (List ℕ)) → is_change (cond b (by_levels ls) (plain out.NoVertex)).outcome ≡ true
    → ⊥
look_levels true ls e = true≢false (sym e)
look_levels false ls e = true≢false (sym e)

cost : (b : Bool) (c : Option ℕ) (p : List ℕ) → is_change (cond b (by_cost c p) (plain out.NoVertex)).outcome ≡ true → ⊥
cost true None p e = true≢false (sym e)
cost true (Some c) p e = true≢false (sym e)
cost false c p e = true≢false (sym e)

-- a call that alters the graph leaves another one
pub altered : (g : Graph) (c : Call) → alters g c ≡ true → after g c ≢ g
unfolding alters answer
altered g (AddVertex k) e same = true≢false (sym (has_new g k) ∙
    (ap (λ (x : Graph). has x k) (sym (after_change g (AddVertex k) e) ∙ same) ∙ there_added g k e))
  where
    has_new : (g : Graph) (k : ℕ) → has (change g (AddVertex k)) k ≡ true
    has_new g k = has_put g.keys k k ∙ ap (λ b. b || has g k) (set_same k)
altered g (RemoveVertex k) e same = true≢false (sym (there_removed g k e) ∙
    (ap (λ (x : Graph). has x k) (sym same ∙ after_change g (RemoveVertex k) e) ∙ has_gone g k))
altered g (AddEdge a b w) e same = (edge_change g (AddEdge a b w) tt e).turned
    (ap (λ (x : Graph). weight_of x a b) same)
altered g (RemoveEdge a b) e same = (edge_change g (RemoveEdge a b) tt e).turned
    (ap (λ (x : Graph). weight_of x a b) same)
altered g (HasVertex k) e same = look (has g k) out.Yes out.No refl refl e
altered g (HasEdge a b) e same = edge (has g a && has g b) (weight_of g a b) e
altered g (Reach a b) e same = path (has g a && has g b) (reach_path g a b) e
altered g (Levels a) e same = look_levels (has g a) (levels_of g a) e
altered g (Cheapest a b) e same = cost (has g a && has g b) (least_cost g a b) (cheapest_path g a b) e
