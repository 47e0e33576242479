-- Where each node is a key or a pair of the graph, and where none is free.
use Rattle.std.proofs.Common.{◌≡◌, ◌≢◌, ◌⊎◌, ℕ, zero, suc, ◌+◌, ◌<◌, ◌≤◌, Bool, true, false, cond, not, ◌&&◌, List, []}
use Rattle.std.proofs.Common.{◌∷◌, refl, sym, ap, ap₂, ◌∙◌, subst, arith, inl, inr, ⊎_elim}
use Rattle.std.specs.Prelude.{Contains}
use Rattle.std.proofs.lemmas.Bool.{and_parts}
use mathlib.Core.Logic.{dite}
use native.Mathlib.Decide.{ℕ_discrete}
use Rattle.packed_link.specs.Link.{index_of, nowhere}
use Rattle.packed_link.specs.Layout.{Sizes, IsLayout, free_at}
use Rattle.graph_kinds.specs.Graph.{key_count, pair_count}
use Rattle.core_epoch.specs.Free.{Leads}
use Rattle.core_journal.specs.declared.event.Event.{Event}
use Rattle.core_journal.specs.GraphOf.{graph_of}
use Rattle.core_journal.specs.Machine.{word_at}
use Rattle.core_journal.specs.Right.{NoneFree}
use Rattle.core_journal.specs.State.{Mode, Free, Fresh, Linked, Spent, Node, State, is_linked, state}
use Rattle.core_kept.specs.Counts.{count_below}
use Rattle.core_kept.specs.Free.{is_free, pool_in}
use Rattle.core_kept.specs.Kept.{IsKept}
use Rattle.core_kept.specs.Nodes.{node_in}
use Rattle.core_kept.proofs.FreeList.{free_list, first_is_free, first_leads, few_nodes}
use Rattle.core_counts.specs.Nodes.{is_key, is_key_life, is_pair, IsAllGraph}
use Rattle.core_counts.proofs.GraphNodes.{keys_are, pairs_are, linked_is, not_is}

none_listed : (nodes : ℕ) (link : ℕ → ℕ) (xs : List ℕ) → nodes ≤ nowhere → Leads nodes link nowhere xs → xs ≡ []
none_listed nodes link [] few c = refl
none_listed nodes link (x ∷ xs) few c = let a = c.0 in let b = c.1 in absurd (omega (arith, a, b, few))

none_contained : (x : ℕ) → Contains [] x → ⊥
none_contained x h = absurd (omega (arith, h.1))

module _ (sizes : Sizes) (z : IsLayout sizes) (journal : List Event) (kept : IsKept sizes journal) where
  -- the free list leads to none: no node is free
  pub empty_none : NoneFree sizes journal → (x : ℕ) → x < sizes.nodes → (node_in sizes journal x).mode ≢ Free
  empty_none n x t m =
      let f = free_list sizes z journal kept in
      let on = f.all x t (ap is_free m) in
      let leads : Leads sizes.nodes (pool_in sizes journal).link nowhere (state sizes journal).free = subst
      (λ (i : ℕ). Leads sizes.nodes (pool_in sizes journal).link i (state sizes journal).free) n.empty f.leads in
      let none : (state sizes journal).free ≡ [] = none_listed sizes.nodes (pool_in sizes journal).link
      (state sizes journal).free (few_nodes sizes z) leads in
      none_contained x (subst (λ (xs : List ℕ). Contains xs x) none on)

  pub none_empty : ((x : ℕ) → x < sizes.nodes → (node_in sizes journal x).mode ≢ Free) → NoneFree sizes journal
  none_empty h = record {
    empty = ⊎_elim (λ (e : index_of (word_at sizes journal (free_at sizes)) ≡ nowhere). e)
        (λ (t : index_of (word_at sizes journal (free_at sizes)) < sizes.nodes). absurd
        (h (index_of (word_at sizes journal (free_at sizes))) t
        (first_is_free sizes z journal kept (index_of (word_at sizes journal (free_at sizes))) t refl)))
        (first_leads sizes z journal kept);
  }

-- two tests of which at most one holds
module _ (f g : ℕ → Bool) (apart : (x : ℕ) → f x ≡ true → g x ≡ false) where
  one_each : (x : ℕ) → cond (f x) 1 0 + cond (g x) 1 0 ≤ 1
  one_each x = by (f x) (g x) (apart x)
    where
      by : (a b : Bool) → (a ≡ true → b ≡ false) → cond a 1 0 + cond b 1 0 ≤ 1
      by true true h = let t = h refl in absurd (cc)
      by true false h = omega arith
      by false true h = omega arith
      by false false h = omega arith

  few_both : (n : ℕ) → count_below f n + count_below g n ≤ n
  few_both zero = omega arith
  few_both (suc n) = omega (arith, one_each n, few_both n)

  all_both : (n : ℕ) → ((x : ℕ) → x < n → (f x ≡ true) ⊎ (g x ≡ true)) → count_below f n + count_below g n ≡ n
  all_both zero h = refl
  all_both (suc n) h =
      let rest = all_both n (λ x low. h x (omega (arith, low))) in
      ⊎_elim
      (λ (t : f n ≡ true). yes (f n) (g n) t (apart n t) rest)
      (λ (t : g n ≡ true). no (f n) (g n) t (one_each n) rest)
      (h n (omega arith))
    where
      yes : (a b : Bool) → a ≡ true → b ≡ false → count_below f n + count_below g n ≡ n →
          (cond a 1 0 + count_below f n) + (cond b 1 0 + count_below g n) ≡ suc n
      yes true false t u r = omega (arith, r)
      yes true true t u r = absurd (cc)
      yes false b t u r = absurd (cc)

      no : (a b : Bool) → b ≡ true → cond a 1 0 + cond b 1 0 ≤ 1 → count_below f n + count_below g n ≡ n →
          (cond a 1 0 + count_below f n) + (cond b 1 0 + count_below g n) ≡ suc n
      no true true t u r = absurd (omega (arith, u))
      no false true t u r = omega (arith, r)
      no a false t u r = absurd (cc)

  each_both : (n : ℕ) → count_below f n + count_below g n ≡ n → (x : ℕ) → x < n → (f x ≡ true) ⊎ (g x ≡ true)
  each_both zero h x low = absurd (omega (arith, low))
  each_both (suc n) h x low = dite (ℕ_discrete x n)
      (λ same. subst (λ (y : ℕ). (f y ≡ true) ⊎ (g y ≡ true)) (sym same)
      (by (f n) (g n) (let a = few_both n in omega (arith, h, a))))
      (λ ne. each_both n (omega (arith, h, one_each n, few_both n)) x (omega (arith, low, ne)))
    where
      by : (a b : Bool) → 1 ≤ cond a 1 0 + cond b 1 0 → (a ≡ true) ⊎ (b ≡ true)
      by true b h = inl refl
      by false true h = inr refl
      by false false h = absurd (omega (arith, h))

key_no_pair : (s : State) (v : Node) → is_key v ≡ true → is_pair s v ≡ false
key_no_pair s v h =
    let p = and_parts (is_linked v.mode) (v.vertex && not v.marked) h in
    let q = and_parts v.vertex (not v.marked) p.1 in
    by (is_linked v.mode) v.vertex (not v.marked) (is_key_life s v.source && is_key_life s v.target) q.0
  where
    by : (a b c d : Bool) → b ≡ true → ((a && (not b && c)) && d) ≡ false
    by true true c d h = refl
    by false true c d h = refl
    by a false c d h = absurd (cc)

module _ (sizes : Sizes) (z : IsLayout sizes) (journal : List Event) (kept : IsKept sizes journal) where
  abbrev s : State
  s = state sizes journal

  abbrev key_test : ℕ → Bool
  key_test x = is_key (s.node x)

  abbrev pair_test : ℕ → Bool
  pair_test x = is_pair s (s.node x)

  pub few_nodes_of_graph : key_count (graph_of journal) + pair_count (graph_of journal) ≤ sizes.nodes
  few_nodes_of_graph =
      let k = keys_are sizes z journal kept in
      let p = pairs_are sizes z journal kept in
      let h = few_both key_test pair_test (λ x. key_no_pair s (s.node x)) sizes.nodes in
      omega (arith, k, p, h)

  a_node : IsAllGraph sizes journal → (x : ℕ) → x < sizes.nodes → (key_test x ≡ true) ⊎ (pair_test x ≡ true)
  a_node g x t = by (s.node x).mode refl (s.node x).vertex refl (g.marked x t)
    where
      both : (m : Mode) (v d c e : Bool) → m ≡ Linked → v ≡ false → d ≡ false → c ≡ true → e ≡ true →
          ((is_linked m && (not v && not d)) && (c && e)) ≡ true
      both Linked false false true true a b f c e = refl
      both Linked false false true false a b f c e = absurd (cc)
      both Linked false false false h a b f c e = absurd (cc)
      both Linked false true g h a b f c e = absurd (cc)
      both Linked true d g h a b f c e = absurd (cc)
      both _ v d g h a b f c e = absurd (cc)

      flags : (m : Mode) (v d : Bool) → m ≡ Linked → v ≡ true → d ≡ false → (is_linked m && (v && not d)) ≡ true
      flags m v d a b c = ap₂ (λ (p : Mode) (q : Bool). is_linked p && (q && not d)) a b ∙ ap not c

      by : (m : Mode) → (s.node x).mode ≡ m → (v : Bool) → (s.node x).vertex ≡ v → (s.node x).marked ≡ false →
          (key_test x ≡ true) ⊎ (pair_test x ≡ true)
      by Free m v e d = absurd (g.free x t m)
      by Fresh m v e d = absurd (g.fresh x t m)
      by Spent m v e d = absurd (g.spent x t m)
      by Linked m true e d = inl (flags (s.node x).mode (s.node x).vertex (s.node x).marked m e d)
      by Linked m false e d = inr (both (s.node x).mode (s.node x).vertex (s.node x).marked _ _ m e d (g.source x t e)
          (g.target x t e))

  pub all_counted : IsAllGraph sizes journal → key_count (graph_of journal) + pair_count
      (graph_of journal) ≡ sizes.nodes
  all_counted g =
      let k = keys_are sizes z journal kept in
      let p = pairs_are sizes z journal kept in
      let h = all_both key_test pair_test (λ x. key_no_pair s (s.node x)) sizes.nodes (a_node g) in
      omega (arith, k, p, h)

  -- each node is one of the graph
  pub each_all : ((x : ℕ) → x < sizes.nodes → (key_test x ≡ true) ⊎ (pair_test x ≡ true)) → key_count
      (graph_of journal) + pair_count (graph_of journal) ≡ sizes.nodes
  each_all each =
      let k = keys_are sizes z journal kept in
      let p = pairs_are sizes z journal kept in
      let h = all_both key_test pair_test (λ x. key_no_pair s (s.node x)) sizes.nodes each in
      omega (arith, k, p, h)

  each_counted : key_count (graph_of journal) + pair_count (graph_of journal) ≡ sizes.nodes → (x : ℕ) → x < sizes.nodes
      → (key_test x ≡ true) ⊎ (pair_test x ≡ true)
  each_counted is =
      let k = keys_are sizes z journal kept in
      let p = pairs_are sizes z journal kept in
      each_both key_test pair_test (λ x. key_no_pair s (s.node x)) sizes.nodes (omega (arith, k, p, is))

  -- a node of the graph is linked and unmarked, and an edge has both ends
  record IsOfGraph (x : ℕ) : Type 0 where
    pub linked : (s.node x).mode ≡ Linked
    pub unmarked : (s.node x).marked ≡ false
    pub source : (s.node x).vertex ≡ false → is_key_life s (s.node x).source ≡ true
    pub target : (s.node x).vertex ≡ false → is_key_life s (s.node x).target ≡ true

  of_graph : (x : ℕ) → (key_test x ≡ true) ⊎ (pair_test x ≡ true) → IsOfGraph x
  of_graph x (inl h) =
      let p = and_parts (is_linked (s.node x).mode) ((s.node x).vertex && not (s.node x).marked) h in
      let q = and_parts (s.node x).vertex (not (s.node x).marked) p.1 in
      let v = q.0 in
      record {
        linked = linked_is (s.node x).mode p.0;
        unmarked = not_is (s.node x).marked q.1;
        source = λ e. absurd
            (cc);
        target = λ e. absurd (cc);
      }
  of_graph x (inr h) =
      let f = and_parts (is_linked (s.node x).mode && (not (s.node x).vertex && not (s.node x).marked))
      (is_key_life s (s.node x).source && is_key_life s (s.node x).target) h in
      let p = and_parts (is_linked (s.node x).mode) (not (s.node x).vertex && not (s.node x).marked) f.0 in
      let q = and_parts (not (s.node x).vertex) (not (s.node x).marked) p.1 in
      let e = and_parts (is_key_life s (s.node x).source) (is_key_life s (s.node x).target) f.1 in
      record {
        linked = linked_is (s.node x).mode p.0;
        unmarked = not_is
            (s.node x).marked q.1;
        source = λ _. e.0;
        target = λ _. e.1;
      }

  pub counted_all : key_count (graph_of journal) + pair_count (graph_of journal) ≡ sizes.nodes
      → IsAllGraph sizes journal
  counted_all is = record {
    free = λ x t m. let h = (of_graph x (each_counted is x t)).linked in absurd (cc);
    fresh = λ x t m. let h = (of_graph x (each_counted is x t)).linked in absurd (cc);
    spent = λ x t m. let h = (of_graph x (each_counted is x t)).linked in absurd (cc);
    marked = λ x t. (of_graph x (each_counted is x t)).unmarked;
    source = λ x t. (of_graph x (each_counted is x t)).source;
    target = λ x t. (of_graph x (each_counted is x t)).target;
  }
