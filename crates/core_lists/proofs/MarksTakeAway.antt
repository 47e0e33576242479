-- Right after the mark of a vertex its key is gone; right after the mark of an edge with present ends its pair is gone,
-- or has the weight of the edge that replaced it.
use Rattle.std.proofs.Common.{◌≡◌, ◌≢◌, ℕ, zero, suc, ◌+◌, Bool, true, false, cond, ◌&&◌, List, [], ◌∷◌, ◌++◌, Option}
use Rattle.std.proofs.Common.{None, Some, take, inl, inr, refl, sym, ap, ◌∙◌, subst, true≢false, arith}
use Rattle.std.specs.Prelude.{slice_get}
use Rattle.graph_kinds.specs.Graph.{has, weight_of}
use Rattle.packed_link.specs.Layout.{Sizes, IsLayout}
use Rattle.packed_link.specs.declared.link.Life.{Life}
use Rattle.core_journal.specs.declared.event.Kind.{Kind}
use Rattle.core_journal.specs.declared.event.Kind.TheVariants.{MarkVertex, MarkEdge, FreezeEdge, ReplaceEdge}
use Rattle.core_journal.specs.declared.event.Event.{Event}
use Rattle.core_journal.specs.Changes.{IsRemovedVertex}
use Rattle.core_journal.specs.Event.{same_life, links_edge, links_vertex, marks_vertex, cuts_edge, cut_life, replaces}
use Rattle.core_journal.specs.GraphOf.{graph_of, present_key, present_pair}
use Rattle.core_journal.specs.Life.{edge_marked, key_of, link_of, vertex_marked}
use Rattle.core_journal.specs.Marks.{IsCutOf, IsMarkOf}
use Rattle.core_journal.specs.Right.{graph_at}
use Rattle.core_journal.proofs.KeptLives.{key_more, link_more}
use Rattle.core_journal.proofs.Lists.{prefix_take}
use Rattle.core_journal.proofs.LivesOf.{present_is, joined_is, key_of_life, life_of_key, life_of_pair}
use Rattle.core_journal.proofs.Snoc.{same_is, same_self, differs, find_last, marked_here, present_else, present_skip}
use Rattle.core_journal.proofs.Snoc.{cut_else, cut_here, link_skip}
use Rattle.core_kept.specs.Edges.{IsReplaceEdge}
use Rattle.core_kept.specs.Kept.{AllowedAs, IsKept}
use Rattle.core_kept.specs.Nodes.{IsUsed, node_in}
use Rattle.core_kept.specs.Vertices.{IsMarkVertex}
use Rattle.core_kept.proofs.EdgeEnds.{frozen_edge}
use Rattle.core_kept.proofs.Induction.{kept_front, allowed_at}
use Rattle.core_kept.proofs.Named.{life_is, named}
use Rattle.core_lists.specs.MarkEffects.{IsKeyGone, IsPairCut}
use Rattle.core_lists.proofs.OneEdgeOfPair.{one_pair}
use Rattle.core_lists.proofs.GraphOfLives.{pair_shown, weight_between}
use Rattle.core_lists.proofs.ReplaceEffects.{replacing, old_link}
use Rattle.core_lists.proofs.VertexEffects.{removed}

value : {A : Type 0} (a b : A) → Some a ≡ Some b → a ≡ b
value a b p = cc

marks_is : (k : Kind) → marks_vertex k ≡ true → k ≡ MarkVertex
marks_is MarkVertex h = refl
marks_is _ h = absurd (cc)

-- one more event of a journal
taken_next : (xs : List Event) (m : ℕ) (e : Event) → slice_get xs m ≡ Some e → take (m + 1) xs ≡ take m xs ++ e ∷ []
taken_next xs m e at = let next : m + 1 ≡ suc m = omega arith in ap (λ (n : ℕ). take n xs) next ∙ from xs m at
  where
    from : (xs : List Event) (m : ℕ) → slice_get xs m ≡ Some e → take (suc m) xs ≡ take m xs ++ e ∷ []
    from [] m at = absurd (cc)
    from (x ∷ xs) zero at = let same : x ≡ e = cc in ap (λ (y : Event). y ∷ []) same
    from (x ∷ xs) (suc m) at = ap (λ (l : List Event). x ∷ l) (from xs m at)

failed : (b : Bool) → (b ≡ true → ⊥) → b ≡ false
failed false h = refl
failed true h = absurd (h refl)

module _ (past : List Event) (e : Event) (key : ℕ) (r : IsRemovedVertex past e key) where
  -- the key of a vertex that is marked leaves the graph
  key_gone : has (graph_of (past ++ e ∷ [])) key ≡ false
  key_gone = failed (has (graph_of (past ++ e ∷ [])) key) (λ h. let y = life_of_key
      (past ++ e ∷ []) key h in none y.0 y.1 (same_life y.0 e.life) refl)
    where
      none : (y : Life) → present_key (past ++ e ∷ []) y ≡ Some key → (b : Bool) → same_life y e.life ≡ b → ⊥
      none y there true s =
          let marked = ap (vertex_marked (past ++ e ∷ [])) (same_is y e.life s) ∙ marked_here past e
          (ap marks_vertex r.kind) in
          true≢false (sym marked ∙ (present_is (past ++ e ∷ []) y key there).0)
      none y there false s =
          let same = r.only y (sym (present_else past e y s) ∙ there) in
          true≢false (sym (ap (λ (l : Life). same_life y l) (sym same) ∙ same_self y) ∙ s)

-- no pair is told where no present edge life has it
no_pair : (journal : List Event) (a b : ℕ) → ((y : Life) (w : ℕ) → present_pair journal y ≡ Some ((a, b), w) → ⊥)
    → weight_of (graph_of journal) a b ≡ None
no_pair journal a b none = by (weight_of (graph_of journal) a b) refl
  where
    by : (o : Option ℕ) → weight_of (graph_of journal) a b ≡ o → weight_of (graph_of journal) a b ≡ None
    by None h = h
    by (Some w) h = let y = life_of_pair journal a b w h in absurd (none y.0 w y.1)

module _ (sizes : Sizes) (z : IsLayout sizes) (past : List Event) (e : Event) (kept : IsKept sizes past) where
  -- an edge that is marked next was linked
  cut_linked : (k : Kind) → cuts_edge k ≡ true → e.kind ≡ k → AllowedAs k sizes past e → (d : Event) ×
      (link_of past (cut_life e) ≡ Some d)
  cut_linked MarkEdge c is ok =
      let v = node_in sizes past e.life.index in
      let d = ((named sizes z past kept).each e.life.index ok.there).edge_link
      (subst IsUsed (sym ok.linked.linked) tt) ok.linked.edge in (
        d.link,
        ap (link_of past) (ap (λ (k : Kind). cond (replaces k) e.old e.life) is
            ∙ life_is e.life e.life.index v.tag refl ok.life) ∙ d.is,
      )
  cut_linked FreezeEdge c is ok =
      let v = node_in sizes past e.life.index in
      let d = ((named sizes z past kept).each e.life.index ok.there).edge_link
      (subst IsUsed (sym ok.linked.linked) tt) ok.linked.edge in (
        d.link,
        ap (link_of past) (ap (λ (k : Kind). cond (replaces k) e.old e.life) is
            ∙ life_is e.life e.life.index v.tag refl ok.life) ∙ d.is,
      )
  cut_linked ReplaceEdge c is ok = let d = old_link sizes z past e kept is ok in
      (d.link, ap (λ (k : Kind). link_of past (cond (replaces k) e.old e.life)) is ∙ d.is)
  cut_linked _ c is ok = absurd (cc)

  module _ (later : IsKept sizes (past ++ e ∷ [])) (link : Event) (a b : ℕ)
      (from : present_key past link.source ≡ Some a) (to : present_key past link.target ≡ Some b) where
    -- the pair of an edge that is marked is gone
    marked_gone : e.kind ≡ MarkEdge → link_of past e.life ≡ Some link → edge_marked past e.life ≡ false → weight_of
        (graph_of (past ++ e ∷ [])) a b ≡ None
    marked_gone is linked uncut = no_pair (past ++ e ∷ []) a b (λ y w h. none y w h (same_life y e.life) refl)
      where
        cut : cut_life e ≡ e.life
        cut = ap (λ (k : Kind). cond (replaces k) e.old e.life) is

        marked : edge_marked (past ++ e ∷ []) e.life ≡ true
        marked = ap (edge_marked (past ++ e ∷ [])) (sym cut) ∙ cut_here past e (ap cuts_edge is)

        was : (y : Life) (w : ℕ) → present_pair (past ++ e ∷ []) y ≡ Some ((a, b), w) → same_life y e.life ≡ false →
            (v : ℕ) × (present_pair past y ≡ Some ((a, b), v))
        was y w h s =
            let j = joined_is (past ++ e ∷ []) y a b w h in
            let skip = present_skip past e (ap links_vertex is) (ap marks_vertex is) in (
              j.link.weight,
              pair_shown past y j.link a b (sym (link_skip past e (ap links_edge is) y) ∙ j.is)
                  (sym (cut_else past e y (ap (same_life y) cut ∙ s)) ∙ j.uncut) (sym (skip j.link.source) ∙ j.source)
                  (sym (skip j.link.target) ∙ j.target),
            )

        none : (y : Life) (w : ℕ) → present_pair (past ++ e ∷ []) y ≡ Some ((a, b), w) → (c : Bool)
            → same_life y e.life ≡ c → ⊥
        none y w h true s = true≢false (sym (ap (edge_marked (past ++ e ∷ [])) (same_is y e.life s) ∙ marked) ∙
            (joined_is (past ++ e ∷ []) y a b w h).uncut)
        none y w h false s =
            let p = was y w h s in
            let same = one_pair sizes z past kept y e.life a b p.0 link.weight p.1
            (pair_shown past e.life link a b linked uncut from to) in
            true≢false (sym (ap (λ (l : Life). same_life y l) (sym same) ∙ same_self y) ∙ s)

    -- that of an edge that is replaced has the new weight
    module _ (is : e.kind ≡ ReplaceEdge) (ok : IsReplaceEdge sizes past e)
        (linked : link_of past e.old ≡ Some link) where
      old_is : (old_link sizes z past e kept is ok).link ≡ link
      old_is = let d = old_link sizes z past e kept is ok in value d.link link (sym d.is ∙ linked)

      new_linked : link_of (past ++ e ∷ []) e.life ≡ Some e
      unfolding link_of
      new_linked = find_last (λ (d : Event). links_edge d.kind && same_life e.life d.life) past e
          (replacing sizes z past e kept is ok).new (λ i. links_edge (is i) && same_self e.life i)

      new_uncut : edge_marked (past ++ e ∷ []) e.life ≡ false
      new_uncut =
          let n = replacing sizes z past e kept is ok in
          cut_else past e e.life (ap (same_life e.life) (ap (λ (k : Kind). cond (replaces k) e.old e.life) is)
          ∙ differs e.life e.old n.apart) ∙ n.unmarked

      replaced_weight : weight_of (graph_of (past ++ e ∷ [])) a b ≡ Some e.weight
      replaced_weight =
          let d = old_link sizes z past e kept is ok in
          let skip = present_skip past e (ap links_vertex is) (ap marks_vertex is) in
          weight_between sizes z (past ++ e ∷ []) later e.life e a b new_linked new_uncut
          (skip e.source ∙ (ap (present_key past) (sym d.from ∙ ap (λ (x : Event). x.source) old_is) ∙ from))
          (skip e.target ∙ (ap (present_key past) (sym d.to ∙ ap (λ (x : Event). x.target) old_is) ∙ to))

      replaced_other : e.weight ≢ link.weight
      replaced_other same = let d = old_link sizes z past e kept is ok in ok.other
          (same ∙ (ap (λ (x : Event). x.weight) (sym old_is) ∙ d.of_weight))

module _ (sizes : Sizes) (z : IsLayout sizes) (journal : List Event) (kept : IsKept sizes journal) (x : Life)
    (m : ℕ) where
  abbrev before : List Event
  before = take m journal

  kept_before : IsKept sizes before
  kept_before = kept_front sizes before journal (prefix_take journal m) kept

  pub mark_gone : (key : ℕ) → IsMarkOf journal x m → key_of journal x ≡ Some key → IsKeyGone journal m key
  mark_gone key h key_is = subst (IsKeyGone journal m) same record {
    before = key_of_life before h.event.life (node_in sizes before h.event.life.index).key r.there;
    after = ap (λ (l : List Event). has (graph_of l) (node_in sizes before h.event.life.index).key)
        (taken_next journal m h.event h.at) ∙ key_gone before h.event (node_in sizes before h.event.life.index).key r;
  }
    where
      is : h.event.kind ≡ MarkVertex
      is = marks_is h.event.kind h.marks

      ok : IsMarkVertex sizes before h.event
      ok = subst (λ (k : Kind). AllowedAs k sizes before h.event) is
          (allowed_at sizes journal m h.event kept h.at).as_kind

      r : IsRemovedVertex before h.event (node_in sizes before h.event.life.index).key
      r = removed sizes z before h.event kept_before is ok

      same : (node_in sizes before h.event.life.index).key ≡ key
      same =
          let k : ℕ = (node_in sizes before h.event.life.index).key in
          let p = prefix_take journal m in
          let was : key_of journal x ≡ Some k = subst (λ (j : List Event). key_of j x ≡ Some k) p.whole
          (key_more before p.rest x k (ap (key_of before) (sym h.life) ∙
          (present_is before h.event.life k r.there).1)) in
          value k key (sym was ∙ key_is)

  pub pair_cut : (link : Event) (a b : ℕ) (c : IsCutOf journal x m) → link_of journal x ≡ Some link
      → present_key before link.source ≡ Some a → present_key before link.target ≡ Some b
      → IsPairCut journal link c.event m a b
  pair_cut link a b c linked from to = by c.event.kind refl (allowed_at sizes journal m c.event kept c.at).as_kind
    where
      was_linked : link_of before x ≡ Some link
      was_linked =
          let d = cut_linked sizes z before c.event kept_before c.event.kind c.cuts refl
          (allowed_at sizes journal m c.event kept c.at).as_kind in
          let p = prefix_take journal m in
          let here : link_of before x ≡ Some d.0 = ap (link_of before) (sym c.life) ∙ d.1 in
          let same = value d.0 link (sym (subst (λ (j : List Event). link_of j x ≡ Some d.0) p.whole
          (link_more before p.rest x d.0 here)) ∙ linked) in
          here ∙ ap (λ (y : Event). Some y) same

      next : take (m + 1) journal ≡ before ++ c.event ∷ []
      next = taken_next journal m c.event c.at

      later : IsKept sizes (before ++ c.event ∷ [])
      later = subst (IsKept sizes) next (kept_front sizes (take (m + 1) journal) journal
          (prefix_take journal (m + 1)) kept)

      weight : weight_of (graph_at journal m) a b ≡ Some link.weight
      weight = weight_between sizes z before kept_before x link a b was_linked c.uncut from to

      life_as : (k : Kind) → c.event.kind ≡ k → cond (replaces k) c.event.old c.event.life ≡ x
      life_as k is = ap (λ (i : Kind). cond (replaces i) c.event.old c.event.life) (sym is) ∙ c.life

      by : (k : Kind) → c.event.kind ≡ k → AllowedAs k sizes before c.event → IsPairCut journal link c.event m a b
      by MarkEdge is ok =
          let mine : c.event.life ≡ x = life_as MarkEdge is in
          record {
            kinds = inl is;
            before = weight;
            gone = λ _. ap (λ (l : List Event). weight_of (graph_of l) a b) next
                ∙ marked_gone sizes z before c.event kept_before later link a b from to is
                (ap (link_of before) mine ∙ was_linked) (ap (edge_marked before) mine ∙ c.uncut);
            replaced = λ other. let bad = sym is ∙ other in absurd (cc);
            other = λ other. let bad = sym is ∙ other in absurd (cc);
          }
      by ReplaceEdge is ok =
          let mine : c.event.old ≡ x = life_as ReplaceEdge is in
          let was = ap (link_of before) mine ∙ was_linked in
          record {
            kinds = inr is;
            before = weight;
            gone = λ other. let bad = sym is ∙ other in absurd (cc);
            replaced = λ _. ap (λ (l : List Event). weight_of (graph_of l) a b) next
                ∙ replaced_weight sizes z before c.event kept_before later link a b from to is ok was;
            other = λ _. replaced_other sizes z before c.event kept_before later link a b from to is ok was;
          }
      by FreezeEdge is ok =
          let mine : c.event.life ≡ x = life_as FreezeEdge is in
          let marked = (frozen_edge sizes z before c.event kept_before is ok).gone link
          (ap (link_of before) mine ∙ was_linked) in
          absurd (true≢false (sym marked ∙ (present_is before link.source a from).0))
      by k is ok = let cuts : cuts_edge k ≡ true = ap cuts_edge (sym is) ∙ c.cuts in absurd (cc)
