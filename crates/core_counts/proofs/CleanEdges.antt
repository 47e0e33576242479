-- Linked nodes that aren't marked stay as they are but for their own mark; and edges that a sweep has gone through stay
-- clean.
use Rattle.std.proofs.Common.{◌≡◌, ◌≢◌, ◌⊎◌, ℕ, ◌<◌, Bool, true, false, cond, not, ◌&&◌, ◌==◌, List, [], ◌∷◌, ◌++◌}
use Rattle.std.proofs.Common.{refl, sym, ap, ◌∙◌, subst, inl, inr, ⊎_elim}
use Rattle.std.proofs.lemmas.Bool.{and_parts}
use Rattle.packed_link.specs.Layout.{Sizes, IsLayout}
use Rattle.packed_link.specs.declared.link.Life.{Life}
use Rattle.core_journal.specs.declared.event.Kind.{Kind}
use Rattle.core_journal.specs.declared.event.Kind.TheVariants.{PopFree, LinkVertex, MarkVertex, UnlinkVertex, LinkEdge}
use Rattle.core_journal.specs.declared.event.Kind.TheVariants.{MarkEdge, UnlinkEdge, FreezeHead, FreezeEdge, StoreFree}
use Rattle.core_journal.specs.declared.event.Kind.TheVariants.{PushFree, ReplaceEdge}
use Rattle.core_journal.specs.declared.event.Event.{Event}
use Rattle.core_journal.specs.Event.{marks_vertex, links_edge, replaces, cuts_edge, cut_life}
use Rattle.core_journal.specs.State.{Mode, Free, Fresh, Linked, Spent, Node, State, is_linked, put, handed, state_by}
use Rattle.core_journal.specs.State.{state}
use Rattle.core_journal.proofs.States.{state-snoc}
use Rattle.core_kept.specs.Kept.{Allowed, AllowedAs, IsKept}
use Rattle.core_kept.specs.Nodes.{node_in, IsUsed}
use Rattle.core_kept.proofs.ByKind.{put_case, put_other, handed_case, marked_state, closed_state}
use Rattle.core_kept.proofs.LinkWords.{taken}
use Rattle.core_kept.proofs.ReplaceCases.{replaced_case}
use Rattle.core_kept.proofs.LinkedVertices.{linked_dead}
use Rattle.core_lists.proofs.ListHoldsKept.{sources}
use Rattle.core_kept.proofs.NodesInPlace.{used_there}
use Rattle.core_counts.specs.Nodes.{is_key, is_key_life}
use Rattle.core_counts.specs.Swept.{IsCleanEdge}
use Rattle.core_counts.proofs.GraphNodes.{linked_is, not_is}

module _ (sizes : Sizes) (z : IsLayout sizes) (past : List Event) (e : Event) (kept : IsKept sizes past) where
  abbrev s : State
  s = state sizes past

  module _ (x : ℕ) (linked : (s.node x).mode ≡ Linked) (unmarked : (s.node x).marked ≡ false) where
    in_mode : (m : Mode) → (s.node e.life.index).mode ≡ m → m ≢ Linked → x ≢ e.life.index
    in_mode m is ne same = ne (sym is ∙ (ap (λ (y : ℕ). (s.node y).mode) (sym same) ∙ linked))

    not_dead : e.life.index < sizes.nodes → (s.node e.life.index).marked ≡ true → x ≢ e.life.index
    not_dead t m same = let h = ap (λ (y : ℕ). (s.node y).marked) (sym same) ∙ unmarked in absurd (cc)

    not_handed : (s0 : State) (i : ℕ) → s0.node x ≡ s.node x → (handed i s0).node x ≡ s.node x
    not_handed s0 i same = handed_case (λ (u : Node). u ≡ s.node x) s0 i x same
        (λ _ m _. let h : (s0.node x).marked ≡ false = ap (λ (u : Node). u.marked) same ∙ unmarked in absurd (cc))

    same_by : (k : Kind) → AllowedAs k sizes past e → (marks_vertex k ≡ true → e.life.index ≢ x) →
        (cuts_edge k ≡ true → (cond (replaces k) e.old e.life).index ≢ x) → (state_by k sizes e s).node x ≡ s.node x
    same_by PopFree ok n c = put_other e.life.index _ s.node x
        (in_mode Free (taken sizes z past e kept ok).free (λ h. absurd (cc)))
    same_by LinkVertex ok n c = put_other e.life.index _ s.node x (in_mode Fresh ok.fresh.fresh (λ h. absurd (cc)))
    same_by LinkEdge ok n c = put_other e.life.index _ s.node x (in_mode Fresh ok.fresh.fresh (λ h. absurd (cc)))
    same_by MarkVertex ok n c = put_other e.life.index _ s.node x (λ h. n refl (sym h))
    same_by UnlinkVertex ok n c = put_other e.life.index _ s.node x
        (not_dead ok.there (linked_dead sizes z past kept e.life.index ok.there ok.linked.linked ok.dead))
    same_by UnlinkEdge ok n c = put_other e.life.index _ s.node x
        (not_dead ok.there (linked_dead sizes z past kept e.life.index ok.there ok.linked.linked ok.dead))
    same_by StoreFree ok n c = put_other e.life.index _ s.node x
        (in_mode Spent ok.ripe.stamped.spent.spent (λ h. absurd (cc)))
    same_by PushFree ok n c = put_other e.life.index _ s.node x
        (in_mode Spent ok.ripe.stamped.spent.spent (λ h. absurd (cc)))
    same_by MarkEdge ok n c = not_handed (marked_state s e.life.index) (s.node e.life.index).source.index
        (put_other e.life.index _ s.node x (λ h. c refl (sym h)))
    same_by FreezeEdge ok n c = not_handed (marked_state s e.life.index) (s.node e.life.index).source.index
        (put_other e.life.index _ s.node x (λ h. c refl (sym h)))
    same_by FreezeHead ok n c = not_handed (closed_state s e.life.index) e.life.index refl
    same_by ReplaceEdge ok n c = replaced_case sizes z past e kept ok (λ (u : Node). u ≡ s.node x) x
        (λ at. absurd (in_mode Fresh ok.fresh.fresh (λ h. absurd (cc)) at))
        (λ _. untouched)
        (λ _ _ m _. let h : ((marked_state s e.old.index).node x).marked ≡ false = ap (λ (u : Node). u.marked) untouched
        ∙ unmarked in absurd (cc))
      where
        untouched : (marked_state s e.old.index).node x ≡ s.node x
        untouched = put_other e.old.index (record (s.node e.old.index) { marked = true }) s.node x (λ h. c refl (sym h))
    same_by _ ok n c = refl

  -- a linked node was linked, as what it is, or it was fresh and is linked now
  abbrev CameLinked : Kind → ℕ → Node → Type 0
  CameLinked k y v' = v'.mode ≡ Linked → (((s.node y).mode ≡ Linked) × (v'.vertex ≡ (s.node y).vertex) ×
      (v'.source ≡ (s.node y).source)) ⊎ (((s.node y).mode ≡ Fresh) × (e.life.index ≡ y) ×
      ((k ≡ LinkVertex) ⊎ (links_edge k ≡ true)) × (k ≡ LinkVertex → v'.vertex ≡ true))

  put_was : (k : Kind) (v : Node) (y : ℕ) → (v.mode ≡ Linked →
      (((s.node e.life.index).mode ≡ Linked) × (v.vertex ≡ (s.node e.life.index).vertex) ×
      (v.source ≡ (s.node e.life.index).source)) ⊎ (((s.node e.life.index).mode ≡ Fresh) ×
      ((k ≡ LinkVertex) ⊎ (links_edge k ≡ true)) × (k ≡ LinkVertex → v.vertex ≡ true))) → CameLinked k y
      (put e.life.index v s.node y)
  put_was k v y new = put_case (λ (u : Node). CameLinked k y u) e.life.index v s.node y
      (λ same m. subst (λ (i : ℕ). (((s.node i).mode ≡ Linked) × (v.vertex ≡ (s.node i).vertex) ×
      (v.source ≡ (s.node i).source)) ⊎ (((s.node i).mode ≡ Fresh) × (e.life.index ≡ i) ×
      ((k ≡ LinkVertex) ⊎ (links_edge k ≡ true)) × (k ≡ LinkVertex → v.vertex ≡ true))) (sym same)
      (⊎_elim (λ (a : ((s.node e.life.index).mode ≡ Linked) × (v.vertex ≡ (s.node e.life.index).vertex) ×
      (v.source ≡ (s.node e.life.index).source)). inl a) (λ
      (b : ((s.node e.life.index).mode ≡ Fresh) × ((k ≡ LinkVertex) ⊎ (links_edge k ≡ true)) ×
      (k ≡ LinkVertex → v.vertex ≡ true)). inr (b.0, refl, b.1, b.2)) (new m)))
      (λ _ m. inl (m, refl, refl))

  -- a part that is handed over is linked no more
  handed_was : (k : Kind) (s0 : State) (i y : ℕ) → CameLinked k y (s0.node y) → CameLinked k y ((handed i s0).node y)
  handed_was k s0 i y h = handed_case (λ (u : Node). CameLinked k y u) s0 i y h (λ _ _ _ m. absurd (cc))

  linked_was : (k : Kind) → AllowedAs k sizes past e → (y : ℕ) → CameLinked k y ((state_by k sizes e s).node y)
  linked_was PopFree ok y = put_was PopFree _ y (λ m. absurd (cc))
  linked_was LinkVertex ok y = put_was LinkVertex _ y (λ m. inr (ok.fresh.fresh, inl refl, λ _. refl))
  linked_was LinkEdge ok y = put_was LinkEdge _ y (λ m. inr (ok.fresh.fresh, inr refl, λ h. absurd (cc)))
  linked_was MarkVertex ok y = put_was MarkVertex _ y (λ m. inl (m, refl, refl))
  linked_was UnlinkVertex ok y = put_was UnlinkVertex _ y (λ m. absurd (cc))
  linked_was UnlinkEdge ok y = put_was UnlinkEdge _ y (λ m. absurd (cc))
  linked_was StoreFree ok y = put_was StoreFree _ y (λ m. inl (m, refl, refl))
  linked_was PushFree ok y = put_was PushFree _ y (λ m. absurd (cc))
  linked_was MarkEdge ok y = handed_was MarkEdge (marked_state s e.life.index) (s.node e.life.index).source.index y
      (put_was MarkEdge _ y (λ m. inl (m, refl, refl)))
  linked_was FreezeEdge ok y = handed_was FreezeEdge (marked_state s e.life.index) (s.node e.life.index).source.index y
      (put_was FreezeEdge _ y (λ m. inl (m, refl, refl)))
  linked_was FreezeHead ok y = handed_was FreezeHead (closed_state s e.life.index) e.life.index y
      (λ m. inl (m, refl, refl))
  linked_was ReplaceEdge ok y = replaced_case sizes z past e kept ok (λ (u : Node). CameLinked ReplaceEdge y u) y
      (λ at _. inr (ap (λ (i : ℕ). (s.node i).mode) at ∙ ok.fresh.fresh, sym at, inr refl, λ h. absurd (cc)))
      (λ _. put_case (λ (u : Node). CameLinked ReplaceEdge y u) e.old.index
      (record (s.node e.old.index) { marked = true }) s.node y
      (λ same m. inl (
        ap (λ (i : ℕ). (s.node i).mode) same ∙ m,
        ap (λ (i : ℕ). (s.node i).vertex) (sym same),
        ap
            (λ (i : ℕ). (s.node i).source) (sym same),
      ))
      (λ _ m. inl (m, refl, refl)))
      (λ _ _ _ _ m. absurd (cc))
  linked_was k ok y = λ m. inl (m, refl, refl)

  frozen_source : (k : Kind) → AllowedAs k sizes past e → k ≡ FreezeEdge →
      (s.node (s.node e.life.index).source.index).mode ≡ Spent
  frozen_source FreezeEdge ok is = ok.spent.spent
  frozen_source _ ok is = absurd (cc)

  marks_is : (k : Kind) → marks_vertex k ≡ true → k ≡ MarkVertex
  marks_is MarkVertex h = refl
  marks_is _ h = absurd (cc)

  marked_vertex : (k : Kind) → AllowedAs k sizes past e → k ≡ MarkVertex → (s.node e.life.index).vertex ≡ true
  marked_vertex MarkVertex ok is = ok.linked.vertex
  marked_vertex _ ok is = absurd (cc)

  -- what an event marks as an edge is one
  cut_edge : (k : Kind) → AllowedAs k sizes past e → cuts_edge k ≡ true →
      (s.node (cond (replaces k) e.old e.life).index).vertex ≡ false
  cut_edge MarkEdge ok h = ok.linked.edge
  cut_edge FreezeEdge ok h = ok.linked.edge
  cut_edge ReplaceEdge ok h = ok.linked.edge
  cut_edge _ ok h = absurd (cc)

  -- it's removed or replaced, or its source is spent
  cut_which : (k : Kind) → cuts_edge k ≡ true → (k ≡ MarkEdge) ⊎ ((k ≡ FreezeEdge) ⊎ (replaces k ≡ true))
  cut_which MarkEdge h = inl refl
  cut_which FreezeEdge h = inr (inl refl)
  cut_which ReplaceEdge h = inr (inr refl)
  cut_which _ h = absurd (cc)

  -- a key stays but for its own mark
  key_same : (k : Kind) → AllowedAs k sizes past e → (x : ℕ) → (k ≡ MarkVertex → e.life.index ≢ x) → is_key
      (s.node x) ≡ true → (state_by k sizes e s).node x ≡ s.node x
  key_same k ok x n h =
      let p = and_parts (is_linked (s.node x).mode) ((s.node x).vertex && not (s.node x).marked) h in
      let q = and_parts (s.node x).vertex (not (s.node x).marked) p.1 in
      let v = q.0 in
      same_by x (linked_is (s.node x).mode p.0) (not_is (s.node x).marked q.1) k ok
      (λ m. n (marks_is k m))
      (λ m at. let w = ap (λ (i : ℕ). (s.node i).vertex) (sym at) ∙ cut_edge k ok m in absurd (cc))

  clean_edge_by : (k : Kind) → AllowedAs k sizes past e → (y : ℕ) → (k ≡ MarkEdge → e.life.index ≢ y) →
      (replaces k ≡ true → e.old.index ≢ y) → (links_edge k ≡ true → e.life.index ≢ y) →
      (k ≡ MarkVertex → e.life.index ≢ (s.node y).target.index) → IsCleanEdge s y → IsCleanEdge (state_by k sizes e s) y
  clean_edge_by k ok y no_mark no_new no_link no_target c m v src = ⊎_elim
      (λ (was : ((s.node y).mode ≡ Linked) × (((state_by k sizes e s).node y).vertex ≡ (s.node y).vertex) ×
      (((state_by k sizes e s).node y).source ≡ (s.node y).source)). old was)
      (λ (new : ((s.node y).mode ≡ Fresh) × (e.life.index ≡ y) × ((k ≡ LinkVertex) ⊎ (links_edge k ≡ true)) ×
      (k ≡ LinkVertex → ((state_by k sizes e s).node y).vertex ≡ true)). ⊎_elim
      (λ (a : k ≡ LinkVertex). let t = new.3 a in absurd (cc))
      (λ (b : links_edge k ≡ true). absurd (no_link b new.1)) new.2)
      (linked_was k ok y m)
    where
      old : ((s.node y).mode ≡ Linked) × (((state_by k sizes e s).node y).vertex ≡ (s.node y).vertex) ×
          (((state_by k sizes e s).node y).source ≡ (s.node y).source) →
          (((state_by k sizes e s).node y).marked ≡ false) × (is_key_life (state_by k sizes e s)
          ((state_by k sizes e s).node y).target ≡ true)
      old was =
          let edge : (s.node y).vertex ≡ false = sym was.1 ∙ v in
          let there = used_there sizes past y kept (λ f. let l = was.0 in absurd (cc)) in
          let at = (sources sizes z past kept).each y there (record { linked = was.0; edge = edge }) in
          let here : ((state_by k sizes e s).node (s.node y).source.index).mode ≡ Linked = ap
          (λ (l : Life). ((state_by k sizes e s).node l.index).mode) (sym was.2) ∙ src in
          let source : (s.node (s.node y).source.index).mode ≡ Linked = ⊎_elim
          (λ (a : ((s.node ((s.node y).source.index)).mode ≡ Linked) ×
          (((state_by k sizes e s).node (s.node y).source.index).vertex ≡ (s.node ((s.node y).source.index)).vertex)
          × (((state_by k sizes e s).node (s.node y).source.index).source ≡
          (s.node ((s.node y).source.index)).source)). a.0)
          (λ (b : ((s.node ((s.node y).source.index)).mode ≡ Fresh) × (e.life.index ≡ (s.node y).source.index) ×
          ((k ≡ LinkVertex) ⊎ (links_edge k ≡ true)) × (k ≡ LinkVertex →
          ((state_by k sizes e s).node (s.node y).source.index).vertex ≡ true)). absurd
          (subst IsUsed b.0 at.list.used)) (linked_was k ok (s.node y).source.index here) in
          let clean = c was.0 edge source in
          let same : (state_by k sizes e s).node y ≡ s.node y = same_by y was.0 clean.0 k ok
          (λ t i. let w = ap (λ (j : ℕ). (s.node j).vertex) (sym i) ∙ marked_vertex k ok (marks_is k t) in absurd (cc))
          (λ t i. ⊎_elim (λ (g : k ≡ MarkEdge). no_mark g (ap (λ (j : Kind). (cond (replaces j) e.old e.life).index)
          (sym g) ∙ i))
          (λ (b : (k ≡ FreezeEdge) ⊎ (replaces k ≡ true)). ⊎_elim
          (λ (g : k ≡ FreezeEdge).
          let at : e.life.index ≡ y = ap (λ (j : Kind). (cond (replaces j) e.old e.life).index) (sym g) ∙ i in
          let w : (s.node (s.node y).source.index).mode ≡ Spent = ap (λ (j : ℕ). (s.node (s.node j).source.index).mode)
          (sym at) ∙ frozen_source k ok g in
          absurd (cc))
          (λ (g : replaces k ≡ true). no_new g (ap (λ (r : Bool). (cond r e.old e.life).index) (sym g) ∙ i)) b)
          (cut_which k t)) in
          let p = and_parts (is_key (s.node (s.node y).target.index))
          ((s.node (s.node y).target.index).tag == (s.node y).target.tag) clean.1 in
          let target = key_same k ok (s.node y).target.index no_target p.0 in
          let life : is_key_life (state_by k sizes e s) (s.node y).target ≡ true = ap
          (λ (u : Node). is_key u && (u.tag == (s.node y).target.tag)) target ∙ clean.1 in (
            ap (λ (u : Node). u.marked) same ∙ clean.0,
            ap (λ (u : Node). is_key_life (state_by k sizes e s) u.target)
                same ∙ life,
          )

  pub clean_edge : Allowed sizes past e → (y : ℕ) → (e.kind ≡ MarkEdge → e.life.index ≢ y) →
      (replaces e.kind ≡ true → e.old.index ≢ y) → (links_edge e.kind ≡ true → e.life.index ≢ y) →
      (e.kind ≡ MarkVertex → e.life.index ≢ (s.node y).target.index) → IsCleanEdge s y → IsCleanEdge
      (state sizes (past ++ e ∷ [])) y
  clean_edge ok y a r b d c = subst (λ (t : State). IsCleanEdge t y) (sym (state-snoc sizes past e))
      (clean_edge_by e.kind ok.as_kind y a r b d c)

  pub linked_same : Allowed sizes past e → (x : ℕ) → (s.node x).mode ≡ Linked → (s.node x).marked ≡ false →
      (marks_vertex e.kind ≡ true → e.life.index ≢ x) → (cuts_edge e.kind ≡ true → (cut_life e).index ≢ x)
      → node_in sizes (past ++ e ∷ []) x ≡ node_in sizes past x
  linked_same ok x l u n c = ap (λ (t : State). t.node x) (state-snoc sizes past e)
      ∙ same_by x l u e.kind ok.as_kind n c
