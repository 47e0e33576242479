-- How an event changes the mode of a node, its last end, whether it's stored, and whether its list is closed.
use Rattle.std.proofs.Common.{◌≡◌, ◌≢◌, ◌⊎◌, ℕ, ◌+◌, ◌<◌, ◌≤◌, Bool, true, false, List, [], ◌∷◌, ◌++◌, refl, sym, ap}
use Rattle.std.proofs.Common.{◌∙◌, subst, arith, ⊎_elim, inl, inr}
use mathlib.Core.Logic.{dite}
use native.Mathlib.Decide.{ℕ_discrete}
use Rattle.packed_link.specs.Link.{index_of, mark_of, with_mark}
use Rattle.packed_link.specs.Layout.{Sizes, IsLayout, word_count, link_at, second_at}
use Rattle.core_journal.specs.declared.event.Kind.{Kind}
use Rattle.core_journal.specs.declared.event.Kind.TheVariants.{PopFree, LinkVertex, MarkVertex, UnlinkVertex, LinkEdge}
use Rattle.core_journal.specs.declared.event.Kind.TheVariants.{MarkEdge, UnlinkEdge, Announce, Withdraw, FreezeHead}
use Rattle.core_journal.specs.declared.event.Kind.TheVariants.{FreezeEdge, StoreFree, PushFree, ReplaceEdge}
use Rattle.core_journal.specs.declared.event.Event.{Event}
use Rattle.core_journal.specs.Machine.{word_at}
use Rattle.core_journal.specs.State.{Mode, Free, Fresh, Linked, Spent, Pass, Node, State, put, handed, state_by, state}
use Rattle.core_journal.specs.State.{joined_edge}
use Rattle.core_journal.specs.Reuse.{pass_in}
use Rattle.core_journal.proofs.States.{state-snoc}
use Rattle.core_kept.specs.Kept.{Allowed, AllowedAs, IsKept}
use Rattle.core_kept.specs.Nodes.{node_in, IsRipe}
use Rattle.core_kept.proofs.ByKind.{IsAfter, after_event, put_case, handed_case, marked_state, closed_state}
use Rattle.core_kept.proofs.LinkWords.{taken}
use Rattle.core_kept.proofs.MarkedWords.{stored_before}
use Rattle.core_kept.proofs.Ripe.{end_by, ended}
use Rattle.core_kept.proofs.ReplaceCases.{replaced_case}
use Rattle.core_kept.specs.Edges.{IsReplaceEdge}

-- what an event makes of the mode of a node: it stays, or the node is spent and its link leads on as before or to the
-- edge that replaces it, linked, taken, or given back
pub data ModeStep (sizes : Sizes) (past : List Event) (e : Event) (w : ℕ → ℕ) (x : ℕ) (v : Node) : Type 0 where
  stays : v.mode ≡ (node_in sizes past x).mode → v.ended ≡ (node_in sizes past x).ended → v.tag ≡
      (node_in sizes past x).tag → v.vertex ≡ (node_in sizes past x).vertex → ModeStep sizes past e w x v
  spends : (node_in sizes past x).mode ≡ Linked → v.mode ≡ Spent → v.ended ≡ (state sizes past).count + 1 → index_of
      (w (link_at sizes x)) ≡ index_of (word_at sizes past (link_at sizes x)) → ModeStep sizes past e w x v
  swaps : e.kind ≡ ReplaceEdge → IsReplaceEdge sizes past e → x ≡ e.old.index → (node_in sizes past x).mode ≡ Linked
      → v.mode ≡ Spent → v.ended ≡ (state sizes past).count + 1 → w (link_at sizes x) ≡ e.word
      → ModeStep sizes past e w x v
  links : (node_in sizes past x).mode ≡ Fresh → v.mode ≡ Linked → ModeStep sizes past e w x v
  takes : (node_in sizes past x).mode ≡ Free → v.mode ≡ Fresh → ModeStep sizes past e w x v
  frees : (node_in sizes past x).mode ≡ Spent → v.mode ≡ Free → ModeStep sizes past e w x v

module _ (sizes : Sizes) (z : IsLayout sizes) (past : List Event) (e : Event) (kept : IsKept sizes past) (w : ℕ → ℕ)
    (a : IsAfter sizes past e w) where
  -- an event that only sets a mark leaves where words lead
  marks_lead : e.word ≡ with_mark (word_at sizes past e.place) → e.place < word_count sizes → (i : ℕ) → index_of
      (w i) ≡ index_of (word_at sizes past i)
  marks_lead is near i = dite (ℕ_discrete i e.place)
      (λ h. let here : w i ≡ e.word = ap w h ∙ a.here near in let old : word_at sizes past i ≡ word_at sizes past
      e.place = ap (word_at sizes past) h in omega (arith, here, old, is))
      (λ ne. ap index_of (a.else i ne))

  turn_put : (i : ℕ) (v : Node) (x : ℕ) → (x ≡ i → ModeStep sizes past e w x v) → ModeStep sizes past e w x
      (put i v (state sizes past).node x)
  turn_put i v x new = put_case (λ (u : Node). ModeStep sizes past e w x u) i v (state sizes past).node x new
      (λ _. stays refl refl refl refl)

  mode_of : (x i : ℕ) (m : Mode) → x ≡ i → (node_in sizes past i).mode ≡ m → (node_in sizes past x).mode ≡ m
  mode_of x i m same is = ap (λ (y : ℕ). (node_in sizes past y).mode) same ∙ is

  -- a node of which something else changes
  turn_same : (i x : ℕ) → x ≡ i → {marked stored : Bool} → ModeStep sizes past e w x
      (record (node_in sizes past i) { marked = marked; stored = stored })
  turn_same i x same = stays (ap (λ (y : ℕ). (node_in sizes past y).mode) (sym same))
      (ap (λ (y : ℕ). (node_in sizes past y).ended) (sym same)) (ap (λ (y : ℕ). (node_in sizes past y).tag) (sym same))
      (ap (λ (y : ℕ). (node_in sizes past y).vertex) (sym same))

  -- a node that is unlinked keeps its marked link
  turn_cut : (i x : ℕ) (v : Node) → (node_in sizes past i).mode ≡ Linked → mark_of (word_at sizes past e.place) ≡ 0
      → mark_of (word_at sizes past (link_at sizes i)) ≡ 1 → v.mode ≡ Spent → v.ended ≡ (state sizes past).count + 1
      → ModeStep sizes past e w x (put i v (state sizes past).node x)
  turn_cut i x v linked live dead spent end = turn_put i v x
      (λ same.
      let d : mark_of (word_at sizes past (link_at sizes x)) ≡ 1 = ap
      (λ (y : ℕ). mark_of (word_at sizes past (link_at sizes y))) same ∙ dead in
      let apart : link_at sizes x ≢ e.place = λ h. let old : word_at sizes past
      (link_at sizes x) ≡ word_at sizes past e.place = ap (word_at sizes past) h in omega (arith, old, d, live) in
      spends (mode_of x i Linked same linked) spent end (ap index_of (a.else (link_at sizes x) apart)))

  -- a node is marked, and the frozen part of a list is handed over
  turn_marked : (i v x : ℕ) → e.word ≡ with_mark (word_at sizes past e.place) → e.place < word_count sizes
      → ModeStep sizes past e w x ((handed v (marked_state (state sizes past) i)).node x)
  turn_marked i v x is near = handed_case (λ (u : Node). ModeStep sizes past e w x u)
      (marked_state (state sizes past) i) v x
      (put_case (λ (u : Node). ModeStep sizes past e w x u) i (record (node_in sizes past i) { marked = true })
      (state sizes past).node x (λ same. turn_same i x same) (λ _. stays refl refl refl refl))
      (λ m _ _. spends
      (put_case (λ (u : Node). u.mode ≡ Linked → (node_in sizes past x).mode ≡ Linked) i
      (record (node_in sizes past i) { marked = true }) (state sizes past).node x
      (λ same l. mode_of x i Linked same l) (λ _ l. l) m)
      refl refl (marks_lead is near (link_at sizes x)))

  turn_by : (k : Kind) → e.kind ≡ k → AllowedAs k sizes past e → (x : ℕ) → ModeStep sizes past e w x
      ((state_by k sizes e (state sizes past)).node x)
  turn_by PopFree is ok x = turn_put e.life.index _ x (λ same. takes
      (mode_of x e.life.index Free same (taken sizes z past e kept ok).free) refl)
  turn_by LinkVertex is ok x = turn_put e.life.index _ x (λ same. links
      (mode_of x e.life.index Fresh same ok.fresh.fresh) refl)
  turn_by LinkEdge is ok x = turn_put e.life.index _ x (λ same. links
      (mode_of x e.life.index Fresh same ok.fresh.fresh) refl)
  turn_by MarkVertex is ok x = turn_put e.life.index _ x (λ same. turn_same e.life.index x same)
  turn_by StoreFree is ok x = turn_put e.life.index _ x (λ same. turn_same e.life.index x same)
  turn_by UnlinkVertex is ok x = turn_cut e.life.index x _ ok.linked.linked ok.unmarked ok.dead refl refl
  turn_by UnlinkEdge is ok x = turn_cut e.life.index x _ ok.linked.linked ok.unmarked ok.dead refl refl
  turn_by PushFree is ok x = turn_put e.life.index _ x (λ same. frees
      (mode_of x e.life.index Spent same ok.ripe.stamped.spent.spent) refl)
  turn_by ReplaceEdge is ok x = replaced_case sizes z past e kept ok (λ (u : Node). ModeStep sizes past e w x u) x
      (λ same. links (mode_of x e.life.index Fresh same ok.fresh.fresh) refl)
      (λ _. put_case (λ (u : Node). ModeStep sizes past e w x u) e.old.index
      (record (node_in sizes past e.old.index) { marked = true }) (state sizes past).node x
      (λ same. turn_same e.old.index x same) (λ _. stays refl refl refl refl))
      (λ _ m _ _.
      let was : (node_in sizes past x).mode ≡ Linked = put_case
      (λ (u : Node). u.mode ≡ Linked → (node_in sizes past x).mode ≡ Linked) e.old.index
      (record (node_in sizes past e.old.index) { marked = true }) (state sizes past).node x
      (λ same l. mode_of x e.old.index Linked same l) (λ _ l. l) m in
      dite (ℕ_discrete x e.old.index)
      (λ same. swaps is ok same was refl refl (ap (λ (y : ℕ). w (link_at sizes y)) same ∙
      (ap w (sym ok.place) ∙ a.here (omega (arith, ok.place, ok.old_there)))))
      (λ ne. spends was refl refl (ap index_of (a.else (link_at sizes x) (λ h. ne (omega (arith, h, ok.place)))))))
  turn_by MarkEdge is ok x = turn_marked e.life.index (node_in sizes past e.life.index).source.index x ok.word
      (omega (arith, ok.place, ok.there))
  turn_by FreezeEdge is ok x = turn_marked e.life.index (node_in sizes past e.life.index).source.index x ok.word
      (omega (arith, ok.place, ok.there))
  turn_by FreezeHead is ok x = handed_case (λ (u : Node). ModeStep sizes past e w x u)
      (closed_state (state sizes past) e.life.index) e.life.index x (stays refl refl refl refl)
      (λ m _ _. spends m refl refl (marks_lead ok.word (omega (arith, ok.place, ok.there)) (link_at sizes x)))
  turn_by _ is ok x = stays refl refl refl refl

  -- a list that is closed by an event is that of a spent vertex, and its head leads on as before
  pub record IsClosing (x : ℕ) : Type 0 where
    pub spent : (node_in sizes past x).mode ≡ Spent
    pub leads : index_of (w (second_at sizes x)) ≡ index_of (word_at sizes past (second_at sizes x))

  closing_by : (k : Kind) → AllowedAs k sizes past e → (x : ℕ) → (state sizes past).frozen x ≡ false →
      (state_by k sizes e (state sizes past)).frozen x ≡ true → IsClosing x
  closing_by PopFree ok x open_ h = put_case (λ (b : Bool). b ≡ true → IsClosing x) e.life.index false
      (state sizes past).frozen x (λ _ t. absurd (cc)) (λ _ t. absurd (cc)) h
  closing_by FreezeHead ok x open_ h = put_case (λ (b : Bool). b ≡ true → IsClosing x) e.life.index true
      (state sizes past).frozen x
      (λ same _. record {
        spent = mode_of x e.life.index Spent same ok.spent.spent;
        leads = marks_lead ok.word
            (omega (arith, ok.place, ok.there)) (second_at sizes x);
      })
      (λ _ t. absurd (cc)) h
  closing_by _ ok x open_ h = absurd (cc)

  -- a spent node that isn't stored wasn't so before
  unstored_by : (k : Kind) → AllowedAs k sizes past e → (x : ℕ) → (node_in sizes past x).mode ≡ Spent →
      ((state_by k sizes e (state sizes past)).node x).stored ≡ false → (node_in sizes past x).stored ≡ false
  unstored_by PopFree ok x spent = put_case (λ (u : Node). u.stored ≡ false → (node_in sizes past x).stored ≡ false)
      e.life.index _ (state sizes past).node x
      (λ same _. let f : (node_in sizes past x).mode ≡ Free = mode_of x e.life.index Free same
      (taken sizes z past e kept ok).free in absurd (cc)) (λ _ h. h)
  unstored_by k ok x spent = stored_before k tt sizes e (state sizes past) x

  stored_put : (i : ℕ) (v : Node) (x : ℕ) → (v.stored ≡ true → (node_in sizes past i).stored ≡ true) →
      (put i v (state sizes past).node x).stored ≡ true → (node_in sizes past x).stored ≡ true
  stored_put i v x was = put_case (λ (u : Node). u.stored ≡ true → (node_in sizes past x).stored ≡ true) i v
      (state sizes past).node x (λ same h. ap (λ (y : ℕ). (node_in sizes past y).stored) same ∙ was h) (λ _ h. h)

  stored_marked : (i v x : ℕ) → ((handed v (marked_state (state sizes past) i)).node x).stored ≡ true →
      (node_in sizes past x).stored ≡ true
  stored_marked i v x = handed_case (λ (u : Node). u.stored ≡ true → (node_in sizes past x).stored ≡ true)
      (marked_state (state sizes past) i) v x
      (stored_put i (record (node_in sizes past i) { marked = true }) x (λ h. h))
      (λ _ _ _. stored_put i (record (node_in sizes past i) { marked = true }) x (λ h. h))

  -- a node that is stored was so before, or is ripe for the caller who stores it
  stored_by : (k : Kind) → AllowedAs k sizes past e → (x : ℕ) →
      ((state_by k sizes e (state sizes past)).node x).stored ≡ true → ((node_in sizes past x).stored ≡ true)
      ⊎ IsRipe sizes past e.caller x
  stored_by PopFree ok x h = inl (stored_put e.life.index _ x (λ t. absurd (cc)) h)
  stored_by LinkVertex ok x h = inl (stored_put e.life.index _ x (λ t. t) h)
  stored_by LinkEdge ok x h = inl (stored_put e.life.index _ x (λ t. t) h)
  stored_by MarkVertex ok x h = inl (stored_put e.life.index _ x (λ t. t) h)
  stored_by UnlinkVertex ok x h = inl (stored_put e.life.index _ x (λ t. t) h)
  stored_by UnlinkEdge ok x h = inl (stored_put e.life.index _ x (λ t. t) h)
  stored_by PushFree ok x h = inl (stored_put e.life.index _ x (λ t. t) h)
  stored_by StoreFree ok x h = put_case (λ (u : Node). u.stored ≡ true → ((node_in sizes past x).stored ≡ true)
      ⊎ IsRipe sizes past e.caller x) e.life.index _ (state sizes past).node x
      (λ same _. inr (subst (IsRipe sizes past e.caller) (sym same) ok.ripe)) (λ _ t. inl t) h
  stored_by MarkEdge ok x h = inl (stored_marked e.life.index (node_in sizes past e.life.index).source.index x h)
  stored_by ReplaceEdge ok x h =
      let j : State = joined_edge sizes e (state sizes past) in
      let one = handed_case (λ (u : Node). u.stored ≡ true → (j.node x).stored ≡ true) (marked_state j e.old.index)
      (j.node e.old.index).source.index x
      (put_case (λ (u : Node). u.stored ≡ true → (j.node x).stored ≡ true) e.old.index
      (record (j.node e.old.index) { marked = true }) j.node x
      (λ same t. ap (λ (y : ℕ). (j.node y).stored) same ∙ t) (λ _ t. t))
      (λ _ _ _. put_case (λ (u : Node). u.stored ≡ true → (j.node x).stored ≡ true) e.old.index
      (record (j.node e.old.index) { marked = true }) j.node x
      (λ same t. ap (λ (y : ℕ). (j.node y).stored) same ∙ t) (λ _ t. t)) h in
      inl (stored_put e.life.index _ x (λ t. t) one)
  stored_by FreezeEdge ok x h = inl (stored_marked e.life.index (node_in sizes past e.life.index).source.index x h)
  stored_by FreezeHead ok x h = inl (handed_case (λ (u : Node). u.stored ≡ true → (node_in sizes past x).stored ≡ true)
      (closed_state (state sizes past) e.life.index) e.life.index x (λ t. t) (λ _ _ _ t. t) h)
  stored_by _ ok x h = inl h

-- an open pass was open before an event, or it begins with it
pub record IsBeginning (sizes : Sizes) (past : List Event) (s : State) (i : ℕ) : Type 0 where
  pub since : (s.pass i).since ≡ (state sizes past).count
  pub nodes : (x : ℕ) → s.node x ≡ node_in sizes past x

pub record IsGoingOn (sizes : Sizes) (past : List Event) (s : State) (i : ℕ) : Type 0 where
  pub open_before : (pass_in sizes past i).is_open ≡ true
  pub since : (s.pass i).since ≡ (pass_in sizes past i).since

pass_by : (k : Kind) (sizes : Sizes) (past : List Event) (e : Event) (i : ℕ) →
    ((state_by k sizes e (state sizes past)).pass i).is_open ≡ true
    → IsGoingOn sizes past (state_by k sizes e (state sizes past)) i ⊎ IsBeginning sizes past
    (state_by k sizes e (state sizes past)) i
pass_by Announce sizes past e i o = dite (ℕ_discrete i e.caller)
    (λ same. inr record {
      since = put_case (λ (q : Pass). q.since ≡ (state sizes past).count) e.caller _
          (state sizes past).pass i (λ _. refl) (λ ne. absurd (ne same));
      nodes = λ x. refl;
    })
    (λ ne. inl record {
      open_before = put_case (λ (q : Pass). q.is_open ≡ true → (pass_in sizes past i).is_open ≡ true)
          e.caller _ (state sizes past).pass i (λ same _. absurd (ne same)) (λ _ h. h) o;
      since = put_case
          (λ (q : Pass). q.since ≡ (pass_in sizes past i).since) e.caller _ (state sizes past).pass i
          (λ same. absurd (ne same)) (λ _. refl);
    })
pass_by Withdraw sizes past e i o = dite (ℕ_discrete i e.caller)
    (λ same. put_case (λ (q : Pass). q.is_open ≡ true → IsGoingOn sizes past
    (state_by Withdraw sizes e (state sizes past)) i ⊎ IsBeginning sizes past
    (state_by Withdraw sizes e (state sizes past)) i) e.caller _ (state sizes past).pass i (λ _ h. absurd (cc))
    (λ ne. absurd (ne same)) o)
    (λ ne. inl record {
      open_before = put_case (λ (q : Pass). q.is_open ≡ true → (pass_in sizes past i).is_open ≡ true)
          e.caller _ (state sizes past).pass i (λ same _. absurd (ne same)) (λ _ h. h) o;
      since = put_case
          (λ (q : Pass). q.since ≡ (pass_in sizes past i).since) e.caller _ (state sizes past).pass i
          (λ same. absurd (ne same)) (λ _. refl);
    })
pass_by _ sizes past e i o = inl record { open_before = o; since = refl }

-- the same from journal to journal
module _ (sizes : Sizes) (z : IsLayout sizes) (past : List Event) (e : Event) (kept : IsKept sizes past)
    (ok : Allowed sizes past e) where
  pub turn : (x : ℕ) → ModeStep sizes past e (word_at sizes (past ++ e ∷ [])) x (node_in sizes (past ++ e ∷ []) x)
  turn x = subst (λ (s : State). ModeStep sizes past e (word_at sizes (past ++ e ∷ [])) x (s.node x))
      (sym (state-snoc sizes past e))
      (turn_by sizes z past e kept (word_at sizes (past ++ e ∷ [])) (after_event sizes past e) e.kind refl ok.as_kind x)

  pub closing : (x : ℕ) → (state sizes past).frozen x ≡ false → (state sizes (past ++ e ∷ [])).frozen x ≡ true
      → IsClosing sizes z past e kept (word_at sizes (past ++ e ∷ [])) (after_event sizes past e) x
  closing x open_ h = closing_by sizes z past e kept (word_at sizes (past ++ e ∷ []))
      (after_event sizes past e) e.kind ok.as_kind x open_
      (subst (λ (s : State). s.frozen x ≡ true) (state-snoc sizes past e) h)

  pub stored_was : (x : ℕ) → (node_in sizes (past ++ e ∷ []) x).stored ≡ true → ((node_in sizes past x).stored ≡ true)
      ⊎ IsRipe sizes past e.caller x
  stored_was x h = stored_by sizes z past e kept (word_at sizes (past ++ e ∷ []))
      (after_event sizes past e) e.kind ok.as_kind x
      (subst (λ (s : State). (s.node x).stored ≡ true) (state-snoc sizes past e) h)

  pub unstored_was : (x : ℕ) → (node_in sizes past x).mode ≡ Spent → (node_in sizes (past ++ e ∷ []) x).stored ≡ false →
      (node_in sizes past x).stored ≡ false
  unstored_was x spent h = unstored_by sizes z past e kept (word_at sizes (past ++ e ∷ []))
      (after_event sizes past e) e.kind ok.as_kind x spent
      (subst (λ (s : State). (s.node x).stored ≡ false) (state-snoc sizes past e) h)

  -- no last end moves back
  pub ends_on : (x : ℕ) → (node_in sizes past x).ended ≤ (node_in sizes (past ++ e ∷ []) x).ended
  ends_on x = subst (λ (s : State). (node_in sizes past x).ended ≤ (s.node x).ended) (sym (state-snoc sizes past e))
      (⊎_elim (λ same. omega (arith, same.0)) (λ now. omega (arith, now.0, (ended sizes past kept).ended x))
      (end_by e.kind sizes past e ok.as_kind x))

  pub pass_was : (i : ℕ) → (pass_in sizes (past ++ e ∷ []) i).is_open ≡ true → IsGoingOn sizes past
      (state sizes (past ++ e ∷ [])) i ⊎ IsBeginning sizes past (state sizes (past ++ e ∷ [])) i
  pass_was i = subst (λ (s : State). (s.pass i).is_open ≡ true → IsGoingOn sizes past s i ⊎ IsBeginning sizes past s i)
      (sym (state-snoc sizes past e)) (pass_by e.kind sizes past e i)
