-- What stays of a closed list while its vertex is in its life, and who spent its edges.
use Rattle.std.proofs.Common.{◌≡◌, ◌≢◌, ◌⊎◌, ℕ, ◌+◌, ◌<◌, ◌≤◌, Bool, true, false, cond, List, [], ◌∷◌, refl, sym, ap}
use Rattle.std.proofs.Common.{◌∙◌, subst, arith, ⊎_elim, inl, inr}
use Rattle.std.specs.Prelude.{take_while}
use mathlib.Core.Logic.{dite}
use native.Mathlib.Decide.{ℕ_discrete}
use Rattle.graph_kinds.specs.Levels.{stands_in}
use Rattle.packed_link.specs.Layout.{Sizes, IsLayout, second_at}
use Rattle.core_journal.specs.declared.event.Kind.{Kind}
use Rattle.core_journal.specs.declared.event.Kind.TheVariants.{PopFree, LinkVertex, MarkVertex, UnlinkVertex, LinkEdge}
use Rattle.core_journal.specs.declared.event.Kind.TheVariants.{MarkEdge, UnlinkEdge, FreezeHead, FreezeEdge, StoreFree}
use Rattle.core_journal.specs.declared.event.Kind.TheVariants.{PushFree, ReplaceEdge}
use Rattle.core_journal.specs.declared.event.Event.{Event}
use Rattle.core_journal.specs.Prefix.{IsPrefix}
use Rattle.core_journal.specs.State.{Mode, Free, Fresh, Linked, Spent, Node, State, put, unlinked_from, handed}
use Rattle.core_journal.specs.State.{frozen_part, joined_edge, state_by, state}
use Rattle.core_kept.specs.Kept.{AllowedAs, IsKept}
use Rattle.core_kept.specs.Nodes.{node_in, IsUsed, IsFrozenToEnd, is_listed, is_frozen}
use Rattle.core_kept.proofs.ByKind.{KeepsByKind, put_case, put_other, handed_case, marked_state, closed_state}
use Rattle.core_kept.proofs.ByKind.{holds_all, holds_onward}
use Rattle.core_kept.proofs.Induction.{kept_front}
use Rattle.core_kept.proofs.LinkWords.{taken}
use Rattle.core_kept.proofs.LinkedOnce.{fresh_before}
use Rattle.core_kept.proofs.PastLives.{same_tag}
use Rattle.core_kept.proofs.NodesInPlace.{used_there}
use Rattle.core_kept.proofs.NodesOnLists.{stands_case, stands_here, stands_later, unlinked_was, unlinked_keeps}
use Rattle.core_kept.proofs.NodesOnLists.{linked_was, linked_keeps, part_all, yes_no}
use Rattle.core_lists.proofs.ListHolds.{IsFinished, part_listed}
use Rattle.core_lists.proofs.ListHoldsKept.{listing, finished_after}
use Rattle.core_lists.proofs.ListingsBehindSteps.{popped_was}
use Rattle.core_kept.proofs.ReplaceCases.{new_edge_node, replaced_case}

-- what holds while two nodes are in their lives
record IsWhile (x y tag_x tag_y : ℕ) (P : State → Type 0) (s : State) : Type 0 where
  pub low_x : tag_x ≤ (s.node x).tag
  pub low_y : tag_y ≤ (s.node y).tag
  pub holds : (s.node x).tag ≡ tag_x → (s.node y).tag ≡ tag_y → P s

-- each kind keeps it, but for the taking of one of the two
abbrev pub KeepsLives : Sizes → ℕ → ℕ → (State → Type 0) → Type 0
KeepsLives sizes x y P = (past : List Event) (e : Event) → IsKept sizes past → (k : Kind) → AllowedAs k sizes past e →
    (k ≡ PopFree → (x ≢ e.life.index) × (y ≢ e.life.index)) → P (state sizes past) → P
    (state_by k sizes e (state sizes past))

module _ (sizes : Sizes) (z : IsLayout sizes) (x y : ℕ) (P : State → Type 0) (step : KeepsLives sizes x y P) where
  while_step : (tag_x tag_y : ℕ) → KeepsByKind sizes (λ (s : State) (w : ℕ → ℕ). IsWhile x y tag_x tag_y P s)
  while_step tag_x tag_y past e kept c PopFree by ok w a =
      let s : State = state sizes past in
      let i : ℕ = e.life.index in
      let v : Node = record (s.node i) {
        mode = Fresh;
        who = e.caller;
        tag = e.life.tag;
        marked = false;
        stored = false;
      } in
      let next : e.life.tag ≡ (s.node i).tag + 1 = (taken sizes z past e kept ok).tag in
      let up : (n t : ℕ) → t ≤ (s.node n).tag → t ≤ (put i v s.node n).tag = λ n t low. put_case
      (λ (u : Node). t ≤ u.tag) i v s.node n (λ same. let at : (s.node n).tag ≡ (s.node i).tag = ap
      (λ (m : ℕ). (s.node m).tag) same in omega (arith, low, at, next)) (λ _. low) in
      let other : (n t : ℕ) → t ≤ (s.node n).tag → (put i v s.node n).tag ≡ t → n ≢ i = λ n t low h same.
      let at : (s.node n).tag ≡ (s.node i).tag = ap (λ (m : ℕ). (s.node m).tag) same in
      put_case (λ (u : Node). u.tag ≡ t → ⊥) i v s.node n (λ _ is. omega (arith, low, at, next, is))
      (λ ne _. ne same) h in
      record {
        low_x = up x tag_x c.low_x;
        low_y = up y tag_y c.low_y;
        holds = λ hx hy.
            let nx = other x tag_x c.low_x hx in
            let ny = other y tag_y c.low_y hy in
            step past e kept PopFree ok (λ _. (nx, ny)) (c.holds
            (ap (λ (n : Node). n.tag) (sym (put_other i v s.node x nx)) ∙ hx)
            (ap (λ (n : Node). n.tag) (sym (put_other i v s.node y ny)) ∙ hy));
      }
  while_step tag_x tag_y past e kept c k by ok w a =
      let tx = same_tag k tt sizes e (state sizes past) x in
      let ty = same_tag k tt sizes e (state sizes past) y in
      record {
        low_x = omega (arith, c.low_x, tx);
        low_y = omega (arith, c.low_y, ty);
        holds = λ hx hy. step past e kept k ok (λ is. absurd (cc)) (c.holds (sym tx ∙ hx) (sym ty ∙ hy));
      }

  -- what holds at a front holds at the journal, where both nodes are in the same life
  pub while_both : (front journal : List Event) → IsPrefix front journal → IsKept sizes journal →
      (node_in sizes journal x).tag ≡ (node_in sizes front x).tag → (node_in sizes journal y).tag ≡
      (node_in sizes front y).tag → P (state sizes front) → P (state sizes journal)
  while_both front journal p kept tx ty start =
      (holds_onward sizes (λ (s : State) (w : ℕ → ℕ). IsWhile x y (node_in sizes front x).tag
      (node_in sizes front y).tag P s) (while_step (node_in sizes front x).tag (node_in sizes front y).tag) front
      journal p kept
      record { low_x = omega arith; low_y = omega arith; holds = λ _ _. start }).holds tx ty

-- a closed head stays
head_step : (sizes : Sizes) (x y : ℕ) → KeepsLives sizes x y (λ (s : State). s.frozen x ≡ true)
head_step sizes x y past e kept PopFree ok ne h = put_other e.life.index false (state sizes past).frozen x (ne refl).0
    ∙ h
head_step sizes x y past e kept FreezeHead ok ne h = put_case (λ (b : Bool). b ≡ true) e.life.index true
    (state sizes past).frozen x (λ _. refl) (λ _. h)
head_step sizes x y past e kept MarkEdge ok ne h = h
head_step sizes x y past e kept FreezeEdge ok ne h = h
head_step sizes x y past e kept _ ok ne h = h

pub head_stays : (sizes : Sizes) → IsLayout sizes → (x : ℕ) (front journal : List Event) → IsPrefix front journal
    → IsKept sizes journal → (node_in sizes journal x).tag ≡ (node_in sizes front x).tag →
    (state sizes front).frozen x ≡ true → (state sizes journal).frozen x ≡ true
head_stays sizes z x front journal p kept tag h = while_both sizes z x x (λ (s : State). s.frozen x ≡ true)
    (head_step sizes x x) front journal p kept tag tag h

-- a list that is frozen to its end stays so
pub finished_stays : (sizes : Sizes) → IsLayout sizes → (x : ℕ) (front journal : List Event) → IsPrefix front journal
    → IsKept sizes journal → (node_in sizes journal x).tag ≡ (node_in sizes front x).tag → IsFrozenToEnd sizes front x
    → IsFrozenToEnd sizes journal x
finished_stays sizes z x front journal p kept tag f =
    let end : IsFinished (state sizes journal).node (state sizes journal).edges
    (state sizes journal).frozen x = while_both sizes z x x (λ (s : State). IsFinished s.node s.edges s.frozen x)
    (λ past e k q ok ne h. finished_after sizes z past e k q ok x (λ is. (ne is).0) h) front journal p kept tag tag
    record { head = f.head; each = f.edges } in
    record { head = end.head; edges = end.each }

-- whether a list is frozen to its end
all_marked : (node : ℕ → Node) (xs : List ℕ) → ((y : ℕ) → stands_in xs y ≡ true → (node y).marked ≡ true) ⊎
    (((y : ℕ) → stands_in xs y ≡ true → (node y).marked ≡ true) → ⊥)
all_marked node [] = inl (λ y h. absurd (cc))
all_marked node (x ∷ xs) = ⊎_elim
    (λ (rest : (y : ℕ) → stands_in xs y ≡ true → (node y).marked ≡ true). yes_no
    (((y : ℕ) → stands_in (x ∷ xs) y ≡ true → (node y).marked ≡ true) ⊎
    (((y : ℕ) → stands_in (x ∷ xs) y ≡ true → (node y).marked ≡ true) → ⊥)) (node x).marked
    (λ is. inl (λ y h. stands_case ((node y).marked ≡ true) x y xs h
    (λ same. subst (λ (u : ℕ). (node u).marked ≡ true) same is) (λ _ later. rest y later)))
    (λ isnt. inr (λ all. let t = all x (stands_here x x xs refl) in absurd (cc))))
    (λ (none : ((y : ℕ) → stands_in xs y ≡ true → (node y).marked ≡ true) → ⊥). inr
    (λ all. none (λ y h. all y (stands_later x y xs h))))
    (all_marked node xs)

pub finished_or : (node : ℕ → Node) (edges : ℕ → List ℕ) (frozen : ℕ → Bool) (x : ℕ) → IsFinished node edges frozen x ⊎
    (IsFinished node edges frozen x → ⊥)
finished_or node edges frozen x = yes_no (IsFinished node edges frozen x ⊎ (IsFinished node edges frozen x → ⊥))
    (frozen x)
    (λ is. ⊎_elim (λ (all : (y : ℕ) → stands_in (edges x) y ≡ true → (node y).marked ≡ true). inl record
    { head = is; each = all }) (λ (none : ((y : ℕ) → stands_in (edges x) y ≡ true → (node y).marked ≡ true) → ⊥). inr
    (λ f. none f.each)) (all_marked node (edges x)))
    (λ isnt. inr (λ f. let t = f.head in absurd (cc)))

-- a vertex whose list is closed is linked or spent, or its list is frozen to its end
record ClosedUsed (s : State) : Type 0 where
  pub each : (x : ℕ) → s.frozen x ≡ true → IsFinished s.node s.edges s.frozen x ⊎
      (IsUsed (s.node x).mode × ((s.node x).vertex ≡ true))

-- one node changes, where the list is frozen to its end after the event if it was before
put_closed : (sizes : Sizes) → IsLayout sizes → (past : List Event) (e : Event) → IsKept sizes past → (k : Kind)
    → AllowedAs k sizes past e → (v : Node) → (x : ℕ) → (k ≡ PopFree → x ≢ e.life.index) →
    ((state_by k sizes e (state sizes past)).node x ≡ put e.life.index v (state sizes past).node x)
    → (IsUsed (node_in sizes past e.life.index).mode → (node_in sizes past e.life.index).vertex ≡ true → IsFinished
    (state sizes past).node (state sizes past).edges (state sizes past).frozen e.life.index ⊎
    (IsUsed v.mode × (v.vertex ≡ true)))
    → IsFinished (state sizes past).node (state sizes past).edges (state sizes past).frozen x ⊎
    (IsUsed (node_in sizes past x).mode × ((node_in sizes past x).vertex ≡ true))
    → IsFinished (state_by k sizes e (state sizes past)).node (state_by k sizes e (state sizes past)).edges
    (state_by k sizes e (state sizes past)).frozen x ⊎ (IsUsed ((state_by k sizes e (state sizes past)).node x).mode
    × (((state_by k sizes e (state sizes past)).node x).vertex ≡ true))
put_closed sizes z past e kept k ok v x ne is still old = ⊎_elim
    (λ (f : IsFinished (state sizes past).node (state sizes past).edges (state sizes past).frozen x). inl
    (finished_after sizes z past e kept k ok x ne f))
    (λ (u : IsUsed (node_in sizes past x).mode × ((node_in sizes past x).vertex ≡ true)).
    ⊎_elim (λ (f : IsFinished (state sizes past).node (state sizes past).edges (state sizes past).frozen x). inl
    (finished_after sizes z past e kept k ok x ne f))
    (λ (q : IsUsed (put e.life.index v (state sizes past).node x).mode ×
    ((put e.life.index v (state sizes past).node x).vertex ≡ true)). inr
    (subst (λ (n : Node). IsUsed n.mode × (n.vertex ≡ true)) (sym is) q))
    (put_case (λ (n : Node). IsFinished (state sizes past).node (state sizes past).edges (state sizes past).frozen x ⊎
    (IsUsed n.mode × (n.vertex ≡ true))) e.life.index v (state sizes past).node x
    (λ same. subst (λ (i : ℕ). IsFinished (state sizes past).node (state sizes past).edges (state sizes past).frozen i ⊎
    (IsUsed v.mode × (v.vertex ≡ true))) (sym same) (still
    (subst (λ (i : ℕ). IsUsed (node_in sizes past i).mode) same u.0)
    (ap (λ (i : ℕ). (node_in sizes past i).vertex) (sym same) ∙ u.1)))
    (λ _. inr u)))
    old

-- a mark keeps a vertex linked or spent
mark_used : (s : State) (i x : ℕ) → IsUsed (s.node x).mode × ((s.node x).vertex ≡ true) → IsUsed
    ((marked_state s i).node x).mode × (((marked_state s i).node x).vertex ≡ true)
mark_used s i x u = put_case (λ (n : Node). IsUsed n.mode × (n.vertex ≡ true)) i
    (record (s.node i) { marked = true }) s.node x (λ same. subst
    (λ (j : ℕ). IsUsed (s.node j).mode × ((s.node j).vertex ≡ true)) same u) (λ _. u)

closed_used_step : (sizes : Sizes) → IsLayout sizes → KeepsByKind sizes (λ (s : State) (w : ℕ → ℕ). ClosedUsed s)
closed_used_step sizes z past e kept c PopFree by ok w a = record {
  each = λ x h.
      let s : State = state sizes past in
      let v : Node = record (s.node e.life.index) {
        mode = Fresh;
        who = e.caller;
        tag = e.life.tag;
        marked = false;
        stored = false;
      } in
      let ne : x ≢ e.life.index = λ same. put_case (λ (b : Bool). b ≡ true → ⊥) e.life.index false s.frozen x
      (λ _ t. absurd (cc)) (λ ne _. ne same) h in
      put_closed sizes z past e kept PopFree ok v x (λ _. ne) refl
      (λ u _. absurd (subst IsUsed (taken sizes z past e kept ok).free u))
      (c.each x (sym (put_other e.life.index false s.frozen x ne) ∙ h));
}
closed_used_step sizes z past e kept c LinkVertex by ok w a = record {
  each = λ x h. put_closed sizes z past e kept LinkVertex ok _ x (λ is. absurd (cc)) refl
      (λ u _. absurd (subst IsUsed ok.fresh.fresh u)) (c.each x h);
}
closed_used_step sizes z past e kept c MarkVertex by ok w a = record {
  each = λ x h. put_closed sizes z past e kept MarkVertex ok _ x (λ is. absurd (cc)) refl (λ u v. inr (u, v))
      (c.each x h);
}
closed_used_step sizes z past e kept c UnlinkVertex by ok w a = record {
  each = λ x h. put_closed sizes z past e kept UnlinkVertex ok _ x (λ is. absurd (cc)) refl (λ u v. inr (tt, v))
      (c.each x h);
}
closed_used_step sizes z past e kept c LinkEdge by ok w a = record {
  each = λ x h. put_closed sizes z past e kept LinkEdge ok _ x (λ is. absurd (cc)) refl
      (λ u _. absurd (subst IsUsed ok.fresh.fresh u)) (c.each x h);
}
closed_used_step sizes z past e kept c UnlinkEdge by ok w a = record {
  each = λ x h. put_closed sizes z past e kept UnlinkEdge ok _ x (λ is. absurd (cc)) refl
      (λ u v. let b = ok.linked.edge in absurd (cc)) (c.each x h);
}
closed_used_step sizes z past e kept c StoreFree by ok w a = record {
  each = λ x h. put_closed sizes z past e kept StoreFree ok _ x (λ is. absurd (cc)) refl (λ u v. inr (u, v))
      (c.each x h);
}
closed_used_step sizes z past e kept c PushFree by ok w a = record {
  each = λ x h. put_closed sizes z past e kept PushFree ok _ x (λ is. absurd (cc)) refl
      (λ u v. ⊎_elim (λ (f : IsFinished (state sizes past).node (state sizes past).edges
      (state sizes past).frozen e.life.index). inl f)
      (λ (n : IsFinished (state sizes past).node (state sizes past).edges (state sizes past).frozen e.life.index → ⊥).
      let t = (listing sizes z past kept).unstored e.life.index record
      { there = ok.there; used = u; vertex = v; unfinished = n } in let q = ok.stored in absurd (cc))
      (finished_or (state sizes past).node (state sizes past).edges (state sizes past).frozen e.life.index))
      (c.each x h);
}
closed_used_step sizes z past e kept c ReplaceEdge by ok w a = record {
  each = λ x h. ⊎_elim (λ (f : IsFinished (state sizes past).node (state sizes past).edges (state sizes past).frozen x).
      inl (finished_after sizes z past e kept ReplaceEdge ok x (λ is. absurd (cc)) f))
      (λ (u : IsUsed (node_in sizes past x).mode × ((node_in sizes past x).vertex ≡ true)). inr
      (replaced_case sizes z past e kept ok (λ (n : Node). IsUsed n.mode × (n.vertex ≡ true)) x
      (λ same. absurd (subst IsUsed (ap (λ (i : ℕ). (node_in sizes past i).mode) same ∙ ok.fresh.fresh) u.0))
      (λ _. mark_used (state sizes past) e.old.index x u)
      (λ _ _ _ _. (tt, (mark_used (state sizes past) e.old.index x u).1))))
      (c.each x h);
}
closed_used_step sizes z past e kept c MarkEdge by ok w a = record {
  each = λ x h. ⊎_elim (λ (f : IsFinished (state sizes past).node (state sizes past).edges (state sizes past).frozen x).
      inl (finished_after sizes z past e kept MarkEdge ok x (λ is. absurd (cc)) f))
      (λ (u : IsUsed (node_in sizes past x).mode × ((node_in sizes past x).vertex ≡ true)). inr
      (handed_case (λ (n : Node). IsUsed n.mode × (n.vertex ≡ true)) (marked_state (state sizes past) e.life.index)
      (node_in sizes past e.life.index).source.index x (mark_used (state sizes past) e.life.index x u)
      (λ _ _ _. (tt, (mark_used (state sizes past) e.life.index x u).1))))
      (c.each x h);
}
closed_used_step sizes z past e kept c FreezeEdge by ok w a = record {
  each = λ x h. ⊎_elim (λ (f : IsFinished (state sizes past).node (state sizes past).edges (state sizes past).frozen x).
      inl (finished_after sizes z past e kept FreezeEdge ok x (λ is. absurd (cc)) f))
      (λ (u : IsUsed (node_in sizes past x).mode × ((node_in sizes past x).vertex ≡ true)). inr
      (handed_case (λ (n : Node). IsUsed n.mode × (n.vertex ≡ true)) (marked_state (state sizes past) e.life.index)
      (node_in sizes past e.life.index).source.index x (mark_used (state sizes past) e.life.index x u)
      (λ _ _ _. (tt, (mark_used (state sizes past) e.life.index x u).1))))
      (c.each x h);
}
closed_used_step sizes z past e kept c FreezeHead by ok w a = record {
  each = λ x h. dite (ℕ_discrete x e.life.index)
      (λ same. inr (kept_used x (subst (λ (i : ℕ). IsUsed (node_in sizes past i).mode ×
      ((node_in sizes past i).vertex ≡ true)) (sym same) (subst IsUsed (sym ok.spent.spent) tt, ok.spent.vertex))))
      (λ ne. ⊎_elim (λ (f : IsFinished (state sizes past).node (state sizes past).edges (state sizes past).frozen x).
      inl (finished_after sizes z past e kept FreezeHead ok x (λ is. absurd (cc)) f))
      (λ (u : IsUsed (node_in sizes past x).mode × ((node_in sizes past x).vertex ≡ true)). inr (kept_used x u))
      (c.each x (sym (put_other e.life.index true (state sizes past).frozen x ne) ∙ h)));
}
  where
    kept_used : (x : ℕ) → IsUsed (node_in sizes past x).mode × ((node_in sizes past x).vertex ≡ true) → IsUsed
        ((handed e.life.index (closed_state (state sizes past) e.life.index)).node x).mode ×
        (((handed e.life.index (closed_state (state sizes past) e.life.index)).node x).vertex ≡ true)
    kept_used x u = handed_case (λ (n : Node). IsUsed n.mode × (n.vertex ≡ true))
        (closed_state (state sizes past) e.life.index) e.life.index x u (λ _ _ _. (tt, u.1))
closed_used_step sizes z past e kept c _ by ok w a = record { each = c.each }

closed_used : (sizes : Sizes) → IsLayout sizes → (journal : List Event) → IsKept sizes journal → ClosedUsed
    (state sizes journal)
closed_used sizes z journal kept = holds_all sizes (λ (s : State) (w : ℕ → ℕ). ClosedUsed s) (closed_used_step sizes z)
    (record { each = λ x h. absurd (cc) }) journal kept

-- an edge stands on a list, and is spent while it isn't given back
record IsPartEdge (x y : ℕ) (s : State) : Type 0 where
  pub on : stands_in (s.edges x) y ≡ true
  pub spent : IsUsed (s.node y).mode → (s.node y).mode ≡ Spent

-- another node changes, or the edge stays spent
part_put : (x y i : ℕ) (s s' : State) (v : Node) → stands_in (s'.edges x) y ≡ true → s'.node y ≡ put i v s.node y →
    (y ≡ i → IsUsed v.mode → v.mode ≡ Spent) → IsPartEdge x y s → IsPartEdge x y s'
part_put x y i s s' v on is new c = record {
  on = on;
  spent = subst (λ (n : Node). IsUsed n.mode → n.mode ≡ Spent)
      (sym is) (put_case (λ (n : Node). IsUsed n.mode → n.mode ≡ Spent) i v s.node y new (λ _. c.spent));
}

part_handed : (x y v : ℕ) (s : State) → IsPartEdge x y s → IsPartEdge x y (handed v s)
part_handed x y v s c = record {
  on = c.on;
  spent = handed_case
      (λ (n : Node). IsUsed n.mode → n.mode ≡ Spent) s v y c.spent (λ _ _ _ _. refl);
}

part_step : (sizes : Sizes) → IsLayout sizes → (x y : ℕ) → KeepsLives sizes x y (IsPartEdge x y)
part_step sizes z x y past e kept PopFree ok ne c =
    let s : State = state sizes past in
    let v : Node = record (s.node e.life.index) {
      mode = Fresh;
      who = e.caller;
      tag = e.life.tag;
      marked = false;
      stored
          = false;
    } in
    part_put x y e.life.index s (state_by PopFree sizes e s) v
    (subst (λ (l : List ℕ). stands_in l y ≡ true) (sym (put_other e.life.index []
    (λ n. unlinked_from e.life.index (s.edges n)) x (ne refl).0))
    (unlinked_keeps e.life.index y (s.edges x) c.on (ne refl).1))
    refl (λ same. absurd ((ne refl).1 same)) c
part_step sizes z x y past e kept LinkVertex ok ne c = part_put x y e.life.index (state sizes past)
    (state_by LinkVertex sizes e (state sizes past)) _ c.on refl
    (λ same. absurd (((listing sizes z past kept).on x y c.on).unfresh
    (ap (λ (i : ℕ). (node_in sizes past i).mode) same ∙ ok.fresh.fresh))) c
part_step sizes z x y past e kept MarkVertex ok ne c = part_put x y e.life.index (state sizes past)
    (state_by MarkVertex sizes e (state sizes past)) _ c.on refl
    (λ same u. let t = ((listing sizes z past kept).on x y c.on).edge in let q = ap
    (λ (i : ℕ). (node_in sizes past i).vertex) same ∙ ok.linked.vertex in absurd (cc)) c
part_step sizes z x y past e kept UnlinkVertex ok ne c = part_put x y e.life.index (state sizes past)
    (state_by UnlinkVertex sizes e (state sizes past)) _ c.on refl (λ _ _. refl) c
part_step sizes z x y past e kept LinkEdge ok ne c = part_put x y e.life.index (state sizes past)
    (state_by LinkEdge sizes e (state sizes past)) _ (linked_keeps sizes (second_at sizes x) e.place e.life.index y
    ((state sizes past).edges x) c.on) refl
    (λ same. absurd (((listing sizes z past kept).on x y c.on).unfresh
    (ap (λ (i : ℕ). (node_in sizes past i).mode) same ∙ ok.fresh.fresh))) c
part_step sizes z x y past e kept UnlinkEdge ok ne c =
    let apart : y ≢ e.life.index = λ same. let l = ap (λ (i : ℕ). (node_in sizes past i).mode) same
    ∙ ok.linked.linked in let t = c.spent (subst IsUsed (sym l) tt) in absurd (cc) in
    part_put x y e.life.index (state sizes past) (state_by UnlinkEdge sizes e (state sizes past)) _
    (unlinked_keeps e.life.index y ((state sizes past).edges x) c.on apart) refl (λ _ _. refl) c
part_step sizes z x y past e kept StoreFree ok ne c = part_put x y e.life.index (state sizes past)
    (state_by StoreFree sizes e (state sizes past)) _ c.on refl (λ _ _. ok.ripe.stamped.spent.spent) c
part_step sizes z x y past e kept PushFree ok ne c = part_put x y e.life.index (state sizes past)
    (state_by PushFree sizes e (state sizes past)) _ c.on refl (λ _ u. absurd u) c
part_step sizes z x y past e kept ReplaceEdge ok ne c =
    let s : State = state sizes past in
    let j : State = joined_edge sizes e s in
    let cj : IsPartEdge x y j = part_put x y e.life.index s j (new_edge_node (s.node e.life.index) e s.count)
    (linked_keeps sizes (second_at sizes x) e.place e.life.index y (s.edges x) c.on) refl
    (λ same. absurd (((listing sizes z past kept).on x y c.on).unfresh
    (ap (λ (i : ℕ). (s.node i).mode) same ∙ ok.fresh.fresh))) c in
    part_handed x y (j.node e.old.index).source.index (marked_state j e.old.index)
    (part_put x y e.old.index j (marked_state j e.old.index) (record (j.node e.old.index) { marked = true }) cj.on refl
    (λ same u. ap (λ (i : ℕ). (j.node i).mode) (sym same) ∙ cj.spent
    (subst (λ (i : ℕ). IsUsed (j.node i).mode) (sym same) u)) cj)
part_step sizes z x y past e kept MarkEdge ok ne c = part_handed x y (node_in sizes past e.life.index).source.index
    (marked_state (state sizes past) e.life.index)
    (part_put x y e.life.index (state sizes past) (marked_state (state sizes past) e.life.index) _ c.on refl
    (λ same u. ap (λ (i : ℕ). (node_in sizes past i).mode) (sym same) ∙ c.spent
    (subst (λ (i : ℕ). IsUsed (node_in sizes past i).mode) (sym same) u)) c)
part_step sizes z x y past e kept FreezeEdge ok ne c = part_handed x y (node_in sizes past e.life.index).source.index
    (marked_state (state sizes past) e.life.index)
    (part_put x y e.life.index (state sizes past) (marked_state (state sizes past) e.life.index) _ c.on refl
    (λ same u. ap (λ (i : ℕ). (node_in sizes past i).mode) (sym same) ∙ c.spent
    (subst (λ (i : ℕ). IsUsed (node_in sizes past i).mode) (sym same) u)) c)
part_step sizes z x y past e kept FreezeHead ok ne c = part_handed x y e.life.index
    (closed_state (state sizes past) e.life.index) record { on = c.on; spent = c.spent }
part_step sizes z x y past e kept _ ok ne c = record { on = c.on; spent = c.spent }

-- an edge of a list of a vertex, or of one that is given back with it, isn't linked where the list is frozen to its end
not_linked : (sizes : Sizes) → IsLayout sizes → (journal : List Event) → IsKept sizes journal → (x y : ℕ) → IsFinished
    (state sizes journal).node (state sizes journal).edges (state sizes journal).frozen x → stands_in
    ((state sizes journal).edges x)
    y ≡ true → (node_in sizes journal y).mode ≢ Linked
not_linked sizes z journal kept x y f h l =
    let c = listing sizes z journal kept in
    let d = c.on x y h in
    (c.source y d.there l d.edge).list.unfinished (subst (IsFinished (state sizes journal).node
    (state sizes journal).edges (state sizes journal).frozen) (sym d.index) f)

used_spent : (m : Mode) → IsUsed m → m ≢ Linked → m ≡ Spent
used_spent Free u n = absurd u
used_spent Fresh u n = absurd u
used_spent Linked u n = absurd (n refl)
used_spent Spent u n = refl

-- a frozen part has a closed head
pub part_head : (s : State) (x y : ℕ) → stands_in (frozen_part s x) y ≡ true → s.frozen x ≡ true
part_head s x y h = by (s.frozen x) h
  where
    by : (b : Bool) → stands_in (cond b (take_while (λ v. (s.node v).marked) (s.edges x)) []) y ≡ true → b ≡ true
    by true h = refl
    by false h = absurd (cc)

-- an edge of the frozen part is spent, where it isn't given back
pub part_spent : (sizes : Sizes) → IsLayout sizes → (journal : List Event) → IsKept sizes journal → (x y : ℕ)
    → is_frozen (state sizes journal) x y ≡ true → IsUsed (node_in sizes journal y).mode →
    (node_in sizes journal y).mode ≡ Spent
part_spent sizes z journal kept x y h u =
    let s : State = state sizes journal in
    let on = part_listed s.node s.edges s.frozen x y h in
    ⊎_elim (λ (f : IsFinished s.node s.edges s.frozen x). used_spent (s.node y).mode u
    (not_linked sizes z journal kept x y f on))
    (λ (n : IsFinished s.node s.edges s.frozen x → ⊥). ⊎_elim
    (λ (f : IsFinished s.node s.edges s.frozen x). absurd (n f))
    (λ (q : IsUsed (s.node x).mode × ((s.node x).vertex ≡ true)).
    (listing sizes z journal kept).handed x y record {
      there = used_there sizes journal x kept
          (λ m. subst IsUsed m q.0);
      used = q.0;
      vertex = q.1;
      unfinished = n;
    } h)
    ((closed_used sizes z journal kept).each x (part_head s x y h)))
    (finished_or s.node s.edges s.frozen x)

-- an edge of the frozen part stays in it, while it and its vertex are in their lives and it isn't given back
pub part_stays : (sizes : Sizes) → IsLayout sizes → (x y : ℕ) (front journal : List Event) → IsPrefix front journal
    → IsKept sizes journal → (node_in sizes journal x).tag ≡ (node_in sizes front x).tag →
    (node_in sizes journal y).tag ≡ (node_in sizes front y).tag
    → is_frozen (state sizes front) x y ≡ true → IsUsed (node_in sizes journal y).mode → is_frozen
    (state sizes journal) x y ≡ true
part_stays sizes z x y front journal p kept tx ty h u =
    let s : State = state sizes journal in
    let old : IsKept sizes front = kept_front sizes front journal p kept in
    let c : IsPartEdge x y s = while_both sizes z x y (IsPartEdge x y)
    (part_step sizes z x y) front journal p kept tx ty
    record {
      on = part_listed (state sizes front).node (state sizes front).edges
          (state sizes front).frozen x y h;
      spent = part_spent sizes z front old x y h;
    } in
    let head : s.frozen x ≡ true = head_stays sizes z x front journal p kept tx (part_head (state sizes front) x y h) in
    ⊎_elim
    (λ (f : IsFinished s.node s.edges s.frozen x). subst
    (λ (b : Bool). stands_in (cond b (take_while (λ v. (s.node v).marked) (s.edges x)) [])
    y ≡ true) (sym head)
    (part_all (λ v. (s.node v).marked) y (s.edges x) f.each c.on))
    (λ (n : IsFinished s.node s.edges s.frozen x → ⊥). ⊎_elim
    (λ (f : IsFinished s.node s.edges s.frozen x). absurd (n f))
    (λ (q : IsUsed (s.node x).mode × ((s.node x).vertex ≡ true)). yes_no (is_frozen s x y ≡ true) (is_frozen s x y)
    (λ t. t)
    (λ f. let l = (listing sizes z journal kept).linked x y record
    { there = used_there sizes journal x kept (λ m. subst IsUsed m q.0); used = q.0; vertex = q.1; unfinished = n }
    c.on f in let t = c.spent u in absurd (cc)))
    ((closed_used sizes z journal kept).each x head))
    (finished_or s.node s.edges s.frozen x)

-- each list on which an edge stands is one on which it stood, in the same life
record IsOldList (front : State) (y : ℕ) (s : State) : Type 0 where
  pub fresh : (s.node y).mode ≢ Fresh
  pub was : (x : ℕ) → stands_in (s.edges x) y ≡ true → (stands_in (front.edges x) y ≡ true) ×
      ((s.node x).tag ≡ (front.node x).tag)

old_put : (front : State) (y i : ℕ) (s s' : State) (v : Node) → s'.node y ≡ put i v s.node y → v.mode ≢ Fresh →
    ((x : ℕ) → stands_in (s'.edges x) y ≡ true → stands_in (s.edges x) y ≡ true) →
    ((x : ℕ) → (s'.node x).tag ≡ (s.node x).tag) → IsOldList front y s → IsOldList front y s'
old_put front y i s s' v is unfresh less tags c = record {
  fresh = subst (λ (n : Node). n.mode ≢ Fresh) (sym is) (put_case (λ (n : Node). n.mode ≢ Fresh) i v s.node y
      (λ _. unfresh) (λ _. c.fresh));
  was = λ x h. let r = c.was x (less x h) in (r.0, tags x ∙ r.1);
}

old_step : (sizes : Sizes) → IsLayout sizes → (front : State) (y : ℕ) → KeepsLives sizes y y (IsOldList front y)
old_step sizes z front y past e kept PopFree ok ne c =
    let s : State = state sizes past in
    let v : Node = record (s.node e.life.index) {
      mode = Fresh;
      who = e.caller;
      tag = e.life.tag;
      marked = false;
      stored
          = false;
    } in record {
      fresh = subst (λ (n : Node). n.mode ≢ Fresh) (sym (put_other e.life.index v s.node y (ne refl).1)) c.fresh;
      was = λ x h.
          let r = popped_was sizes s.node s.edges s.frozen (listing sizes z past kept) e.life.index v
          (taken sizes z past e kept ok).free refl x y h in
          let q = c.was x r.1 in
          (q.0, ap (λ (n : Node). n.tag) (put_other e.life.index v s.node x r.0) ∙ q.1);
    }
old_step sizes z front y past e kept LinkEdge ok ne c =
    let s : State = state sizes past in
    old_put front y e.life.index s (state_by LinkEdge sizes e s) _ refl (λ m. absurd (cc))
    (λ x h. ⊎_elim (λ (t : stands_in (s.edges x) y ≡ true). t) (λ (t : (y ≡ e.life.index) × _). absurd
    (c.fresh (ap (λ (i : ℕ). (s.node i).mode) t.0 ∙ ok.fresh.fresh)))
    (linked_was sizes (second_at sizes x) e.place e.life.index y (s.edges x) h))
    (same_tag LinkEdge tt sizes e s) c
old_step sizes z front y past e kept ReplaceEdge ok ne c =
    let s : State = state sizes past in
    record {
      fresh = replaced_case sizes z past e kept ok (λ (n : Node). n.mode ≢ Fresh) y (λ _ m. absurd (cc))
          (λ _. put_case (λ (n : Node). n.mode ≢ Fresh) e.old.index
          (record (s.node e.old.index) { marked = true }) s.node y
          (λ same. subst (λ (i : ℕ). (s.node i).mode ≢ Fresh) same c.fresh) (λ _. c.fresh))
          (λ _ _ _ _ m. absurd (cc));
      was = λ x h.
          let r = c.was x (⊎_elim (λ (t : stands_in (s.edges x) y ≡ true). t)
          (λ (t : (y ≡ e.life.index) × _). absurd (c.fresh (ap (λ (i : ℕ). (s.node i).mode) t.0 ∙ ok.fresh.fresh)))
          (linked_was sizes (second_at sizes x) e.place e.life.index y (s.edges x) h)) in
          (r.0, same_tag ReplaceEdge tt sizes e s x ∙ r.1);
    }
old_step sizes z front y past e kept UnlinkEdge ok ne c = old_put front y e.life.index (state sizes past)
    (state_by UnlinkEdge sizes e (state sizes past)) _ refl (λ m. absurd (cc))
    (λ x h. (unlinked_was e.life.index y ((state sizes past).edges x) h).0)
    (same_tag UnlinkEdge tt sizes e (state sizes past)) c
old_step sizes z front y past e kept k ok ne c = record {
  fresh = λ f. c.fresh (fresh_before k tt sizes e (state sizes past) y f);
  was = λ x h. let r = c.was x h in (r.0, same_tag k tt sizes e (state sizes past) x ∙ r.1);
}

-- no list takes up an edge that isn't fresh
pub old_lists : (sizes : Sizes) → IsLayout sizes → (y : ℕ) (front journal : List Event) → IsPrefix front journal
    → IsKept sizes journal → (node_in sizes front y).mode ≢ Fresh → (node_in sizes journal y).tag ≡
    (node_in sizes front y).tag
    → (x : ℕ) → is_listed (state sizes journal) x y ≡ true → (is_listed (state sizes front) x y ≡ true) ×
    ((node_in sizes journal x).tag ≡ (node_in sizes front x).tag)
old_lists sizes z y front journal p kept fresh tag x h = (while_both sizes z y y (IsOldList (state sizes front) y)
    (old_step sizes z (state sizes front) y) front journal p kept tag tag record
    { fresh = fresh; was = λ x h. (h, refl) }).was x h

-- so where each of its lists was frozen to its end, each is
pub old_finished : (sizes : Sizes) → IsLayout sizes → (y : ℕ) (front journal : List Event) → IsPrefix front journal
    → IsKept sizes journal → (node_in sizes front y).mode ≢ Fresh → (node_in sizes journal y).tag ≡
    (node_in sizes front y).tag
    → ((x : ℕ) → x < sizes.nodes → is_listed (state sizes front) x y ≡ true → IsFrozenToEnd sizes front x) → (x : ℕ)
    → x < sizes.nodes → is_listed (state sizes journal) x y ≡ true → IsFrozenToEnd sizes journal x
old_finished sizes z y front journal p kept fresh tag done x t h =
    let r = old_lists sizes z y front journal p kept fresh tag x h in
    finished_stays sizes z x front journal p kept r.1 (done x t r.0)
