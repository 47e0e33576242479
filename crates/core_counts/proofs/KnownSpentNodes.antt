-- A caller knows the spent nodes that it got: by its own unlinks, and with the part of the list that it is freezing.
use Rattle.std.proofs.Common.{◌≡◌, ◌≢◌, ◌⊎◌, ℕ, ◌≤◌, Bool, true, false, ◌||◌, ◌==◌, Option, None, Some, List, [], ◌∷◌}
use Rattle.std.proofs.Common.{◌++◌, length, inl, inr, refl, sym, ap, ◌∙◌, subst, ⊎_elim, eq-eqb}
use Rattle.std.specs.List.{list_any}
use mathlib.Core.Logic.{dite}
use native.Mathlib.Decide.{ℕ_discrete}
use Rattle.packed_link.specs.Layout.{Sizes, IsLayout}
use Rattle.core_journal.specs.declared.event.Kind.{Kind}
use Rattle.core_journal.specs.declared.event.Kind.TheVariants.{PopFree, UnlinkVertex, UnlinkEdge, FreezeHead, PushFree}
use Rattle.core_journal.specs.declared.event.Event.{Event}
use Rattle.core_journal.specs.Event.{unlinks}
use Rattle.core_journal.specs.Prefix.{IsPrefix}
use Rattle.core_journal.specs.State.{Free, Linked, Spent, Node, State, state_by, state}
use Rattle.core_journal.proofs.Lists.{prefix_snoc}
use Rattle.core_journal.proofs.States.{state-snoc}
use Rattle.core_kept.specs.Freezing.{IsSpentVertex}
use Rattle.core_kept.specs.Kept.{Allowed, AllowedAs, IsKept, IsQuiet}
use Rattle.core_kept.specs.Nodes.{node_in, is_frozen, IsUsed, IsSpentWith, IsFrozenToEnd}
use Rattle.core_kept.proofs.ByKind.{put_case, put_same}
use Rattle.core_kept.proofs.Induction.{past_kept, last_allowed, kept_beyond, kept_snoc}
use Rattle.core_lists.proofs.ClosedHeadStays.{finished_stays, part_head, part_stays}
use Rattle.core_lists.proofs.EventKeepsRest.{spent_still}
use Rattle.core_lists.proofs.ListHolds.{part_listed}
use Rattle.core_lists.proofs.ListHoldsKept.{listing}
use Rattle.core_lists.proofs.SpentWordsLead.{unclosed}
use Rattle.core_lists.specs.Chains.{IsBeingFrozen}
use Rattle.core_counts.specs.Spending.{IsOwnUnlink, IsHandedOver, IsOnPart, IsHolder, AreFinished, IsKnown, GotOnly}
use Rattle.core_counts.specs.Spending.{GetsNone}
use Rattle.core_counts.proofs.NodesBecomeSpent.{becoming}

-- whether a vertex is the one whose list is being frozen
one_or : (but : Option ℕ) (v : ℕ) → IsBeingFrozen but v ⊎ (IsBeingFrozen but v → ⊥)
one_or None v = inr (λ x. x)
one_or (Some x) v = dite (ℕ_discrete v x) (λ is. inl is) (λ ne. inr ne)

on_part : (s : State) (but : Option ℕ) (v y : ℕ) → IsBeingFrozen but v → is_frozen s v y ≡ true → IsOnPart s but y
on_part s None v y one h = absurd one
on_part s (Some x) v y one h = subst (λ (i : ℕ). is_frozen s i y ≡ true) one h

any_more : (b : Bool) (got : List ℕ) (y : ℕ) → list_any (λ (u : ℕ). u == y) got ≡ true →
    (b || list_any (λ (u : ℕ). u == y) got) ≡ true
any_more true got y h = refl
any_more false got y h = h

-- one event of the caller or of others
module _ (sizes : Sizes) (z : IsLayout sizes) (past : List Event) (e : Event) (kept : IsKept sizes past)
    (ok : Allowed sizes past e) (c : ℕ) (but : Option ℕ) (fin : AreFinished sizes past c but)
    (closes : e.caller ≡ c → e.kind ≡ FreezeHead → IsBeingFrozen but e.life.index) where
  abbrev s : State
  s = state sizes past

  abbrev i : ℕ
  i = e.life.index

  abbrev grown : List Event
  grown = past ++ e ∷ []

  after_is : state sizes grown ≡ state_by e.kind sizes e s
  after_is = state-snoc sizes past e

  kept_after : IsKept sizes grown
  kept_after = kept_snoc sizes past e kept ok

  -- which lists are closed
  abbrev CameClosed : ℕ → Type 0
  CameClosed v = (s.frozen v ≡ true) ⊎ ((e.kind ≡ FreezeHead) × (v ≡ i) × IsSpentVertex sizes past e.caller i)

  closed_by : (k : Kind) → e.kind ≡ k → AllowedAs k sizes past e → (v : ℕ) → (state_by k sizes e s).frozen v ≡ true
      → CameClosed v
  closed_by PopFree is ok v h = put_case (λ (b : Bool). b ≡ true → CameClosed v) i false s.frozen v (λ _ t. absurd (cc))
      (λ _ t. inl t) h
  closed_by FreezeHead is ok v h = put_case (λ (b : Bool). b ≡ true → CameClosed v) i true s.frozen v
      (λ same _. inr (is, same, ok.spent)) (λ _ t. inl t) h
  closed_by _ is ok v h = inl h

  was_closed : (v : ℕ) → (state sizes grown).frozen v ≡ true → CameClosed v
  was_closed v closed = closed_by e.kind refl ok.as_kind v (subst (λ (t : State). t.frozen v ≡ true) after_is closed)

  -- a vertex whose list the event closes is spent by the event's caller
  not_mine : (v : ℕ) → (IsBeingFrozen but v → ⊥) → (node_in sizes past v).who ≡ c → (e.kind ≡ FreezeHead) × (v ≡ i)
      × IsSpentVertex sizes past e.caller i → ⊥
  not_mine v other mine h =
      let by : e.caller ≡ c = sym h.2.mine ∙ (ap (λ (x : ℕ). (s.node x).who) (sym h.1) ∙ mine) in
      other (subst (λ (x : ℕ). IsBeingFrozen but x) (sym h.1) (closes by h.0))

  -- spent with the caller before, or unlinked by it, or on the part that is being frozen
  abbrev Was : ℕ → Type 0
  Was y = (IsSpentWith sizes past c y ⊎ IsOwnUnlink e c y) ⊎ IsOnPart (state sizes grown) but y

  new_spent : (y : ℕ) → IsSpentWith sizes grown c y → Was y
  new_spent y f = ⊎_elim (λ (a : IsSpentWith sizes past c y ⊎ IsOwnUnlink e c y). inl a)
      (λ (h : IsHandedOver sizes past e c y). ⊎_elim
      (λ (one : IsBeingFrozen but h.vertex). inr (on_part (state sizes grown) but h.vertex y one h.on))
      (λ (other : IsBeingFrozen but h.vertex → ⊥). ⊎_elim
      (λ (closed : s.frozen h.vertex ≡ true). absurd (h.unfinished (fin.each h.vertex other h.spent closed)))
      (λ (now : (e.kind ≡ FreezeHead) × (h.vertex ≡ i) × IsSpentVertex sizes past e.caller i). absurd
      (not_mine h.vertex other h.spent.mine now))
      (was_closed h.vertex (part_head (state sizes grown) h.vertex y h.on)))
      (one_or but h.vertex))
      (becoming sizes z past e kept ok c y f)

  -- a node that is spent behind the event wasn't given back by it
  ungiven : (y : ℕ) → (node_in sizes grown y).mode ≡ Spent → e.kind ≡ PushFree → i ≢ y
  ungiven y f is same =
      let at : (node_in sizes grown i).mode ≡ Free = ap (λ (t : State). (t.node i).mode)
      (after_is ∙ ap (λ (k : Kind). state_by k sizes e s) is) ∙ ap (λ (u : Node). u.mode)
      (put_same i (record (s.node i) { mode = Free }) s.node) in
      let f' : (node_in sizes grown i).mode ≡ Spent = ap (λ (x : ℕ). (node_in sizes grown x).mode) same ∙ f in
      absurd (cc)

  part_edge : (y : ℕ) → IsOnPart (state sizes grown) but y → (node_in sizes grown y).vertex ≡ false
  part_edge y = by but
    where
      by : (o : Option ℕ) → IsOnPart (state sizes grown) o y → (node_in sizes grown y).vertex ≡ false
      by None h = absurd h
      by (Some x) h = ((listing sizes z grown kept_after).on x y
          (part_listed (state sizes grown).node (state sizes grown).edges (state sizes grown).frozen x y h)).edge

  -- a node that an event unlinks was linked
  unlinked_linked : (k : Kind) → unlinks k ≡ true → AllowedAs k sizes past e → (node_in sizes past i).mode ≡ Linked
  unlinked_linked UnlinkVertex u ok = ok.linked.linked
  unlinked_linked UnlinkEdge u ok = ok.linked.linked
  unlinked_linked _ u ok = absurd (cc)

  no_closing : e.kind ≡ FreezeHead → unlinks e.kind ≡ true → ⊥
  no_closing is u = let f = ap unlinks is in absurd (cc)

  finished_behind : AreFinished sizes grown c but
  finished_behind = record {
    each = λ v other sp closed. ⊎_elim (λ (a : IsSpentWith sizes past c v ⊎ IsOwnUnlink e c v). ⊎_elim
        (λ (was : IsSpentWith sizes past c v).
        let still = spent_still sizes past e kept_after z c v (ungiven v sp.spent) was in
        let vertex : (s.node v).vertex ≡ true = sym still.2 ∙ sp.vertex in
        ⊎_elim
        (λ (old : s.frozen v ≡ true). finished_stays sizes z v past grown (prefix_snoc past e) kept_after still.1
        (fin.each v other (record { spent = was.spent; vertex = vertex; mine = was.mine }) old))
        (λ (h : (e.kind ≡ FreezeHead) × (v ≡ i) × IsSpentVertex sizes past e.caller i). absurd
        (not_mine v other was.mine h))
        (was_closed v closed))
        (λ (u : IsOwnUnlink e c v). ⊎_elim
        (λ (old : s.frozen v ≡ true).
        let linked : (node_in sizes past v).mode ≡ Linked = ap (λ (x : ℕ). (node_in sizes past x).mode) (sym u.life)
        ∙ unlinked_linked e.kind u.unlinks ok.as_kind in
        let no = unclosed sizes z past kept v linked in
        absurd (cc))
        (λ (h : (e.kind ≡ FreezeHead) × (v ≡ i) × IsSpentVertex sizes past e.caller i). absurd
        (no_closing h.0 u.unlinks))
        (was_closed v closed)) a)
        (λ (on : IsOnPart (state sizes grown) but v). let f = part_edge v on in let t = sp.vertex in absurd (cc))
        (new_spent v (record { spent = sp.spent; mine = sp.mine }));
  }

  -- the part goes on
  part_on : IsHolder sizes past c but → (IsBeingFrozen but i → e.kind ≢ PushFree) → (y : ℕ) → IsSpentWith sizes past c y
      → (node_in sizes grown y).mode ≡ Spent → IsOnPart s but y → IsOnPart (state sizes grown) but y
  part_on = by but
    where
      by : (o : Option ℕ) → IsHolder sizes past c o → (IsBeingFrozen o i → e.kind ≢ PushFree) → (y : ℕ)
          → IsSpentWith sizes past c y → (node_in sizes grown y).mode ≡ Spent → IsOnPart s o y → IsOnPart
          (state sizes grown) o y
      by None h g y was m on = on
      by (Some x) h g y was m on =
          let tx = (spent_still sizes past e kept_after z c x (λ is same. g same is)
          (record { spent = h.spent; mine = h.mine })).1 in
          let ty = (spent_still sizes past e kept_after z c y (ungiven y m) was).1 in
          part_stays sizes z x y past grown (prefix_snoc past e) kept_after tx ty on (subst IsUsed (sym m) tt)

  holder_on : IsHolder sizes past c but → (IsBeingFrozen but i → e.kind ≢ PushFree) → IsHolder sizes grown c but
  holder_on = by but
    where
      by : (o : Option ℕ) → IsHolder sizes past c o → (IsBeingFrozen o i → e.kind ≢ PushFree) → IsHolder sizes grown c o
      by None h g = tt
      by (Some x) h g = let r = spent_still sizes past e kept_after z c x (λ is same. g same is)
          (record { spent = h.spent; mine = h.mine }) in record
          { spent = r.0.spent; vertex = r.2 ∙ h.vertex; mine = r.0.mine }

  -- what was known is known, where all that was got is among what is said to be got now
  known_on : (from : List Event) (got more : List ℕ) → (IsBeingFrozen but i → e.kind ≢ PushFree)
      → IsHolder sizes past c but → ((y : ℕ) → list_any (λ (u : ℕ). u == y) got ≡ true → list_any
      (λ (u : ℕ). u == y) more ≡ true)
      → (y : ℕ) → IsSpentWith sizes past c y → IsSpentWith sizes grown c y → IsKnown sizes from past c but got y
      → IsKnown sizes from grown c but more y
  known_on from got more g holder grows y was f k = ⊎_elim
      (λ (a : IsSpentWith sizes from c y ⊎ (list_any (λ (u : ℕ). u == y) got ≡ true)). inl
      (⊎_elim (λ (b : IsSpentWith sizes from c y). inl b)
      (λ (b : list_any (λ (u : ℕ). u == y) got ≡ true). inr (grows y b)) a))
      (λ (on : IsOnPart s but y). inr (part_on holder g y was f.spent on)) k

  -- an event by which the caller unlinks nothing
  pub got_step : (from : List Event) (got : List ℕ) → (e.caller ≡ c → unlinks e.kind ≡ false) →
      (IsBeingFrozen but i → e.kind ≢ PushFree) → IsHolder sizes past c but →
      ((y : ℕ) → IsSpentWith sizes past c y → IsKnown sizes from past c but got y) → GotOnly sizes from grown c but got
  got_step from got none g holder old = record {
    finished = finished_behind;
    holder = holder_on holder g;
    old = λ y f. ⊎_elim
        (λ (a : IsSpentWith sizes past c y ⊎ IsOwnUnlink e c y). ⊎_elim
        (λ (was : IsSpentWith sizes past c y). known_on from got got g holder (λ _ h. h) y was f (old y was))
        (λ (u : IsOwnUnlink e c y). let t = none u.mine in let w = u.unlinks in absurd (cc)) a)
        (λ (on : IsOnPart (state sizes grown) but y). inr on)
        (new_spent y f);
  }

  -- the caller's own unlink
  pub got_unlinked : (from : List Event) (got : List ℕ) → (IsBeingFrozen but i → e.kind ≢ PushFree)
      → IsHolder sizes past c but → ((y : ℕ) → IsSpentWith sizes past c y → IsKnown sizes from past c but got y)
      → GotOnly sizes from grown c but (i ∷ got)
  got_unlinked from got g holder old = record {
    finished = finished_behind;
    holder = holder_on holder g;
    old = λ y f. ⊎_elim
        (λ (a : IsSpentWith sizes past c y ⊎ IsOwnUnlink e c y). ⊎_elim
        (λ (was : IsSpentWith sizes past c y). known_on from got (i ∷ got) g holder
        (λ w h. any_more (i == w) got w h) y was f (old y was))
        (λ (u : IsOwnUnlink e c y). inl (inr (ap (λ (b : Bool). b || list_any (λ (w : ℕ). w == y) got)
        (eq-eqb i y u.life)))) a)
        (λ (on : IsOnPart (state sizes grown) but y). inr on)
        (new_spent y f);
  }

pub got_itself : (sizes : Sizes) (front : List Event) (caller : ℕ) (but : Option ℕ) → AreFinished sizes front caller but
    → IsHolder sizes front caller but → GotOnly sizes front front caller but []
got_itself sizes front caller but fin holder = record { finished = fin; holder = holder; old = λ y f. inl (inl f) }

-- while others act
pub got_beyond : (sizes : Sizes) → IsLayout sizes → (caller last : ℕ) (but : Option ℕ) (front journal : List Event)
    → IsPrefix front journal → IsKept sizes journal → IsQuiet journal caller last → last ≤ length front
    → (from : List Event) (got : List ℕ) → GotOnly sizes from front caller but got
    → GotOnly sizes from journal caller but got
got_beyond sizes z caller last but front journal p kept quiet old from got g =
    kept_beyond sizes (λ (j : List Event). GotOnly sizes from j caller but got) caller last
    (λ past e k h other ok. got_step sizes z past e k ok caller but h.finished (λ same. absurd (other same)) from got
    (λ same. absurd (other same)) (others but past e ok other h.holder) h.holder h.old)
    front journal p kept quiet old g
  where
    by_kind : (x : ℕ) (past : List Event) (e : Event) → (k : Kind) → k ≡ PushFree → AllowedAs k sizes past e
        → e.caller ≢ caller → e.life.index ≡ x → IsSpentVertex sizes past caller x → ⊥
    by_kind x past e k is ok other one h =
        let r = subst (λ (j : Kind). AllowedAs j sizes past e) is ok in
        given r
      where
        given : AllowedAs PushFree sizes past e → ⊥
        given r = other (sym r.ripe.stamped.spent.mine ∙ (ap (λ (y : ℕ). (node_in sizes past y).who) one ∙ h.mine))

    others : (o : Option ℕ) → (past : List Event) (e : Event) → Allowed sizes past e → e.caller ≢ caller
        → IsHolder sizes past caller o → IsBeingFrozen o e.life.index → e.kind ≢ PushFree
    others None past e ok other h one = absurd one
    others (Some x) past e ok other h one = λ is. by_kind x past e e.kind is ok.as_kind other one h

-- behind an own event
pub got_own : (sizes : Sizes) → IsLayout sizes → (past : List Event) (e : Event) → IsKept sizes (past ++ e ∷ []) →
    (but : Option ℕ) → GetsNone but e
    → (from : List Event) (got : List ℕ) → GotOnly sizes from past e.caller but got → GotOnly sizes from
    (past ++ e ∷ []) e.caller but got
got_own sizes z past e kept but n from got g = got_step sizes z past e (past_kept sizes past e kept)
    (last_allowed sizes past e kept) e.caller but g.finished (λ _ is. n.closes is) from got
    (λ _. n.unlinks) n.gives g.holder g.old

pub got_unlink : (sizes : Sizes) → IsLayout sizes → (past : List Event) (e : Event) → IsKept sizes (past ++ e ∷ []) →
    (but : Option ℕ) → unlinks e.kind ≡ true
    → (from : List Event) (got : List ℕ) → GotOnly sizes from past e.caller but got → GotOnly sizes from
    (past ++ e ∷ []) e.caller but (e.life.index ∷ got)
got_unlink sizes z past e kept but u from got g = got_unlinked sizes z past e (past_kept sizes past e kept)
    (last_allowed sizes past e kept) e.caller but g.finished
    (λ _ is. let f = ap unlinks is in absurd (cc)) from got (λ _ is. let f = ap unlinks is in absurd (cc)) g.holder
    g.old

-- a list is to be frozen, and it's frozen to its end
pub got_begins : (sizes : Sizes) (from journal : List Event) (caller x : ℕ) (got : List ℕ)
    → GotOnly sizes from journal caller None got → IsSpentVertex sizes journal caller x
    → GotOnly sizes from journal caller (Some x) got
got_begins sizes from journal caller x got g h = record {
  finished = record { each = λ v _ sp closed. g.finished.each v (λ b. b) sp closed };
  holder = h;
  old = λ y f. ⊎_elim (λ (a : IsSpentWith sizes from caller y ⊎ (list_any (λ (u : ℕ). u == y) got ≡ true)). inl a)
      (λ (b : ⊥). absurd b) (g.old y f);
}

pub got_done : (sizes : Sizes) (from journal : List Event) (caller x : ℕ) (got : List ℕ)
    → GotOnly sizes from journal caller (Some x) got → IsFrozenToEnd sizes journal x
    → ((y : ℕ) → is_frozen (state sizes journal) x y ≡ true → list_any (λ (u : ℕ). u == y) got ≡ true)
    → GotOnly sizes from journal caller None got
got_done sizes from journal caller x got g ends part = record {
  finished = record {
    each = λ v _ sp closed. dite (ℕ_discrete v x)
        (λ is. subst (IsFrozenToEnd sizes journal) (sym is) ends) (λ ne. g.finished.each v ne sp closed);
  };
  holder = tt;
  old = λ y f. ⊎_elim (λ (a : IsSpentWith sizes from caller y ⊎ (list_any (λ (u : ℕ). u == y) got ≡ true)). inl a)
      (λ (on : is_frozen (state sizes journal) x y ≡ true). inl (inr (part y on))) (g.old y f);
}

pub got_more : (sizes : Sizes) (from journal : List Event) (caller y : ℕ) (but : Option ℕ) (got : List ℕ)
    → GotOnly sizes from journal caller but got → GotOnly sizes from journal caller but (y ∷ got)
got_more sizes from journal caller y but got g = record {
  finished = g.finished;
  holder = g.holder;
  old = λ w f. ⊎_elim (λ (a : IsSpentWith sizes from caller w ⊎ (list_any (λ (u : ℕ). u == w) got ≡ true)). inl
      (⊎_elim (λ (b : IsSpentWith sizes from caller w). inl b)
      (λ (b : list_any (λ (u : ℕ). u == w) got ≡ true). inr (any_more (y == w) got w b)) a))
      (λ (on : IsOnPart (state sizes journal) but w). inr on) (g.old w f);
}
