-- A token's fresh and spent nodes keep their words behind its events of other kinds, and a fresh node all words but the
-- one
-- that is stored.
use Rattle.std.proofs.Common.{◌≡◌, ◌≢◌, ℕ, ◌<◌, false, List, [], ◌∷◌, ◌++◌, Option, Some, refl, sym, ap, ◌∙◌, subst}
use Rattle.std.proofs.Common.{arith}
use mathlib.Core.Logic.{dite}
use native.Mathlib.Decide.{ℕ_discrete}
use Rattle.packed_link.specs.Layout.{Sizes, IsLayout, key_at, link_at, second_at, third_at}
use Rattle.packed_link.specs.declared.link.Life.{Life}
use Rattle.core_journal.specs.declared.event.Kind.{Kind}
use Rattle.core_journal.specs.declared.event.Kind.TheVariants.{PopFree, StorePrivate, LinkVertex, MarkVertex}
use Rattle.core_journal.specs.declared.event.Kind.TheVariants.{UnlinkVertex, LinkEdge, MarkEdge, UnlinkEdge, Raise}
use Rattle.core_journal.specs.declared.event.Kind.TheVariants.{FreezeHead, FreezeEdge, StoreFree, PushFree, ReplaceEdge}
use Rattle.core_journal.specs.declared.event.Event.{Event}
use Rattle.core_journal.specs.Machine.{word_at}
use Rattle.core_journal.specs.State.{Mode, Free, Fresh, Linked, Spent, Node, State}
use Rattle.core_kept.specs.Facts.{IsHeld, IsKeptSpent}
use Rattle.core_kept.specs.Kept.{AllowedAs, IsKept}
use Rattle.core_kept.specs.Nodes.{node_in, IsUsed, IsFreshWith, IsSpentWith}
use Rattle.core_kept.proofs.ByKind.{after_event}
use Rattle.core_kept.proofs.FreeList.{first_is_free}
use Rattle.core_kept.proofs.Induction.{past_kept, last_allowed}
use Rattle.core_kept.proofs.OwnFacts.{fresh_stays}
use Rattle.core_kept.proofs.OwnSpent.{spent_stays}
use Rattle.core_lists.proofs.EventKeepsRest.{after_as, fresh_kept, node_filled, spent_kept, written}
use Rattle.core_rule.specs.Stretches.{IsHeldBut, is_of_fresh, is_of_spent}
use Rattle.core_rule.specs.Views.{Spares, Steps}
use Rattle.core_rule.specs.declared.view.View.{View}
use Rattle.core_rule.proofs.ViewShows.{through}

-- an event of a kind that isn't about a fresh node is about another one
module _ (sizes : Sizes) (z : IsLayout sizes) (past : List Event) (e : Event) (kept : IsKept sizes past) (x : ℕ)
    (there : x < sizes.nodes) where
  not_mode : (m : Mode) → m ≢ Fresh → (node_in sizes past x).mode ≡ Fresh → (node_in sizes past e.life.index).mode ≡ m
      → x ≢ e.life.index
  not_mode m ne f is same = ne (sym is ∙ (ap (λ (i : ℕ). (node_in sizes past i).mode) (sym same) ∙ f))

  not_used : (node_in sizes past x).mode ≡ Fresh → IsUsed (node_in sizes past e.life.index).mode → x ≢ e.life.index
  not_used f used same = subst IsUsed (ap (λ (i : ℕ). (node_in sizes past i).mode) (sym same) ∙ f) used

  fresh_apart : (k : Kind) → is_of_fresh k ≡ false → AllowedAs k sizes past e → (node_in sizes past x).mode ≡ Fresh
      → x ≢ e.life.index
  fresh_apart StorePrivate h ok f = absurd (cc)
  fresh_apart LinkVertex h ok f = absurd (cc)
  fresh_apart LinkEdge h ok f = absurd (cc)
  fresh_apart ReplaceEdge h ok f = absurd (cc)
  fresh_apart PopFree h ok f = not_mode Free (λ d. absurd (cc)) f
      (first_is_free sizes z past kept e.life.index ok.there ok.seen)
  fresh_apart MarkVertex h ok f = not_mode Linked (λ d. absurd (cc)) f ok.linked.linked
  fresh_apart UnlinkVertex h ok f = not_mode Linked (λ d. absurd (cc)) f ok.linked.linked
  fresh_apart MarkEdge h ok f = not_mode Linked (λ d. absurd (cc)) f ok.linked.linked
  fresh_apart UnlinkEdge h ok f = not_mode Linked (λ d. absurd (cc)) f ok.linked.linked
  fresh_apart FreezeEdge h ok f = not_mode Linked (λ d. absurd (cc)) f ok.linked.linked
  fresh_apart Raise h ok f = not_used f ok.vertex.used
  fresh_apart FreezeHead h ok f = not_mode Spent (λ d. absurd (cc)) f ok.spent.spent
  fresh_apart StoreFree h ok f = not_mode Spent (λ d. absurd (cc)) f ok.ripe.stamped.spent.spent
  fresh_apart PushFree h ok f = not_mode Spent (λ d. absurd (cc)) f ok.ripe.stamped.spent.spent
  fresh_apart _ h ok f = λ same. let n : e.life.index ≡ 16777215 = ap (λ (l : Life). l.index) ok.life in absurd
      (omega (arith, n, same, there, z.few_nodes))

-- an event of a kind that changes nothing of a spent node leaves its state, its key and its link
module _ (sizes : Sizes) (z : IsLayout sizes) (past : List Event) (e : Event) (kept : IsKept sizes (past ++ e ∷ []))
    (caller x : ℕ) (there : x < sizes.nodes) (f : IsSpentWith sizes past caller x) where
  abbrev IsSame : Type 0
  IsSame = IsKeptSpent sizes past (past ++ e ∷ []) x

  -- the event is about this node
  spent_same : x ≡ e.life.index → (k : Kind) → e.kind ≡ k → is_of_spent k ≡ false → AllowedAs k sizes past e → IsSame
  spent_same same k is h ok = by k is h ok
    where
      here : (node_in sizes past e.life.index).mode ≡ Spent
      here = ap (λ (i : ℕ). (node_in sizes past i).mode) (sym same) ∙ f.spent

      by : (k : Kind) → e.kind ≡ k → is_of_spent k ≡ false → AllowedAs k sizes past e → IsSame
      by FreezeHead is h ok = absurd (cc)
      by StoreFree is h ok = absurd (cc)
      by PushFree is h ok = absurd (cc)
      by StorePrivate is h ok = let m = ok.fresh.fresh in let n = here in absurd (cc)
      by LinkVertex is h ok = let m = ok.fresh.fresh in let n = here in absurd (cc)
      by LinkEdge is h ok = let m = ok.fresh.fresh in let n = here in absurd (cc)
      by ReplaceEdge is h ok = let m = ok.fresh.fresh in let n = here in absurd (cc)
      by PopFree is h ok = let m = first_is_free sizes z past
          (past_kept sizes past e kept) e.life.index ok.there ok.seen in let n = here in absurd (cc)
      by MarkVertex is h ok = let m = ok.linked.linked in let n = here in absurd (cc)
      by UnlinkVertex is h ok = let m = ok.linked.linked in let n = here in absurd (cc)
      by MarkEdge is h ok = let m = ok.linked.linked in let n = here in absurd (cc)
      by UnlinkEdge is h ok = let m = ok.linked.linked in let n = here in absurd (cc)
      by FreezeEdge is h ok = let m = ok.linked.linked in let n = here in absurd (cc)
      by Raise is h ok =
          let a = after_event sizes past e in
          let s = after_as sizes past e kept Raise is in
          record {
            node = ap (λ (t : State). t.node x) s;
            key = a.else (key_at sizes x) (λ p. omega (arith, p, ok.place));
            link = a.else (link_at sizes x) (λ p. omega (arith, p, ok.place));
            closed = ap (λ (t : State). t.frozen x) s;
          }
      by _ is h ok = let n : e.life.index ≡ 16777215 = ap (λ (l : Life). l.index) ok.life in absurd
          (omega (arith, n, same, there, z.few_nodes))

  spent_by_kind : is_of_spent e.kind ≡ false → IsSame
  spent_by_kind h = dite (ℕ_discrete x e.life.index)
      (λ same. spent_same same e.kind refl h (last_allowed sizes past e kept).as_kind)
      (λ ne. spent_kept sizes past e kept z caller x there ne f)

module _ (v w : View) (own : Option Event) (z : IsLayout v.sizes) (t : Steps v own w) where
  -- a fresh node is so behind own events of kinds that aren't about fresh nodes
  pub own_fresh_by_kind : (x : ℕ) → x < v.sizes.nodes → Spares (λ (e : Event). is_of_fresh e.kind ≡ false) own
      → IsFreshWith v.sizes v.front v.number x → IsFreshWith w.sizes w.front w.number x
      × IsHeld v.sizes v.front w.front x
  own_fresh_by_kind x there spares f =
      let h = fresh_stays v.sizes z v.number v.last x there v.front t.grown t.reaches.front t.reaches.kept
      t.reaches.quiet t.reaches.old f in
      let r : IsHeld v.sizes v.front w.front x = through v w own t (λ (j : List Event). IsHeld v.sizes v.front j x)
      (λ (e : Event). is_of_fresh e.kind ≡ false) spares h
      (λ e other kept h.
      let now : IsFreshWith v.sizes t.grown v.number x = record
      { fresh = ap (λ (n : Node). n.mode) h.node ∙ f.fresh; mine = ap (λ (n : Node). n.who) h.node ∙ f.mine } in
      let ne = fresh_apart v.sizes z t.grown e (past_kept v.sizes t.grown e kept) x there e.kind other
      (last_allowed v.sizes t.grown e kept).as_kind now.fresh in
      let k = fresh_kept v.sizes t.grown e kept z v.number x there ne now in
      record {
        node = k.node ∙ h.node;
        key = k.key ∙ h.key;
        link = k.link ∙ h.link;
        second = k.second
            ∙ h.second;
        third = k.third ∙ h.third;
      }) in (
        subst (λ (u : View). IsFreshWith u.sizes u.front u.number x)
            (sym t.view) record {
              fresh = ap (λ (n : Node). n.mode) r.node ∙ f.fresh;
              mine = ap
                  (λ (n : Node). n.who) r.node ∙ f.mine;
            },
        r,
      )

  -- so is a spent node behind own events that neither close its list nor give it back
  pub own_spent_by_kind : (x : ℕ) → x < v.sizes.nodes → Spares (λ (e : Event). is_of_spent e.kind ≡ false) own
      → IsSpentWith v.sizes v.front v.number x → IsSpentWith w.sizes w.front w.number x
      × IsKeptSpent v.sizes v.front w.front x
  own_spent_by_kind x there spares f =
      let h = spent_stays v.sizes z v.number v.last x there v.front t.grown t.reaches.front t.reaches.kept
      t.reaches.quiet t.reaches.old f in
      let r : IsKeptSpent v.sizes v.front w.front x = through v w own t
      (λ (j : List Event). IsKeptSpent v.sizes v.front j x) (λ (e : Event). is_of_spent e.kind ≡ false) spares h
      (λ e other kept h.
      let now : IsSpentWith v.sizes t.grown v.number x = record
      { spent = ap (λ (n : Node). n.mode) h.node ∙ f.spent; mine = ap (λ (n : Node). n.who) h.node ∙ f.mine } in
      let k = spent_by_kind v.sizes z t.grown e kept v.number x there now other in
      record { node = k.node ∙ h.node; key = k.key ∙ h.key; link = k.link ∙ h.link; closed = k.closed ∙ h.closed }) in (
        subst (λ (u : View). IsSpentWith u.sizes u.front u.number x)
            (sym t.view) record {
              spent = ap (λ (n : Node). n.mode) r.node ∙ f.spent;
              mine = ap
                  (λ (n : Node). n.who) r.node ∙ f.mine;
            },
        r,
      )

-- a word is stored to a fresh node: it's fresh still, and its other words are what they were
pub own_stored : (v w : View) (e : Event) → IsLayout v.sizes → Steps v (Some e) w → e.kind ≡ StorePrivate → (x : ℕ)
    → x < v.sizes.nodes → IsFreshWith v.sizes v.front v.number x
    → IsFreshWith w.sizes w.front w.number x × (word_at w.sizes w.front e.place ≡ e.word)
    × IsHeldBut v.sizes v.front w.front x e.place
own_stored v w e z t is x there f =
    let kept : IsKept v.sizes (t.grown ++ e ∷ []) = subst (IsKept v.sizes) t.front t.kept in
    let h = fresh_stays v.sizes z v.number v.last x there v.front t.grown t.reaches.front t.reaches.kept t.reaches.quiet
    t.reaches.old f in
    let a = after_event v.sizes t.grown e in
    let node : node_in v.sizes (t.grown ++ e ∷ []) x ≡ node_in v.sizes v.front x = node_filled v.sizes t.grown e kept is
    x ∙ h.node in
    let r : IsHeldBut v.sizes v.front (t.grown ++ e ∷ []) x e.place = record {
      node = node;
      key = λ ne. a.else (key_at v.sizes x) ne ∙ h.key;
      link = λ ne. a.else (link_at v.sizes x) ne ∙ h.link;
      second = λ ne. a.else (second_at v.sizes x) ne ∙ h.second;
      third = λ ne. a.else (third_at v.sizes x) ne ∙ h.third;
    } in
    let held : IsHeldBut v.sizes v.front w.front x e.place = subst
    (λ (j : List Event). IsHeldBut v.sizes v.front j x e.place) (sym t.front) r in (
      subst (λ (u : View). IsFreshWith u.sizes u.front u.number x)
          (sym t.view) record {
            fresh = ap (λ (n : Node). n.mode) held.node ∙ f.fresh;
            mine = ap
                (λ (n : Node). n.who) held.node ∙ f.mine;
          },
      subst (λ (u : View). word_at u.sizes u.front e.place ≡ e.word) (sym t.view)
          (ap (λ (j : List Event). word_at v.sizes j e.place) t.front ∙ written v.sizes t.grown e kept),
      held,
    )
