-- What is a caller's own stays while only others make events: its pass, and the nodes that are fresh with it.
use Rattle.std.proofs.Common.{◌≡◌, ◌≢◌, ℕ, ◌<◌, ◌≤◌, true, List, [], ◌∷◌, ◌++◌, length, refl, sym, ap, ◌∙◌, subst}
use Rattle.std.proofs.Common.{arith}
use Rattle.packed_link.specs.Layout.{Sizes, IsLayout, key_at, link_at, second_at, third_at}
use Rattle.core_journal.specs.declared.event.Kind.{Kind}
use Rattle.core_journal.specs.declared.event.Kind.TheVariants.{PopFree, StorePrivate, LinkVertex, MarkVertex}
use Rattle.core_journal.specs.declared.event.Kind.TheVariants.{UnlinkVertex, LinkEdge, Raise, MarkEdge, UnlinkEdge}
use Rattle.core_journal.specs.declared.event.Kind.TheVariants.{Announce, Withdraw, FreezeHead, FreezeEdge, StoreFree}
use Rattle.core_journal.specs.declared.event.Kind.TheVariants.{PushFree, ReplaceEdge}
use Rattle.core_journal.specs.declared.event.Event.{Event}
use Rattle.core_journal.specs.Prefix.{IsPrefix}
use Rattle.core_journal.specs.State.{Free, Fresh, Linked, Spent, Node, State, put, handed, joined_edge, state_by, state}
use Rattle.core_journal.specs.Reuse.{pass_in}
use Rattle.core_journal.proofs.States.{state-snoc}
use Rattle.core_kept.specs.Kept.{Allowed, AllowedAs, IsKept, IsQuiet}
use Rattle.core_kept.specs.Nodes.{node_in, IsUsed, IsFreshWith}
use Rattle.core_kept.specs.Facts.{IsHeld}
use Rattle.core_kept.proofs.Induction.{kept_beyond}
use Rattle.core_kept.proofs.ByKind.{after_event, put_case, put_other, handed_case, marked_state, closed_state}
use Rattle.core_kept.proofs.FreeList.{first_is_free}
use Rattle.core_kept.proofs.ReplaceCases.{new_edge_node, replaced_case}

-- no event of another caller changes a caller's pass
pass_else : (k : Kind) (sizes : Sizes) (e : Event) (s : State) (caller : ℕ) → e.caller ≢ caller →
    (state_by k sizes e s).pass caller ≡ s.pass caller
pass_else Announce sizes e s caller other = put_other e.caller _ s.pass caller (λ h. other (sym h))
pass_else Withdraw sizes e s caller other = put_other e.caller _ s.pass caller (λ h. other (sym h))
pass_else _ sizes e s caller other = refl

-- a caller's pass stays while it's quiet
pub pass_stays : (sizes : Sizes) (caller last : ℕ) (front journal : List Event) → IsPrefix front journal
    → IsKept sizes journal → IsQuiet journal caller last → last ≤ length front
    → pass_in sizes journal caller ≡ pass_in sizes front caller
pass_stays sizes caller last front journal p kept quiet old = kept_beyond sizes
    (λ (j : List Event). pass_in sizes j caller ≡ pass_in sizes front caller) caller last
    (λ past e _ h other _. ap (λ (s : State). s.pass caller) (state-snoc sizes past e) ∙
    (pass_else e.kind sizes e (state sizes past) caller other ∙ h)) front journal p kept quiet old refl

handed_else : (s : State) (v x : ℕ) → (s.node x).mode ≡ Fresh → (handed v s).node x ≡ s.node x
handed_else s v x m = handed_case (λ (u : Node). u ≡ s.node x) s v x refl (λ l _ _. absurd (cc))

-- the kinds that are about one node
abbrev IsOfOne : Kind → Type 0
IsOfOne ReplaceEdge = ⊥
IsOfOne _ = Unit {0}

-- an event changes the node that it's about, and linked nodes of a frozen part
node_else : (k : Kind) → IsOfOne k → (sizes : Sizes) (e : Event) (s : State) (x : ℕ) → (s.node x).mode ≡ Fresh
    → x ≢ e.life.index → (state_by k sizes e s).node x ≡ s.node x
node_else PopFree o sizes e s x m ne = put_other e.life.index _ s.node x ne
node_else LinkVertex o sizes e s x m ne = put_other e.life.index _ s.node x ne
node_else MarkVertex o sizes e s x m ne = put_other e.life.index _ s.node x ne
node_else UnlinkVertex o sizes e s x m ne = put_other e.life.index _ s.node x ne
node_else LinkEdge o sizes e s x m ne = put_other e.life.index _ s.node x ne
node_else UnlinkEdge o sizes e s x m ne = put_other e.life.index _ s.node x ne
node_else StoreFree o sizes e s x m ne = put_other e.life.index _ s.node x ne
node_else PushFree o sizes e s x m ne = put_other e.life.index _ s.node x ne
node_else ReplaceEdge o sizes e s x m ne = absurd o
node_else MarkEdge o sizes e s x m ne =
    let is = put_other e.life.index (record (s.node e.life.index) { marked = true }) s.node x ne in
    handed_else (marked_state s e.life.index) (s.node e.life.index).source.index x (ap (λ (v : Node). v.mode) is ∙ m)
    ∙ is
node_else FreezeEdge o sizes e s x m ne =
    let is = put_other e.life.index (record (s.node e.life.index) { marked = true }) s.node x ne in
    handed_else (marked_state s e.life.index) (s.node e.life.index).source.index x (ap (λ (v : Node). v.mode) is ∙ m)
    ∙ is
node_else FreezeHead o sizes e s x m ne = handed_else (closed_state s e.life.index) e.life.index x m
node_else _ o sizes e s x m ne = refl

module _ (sizes : Sizes) (z : IsLayout sizes) (past : List Event) (e : Event) (kept : IsKept sizes past) (caller x : ℕ)
    (there : x < sizes.nodes) (f : IsFreshWith sizes past caller x)
    (apart : (node_in sizes past e.life.index).who ≡ e.caller → x ≢ e.life.index) where
  -- another node's mode tells it apart
  not_free : (i : ℕ) → (node_in sizes past i).mode ≡ Free → x ≢ i
  not_free i m same = let t : (node_in sizes past x).mode ≡ Free = ap (λ (y : ℕ). (node_in sizes past y).mode) same
      ∙ m in let u = f.fresh in absurd (cc)

  not_linked : (i : ℕ) → (node_in sizes past i).mode ≡ Linked → x ≢ i
  not_linked i m same = let t : (node_in sizes past x).mode ≡ Linked = ap (λ (y : ℕ). (node_in sizes past y).mode) same
      ∙ m in let u = f.fresh in absurd (cc)

  not_spent : (i : ℕ) → (node_in sizes past i).mode ≡ Spent → x ≢ i
  not_spent i m same = let t : (node_in sizes past x).mode ≡ Spent = ap (λ (y : ℕ). (node_in sizes past y).mode) same
      ∙ m in let u = f.fresh in absurd (cc)

  not_used : (i : ℕ) → IsUsed (node_in sizes past i).mode → x ≢ i
  not_used i m same = absurd (subst IsUsed (ap (λ (y : ℕ). (node_in sizes past y).mode) (sym same) ∙ f.fresh) m)

  -- an event that isn't about the node changes neither it nor any of its words
  pub nowhere_near : (k : Kind) → AllowedAs k sizes past e → (state_by k sizes e (state sizes past)).node x ≡ node_in
      sizes past x × ((key_at sizes x ≢ e.place) × (link_at sizes x ≢ e.place) × (second_at sizes x ≢ e.place) ×
      (third_at sizes x ≢ e.place))
  nowhere_near PopFree ok = (
    node_else PopFree tt sizes e (state sizes past) x f.fresh
        (not_free e.life.index (first_is_free sizes z past kept e.life.index ok.there ok.seen)),
    (
      (λ h. omega (arith, ok.place, h)),
      (λ h. omega (arith, ok.place, h)),
      (λ h. omega (arith, ok.place, h)),
      (λ h. omega (arith, ok.place, h)),
    ),
  )
  nowhere_near StorePrivate ok = let ne = apart ok.fresh.mine in (
    refl,
    (
      (λ h. ne (omega (arith, ok.place, h))),
      (λ h. ne (omega (arith, ok.place, h))),
      (λ h. ne (omega (arith, ok.place, h))),
      (λ h. ne (omega (arith, ok.place, h))),
    ),
  )
  nowhere_near LinkVertex ok = (
    node_else LinkVertex tt sizes e (state sizes past) x f.fresh (apart ok.fresh.mine),
    (
      (λ h. omega (arith, ok.place, h)),
      (λ h. not_linked x (ok.linked x (sym h)).linked refl),
      (λ h. omega (arith, ok.place, h)),
      (λ h. omega (arith, ok.place, h)),
    ),
  )
  nowhere_near MarkVertex ok = let ne = not_linked e.life.index ok.linked.linked in (
    node_else MarkVertex tt sizes e (state sizes past) x f.fresh ne,
    (
      (λ h. omega (arith, ok.place, h)),
      (λ h. ne (omega (arith, ok.place, h))),
      (λ h. omega (arith, ok.place, h)),
      (λ h. omega (arith, ok.place, h)),
    ),
  )
  nowhere_near UnlinkVertex ok = (
    node_else UnlinkVertex tt sizes e (state sizes past) x f.fresh
        (not_linked e.life.index ok.linked.linked),
    (
      (λ h. omega (arith, ok.place, h)),
      (λ h. not_linked x (ok.before_linked x (sym h)).linked refl),
      (λ h. omega (arith, ok.place, h)),
      (λ h. omega (arith, ok.place, h)),
    ),
  )
  nowhere_near LinkEdge ok = let ne = not_used e.source.index ok.source.used in (
    node_else LinkEdge tt sizes e (state sizes past) x f.fresh (apart ok.fresh.mine),
    (
      (λ h. omega (arith, ok.place, h)),
      (λ h. not_linked x (ok.linked x (sym h)).linked.linked refl),
      (λ h. ne (omega (arith, ok.place, h))),
      (λ h. omega (arith, ok.place, h)),
    ),
  )
  nowhere_near Raise ok = let ne = not_used e.life.index ok.vertex.used in (
    refl,
    (
      (λ h. omega (arith, ok.place, h)),
      (λ h. omega (arith, ok.place, h)),
      (λ h. omega (arith, ok.place, h)),
      (λ h. ne (omega (arith, ok.place, h))),
    ),
  )
  nowhere_near ReplaceEdge ok =
      let s : State = state sizes past in
      let ne = not_linked e.old.index ok.linked.linked in
      let at : (marked_state s e.old.index).node x ≡ s.node x = put_other e.old.index
      (record (s.node e.old.index) { marked = true }) s.node x ne in (
        replaced_case sizes z past e kept ok (λ (u : Node). u ≡ node_in sizes past x) x
            (λ same. absurd (apart ok.fresh.mine same)) (λ _. at)
            (λ _ l _ _. let m : Linked ≡ Fresh = sym l ∙ (ap (λ (u : Node). u.mode) at ∙ f.fresh) in absurd (cc)),
        (
          (λ h. omega (arith, ok.place, h)),
          (λ h. ne (omega (arith, ok.place, h))),
          (λ h. omega (arith, ok.place, h)),
          (λ h. omega (arith, ok.place, h)),
        ),
      )
  nowhere_near MarkEdge ok = let ne = not_linked e.life.index ok.linked.linked in (
    node_else MarkEdge tt sizes e (state sizes past) x f.fresh ne,
    (
      (λ h. omega (arith, ok.place, h)),
      (λ h. ne (omega (arith, ok.place, h))),
      (λ h. omega (arith, ok.place, h)),
      (λ h. omega (arith, ok.place, h)),
    ),
  )
  nowhere_near UnlinkEdge ok = let ne = not_used (node_in sizes past e.life.index).source.index ok.source.used in (
    node_else UnlinkEdge tt sizes e (state sizes past) x f.fresh (not_linked e.life.index ok.linked.linked),
    (
      (λ h. omega (arith, ok.place, h)),
      (λ h. not_linked x (ok.before_linked x (sym h)).linked.linked refl),
      (λ h. ne (omega (arith, ok.place, h))),
      (λ h. omega (arith, ok.place, h)),
    ),
  )
  nowhere_near FreezeHead ok = let ne = not_spent e.life.index ok.spent.spent in (
    node_else FreezeHead tt sizes e (state sizes past) x f.fresh ne,
    (
      (λ h. omega (arith, ok.place, h)),
      (λ h. omega (arith, ok.place, h)),
      (λ h. ne (omega (arith, ok.place, h))),
      (λ h. omega (arith, ok.place, h)),
    ),
  )
  nowhere_near FreezeEdge ok = let ne = not_linked e.life.index ok.linked.linked in (
    node_else FreezeEdge tt sizes e (state sizes past) x f.fresh ne,
    (
      (λ h. omega (arith, ok.place, h)),
      (λ h. ne (omega (arith, ok.place, h))),
      (λ h. omega (arith, ok.place, h)),
      (λ h. omega (arith, ok.place, h)),
    ),
  )
  nowhere_near StoreFree ok = let ne = not_spent e.life.index ok.ripe.stamped.spent.spent in (
    node_else StoreFree tt sizes e (state sizes past) x f.fresh ne,
    (
      (λ h. omega (arith, ok.place, h)),
      (λ h. ne (omega (arith, ok.place, h))),
      (λ h. omega (arith, ok.place, h)),
      (λ h. omega (arith, ok.place, h)),
    ),
  )
  nowhere_near PushFree ok = let ne = not_spent e.life.index ok.ripe.stamped.spent.spent in (
    node_else PushFree tt sizes e (state sizes past) x f.fresh ne,
    (
      (λ h. omega (arith, ok.place, h)),
      (λ h. omega (arith, ok.place, h)),
      (λ h. omega (arith, ok.place, h)),
      (λ h. omega (arith, ok.place, h)),
    ),
  )
  nowhere_near _ ok = (
    refl,
    (
      (λ h. omega (arith, ok.place, ok.there, h)),
      (λ h. omega (arith, ok.place, ok.there, h)),
      (λ h. omega (arith, ok.place, ok.there, h)),
      (λ h. omega (arith, ok.place, ok.there, h)),
    ),
  )

-- a node that is fresh with a caller stays so, and so do all of its words
pub fresh_stays : (sizes : Sizes) → IsLayout sizes → (caller last x : ℕ) → x < sizes.nodes →
    (front journal : List Event) → IsPrefix front journal → IsKept sizes journal → IsQuiet journal caller last
    → last ≤ length front → IsFreshWith sizes front caller x → IsHeld sizes front journal x
fresh_stays sizes z caller last x there front journal p kept quiet old f = kept_beyond sizes
    (λ (j : List Event). IsHeld sizes front j x) caller last step front journal p kept quiet old record
    { node = refl; key = refl; link = refl; second = refl; third = refl }
  where
    step : (past : List Event) (e : Event) → IsKept sizes past → IsHeld sizes front past x → e.caller ≢ caller
        → Allowed sizes past e → IsHeld sizes front (past ++ e ∷ []) x
    step past e kept c other ok =
        let now : IsFreshWith sizes past caller x = record {
          fresh = ap (λ (v : Node). v.mode) c.node
              ∙ f.fresh;
          mine = ap (λ (v : Node). v.who) c.node ∙ f.mine;
        } in
        let t = nowhere_near sizes z past e kept caller x there now
        (λ m same. other (sym m ∙ (ap (λ (y : ℕ). (node_in sizes past y).who) (sym same) ∙ now.mine))) e.kind
        ok.as_kind in
        let a = after_event sizes past e in
        record {
          node = ap (λ (s : State). s.node x) (state-snoc sizes past e) ∙ (t.0 ∙ c.node);
          key = a.else (key_at sizes x) t.1.0 ∙ c.key;
          link = a.else (link_at sizes x) t.1.1 ∙ c.link;
          second = a.else (second_at sizes x) t.1.2 ∙ c.second;
          third = a.else (third_at sizes x) t.1.3 ∙ c.third;
        }

mark_was : (s : State) (i caller x : ℕ) → (put i (record (s.node i) { marked = true }) s.node x).mode ≡ Fresh →
    (put i (record (s.node i) { marked = true }) s.node x).who ≡ caller → ((s.node x).mode ≡ Fresh) ×
    ((s.node x).who ≡ caller)
mark_was s i caller x = put_case (λ (v : Node). v.mode ≡ Fresh → v.who ≡ caller → ((s.node x).mode ≡ Fresh) ×
    ((s.node x).who ≡ caller)) i (record (s.node i) { marked = true }) s.node x
    (λ same m w. (ap (λ (y : ℕ). (s.node y).mode) same ∙ m, ap (λ (y : ℕ). (s.node y).who) same ∙ w)) (λ _ m w. (m, w))

-- a node that is fresh with a caller after an event by which it takes none was so before it
pub fresh_was : (k : Kind) (sizes : Sizes) (e : Event) (s : State) (caller x : ℕ) → (k ≡ PopFree → e.caller ≢ caller) →
    ((state_by k sizes e s).node x).mode ≡ Fresh → ((state_by k sizes e s).node x).who ≡ caller →
    ((s.node x).mode ≡ Fresh) × ((s.node x).who ≡ caller)
fresh_was PopFree sizes e s caller x other = put_case (λ (v : Node). v.mode ≡ Fresh → v.who ≡ caller →
    ((s.node x).mode ≡ Fresh) × ((s.node x).who ≡ caller)) e.life.index _ s.node x (λ _ _ w. absurd (other refl w))
    (λ _ m w. (m, w))
fresh_was LinkVertex sizes e s caller x other = put_case (λ (v : Node). v.mode ≡ Fresh → v.who ≡ caller →
    ((s.node x).mode ≡ Fresh) × ((s.node x).who ≡ caller)) e.life.index _ s.node x (λ _ m w. absurd (cc))
    (λ _ m w. (m, w))
fresh_was UnlinkVertex sizes e s caller x other = put_case (λ (v : Node). v.mode ≡ Fresh → v.who ≡ caller →
    ((s.node x).mode ≡ Fresh) × ((s.node x).who ≡ caller)) e.life.index _ s.node x (λ _ m w. absurd (cc))
    (λ _ m w. (m, w))
fresh_was LinkEdge sizes e s caller x other = put_case (λ (v : Node). v.mode ≡ Fresh → v.who ≡ caller →
    ((s.node x).mode ≡ Fresh) × ((s.node x).who ≡ caller)) e.life.index _ s.node x (λ _ m w. absurd (cc))
    (λ _ m w. (m, w))
fresh_was UnlinkEdge sizes e s caller x other = put_case (λ (v : Node). v.mode ≡ Fresh → v.who ≡ caller →
    ((s.node x).mode ≡ Fresh) × ((s.node x).who ≡ caller)) e.life.index _ s.node x (λ _ m w. absurd (cc))
    (λ _ m w. (m, w))
fresh_was PushFree sizes e s caller x other = put_case (λ (v : Node). v.mode ≡ Fresh → v.who ≡ caller →
    ((s.node x).mode ≡ Fresh) × ((s.node x).who ≡ caller)) e.life.index _ s.node x (λ _ m w. absurd (cc))
    (λ _ m w. (m, w))
fresh_was MarkVertex sizes e s caller x other = mark_was s e.life.index caller x
fresh_was StoreFree sizes e s caller x other = put_case (λ (v : Node). v.mode ≡ Fresh → v.who ≡ caller →
    ((s.node x).mode ≡ Fresh) × ((s.node x).who ≡ caller)) e.life.index _ s.node x
    (λ same m w. (ap (λ (y : ℕ). (s.node y).mode) same ∙ m, ap (λ (y : ℕ). (s.node y).who) same ∙ w)) (λ _ m w. (m, w))
fresh_was ReplaceEdge sizes e s caller x other =
    let j : State = joined_edge sizes e s in
    handed_case (λ (v : Node). v.mode ≡ Fresh → v.who ≡ caller → ((s.node x).mode ≡ Fresh) × ((s.node x).who ≡ caller))
    (marked_state j e.old.index) (j.node e.old.index).source.index x
    (λ m w.
    let q = mark_was j e.old.index caller x m w in
    put_case (λ (v : Node). v.mode ≡ Fresh → v.who ≡ caller → ((s.node x).mode ≡ Fresh) × ((s.node x).who ≡ caller))
    e.life.index (new_edge_node (s.node e.life.index) e s.count) s.node x (λ _ m w. absurd (cc))
    (λ _ m w. (m, w)) q.0 q.1)
    (λ _ _ _ m w. absurd (cc))
fresh_was MarkEdge sizes e s caller x other = handed_case (λ (v : Node). v.mode ≡ Fresh → v.who ≡ caller →
    ((s.node x).mode ≡ Fresh) × ((s.node x).who ≡ caller)) (marked_state s e.life.index)
    (s.node e.life.index).source.index x (mark_was s e.life.index caller x) (λ _ _ _ m w. absurd (cc))
fresh_was FreezeEdge sizes e s caller x other = handed_case (λ (v : Node). v.mode ≡ Fresh → v.who ≡ caller →
    ((s.node x).mode ≡ Fresh) × ((s.node x).who ≡ caller)) (marked_state s e.life.index)
    (s.node e.life.index).source.index x (mark_was s e.life.index caller x) (λ _ _ _ m w. absurd (cc))
fresh_was FreezeHead sizes e s caller x other = handed_case (λ (v : Node). v.mode ≡ Fresh → v.who ≡ caller →
    ((s.node x).mode ≡ Fresh) × ((s.node x).who ≡ caller)) (closed_state s e.life.index) e.life.index x (λ m w. (m, w))
    (λ _ _ _ m w. absurd (cc))
fresh_was _ sizes e s caller x other = λ m w. (m, w)

-- a caller that holds no fresh node holds none while it's quiet
pub none_fresh_stays : (sizes : Sizes) (caller last : ℕ) (front journal : List Event) → IsPrefix front journal
    → IsKept sizes journal → IsQuiet journal caller last → last ≤ length front
    → ((x : ℕ) → x < sizes.nodes → IsFreshWith sizes front caller x → ⊥) → (x : ℕ) → x < sizes.nodes
    → IsFreshWith sizes journal caller x → ⊥
none_fresh_stays sizes caller last front journal p kept quiet old none = kept_beyond sizes
    (λ (j : List Event). (x : ℕ) → x < sizes.nodes → IsFreshWith sizes j caller x → ⊥) caller last
    (λ past e _ h other _ x t f.
    let is = ap (λ (s : State). s.node x) (state-snoc sizes past e) in
    let was = fresh_was e.kind sizes e (state sizes past) caller x (λ _. other)
    (sym (ap (λ (v : Node). v.mode) is) ∙ f.fresh) (sym (ap (λ (v : Node). v.who) is) ∙ f.mine) in
    h x t (record { fresh = was.0; mine = was.1 })) front journal p kept quiet old none
