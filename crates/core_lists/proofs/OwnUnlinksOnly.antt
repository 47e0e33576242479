-- Where only uncounted events and own unlinks fell between, all is as it was, less what was unlinked.
use Rattle.std.proofs.Common.{◌≡◌, ◌≢◌, ◌⊎◌, ℕ, ◌+◌, ◌%◌, ◌<◌, ◌==◌, ◌&&◌, ◌||◌, not, suc, Bool, true, false, List, []}
use Rattle.std.proofs.Common.{◌∷◌, ◌++◌, Some, inl, inr, refl, sym, ap, ◌∙◌, subst, arith, append_assoc, append-nil}
use Rattle.std.proofs.Common.{true≢false, ⊎_elim, eq-eqb, eqb-true}
use Rattle.std.specs.Prelude.{slice_get}
use Rattle.std.specs.List.{list_any}
use Rattle.packed_link.specs.Layout.{Sizes, IsLayout, bucket_at, free_at, link_at, second_at}
use Rattle.packed_link.specs.Link.{mark_of}
use Rattle.core_journal.specs.declared.event.Kind.{Kind}
use Rattle.core_journal.specs.declared.event.Kind.TheVariants.{UnlinkVertex, UnlinkEdge}
use Rattle.core_journal.specs.declared.event.Event.{Event}
use Rattle.core_journal.specs.Event.{counted, unlinks}
use Rattle.core_journal.specs.GraphOf.{graph_of}
use Rattle.core_journal.specs.Machine.{word_at}
use Rattle.core_journal.specs.State.{Linked, Spent, Node, State, is_linked, state_by, state}
use Rattle.core_journal.proofs.Snoc.{any_skip, any_last}
use Rattle.core_journal.proofs.States.{state-snoc}
use Rattle.core_kept.specs.Kept.{Allowed, AllowedAs, IsKept}
use Rattle.core_kept.specs.Nodes.{IsFrozenToEnd, IsUsed, is_listed, is_of_bucket, node_in}
use Rattle.core_kept.proofs.ByKind.{put_same, put_other, after_event}
use Rattle.core_kept.proofs.Induction.{kept_front, past_kept, last_allowed}
use Rattle.core_kept.proofs.LinkWords.{mark_is, used_link}
use Rattle.core_kept.proofs.MetFromHead.{leaves_unlinked}
use Rattle.core_kept.proofs.NodesInPlace.{on_lists}
use Rattle.core_lists.specs.Chains.{HasList}
use Rattle.core_lists.specs.Effects.{EffectAs}
use Rattle.core_lists.specs.Uncounted.{AreUncountedOrUnlinks, IsOwnSpent, StaysButUnlinked, unlinked_by}
use Rattle.core_lists.proofs.EffectOfKinds.{effect}
use Rattle.core_lists.proofs.UncountedEvents.{IsLeftBy, left_by, free_left, none_changed}

-- whether an event unlinks a node
abbrev takes_off : ℕ → Event → Bool
takes_off x e = unlinks e.kind && (e.life.index == x)

failed : (b : Bool) → (b ≡ true → ⊥) → b ≡ false
failed false h = refl
failed true h = absurd (h refl)

and_true : (b : Bool) → (b && true) ≡ b
and_true true = refl
and_true false = refl

-- what an own unlink leaves of the state: its node is spent, and is off the lists
record IsUnlinkBy (caller i : ℕ) (s s' : State) : Type 0 where
  pub linked : (s.node i).mode ≡ Linked
  pub marked : (s.node i).marked ≡ true
  pub ended : ℕ
  pub epoch : ℕ
  pub here : s'.node i ≡ record (s.node i) { mode = Spent; who = caller; ended = ended; epoch = epoch }
  pub else : (x : ℕ) → x ≢ i → s'.node x ≡ s.node x
  pub free : s'.free ≡ s.free
  pub off : (x : ℕ) → is_listed s' x i ≡ false
  pub lists : (x y : ℕ) → y ≢ i → is_listed s' x y ≡ is_listed s x y
  pub frozen : (x : ℕ) → s'.frozen x ≡ s.frozen x

module _ (sizes : Sizes) (z : IsLayout sizes) (past : List Event) (e : Event) (kept : IsKept sizes past) where
  -- a linked node whose link is marked is marked
  dead_marked : e.life.index < sizes.nodes → (node_in sizes past e.life.index).mode ≡ Linked → mark_of
      (word_at sizes past (link_at sizes e.life.index)) ≡ 1 → (node_in sizes past e.life.index).marked ≡ true
  dead_marked there linked dead = mark_is (node_in sizes past e.life.index).marked
      (sym (used_link sizes z past kept e.life.index there (subst IsUsed (sym linked) tt)).1 ∙ dead)

  -- a vertex stands on no list of edges
  vertex_off : (x y : ℕ) → (node_in sizes past y).vertex ≡ true → is_listed (state sizes past) x y ≡ false
  vertex_off x y is = failed (is_listed (state sizes past) x y)
      (λ on. true≢false (sym is ∙ ((on_lists sizes past kept).each x y on).1))

  unlink_by : (k : Kind) → unlinks k ≡ true → AllowedAs k sizes past e → IsUnlinkBy e.caller e.life.index
      (state sizes past) (state_by k sizes e (state sizes past))
  unlink_by UnlinkVertex u ok = record {
    linked = ok.linked.linked;
    marked = dead_marked ok.there ok.linked.linked ok.dead;
    ended = (state sizes past).count + 1;
    epoch = (state sizes past).epoch;
    here = put_same e.life.index _ (state sizes past).node;
    else = λ x ne. put_other e.life.index _ (state sizes past).node x ne;
    free = refl;
    off = λ x. vertex_off x e.life.index ok.linked.vertex;
    lists = λ x y ne. refl;
    frozen = λ x. refl;
  }
  unlink_by UnlinkEdge u ok = record {
    linked = ok.linked.linked;
    marked = dead_marked ok.there ok.linked.linked ok.dead;
    ended = (state sizes past).count + 1;
    epoch = (state sizes past).epoch;
    here = put_same e.life.index _ (state sizes past).node;
    else = λ x ne. put_other e.life.index _ (state sizes past).node x ne;
    free = refl;
    off = λ x. failed (is_listed (state_by UnlinkEdge sizes e (state sizes past)) x e.life.index)
        (λ on. (leaves_unlinked e.life.index ((state sizes past).edges x)).departs on);
    lists = λ x y ne. (leaves_unlinked e.life.index ((state sizes past).edges x)).others y ne;
    frozen = λ x. refl;
  }
  unlink_by _ u ok = absurd (cc)

  -- the word of the free list is another
  unlink_free : (k : Kind) → unlinks k ≡ true → AllowedAs k sizes past e → free_at sizes ≢ e.place
  unlink_free UnlinkVertex u ok h = ⊎_elim (λ (b : (e.place ≡ bucket_at sizes ok.bucket) × (ok.bucket < sizes.buckets)).
      omega (arith, b.0, h)) (λ (b : (e.place ≡ link_at sizes ok.before) × (ok.before < sizes.nodes)). omega
      (arith, b.0, h)) ok.place
  unlink_free UnlinkEdge u ok h = ⊎_elim (λ (b : (e.place ≡ second_at sizes
      (node_in sizes past e.life.index).source.index) × ((node_in sizes past e.life.index).source.index < sizes.nodes)).
      omega (arith, b.0, h)) (λ (b : (e.place ≡ link_at sizes ok.before) × (ok.before < sizes.nodes)). omega
      (arith, b.0, h)) ok.place
  unlink_free _ u ok h = absurd (cc)

  unlink_graph : (k : Kind) → unlinks k ≡ true → EffectAs k sizes past e → graph_of (past ++ e ∷ []) ≡ graph_of past
  unlink_graph UnlinkVertex u f = f.graph
  unlink_graph UnlinkEdge u f = f.graph
  unlink_graph _ u f = absurd (cc)

-- the same over a front and a later state, but that membership on chains follows from the nodes
record Stays (sizes : Sizes) (front journal : List Event) (caller : ℕ) (gone : ℕ → Bool) : Type 0 where
  pub node : (x : ℕ) → gone x ≡ false → node_in sizes journal x ≡ record
      (node_in sizes front x) { stored = (node_in sizes journal x).stored }
  pub linked : (x : ℕ) → gone x ≡ false → (node_in sizes front x).mode ≡ Linked
      → node_in sizes journal x ≡ node_in sizes front x
  pub unlinked : (x : ℕ) → gone x ≡ true → IsOwnSpent caller (node_in sizes front x) (node_in sizes journal x)
  pub free : (state sizes journal).free ≡ (state sizes front).free
  pub free_word : word_at sizes journal (free_at sizes) ≡ word_at sizes front (free_at sizes)
  pub on : (x y : ℕ) → gone y ≡ false → is_listed (state sizes journal) x y ≡ is_listed (state sizes front) x y
  pub off : (x y : ℕ) → gone y ≡ true → is_listed (state sizes journal) x y ≡ false
  pub frozen : (x : ℕ) → (state sizes journal).frozen x ≡ (state sizes front).frozen x
  pub graph : graph_of journal ≡ graph_of front

module _ (sizes : Sizes) (z : IsLayout sizes) (front past : List Event) (e : Event) (kept : IsKept sizes past)
    (ok : Allowed sizes past e) (caller : ℕ) (gone : ℕ → Bool) (h : Stays sizes front past caller gone) where
  -- behind an uncounted event
  stays_uncounted : counted e.kind ≡ false → Stays sizes front (past ++ e ∷ []) caller gone
  stays_uncounted c =
      let s : State = state sizes past in
      let s' : State = state sizes (past ++ e ∷ []) in
      let l : IsLeftBy s s' = subst (IsLeftBy s) (sym (state-snoc sizes past e))
      (left_by sizes past e e.kind c ok.as_kind) in
      record {
        node = λ x g. l.node x ∙ ap (λ (v : Node). record v { stored = (s'.node x).stored }) (h.node x g);
        linked = λ x g m. l.linked x (ap (λ (v : Node). v.mode) (h.linked x g m) ∙ m) ∙ h.linked x g m;
        unlinked = λ x g. let u = h.unlinked x g in record {
          linked = u.linked;
          marked = u.marked;
          ended = u.ended;
          epoch = u.epoch;
          now = l.node x ∙ ap (λ (v : Node). record v { stored = (s'.node x).stored }) u.now;
        };
        free = l.free ∙ h.free;
        free_word = (after_event sizes past e).else (free_at sizes) (free_left sizes past e e.kind c ok.as_kind)
            ∙ h.free_word;
        on = λ x y g. ap (λ (ys : List ℕ). list_any (λ w. w == y) ys) (l.edges x) ∙ h.on x y g;
        off = λ x y g. ap (λ (ys : List ℕ). list_any (λ w. w == y) ys) (l.edges x) ∙ h.off x y g;
        frozen = λ x. l.frozen x ∙ h.frozen x;
        graph = (none_changed sizes past e e.kind c (effect sizes z past e kept e.kind refl ok.as_kind)).graph
            ∙ h.graph;
      }

  -- behind an own unlink
  module _ (u : unlinks e.kind ≡ true) (mine : e.caller ≡ caller) (now : ℕ → Bool)
      (new : (x : ℕ) → now x ≡ (gone x || (e.life.index == x))) where
    abbrev i : ℕ
    i = e.life.index

    abbrev s : State
    s = state sizes past

    abbrev s' : State
    s' = state sizes (past ++ e ∷ [])

    by : IsUnlinkBy caller i s s'
    by = subst (λ (c : ℕ). IsUnlinkBy c i s s') mine (subst (IsUnlinkBy e.caller i s) (sym (state-snoc sizes past e))
        (unlink_by sizes z past e kept e.kind u ok.as_kind))

    -- the node wasn't unlinked before
    was_on : gone i ≡ false
    was_on = failed (gone i) (λ g. let m : (s.node i).mode ≡ Spent = ap (λ (v : Node). v.mode)
        (h.unlinked i g).now in let bad = sym m ∙ by.linked in absurd (cc))

    still : (x : ℕ) → now x ≡ false → (gone x ≡ false) × (x ≢ i)
    still x g = (
      no_left (gone x) (i == x) (sym (new x) ∙ g),
      λ same. true≢false
          (sym (eq-eqb i x (sym same)) ∙ no_right (gone x) (i == x) (sym (new x) ∙ g)),
    )
      where
        no_left : (a b : Bool) → (a || b) ≡ false → a ≡ false
        no_left false b e = refl
        no_left true b e = absurd (true≢false e)

        no_right : (a b : Bool) → (a || b) ≡ false → b ≡ false
        no_right false b e = e
        no_right true b e = absurd (true≢false e)

    -- either it was unlinked before, or it is now
    which : (x : ℕ) → now x ≡ true → ((gone x ≡ true) × (x ≢ i)) ⊎ (x ≡ i)
    which x g = case (i == x) refl (sym (new x) ∙ g)
      where
        either : (a : Bool) → (a || false) ≡ true → a ≡ true
        either true e = refl
        either false e = absurd (true≢false (sym e))

        case : (b : Bool) → (i == x) ≡ b → (gone x || b) ≡ true → ((gone x ≡ true) × (x ≢ i)) ⊎ (x ≡ i)
        case true e g = inr (sym (eqb-true i x e))
        case false e g = inl (either (gone x) g, λ same. true≢false (sym (eq-eqb i x (sym same)) ∙ e))

    here_unlinked : IsOwnSpent caller (node_in sizes front i) (node_in sizes (past ++ e ∷ []) i)
    here_unlinked =
        let was : (node_in sizes front i).mode ≡ Linked = sym (ap (λ (v : Node). v.mode) (h.node i was_on))
        ∙ by.linked in
        let same : s.node i ≡ node_in sizes front i = h.linked i was_on was in
        record {
          linked = was;
          marked = sym (ap (λ (v : Node). v.marked) same) ∙ by.marked;
          ended = by.ended;
          epoch = by.epoch;
          now = back (s'.node i) (by.here ∙ ap (λ (v : Node). record v
              { mode = Spent; who = caller; ended = by.ended; epoch = by.epoch }) same);
        }
      where
        back : (w : Node) → w ≡ record (node_in sizes front i)
            { mode = Spent; who = caller; ended = by.ended; epoch = by.epoch } → w ≡ record
            (node_in sizes front i) {
              mode = Spent;
              who = caller;
              stored = w.stored;
              ended = by.ended;
              epoch = by.epoch;
            }
        back w is = subst (λ (v : Node). v ≡ record (node_in sizes front i)
            { mode = Spent; who = caller; stored = v.stored; ended = by.ended; epoch = by.epoch }) (sym is) refl

    stays_unlinked : Stays sizes front (past ++ e ∷ []) caller now
    stays_unlinked = record {
      node = λ x g.
          let t = still x g in
          by.else x t.1 ∙ (h.node x t.0 ∙ ap (λ (b : Bool). record (node_in sizes front x) { stored = b })
          (ap (λ (v : Node). v.stored) (sym (by.else x t.1))));
      linked = λ x g m. let t = still x g in by.else x t.1 ∙ h.linked x t.0 m;
      unlinked = λ x g. ⊎_elim
          (λ (b : (gone x ≡ true) × (x ≢ i)). subst (IsOwnSpent caller (node_in sizes front x)) (sym (by.else x b.1))
          (h.unlinked x b.0))
          (λ (same : x ≡ i). subst (λ (y : ℕ). IsOwnSpent caller (node_in sizes front y)
          (node_in sizes (past ++ e ∷ []) y)) (sym same) here_unlinked)
          (which x g);
      free = by.free ∙ h.free;
      free_word = (after_event sizes past e).else (free_at sizes) (unlink_free sizes z past e kept e.kind u ok.as_kind)
          ∙ h.free_word;
      on = λ x y g. let t = still y g in by.lists x y t.1 ∙ h.on x y t.0;
      off = λ x y g. ⊎_elim
          (λ (b : (gone y ≡ true) × (y ≢ i)). by.lists x y b.1 ∙ h.off x y b.0)
          (λ (same : y ≡ i). ap (is_listed s' x) same ∙ by.off x)
          (which y g);
      frozen = λ x. by.frozen x ∙ h.frozen x;
      graph = unlink_graph sizes z past e kept e.kind u (effect sizes z past e kept e.kind refl ok.as_kind) ∙ h.graph;
    }

module _ (sizes : Sizes) (z : IsLayout sizes) (front : List Event) (caller : ℕ) where
  abbrev StaysAfter : List Event → Type 0
  StaysAfter rest = Stays sizes front (front ++ rest) caller (unlinked_by rest)

  -- one more event
  next : (done : List Event) (e : Event) → IsKept sizes ((front ++ done) ++ e ∷ []) → (counted e.kind ≡ false) ⊎
      ((unlinks e.kind ≡ true) × (e.caller ≡ caller)) → StaysAfter done → Stays sizes front
      ((front ++ done) ++ e ∷ []) caller (unlinked_by (done ++ e ∷ []))
  next done e kept how h = ⊎_elim
      (λ (c : counted e.kind ≡ false). same_gone (λ x. sym (any_skip (takes_off x) done e
      (ap (λ (b : Bool). b && (e.life.index == x)) (uncounted_stays e.kind c))))
      (stays_uncounted sizes z front (front ++ done) e (past_kept sizes (front ++ done) e kept)
      (last_allowed sizes (front ++ done) e kept) caller (unlinked_by done) h c))
      (λ (u : (unlinks e.kind ≡ true) × (e.caller ≡ caller)). stays_unlinked sizes z front (front ++ done) e
      (past_kept sizes (front ++ done) e kept) (last_allowed sizes (front ++ done) e kept) caller
      (unlinked_by done) h u.0 u.1 (unlinked_by (done ++ e ∷ [])) (λ x. split x u.0))
      how
    where
      uncounted_stays : (k : Kind) → counted k ≡ false → unlinks k ≡ false
      uncounted_stays UnlinkVertex c = absurd (cc)
      uncounted_stays UnlinkEdge c = absurd (cc)
      uncounted_stays _ c = refl

      same_gone : ((x : ℕ) → unlinked_by done x ≡ unlinked_by (done ++ e ∷ []) x) → Stays sizes front
          ((front ++ done) ++ e ∷ []) caller (unlinked_by done) → Stays sizes front ((front ++ done) ++ e ∷ []) caller
          (unlinked_by (done ++ e ∷ []))
      same_gone is t = record {
        node = λ x g. t.node x (is x ∙ g);
        linked = λ x g. t.linked x (is x ∙ g);
        unlinked = λ x g. t.unlinked x (is x ∙ g);
        free = t.free;
        free_word = t.free_word;
        on = λ x y g. t.on x y (is y ∙ g);
        off = λ x y g. t.off x y (is y ∙ g);
        frozen = t.frozen;
        graph = t.graph;
      }

      split : (x : ℕ) → unlinks e.kind ≡ true → unlinked_by (done ++ e ∷ []) x ≡
          (unlinked_by done x || (e.life.index == x))
      split x u = case (e.life.index == x) refl
        where
          or_false : (b : Bool) → (b || false) ≡ b
          or_false true = refl
          or_false false = refl

          or_true : (b : Bool) → (b || true) ≡ true
          or_true true = refl
          or_true false = refl

          test : (b : Bool) → (e.life.index == x) ≡ b → takes_off x e ≡ b
          test b is = ap (λ (c : Bool). c && (e.life.index == x)) u ∙ is

          case : (b : Bool) → (e.life.index == x) ≡ b → unlinked_by (done ++ e ∷ []) x ≡ (unlinked_by done x || b)
          case true is = any_last (takes_off x) done e (test true is) ∙ sym (or_true (unlinked_by done x))
          case false is = any_skip (takes_off x) done e (test false is) ∙ sym (or_false (unlinked_by done x))

  climb : (done rest : List Event) → IsKept sizes (front ++ (done ++ rest)) →
      ((k : ℕ) (e : Event) → slice_get rest k ≡ Some e → (counted e.kind ≡ false) ⊎
      ((unlinks e.kind ≡ true) × (e.caller ≡ caller))) → StaysAfter done → StaysAfter (done ++ rest)
  climb done [] kept each h = subst StaysAfter (sym (append-nil done)) h
  climb done (e ∷ es) kept each h =
      let whole : (done ++ e ∷ []) ++ es ≡ done ++ e ∷ es = append_assoc done (e ∷ []) es in
      let kept_more : IsKept sizes (front ++ ((done ++ e ∷ []) ++ es)) = subst
      (λ (l : List Event). IsKept sizes (front ++ l)) (sym whole) kept in
      let kept_next : IsKept sizes ((front ++ done) ++ e ∷ []) = subst (IsKept sizes)
      (sym (append_assoc front done (e ∷ []))) (kept_front sizes (front ++ (done ++ e ∷ []))
      (front ++ ((done ++ e ∷ []) ++ es)) (record { rest = es; whole = append_assoc front (done ++ e ∷ []) es })
      kept_more) in
      let now : StaysAfter (done ++ e ∷ []) = subst (λ (j : List Event). Stays sizes front j caller
      (unlinked_by (done ++ e ∷ []))) (append_assoc front done (e ∷ []))
      (next done e kept_next (each 0 e refl) h) in
      subst StaysAfter whole (climb (done ++ e ∷ []) es kept_more (λ k d at. each (suc k) d at) now)

  start : StaysAfter []
  start = subst (λ (j : List Event). Stays sizes front j caller (unlinked_by [])) (sym (append-nil front)) record {
    node = λ x g. refl;
    linked = λ x g m. refl;
    unlinked = λ x g. absurd (true≢false (sym g));
    free = refl;
    free_word = refl;
    on = λ x y g. refl;
    off = λ x y g. absurd (true≢false (sym g));
    frozen = λ x. refl;
    graph = refl;
  }

  pub stays_but_unlinked : (rest : List Event) → IsKept sizes (front ++ rest) → AreUncountedOrUnlinks caller rest
      → StaysButUnlinked sizes front rest caller
  stays_but_unlinked rest kept are =
      let t : StaysAfter rest = climb [] rest kept are.each start in
      record {
        node = t.node;
        linked = t.linked;
        unlinked = t.unlinked;
        free = t.free;
        free_word = t.free_word;
        buckets = λ j x. bucket t j x (unlinked_by rest x) refl;
        lists = λ x y. list t x y (unlinked_by rest y) refl;
        frozen = t.frozen;
        graph = t.graph;
      }
    where
      bucket : StaysAfter rest → (j x : ℕ) → (b : Bool) → unlinked_by rest x ≡ b → is_of_bucket sizes
          (state sizes (front ++ rest)) j x ≡ (not b && is_of_bucket sizes (state sizes front) j x)
      bucket t j x true g = ap (λ (v : Node). is_linked v.mode && (v.vertex && (v.key % sizes.buckets == j)))
          (t.unlinked x g).now
      bucket t j x false g = ap (λ (v : Node). is_linked v.mode && (v.vertex && (v.key % sizes.buckets == j)))
          (t.node x g)

      list : StaysAfter rest → (x y : ℕ) → (b : Bool) → unlinked_by rest y ≡ b → is_listed
          (state sizes (front ++ rest)) x y ≡ (not b && is_listed (state sizes front) x y)
      list t x y true g = t.off x y g
      list t x y false g = t.on x y g

-- a vertex that has a list has one still
pub list_stays : (sizes : Sizes) (front rest : List Event) (caller x : ℕ) → StaysButUnlinked sizes front rest caller
    → HasList sizes front x → HasList sizes (front ++ rest) x
list_stays sizes front rest caller x t has = by (unlinked_by rest x) refl
  where
    -- an edge that stood on the list and stands on it no more was marked
    was_marked : IsFrozenToEnd sizes (front ++ rest) x → (y : ℕ) → is_listed (state sizes front) x y ≡ true → (b : Bool)
        → unlinked_by rest y ≡ b → (node_in sizes front y).marked ≡ true
    was_marked f y on true g = (t.unlinked y g).marked
    was_marked f y on false g = sym (ap (λ (v : Node). v.marked) (t.node y g)) ∙ f.edges y
        (t.lists x y ∙ (ap (λ (c : Bool). not c && is_listed (state sizes front) x y) g ∙ on))

    unfinished : IsFrozenToEnd sizes (front ++ rest) x → ⊥
    unfinished f = has.unfinished (record {
      head = sym (t.frozen x) ∙ f.head;
      edges = λ y on. was_marked f y on
          (unlinked_by rest y) refl;
    })

    by : (b : Bool) → unlinked_by rest x ≡ b → HasList sizes (front ++ rest) x
    by true g = record {
      there = has.there;
      used = subst IsUsed (sym (ap (λ (v : Node). v.mode) (t.unlinked x g).now)) tt;
      vertex = ap (λ (v : Node). v.vertex) (t.unlinked x g).now ∙ has.vertex;
      unfinished = unfinished;
    }
    by false g = record {
      there = has.there;
      used = subst IsUsed (sym (ap (λ (v : Node). v.mode) (t.node x g))) has.used;
      vertex = ap (λ (v : Node). v.vertex) (t.node x g) ∙ has.vertex;
      unfinished = unfinished;
    }
