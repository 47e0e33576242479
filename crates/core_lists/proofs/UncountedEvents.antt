-- Where no counted event fell between, the chains, the lists and the graph are the same.
use Rattle.std.proofs.Common.{◌≡◌, ◌≢◌, ℕ, ◌+◌, ◌≤◌, suc, Bool, true, false, List, [], ◌∷◌, ◌++◌, Some, length, refl}
use Rattle.std.proofs.Common.{sym, ap, ◌∙◌, subst, arith, append_assoc, append-nil, IsTrue}
use Rattle.std.specs.Prelude.{◌==◌, slice_get}
use Rattle.std.specs.List.{list_any}
use Rattle.packed_link.specs.Layout.{Sizes, IsLayout, free_at}
use Rattle.core_chain.specs.Chain.{Chain, ChainWord, Head, Next, IsOn}
use Rattle.core_chain.specs.Steps.{Untouched}
use Rattle.core_journal.specs.declared.event.Kind.{Kind}
use Rattle.core_journal.specs.declared.event.Kind.TheVariants.{DrawNumber, StorePrivate, Announce, Withdraw, MoveEpoch}
use Rattle.core_journal.specs.declared.event.Kind.TheVariants.{StoreFree}
use Rattle.core_journal.specs.declared.event.Event.{Event}
use Rattle.core_journal.specs.Event.{counted}
use Rattle.core_journal.specs.Foreign.{foreign}
use Rattle.core_journal.specs.Prefix.{IsPrefix}
use Rattle.core_journal.specs.State.{Linked, Spent, Node, State, state_by, state}
use Rattle.core_journal.proofs.ForeignAddsUp.{one_foreign}
use Rattle.core_journal.proofs.Lists.{get_short}
use Rattle.core_journal.proofs.States.{state-snoc}
use Rattle.core_kept.specs.Kept.{Allowed, AllowedAs, IsKept, IsQuiet}
use Rattle.core_kept.specs.Nodes.{node_in, IsUsed}
use Rattle.core_kept.proofs.ByKind.{put_case, put_other, after_event}
use Rattle.core_kept.proofs.Induction.{kept_front, past_kept, last_allowed}
use Rattle.core_lists.specs.Chains.{bucket_chain, edge_chain, HasList}
use Rattle.core_lists.specs.Effects.{ChangesNone, EffectAs}
use Rattle.core_lists.specs.Uncounted.{AreUncounted, StaysUncounted}
use Rattle.core_lists.proofs.ChangedByAnother.{get_behind}
use Rattle.core_lists.proofs.EffectOfKinds.{effect}

-- a chain that isn't touched, twice
untouched_on : (old mid : Chain) → Untouched old mid → (p : ChainWord) → IsOn old p → IsOn mid p
untouched_on old mid u Head h = tt
untouched_on old mid u (Next x) h = subst IsTrue (sym (u.nodes x)) h

untouched_twice : (old mid new : Chain) → Untouched old mid → Untouched mid new → Untouched old new
untouched_twice old mid new a b = record {
  nodes = λ x. b.nodes x ∙ a.nodes x;
  key = λ x h. b.key x (untouched_on old mid a (Next x) h) ∙ a.key x h;
  since = λ x h. b.since x (untouched_on old mid a (Next x) h) ∙ a.since x h;
  next = λ p h. b.next p (untouched_on old mid a p h) ∙ a.next p h;
  mark = λ p h. b.mark p (untouched_on old mid a p h) ∙ a.mark p h;
}

-- what an event of a kind that isn't counted leaves of the state
pub record IsLeftBy (s s' : State) : Type 0 where
  pub node : (x : ℕ) → s'.node x ≡ record (s.node x) { stored = (s'.node x).stored }
  pub linked : (x : ℕ) → (s.node x).mode ≡ Linked → s'.node x ≡ s.node x
  pub free : s'.free ≡ s.free
  pub edges : (x : ℕ) → s'.edges x ≡ s.edges x
  pub frozen : (x : ℕ) → s'.frozen x ≡ s.frozen x

left_same : (s s' : State) → ((x : ℕ) → s'.node x ≡ s.node x) → s'.free ≡ s.free → ((x : ℕ) → s'.edges x ≡ s.edges x) →
    ((x : ℕ) → s'.frozen x ≡ s.frozen x) → IsLeftBy s s'
left_same s s' n f e z = record {
  node = λ x. by (s'.node x) (s.node x)
      (n x);
  linked = λ x _. n x;
  free = f;
  edges = e;
  frozen = z;
}
  where
    by : (u v : Node) → u ≡ v → u ≡ record v { stored = u.stored }
    by u v h = subst (λ (w : Node). u ≡ record w { stored = u.stored }) h refl

pub left_by : (sizes : Sizes) (past : List Event) (e : Event) (k : Kind) → counted k ≡ false → AllowedAs k sizes past e
    → IsLeftBy (state sizes past) (state_by k sizes e (state sizes past))
left_by sizes past e StoreFree c ok = record {
  node = λ x. put_case (λ (u : Node). u ≡ record (node_in sizes past x) { stored = u.stored }) e.life.index _
      (state sizes past).node x
      (λ same. ap (λ (i : ℕ). record (node_in sizes past i) { stored = true }) (sym same)) (λ _. refl);
  linked = λ x m. put_other e.life.index _ (state sizes past).node x
      (λ same. let s : (node_in sizes past x).mode ≡ Spent = ap (λ (i : ℕ). (node_in sizes past i).mode) same
      ∙ ok.ripe.stamped.spent.spent in absurd (cc));
  free = refl;
  edges = λ x. refl;
  frozen = λ x. refl;
}
left_by sizes past e DrawNumber c ok = left_same (state sizes past) _ (λ x. refl) refl (λ x. refl) (λ x. refl)
left_by sizes past e StorePrivate c ok = left_same (state sizes past) _ (λ x. refl) refl (λ x. refl) (λ x. refl)
left_by sizes past e Announce c ok = left_same (state sizes past) _ (λ x. refl) refl (λ x. refl) (λ x. refl)
left_by sizes past e Withdraw c ok = left_same (state sizes past) _ (λ x. refl) refl (λ x. refl) (λ x. refl)
left_by sizes past e MoveEpoch c ok = left_same (state sizes past) _ (λ x. refl) refl (λ x. refl) (λ x. refl)
left_by sizes past e _ c ok = absurd (cc)

pub free_left : (sizes : Sizes) (past : List Event) (e : Event) (k : Kind) → counted k ≡ false
    → AllowedAs k sizes past e → free_at sizes ≢ e.place
free_left sizes past e StoreFree c ok h = omega (arith, ok.place, h)
free_left sizes past e DrawNumber c ok h = omega (arith, ok.place, h)
free_left sizes past e StorePrivate c ok h = omega (arith, ok.place, ok.there, h)
free_left sizes past e Announce c ok h = omega (arith, ok.place, ok.there, h)
free_left sizes past e Withdraw c ok h = omega (arith, ok.place, ok.there, h)
free_left sizes past e MoveEpoch c ok h = omega (arith, ok.place, h)
free_left sizes past e _ c ok h = absurd (cc)

pub none_changed : (sizes : Sizes) (past : List Event) (e : Event) (k : Kind) → counted k ≡ false
    → EffectAs k sizes past e → ChangesNone sizes past e
none_changed sizes past e StoreFree c ok = ok
none_changed sizes past e DrawNumber c ok = ok
none_changed sizes past e StorePrivate c ok = ok
none_changed sizes past e Announce c ok = ok
none_changed sizes past e Withdraw c ok = ok
none_changed sizes past e MoveEpoch c ok = ok
none_changed sizes past e _ c ok = absurd (cc)

-- a list is one still
still_list : (sizes : Sizes) (front past : List Event) → StaysUncounted sizes front past → (x : ℕ)
    → HasList sizes front x → HasList sizes past x
still_list sizes front past h x l = record {
  there = l.there;
  used = subst IsUsed (sym (ap (λ (v : Node). v.mode) (h.node x))) l.used;
  vertex = ap (λ (v : Node). v.vertex) (h.node x) ∙ l.vertex;
  unfinished = λ f. l.unfinished (record {
    head = sym (h.frozen x) ∙ f.head;
    edges = λ y on. sym (ap (λ (v : Node). v.marked) (h.node y)) ∙ f.edges y
        (ap (λ (ys : List ℕ). list_any (λ (w : ℕ). w == y) ys) (h.edges x) ∙ on);
  });
}

pub stays_now : (sizes : Sizes) (front : List Event) → StaysUncounted sizes front front
stays_now sizes front = record {
  node = λ x. refl;
  linked = λ x _. refl;
  free = refl;
  free_word = refl;
  edges = λ x. refl;
  frozen = λ x. refl;
  buckets = λ j _. record {
    nodes = λ x. refl;
    key = λ x _. refl;
    since = λ x _. refl;
    next = λ p _. refl;
    mark = λ p _.
        refl;
  };
  lists = λ x _. record {
    nodes = λ y. refl;
    key = λ y _. refl;
    since = λ y _. refl;
    next = λ p _. refl;
    mark = λ p _.
        refl;
  };
  graph = refl;
}

pub stays_more : (sizes : Sizes) → IsLayout sizes → (front past : List Event) (e : Event) → IsKept sizes past
    → Allowed sizes past e → counted e.kind ≡ false → StaysUncounted sizes front past → StaysUncounted sizes front
    (past ++ e ∷ [])
stays_more sizes z front past e kept ok c h =
    let s : State = state sizes past in
    let s' : State = state sizes (past ++ e ∷ []) in
    let l : IsLeftBy s s' = subst (IsLeftBy s) (sym (state-snoc sizes past e))
    (left_by sizes past e e.kind c ok.as_kind) in
    let n : ChangesNone sizes past e = none_changed sizes past e e.kind c
    (effect sizes z past e kept e.kind refl ok.as_kind) in
    record {
      node = λ x. l.node x ∙ ap (λ (v : Node). record v { stored = (s'.node x).stored }) (h.node x);
      linked = λ x m. l.linked x (ap (λ (v : Node). v.mode) (h.linked x m) ∙ m) ∙ h.linked x m;
      free = l.free ∙ h.free;
      free_word = (after_event sizes past e).else (free_at sizes) (free_left sizes past e e.kind c ok.as_kind)
          ∙ h.free_word;
      edges = λ x. l.edges x ∙ h.edges x;
      frozen = λ x. l.frozen x ∙ h.frozen x;
      buckets = λ j t. untouched_twice (bucket_chain sizes front j) (bucket_chain sizes past j)
          (bucket_chain sizes (past ++ e ∷ []) j) (h.buckets j t) (n.buckets j t);
      lists = λ x t. untouched_twice (edge_chain sizes front x) (edge_chain sizes past x)
          (edge_chain sizes (past ++ e ∷ []) x) (h.lists x t) (n.lists x (still_list sizes front past h x t));
      graph = n.graph ∙ h.graph;
    }

-- event by event
stays_on : (sizes : Sizes) → IsLayout sizes → (front past rest : List Event) → IsKept sizes (past ++ rest) →
    ((k : ℕ) (e : Event) → slice_get rest k ≡ Some e → counted e.kind ≡ false) → StaysUncounted sizes front past
    → StaysUncounted sizes front (past ++ rest)
stays_on sizes z front past [] kept each h = subst (StaysUncounted sizes front) (sym (append-nil past)) h
stays_on sizes z front past (e ∷ es) kept each h =
    let same = append_assoc past (e ∷ []) es in
    let kept_next : IsKept sizes (past ++ e ∷ []) = kept_front sizes (past ++ e ∷ []) (past ++ e ∷ es)
    (record { rest = es; whole = same }) kept in
    subst (StaysUncounted sizes front) same
    (stays_on sizes z front (past ++ e ∷ []) es (subst (IsKept sizes) (sym same) kept) (λ k d at. each (suc k) d at)
    (stays_more sizes z front past e (past_kept sizes past e kept_next) (last_allowed sizes past e kept_next)
    (each 0 e refl) h))

pub stays_uncounted : (sizes : Sizes) → IsLayout sizes → (front journal : List Event) (p : IsPrefix front journal)
    → IsKept sizes journal → AreUncounted p.rest → StaysUncounted sizes front journal
stays_uncounted sizes z front journal p kept none =
    subst (StaysUncounted sizes front) p.whole (stays_on sizes z front front p.rest
    (subst (IsKept sizes) (sym p.whole) kept) none.each (stays_now sizes front))

-- a caller made no event since, and no foreign event fell
pub quiet_uncounted : (front journal : List Event) (p : IsPrefix front journal) (caller last : ℕ)
    → IsQuiet journal caller last → last ≤ length front → foreign journal caller (length front) (length journal) ≡ 0
    → AreUncounted p.rest
quiet_uncounted front journal p caller last quiet old none = record {
  each = λ k e at. failed (counted e.kind) (λ counts.
      let here : slice_get journal (length front + k) ≡ Some e = subst
      (λ (j : List Event). slice_get j (length front + k) ≡ Some e) p.whole (get_behind front p.rest k e at) in
      let one = one_foreign journal caller (length front) (length journal) (length front + k) e (omega arith)
      (get_short journal (length front + k) e here) here counts
      (quiet.none (length front + k) e (omega (arith, old)) here) in
      omega (arith, one, none));
}
  where
    failed : (b : Bool) → (b ≡ true → ⊥) → b ≡ false
    failed false h = refl
    failed true h = absurd (h refl)
