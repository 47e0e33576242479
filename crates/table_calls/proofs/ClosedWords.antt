-- How the list of an unlinked vertex is closed, and how a node is given back.
use Rattle.std.proofs.Common.{◌≡◌, ◌≢◌, ℕ, ◌+◌, ◌<◌, ◌≤◌, Bool, true, false, List, [], ◌∷◌, ◌++◌, Option, None, Some}
use Rattle.std.proofs.Common.{inl, inr, refl, sym, ap, ◌∙◌, subst, arith, ⊎_elim}
use Rattle.packed_link.specs.Link.{index_of, mark_bit, mark_of, nowhere, pack, tag_of}
use Rattle.packed_link.specs.Layout.{Sizes, IsLayout, epoch_at, free_at, link_at, second_at}
use Rattle.packed_link.specs.declared.link.Life.{Life}
use Rattle.packed_link.proofs.Links.{index_of-pack}
use Rattle.core_journal.specs.Event.{pops, moves, raises}
use Rattle.core_journal.specs.declared.event.Event.{Event}
use Rattle.core_journal.specs.declared.event.Kind.TheVariants.{PushFree, StoreFree}
use Rattle.core_journal.specs.Machine.{word_at}
use Rattle.core_journal.specs.State.{state}
use Rattle.core_journal.proofs.Lists.{prefix_refl}
use Rattle.core_kept.specs.Freezing.{IsFrozenWord}
use Rattle.core_kept.specs.Kept.{IsKept}
use Rattle.core_kept.specs.Nodes.{node_in, is_listed, IsRipe, IsSpentWith}
use Rattle.core_kept.proofs.Announcements.{epoch_was}
use Rattle.core_kept.proofs.Contents.{contents}
use Rattle.core_kept.proofs.FirstWords.{numbers}
use Rattle.core_kept.proofs.FreeList.{first_leads}
use Rattle.core_kept.proofs.LinkWords.{used_link}
use Rattle.core_lists.specs.Chains.{life_in}
use Rattle.core_lists.proofs.EventKeepsRest.{link_stored, written}
use Rattle.core_lists.proofs.FrozenToEndIsList.{edge_on, kept_leads}
use Rattle.core_lists.proofs.ListHoldsKept.{listing}
use Rattle.core_lists.proofs.RipeningNodes.{ripens, stamped}
use Rattle.core_rule.specs.Fronts.{MayFreezeEdge, MayPushFree, MayStoreFree}
use Rattle.core_rule.specs.OwnEvents.{freeze_head_event, move_event, store_free_event}
use Rattle.core_rule.specs.Plays.{IsSound, Looked, Stored}
use Rattle.core_rule.specs.Retired.{IsRetired}
use Rattle.core_rule.specs.Views.{Spares, Steps}
use Rattle.core_rule.specs.declared.view.View.{View}
use Rattle.core_rule.proofs.FrozenWordStays.{head_frozen_word}
use Rattle.core_rule.proofs.OwnByView.{own_list_still, own_made_same, own_ripe_still, own_spent_still, own_word_still}
use Rattle.core_rule.proofs.RetiredStays.{retired_still}
use Rattle.core_rule.proofs.ViewShows.{step_grows, step_view, store_steps, look_steps, win_steps}
use Rattle.graph_table.specs.Table.{MatchMark, MatchTried}
use Rattle.graph_table.specs.declared.answers.Tried.{Tried}
use Rattle.graph_table.specs.declared.answers.Tried.TheVariants.{Won as TriedWon, Lost as TriedLost}
use Rattle.table_calls.specs.Closing.{IsClosedList, KeepsRetired}
use Rattle.table_calls.specs.Edges.{IsDone}
use Rattle.table_calls.specs.Resting.{IsResting, uses_of}
use Rattle.table_calls.specs.Vertices.{word_in}
use Rattle.core_stretches.specs.Holdings.{IsUnlinkedVertex}
use Rattle.table_calls.proofs.Known.{keeps_on, looked_keeps, looked_uses, looked, made_next, rests_on}
use Rattle.table_calls.proofs.Loaded.{bit, word_is}

-- an own event that gives no node back
abbrev Calm : Event → Type 0
Calm e = (e.kind ≢ StoreFree) × (e.kind ≢ PushFree)

other : (own : Option Event) → Spares Calm own → (x : ℕ) → Spares
    (λ (e : Event). e.kind ≡ PushFree → e.life.index ≢ x) own
other None h x = tt
other (Some e) h x = λ is. absurd (h.1 is)

pub unlinked_on : (v w : View) (own : Option Event) → IsLayout v.sizes → Steps v own w → Spares Calm own → (x : Life)
    → IsUnlinkedVertex v x → IsUnlinkedVertex w x
unlinked_on v w own z t spares x u =
    let l = own_list_still v w own z t x.index spares u.spent u.list in
    let mine : IsSpentWith v.sizes v.front v.number x.index = record { spent = u.spent.spent; mine = u.spent.mine } in
    record { life = (own_spent_still v w own z t x (other own spares x.index) u.life mine).1; spent = l.0; list = l.1 }

pub closed_on : (v w : View) (own : Option Event) → IsLayout v.sizes → Steps v own w → Spares Calm own → (x : Life)
    → IsClosedList v x → IsClosedList w x
closed_on v w own z t spares x c =
    let sizes = (step_view v w own t).0 in
    let word = own_word_still v w own z t x.index (second_at v.sizes x.index) spares c.unlinked.spent c.unlinked.list
    c.head in
    record {
      unlinked = unlinked_on v w own z t spares x c.unlinked;
      head = subst
          (λ (q : Sizes). IsFrozenWord w.sizes w.front x.index (second_at q x.index)) (sym sizes) word.0;
    }

-- the head is closed, now or before
pub head_closed : (v w : View) (x : Life) (place found : ℕ) → IsLayout v.sizes → IsLayout w.sizes → v.numbered ≡ true
    → IsSound v → IsUnlinkedVertex v x → place ≡ second_at v.sizes x.index → MatchMark v place found
    (freeze_head_event v x found) w → IsClosedList w x
head_closed v w x place found z z' has s u at marked = ⊎_elim
    (λ (live : mark_of found ≡ 0).
    let e = freeze_head_event v x found in
    let t = win_steps v place found e w has s (marked.won live) in
    let kept : IsKept v.sizes (t.grown ++ e ∷ []) = subst (λ (j : List Event). IsKept v.sizes j) t.front t.kept in
    let h = head_frozen_word v.sizes t.grown e kept refl in
    let word : IsFrozenWord v.sizes w.front x.index (second_at v.sizes x.index) = subst
    (λ (j : List Event). IsFrozenWord v.sizes j x.index (second_at v.sizes x.index)) (sym t.front) h.1 in
    let closed : IsClosedList w x = record {
      unlinked = unlinked_on v w (Some e) z t
          ((λ y. absurd (cc)), (λ y. absurd (cc))) x u;
      head = subst
          (λ (q : Sizes). IsFrozenWord q w.front x.index (second_at q x.index)) (sym (step_view v w (Some e) t).0) word;
    }
    in
    closed)
    (λ (dead : mark_of found ≡ 1).
    let l = marked.was dead in
    let t = look_steps v place found w has s l in
    let u' = unlinked_on v w None z t tt x u in
    let c = ((contents w.sizes z' w.front l.sound.kept).each x.index u'.life.there).vertex u'.list.used u'.spent.vertex
    in
    let word : found ≡ word_at w.sizes w.front (second_at w.sizes x.index) = word_is v place found w l ∙ ap
    (word_at w.sizes w.front) (at ∙ ap (λ (q : Sizes). second_at q x.index) (sym (step_view v w None t).0)) in
    let shut : (state w.sizes w.front).frozen x.index ≡ true = set ((state w.sizes w.front).frozen x.index)
    (sym c.second_mark ∙ (ap mark_of (sym word) ∙ dead)) in
    let closed : IsClosedList w x = record { unlinked = u'; head = record { head = shut; at = inl refl } } in
    closed)
    (bit found)
  where
    set : (b : Bool) → mark_bit b ≡ 1 → b ≡ true
    set true h = refl
    set false h = absurd (omega (arith, h))

-- a closed word that leads somewhere leads to an edge of the list
pub next_on : (v : View) (x : Life) (index : ℕ) → IsLayout v.sizes → IsSound v → IsClosedList v x → index ≡ index_of
    (word_in v (second_at v.sizes x.index)) → index ≢ nowhere → (is_listed (state v.sizes v.front) x.index index ≡ true)
    × (index < v.sizes.nodes)
next_on v x index z s c is some =
    let on : is_listed (state v.sizes v.front) x.index index ≡ true = ⊎_elim
    (λ (none : index_of (word_at v.sizes v.front (second_at v.sizes x.index)) ≡ nowhere). absurd (some (is ∙ none)))
    (λ (o : is_listed (state v.sizes v.front) x.index (index_of (word_at v.sizes v.front (second_at v.sizes x.index))) ≡
    true). subst (λ (i : ℕ). is_listed (state v.sizes v.front) x.index i ≡ true) (sym is) o)
    (kept_leads v.sizes z v.front s.kept x.index (second_at v.sizes x.index) c.unlinked.list c.head) in
    (on, ((listing v.sizes z v.front s.kept).on x.index index on).there)

-- that edge may be frozen, once its link was loaded
pub may_freeze : (v w : View) (x : Life) (index at link tag : ℕ) → IsLayout v.sizes → IsLayout w.sizes
    → v.numbered ≡ true → IsSound v → IsClosedList v x → index ≡ index_of (word_in v (second_at v.sizes x.index))
    → index ≢ nowhere → Looked v at link w → at ≡ link_at v.sizes index → tag ≡ tag_of link → MayFreezeEdge w x
    (second_at w.sizes x.index) (record { index = index; tag = tag })
may_freeze v w x index at link tag z z' has s c is some l at_is tag_is =
    let t = look_steps v at link w has s l in
    let sizes = (step_view v w None t).0 in
    let c' = closed_on v w None z t tt x c in
    let word = (own_word_still v w None z t x.index (second_at v.sizes x.index) tt c.unlinked.spent c.unlinked.list
    c.head).1 in
    let leads : index ≡ index_of (word_in w (second_at w.sizes x.index)) = is ∙
    (ap index_of (sym word) ∙ ap (λ (q : Sizes). index_of (word_in w (second_at q x.index))) (sym sizes)) in
    let n = next_on w x index z' l.sound c' leads some in
    let used = (c'.unlinked.list.edges (life_in w.sizes w.front index)
    (edge_on w.sizes z' w.front l.sound.kept x.index index n.0)).used in
    let link_is : link ≡ word_at w.sizes w.front (link_at w.sizes index) = word_is v at link w l ∙ ap
    (word_at w.sizes w.front) (at_is ∙ ap (λ (q : Sizes). link_at q index) (sym sizes)) in
    record {
      life = c'.unlinked.life;
      spent = c'.unlinked.spent;
      list = c'.unlinked.list;
      frozen = c'.head;
      edge = record {
        there = n.1;
        tag = tag_is ∙ (ap tag_of link_is ∙
            (used_link w.sizes z' w.front l.sound.kept index n.1 used).0);
      };
      leads = sym leads;
    }

-- a node that is done is retired with the epoch that is loaded
pub retired_now : (v w : View) (x : Life) (at epoch : ℕ) → IsLayout v.sizes → v.numbered ≡ true → IsSound v → IsDone v x
    → Looked v at epoch w → at ≡ epoch_at v.sizes → IsRetired None w x epoch
retired_now v w x at epoch z has s d l at_is =
    let old = word_in v (epoch_at v.sizes) in
    let t = look_steps v at epoch w has s l in
    let first : IsRetired None v x old = record {
      life = d.life;
      stamped = stamped v.sizes v.front v.number x.index old d.spent (omega arith);
      shown = record { moment = v.front; before = prefix_refl v.front; epoch = omega arith };
      own_list = d.own_list;
      list = λ y free there on. d.list y there on;
    } in
    let r = retired_still v w None z t None x old tt first in
    let sizes = (step_view v w None t).0 in
    let now : epoch ≡ word_in w (epoch_at w.sizes) = word_is v at epoch w l ∙ ap (word_in w)
    (at_is ∙ ap epoch_at (sym sizes)) in
    let low : old ≤ epoch = omega (
      arith,
      now,
      r.shown.epoch,
      epoch_was w.sizes r.shown.moment w.front r.shown.before
          l.sound.kept,
      (numbers w.sizes w.front l.sound.kept).epoch,
    ) in
    let st = r.stamped in
    record {
      life = r.life;
      stamped = record {
        spent = st.spent;
        when = st.when;
        when_before = st.when_before;
        when_spent = st.when_spent;
        when_life = st.when_life;
        when_epoch = omega (arith, st.when_epoch, low);
      };
      shown = record { moment = w.front; before = prefix_refl w.front; epoch = omega (arith, now) };
      own_list = r.own_list;
      list = r.list;
    }

-- moving the epoch on
pub moved : (r : Tried) (v w : View) (place seen : ℕ) → IsLayout v.sizes → IsSound v → IsResting false v
    → MatchTried r v place seen (move_event v seen) w → IsResting false w × KeepsRetired v w ×
    (uses_of w ≤ uses_of v + 1)
moved TriedWon v w place seen z s n m =
    let e = move_event v seen in
    let t = win_steps v place seen e w n.numbered s m in (
      rests_on false v w (Some e) t (λ y. absurd (cc)) ((λ y. absurd (cc)), (λ y. absurd (cc))) n,
      keeps_on v w (Some e) z t (λ y. absurd (cc)),
      omega (
        arith,
        made_next moves v w e t refl refl,
        own_made_same v w (Some e) t pops refl,
        own_made_same v w
            (Some e) t raises refl,
      ),
    )
moved (TriedLost found) v w place seen z s n m = (
  looked false v place found w s n m.looked,
  looked_keeps v place found w z n.numbered s m.looked,
  omega (arith, looked_uses v place found w n.numbered s m.looked),
)

-- a retired node is ripe where the epoch that was loaded is two above its stamp
pub ripe_now : (v w : View) (x : Life) (stamp at epoch : ℕ) → IsLayout v.sizes → v.numbered ≡ true → IsSound v
    → IsRetired None v x stamp → Looked v at epoch w → at ≡ epoch_at v.sizes → stamp + 2 ≤ epoch
    → IsRetired None w x stamp × IsRipe w.sizes w.front w.number x.index
ripe_now v w x stamp at epoch z has s r l at_is high =
    let t = look_steps v at epoch w has s l in
    let r' = retired_still v w None z t None x stamp tt r in
    let now : epoch ≡ word_in w (epoch_at w.sizes) = word_is v at epoch w l ∙ ap (word_in w)
    (at_is ∙ ap epoch_at (sym (step_view v w None t).0)) in (
      r',
      ripens w.sizes w.front w.front (prefix_refl w.front) w.number x.index stamp r'.stamped
          (omega (arith, now, high)),
    )

-- its link may be stored where the word of the free list leads, which was loaded
pub may_store : (v w : View) (x : Life) (stamp at seen : ℕ) → IsLayout v.sizes → IsLayout w.sizes → v.numbered ≡ true
    → IsSound v → IsRetired None v x stamp → IsRipe v.sizes v.front v.number x.index → Looked v at seen w
    → at ≡ free_at v.sizes → MayStoreFree w (index_of seen) x
may_store v w x stamp at seen z z' has s r ripe l at_is =
    let t = look_steps v at seen w has s l in
    let r' = retired_still v w None z t None x stamp tt r in
    let now : seen ≡ word_in w (free_at w.sizes) = word_is v at seen w l ∙ ap (word_in w)
    (at_is ∙ ap free_at (sym (step_view v w None t).0)) in
    record {
      life = r'.life;
      next_there = ⊎_elim
          (λ (none : index_of (word_at w.sizes w.front (free_at w.sizes)) ≡ nowhere). inr (ap index_of now ∙ none))
          (λ (there : index_of (word_at w.sizes w.front (free_at w.sizes)) < w.sizes.nodes). inl
          (subst (λ (n : ℕ). index_of n < w.sizes.nodes) (sym now) there))
          (first_leads w.sizes z' w.front l.sound.kept);
      ripe = own_ripe_still v w None z t x.index tt ripe;
      own_list = r'.own_list;
      list = λ y there on. r'.list y (λ h. h) there on;
    }

-- and then it may be given back
pub may_push : (m v w : View) (x : Life) (at seen : ℕ) → IsLayout v.sizes → v.numbered ≡ true → IsSound v
    → Looked m at seen v → at ≡ free_at m.sizes → MayStoreFree v (index_of seen) x → index_of seen < 16777216 → Stored v
    (store_free_event v (index_of seen) x) w → MayPushFree w seen x
may_push m v w x at seen z has s l at_is may small st =
    let e = store_free_event v (index_of seen) x in
    let t = store_steps v e w has s st in
    let kept : IsKept v.sizes (t.grown ++ e ∷ []) = subst (λ (j : List Event). IsKept v.sizes j) t.front t.kept in
    let sizes = (step_view v w (Some e) t).0 in
    let spent = may.ripe.stamped.spent in
    let now : seen ≡ word_in v (free_at v.sizes) = word_is m at seen v l ∙ ap (word_in v)
    (at_is ∙ ap free_at (sym (ap (λ (u : View). u.sizes) l.view))) in
    let word : word_at v.sizes w.front (link_at v.sizes x.index) ≡ pack (index_of seen) 1 x.tag = ap
    (λ (j : List Event). word_at v.sizes j (link_at v.sizes x.index)) t.front ∙ written v.sizes t.grown e kept in
    record {
      life = (own_spent_still v w (Some e) z t x (λ is. absurd (cc)) may.life spent).1;
      first = v.front;
      before = step_grows v w (Some e) t;
      word = ap (λ (q : Sizes). word_at q v.front (free_at q)) sizes ∙ sym now;
      ripe = own_ripe_still v w (Some e) z t x.index (λ is. absurd (cc)) may.ripe;
      stored = ap (λ (q : Sizes). (node_in q w.front x.index).stored) sizes ∙
          (ap (λ (j : List Event). (node_in v.sizes j x.index).stored) t.front ∙
          (link_stored v.sizes t.grown e kept refl).1);
      ready = ap (λ (q : Sizes). index_of (word_at q w.front (link_at q x.index))) sizes ∙
          (ap index_of word ∙ index_of-pack (index_of seen) 1 x.tag small);
    }
