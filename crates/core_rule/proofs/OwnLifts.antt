-- What a token knows by its front makes its step allowed in each journal that it may meet: free nodes, and passes.
use Rattle.std.proofs.Common.{◌≡◌, ◌⊎◌, ℕ, ◌+◌, ◌<◌, ◌≤◌, List, refl, sym, ap, ◌∙◌, subst, arith}
use Rattle.packed_link.specs.Link.{pack, index_of, tag_of}
use Rattle.packed_link.specs.Layout.{IsLayout, free_at, epoch_at, announce_at, link_at}
use Rattle.packed_link.specs.declared.link.Life.{Life}
use Rattle.core_journal.specs.Event.{pops, moves}
use Rattle.core_journal.specs.declared.event.Event.{Event}
use Rattle.core_journal.specs.Machine.{word_at}
use Rattle.core_journal.specs.Reuse.{pass_in}
use Rattle.core_journal.specs.State.{Pass, Node}
use Rattle.core_journal.proofs.Lists.{prefix_trans}
use Rattle.core_kept.specs.Nodes.{IsFreshWith, IsRipe, IsSpentWith}
use Rattle.core_kept.specs.Passes.{IsAnnounce, IsWithdraw, IsMoveEpoch}
use Rattle.core_kept.specs.FreeNodes.{IsPopFree, IsStorePrivate, IsPushFree}
use Rattle.core_kept.specs.Facts.{IsHeld, IsKeptSpent}
use Rattle.core_rule.specs.Fronts.{MayPopFree, MayStorePrivate, MayPushFree, MayAnnounce, MayWithdraw, MayMoveEpoch}
use Rattle.core_rule.specs.OwnEvents.{pop_event, store_event, push_event, announce_event, withdraw_event, move_event}
use Rattle.core_rule.specs.Owes.{Reaches}
use Rattle.core_rule.specs.declared.view.View.{View}
use Rattle.core_kept.proofs.Callers.{made_quiet}
use Rattle.core_kept.proofs.FreeList.{pop_again}
use Rattle.core_kept.proofs.OwnFacts.{pass_stays, fresh_stays, none_fresh_stays}
use Rattle.core_kept.proofs.OwnSpent.{spent_stays}
use Rattle.core_lists.proofs.RipeningNodes.{ripe_beyond}

-- the token's pass is what it was
pub own_pass : (v : View) (journal : List Event) → Reaches v journal
    → pass_in v.sizes journal v.number ≡ pass_in v.sizes v.front v.number
own_pass v journal r = pass_stays v.sizes v.number v.last v.front journal r.front r.kept r.quiet r.old

-- a node that's fresh with the token is what it was, with its words
pub own_fresh : (v : View) → IsLayout v.sizes → (journal : List Event) → Reaches v journal → (x : ℕ) → x < v.sizes.nodes
    → IsFreshWith v.sizes v.front v.number x → IsHeld v.sizes v.front journal x
own_fresh v z journal r x there f = fresh_stays v.sizes z v.number v.last x there v.front journal r.front r.kept r.quiet
    r.old f

pub still_fresh : (v : View) (journal : List Event) (x : ℕ) → IsHeld v.sizes v.front journal x
    → IsFreshWith v.sizes v.front v.number x → IsFreshWith v.sizes journal v.number x
still_fresh v journal x h f = record {
  fresh = ap (λ (u : Node). u.mode) h.node ∙ f.fresh;
  mine = ap
      (λ (u : Node). u.who) h.node ∙ f.mine;
}

-- a node that's spent with the token is what it was, with its link
pub own_spent : (v : View) → IsLayout v.sizes → (journal : List Event) → Reaches v journal → (x : ℕ) → x < v.sizes.nodes
    → IsSpentWith v.sizes v.front v.number x → IsKeptSpent v.sizes v.front journal x
own_spent v z journal r x there s = spent_stays v.sizes z v.number v.last x there v.front journal r.front r.kept r.quiet
    r.old s

-- a node that's ripe stays so
pub still_ripe : (v : View) → IsLayout v.sizes → (journal : List Event) → Reaches v journal → (x : ℕ)
    → IsRipe v.sizes v.front v.number x → IsRipe v.sizes journal v.number x
still_ripe v z journal r x ripe = ripe_beyond v.sizes z v.number v.last x v.front journal r.front r.kept r.quiet r.old
    ripe

-- a node is taken
pub lift_pop : (v : View) → IsLayout v.sizes → (seen next : ℕ) → MayPopFree v seen next → (journal : List Event)
    → Reaches v journal → word_at v.sizes journal (free_at v.sizes) ≡ seen → IsPopFree v.sizes journal
    (pop_event v seen next)
lift_pop v z seen next m journal r is =
    let again = pop_again v.sizes z seen next m.there m.first m.second journal m.then
    (prefix_trans m.second v.front journal m.before r.front) r.kept m.word m.link is in
    let link : word_at v.sizes journal (link_at v.sizes (index_of seen)) ≡ next = again.0 in
    record {
      life = ap (λ (w : ℕ). tag_of w + 1) (sym link);
      there = m.there;
      place = refl;
      seen = ap index_of is;
      word = λ i. pack (index_of (sym link i)) 0 (tag_of (sym is i) + 1);
      holds_none = none_fresh_stays v.sizes v.number v.last v.front journal r.front r.kept r.quiet r.old m.holds_none;
      limit = let same = made_quiet pops v.number v.last v.front journal r.front r.old r.quiet in omega
          (arith, same, m.limit);
    }

-- a word of a fresh node is stored
pub lift_store : (v : View) → IsLayout v.sizes → (x : Life) (field word : ℕ) → MayStorePrivate v x field word →
    (journal : List Event) → Reaches v journal → IsStorePrivate v.sizes journal (store_event v x field word)
lift_store v z x field word m journal r =
    let h = own_fresh v z journal r x.index m.life.there m.fresh in
    record {
      life = m.life.tag ∙ sym (ap (λ (u : Node). u.tag) h.node);
      there = m.life.there;
      field = field;
      place = (refl, m.field_is);
      word = m.fits;
      link = m.link;
      fresh = still_fresh v journal x.index h m.fresh;
    }

-- a ripe node is given back
pub lift_push : (v : View) → IsLayout v.sizes → (seen : ℕ) (x : Life) → MayPushFree v seen x → (journal : List Event)
    → Reaches v journal → word_at v.sizes journal (free_at v.sizes) ≡ seen → IsPushFree v.sizes journal
    (push_event v seen x)
lift_push v z seen x m journal r is =
    let s = own_spent v z journal r x.index m.life.there m.ripe.stamped.spent in
    record {
      life = m.life.tag ∙ sym (ap (λ (u : Node). u.tag) s.node);
      there = m.life.there;
      place = refl;
      ripe = still_ripe v z journal r x.index m.ripe;
      stored = ap (λ (u : Node). u.stored) s.node ∙ m.stored;
      ready = ap index_of s.link ∙ (m.ready ∙ ap index_of (sym is));
      word = ap (λ (w : ℕ). pack x.index 0 (tag_of w + 1)) (sym is);
    }

-- an epoch is announced
pub lift_announce : (v : View) (epoch : ℕ) → MayAnnounce v epoch → (journal : List Event) → Reaches v journal
    → IsAnnounce v.sizes journal (announce_event v epoch)
lift_announce v epoch m journal r = record {
  life = refl;
  there = m.there;
  place = refl;
  loaded = m.loaded;
  before = prefix_trans m.loaded v.front journal m.before r.front;
  word = ap (λ (w : ℕ). w + 1) (sym m.word);
  closed = ap (λ (q : Pass). q.is_open) (own_pass v journal r) ∙ m.closed;
}

-- a pass is withdrawn
pub lift_withdraw : (v : View) → MayWithdraw v → (journal : List Event) → Reaches v journal → IsWithdraw v.sizes journal
    (withdraw_event v)
lift_withdraw v m journal r = record {
  life = refl;
  there = m.there;
  place = refl;
  word = refl;
  pass = ap
      (λ (q : Pass). q.is_open) (own_pass v journal r) ∙ m.pass;
}

-- the epoch is moved on
pub lift_move : (v : View) (seen : ℕ) → MayMoveEpoch v seen → (journal : List Event) → Reaches v journal
    → word_at v.sizes journal (epoch_at v.sizes) ≡ seen → IsMoveEpoch v.sizes journal (move_event v seen)
lift_move v seen m journal r is = record {
  life = refl;
  there = m.there;
  place = refl;
  word = ap (λ (w : ℕ). w + 1) (sym is);
  loaded = m.loaded;
  before = prefix_trans m.loaded v.front journal m.before r.front;
  seen = m.word ∙ sym is;
  checked = λ i t. let c = m.checked i t in record {
    moment = c.moment;
    after = c.after;
    before = prefix_trans c.moment v.front journal c.before r.front;
    clear = subst (λ (w : ℕ). (word_at v.sizes c.moment (announce_at v.sizes i) ≡ 0) ⊎
        (w + 1 ≤ word_at v.sizes c.moment (announce_at v.sizes i))) (sym is) c.clear;
  };
  closed = ap (λ (q : Pass). q.is_open) (own_pass v journal r) ∙ m.closed;
  limit = let same = made_quiet moves v.number v.last v.front journal r.front r.old r.quiet in omega
      (arith, same, m.limit);
}
