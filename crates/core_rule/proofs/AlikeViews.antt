-- Facts of a view don't read its book, its last event, the numbers that were joined and the right to draw: they are so
-- of
-- each view of the same table, caller and front.
use Rattle.std.proofs.Common.{◌≡◌, ℕ, inl, inr, sym, subst, ⊎_elim, Option, ap}
use Rattle.packed_link.specs.Link.{index_of}
use Rattle.packed_link.specs.declared.link.Life.{Life}
use Rattle.core_rule.specs.Fronts.{IsLifeAt, MetVertex, MetEdge, MayPopFree, MayStorePrivate, IsVertexBelow}
use Rattle.core_rule.specs.Fronts.{IsBeforeVertex, IsVertexAbove, MayLinkVertex, MayMarkVertex, IsVertexLink}
use Rattle.core_rule.specs.Fronts.{LeadsToVertex, MayUnlinkVertex, IsEdgeBelow, IsBeforeEdge, IsEdgeAbove, MayLinkEdge}
use Rattle.core_rule.specs.Fronts.{MayRaise, MayMarkEdge, MayReplaceEdge, IsEdgeLink, LeadsToEdge, MayUnlinkEdge}
use Rattle.core_rule.specs.Fronts.{MayAnnounce, MayWithdraw, MayMoveEpoch, MayFreezeHead, MayFreezeEdge, MayStoreFree}
use Rattle.core_rule.specs.Fronts.{MayPushFree}
use Rattle.core_rule.specs.Retired.{IsRetired}
use Rattle.core_rule.specs.Stretches.{HasNoFresh, IsAlike, IsTargetShown, spent_since}
use Rattle.core_rule.specs.declared.view.View.{View}

module _ (v w : View) where
  -- the second view with the table, the caller and the front of the first
  abbrev as_front : View
  as_front = record w { sizes = v.sizes; front = v.front; number = v.number }

  life_at_here : (x : Life) → IsLifeAt v x → IsLifeAt as_front x
  life_at_here x m = record { there = m.there; tag = m.tag }

  met_vertex_here : (x : Life) → MetVertex v x → MetVertex as_front x
  met_vertex_here x m = record { life = life_at_here x m.life; met = m.met; vertex = m.vertex }

  met_edge_here : (source x : Life) → MetEdge v source x → MetEdge as_front source x
  met_edge_here source x m = record { life = life_at_here x m.life; met = m.met; edge = m.edge; from = m.from }

  may_pop_free_here : (seen next : ℕ) → MayPopFree v seen next → MayPopFree as_front seen next
  may_pop_free_here seen next m = record {
    there = m.there;
    first = m.first;
    second = m.second;
    then = m.then;
    before =
        m.before;
    word = m.word;
    link = m.link;
    holds_none = m.holds_none;
    limit = m.limit;
  }

  may_store_private_here : (x : Life) (field word : ℕ) → MayStorePrivate v x field word
      → MayStorePrivate as_front x field word
  may_store_private_here x field word m = record {
    life = life_at_here x m.life;
    field_is = m.field_is;
    fits = m.fits;
    link = m.link;
    fresh = m.fresh;
  }

  vertex_below_here : (key place : ℕ) (x : Life) → IsVertexBelow v key place x → IsVertexBelow as_front key place x
  vertex_below_here key place x m = record {
    met = met_vertex_here x m.met;
    place_is = m.place_is;
    below = m.below;
    bucket = m.bucket;
  }

  before_vertex_here : (key place : ℕ) → IsBeforeVertex v key place → IsBeforeVertex as_front key place
  before_vertex_here key place m = ⊎_elim (λ h. inl h) (λ (h : (x : Life) × IsVertexBelow v key place x). inr
      (h.0, vertex_below_here key place h.0 h.1)) m

  vertex_above_here : (key index : ℕ) → IsVertexAbove v key index → IsVertexAbove as_front key index
  vertex_above_here key index m = record {
    life = m.life;
    is = m.is;
    met = met_vertex_here m.life m.met;
    above = m.above;
  }

  may_link_vertex_here : (place seen key : ℕ) (x : Life) → MayLinkVertex v place seen key x
      → MayLinkVertex as_front place seen key x
  may_link_vertex_here place seen key x m = record {
    life = life_at_here x m.life;
    pass = m.pass;
    before =
        before_vertex_here key place m.before;
    behind = λ some. vertex_above_here key (index_of seen)
        (m.behind some);
    unmarked = m.unmarked;
    fresh = m.fresh;
    filled = m.filled;
  }

  may_mark_vertex_here : (x : Life) → MayMarkVertex v x → MayMarkVertex as_front x
  may_mark_vertex_here x m = record { vertex = met_vertex_here x m.vertex }

  vertex_link_here : (place : ℕ) (x : Life) → IsVertexLink v place x → IsVertexLink as_front place x
  vertex_link_here place x m = record { met = met_vertex_here x m.met; place_is = m.place_is }

  leads_to_vertex_here : (place : ℕ) → LeadsToVertex v place → LeadsToVertex as_front place
  leads_to_vertex_here place m = ⊎_elim (λ h. inl h) (λ (h : (x : Life) × IsVertexLink v place x). inr
      (h.0, vertex_link_here place h.0 h.1)) m

  may_unlink_vertex_here : (place seen next : ℕ) (x : Life) → MayUnlinkVertex v place seen next x
      → MayUnlinkVertex as_front place seen next x
  may_unlink_vertex_here place seen next x m = record {
    pass = m.pass;
    before = leads_to_vertex_here place m.before;
    unmarked = m.unmarked;
    leads = m.leads;
    vertex = met_vertex_here x m.vertex;
    dead = m.dead;
    next_is = m.next_is;
  }

  edge_below_here : (source : Life) (key place : ℕ) (x : Life) → IsEdgeBelow v source key place x
      → IsEdgeBelow as_front source key place x
  edge_below_here source key place x m = record {
    met = met_edge_here source x m.met;
    place_is = m.place_is;
    below =
        m.below;
  }

  before_edge_here : (source : Life) (key place : ℕ) → IsBeforeEdge v source key place
      → IsBeforeEdge as_front source key place
  before_edge_here source key place m = ⊎_elim (λ h. inl h) (λ (h : (x : Life) × IsEdgeBelow v source key place x). inr
      (h.0, edge_below_here source key place h.0 h.1)) m

  edge_above_here : (source : Life) (key index : ℕ) → IsEdgeAbove v source key index
      → IsEdgeAbove as_front source key index
  edge_above_here source key index m = record {
    life = m.life;
    is = m.is;
    met = met_edge_here source m.life m.met;
    above
        = m.above;
  }

  may_link_edge_here : (place seen key : ℕ) (source target : Life) (weight : ℕ) (x : Life)
      → MayLinkEdge v place seen key source target weight x → MayLinkEdge as_front place seen key source target weight x
  may_link_edge_here place seen key source target weight x m = record {
    life = life_at_here x m.life;
    from = met_vertex_here source m.from;
    before = before_edge_here source key place
        m.before;
    behind = λ some. edge_above_here source key (index_of seen)
        (m.behind some);
    unmarked = m.unmarked;
    fresh = m.fresh;
    filled = m.filled;
    to = met_vertex_here target m.to;
    to_key = m.to_key;
  }

  may_raise_here : (x : Life) → MayRaise v x → MayRaise as_front x
  may_raise_here x m = record {
    vertex = met_vertex_here x m.vertex;
    moment = m.moment;
    before = m.before;
    since =
        m.since;
    edge = m.edge;
    link = m.link;
    linked = m.linked;
    from = m.from;
    unmarked = m.unmarked;
    limit = m.limit;
  }

  may_mark_edge_here : (source x : Life) → MayMarkEdge v source x → MayMarkEdge as_front source x
  may_mark_edge_here source x m = record { edge = met_edge_here source x m.edge; raised = m.raised }

  may_replace_edge_here : (seen key : ℕ) (source target : Life) (weight : ℕ) (old x : Life)
      → MayReplaceEdge v seen key source target weight old x → MayReplaceEdge as_front seen key source target weight old
      x
  may_replace_edge_here seen key source target weight old x m = record {
    life = life_at_here x m.life;
    edge = met_edge_here source old m.edge;
    raised = m.raised;
    unmarked = m.unmarked;
    fresh = m.fresh;
    filled = m.filled;
    link = m.link;
    link_is = m.link_is;
    same_key = m.same_key;
    same_target =
        m.same_target;
    other_weight = m.other_weight;
  }

  edge_link_here : (source : Life) (place : ℕ) (x : Life) → IsEdgeLink v source place x
      → IsEdgeLink as_front source place x
  edge_link_here source place x m = record { met = met_edge_here source x m.met; place_is = m.place_is }

  leads_to_edge_here : (source : Life) (place : ℕ) → LeadsToEdge v source place → LeadsToEdge as_front source place
  leads_to_edge_here source place m = ⊎_elim (λ h. inl h) (λ (h : (x : Life) × IsEdgeLink v source place x). inr
      (h.0, edge_link_here source place h.0 h.1)) m

  may_unlink_edge_here : (place seen next : ℕ) (source x : Life) → MayUnlinkEdge v place seen next source x
      → MayUnlinkEdge as_front place seen next source x
  may_unlink_edge_here place seen next source x m = record {
    from = met_vertex_here source m.from;
    before =
        leads_to_edge_here source place m.before;
    unmarked = m.unmarked;
    leads = m.leads;
    edge = met_edge_here source x
        m.edge;
    dead = m.dead;
    next_is = m.next_is;
  }

  may_announce_here : (epoch : ℕ) → MayAnnounce v epoch → MayAnnounce as_front epoch
  may_announce_here epoch m = record {
    there = m.there;
    loaded = m.loaded;
    before = m.before;
    word = m.word;
    closed =
        m.closed;
  }

  may_withdraw_here : MayWithdraw v → MayWithdraw as_front
  may_withdraw_here m = record { there = m.there; pass = m.pass }

  may_move_epoch_here : (seen : ℕ) → MayMoveEpoch v seen → MayMoveEpoch as_front seen
  may_move_epoch_here seen m = record {
    there = m.there;
    loaded = m.loaded;
    before = m.before;
    word = m.word;
    checked =
        m.checked;
    closed = m.closed;
    limit = m.limit;
  }

  may_freeze_head_here : (x : Life) → MayFreezeHead v x → MayFreezeHead as_front x
  may_freeze_head_here x m = record { life = life_at_here x m.life; spent = m.spent }

  may_freeze_edge_here : (source : Life) (place : ℕ) (x : Life) → MayFreezeEdge v source place x
      → MayFreezeEdge as_front source place x
  may_freeze_edge_here source place x m = record {
    life = life_at_here source m.life;
    spent = m.spent;
    list = m.list;
    frozen = m.frozen;
    edge = life_at_here x m.edge;
    leads = m.leads;
  }

  may_store_free_here : (next : ℕ) (x : Life) → MayStoreFree v next x → MayStoreFree as_front next x
  may_store_free_here next x m = record {
    life = life_at_here x m.life;
    next_there = m.next_there;
    ripe = m.ripe;
    own_list = m.own_list;
    list = m.list;
  }

  may_push_free_here : (seen : ℕ) (x : Life) → MayPushFree v seen x → MayPushFree as_front seen x
  may_push_free_here seen x m = record {
    life = life_at_here x m.life;
    first = m.first;
    before = m.before;
    word =
        m.word;
    ripe = m.ripe;
    stored = m.stored;
    ready = m.ready;
  }

  has_no_fresh_here : HasNoFresh v → HasNoFresh as_front
  has_no_fresh_here m = record { none = m.none }

  target_shown_here : (x : Life) → IsTargetShown v x → IsTargetShown as_front x
  target_shown_here x m = record {
    link = m.link;
    is = m.is;
    index = m.index;
    tag = m.tag;
    there = m.there;
    low = m.low;
  }

  retired_here : (but : Option ℕ) (x : Life) (stamp : ℕ) → IsRetired but v x stamp → IsRetired but as_front x stamp
  retired_here but x stamp m = record {
    life = life_at_here x m.life;
    stamped = m.stamped;
    shown = record { moment = m.shown.moment; before = m.shown.before; epoch = m.shown.epoch };
    own_list = m.own_list;
    list = m.list;
  }

  module _ (a : IsAlike v w) where
    alike_is : w ≡ as_front
    alike_is = λ i. record w { sizes = a.sizes i; front = a.front i; number = a.number i }

    pub life_at_alike : (x : Life) → IsLifeAt v x → IsLifeAt w x
    life_at_alike x m = subst (λ (u : View). IsLifeAt u x) (sym alike_is) (life_at_here x m)

    pub met_vertex_alike : (x : Life) → MetVertex v x → MetVertex w x
    met_vertex_alike x m = subst (λ (u : View). MetVertex u x) (sym alike_is) (met_vertex_here x m)

    pub met_edge_alike : (source x : Life) → MetEdge v source x → MetEdge w source x
    met_edge_alike source x m = subst (λ (u : View). MetEdge u source x) (sym alike_is) (met_edge_here source x m)

    pub may_pop_free_alike : (seen next : ℕ) → MayPopFree v seen next → MayPopFree w seen next
    may_pop_free_alike seen next m = subst (λ (u : View). MayPopFree u seen next) (sym alike_is)
        (may_pop_free_here seen next m)

    pub may_store_private_alike : (x : Life) (field word : ℕ) → MayStorePrivate v x field word
        → MayStorePrivate w x field word
    may_store_private_alike x field word m = subst (λ (u : View). MayStorePrivate u x field word) (sym alike_is)
        (may_store_private_here x field word m)

    pub vertex_below_alike : (key place : ℕ) (x : Life) → IsVertexBelow v key place x → IsVertexBelow w key place x
    vertex_below_alike key place x m = subst (λ (u : View). IsVertexBelow u key place x) (sym alike_is)
        (vertex_below_here key place x m)

    pub before_vertex_alike : (key place : ℕ) → IsBeforeVertex v key place → IsBeforeVertex w key place
    before_vertex_alike key place m = subst (λ (u : View). IsBeforeVertex u key place) (sym alike_is)
        (before_vertex_here key place m)

    pub vertex_above_alike : (key index : ℕ) → IsVertexAbove v key index → IsVertexAbove w key index
    vertex_above_alike key index m = subst (λ (u : View). IsVertexAbove u key index) (sym alike_is)
        (vertex_above_here key index m)

    pub may_link_vertex_alike : (place seen key : ℕ) (x : Life) → MayLinkVertex v place seen key x
        → MayLinkVertex w place seen key x
    may_link_vertex_alike place seen key x m = subst (λ (u : View). MayLinkVertex u place seen key x) (sym alike_is)
        (may_link_vertex_here place seen key x m)

    pub may_mark_vertex_alike : (x : Life) → MayMarkVertex v x → MayMarkVertex w x
    may_mark_vertex_alike x m = subst (λ (u : View). MayMarkVertex u x) (sym alike_is) (may_mark_vertex_here x m)

    pub vertex_link_alike : (place : ℕ) (x : Life) → IsVertexLink v place x → IsVertexLink w place x
    vertex_link_alike place x m = subst (λ (u : View). IsVertexLink u place x) (sym alike_is)
        (vertex_link_here place x m)

    pub leads_to_vertex_alike : (place : ℕ) → LeadsToVertex v place → LeadsToVertex w place
    leads_to_vertex_alike place m = subst (λ (u : View). LeadsToVertex u place) (sym alike_is)
        (leads_to_vertex_here place m)

    pub may_unlink_vertex_alike : (place seen next : ℕ) (x : Life) → MayUnlinkVertex v place seen next x
        → MayUnlinkVertex w place seen next x
    may_unlink_vertex_alike place seen next x m = subst (λ (u : View). MayUnlinkVertex u place seen next x)
        (sym alike_is) (may_unlink_vertex_here place seen next x m)

    pub edge_below_alike : (source : Life) (key place : ℕ) (x : Life) → IsEdgeBelow v source key place x
        → IsEdgeBelow w source key place x
    edge_below_alike source key place x m = subst (λ (u : View). IsEdgeBelow u source key place x) (sym alike_is)
        (edge_below_here source key place x m)

    pub before_edge_alike : (source : Life) (key place : ℕ) → IsBeforeEdge v source key place
        → IsBeforeEdge w source key place
    before_edge_alike source key place m = subst (λ (u : View). IsBeforeEdge u source key place) (sym alike_is)
        (before_edge_here source key place m)

    pub edge_above_alike : (source : Life) (key index : ℕ) → IsEdgeAbove v source key index
        → IsEdgeAbove w source key index
    edge_above_alike source key index m = subst (λ (u : View). IsEdgeAbove u source key index) (sym alike_is)
        (edge_above_here source key index m)

    pub may_link_edge_alike : (place seen key : ℕ) (source target : Life) (weight : ℕ) (x : Life)
        → MayLinkEdge v place seen key source target weight x → MayLinkEdge w place seen key source target weight x
    may_link_edge_alike place seen key source target weight x m = subst
        (λ (u : View). MayLinkEdge u place seen key source target weight x) (sym alike_is)
        (may_link_edge_here place seen key source target weight x m)

    pub may_raise_alike : (x : Life) → MayRaise v x → MayRaise w x
    may_raise_alike x m = subst (λ (u : View). MayRaise u x) (sym alike_is) (may_raise_here x m)

    pub may_mark_edge_alike : (source x : Life) → MayMarkEdge v source x → MayMarkEdge w source x
    may_mark_edge_alike source x m = subst (λ (u : View). MayMarkEdge u source x) (sym alike_is)
        (may_mark_edge_here source x m)

    pub may_replace_edge_alike : (seen key : ℕ) (source target : Life) (weight : ℕ) (old x : Life)
        → MayReplaceEdge v seen key source target weight old x → MayReplaceEdge w seen key source target weight old x
    may_replace_edge_alike seen key source target weight old x m = subst
        (λ (u : View). MayReplaceEdge u seen key source target weight old x) (sym alike_is)
        (may_replace_edge_here seen key source target weight old x m)

    pub edge_link_alike : (source : Life) (place : ℕ) (x : Life) → IsEdgeLink v source place x
        → IsEdgeLink w source place x
    edge_link_alike source place x m = subst (λ (u : View). IsEdgeLink u source place x) (sym alike_is)
        (edge_link_here source place x m)

    pub leads_to_edge_alike : (source : Life) (place : ℕ) → LeadsToEdge v source place → LeadsToEdge w source place
    leads_to_edge_alike source place m = subst (λ (u : View). LeadsToEdge u source place) (sym alike_is)
        (leads_to_edge_here source place m)

    pub may_unlink_edge_alike : (place seen next : ℕ) (source x : Life) → MayUnlinkEdge v place seen next source x
        → MayUnlinkEdge w place seen next source x
    may_unlink_edge_alike place seen next source x m = subst (λ (u : View). MayUnlinkEdge u place seen next source x)
        (sym alike_is) (may_unlink_edge_here place seen next source x m)

    pub may_announce_alike : (epoch : ℕ) → MayAnnounce v epoch → MayAnnounce w epoch
    may_announce_alike epoch m = subst (λ (u : View). MayAnnounce u epoch) (sym alike_is) (may_announce_here epoch m)

    pub may_withdraw_alike : MayWithdraw v → MayWithdraw w
    may_withdraw_alike m = subst (λ (u : View). MayWithdraw u) (sym alike_is) (may_withdraw_here m)

    pub may_move_epoch_alike : (seen : ℕ) → MayMoveEpoch v seen → MayMoveEpoch w seen
    may_move_epoch_alike seen m = subst (λ (u : View). MayMoveEpoch u seen) (sym alike_is) (may_move_epoch_here seen m)

    pub may_freeze_head_alike : (x : Life) → MayFreezeHead v x → MayFreezeHead w x
    may_freeze_head_alike x m = subst (λ (u : View). MayFreezeHead u x) (sym alike_is) (may_freeze_head_here x m)

    pub may_freeze_edge_alike : (source : Life) (place : ℕ) (x : Life) → MayFreezeEdge v source place x
        → MayFreezeEdge w source place x
    may_freeze_edge_alike source place x m = subst (λ (u : View). MayFreezeEdge u source place x) (sym alike_is)
        (may_freeze_edge_here source place x m)

    pub may_store_free_alike : (next : ℕ) (x : Life) → MayStoreFree v next x → MayStoreFree w next x
    may_store_free_alike next x m = subst (λ (u : View). MayStoreFree u next x) (sym alike_is)
        (may_store_free_here next x m)

    pub may_push_free_alike : (seen : ℕ) (x : Life) → MayPushFree v seen x → MayPushFree w seen x
    may_push_free_alike seen x m = subst (λ (u : View). MayPushFree u seen x) (sym alike_is)
        (may_push_free_here seen x m)

    pub has_no_fresh_alike : HasNoFresh v → HasNoFresh w
    has_no_fresh_alike m = subst (λ (u : View). HasNoFresh u) (sym alike_is) (has_no_fresh_here m)

    pub target_shown_alike : (x : Life) → IsTargetShown v x → IsTargetShown w x
    target_shown_alike x m = subst (λ (u : View). IsTargetShown u x) (sym alike_is) (target_shown_here x m)

    pub retired_alike : (but : Option ℕ) (x : Life) (stamp : ℕ) → IsRetired but v x stamp → IsRetired but w x stamp
    retired_alike but x stamp m = subst (λ (u : View). IsRetired but u x stamp) (sym alike_is)
        (retired_here but x stamp m)

    pub spent_since_alike : spent_since w ≡ spent_since v
    spent_since_alike = ap spent_since alike_is
