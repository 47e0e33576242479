-- On the worked journal a token knows enough for a step of each kind, computed.
use Rattle.std.proofs.Common.{◌≡◌, ℕ, zero, suc, ◌<◌, ◌≤◌, true, false, true≢false, not, ◌==◌, List, take, length, drop}
use Rattle.std.proofs.Common.{refl, sym, arith, inl, inr, lit<, lit≤, take-append-drop}
use Rattle.std.specs.List.{list_all}
use Rattle.packed_link.specs.Link.{pack, nowhere}
use Rattle.packed_link.specs.Layout.{bucket_at, link_at, second_at}
use Rattle.core_journal.specs.declared.event.Event.{Event}
use Rattle.core_journal.specs.Life.{link_of}
use Rattle.core_journal.specs.Machine.{machine, word_at}
use Rattle.core_journal.specs.Prefix.{IsPrefix}
use Rattle.core_journal.specs.Reuse.{pass_in}
use Rattle.core_journal.specs.State.{Linked, state}
use Rattle.core_journal.specs.Worked.{small, first_life}
use Rattle.core_kept.specs.Facts.{HasMet}
use Rattle.core_rule.specs.Fronts.{MetVertex, MetEdge, MayPopFree, MayStorePrivate, MayLinkVertex, MayMarkVertex}
use Rattle.core_rule.specs.Fronts.{MayUnlinkVertex, MayLinkEdge, MayRaise, MayMarkEdge, MayUnlinkEdge, MayAnnounce}
use Rattle.core_rule.specs.Fronts.{MayWithdraw, MayMoveEpoch, MayFreezeHead, MayFreezeEdge, MayStoreFree, MayPushFree}
use Rattle.core_kept.specs.Kept.{IsKept}
use Rattle.core_worked.specs.KnownSteps.{view_of, view_at, MakesNext}
use Rattle.core_kept.specs.Nodes.{node_in}
use Rattle.core_rule.specs.Owes.{Reaches}
use Rattle.core_rule.specs.OwnEvents.{pop_event, store_event, link_vertex_event, mark_vertex_event, unlink_vertex_event}
use Rattle.core_rule.specs.OwnEvents.{link_edge_event, raise_event, mark_edge_event, unlink_edge_event, announce_event}
use Rattle.core_rule.specs.OwnEvents.{withdraw_event, move_event, freeze_head_event, freeze_edge_event}
use Rattle.core_rule.specs.OwnEvents.{store_free_event, push_event}
use Rattle.core_kept.specs.Passes.{IsChecked}
use Rattle.core_worked.specs.TwoLives.{two_lives}
use Rattle.core_rule.specs.declared.view.View.{View}
use Rattle.core_lists.proofs.FrozenToEndIsList.{has_keeps}
use Rattle.core_kept.proofs.Induction.{kept_front}
use Rattle.core_worked.proofs.TwoLivesShown.{small_layout}
use Rattle.core_worked.proofs.SmallSteps.{whole, quiet_from, none_fresh, frozen_list, on_none, on_one}
use Rattle.core_worked.proofs.TwoLives.{before, event, ripe, two_lives_kept}

module _ (journal : List Event) (kept : IsKept small journal) where
  -- each front is kept
  pub front_kept : (n : ℕ) → IsKept small (take n journal)
  front_kept n = kept_front small (take n journal) journal (record
      { rest = drop n journal; whole = take-append-drop n journal }) kept

  -- a token that made no event behind its front may meet a longer one
  pub reached : (caller n m : ℕ) → IsPrefix (take n journal) (take m journal) → list_all (λ e. not (e.caller == caller))
      (drop n (take m journal)) ≡ true → n ≤ length (take n journal) → Reaches (view_of journal caller n)
      (take m journal)
  reached caller n m front quiet old = record {
    kept = front_kept m;
    front = front;
    quiet = quiet_from caller n
        (take m journal) quiet;
    old = old;
  }

-- a token may meet its own front of the worked journal
own_front : (caller n : ℕ) → n ≤ length (before n) → list_all (λ e. not (e.caller == caller)) (drop n (before n)) ≡ true
    → Reaches (view_at caller n) (before n)
own_front caller n old none = reached two_lives two_lives_kept caller n n (whole (before n)) none old

pub makes_pop : MakesNext two_lives (view_at 0 52) 52 (pack 0 0 6) (pop_event (view_at 0 52) (pack 0 0 6) (pack 3 1 1))
unfolding machine word_at
makes_pop = record { reaches = own_front 0 52 (lit≤ tt) refl; finds = refl; makes = refl }

pub may_pop : MayPopFree (view_at 0 52) (pack 0 0 6) (pack 3 1 1)
unfolding machine word_at state
may_pop = record {
  there = lit< tt;
  first = before 51;
  second = before 52;
  then = record { rest = drop 51 (before 52); whole = refl };
  before = whole (before 52);
  word = refl;
  link = refl;
  holds_none = none_fresh (before 52) refl;
  limit = lit< tt;
}

pub makes_store : MakesNext two_lives (view_at 0 34) 34 (pack 4 1 0)
    (store_event (view_at 0 34) (first_life 3) 1 (pack nowhere 0 1))
unfolding machine word_at
makes_store = record { reaches = own_front 0 34 (lit≤ tt) refl; finds = refl; makes = refl }

pub may_store : MayStorePrivate (view_at 0 34) (first_life 3) 1 (pack nowhere 0 1)
unfolding state
may_store = record {
  life = record { there = lit< tt; tag = refl };
  field_is = lit< tt;
  fits = lit< tt;
  link = λ _. (refl, refl);
  fresh = record { fresh = refl; mine = refl };
}

pub makes_link_vertex : MakesNext two_lives (view_at 0 16) 16 (pack nowhere 0 1)
    (link_vertex_event (view_at 0 16) (link_at small 0) (pack nowhere 0 1) 2 (first_life 1))
unfolding machine word_at
makes_link_vertex = record { reaches = own_front 0 16 (lit≤ tt) refl; finds = refl; makes = refl }

-- a linked node is met in an open pass
met : (v : View) (x : ℕ) → (pass_in v.sizes v.front v.number).is_open ≡ true → (node_in v.sizes v.front x).mode ≡ Linked
    → HasMet v.sizes v.front v.number x
met v x runs linked = record {
  pass = runs;
  free = λ h. absurd (cc);
  fresh = λ h. absurd (cc);
  spent = λ h. absurd
      (cc);
}

-- the first life of a linked node is that of a vertex, or of an edge from node 0, that was met
pub met_vertex : (v : View) (x : ℕ) → x < v.sizes.nodes → (node_in v.sizes v.front x).tag ≡ 1 →
    (pass_in v.sizes v.front v.number).is_open ≡ true → (node_in v.sizes v.front x).mode ≡ Linked →
    (node_in v.sizes v.front x).vertex ≡ true
    → MetVertex v (first_life x)
met_vertex v x there tag runs linked vertex = record {
  life = record { there = there; tag = sym tag };
  met = met v x
      runs linked;
  vertex = vertex;
}

pub met_edge : (v : View) (x : ℕ) → x < v.sizes.nodes → (node_in v.sizes v.front x).tag ≡ 1 →
    (pass_in v.sizes v.front v.number).is_open ≡ true → (node_in v.sizes v.front x).mode ≡ Linked →
    (node_in v.sizes v.front x).vertex ≡ false → (node_in v.sizes v.front x).source ≡ first_life 0
    → MetEdge v (first_life 0) (first_life x)
met_edge v x there tag runs linked edge from = record {
  life = record { there = there; tag = sym tag };
  met = met v x
      runs linked;
  edge = edge;
  from = from;
}

pub may_link_vertex : MayLinkVertex (view_at 0 16) (link_at small 0) (pack nowhere 0 1) 2 (first_life 1)
unfolding machine word_at state
may_link_vertex = record {
  life = record { there = lit< tt; tag = refl };
  pass = refl;
  before = inr (
    first_life 0,
    record {
      met = met_vertex (view_at 0 16) 0
          (lit< tt) refl refl refl refl;
      place_is = refl;
      below = lit< tt;
      bucket = refl;
    },
  );
  behind = λ ne. absurd (ne refl);
  unmarked = refl;
  fresh = record { fresh = refl; mine = refl };
  filled = record { key_word = refl; key_fits = lit< tt; link_word = refl; second_word = refl; third_word = refl };
}

pub makes_mark_vertex : MakesNext two_lives (view_at 0 40) 40 (pack 1 0 1)
    (mark_vertex_event (view_at 0 40) (first_life 0) (pack 1 0 1))
unfolding machine word_at
makes_mark_vertex = record { reaches = own_front 0 40 (lit≤ tt) refl; finds = refl; makes = refl }

pub may_mark_vertex : MayMarkVertex (view_at 0 40) (first_life 0)
unfolding state
may_mark_vertex = record { vertex = met_vertex (view_at 0 40) 0 (lit< tt) refl refl refl refl }

pub makes_unlink_vertex : MakesNext two_lives (view_at 0 41) 41 (pack 0 0 0)
    (unlink_vertex_event (view_at 0 41) (bucket_at small 0) (pack 0 0 0) 1 (first_life 0))
unfolding machine word_at
makes_unlink_vertex = record { reaches = own_front 0 41 (lit≤ tt) refl; finds = refl; makes = refl }

pub may_unlink_vertex : MayUnlinkVertex (view_at 0 41) (bucket_at small 0) (pack 0 0 0) 1 (first_life 0)
unfolding machine word_at state
may_unlink_vertex = record {
  pass = refl;
  before = inl (0, lit< tt, refl);
  unmarked = refl;
  leads = refl;
  vertex = met_vertex (view_at 0 41) 0 (lit< tt) refl refl refl refl;
  dead = refl;
  next_is = refl;
}

pub makes_link_edge : MakesNext two_lives (view_at 0 37) 37 (pack nowhere 0 1)
    (link_edge_event (view_at 0 37) (second_at small 0) (pack nowhere 0 1) 2 (first_life 0) (first_life 1) 6
    (first_life 3))
unfolding machine word_at
makes_link_edge = record { reaches = own_front 0 37 (lit≤ tt) refl; finds = refl; makes = refl }

pub may_link_edge : MayLinkEdge (view_at 0 37) (second_at small 0) (pack nowhere 0 1) 2 (first_life 0) (first_life 1) 6
    (first_life 3)
unfolding machine word_at state
may_link_edge = record {
  life = record { there = lit< tt; tag = refl };
  from = met_vertex (view_at 0 37) 0 (lit< tt) refl refl refl refl;
  before = inl refl;
  behind = λ ne. absurd (ne refl);
  unmarked = refl;
  fresh = record { fresh = refl; mine = refl };
  filled = record {
    key_word = refl;
    key_fits = lit< tt;
    link_word = refl;
    second_word = refl;
    third_word = refl;
    some =
        lit≤ tt;
    weight_fits = lit< tt;
  };
  to = met_vertex (view_at 0 37) 1 (lit< tt) refl refl refl refl;
  to_key = refl;
}

pub makes_raise : MakesNext two_lives (view_at 0 27) 27 0 (raise_event (view_at 0 27) (first_life 0) 0)
unfolding machine word_at
makes_raise = record { reaches = own_front 0 27 (lit≤ tt) refl; finds = refl; makes = refl }

pub may_raise : MayRaise (view_at 0 27) (first_life 0)
unfolding state link_of
may_raise = record {
  vertex = met_vertex (view_at 0 27) 0 (lit< tt) refl refl refl refl;
  moment = before 27;
  before = whole (before 27);
  since = lit< tt;
  edge = first_life 2;
  link = event 24;
  linked = refl;
  from = refl;
  unmarked = refl;
  limit = lit< tt;
}

pub makes_mark_edge : MakesNext two_lives (view_at 0 28) 28 (pack nowhere 0 1)
    (mark_edge_event (view_at 0 28) (first_life 2) (pack nowhere 0 1))
unfolding machine word_at
makes_mark_edge = record { reaches = own_front 0 28 (lit≤ tt) refl; finds = refl; makes = refl }

pub may_mark_edge : MayMarkEdge (view_at 0 28) (first_life 0) (first_life 2)
unfolding state
may_mark_edge = record {
  edge = met_edge (view_at 0 28) 2 (lit< tt) refl refl refl refl refl;
  raised = record {
    number = 27;
    since = lit< tt;
    raise = event 27;
    at = refl;
    kind = refl;
    by = refl;
    vertex = refl;
    linked = refl;
  };
}

pub makes_unlink_edge : MakesNext two_lives (view_at 0 29) 29 (pack 2 0 1)
    (unlink_edge_event (view_at 0 29) (second_at small 0) (pack 2 0 1) nowhere (first_life 2))
unfolding machine word_at
makes_unlink_edge = record { reaches = own_front 0 29 (lit≤ tt) refl; finds = refl; makes = refl }

pub may_unlink_edge : MayUnlinkEdge (view_at 0 29) (second_at small 0) (pack 2 0 1) nowhere (first_life 0)
    (first_life 2)
unfolding machine word_at state
may_unlink_edge = record {
  from = met_vertex (view_at 0 29) 0 (lit< tt) refl refl refl refl;
  before = inl refl;
  unmarked = refl;
  leads = refl;
  edge = met_edge (view_at 0 29) 2 (lit< tt) refl refl refl refl refl;
  dead = refl;
  next_is = refl;
}

pub makes_announce : MakesNext two_lives (view_at 0 51) 51 0 (announce_event (view_at 0 51) 2)
unfolding machine word_at
makes_announce = record { reaches = own_front 0 51 (lit≤ tt) refl; finds = refl; makes = refl }

pub may_announce : MayAnnounce (view_at 0 51) 2
unfolding machine word_at state
may_announce = record {
  there = lit< tt;
  loaded = before 47;
  before = record
      { rest = drop 47 (before 51); whole = refl };
  word = refl;
  closed = refl;
}

pub makes_withdraw : MakesNext two_lives (view_at 0 44) 44 1 (withdraw_event (view_at 0 44))
unfolding machine word_at
makes_withdraw = record { reaches = own_front 0 44 (lit≤ tt) refl; finds = refl; makes = refl }

pub may_withdraw : MayWithdraw (view_at 0 44)
unfolding state
may_withdraw = record { there = lit< tt; pass = refl }

pub makes_move : MakesNext two_lives (view_at 1 2) 45 0 (move_event (view_at 1 2) 0)
unfolding machine word_at
makes_move = record {
  reaches = reached two_lives two_lives_kept 1 2 45 (record { rest = drop 2 (before 45); whole = refl }) refl (lit≤ tt);
  finds = refl;
  makes = refl;
}

pub may_move : MayMoveEpoch (view_at 1 2) 0
unfolding machine word_at state
may_move = record {
  there = lit< tt;
  loaded = before 2;
  before = whole (before 2);
  word = refl;
  checked = checked;
  closed = refl;
  limit = lit< tt;
}
  where
    checked : (i : ℕ) → i < 2 → IsChecked small (before 2) (before 2) 0 i
    checked zero t = record { moment = before 2; after = whole (before 2); before = whole (before 2); clear = inl refl }
    checked (suc zero) t = record {
      moment = before 2;
      after = whole (before 2);
      before = whole
          (before 2);
      clear = inl refl;
    }
    checked (suc (suc n)) t = absurd (omega (arith, t))

pub makes_freeze_head : MakesNext two_lives (view_at 0 42) 42 (pack 3 0 1)
    (freeze_head_event (view_at 0 42) (first_life 0) (pack 3 0 1))
unfolding machine word_at
makes_freeze_head = record { reaches = own_front 0 42 (lit≤ tt) refl; finds = refl; makes = refl }

pub may_freeze_head : MayFreezeHead (view_at 0 42) (first_life 0)
unfolding state
may_freeze_head = record {
  life = record { there = lit< tt; tag = refl };
  spent = record
      { spent = refl; vertex = refl; mine = refl };
}

pub makes_freeze_edge : MakesNext two_lives (view_at 0 43) 43 (pack nowhere 0 1)
    (freeze_edge_event (view_at 0 43) (first_life 3) (pack nowhere 0 1))
unfolding machine word_at
makes_freeze_edge = record { reaches = own_front 0 43 (lit≤ tt) refl; finds = refl; makes = refl }

pub may_freeze_edge : MayFreezeEdge (view_at 0 43) (first_life 0) (second_at small 0) (first_life 3)
unfolding machine word_at state
may_freeze_edge = record {
  life = record { there = lit< tt; tag = refl };
  spent = record { spent = refl; vertex = refl; mine = refl };
  list = has_keeps small small_layout (before 43) (front_kept two_lives two_lives_kept 43) 0
      (record { there = lit< tt; used = tt; vertex = refl; unfinished = λ f. true≢false (sym (f.edges 3 refl)) });
  frozen = record { head = refl; at = inl refl };
  edge = record { there = lit< tt; tag = refl };
  leads = refl;
}

pub makes_store_edge : MakesNext two_lives (view_at 0 47) 47 (pack nowhere 1 1)
    (store_free_event (view_at 0 47) 4 (first_life 3))
unfolding machine word_at
makes_store_edge = record { reaches = own_front 0 47 (lit≤ tt) refl; finds = refl; makes = refl }

pub may_store_edge : MayStoreFree (view_at 0 47) 4 (first_life 3)
unfolding machine word_at state
may_store_edge = record {
  life = record { there = lit< tt; tag = refl };
  next_there = inl (lit< tt);
  ripe = ripe (before 47) 3 (record { rest = drop 47 (before 47); whole = refl }) refl refl refl refl;
  own_list = λ h. absurd (true≢false (sym h));
  list = on_one (before 47) 3 (frozen_list (before 47) refl refl refl) refl;
}

pub makes_store_vertex : MakesNext two_lives (view_at 0 49) 49 (pack 1 1 1)
    (store_free_event (view_at 0 49) 3 (first_life 0))
unfolding machine word_at
makes_store_vertex = record { reaches = own_front 0 49 (lit≤ tt) refl; finds = refl; makes = refl }

pub may_store_vertex : MayStoreFree (view_at 0 49) 3 (first_life 0)
unfolding machine word_at state
may_store_vertex = record {
  life = record { there = lit< tt; tag = refl };
  next_there = inl (lit< tt);
  ripe = ripe (before 49) 0 (record { rest = drop 47 (before 49); whole = refl }) refl refl refl refl;
  own_list = λ _. frozen_list (before 49) refl refl refl;
  list = on_none (before 49) 0 refl;
}

pub makes_push : MakesNext two_lives (view_at 0 50) 50 (pack 3 0 5)
    (push_event (view_at 0 50) (pack 3 0 5) (first_life 0))
unfolding machine word_at
makes_push = record { reaches = own_front 0 50 (lit≤ tt) refl; finds = refl; makes = refl }

pub may_push : MayPushFree (view_at 0 50) (pack 3 0 5) (first_life 0)
unfolding machine word_at state
may_push = record {
  life = record { there = lit< tt; tag = refl };
  first = before 50;
  before = whole (before 50);
  word = refl;
  ripe = ripe (before 50) 0 (record { rest = drop 47 (before 50); whole = refl }) refl refl refl refl;
  stored = refl;
  ready = refl;
}
