-- Views of the worked journals that show the same, and stretches of their steps.
use Rattle.std.proofs.Common.{◌≡◌, ◌≤◌, ℕ, ◌+◌, true, None, List, [], ◌∷◌, ◌++◌, length, refl, arith, lit<}
use Rattle.packed_link.specs.Link.{nowhere, pack}
use Rattle.packed_link.specs.Layout.{bucket_at, link_at, second_at}
use Rattle.core_journal.specs.declared.event.Event.{Event}
use Rattle.core_journal.specs.Changes.{is_idle}
use Rattle.core_journal.specs.Machine.{machine, word_at}
use Rattle.core_journal.specs.State.{state}
use Rattle.core_journal.specs.Worked.{first_life, small}
use Rattle.core_journal.proofs.GraphRows.{idle_graph}
use Rattle.core_journal.proofs.Regular.{changes_not}
use Rattle.core_rule.specs.Fronts.{IsBeforeEdge, IsBeforeVertex, IsEdgeAbove, IsEdgeBelow, IsEdgeLink, IsLifeAt}
use Rattle.core_rule.specs.Fronts.{IsVertexAbove, IsVertexBelow, IsVertexLink, LeadsToEdge, LeadsToVertex, MayAnnounce}
use Rattle.core_rule.specs.Fronts.{MayFreezeEdge, MayFreezeHead, MayLinkEdge, MayLinkVertex, MayMarkEdge, MayMarkVertex}
use Rattle.core_rule.specs.Fronts.{MayMoveEpoch, MayPopFree, MayPushFree, MayRaise, MayReplaceEdge, MayStoreFree}
use Rattle.core_rule.specs.Fronts.{MayStorePrivate, MayUnlinkEdge, MayWithdraw, MetEdge}
use Rattle.core_rule.specs.Owes.{Reaches}
use Rattle.core_rule.specs.Retired.{IsRetired}
use Rattle.core_rule.specs.Stretches.{Elsewhere, HasNoFresh, HasPass, IsAlike, IsTargetShown, Leaves, Own, spent_since}
use Rattle.core_rule.specs.Views.{GoesOn, Steps, moved_on}
use Rattle.core_rule.specs.declared.view.View.{View}
use Rattle.core_rule.proofs.AlikeViews as alike
use Rattle.core_rule.proofs.OwnStretch.{goes_between, goes_opened, goes_self, own_chain, own_event, own_look, own_self}
use Rattle.core_rule.proofs.RoomInLimbo.{spent_fit}
use Rattle.core_rule.proofs.SpentSince.{spent_since_bound, spent_since_grows}
use Rattle.core_worked.specs.KnownSteps.{view_among, view_at, view_beside, view_replacing}
use Rattle.core_worked.specs.LawSteps.{drawing_too, view_behind, view_drawing}
use Rattle.core_worked.proofs.Beside.{may_edge_before, may_link_before}
use Rattle.core_worked.proofs.KnownSteps as known
use Rattle.core_worked.proofs.LawSteps.{freezing_leaves, goes_41, kept, longer, opened_41, retired_3, spent_at_44}
use Rattle.core_worked.proofs.LawSteps.{target_tells}
use Rattle.core_worked.proofs.ReplacingSteps.{may_replace}
use Rattle.core_worked.proofs.SmallSteps.{none_fresh}
use Rattle.core_worked.proofs.TwoLives.{before, event}
use Rattle.core_worked.proofs.TwoLivesShown.{small_layout}

-- a view with the right to draw shows the same
same : (v : View) → IsAlike v (drawing_too v)
same v = record { sizes = refl; front = refl; number = refl }

abbrev at : ℕ → View
at n = view_at 0 n

-- the conditions of steps

pub pop_too : MayPopFree (view_drawing 52) (pack 0 0 6) (pack 3 1 1)
pop_too = alike.may_pop_free_alike (at 52) (view_drawing 52) (same (at 52)) (pack 0 0 6) (pack 3 1 1) known.may_pop

pub store_too : MayStorePrivate (view_drawing 34) (first_life 3) 1 (pack nowhere 0 1)
store_too = alike.may_store_private_alike (at 34) (view_drawing 34) (same (at 34)) (first_life 3) 1
    (pack nowhere 0 1) known.may_store

pub link_vertex_too : MayLinkVertex (view_drawing 16) (link_at small 0) (pack nowhere 0 1) 2 (first_life 1)
link_vertex_too = alike.may_link_vertex_alike (at 16) (view_drawing 16) (same (at 16)) (link_at small 0)
    (pack nowhere 0 1) 2 (first_life 1) known.may_link_vertex

pub mark_vertex_too : MayMarkVertex (view_drawing 40) (first_life 0)
mark_vertex_too = alike.may_mark_vertex_alike (at 40) (view_drawing 40) (same (at 40))
    (first_life 0) known.may_mark_vertex

pub link_edge_too : MayLinkEdge (view_drawing 37) (second_at small 0) (pack nowhere 0 1) 2 (first_life 0)
    (first_life 1) 6 (first_life 3)
link_edge_too = alike.may_link_edge_alike (at 37) (view_drawing 37) (same (at 37)) (second_at small 0)
    (pack nowhere 0 1) 2 (first_life 0) (first_life 1) 6 (first_life 3) known.may_link_edge

pub raise_too : MayRaise (view_drawing 27) (first_life 0)
raise_too = alike.may_raise_alike (at 27) (view_drawing 27) (same (at 27)) (first_life 0) known.may_raise

pub mark_edge_too : MayMarkEdge (view_drawing 28) (first_life 0) (first_life 2)
mark_edge_too = alike.may_mark_edge_alike (at 28) (view_drawing 28) (same (at 28)) (first_life 0)
    (first_life 2) known.may_mark_edge

pub replace_too : MayReplaceEdge (drawing_too (view_replacing 0 33)) (pack nowhere 0 1) 2 (first_life 0)
    (first_life 1) 6 (first_life 2) (first_life 3)
replace_too = alike.may_replace_edge_alike (view_replacing 0 33) (drawing_too (view_replacing 0 33))
    (same (view_replacing 0 33)) (pack nowhere 0 1) 2 (first_life 0) (first_life 1) 6 (first_life 2)
    (first_life 3) may_replace

pub unlink_edge_too : MayUnlinkEdge (view_drawing 29) (second_at small 0) (pack 2 0 1) nowhere (first_life 0)
    (first_life 2)
unlink_edge_too = alike.may_unlink_edge_alike (at 29) (view_drawing 29) (same (at 29)) (second_at small 0)
    (pack 2 0 1) nowhere (first_life 0) (first_life 2) known.may_unlink_edge

pub announce_too : MayAnnounce (view_drawing 51) 2
announce_too = alike.may_announce_alike (at 51) (view_drawing 51) (same (at 51)) 2 known.may_announce

pub withdraw_too : MayWithdraw (view_drawing 44)
withdraw_too = alike.may_withdraw_alike (at 44) (view_drawing 44) (same (at 44)) known.may_withdraw

pub move_too : MayMoveEpoch (drawing_too (view_at 1 2)) 0
move_too = alike.may_move_epoch_alike (view_at 1 2) (drawing_too (view_at 1 2)) (same (view_at 1 2)) 0 known.may_move

pub freeze_head_too : MayFreezeHead (view_drawing 42) (first_life 0)
freeze_head_too = alike.may_freeze_head_alike (at 42) (view_drawing 42) (same (at 42))
    (first_life 0) known.may_freeze_head

pub freeze_edge_too : MayFreezeEdge (view_drawing 43) (first_life 0) (second_at small 0) (first_life 3)
freeze_edge_too = alike.may_freeze_edge_alike (at 43) (view_drawing 43) (same (at 43)) (first_life 0)
    (second_at small 0) (first_life 3) known.may_freeze_edge

pub store_free_too : MayStoreFree (view_drawing 47) 4 (first_life 3)
store_free_too = alike.may_store_free_alike (at 47) (view_drawing 47) (same (at 47)) 4
    (first_life 3) known.may_store_edge

pub push_too : MayPushFree (view_drawing 50) (pack 3 0 5) (first_life 0)
push_too = alike.may_push_free_alike (at 50) (view_drawing 50) (same (at 50)) (pack 3 0 5) (first_life 0) known.may_push

-- the facts of a view

pub life_too : IsLifeAt (view_drawing 34) (first_life 3)
life_too = alike.life_at_alike (at 34) (view_drawing 34) (same (at 34)) (first_life 3) (known.may_store.life)

pub met_edge_too : MetEdge (view_drawing 28) (first_life 0) (first_life 2)
met_edge_too = alike.met_edge_alike (at 28) (view_drawing 28) (same (at 28)) (first_life 0) (first_life 2)
    (known.may_mark_edge.edge)

pub vertex_below_too : IsVertexBelow (view_drawing 16) 2 (link_at small 0) (first_life 0)
unfolding machine word_at state
vertex_below_too = alike.vertex_below_alike (at 16) (view_drawing 16) (same (at 16)) 2 (link_at small 0)
    (first_life 0) below
  where
    below : IsVertexBelow (at 16) 2 (link_at small 0) (first_life 0)
    below = record {
      met = known.met_vertex (at 16) 0 (lit< tt) refl refl refl refl;
      place_is = refl;
      below = lit< tt;
      bucket = refl;
    }

pub before_vertex_too : IsBeforeVertex (view_drawing 16) 2 (link_at small 0)
before_vertex_too = alike.before_vertex_alike (at 16) (view_drawing 16) (same (at 16)) 2 (link_at small 0)
    (known.may_link_vertex.before)

pub vertex_above_too : IsVertexAbove (drawing_too (view_beside 0 32)) 0 0
vertex_above_too = alike.vertex_above_alike (view_beside 0 32) (drawing_too (view_beside 0 32))
    (same (view_beside 0 32)) 0 0 (may_link_before.behind (λ h. omega (arith, h)))

pub vertex_link_too : IsVertexLink (drawing_too (view_among 1 23)) (link_at small 0) (first_life 0)
unfolding state
vertex_link_too = alike.vertex_link_alike (view_among 1 23) (drawing_too (view_among 1 23)) (same (view_among 1 23))
    (link_at small 0) (first_life 0) here
  where
    here : IsVertexLink (view_among 1 23) (link_at small 0) (first_life 0)
    here = record { met = known.met_vertex (view_among 1 23) 0 (lit< tt) refl refl refl refl; place_is = refl }

pub leads_to_vertex_too : LeadsToVertex (view_drawing 41) (bucket_at small 0)
leads_to_vertex_too = alike.leads_to_vertex_alike (at 41) (view_drawing 41) (same (at 41)) (bucket_at small 0)
    (known.may_unlink_vertex.before)

pub edge_below_too : IsEdgeBelow (drawing_too (view_beside 0 53)) (first_life 0) 2 (link_at small 4) (first_life 4)
unfolding machine word_at state
edge_below_too = alike.edge_below_alike (view_beside 0 53) (drawing_too (view_beside 0 53)) (same (view_beside 0 53))
    (first_life 0) 2 (link_at small 4) (first_life 4) below
  where
    below : IsEdgeBelow (view_beside 0 53) (first_life 0) 2 (link_at small 4) (first_life 4)
    below = record {
      met = known.met_edge (view_beside 0 53) 4
          (lit< tt) refl refl refl refl refl;
      place_is = refl;
      below = lit< tt;
    }

pub before_edge_too : IsBeforeEdge (view_drawing 37) (first_life 0) 2 (second_at small 0)
before_edge_too = alike.before_edge_alike (at 37) (view_drawing 37) (same (at 37)) (first_life 0) 2 (second_at small 0)
    (known.may_link_edge.before)

pub edge_above_too : IsEdgeAbove (drawing_too (view_beside 0 40)) (first_life 0) 0 2
edge_above_too = alike.edge_above_alike (view_beside 0 40) (drawing_too (view_beside 0 40)) (same (view_beside 0 40))
    (first_life 0) 0 2 (may_edge_before.behind (λ h. omega (arith, h)))

pub edge_link_too : IsEdgeLink (drawing_too (view_beside 0 45)) (first_life 0) (link_at small 4) (first_life 4)
unfolding state
edge_link_too = alike.edge_link_alike (view_beside 0 45) (drawing_too (view_beside 0 45)) (same (view_beside 0 45))
    (first_life 0) (link_at small 4) (first_life 4) here
  where
    here : IsEdgeLink (view_beside 0 45) (first_life 0) (link_at small 4) (first_life 4)
    here = record { met = known.met_edge (view_beside 0 45) 4 (lit< tt) refl refl refl refl refl; place_is = refl }

pub leads_to_edge_too : LeadsToEdge (view_drawing 29) (first_life 0) (second_at small 0)
leads_to_edge_too = alike.leads_to_edge_alike (at 29) (view_drawing 29) (same (at 29)) (first_life 0)
    (second_at small 0) (known.may_unlink_edge.before)

pub none_fresh_too : HasNoFresh (view_drawing 52)
unfolding state
none_fresh_too = alike.has_no_fresh_alike (at 52) (view_drawing 52) (same (at 52))
    (record { none = none_fresh (before 52) refl })

pub target_too : IsTargetShown (view_drawing 41) (first_life 3)
target_too = alike.target_shown_alike (at 41) (view_drawing 41) (same (at 41)) (first_life 3) target_tells

pub retired_too : IsRetired None (view_drawing 47) (first_life 3) 2
retired_too = alike.retired_alike (at 47) (view_drawing 47) (same (at 47)) None (first_life 3) 2 retired_3

pub spent_too : spent_since (view_drawing 42) ≡ spent_since (at 42)
spent_too = alike.spent_since_alike (at 42) (view_drawing 42) (same (at 42))

-- stretches of the pass that removes a vertex

-- a step is the one own event of its stretch
one : (P : List Event → Event → Type 0) (n : ℕ) → Reaches (at n) (before n) → before (n + 1) ≡ before n ++ event n ∷ []
    → P (before n) (event n) → Own P (at n) (view_behind n)
one P n reaches front p = own_event P (at n) (view_behind n) (event n)
    (record { view = refl; grown = before n; reaches = reaches; front = front; kept = kept (n + 1) }) p

-- three steps, one behind the other
three : (P : List Event → Event → Type 0) → P (before 41) (event 41) → P (before 42) (event 42) → P (before 43)
    (event 43) → Own P (at 41) (view_behind 43)
three P a b c =
    own_chain P (at 41) (at 42) (view_behind 43) refl (longer 42 44 refl)
    (one P 41 known.makes_unlink_vertex.reaches refl a)
    (own_chain P (at 42) (at 43) (view_behind 43) refl (longer 43 44 refl)
    (one P 42 known.makes_freeze_head.reaches refl b) (one P 43 known.makes_freeze_edge.reaches refl c))

-- an idle event leaves the graph
idle_leaves : (n : ℕ) → is_idle (event n).kind ≡ true → Leaves (before n) (event n)
idle_leaves n idle = changes_not (before n) (event n) (idle_graph (before n) (event n) idle)

pub all_leave : Own Leaves (at 41) (view_behind 43)
all_leave = three Leaves (idle_leaves 41 refl) (idle_leaves 42 refl) freezing_leaves

pub all_elsewhere : Own (Elsewhere (link_at small 1)) (at 41) (view_behind 43)
all_elsewhere = three (Elsewhere (link_at small 1)) (λ is. absurd (omega (arith, is)))
    (λ is. absurd (omega (arith, is))) (λ is. absurd (omega (arith, is)))

pub none_own : Own Leaves (at 40) (at 40)
none_own = own_self Leaves (at 40)

looked : Steps (view_at 1 2) None (moved_on (view_at 1 2) (before 45) 2)
looked = record { view = refl; grown = before 45; reaches = known.makes_move.reaches; front = refl; kept = kept 45 }

pub none_looking : Own Leaves (view_at 1 2) (moved_on (view_at 1 2) (before 45) 2)
none_looking = own_look Leaves (view_at 1 2) (moved_on (view_at 1 2) (before 45) 2) looked

pub goes_itself : GoesOn (at 41) (at 41)
goes_itself = goes_self (at 41) (kept 41)

pub opened_still : HasPass (view_behind 43)
opened_still = goes_opened (at 41) (view_behind 43) goes_41 opened_41

pub goes_from_between : GoesOn (moved_on (at 41) (before 42) 41) (view_behind 43)
goes_from_between = (goes_between (at 41) (view_behind 43) goes_41 opened_41 (before 42) (longer 41 42 refl)
    (longer 42 44 refl)).1

pub none_spent : spent_since (at 41) ≡ 0
unfolding state
none_spent = refl

pub two_spent : spent_since (view_behind 43) ≡ 2
unfolding state
two_spent = refl

pub no_fewer_spent : spent_since (at 41) ≤ spent_since (view_behind 43)
no_fewer_spent = spent_since_grows (at 41) (view_behind 43) small_layout goes_41 opened_41

pub few_spent : spent_since (view_behind 43) ≤ 8
few_spent = spent_since_bound (view_behind 43)

pub two_fit : length {A = ℕ} (2 ∷ 3 ∷ []) ≤ 8
unfolding state
two_fit = spent_fit (at 44) (kept 44) (2 ∷ 3 ∷ []) (((λ h. omega (arith, h)), tt), (tt, tt))
    (spent_at_44 2 refl refl, (spent_at_44 3 refl refl, tt))
