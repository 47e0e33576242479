-- The laws of views and moments at steps of the worked journal.
use Rattle.std.proofs.Common.{◌≡◌, ℕ, zero, suc, ◌+◌, ◌^◌, ◌<◌, ◌≤◌, ◌⊎◌, true, false, true≢false, [], ◌∷◌, ◌++◌, Some}
use Rattle.std.proofs.Common.{None, length, drop, refl, sym, subst, arith, inl, inr, lit<, lit≤}
use mathlib.Core.Option.{some, some-injective, some-ne-none}
use lib.ListN.{get_elem?}
use Rattle.packed_link.specs.Link.{pack, mark_of, tag_of}
use Rattle.packed_link.specs.Layout.{bucket_at, epoch_at, free_at, key_at, number_at, link_at, second_at}
use Rattle.core_journal.specs.declared.event.Event.{Event}
use Rattle.core_journal.specs.GraphOf.{changes}
use Rattle.core_journal.specs.Life.{link_of, vertex_marked}
use Rattle.core_journal.specs.Machine.{machine, word_at}
use Rattle.core_journal.specs.Prefix.{IsPrefix}
use Rattle.core_journal.specs.Reuse.{pass_in}
use Rattle.core_journal.specs.State.{Linked, state, Spent}
use Rattle.core_journal.specs.Worked.{small, first_life}
use Rattle.core_journal.proofs.KeptLives.{vertex_marked_more}
use Rattle.core_journal.proofs.NotBefore.{not_before}
use Rattle.core_kept.specs.Facts.{IsHeld, IsKeptSpent}
use Rattle.core_kept.specs.Freezing.{IsSpentVertex}
use Rattle.core_kept.specs.Kept.{IsKept, IsQuiet}
use Rattle.core_kept.specs.Nodes.{IsFreshWith, IsSpentWith, is_listed, node_in}
use Rattle.core_kept.proofs.BucketWords.{bucket_unmarked}
use Rattle.core_kept.proofs.CutEdges.{cut_was_linked}
use Rattle.core_kept.proofs.PassBetween.{pass_between}
use Rattle.core_lists.specs.Chains.{KeepsList}
use Rattle.core_lists.proofs.EffectOfKinds.{frozen_leaves}
use Rattle.core_lists.proofs.FrozenPathIsList.{path_all}
use Rattle.core_lists.proofs.FrozenToEndIsList.{has_keeps}
use Rattle.core_lists.proofs.ListedWords.{listed_key, listed_linked}
use Rattle.core_lists.proofs.RipeningNodes.{stamped}
use Rattle.core_rule.specs.Fronts.{IsLifeAt, MayUnlinkVertex, MetEdge, MetVertex}
use Rattle.core_rule.specs.Plays.{IsSound, Looked}
use Rattle.core_rule.specs.Retired.{IsRetired}
use Rattle.core_rule.specs.Rule.{AnswersForCallers, Fits, Ruled}
use Rattle.core_rule.specs.Stretches.{Elsewhere, HasPass, IsAlike, IsHeldBut, IsTargetShown, Own, spent_since}
use Rattle.core_rule.specs.Views.{GoesOn, Steps, moved_on}
use Rattle.core_rule.specs.declared.view.View.{View}
use Rattle.core_rule.proofs.AlikeViews.{may_unlink_vertex_alike, met_vertex_alike}
use Rattle.core_rule.proofs.CallLimits.{epoch_low, free_tag_low, life_tag_low}
use Rattle.core_rule.proofs.FreezeLifts.{edge_behind}
use Rattle.core_rule.proofs.LastToken.{front_of_callers}
use Rattle.core_rule.proofs.OwnByView.{own_list_still}
use Rattle.core_rule.proofs.OwnByKind.{own_fresh_by_kind, own_spent_by_kind, own_stored}
use Rattle.core_rule.proofs.OwnStretch.{goes_between, own_event}
use Rattle.core_rule.proofs.RoomInLimbo.{room_for_one}
use Rattle.core_rule.proofs.RetiredStays.{retired_still}
use Rattle.core_rule.proofs.ShownTargets.{edge_words_still, head_marked, target_shown}
use Rattle.core_rule.proofs.SpentSince.{unlink_counts}
use Rattle.core_worked.specs.KnownSteps.{view_at}
use Rattle.core_worked.specs.LawSteps.{closing_table, closing_view, view_behind, view_drawing}
use Rattle.core_worked.specs.TwoLives.{two_lives}
use Rattle.core_worked.proofs.KnownSteps.{front_kept, makes_freeze_edge, makes_store, makes_store_edge}
use Rattle.core_worked.proofs.KnownSteps.{makes_unlink_vertex, may_freeze_edge, may_store_edge, may_unlink_vertex}
use Rattle.core_worked.proofs.KnownSteps.{met_edge}
use Rattle.core_worked.proofs.SmallSteps.{quiet_from, whole}
use Rattle.core_worked.proofs.TwoLives.{before, event, two_lives_kept}
use Rattle.core_worked.proofs.TwoLivesShown.{small_layout}

-- a front of the worked journal is kept, and begins a longer one
pub kept : (n : ℕ) → IsKept small (before n)
kept n = front_kept two_lives two_lives_kept n

pub longer : (n m : ℕ) → before n ++ drop n (before m) ≡ before m → IsPrefix (before n) (before m)
longer n m is = record { rest = drop n (before m); whole = is }

-- laws of core_journal and core_kept

pub still_unmarked : vertex_marked (before 30) (first_life 0) ≡ false
still_unmarked = not_before (λ l. vertex_marked l (first_life 0))
    (λ past more g. vertex_marked_more past more (first_life 0) g) (before 30) (before 40) (longer 30 40 refl) refl

pub one_pass : pass_in small (before 42) 0 ≡ pass_in small (before 40) 0
unfolding state
one_pass = pass_between small 0 (before 40) (before 42) (before 44) (kept 44) (longer 40 42 refl)
    (longer 42 44 refl) refl refl

pub bucket_live : mark_of (word_at small two_lives (bucket_at small 0)) ≡ 0
bucket_live = bucket_unmarked small small_layout two_lives two_lives_kept 0 (lit< tt)

pub cut_linked : (link : Event) × (link_of (before 28) (first_life 2) ≡ Some link)
cut_linked = cut_was_linked small small_layout (before 28) (event 28) (kept 29) refl

-- laws of core_lists

pub keeps_38 : KeepsList small (before 38) 0
unfolding state
keeps_38 = has_keeps small small_layout (before 38) (kept 38) 0
    (record { there = lit< tt; used = tt; vertex = refl; unfinished = λ f. true≢false (sym (f.edges 3 refl)) })

pub key_listed : word_at small (before 38) (key_at small 3) ≡ 2
unfolding state link_of
key_listed = listed_key small small_layout (before 38) (kept 38) 0 3 keeps_38 refl (event 37) refl

pub linked_listed : (node_in small (before 38) 3).mode ≡ Linked
unfolding state
linked_listed = listed_linked small small_layout (before 38) (kept 38) 0 3 (lit< tt) refl refl refl

-- steps of caller 0: a store to the fresh node 3, the unlink of a vertex, the freezing of an edge, and the store of a
-- link

pub stored : Steps (view_at 0 34) (Some (event 34)) (view_behind 34)
stored = record { view = refl; grown = before 34; reaches = makes_store.reaches; front = refl; kept = kept 35 }

pub unlinked : Steps (view_at 0 41) (Some (event 41)) (view_behind 41)
unlinked = record {
  view = refl;
  grown = before 41;
  reaches = makes_unlink_vertex.reaches;
  front = refl;
  kept = kept 42;
}

pub frozen : Steps (view_at 0 43) (Some (event 43)) (view_behind 43)
frozen = record { view = refl; grown = before 43; reaches = makes_freeze_edge.reaches; front = refl; kept = kept 44 }

pub given : Steps (view_at 0 47) (Some (event 47)) (view_behind 47)
given = record { view = refl; grown = before 47; reaches = makes_store_edge.reaches; front = refl; kept = kept 48 }

-- the unlink alone was made, elsewhere than at the link of node 1
pub own_elsewhere : Own (Elsewhere (link_at small 1)) (view_at 0 41) (view_behind 41)
own_elsewhere = own_event (Elsewhere (link_at small 1)) (view_at 0 41) (view_behind 41) (event 41) unlinked
    (λ is. apart is)
  where
    apart : bucket_at small 0 ≡ link_at small 1 → ⊥
    apart is = absurd (omega (arith, is))

pub opened_41 : HasPass (view_at 0 41)
unfolding state
opened_41 = refl

pub goes_41 : GoesOn (view_at 0 41) (view_behind 43)
unfolding state
goes_41 = record { view = refl; grows = longer 41 44 refl; kept = kept 44; pass = refl }

pub moment_between : GoesOn (view_at 0 41) (moved_on (view_at 0 41) (before 42) 41)
moment_between = (goes_between (view_at 0 41) (view_behind 43) goes_41 opened_41 (before 42) (longer 41 42 refl)
    (longer 42 44 refl)).0

pub alike_41 : IsAlike (view_at 0 41) (view_drawing 41)
alike_41 = record { sizes = refl; front = refl; number = refl }

pub met_drawing : MetVertex (view_drawing 41) (first_life 0)
met_drawing = met_vertex_alike (view_at 0 41) (view_drawing 41) alike_41 (first_life 0) (may_unlink_vertex.vertex)

pub unlink_drawing : MayUnlinkVertex (view_drawing 41) (bucket_at small 0) (pack 0 0 0) 1 (first_life 0)
unlink_drawing = may_unlink_vertex_alike (view_at 0 41) (view_drawing 41) alike_41 (bucket_at small 0) (pack 0 0 0) 1
    (first_life 0) may_unlink_vertex

pub tag_low : tag_of (word_at small (before 48) (free_at small)) ≤ 2 ^ 37
tag_low = free_tag_low (view_at 0 50) small_layout (kept 50) (before 48) (longer 48 50 refl)
    (word_at small (before 48) (free_at small)) refl

pub epoch_is_low : word_at small (before 46) (epoch_at small) ≤ 2 ^ 38
epoch_is_low = epoch_low (view_at 0 50) small_layout (kept 50) (before 46) (longer 46 50 refl)
    (word_at small (before 46) (epoch_at small)) refl

life_0 : IsLifeAt (view_at 0 50) (first_life 0)
unfolding state
life_0 = record { there = lit< tt; tag = refl }

pub life_is_low : 1 < 2 ^ 39
life_is_low = life_tag_low (view_at 0 50) small_layout (kept 50) (first_life 0) life_0

pub one_more_spent : spent_since (view_at 0 41) + 1 ≤ spent_since (view_behind 41)
one_more_spent = unlink_counts (view_at 0 41) (view_behind 41) (event 41) small_layout unlinked refl opened_41 refl

-- words of own nodes

fresh_3 : IsFreshWith small (before 34) 0 3
unfolding state
fresh_3 = record { fresh = refl; mine = refl }

pub fresh_3_stored : IsHeldBut small (before 34) (before 35) 3 (link_at small 3)
fresh_3_stored = (own_stored (view_at 0 34) (view_behind 34) (event 34) small_layout stored refl 3 (lit< tt) fresh_3).2

looked_34 : Steps (view_at 0 34) None (view_at 0 34)
looked_34 = record { view = refl; grown = before 34; reaches = makes_store.reaches; front = refl; kept = kept 34 }

pub fresh_3_held : IsHeld small (before 34) (before 34) 3
fresh_3_held = (own_fresh_by_kind (view_at 0 34) (view_at 0 34) None small_layout looked_34 3 (lit< tt) tt fresh_3).1

spent_2 : IsSpentWith small (before 43) 0 2
unfolding state
spent_2 = record { spent = refl; mine = refl }

pub spent_2_kept : IsKeptSpent small (before 43) (before 44) 2
spent_2_kept = (own_spent_by_kind (view_at 0 43) (view_behind 43) (Some (event 43)) small_layout frozen 2
    (lit< tt) refl spent_2).1

-- what second words tell

pub met_0 : MetVertex (view_at 0 43) (first_life 0)
unfolding state
met_0 = record {
  life = record { there = lit< tt; tag = refl };
  met = record
      { pass = refl; free = λ h. absurd (cc); fresh = λ h. absurd (cc); spent = λ _. lit< tt };
  vertex = refl;
}

pub head_tells : vertex_marked (before 43) (first_life 0) ≡ true
unfolding machine word_at
head_tells = (head_marked (view_at 0 43) small_layout (kept 43) (first_life 0) met_0 refl).1

pub met_3 : MetEdge (view_at 0 41) (first_life 0) (first_life 3)
unfolding state
met_3 = met_edge (view_at 0 41) 3 (lit< tt) refl refl refl refl refl

pub target_tells : IsTargetShown (view_at 0 41) (first_life 3)
target_tells = target_shown (view_at 0 41) small_layout (kept 41) (first_life 0) (first_life 3) met_3

pub target_stays : word_at small (before 44) (second_at small 3) ≡ word_at small (before 41) (second_at small 3)
target_stays = (edge_words_still (view_at 0 41) (view_behind 43) small_layout goes_41 (first_life 0)
    (first_life 3) met_3).0

-- freezing and retiring

pub keeps_44 : KeepsList small (before 44) 0
unfolding state
keeps_44 = (own_list).1
  where
    own_list : IsSpentVertex small (before 44) 0 0 × KeepsList small (before 44) 0
    own_list = own_list_still (view_at 0 43) (view_behind 43) (Some (event 43)) small_layout frozen 0
        ((λ h. absurd (cc)), (λ h. absurd (cc))) may_freeze_edge.spent may_freeze_edge.list

pub whole_list : (state small (before 44)).edges 0 ≡ 3 ∷ []
unfolding machine word_at state
whole_list = path_all small (before 44) 0 small_layout (kept 44) keeps_44 (3 ∷ []) (link_at small 3)
    (record { head = refl; at = inl refl }, refl, (λ h. omega (arith, h)), refl) refl

pub freezing_leaves : changes (before 43) (event 43) ≡ false
freezing_leaves = frozen_leaves small small_layout (before 43) (event 43) (kept 44) refl

pub edge_stays_behind : is_listed (state small (before 43)) 0 3 ≡ true
edge_stays_behind = (edge_behind (view_at 0 43) small_layout (before 43) makes_freeze_edge.reaches (first_life 0)
    (second_at small 0) (first_life 3) may_freeze_edge).2

pub retired_3 : IsRetired None (view_at 0 47) (first_life 3) 2
unfolding machine word_at state
retired_3 = record {
  life = may_store_edge.life;
  stamped = stamped small (before 47) 0 3 2 (record { spent = refl; mine = refl }) (lit≤ tt);
  shown = record { moment = before 47; before = whole (before 47); epoch = lit≤ tt };
  own_list = may_store_edge.own_list;
  list = λ y _ there on. may_store_edge.list y there on;
}

pub retired_behind : IsRetired None (view_behind 47) (first_life 3) 2
retired_behind = retired_still (view_at 0 47) (view_behind 47) (Some (event 47)) small_layout given None
    (first_life 3) 2 (λ h. absurd (cc)) retired_3

pub spent_at_44 : (x : ℕ) → (node_in small (before 44) x).mode ≡ Spent → (node_in small (before 44) x).who ≡ 0
    → IsSpentWith small (before 44) 0 x
spent_at_44 x spent mine = record { spent = spent; mine = mine }

pub room_at_44 : length {A = ℕ} (2 ∷ 3 ∷ []) + 1 ≤ 8
unfolding state
room_at_44 = room_for_one (view_at 0 44) (kept 44) (2 ∷ 3 ∷ []) (((λ h. omega (arith, h)), tt), (tt, tt))
    (spent_at_44 2 refl refl, (spent_at_44 3 refl refl, tt)) 0 (spent_at_44 0 refl refl)
    ((λ h. omega (arith, h)), ((λ h. omega (arith, h)), tt))

-- the count of numbers, and the end of a table

pub sound_52 : IsSound (view_drawing 52)
sound_52 = record { kept = kept 52; quiet = λ _. makes_52; old = λ _. lit≤ tt; others = tt }
  where
    makes_52 : IsQuiet (before 52) 0 52
    makes_52 = quiet_from 0 52 (before 52) refl

pub numbers_counted : Looked (view_drawing 52) (number_at small) 2 (view_drawing 52)
unfolding machine word_at
numbers_counted = record { grows = whole (before 52); word = refl; count = λ _ _. refl; sound = sound_52; view = refl }

fits_closing : Fits small two_lives 0 (λ _. 0) 0 closing_view
unfolding state
fits_closing = record {
  front = whole two_lives;
  met = record { rest = two_lives; whole = refl };
  draws = λ is. absurd (true≢false (sym is));
  numbered = λ _. record { own = refl; drawn = lit< tt; old = lit≤ tt; quiet = quiet_from 0 53 two_lives refl };
  others = (record { own = refl; drawn = lit< tt; old = lit≤ tt; quiet = quiet_from 1 53 two_lives refl }, tt);
  apart = λ _. ((λ is. omega (arith, is)), tt);
}

pub closing_ruled : Ruled small closing_table
closing_ruled = record {
  journal = two_lives;
  drawer = 0;
  owner = λ _. 0;
  words = refl;
  kept = two_lives_kept;
  seats =
      one;
}
  where
    one : (seat : ℕ) (v : View) → get_elem? (closing_view ∷ []) seat ≡ some v → Fits small two_lives 0 (λ _. 0) seat v
    one zero v at = subst (Fits small two_lives 0 (λ _. 0) 0) (some-injective closing_view v at) fits_closing
    one (suc seat) v at = absurd (some-ne-none v (sym at))

pub answers_all : AnswersForCallers closing_view
answers_all = record { each = by }
  where
    by : (number : ℕ) → number < 2 → ((0 ≡ number) ⊎ ((1 ≡ number) ⊎ ⊥))
    by zero low = inl refl
    by (suc zero) low = inr (inl refl)
    by (suc (suc n)) low = absurd (omega (arith, low))

pub closing_whole : (rule : Ruled small closing_table) → rule.journal ≡ two_lives
closing_whole rule = front_of_callers small closing_table rule 0 closing_view refl refl refl answers_all
