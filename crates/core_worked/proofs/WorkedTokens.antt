-- The laws of tokens at steps of the worked journals.
use Rattle.std.proofs.Common.{◌≡◌, ◌⊎◌, ℕ, zero, suc, ◌+◌, ◌<◌, ◌≤◌, ◌%◌, ◌^◌, true, false, None, Some, [], ◌∷◌, length}
use Rattle.std.proofs.Common.{refl, sym, subst, ⊎_elim, inr, arith, lit<, lit≤, cond, ◌==◌, ap}
use Rattle.std.proofs.lemmas.Bool.{eqb-true}
use mathlib.Core.Option.{none, some, some-injective, some-ne-none}
use lib.ListN.{get_elem?}
use Rattle.atomic_table.specs.Table.{Allows, opening, step}
use Rattle.graph_kinds.specs.History.{Every}
use Rattle.graph_kinds.specs.declared.call.Call.TheVariants.{RemoveVertex}
use Rattle.graph_kinds.specs.declared.outcome.Outcome.TheVariants.{Removed}
use Rattle.packed_link.specs.Link.{mark_of, nowhere, pack, tag_of}
use Rattle.packed_link.specs.Layout.{announce_at, bucket_at, free_at, link_at, second_at}
use Rattle.packed_link.specs.declared.link.Life.{Life}
use Rattle.core_journal.specs.declared.event.Event.{Event}
use Rattle.core_journal.specs.Event.{raises}
use Rattle.core_journal.specs.GraphOf.{present_key}
use Rattle.core_journal.specs.Life.{edge_marked, key_of, link_of, vertex_marked}
use Rattle.core_journal.specs.Machine.{machine, opening_words, word_at}
use Rattle.core_journal.specs.State.{state}
use Rattle.core_journal.specs.Worked.{first_life, own, small}
use Rattle.core_kept.specs.Counts.{made}
use Rattle.core_kept.specs.Edges.{IsRaisedFor}
use Rattle.core_kept.specs.Facts.{IsKeptSpent}
use Rattle.core_kept.specs.Freezing.{IsFrozenWord, IsSpentVertex}
use Rattle.core_kept.specs.Kept.{IsQuiet}
use Rattle.core_kept.specs.Nodes.{IsFrozenToEnd, IsRipe, IsSpentWith, is_frozen}
use Rattle.core_lists.proofs.FrozenWordLeads.{frozen_finished, frozen_next}
use Rattle.core_rule.specs.Fronts.{IsVertexBelow, LeadsToVertex, MayRaise, MetEdge, MetVertex}
use Rattle.core_rule.specs.OwnEvents.{withdraw_event}
use Rattle.core_rule.specs.Owes.{Owes, OwesStore}
use Rattle.core_rule.specs.Plays.{IsSound, Won, drawing, replied, storing, turning}
use Rattle.core_rule.specs.Rule.{AnswersForAll, Fits, Ruled, accounts, first_view}
use Rattle.core_rule.specs.Views.{GoesOn, IsEdgeBehind, IsEdgeIn, IsEdgeShown, IsVertexBehind, IsVertexIn, Steps}
use Rattle.core_rule.specs.declared.view.View.{View}
use Rattle.core_rule.proofs.FoundMarkedIsSpent.{found_at}
use Rattle.core_rule.proofs.FrozenWordStays.{edge_frozen_word, frozen_beyond, frozen_marked, head_frozen_word}
use Rattle.core_rule.proofs.LastToken.{accounts_quiet, closed_word, front_whole, word_of_callers}
use Rattle.core_rule.proofs.OwnByView.{own_list_still, own_end_still, own_made_same, own_ripe_still, own_spent_kept}
use Rattle.core_rule.proofs.OwnByView.{own_spent_still, own_word_still}
use Rattle.core_rule.proofs.OwnLifts.{lift_withdraw}
use Rattle.core_rule.proofs.PassedKeys.{passed_edge, passed_vertex}
use Rattle.core_rule.proofs.StepsKeepRule.{draws_number, stores, turns}
use Rattle.core_rule.proofs.UnlinkLifts.{lift_unlink_vertex}
use Rattle.core_rule.proofs.ViewShows as shows
use Rattle.core_rule.proofs.ViewsFit.{begins}
use Rattle.core_worked.specs.KnownSteps.{view_at, view_beside}
use Rattle.core_worked.specs.LawSteps.{closing_table, closing_view, last_table, last_view, view_behind, view_drawing}
use Rattle.core_worked.specs.LawSteps.{view_joined}
use Rattle.core_worked.specs.Beside.{beside_others}
use Rattle.core_worked.specs.TwoLives.{two_lives}
use Rattle.core_worked.proofs.Beside.{beside_others_kept}
use Rattle.core_worked.proofs.KnownSteps as known
use Rattle.core_worked.proofs.LawSteps.{answers_all, frozen, given, goes_41, keeps_44, kept, longer, met_3}
use Rattle.core_worked.proofs.LawSteps.{numbers_counted, sound_52}
use Rattle.core_worked.proofs.SmallSteps.{frozen_list, quiet_from, whole}
use Rattle.core_worked.proofs.TwoLives.{before, event, ripe, two_lives_kept}
use Rattle.core_worked.proofs.TwoLivesShown.{small_layout}

abbrev at : ℕ → View
at n = view_at 0 n

-- how a view goes on

pub looked_52 : Steps (view_drawing 52) None (view_drawing 52)
looked_52 = shows.look_steps (view_drawing 52) 1 2 (view_drawing 52) refl sound_52 numbers_counted

sound_at : (n : ℕ) → IsQuiet (before n) 0 n → n ≤ length (before n) → IsSound (at n)
sound_at n quiet old = record { kept = kept n; quiet = λ _. quiet; old = λ _. old; others = tt }

won_41 : Won (at 41) (bucket_at small 0) (pack 0 0 0) (event 41) (view_behind 41)
unfolding machine word_at
won_41 = record {
  grown = before 41;
  grows = whole (before 41);
  word = refl;
  front = refl;
  quiet = quiet_from 0 41
      (before 41) refl;
  sound = sound_at 42 (quiet_from 0 42 (before 42) refl) (lit≤ tt);
  view = refl;
}

pub win_41 : Steps (at 41) (Some (event 41)) (view_behind 41)
win_41 = shows.win_steps (at 41) (bucket_at small 0) (pack 0 0 0) (event 41) (view_behind 41) refl
    (sound_at 41 (quiet_from 0 41 (before 41) refl) (lit≤ tt)) won_41

pub store_34 : Steps (at 34) (Some (event 34)) (view_behind 34)
store_34 = shows.store_steps (at 34) (event 34) (view_behind 34) refl
    (sound_at 34 (quiet_from 0 34 (before 34) refl) (lit≤ tt))
    (record {
      grown = before 34;
      grows = whole (before 34);
      front = refl;
      quiet = quiet_from 0 34
          (before 34) refl;
      sound = sound_at 35 (quiet_from 0 35 (before 35) refl) (lit≤ tt);
      view = refl;
    })

sound_45 : IsSound (at 45)
sound_45 = sound_at 45 (quiet_from 0 45 (before 45) refl) (lit≤ tt)

replied_45 : View
replied_45 = replied (at 45) (before 45) (own (RemoveVertex 1) (Removed 0) 40 39 45)

pub reply_45 : Steps (at 45) None (at 45)
unfolding replied_45
reply_45 = shows.reply_steps (at 45) (own (RemoveVertex 1) (Removed 0) 40 39 45) replied_45 refl sound_45
    (record {
      grows = whole (before 45);
      sound = record {
        kept = kept 45;
        quiet = sound_45.quiet;
        old = sound_45.old;
        others = tt;
      };
      view = refl;
    })

pub meet_45 : Steps view_joined None view_joined
meet_45 = shows.meet_steps view_joined (at 45) refl (record {
  kept = kept 45;
  quiet = sound_45.quiet;
  old =
      sound_45.old;
  others = tt;
}) (record {
  grows = whole (before 45);
  met = longer 20 45 refl;
  sound = sound_45;
  view =
      refl;
})

pub goes_pass : GoesOn (at 41) (view_behind 41)
goes_pass = shows.step_goes_on (at 41) (view_behind 41) (Some (event 41)) win_41
    ((λ h. absurd (cc)), (λ h. absurd (cc)))

goes_frozen : GoesOn (at 43) (view_behind 43)
goes_frozen = shows.step_goes_on (at 43) (view_behind 43) (Some (event 43)) frozen
    ((λ h. absurd (cc)), (λ h. absurd (cc)))

goes_closed : GoesOn (at 42) (at 43)
unfolding state
goes_closed = record { view = refl; grows = longer 42 43 refl; kept = kept 43; pass = refl }

pub goes_chain : GoesOn (at 41) (view_behind 43)
goes_chain = shows.goes_further (at 41) (at 42) (view_behind 43) goes_pass
    (shows.goes_further (at 42) (at 43) (view_behind 43) goes_closed goes_frozen)

-- what a later view has met

pub vertex_later : MetVertex (view_behind 43) (first_life 0)
vertex_later = shows.vertex_still (at 41) (view_behind 43) small_layout goes_41 (first_life 0)
    (known.may_unlink_vertex.vertex)

pub edge_later : MetEdge (view_behind 43) (first_life 0) (first_life 3)
edge_later = shows.edge_still (at 41) (view_behind 43) small_layout goes_41 (first_life 0) (first_life 3) met_3

pub dead_later : word_at small (before 44) (link_at small 0) ≡ pack 1 1 1
unfolding machine word_at
dead_later = shows.dead_still (at 41) (view_behind 43) small_layout goes_41 0 (lit< tt)
    (known.may_unlink_vertex.vertex.met) refl

pub below_later : IsVertexBelow (view_behind 43) 2 (link_at small 0) (first_life 0)
unfolding machine word_at state
below_later = shows.below_still (at 41) (view_behind 43) small_layout goes_41 2 (link_at small 0) (first_life 0)
    (record { met = known.may_unlink_vertex.vertex; place_is = refl; below = lit< tt; bucket = refl })

pub leads_later : LeadsToVertex (view_behind 43) (bucket_at small 0)
leads_later = shows.leads_to_vertex_still (at 41) (view_behind 43) small_layout goes_41 (bucket_at small 0)
    (known.may_unlink_vertex.before)

goes_28 : GoesOn (at 28) (view_behind 28)
unfolding state
goes_28 = record { view = refl; grows = longer 28 29 refl; kept = kept 29; pass = refl }

pub raised_later : IsRaisedFor small (before 29) 0 (first_life 2) (first_life 0)
raised_later = shows.raised_still (at 28) (view_behind 28) small_layout goes_28 (first_life 2) (first_life 0)
    (known.may_mark_edge.raised)

-- where words lead

vertex_40 : MetVertex (at 40) (first_life 0)
unfolding state
vertex_40 = known.met_vertex (at 40) 0 (lit< tt) refl refl refl refl

-- a word that leads to a node
led : (P : ℕ → Type 0) (y : ℕ) → y < nowhere → (y ≡ nowhere) ⊎ P y → P y
led P y low h = ⊎_elim (λ (is : y ≡ nowhere). absurd (omega (arith, low, is))) (λ (p : P y). p) h

pub bucket_leads : IsVertexIn (at 40) 0 0
unfolding machine word_at state
bucket_leads = led (IsVertexIn (at 40) 0) 0 (lit< tt) (shows.head_shown (at 40) small_layout (kept 40) refl 0 (lit< tt))

pub vertex_leads : IsVertexBehind (at 40) (first_life 0) 1
unfolding machine word_at
vertex_leads = led (IsVertexBehind (at 40) (first_life 0)) 1 (lit< tt)
    (shows.vertex_link_shown (at 40) small_layout (kept 40) (first_life 0) vertex_40)

pub list_leads : IsEdgeIn (at 40) (first_life 0) 3
unfolding machine word_at
list_leads = led (IsEdgeIn (at 40) (first_life 0)) 3 (lit< tt)
    (shows.list_shown (at 40) small_layout (kept 40) (first_life 0) vertex_40)

met_4 : MetEdge (view_beside 0 56) (first_life 0) (first_life 4)
unfolding state
met_4 = known.met_edge (view_beside 0 56) 4 (lit< tt) refl refl refl refl refl

pub edge_leads : IsEdgeBehind (view_beside 0 56) (first_life 0) (first_life 4) 5
unfolding machine word_at
edge_leads = led (IsEdgeBehind (view_beside 0 56) (first_life 0) (first_life 4)) 5 (lit< tt)
    (shows.edge_link_shown (view_beside 0 56) small_layout (known.front_kept beside_others beside_others_kept 56)
    (first_life 0) (first_life 4) met_4)

-- what words tell

pub life_told : tag_of (word_at small (before 40) (link_at small 0)) ≡ 1
life_told = shows.life_shown (at 40) small_layout (kept 40) (first_life 0) (vertex_40.life) (vertex_40.met)

pub second_told : tag_of (word_at small (before 40) (second_at small 0)) ≡ 1
second_told = shows.second_shown (at 40) small_layout (kept 40) (first_life 0) vertex_40

pub key_told : key_of (before 40) (first_life 0) ≡ Some 1
unfolding machine word_at
key_told = shows.key_shown (at 40) small_layout (kept 40) (first_life 0) vertex_40

pub present_told : present_key (before 40) (first_life 0) ≡ Some 1
unfolding machine word_at
present_told = (shows.present_shown (at 40) small_layout (kept 40) (first_life 0) vertex_40 refl).1

pub removed_told : (vertex_marked (before 41) (first_life 0) ≡ true) × (present_key (before 41) (first_life 0) ≡ None)
unfolding machine word_at
removed_told = shows.absent_shown (at 41) small_layout (kept 41) (first_life 0) (known.may_unlink_vertex.vertex) refl

pub edge_told : IsEdgeShown (at 41) (first_life 0) (first_life 3)
edge_told = shows.edge_shown (at 41) small_layout (kept 41) (first_life 0) (first_life 3) met_3

pub unmarked_told : edge_marked (before 41) (first_life 3) ≡ false
unfolding machine word_at
unmarked_told = (shows.edge_live_shown (at 41) small_layout (kept 41) (first_life 0) (first_life 3) met_3 refl).1

pub marked_told : edge_marked (before 44) (first_life 3) ≡ true
unfolding machine word_at
marked_told = shows.edge_dead_shown (at 44) small_layout (kept 44) (first_life 0) (first_life 3) edge_later refl

pub raise_told : MayRaise (at 27) (first_life 0)
unfolding machine word_at state
raise_told = shows.may_raise (at 27) small_layout (kept 27) (first_life 0) (first_life 2)
    (known.met_edge (at 27) 2 (lit< tt) refl refl refl refl refl) (known.may_raise.vertex) refl (lit< tt)

pub no_vertex_told : (x : Life) → present_key (before 40) x ≡ Some 3 → ⊥
unfolding machine word_at state
no_vertex_told = passed_vertex (at 40) small_layout (kept 40) 3 (link_at small 1)
    (inr (
      first_life 1,
      record {
        met = known.met_vertex (at 40) 1
            (lit< tt) refl refl refl refl;
        place_is = refl;
        below = lit< tt;
        bucket = refl;
      },
    )) refl (λ ne. absurd (ne refl))

pub no_edge_told : (x : Life) (link : Event) → link_of (before 40) x ≡ Some link → edge_marked (before 40) x ≡ false
    → link.source ≡ first_life 0 → link.key ≡ 3 → ⊥
unfolding machine word_at state
no_edge_told = passed_edge (at 40) small_layout (kept 40) (first_life 0) 3 (link_at small 3)
    (inr (
      first_life 3,
      record {
        met = known.met_edge (at 40) 3
            (lit< tt) refl refl refl refl refl;
        place_is = refl;
        below = lit< tt;
      },
    )) refl (λ ne. absurd (ne refl))

-- what is the token's own

spent_0 : IsSpentVertex small (before 43) 0 0
spent_0 = known.may_freeze_edge.spent

pub word_still : IsFrozenWord small (before 44) 0 (second_at small 0)
word_still = (own_word_still (at 43) (view_behind 43) (Some (event 43)) small_layout frozen 0 (second_at small 0)
    ((λ h. absurd (cc)), (λ h. absurd (cc))) spent_0 (known.may_freeze_edge.list) (known.may_freeze_edge.frozen)).0

pub raises_still : made raises 0 (before 44) ≡ 1
raises_still = own_made_same (at 43) (view_behind 43) (Some (event 43)) frozen raises refl

spent_2 : IsSpentWith small (before 47) 0 2
unfolding state
spent_2 = record { spent = refl; mine = refl }

pub spent_behind : IsSpentWith small (before 48) 0 2
unfolding state
spent_behind = (own_spent_still (at 47) (view_behind 47) (Some (event 47)) small_layout given (first_life 2)
    (λ h. absurd (cc)) (record { there = lit< tt; tag = refl }) spent_2).0

pub words_behind : IsKeptSpent small (before 47) (before 48) 2
words_behind = own_spent_kept (at 47) (view_behind 47) (Some (event 47)) small_layout given 2 (lit< tt)
    (λ h. omega (arith, h)) spent_2

pub ripe_later : IsRipe small (before 48) 0 2
unfolding state
ripe_later = own_ripe_still (at 47) (view_behind 47) (Some (event 47)) small_layout given 2 (λ h. absurd (cc))
    (ripe (before 47) 2 (whole (before 47)) refl refl refl refl)

spent_44 : IsSpentVertex small (before 44) 0 0
unfolding state
spent_44 = record { spent = refl; vertex = refl; mine = refl }

withdrawn_44 : Steps (at 44) (Some (event 44)) (at 45)
withdrawn_44 = record {
  view = refl;
  grown = before 44;
  reaches = known.makes_withdraw.reaches;
  front = refl;
  kept =
      kept 45;
}

pub word_beyond : IsFrozenWord small (before 47) 0 (second_at small 0)
word_beyond =
    let l = own_list_still (at 44) (at 45) (Some (event 44)) small_layout withdrawn_44 0
    ((λ h. absurd (cc)), (λ h. absurd (cc))) spent_44 keeps_44 in
    let w = own_word_still (at 44) (at 45) (Some (event 44)) small_layout withdrawn_44 0 (second_at small 0)
    ((λ h. absurd (cc)), (λ h. absurd (cc))) spent_44 keeps_44 word_still in
    (frozen_beyond small small_layout 0 45 0 (second_at small 0) (before 45) (before 47) (longer 45 47 refl) (kept 47)
    (quiet_from 0 45 (before 47) refl) (lit≤ tt) l.0 l.1 w.0).0

pub end_later : IsFrozenToEnd small (before 48) 0
unfolding state
end_later = own_end_still (at 47) (view_behind 47) (Some (event 47)) small_layout given 0 (lit< tt) (λ h. absurd (cc))
    (record { spent = refl; mine = refl }) (frozen_list (before 47) refl refl refl)

pub part_behind : is_frozen (state small (before 44)) 0 3 ≡ true
unfolding machine word_at state
part_behind = frozen_next small small_layout (before 44) (kept 44) 0 (second_at small 0) keeps_44 word_still 3 refl
    (λ h. omega (arith, h)) refl

pub edge_frozen : IsFrozenWord small (before 44) 0 (link_at small 3)
edge_frozen = (edge_frozen_word small small_layout (before 43) (event 43) 0 (second_at small 0) (kept 44) refl spent_0
    (known.may_freeze_edge.list) (known.may_freeze_edge.frozen) (known.may_freeze_edge.leads)).1

pub end_behind : IsFrozenToEnd small (before 44) 0
unfolding machine word_at
end_behind = frozen_finished small small_layout (before 44) (kept 44) 0 (link_at small 3) keeps_44 edge_frozen refl

pub head_marked_behind : mark_of (word_at small (before 44) (second_at small 0)) ≡ 1
head_marked_behind = frozen_marked small small_layout (before 44) (kept 44) 0 keeps_44 (second_at small 0) word_still

pub head_frozen : IsFrozenWord small (before 43) 0 (second_at small 0)
head_frozen = (head_frozen_word small (before 42) (event 42) (kept 43) refl).1

pub found_spent : IsSpentWith small (before 44) 0 3
unfolding machine word_at
found_spent = (found_at small small_layout (before 44) (kept 44) 0 0
    (second_at small 0) spent_44 keeps_44 word_still 3 refl (λ h. omega (arith, h)) refl).0

pub raised_for_linked : IsRaisedFor small (before 28) 0 (first_life 2) (first_life 0)
unfolding link_of
raised_for_linked = shows.raise_is_for small (before 27) (event 27) (kept 28) refl (first_life 2) (event 24) refl

-- the table

pub new_ruled : Ruled small (opening (opening_words small) [] (first_view small))
new_ruled = begins small

pub draw_allowed : Allows (Ruled small) 0 0 (first_view small, []) 1 (λ x. (x + 1) % 2 ^ 64)
    (drawing (step 0 1 0 0 none) (first_view small, []))
draw_allowed = draws_number 0 0 0 0 none (first_view small) small_layout refl refl (lit< tt)

withdraw_owed : OwesStore (at 44) (announce_at small 0) 0 (withdraw_event (at 44))
withdraw_owed = record {
  by = refl;
  at = refl;
  no_draw = refl;
  writes = refl;
  allowed = λ journal r. lift_withdraw
      (at 44) known.may_withdraw journal r;
}

pub store_allowed : Allows (Ruled small) 0 0 (at 44, []) (announce_at small 0) (λ _. 0)
    (λ _. storing (λ _. withdraw_event (at 44)) (step 0 (announce_at small 0) 0 0 none) (at 44, []) 0)
store_allowed = stores 0 0 (announce_at small 0) 0 0 none (at 44) (λ _. withdraw_event (at 44)) refl withdraw_owed

unlink_owed : Owes (at 41) (bucket_at small 0) (λ x. cond (x == pack 0 0 0) (pack 1 0 0) x) (λ x. x == pack 0 0 0)
    (λ _. event 41)
unlink_owed = record {
  by = λ _. refl;
  at = λ _. refl;
  no_draw = λ _. refl;
  lose = λ x w. ap (λ b. cond b (pack 1 0 0) x) w;
  writes = λ journal r w. sym (ap (λ b. cond b (pack 1 0 0) (word_at small journal (bucket_at small 0))) w);
  allowed = λ journal r w. lift_unlink_vertex (at 41) small_layout journal r (bucket_at small 0) (pack 0 0 0) 1
      (first_life 0) known.may_unlink_vertex (eqb-true (word_at small journal (bucket_at small 0)) (pack 0 0 0) w);
}

pub change_allowed : Allows (Ruled small) 0 0 (at 41, []) (bucket_at small 0)
    (λ x. cond (x == pack 0 0 0) (pack 1 0 0) x) (turning (λ x. x == pack 0 0 0) (λ _. event 41)
    (step 0 (bucket_at small 0) 0 0 none) (at 41, []))
change_allowed = turns 0 0 (bucket_at small 0) 0 0 none (at 41) (λ x. cond (x == pack 0 0 0) (pack 1 0 0) x)
    (λ x. x == pack 0 0 0) (λ _. event 41) refl unlink_owed

pub word_closed : Ruled small closing_table → word_at small two_lives (free_at small) ≡ pack 3 0 7
unfolding machine
word_closed rule = sym (word_of_callers small closing_table rule 0 (free_at small)
    (pack 3 0 7) closing_view refl refl refl answers_all refl)

fits_last : Fits small two_lives 0 (λ _. 0) 0 last_view
unfolding state
fits_last = record {
  front = whole two_lives;
  met = record { rest = two_lives; whole = refl };
  draws = λ _. record { one = refl; drawn = refl };
  numbered = λ _. record { own = refl; drawn = lit< tt; old = lit≤ tt; quiet = quiet_from 0 53 two_lives refl };
  others = (record { own = refl; drawn = lit< tt; old = lit≤ tt; quiet = quiet_from 1 53 two_lives refl }, tt);
  apart = λ _. ((λ is. omega (arith, is)), tt);
}

pub last_ruled : Ruled small last_table
last_ruled = record {
  journal = two_lives;
  drawer = 0;
  owner = λ _. 0;
  words = refl;
  kept = two_lives_kept;
  seats = one;
}
  where
    one : (seat : ℕ) (v : View) → get_elem? (last_view ∷ []) seat ≡ some v → Fits small two_lives 0 (λ _. 0) seat v
    one zero v at = subst (Fits small two_lives 0 (λ _. 0) 0) (some-injective last_view v at) fits_last
    one (suc seat) v at = absurd (some-ne-none v (sym at))

answers_last : AnswersForAll last_view
answers_last = record { draws = refl; each = answers_all.each }

pub last_whole : (rule : Ruled small last_table) → rule.journal ≡ two_lives
last_whole rule = front_whole small last_table rule 0 last_view refl refl answers_last

pub last_word : Ruled small last_table → word_at small two_lives (free_at small) ≡ pack 3 0 7
unfolding machine
last_word rule = sym (closed_word small last_table rule 0 (free_at small)
    (pack 3 0 7) last_view refl refl answers_last refl)

sound_closing : IsSound closing_view
sound_closing = record {
  kept = two_lives_kept;
  quiet = λ _. quiet_from 0 53 two_lives refl;
  old = λ _. lit≤ tt;
  others
      = (quiet_from 1 53 two_lives refl, tt);
}

pub all_quiet : Every (λ (a : ℕ × ℕ). IsQuiet two_lives a.0 a.1) (accounts closing_view)
all_quiet = accounts_quiet closing_view sound_closing
