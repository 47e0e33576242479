-- The laws of kept journals on the worked ones.
use Rattle.std.proofs.Common.{◌≡◌, ◌≢◌, ℕ, ◌+◌, ◌<◌, ◌≤◌, None, Some, List, take, drop, refl, sym, inl, lit<, lit≤}
use Rattle.packed_link.specs.Link.{mark_of, pack, tag_of}
use Rattle.packed_link.specs.Layout.{epoch_at, link_at, second_at}
use Rattle.core_epoch.specs.Clock.{IsClear}
use Rattle.core_journal.specs.declared.event.Event.{Event}
use Rattle.core_journal.specs.Changes.{IsFrozenEdge, IsNewEdge, IsNewVertex, IsReplacing}
use Rattle.core_journal.specs.Event.{pops}
use Rattle.core_journal.specs.Life.{key_of}
use Rattle.core_journal.specs.Machine.{machine, word_at}
use Rattle.core_journal.specs.Prefix.{IsPrefix}
use Rattle.core_journal.specs.Reuse.{pass_in}
use Rattle.core_journal.specs.State.{Free, Linked, state}
use Rattle.core_journal.specs.TwoCallers.{callers_journal}
use Rattle.core_journal.specs.Worked.{first_life, small}
use Rattle.core_kept.specs.Counts.{made}
use Rattle.core_kept.specs.Facts.{HasMet, IsHeld, IsKeptSpent}
use Rattle.core_kept.specs.Kept.{IsKept}
use Rattle.core_kept.specs.Moments.{clock_in}
use Rattle.core_kept.specs.Nodes.{IsFreshWith, IsRipe, node_in}
use Rattle.core_kept.proofs.Announcements.{epoch_word_rises}
use Rattle.core_kept.proofs.Callers.{called, made_quiet}
use Rattle.core_kept.proofs.EdgeEnds.{frozen_edge, new_edge, new_replacing, new_vertex}
use Rattle.core_kept.proofs.EdgeEndsBefore.{ends_before}
use Rattle.core_kept.proofs.FreeList.{pop_again}
use Rattle.core_kept.proofs.Induction.{allowed_at}
use Rattle.core_kept.proofs.LinkWords.{taken, unmarked_linked, used_link}
use Rattle.core_kept.proofs.MarkedWords.{marked_head_stays, marked_link_stays}
use Rattle.core_kept.proofs.MetWords.{ripe_not_met}
use Rattle.core_kept.proofs.NearEpochs.{checked}
use Rattle.core_kept.proofs.OwnFacts.{fresh_stays, none_fresh_stays, pass_stays}
use Rattle.core_kept.proofs.OwnSpent.{spent_stays}
use Rattle.core_kept.proofs.Ripe.{ripe_before}
use Rattle.core_worked.specs.Replacing.{replaces_by, replacing_journal}
use Rattle.core_worked.specs.TwoLives.{freezes_second, links_new, two_lives}
use Rattle.core_worked.proofs.KnownSteps.{front_kept}
use Rattle.core_worked.proofs.LawSteps.{kept, longer}
use Rattle.core_worked.proofs.Replacing.{kept_33, replacing_kept}
use Rattle.core_worked.proofs.SmallSteps.{none_fresh, quiet_from, whole}
use Rattle.core_worked.proofs.TwoCallersKept.{callers_kept}
use Rattle.core_worked.proofs.TwoLives.{before, event, ripe, two_lives_kept}
use Rattle.core_worked.proofs.TwoLivesShown.{small_layout}

-- what is a caller's own

abbrev first : ℕ → List Event
first n = take n callers_journal

one_more : IsPrefix (first 22) (first 23)
one_more = record { rest = drop 22 (first 23); whole = refl }

first_kept : IsKept small (first 23)
first_kept = front_kept callers_journal callers_kept 23

pub pass_between_others : pass_in small (first 23) 0 ≡ pass_in small (first 22) 0
pass_between_others = pass_stays small 0 22 (first 22) (first 23) one_more first_kept (quiet_from 0 22 (first 23) refl)
    (lit≤ tt)

pub fresh_between_others : IsHeld small (first 22) (first 23) 2
unfolding state
fresh_between_others = fresh_stays small small_layout 0 22 2 (lit< tt) (first 22) (first 23) one_more first_kept
    (quiet_from 0 22 (first 23) refl) (lit≤ tt) (record { fresh = refl; mine = refl })

pub none_between_others : (x : ℕ) → x < 8 → IsFreshWith small (before 47) 0 x → ⊥
unfolding state
none_between_others = none_fresh_stays small 0 45 (before 45) (before 47) (longer 45 47 refl) (kept 47)
    (quiet_from 0 45 (before 47) refl) (lit≤ tt) (none_fresh (before 45) refl)

pub four_taken : made pops 0 (before 47) ≡ 4
four_taken = made_quiet pops 0 45 (before 45) (before 47) (longer 45 47 refl) (lit≤ tt)
    (quiet_from 0 45 (before 47) refl)

pub spent_between_others : IsKeptSpent small (before 45) (before 47) 3
unfolding state
spent_between_others = spent_stays small small_layout 0 45 3 (lit< tt) (before 45) (before 47) (longer 45 47 refl)
    (kept 47) (quiet_from 0 45 (before 47) refl) (lit≤ tt) (record { spent = refl; mine = refl })

pub one_drawn : 1 < (state small two_lives).drawn
one_drawn = called small two_lives two_lives_kept 45 (event 45) refl

ripe_2 : IsRipe small two_lives 0 2
unfolding state
ripe_2 = ripe two_lives 2 (record { rest = drop 47 two_lives; whole = refl }) refl refl refl refl

pub two_not_met : HasMet small two_lives 0 2 → ⊥
two_not_met = ripe_not_met small small_layout two_lives two_lives_kept 0 0 2 ripe_2

pub two_ended : (node_in small two_lives 2).ended ≤ (pass_in small two_lives 0).since
unfolding state
two_ended = ripe_before small small_layout two_lives two_lives_kept 0 2 0 ripe_2 refl

pub clear_of_zero : IsClear (word_at small (before 2) (epoch_at small)) 1 (clock_in small (before 45))
unfolding machine word_at
clear_of_zero = checked small (before 2) (before 45) 1 (lit< tt) (kept 45)
    (record { moment = before 2; after = whole (before 2); before = longer 2 45 refl; clear = inl refl })

-- what is linked

pub ends_of_edge : (key_of (before 24) (first_life 0) ≢ None) × (key_of (before 24) (first_life 1) ≡ Some 2)
ends_of_edge = ends_before small small_layout two_lives two_lives_kept 24 (links_new 2 5) refl refl

pub vertex_is_new : IsNewVertex (before 16) (event 16)
vertex_is_new = new_vertex small small_layout (before 16) (event 16) (kept 16) refl
    (allowed_at small two_lives 16 (event 16) two_lives_kept refl).as_kind

pub edge_is_new : IsNewEdge (before 24) (links_new 2 5)
edge_is_new = new_edge small small_layout (before 24) (links_new 2 5) (kept 24) refl
    (allowed_at small two_lives 24 (links_new 2 5) two_lives_kept refl).as_kind

pub replacing_is_new : IsReplacing (take 33 replacing_journal) (replaces_by 2 3 6)
replacing_is_new = new_replacing small small_layout (take 33 replacing_journal) (replaces_by 2 3 6) kept_33 refl
    (allowed_at small replacing_journal 33 (replaces_by 2 3 6) replacing_kept refl).as_kind

pub frozen_is_of_marked : IsFrozenEdge (before 43) freezes_second
frozen_is_of_marked = frozen_edge small small_layout (before 43) freezes_second (kept 43) refl
    (allowed_at small two_lives 43 freezes_second two_lives_kept refl).as_kind

-- what words tell

pub was_free : (node_in small (before 52) 0).mode ≡ Free
was_free = (taken small small_layout (before 52) (event 52) (kept 52)
    (allowed_at small two_lives 52 (event 52) two_lives_kept refl).as_kind).free

pub second_life : (node_in small (before 52) 0).tag + 1 ≡ 2
second_life = sym (taken small small_layout (before 52) (event 52) (kept 52)
    (allowed_at small two_lives 52 (event 52) two_lives_kept refl).as_kind).tag

pub same_link : word_at small (before 52) (link_at small 0) ≡ pack 3 1 1
unfolding machine word_at
same_link = (pop_again small small_layout (pack 0 0 6) (pack 3 1 1) (lit< tt) (before 51) (before 51) (before 52)
    (longer 51 51 refl) (longer 51 52 refl) (kept 52) refl refl refl).0

pub linked_still : (node_in small (before 38) 3).mode ≡ Linked
unfolding machine word_at state
linked_still = unmarked_linked small small_layout (before 38) (kept 38) 3 (lit< tt) (λ h. absurd (cc))
    (λ h. absurd (cc)) refl

pub link_of_spent : (tag_of (word_at small (before 44) (link_at small 0)) ≡ 1) ×
    (mark_of (word_at small (before 44) (link_at small 0)) ≡ 1)
unfolding state
link_of_spent = used_link small small_layout (before 44) (kept 44) 0 (lit< tt) tt

pub link_stays : word_at small (before 44) (link_at small 0) ≡ pack 1 1 1
unfolding machine word_at state
link_stays = marked_link_stays small small_layout 0 (before 41) (before 44) (longer 41 44 refl) (kept 44)
    (λ h. absurd (cc)) refl refl refl

pub head_stays : word_at small (before 47) (second_at small 0) ≡ pack 3 1 1
unfolding machine word_at state
head_stays = marked_head_stays small small_layout 0 (before 43) (before 47) (longer 43 47 refl) (kept 47)
    (λ h. absurd (cc)) refl refl

pub epoch_rises : word_at small (before 45) (epoch_at small) ≤ word_at small (before 47) (epoch_at small)
epoch_rises = epoch_word_rises small (before 45) (before 47) (longer 45 47 refl) (kept 47)
