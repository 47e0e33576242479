-- What other callers change on the worked journals, and what they and own unlinks leave.
use Rattle.std.proofs.Common.{◌≡◌, ◌⊎◌, ℕ, zero, suc, ◌≤◌, true, false, true≢false, eq-eqb, Some, List, [], ◌∷◌, ◌++◌}
use Rattle.std.proofs.Common.{take, drop, length, get_or, refl, sym, ap, ◌∙◌, inl, inr, lit<, lit≤}
use Rattle.std.specs.Prelude.{slice_get}
use Rattle.packed_link.specs.Layout.{bucket_at, free_at}
use Rattle.core_journal.specs.declared.event.Event.{Event}
use Rattle.core_journal.specs.Event.{blank, counted, unlinks}
use Rattle.core_journal.specs.Foreign.{foreign}
use Rattle.core_journal.specs.Machine.{machine, word_at}
use Rattle.core_journal.specs.Prefix.{IsPrefix}
use Rattle.core_journal.specs.State.{state}
use Rattle.core_journal.specs.TwoCallers.{callers_journal}
use Rattle.core_journal.specs.Worked.{small}
use Rattle.core_kept.specs.Facts.{HasMet}
use Rattle.core_kept.specs.Kept.{IsKept, IsQuiet}
use Rattle.core_kept.specs.Nodes.{is_listed}
use Rattle.core_lists.specs.Chains.{HasList}
use Rattle.core_lists.specs.Changed.{HasNoneAt, IsChangedByAnother}
use Rattle.core_lists.specs.Uncounted.{AreUncounted, StaysButUnlinked}
use Rattle.core_lists.proofs.ChangedByAnother.{bucket_changed, change_counts, free_changed, met_between}
use Rattle.core_lists.proofs.OwnUnlinksOnly.{list_stays, stays_but_unlinked}
use Rattle.core_lists.proofs.UncountedEvents.{quiet_uncounted}
use Rattle.core_worked.specs.Replacing.{replacing_journal}
use Rattle.core_worked.specs.TwoLives.{two_lives}
use Rattle.core_worked.proofs.KnownSteps.{front_kept}
use Rattle.core_worked.proofs.Replacing.{kept_51}
use Rattle.core_worked.proofs.SmallSteps.{quiet_from}
use Rattle.core_worked.proofs.TwoCallersKept.{callers_kept}
use Rattle.core_worked.proofs.TwoLives.{before, two_lives_kept}
use Rattle.core_worked.proofs.TwoLivesShown.{small_layout}

kept : (n : ℕ) → IsKept small (before n)
kept n = front_kept two_lives two_lives_kept n

longer : (n m : ℕ) → before n ++ drop n (before m) ≡ before m → IsPrefix (before n) (before m)
longer n m is = record { rest = drop n (before m); whole = is }

-- a caller that made no event behind a front made none at any place
none_at : (front journal : List Event) (caller place : ℕ) → IsQuiet journal caller (length front)
    → HasNoneAt front journal caller place
none_at front journal caller place quiet = record { none = λ p e since at mine. absurd (quiet.none p e since at mine) }

-- caller 1 makes no event from event 2 on to event 45

pub free_by_another : IsChangedByAnother (before 31) (before 33) 1 (free_at small)
unfolding machine word_at
free_by_another = free_changed small (before 31) (before 33) (longer 31 33 refl) (kept 33) 1
    (none_at (before 31) (before 33) 1 (free_at small) (quiet_from 1 31 (before 33) refl))
    (λ is. true≢false (sym (eq-eqb (word_at small (before 33) (free_at small))
    (word_at small (before 31) (free_at small)) is)))

pub bucket_by_another : IsChangedByAnother (before 8) (before 9) 1 (bucket_at small 0)
unfolding machine word_at
bucket_by_another = bucket_changed small (before 8) (before 9) (longer 8 9 refl) (kept 9) 1 0 (lit< tt)
    (none_at (before 8) (before 9) 1 (bucket_at small 0) (quiet_from 1 8 (before 9) refl))
    (λ is. true≢false (sym (eq-eqb (word_at small (before 9) (bucket_at small 0))
    (word_at small (before 8) (bucket_at small 0)) is)))

pub bucket_by_unlink : IsChangedByAnother (before 40) (before 42) 1 (bucket_at small 0)
unfolding machine word_at
bucket_by_unlink = bucket_changed small (before 40) (before 42) (longer 40 42 refl) (kept 42) 1 0 (lit< tt)
    (none_at (before 40) (before 42) 1 (bucket_at small 0) (quiet_from 1 40 (before 42) refl))
    (λ is. true≢false (sym (eq-eqb (word_at small (before 42) (bucket_at small 0))
    (word_at small (before 40) (bucket_at small 0)) is)))

pub counted_change : 1 ≤ foreign (before 33) 1 31 33
counted_change = change_counts (before 31) (before 33) 1 (free_at small) free_by_another

-- the journal of two callers at once

abbrev first : ℕ → List Event
first n = take n callers_journal

pub met_in_between : HasMet small (first 23) 0 1
unfolding state
met_in_between = met_between small (first 22) (first 28) (record { rest = drop 22 (first 28); whole = refl })
    (front_kept callers_journal callers_kept 28) 0 small_layout refl refl
    (first 23) (record { rest = drop 22 (first 23); whole = refl })
    (record { rest = drop 23 (first 28); whole = refl }) 1
    (record {
      pass = refl;
      free = λ (is : _). absurd (cc);
      fresh = λ (is : _). absurd (cc);
      spent = λ (is : _). absurd
          (cc);
    })

-- what stays

pub quiet_between : AreUncounted (drop 45 (before 47))
unfolding longer
quiet_between = quiet_uncounted (before 45) (before 47) (longer 45 47 refl) 0 45 (quiet_from 0 45 (before 47) refl)
    (lit≤ tt) refl

pub vertex_unlinked : StaysButUnlinked small (first 24) (drop 24 (first 26)) 1
vertex_unlinked = stays_but_unlinked small small_layout (first 24) 1 (drop 24 (first 26))
    (front_kept callers_journal callers_kept 26) (record { each = each })
  where
    each : (k : ℕ) (e : Event) → slice_get (drop 24 (first 26)) k ≡ Some e → (counted e.kind ≡ false) ⊎
        ((unlinks e.kind ≡ true) × (e.caller ≡ 1))
    each zero e at = let same : get_or callers_journal 24 blank ≡ e = cc in inr
        (ap (λ (d : Event). unlinks d.kind) (sym same), ap (λ (d : Event). d.caller) (sym same))
    each (suc zero) e at = let same : get_or callers_journal 25 blank ≡ e = cc in inl
        (ap (λ (d : Event). counted d.kind) (sym same))
    each (suc (suc k)) e at = absurd (cc)

abbrev replacing_front : ℕ → List Event
replacing_front n = take n replacing_journal

pub edges_unlinked : StaysButUnlinked small (replacing_front 47) (drop 47 (replacing_front 51)) 0
edges_unlinked = stays_but_unlinked small small_layout (replacing_front 47) 0 (drop 47 (replacing_front 51)) kept_51
    (record { each = each })
  where
    own : (n : ℕ) (e : Event) → unlinks (get_or replacing_journal n blank).kind ≡ true →
        (get_or replacing_journal n blank).caller ≡ 0 → get_or replacing_journal n blank ≡ e → (counted e.kind ≡ false)
        ⊎ ((unlinks e.kind ≡ true) × (e.caller ≡ 0))
    own n e cuts mine same = inr (
      ap (λ (d : Event). unlinks d.kind) (sym same) ∙ cuts,
      ap (λ (d : Event). d.caller)
          (sym same) ∙ mine,
    )

    each : (k : ℕ) (e : Event) → slice_get (drop 47 (replacing_front 51)) k ≡ Some e → (counted e.kind ≡ false) ⊎
        ((unlinks e.kind ≡ true) × (e.caller ≡ 0))
    each zero e at = own 47 e refl refl (cc)
    each (suc zero) e at = own 48 e refl refl (cc)
    each (suc (suc zero)) e at = own 49 e refl refl (cc)
    each (suc (suc (suc zero))) e at = let same : get_or replacing_journal 50 blank ≡ e = cc in inl
        (ap (λ (d : Event). counted d.kind) (sym same))
    each (suc (suc (suc (suc k)))) e at = absurd (cc)

pub three_listed : (state small (replacing_front 47)).edges 0 ≡ 2 ∷ 3 ∷ 4 ∷ []
unfolding state
three_listed = refl

pub none_listed : (state small (replacing_front 51)).edges 0 ≡ []
unfolding state
none_listed = refl

pub taken_off : is_listed (state small (replacing_front 51)) 0 3 ≡ false
taken_off = edges_unlinked.lists 0 3

list_before : HasList small (replacing_front 47) 0
unfolding state
list_before = record { there = lit< tt; used = tt; vertex = refl; unfinished = λ f. true≢false (sym f.head) }

pub list_behind : HasList small (replacing_front 51) 0
list_behind = list_stays small (replacing_front 47) (drop 47 (replacing_front 51)) 0 0 edges_unlinked list_before
