-- Where an open pass is the same at two moments, it's the same at each moment between them.
use Rattle.std.proofs.Common.{◌≡◌, ◌⊎◌, ℕ, ◌<◌, ◌≤◌, true, false, true≢false, List, [], ◌∷◌, ◌++◌, length}
use Rattle.std.proofs.Common.{length-append, inl, inr, refl, sym, ap, ◌∙◌, subst, arith, ⊎_elim}
use Rattle.packed_link.specs.Layout.{Sizes}
use Rattle.core_journal.specs.declared.event.Kind.{Kind}
use Rattle.core_journal.specs.declared.event.Kind.TheVariants.{Announce, Withdraw}
use Rattle.core_journal.specs.declared.event.Event.{Event}
use Rattle.core_journal.specs.Prefix.{IsPrefix}
use Rattle.core_journal.specs.Reuse.{pass_in}
use Rattle.core_journal.specs.State.{Pass, State, state, state_by}
use Rattle.core_journal.proofs.States.{state-snoc, count-length}
use Rattle.core_kept.specs.Kept.{Allowed, IsKept}
use Rattle.core_kept.proofs.Announcements.{announcements}
use Rattle.core_kept.proofs.Induction.{kept_front, kept_onward}
use Rattle.core_kept.proofs.ByKind.{put_case}

-- a pass is as it was, or it's closed, or it began just now
abbrev IsNextPass : Pass → Pass → ℕ → Type 0
IsNextPass old new count = (new ≡ old) ⊎ ((new.is_open ≡ false) ⊎ (new.since ≡ count))

next_by : (k : Kind) (sizes : Sizes) (e : Event) (s : State) (c : ℕ) → IsNextPass (s.pass c)
    ((state_by k sizes e s).pass c) s.count
next_by Announce sizes e s c = put_case (λ (p : Pass). IsNextPass (s.pass c) p s.count) e.caller _ s.pass c
    (λ _. inr (inr refl)) (λ _. inl refl)
next_by Withdraw sizes e s c = put_case (λ (p : Pass). IsNextPass (s.pass c) p s.count) e.caller _ s.pass c
    (λ _. inr (inl refl)) (λ _. inl refl)
next_by _ sizes e s c = inl refl

module _ (sizes : Sizes) (c n : ℕ) where
  -- the caller has no pass, or one that began at this length or later
  abbrev BeganSince : Pass → Type 0
  BeganSince p = (p.is_open ≡ false) ⊎ (n ≤ p.since)

  abbrev pass_after : List Event → Pass
  pass_after j = pass_in sizes j c

  next_pass : (past : List Event) (e : Event) → IsNextPass (pass_after past) (pass_after (past ++ e ∷ [])) (length past)
  next_pass past e = subst (λ (s : State). IsNextPass (pass_after past) (s.pass c) (length past))
      (sym (state-snoc sizes past e))
      (subst (λ (k : ℕ). IsNextPass (pass_after past) ((state_by e.kind sizes e (state sizes past)).pass c) k)
      (count-length sizes past) (next_by e.kind sizes e (state sizes past) c))

  -- a pass that isn't as it was is a later one
  moved_later : (past : List Event) (e : Event) → n ≤ length past → ((pass_after (past ++ e ∷ [])).is_open ≡ false) ⊎
      ((pass_after (past ++ e ∷ [])).since ≡ length past) → BeganSince (pass_after (past ++ e ∷ []))
  moved_later past e far h = ⊎_elim (λ closed. inl closed) (λ since. inr (omega (arith, since, far))) h

  abbrev IsLaterAt : List Event → Type 0
  IsLaterAt j = (n ≤ length j) × BeganSince (pass_after j)

  later_step : (past : List Event) (e : Event) → IsKept sizes past → IsLaterAt past → Allowed sizes past e → IsLaterAt
      (past ++ e ∷ [])
  later_step past e kept h ok = (
    omega (arith, length-append past (e ∷ []), h.0),
    ⊎_elim
        (λ (same : pass_after (past ++ e ∷ []) ≡ pass_after past). subst BeganSince (sym same) h.1)
        (λ (r : ((pass_after (past ++ e ∷ [])).is_open ≡ false) ⊎ ((pass_after (past ++ e ∷ [])).since ≡ length past)).
        moved_later past e h.0 r)
        (next_pass past e),
  )

  -- the pass is the old one, or a later one
  abbrev IsOldOr : Pass → List Event → Type 0
  IsOldOr old j = (n ≤ length j) × ((pass_after j ≡ old) ⊎ BeganSince (pass_after j))

  old_step : (old : Pass) (past : List Event) (e : Event) → IsKept sizes past → IsOldOr old past → Allowed sizes past e
      → IsOldOr old (past ++ e ∷ [])
  old_step old past e kept h ok = ⊎_elim
      (λ (was : pass_after past ≡ old). (
        omega (arith, length-append past (e ∷ []), h.0),
        ⊎_elim
            (λ (same : pass_after (past ++ e ∷ []) ≡ pass_after past). inl (same ∙ was))
            (λ (r : ((pass_after (past ++ e ∷ [])).is_open ≡ false) ⊎
            ((pass_after (past ++ e ∷ [])).since ≡ length past)). inr (moved_later past e h.0 r))
            (next_pass past e),
      ))
      (λ (later : BeganSince (pass_after past)). let l = later_step past e kept (h.0, later) ok in (l.0, inr l.1))
      h.1

-- an open pass that is the same at two moments is the same at each moment between them
pub pass_between : (sizes : Sizes) (c : ℕ) (first middle last : List Event) → IsKept sizes last → IsPrefix first middle
    → IsPrefix middle last → (pass_in sizes first c).is_open ≡ true → pass_in sizes last c ≡ pass_in sizes first c
    → pass_in sizes middle c ≡ pass_in sizes first c
pass_between sizes c first middle last kept p q opened same =
    let kept_m = kept_front sizes middle last q kept in
    let n = length first in
    let began : (pass_in sizes first c).since < n = omega (
      arith,
      ((announcements sizes first (kept_front sizes first middle p kept_m)).inside c opened).began,
      count-length sizes
          first,
    ) in
    let m = kept_onward sizes (IsOldOr sizes c n (pass_in sizes first c))
    (old_step sizes c n (pass_in sizes first c)) first middle p kept_m (omega arith, inl refl) in
    ⊎_elim
    (λ (is : pass_in sizes middle c ≡ pass_in sizes first c). is)
    (λ (later : BeganSince sizes c n (pass_in sizes middle c)).
    let l = kept_onward sizes (IsLaterAt sizes c n) (later_step sizes c n) middle last q kept (m.0, later) in
    absurd (⊎_elim
    (λ (closed : (pass_in sizes last c).is_open ≡ false). true≢false
    (sym (ap (λ (x : Pass). x.is_open) same ∙ opened) ∙ closed))
    (λ (since : n ≤ (pass_in sizes last c).since). omega (arith, since, began, ap (λ (x : Pass). x.since) same))
    l.1))
    m.1
