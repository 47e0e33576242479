-- Kept journals: one more allowed event, fronts, and what goes on from a front.
use Rattle.std.proofs.Common.{◌≡◌, ◌≢◌, ℕ, zero, suc, ◌≤◌, length, arith, length-append, List, [], ◌∷◌, ◌++◌, Some}
use Rattle.std.proofs.Common.{take, sym, subst, append_assoc, append-nil}
use Rattle.std.specs.Prelude.{slice_get}
use Rattle.packed_link.specs.Layout.{Sizes}
use Rattle.core_journal.specs.declared.event.Event.{Event}
use Rattle.core_journal.specs.Prefix.{IsPrefix}
use Rattle.core_journal.proofs.Lists.{get_here, take_here, prefix_snoc}
use Rattle.core_kept.specs.Kept.{Allowed, KeptFrom, IsKept, IsQuiet}

from_snoc : (sizes : Sizes) (past xs : List Event) (e : Event) → KeptFrom sizes past xs → Allowed sizes (past ++ xs) e
    → KeptFrom sizes past (xs ++ e ∷ [])
from_snoc sizes past [] e kept ok = (subst (λ (p : List Event). Allowed sizes p e) (append-nil past) ok, tt)
from_snoc sizes past (x ∷ xs) e kept ok = (
  kept.0,
  from_snoc sizes (past ++ x ∷ []) xs e kept.1
      (subst (λ (p : List Event). Allowed sizes p e) (sym (append_assoc past (x ∷ []) xs)) ok),
)

-- one more allowed event
pub kept_snoc : (sizes : Sizes) (journal : List Event) (e : Event) → IsKept sizes journal → Allowed sizes journal e
    → IsKept sizes (journal ++ e ∷ [])
kept_snoc sizes journal e kept ok = record { steps = from_snoc sizes [] journal e kept.steps ok }

from_front : (sizes : Sizes) (past xs ys : List Event) → KeptFrom sizes past (xs ++ ys) → KeptFrom sizes past xs
from_front sizes past [] ys kept = tt
from_front sizes past (x ∷ xs) ys kept = (kept.0, from_front sizes (past ++ x ∷ []) xs ys kept.1)

-- a front of a kept journal is kept
pub kept_front : (sizes : Sizes) (front journal : List Event) → IsPrefix front journal → IsKept sizes journal
    → IsKept sizes front
kept_front sizes front journal p kept = record {
  steps = from_front sizes [] front p.rest
      (subst (λ (j : List Event). KeptFrom sizes [] j) (sym p.whole) kept.steps);
}

-- what comes after a front is kept after it
from_rest : (sizes : Sizes) (past xs rest : List Event) → KeptFrom sizes past (xs ++ rest) → KeptFrom sizes
    (past ++ xs) rest
from_rest sizes past [] rest ok = subst (λ (p : List Event). KeptFrom sizes p rest) (sym (append-nil past)) ok
from_rest sizes past (x ∷ xs) rest ok = subst (λ (p : List Event). KeptFrom sizes p rest)
    (append_assoc past (x ∷ []) xs) (from_rest sizes (past ++ x ∷ []) xs rest ok.1)

rest_kept : (sizes : Sizes) (front journal : List Event) (p : IsPrefix front journal) → IsKept sizes journal
    → KeptFrom sizes front p.rest
rest_kept sizes front journal p kept = from_rest sizes [] front p.rest
    (subst (λ (j : List Event). KeptFrom sizes [] j) (sym p.whole) kept.steps)

-- each event of a kept journal was allowed after those before it
allowed_from : (sizes : Sizes) (past rest : List Event) (p : ℕ) (e : Event) → KeptFrom sizes past rest
    → slice_get rest p ≡ Some e → Allowed sizes (past ++ take p rest) e
allowed_from sizes past [] p e kept at = absurd (cc)
allowed_from sizes past (x ∷ xs) zero e kept at = let same : x ≡ e = cc in subst (Allowed sizes (past ++ [])) same
    (subst (λ (l : List Event). Allowed sizes l x) (sym (append-nil past)) kept.0)
allowed_from sizes past (x ∷ xs) (suc p) e kept at = subst (λ (l : List Event). Allowed sizes l e)
    (append_assoc past (x ∷ []) (take p xs)) (allowed_from sizes (past ++ x ∷ []) xs p e kept.1 at)

pub allowed_at : (sizes : Sizes) (journal : List Event) (p : ℕ) (e : Event) → IsKept sizes journal
    → slice_get journal p ≡ Some e → Allowed sizes (take p journal) e
allowed_at sizes journal p e kept at = allowed_from sizes [] journal p e kept.steps at

-- what stands before the last event is kept, and the last event was allowed after it
pub past_kept : (sizes : Sizes) (past : List Event) (e : Event) → IsKept sizes (past ++ e ∷ []) → IsKept sizes past
past_kept sizes past e kept = kept_front sizes past (past ++ e ∷ []) (prefix_snoc past e) kept

pub last_allowed : (sizes : Sizes) (past : List Event) (e : Event) → IsKept sizes (past ++ e ∷ [])
    → Allowed sizes past e
last_allowed sizes past e kept = subst (λ (l : List Event). Allowed sizes l e) (take_here past (e ∷ []))
    (allowed_at sizes (past ++ e ∷ []) (length past) e kept (get_here past e []))

module _ (sizes : Sizes) (P : List Event → Type 0) (step : (past : List Event) (e : Event) → IsKept sizes past → P past
    → Allowed sizes past e → P (past ++ e ∷ [])) where
  climb : (past rest : List Event) → IsKept sizes past → P past → KeptFrom sizes past rest → P (past ++ rest)
  climb past [] kept p ok = subst P (sym (append-nil past)) p
  climb past (e ∷ es) kept p ok = subst P (append_assoc past (e ∷ []) es)
      (climb (past ++ e ∷ []) es (kept_snoc sizes past e kept ok.0) (step past e kept p ok.0) ok.1)

  -- what holds at opening and is kept by each allowed event holds of each kept journal
  pub kept_all : P [] → (journal : List Event) → IsKept sizes journal → P journal
  kept_all start journal kept = climb [] journal (record { steps = tt }) start kept.steps

  -- what holds of a front and is kept by each allowed event holds of the journal
  pub kept_onward : (front journal : List Event) → IsPrefix front journal → IsKept sizes journal → P front → P journal
  kept_onward front journal p kept start = subst P p.whole (climb front p.rest
      (kept_front sizes front journal p kept) start (rest_kept sizes front journal p kept))

module _ (sizes : Sizes) (P : List Event → Type 0) (caller last : ℕ)
    (step : (past : List Event) (e : Event) → IsKept sizes past → P past → e.caller ≢ caller → Allowed sizes past e → P
    (past ++ e ∷ [])) where
  climb_beyond : (past rest : List Event) → IsKept sizes past → P past → last ≤ length past → IsQuiet
      (past ++ rest) caller last → KeptFrom sizes past rest → P (past ++ rest)
  climb_beyond past [] kept p old quiet ok = subst P (sym (append-nil past)) p
  climb_beyond past (e ∷ es) kept p old quiet ok =
      let other : e.caller ≢ caller = quiet.none (length past) e old (get_here past e es) in
      let longer : last ≤ length (past ++ e ∷ []) = omega (arith, length-append past (e ∷ [])) in
      let still : IsQuiet ((past ++ e ∷ []) ++ es) caller last = subst (λ (j : List Event). IsQuiet j caller last)
      (sym (append_assoc past (e ∷ []) es)) quiet in
      subst P (append_assoc past (e ∷ []) es) (climb_beyond (past ++ e ∷ []) es (kept_snoc sizes past e kept ok.0)
      (step past e kept p other ok.0) longer still ok.1)

  -- what holds of a front with all events of a caller and is kept by each event of the others holds of the journal
  pub kept_beyond : (front journal : List Event) → IsPrefix front journal → IsKept sizes journal
      → IsQuiet journal caller last → last ≤ length front → P front → P journal
  kept_beyond front journal p kept quiet old start =
      subst P p.whole (climb_beyond front p.rest (kept_front sizes front journal p kept) start old
      (subst (λ (j : List Event). IsQuiet j caller last) (sym p.whole) quiet)
      (rest_kept sizes front journal p kept))
