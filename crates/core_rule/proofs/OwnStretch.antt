-- The own events of a token between two of its views, and how a view goes on between others.
use Rattle.std.proofs.Common.{◌≡◌, ℕ, ◌<◌, ◌≤◌, List, [], ◌∷◌, ◌++◌, length, length-append, append-nil, take, None}
use Rattle.std.proofs.Common.{Some, ap₂, refl, sym, ap, ◌∙◌, subst, arith, ⊎_elim}
use Rattle.std.specs.Prelude.{slice_get}
use Rattle.std.proofs.lemmas.Bool.{cases_lt}
use Rattle.core_journal.specs.declared.event.Event.{Event}
use Rattle.core_journal.specs.Prefix.{IsPrefix}
use Rattle.core_journal.specs.State.{Pass}
use Rattle.core_journal.proofs.Lists.{get_back, get_here, get_short, take_front, take_here, prefix_refl}
use Rattle.core_kept.specs.Kept.{IsKept}
use Rattle.core_kept.proofs.Induction.{kept_front}
use Rattle.core_kept.proofs.PassBetween.{pass_between}
use Rattle.core_rule.specs.Stretches.{HasPass, Own}
use Rattle.core_rule.specs.Views.{GoesOn, Steps, moved_on}
use Rattle.core_rule.specs.declared.view.View.{View}

module _ (P : List Event → Event → Type 0) where
  -- from a view to itself there's none
  pub own_self : (v : View) → Own P v v
  own_self v = record { each = λ k e far at by. absurd (omega (arith, get_short v.front k e at, far)) }

  -- a load makes none
  pub own_look : (v w : View) → Steps v None w → Own P v w
  own_look v w t = record {
    each = λ k e far at by. absurd (t.reaches.quiet.none k e (omega (arith, far, t.reaches.old))
        (subst (λ (j : List Event). slice_get j k ≡ Some e) (t.front ∙ append-nil t.grown) at) by);
  }

  -- a step makes its own
  pub own_event : (v w : View) (e : Event) (t : Steps v (Some e) w) → P t.grown e → Own P v w
  own_event v w e t p = record {
    each = λ k x far at by.
        let at' : slice_get (t.grown ++ e ∷ []) k ≡ Some x = subst
        (λ (j : List Event). slice_get j k ≡ Some x) t.front at in
        ⊎_elim
        (λ (low : k < length t.grown). absurd (t.reaches.quiet.none k x (omega (arith, far, t.reaches.old))
        (sym (get_back t.grown (e ∷ []) k low) ∙ at') by))
        (λ (high : length t.grown ≤ k).
        let short = get_short (t.grown ++ e ∷ []) k x at' in
        let k_is : k ≡ length t.grown = omega (arith, short, length-append t.grown (e ∷ []), high) in
        let x_is : Some e ≡ Some x = sym (get_here t.grown e []) ∙
        (ap (slice_get (t.grown ++ e ∷ [])) (sym k_is) ∙ at') in
        let same : e ≡ x = cc in
        subst (λ (y : Event). P (take k w.front) y) same (subst (λ (j : List Event). P j e)
        (sym (ap₂ (λ (n : ℕ) (j : List Event). take n j) k_is t.front ∙ take_here t.grown (e ∷ []))) p))
        (cases_lt k (length t.grown));
  }

  -- one stretch behind another
  pub own_chain : (u v w : View) → v.number ≡ u.number → IsPrefix v.front w.front → Own P u v → Own P v w → Own P u w
  own_chain u v w number p a b = record {
    each = λ k e far at by. ⊎_elim
        (λ (low : k < length v.front).
        let at' : slice_get v.front k ≡ Some e = sym (get_back v.front p.rest k low) ∙
        (subst (λ (j : List Event). slice_get j k ≡ Some e) (sym p.whole) at) in
        subst (λ (j : List Event). P j e) (sym (take_front v.front p.rest k (omega (arith, low))) ∙ ap (take k) p.whole)
        (a.each k e far at' by))
        (λ (high : length v.front ≤ k). b.each k e high at (by ∙ sym number))
        (cases_lt k (length v.front));
  }

  -- what holds of each such event has what follows from it
  pub own_map : (Q : List Event → Event → Type 0) → ((past : List Event) (e : Event) → P past e → Q past e) →
      (v w : View) → Own P v w → Own Q v w
  own_map Q f v w o = record { each = λ k e far at by. f (take k w.front) e (o.each k e far at by) }

-- a view goes on to itself
pub goes_self : (v : View) → IsKept v.sizes v.front → GoesOn v v
goes_self v kept = record { view = refl; grows = prefix_refl v.front; kept = kept; pass = refl }

-- the pass that was open is open
pub goes_opened : (v w : View) → GoesOn v w → HasPass v → HasPass w
goes_opened v w g opened = subst (λ (u : View). HasPass u) (sym g.view) (ap (λ (p : Pass). p.is_open) g.pass ∙ opened)

-- a view goes on to each moment between it and a later one of the same open pass, and from there to that one
pub goes_between : (v w : View) → GoesOn v w → HasPass v → (middle : List Event) → IsPrefix v.front middle
    → IsPrefix middle w.front → GoesOn v (moved_on v middle v.last) × GoesOn (moved_on v middle v.last) w
goes_between v w g opened middle p q =
    let same = pass_between v.sizes v.number v.front middle w.front g.kept p q opened g.pass in (
      record { view = refl; grows = p; kept = kept_front v.sizes middle w.front q g.kept; pass = same },
      record { view = g.view; grows = q; kept = g.kept; pass = g.pass ∙ sym same },
    )
