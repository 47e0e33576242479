-- Whose events stand in a kept journal: those of callers that drew their numbers, and where a caller is quiet no more
-- of its own.
use Rattle.std.proofs.Common.{◌≡◌, ◌≢◌, ◌⊎◌, ℕ, zero, suc, ◌+◌, ◌<◌, ◌≤◌, Bool, true, false, cond, ◌&&◌, eqb, List, []}
use Rattle.std.proofs.Common.{◌∷◌, ◌++◌, length, Some, refl, sym, ap, ◌∙◌, subst, arith, inl, inr, ⊎_elim}
use Rattle.std.proofs.Common.{length-append, append_assoc, append-nil, ne_eqb, eq-eqb}
use Rattle.std.specs.Prelude.{slice_get}
use Rattle.packed_link.specs.Layout.{Sizes}
use Rattle.core_journal.specs.Event.{draws}
use Rattle.core_journal.specs.declared.event.Kind.{Kind}
use Rattle.core_journal.specs.declared.event.Kind.TheVariants.{DrawNumber}
use Rattle.core_journal.specs.declared.event.Event.{Event}
use Rattle.core_journal.specs.Prefix.{IsPrefix}
use Rattle.core_journal.specs.State.{State, state_by, state}
use Rattle.core_journal.proofs.Lists.{get_short, get_front, get_here}
use Rattle.core_journal.proofs.States.{state-snoc}
use Rattle.core_kept.specs.Counts.{made}
use Rattle.core_kept.specs.Kept.{AllowedAs, IsKept, IsQuiet}
use Rattle.core_kept.proofs.Induction.{kept_all}
use Rattle.core_kept.proofs.PastLives.{count_snoc}

module _ {A : Type 0} where
  -- an element of a longer list is one of the shorter, or the new one
  pub get_snoc : (xs : List A) (x : A) (k : ℕ) (a : A) → slice_get (xs ++ x ∷ []) k ≡ Some a → (slice_get xs k ≡ Some a)
      ⊎ (x ≡ a)
  get_snoc [] x zero a e = inr (cc)
  get_snoc [] x (suc k) a e = absurd (cc)
  get_snoc (y ∷ xs) x zero a e = inl e
  get_snoc (y ∷ xs) x (suc k) a e = get_snoc xs x k a e

-- an event of another caller leaves a caller quiet
pub quiet_more : (journal : List Event) (e : Event) (caller last : ℕ) → e.caller ≢ caller → IsQuiet journal caller last
    → IsQuiet (journal ++ e ∷ []) caller last
quiet_more journal e caller last other q = record {
  none = λ k d le at. ⊎_elim (λ (h : slice_get journal k ≡ Some d). q.none k d le h)
      (λ (h : e ≡ d). subst (λ (b : Event). b.caller ≢ caller) h other) (get_snoc journal e k d at);
}

-- a caller is quiet behind the end
pub quiet_end : (journal : List Event) (caller : ℕ) → IsQuiet journal caller (length journal)
quiet_end journal caller = record {
  none = λ k d le at. let h = get_short journal k d at in absurd
      (omega (arith, h, le));
}

-- a front of a journal in which a caller is quiet
pub quiet_front : (front journal : List Event) (caller last : ℕ) → IsPrefix front journal → IsQuiet journal caller last
    → IsQuiet front caller last
quiet_front front journal caller last p q = record {
  none = λ k d le at. q.none k d le
      (subst (λ (j : List Event). slice_get j k ≡ Some d) p.whole (get_front front p.rest k d at));
}

drawn_by : (k : Kind) → draws k ≡ false → (sizes : Sizes) (e : Event) (s : State) →
    (state_by k sizes e s).drawn ≡ s.drawn
drawn_by DrawNumber is sizes e s = absurd (cc)
drawn_by _ is sizes e s = refl

drawn_rises : (k : Kind) (sizes : Sizes) (e : Event) (s : State) → s.drawn ≤ (state_by k sizes e s).drawn
drawn_rises DrawNumber sizes e s = omega arith
drawn_rises _ sizes e s = omega arith

-- an event that is no draw
pub drawn_other : (sizes : Sizes) (journal : List Event) (e : Event) → draws e.kind ≡ false →
    (state sizes (journal ++ e ∷ [])).drawn ≡ (state sizes journal).drawn
drawn_other sizes journal e is = ap (λ (s : State). s.drawn) (state-snoc sizes journal e) ∙ drawn_by e.kind is sizes e
    (state sizes journal)

pub drawn_more : (sizes : Sizes) (journal : List Event) (e : Event) → (state sizes journal).drawn ≤
    (state sizes (journal ++ e ∷ [])).drawn
drawn_more sizes journal e = let h = ap (λ (s : State). s.drawn) (state-snoc sizes journal e) in omega
    (arith, h, drawn_rises e.kind sizes e (state sizes journal))

-- a draw
pub drawn_draw : (sizes : Sizes) (journal : List Event) (e : Event) → e.kind ≡ DrawNumber →
    (state sizes (journal ++ e ∷ [])).drawn ≡ (state sizes journal).drawn + 1
drawn_draw sizes journal e is = ap (λ (s : State). s.drawn) (state-snoc sizes journal e) ∙ ap
    (λ (k : Kind). (state_by k sizes e (state sizes journal)).drawn) is

pub called_by : (k : Kind) (sizes : Sizes) (past : List Event) (e : Event) →
    (draws k ≡ false → e.caller < (state sizes past).drawn) → AllowedAs k sizes past e → e.caller <
    (state_by k sizes e (state sizes past)).drawn
called_by DrawNumber sizes past e by ok = omega (arith, ok.caller)
called_by _ sizes past e by ok = by refl

-- the caller of each event has drawn its number
pub called : (sizes : Sizes) (journal : List Event) → IsKept sizes journal → (k : ℕ) (e : Event)
    → slice_get journal k ≡ Some e → e.caller < (state sizes journal).drawn
called sizes journal kept = kept_all sizes (λ (j : List Event). (k : ℕ) (e : Event) → slice_get j k ≡ Some e
    → e.caller < (state sizes j).drawn)
    (λ past e _ h ok k d at. ⊎_elim (λ (old : slice_get past k ≡ Some d). let b = h k d old in omega
    (arith, b, drawn_more sizes past e))
    (λ (new : e ≡ d). subst (λ (b : Event). b.caller < (state sizes (past ++ e ∷ [])).drawn) new
    (let s = ap (λ (s : State). s.drawn) (state-snoc sizes past e) in omega
    (arith, s, called_by e.kind sizes past e ok.by ok.as_kind)))
    (get_snoc past e k d at))
    (λ k e at. absurd (cc)) journal kept

-- an event of another caller is none of a caller's
pub made_other : (test : Kind → Bool) (caller : ℕ) (past : List Event) (e : Event) → e.caller ≢ caller
    → made test caller (past ++ e ∷ []) ≡ made test caller past
made_other test caller past e other = by (test e.kind) (count_snoc
    (λ (d : Event). test d.kind && eqb d.caller caller) past e)
  where
    by : (b : Bool) → made test caller (past ++ e ∷ []) ≡ made test caller past + cond (b && eqb e.caller caller) 1 0
        → made test caller (past ++ e ∷ []) ≡ made test caller past
    by true h = h ∙ (ap (λ (c : Bool). made test caller past + cond c 1 0) (ne_eqb e.caller caller other) ∙ omega arith)
    by false h = omega (arith, h)

-- an event of another kind isn't counted, and one of this kind and caller is
pub made_none : (test : Kind → Bool) (caller : ℕ) (past : List Event) (e : Event) → test e.kind ≡ false
    → made test caller (past ++ e ∷ []) ≡ made test caller past
made_none test caller past e is = count_snoc (λ (d : Event). test d.kind && eqb d.caller caller) past e ∙
    (ap (λ (b : Bool). made test caller past + cond (b && eqb e.caller caller) 1 0) is ∙ omega arith)

pub made_one : (test : Kind → Bool) (past : List Event) (e : Event) → test e.kind ≡ true → made test e.caller
    (past ++ e ∷ []) ≡ made test e.caller past + 1
made_one test past e is = count_snoc (λ (d : Event). test d.kind && eqb d.caller e.caller) past e ∙
    (ap (λ (b : Bool). made test e.caller past + cond (b && eqb e.caller e.caller) 1 0) is ∙ ap
    (λ (b : Bool). made test e.caller past + cond b 1 0) (eq-eqb e.caller e.caller refl))

made_rest : (test : Kind → Bool) (caller last : ℕ) (front rest : List Event) → last ≤ length front → IsQuiet
    (front ++ rest) caller last → made test caller (front ++ rest) ≡ made test caller front
made_rest test caller last front [] old q = ap (made test caller) (append-nil front)
made_rest test caller last front (e ∷ es) old q =
    let other : e.caller ≢ caller = q.none (length front) e old (get_here front e es) in
    let step : made test caller (front ++ e ∷ []) ≡ made test caller front = made_other test caller front e other in
    let longer : last ≤ length (front ++ e ∷ []) = omega (arith, length-append front (e ∷ []), old) in
    let whole = append_assoc front (e ∷ []) es in
    ap (made test caller) (sym whole) ∙ (made_rest test caller last (front ++ e ∷ []) es longer
    (subst (λ (j : List Event). IsQuiet j caller last) (sym whole) q) ∙ step)

-- a front with all events of a caller has all that are counted
pub made_quiet : (test : Kind → Bool) (caller last : ℕ) (front journal : List Event) → IsPrefix front journal
    → last ≤ length front → IsQuiet journal caller last → made test caller journal ≡ made test caller front
made_quiet test caller last front journal p old q = ap (made test caller) (sym p.whole)
    ∙ made_rest test caller last front p.rest old (subst (λ (j : List Event). IsQuiet j caller last) (sym p.whole) q)
