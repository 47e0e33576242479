-- A caller that made no event but its draw has no pass and no node.
use Rattle.std.proofs.Common.{◌≡◌, ◌≢◌, ◌⊎◌, ℕ, ◌+◌, ◌≤◌, true, false, ◌&&◌, eqb, List, [], ◌∷◌, ◌++◌, refl, sym, ap}
use Rattle.std.proofs.Common.{◌∙◌, subst, arith, ⊎_elim}
use Rattle.packed_link.specs.Layout.{Sizes, IsLayout}
use Rattle.core_journal.specs.declared.event.Kind.{Kind}
use Rattle.core_journal.specs.declared.event.Kind.TheVariants.{DrawNumber, PopFree, Announce, Withdraw}
use Rattle.core_journal.specs.declared.event.Event.{Event}
use Rattle.core_journal.specs.Event.{unlinks}
use Rattle.core_journal.specs.Reuse.{pass_in}
use Rattle.core_journal.specs.State.{Pass, Node, State, state_by, state}
use Rattle.core_journal.proofs.States.{state-snoc}
use Rattle.core_kept.specs.Counts.{made}
use Rattle.core_kept.specs.Kept.{Allowed, IsKept}
use Rattle.core_kept.specs.Nodes.{IsFreshWith, IsSpentWith}
use Rattle.core_kept.proofs.Callers.{made_one}
use Rattle.core_kept.proofs.Induction.{kept_all}
use Rattle.core_kept.proofs.PastLives.{count_snoc}
use Rattle.core_kept.proofs.OwnFacts.{fresh_was}
use Rattle.core_kept.proofs.ByKind.{put_case}
use Rattle.core_counts.specs.Spending.{acts, IsOwnUnlink, IsHandedOver}
use Rattle.core_counts.proofs.NodesBecomeSpent.{becoming}

pub record HasNothing (sizes : Sizes) (journal : List Event) (caller : ℕ) : Type 0 where
  pub pass : (pass_in sizes journal caller).is_open ≡ false
  pub fresh : (x : ℕ) → IsFreshWith sizes journal caller x → ⊥
  pub spent : (x : ℕ) → IsSpentWith sizes journal caller x → ⊥

pass_by : (k : Kind) (sizes : Sizes) (e : Event) (s : State) (caller : ℕ) → (acts k ≡ true → e.caller ≢ caller) →
    (s.pass caller).is_open ≡ false → ((state_by k sizes e s).pass caller).is_open ≡ false
pass_by Announce sizes e s caller other h = put_case (λ (q : Pass). q.is_open ≡ false) e.caller _ s.pass caller
    (λ same. absurd (other refl (sym same))) (λ _. h)
pass_by Withdraw sizes e s caller other h = put_case (λ (q : Pass). q.is_open ≡ false) e.caller _ s.pass caller
    (λ same. absurd (other refl (sym same))) (λ _. h)
pass_by _ sizes e s caller other h = h

acts_taken : (k : Kind) → k ≡ PopFree → acts k ≡ true
acts_taken PopFree h = refl
acts_taken _ h = absurd (cc)

acts_unlinked : (k : Kind) → unlinks k ≡ true → acts k ≡ true
acts_unlinked DrawNumber h = absurd (cc)
acts_unlinked _ h = refl

-- one more event that isn't the caller's
nothing_more : (sizes : Sizes) → IsLayout sizes → (past : List Event) (e : Event) (caller : ℕ) → IsKept sizes past
    → Allowed sizes past e → (acts e.kind ≡ true → e.caller ≢ caller) → HasNothing sizes past caller → HasNothing sizes
    (past ++ e ∷ []) caller
nothing_more sizes z past e caller kept ok other h = record {
  pass = ap (λ (s : State). (s.pass caller).is_open) (state-snoc sizes past e) ∙ pass_by e.kind sizes e
      (state sizes past) caller other h.pass;
  fresh = λ x f.
      let now = ap (λ (s : State). s.node x) (state-snoc sizes past e) in
      let was = fresh_was e.kind sizes e (state sizes past) caller x (λ p. other (acts_taken e.kind p))
      (sym (ap (λ (v : Node). v.mode) now) ∙ f.fresh) (sym (ap (λ (v : Node). v.who) now) ∙ f.mine) in
      h.fresh x (record { fresh = was.0; mine = was.1 });
  spent = λ x f. ⊎_elim (λ (a : IsSpentWith sizes past caller x ⊎ IsOwnUnlink e caller x). ⊎_elim
      (λ (w : IsSpentWith sizes past caller x). h.spent x w) (λ (u : IsOwnUnlink e caller x). other
      (acts_unlinked e.kind u.unlinks) u.mine) a)
      (λ (o : IsHandedOver sizes past e caller x). h.spent o.vertex
      (record { spent = o.spent.spent; mine = o.spent.mine }))
      (becoming sizes z past e kept ok caller x f);
}

pub has_nothing : (sizes : Sizes) → IsLayout sizes → (journal : List Event) → IsKept sizes journal → (caller : ℕ)
    → made acts caller journal ≡ 0 → HasNothing sizes journal caller
unfolding state
has_nothing sizes z journal kept caller = kept_all sizes (λ (j : List Event). made acts caller j ≡ 0
    → HasNothing sizes j caller)
    (λ past e k h ok none.
    let less : made acts caller past ≤ made acts caller (past ++ e ∷ []) = omega
    (arith, count_snoc (λ (d : Event). acts d.kind && eqb d.caller caller) past e) in
    nothing_more sizes z past e caller k ok
    (λ a same. let one : made acts caller (past ++ e ∷ []) ≡ made acts caller past + 1 = subst
    (λ (n : ℕ). made acts n (past ++ e ∷ []) ≡ made acts n past + 1) same (made_one acts past e a) in omega
    (arith, one, none))
    (h (omega (arith, less, none))))
    (λ none. record {
      pass = refl;
      fresh = λ x f. let m = f.fresh in absurd
          (cc);
      spent = λ x f. let m = f.spent in absurd (cc);
    }) journal kept
