-- How many events of some kinds a caller made tells whether it made any in between.
use Rattle.std.proofs.Common.{◌≡◌, ℕ, ◌+◌, ◌≤◌, ◌==◌, ◌&&◌, Bool, true, false, cond, List, [], ◌∷◌, ◌++◌, length}
use Rattle.std.proofs.Common.{filter, Some, refl, sym, ap, ◌∙◌, arith, eq-eqb}
use Rattle.std.specs.Prelude.{slice_get}
use Rattle.core_journal.specs.declared.event.Kind.{Kind}
use Rattle.core_journal.specs.declared.event.Event.{Event}
use Rattle.core_journal.specs.Passing.{passing, passing_from}
use Rattle.core_journal.specs.Prefix.{IsPrefix}
use Rattle.core_journal.proofs.EachIsCounted.{passing_grows, passing_none, passing_only}
use Rattle.core_kept.specs.Counts.{made}

-- whether an event is of these kinds and this caller's
abbrev is_own : (Kind → Bool) → ℕ → Event → Bool
is_own test caller e = test e.kind && (e.caller == caller)

abbrev own_where : (Kind → Bool) → ℕ → List Event → Event → Bool
own_where test caller past e = is_own test caller e

module _ (test : Kind → Bool) (caller : ℕ) where
  from_is : (past xs : List Event) → passing_from (own_where test caller) past xs
      ≡ length (filter (is_own test caller) xs)
  from_is past [] = refl
  from_is past (x ∷ xs) = by (is_own test caller x) (from_is (past ++ x ∷ []) xs)
    where
      by : (b : Bool) → passing_from (own_where test caller) (past ++ x ∷ []) xs
          ≡ length (filter (is_own test caller) xs)
          → cond b 1 0 + passing_from (own_where test caller) (past ++ x ∷ []) xs ≡ length
          (cond b (x ∷ filter (is_own test caller) xs) (filter (is_own test caller) xs))
      by true h = omega (arith, h)
      by false h = omega (arith, h)

  made_is : (journal : List Event) → passing (own_where test caller) journal ≡ made test caller journal
  unfolding passing
  made_is journal = from_is [] journal

  passes : (e : Event) → e.caller ≡ caller → test e.kind ≡ true → is_own test caller e ≡ true
  passes e by is = λ i. (is i) && (eq-eqb e.caller caller by i)

  passes_by : (e : Event) → e.caller ≡ caller → is_own test caller e ≡ false → test e.kind ≡ false
  passes_by e by not_own = sym (and_true (test e.kind)) ∙ (ap (λ (b : Bool). test e.kind && b)
      (sym (eq-eqb e.caller caller by)) ∙ not_own)
    where
      and_true : (b : Bool) → (b && true) ≡ b
      and_true true = refl
      and_true false = refl

  module _ (front journal : List Event) (p : IsPrefix front journal) where
    pub made_grows : made test caller front ≤ made test caller journal
    made_grows = omega (arith, passing_grows (own_where test caller) front journal p, made_is front, made_is journal)

    -- as many: none in between
    pub none_between : made test caller journal ≡ made test caller front → (n : ℕ) (e : Event) → length front ≤ n
        → slice_get journal n ≡ Some e → e.caller ≡ caller → test e.kind ≡ false
    none_between same n e far at by = passes_by e by (passing_none (own_where test caller) front journal p
        (omega (arith, same, made_is front, made_is journal)) n e far at)

    -- one more: one in between, and no other
    pub one_between : made test caller journal ≡ made test caller front + 1 → (m n : ℕ) (d e : Event) → length front ≤ m
        → slice_get journal m ≡ Some d → d.caller ≡ caller → test d.kind ≡ true → length front ≤ n
        → slice_get journal n ≡ Some e → e.caller ≡ caller → test e.kind ≡ true → n ≡ m
    one_between one m n d e far_m at_m by_m is_m far_n at_n by_n is_n =
        passing_only (own_where test caller) front journal p (omega (arith, one, made_is front, made_is journal)) m n d
        e
        far_m at_m (passes d by_m is_m) far_n at_n (passes e by_n is_n)
