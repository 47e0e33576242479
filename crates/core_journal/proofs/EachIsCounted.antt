-- Events that pass a test are counted one by one.
use Rattle.std.proofs.Common.{◌≡◌, ◌≢◌, ◌⊎◌, ℕ, zero, suc, ◌+◌, ◌<◌, ◌≤◌, ◌==◌, ◌&&◌, Bool, true, false, cond, List, []}
use Rattle.std.proofs.Common.{◌∷◌, ◌++◌, length, take, Some, inl, inr, refl, sym, ap, ◌∙◌, subst, arith, append_assoc}
use Rattle.std.proofs.Common.{append-nil, ⊎_elim, ne_eqb, eq-eqb}
use Rattle.std.specs.Prelude.{slice_get}
use mathlib.Core.Logic.{dite}
use native.Mathlib.Decide.{ℕ_discrete}
use Rattle.core_journal.specs.declared.event.Event.{Event}
use Rattle.core_journal.specs.GraphOf.{changes}
use Rattle.core_journal.specs.Passing.{passing_from, passing, is_own_change, changes_made}
use Rattle.core_journal.specs.Prefix.{IsPrefix}

-- an event behind a front, as one of the rest
record StandsBehind (xs ys : List Event) (p : ℕ) (e : Event) : Type 0 where
  pub k : ℕ
  pub number : p ≡ length xs + k
  pub at : slice_get ys k ≡ Some e
  pub before : take p (xs ++ ys) ≡ xs ++ take k ys

behind_get : (xs ys : List Event) (p : ℕ) (e : Event) → length xs ≤ p → slice_get (xs ++ ys) p ≡ Some e
    → StandsBehind xs ys p e
behind_get [] ys p e far at = record { k = p; number = omega arith; at = at; before = refl }
behind_get (x ∷ xs) ys zero e far at = absurd (omega arith)
behind_get (x ∷ xs) ys (suc p) e far at = let h = behind_get xs ys p e
    (omega arith) at in record {
      k = h.k;
      number = omega (arith, h.number);
      at = h.at;
      before = ap
          (λ (l : List Event). x ∷ l) h.before;
    }

failed : (b : Bool) → (b ≡ true → ⊥) → b ≡ false
failed false h = refl
failed true h = absurd (h refl)

module _ (test : List Event → Event → Bool) where
  passing_append : (past xs ys : List Event) → passing_from test past
      (xs ++ ys) ≡ passing_from test past xs + passing_from test (past ++ xs) ys
  passing_append past [] ys = let same : passing_from test (past ++ []) ys ≡ passing_from test past ys = ap
      (λ (l : List Event). passing_from test l ys) (append-nil past) in omega (arith, same)
  passing_append past (x ∷ xs) ys =
      let more = passing_append (past ++ x ∷ []) xs ys in
      let same : passing_from test ((past ++ x ∷ []) ++ xs) ys ≡ passing_from test (past ++ x ∷ xs) ys = ap
      (λ (l : List Event). passing_from test l ys) (append_assoc past (x ∷ []) xs) in
      omega (arith, more, same)

  -- one more event
  pub passing_next : (past : List Event) (e : Event) → passing test (past ++ e ∷ []) ≡ passing test past + cond
      (test past e) 1 0
  unfolding passing
  passing_next past e = let h = passing_append [] past (e ∷ []) in omega (arith, h)

  pub passing_one : (past : List Event) (e : Event) → test past e ≡ true → passing test
      (past ++ e ∷ []) ≡ passing test past + 1
  passing_one past e h = passing_next past e ∙ ap (λ (b : Bool). passing test past + cond b 1 0) h

  pub passing_other : (past : List Event) (e : Event) → test past e ≡ false → passing test
      (past ++ e ∷ []) ≡ passing test past
  passing_other past e h = let more : passing test (past ++ e ∷ []) ≡ passing test past + 0 = passing_next past e ∙ ap
      (λ (b : Bool). passing test past + cond b 1 0) h in omega (arith, more)

  pub passing-nil : passing test [] ≡ 0
  unfolding passing
  passing-nil = refl

  -- how many of the rest pass
  some_from : (past rest : List Event) (k : ℕ) (e : Event) → slice_get rest k ≡ Some e → test
      (past ++ take k rest) e ≡ true → 1 ≤ passing_from test past rest
  some_from past [] k e at h = absurd (cc)
  some_from past (x ∷ xs) zero e at h =
      let same : x ≡ e = cc in
      let passes : test past x ≡ true = ap (λ (d : Event). test past d) same ∙
      (ap (λ (l : List Event). test l e) (sym (append-nil past)) ∙ h) in
      let one : ◌≡◌ {A = ℕ} (cond (test past x) 1 0) 1 = ap (λ (b : Bool). cond b 1 0) passes in
      omega (arith, one)
  some_from past (x ∷ xs) (suc k) e at h =
      let more = some_from (past ++ x ∷ []) xs k e at (ap (λ (l : List Event). test l e)
      (append_assoc past (x ∷ []) (take k xs)) ∙ h) in
      omega (arith, more)

  two_from : (past rest : List Event) (j k : ℕ) (d e : Event) → j < k → slice_get rest j ≡ Some d → test
      (past ++ take j rest) d ≡ true → slice_get rest k ≡ Some e → test (past ++ take k rest) e ≡ true
      → 2 ≤ passing_from test past rest
  two_from past [] j k d e less a f b g = absurd (cc)
  two_from past (x ∷ xs) zero zero d e less a f b g = absurd (omega arith)
  two_from past (x ∷ xs) (suc j) zero d e less a f b g = absurd (omega arith)
  two_from past (x ∷ xs) zero (suc k) d e less a f b g =
      let same : x ≡ d = cc in
      let passes : test past x ≡ true = ap (λ (y : Event). test past y) same ∙
      (ap (λ (l : List Event). test l d) (sym (append-nil past)) ∙ f) in
      let one : ◌≡◌ {A = ℕ} (cond (test past x) 1 0) 1 = ap (λ (c : Bool). cond c 1 0) passes in
      let more = some_from (past ++ x ∷ []) xs k e b (ap (λ (l : List Event). test l e)
      (append_assoc past (x ∷ []) (take k xs)) ∙ g) in
      omega (arith, one, more)
  two_from past (x ∷ xs) (suc j) (suc k) d e less a f b g =
      let more = two_from (past ++ x ∷ []) xs j k d e (omega arith) a
      (ap (λ (l : List Event). test l d) (append_assoc past (x ∷ []) (take j xs)) ∙ f) b
      (ap (λ (l : List Event). test l e) (append_assoc past (x ∷ []) (take k xs)) ∙ g) in
      omega (arith, more)

  module _ (front journal : List Event) (p : IsPrefix front journal) where
    rest_count : passing test journal ≡ passing test front + passing_from test front p.rest
    unfolding passing
    rest_count = ap (λ (l : List Event). passing_from test [] l) (sym p.whole) ∙ passing_append [] front p.rest

    pub passing_grows : passing test front ≤ passing test journal
    passing_grows = omega (arith, rest_count)

    at_rest : (n : ℕ) (e : Event) → length front ≤ n → slice_get journal n ≡ Some e → StandsBehind front p.rest n e
    at_rest n e far at = behind_get front p.rest n e far (subst (λ (l : List Event). slice_get l n ≡ Some e)
        (sym p.whole) at)

    passes_rest : (n : ℕ) (e : Event) (b : StandsBehind front p.rest n e) → test (take n journal) e ≡ true → test
        (front ++ take b.k p.rest) e ≡ true
    passes_rest n e b h = subst (λ (l : List Event). test l e ≡ true) (ap (take n) (sym p.whole) ∙ b.before) h

    -- an event that passes makes one more
    pub passing_some : (n : ℕ) (e : Event) → length front ≤ n → slice_get journal n ≡ Some e → test
        (take n journal) e ≡ true → passing test front < passing test journal
    passing_some n e far at h = let b = at_rest n e far at in omega
        (arith, rest_count, some_from front p.rest b.k e b.at (passes_rest n e b h))

    -- none more: no event passes
    pub passing_none : passing test journal ≡ passing test front → (n : ℕ) (e : Event) → length front ≤ n
        → slice_get journal n ≡ Some e → test (take n journal) e ≡ false
    passing_none same n e far at = failed (test (take n journal) e)
        (λ h. omega (arith, passing_some n e far at h, same))

    ordered : (m n : ℕ) (d e : Event) → m < n → length front ≤ m → slice_get journal m ≡ Some d → test
        (take m journal) d ≡ true → length front ≤ n → slice_get journal n ≡ Some e → test (take n journal) e ≡ true
        → passing test front + 2 ≤ passing test journal
    ordered m n d e less far_m at_m h_m far_n at_n h_n =
        let a = at_rest m d far_m at_m in
        let b = at_rest n e far_n at_n in
        let two = two_from front p.rest a.k b.k d e (omega (arith, a.number, b.number)) a.at
        (passes_rest m d a h_m) b.at (passes_rest n e b h_n) in
        omega (arith, rest_count, two)

    -- one more: only one event passes
    pub passing_only : passing test journal ≡ passing test front + 1 → (m n : ℕ) (d e : Event) → length front ≤ m
        → slice_get journal m ≡ Some d → test (take m journal) d ≡ true → length front ≤ n
        → slice_get journal n ≡ Some e → test (take n journal) e ≡ true → n ≡ m
    passing_only one m n d e far_m at_m h_m far_n at_n h_n = dite (ℕ_discrete n m) (λ is. is) (λ ne. absurd (apart ne))
      where
        less_or : (a b : ℕ) → a ≢ b → (a < b) ⊎ (b < a)
        less_or zero zero ne = absurd (ne refl)
        less_or zero (suc b) ne = inl (omega arith)
        less_or (suc a) zero ne = inr (omega arith)
        less_or (suc a) (suc b) ne = ⊎_elim (λ (h : a < b). inl (omega arith)) (λ (h : b < a). inr (omega arith))
            (less_or a b (λ is. ne (ap suc is)))

        apart : n ≢ m → ⊥
        apart ne = ⊎_elim (λ (h : n < m). omega (arith, ordered n m e d h far_n at_n h_n far_m at_m h_m))
            (λ (h : m < n). omega (arith, ordered m n d e h far_m at_m h_m far_n at_n h_n)) (less_or n m ne)

-- an event of a caller that changes the graph
pub own_change : (caller : ℕ) (past : List Event) (e : Event) → e.caller ≡ caller → changes past e ≡ true
    → is_own_change caller past e ≡ true
own_change caller past e by does = (λ i. (eq-eqb e.caller caller by i) && (does i))

pub own_change_by : (caller : ℕ) (past : List Event) (e : Event) → e.caller ≡ caller
    → is_own_change caller past e ≡ false → changes past e ≡ false
own_change_by caller past e by not_own = ap (λ (b : Bool). b && changes past e) (sym (eq-eqb e.caller caller by))
    ∙ not_own

pub other_change : (caller : ℕ) (past : List Event) (e : Event) → (e.caller ≢ caller) ⊎ (changes past e ≡ false)
    → is_own_change caller past e ≡ false
other_change caller past e (inl other) = ap (λ (b : Bool). b && changes past e) (ne_eqb e.caller caller other)
other_change caller past e (inr none) = ap (λ (b : Bool). (e.caller == caller) && b) none ∙ and_false
    (e.caller == caller)
  where
    and_false : (b : Bool) → (b && false) ≡ false
    and_false true = refl
    and_false false = refl

-- none more: no event of the caller changes the graph
pub own_none : (caller : ℕ) (front journal : List Event) → IsPrefix front journal
    → changes_made caller journal ≡ changes_made caller front → (n : ℕ) (e : Event) → length front ≤ n
    → slice_get journal n ≡ Some e → e.caller ≡ caller → changes (take n journal) e ≡ false
own_none caller front journal p same n e far at by = own_change_by caller (take n journal) e by
    (passing_none (is_own_change caller) front journal p same n e far at)

-- one more: only one does
pub own_only : (caller : ℕ) (front journal : List Event) → IsPrefix front journal
    → changes_made caller journal ≡ changes_made caller front + 1 → (m n : ℕ) (d e : Event) → length front ≤ m
    → slice_get journal m ≡ Some d → d.caller ≡ caller → changes (take m journal) d ≡ true → length front ≤ n
    → slice_get journal n ≡ Some e → e.caller ≡ caller → changes (take n journal) e ≡ true → n ≡ m
own_only caller front journal p one m n d e far_m at_m by_m does_m far_n at_n by_n does_n =
    passing_only (is_own_change caller) front journal p one m n d e far_m at_m
    (own_change caller (take m journal) d by_m does_m) far_n at_n (own_change caller (take n journal) e by_n does_n)
