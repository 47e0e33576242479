-- When some events of a small table are allowed, and facts of all its nodes by a test that is computed.
use Rattle.std.proofs.Common.{◌≡◌, ◌≢◌, ℕ, zero, suc, ◌+◌, ◌<◌, ◌≤◌, ◌⊎◌, ◌^◌, Bool, true, false, true≢false, not, ◌&&◌}
use Rattle.std.proofs.Common.{◌||◌, ◌==◌, List, [], ◌∷◌, refl, sym, ap, ◌∙◌, subst, arith, inl, inr, ⊎_elim, lit<}
use Rattle.std.proofs.Common.{append-nil, eq-eqb, ne_eqb, drop}
use Rattle.std.specs.Prelude.{slice_get, Some}
use Rattle.std.specs.List.{list_all, list_any}
use mathlib.Core.Logic.{dite}
use native.Mathlib.Decide.{ℕ_discrete}
use Rattle.packed_link.specs.Link.{mark_of, tag_of}
use Rattle.packed_link.specs.Layout.{announce_at, key_at, link_at}
use Rattle.core_epoch.specs.Steps.{IsFoundClear}
use Rattle.core_journal.specs.declared.event.Event.{Event}
use Rattle.core_journal.specs.declared.event.Kind.TheVariants.{Announce}
use Rattle.core_journal.specs.Event.{blank, moves}
use Rattle.core_journal.specs.Machine.{word_at}
use Rattle.core_journal.specs.Prefix.{IsPrefix}
use Rattle.core_journal.specs.State.{Mode, Fresh, state}
use Rattle.core_journal.specs.Reuse.{pass_in}
use Rattle.core_journal.specs.TwoCallers.{fills, withdraws}
use Rattle.core_journal.specs.Worked.{small}
use Rattle.core_kept.specs.Counts.{made, most_moves}
use Rattle.core_kept.specs.Kept.{Allowed, IsQuiet}
use Rattle.core_kept.specs.Moments.{clock_in}
use Rattle.core_kept.specs.Nodes.{node_in, IsFreshWith, IsFrozenToEnd}
use Rattle.core_worked.specs.TwoLives.{moves_epoch}

-- a journal begins itself
pub whole : (xs : List Event) → IsPrefix xs xs
whole xs = record { rest = []; whole = append-nil xs }

-- a test of all numbers below one
abbrev pub all_below : ℕ → (ℕ → Bool) → Bool
all_below zero test = true
all_below (suc n) test = test n && all_below n test

-- what passes the test below a number
pub below : (n : ℕ) (test : ℕ → Bool) → all_below n test ≡ true → (x : ℕ) → x < n → test x ≡ true
below zero test h x t = absurd (omega (arith, t))
below (suc n) test h x t =
    let rest : all_below n test ≡ true → x < n → test x ≡ true = λ g less. below n test g x less in
    by (test n) refl h rest
  where
    by : (b : Bool) → test n ≡ b → (b && all_below n test) ≡ true → (all_below n test ≡ true → x < n → test x ≡ true)
        → test x ≡ true
    by false is g rest = absurd (true≢false (sym g))
    by true is g rest = dite (ℕ_discrete x n) (λ e. ap test e ∙ is) (λ ne. rest g (omega (arith, t, ne)))

-- what is not true
false_not : (b : Bool) → not b ≡ true → b ≡ false
false_not true g = absurd (true≢false (sym g))
false_not false g = refl

abbrev is_fresh : Mode → Bool
is_fresh Fresh = true
is_fresh _ = false

-- no node is fresh with caller 0
pub none_fresh : (past : List Event) → all_below 8 (λ x. not (is_fresh (node_in small past x).mode)) ≡ true → (x : ℕ)
    → x < 8 → IsFreshWith small past 0 x → ⊥
none_fresh past h x t f = true≢false (sym (below 8 (λ y. not (is_fresh (node_in small past y).mode)) h x t) ∙ ap
    (λ m. not (is_fresh m)) f.fresh)

-- caller 0 fills a word of the node that it took
pub filled : (past : List Event) (x field word : ℕ) → 0 < (state small past).drawn → x < 8 → field < 4 → word < 2 ^ 64 →
    (field ≡ 1 → (tag_of word ≡ 1) × (mark_of word ≡ 0)) → (node_in small past x).tag ≡ 1 → IsFreshWith small past 0 x
    → Allowed small past (fills 0 x (key_at small x + field) word)
filled past x field word drawn there low fits link life fresh = record {
  by = λ _. drawn;
  as_kind = record {
    life = sym life;
    there = there;
    field = field;
    place = (refl, low);
    word = fits;
    link = λ h. link (omega (arith, h));
    fresh = fresh;
  };
}

-- caller 0 opens a pass in the epoch that stands
pub announced : (past : List Event) (epoch : ℕ) → 0 < (state small past).drawn → word_at small past 2 ≡ epoch →
    (pass_in small past 0).is_open ≡ false
    → Allowed small past (record blank { kind = Announce; place = announce_at small 0; word = epoch + 1 })
announced past epoch drawn now closed = record {
  by = λ _. drawn;
  as_kind = record {
    life = refl;
    there = lit< tt;
    place = refl;
    loaded = past;
    before = whole past;
    word = ap (λ (n : ℕ). n + 1) (sym now);
    closed = closed;
  };
}

-- caller 0 closes its pass
pub withdrawn : (past : List Event) → 0 < (state small past).drawn → (pass_in small past 0).is_open ≡ true
    → Allowed small past (withdraws 0)
withdrawn past drawn runs = record {
  by = λ _. drawn;
  as_kind = record
      { life = refl; there = lit< tt; place = refl; word = refl; pass = runs };
}

-- caller 1 moves the epoch on, where the announcement of caller 0 is 0 or of this epoch
pub moved : (past : List Event) (epoch : ℕ) → 1 < (state small past).drawn → word_at small past 2 ≡ epoch →
    (word_at small past 4 ≡ 0) ⊎ (epoch + 1 ≤ word_at small past 4) → word_at small past 5 ≡ 0 →
    (pass_in small past 1).is_open ≡ false → made moves 1 past < most_moves
    → Allowed small past (moves_epoch (epoch + 1))
moved past epoch drawn now a b closed few = record {
  by = λ _. drawn;
  as_kind = record {
    life = refl;
    there = lit< tt;
    place = refl;
    word = ap (λ (n : ℕ). n + 1) (sym now);
    loaded = past;
    before = whole past;
    seen = refl;
    checked = λ i t. record { moment = past; after = whole past; before = whole past; clear = clear i t };
    closed = closed;
    limit = few;
  };
}
  where
    clear : (i : ℕ) → i < 2 → IsFoundClear (word_at small past 2) i (clock_in small past)
    clear zero t = ⊎_elim inl (λ (h : epoch + 1 ≤ word_at small past 4). inr (omega (arith, now, h))) a
    clear (suc zero) t = inl b
    clear (suc (suc n)) t = absurd (omega (arith, t))

-- what is said of the node whose link stands at a place
pub at_link : (P : ℕ → Type 0) (x y : ℕ) → link_at small x ≡ link_at small y → P x → P y
at_link P x y h p = let same : x ≡ y = omega (arith, h) in subst P same p

-- the list of node 0 is frozen to its end
pub frozen_list : (past : List Event) → (state small past).frozen 0 ≡ true → (state small past).edges 0 ≡ 3 ∷ [] →
    (node_in small past 3).marked ≡ true → IsFrozenToEnd small past 0
frozen_list past head one marked = record {
  head = head;
  edges = λ y on. is y
      (subst (λ (l : List ℕ). list_any (λ z. z == y) l ≡ true) one on);
}
  where
    is : (y : ℕ) → list_any (λ z. z == y) (3 ∷ []) ≡ true → (node_in small past y).marked ≡ true
    is y on = dite (ℕ_discrete 3 y) (λ e. subst (λ (x : ℕ). (node_in small past x).marked ≡ true) e marked)
        (λ ne. absurd (true≢false (sym on ∙ ap (λ (b : Bool). b || false) (ne_eqb 3 y ne))))

-- whether a node isn't on the list of x
abbrev off : List Event → ℕ → ℕ → Bool
off past y x = not (list_any (λ z. z == y) ((state small past).edges x))

-- it is on no list
pub on_none : (past : List Event) (y : ℕ) → all_below 8 (off past y) ≡ true → (x : ℕ) → x < 8 → list_any (λ z. z == y)
    ((state small past).edges x) ≡ true → IsFrozenToEnd small past x
on_none past y h x t on = absurd (true≢false (sym on ∙ false_not (list_any (λ z. z == y) ((state small past).edges x))
    (below 8 (off past y) h x t)))

-- it is on no list but that of node 0, which is frozen to its end
pub on_one : (past : List Event) (y : ℕ) → IsFrozenToEnd small past 0 → all_below 7 (λ x. off past y (suc x)) ≡ true →
    (x : ℕ) → x < 8 → list_any (λ z. z == y) ((state small past).edges x) ≡ true → IsFrozenToEnd small past x
on_one past y closed h zero t on = closed
on_one past y closed h (suc n) t on = absurd (true≢false (sym on ∙ false_not
    (list_any (λ z. z == y) ((state small past).edges (suc n)))
    (below 7 (λ x. off past y (suc x)) h n (omega (arith, t)))))

-- no event of a list passes a test
pub none_such : (test : Event → Bool) (xs : List Event) → list_all (λ e. not (test e)) xs ≡ true → (k : ℕ) (e : Event)
    → slice_get xs k ≡ Some e → test e ≡ true → ⊥
none_such test [] h k e at is = absurd (cc)
none_such test (x ∷ xs) h k e at is =
    let rest : list_all (λ e. not (test e)) xs ≡ true → (j : ℕ) → slice_get xs j ≡ Some e
    → ⊥ = λ g j found. none_such test xs g j e found is in
    by (test x) refl h k at rest
  where
    by : (b : Bool) → test x ≡ b → (not b && list_all (λ e. not (test e)) xs) ≡ true → (k : ℕ) → slice_get
        (x ∷ xs) k ≡ Some e → (list_all (λ e. not (test e)) xs ≡ true → (j : ℕ) → slice_get xs j ≡ Some e → ⊥) → ⊥
    by true t g k at rest = true≢false (sym g)
    by false t g zero at rest = let same : x ≡ e = cc in true≢false (sym is ∙ (ap test (sym same) ∙ t))
    by false t g (suc j) at rest = rest g j at

-- no event of a caller stands at or after a length
pub quiet_from : (caller last : ℕ) (xs : List Event) → list_all (λ e. not (e.caller == caller)) (drop last xs) ≡ true
    → IsQuiet xs caller last
quiet_from caller last xs h = record { none = none last xs h }
  where
    none : (last : ℕ) (xs : List Event) → list_all (λ e. not (e.caller == caller)) (drop last xs) ≡ true → (k : ℕ)
        (e : Event) → last ≤ k → slice_get xs k ≡ Some e → e.caller ≢ caller
    none zero xs h k e late at = λ is. none_such (λ e. e.caller == caller) xs h k e at (eq-eqb e.caller caller is)
    none (suc n) [] h k e late at = absurd (cc)
    none (suc n) (x ∷ xs) h zero e late at = absurd (omega (arith, late))
    none (suc n) (x ∷ xs) h (suc k) e late at = none n xs h k e (omega (arith, late)) at
