-- Where each life has at most as many events of some kinds as of others, there are at most as many in all.
use Rattle.std.proofs.Common.{◌≡◌, ℕ, zero, suc, ◌+◌, ◌≤◌, Bool, true, false, cond, not, ◌&&◌, List, [], ◌∷◌, length}
use Rattle.std.proofs.Common.{filter, refl, sym, ap, ◌∙◌, arith}
use Rattle.packed_link.specs.declared.link.Life.{Life}
use Rattle.core_journal.specs.declared.event.Kind.{Kind}
use Rattle.core_journal.specs.declared.event.Event.{Event}
use Rattle.core_journal.specs.Event.{same_life, cuts_edge, cut_life}
use Rattle.core_journal.proofs.Snoc.{same_is, same_self}
use Rattle.core_kept.specs.Counts.{about, all_made}
use Rattle.core_counts.specs.Totals.{cuts}

-- how often a life stands on a list
abbrev occurs : Life → List Life → ℕ
occurs x xs = length (filter (λ (y : Life). same_life x y) xs)

-- the list without a life
abbrev rest : Life → List Life → List Life
rest l xs = filter (λ (y : Life). not (same_life l y)) xs

split : (l : Life) (xs : List Life) → length xs ≡ occurs l xs + length (rest l xs)
split l [] = refl
split l (y ∷ ys) = by (same_life l y) (split l ys)
  where
    by : (b : Bool) → length ys ≡ occurs l ys + length (rest l ys) → length (y ∷ ys) ≡ length
        (cond b (y ∷ filter (λ (u : Life). same_life l u) ys) (filter (λ (u : Life). same_life l u) ys)) + length
        (cond (not b) (y ∷ rest l ys) (rest l ys))
    by true h = omega (arith, h)
    by false h = omega (arith, h)

-- it stands on it no more
rest_none : (l x : Life) → x ≡ l → (xs : List Life) → occurs x (rest l xs) ≡ 0
rest_none l x is [] = refl
rest_none l x is (y ∷ ys) = by (same_life l y) refl (rest_none l x is ys)
  where
    by : (b : Bool) → same_life l y ≡ b → occurs x (rest l ys) ≡ 0 → occurs x
        (cond (not b) (y ∷ rest l ys) (rest l ys)) ≡ 0
    by true s h = h
    by false s h = ap (λ (b : Bool). length (cond b (y ∷ filter (λ (u : Life). same_life x u) (rest l ys))
        (filter (λ (u : Life). same_life x u) (rest l ys)))) (ap (λ (z : Life). same_life z y) is ∙ s) ∙ h

-- and others as often as before
rest_else : (l x : Life) → same_life x l ≡ false → (xs : List Life) → occurs x (rest l xs) ≡ occurs x xs
rest_else l x ne [] = refl
rest_else l x ne (y ∷ ys) = by (same_life l y) refl (rest_else l x ne ys)
  where
    also : (b : Bool) → occurs x (rest l ys) ≡ occurs x ys → length
        (cond b (y ∷ filter (λ (u : Life). same_life x u) (rest l ys))
        (filter (λ (u : Life). same_life x u) (rest l ys))) ≡ length
        (cond b (y ∷ filter (λ (u : Life). same_life x u) ys) (filter (λ (u : Life). same_life x u) ys))
    also true h = omega (arith, h)
    also false h = h

    by : (b : Bool) → same_life l y ≡ b → occurs x (rest l ys) ≡ occurs x ys → occurs x
        (cond (not b) (y ∷ rest l ys) (rest l ys)) ≡ occurs x (y ∷ ys)
    by true s h =
        let off : same_life x y ≡ false = ap (same_life x) (sym (same_is l y s)) ∙ ne in
        h ∙ sym (ap (λ (b : Bool). length (cond b (y ∷ filter (λ (u : Life). same_life x u) ys)
        (filter (λ (u : Life). same_life x u) ys))) off)
    by false s h = also (same_life x y) h

-- a list on which each life stands at most as often is at most as long
shorter : (n : ℕ) (xs ys : List Life) → length xs ≤ n → ((x : Life) → occurs x xs ≤ occurs x ys) → length xs ≤ length ys
shorter n [] ys low h = omega arith
shorter zero (l ∷ xs) ys low h = absurd (omega (arith, low))
shorter (suc n) (l ∷ xs) ys low h =
    let here : 1 ≤ occurs l (l ∷ xs) = omega (
      arith,
      ap (λ (b : Bool). length
          (cond b (l ∷ filter (λ (u : Life). same_life l u) xs) (filter (λ (u : Life). same_life l u) xs)))
          (same_self l),
    )
    in
    let whole = split l (l ∷ xs) in
    let more = shorter n (rest l (l ∷ xs)) (rest l ys) (omega (arith, whole, here, low))
    (λ x. by x (same_life x l) refl) in
    omega (arith, whole, split l ys, h l, more)
  where
    by : (x : Life) (b : Bool) → same_life x l ≡ b → occurs x (rest l (l ∷ xs)) ≤ occurs x (rest l ys)
    by x true s = omega (arith, rest_none l x (same_is x l s) (l ∷ xs))
    by x false s = omega (arith, rest_else l x s (l ∷ xs), rest_else l x s ys, h x)

-- the lives of the events of some kinds, in order
module _ (test : Kind → Bool) (at : Event → Life) where
  abbrev passing_lives : List Event → List Life
  passing_lives [] = []
  passing_lives (e ∷ es) = cond (test e.kind) (at e ∷ passing_lives es) (passing_lives es)

  as_many : (journal : List Event) → length (passing_lives journal) ≡ all_made test journal
  as_many [] = refl
  as_many (e ∷ es) = by (test e.kind) (as_many es)
    where
      by : (b : Bool) → length (passing_lives es) ≡ all_made test es → length
          (cond b (at e ∷ passing_lives es) (passing_lives es)) ≡ length
          (cond b (e ∷ filter (λ (d : Event). test d.kind) es) (filter (λ (d : Event). test d.kind) es))
      by true h = omega (arith, h)
      by false h = h

  as_often : (x : Life) (journal : List Event) → occurs x (passing_lives journal) ≡ length
      (filter (λ (d : Event). test d.kind && same_life x (at d)) journal)
  as_often x [] = refl
  as_often x (e ∷ es) = by (test e.kind) (as_often x es)
    where
      also : (c : Bool) → occurs x (passing_lives es)
          ≡ length (filter (λ (d : Event). test d.kind && same_life x (at d)) es)
          → length (cond c (at e ∷ filter (λ (u : Life). same_life x u) (passing_lives es))
          (filter (λ (u : Life). same_life x u) (passing_lives es))) ≡ length
          (cond c (e ∷ filter (λ (d : Event). test d.kind && same_life x (at d)) es)
          (filter (λ (d : Event). test d.kind && same_life x (at d)) es))
      also true h = omega (arith, h)
      also false h = h

      by : (b : Bool) → occurs x (passing_lives es)
          ≡ length (filter (λ (d : Event). test d.kind && same_life x (at d)) es)
          → occurs x (cond b (at e ∷ passing_lives es) (passing_lives es)) ≡ length
          (cond (b && same_life x (at e)) (e ∷ filter (λ (d : Event). test d.kind && same_life x (at d)) es)
          (filter (λ (d : Event). test d.kind && same_life x (at d)) es))
      by true h = also (same_life x (at e)) h
      by false h = h

fewer_lives : (test other : Kind → Bool) (at to : Event → Life) (journal : List Event)
    → ((x : Life) → length (filter (λ (d : Event). test d.kind && same_life x (at d)) journal) ≤ length
    (filter (λ (d : Event). other d.kind && same_life x (to d)) journal))
    → all_made test journal ≤ all_made other journal
fewer_lives test other at to journal h =
    let less = shorter (length (passing_lives test at journal)) (passing_lives test at journal)
    (passing_lives other to journal)
    (omega arith) (λ x. omega (arith, as_often test at x journal, as_often other to x journal, h x)) in
    omega (arith, less, as_many test at journal, as_many other to journal)

pub fewer_in_all : (test other : Kind → Bool) (journal : List Event) →
    ((x : Life) → about test x journal ≤ about other x journal) → all_made test journal ≤ all_made other journal
fewer_in_all test other journal h = fewer_lives test other (λ (e : Event). e.life) (λ (e : Event). e.life) journal h

pub fewer_cuts : (other : Kind → Bool) (journal : List Event) → ((x : Life) → cuts x journal ≤ about other x journal)
    → all_made cuts_edge journal ≤ all_made other journal
fewer_cuts other journal h = fewer_lives cuts_edge other cut_life (λ (e : Event). e.life) journal h

pub fewer_cut : (test : Kind → Bool) (journal : List Event) → ((x : Life) → about test x journal ≤ cuts x journal)
    → all_made test journal ≤ all_made cuts_edge journal
fewer_cut test journal h = fewer_lives test cuts_edge (λ (e : Event). e.life) cut_life journal h
