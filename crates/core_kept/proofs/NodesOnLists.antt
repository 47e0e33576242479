-- Nodes on lists: what is linked in and unlinked, and the longest part of a list from its front on that passes a test.
use Rattle.std.proofs.Common.{◌≡◌, ◌≢◌, ◌⊎◌, ℕ, List, [], ◌∷◌, Bool, true, false, cond, refl, sym, ap, ◌∙◌, inl, inr}
use Rattle.std.proofs.Common.{ne_eqb, eq-eqb, eqb-true}
use Rattle.std.specs.Prelude.{take_while, not, ◌==◌, ◌||◌}
use Rattle.std.proofs.lemmas.List.Sums.{take_while-cons}
use mathlib.Core.Logic.{dite}
use native.Mathlib.Decide.{ℕ_discrete}
use Rattle.graph_kinds.specs.Levels.{stands_in}
use Rattle.packed_link.specs.Layout.{Sizes, link_at}
use Rattle.core_journal.specs.State.{put_behind, linked_in, unlinked_from}

-- by cases on a test
pub yes_no : (P : Type 0) (b : Bool) → (b ≡ true → P) → (b ≡ false → P) → P
yes_no P true is isnt = is refl
yes_no P false is isnt = isnt refl

-- by cases on whether it's the first
pub stands_case : (P : Type 0) (x y : ℕ) (xs : List ℕ) → stands_in (x ∷ xs) y ≡ true → (x ≡ y → P) →
    (x ≢ y → stands_in xs y ≡ true → P) → P
stands_case P x y xs h first later = dite (ℕ_discrete x y) first
    (λ ne. later ne (sym (ap (λ (b : Bool). b || stands_in xs y) (ne_eqb x y ne)) ∙ h))

pub stands_here : (x y : ℕ) (xs : List ℕ) → x ≡ y → stands_in (x ∷ xs) y ≡ true
stands_here x y xs e = ap (λ (b : Bool). b || stands_in xs y) (eq-eqb x y e)

pub stands_later : (x y : ℕ) (xs : List ℕ) → stands_in xs y ≡ true → stands_in (x ∷ xs) y ≡ true
stands_later x y xs h = by (x == y)
  where
    by : (b : Bool) → (b || stands_in xs y) ≡ true
    by true = refl
    by false = h

-- a node that isn't on a list differs from its first, and isn't on the rest
pub stands_not : (x y : ℕ) (xs : List ℕ) → stands_in (x ∷ xs) y ≡ false → (x ≢ y) × (stands_in xs y ≡ false)
stands_not x y xs h = by (x == y) refl h
  where
    by : (b : Bool) → (x == y) ≡ b → (b || stands_in xs y) ≡ false → (x ≢ y) × (stands_in xs y ≡ false)
    by true e h = absurd (cc)
    by false e h = ((λ same. let t = eq-eqb x y same in absurd (cc)), h)

-- the rule of unlinking, where the first is the node and where it isn't
unlinked_here : (i x : ℕ) (xs : List ℕ) → x ≡ i → unlinked_from i (x ∷ xs) ≡ unlinked_from i xs
unlinked_here i x xs e = ap (λ (b : Bool). cond (not b) (x ∷ unlinked_from i xs) (unlinked_from i xs)) (eq-eqb x i e)

unlinked_else : (i x : ℕ) (xs : List ℕ) → x ≢ i → unlinked_from i (x ∷ xs) ≡ x ∷ unlinked_from i xs
unlinked_else i x xs ne = ap (λ (b : Bool). cond (not b) (x ∷ unlinked_from i xs) (unlinked_from i xs)) (ne_eqb x i ne)

-- what stands a on list without a node stood on it before, and is another
pub unlinked_was : (i y : ℕ) (xs : List ℕ) → stands_in (unlinked_from i xs) y ≡ true → (stands_in xs y ≡ true) × (y ≢ i)
unlinked_was i y [] h = absurd (cc)
unlinked_was i y (x ∷ xs) h = dite (ℕ_discrete x i)
    (λ e. let r = unlinked_was i y xs (sym (ap (λ (l : List ℕ). stands_in l y) (unlinked_here i x xs e)) ∙ h) in
    (stands_later x y xs r.0, r.1))
    (λ ne. stands_case ((stands_in (x ∷ xs) y ≡ true) × (y ≢ i)) x y (unlinked_from i xs)
    (sym (ap (λ (l : List ℕ). stands_in l y) (unlinked_else i x xs ne)) ∙ h)
    (λ same. (stands_here x y xs same, (λ t. ne (same ∙ t))))
    (λ _ later. let r = unlinked_was i y xs later in (stands_later x y xs r.0, r.1)))

-- every other node is on it still
pub unlinked_keeps : (i y : ℕ) (xs : List ℕ) → stands_in xs y ≡ true → y ≢ i → stands_in (unlinked_from i xs) y ≡ true
unlinked_keeps i y [] h ne = absurd (cc)
unlinked_keeps i y (x ∷ xs) h ne = dite (ℕ_discrete x i)
    (λ e. ap (λ (l : List ℕ). stands_in l y) (unlinked_here i x xs e) ∙ stands_case
    (stands_in (unlinked_from i xs) y ≡ true) x y xs h (λ same. absurd (ne (sym same ∙ e)))
    (λ _ later. unlinked_keeps i y xs later ne))
    (λ other. ap (λ (l : List ℕ). stands_in l y) (unlinked_else i x xs other) ∙ stands_case
    (stands_in (x ∷ unlinked_from i xs) y ≡ true) x y xs h (stands_here x y (unlinked_from i xs))
    (λ _ later. stands_later x y (unlinked_from i xs) (unlinked_keeps i y xs later ne)))

-- a node that isn't on a list is unlinked from it without a change
pub unlinked_none : (i : ℕ) (xs : List ℕ) → stands_in xs i ≡ false → unlinked_from i xs ≡ xs
unlinked_none i [] h = refl
unlinked_none i (x ∷ xs) h = let n = stands_not x i xs h in unlinked_else i x xs n.0 ∙ ap (λ (l : List ℕ). x ∷ l)
    (unlinked_none i xs n.1)

-- the rule of linking behind
behind_here : (is : ℕ → Bool) (y x : ℕ) (xs : List ℕ) → is x ≡ true → put_behind is y (x ∷ xs) ≡ x ∷ y ∷ xs
behind_here is y x xs e = ap (λ (b : Bool). cond b (x ∷ y ∷ xs) (x ∷ put_behind is y xs)) e

behind_else : (is : ℕ → Bool) (y x : ℕ) (xs : List ℕ) → is x ≡ false → put_behind is y (x ∷ xs) ≡ x ∷ put_behind is y xs
behind_else is y x xs e = ap (λ (b : Bool). cond b (x ∷ y ∷ xs) (x ∷ put_behind is y xs)) e

module _ (is : ℕ → Bool) (i : ℕ) where
  -- what stands a on list with a node behind another stood on it before, or is that node, and the other is on it
  behind_was : (y : ℕ) (xs : List ℕ) → stands_in (put_behind is i xs) y ≡ true → (stands_in xs y ≡ true) ⊎
      ((y ≡ i) × ((z : ℕ) × (stands_in xs z ≡ true) × (is z ≡ true)))
  behind_was y [] h = absurd (cc)
  behind_was y (x ∷ xs) h = yes_no ((stands_in (x ∷ xs) y ≡ true) ⊎
      ((y ≡ i) × ((z : ℕ) × (stands_in (x ∷ xs) z ≡ true) × (is z ≡ true)))) (is x)
      (λ e. stands_case ((stands_in (x ∷ xs) y ≡ true) ⊎ ((y ≡ i) ×
      ((z : ℕ) × (stands_in (x ∷ xs) z ≡ true) × (is z ≡ true)))) x y (i ∷ xs)
      (sym (ap (λ (l : List ℕ). stands_in l y) (behind_here is i x xs e)) ∙ h)
      (λ same. inl (stands_here x y xs same))
      (λ _ later. stands_case ((stands_in (x ∷ xs) y ≡ true) ⊎ ((y ≡ i) ×
      ((z : ℕ) × (stands_in (x ∷ xs) z ≡ true) × (is z ≡ true)))) i y xs later
      (λ same. inr (sym same, (x, stands_here x x xs refl, e)))
      (λ _ more. inl (stands_later x y xs more))))
      (λ e. stands_case ((stands_in (x ∷ xs) y ≡ true) ⊎ ((y ≡ i) ×
      ((z : ℕ) × (stands_in (x ∷ xs) z ≡ true) × (is z ≡ true)))) x y (put_behind is i xs)
      (sym (ap (λ (l : List ℕ). stands_in l y) (behind_else is i x xs e)) ∙ h)
      (λ same. inl (stands_here x y xs same))
      (λ _ later. more (behind_was y xs later)))
    where
      more : (stands_in xs y ≡ true) ⊎ ((y ≡ i) × ((z : ℕ) × (stands_in xs z ≡ true) × (is z ≡ true))) →
          (stands_in (x ∷ xs) y ≡ true) ⊎ ((y ≡ i) × ((z : ℕ) × (stands_in (x ∷ xs) z ≡ true) × (is z ≡ true)))
      more (inl h) = inl (stands_later x y xs h)
      more (inr h) = inr (h.0, (h.1.0, stands_later x h.1.0 xs h.1.1, h.1.2))

  behind_keeps : (y : ℕ) (xs : List ℕ) → stands_in xs y ≡ true → stands_in (put_behind is i xs) y ≡ true
  behind_keeps y [] h = absurd (cc)
  behind_keeps y (x ∷ xs) h = yes_no (stands_in (put_behind is i (x ∷ xs)) y ≡ true) (is x)
      (λ e. ap (λ (l : List ℕ). stands_in l y) (behind_here is i x xs e) ∙ stands_case
      (stands_in (x ∷ i ∷ xs) y ≡ true) x y xs h (stands_here x y (i ∷ xs))
      (λ _ later. stands_later x y (i ∷ xs) (stands_later i y xs later)))
      (λ e. ap (λ (l : List ℕ). stands_in l y) (behind_else is i x xs e) ∙ stands_case
      (stands_in (x ∷ put_behind is i xs) y ≡ true) x y xs h (stands_here x y (put_behind is i xs))
      (λ _ later. stands_later x y (put_behind is i xs) (behind_keeps y xs later)))

  behind_joins : (z : ℕ) (xs : List ℕ) → stands_in xs z ≡ true → is z ≡ true → stands_in (put_behind is i xs) i ≡ true
  behind_joins z [] h t = absurd (cc)
  behind_joins z (x ∷ xs) h t = yes_no (stands_in (put_behind is i (x ∷ xs)) i ≡ true) (is x)
      (λ e. ap (λ (l : List ℕ). stands_in l i) (behind_here is i x xs e) ∙ stands_later x i (i ∷ xs)
      (stands_here i i xs refl))
      (λ e. ap (λ (l : List ℕ). stands_in l i) (behind_else is i x xs e)
      ∙ stands_later x i (put_behind is i xs) (stands_case (stands_in (put_behind is i xs) i ≡ true) x z xs h
      (λ same. let u = ap is same in absurd (cc)) (λ _ later. behind_joins z xs later t)))

-- the word at a place is one of a list: its head, or the link of a node on it
abbrev pub IsWordOf : Sizes → ℕ → ℕ → List ℕ → Type 0
IsWordOf sizes head place xs = (place ≡ head) ⊎ ((z : ℕ) × (stands_in xs z ≡ true) × (place ≡ link_at sizes z))

module _ (sizes : Sizes) (head place i : ℕ) where
  linked_first : (xs : List ℕ) → place ≡ head → linked_in sizes head place i xs ≡ i ∷ xs
  linked_first xs e = ap (λ (b : Bool). cond b (i ∷ xs) (put_behind (λ x. place == link_at sizes x) i xs))
      (eq-eqb place head e)

  linked_behind : (xs : List ℕ) → place ≢ head → linked_in sizes head place i xs ≡ put_behind
      (λ x. place == link_at sizes x) i xs
  linked_behind xs ne = ap (λ (b : Bool). cond b (i ∷ xs) (put_behind (λ x. place == link_at sizes x) i xs))
      (ne_eqb place head ne)

  -- what stands a on list into which a node is linked stood on it before, or is that node, and the place is one of the
  -- list
  pub linked_was : (y : ℕ) (xs : List ℕ) → stands_in (linked_in sizes head place i xs) y ≡ true →
      (stands_in xs y ≡ true) ⊎
      ((y ≡ i) × IsWordOf sizes head place xs)
  linked_was y xs h = dite (ℕ_discrete place head)
      (λ e. stands_case ((stands_in xs y ≡ true) ⊎ ((y ≡ i) × IsWordOf sizes head place xs)) i y xs
      (sym (ap (λ (l : List ℕ). stands_in l y) (linked_first xs e)) ∙ h) (λ same. inr (sym same, inl e))
      (λ _ later. inl later))
      (λ ne. more (behind_was (λ x. place == link_at sizes x) i y xs
      (sym (ap (λ (l : List ℕ). stands_in l y) (linked_behind xs ne)) ∙ h)))
    where
      more : (stands_in xs y ≡ true) ⊎ ((y ≡ i) × ((z : ℕ) × (stands_in xs z ≡ true) ×
          ((place == link_at sizes z) ≡ true))) →
          (stands_in xs y ≡ true) ⊎ ((y ≡ i) × IsWordOf sizes head place xs)
      more (inl h) = inl h
      more (inr h) = inr (h.0, inr (h.1.0, h.1.1, eqb-true place (link_at sizes h.1.0) h.1.2))

  -- every node stays on it
  pub linked_keeps : (y : ℕ) (xs : List ℕ) → stands_in xs y ≡ true → stands_in (linked_in sizes head place i xs) y
      ≡ true
  linked_keeps y xs h = dite (ℕ_discrete place head)
      (λ e. ap (λ (l : List ℕ). stands_in l y) (linked_first xs e) ∙ stands_later i y xs h)
      (λ ne. ap (λ (l : List ℕ). stands_in l y) (linked_behind xs ne) ∙ behind_keeps
      (λ x. place == link_at sizes x) i y xs h)

  -- the node joins it where the place is one of the list
  pub linked_joins : (xs : List ℕ) → IsWordOf sizes head place xs → stands_in (linked_in sizes head place i xs) i ≡ true
  linked_joins xs at = dite (ℕ_discrete place head)
      (λ e. ap (λ (l : List ℕ). stands_in l i) (linked_first xs e) ∙ stands_here i i xs refl)
      (λ ne. ap (λ (l : List ℕ). stands_in l i) (linked_behind xs ne) ∙ behind at ne)
    where
      behind : IsWordOf sizes head place xs → place ≢ head → stands_in (put_behind (λ x. place == link_at sizes x) i xs)
          i ≡ true
      behind (inl e) ne = absurd (ne e)
      behind (inr h) ne = behind_joins (λ x. place == link_at sizes x) i h.0 xs h.1
          (eq-eqb place (link_at sizes h.0) h.2)

  -- else the list stays
  pub linked_none : (xs : List ℕ) → (IsWordOf sizes head place xs → ⊥) → linked_in sizes head place i xs ≡ xs
  linked_none xs not_at = linked_behind xs (λ e. not_at (inl e)) ∙ behind_none xs (λ z s e. not_at (inr (z, s, e)))
    where
      behind_none : (ys : List ℕ) → ((z : ℕ) → stands_in ys z ≡ true → place ≢ link_at sizes z) → put_behind
          (λ x. place == link_at sizes x) i ys ≡ ys
      behind_none [] h = refl
      behind_none (x ∷ ys) h = behind_else (λ x. place == link_at sizes x) i x ys
          (ne_eqb place (link_at sizes x) (h x (stands_here x x ys refl)))
          ∙ ap (λ (l : List ℕ). x ∷ l) (behind_none ys (λ z s. h z (stands_later x z ys s)))

-- the longest part from the front on that passes a test, where the first passes and where it doesn't
module _ (test : ℕ → Bool) where
  pub part_more : (x : ℕ) (xs : List ℕ) → test x ≡ true → take_while test (x ∷ xs) ≡ x ∷ take_while test xs
  part_more x xs e = take_while-cons test x xs ∙ ap (λ (b : Bool). cond b (x ∷ take_while test xs) []) e

  pub part_end : (x : ℕ) (xs : List ℕ) → test x ≡ false → take_while test (x ∷ xs) ≡ []
  part_end x xs e = take_while-cons test x xs ∙ ap (λ (b : Bool). cond b (x ∷ take_while test xs) []) e

  -- it's a part of the list, and passes the test
  pub part_was : (y : ℕ) (xs : List ℕ) → stands_in (take_while test xs) y ≡ true → (stands_in xs y ≡ true) ×
      (test y ≡ true)
  part_was y [] h = absurd (cc)
  part_was y (x ∷ xs) h = yes_no ((stands_in (x ∷ xs) y ≡ true) × (test y ≡ true)) (test x)
      (λ e. stands_case ((stands_in (x ∷ xs) y ≡ true) × (test y ≡ true)) x y (take_while test xs)
      (sym (ap (λ (l : List ℕ). stands_in l y) (part_more x xs e)) ∙ h)
      (λ same. (stands_here x y xs same, ap test (sym same) ∙ e))
      (λ _ later. let r = part_was y xs later in (stands_later x y xs r.0, r.1)))
      (λ e. let t : false ≡ true = sym (ap (λ (l : List ℕ). stands_in l y) (part_end x xs e)) ∙ h in absurd (cc))

  -- it's the whole list where all of it passes
  pub part_all : (y : ℕ) (xs : List ℕ) → ((z : ℕ) → stands_in xs z ≡ true → test z ≡ true) → stands_in xs y ≡ true →
      stands_in (take_while test xs)
      y ≡ true
  part_all y [] all h = absurd (cc)
  part_all y (x ∷ xs) all h = ap (λ (l : List ℕ). stands_in l y) (part_more x xs (all x (stands_here x x xs refl)))
      ∙ stands_case (stands_in (x ∷ take_while test xs) y ≡ true) x y xs h (stands_here x y (take_while test xs))
      (λ _ later. stands_later x y (take_while test xs) (part_all y xs
      (λ z s. all z (stands_later x z xs s)) later))

  -- to unlink a node that passes but isn't in the part changes no part
  pub part_unlinked : (i : ℕ) (xs : List ℕ) → test i ≡ true → stands_in (take_while test xs) i ≡ false → take_while test
      (unlinked_from i xs) ≡ take_while test xs
  part_unlinked i [] t h = refl
  part_unlinked i (x ∷ xs) t h = yes_no (take_while test (unlinked_from i (x ∷ xs)) ≡ take_while test (x ∷ xs)) (test x)
      (λ e. let n = stands_not x i (take_while test xs) (sym (ap (λ (l : List ℕ). stands_in l i) (part_more x xs e)) ∙
      h)
      in
      ap (take_while test) (unlinked_else i x xs n.0) ∙ (part_more x (unlinked_from i xs) e ∙
      (ap (λ (l : List ℕ). x ∷ l) (part_unlinked i xs t n.1) ∙ sym (part_more x xs e))))
      (λ e. ap (take_while test) (unlinked_else i x xs (λ same. let u = ap test same in absurd (cc))) ∙
      (part_end x (unlinked_from i xs) e ∙ sym (part_end x xs e)))

  -- to link a node behind one that doesn't pass changes no part
  part_behind : (is : ℕ → Bool) (i : ℕ) (xs : List ℕ) → ((z : ℕ) → stands_in xs z ≡ true → is z ≡ true → test z ≡ false)
      → take_while test (put_behind is i xs) ≡ take_while test xs
  part_behind is i [] h = refl
  part_behind is i (x ∷ xs) h = yes_no (take_while test (put_behind is i (x ∷ xs)) ≡ take_while test (x ∷ xs)) (is x)
      (λ e. let f = h x (stands_here x x xs refl) e in ap (take_while test) (behind_here is i x xs e) ∙
      (part_end x (i ∷ xs) f ∙ sym (part_end x xs f)))
      (λ e. yes_no (take_while test (put_behind is i (x ∷ xs)) ≡ take_while test (x ∷ xs)) (test x)
      (λ t. ap (take_while test) (behind_else is i x xs e) ∙ (part_more x (put_behind is i xs) t ∙
      (ap (λ (l : List ℕ). x ∷ l) (part_behind is i xs (λ z s. h z (stands_later x z xs s))) ∙ sym
      (part_more x xs t))))
      (λ t. ap (take_while test) (behind_else is i x xs e) ∙ (part_end x (put_behind is i xs) t ∙ sym
      (part_end x xs t))))

  -- to link a node in changes no part where the place isn't the head, and is the link of none that passes
  pub part_linked : (sizes : Sizes) (head place i : ℕ) (xs : List ℕ) → place ≢ head →
      ((z : ℕ) → stands_in xs z ≡ true → place ≡ link_at sizes z → test z ≡ false) → take_while test
      (linked_in sizes head place i xs) ≡ take_while test xs
  part_linked sizes head place i xs ne h = ap (take_while test) (linked_behind sizes head place i xs ne) ∙ part_behind
      (λ x. place == link_at sizes x) i xs (λ z s e. h z s (eqb-true place (link_at sizes z) e))

-- a part grows with its test
pub part_grows : (test more : ℕ → Bool) (y : ℕ) (xs : List ℕ) →
    ((z : ℕ) → stands_in xs z ≡ true → test z ≡ true → more z ≡ true) → stands_in (take_while test xs) y ≡ true →
    stands_in (take_while more xs)
    y ≡ true
part_grows test more y [] grow h = absurd (cc)
part_grows test more y (x ∷ xs) grow h = yes_no (stands_in (take_while more (x ∷ xs)) y ≡ true) (test x)
    (λ e. ap (λ (l : List ℕ). stands_in l y) (part_more more x xs (grow x (stands_here x x xs refl) e))
    ∙ stands_case (stands_in (x ∷ take_while more xs) y ≡ true) x y (take_while test xs)
    (sym (ap (λ (l : List ℕ). stands_in l y) (part_more test x xs e)) ∙ h) (stands_here x y (take_while more xs))
    (λ _ later. stands_later x y (take_while more xs) (part_grows test more y xs
    (λ z s. grow z (stands_later x z xs s)) later)))
    (λ e. let t : false ≡ true = sym (ap (λ (l : List ℕ). stands_in l y) (part_end test x xs e)) ∙ h in absurd (cc))

-- tests that agree on a list have one part
pub part_same : (test other : ℕ → Bool) (xs : List ℕ) → ((z : ℕ) → stands_in xs z ≡ true → test z ≡ other z)
    → take_while test xs ≡ take_while other xs
part_same test other [] same = refl
part_same test other (x ∷ xs) same = take_while-cons test x xs
    ∙ (ap (λ (b : Bool). cond b (x ∷ take_while test xs) []) (same x (stands_here x x xs refl))
    ∙ (ap (λ (l : List ℕ). cond (other x) (x ∷ l) []) (part_same test other xs (λ z s. same z (stands_later x z xs s)))
    ∙ sym (take_while-cons other x xs)))
