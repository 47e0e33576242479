-- Lists, and what holds of each of their elements.
use Rattle.std.proofs.Common.{◌≡◌, ℕ, zero, suc, ◌<◌, ◌≤◌, Bool, true, false, cond, ◌||◌, List, [], ◌∷◌, ◌++◌, length}
use Rattle.std.proofs.Common.{take, map, filter, find, flat_map, Some, refl, sym, ap, ◌∙◌, arith, append_assoc}
use Rattle.std.proofs.Common.{append-nil, length-append}
use Rattle.std.specs.Prelude.{slice_get}
use Rattle.std.specs.List.{list_any}
use Rattle.graph_kinds.specs.History.{Every}
use Rattle.core_journal.specs.Prefix.{IsPrefix}

module _ {A : Type 0} where
  -- a fact of each element of two lists, of one list, and of two facts
  pub every_append : (P : A → Type 0) (xs ys : List A) → Every P xs → Every P ys → Every P (xs ++ ys)
  every_append P [] ys f g = g
  every_append P (x ∷ xs) ys f g = (f.0, every_append P xs ys f.1 g)

  pub every_left : (P : A → Type 0) (xs ys : List A) → Every P (xs ++ ys) → Every P xs
  every_left P [] ys f = tt
  every_left P (x ∷ xs) ys f = (f.0, every_left P xs ys f.1)

  pub every_right : (P : A → Type 0) (xs ys : List A) → Every P (xs ++ ys) → Every P ys
  every_right P [] ys f = f
  every_right P (x ∷ xs) ys f = every_right P xs ys f.1

  pub every_map : (P Q : A → Type 0) → ((x : A) → P x → Q x) → (xs : List A) → Every P xs → Every Q xs
  every_map P Q f [] h = tt
  every_map P Q f (x ∷ xs) h = (f x h.0, every_map P Q f xs h.1)

  pub every_both : (P Q : A → Type 0) (xs : List A) → Every P xs → Every Q xs → Every (λ x. P x × Q x) xs
  every_both P Q [] f g = tt
  every_both P Q (x ∷ xs) f g = ((f.0, g.0), every_both P Q xs f.1 g.1)

  pub every_none : (xs : List A) → Every (λ _. ⊥) xs → xs ≡ []
  every_none [] h = refl
  every_none (x ∷ xs) h = absurd h.0

  pub every_all : (P : A → Type 0) → ((x : A) → P x) → (xs : List A) → Every P xs
  every_all P f [] = tt
  every_all P f (x ∷ xs) = (f x, every_all P f xs)

  pub every_filter : (P Q : A → Type 0) (test : A → Bool) → ((x : A) → P x → test x ≡ true → Q x) → (xs : List A)
      → Every P xs → Every Q (filter test xs)
  every_filter P Q test f [] h = tt
  every_filter P Q test f (x ∷ xs) h = elim (test x) as (λ b. test x ≡ b → Every Q
      (cond b (x ∷ filter test xs) (filter test xs))) [
        | true ↦ λ e. (f x h.0 e, every_filter P Q test f xs h.1)
        | false ↦ λ e. every_filter P Q test f xs h.1
      ] refl

  -- an element stands below the length
  pub get_short : (xs : List A) (k : ℕ) (x : A) → slice_get xs k ≡ Some x → k < length xs
  get_short [] k x e = absurd (cc)
  get_short (y ∷ ys) zero x e = omega arith
  get_short (y ∷ ys) (suc k) x e = omega (arith, get_short ys k x e)

  -- the element behind a front
  pub get_here : (past : List A) (x : A) (rest : List A) → slice_get (past ++ x ∷ rest) (length past) ≡ Some x
  get_here [] x rest = refl
  get_here (y ∷ ys) x rest = get_here ys x rest

  -- elements of a front stay where they are
  pub get_front : (xs ys : List A) (k : ℕ) (a : A) → slice_get xs k ≡ Some a → slice_get (xs ++ ys) k ≡ Some a
  get_front [] ys k a e = absurd (cc)
  get_front (x ∷ xs) ys zero a e = e
  get_front (x ∷ xs) ys (suc k) a e = get_front xs ys k a e

  -- below its length a front has the same elements
  pub get_back : (xs ys : List A) (k : ℕ) → k < length xs → slice_get (xs ++ ys) k ≡ slice_get xs k
  get_back [] ys k h = absurd (omega arith)
  get_back (x ∷ xs) ys zero h = refl
  get_back (x ∷ xs) ys (suc k) h = get_back xs ys k (omega arith)

  -- the front that was cut off
  pub take_here : (past rest : List A) → take (length past) (past ++ rest) ≡ past
  take_here [] rest = refl
  take_here (y ∷ ys) rest = ap (λ l. y ∷ l) (take_here ys rest)

  -- a front of a front
  pub take_front : (xs ys : List A) (p : ℕ) → p ≤ length xs → take p (xs ++ ys) ≡ take p xs
  take_front xs ys zero h = refl
  take_front [] ys (suc p) h = absurd (omega arith)
  take_front (x ∷ xs) ys (suc p) h = ap (λ l. x ∷ l) (take_front xs ys p (omega arith))

  -- a test that passed passes in a longer list
  pub any_more : (test : A → Bool) (xs more : List A) → list_any test xs ≡ true → list_any test (xs ++ more) ≡ true
  any_more test [] more h = absurd (cc)
  any_more test (x ∷ xs) more h = elim (test x) as (λ b. (b || list_any test xs) ≡ true →
      (b || list_any test (xs ++ more)) ≡ true) [ true ↦ λ g. refl | false ↦ λ g. any_more test xs more g ] h

  -- what was found first is found first in a longer list
  pub find_more : (test : A → Bool) (xs more : List A) (x : A) → find test xs ≡ Some x → find test (xs ++ more) ≡ Some x
  find_more test [] more x h = absurd (cc)
  find_more test (y ∷ xs) more x h = elim (test y) as (λ b. cond b (Some y) (find test xs) ≡ Some x → cond b (Some y)
      (find test (xs ++ more)) ≡ Some x) [ true ↦ λ g. g | false ↦ λ g. find_more test xs more x g ] h

  -- prefixes
  pub prefix_refl : (xs : List A) → IsPrefix xs xs
  prefix_refl xs = record { rest = []; whole = append-nil xs }

  -- a prefix of a prefix is one
  pub prefix_trans : (xs ys zs : List A) → IsPrefix xs ys → IsPrefix ys zs → IsPrefix xs zs
  prefix_trans xs ys zs p q = record {
    rest = p.rest ++ q.rest;
    whole = sym (append_assoc xs p.rest q.rest) ∙
        (ap (λ (l : List A). l ++ q.rest) p.whole ∙ q.whole);
  }

  -- one more element leaves a prefix
  pub prefix_snoc : (xs : List A) (x : A) → IsPrefix xs (xs ++ x ∷ [])
  prefix_snoc xs x = record { rest = x ∷ []; whole = refl }

  -- the first elements are a prefix
  pub prefix_take : (xs : List A) (n : ℕ) → IsPrefix (take n xs) xs
  prefix_take xs zero = record { rest = xs; whole = refl }
  prefix_take [] (suc n) = record { rest = []; whole = refl }
  prefix_take (x ∷ xs) (suc n) = let p = prefix_take xs n in record { rest = p.rest; whole = ap (λ l. x ∷ l) p.whole }

  -- a prefix is no longer
  pub prefix_length : (xs ys : List A) → IsPrefix xs ys → length xs ≤ length ys
  prefix_length xs ys p = omega (arith, length-append xs p.rest, ap length p.whole)

-- facts of the elements of a mapped list
pub every_mapped : {A B : Type 0} (P : A → Type 0) (Q : B → Type 0) (f : A → B) → ((x : A) → P x → Q (f x)) →
    (xs : List A) → Every P xs → Every Q (map f xs)
every_mapped P Q f g [] h = tt
every_mapped P Q f g (x ∷ xs) h = (g x h.0, every_mapped P Q f g xs h.1)

-- facts of the elements of joined lists
pub every_flat : {A B : Type 0} (P : A → Type 0) (Q : B → Type 0) (f : A → List B) → ((x : A) → P x → Every Q (f x)) →
    (xs : List A) → Every P xs → Every Q (flat_map f xs)
every_flat P Q f g [] h = tt
every_flat P Q f g (x ∷ xs) h = every_append Q (f x) (flat_map f xs) (g x h.0) (every_flat P Q f g xs h.1)
