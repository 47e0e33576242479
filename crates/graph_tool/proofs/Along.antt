-- What ports have answered, their callers have.
use Rattle.std.proofs.Common.{◌≡◌, ℕ, zero, suc, ◌<◌, List, [], ◌∷◌, ◌++◌, length, take, get_or, arith, length-append}
use Rattle.std.proofs.Math.Seq.{take-append_seam}
use Rattle.std.proofs.lemmas.List.Elements.{All-append, All-nil, All-cons}
use Rattle.std.specs.Prelude.{All}
use Rattle.caller_run.specs.Asked.{HasAnsweredAll}
use Rattle.graph_kinds.specs.declared.answer.Answer.{Answer}
use Rattle.graph_kinds.specs.declared.call.Call.{Call}
use Rattle.graph_kinds.specs.declared.entry.Entry.{Entry}

-- what holds of values by something that they hold, holds of that
pub answered-along : {X Y : Type 0} (f : X → Y) (book : Y → List Entry) (left front : Y → ℕ) (p q : X) (tries : ℕ)
    (calls : List Call) (replies : List Answer)
    → HasAnsweredAll (λ x. book (f x)) (λ x. left (f x)) (λ x. front (f x)) p q tries calls replies
    → HasAnsweredAll book left front (f p) (f q) tries calls replies
answered-along f book left front p q tries calls replies r = record {
  some = record {
    gained = r.some.gained;
    grown = r.some.grown;
    asked = r.some.asked;
    given = r.some.given;
    within = r.some.within;
    used = r.some.used;
    later = r.some.later;
  };
  one_each = r.one_each;
  entered = r.entered;
  in_time = r.in_time;
  worn = r.worn;
}

-- what holds of each of a list and of one more
pub all-more : {A : Type 0} (P : A → Type 0) (xs : List A) (x : A) → All P xs → P x → All P (xs ++ x ∷ [])
all-more P xs x h p = All-append P xs (x ∷ []) h (All-cons P x [] p (All-nil P))

-- two lists agree by what the items of one hold, and so do they with one more each
pub pairs-more : {A B : Type 0} (of : A → B) (xs : List A) (ys : List B) (x : A) (y : B) → length xs ≡ length ys
    → ((i : ℕ) (d : A) (e : B) → i < length ys → of (get_or xs i d) ≡ get_or ys i e) → of x ≡ y
    → (i : ℕ) (d : A) (e : B) → i < length (ys ++ y ∷ []) → of (get_or (xs ++ x ∷ []) i d) ≡ get_or (ys ++ y ∷ []) i e
pairs-more of [] [] x y len h same zero d e low = same
pairs-more of [] [] x y len h same (suc i) d e low = absurd (omega (arith, low))
pairs-more of [] (b ∷ ys) x y len h same i d e low = absurd (omega (arith, len))
pairs-more of (a ∷ xs) [] x y len h same i d e low = absurd (omega (arith, len))
pairs-more of (a ∷ xs) (b ∷ ys) x y len h same zero d e low = h 0 d e (omega arith)
pairs-more of (a ∷ xs) (b ∷ ys) x y len h same (suc i) d e low =
    pairs-more of xs ys x y (omega (arith, len)) (λ k l m n. h (suc k) l m (omega (arith, n))) same i d e
    (omega (arith, low))

-- so do their lengths
pub length-more : {A B : Type 0} (xs : List A) (ys : List B) (x : A) (y : B) → length xs ≡ length ys
    → length (xs ++ x ∷ []) ≡ length (ys ++ y ∷ [])
length-more xs ys x y len =
    let one = length-append xs (x ∷ []) in let other = length-append ys (y ∷ []) in omega (arith, len, one, other)

-- an item of a list that isn't empty
pub item-of : {A : Type 0} (xs : List A) (i : ℕ) → i < length xs → A
item-of [] i h = absurd (omega arith)
item-of (x ∷ xs) i h = x

-- what a `Vec` has after its whole slice was lent
pub lent_back : {A : Type 0} (n : ℕ) (xs ys : List A) → length xs ≡ n → take n (xs ++ ys) ≡ xs
lent_back n xs ys e = rw (← e) (take-append_seam xs ys)
