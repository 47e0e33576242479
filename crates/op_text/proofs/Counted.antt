-- How many items of a history pass a test, one after the other.
use Rattle.std.proofs.Common.{◌≡◌, ℕ, ◌+◌, ◌<◌, ◌∙◌, sym, ap, Bool, List, [], ◌∷◌, ◌++◌, length, get_or, zero, suc}
use Rattle.std.proofs.Common.{cond, arith, refl, zero-add, take, take_all, true, false, ◌≤◌}
use Rattle.std.specs.List.{count_by}
use Rattle.std.proofs.lemmas.List.Sums.{count_by_more_no, count_by_more_yes, sum_by-append}
use Rattle.graph_kinds.specs.declared.answer.Answer.{Answer}
use Rattle.graph_kinds.specs.declared.call.Row.{Row}
use Rattle.graph_kinds.specs.History.{Item, answered, item_by}

-- one item before others
pub count_by-cons : {X : Type 0} (p : X → Bool) (x : X) (xs : List X)
    → count_by p (x ∷ xs) ≡ cond (p x) 1 0 + count_by p xs
count_by-cons p x xs =
    sum_by-append (λ y. cond (p y) 1 0) (x ∷ []) xs
    ∙ ap (λ (n : ℕ). n + count_by p xs) (zero-add (cond (p x) 1 0))

pub count_by-append : {X : Type 0} (p : X → Bool) (xs ys : List X)
    → count_by p (xs ++ ys) ≡ count_by p xs + count_by p ys
count_by-append p xs ys = sum_by-append (λ y. cond (p y) 1 0) xs ys

-- as many items as rows
pub length-answered : (rows : List Row) (replies : List Answer) → length replies ≡ length rows
    → length (answered rows replies) ≡ length rows
length-answered [] replies e = refl
length-answered (r ∷ rs) [] e = absurd (omega (arith, e))
length-answered (r ∷ rs) (a ∷ more) e =
    let rest = length-answered rs more (omega (arith, e)) in omega (arith, rest)

-- the item of a row, by its place
answered_at : (rows : List Row) (replies : List Answer) (i : ℕ) (d : Row) (e : Answer) (f : Item) → i < length rows
    → length replies ≡ length rows
    → get_or (answered rows replies) i f ≡ item_by (get_or rows i d, get_or replies i e)
answered_at [] replies i d e f inside same = absurd (omega arith)
answered_at (r ∷ rs) [] i d e f inside same = absurd (omega (arith, same))
answered_at (r ∷ rs) (a ∷ more) zero d e f inside same = refl
answered_at (r ∷ rs) (a ∷ more) (suc i) d e f inside same =
    answered_at rs more i d e f (omega arith) (omega (arith, same))

-- one more row
module _ (p : Item → Bool) (rows : List Row) (replies : List Answer) (i : ℕ) (d : Row) (e : Answer)
    (inside : i < length rows) (same : length replies ≡ length rows) (b : Bool)
    (is : b ≡ p (item_by (get_or rows i d, get_or replies i e))) where
  abbrev item : Item
  item = item_by (get_or rows i d, get_or replies i e)

  at : p (get_or (answered rows replies) i item) ≡ b
  at = ap p (answered_at rows replies i d e item inside same) ∙ sym is

  pub counted_yes : b ≡ true → count_by p (take (i + 1) (answered rows replies)) ≡ count_by p
      (take i (answered rows replies)) + 1
  counted_yes passed = count_by_more_yes p (answered rows replies) i item
      (omega (arith, length-answered rows replies same)) (at ∙ passed)

  pub counted_no : b ≡ false → count_by p (take (i + 1) (answered rows replies)) ≡ count_by p
      (take i (answered rows replies))
  counted_no failed = count_by_more_no p (answered rows replies) i item
      (omega (arith, length-answered rows replies same)) (at ∙ failed)

-- all rows
pub counted_all : (p : Item → Bool) (rows : List Row) (replies : List Answer) (i : ℕ) → length rows ≤ i
    → length replies ≡ length rows → count_by p (take i (answered rows replies)) ≡ count_by p (answered rows replies)
counted_all p rows replies i over same = ap (count_by p) (take_all i (answered rows replies)
    (omega (arith, length-answered rows replies same)))
