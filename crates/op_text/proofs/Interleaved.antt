-- Two histories in which each caller has the same items have as many items of each kind.
use Rattle.std.proofs.Common.{◌≡◌, ℕ, ◌∙◌, sym, ap, refl, subst, Bool, true, false, cond, List, [], ◌∷◌, ◌++◌}
use Rattle.std.proofs.Common.{Some, None, arith, inl, inr, eqb}
use Rattle.std.specs.Prelude.{Option, IsSome, is_some, not}
use Rattle.std.specs.List.{count_by}
use Rattle.std.proofs.lemmas.Bool.{cases_Bool, eq-eqb, eqb-true}
use Rattle.std.proofs.lemmas.List.Elements.{filter-append}
use Rattle.graph_kinds.specs.declared.answer.Answer.{Answer}
use Rattle.graph_kinds.specs.declared.call.Row.{Row}
use Rattle.graph_kinds.specs.History.{Item, Every, IsInterleaving, answered, items_of}
use Rattle.op_text.proofs.Counted.{count_by-append, count_by-cons}

-- a list around the first item of a caller
record Around (caller : ℕ) (x : Item) (rest ys : List Item) : Type 0 where
  front : List Item
  back : List Item
  whole : ys ≡ front ++ x ∷ back
  none : items_of caller front ≡ []
  left : items_of caller back ≡ rest

-- an item of a caller or of another, before others
items_own : (caller : ℕ) (y : Item) (ys : List Item) → eqb y.caller caller ≡ true
    → items_of caller (y ∷ ys) ≡ y ∷ items_of caller ys
items_own caller y ys e = rw e refl

items_other : (caller : ℕ) (y : Item) (ys : List Item) → eqb y.caller caller ≡ false
    → items_of caller (y ∷ ys) ≡ items_of caller ys
items_other caller y ys e = rw e refl

find_first : (caller : ℕ) (x : Item) (rest ys : List Item) → items_of caller ys ≡ x ∷ rest
    → Around caller x rest ys
find_first caller x rest [] e = cc e
find_first caller x rest (y ∷ ys) e = elim (cases_Bool (eqb y.caller caller)) [
  | inl own ↦
      let at : y ∷ items_of caller ys ≡ x ∷ rest = sym (items_own caller y ys own) ∙ e in
      let same : y ≡ x = cc at in
      record {
        front = [];
        back = ys;
        whole = ap (λ (z : Item). z ∷ ys) same;
        none = refl;
        left = cc at;
      }
  | inr other ↦
      let found = find_first caller x rest ys (sym (items_other caller y ys other) ∙ e) in
      record {
        front = y ∷ found.front;
        back = found.back;
        whole = ap (λ (zs : List Item). y ∷ zs) found.whole;
        none = items_other caller y found.front other ∙ found.none;
        left = found.left;
      }
]

-- each caller has the same items in both
abbrev pub AreAlike : List Item → List Item → Type 0
AreAlike xs ys = (caller : ℕ) → items_of caller xs ≡ items_of caller ys

-- where a list begins with an item, the other has it behind others, and without it they are still alike
alike_without : (x : Item) (xs ys : List Item) → AreAlike (x ∷ xs) ys
    → (a : Around x.caller x (items_of x.caller xs) ys) → AreAlike xs (a.front ++ a.back)
alike_without x xs ys same a caller =
    let split = filter-append (λ (i : Item). eqb i.caller caller) a.front a.back in
    let split_x = filter-append (λ (i : Item). eqb i.caller caller) a.front (x ∷ a.back) in
    let there : items_of caller (x ∷ xs) ≡ items_of caller a.front ++ items_of caller (x ∷ a.back) =
    same caller ∙ ap (items_of caller) a.whole ∙ split_x in
    elim (cases_Bool (eqb x.caller caller)) [
      | inl own ↦
          let is : x.caller ≡ caller = eqb-true x.caller caller own in
          let none : items_of caller a.front ≡ [] =
          subst (λ (c : ℕ). items_of c a.front ≡ []) is a.none in
          let left : items_of caller a.back ≡ items_of caller xs =
          subst (λ (c : ℕ). items_of c a.back ≡ items_of c xs) is a.left in
          sym left ∙ ap (λ (zs : List Item). zs ++ items_of caller a.back) (sym none) ∙ sym split
      | inr other ↦
          sym (items_other caller x xs other) ∙ there
          ∙ ap (λ (zs : List Item). items_of caller a.front ++ zs) (items_other caller x a.back other) ∙ sym split
    ]

-- nothing is alike to an item before others
alike_none : (y : Item) (ys : List Item) → AreAlike [] (y ∷ ys) → ⊥
alike_none y ys same =
    let own = items_own y.caller y ys (eq-eqb y.caller y.caller refl) in cc (same y.caller ∙ own)

pub count_alike : (p : Item → Bool) (xs ys : List Item) → AreAlike xs ys → count_by p xs ≡ count_by p ys
count_alike p [] [] same = refl
count_alike p [] (y ∷ ys) same = absurd (alike_none y ys same)
count_alike p (x ∷ xs) ys same =
    let own = items_own x.caller x xs (eq-eqb x.caller x.caller refl) in
    let a = find_first x.caller x (items_of x.caller xs) ys (sym (same x.caller) ∙ own) in
    let rest = count_alike p xs (a.front ++ a.back) (alike_without x xs ys same a) in
    let whole : count_by p ys ≡ count_by p (a.front ++ x ∷ a.back) = ap (count_by p) a.whole in
    omega (
      arith,
      rest,
      whole,
      count_by-cons p x xs,
      count_by-cons p x a.back,
      count_by-append p a.front (x ∷ a.back),
      count_by-append p a.front a.back,
    )

-- an item that was not answered
abbrev runs : Item → Bool
runs i = not (is_some i.reply)

no_answered_runs : (rows : List Row) (replies : List Answer) → count_by runs (answered rows replies) ≡ 0
no_answered_runs [] replies = refl
no_answered_runs (r ∷ rs) [] = refl
no_answered_runs (r ∷ rs) (a ∷ more) = no_answered_runs rs more

reply_some : (reply : Option Answer) → ◌≡◌ {A = ℕ} (cond (not (is_some reply)) 1 0) 0 → IsSome reply
reply_some None e = absurd (omega (arith, e))
reply_some (Some r) e = refl

all_some : (h : List Item) → count_by runs h ≡ 0 → Every (λ (i : Item). IsSome i.reply) h
all_some [] e = tt
all_some (i ∷ h) e =
    let parts = count_by-cons runs i h in
    (reply_some i.reply (omega (arith, e, parts)), all_some h (omega (arith, e, parts)))

-- each item of an interleaving was answered
pub interleaving_answered : (asked : List Row) (replies : List Answer) (h : List Item) → IsInterleaving asked replies h
    → Every (λ (i : Item). IsSome i.reply) h
interleaving_answered asked replies h mixed = all_some h
    (count_alike runs h (answered asked replies) mixed.in_order ∙ no_answered_runs asked replies)
