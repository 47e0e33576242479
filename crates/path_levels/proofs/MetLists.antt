-- How a queue grows by the keys that are met: by those that are new to it, each once.
use Rattle.std.proofs.Common.{◌≡◌, ◌≢◌, ℕ, suc, ◌<◌, length, get_or, arith, ◌==◌, Bool, true, false, cond, not, ◌&&◌}
use Rattle.std.proofs.Common.{◌||◌, inl, inr, List, [], ◌∷◌, ◌++◌, filter, append_assoc, append-nil, refl, sym, ap, ◌∙◌}
use Rattle.std.proofs.Common.{subst}
use Rattle.std.proofs.lemmas.Bool.{eqb-true, cases_eq, ne_eqb, eq-eqb}
use Rattle.std.proofs.lemmas.List.Folds.{list_any-append}
use Rattle.graph_kinds.specs.Levels.{stands_in, firsts_of}
use Rattle.graph_kinds.proofs.PathsLists.{In, in_left, in_right, in_standing}
use Rattle.path_levels.specs.Queue.{with_met, with_all}

pub with_all-append : (queue xs ys : List ℕ) → with_all queue (xs ++ ys) ≡ with_all (with_all queue xs) ys
with_all-append queue [] ys = refl
with_all-append queue (x ∷ xs) ys = with_all-append (with_met queue x) xs ys

and_swap : (b c : Bool) → (b && c) ≡ (c && b)
and_swap true true = refl
and_swap true false = refl
and_swap false true = refl
and_swap false false = refl

filter_alike : (p r : ℕ → Bool) → ((x : ℕ) → p x ≡ r x) → (xs : List ℕ) → filter p xs ≡ filter r xs
filter_alike p r same [] = refl
filter_alike p r same (x ∷ xs) = ap (λ (b : Bool). cond b (x ∷ filter p xs) (filter p xs)) (same x) ∙ ap
    (λ (zs : List ℕ). cond (r x) (x ∷ zs) zs) (filter_alike p r same xs)

filter_twice : (p r : ℕ → Bool) (xs : List ℕ) → filter p (filter r xs) ≡ filter (λ x. r x && p x) xs
filter_twice p r [] = refl
filter_twice p r (x ∷ xs) =
    let later = filter_twice p r xs in
    elim (r x) as (λ b. filter p (cond b (x ∷ filter r xs) (filter r xs)) ≡ cond (b && p x)
    (x ∷ filter (λ z. r z && p z) xs) (filter (λ z. r z && p z) xs)) [
      | true ↦ ap (λ (zs : List ℕ). cond (p x) (x ∷ zs) zs) later
      | false ↦ later
    ]

filter_swap : (p r : ℕ → Bool) (xs : List ℕ) → filter p (filter r xs) ≡ filter r (filter p xs)
filter_swap p r xs = filter_twice p r xs ∙ (filter_alike (λ x. r x && p x) (λ x. p x && r x)
    (λ x. and_swap (r x) (p x)) xs ∙ sym (filter_twice r p xs))

-- a number that fails a test can be left out before
filter_absent : (p : ℕ → Bool) (x : ℕ) → p x ≡ false → (xs : List ℕ) → filter p
    (filter (λ z. not (z == x)) xs) ≡ filter p xs
filter_absent p x fails xs = filter_twice p (λ z. not (z == x)) xs ∙ filter_alike (λ z. not (z == x) && p z) p same xs
  where
    same : (z : ℕ) → (not (z == x) && p z) ≡ p z
    same z = elim (z == x) as (λ b. (z == x) ≡ b → (not b && p z) ≡ p z) [
      | true ↦ λ e. sym (ap p (eqb-true z x e) ∙ fails)
      | false ↦ λ _. refl
    ] refl

firsts-filter : (p : ℕ → Bool) (xs : List ℕ) → filter p (firsts_of xs) ≡ firsts_of (filter p xs)
firsts-filter p [] = refl
firsts-filter p (x ∷ xs) = elim (p x) as (λ b. p x ≡ b → cond b (x ∷ filter p others) (filter p others) ≡ firsts_of
    (cond b (x ∷ filter p xs) (filter p xs))) [
      | true ↦ λ _. ap (λ (zs : List ℕ). x ∷ zs) (filter_swap p (λ z. not (z == x)) (firsts_of xs) ∙ ap
          (filter (λ z. not (z == x))) (firsts-filter p xs))
      | false ↦ λ e. filter_absent p x e (firsts_of xs) ∙ firsts-filter p xs
    ] refl
  where
    others : List ℕ
    others = filter (λ z. not (z == x)) (firsts_of xs)

pub eqb_swap : (x y : ℕ) → (x == y) ≡ (y == x)
eqb_swap x y = elim (cases_eq x y) as (λ _. (x == y) ≡ (y == x)) [
  | inl e ↦ eq-eqb x y e ∙ sym (eq-eqb y x (sym e))
  | inr ne ↦ ne_eqb x y ne ∙ sym (ne_eqb y x (λ e. ne (sym e)))
]

-- new to the queue with one more key: new to the queue, and another
new_behind : (queue : List ℕ) (y z : ℕ) → not (stands_in (queue ++ y ∷ []) z) ≡
    (not (stands_in queue z) && not (z == y))
new_behind queue y z = ap not (list_any-append (λ x. x == z) queue (y ∷ [])) ∙
    (parts (stands_in queue z) (y == z) ∙ ap (λ (b : Bool). not (stands_in queue z) && not b) (eqb_swap y z))
  where
    parts : (b c : Bool) → not (b || (c || false)) ≡ (not b && not c)
    parts true c = refl
    parts false true = refl
    parts false false = refl

-- the queue grows by the keys that are new to it, each once
pub with_all-firsts : (queue ys : List ℕ) → with_all queue ys ≡ queue ++ firsts_of
    (filter (λ y. not (stands_in queue y)) ys)
with_all-firsts queue [] = sym (append-nil queue)
with_all-firsts queue (y ∷ ys) = elim (stands_in queue y) as (λ b. with_all
    (cond b queue (queue ++ y ∷ [])) ys ≡ queue ++ firsts_of (cond (not b) (y ∷ filter new ys) (filter new ys))) [
      | true ↦ with_all-firsts queue ys
      | false ↦ with_all-firsts (queue ++ y ∷ []) ys ∙ (ap (λ (zs : List ℕ). (queue ++ y ∷ []) ++ zs) others
          ∙ append_assoc queue (y ∷ []) _)
    ]
  where
    new : ℕ → Bool
    new z = not (stands_in queue z)

    others : firsts_of (filter (λ z. not (stands_in (queue ++ y ∷ []) z)) ys) ≡ filter (λ z. not (z == y))
        (firsts_of (filter (λ z. not (stands_in queue z)) ys))
    others = ap firsts_of (filter_alike _ _ (new_behind queue y) ys ∙ sym
        (filter_twice (λ z. not (z == y)) (λ z. not (stands_in queue z)) ys)) ∙ sym
        (firsts-filter (λ z. not (z == y)) (filter (λ z. not (stands_in queue z)) ys))

pub in_with_met : (queue : List ℕ) (key x : ℕ) → In x queue → In x (with_met queue key)
in_with_met queue key x h = elim (stands_in queue key) as (λ b. In x (cond b queue (queue ++ key ∷ [])))
    [ true ↦ h | false ↦ in_left x queue (key ∷ []) h ]

pub met_in : (queue : List ℕ) (key : ℕ) → In key (with_met queue key)
met_in queue key = elim (stands_in queue key) as (λ b. stands_in queue key ≡ b → In key
    (cond b queue (queue ++ key ∷ []))) [
      | true ↦ λ e. in_standing queue key e
      | false ↦ λ _. in_right key queue (key ∷ []) (inl refl)
    ] refl

pub in_with_all : (queue ys : List ℕ) (x : ℕ) → In x queue → In x (with_all queue ys)
in_with_all queue [] x h = h
in_with_all queue (y ∷ ys) x h = in_with_all (with_met queue y) ys x (in_with_met queue y x h)

-- what was met stands in the queue
pub all_met : (queue ys : List ℕ) (x : ℕ) → In x ys → In x (with_all queue ys)
all_met queue [] x h = absurd h
all_met queue (y ∷ ys) x (inl e) = subst (λ (z : ℕ). In z (with_all queue (y ∷ ys))) e
    (in_with_all (with_met queue y) ys y (met_in queue y))
all_met queue (y ∷ ys) x (inr h) = all_met (with_met queue y) ys x h

-- a number that is at no place doesn't stand in the list
pub stands_nowhere : (xs : List ℕ) (x : ℕ) → ((k : ℕ) → k < length xs → get_or xs k 0 ≢ x) → stands_in xs x ≡ false
stands_nowhere [] x none = refl
stands_nowhere (y ∷ ys) x none =
    let first : (y == x) ≡ false = ne_eqb y x (none 0 (omega arith)) in
    ap (λ (b : Bool). b || stands_in ys x) first ∙ stands_nowhere ys x (λ k lt. none (suc k) (omega arith))
