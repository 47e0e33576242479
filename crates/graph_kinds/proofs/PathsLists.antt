-- What stands in a list, and lists in which nothing stands twice.
use Rattle.std.proofs.Common.{◌≡◌, ◌≢◌, ℕ, zero, suc, ◌-◌, ◌<◌, ◌≤◌, ◌==◌, Bool, true, false, cond, not, ◌&&◌, ◌⊎◌, inl}
use Rattle.std.proofs.Common.{inr, List, [], ◌∷◌, ◌++◌, length, map, filter, flat_map, get_or, AllPairs, refl, sym, ap}
use Rattle.std.proofs.Common.{◌∙◌, subst, arith}
use Rattle.std.proofs.lemmas.Bool.{true≢false, eq-eqb, eqb-true, ne_eqb, cases_eq, or_cases, or_left, or_right}
use Rattle.std.specs.Ordering.{nat_cmp}
use Rattle.std.specs.Cmp.{nat_cmp_total, unsigned_tied}
use Rattle.std.specs.FinSet as set
use Rattle.graph_kinds.specs.Levels.{stands_in, firsts_of}

module _ {A : Type 0} where
  -- x stands in the list
  abbrev pub In : A → List A → Type 0
  In x [] = ⊥
  In x (y ∷ ys) = (y ≡ x) ⊎ In x ys

  -- nothing stands twice
  abbrev pub Once : List A → Type 0
  Once [] = Unit {0}
  Once (x ∷ xs) = (In x xs → ⊥) × Once xs

  -- what stands in a part stands in the whole, and back
  pub in_left : (x : A) (xs ys : List A) → In x xs → In x (xs ++ ys)
  in_left x [] ys h = absurd h
  in_left x (y ∷ xs) ys (inl e) = inl e
  in_left x (y ∷ xs) ys (inr h) = inr (in_left x xs ys h)

  pub in_right : (x : A) (xs ys : List A) → In x ys → In x (xs ++ ys)
  in_right x [] ys h = h
  in_right x (y ∷ xs) ys h = inr (in_right x xs ys h)

  pub in_either : (x : A) (xs ys : List A) → In x (xs ++ ys) → In x xs ⊎ In x ys
  in_either x [] ys h = inr h
  in_either x (y ∷ xs) ys (inl e) = inl (inl e)
  in_either x (y ∷ xs) ys (inr h) = elim (in_either x xs ys h) as
      (λ _. In x (y ∷ xs) ⊎ In x ys) [ inl k ↦ inl (inr k) | inr k ↦ inr k ]

  -- what stands in a list and passes, stands in what the filter keeps, and back
  pub in_filter : (p : A → Bool) (x : A) (xs : List A) → In x xs → p x ≡ true → In x (filter p xs)
  in_filter p x [] h t = h
  in_filter p x (y ∷ ys) (inl e) t = subst (λ (b : Bool). In x (cond b (y ∷ filter p ys) (filter p ys)))
      (sym (ap p e ∙ t)) (inl e)
  in_filter p x (y ∷ ys) (inr h) t =
      let later = in_filter p x ys h t in
      elim (p y) as (λ b. In x (cond b (y ∷ filter p ys) (filter p ys))) [ true ↦ inr later | false ↦ later ]

  pub filter_in : (p : A → Bool) (x : A) (xs : List A) → In x (filter p xs) → In x xs × (p x ≡ true)
  filter_in p x [] h = absurd h
  filter_in p x (y ∷ ys) h = elim (p y) as (λ b. p y ≡ b → In x (cond b (y ∷ filter p ys) (filter p ys)) → In x (y ∷ ys)
      × (p x ≡ true)) [
        | true ↦ λ t k. elim k as (λ _. In x (y ∷ ys) × (p x ≡ true))
            [ inl e ↦ (inl e, ap p (sym e) ∙ t) | inr l ↦ let r = filter_in p x ys l in (inr r.0, r.1) ]
        | false ↦ λ t k. let r = filter_in p x ys k in (inr r.0, r.1)
      ] refl h

  -- lists that share nothing, one behind the other
  pub once_append : (xs ys : List A) → Once xs → Once ys → ((x : A) → In x xs → In x ys → ⊥) → Once (xs ++ ys)
  once_append [] ys f g apart = g
  once_append (x ∷ xs) ys f g apart = (
    λ h. elim (in_either x xs ys h) as (λ _. ⊥) [ inl k ↦ f.0 k | inr k ↦ apart x (inl refl) k ],
    once_append xs ys f.1 g (λ z h k. apart z (inr h) k),
  )

  -- a filter of a list in which nothing stands twice
  pub once_filter : (p : A → Bool) (xs : List A) → Once xs → Once (filter p xs)
  once_filter p [] f = tt
  once_filter p (x ∷ xs) f =
      let later = once_filter p xs f.1 in
      elim (p x) as (λ b. Once (cond b (x ∷ filter p xs) (filter p xs)))
      [ true ↦ (λ h. f.0 (filter_in p x xs h).0, later) | false ↦ later ]

  -- an item at a place stands in the list
  pub in_place : (xs : List A) (k : ℕ) (d : A) → k < length xs → In (get_or xs k d) xs
  in_place [] k d h = absurd (omega arith)
  in_place (x ∷ xs) zero d h = inl refl
  in_place (x ∷ xs) (suc k) d h = inr (in_place xs k d (omega arith))

  -- items at different places differ
  pub pairs_from_once : (xs : List A) → Once xs → AllPairs (λ x y. x ≢ y) xs
  pairs_from_once [] f i j d lt h = absurd (omega arith)
  pairs_from_once (x ∷ xs) f i zero d lt h = absurd (omega arith)
  pairs_from_once (x ∷ xs) f zero (suc j) d lt h = λ e. f.0 (subst (λ (y : A). In y xs) (sym e)
      (in_place xs j d (omega arith)))
  pairs_from_once (x ∷ xs) f (suc i) (suc j) d lt h = pairs_from_once xs f.1 i j d (omega arith) (omega arith)

module _ {A B : Type 0} where
  -- what stands in a mapped list, and back
  pub in_map : (f : A → B) (x : A) (xs : List A) → In x xs → In (f x) (map f xs)
  in_map f x [] h = absurd h
  in_map f x (y ∷ ys) (inl e) = inl (ap f e)
  in_map f x (y ∷ ys) (inr h) = inr (in_map f x ys h)

  pub map_in : (f : A → B) (z : B) (xs : List A) → In z (map f xs) → (x : A) × In x xs × (f x ≡ z)
  map_in f z [] h = absurd h
  map_in f z (y ∷ ys) (inl e) = (y, inl refl, e)
  map_in f z (y ∷ ys) (inr h) = let r = map_in f z ys h in (r.0, inr r.1, r.2)

  -- what stands in lists joined, and back
  pub in_flat : (f : A → List B) (x : A) (z : B) (xs : List A) → In x xs → In z (f x) → In z (flat_map f xs)
  in_flat f x z [] h k = absurd h
  in_flat f x z (y ∷ ys) (inl e) k = in_left z (f y) (flat_map f ys) (subst (λ (w : A). In z (f w)) (sym e) k)
  in_flat f x z (y ∷ ys) (inr h) k = in_right z (f y) (flat_map f ys) (in_flat f x z ys h k)

  pub flat_in : (f : A → List B) (z : B) (xs : List A) → In z (flat_map f xs) → (x : A) × In x xs × In z (f x)
  flat_in f z [] h = absurd h
  flat_in f z (y ∷ ys) h = elim (in_either z (f y) (flat_map f ys) h) as (λ _. (x : A) × In x (y ∷ ys) × In z (f x)) [
    | inl k ↦ (y, inl refl, k)
    | inr k ↦ let r = flat_in f z ys k in (r.0, inr r.1, r.2)
  ]

-- to stand in a list of numbers, as a fact and as a test
pub stands : (xs : List ℕ) (x : ℕ) → In x xs → stands_in xs x ≡ true
stands [] x h = absurd h
stands (y ∷ ys) x (inl e) = or_left (y == x) (stands_in ys x) (eq-eqb y x e)
stands (y ∷ ys) x (inr h) = or_right (y == x) (stands_in ys x) (stands ys x h)

pub in_standing : (xs : List ℕ) (x : ℕ) → stands_in xs x ≡ true → In x xs
in_standing [] x e = absurd (true≢false (sym e))
in_standing (y ∷ ys) x e = elim (or_cases (y == x) (stands_in ys x) e) as (λ _. In x (y ∷ ys)) [
  | inl t ↦ inl (eqb-true y x t)
  | inr t ↦ inr (in_standing ys x t)
]

pub not_standing : (xs : List ℕ) (x : ℕ) → (In x xs → ⊥) → stands_in xs x ≡ false
not_standing xs x f = elim (stands_in xs x) as (λ b. stands_in xs x ≡ b → b ≡ false)
    [ true ↦ λ e. absurd (f (in_standing xs x e)) | false ↦ λ e. refl ] refl

-- whether a number stands in a list
pub in_or_not : (xs : List ℕ) (x : ℕ) → In x xs ⊎ (In x xs → ⊥)
in_or_not xs x = elim (stands_in xs x) as (λ b. stands_in xs x ≡ b → In x xs ⊎ (In x xs → ⊥)) [
  | true ↦ λ e. inl (in_standing xs x e)
  | false ↦ λ e. inr (λ h. true≢false (sym (stands xs x h) ∙ e))
] refl

-- the first places hold the same numbers, each once
pub in_firsts : (x : ℕ) (xs : List ℕ) → In x xs → In x (firsts_of xs)
in_firsts x [] h = h
in_firsts x (y ∷ ys) (inl e) = inl e
in_firsts x (y ∷ ys) (inr h) = elim (cases_eq y x) as (λ _. In x (firsts_of (y ∷ ys))) [
  | inl e ↦ inl e
  | inr ne ↦ inr (in_filter (λ (z : ℕ). not (z == y)) x (firsts_of ys) (in_firsts x ys h)
      (ap not (ne_eqb x y (λ e. ne (sym e)))))
]

pub firsts_in : (x : ℕ) (xs : List ℕ) → In x (firsts_of xs) → In x xs
firsts_in x [] h = h
firsts_in x (y ∷ ys) (inl e) = inl e
firsts_in x (y ∷ ys) (inr h) = inr (firsts_in x ys (filter_in (λ (z : ℕ). not (z == y)) x (firsts_of ys) h).0)

pub once_firsts : (xs : List ℕ) → Once (firsts_of xs)
once_firsts [] = tt
once_firsts (y ∷ ys) = (
  λ h. true≢false (sym (filter_in (λ (z : ℕ). not (z == y)) y (firsts_of ys) h).1 ∙ ap not (eq-eqb y y refl)),
  once_filter (λ (z : ℕ). not (z == y)) (firsts_of ys) (once_firsts ys),
)

-- no more numbers, each once, stand in a list than in a set that has them all
pub few : (s : set.FinSet nat_cmp) (xs : List ℕ) → Once xs → ((x : ℕ) → In x xs → set.contains s x ≡ true)
    → length xs ≤ set.len s
few s [] f all = omega arith
few s (x ∷ xs) f all =
    let there : set.contains s x ≡ true = all x (inl refl) in
    let later = few (set.remove s x) xs f.1 (λ y h. left y h) in
    let shorter : set.len (set.remove s x) ≡ set.len s - 1 = set.len-remove nat_cmp_total s x ∙ ap
    (λ (b : Bool). cond b (set.len s - 1) (set.len s)) there in
    let some : set.len s ≢ 0 = λ e. true≢false (sym there ∙ ap (λ (t : set.FinSet nat_cmp). set.contains t x)
    (set.empty_of_len s e) ∙ set.contains-empty nat_cmp x) in
    omega (arith, later, shorter, some)
  where
    left : (y : ℕ) → In y xs → set.contains (set.remove s x) y ≡ true
    left y h =
        let ne : y ≢ x = λ e. f.0 (subst (λ (z : ℕ). In z xs) e h) in
        set.contains-remove nat_cmp_total s x y ∙ ap (λ (b : Bool). not b && set.contains s y)
        (unsigned_tied y x ∙ ne_eqb y x ne) ∙ all y (inr h)
