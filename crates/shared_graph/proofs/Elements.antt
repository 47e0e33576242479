-- The elements of lists that are put together, and lists whose elements differ.
use Rattle.std.proofs.Common.{◌≡◌, ◌≢◌, ◌⊎◌, ℕ, ◌<◌, ◌≤◌, ◌||◌, true, false, List, [], ◌∷◌, ◌++◌}
use Rattle.std.proofs.Common.{length, refl, sym, ap, ◌∙◌, subst, inl, inr, ⊎_elim, eqb, ne_eqb}
use Rattle.std.specs.Prelude.{AllPairs, Contains, flat_map}
use Rattle.std.specs.List.{AllByRecursion, IsDistinct, list_any}
use Rattle.std.proofs.lemmas.Map.Steps.{length-le_from_distinct_below}
use mathlib.Core.Logic.{dite}
use native.Mathlib.Decide.{ℕ_discrete}
use Rattle.graph_kinds.specs.History.{Every}
use Rattle.core_epoch.proofs.Lists.{contains_none, contains_cases, contains_first, contains_later, once_first}
use Rattle.core_epoch.proofs.Lists.{once_rest}

module _ {A : Type 0} where
  -- y is an element
  abbrev pub IsIn : List A → A → Type 0
  IsIn [] y = ⊥
  IsIn (x ∷ xs) y = (x ≡ y) ⊎ IsIn xs y

  pub in_left : (xs ys : List A) (y : A) → IsIn xs y → IsIn (xs ++ ys) y
  in_left [] ys y h = absurd h
  in_left (x ∷ xs) ys y h = ⊎_elim (λ (e : x ≡ y). inl e) (λ (t : IsIn xs y). inr (in_left xs ys y t)) h

  pub in_right : (xs ys : List A) (y : A) → IsIn ys y → IsIn (xs ++ ys) y
  in_right [] ys y h = h
  in_right (x ∷ xs) ys y h = inr (in_right xs ys y h)

  pub in_parts : (xs ys : List A) (y : A) → IsIn (xs ++ ys) y → IsIn xs y ⊎ IsIn ys y
  in_parts [] ys y h = inr h
  in_parts (x ∷ xs) ys y h = ⊎_elim (λ (e : x ≡ y). inl (inl e))
      (λ (t : IsIn (xs ++ ys) y). ⊎_elim (λ (l : IsIn xs y). inl (inr l)) (λ (r : IsIn ys y). inr r)
      (in_parts xs ys y t)) h

  -- a fact of all elements
  pub each_in : (P : A → Type 0) (xs : List A) → ((x : A) → IsIn xs x → P x) → Every P xs
  each_in P [] all = tt
  each_in P (x ∷ xs) all = (all x (inl refl), each_in P xs (λ y h. all y (inr h)))

  pub in_each : (P : A → Type 0) (xs : List A) → Every P xs → (x : A) → IsIn xs x → P x
  in_each P [] all x h = absurd h
  in_each P (y ∷ xs) all x h = ⊎_elim (λ (e : y ≡ x). subst P e all.0) (λ (t : IsIn xs x). in_each P xs all.1 x t) h

  pub each_append : (P : A → Type 0) (xs ys : List A) → Every P xs → Every P ys → Every P (xs ++ ys)
  each_append P [] ys a b = b
  each_append P (x ∷ xs) ys a b = (a.0, each_append P xs ys a.1 b)

module _ {X A : Type 0} (f : X → List A) where
  pub in_flat : (xs : List X) (x : X) (y : A) → IsIn xs x → IsIn (f x) y → IsIn (flat_map f xs) y
  in_flat [] x y h g = absurd h
  in_flat (z ∷ xs) x y h g = ⊎_elim
      (λ (e : z ≡ x). in_left (f z) (flat_map f xs) y (subst (λ (w : X). IsIn (f w) y) (sym e) g))
      (λ (t : IsIn xs x). in_right (f z) (flat_map f xs) y (in_flat xs x y t g)) h

  -- an element of such a list comes from an element
  pub record ComesOf (xs : List X) (y : A) : Type 0 where
    pub of : X
    pub there : IsIn xs of
    pub gives : IsIn (f of) y

  pub of_flat : (xs : List X) (y : A) → IsIn (flat_map f xs) y → ComesOf xs y
  of_flat [] y h = absurd h
  of_flat (x ∷ xs) y h = ⊎_elim (λ (l : IsIn (f x) y). record { of = x; there = inl refl; gives = l })
      (λ (r : IsIn (flat_map f xs) y). let c = of_flat xs y r in record {
        of = c.of;
        there = inr c.there;
        gives = c.gives;
      }) (in_parts (f x) (flat_map f xs) y h)

module _ {A : Type 0} (id : A → ℕ) where
  -- no two elements have one number
  abbrev pub Differ : List A → Type 0
  Differ [] = Unit {0}
  Differ (x ∷ xs) = ((y : A) → IsIn xs y → id x ≢ id y) × Differ xs

  pub differ_append : (xs ys : List A) → Differ xs → Differ ys
      → ((x y : A) → IsIn xs x → IsIn ys y → id x ≢ id y) → Differ (xs ++ ys)
  differ_append [] ys a b apart = b
  differ_append (x ∷ xs) ys a b apart = (
    λ y h. ⊎_elim (λ (l : IsIn xs y). a.0 y l) (λ (r : IsIn ys y). apart x y (inl refl) r) (in_parts xs ys y h),
    differ_append xs ys a.1 b (λ u y h g. apart u y (inr h) g),
  )

module _ {X A : Type 0} (f : X → List A) (id : A → ℕ) (name : X → ℕ) (owner : A → ℕ) where
  -- lists of owners that differ, one after another: the elements of each differ, and tell their owner
  pub differ_flat : ((a b : A) → id a ≡ id b → owner a ≡ owner b) → (xs : List X) → Differ name xs
      → ((x : X) → IsIn xs x → Differ id (f x)) → ((x : X) (y : A) → IsIn xs x → IsIn (f x) y → owner y ≡ name x)
      → Differ id (flat_map f xs)
  differ_flat tells [] d each owns = tt
  differ_flat tells (x ∷ xs) d each owns =
      differ_append id (f x) (flat_map f xs) (each x (inl refl))
      (differ_flat tells xs d.1 (λ z h. each z (inr h)) (λ z y h g. owns z y (inr h) g))
      (λ a b h g e.
      let c = of_flat f xs b g in
      d.0 c.of c.there (sym (owns x a (inl refl) h) ∙ (tells a b e ∙ owns c.of b (inr c.there) c.gives)))

-- numbers that differ are distinct
distinct : (xs : List ℕ) → Differ (λ x. x) xs → IsDistinct eqb xs
unfolding IsDistinct
distinct [] d = tt
distinct (x ∷ xs) d = (all xs (λ y h. ne_eqb x y (d.0 y h)), distinct xs d.1)
  where
    all : (ys : List ℕ) → ((y : ℕ) → IsIn ys y → eqb x y ≡ false) → AllByRecursion (λ y. eqb x y ≡ false) ys
    all [] h = tt
    all (y ∷ ys) h = (h y (inl refl), all ys (λ z g. h z (inr g)))

any_in : (q : ℕ) (xs : List ℕ) → list_any (eqb q) xs ≡ true → IsIn xs q
any_in q [] h = absurd (cc)
any_in q (x ∷ xs) h = dite (ℕ_discrete q x) (λ same. inl (sym same))
    (λ ne. inr (any_in q xs (ap (λ b. b || list_any (eqb q) xs) (sym (ne_eqb q x ne)) ∙ h)))

-- numbers below n that differ are at most n
pub few_below : (xs : List ℕ) (n : ℕ) → Differ (λ x. x) xs → ((y : ℕ) → IsIn xs y → y < n) → length xs ≤ n
few_below xs n d low = length-le_from_distinct_below xs n (distinct xs d) (λ q h. low q (any_in q xs h))

-- the same of lists of numbers as elsewhere
pub in_contains : (xs : List ℕ) (y : ℕ) → Contains xs y → IsIn xs y
in_contains [] y h = absurd (contains_none y h)
in_contains (x ∷ xs) y h = ⊎_elim (λ (e : x ≡ y). inl e) (λ (t : Contains xs y). inr (in_contains xs y t))
    (contains_cases y x xs h)

pub contains_in : (xs : List ℕ) (y : ℕ) → IsIn xs y → Contains xs y
contains_in [] y h = absurd h
contains_in (x ∷ xs) y h = ⊎_elim (λ (e : x ≡ y). contains_first y x xs e)
    (λ (t : IsIn xs y). contains_later y x xs (contains_in xs y t)) h

pub once_differ : (xs : List ℕ) → AllPairs ◌≢◌ xs → Differ (λ x. x) xs
once_differ [] once = tt
once_differ (x ∷ xs) once = (λ y h. once_first x xs once y (contains_in xs y h), once_differ xs (once_rest x xs once))
