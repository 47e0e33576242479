-- Out-neighbours stand by rising key, and a path runs over keys.
use Rattle.std.proofs.Common.{◌≡◌, ℕ, zero, suc, ◌+◌, ◌<◌, ◌==◌, Bool, true, false, cond, T, inl, inr, List, [], ◌∷◌}
use Rattle.std.proofs.Common.{filter_map, Some, None, is_some, refl, sym, ap, ◌∙◌, subst, arith}
use Rattle.std.proofs.lemmas.Bool.{true≢false, eqb-true, and_parts}
use Rattle.std.specs.List.{cons_option}
use Rattle.std.specs.List.Sorted.{IsStrictlyIncreasing}
use Rattle.std.specs.declared.cmp.Ordering.{Ordering}
use Rattle.std.specs.declared.cmp.Ordering.TheVariants.{Less, Equal, Greater}
use Rattle.std.specs.Ordering.{nat_cmp, is_lt, ordering_then}
use Rattle.std.specs.Cmp.{nat_cmp_total, tied_itself, ranked}
use Rattle.std.specs.FinMap as map
use Rattle.std.specs.FinMap.Entries.{below_all, is_sorted}
use Rattle.graph_kinds.specs.Graph.{Graph, IsGraph, pair_cmp, has, weight_of, neighbour_by, neighbours}
use Rattle.graph_kinds.specs.Path.{IsPath}
use Rattle.graph_kinds.specs.Levels.{stands_in}
use Rattle.graph_kinds.proofs.PathsLists.{In, stands, in_standing, not_standing}
use Rattle.graph_kinds.proofs.PathsWalks.{in_neighbours, neighbours_in, path_keys}

-- a neighbour is a key to which a pair leads
pub neighbours_law : (g : Graph) (x y : ℕ) → stands_in (neighbours g x) y ≡ is_some (weight_of g x y)
neighbours_law g x y = elim (is_some (weight_of g x y)) as (λ b. is_some (weight_of g x y) ≡ b → stands_in
    (neighbours g x) y ≡ b) [
      | true ↦ λ e. stands (neighbours g x) y (in_neighbours g x y e)
      | false ↦ λ e. not_standing (neighbours g x) y (λ h. true≢false (sym (neighbours_in g x y h) ∙ e))
    ] refl

-- each number is below those after it
abbrev pub IsAscending : List ℕ → Type 0
IsAscending [] = Unit {0}
IsAscending (y ∷ ys) = ((z : ℕ) → In z ys → y < z) × IsAscending ys

-- so each is below the next
pub rises_next : (xs : List ℕ) → IsAscending xs → IsStrictlyIncreasing xs
rises_next [] r k h = absurd (omega arith)
rises_next (x ∷ []) r k h = absurd (omega arith)
rises_next (x ∷ y ∷ ys) r zero h = r.0 y (inl refl)
rises_next (x ∷ y ∷ ys) r (suc k) h = let e : suc k + 1 ≡ suc (k + 1) = omega arith in rw e
    (rises_next (y ∷ ys) r.1 k (omega arith))

-- two rising lists of the same numbers are one
pub same_rising : (xs ys : List ℕ) → IsAscending xs → IsAscending ys → ((z : ℕ) → In z xs → In z ys) →
    ((z : ℕ) → In z ys → In z xs)
    → xs ≡ ys
same_rising [] [] r s f k = refl
same_rising [] (y ∷ ys) r s f k = absurd (k y (inl refl))
same_rising (x ∷ xs) [] r s f k = absurd (f x (inl refl))
same_rising (x ∷ xs) (y ∷ ys) r s f k =
    let same : x ≡ y = elim (f x (inl refl)) as (λ _. x ≡ y) [
      | inl e ↦ sym e
      | inr h ↦ elim (k y (inl refl)) as (λ _. x ≡ y) [ inl e ↦ e | inr i ↦ absurd (omega (arith, s.0 x h, r.0 y i)) ]
    ] in
    let rest = same_rising xs ys r.1 s.1 (λ z h. later z (r.0 z h) (f z (inr h)) same)
    (λ z h. sooner z (s.0 z h) (k z (inr h)) same) in
    λ i. same i ∷ rest i
  where
    later : (z : ℕ) → x < z → In z (y ∷ ys) → x ≡ y → In z ys
    later z lt (inl e) same = absurd (omega arith)
    later z lt (inr h) same = h

    sooner : (z : ℕ) → y < z → In z (x ∷ xs) → x ≡ y → In z xs
    sooner z lt (inl e) same = absurd (omega arith)
    sooner z lt (inr h) same = h

-- the two ways to say that a test is true
pub bool_true : (b : Bool) → T b → b ≡ true
bool_true true h = refl
bool_true false h = absurd h

-- pairs in order with one first key have their second keys in order
less_second : (x y : ℕ) (p : ℕ × ℕ) → is_lt (pair_cmp (x, y) p) ≡ true → p.0 ≡ x → y < p.1
less_second x y p lt same = below (nat_cmp y p.1) refl (sym (ap
    (λ (r : Ordering). is_lt (ordering_then r (nat_cmp y p.1))) tie) ∙ lt)
  where
    tie : nat_cmp x p.0 ≡ Equal
    tie = ap (nat_cmp x) same ∙ tied_itself nat_cmp_total x

    below : (r : Ordering) → nat_cmp y p.1 ≡ r → is_lt r ≡ true → y < p.1
    below Less e t = ranked y p.1 Less (sym e)
    below Equal e t = absurd (true≢false (sym t))
    below Greater e t = absurd (true≢false (sym t))

-- the neighbours behind a pair are above its second key
above : (x y z : ℕ) (es : List ((ℕ × ℕ) × ℕ)) → T (below_all pair_cmp (x, y) es) → In z (filter_map (neighbour_by x) es)
    → y < z
above x y z [] b h = absurd h
above x y z (e ∷ es) b h =
    let parts = and_parts (is_lt (pair_cmp (x, y) e.0)) (below_all pair_cmp (x, y) es) (bool_true _ b) in
    let later = above x y z es (subst T (sym parts.1) tt) in
    elim (e.0.0 == x) as (λ c. (e.0.0 == x) ≡ c → In z (cons_option (cond c (Some e.0.1) None)
    (filter_map (neighbour_by x) es)) → y < z) [
      | true ↦ λ t k. elim k as (λ _. y < z) [
        | inl same ↦ let lt = less_second x y e.0 parts.0 (eqb-true e.0.0 x t) in omega (arith, lt, same)
        | inr l ↦ later l
      ]
      | false ↦ λ t k. later k
    ] refl h

-- the second keys of the pairs with one first key rise
rising : (x : ℕ) (es : List ((ℕ × ℕ) × ℕ)) → T (is_sorted pair_cmp es) → IsAscending (filter_map (neighbour_by x) es)
rising x [] s = tt
rising x (e ∷ es) s =
    let parts = and_parts (below_all pair_cmp e.0 es) (is_sorted pair_cmp es) (bool_true _ s) in
    let later = rising x es (subst T (sym parts.1) tt) in
    elim (e.0.0 == x) as (λ c. (e.0.0 == x) ≡ c → IsAscending (cons_option (cond c (Some e.0.1) None)
    (filter_map (neighbour_by x) es))) [
      | true ↦ λ t. (
        λ z h. above x e.0.1 z es (subst T (sym (ap (λ (u : ℕ). below_all pair_cmp (u, e.0.1) es)
            (sym (eqb-true e.0.0 x t)) ∙ parts.0)) tt) h,
        later,
      )
      | false ↦ λ t. later
    ] refl

-- so the neighbours of a key rise
pub neighbours_rise : (g : Graph) (x : ℕ) → IsAscending (neighbours g x)
neighbours_rise g x = rising x (map.entries g.pairs) (map.entries_sorted g.pairs)

pub rising_law : (g : Graph) (x : ℕ) → IsStrictlyIncreasing (neighbours g x)
rising_law g x = rises_next (neighbours g x) (neighbours_rise g x)

-- a path runs over keys
pub keys_law : (g : Graph) (a b : ℕ) (p : List ℕ) → IsGraph g → IsPath g a b p → (x : ℕ) → stands_in p x ≡ true
    → has g x ≡ true
keys_law g a b p is h x s = path_keys g a b p is h x (in_standing p x s)
