-- Facts on lists of retired nodes: which indices stand there, and what holds of each.
use Rattle.std.proofs.Common.{◌≡◌, ◌≢◌, ◌==◌, ◌||◌, ℕ, Bool, true, false, List, [], ◌∷◌, ◌++◌, map, refl, sym, ap}
use Rattle.std.proofs.Common.{subst, eq-eqb, arith}
use Rattle.std.proofs.lemmas.List.{map-append}
use Rattle.std.specs.List.{list_any}
use Rattle.std.specs.Prelude.{Contains, zero, suc}
use Rattle.graph_kinds.specs.Levels.{stands_in}
use Rattle.graph_kinds.specs.History.{Every}
use Rattle.graph_table.specs.Tokens.{RipeValue}
use Rattle.epoch_limbo.specs.Limbos.{IsOut, index_in}
use Rattle.graph_updates.specs.Burying.{IsIn}

true_or : (b c : Bool) → c ≡ true → (b || c) ≡ true
true_or true c h = refl
true_or false c h = h

-- a number stands in a list with more behind it, or before it
pub among_left : (xs ys : List ℕ) (y : ℕ) → stands_in xs y ≡ true → stands_in (xs ++ ys) y ≡ true
among_left [] ys y h = absurd (cc)
among_left (x ∷ xs) ys y h = by (x == y) (among_left xs ys y) h
  where
    by : (b : Bool) → (stands_in xs y ≡ true → stands_in (xs ++ ys) y ≡ true) → (b || stands_in xs y) ≡ true →
        (b || stands_in (xs ++ ys) y) ≡ true
    by true rec h = refl
    by false rec h = rec h

pub among_right : (xs ys : List ℕ) (y : ℕ) → stands_in ys y ≡ true → stands_in (xs ++ ys) y ≡ true
among_right [] ys y h = h
among_right (x ∷ xs) ys y h = true_or (x == y) (list_any (λ (z : ℕ). z == y) (xs ++ ys)) (among_right xs ys y h)

pub among_first : (ys : List ℕ) (y : ℕ) → stands_in (y ∷ ys) y ≡ true
among_first ys y = ap (λ (b : Bool). b || list_any (λ (z : ℕ). z == y) ys) (eq-eqb y y refl)

-- what a list contains stands there
pub contains_among : (ys : List ℕ) (y : ℕ) → Contains ys y → stands_in ys y ≡ true
contains_among [] y c = absurd (let low = c.1 in omega (arith, low))
contains_among (x ∷ xs) y (zero, low, at) = subst (λ (z : ℕ). stands_in (z ∷ xs) y ≡ true) (sym at) (among_first xs y)
contains_among (x ∷ xs) y (suc k, low, at) = true_or (x == y) (list_any (λ (z : ℕ). z == y) xs)
    (contains_among xs y (k, omega (arith, low), at))

-- the same of the nodes of a limbo
pub in_left : (rs ss : List RipeValue) (y : ℕ) → IsIn rs y → IsIn (rs ++ ss) y
in_left rs ss y h = subst (λ (l : List ℕ). stands_in l y ≡ true) (sym (map-append index_in rs ss))
    (among_left (map index_in rs) (map index_in ss) y h)

pub in_right : (rs ss : List RipeValue) (y : ℕ) → IsIn ss y → IsIn (rs ++ ss) y
in_right rs ss y h = subst (λ (l : List ℕ). stands_in l y ≡ true) (sym (map-append index_in rs ss))
    (among_right (map index_in rs) (map index_in ss) y h)

-- what holds of each of one list and of another holds of each of both
pub every_both : {A : Type 0} (P : A → Type 0) (xs ys : List A) → Every P xs → Every P ys → Every P (xs ++ ys)
every_both P [] ys h k = k
every_both P (x ∷ xs) ys h k = (h.0, every_both P xs ys h.1 k)

pub every_map : {A : Type 0} (P Q : A → Type 0) → ((x : A) → P x → Q x) → (xs : List A) → Every P xs → Every Q xs
every_map P Q f [] h = tt
every_map P Q f (x ∷ xs) h = (f x h.0, every_map P Q f xs h.1)

-- a node is out of a limbo where its index isn't one of the limbo's
pub out_of : (x : ℕ) (rs : List RipeValue) → Every (λ (y : ℕ). y ≢ x) (map index_in rs) → IsOut x rs
out_of x [] h = tt
out_of x (r ∷ rs) h = (h.0, out_of x rs h.1)
