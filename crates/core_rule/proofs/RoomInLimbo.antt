-- Nodes that are spent with a token and stand once in a list are at most as many as there are nodes.
use Rattle.std.proofs.Common.{◌≡◌, ◌≢◌, ℕ, ◌+◌, ◌<◌, ◌≤◌, ◌==◌, ◌||◌, Bool, true, false, List, [], ◌∷◌, length, refl}
use Rattle.std.proofs.Common.{ap, ap₂, arith, eq-eqb, ne_eqb}
use Rattle.graph_kinds.specs.History.{Every}
use Rattle.graph_kinds.specs.Levels.{stands_in}
use Rattle.core_kept.specs.Counts.{count_below}
use Rattle.core_kept.specs.Kept.{IsKept}
use Rattle.core_kept.specs.Nodes.{IsSpentWith}
use Rattle.core_kept.proofs.NodesInPlace.{used_there}
use Rattle.core_rule.specs.Retired.{AreApart}
use Rattle.core_rule.specs.declared.view.View.{View}
use Rattle.core_rule.proofs.SpentSince.{count_at_most, count_more}

not_in : (xs : List ℕ) (x : ℕ) → Every (λ y. y ≢ x) xs → stands_in xs x ≡ false
not_in [] x h = refl
not_in (y ∷ ys) x h = ap₂ (λ (a b : Bool). a || b) (ne_eqb y x h.0) (not_in ys x h.1)

here_in : (xs : List ℕ) (x : ℕ) → stands_in (x ∷ xs) x ≡ true
here_in xs x = ap (λ (b : Bool). b || stands_in xs x) (eq-eqb x x refl)

behind_in : (xs : List ℕ) (x y : ℕ) → stands_in xs y ≡ true → stands_in (x ∷ xs) y ≡ true
behind_in xs x y h = by (x == y)
  where
    by : (b : Bool) → (b || stands_in xs y) ≡ true
    by true = refl
    by false = h

-- so many numbers stand there
counted_in : (n : ℕ) (xs : List ℕ) → AreApart xs → Every (λ x. x < n) xs → length xs ≤ count_below (stands_in xs) n
counted_in n [] apart low = omega arith
counted_in n (x ∷ xs) apart low = omega (
  arith,
  counted_in n xs apart.1 low.1,
  count_more (stands_in xs)
      (stands_in (x ∷ xs)) n x low.0 (not_in xs x apart.0) (here_in xs x) (λ y _ h. behind_in xs x y h),
)

spent_there : (v : View) → IsKept v.sizes v.front → (xs : List ℕ) → Every
    (λ x. IsSpentWith v.sizes v.front v.number x) xs → Every (λ x. x < v.sizes.nodes) xs
spent_there v kept [] h = tt
spent_there v kept (x ∷ xs) h = (
  used_there v.sizes v.front x kept
      (λ e. let s = h.0.spent in absurd (cc)),
  spent_there v kept xs h.1,
)

pub spent_fit : (v : View) → IsKept v.sizes v.front → (xs : List ℕ) → AreApart xs → Every
    (λ x. IsSpentWith v.sizes v.front v.number x) xs → length xs ≤ v.sizes.nodes
spent_fit v kept xs apart spent = omega (
  arith,
  counted_in v.sizes.nodes xs apart
      (spent_there v kept xs spent),
  count_at_most (stands_in xs) v.sizes.nodes,
)

-- and where another node is spent with the token, there's room for it
pub room_for_one : (v : View) → IsKept v.sizes v.front → (xs : List ℕ) → AreApart xs → Every
    (λ x. IsSpentWith v.sizes v.front v.number x) xs → (x : ℕ) → IsSpentWith v.sizes v.front v.number x → Every
    (λ y. y ≢ x) xs → length xs + 1 ≤ v.sizes.nodes
room_for_one v kept xs apart spent x mine out = omega (arith, spent_fit v kept (x ∷ xs) (out, apart) (mine, spent))
