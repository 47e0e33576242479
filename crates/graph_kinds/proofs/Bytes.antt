-- How bytes that are taken from a source and put into a sink add up.
use Rattle.std.proofs.Common.{◌≡◌, ℕ, ◌+◌, ◌-◌, ◌≤◌, inl, inr, List, [], ◌++◌, length, take, drop, refl, sym, ap, ◌∙◌}
use Rattle.std.proofs.Common.{subst, arith, append_assoc, append-nil, take_all, take-append-drop, drop-drop, take-add}
use Rattle.std.proofs.Common.{length-drop, length-take-le}
use Rattle.std.specs.Prelude.{Option, Some, None}
use Rattle.std.proofs.lemmas.List.{take-append-le}
use Rattle.graph_kinds.specs.Stream.{Rose, Puts, Takes}

-- nothing is put
pub puts-none : (a : Option (List ℕ)) → Puts a a []
puts-none None = refl
puts-none (Some xs) = ap (λ (l : List ℕ). Some l) (sym (append-nil xs))

-- what is put in two turns is put as one
pub puts-more : (a b c : Option (List ℕ)) (xs ys : List ℕ) → Puts a b xs → Puts b c ys → Puts a c (xs ++ ys)
puts-more None b c xs ys p q = subst (λ (x : Option (List ℕ)). Puts x c ys) p q
puts-more (Some l) b c xs ys p q =
    let h : c ≡ Some ((l ++ xs) ++ ys) = subst (λ (x : Option (List ℕ)). Puts x c ys) p q in
    h ∙ ap (λ (m : List ℕ). Some m) (append_assoc l xs ys)

-- nothing is taken
pub takes-none : (a : Option (List ℕ)) → Takes a a []
takes-none None = refl
takes-none (Some xs) = (xs, refl, refl)

-- a count that rose in the second turn rose in both
pub rose-since : (a b c : ℕ) → a ≤ b → Rose b c → Rose a c
rose-since a b c h (inl lt) = inl (omega arith)
rose-since a b c h (inr e) = inr e

-- a piece that was copied to the front of a buffer
pub take-copied : (at n : ℕ) (bytes piece into : List ℕ) → at + n ≤ length bytes → piece ≡ take n (drop at bytes)
    → drop at bytes ≡ take n (piece ++ drop n into) ++ drop (at + n) bytes
take-copied at n bytes piece into fits is =
    let room : n ≤ length (drop at bytes) = omega (arith, length-drop at bytes) in
    let n_is : length piece ≡ n = ap length is ∙ length-take-le n (drop at bytes) room in
    let front : take n (piece ++ drop n into) ≡ piece = take-append-le n piece (drop n into) (omega arith)
    ∙ take_all n piece (omega arith) in
    rw (front, is, ← drop-drop n at bytes) (sym (take-append-drop n (drop at bytes)))

-- a piece of n bytes put behind the first done bytes of a text
pub puts-step : (a b c : Option (List ℕ)) (done n : ℕ) (from : List ℕ) → Puts a b (take done from) → Puts b c
    (take n (take (length from - done) (drop done from))) → Puts a c (take (done + n) from)
puts-step a b c done n from p q =
    let whole : take (length from - done) (drop done from) ≡ drop done from = take_all (length from - done)
    (drop done from) (omega (arith, length-drop done from)) in
    rw (take-add done n from) (puts-more a b c (take done from) (take n (drop done from)) p (rw whole at q))
