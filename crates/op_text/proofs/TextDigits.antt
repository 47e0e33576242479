-- Digits that are put before those that stand.
use Rattle.std.proofs.Common.{◌≡◌, ℕ, ◌+◌, ◌-◌, ◌/◌, ◌%◌, ◌<◌, ◌≤◌, ◌^◌, List, [], ◌∷◌, ◌++◌, length, drop, sym, ap}
use Rattle.std.proofs.Common.{◌∙◌, arith, append_assoc, length-append}
use Rattle.std.proofs.Math.ListN.{set}
use Rattle.std.proofs.lemmas.List.{drop-set}
use Rattle.std.proofs.lemmas.Fmt.{decimal_digit, decimal_step}
use Rattle.std.specs.Fmt.{decimal}

-- one digit before those behind `start`
pub drop-digit : (out : List ℕ) (start d : ℕ) → 0 < start → start ≤ length out → drop (start - 1)
    (set out (start - 1) d) ≡ d ∷ drop start out
drop-digit out start d some inside =
    let inside' : start - 1 < length out = omega arith in
    let next : start - 1 + 1 ≡ start = omega arith in
    drop-set out (start - 1) d inside' ∙ ap (λ (k : ℕ). d ∷ drop k out) next

-- the last digit goes before those that stand
pub decimal-last : (n start : ℕ) (out whole : List ℕ) → 10 ≤ n → n < 2 ^ 64 → 0 < start → start ≤ length out
    → decimal n ++ drop start out ≡ whole
    → decimal (n / 10) ++ drop (start - 1) (set out (start - 1) (48 + n % 10)) ≡ whole
decimal-last n start out whole many small some inside is =
    let digit : List ℕ = (48 + n % 10) ∷ [] in
    ap (λ (ds : List ℕ). decimal (n / 10) ++ ds) (drop-digit out start (48 + n % 10) some inside)
    ∙ sym (append_assoc (decimal (n / 10)) digit (drop start out))
    ∙ ap (λ (ds : List ℕ). ds ++ drop start out) (sym (decimal_step n many small))
    ∙ is

-- the first digit
pub decimal-first : (n start : ℕ) (out whole : List ℕ) → n < 10 → 0 < start → start ≤ length out
    → decimal n ++ drop start out ≡ whole
    → drop (start - 1) (set out (start - 1) (48 + n)) ≡ whole
decimal-first n start out whole few some inside is =
    drop-digit out start (48 + n) some inside ∙ ap (λ (ds : List ℕ). ds ++ drop start out) (sym (decimal_digit n few))
    ∙ is

-- a number of more than one digit leaves room for one digit less
pub length-decimal-step : (n : ℕ) → 10 ≤ n → n < 2 ^ 64 → length (decimal n) ≡ length (decimal (n / 10)) + 1
length-decimal-step n many small = ap length (decimal_step n many small) ∙ length-append (decimal (n / 10))
    ((48 + n % 10) ∷ [])
