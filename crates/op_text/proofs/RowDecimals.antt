-- Numerals are decimal texts.
use Rattle.std.proofs.Common.{◌≡◌, ◌≢◌, ℕ, ◌^◌, ◌<◌, ◌∙◌, ◌↔◌, sym, ap, refl, inl, inr, Bool, true, false, ◌&&◌, leb}
use Rattle.std.proofs.Common.{cond, List, [], ◌∷◌, length, get_or, Some, None, arith}
use Rattle.std.specs.Char.{is_ascii_digit}
use Rattle.std.specs.Fmt.{decimal}
use Rattle.std.specs.List.{list_all}
use Rattle.std.specs.Str.{all_ascii_digits}
use Rattle.std.specs.Str.Parse.{digits_value}
use Rattle.std.proofs.lemmas.Bool.{and_parts, cases_eq, eqb-false, leb-true, not-true}
use Rattle.std.proofs.lemmas.Fmt.{decimal-digits_value, decimal_digit, decimal_is_IsNumeral, digits_decimal}
use Rattle.std.proofs.lemmas.Fmt.{first_decimal}
use Rattle.std.proofs.lemmas.Str.Parse.{IsNumeralModel, numerals_by_value, tells_all_ascii_digits}
use Rattle.op_text.specs.Rows.{is_numeral, number_of}
use Rattle.op_text.proofs.RowNumbers.{number_of_digits}

pub model : IsNumeralModel (λ ds. all_ascii_digits ds ≡ true) (digits_value 10)
model = numerals_by_value (λ ds. all_ascii_digits ds ≡ true) tells_all_ascii_digits

pub all_ascii_digits_is : (ds : List ℕ) → all_ascii_digits ds ≡ list_all is_ascii_digit ds
all_ascii_digits_is [] = refl
all_ascii_digits_is (d ∷ ds) = ap (λ b. is_ascii_digit d && b) (all_ascii_digits_is ds)

-- what a numeral is made of
numeral_digits : (field : List ℕ) → is_numeral field ≡ true → list_all is_ascii_digit field ≡ true
numeral_digits [] h = refl
numeral_digits (d ∷ []) h = rw h refl
numeral_digits (d ∷ e ∷ ds) h = (and_parts _ _ h).1

numeral_some : (field : List ℕ) → is_numeral field ≡ true → 0 < length field
numeral_some [] h = cc
numeral_some (d ∷ ds) h = omega arith

numeral_first : (field : List ℕ) → is_numeral field ≡ true → get_or field 0 0 ≡ 48 → length field ≡ 1
numeral_first [] h first = cc
numeral_first (d ∷ []) h first = refl
numeral_first (d ∷ e ∷ ds) h first = absurd (eqb-false d 48 (not-true _ (and_parts _ _ h).0) first)

chosen_some : (b : Bool) (v n : ℕ) → cond b (Some v) None ≡ Some n → (b ≡ true) × (v ≡ n)
chosen_some true v n e = (refl, cc)
chosen_some false v n e = cc

-- the number that a field writes has the field as its decimal text
number_of_is : (field : List ℕ) (n : ℕ) → number_of field ≡ Some n → (field ≡ decimal n) × (n < 2 ^ 32)
number_of_is field n e =
    let (tests, value) = chosen_some (is_numeral field && leb (digits_value 10 field) 4294967295)
    (digits_value 10 field) n e in
    let (numeral, fits) = and_parts (is_numeral field) (leb (digits_value 10 field) 4294967295) tests in
    let small = leb-true (digits_value 10 field) 4294967295 fits in
    let text = decimal-digits_value model field (all_ascii_digits_is field ∙ numeral_digits field numeral)
    (numeral_some field numeral) (numeral_first field numeral) (omega arith) in
    (sym text ∙ ap decimal value, omega arith)

pub decimal_first : (n : ℕ) → n < 2 ^ 64 → 1 < length (decimal n) → get_or (decimal n) 0 0 ≢ 48
decimal_first n small long same =
    elim (cases_eq n 0) [
      | inl zero ↦ omega (arith, ap length (ap decimal zero ∙ decimal_digit 0 (omega arith)))
      | inr some ↦ omega (arith, first_decimal n (omega arith) small)
    ]

-- the decimal text of a number below 2^32 writes it
pub number_of-decimal : (n : ℕ) → n < 2 ^ 32 → number_of (decimal n) ≡ Some n
number_of-decimal n small =
    let (numeral, value) = decimal_is_IsNumeral n (omega arith) in
    let digits = sym (all_ascii_digits_is (decimal n)) ∙ digits_decimal model n (omega arith) in
    number_of_digits (decimal n) numeral.0 (decimal_first n (omega arith)) digits (omega arith) ∙ ap Some value

-- both ways
pub number_of_decimals : (field : List ℕ) (n : ℕ) → (number_of field ≡ Some n) ↔ ((field ≡ decimal n) × (n < 2 ^ 32))
number_of_decimals field n = (number_of_is field n, λ h. ap number_of h.0 ∙ number_of-decimal n h.1)
