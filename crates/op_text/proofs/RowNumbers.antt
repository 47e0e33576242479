-- What a field writes, by its bytes so far.
use Rattle.std.proofs.Common.{◌≡◌, ◌≢◌, ℕ, ◌+◌, ◌-◌, ◌*◌, ◌<◌, ◌≤◌, ◌∙◌, sym, ap, true, false, not, ◌&&◌, eqb, List, []}
use Rattle.std.proofs.Common.{◌∷◌, take, length, get_or, Some, None, arith}
use Rattle.std.proofs.lemmas.Bool.{and_from, and_left, and_parts, and_right, lt-leb, le-leb, ne_eqb, cond-true}
use Rattle.std.proofs.lemmas.Bool.{cond-false, not_from_false}
use Rattle.std.proofs.lemmas.Int.Digits.{digits_value_more}
use Rattle.std.proofs.lemmas.Str.{digit_value_digit}
use Rattle.std.proofs.lemmas.Str.Parse.{digits_value-take-le}
use Rattle.std.specs.Char.{is_ascii_digit}
use Rattle.std.specs.Int.{IsInRange}
use Rattle.std.specs.List.{list_all}
use Rattle.std.specs.Str.Parse.{digits_value}
use Rattle.op_text.specs.Rows.{is_numeral, number_of}

-- digits without a zero in front of others are a numeral
pub is_numeral_digits : (field : List ℕ) → 0 < length field → (1 < length field → get_or field 0 0 ≢ 48)
    → list_all is_ascii_digit field ≡ true → is_numeral field ≡ true
is_numeral_digits [] some first all = absurd (omega arith)
is_numeral_digits (d ∷ []) some first all = (and_parts (is_ascii_digit d) true all).0
is_numeral_digits (d ∷ e ∷ ds) some first all = and_from _ _ (not_from_false _ (ne_eqb d 48 (first (omega arith)))) all

-- a numeral has digits only
pub is_numeral_other : (field : List ℕ) → list_all is_ascii_digit field ≡ false → is_numeral field ≡ false
is_numeral_other [] other = cc
is_numeral_other (d ∷ []) other = sym (and_true (is_ascii_digit d)) ∙ other
  where
    and_true : (b : _) → (b && true) ≡ b
    and_true b = grind arith
is_numeral_other (d ∷ e ∷ ds) other = and_right (not (eqb d 48)) _ other

-- a field with another byte than digits writes no number
pub number_of_other : (field : List ℕ) → list_all is_ascii_digit field ≡ false → number_of field ≡ None
number_of_other field other = cond-false _ _ _ (and_left _ _ (is_numeral_other field other))

-- nor one whose first bytes write too large a number
pub number_of_large : (field : List ℕ) (i : ℕ) → 4294967296 ≤ digits_value 10 (take i field) → number_of field ≡ None
number_of_large field i large =
    let front = digits_value-take-le 10 field i (omega arith) in
    cond-false _ _ _ (and_right (is_numeral field) _ (lt-leb _ _ (omega arith)))

-- digits without a zero in front of others write their value
pub number_of_digits : (field : List ℕ) → 0 < length field → (1 < length field → get_or field 0 0 ≢ 48)
    → list_all is_ascii_digit field ≡ true → digits_value 10 field ≤ 4294967295
    → number_of field ≡ Some (digits_value 10 field)
number_of_digits field some first all small = cond-true _ _ _
    (and_from _ _ (is_numeral_digits field some first all) (le-leb _ _ small))

-- one more digit
pub digits_value_digit : (field : List ℕ) (i : ℕ) → i < length field → IsInRange 48 57 (get_or field i 0)
    → digits_value 10 (take (i + 1) field) ≡ digits_value 10 (take i field) * 10 + (get_or field i 0 - 48)
digits_value_digit field i below digit =
    let value = digit_value_digit (get_or field i 0) digit in
    digits_value_more 10 field i below ∙ ap (λ d. digits_value 10 (take i field) * 10 + d) (omega arith)
