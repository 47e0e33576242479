use Rattle.std.proofs.Common.{rules, ◌≢◌, ◌+◌, ◌<◌, ◌∙◌, ap, sym, arith, length, get_or, Some}
use Rattle.std.proofs.lemmas.Bool.{and_from, eqb-false, false≢true}
use Rattle.std.proofs.lemmas.List.{take_all}
use Rattle.std.proofs.lemmas.List.Folds.{list_all_more}
use Rattle.std.specs.Char.{is_ascii_digit}
use Rattle.std.specs.List.{list_all}
use Rattle.std.specs.Str.Parse.{digits_value}
use Rattle.op_text.proofs.RowNumbers.{digits_value_digit, number_of_digits, number_of_large}
use Rattle.op_text.proofs.rows.numeral.number.Goals as goal

-- one more digit makes the value too large
pub returns-in_err-checked_mul : goal.returns-in_err-checked_mul
returns-in_err-checked_mul c =
    let more = digits_value_digit c.args.field.now c.loop-byte.byte-index c.loop-byte-test.true
    c.if-not-is_ascii_digit.ensures.cases in
    c.from_residual.ensures ∙ sym (number_of_large c.args.field.now (c.loop-byte.byte-index + 1)
    (omega (arith, c.in_err-checked_mul.ensures)))

pub returns-in_err-value : goal.returns-in_err-value
returns-in_err-value c =
    let more = digits_value_digit c.args.field.now c.loop-byte.byte-index c.loop-byte-test.true
    c.if-not-is_ascii_digit.ensures.cases in
    c.from_residual-in_err-value.ensures
    ∙ sym (number_of_large c.args.field.now (c.loop-byte.byte-index + 1)
    (omega (arith, c.in_ok-checked_mul.ensures, c.in_err-value.ensures)))

pub loop-byte-preserved : goal.loop-byte-preserved
loop-byte-preserved c =
    let more = digits_value_digit c.args.field.now c.loop-byte.byte-index c.loop-byte-test.true
    c.if-not-is_ascii_digit.ensures.cases in
    record {
      digits = list_all_more is_ascii_digit c.args.field.now c.loop-byte.byte-index 0 c.loop-byte-test.true
          ∙ and_from _ _ c.loop-byte.invariant.digits (search rules);
      value = omega (arith, c.in_ok-checked_mul.ensures, c.in_ok-value.ensures);
      fits = omega (arith, c.in_ok-value.ensures);
    }

-- the whole field is read, and no zero stands in front of other digits
pub returns : goal.returns
returns c =
    let first : 1 < length c.args.field.now → get_or c.args.field.now 0 0 ≢ 48 = λ long zero. false≢true
    (c.if-has_leading_zero.ensures.1 (long, zero)) in
    let all = take_all c.loop-byte.byte-index c.args.field.now (omega arith) in
    let digits = ap (list_all is_ascii_digit) (sym all) ∙ c.loop-byte.invariant.digits in
    let value = ap (digits_value 10) (sym all) ∙ sym c.loop-byte.invariant.value in
    let some = eqb-false _ 0 (sym c.if-is_empty.ensures) in
    sym (number_of_digits c.args.field.now (omega arith) first digits (omega arith) ∙ ap Some value)
