use Rattle.std.proofs.Common.{◌<◌, arith, ◌++◌, ap, ◌∙◌, append-nil, drop_of_length-le}
use Rattle.std.proofs.Math.ListN.{length-set}
use Rattle.std.specs.Fmt.{decimal}
use Rattle.std.proofs.lemmas.Fmt.{decimal_nonempty, length-decimal-le}
use Rattle.op_text.proofs.TextDigits.{decimal-last, decimal-first, length-decimal-step}
use Rattle.op_text.proofs.number.put_digits.Goals as goal

pub loop-rest-init : goal.loop-rest-init
loop-rest-init c = record {
  small = c.ranges.number.fits;
  inside = omega arith;
  fits = length-decimal-le 20 c.args.number (omega arith) (omega arith) (omega arith);
  whole = ap (λ ds. decimal c.args.number ++ ds) (drop_of_length-le c.args.digits.now {i = 20} (omega arith))
      ∙ append-nil (decimal c.args.number);
  room = c.told-digits;
}

pub overflow_sub-start : goal.overflow_sub-start
overflow_sub-start c = omega (arith, decimal_nonempty c.loop-rest.rest c.loop-rest.invariant.small)

pub overflow_sub-start-2 : goal.overflow_sub-start-2
overflow_sub-start-2 c = omega (arith, decimal_nonempty c.loop-rest.rest c.loop-rest.invariant.small)

pub loop-rest-preserved : goal.loop-rest-preserved
loop-rest-preserved c =
    let l = c.loop-rest.invariant in
    let some : 0 < c.loop-rest.start = omega (arith, decimal_nonempty c.loop-rest.rest l.small) in
    record {
      small = omega arith;
      inside = omega arith;
      fits = omega (arith, length-decimal-step c.loop-rest.rest c.loop-rest-test.true l.small);
      whole = decimal-last c.loop-rest.rest c.loop-rest.start c.loop-rest.digits
          (decimal c.args.number) c.loop-rest-test.true l.small some (omega arith) l.whole;
      room = length-set c.loop-rest.digits _ _ ∙ l.room;
    }

pub returns : goal.returns
returns c =
    let l = c.loop-rest.invariant in
    let some : 0 < c.loop-rest.start = omega (arith, decimal_nonempty c.loop-rest.rest l.small) in
    record {
      bound = omega arith;
      value = decimal-first c.loop-rest.rest c.loop-rest.start c.loop-rest.digits
          (decimal c.args.number) c.loop-rest-test.false some (omega arith) l.whole;
    }
