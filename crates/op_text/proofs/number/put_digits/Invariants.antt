use Rattle.std.proofs.Common.{◌≡◌, ◌≤◌, ◌<◌, ◌^◌, ◌++◌, length, drop}
use Rattle.std.specs.Fmt.{decimal}
use Rattle.op_text.proofs.number.put_digits.Given as goal

-- the digits that are still to come, and those that stand
abbrev pub invariant-loop-rest : goal.invariant-loop-rest
invariant-loop-rest l = record {
  small : l.rest < 2 ^ 64;
  inside : l.start ≤ 20;
  fits : length (decimal l.rest) ≤ l.start;
  whole : decimal l.rest ++ drop l.start l.digits ≡ decimal l.number;
  room : length l.digits ≡ 20;
}

abbrev pub decreases-loop-rest : goal.decreases-loop-rest
decreases-loop-rest l = l.rest
