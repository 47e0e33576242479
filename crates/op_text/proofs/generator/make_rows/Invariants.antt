use Rattle.std.proofs.Common.{◌≡◌, ◌*◌, ◌<◌, ◌^◌, vec_len}
use Rattle.op_text.specs.Generator.{made_rows, state_after}
use Rattle.op_text.proofs.generator.make_rows.Given as goal

-- the rows so far, and the state behind their draws
abbrev pub invariant-loop-index : goal.invariant-loop-index
invariant-loop-index l = record {
  small : l.state < 2 ^ 31;
  at : l.state ≡ state_after l.number (2 * l.index);
  so_far : l.made.items ≡ made_rows l.number l.index l.callers;
  count : vec_len l.made ≡ l.index;
}
