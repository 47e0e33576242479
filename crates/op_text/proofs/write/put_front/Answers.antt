use Rattle.std.proofs.Common.{arith, length-take, length-drop}
use Rattle.graph_kinds.proofs.Bytes.{puts-step}
use Rattle.op_text.proofs.write.put_front.Goals as goal

pub loop-done-preserved : goal.loop-done-preserved
loop-done-preserved g c = record {
  inside = search (arith, length-drop, length-take);
  put = puts-step _ _ _ c.loop-done.done c.in-Took.n c.args.text.now c.loop-done.invariant.put c.in-Took.ensures.took;
  later = omega (arith, c.loop-done.invariant.later, c.write.ensures.faults);
}
