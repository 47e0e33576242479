use Rattle.std.proofs.Common.{arith, ◌∙◌}
use Rattle.op_text.specs.Summary.{removes_in}
use Rattle.op_text.proofs.Counted.{counted_yes, counted_no, counted_all}
use Rattle.op_text.proofs.summary.count_removed.Goals as goal
use Rattle.op_text.proofs.summary.count_removed.Goals.{then-is_vertex_removed, else-is_vertex_removed}

pub loop-i-preserved : goal.loop-i-preserved
loop-i-preserved c =
    let rows = c.args.rows.now in
    let answers = c.args.answers.now in
    let i = c.loop-i.i in
    let l = c.loop-i.invariant in
    let inside = c.loop-i-test.true in
    let tested = c.is_vertex_removed in
    elim c.if-is_vertex_removed.branch [
      | then-is_vertex_removed w ↦ record {
        few = omega (arith, w.count-is, l.few);
        so_far = omega (
          arith,
          w.count-is,
          l.so_far,
          counted_yes removes_in rows answers i _ _ inside c.requires
              tested.result tested.ensures w.if-is_vertex_removed.true,
        );
      }
      | else-is_vertex_removed w ↦ record {
        few = omega (arith, w.count-is, l.few);
        so_far = omega (
          arith,
          w.count-is,
          l.so_far,
          counted_no removes_in rows answers i _ _ inside c.requires
              tested.result tested.ensures w.if-is_vertex_removed.false,
        );
      }
    ]

pub returns : goal.returns
returns c = c.loop-i.invariant.so_far
    ∙ counted_all removes_in c.args.rows.now c.args.answers.now c.loop-i.i c.loop-i-test.false c.requires
