use Rattle.std.proofs.Common.{rules, ◌<◌, ◌∙◌, arith, length}
use Rattle.shared_graph.proofs.Gathered.{between_more, each_chain, met_more}
use Rattle.shared_graph.proofs.graph.SharedGraph.gather.Goals as goal

pub loop-number-preserved : goal.loop-number-preserved
loop-number-preserved c =
    let v = c.loop-number.invariant in
    let n = c.gather_one.ensures in
    let xs = c.args.callers.now in
    let ys = c.loop-number.callers in
    let zs = c.gather_one.new.callers in
    let room : c.loop-number.number < length xs = search rules in
    record {
      callers = n.callers;
      between = between_more xs ys c.loop-number.number v.between
          (λ d. v.same c.loop-number.number d (omega arith)) n.between;
      same = λ i d high. n.others i d (omega (arith, high)) (λ e. omega (arith, e, high))
          ∙ v.same i d (omega (arith, high));
      looks = each_chain xs ys zs v.looks n.looks;
      met = met_more xs ys zs c.loop-number.number c.requires.some v.looks n.looks room v.met n.met;
    }
