use Rattle.std.proofs.Common.{arith}
use Rattle.layer_rows.proofs.WorkGoesOn.{begins_unspent, work_idle}
use Rattle.layer_rows.proofs.vertices.begin.Goals as goal

pub returns-clause-work : goal.returns-clause-work
returns-clause-work c =
    let v = c.args.token.now.view in
    let m = c.enter.new.token.view in
    work_idle m c.begin_pass.new.token.view c.begin_pass.ensures.resting c.begin_pass.ensures.idle
    (begins_unspent v m _ c.enter.ensures.table.layout c.enter.ensures.drew) (omega (arith, c.enter.ensures.uses))

pub returns-clause-taken : goal.returns-clause-taken
returns-clause-taken c =
    let same = c.begin_pass.ensures.idle.taken in
    omega (arith, same, c.enter.ensures.uses)
