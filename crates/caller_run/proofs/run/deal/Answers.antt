use Rattle.std.proofs.Common.{rules}
use Rattle.caller_run.proofs.Merging.{dealing-step}
use Rattle.caller_run.proofs.run.deal.Goals as goal

pub loop-row-preserved : goal.loop-row-preserved
loop-row-preserved g c =
    dealing-step c.args.rows.now c.loop-row.row-index c.args.lanes.now c.loop-row.lanes _ c.index-lanes-row.result
    c.add.new.self c.loop-row.invariant (search rules) (c.requires.callers c.loop-row.row-index _ (search rules))
    c.add.ensures.port c.in_ok-add.ensures.calls
