use Rattle.std.proofs.Common.{rules, ◌≡◌, [], ◌∷◌, ◌++◌}
use Rattle.caller_run.proofs.Merging.{merging-step}
use Rattle.caller_run.proofs.run.merge.Goals as goal

pub loop-row-preserved : goal.loop-row-preserved
loop-row-preserved g c =
    let out : c.push.new.self.items ≡ c.loop-row.all.items ++ c.next_answer-answer.result ∷ [] = search rules in
    rw out
    (merging-step c.args.rows.now c.loop-row.row-index c.args.lanes.now c.loop-row.lanes c.loop-row.all.items _
    c.index-lanes-row.result c.next_answer-answer.new.self c.next_answer-answer.result c.loop-row.invariant
    (search rules) (c.requires.callers c.loop-row.row-index _ (search rules)) c.next_answer-answer.ensures.port
    c.next_answer-answer.ensures.kept)

pub returns-then-is_err-clause-ports : goal.returns-then-is_err-clause-ports
returns-then-is_err-clause-ports g c = λ i d h.
    (merging-step c.args.rows.now c.loop-row.row-index c.args.lanes.now c.loop-row.lanes c.loop-row.all.items _
    c.index-lanes-row.result c.next_answer-answer.new.self c.next_answer-answer.result c.loop-row.invariant
    (search rules) (c.requires.callers c.loop-row.row-index _ (search rules)) c.next_answer-answer.ensures.port
    c.next_answer-answer.ensures.kept).ports i d h
