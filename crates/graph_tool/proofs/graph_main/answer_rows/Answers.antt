use Rattle.graph_tool.proofs.Runs.{all_shown, if_both, replays}
use Rattle.graph_tool.proofs.graph_main.answer_rows.Goals as goal

pub returns-clause-writes : goal.returns-clause-writes
returns-clause-writes g c = if_both _ _ _ c.replay.result c.replay.ensures.answers c.replay.ensures.graph
    (λ r a x. replays c.args.command c.args.rows.now r.0.items r.1 a x)

pub returns-clause-written : goal.returns-clause-written
returns-clause-written g c = if_both _ _ _ c.replay.result c.replay.ensures.answers c.replay.ensures.graph
    (λ r a x. all_shown c.args.rows.now r.0.items a)
