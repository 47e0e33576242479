use Rattle.std.proofs.Common.{◌≡◌, ◌++◌, [], ◌∷◌, ap, ◌∙◌, arith, rules}
use Rattle.std.proofs.lemmas.List.{take_all}
use Rattle.graph_kinds.specs.Graph.{empty_graph}
use Rattle.graph_kinds.specs.Answer.{answers, after_all}
use Rattle.plain_graph.proofs.Replays.{replay_none, replay_row, length-calls}
use Rattle.graph_kinds.specs.History.{calls_of}
use Rattle.plain_graph.proofs.rows.replay.Goals as goal

pub loop-row-init : goal.loop-row-init
loop-row-init c = replay_none _ _ c.new-answers.ensures.items c.new-graph.ensures

pub perform-requires-clause-room : goal.perform-requires-clause-room
perform-requires-clause-room c = λ add. omega (
  arith,
  c.loop-row.invariant.few,
  length-calls c.args.rows.now
      c.loop-row.row-index c.loop-row.auto.row-index-end,
  c.requires.few,
)

pub loop-row-preserved : goal.loop-row-preserved
loop-row-preserved c =
    let pushed : c.push.new.self.items ≡ c.loop-row.answers.items ++ c.in_ok-answer.answer ∷ [] = search rules in
    rw pushed (replay_row _ _ _ c.loop-row-test.true _ _ c.loop-row.invariant _ _ c.in_ok-answer.ensures.answer
    c.in_ok-answer.ensures.change c.in_ok-answer.ensures.bounded)

pub returns-clause-answers : goal.returns-clause-answers
returns-clause-answers c = c.loop-row.invariant.answers_given ∙ ap (λ rows. answers empty_graph (calls_of rows))
    (take_all _ _ c.loop-row-test.false)

pub returns-clause-bounded : goal.returns-clause-bounded
returns-clause-bounded c = c.loop-row.invariant.bounded

pub returns-clause-graph : goal.returns-clause-graph
returns-clause-graph c = c.loop-row.invariant.graph ∙ ap (λ rows. after_all empty_graph (calls_of rows))
    (take_all _ _ c.loop-row-test.false)
