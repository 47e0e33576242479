use Rattle.std.proofs.Common.{◌≡◌, ◌+◌, take, drop, ◌++◌, ap, ◌∙◌, arith, take_all}
use Rattle.graph_kinds.specs.declared.answer.Answer.{Answer}
use Rattle.op_text.specs.Text.{answer_line, answer_lines}
use Rattle.op_text.proofs.TextWrites.{gives-then, gives-stop, gives-as}
use Rattle.graph_tool.proofs.Lines.{flat_map-more, flat_map-split}
use Rattle.graph_tool.proofs.output.write_answers.Goals as goal

pub returns-in_err-write_answer : goal.returns-in_err-write_answer
returns-in_err-write_answer g c =
    let i = c.loop-answer.answer-index in
    let xs = c.args.answers.now in
    let is : answer_lines (take i xs) ++ (answer_line c.answer-item.result ++ answer_lines (drop (i + 1) xs)) ≡
    answer_lines xs =
    ap (λ (a : Answer). answer_lines (take i xs) ++ (answer_line a ++ answer_lines (drop (i + 1) xs))) c.answer-item.is
    ∙ flat_map-split answer_line xs i c.answer-item.result c.loop-answer-test.true in
    gives-as is (gives-then c.loop-answer.invariant (gives-stop
    (answer_lines (drop (i + 1) xs)) c.from_residual.ensures.0 c.in_err-write_answer.ensures))

pub loop-answer-preserved : goal.loop-answer-preserved
loop-answer-preserved g c =
    let i = c.loop-answer.answer-index in
    let xs = c.args.answers.now in
    let is : answer_lines (take i xs) ++ answer_line c.answer-item.result ≡ answer_lines (take (i + 1) xs) =
    ap (λ (a : Answer). answer_lines (take i xs) ++ answer_line a) c.answer-item.is
    ∙ flat_map-more answer_line xs i c.answer-item.result c.loop-answer-test.true in
    gives-as is (gives-then c.loop-answer.invariant c.in_ok-write_answer.ensures)

pub returns : goal.returns
returns g c = gives-as (ap answer_lines (take_all c.loop-answer.answer-index c.args.answers.now (omega arith)))
    c.loop-answer.invariant
