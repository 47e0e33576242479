use Rattle.std.proofs.Common.{◌≡◌, List, sym, ap, ◌∙◌, subst}
use Rattle.graph_kinds.specs.declared.answer.Answer.{Answer}
use Rattle.std.specs.Prelude.{Ok}
use Rattle.op_text.specs.Rows.{rows}
use Rattle.op_text.specs.Text.{text}
use Rattle.graph_tool.specs.Run.{RunsAlone, Writes, callers, replayed}
use Rattle.graph_tool.proofs.Inputs.{too_long_by, longer_by, not_longer}
use Rattle.graph_tool.proofs.Runs.{asks, not_too_long, if_told, puts_alone}
use Rattle.graph_tool.proofs.graph_main.graph_main.Goals as goal

pub returns-in-Err-rows_of-clause-too_long_only : goal.returns-in-Err-rows_of-clause-too_long_only
returns-in-Err-rows_of-clause-too_long_only g c = λ accepted. too_long_by (g.S.Source.rest c.args.source.now)
    (g.S.Source.rest c.rows_of.new.source) (g.S.Source.ended c.rows_of.new.source) (g.S.Source.faults c.args.source.now)
    (g.S.Source.faults c.rows_of.new.source) c.in-Err-rows_of.status c.in-Err-rows_of.ensures.err

pub returns-in-Ok-write_results-clause-done : goal.returns-in-Ok-write_results-clause-done
returns-in-Ok-write_results-clause-done g c =
    if_told (λ bytes. rows callers bytes ≡ Ok c.in-Ok-rows_of.asked.items) _
    (g.S.Source.rest c.args.source.now) c.in-Ok-rows_of.ensures.ok
    (λ bytes read. (
      text c.as_slice-2.result.now c.in-Ok-answer_rows.answered.1,
      asks c.args.words.now bytes (text c.as_slice-2.result.now c.in-Ok-answer_rows.answered.1)
          c.in-Ok.command c.as_slice.result.now (sym c.in-Ok.ensures)
          (read ∙ ap Ok (sym c.as_slice.ensures.value))
          (subst (λ (xs : List Answer). Writes c.in-Ok.command c.as_slice.result.now
          (text xs c.in-Ok-answer_rows.answered.1)) (sym c.as_slice-2.ensures.value)
          c.in-Ok-answer_rows.ensures.writes),
      c.in-Ok-write_results.ensures.ok,
    ))

pub returns-in-Ok-write_results-clause-in_order : goal.returns-in-Ok-write_results-clause-in_order
returns-in-Ok-write_results-clause-in_order g c =
    if_told (λ bytes. rows callers bytes ≡ Ok c.in-Ok-rows_of.asked.items) _
    (g.S.Source.rest c.args.source.now) c.in-Ok-rows_of.ensures.ok
    (λ bytes read. puts_alone c.args.words.now bytes _ _ c.in-Ok.command c.as_slice.result.now
    (text c.as_slice-2.result.now c.in-Ok-answer_rows.answered.1) (sym c.in-Ok.ensures)
    (read ∙ ap Ok (sym c.as_slice.ensures.value))
    (subst (λ (xs : List Answer). RunsAlone c.in-Ok.command c.as_slice.result.now
    → text xs c.in-Ok-answer_rows.answered.1 ≡ replayed c.as_slice.result.now) (sym c.as_slice-2.ensures.value)
    c.in-Ok-answer_rows.ensures.alone) c.in-Ok-write_results.ensures.ok)

pub returns-in-Ok-write_results-clause-too_long_only : goal.returns-in-Ok-write_results-clause-too_long_only
returns-in-Ok-write_results-clause-too_long_only g c = λ accepted. not_too_long _ _ _ c.in-Ok-rows_of.ensures.fits

pub returns-clause-too_long_only : goal.returns-clause-too_long_only
returns-clause-too_long_only g c = λ accepted. not_too_long _ _ _ c.in-Ok-rows_of.ensures.fits

pub returns-clause-prefix : goal.returns-clause-prefix
returns-clause-prefix g c =
    if_told (λ bytes. rows callers bytes ≡ Ok c.in-Ok-rows_of.asked.items) _
    (g.S.Source.rest c.args.source.now) c.in-Ok-rows_of.ensures.ok
    (λ bytes read. (
      text c.as_slice-2.result.now c.in-Ok-answer_rows.answered.1,
      asks c.args.words.now bytes (text c.as_slice-2.result.now c.in-Ok-answer_rows.answered.1)
          c.in-Ok.command c.as_slice.result.now (sym c.in-Ok.ensures)
          (read ∙ ap Ok (sym c.as_slice.ensures.value))
          (subst (λ (xs : List Answer). Writes c.in-Ok.command c.as_slice.result.now
          (text xs c.in-Ok-answer_rows.answered.1)) (sym c.as_slice-2.ensures.value)
          c.in-Ok-answer_rows.ensures.writes),
      c.in-Err-write_results.ensures.prefix,
    ))

pub returns-in-Err-rows_of-clause-too_long_input : goal.returns-in-Err-rows_of-clause-too_long_input
returns-in-Err-rows_of-clause-too_long_input g c = λ accepted. longer_by (g.S.Source.rest c.args.source.now)
    (g.S.Source.rest c.rows_of.new.source) (g.S.Source.ended c.rows_of.new.source) (g.S.Source.faults c.args.source.now)
    (g.S.Source.faults c.rows_of.new.source) c.in-Err-rows_of.status c.in-Err-rows_of.ensures.err

pub returns-in-Ok-write_results-clause-too_long_input : goal.returns-in-Ok-write_results-clause-too_long_input
returns-in-Ok-write_results-clause-too_long_input g c = λ accepted. not_longer _ _ _ c.in-Ok-rows_of.ensures.short

pub returns-clause-too_long_input : goal.returns-clause-too_long_input
returns-clause-too_long_input g c = λ accepted. not_longer _ _ _ c.in-Ok-rows_of.ensures.short
