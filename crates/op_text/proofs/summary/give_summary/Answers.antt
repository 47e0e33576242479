use Rattle.std.proofs.Common.{arith, length, ap, ◌∙◌}
use Rattle.std.proofs.lemmas.List.Sums.{count_by-le-length}
use Rattle.graph_kinds.specs.History.{answered}
use Rattle.op_text.specs.Summary.{removes_in, summary_lines, vertices_added}
use Rattle.op_text.proofs.Counted.{length-answered}
use Rattle.op_text.proofs.TextWrites.{gives-as}
use Rattle.op_text.proofs.summary.give_summary.Goals as goal

pub give_lines-requires : goal.give_lines-requires
give_lines-requires g c =
    let rows = c.args.rows.now in
    let answers = c.args.answers.now in
    omega (
      arith,
      c.count_removed-removed.ensures,
      count_by-le-length removes_in (answered rows answers),
      length-answered rows answers c.requires.one_each,
      c.requires.few,
    )

pub returns : goal.returns
returns g c =
    let a = c.args in
    let rows = length a.rows.now in
    gives-as (ap (λ n. summary_lines rows a.callers n c.count_removed-removed.result a.vertices a.edges)
    c.count_added-added.ensures
    ∙ ap (λ n. summary_lines rows a.callers (vertices_added a.rows.now a.answers.now) n a.vertices a.edges)
    c.count_removed-removed.ensures)
    c.give_lines.ensures
