use Rattle.std.proofs.Common.{ℕ, List, ◌++◌}
use Rattle.std.specs.Prelude.{codes}
use Rattle.op_text.specs.Summary.{conserved_line, count_line}
use Rattle.op_text.proofs.TextWrites.{gives-then, gives-stop}
use Rattle.op_text.proofs.summary.give_lines.Goals as goal

-- the lines behind each of the counts
abbrev behind_vertices : ℕ → ℕ → ℕ → ℕ → List ℕ
behind_vertices gained lost vertices edges = count_line (codes "edges") edges ++ conserved_line gained lost vertices

abbrev behind_removed : ℕ → ℕ → ℕ → ℕ → List ℕ
behind_removed gained lost vertices edges =
    count_line (codes "vertices") vertices ++ behind_vertices gained lost vertices edges

abbrev behind_added : ℕ → ℕ → ℕ → ℕ → List ℕ
behind_added gained lost vertices edges =
    count_line (codes "removed") lost ++ behind_removed gained lost vertices edges

abbrev behind_callers : ℕ → ℕ → ℕ → ℕ → List ℕ
behind_callers gained lost vertices edges =
    count_line (codes "added") gained ++ behind_added gained lost vertices edges

pub returns-in_err-give_count : goal.returns-in_err-give_count
returns-in_err-give_count g c =
    let a = c.args in
    gives-stop (count_line (codes "callers") a.callers ++ behind_callers a.added a.removed a.vertices a.edges)
    c.from_residual.ensures.0 c.in_err-give_count.ensures

pub returns-in_err-give_count-2 : goal.returns-in_err-give_count-2
returns-in_err-give_count-2 g c =
    let a = c.args in
    gives-then c.in_ok-give_count.ensures
    (gives-stop (behind_callers a.added a.removed a.vertices a.edges)
    c.from_residual-in_err-give_count-2.ensures.0 c.in_err-give_count-2.ensures)

pub returns-in_err-give_count-3 : goal.returns-in_err-give_count-3
returns-in_err-give_count-3 g c =
    let a = c.args in
    gives-then c.in_ok-give_count.ensures (gives-then c.in_ok-give_count-2.ensures
    (gives-stop (behind_added a.added a.removed a.vertices a.edges)
    c.from_residual-in_err-give_count-3.ensures.0 c.in_err-give_count-3.ensures))

pub returns-in_err-give_count-4 : goal.returns-in_err-give_count-4
returns-in_err-give_count-4 g c =
    let a = c.args in
    gives-then c.in_ok-give_count.ensures (gives-then c.in_ok-give_count-2.ensures
    (gives-then c.in_ok-give_count-3.ensures
    (gives-stop (behind_removed a.added a.removed a.vertices a.edges)
    c.from_residual-in_err-give_count-4.ensures.0 c.in_err-give_count-4.ensures)))

pub returns-in_err-give_count-5 : goal.returns-in_err-give_count-5
returns-in_err-give_count-5 g c =
    let a = c.args in
    gives-then c.in_ok-give_count.ensures (gives-then c.in_ok-give_count-2.ensures
    (gives-then c.in_ok-give_count-3.ensures (gives-then c.in_ok-give_count-4.ensures
    (gives-stop (behind_vertices a.added a.removed a.vertices a.edges)
    c.from_residual-in_err-give_count-5.ensures.0 c.in_err-give_count-5.ensures))))

pub returns-in_err-give_count-6 : goal.returns-in_err-give_count-6
returns-in_err-give_count-6 g c =
    let a = c.args in
    gives-then c.in_ok-give_count.ensures (gives-then c.in_ok-give_count-2.ensures
    (gives-then c.in_ok-give_count-3.ensures (gives-then c.in_ok-give_count-4.ensures
    (gives-then c.in_ok-give_count-5.ensures (gives-stop (conserved_line a.added a.removed a.vertices)
    c.from_residual-in_err-give_count-6.ensures.0 c.in_err-give_count-6.ensures)))))

pub returns : goal.returns
returns g c =
    gives-then c.in_ok-give_count.ensures (gives-then c.in_ok-give_count-2.ensures
    (gives-then c.in_ok-give_count-3.ensures (gives-then c.in_ok-give_count-4.ensures
    (gives-then c.in_ok-give_count-5.ensures (gives-then c.in_ok-give_count-6.ensures c.give_conserved.ensures)))))
