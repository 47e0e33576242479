use Rattle.std.proofs.Common.{◌≡◌, ◌+◌, ◌∙◌, List, sym, ap, eq-eqb}
use Rattle.graph_kinds.specs.declared.answer.Answer.{Answer}
use Rattle.graph_kinds.specs.declared.call.Row.{Row}
use Rattle.graph_kinds.specs.Graph.{Graph, key_count}
use Rattle.graph_kinds.specs.History.{Item, IsInterleaving, IsLegal, answered}
use Rattle.op_text.specs.Summary.{adds_in, removes_in, vertices_added, vertices_removed}
use Rattle.op_text.proofs.Conserved.{balanced}
use Rattle.op_text.proofs.Interleaved.{count_alike, interleaving_answered}
use Rattle.op_text.proofs.summary.vertices_are_conserved.Goals as goal

rows_balanced : (asked : List Row) (replies : List Answer) (h : List Item) (g : Graph)
    → IsInterleaving asked replies h → IsLegal h g
    → vertices_added asked replies ≡ vertices_removed asked replies + key_count g
rows_balanced asked replies h g mixed legal =
    sym (count_alike adds_in h (answered asked replies) mixed.in_order)
    ∙ balanced h g (interleaving_answered asked replies h mixed) legal
    ∙ ap (λ n. n + key_count g) (count_alike removes_in h (answered asked replies) mixed.in_order)

pub returns-clause-history : goal.returns-clause-history
returns-clause-history c = balanced

pub returns-clause-rows : goal.returns-clause-rows
returns-clause-rows c = rows_balanced

pub returns-clause-line : goal.returns-clause-line
returns-clause-line c = λ asked replies h g mixed legal.
    let same = eq-eqb (vertices_added asked replies) (vertices_removed asked replies + key_count g)
    (rows_balanced asked replies h g mixed legal) in rw same
