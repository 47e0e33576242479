use Rattle.std.proofs.Common.{◌≡◌, ℕ, List, [], sym, ap, ◌∙◌, subst, length}
use Rattle.atomic_table.specs.Table.{opening}
use Rattle.core_journal.specs.Machine.{opening_words}
use Rattle.core_rule.specs.Rule.{Ruled, first_view}
use Rattle.graph_table.proofs.Openings.{opening_count}
use Rattle.core_rule.proofs.ViewsFit.{begins}
use Rattle.graph_table.proofs.table.GraphTable.new.Goals as goal

pub of_words-requires : goal.of_words-requires
of_words-requires c =
    let is : c.as_slice.result.now ≡ opening_words c.args.layout = c.as_slice.ensures.value ∙ c.in-Ok.ensures in
    subst (λ (ws : List ℕ). Ruled c.args.layout (opening ws [] (first_view c.args.layout))) (sym is)
    (begins c.args.layout)

pub invariant_of-result : goal.invariant_of-result
invariant_of-result c =
    let e = c.in-Ok-of_words.ensures in
    (e.5, e.0 ∙ (ap length (c.as_slice.ensures.value ∙ c.in-Ok.ensures) ∙ opening_count c.args.layout), e.1)
