use Rattle.std.proofs.Common.{◌≡◌, ℕ, List, ◌+◌, ◌++◌, ap, ap₂, ◌∙◌}
use Rattle.std.specs.Prelude.{replicate}
use Rattle.graph_table.specs.Opening.{nodes_from}
use Rattle.graph_table.proofs.Openings.{opened}
use Rattle.graph_table.proofs.opening.first_words.Goals as goal

pub returns : goal.returns
returns c =
    let sizes = c.args.layout.now in
    let callers : 4 + c.callers.result ≡ 4 + sizes.callers = ap (λ (n : ℕ). 4 + n) c.callers.ensures.callers in
    let heads = c.in_ok-words-2.ensures ∙ ap₂ (λ (l : List ℕ) (n : ℕ). l ++ replicate n 0) c.in_ok-words.ensures.items
    callers in
    let buckets = c.in_ok-words-3.ensures ∙ ap₂ (λ (l : List ℕ) (b : ℕ). l ++ replicate b 16777215) heads
    c.buckets.ensures.buckets in
    c.in_ok-words-4.ensures ∙ (ap₂ (λ (l : List ℕ) (n : ℕ). l ++ nodes_from n n) buckets c.nodes.ensures.nodes
    ∙ opened sizes)
