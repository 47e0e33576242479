use Rattle.shared_graph.proofs.Numbered.{holds_each}
use Rattle.shared_graph.proofs.laws.callers_by_number_are_all.Goals as goal

pub returns : goal.returns
returns c = λ g cs count home from. holds_each g cs count home from
