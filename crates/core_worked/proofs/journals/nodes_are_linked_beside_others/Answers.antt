use Rattle.core_worked.proofs.Beside.{beside_others_kept}
use Rattle.core_worked.proofs.journals.nodes_are_linked_beside_others.Goals as goal

pub returns : goal.returns
returns c = beside_others_kept
