use Rattle.core_worked.proofs.TwoCallersKept.{callers_kept}
use Rattle.core_worked.proofs.journals.an_overtaken_edge_is_linked.Goals as goal

pub returns : goal.returns
returns c = callers_kept
