use Rattle.core_epoch.proofs.FreeList.{first_is_free}
use Rattle.core_epoch.proofs.free.a_first_node_is_free.Goals as goal

pub returns : goal.returns
returns c = first_is_free
