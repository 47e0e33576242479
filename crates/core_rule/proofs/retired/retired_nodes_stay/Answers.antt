use Rattle.core_rule.proofs.RetiredStays.{retired_still}
use Rattle.core_rule.proofs.retired.retired_nodes_stay.Goals as goal

pub returns : goal.returns
returns c = λ v w own z t but x stamp spares h. retired_still v w own z t but x stamp spares h
