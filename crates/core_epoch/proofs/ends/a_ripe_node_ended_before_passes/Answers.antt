use Rattle.std.proofs.Common.{arith}
use Rattle.core_epoch.proofs.Beside.{old_end_before}
use Rattle.core_epoch.proofs.ends.a_ripe_node_ended_before_passes.Goals as goal

pub returns : goal.returns
returns c = λ clock ends i x stamp shown near ordered low high reached o. old_end_before clock ends i x near ordered
    (omega (arith, low, high, reached)) o
