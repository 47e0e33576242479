use Rattle.core_counts.proofs.LivesGoOneWay.{one_way}
use Rattle.core_counts.proofs.totals.each_life_goes_one_way.Goals as goal

pub returns : goal.returns
returns c = λ sizes z journal kept x. one_way sizes z journal kept x
