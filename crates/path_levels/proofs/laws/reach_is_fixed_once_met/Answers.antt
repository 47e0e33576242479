use Rattle.path_levels.proofs.Trails.{reach_met}
use Rattle.path_levels.proofs.laws.reach_is_fixed_once_met.Goals as goal

pub returns : goal.returns
returns c = λ g a p met later parents there whole tree lt. reach_met g a met later parents there whole tree p lt
