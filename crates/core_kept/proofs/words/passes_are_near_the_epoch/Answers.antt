use Rattle.core_kept.proofs.NearEpochs.{near, checked}
use Rattle.core_kept.proofs.words.passes_are_near_the_epoch.Goals as goal

pub returns-clause-near : goal.returns-clause-near
returns-clause-near c = λ sizes journal kept. near sizes journal kept

pub returns-clause-checked : goal.returns-clause-checked
returns-clause-checked c = λ sizes from past i small kept h. checked sizes from past i small kept h
