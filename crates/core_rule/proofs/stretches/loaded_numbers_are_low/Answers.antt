use Rattle.core_rule.proofs.CallLimits.{free_tag_low, epoch_low, life_tag_low}
use Rattle.core_rule.proofs.stretches.loaded_numbers_are_low.Goals as goal

pub returns-clause-free_tag : goal.returns-clause-free_tag
returns-clause-free_tag c = λ v z kept first p seen is. free_tag_low v z kept first p seen is

pub returns-clause-epoch : goal.returns-clause-epoch
returns-clause-epoch c = λ v z kept loaded p seen is. epoch_low v z kept loaded p seen is

pub returns-clause-life : goal.returns-clause-life
returns-clause-life c = λ v z kept x l. life_tag_low v z kept x l
