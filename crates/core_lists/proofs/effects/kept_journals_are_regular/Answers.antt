use Rattle.core_lists.proofs.EffectOfKinds.{regular}
use Rattle.core_lists.proofs.effects.kept_journals_are_regular.Goals as goal

pub returns : goal.returns
returns c = record { regular = λ sizes z journal kept. regular sizes z journal kept }
