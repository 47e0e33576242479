use Rattle.std.proofs.Common.{refl}
use Rattle.core_lists.proofs.EffectOfKinds.{effect}
use Rattle.core_lists.proofs.effects.each_kind_has_its_effect.Goals as goal

pub returns : goal.returns
returns c = record { effect = λ sizes z past e kept ok. effect sizes z past e kept e.kind refl ok.as_kind }
