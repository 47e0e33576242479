use Rattle.std.proofs.Common.{refl}
use Rattle.core_chain.specs.Chain.{Head}
use Rattle.core_lists.proofs.FrozenPathIsList.{path_more, path_all}
use Rattle.core_lists.proofs.frozen.a_frozen_path_meets_the_list.Goals as goal

pub returns-clause-head : goal.returns-clause-head
returns-clause-head c = λ sizes journal x. refl

pub returns-clause-more : goal.returns-clause-more
returns-clause-more c = λ sizes journal x ys place y h f leads some. path_more sizes journal x Head ys place y h f leads
    some

pub returns-clause-all : goal.returns-clause-all
returns-clause-all c = λ sizes z journal kept x k ys place h none. path_all sizes journal x z kept k ys place h none
