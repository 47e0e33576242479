use Rattle.core_scans.proofs.HeldIsThePart.{complete, root_there, part_is}
use Rattle.core_scans.proofs.same.what_is_held_is_the_part.Goals as goal

pub returns-clause-complete : goal.returns-clause-complete
returns-clause-complete c = λ sizes z caller start end s looks is collected held.
    complete sizes z caller start end s looks.kept looks.quiet looks.opened is collected held

pub returns-clause-root : goal.returns-clause-root
returns-clause-root c = λ sizes z caller start end s looks is collected held.
    root_there sizes z caller start end s looks.kept looks.quiet looks.opened is collected held

pub returns-clause-part : goal.returns-clause-part
returns-clause-part c = λ sizes z caller start end s looks is collected held.
    part_is sizes z caller start end s looks.kept looks.quiet looks.opened is collected held
