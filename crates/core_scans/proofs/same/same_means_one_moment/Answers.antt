use Rattle.core_scans.proofs.HeldIsThePart.{same_held, same_part}
use Rattle.core_scans.proofs.same.same_means_one_moment.Goals as goal

pub returns-clause-held : goal.returns-clause-held
returns-clause-held c = same_held

pub returns-clause-complete : goal.returns-clause-complete
returns-clause-complete c = λ sizes z caller start end now s looks p is collected same.
    (same_part sizes z caller start end now s looks p is collected same).0

pub returns-clause-root : goal.returns-clause-root
returns-clause-root c = λ sizes z caller start end now s looks p is collected same.
    (same_part sizes z caller start end now s looks p is collected same).1

pub returns-clause-part : goal.returns-clause-part
returns-clause-part c = λ sizes z caller start end now s looks p is collected same.
    (same_part sizes z caller start end now s looks p is collected same).2
