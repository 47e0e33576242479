use Rattle.core_journal.specs.State.{State, state}
use Rattle.core_lists.proofs.ClosedHeadStays.{part_head}
use Rattle.core_lists.proofs.ListHolds.{part_listed}
use Rattle.core_lists.proofs.FrozenPart.{frozen_parts}
use Rattle.core_lists.proofs.PartSpender.{part_who}
use Rattle.core_lists.proofs.lists.frozen_parts_are_handed_over.Goals as goal

pub returns-clause-parts : goal.returns-clause-parts
returns-clause-parts c = λ sizes z journal kept. frozen_parts sizes z journal kept

pub returns-clause-who : goal.returns-clause-who
returns-clause-who c = λ sizes z journal kept x y u t h v. part_who sizes z journal kept x y u t h v

pub returns-clause-listed : goal.returns-clause-listed
returns-clause-listed c = λ sizes journal x y h.
    let s : State = state sizes journal in
    (part_listed s.node s.edges s.frozen x y h, part_head s x y h)
