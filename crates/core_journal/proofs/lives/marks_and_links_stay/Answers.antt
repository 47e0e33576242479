use Rattle.std.proofs.Common.{◌≡◌, Some}
use Rattle.core_journal.proofs.Fronts.{onward}
use Rattle.core_journal.proofs.KeptLives.{key_more, link_more, vertex_linked_more, vertex_marked_more, edge_linked_more}
use Rattle.core_journal.proofs.KeptLives.{edge_marked_more, unlinked_more, head_frozen_more}
use Rattle.core_journal.proofs.NotBefore.{not_before}
use Rattle.core_journal.specs.Life.{key_of, link_of, vertex_linked, vertex_marked, edge_linked, edge_marked, unlinked}
use Rattle.core_journal.specs.Life.{head_frozen}
use Rattle.core_journal.proofs.lives.marks_and_links_stay.Goals as goal

pub returns-clause-key : goal.returns-clause-key
returns-clause-key c = λ front journal x key p h. onward (λ l. key_of l x ≡ Some key)
    (λ past more g. key_more past more x key g) front journal p h

pub returns-clause-edge : goal.returns-clause-edge
returns-clause-edge c = λ front journal x link p h. onward (λ l. link_of l x ≡ Some link)
    (λ past more g. link_more past more x link g) front journal p h

pub returns-clause-vertex_not_linked : goal.returns-clause-vertex_not_linked
returns-clause-vertex_not_linked c = λ front journal x p h. not_before (λ l. vertex_linked l x)
    (λ past more g. vertex_linked_more past more x g) front journal p h

pub returns-clause-vertex_not_marked : goal.returns-clause-vertex_not_marked
returns-clause-vertex_not_marked c = λ front journal x p h. not_before (λ l. vertex_marked l x)
    (λ past more g. vertex_marked_more past more x g) front journal p h

pub returns-clause-edge_not_linked : goal.returns-clause-edge_not_linked
returns-clause-edge_not_linked c = λ front journal x p h. not_before (λ l. edge_linked l x)
    (λ past more g. edge_linked_more past more x g) front journal p h

pub returns-clause-edge_not_marked : goal.returns-clause-edge_not_marked
returns-clause-edge_not_marked c = λ front journal x p h. not_before (λ l. edge_marked l x)
    (λ past more g. edge_marked_more past more x g) front journal p h

pub returns-clause-not_unlinked : goal.returns-clause-not_unlinked
returns-clause-not_unlinked c = λ front journal x p h. not_before (λ l. unlinked l x)
    (λ past more g. unlinked_more past more x g) front journal p h

pub returns-clause-not_frozen : goal.returns-clause-not_frozen
returns-clause-not_frozen c = λ front journal x p h. not_before (λ l. head_frozen l x)
    (λ past more g. head_frozen_more past more x g) front journal p h
