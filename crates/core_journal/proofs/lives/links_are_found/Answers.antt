use Rattle.core_journal.proofs.KeptLives.{linked-key, linked-link}
use Rattle.core_journal.proofs.lives.links_are_found.Goals as goal

pub returns-clause-vertex : goal.returns-clause-vertex
returns-clause-vertex c = λ journal x. linked-key journal x

pub returns-clause-edge : goal.returns-clause-edge
returns-clause-edge c = λ journal x. linked-link journal x
