use Rattle.core_worked.proofs.FirstEvents.{eight_events_kept}
use Rattle.core_worked.proofs.journals.a_vertex_is_added.Goals as goal

pub returns : goal.returns
returns c = eight_events_kept
