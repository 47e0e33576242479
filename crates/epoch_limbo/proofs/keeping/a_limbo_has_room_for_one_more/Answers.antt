use Rattle.epoch_limbo.proofs.LimboStays.{limbo_fits, limbo_room}
use Rattle.epoch_limbo.proofs.keeping.a_limbo_has_room_for_one_more.Goals as goal

pub returns-clause-fits : goal.returns-clause-fits
returns-clause-fits c = limbo_fits

pub returns-clause-room : goal.returns-clause-room
returns-clause-room c = limbo_room
