use Rattle.core_rule.proofs.RoomInLimbo.{spent_fit, room_for_one}
use Rattle.core_rule.proofs.retired.a_limbo_has_room.Goals as goal

pub returns-clause-nodes : goal.returns-clause-nodes
returns-clause-nodes c = λ v kept xs apart spent. spent_fit v kept xs apart spent

pub returns-clause-one_more : goal.returns-clause-one_more
returns-clause-one_more c = λ v kept xs apart spent x mine out. room_for_one v kept xs apart spent x mine out
