use Rattle.std.proofs.Common.{sym, ◌∙◌, subst}
use Rattle.path_levels.specs.Search.{IsQueue}
use Rattle.path_levels.proofs.Queues.{room_left, put_queue, marked}
use Rattle.path_levels.proofs.queue.meet.Goals as goal

pub put-requires-clause-room : goal.put-requires-clause-room
put-requires-clause-room c =
    let new = (marked c.args.scan.now c.args.parent c.args.row c.requires.queue c.requires.row).0
    (sym c.work.ensures ∙ c.if-work-eq0.true) in
    room_left c.args.scan.now c.args.parent c.args.row c.requires.queue c.requires.row new

pub returns-then-work-eq0-clause-queue : goal.returns-then-work-eq0-clause-queue
returns-then-work-eq0-clause-queue c =
    let s = c.args.scan.now in
    let new = (marked s c.args.parent c.args.row c.requires.queue c.requires.row).0
    (sym c.work.ensures ∙ c.if-work-eq0.true) in
    subst (λ t. IsQueue t c.args.parent) (sym c.put.ensures.put)
    (put_queue s c.put.ensures.valid c.requires.complete c.args.row c.args.parent c.requires.row c.requires.queue
    c.requires.parent c.requires.edge new)
