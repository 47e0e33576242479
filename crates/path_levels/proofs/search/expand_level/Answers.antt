use Rattle.std.proofs.Common.{◌≡◌, length, subst, arith}
use Rattle.path_levels.specs.Search.{IsQueue}
use Rattle.scan_record.proofs.ScanFacts.{complete_kept}
use Rattle.path_levels.proofs.Queues.{queue_few}
use Rattle.path_levels.proofs.Searching.{level_first, place_there, level_next, level_all}
use Rattle.path_levels.proofs.search.expand_level.Goals as goal

pub queue_len-end-requires : goal.queue_len-end-requires
queue_len-end-requires c = queue_few c.args.scan.now c.args.from c.requires.queue

pub loop-place-init : goal.loop-place-init
loop-place-init c = level_first c.args.scan.now c.args.from c.requires.queue

pub expand-requires-clause-complete : goal.expand-requires-clause-complete
expand-requires-clause-complete c = complete_kept c.args.scan.now c.loop-place.scan c.loop-place.invariant.kept.rows
    c.requires.complete

pub expand-requires-clause-place : goal.expand-requires-clause-place
expand-requires-clause-place c = place_there c.args.scan.now c.loop-place.scan c.args.from c.loop-place.place
    c.loop-place.invariant c.loop-place.auto.place (omega arith)

pub loop-place-preserved : goal.loop-place-preserved
loop-place-preserved c =
    level_next c.args.scan.now c.loop-place.scan c.args.from c.loop-place.place c.loop-place.invariant
    c.loop-place.auto.place (omega arith)
    c.expand.new.scan c.expand.ensures.keys c.expand.ensures.queue c.expand.ensures.ends c.expand.ensures.kept

pub returns-clause-keys : goal.returns-clause-keys
returns-clause-keys c = level_all c.args.scan.now c.loop-place.scan c.args.from c.loop-place.place
    c.loop-place.invariant c.loop-place.auto.place (omega arith)

pub returns-clause-queue : goal.returns-clause-queue
returns-clause-queue c =
    let end : c.loop-place.place ≡ length c.args.scan.now.keys = omega arith in
    subst (IsQueue c.loop-place.scan) end c.loop-place.invariant.queue
