use Rattle.std.proofs.Common.{sym, subst, rules}
use Rattle.path_levels.specs.Search.{IsQueue, KeepsRowsAndCosts}
use Rattle.scan_record.proofs.ScanFacts.{complete_kept}
use Rattle.path_levels.proofs.Queues.{first_queue}
use Rattle.path_levels.proofs.queue.begin.Goals as goal

pub returns-clause-queue : goal.returns-clause-queue
returns-clause-queue c =
    let s = c.unmark.new.scan in
    let kept : KeepsRowsAndCosts c.args.scan.now s = search rules in
    let is = complete_kept c.args.scan.now s kept.rows c.requires in
    subst (λ t. IsQueue t 0) (sym c.put.ensures.put)
    (first_queue s c.put.ensures.valid is 0 0 is.has_root (search rules) (search rules))
