use Rattle.std.proofs.Common.{◌-◌, length}
use Rattle.path_levels.proofs.Searching.{IsSearching}
use Rattle.path_levels.proofs.goal.search_to.Given as goal

abbrev pub invariant-loop-from : goal.invariant-loop-from
invariant-loop-from l = IsSearching l.fn.scan l.scan l.from l.end

abbrev pub decreases-loop-from : goal.decreases-loop-from
decreases-loop-from l = length l.scan.rows - l.from
