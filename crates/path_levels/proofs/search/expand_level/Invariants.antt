use Rattle.path_levels.proofs.Searching.{IsLevelExpanding}
use Rattle.path_levels.proofs.search.expand_level.Given as goal

abbrev pub invariant-loop-place : goal.invariant-loop-place
invariant-loop-place l = IsLevelExpanding l.fn.scan l.scan l.fn.from l.place
