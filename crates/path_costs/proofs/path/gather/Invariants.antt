use Rattle.std.proofs.Common.{◌≡◌, ◌≤◌, length, take, reverse, get_or}
use Rattle.path_costs.specs.Search.{key_of_row}
use Rattle.path_costs.proofs.WaysBack.{IsWayBack}
use Rattle.path_costs.proofs.path.gather.Given as goal

abbrev pub invariant-loop-at : goal.invariant-loop-at
invariant-loop-at l = record {
  rest : l.scan ≡ record l.fn.scan { slot_zero = l.scan.slot_zero };
  long : length l.scan.slot_zero ≡ length l.fn.scan.rows;
  few : l.count ≤ length l.fn.scan.rows;
  way : IsWayBack l.fn.scan (key_of_row l.fn.scan l.fn.row) l.at (reverse (take l.count l.scan.slot_zero));
}

abbrev pub decreases-loop-at : goal.decreases-loop-at
decreases-loop-at l = get_or l.fn.scan.costs l.at 0
