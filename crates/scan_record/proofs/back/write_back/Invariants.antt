use Rattle.std.proofs.Common.{◌≡◌, ◌+◌, ◌≤◌, ◌++◌, [], length, take, reverse}
use Rattle.scan_record.specs.Scan.{slot_of}
use Rattle.scan_record.proofs.back.write_back.Given as goal

abbrev pub invariant-loop-left : goal.invariant-loop-left
invariant-loop-left l = record {
  rest : l.scan ≡ record l.fn.scan { keys = l.scan.keys; ends = [] };
  fewer : l.left ≤ l.fn.count;
  long : length l.scan.keys + l.left ≡ l.fn.count;
  keys : l.scan.keys ++ reverse (take l.left (slot_of l.fn.scan l.slot)) ≡ reverse
      (take l.fn.count (slot_of l.fn.scan l.slot));
}

abbrev pub decreases-loop-left : goal.decreases-loop-left
decreases-loop-left l = l.left
