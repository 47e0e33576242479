use Rattle.std.proofs.Common.{◌≡◌, ◌-◌, ◌<◌, ◌≤◌, false, vec_len}
use Rattle.graph_kinds.specs.Stream.{Takes}
use Rattle.graph_tool.proofs.input.read_input.Given as goal

abbrev pub invariant-loop-piece : goal.invariant-loop-piece
invariant-loop-piece g l = record {
  fits : vec_len l.all ≤ 8388609;
  took : Takes (g.S.Source.rest l.initial.source) (g.S.Source.rest l.source) l.all.items;
  more : 0 < vec_len l.all → g.S.Source.ended l.source ≡ false;
  faults : g.S.Source.faults l.initial.source ≤ g.S.Source.faults l.source;
}

abbrev pub decreases-loop-piece : goal.decreases-loop-piece
decreases-loop-piece g l = 8388609 - vec_len l.all
