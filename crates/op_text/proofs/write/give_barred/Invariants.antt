use Rattle.std.proofs.Common.{◌≡◌, ◌<◌, ◌≤◌, List, ℕ, ◌++◌, length, get_or, drop}
use Rattle.std.specs.Prelude.{Ok}
use Rattle.op_text.specs.Gives.{Gives}
use Rattle.op_text.specs.Text.{barred, levels_by}
use Rattle.op_text.specs.declared.write.WriteFailed.{WriteFailed}
use Rattle.op_text.proofs.write.give_barred.Given as goal

-- what was given, and the levels that are still to come
abbrev pub invariant-loop-i : goal.invariant-loop-i
invariant-loop-i g l = record {
  inside : l.from ≤ length l.keys;
  below : l.i < length l.ends → l.from ≤ get_or l.ends l.i 0;
  done : List ℕ;
  gives : Gives {E = WriteFailed} g.K.Sink.taken g.K.Sink.faults l.initial.sink l.sink done (Ok tt);
  whole : done ++ barred (levels_by l.from (drop l.from l.keys) (drop l.i l.ends)) ≡ barred (levels_by 0 l.keys l.ends);
}
