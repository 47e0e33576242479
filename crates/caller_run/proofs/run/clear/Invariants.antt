use Rattle.std.proofs.Common.{◌≡◌, ℕ, ◌<◌, [], length, get_or}
use Rattle.caller_run.specs.declared.lane.Lane.{Lane}
use Rattle.caller_run.proofs.run.clear.Given as goal

abbrev pub invariant-loop-i : goal.invariant-loop-i
invariant-loop-i g l = record {
  count : length l.lanes ≡ length l.initial.lanes;
  ports : (i : ℕ) (d : Lane g.row.P.Denot) → i < length l.initial.lanes → (get_or l.lanes i d).port
      ≡ (get_or l.initial.lanes i d).port;
  calls : (i : ℕ) (d : Lane g.row.P.Denot) → i < l.i → (get_or l.lanes i d).calls.items ≡ [];
}
