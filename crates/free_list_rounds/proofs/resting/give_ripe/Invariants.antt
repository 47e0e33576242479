use Rattle.std.proofs.Common.{◌≡◌, true}
use Rattle.core_rule.specs.Retired.{IsShown}
use Rattle.core_stretches.specs.Holdings.{HasNoPass}
use Rattle.free_list_rounds.specs.Rounds.{CountsGo, LimboHoldsAll, SparesGo}
use Rattle.graph_table.specs.Tokens.{IsOf}
use Rattle.free_list_rounds.proofs.resting.give_ripe.Given as goal

abbrev pub invariant-loop-given : goal.invariant-loop-given
invariant-loop-given l = record {
  of : IsOf l.fn.table l.token;
  number : l.token.view.numbered ≡ true;
  closed : HasNoPass l.token.view;
  work : LimboHoldsAll l.limbo l.token.view;
  shown : IsShown l.token.view l.epoch;
  spare : SparesGo l.fn.token.view l.token.view;
  counts : CountsGo 0 l.given 0 l.fn.token.view l.token.view;
}
