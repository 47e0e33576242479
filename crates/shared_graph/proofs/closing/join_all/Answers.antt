use Rattle.std.proofs.Common.{subst}
use Rattle.core_rule.specs.Plays.{Met, both_fronts}
use Rattle.graph_table.specs.Tokens.{TokenValue}
use Rattle.shared_graph.proofs.Closed.{joined_more, joined_on}
use Rattle.shared_graph.proofs.closing.join_all.Goals as goal

pub loop-caller-preserved : goal.loop-caller-preserved
loop-caller-preserved c =
    let v = c.loop-caller.token.view in
    let u = c.join_token.new.token.view in
    let m = subst (λ (t : TokenValue). Met (both_fronts v t.view) u) c.into_token-other.ensures.token
    c.join_token.ensures.joined in
    record {
      of = c.join_token.ensures.table;
      joined = joined_more v u c.in-Some.caller c.loop-caller.yielded c.loop-caller.invariant.joined
          c.into_token-other.ensures.between m;
      still = λ d j. joined_on v c.in-Some.caller.hand.token.view u m d (c.loop-caller.invariant.still d j);
    }
