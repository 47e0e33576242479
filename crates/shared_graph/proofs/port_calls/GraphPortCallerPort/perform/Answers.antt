use Rattle.std.proofs.Common.{rules, ◌≤◌, ◌^◌}
use Rattle.shared_graph.proofs.Asked.{asked_worn}
use Rattle.shared_graph.proofs.port_calls.GraphPortCallerPort.perform.Goals as goal

pub returns-clause-worn : goal.returns-clause-worn
returns-clause-worn c =
    let most : c.args.self.now.caller.hand.uses ≤ 2 ^ 32 = search rules in
    asked_worn c.args.call.now c.args.tries c.perform.result c.args.self.now.caller c.perform.new.caller most
    c.perform.ensures.answers
