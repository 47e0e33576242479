use Rattle.graph_updates.proofs.EndingTells.{advanced_limit, advanced_pass}
use Rattle.graph_updates.proofs.ending.advance_twice.Goals as goal

pub advance-second-requires-clause-closed : goal.advance-second-requires-clause-closed
advance-second-requires-clause-closed c =
    advanced_pass c.advance-first.result c.args.token.now.view c.advance-first.new.token.view c.requires.table.layout
    c.advance-first.ensures.advanced c.requires.closed

pub advance-second-requires-clause-limit : goal.advance-second-requires-clause-limit
advance-second-requires-clause-limit c =
    advanced_limit c.advance-first.result c.args.token.now.view c.advance-first.new.token.view c.requires.table.layout
    c.advance-first.ensures.advanced c.requires.limit
