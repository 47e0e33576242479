use Rattle.epoch_limbo.proofs.EpochSeen.{makes_closed, is_closed}
use Rattle.epoch_limbo.proofs.passes.close_pass.Goals as goal

pub returns-clause-makes : goal.returns-clause-makes
returns-clause-makes c = makes_closed c.args.token.now.view c.withdraw.new.token.view c.requires.number
    c.requires.table.sound c.withdraw.ensures.stored

pub returns-clause-closed : goal.returns-clause-closed
returns-clause-closed c = is_closed c.args.token.now.view c.withdraw.new.token.view c.requires.number
    c.requires.table.sound c.withdraw.ensures.stored
