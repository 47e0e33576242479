use Rattle.layer_rows.proofs.WaitingGoesOn.{buried_waiting}
use Rattle.layer_rows.proofs.removing.bury_alone.Goals as goal

pub returns-clause-waiting : goal.returns-clause-waiting
returns-clause-waiting c =
    buried_waiting c.args.token.now.view c.bury.new.token.view c.args.limbo.now c.bury.new.limbo c.args.spent
    c.requires.removed c.bury.ensures.buried
