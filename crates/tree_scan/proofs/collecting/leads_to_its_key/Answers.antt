use Rattle.core_stretches.proofs.MakesAddUp.{makes_self}
use Rattle.tree_scan.proofs.collecting.leads_to_its_key.Goals as goal

pub returns-then-index-eq16777215-clause-makes : goal.returns-then-index-eq16777215-clause-makes
returns-then-index-eq16777215-clause-makes c = makes_self c.args.token.now.view c.requires.number
    c.requires.table.sound
