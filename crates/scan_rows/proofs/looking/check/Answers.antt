use Rattle.scan_rows.proofs.RootsFound.{pass_on}
use Rattle.scan_rows.proofs.looking.check.Goals as goal

pub returns-clause-pass : goal.returns-clause-pass
returns-clause-pass c = pass_on c.args.token.now.view c.verify.new.token.view c.verify.ensures.makes c.requires.pass
