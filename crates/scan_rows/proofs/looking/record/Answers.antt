use Rattle.std.proofs.Common.{[]}
use Rattle.core_stretches.proofs.MakesAddUp.{makes_chain}
use Rattle.scan_rows.proofs.RootsFound.{pass_on}
use Rattle.scan_rows.proofs.looking.record.Goals as goal

pub returns-clause-makes : goal.returns-clause-makes
returns-clause-makes c = makes_chain c.args.token.now.view c.find_root.new.token.view c.collect.new.token.view [] []
    c.find_root.ensures.makes c.collect.ensures.makes

pub returns-clause-recorded : goal.returns-clause-recorded
returns-clause-recorded c =
    let f = c.in_ok-root.ensures.found in
    record {
      root = c.in_ok-root.root;
      start = f.start;
      since = f.since;
      collected = c.collect.ensures.filled f.start c.args.key f.found;
    }

pub returns-clause-pass : goal.returns-clause-pass
returns-clause-pass c = pass_on c.find_root.new.token.view c.collect.new.token.view c.collect.ensures.makes
    (pass_on c.args.token.now.view c.find_root.new.token.view c.find_root.ensures.makes
    c.requires.pass)

pub returns-in_err-root-clause-pass : goal.returns-in_err-root-clause-pass
returns-in_err-root-clause-pass c = pass_on c.args.token.now.view c.find_root.new.token.view c.find_root.ensures.makes
    c.requires.pass
