use Rattle.std.proofs.Common.{[]}
use Rattle.core_journal.proofs.Lists.{prefix_trans}
use Rattle.core_stretches.proofs.MakesAddUp.{makes_chain}
use Rattle.core_stretches.proofs.MakesTell.{makes_later}
use Rattle.scan_rows.proofs.RootsFound.{pass_on}
use Rattle.scan_rows.proofs.looking.look_at.Goals as goal

pub returns-clause-makes : goal.returns-clause-makes
returns-clause-makes c = makes_chain c.args.token.now.view c.record.new.token.view c.verify.new.token.view [] []
    c.record.ensures.makes c.verify.ensures.makes

pub returns-clause-told : goal.returns-clause-told
returns-clause-told c =
    let u = c.record.new.token.view in
    let r = c.in_ok-record.ensures.recorded in
    let f = r.collected.filled in
    let root = f.collected.rows 0 f.collected.some in
    record {
      start = r.start;
      end = u.front;
      since = r.since;
      then = prefix_trans r.start root.begin u.front
          (prefix_trans r.start root.found root.begin root.after root.then) root.before;
      until = (makes_later u c.verify.new.token.view [] c.verify.ensures.makes).grows;
      root_is = r.collected.key_is;
      verdict_is = c.verify.ensures.verdict r.start u.front f;
    }

pub returns-clause-pass : goal.returns-clause-pass
returns-clause-pass c = pass_on c.record.new.token.view c.verify.new.token.view c.verify.ensures.makes
    c.record.ensures.pass
