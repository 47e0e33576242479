use Rattle.std.proofs.Common.{[]}
use Rattle.core_stretches.proofs.MakesAddUp.{makes_chain}
use Rattle.hand_rows.proofs.WorkGoesOn.{work_goes}
use Rattle.hand_rows.proofs.lent.look.Goals as goal

pub returns-clause-work : goal.returns-clause-work
returns-clause-work c =
    let t = c.args.token.now in
    let m = c.start-first.new.token in
    let u = c.walk.new.token in
    work_goes c.args.table.now t u [] tt (makes_chain t.view m.view u.view [] [] c.start-first.ensures.makes
    c.walk.ensures.makes) c.walk.ensures.table c.requires.work
