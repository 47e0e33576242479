use Rattle.hand_rows.proofs.WorkGoesOn.{marked_met, marked_work}
use Rattle.hand_rows.proofs.lent.mark_or_answer.Goals as goal

pub returns-in-Won-clause-work : goal.returns-in-Won-clause-work
returns-in-Won-clause-work c = λ _. marked_work c.args.table.now c.args.token.now c.mark.new.token c.args.life
    c.in-Won.ensures.table c.requires.work c.in-Won.ensures.marked

pub returns-in-Won-clause-vertex : goal.returns-in-Won-clause-vertex
returns-in-Won-clause-vertex c = λ _. marked_met c.args.table.now c.args.token.now c.mark.new.token c.args.life
    c.requires.work c.in-Won.ensures.marked c.requires.vertex
