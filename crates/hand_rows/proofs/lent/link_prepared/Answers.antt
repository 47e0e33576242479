use Rattle.hand_rows.proofs.WorkGoesOn.{linked_work}
use Rattle.hand_rows.proofs.lent.link_prepared.Goals as goal

pub returns : goal.returns
returns c = record {
  work = linked_work c.link.result c.args.gap c.args.fresh c.args.table.now c.args.token.now c.link.new.token
      c.link.ensures.table c.requires.work c.link.ensures.linked;
}
