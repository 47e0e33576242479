use Rattle.std.proofs.Common.{[], None, refl, subst, arith}
use Rattle.free_list_rounds.specs.Rounds.{HoldsSpareOrNone}
use Rattle.free_list_rounds.proofs.StagesTell.{took_work, took_pass, took_counts}
use Rattle.free_list_rounds.proofs.WorkGoesOn.{counts_go, goes_look, spares_look}
use Rattle.free_list_rounds.proofs.growing.supply.Goals as goal

pub returns-in-Node-clause-pass : goal.returns-in-Node-clause-pass
returns-in-Node-clause-pass c = took_pass c.args.token.now.view c.take.new.token.view c.in-Node.fresh
    c.requires.table.layout c.in-Node.ensures.taken c.requires.pass

pub returns-in-Node-clause-work : goal.returns-in-Node-clause-work
returns-in-Node-clause-work c = took_work c.args.token.now.view c.take.new.token.view c.in-Node.fresh
    c.requires.table.layout c.in-Node.ensures.taken

pub returns-in-Node-clause-counts : goal.returns-in-Node-clause-counts
returns-in-Node-clause-counts c = took_counts c.args.token.now.view c.take.new.token.view c.in-Node.fresh
    c.requires.table.layout c.in-Node.ensures.taken

pub returns-in-Empty-clause-pass : goal.returns-in-Empty-clause-pass
returns-in-Empty-clause-pass c = (goes_look c.args.token.now.view c.take.new.token.view c.requires.table.layout
    c.in-Empty.ensures.taken.makes).pass c.requires.pass

pub returns-in-Empty-clause-spare : goal.returns-in-Empty-clause-spare
returns-in-Empty-clause-spare c = spares_look c.args.token.now.view c.take.new.token.view c.requires.table.layout
    c.in-Empty.ensures.taken.makes None
    (subst (λ s. HoldsSpareOrNone s c.args.token.now.view) c.in-None.is c.requires.spare)

pub returns-in-Empty-clause-work : goal.returns-in-Empty-clause-work
returns-in-Empty-clause-work c = (goes_look c.args.token.now.view c.take.new.token.view c.requires.table.layout
    c.in-Empty.ensures.taken.makes).work

pub returns-in-Empty-clause-counts : goal.returns-in-Empty-clause-counts
returns-in-Empty-clause-counts c = counts_go c.args.token.now.view c.take.new.token.view [] c.requires.table.layout
    c.in-Empty.ensures.taken.makes 0 0 0 refl refl (omega arith)

pub returns-in-Lost-clause-pass : goal.returns-in-Lost-clause-pass
returns-in-Lost-clause-pass c = (goes_look c.args.token.now.view c.take.new.token.view c.requires.table.layout
    c.in-Lost.ensures.taken.makes).pass c.requires.pass

pub returns-in-Lost-clause-spare : goal.returns-in-Lost-clause-spare
returns-in-Lost-clause-spare c = spares_look c.args.token.now.view c.take.new.token.view c.requires.table.layout
    c.in-Lost.ensures.taken.makes None
    (subst (λ s. HoldsSpareOrNone s c.args.token.now.view) c.in-None.is c.requires.spare)

pub returns-in-Lost-clause-work : goal.returns-in-Lost-clause-work
returns-in-Lost-clause-work c = (goes_look c.args.token.now.view c.take.new.token.view c.requires.table.layout
    c.in-Lost.ensures.taken.makes).work

pub returns-in-Lost-clause-counts : goal.returns-in-Lost-clause-counts
returns-in-Lost-clause-counts c = counts_go c.args.token.now.view c.take.new.token.view [] c.requires.table.layout
    c.in-Lost.ensures.taken.makes 0 0 0 refl refl (omega arith)
