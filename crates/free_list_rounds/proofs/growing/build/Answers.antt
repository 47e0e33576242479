use Rattle.free_list_rounds.proofs.WorkGoesOn.{counts_same}
use Rattle.free_list_rounds.proofs.growing.build.Goals as goal

pub returns-in-Some-clause-counts : goal.returns-in-Some-clause-counts
returns-in-Some-clause-counts c = counts_same c.args.token.now.view c.supply-spare.new.token.view
    c.grow.new.token.view c.supply-spare.ensures.counts c.grow.ensures.counts
