use Rattle.core_lists.proofs.OwnUnlinksOnly.{stays_but_unlinked, list_stays}
use Rattle.core_lists.proofs.uncounted.own_unlinks_take_away_no_more.Goals as goal

pub returns-clause-stays : goal.returns-clause-stays
returns-clause-stays c = λ sizes z front rest kept caller are. stays_but_unlinked sizes z front caller rest kept are

pub returns-clause-lists : goal.returns-clause-lists
returns-clause-lists c = λ sizes front rest caller x t has. list_stays sizes front rest caller x t has
