use Rattle.core_epoch.proofs.FreeList.{free_new, free_taken, free_given, free_left}
use Rattle.core_epoch.proofs.free.the_free_list_is_exact.Goals as goal

pub returns-clause-opening : goal.returns-clause-opening
returns-clause-opening c = free_new

pub returns-clause-take : goal.returns-clause-take
returns-clause-take c = free_taken

pub returns-clause-give : goal.returns-clause-give
returns-clause-give c = free_given

pub returns-clause-leave : goal.returns-clause-leave
returns-clause-leave c = free_left
