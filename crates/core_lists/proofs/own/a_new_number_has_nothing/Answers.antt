use Rattle.core_lists.proofs.NewNumbers.{new_closed, new_unfresh, new_unspent, new_made, new_quiet}
use Rattle.core_lists.proofs.own.a_new_number_has_nothing.Goals as goal

pub returns-clause-pass : goal.returns-clause-pass
returns-clause-pass c = λ sizes past e kept is. new_closed sizes past e kept is

pub returns-clause-fresh : goal.returns-clause-fresh
returns-clause-fresh c = λ sizes past e kept is x f. new_unfresh sizes past e kept is x f

pub returns-clause-spent : goal.returns-clause-spent
returns-clause-spent c = λ sizes past e kept is x f. new_unspent sizes past e kept is x f

pub returns-clause-made : goal.returns-clause-made
returns-clause-made c = λ sizes past e kept is test no. new_made sizes past e kept is test no

pub returns-clause-quiet : goal.returns-clause-quiet
returns-clause-quiet c = λ sizes past e kept is. new_quiet sizes past e kept is
