use Rattle.core_counts.proofs.KnownSpentNodes.{got_itself, got_beyond, got_own, got_unlink, got_begins, got_done}
use Rattle.core_counts.proofs.KnownSpentNodes.{got_more}
use Rattle.core_counts.proofs.spending.a_caller_knows_what_it_got.Goals as goal

pub returns-clause-itself : goal.returns-clause-itself
returns-clause-itself c = λ sizes front caller but fin holder. got_itself sizes front caller but fin holder

pub returns-clause-others : goal.returns-clause-others
returns-clause-others c = λ sizes z caller last but front journal p kept quiet old from got g. got_beyond sizes z caller
    last but front journal p kept quiet old from got g

pub returns-clause-own : goal.returns-clause-own
returns-clause-own c = λ sizes z past e kept but n from got g. got_own sizes z past e kept but n from got g

pub returns-clause-unlink : goal.returns-clause-unlink
returns-clause-unlink c = λ sizes z past e kept but u from got g. got_unlink sizes z past e kept but u from got g

pub returns-clause-begins : goal.returns-clause-begins
returns-clause-begins c = λ sizes from journal caller x got g h. got_begins sizes from journal caller x got g h

pub returns-clause-done : goal.returns-clause-done
returns-clause-done c = λ sizes from journal caller x got g ends part. got_done sizes from journal caller x got g ends
    part

pub returns-clause-more : goal.returns-clause-more
returns-clause-more c = λ sizes from journal caller y but got g. got_more sizes from journal caller y but got g
