use Rattle.scans_worked.proofs.KeptQueries.{kept_44}
use Rattle.scans_worked.proofs.QueriesLook.{looks_before, looks_between, looks_after}
use Rattle.scans_worked.proofs.worked_queries_are_on_a_kept_journal.Goals as goal

pub returns-clause-kept : goal.returns-clause-kept
returns-clause-kept c = kept_44

pub returns-clause-before : goal.returns-clause-before
returns-clause-before c = looks_before

pub returns-clause-between : goal.returns-clause-between
returns-clause-between c = looks_between

pub returns-clause-after : goal.returns-clause-after
returns-clause-after c = looks_after
