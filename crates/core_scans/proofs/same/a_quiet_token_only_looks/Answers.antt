use Rattle.core_scans.proofs.OnlyLooking.{looks_by_view, looks_until}
use Rattle.core_scans.proofs.same.a_quiet_token_only_looks.Goals as goal

pub returns-clause-view : goal.returns-clause-view
returns-clause-view c = looks_by_view

pub returns-clause-until : goal.returns-clause-until
returns-clause-until c = looks_until
