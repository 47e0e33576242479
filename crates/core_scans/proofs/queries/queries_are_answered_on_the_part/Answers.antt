use Rattle.core_scans.proofs.AnsweredOnThePart.{levels_on, reach_on, cheapest_on}
use Rattle.core_scans.proofs.queries.queries_are_answered_on_the_part.Goals as goal

pub returns-clause-levels : goal.returns-clause-levels
returns-clause-levels c = levels_on

pub returns-clause-reach : goal.returns-clause-reach
returns-clause-reach c = reach_on

pub returns-clause-cheapest : goal.returns-clause-cheapest
returns-clause-cheapest c = cheapest_on
