use Rattle.std.proofs.Common.{arith}
use Rattle.core_counts.proofs.CountedAreFew.{few_by_kinds, few_by_links, few_of_callers, foreign_few}
use Rattle.core_counts.proofs.totals.counted_events_are_few.Goals as goal

pub returns-clause-by_kinds : goal.returns-clause-by_kinds
returns-clause-by_kinds c = λ sizes z journal kept callers drawn again raise. few_by_kinds sizes z journal kept callers
    drawn again raise

pub returns-clause-by_links : goal.returns-clause-by_links
returns-clause-by_links c = λ sizes z journal kept callers drawn again raise. few_by_links sizes z journal kept callers
    drawn again raise

pub returns-clause-by_takes : goal.returns-clause-by_takes
returns-clause-by_takes c = λ sizes z journal kept callers uses drawn again raise low less. few_of_callers sizes z
    journal kept callers uses drawn again raise low less

pub returns-clause-foreign : goal.returns-clause-foreign
returns-clause-foreign c = λ journal caller start end. foreign_few journal caller start end

pub returns-clause-again : goal.returns-clause-again
returns-clause-again c = λ journal caller e a. let h = a.lost in omega
    (arith, h, foreign_few journal caller e.start e.end)
