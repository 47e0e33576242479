use Rattle.core_counts.proofs.SumsOverCallers.{all_sum, total_most}
use Rattle.core_counts.proofs.totals.sums_over_callers.Goals as goal

pub returns-clause-sum : goal.returns-clause-sum
returns-clause-sum c = λ sizes journal kept test callers low. all_sum sizes test callers journal kept low

pub returns-clause-most : goal.returns-clause-most
returns-clause-most c = λ f g callers h. total_most f g callers h
