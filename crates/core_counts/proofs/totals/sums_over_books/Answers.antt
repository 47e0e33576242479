use Rattle.core_counts.proofs.SumsOverBooks.{of_books}
use Rattle.core_counts.proofs.totals.sums_over_books.Goals as goal

pub returns : goal.returns
returns c = λ sizes journal kept test books most each few. of_books sizes journal kept test books most each few
