use Rattle.op_text.proofs.RowDecimals.{number_of_decimals}
use Rattle.op_text.proofs.rows.numeral.numbers_are_decimal.Goals as goal

pub returns : goal.returns
returns c = number_of_decimals
