-- The token of a hand, lent for writing.
use Rattle.std.specs.Borrow.{Lends, MutBor, Fml}
use Rattle.graph_table.specs.Tokens.{TokenValue}
use Rattle.graph_table.specs.contracts.table.Token.{the_row as token_row}
use Rattle.graph_updates.specs.Hands.{HandValue}
use Rattle.graph_updates.specs.contracts.hand.Hand.{the_row}

-- the hand ends with the token as it's left, and else as it was
abbrev pub LendsToken : MutBor HandValue → MutBor TokenValue → Fml
LendsToken s r = Lends the_row token_row s r (λ t. record s.now { token = t })
