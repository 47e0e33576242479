-- Where a hand stood when its call was entered.
use Rattle.std.proofs.Common.{◌≡◌, length, ap, ◌∙◌}
use Rattle.graph_table.specs.Tokens.{TokenValue}
use Rattle.graph_updates.specs.Hands.{HandValue}
use Rattle.graph_updates.specs.contracts.replying.Entered.{the_invariant, the_view}
use Rattle.graph_updates.specs.declared.replying.Entered.TheInside.{Inside}

pub began : (x : Inside) (old : HandValue) → the_invariant x → the_view x ≡ old
    → length x.token.value.view.front ≡ length old.token.view.front
began x old h is = ap (λ (t : TokenValue). length t.view.front) h ∙ ap (λ (y : HandValue). length y.token.view.front) is
