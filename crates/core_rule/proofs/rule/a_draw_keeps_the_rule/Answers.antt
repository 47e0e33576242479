use mathlib.Core.Option.{none}
use Rattle.core_rule.proofs.StepsKeepRule.{draws_number}
use Rattle.core_rule.proofs.rule.a_draw_keeps_the_rule.Goals as goal

pub returns : goal.returns
returns c = λ n id a b v z has new room. draws_number n id a b none v z has new room
