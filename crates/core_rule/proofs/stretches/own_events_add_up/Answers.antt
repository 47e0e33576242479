use Rattle.std.proofs.Common.{◌≡◌, true}
use Rattle.core_rule.specs.Stretches.{Elsewhere, Leaves}
use Rattle.core_rule.proofs.OwnStretch.{own_self, own_look, own_event, own_chain}
use Rattle.core_rule.proofs.stretches.own_events_add_up.Goals as goal

pub returns-clause-same : goal.returns-clause-same
returns-clause-same c = λ test v. own_self (λ past e. test past e ≡ true) v

pub returns-clause-look : goal.returns-clause-look
returns-clause-look c = λ test v w t. own_look (λ past e. test past e ≡ true) v w t

pub returns-clause-step : goal.returns-clause-step
returns-clause-step c = λ test v w e t p. own_event (λ past e. test past e ≡ true) v w e t p

pub returns-clause-chain : goal.returns-clause-chain
returns-clause-chain c = λ test u v w n p a b. own_chain (λ past e. test past e ≡ true) u v w n p a b

pub returns-clause-leaves : goal.returns-clause-leaves
returns-clause-leaves c = λ u v w n p a b. own_chain Leaves u v w n p a b

pub returns-clause-elsewhere : goal.returns-clause-elsewhere
returns-clause-elsewhere c = λ place u v w n p a b. own_chain (Elsewhere place) u v w n p a b
