use Rattle.core_rule.proofs.OwnByKind.{own_fresh_by_kind, own_spent_by_kind, own_stored}
use Rattle.core_rule.proofs.words.own_words_stay_by_kind.Goals as goal

pub returns-clause-fresh : goal.returns-clause-fresh
returns-clause-fresh c = λ v w own z t x there spares f. own_fresh_by_kind v w own z t x there spares f

pub returns-clause-spent : goal.returns-clause-spent
returns-clause-spent c = λ v w own z t x there spares f. own_spent_by_kind v w own z t x there spares f

pub returns-clause-stored : goal.returns-clause-stored
returns-clause-stored c = λ v w e z t is x there f. own_stored v w e z t is x there f
