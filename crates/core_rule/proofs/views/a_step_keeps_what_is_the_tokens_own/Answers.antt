use Rattle.core_rule.proofs.OwnByView.{own_fresh_kept, own_none_kept, own_spent_still, own_spent_kept, own_stamp_still}
use Rattle.core_rule.proofs.OwnByView.{own_ripe_still, own_list_still, own_word_still, own_end_still, own_ends_still}
use Rattle.core_rule.proofs.OwnByView.{own_made_same}
use Rattle.core_rule.proofs.views.a_step_keeps_what_is_the_tokens_own.Goals as goal

pub returns-clause-fresh : goal.returns-clause-fresh
returns-clause-fresh c = λ v w own z t x there spares f. own_fresh_kept v w own z t x there spares f

pub returns-clause-none_fresh : goal.returns-clause-none_fresh
returns-clause-none_fresh c = λ v w own t spares none. own_none_kept v w own t spares none

pub returns-clause-spent : goal.returns-clause-spent
returns-clause-spent c = λ v w own z t x spares l f. own_spent_still v w own z t x spares l f

pub returns-clause-spent_words : goal.returns-clause-spent_words
returns-clause-spent_words c = λ v w own z t x there spares f. own_spent_kept v w own z t x there spares f

pub returns-clause-stamp : goal.returns-clause-stamp
returns-clause-stamp c = λ v w own z t x stamp spares f. own_stamp_still v w own z t x stamp spares f

pub returns-clause-ripe : goal.returns-clause-ripe
returns-clause-ripe c = λ v w own z t x spares f. own_ripe_still v w own z t x spares f

pub returns-clause-list : goal.returns-clause-list
returns-clause-list c = λ v w own z t x spares f k. own_list_still v w own z t x spares f k

pub returns-clause-frozen_word : goal.returns-clause-frozen_word
returns-clause-frozen_word c = λ v w own z t x place spares f k frozen. own_word_still v w own z t x place spares f k
    frozen

pub returns-clause-finished : goal.returns-clause-finished
returns-clause-finished c = λ v w own z t x there spares f done. own_end_still v w own z t x there spares f done

pub returns-clause-lists_finished : goal.returns-clause-lists_finished
returns-clause-lists_finished c = λ v w own z t x there spares f done. own_ends_still v w own z t x there spares f done

pub returns-clause-counts : goal.returns-clause-counts
returns-clause-counts c = λ v w own t test spares. own_made_same v w own t test spares
