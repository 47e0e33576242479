use Rattle.core_rule.proofs.FreezeLifts.{edge_behind}
use Rattle.core_rule.proofs.retired.an_edge_behind_a_frozen_word_stays.Goals as goal

pub returns : goal.returns
returns c = λ v z source place x m journal r. edge_behind v z journal r source place x m
