use Rattle.core_rule.proofs.ViewShows.{life_shown, second_shown, key_shown, present_shown, absent_shown, edge_shown}
use Rattle.core_rule.proofs.ViewShows.{edge_live_shown, edge_dead_shown, may_raise}
use Rattle.core_rule.proofs.views.the_words_of_a_met_node_tell_its_life.Goals as goal

pub returns-clause-life : goal.returns-clause-life
returns-clause-life c = λ v z kept x l m. life_shown v z kept x l m

pub returns-clause-second : goal.returns-clause-second
returns-clause-second c = λ v z kept x m. second_shown v z kept x m

pub returns-clause-key : goal.returns-clause-key
returns-clause-key c = λ v z kept x m. key_shown v z kept x m

pub returns-clause-present : goal.returns-clause-present
returns-clause-present c = λ v z kept x m live. present_shown v z kept x m live

pub returns-clause-removed : goal.returns-clause-removed
returns-clause-removed c = λ v z kept x m dead. absent_shown v z kept x m dead

pub returns-clause-edge : goal.returns-clause-edge
returns-clause-edge c = λ v z kept source x m. edge_shown v z kept source x m

pub returns-clause-unmarked : goal.returns-clause-unmarked
returns-clause-unmarked c = λ v z kept source x m live. edge_live_shown v z kept source x m live

pub returns-clause-marked : goal.returns-clause-marked
returns-clause-marked c = λ v z kept source x m dead. edge_dead_shown v z kept source x m dead

pub returns-clause-may_raise : goal.returns-clause-may_raise
returns-clause-may_raise c = λ v z kept source x m from live few. may_raise v z kept source x m from live few
