use Rattle.core_rule.proofs.ViewShows.{head_shown, vertex_link_shown, edge_link_shown, list_shown}
use Rattle.core_rule.proofs.views.a_word_leads_to_what_is_met.Goals as goal

pub returns-clause-bucket : goal.returns-clause-bucket
returns-clause-bucket c = λ v z kept o j low. head_shown v z kept o j low

pub returns-clause-vertex : goal.returns-clause-vertex
returns-clause-vertex c = λ v z kept x m. vertex_link_shown v z kept x m

pub returns-clause-edge : goal.returns-clause-edge
returns-clause-edge c = λ v z kept source x m. edge_link_shown v z kept source x m

pub returns-clause-list : goal.returns-clause-list
returns-clause-list c = λ v z kept x m. list_shown v z kept x m
