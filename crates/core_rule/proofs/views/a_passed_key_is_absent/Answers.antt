use Rattle.core_rule.proofs.PassedKeys.{passed_vertex, passed_edge}
use Rattle.core_rule.proofs.views.a_passed_key_is_absent.Goals as goal

pub returns-clause-vertex : goal.returns-clause-vertex
returns-clause-vertex c = λ v z kept key place before live behind x p. passed_vertex v z kept key place before live
    behind x p

pub returns-clause-edge : goal.returns-clause-edge
returns-clause-edge c = λ v z kept source key place before live behind x link is unmarked from of_key. passed_edge v z
    kept source key place before live behind x link is unmarked from of_key
