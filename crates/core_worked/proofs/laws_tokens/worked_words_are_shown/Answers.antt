use Rattle.core_worked.proofs.WorkedTokens.{bucket_leads, vertex_leads, list_leads, edge_leads, life_told, second_told}
use Rattle.core_worked.proofs.WorkedTokens.{key_told, present_told, removed_told, edge_told, unmarked_told, marked_told}
use Rattle.core_worked.proofs.WorkedTokens.{raise_told, no_vertex_told, no_edge_told}
use Rattle.core_worked.proofs.laws_tokens.worked_words_are_shown.Goals as goal

pub returns-clause-bucket : goal.returns-clause-bucket
returns-clause-bucket c = bucket_leads

pub returns-clause-vertex : goal.returns-clause-vertex
returns-clause-vertex c = vertex_leads

pub returns-clause-list : goal.returns-clause-list
returns-clause-list c = list_leads

pub returns-clause-edge : goal.returns-clause-edge
returns-clause-edge c = edge_leads

pub returns-clause-life : goal.returns-clause-life
returns-clause-life c = life_told

pub returns-clause-second : goal.returns-clause-second
returns-clause-second c = second_told

pub returns-clause-key : goal.returns-clause-key
returns-clause-key c = key_told

pub returns-clause-present : goal.returns-clause-present
returns-clause-present c = present_told

pub returns-clause-removed : goal.returns-clause-removed
returns-clause-removed c = removed_told

pub returns-clause-shown : goal.returns-clause-shown
returns-clause-shown c = edge_told

pub returns-clause-unmarked : goal.returns-clause-unmarked
returns-clause-unmarked c = unmarked_told

pub returns-clause-marked : goal.returns-clause-marked
returns-clause-marked c = marked_told

pub returns-clause-may_raise : goal.returns-clause-may_raise
returns-clause-may_raise c = raise_told

pub returns-clause-no_vertex : goal.returns-clause-no_vertex
returns-clause-no_vertex c = λ x is. no_vertex_told x is

pub returns-clause-no_edge : goal.returns-clause-no_edge
returns-clause-no_edge c = λ x link is live from key. no_edge_told x link is live from key
