use Rattle.core_stretches.specs.Moments.{Lacks, LacksEdge}
use Rattle.core_stretches.proofs.EdgeWords.{IsBeforeOf, IsOfSource, edge_walks, edge_words}
use Rattle.core_stretches.proofs.VertexWords.{IsBefore, IsInBucketOf, vertex_walks, vertex_words}
use Rattle.core_stretches.proofs.WordsLeadOn.{word_leads, node_passed}
use Rattle.core_stretches.proofs.walks.loaded_words_lead_on.Goals as goal

pub returns-clause-vertex : goal.returns-clause-vertex
returns-clause-vertex c = λ key place seen moment v z h some. word_leads (IsInBucketOf key) (IsBefore key)
    (vertex_words key) place seen moment v z h some

pub returns-clause-edge : goal.returns-clause-edge
returns-clause-edge c = λ source key place seen moment v z h some.
    (word_leads (IsOfSource source) (IsBeforeOf source key) (edge_words source key) place seen moment v z h some).1

pub returns-clause-vertex_next : goal.returns-clause-vertex_next
returns-clause-vertex_next c = λ key v x found link kept opened n below live. node_passed key (IsInBucketOf key)
    (IsBefore key) (Lacks key) (vertex_walks key) v x found link kept opened n below live

pub returns-clause-edge_next : goal.returns-clause-edge_next
returns-clause-edge_next c = λ source key v x found link kept opened n below live. node_passed key (IsOfSource source)
    (IsBeforeOf source key) (LacksEdge source key) (edge_walks source key) v x found link kept opened n below live
