use Rattle.core_stretches.specs.Moments.{Lacks, LacksEdge}
use Rattle.core_stretches.proofs.EdgeWords.{IsBeforeOf, IsOfSource, edge_walks}
use Rattle.core_stretches.proofs.VertexWords.{IsBefore, IsInBucketOf, vertex_walks}
use Rattle.core_stretches.proofs.WordsLeadOn.{word_passes}
use Rattle.core_stretches.proofs.walks.a_key_that_a_loaded_word_passes_was_absent.Goals as goal

pub returns-clause-vertex : goal.returns-clause-vertex
returns-clause-vertex c = λ key place seen moment v z h past. word_passes key (IsInBucketOf key) (IsBefore key)
    (Lacks key) (vertex_walks key) place seen moment v z h past

pub returns-clause-edge : goal.returns-clause-edge
returns-clause-edge c = λ source key place seen moment v z h past. word_passes key (IsOfSource source)
    (IsBeforeOf source key) (LacksEdge source key) (edge_walks source key) place seen moment v z h past
