use Rattle.std.proofs.Common.{◌≢◌}
use Rattle.core_stretches.proofs.MakesTell.{makes_goes, makes_own}
use Rattle.core_stretches.proofs.EdgeWords.{IsBeforeOf, IsOfSource, edge_words}
use Rattle.core_stretches.proofs.VertexWords.{IsBefore, IsInBucketOf, vertex_words}
use Rattle.core_stretches.proofs.WordsLeadOn.{word_goes, word_changed}
use Rattle.core_stretches.proofs.walks.loaded_words_go_on.Goals as goal

pub returns-clause-vertex : goal.returns-clause-vertex
returns-clause-vertex c = λ key place seen moment v w own stays apart makes h. word_goes
    (IsBefore key) place seen moment v w (makes_goes v w own stays makes)
    (makes_own (λ e. e.place ≢ place) v w own apart makes) h

pub returns-clause-edge : goal.returns-clause-edge
returns-clause-edge c = λ source key place seen moment v w own stays apart makes h. word_goes
    (IsBeforeOf source key) place seen moment v w (makes_goes v w own stays makes)
    (makes_own (λ e. e.place ≢ place) v w own apart makes) h

pub returns-clause-vertex_changed : goal.returns-clause-vertex_changed
returns-clause-vertex_changed c = λ key place seen moment v z h other. word_changed (IsInBucketOf key) (IsBefore key)
    (vertex_words key) place seen moment v z h other

pub returns-clause-edge_changed : goal.returns-clause-edge_changed
returns-clause-edge_changed c = λ source key place seen moment v z h other. word_changed (IsOfSource source)
    (IsBeforeOf source key) (edge_words source key) place seen moment v z h other
