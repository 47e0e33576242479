-- The words of the worked journals, computed.
use Rattle.std.proofs.Common.{◌≡◌, refl, [], ◌∷◌}
use Rattle.core_journal.specs.Machine.{opening_words, machine}
use Rattle.core_journal.specs.State.{state, Linked}
use Rattle.core_journal.specs.GraphOf.{graph_of}
use Rattle.core_journal.specs.Life.{key_of, link_of}
use Rattle.core_journal.specs.History.{}
use Rattle.core_journal.specs.FirstVertex.{tiny, words_before, words_after, eight_events, key_seven}
use Rattle.core_journal.specs.Worked.{small}
use Rattle.core_journal.specs.SecondLife.{second_life, words_again}
use Rattle.core_journal.specs.TwoCallers.{callers_journal, callers_words}

pub words_first : opening_words tiny ≡ words_before
words_first = refl

pub words_last : machine tiny eight_events ≡ words_after
unfolding machine
words_last = refl

pub words_callers : machine small callers_journal ≡ callers_words
unfolding machine
words_callers = refl

pub edges_callers : (state small callers_journal).edges 0 ≡ 2 ∷ []
unfolding state
edges_callers = refl

pub bucket_callers : (state small callers_journal).bucket 0 ≡ 0 ∷ []
unfolding state
bucket_callers = refl

pub free_callers : (state small callers_journal).free ≡ 3 ∷ 4 ∷ 5 ∷ 6 ∷ 7 ∷ []
unfolding state
free_callers = refl

pub words_second : machine tiny second_life ≡ words_again
unfolding machine
words_second = refl

pub tag_second : ((state tiny second_life).node 0).tag ≡ 2
unfolding state
tag_second = refl

pub ended_second : ((state tiny second_life).node 0).ended ≡ 12
unfolding state
ended_second = refl

pub since_second : ((state tiny second_life).pass 0).since ≡ 18
unfolding state
since_second = refl

pub free_eight : (state tiny eight_events).free ≡ 1 ∷ []
unfolding state
free_eight = refl

pub bucket_eight : (state tiny eight_events).bucket 0 ≡ 0 ∷ []
unfolding state
bucket_eight = refl

pub node_eight : ((state tiny eight_events).node 0).mode ≡ Linked
unfolding state
node_eight = refl

pub pass_eight : ((state tiny eight_events).pass 0).since ≡ 1
unfolding state
pass_eight = refl

pub graph_eight : graph_of eight_events ≡ key_seven
unfolding graph_of key_of link_of
graph_eight = refl
