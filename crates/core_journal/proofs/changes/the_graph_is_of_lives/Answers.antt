use Rattle.core_journal.proofs.LivesOf.{life_of_key, key_of_life, life_of_pair, pair_of_life, only_pair, ends_there}
use Rattle.core_journal.proofs.changes.the_graph_is_of_lives.Goals as goal

pub returns-clause-keys : goal.returns-clause-keys
returns-clause-keys c = λ journal key. (λ h. life_of_key journal key h, λ p. key_of_life journal p.0 key p.1)

pub returns-clause-weights : goal.returns-clause-weights
returns-clause-weights c = λ journal a b w h. life_of_pair journal a b w h

pub returns-clause-pairs : goal.returns-clause-pairs
returns-clause-pairs c = λ journal x a b w h. pair_of_life journal x a b w h

pub returns-clause-only : goal.returns-clause-only
returns-clause-only c = λ journal x a b w h only. only_pair journal x a b w h only

pub returns-clause-ends : goal.returns-clause-ends
returns-clause-ends c = λ journal a b w h. ends_there journal a b w h
