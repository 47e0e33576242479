use Rattle.core_kept.proofs.BucketWords.{bucket_unmarked}
use Rattle.core_kept.proofs.moments.the_word_of_a_bucket_is_unmarked.Goals as goal

pub returns : goal.returns
returns c = λ sizes z journal kept j low. bucket_unmarked sizes z journal kept j low
