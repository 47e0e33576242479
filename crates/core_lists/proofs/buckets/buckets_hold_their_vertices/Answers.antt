use Rattle.core_lists.proofs.BucketChains.{bucket_chains}
use Rattle.core_lists.proofs.OneVertexOfKey.{vertex_of, in_bucket}
use Rattle.core_lists.proofs.buckets.buckets_hold_their_vertices.Goals as goal

pub returns-clause-chains : goal.returns-clause-chains
returns-clause-chains c = λ sizes z journal kept. bucket_chains sizes z journal kept

pub returns-clause-lives : goal.returns-clause-lives
returns-clause-lives c = λ sizes z journal kept j x. (
  vertex_of sizes z journal kept j x,
  in_bucket sizes z journal kept
      j x,
)
