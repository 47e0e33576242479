-- Where the words of one table stand. The meeting word comes first, at place 0: it is loaded by tokens that
-- split or join, and never changes. Then come the number of caller numbers drawn, the epoch, the free list,
-- an announcement for each caller, a head for each bucket, and four words for each node.
use Rattle.std.specs.Prelude.{ℕ, ◌+◌, ◌*◌, ◌<◌, ◌≤◌}

-- how many callers, nodes and buckets a table has
pub record Sizes : Type 0 where
  pub callers : ℕ
  pub nodes : ℕ
  pub buckets : ℕ

-- sizes within the limits: 1 to 16 callers, 1 to 65,536 nodes and as many buckets
pub record IsLayout (sizes : Sizes) : Type 0 where
  pub some_callers : 1 ≤ sizes.callers
  pub few_callers : sizes.callers ≤ 16
  pub some_nodes : 1 ≤ sizes.nodes
  pub few_nodes : sizes.nodes ≤ 65536
  pub some_buckets : 1 ≤ sizes.buckets
  pub few_buckets : sizes.buckets ≤ 65536

-- how many words the table has
abbrev pub word_count : Sizes → ℕ
word_count sizes = 4 + sizes.callers + sizes.buckets + 4 * sizes.nodes

-- the place of the word that counts how many caller numbers are drawn
abbrev pub number_at : Sizes → ℕ
number_at sizes = 1

-- the place of the epoch
abbrev pub epoch_at : Sizes → ℕ
epoch_at sizes = 2

-- the place of the link to the first free node
abbrev pub free_at : Sizes → ℕ
free_at sizes = 3

-- the place of a caller's announcement
abbrev pub announce_at : Sizes → ℕ → ℕ
announce_at sizes caller = 4 + caller

-- the place of the link to the first vertex of a bucket
abbrev pub bucket_at : Sizes → ℕ → ℕ
bucket_at sizes bucket = 4 + sizes.callers + bucket

-- the place of a node's key
abbrev pub key_at : Sizes → ℕ → ℕ
key_at sizes index = 4 + sizes.callers + sizes.buckets + 4 * index

-- the place of a node's link to the next
abbrev pub link_at : Sizes → ℕ → ℕ
link_at sizes index = 4 + sizes.callers + sizes.buckets + 4 * index + 1

-- the place of a node's second word: a vertex's link to its first edge, or an edge's target
abbrev pub second_at : Sizes → ℕ → ℕ
second_at sizes index = 4 + sizes.callers + sizes.buckets + 4 * index + 2

-- the place of a node's third word: a vertex's counter of edge changes, or an edge's weight
abbrev pub third_at : Sizes → ℕ → ℕ
third_at sizes index = 4 + sizes.callers + sizes.buckets + 4 * index + 3

-- the words of a table by their names
pub data Place : Type 0 where
  MeetingWord : Place
  NumberWord : Place
  EpochWord : Place
  FreeWord : Place
  AnnounceWord : ℕ → Place
  BucketWord : ℕ → Place
  KeyWord : ℕ → Place
  LinkWord : ℕ → Place
  SecondWord : ℕ → Place
  ThirdWord : ℕ → Place

-- a name that a table of these sizes has
abbrev pub IsPlace : Sizes → Place → Type 0
IsPlace sizes MeetingWord = Unit {0}
IsPlace sizes NumberWord = Unit {0}
IsPlace sizes EpochWord = Unit {0}
IsPlace sizes FreeWord = Unit {0}
IsPlace sizes (AnnounceWord caller) = caller < sizes.callers
IsPlace sizes (BucketWord bucket) = bucket < sizes.buckets
IsPlace sizes (KeyWord index) = index < sizes.nodes
IsPlace sizes (LinkWord index) = index < sizes.nodes
IsPlace sizes (SecondWord index) = index < sizes.nodes
IsPlace sizes (ThirdWord index) = index < sizes.nodes

-- where the word of a name stands
abbrev pub place_of : Sizes → Place → ℕ
place_of sizes MeetingWord = 0
place_of sizes NumberWord = number_at sizes
place_of sizes EpochWord = epoch_at sizes
place_of sizes FreeWord = free_at sizes
place_of sizes (AnnounceWord caller) = announce_at sizes caller
place_of sizes (BucketWord bucket) = bucket_at sizes bucket
place_of sizes (KeyWord index) = key_at sizes index
place_of sizes (LinkWord index) = link_at sizes index
place_of sizes (SecondWord index) = second_at sizes index
place_of sizes (ThirdWord index) = third_at sizes index
