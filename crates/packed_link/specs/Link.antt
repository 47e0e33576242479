-- A packed link: one word that names a node's life and carries one mark.
-- From its lowest bit on, a word has an index of 24 bits, a mark of one bit and a tag of 39 bits.
use Rattle.std.specs.Prelude.{ℕ, ◌+◌, ◌*◌, ◌/◌, ◌%◌, ◌^◌, ◌<◌, Bool, true, false}

-- the word of an index below 2 ^ 24, a mark that is 0 or 1, and a tag
abbrev pub pack : ℕ → ℕ → ℕ → ℕ
pack index mark tag = index + mark * 2 ^ 24 + tag * 2 ^ 25

-- parts that fit: an index of 24 bits, one bit of mark and a tag of 39 bits
pub record AreParts (index mark tag : ℕ) : Type 0 where
  pub index_fits : index < 2 ^ 24
  pub mark_fits : mark < 2
  pub tag_fits : tag < 2 ^ 39

-- the index of a word: which node it leads to
abbrev pub index_of : ℕ → ℕ
index_of word = word % 2 ^ 24

-- the mark of a word: 1 where it is set, else 0
abbrev pub mark_of : ℕ → ℕ
mark_of word = word / 2 ^ 24 % 2

-- the tag of a word: which life of the node is meant
abbrev pub tag_of : ℕ → ℕ
tag_of word = word / 2 ^ 25

-- the same word with its mark set
abbrev pub with_mark : ℕ → ℕ
with_mark word = pack (index_of word) 1 (tag_of word)

-- a mark as a `bool` of the program has it
abbrev pub mark_bit : Bool → ℕ
mark_bit true = 1
mark_bit false = 0

-- the index that names no node: the greatest one of 24 bits
abbrev pub nowhere : ℕ
nowhere = 16777215
