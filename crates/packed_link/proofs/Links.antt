-- Laws of packed links: packing reads back, and a mark keeps the rest of its word.
use Rattle.std.proofs.Common.{◌≡◌, ℕ, zero, suc, lit<, ◌+◌, ◌*◌, ◌/◌, ◌%◌, ◌^◌, ◌<◌, refl, sym, ap, ◌∙◌, arith}
use Rattle.std.specs.Prelude.{bit_or, bit_and}
use Rattle.std.proofs.lemmas.Nat.{or_block, or_disjoint, and_le_r}
use Rattle.packed_link.specs.Link.{pack, index_of, mark_of, tag_of, with_mark}

-- the index of a packed word
pub index_of-pack : (index mark tag : ℕ) → index < 2 ^ 24 → index_of (pack index mark tag) ≡ index
index_of-pack index mark tag small = omega arith

-- the mark of a packed word
pub mark_of-pack : (index mark tag : ℕ) → index < 2 ^ 24 → mark < 2 → mark_of (pack index mark tag) ≡ mark
mark_of-pack index mark tag small bit = omega arith

-- the tag of a packed word
pub tag_of-pack : (index mark tag : ℕ) → index < 2 ^ 24 → mark < 2 → tag_of (pack index mark tag) ≡ tag
tag_of-pack index mark tag small bit = omega arith

-- a word is packed of its parts
pub pack-parts : (word : ℕ) → pack (index_of word) (mark_of word) (tag_of word) ≡ word
pack-parts word = omega arith

-- two words with the same parts are one
pub same_parts : (word other : ℕ)
    → index_of word ≡ index_of other → mark_of word ≡ mark_of other → tag_of word ≡ tag_of other → word ≡ other
same_parts word other index mark tag = omega arith

-- the index of a word, below its limit
pub index_of-bound : (word : ℕ) → index_of word < 2 ^ 24
index_of-bound word = omega arith

-- a mark is 0 or 1
pub mark_of-bound : (word : ℕ) → mark_of word < 2
mark_of-bound word = omega arith

-- the tag of a word of 64 bits, below its limit
pub tag_of-bound : (word : ℕ) → word < 2 ^ 64 → tag_of word < 2 ^ 39
tag_of-bound word small = omega arith

-- a packed word has 64 bits
pub pack-bound : (index mark tag : ℕ) → index < 2 ^ 24 → mark < 2 → tag < 2 ^ 39 → pack index mark tag < 2 ^ 64
pack-bound index mark tag small bit life = omega arith

-- a marked word is marked
pub mark_of-with_mark : (word : ℕ) → mark_of (with_mark word) ≡ 1
mark_of-with_mark word = omega arith

-- marking keeps the index
pub index_of-with_mark : (word : ℕ) → index_of (with_mark word) ≡ index_of word
index_of-with_mark word = omega arith

-- marking keeps the tag
pub tag_of-with_mark : (word : ℕ) → tag_of (with_mark word) ≡ tag_of word
tag_of-with_mark word = omega arith

-- marking a marked word changes nothing
pub with_mark-marked : (word : ℕ) → mark_of word ≡ 1 → with_mark word ≡ word
with_mark-marked word marked = omega arith

-- marking an unmarked word adds the mark's bit
pub with_mark-unmarked : (word : ℕ) → mark_of word ≡ 0 → with_mark word ≡ word + 2 ^ 24
with_mark-unmarked word unmarked = omega arith

-- marking twice is marking once
pub with_mark-twice : (word : ℕ) → with_mark (with_mark word) ≡ with_mark word
with_mark-twice word = omega arith

-- marking a packed word
pub with_mark-pack : (index mark tag : ℕ)
    → index < 2 ^ 24 → mark < 2 → with_mark (pack index mark tag) ≡ pack index 1 tag
with_mark-pack index mark tag small bit = omega arith

-- a word of 64 bits keeps 64 bits
pub with_mark-bound : (word : ℕ) → word < 2 ^ 64 → with_mark word < 2 ^ 64
with_mark-bound word small = omega arith

or_zero : (a : ℕ) → bit_or a 0 ≡ a
or_zero a = let e : bit_and a 0 ≡ 0 = omega (arith, and_le_r a 0) in omega (arith, or_disjoint a 0 e)

or_bit : (a : ℕ) → a < 2 → bit_or a 1 ≡ 1
or_bit zero h = refl
or_bit (suc zero) h = refl
or_bit (suc (suc a)) h = absurd (omega arith)

or_one : (a : ℕ) → bit_or a 1 ≡ a / 2 * 2 + 1
or_one a =
    let e : a / 2 * 2 + a % 2 ≡ a = omega arith in
    let block = or_block 1 (a / 2) 0 (a % 2) 1 (omega arith) (lit< tt) in
    ap (λ (x : ℕ). bit_or x 1) (sym e) ∙ (block ∙ omega (arith, or_zero (a / 2), or_bit (a % 2) (omega arith)))

-- to set the mark's bit is to mark
pub bit_or-mark : (word : ℕ) → bit_or word 16777216 ≡ with_mark word
bit_or-mark word =
    let e : word / 16777216 * 16777216 + word % 16777216 ≡ word = omega arith in
    let block = or_block 24 (word / 16777216) 1 (word % 16777216) 0 (omega arith) (lit< tt) in
    let high = or_one (word / 16777216) in
    let low = or_zero (word % 16777216) in
    ap (λ (x : ℕ). bit_or x 16777216) (sym e) ∙ (block ∙ omega arith)
