-- What a walker has in hand at a word of a chain: the place of a key, and the rest of the chain.
use Rattle.std.specs.Prelude.{◌≢◌, ℕ, ◌<◌, Bool, ◌&&◌, ◌||◌, nat_lt, nat_eq}
use Rattle.packed_link.specs.Link.{nowhere}
use Rattle.core_chain.specs.Chain.{Chain, ChainWord, Head, Next, IsOn, rank_of, since_of}

-- a word stands before a key: the head before every key, a node's link before those greater than its own
abbrev pub StandsBelow : Chain → ChainWord → ℕ → Type 0
StandsBelow chain Head key = Unit {0}
StandsBelow chain (Next x) key = chain.key x < key

-- a word on the chain leads past a key: it stands before the key, and leads to a node of a greater key or to
-- none
pub record Passes (chain : Chain) (at : ChainWord) (key : ℕ) : Type 0 where
  pub present : IsOn chain at
  pub above : StandsBelow chain at key
  pub below : chain.next at ≢ nowhere → key < chain.key (chain.next at)

-- the word that a word of the rest is on the whole chain: the rest has the given word as its head
abbrev pub word_behind : ChainWord → ChainWord → ChainWord
word_behind p Head = p
word_behind p (Next x) = Next x

-- whether the second word stands behind the first
abbrev pub stands_behind : Chain → ChainWord → ChainWord → Bool
stands_behind chain p q =
    nat_lt (rank_of chain p) (rank_of chain q)
    || nat_eq (rank_of chain p) (rank_of chain q) && nat_lt (since_of chain p) (since_of chain q)

-- the rest of a chain, behind a word
abbrev pub rest_behind : Chain → ChainWord → Chain
rest_behind chain p = record {
  on = λ x. chain.on x && stands_behind chain p (Next x);
  key = chain.key;
  since = chain.since;
  next = λ q. chain.next (word_behind p q);
  mark = λ q. chain.mark (word_behind p q);
}
