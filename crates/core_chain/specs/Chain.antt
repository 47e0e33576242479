-- One marked sorted chain at one moment, as plain data (Harris 2001, Michael 2002). A chain starts at a head
-- word, each node's link leads to the next, and the last leads to none. A marked node is still on the chain
-- until it is unlinked. A marked node may be followed by one of its own key, which replaces it.
use Rattle.std.specs.Prelude.{◌≡◌, ◌≢◌, ◌⊎◌, ℕ, ◌+◌, ◌<◌, Bool, IsTrue}
use Rattle.packed_link.specs.Link.{nowhere}

-- a word that leads on: the head of the chain, or the link of a node
pub data ChainWord : Type 0 where
  Head : ChainWord
  Next : ℕ → ChainWord

-- a chain: which nodes are on it, the key of each node and the number of the step that linked it, and for each word the
-- node that it leads to, or `nowhere`, and its mark, 0 or 1
pub record Chain : Type 0 where
  pub on : ℕ → Bool
  pub key : ℕ → ℕ
  pub since : ℕ → ℕ
  pub next : ChainWord → ℕ
  pub mark : ChainWord → ℕ

-- a word of the chain: its head, or the link of a node on it
abbrev pub IsOn : Chain → ChainWord → Type 0
IsOn chain Head = Unit {0}
IsOn chain (Next x) = IsTrue (chain.on x)

-- where a word stands in the order of the keys, in which the head comes first
abbrev pub rank_of : Chain → ChainWord → ℕ
rank_of chain Head = 0
rank_of chain (Next x) = chain.key x + 1

-- when a word came onto the chain
abbrev pub since_of : Chain → ChainWord → ℕ
since_of chain Head = 0
since_of chain (Next x) = chain.since x

-- the first word stands before the second: its key is smaller, or the keys are equal and it was linked earlier
abbrev pub Precedes : Chain → ChainWord → ChainWord → Type 0
Precedes chain p q =
    (rank_of chain p < rank_of chain q)
    ⊎ ((rank_of chain p ≡ rank_of chain q) × (since_of chain p < since_of chain q))

-- what makes it a chain, said of each word on it alone: it leads to none or to a later node on the chain,
-- nothing on the chain stands between, no two words stand at one place of the order, and an unmarked word leads to a
-- greater key
pub record IsChain (chain : Chain) : Type 0 where
  pub named : (x : ℕ) → IsOn chain (Next x) → x ≢ nowhere
  pub leads : (p : ChainWord) → IsOn chain p → chain.next p ≢ nowhere
      → IsOn chain (Next (chain.next p)) × Precedes chain p (Next (chain.next p))
  pub last : (p q : ChainWord) → IsOn chain p → IsOn chain q → Precedes chain p q → chain.next p ≢ nowhere
  pub gap : (p q : ChainWord) → IsOn chain p → IsOn chain q → Precedes chain p q
      → Precedes chain q (Next (chain.next p)) → ⊥
  pub alone : (p q : ChainWord) → IsOn chain p → IsOn chain q → rank_of chain p ≡ rank_of chain q
      → since_of chain p ≡ since_of chain q → p ≡ q
  pub rises : (p : ChainWord) → IsOn chain p → chain.mark p ≡ 0 → chain.next p ≢ nowhere
      → rank_of chain p < rank_of chain (Next (chain.next p))
