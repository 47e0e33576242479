-- Chains over the words of one table of packed links.
use Rattle.std.specs.Prelude.{◌≡◌, ◌≢◌, ℕ, Bool, IsTrue}
use Rattle.packed_link.specs.Link.{index_of, mark_of}
use Rattle.core_chain.specs.Chain.{Chain, ChainWord, Next, IsOn}

-- where the words of a chain stand in a table, and where the keys of nodes do
pub record Places : Type 0 where
  pub word_at : ChainWord → ℕ
  pub key_at : ℕ → ℕ

-- the chain that stands at these places of a table, with these nodes on it, linked by the steps of these numbers
abbrev pub chain_in : (ℕ → ℕ) → Places → (ℕ → Bool) → (ℕ → ℕ) → Chain
chain_in words places on since = record {
  on = on;
  key = λ x. words (places.key_at x);
  since = since;
  next = λ p. index_of (words (places.word_at p));
  mark = λ p. mark_of (words (places.word_at p));
}

-- the nodes on a chain were linked by the same steps
abbrev pub KeepsSince : (ℕ → Bool) → (ℕ → ℕ) → (ℕ → ℕ) → Type 0
KeepsSince on old new = (x : ℕ) → IsTrue (on x) → new x ≡ old x

-- one word of the table is written, and every other stays
pub record WritesWord (old new : ℕ → ℕ) (place word : ℕ) : Type 0 where
  pub written : new place ≡ word
  pub others : (i : ℕ) → i ≢ place → new i ≡ old i

-- no other word of a chain stands where this one does, and no key
pub record StandsAlone (places : Places) (at : ChainWord) : Type 0 where
  pub words : (p : ChainWord) → p ≢ at → places.word_at p ≢ places.word_at at
  pub keys : (x : ℕ) → places.key_at x ≢ places.word_at at

-- no word of a chain, and no key of a node on it, stands at this place
pub record StandsElsewhere (chain : Chain) (places : Places) (place : ℕ) : Type 0 where
  pub words : (p : ChainWord) → IsOn chain p → places.word_at p ≢ place
  pub keys : (x : ℕ) → IsOn chain (Next x) → places.key_at x ≢ place
