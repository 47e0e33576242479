-- The steps that change one word of a chain, what each needs, and what none of them takes back.
use Rattle.std.specs.Prelude.{◌≡◌, ◌≢◌, ℕ, ◌<◌, Bool, IsTrue}
use Rattle.packed_link.specs.Link.{nowhere}
use Rattle.core_chain.specs.Chain.{Chain, ChainWord, Head, Next, IsOn, Precedes}
use Rattle.core_chain.specs.Walk.{Passes}

-- every word but one stays, and so do all keys; a node on the chain stays linked by the same step
pub record ChangesOnly (old new : Chain) (at : ChainWord) : Type 0 where
  pub next : (p : ChainWord) → p ≢ at → new.next p ≡ old.next p
  pub mark : (p : ChainWord) → p ≢ at → new.mark p ≡ old.mark p
  pub key : (x : ℕ) → new.key x ≡ old.key x
  pub since : (x : ℕ) → IsOn old (Next x) → new.since x ≡ old.since x

-- one node joins those on a chain, and every other stays as it is
pub record Joins (old new : ℕ → Bool) (node : ℕ) : Type 0 where
  pub joins : IsTrue (new node)
  pub others : (x : ℕ) → x ≢ node → new x ≡ old x

-- one node departs from those on a chain, and every other stays as it is
pub record Departs (old new : ℕ → Bool) (node : ℕ) : Type 0 where
  pub departs : IsTrue (new node) → ⊥
  pub others : (x : ℕ) → x ≢ node → new x ≡ old x

-- a word may be made to lead to a node: it is on the chain and unmarked, and leads past the node's key; the node
-- isn't on the chain, and its own link is filled with the successor
pub record CanInsert (chain : Chain) (at : ChainWord) (node : ℕ) : Type 0 where
  pub passes : Passes chain at (chain.key node)
  pub unmarked : chain.mark at ≡ 0
  pub named : node ≢ nowhere
  pub absent : IsOn chain (Next node) → ⊥
  pub filled : chain.next (Next node) ≡ chain.next at

-- a node is inserted: the word of its predecessor leads to it now
pub record Inserts (old new : Chain) (at : ChainWord) (node : ℕ) : Type 0 where
  pub can : CanInsert old at node
  pub leads : new.next at ≡ node
  pub unmarked : new.mark at ≡ 0
  pub words : ChangesOnly old new at
  pub nodes : Joins old.on new.on node

-- a node may be replaced by another: it is on the chain and unmarked; the other isn't on the chain, has the same key,
-- and its own link is filled with the successor
pub record CanReplace (chain : Chain) (node fresh : ℕ) : Type 0 where
  pub present : IsOn chain (Next node)
  pub unmarked : chain.mark (Next node) ≡ 0
  pub named : fresh ≢ nowhere
  pub absent : IsOn chain (Next fresh) → ⊥
  pub key : chain.key fresh ≡ chain.key node
  pub filled : chain.next (Next fresh) ≡ chain.next (Next node)

-- a node is replaced: its word has its mark and leads to the node of its key that joins the chain behind it
pub record Replaces (old new : Chain) (node fresh : ℕ) : Type 0 where
  pub can : CanReplace old node fresh
  pub marked : new.mark (Next node) ≡ 1
  pub leads : new.next (Next node) ≡ fresh
  pub later : old.since node < new.since fresh
  pub words : ChangesOnly old new (Next node)
  pub nodes : Joins old.on new.on fresh

-- a word gets its mark, whether or not it had it before, and all else stays
pub record SetsMark (old new : Chain) (at : ChainWord) : Type 0 where
  pub marked : new.mark at ≡ 1
  pub leads : new.next at ≡ old.next at
  pub words : ChangesOnly old new at
  pub nodes : (x : ℕ) → new.on x ≡ old.on x

-- a node on the chain is marked, which is its logical removal
pub record Marks (old new : Chain) (node : ℕ) : Type 0 where
  pub present : IsOn old (Next node)
  pub sets : SetsMark old new (Next node)

-- a word may be made to lead past a node: it is on the chain and unmarked, and leads to the node, which is marked
pub record CanUnlink (chain : Chain) (at : ChainWord) (node : ℕ) : Type 0 where
  pub present : IsOn chain at
  pub unmarked : chain.mark at ≡ 0
  pub named : node ≢ nowhere
  pub led : chain.next at ≡ node
  pub marked : chain.mark (Next node) ≡ 1

-- a node is unlinked: the word of its predecessor leads to its successor now
pub record Unlinks (old new : Chain) (at : ChainWord) (node : ℕ) : Type 0 where
  pub can : CanUnlink old at node
  pub leads : new.next at ≡ old.next (Next node)
  pub unmarked : new.mark at ≡ 0
  pub words : ChangesOnly old new at
  pub nodes : Departs old.on new.on node

-- each word from the head up to this one is marked
pub record IsFrozenTo (chain : Chain) (end : ChainWord) : Type 0 where
  pub present : IsOn chain end
  pub marks : (p : ChainWord) → IsOn chain p → (Precedes chain end p → ⊥) → chain.mark p ≡ 1

-- the node to which the frozen part leads is frozen
pub record Freezes (old new : Chain) (end : ChainWord) (node : ℕ) : Type 0 where
  pub frozen : IsFrozenTo old end
  pub named : node ≢ nowhere
  pub led : old.next end ≡ node
  pub sets : SetsMark old new (Next node)

-- nothing on the chain changes
pub record Untouched (old new : Chain) : Type 0 where
  pub nodes : (x : ℕ) → new.on x ≡ old.on x
  pub key : (x : ℕ) → IsOn old (Next x) → new.key x ≡ old.key x
  pub since : (x : ℕ) → IsOn old (Next x) → new.since x ≡ old.since x
  pub next : (p : ChainWord) → IsOn old p → new.next p ≡ old.next p
  pub mark : (p : ChainWord) → IsOn old p → new.mark p ≡ old.mark p

-- what no step takes back: a mark, where a marked word leads, and a frozen part
pub record Keeps (old new : Chain) : Type 0 where
  pub marks : (p : ChainWord) → old.mark p ≡ 1 → new.mark p ≡ 1
  pub links : (p : ChainWord) → old.mark p ≡ 1 → new.next p ≡ old.next p
  pub frozen : (p : ChainWord) → IsFrozenTo old p → IsFrozenTo new p

-- any step that changes one word of a chain
pub data Step (old new : Chain) : Type 0 where
  insert : (at : ChainWord) (node : ℕ) → Inserts old new at node → Step old new
  mark : (node : ℕ) → Marks old new node → Step old new
  replace : (node fresh : ℕ) → Replaces old new node fresh → Step old new
  unlink : (at : ChainWord) (node : ℕ) → Unlinks old new at node → Step old new
  freeze_head : SetsMark old new Head → Step old new
  freeze : (end : ChainWord) (node : ℕ) → Freezes old new end node → Step old new
