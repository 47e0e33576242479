-- The free list at one moment: nodes that lead to one another through their link words, from one word on (Treiber
-- 1986).
use Rattle.std.specs.Prelude.{◌≡◌, ◌≢◌, ◌≤◌, ℕ, ◌+◌, ◌<◌, ◌==◌, cond, Bool, true, false, List, [], ◌∷◌, drop, AllPairs}
use Rattle.std.specs.Prelude.{Contains}
use Rattle.std.specs.List.{range_with_len}
use Rattle.packed_link.specs.Link.{pack, index_of, mark_of, tag_of, nowhere}

-- the word of the free list and the link word of each node; which nodes are free, the list of them, and how often it
-- changed
pub record Pool : Type 0 where
  pub first : ℕ
  pub link : ℕ → ℕ
  pub is_free : ℕ → Bool
  pub free : List ℕ
  pub changes : ℕ

-- from a node on, link after link, one meets these nodes and then none
abbrev pub Leads : ℕ → (ℕ → ℕ) → ℕ → List ℕ → Type 0
Leads nodes link i [] = i ≡ nowhere
Leads nodes link i (x ∷ xs) = (i ≡ x) × (x < nodes) × Leads nodes link (index_of (link x)) xs

-- the free list holds exactly the free nodes, each once, in the order in which they are met; its word is unmarked, and
-- its tag counts its changes
pub record FreeList (nodes : ℕ) (pool : Pool) : Type 0 where
  pub leads : Leads nodes pool.link (index_of pool.first) pool.free
  pub tag : tag_of pool.first ≡ pool.changes
  pub unmarked : mark_of pool.first ≡ 0
  pub once : AllPairs ◌≢◌ pool.free
  pub only : (x : ℕ) → Contains pool.free x → pool.is_free x ≡ true
  pub all : (x : ℕ) → x < nodes → pool.is_free x ≡ true → Contains pool.free x

-- all nodes are free, and each leads to the next
pub record IsNewPool (nodes : ℕ) (pool : Pool) : Type 0 where
  pub first : pool.first ≡ pack 0 0 0
  pub link : (x : ℕ) → x < nodes → pool.link x ≡ pack (cond (x + 1 == nodes) nowhere (x + 1)) 1 0
  pub is_free : (x : ℕ) → x < nodes → pool.is_free x ≡ true
  pub free : pool.free ≡ range_with_len 0 nodes
  pub changes : pool.changes ≡ 0

-- no link word changes, and no node but one is free or not otherwise than before
pub record KeepsOthers (old new : Pool) (x : ℕ) : Type 0 where
  pub is_free : (y : ℕ) → y ≢ x → new.is_free y ≡ old.is_free y
  pub link : (y : ℕ) → new.link y ≡ old.link y

-- the first free node is taken: the word leads to the node behind it now
pub record TakesFirst (nodes : ℕ) (old new : Pool) (x : ℕ) : Type 0 where
  pub there : x < nodes
  pub leads : index_of old.first ≡ x
  pub word : new.first ≡ pack (index_of (old.link x)) 0 (tag_of old.first + 1)
  pub taken : new.is_free x ≡ false
  pub list : new.free ≡ drop 1 old.free
  pub others : KeepsOthers old new x
  pub changes : new.changes ≡ old.changes + 1

-- a node that leads to the first free one is given back: the word leads to it now
pub record GivesBack (nodes : ℕ) (old new : Pool) (x : ℕ) : Type 0 where
  pub there : x < nodes
  pub used : old.is_free x ≡ false
  pub ready : index_of (old.link x) ≡ index_of old.first
  pub word : new.first ≡ pack x 0 (tag_of old.first + 1)
  pub given : new.is_free x ≡ true
  pub list : new.free ≡ x ∷ old.free
  pub others : KeepsOthers old new x
  pub changes : new.changes ≡ old.changes + 1

-- neither the word nor a free node is touched
pub record LeavesFree (old new : Pool) : Type 0 where
  pub first : new.first ≡ old.first
  pub link : (x : ℕ) → old.is_free x ≡ true → new.link x ≡ old.link x
  pub is_free : (x : ℕ) → new.is_free x ≡ old.is_free x
  pub list : new.free ≡ old.free
  pub changes : new.changes ≡ old.changes

-- any change of the nodes
pub data Change (nodes : ℕ) (old new : Pool) : Type 0 where
  take : (x : ℕ) → TakesFirst nodes old new x → Change nodes old new
  give : (x : ℕ) → GivesBack nodes old new x → Change nodes old new
  leave : LeavesFree old new → Change nodes old new

-- the list has changed since its word was seen, or that word and the link of its node are still the same
pub record IsUnchanged (seen next : ℕ) (pool : Pool) : Type 0 where
  pub low : tag_of seen ≤ pool.changes
  pub word : pool.changes ≡ tag_of seen → pool.first ≡ seen
  pub link : pool.changes ≡ tag_of seen → pool.link (index_of seen) ≡ next
