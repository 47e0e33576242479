-- One write to a table is one step of a chain in it, or none.
use Rattle.std.proofs.Common.{◌≡◌, ℕ, ◌<◌, ◌^◌, Bool, IsTrue, ap, ◌∙◌, arith}
use Rattle.packed_link.specs.Link.{pack, index_of, mark_of, with_mark}
use Rattle.packed_link.proofs.Links.{index_of-pack, mark_of-pack, mark_of-with_mark, index_of-with_mark, index_of-bound}
use Rattle.core_chain.specs.Chain.{Chain, ChainWord, Next}
use Rattle.core_chain.specs.Steps.{ChangesOnly, Joins, Departs, CanInsert, Inserts, CanReplace, Replaces}
use Rattle.core_chain.specs.Steps.{SetsMark, CanUnlink, Unlinks, Untouched}
use Rattle.core_chain.specs.Table.{Places, chain_in, WritesWord, StandsAlone, StandsElsewhere}

module _ (old new : ℕ → ℕ) (places : Places) (on on' : ℕ → Bool) (since since' : ℕ → ℕ)
    (kept : (x : ℕ) → IsTrue (on x) → since' x ≡ since x) where
  -- the chain before and after
  abbrev old_chain : Chain
  old_chain = chain_in old places on since

  abbrev new_chain : Chain
  new_chain = chain_in new places on' since'

  -- a write at one word of a chain keeps its other words and the keys
  ChangesOnly-in : (at : ChainWord) (word : ℕ)
      → StandsAlone places at → WritesWord old new (places.word_at at) word → ChangesOnly old_chain new_chain at
  ChangesOnly-in at word alone writes = record {
    next = λ p ne. ap index_of (writes.others (places.word_at p) (alone.words p ne));
    mark = λ p ne. ap mark_of (writes.others (places.word_at p) (alone.words p ne));
    key = λ x. writes.others (places.key_at x) (alone.keys x);
    since = kept;
  }

  -- an unmarked link to a node that may be inserted inserts it
  pub Inserts-in : (at : ChainWord) (node tag : ℕ) → StandsAlone places at → node < 2 ^ 24
      → CanInsert (chain_in old places on since) at node → WritesWord old new (places.word_at at) (pack node 0 tag)
      → Joins on on' node → Inserts (chain_in old places on since) (chain_in new places on' since') at node
  Inserts-in at node tag alone small can writes joins = record {
    can = can;
    leads = ap index_of writes.written ∙ index_of-pack node 0 tag small;
    unmarked = ap mark_of writes.written ∙ mark_of-pack node 0 tag small (omega arith);
    words = ChangesOnly-in at (pack node 0 tag) alone writes;
    nodes = joins;
  }

  -- a marked link to a node that may replace another replaces it
  pub Replaces-in : (node fresh tag : ℕ) → StandsAlone places (Next node) → fresh < 2 ^ 24
      → CanReplace (chain_in old places on since) node fresh → since node < since' fresh
      → WritesWord old new (places.word_at (Next node)) (pack fresh 1 tag) → Joins on on' fresh
      → Replaces (chain_in old places on since) (chain_in new places on' since') node fresh
  Replaces-in node fresh tag alone small can later writes joins = record {
    can = can;
    marked = ap mark_of writes.written ∙ mark_of-pack fresh 1 tag small (omega arith);
    leads = ap index_of writes.written ∙ index_of-pack fresh 1 tag small;
    later = later;
    words = ChangesOnly-in (Next node) (pack fresh 1 tag) alone writes;
    nodes = joins;
  }

  -- a mark that is set marks the word
  pub SetsMark-in : (at : ChainWord) → StandsAlone places at
      → WritesWord old new (places.word_at at) (with_mark (old (places.word_at at))) → ((x : ℕ) → on' x ≡ on x)
      → SetsMark (chain_in old places on since) (chain_in new places on' since') at
  SetsMark-in at alone writes stays = record {
    marked = ap mark_of writes.written ∙ mark_of-with_mark (old (places.word_at at));
    leads = ap index_of writes.written ∙ index_of-with_mark (old (places.word_at at));
    words = ChangesOnly-in at (with_mark (old (places.word_at at))) alone writes;
    nodes = stays;
  }

  -- an unmarked link to the successor of a node that may be unlinked unlinks it
  pub Unlinks-in : (at : ChainWord) (node tag : ℕ) → StandsAlone places at → CanUnlink
      (chain_in old places on since) at node
      → WritesWord old new (places.word_at at) (pack (index_of (old (places.word_at (Next node)))) 0 tag)
      → Departs on on' node → Unlinks (chain_in old places on since) (chain_in new places on' since') at node
  Unlinks-in at node tag alone can writes leaves =
      let word : ℕ = old (places.word_at (Next node)) in
      let small = index_of-bound word in
      record {
        can = can;
        leads = ap index_of writes.written ∙ index_of-pack (index_of word) 0 tag small;
        unmarked = ap mark_of writes.written ∙ mark_of-pack (index_of word) 0 tag small (omega arith);
        words = ChangesOnly-in at (pack (index_of word) 0 tag) alone writes;
        nodes = leaves;
      }

  -- a write elsewhere leaves the chain untouched
  pub Untouched-in : (place word : ℕ) → StandsElsewhere (chain_in old places on since) places place
      → WritesWord old new place word → ((x : ℕ) → on' x ≡ on x)
      → Untouched (chain_in old places on since) (chain_in new places on' since')
  Untouched-in place word elsewhere writes stays = record {
    nodes = stays;
    key = λ x h. writes.others (places.key_at x) (elsewhere.keys x h);
    since = kept;
    next = λ p h. ap index_of (writes.others (places.word_at p) (elsewhere.words p h));
    mark = λ p h. ap mark_of (writes.others (places.word_at p) (elsewhere.words p h));
  }
