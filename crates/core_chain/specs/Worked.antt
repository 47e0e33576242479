-- A worked chain: node 7 of key 20, node 2 of key 10 and node 4 of key 30 are inserted, node 7 is marked and
-- unlinked, and the rest is frozen. In another course of it node 4 is replaced by node 9.
use Rattle.std.specs.Prelude.{ℕ, Bool, true, false, nat_eq, if◌then◌else◌}
use Rattle.packed_link.specs.Link.{nowhere}
use Rattle.core_chain.specs.Chain.{Chain, ChainWord, Head, Next}

-- whether two words are one
abbrev pub is_same : ChainWord → ChainWord → Bool
is_same Head Head = true
is_same Head (Next y) = false
is_same (Next x) Head = false
is_same (Next x) (Next y) = nat_eq x y

-- a function of words with one value written
abbrev pub put_at : ChainWord → ℕ → (ChainWord → ℕ) → ChainWord → ℕ
put_at at value f p = if is_same p at then value else f p

-- the chain where the link of a node is filled with the successor of a word
abbrev pub filled : Chain → ChainWord → ℕ → Chain
filled chain at node = record chain { next = put_at (Next node) (chain.next at) chain.next }

-- the chain where a word leads to a node that joins it
abbrev pub inserted : Chain → ChainWord → ℕ → Chain
inserted chain at node = record chain {
  on = λ x. if nat_eq x node then true else chain.on x;
  next = put_at at node chain.next;
}

-- the chain where a word has its mark
abbrev pub marked : Chain → ChainWord → Chain
marked chain at = record chain { mark = put_at at 1 chain.mark }

-- the chain where a word leads to the successor of a node that leaves it
abbrev pub last_unlinked : Chain → ChainWord → ℕ → Chain
last_unlinked chain at node = record chain {
  on = λ x. if nat_eq x node then false else chain.on x;
  next = put_at at (chain.next (Next node)) chain.next;
}

-- the chain where the link of a node is marked and leads to a node that joins it, by the step of this number
abbrev pub replaced : Chain → ℕ → ℕ → ℕ → Chain
replaced chain node fresh number = record chain {
  on = λ x. if nat_eq x fresh then true else chain.on x;
  since = λ x. if nat_eq x fresh then number else chain.since x;
  next = put_at (Next node) fresh chain.next;
  mark = put_at (Next node) 1 chain.mark;
}

-- at the opening no node is on it; the keys are fixed
abbrev pub opened_chain : Chain
opened_chain = record {
  on = λ x. false;
  key = λ x. if nat_eq x 2 then 10 else (if nat_eq x 7 then 20 else 30);
  since = λ x. 0;
  next = λ p. nowhere;
  mark = λ p. 0;
}

-- node 7 is filled
abbrev pub first_filled : Chain
first_filled = filled opened_chain Head 7

-- node 7 is inserted at the head
abbrev pub first_inserted : Chain
first_inserted = inserted first_filled Head 7

-- node 2 is filled
abbrev pub second_filled : Chain
second_filled = filled first_inserted Head 2

-- node 2 is inserted at the head, before node 7
abbrev pub second_inserted : Chain
second_inserted = inserted second_filled Head 2

-- node 4 is filled
abbrev pub third_filled : Chain
third_filled = filled second_inserted (Next 7) 4

-- node 4 is inserted at the end, behind node 7
abbrev pub third_inserted : Chain
third_inserted = inserted third_filled (Next 7) 4

-- node 9 is filled, to replace node 4
abbrev pub fourth_filled : Chain
fourth_filled = filled third_inserted (Next 4) 9

-- node 4 is replaced by node 9
abbrev pub four_replaced : Chain
four_replaced = replaced fourth_filled 4 9 1

-- node 7 is marked
abbrev pub seven_marked : Chain
seven_marked = marked third_inserted (Next 7)

-- node 7 is unlinked from node 2
abbrev pub seven_unlinked : Chain
seven_unlinked = last_unlinked seven_marked (Next 2) 7

-- the head is frozen
abbrev pub head_marked : Chain
head_marked = marked seven_unlinked Head

-- node 2 is frozen
abbrev pub two_frozen : Chain
two_frozen = marked head_marked (Next 2)

-- node 4 is frozen, and with it the chain to its end
abbrev pub four_frozen : Chain
four_frozen = marked two_frozen (Next 4)

-- no chain: keys fall from node 2 to node 7
abbrev pub falling : Chain
falling = record third_inserted { key = λ x. if nat_eq x 2 then 40 else third_inserted.key x }

-- no chain: node 7 is on it, and no word leads to it
abbrev pub lost : Chain
lost = record opened_chain { on = λ x. nat_eq x 7 }

-- no chain: node 4 leads to a node that isn't on it
abbrev pub astray : Chain
astray = record third_inserted { next = put_at (Next 4) 9 third_inserted.next }

-- no chain: nodes 7 and 4 have one key
abbrev pub doubled : Chain
doubled = record third_inserted { key = λ x. if nat_eq x 2 then 10 else 20 }
