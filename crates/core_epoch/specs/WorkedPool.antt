-- A worked free list of two nodes: node 0 is taken and given back, so that the word leads to node 0 again.
use Rattle.std.specs.Prelude.{true, false, List, [], ◌∷◌}
use Rattle.packed_link.specs.Link.{pack, nowhere}
use Rattle.core_epoch.specs.Free.{Pool}
use Rattle.core_epoch.specs.Worked.{put_in}

-- both nodes are free: the word leads to node 0, node 0 to node 1, and node 1 to none
abbrev pub both_free : Pool
both_free = record {
  first = pack 0 0 0;
  link = put_in 0 (pack 1 1 0) (λ x. pack nowhere 1 0);
  is_free = λ x. true;
  free = 0 ∷ 1 ∷ [];
  changes = 0;
}

-- node 0 is taken: the word leads to node 1
abbrev pub zero_taken : Pool
zero_taken = record both_free {
  first = pack 1 0 1;
  is_free = put_in 0 false both_free.is_free;
  free = 1 ∷ [];
  changes = 1;
}

-- the link of node 0 is written for its life, which nobody else sees
abbrev pub zero_written : Pool
zero_written = record zero_taken { link = put_in 0 (pack nowhere 0 1) zero_taken.link }

-- the link of node 0 is written again, for the free list
abbrev pub zero_ready : Pool
zero_ready = record zero_written { link = put_in 0 (pack 1 1 1) zero_written.link }

-- node 0 is given back: the word leads to node 0 again, and has another tag
abbrev pub zero_given : Pool
zero_given = record zero_ready {
  first = pack 0 0 2;
  is_free = put_in 0 true zero_ready.is_free;
  free = 0 ∷ 1 ∷ [];
  changes = 2;
}

-- the whole run after its first moment
abbrev pub worked_pool : List Pool
worked_pool = zero_taken ∷ zero_written ∷ zero_ready ∷ zero_given ∷ []
