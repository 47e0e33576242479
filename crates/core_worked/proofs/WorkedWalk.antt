-- A walk of the worked journal, computed.
use Rattle.std.proofs.Common.{◌≡◌, true, [], ◌∷◌, drop, map, refl, inl, inr, lit<}
use Rattle.packed_link.specs.Link.{nowhere}
use Rattle.packed_link.specs.Layout.{bucket_at, link_at, second_at}
use Rattle.core_journal.specs.Machine.{machine, word_at}
use Rattle.core_journal.specs.State.{Spent, state}
use Rattle.core_journal.specs.Worked.{small}
use Rattle.core_kept.specs.Nodes.{node_in}
use Rattle.core_worked.specs.TwoLives.{load_at, walk_in_a_frozen_list}
use Rattle.core_lists.specs.Walks.{led_to, from_bucket, from_link, from_list, IsLoad, IsWalk}
use Rattle.core_worked.proofs.SmallSteps.{whole}
use Rattle.core_worked.proofs.TwoLives.{before}

from_bucket_0 : IsLoad small (before 44) 0 [] (load_at 40 (bucket_at small 0))
unfolding state
from_bucket_0 = record {
  pass = refl;
  same = record { before = record { rest = drop 40 (before 44); whole = refl }; open_still = refl; since = refl };
  later = tt;
  from = from_bucket 0 (lit< tt) refl;
}

along_bucket : IsLoad small (before 44) 0 (load_at 40 (bucket_at small 0) ∷ []) (load_at 42 (link_at small 0))
unfolding machine word_at state
along_bucket = record {
  pass = refl;
  same = record { before = record { rest = drop 42 (before 44); whole = refl }; open_still = refl; since = refl };
  later = (record { rest = drop 40 (before 42); whole = refl }, tt);
  from = from_link 0 (inl (refl, λ e. absurd (cc))) refl;
}

into_list : IsLoad small (before 44) 0 (load_at 42 (link_at small 0) ∷ load_at 40 (bucket_at small 0) ∷ [])
    (load_at 44 (second_at small 0))
unfolding machine word_at state
into_list = record {
  pass = refl;
  same = record { before = whole (before 44); open_still = refl; since = refl };
  later = (
    record { rest = drop 42 (before 44); whole = refl },
    (record { rest = drop 40 (before 44); whole = refl }, tt),
  );
  from = from_list 0 (inr (inl (refl, λ e. absurd (cc)))) refl refl;
}

behind_edge : IsLoad small (before 44) 0 (load_at 44 (second_at small 0) ∷ load_at 42 (link_at small 0) ∷ load_at 40
    (bucket_at small 0) ∷ []) (load_at 44 (link_at small 3))
unfolding machine word_at state
behind_edge = record {
  pass = refl;
  same = record { before = whole (before 44); open_still = refl; since = refl };
  later = (
    whole (before 44),
    (
      record { rest = drop 42 (before 44); whole = refl },
      (record { rest = drop 40 (before 44); whole = refl }, tt),
    ),
  );
  from = from_link 3 (inl (refl, λ e. absurd (cc))) refl;
}

pub walked : IsWalk small (before 44) 0 walk_in_a_frozen_list
walked = (behind_edge, (into_list, (along_bucket, (from_bucket_0, tt))))

pub spent_by_then : ((node_in small (before 44) 0).mode ≡ Spent) × ((node_in small (before 44) 3).mode ≡ Spent) ×
    ((state small (before 44)).frozen 0 ≡ true)
unfolding state
spent_by_then = (refl, refl, refl)

pub walked_nodes : map (led_to small) walk_in_a_frozen_list ≡ nowhere ∷ 3 ∷ 1 ∷ 0 ∷ []
unfolding machine word_at
walked_nodes = refl
