-- What the worked journal in which a node has two lives comes to, computed.
use Rattle.std.proofs.Common.{◌≡◌, ◌≢◌, [], ◌∷◌, map, refl, inl, lit<, lit≤}
use Rattle.std.specs.Prelude.{Contains}
use Rattle.packed_link.specs.Layout.{IsLayout}
use Rattle.core_journal.specs.declared.event.Kind.{Kind}
use Rattle.core_journal.specs.declared.event.Kind.TheVariants.{DrawNumber, PopFree, StorePrivate, LinkVertex}
use Rattle.core_journal.specs.declared.event.Kind.TheVariants.{MarkVertex, UnlinkVertex, LinkEdge, Raise, MarkEdge}
use Rattle.core_journal.specs.declared.event.Kind.TheVariants.{UnlinkEdge, Announce, Withdraw, MoveEpoch, FreezeHead}
use Rattle.core_journal.specs.declared.event.Kind.TheVariants.{FreezeEdge, StoreFree, PushFree, ReplaceEdge}
use Rattle.core_journal.specs.declared.event.Event.{Event}
use Rattle.core_journal.specs.GraphOf.{graph_of}
use Rattle.core_journal.specs.Life.{key_of, link_of}
use Rattle.core_journal.specs.Machine.{machine, word_at}
use Rattle.core_journal.specs.State.{state}
use Rattle.core_journal.specs.Worked.{small}
use Rattle.core_kept.specs.Standings.{StandsAs, OnFreeList, FreshWith, OnChain, SpentBy}
use Rattle.core_worked.specs.TwoLives.{two_lives, with_an_edge, without_edge, with_other, without_source, two_keys}
use Rattle.core_worked.specs.TwoLives.{key_two, lives_words}

pub small_layout : IsLayout small
small_layout = record {
  some_callers = lit≤ tt;
  few_callers = lit≤ tt;
  some_nodes = lit≤ tt;
  few_nodes = lit≤ tt;
  some_buckets = lit≤ tt;
  few_buckets = lit≤ tt;
}

pub kinds_stand : (k : Kind) → k ≢ ReplaceEdge → Contains (map (λ (e : Event). e.kind) two_lives) k
kinds_stand DrawNumber _ = (0, lit< tt, refl)
kinds_stand Announce _ = (2, lit< tt, refl)
kinds_stand PopFree _ = (3, lit< tt, refl)
kinds_stand StorePrivate _ = (4, lit< tt, refl)
kinds_stand LinkVertex _ = (8, lit< tt, refl)
kinds_stand Withdraw _ = (9, lit< tt, refl)
kinds_stand LinkEdge _ = (24, lit< tt, refl)
kinds_stand Raise _ = (27, lit< tt, refl)
kinds_stand ReplaceEdge other = absurd (other refl)
kinds_stand MarkEdge _ = (28, lit< tt, refl)
kinds_stand UnlinkEdge _ = (29, lit< tt, refl)
kinds_stand MarkVertex _ = (40, lit< tt, refl)
kinds_stand UnlinkVertex _ = (41, lit< tt, refl)
kinds_stand FreezeHead _ = (42, lit< tt, refl)
kinds_stand FreezeEdge _ = (43, lit< tt, refl)
kinds_stand MoveEpoch _ = (45, lit< tt, refl)
kinds_stand StoreFree _ = (47, lit< tt, refl)
kinds_stand PushFree _ = (48, lit< tt, refl)

pub graph_added : graph_of with_an_edge ≡ two_keys (((1, 2), 5) ∷ [])
unfolding graph_of key_of link_of
graph_added = refl

pub graph_removed : graph_of without_edge ≡ two_keys []
unfolding graph_of key_of link_of
graph_removed = refl

pub graph_again : graph_of with_other ≡ two_keys (((1, 2), 6) ∷ [])
unfolding graph_of key_of link_of
graph_again = refl

pub graph_gone : graph_of two_lives ≡ key_two
unfolding graph_of key_of link_of
graph_gone = refl

pub handed_over : StandsAs small without_source 3 (SpentBy 0)
unfolding machine word_at state
handed_over = record { mode = refl; by = refl; link = record { life = refl; marked = refl } }

pub fresh_again : StandsAs small two_lives 0 (FreshWith 0)
unfolding machine word_at state
fresh_again = record { mode = refl; with = refl; link = inl (refl, refl) }

pub linked_still : StandsAs small two_lives 1 OnChain
unfolding machine word_at state
linked_still = record { mode = refl; link = record { life = refl; mark = refl } }

pub spent_still : StandsAs small two_lives 2 (SpentBy 0)
unfolding machine word_at state
spent_still = record { mode = refl; by = refl; link = record { life = refl; marked = refl } }

pub freed : StandsAs small two_lives 3 OnFreeList
unfolding machine word_at state
freed = record { mode = refl; listed = (0, lit< tt, refl); link = record { life = refl; marked = refl } }

pub second_tag : ((state small two_lives).node 0).tag ≡ 2
unfolding state
second_tag = refl

pub free_last : (state small two_lives).free ≡ 3 ∷ 4 ∷ 5 ∷ 6 ∷ 7 ∷ []
unfolding state
free_last = refl

pub words_last : machine small two_lives ≡ lives_words
unfolding machine
words_last = refl
