-- What the worked journal in which edges are replaced comes to, computed.
use Rattle.std.proofs.Common.{◌≡◌, [], ◌∷◌, map, refl, lit<}
use Rattle.std.specs.Prelude.{Contains}
use Rattle.core_journal.specs.declared.event.Kind.{Kind}
use Rattle.core_journal.specs.declared.event.Kind.TheVariants.{DrawNumber, PopFree, StorePrivate, LinkVertex}
use Rattle.core_journal.specs.declared.event.Kind.TheVariants.{MarkVertex, UnlinkVertex, LinkEdge, Raise, MarkEdge}
use Rattle.core_journal.specs.declared.event.Kind.TheVariants.{UnlinkEdge, Announce, Withdraw, MoveEpoch, FreezeHead}
use Rattle.core_journal.specs.declared.event.Kind.TheVariants.{FreezeEdge, StoreFree, PushFree, ReplaceEdge}
use Rattle.core_journal.specs.declared.event.Event.{Event}
use Rattle.core_journal.specs.GraphOf.{graph_of}
use Rattle.core_journal.specs.Life.{key_of, link_of}
use Rattle.core_journal.specs.Machine.{machine, word_at}
use Rattle.core_journal.specs.State.{state}
use Rattle.core_journal.specs.Worked.{small}
use Rattle.core_kept.specs.Standings.{StandsAs, OnFreeList, OnChain, SpentBy}
use Rattle.core_worked.specs.Replacing.{replaced_once, replaced_twice, removed_then, added_anew, replaced_anew}
use Rattle.core_worked.specs.Replacing.{frozen_behind, replacing_journal, replacing_words}
use Rattle.core_worked.specs.TwoLives.{two_keys, key_two}
use Rattle.core_worked.proofs.Replacing.{first}

-- each kind of event stands in it
pub replacing_kinds : (k : Kind) → Contains (map (λ (e : Event). e.kind) replacing_journal) k
replacing_kinds DrawNumber = (0, lit< tt, refl)
replacing_kinds Announce = (2, lit< tt, refl)
replacing_kinds PopFree = (3, lit< tt, refl)
replacing_kinds StorePrivate = (4, lit< tt, refl)
replacing_kinds LinkVertex = (8, lit< tt, refl)
replacing_kinds Withdraw = (9, lit< tt, refl)
replacing_kinds LinkEdge = (24, lit< tt, refl)
replacing_kinds Raise = (32, lit< tt, refl)
replacing_kinds ReplaceEdge = (33, lit< tt, refl)
replacing_kinds MarkEdge = (46, lit< tt, refl)
replacing_kinds UnlinkEdge = (47, lit< tt, refl)
replacing_kinds MarkVertex = (69, lit< tt, refl)
replacing_kinds UnlinkVertex = (70, lit< tt, refl)
replacing_kinds FreezeHead = (71, lit< tt, refl)
replacing_kinds FreezeEdge = (72, lit< tt, refl)
replacing_kinds MoveEpoch = (74, lit< tt, refl)
replacing_kinds StoreFree = (76, lit< tt, refl)
replacing_kinds PushFree = (77, lit< tt, refl)

pub graph_once : graph_of replaced_once ≡ two_keys (((1, 2), 6) ∷ [])
unfolding graph_of key_of link_of
graph_once = refl

pub graph_twice : graph_of replaced_twice ≡ two_keys (((1, 2), 7) ∷ [])
unfolding graph_of key_of link_of
graph_twice = refl

pub graph_then : graph_of removed_then ≡ two_keys []
unfolding graph_of key_of link_of
graph_then = refl

pub graph_anew : graph_of added_anew ≡ two_keys (((1, 2), 8) ∷ [])
unfolding graph_of key_of link_of
graph_anew = refl

pub graph_replaced : graph_of replaced_anew ≡ two_keys (((1, 2), 9) ∷ [])
unfolding graph_of key_of link_of
graph_replaced = refl

pub graph_end : graph_of replacing_journal ≡ key_two
unfolding graph_of key_of link_of
graph_end = refl

-- three edges of one key stand on the list, of which the last is unmarked
pub list_twice : (state small replaced_twice).edges 0 ≡ 2 ∷ 3 ∷ 4 ∷ []
unfolding state
list_twice = refl

pub list_end : (state small replacing_journal).edges 0 ≡ 5 ∷ 6 ∷ []
unfolding state
list_end = refl

pub marked_twice : StandsAs small replaced_twice 3 OnChain
unfolding machine word_at state
marked_twice = record { mode = refl; link = record { life = refl; mark = refl } }

pub handed_head : StandsAs small (first 72) 5 (SpentBy 0)
unfolding machine word_at state
handed_head = record { mode = refl; by = refl; link = record { life = refl; marked = refl } }

pub handed_last : StandsAs small frozen_behind 6 (SpentBy 0)
unfolding machine word_at state
handed_last = record { mode = refl; by = refl; link = record { life = refl; marked = refl } }

pub given_back : StandsAs small replacing_journal 2 OnFreeList
unfolding machine word_at state
given_back = record { mode = refl; listed = (0, lit< tt, refl); link = record { life = refl; marked = refl } }

pub free_end : (state small replacing_journal).free ≡ 2 ∷ 7 ∷ []
unfolding state
free_end = refl

pub words_end : machine small replacing_journal ≡ replacing_words
unfolding machine
words_end = refl
