-- The laws of chains and lists on the worked journals.
use Rattle.std.specs.Prelude.{AllPairs}
use Rattle.std.proofs.Common.{◌≡◌, ◌≢◌, ℕ, zero, suc, ◌<◌, ◌≤◌, ◌^◌, true, false, Some, [], ◌∷◌, length, drop, refl}
use Rattle.std.proofs.Common.{sym, ap, ⊎_elim, inl, inr, arith, lit<, lit≤, All, true≢false}
use Rattle.packed_link.specs.Link.{index_of, mark_of, pack}
use Rattle.packed_link.specs.Layout.{key_at, link_at, second_at, third_at}
use Rattle.packed_link.specs.declared.link.Life.{Life}
use Rattle.core_journal.specs.Event.{links_edge, pops}
use Rattle.core_journal.specs.Life.{edge_linked, key_of, link_of, vertex_marked}
use Rattle.core_journal.specs.GraphOf.{present_key}
use Rattle.core_journal.specs.Machine.{machine, word_at}
use Rattle.core_journal.specs.State.{Spent, state}
use Rattle.core_journal.specs.Worked.{first_life, small}
use Rattle.core_kept.specs.Counts.{all_made, made}
use Rattle.core_kept.specs.Facts.{HasMet, IsSamePass}
use Rattle.core_kept.specs.Nodes.{IsFrozenToEnd, IsLinkedEdge, IsRipe, IsStamped, is_frozen, is_listed, node_in}
use Rattle.core_kept.proofs.MarkedWords.{marked_link_stays}
use Rattle.core_kept.proofs.MetWords.{edge_stays, key_stays, still_met}
use Rattle.core_lists.specs.Chains.{HasList, IsEdgeOf, IsInBucket, IsOlder}
use Rattle.core_lists.specs.Raised.{IsLinkedLower}
use Rattle.core_lists.specs.Replacements.{IsInReach, IsReplacedBy, LeadsToItsKey}
use Rattle.core_lists.proofs.ClosedHeadStays.{finished_stays, head_stays, old_finished, old_lists, part_stays}
use Rattle.core_lists.proofs.FewEdges.{edges_are_links, edges_few, edges_paid}
use Rattle.core_lists.proofs.FrozenToEndIsList.{edge_on}
use Rattle.core_lists.proofs.LinkTellsPresence.{alive, over}
use Rattle.core_lists.proofs.LinksTellReplaced.{old_word, same_key_marked, told}
use Rattle.core_lists.proofs.LivesOnLists.{one_unmarked, present_edge}
use Rattle.core_lists.proofs.LowerCounters.{counter_rises, marked_lower, unstored_met}
use Rattle.core_lists.proofs.OneVertexOfKey.{present_in}
use Rattle.core_lists.proofs.PartSpender.{part_who}
use Rattle.core_lists.proofs.RaisedInPass.{raised_in_pass}
use Rattle.core_lists.proofs.RipeningNodes.{ripe_behind, ripens, stamp_behind, stamp_beyond, stamped}
use Rattle.core_worked.specs.Replacing.{replacing_journal}
use Rattle.core_worked.specs.TwoLives.{links_new}
use Rattle.core_worked.proofs.LawSteps.{kept, longer}
use Rattle.core_worked.proofs.Replacing.{event, first, kept_33, kept_35, replacing_kept}
use Rattle.core_worked.proofs.ReplacingSteps.{may_replace}
use Rattle.core_worked.proofs.SmallSteps.{frozen_list, on_one, quiet_from}
use Rattle.core_worked.proofs.TwoLives.{before}
use Rattle.core_worked.proofs.TwoLives as lives
use Rattle.core_worked.proofs.TwoLivesShown.{small_layout}
use Rattle.std.proofs.Common.{◌++◌}
use Rattle.core_lists.proofs.RipeningNodes.{ripe_beyond}
use Rattle.core_worked.specs.TwoLives.{moves_epoch}
use Rattle.core_worked.proofs.SmallSteps.{moved}
use Rattle.core_kept.specs.Kept.{IsKept}
use Rattle.core_kept.proofs.Induction.{kept_snoc}

-- an edge that was replaced

list_35 : HasList small (first 35) 0
unfolding state
list_35 = record { there = lit< tt; used = tt; vertex = refl; unfinished = λ f. true≢false (sym f.head) }

reach_2 : IsInReach small (first 35) 2
unfolding state
reach_2 = inl (0, list_35, refl)

pub leads_2 : LeadsToItsKey small (first 35) 2
unfolding machine word_at
leads_2 = same_key_marked small small_layout (first 35) kept_35 2 (lit< tt) reach_2
    (λ h. absurd (omega (arith, h))) refl

pub told_2 : IsReplacedBy (first 35) (first_life 2) (first_life 3)
unfolding machine word_at state
told_2 = told small small_layout (first 35) kept_35 (first_life 2) (lit< tt) refl reach_2 leads_2 refl

pub word_2 : (index_of (word_at small (first 35) (link_at small 2)) ≡ 3) ×
    (mark_of (word_at small (first 35) (link_at small 2)) ≡ 1)
unfolding state
word_2 = old_word small small_layout (first 35) kept_35 (first_life 2) (first_life 3) refl refl told_2

pub older_2 : IsOlder small (first 35) (first_life 2) (first_life 3)
unfolding link_of
older_2 = ⊎_elim (λ (same : first_life 3 ≡ first_life 2). let h : 3 ≡ 2 = ap (λ (l : Life). l.index) same in absurd
    (omega (arith, h))) (λ (o : IsOlder small (first 35) (first_life 2) (first_life 3)). o)
    (one_unmarked small small_layout (first 35) kept_35 (first_life 0) (first_life 3) (first_life 2) new old refl refl)
  where
    new : IsEdgeOf (first 35) (first_life 0) (first_life 3)
    new = record { link = event 33; is = refl; from = refl; stays = refl }

    old : IsEdgeOf (first 35) (first_life 0) (first_life 2)
    old = record { link = event 24; is = refl; from = refl; stays = refl }

pub lower_2 : IsLinkedLower small replacing_journal 33 (links_new 2 5)
unfolding link_of
lower_2 = marked_lower small small_layout replacing_journal replacing_kept 33 (event 33)
    (links_new 2 5) refl refl refl refl

raised_2 : IsLinkedLower small (first 33) 33 (links_new 2 5) × ((node_in small (first 33) 0).stored ≡ false)
unfolding link_of state
raised_2 = raised_in_pass small small_layout (first 33) kept_33 0 (first_life 2) (links_new 2 5) refl refl
    (may_replace.raised)

pub lower_raised : IsLinkedLower small (first 33) 33 (links_new 2 5)
lower_raised = raised_2.0

pub source_unstored : (node_in small (first 33) 0).stored ≡ false
source_unstored = raised_2.1

pub counter_higher : word_at small (first 26) (third_at small 0) ≤ word_at small (first 35) (third_at small 0)
unfolding state
counter_higher = counter_rises small small_layout 0 (first 26) (first 35)
    (record { rest = drop 26 (first 35); whole = refl }) kept_35 (λ h. absurd (cc)) refl

pub edges_of_nodes : made links_edge 0 replacing_journal ≤ made pops 0 replacing_journal
edges_of_nodes = edges_paid small replacing_journal replacing_kept 0

two_apart : AllPairs ◌≢◌ (first_life 2 ∷ first_life 3 ∷ [])
two_apart zero (suc zero) d low high = λ same. let h : 2 ≡ 3 = ap (λ (l : Life). l.index) same in omega (arith, h)
two_apart zero zero d low high = absurd (omega (arith, low))
two_apart zero (suc (suc j)) d low high = absurd (omega (arith, high))
two_apart (suc i) zero d low high = absurd (omega (arith, low))
two_apart (suc i) (suc j) d low high = absurd (omega (arith, low, high))

two_linked : All (λ (x : Life). edge_linked replacing_journal x ≡ true) (first_life 2 ∷ first_life 3 ∷ [])
two_linked zero d low = refl
two_linked (suc zero) d low = refl
two_linked (suc (suc i)) d low = absurd (omega (arith, low))

pub two_links : length {A = Life} (first_life 2 ∷ first_life 3 ∷ []) ≤ all_made links_edge replacing_journal
two_links = edges_are_links replacing_journal (first_life 2 ∷ first_life 3 ∷ []) two_apart two_linked

pub two_few : length {A = Life} (first_life 2 ∷ first_life 3 ∷ []) ≤ 2 ^ 36
two_few = edges_few small small_layout replacing_journal replacing_kept
    (first_life 2 ∷ first_life 3 ∷ []) two_apart two_linked

-- a closed list

pub head_closed : (state small (before 44)).frozen 0 ≡ true
unfolding state
head_closed = head_stays small small_layout 0 (before 43) (before 44) (longer 43 44 refl) (kept 44) refl refl

end_44 : IsFrozenToEnd small (before 44) 0
unfolding state
end_44 = frozen_list (before 44) refl refl refl

pub end_frozen : IsFrozenToEnd small (before 47) 0
unfolding state
end_frozen = finished_stays small small_layout 0 (before 44) (before 47) (longer 44 47 refl) (kept 47) refl end_44

pub part_frozen : is_frozen (state small (before 47)) 0 3 ≡ true
unfolding state
part_frozen = part_stays small small_layout 0 3 (before 44) (before 47) (longer 44 47 refl) (kept 47) refl refl refl tt

pub listed_before : is_listed (state small (before 38)) 0 3 ≡ true
unfolding state
listed_before = (old_lists small small_layout 3 (before 38) (before 44) (longer 38 44 refl) (kept 44)
    (λ h. absurd (cc)) refl 0 refl).0

pub all_ended : (x : ℕ) → x < 8 → is_listed (state small (before 47)) x 3 ≡ true → IsFrozenToEnd small (before 47) x
unfolding state
all_ended = old_finished small small_layout 3 (before 44) (before 47) (longer 44 47 refl) (kept 47)
    (λ h. absurd (cc)) refl (on_one (before 44) 3 end_44 refl)

pub part_of_spender : ((node_in small (before 44) 3).mode ≡ Spent) × ((node_in small (before 44) 3).who ≡ 0)
unfolding state
part_of_spender = part_who small small_layout (before 44) (kept 44) 0 3 tt refl refl tt

pub alive_40 : present_key (before 40) (first_life 0) ≡ Some 1
unfolding machine word_at key_of
alive_40 = alive small small_layout (before 40) (kept 40) (first_life 0) 1 refl refl refl

pub on_chain_40 : IsInBucket small (before 40) 0 (first_life 0)
on_chain_40 = present_in small small_layout (before 40) (kept 40) (first_life 0) 1 alive_40

pub removed_42 : vertex_marked (before 42) (first_life 0) ≡ true
unfolding machine word_at key_of
removed_42 = over small small_layout (before 42) (kept 42) (first_life 0) 1 refl (inr refl)

pub edge_linked_38 : IsLinkedEdge small (before 38) 3
unfolding link_of
edge_linked_38 = (present_edge small small_layout (before 38) (kept 38) (first_life 3) (links_new 3 6) refl refl).linked

pub edge_of_0 : IsEdgeOf (before 38) (first_life 0) (first_life 3)
unfolding state
edge_of_0 = edge_on small small_layout (before 38) (kept 38) 0 3 refl

-- what an open pass has met

same_pass : IsSamePass small (before 41) (before 44) 0
unfolding state
same_pass = record { before = longer 41 44 refl; open_still = refl; since = refl }

met_41 : HasMet small (before 41) 0 3
unfolding state
met_41 = record { pass = refl; free = λ h. absurd (cc); fresh = λ h. absurd (cc); spent = λ h. absurd (cc) }

pub met_44 : HasMet small (before 44) 0 3
met_44 = (still_met small small_layout (before 41) (before 44) (kept 44) 0 3 same_pass met_41).0

pub life_44 : (node_in small (before 44) 3).tag ≡ 1
unfolding state
life_44 = (still_met small small_layout (before 41) (before 44) (kept 44) 0 3 same_pass met_41).1.tag

pub source_44 : (node_in small (before 44) 3).source ≡ first_life 0
unfolding state
source_44 = (still_met small small_layout (before 41) (before 44) (kept 44) 0 3 same_pass met_41).1.source

pub key_44 : word_at small (before 44) (key_at small 3) ≡ 2
unfolding machine word_at
key_44 = key_stays small small_layout (before 41) (before 44) (kept 44) 0 3 same_pass met_41 (lit< tt)

pub target_44 : word_at small (before 44) (second_at small 3) ≡ pack 1 0 1
unfolding machine word_at state
target_44 = (edge_stays small small_layout (before 41) (before 44) (kept 44) 0 3 same_pass met_41 (lit< tt) refl).0

pub weight_44 : word_at small (before 44) (third_at small 3) ≡ 6
unfolding machine word_at state
weight_44 = (edge_stays small small_layout (before 41) (before 44) (kept 44) 0 3 same_pass met_41 (lit< tt) refl).1

pub unstored_44 : (node_in small (before 44) 3).stored ≡ false
unstored_44 = unstored_met small small_layout (before 44) (kept 44) 0 3 (lit< tt) met_44

pub link_44 : word_at small (before 44) (link_at small 0) ≡ pack 1 1 1
unfolding machine word_at state
link_44 = marked_link_stays small small_layout 0 (before 41) (before 44) (longer 41 44 refl) (kept 44)
    (λ h. absurd (cc)) refl refl refl

-- how a spent node becomes ripe

pub stamp_45 : IsStamped small (before 45) 0 2 0
unfolding machine word_at state
stamp_45 = stamped small (before 45) 0 2 0 (record { spent = refl; mine = refl }) (lit≤ tt)

pub stamp_47 : IsStamped small (before 47) 0 2 0
stamp_47 = stamp_beyond small small_layout 0 45 2 0 (before 45) (before 47) (longer 45 47 refl) (kept 47)
    (quiet_from 0 45 (before 47) refl) (lit≤ tt) stamp_45

pub ripe_47 : IsRipe small (before 47) 0 2
unfolding machine word_at
ripe_47 = ripens small (before 47) (before 47) (longer 47 47 refl) 0 2 0 stamp_47 (lit≤ tt)

moved_kept : IsKept small (before 47 ++ moves_epoch 3 ∷ [])
unfolding machine word_at state
moved_kept = kept_snoc small (before 47) (moves_epoch 3) (kept 47)
    (moved (before 47) 2 (lit< tt) refl (inl refl) refl refl (lit< tt))

pub ripe_moved : IsRipe small (before 47 ++ moves_epoch 3 ∷ []) 0 2
ripe_moved = ripe_beyond small small_layout 0 45 2 (before 47) (before 47 ++ moves_epoch 3 ∷ [])
    (record { rest = moves_epoch 3 ∷ []; whole = refl }) moved_kept
    (quiet_from 0 45 (before 47 ++ moves_epoch 3 ∷ []) refl) (lit≤ tt) ripe_47

pub stamp_48 : IsStamped small (before 48) 0 2 0
stamp_48 = stamp_behind small small_layout (before 47) (lives.event 47) (kept 48) 0 2 0 (λ h. absurd (cc)) stamp_47

pub ripe_48 : IsRipe small (before 48) 0 2
ripe_48 = ripe_behind small small_layout (before 47) (lives.event 47) (kept 48) 0 2 (λ h. absurd (cc)) ripe_47
