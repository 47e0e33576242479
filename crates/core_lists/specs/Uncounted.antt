-- What stays where only uncounted events were made since a front, and where own unlinks were made too.
use Rattle.std.specs.Prelude.{◌≡◌, ◌⊎◌, ℕ, ◌<◌, ◌==◌, ◌&&◌, not, Bool, true, false, List, Some, ◌++◌, slice_get}
use Rattle.std.specs.List.{list_any}
use Rattle.packed_link.specs.Layout.{Sizes, free_at}
use Rattle.core_chain.specs.Steps.{Untouched}
use Rattle.core_journal.specs.declared.event.Event.{Event}
use Rattle.core_journal.specs.Event.{counted, unlinks}
use Rattle.core_journal.specs.GraphOf.{graph_of}
use Rattle.core_journal.specs.Machine.{word_at}
use Rattle.core_journal.specs.State.{Linked, Node, Spent, state}
use Rattle.core_kept.specs.Nodes.{is_listed, is_of_bucket, node_in}
use Rattle.core_lists.specs.Chains.{bucket_chain, edge_chain, HasList}

-- none of these events is of a counted kind
pub record AreUncounted (rest : List Event) : Type 0 where
  pub each : (k : ℕ) (e : Event) → slice_get rest k ≡ Some e → counted e.kind ≡ false

-- each of these events is of no counted kind, or unlinks a node and is this caller's
pub record AreUncountedOrUnlinks (caller : ℕ) (rest : List Event) : Type 0 where
  pub each : (k : ℕ) (e : Event) → slice_get rest k ≡ Some e
      → (counted e.kind ≡ false) ⊎ ((unlinks e.kind ≡ true) × (e.caller ≡ caller))

-- what stays where no counted event fell between: all of the state's nodes but that links are stored for the free list,
-- the free list, the chains and the lists with their words, and the graph
pub record StaysUncounted (sizes : Sizes) (front journal : List Event) : Type 0 where
  pub node : (x : ℕ) → node_in sizes journal x
      ≡ record (node_in sizes front x) { stored = (node_in sizes journal x).stored }
  pub linked : (x : ℕ) → (node_in sizes front x).mode ≡ Linked → node_in sizes journal x ≡ node_in sizes front x
  pub free : (state sizes journal).free ≡ (state sizes front).free
  pub free_word : word_at sizes journal (free_at sizes) ≡ word_at sizes front (free_at sizes)
  pub edges : (x : ℕ) → (state sizes journal).edges x ≡ (state sizes front).edges x
  pub frozen : (x : ℕ) → (state sizes journal).frozen x ≡ (state sizes front).frozen x
  pub buckets : (j : ℕ) → j < sizes.buckets → Untouched (bucket_chain sizes front j) (bucket_chain sizes journal j)
  pub lists : (x : ℕ) → HasList sizes front x → Untouched (edge_chain sizes front x) (edge_chain sizes journal x)
  pub graph : graph_of journal ≡ graph_of front

-- whether one of these events unlinks a node
abbrev pub unlinked_by : List Event → ℕ → Bool
unlinked_by rest x = list_any (λ (e : Event). unlinks e.kind && (e.life.index == x)) rest

-- a node was linked and marked, and is the same but that a caller spent it
pub record IsOwnSpent (caller : ℕ) (v w : Node) : Type 0 where
  pub linked : v.mode ≡ Linked
  pub marked : v.marked ≡ true
  pub ended : ℕ
  pub epoch : ℕ
  pub now : w ≡ record v { mode = Spent; who = caller; stored = w.stored; ended = ended; epoch = epoch }

-- what stays where a caller made unlinks too: the nodes that it unlinked were linked and marked, are spent with it now,
-- and stand on no chain and no list any more; all others are as they were, on the chains and lists on which they stood
pub record StaysButUnlinked (sizes : Sizes) (front rest : List Event) (caller : ℕ) : Type 0 where
  pub node : (x : ℕ) → unlinked_by rest x ≡ false → node_in sizes (front ++ rest) x
      ≡ record (node_in sizes front x) { stored = (node_in sizes (front ++ rest) x).stored }
  pub linked : (x : ℕ) → unlinked_by rest x ≡ false → (node_in sizes front x).mode ≡ Linked
      → node_in sizes (front ++ rest) x ≡ node_in sizes front x
  pub unlinked : (x : ℕ) → unlinked_by rest x ≡ true
      → IsOwnSpent caller (node_in sizes front x) (node_in sizes (front ++ rest) x)
  pub free : (state sizes (front ++ rest)).free ≡ (state sizes front).free
  pub free_word : word_at sizes (front ++ rest) (free_at sizes) ≡ word_at sizes front (free_at sizes)
  pub buckets : (j x : ℕ) → is_of_bucket sizes (state sizes (front ++ rest)) j x
      ≡ (not (unlinked_by rest x) && is_of_bucket sizes (state sizes front) j x)
  pub lists : (x y : ℕ) → is_listed (state sizes (front ++ rest)) x y
      ≡ (not (unlinked_by rest y) && is_listed (state sizes front) x y)
  pub frozen : (x : ℕ) → (state sizes (front ++ rest)).frozen x ≡ (state sizes front).frozen x
  pub graph : graph_of (front ++ rest) ≡ graph_of front
