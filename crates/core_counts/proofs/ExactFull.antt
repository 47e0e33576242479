-- Full is exact for one caller: a swept table without a free node is all graph, and one that's all graph has none.
use Rattle.std.proofs.Common.{◌≡◌, ◌≢◌, ℕ, ◌+◌, List, sym, ap, ◌∙◌}
use Rattle.packed_link.specs.Layout.{Sizes, IsLayout}
use Rattle.graph_kinds.specs.Graph.{Graph, key_count, pair_count}
use Rattle.core_journal.specs.declared.event.Event.{Event}
use Rattle.core_journal.specs.GraphOf.{graph_of}
use Rattle.core_journal.specs.Right.{NoneFree}
use Rattle.core_kept.specs.Counts.{made}
use Rattle.core_kept.specs.Kept.{IsKept}
use Rattle.core_kept.specs.Nodes.{IsFreshWith, IsSpentWith}
use Rattle.core_counts.specs.Spending.{acts}
use Rattle.core_counts.specs.Swept.{IsSwept}
use Rattle.core_counts.proofs.AllNodesOfGraph.{empty_none, none_empty, each_all, counted_all}
use Rattle.core_counts.proofs.SweptTables.{all_swept}
use Rattle.core_counts.proofs.IdleCallers.{has_nothing}

pub swept_all : (sizes : Sizes) → IsLayout sizes → (journal : List Event) → IsKept sizes journal → (caller : ℕ)
    → NoneFree sizes journal → ((x : ℕ) → IsFreshWith sizes journal caller x → ⊥) →
    ((x : ℕ) → IsSpentWith sizes journal caller x → ⊥) → IsSwept sizes journal
    → ((i : ℕ) → i ≢ caller → made acts i journal ≡ 0) → key_count (graph_of journal) + pair_count
    (graph_of journal) ≡ sizes.nodes
swept_all sizes z journal kept caller none fresh spent swept others = each_all sizes z journal kept
    (all_swept sizes z journal kept caller (empty_none sizes z journal kept none) fresh spent swept
    (λ i x ne. (has_nothing sizes z journal kept i (others i ne)).fresh x)
    (λ i x ne. (has_nothing sizes z journal kept i (others i ne)).spent x))

pub full_exact : (sizes : Sizes) → IsLayout sizes → (front later : List Event) → IsKept sizes later
    → graph_of later ≡ graph_of front → (caller : ℕ) → NoneFree sizes later →
    ((x : ℕ) → IsFreshWith sizes later caller x → ⊥) → ((x : ℕ) → IsSpentWith sizes later caller x → ⊥)
    → IsSwept sizes later
    → ((i : ℕ) → i ≢ caller → made acts i later ≡ 0) → key_count (graph_of front) + pair_count
    (graph_of front) ≡ sizes.nodes
full_exact sizes z front later kept same caller none fresh spent swept others =
    ap (λ (g : Graph). key_count g + pair_count g) (sym same)
    ∙ swept_all sizes z later kept caller none fresh spent swept others

pub all_empty : (sizes : Sizes) → IsLayout sizes → (front later : List Event) → IsKept sizes later
    → graph_of later ≡ graph_of front → key_count (graph_of front) + pair_count (graph_of front) ≡ sizes.nodes
    → NoneFree sizes later
all_empty sizes z front later kept same is = none_empty sizes z later kept
    (counted_all sizes z later kept (ap (λ (g : Graph). key_count g + pair_count g) same ∙ is)).free
