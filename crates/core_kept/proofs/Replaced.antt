-- An edge is replaced in two steps: the new one is linked, and then the old one is marked.
use Rattle.std.proofs.Common.{◌≡◌, ◌≢◌, ℕ, List, ap, ◌∙◌}
use Rattle.packed_link.specs.Layout.{Sizes}
use Rattle.core_journal.specs.declared.event.Event.{Event}
use Rattle.core_journal.specs.State.{joined_edge, state}
use Rattle.core_kept.specs.Nodes.{node_in}
use Rattle.core_kept.specs.Edges.{IsReplaceEdge}
use Rattle.core_kept.proofs.ByKind.{put_other}

-- the two are different nodes
pub old_apart : (sizes : Sizes) (past : List Event) (e : Event) → IsReplaceEdge sizes past e
    → e.old.index ≢ e.life.index
old_apart sizes past e ok same =
    let f = ap (λ (y : ℕ). (node_in sizes past y).mode) same ∙ ok.fresh.fresh in
    let l = ok.linked.linked in absurd (cc)

-- so the old one stays where the new one is linked
pub old_joined : (sizes : Sizes) (past : List Event) (e : Event) → IsReplaceEdge sizes past e
    → (joined_edge sizes e (state sizes past)).node e.old.index ≡ node_in sizes past e.old.index
old_joined sizes past e ok = put_other e.life.index _ (state sizes past).node e.old.index (old_apart sizes past e ok)
