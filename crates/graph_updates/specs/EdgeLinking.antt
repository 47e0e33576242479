-- What linking an edge tells: a node is filled for it, and linked.
use Rattle.std.specs.Prelude.{◌≡◌, ℕ, List, Some}
use Rattle.graph_kinds.specs.History.{Every}
use Rattle.packed_link.specs.Layout.{free_at}
use Rattle.packed_link.specs.declared.link.Life.{Life}
use Rattle.core_journal.specs.declared.event.Event.{Event}
use Rattle.core_journal.specs.Event.{raises}
use Rattle.core_rule.specs.declared.view.View.{View}
use Rattle.core_stretches.specs.Makes.{Makes, StaysInPass, of_kinds}
use Rattle.edge_list.specs.EdgeChanges.{IsEdgeLinked}
use Rattle.edge_list.specs.EdgePositions.{EdgePositionValue}
use Rattle.edge_list.specs.declared.changes.EdgeLinked.{EdgeLinked}
use Rattle.edge_list.specs.declared.changes.EdgeLinked.TheVariants.{Done, Lost}
use Rattle.graph_updates.specs.Adding.{IsPlaceLost, Readies}

-- a stretch in an open pass, without raises, whose own events are at the free list's word
pub record IsAtFree (v w : View) : Type 0 where
  pub own : List Event
  pub stays : Every StaysInPass own
  pub at : Every (λ (e : Event). e.place ≡ free_at v.sizes) own
  pub makes : Makes v own w
  pub raised : of_kinds raises own ≡ 0

-- a node was filled as an edge and linked by the last event of the front
pub record IsEdgePut (p : EdgePositionValue) (target : Life) (weight : ℕ) (x : Life) (v w : View) : Type 0 where
  pub before : View
  pub first : Readies 0 v before
  pub linked : IsEdgeLinked p target weight x before w

-- what filling and linking a node came to; if it wasn't linked, a foreign event fell since the position's moment
abbrev pub MatchEdgePut : EdgeLinked → EdgePositionValue → (target : Life) → (weight : ℕ) → Life → View → View
    → Type 0
MatchEdgePut (Done life) p target weight x v w = IsEdgePut p target weight x v w
MatchEdgePut (Lost fresh) p target weight x v w = (fresh ≡ x) × IsPlaceLost p.moment (Some x) v w (Some x)
