-- What walks of a source's list tell that help.
use Rattle.std.specs.Prelude.{◌≡◌, ℕ}
use Rattle.packed_link.specs.declared.link.Life.{Life}
use Rattle.core_rule.specs.declared.view.View.{View}
use Rattle.core_stretches.specs.Moments.{HoldsBetween, LacksEdge}
use Rattle.edge_list.specs.EdgePositions.{EdgePositionValue, IsGapOfEdge, IsSeenEdge, IsUnmarkedEdge}
use Rattle.edge_list.specs.EdgeWalks.{FoundFrozen, HasTarget}
use Rattle.edge_list.specs.declared.walks.EdgeSighting.{EdgeSighting}
use Rattle.graph_updates.specs.Parts.{Fell}
use Rattle.graph_updates.specs.declared.edge_locating.EdgeSought.{EdgeSought}
use Rattle.graph_updates.specs.declared.edge_locating.EdgeSought.TheVariants.{Frozen, Here, Gone, Lost}

-- the edge of the source and the key was found, unmarked at a moment between two views, and its target was linked as a
-- vertex of the key
pub record WasEdgeHere (source : Life) (key : ℕ) (v w : View) (s : EdgeSighting) : Type 0 where
  pub key_is : s.edge.key ≡ key
  pub seen : IsSeenEdge w source s.edge s.moment.value.view.front
  pub there : HoldsBetween v.front w.front (IsUnmarkedEdge source s.edge) s.moment.value.view.front
  pub target : HasTarget w s.edge

-- no edge of the source with the key was unmarked at a moment between two views, which the position shows
pub record WasEdgeGone (source : Life) (key : ℕ) (v w : View) (q : EdgePositionValue) : Type 0 where
  pub source_is : q.source ≡ source
  pub key_is : q.key ≡ key
  pub gap : IsGapOfEdge w q
  pub there : HoldsBetween v.front w.front (LacksEdge source key) q.moment

-- a walk found the list closed, or came to its edge, or to where it's missing, or a foreign event fell
abbrev pub MatchEdgeSought : EdgeSought → (source : Life) → (key : ℕ) → View → View → Type 0
MatchEdgeSought Frozen source key v w = FoundFrozen source w
MatchEdgeSought (Here s) source key v w = WasEdgeHere source key v w s
MatchEdgeSought (Gone q) source key v w = WasEdgeGone source key v w q
MatchEdgeSought Lost source key v w = Fell 1 w.number v.front w.front
