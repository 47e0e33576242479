-- What the start of a walk of a source's list tells, the walk, and a step through the list.
use Rattle.std.specs.Prelude.{◌≡◌, ◌<◌, ℕ, Bool, true, false, Some}
use Rattle.packed_link.specs.Layout.{link_at, second_at}
use Rattle.packed_link.specs.Link.{index_of, mark_of, nowhere}
use Rattle.packed_link.specs.declared.link.Life.{Life}
use Rattle.core_journal.specs.Life.{key_of, vertex_marked}
use Rattle.core_journal.specs.Machine.{word_at}
use Rattle.core_journal.specs.Prefix.{IsPrefix}
use Rattle.core_rule.specs.declared.view.View.{View}
use Rattle.core_stretches.specs.Moments.{HoldsBetween, LacksEdge}
use Rattle.edge_list.specs.EdgePositions.{EdgePositionValue, IsEdgePosition, IsGapOfEdge, IsSeenEdge, IsUnmarkedEdge}
use Rattle.edge_list.specs.EdgePositions.{LeadsToDeadEdge}
use Rattle.edge_list.specs.declared.edge.Edge.{Edge}
use Rattle.edge_list.specs.declared.walks.Started.{Started}
use Rattle.edge_list.specs.declared.walks.Started.TheVariants.{At as StartAt, Frozen as StartFrozen}
use Rattle.edge_list.specs.declared.walks.EdgeFound.{EdgeFound}
use Rattle.edge_list.specs.declared.walks.EdgeFound.TheVariants.{Here as EdgeHere, Gone as EdgeGone, Dead as EdgeDead}
use Rattle.edge_list.specs.declared.walks.EdgeSighting.{EdgeSighting}
use Rattle.edge_list.specs.declared.walks.EdgeStepped.{EdgeStepped}
use Rattle.edge_list.specs.declared.walks.EdgeStepped.TheVariants.{At as StepAt, End as StepEnd, Dead as StepDead}

-- the position at the second word of the source, which was loaded unmarked at the new front
pub record IsStarted (source : Life) (key : ℕ) (w : View) (p : EdgePositionValue) : Type 0 where
  pub source_is : p.source ≡ source
  pub key_is : p.key ≡ key
  pub place : p.place ≡ second_at w.sizes source.index
  pub moment : p.moment ≡ w.front
  pub position : IsEdgePosition false w p

-- the second word of the source was loaded marked at the new front, so the source is marked
pub record FoundFrozen (source : Life) (w : View) : Type 0 where
  pub closed : mark_of (word_at w.sizes w.front (second_at w.sizes source.index)) ≡ 1
  pub marked : vertex_marked w.front source ≡ true

abbrev pub MatchStarted : Started → (source : Life) → (key : ℕ) → View → Type 0
MatchStarted (StartAt p) source key w = IsStarted source key w p
MatchStarted StartFrozen source key w = FoundFrozen source w

-- the target of an edge was linked as a vertex of the edge's key, and its node is one of the table
pub record HasTarget (w : View) (edge : Edge) : Type 0 where
  pub there : edge.target.index < w.sizes.nodes
  pub linked : key_of w.front edge.target ≡ Some edge.key

-- the edge of the position's key was found: at a moment since the position's load it was linked and unmarked
pub record IsEdgeHere (p : EdgePositionValue) (w : View) (s : EdgeSighting) : Type 0 where
  pub key : s.edge.key ≡ p.key
  pub seen : IsSeenEdge w p.source s.edge s.moment.value.view.front
  pub there : HoldsBetween p.moment w.front (IsUnmarkedEdge p.source s.edge) s.moment.value.view.front
  pub target : HasTarget w s.edge

-- the key is missing: at the moment of the new position's load no edge of the source with it was unmarked
pub record IsEdgeGone (p : EdgePositionValue) (w : View) (q : EdgePositionValue) : Type 0 where
  pub source : q.source ≡ p.source
  pub key : q.key ≡ p.key
  pub gap : IsGapOfEdge w q
  pub there : HoldsBetween p.moment w.front (LacksEdge p.source p.key) q.moment

-- the new position, loaded no earlier, leads to a marked edge
pub record IsEdgeDead (p : EdgePositionValue) (w : View) (q : EdgePositionValue) : Type 0 where
  pub source : q.source ≡ p.source
  pub key : q.key ≡ p.key
  pub since : IsPrefix p.moment q.moment
  pub position : IsEdgePosition false w q
  pub dead : LeadsToDeadEdge w q

abbrev pub MatchEdgeFound : EdgeFound → EdgePositionValue → View → Type 0
MatchEdgeFound (EdgeHere s) p w = IsEdgeHere p w s
MatchEdgeFound (EdgeGone q) p w = IsEdgeGone p w q
MatchEdgeFound (EdgeDead q) p w = IsEdgeDead p w q

-- a step came to the edge to which the position's word leads: when its link was loaded it was linked and unmarked, with
-- the key of the new position, which stands behind it. Behind a position that was passed, that key is greater
pub record IsEdgeAt (p : EdgePositionValue) (v w : View) (edge : Edge) (q : EdgePositionValue) : Type 0 where
  pub leads : index_of p.word ≡ edge.life.index
  pub source : q.source ≡ p.source
  pub key : q.key ≡ edge.key
  pub place : q.place ≡ link_at w.sizes edge.life.index
  pub position : IsEdgePosition true w q
  pub seen : IsSeenEdge w p.source edge q.moment
  pub there : HoldsBetween p.moment w.front (IsUnmarkedEdge p.source edge) q.moment
  pub target : HasTarget w edge
  pub rises : IsEdgePosition true v p → p.key < edge.key

-- the position leads to a marked edge, and is a position still: it stands where it did, with the same word
pub record IsEdgeDeadStep (p : EdgePositionValue) (v w : View) (q : EdgePositionValue) : Type 0 where
  pub source : q.source ≡ p.source
  pub key : q.key ≡ p.key
  pub place : q.place ≡ p.place
  pub word : q.word ≡ p.word
  pub moment : q.moment ≡ p.moment
  pub position : (passed : Bool) → IsEdgePosition passed v p → IsEdgePosition passed w q
  pub dead : LeadsToDeadEdge w q

abbrev pub MatchEdgeStepped : EdgeStepped → EdgePositionValue → View → View → Type 0
MatchEdgeStepped (StepAt edge q) p v w = IsEdgeAt p v w edge q
MatchEdgeStepped StepEnd p v w = index_of p.word ≡ nowhere
MatchEdgeStepped (StepDead q) p v w = IsEdgeDeadStep p v w q
