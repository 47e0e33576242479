-- What a call finds out of a pair of keys: the lives of its ends, and moments at which the graph has the pair or lacks
-- it.
use Rattle.std.specs.Prelude.{◌≡◌, ◌≢◌, ◌⊎◌, ◌+◌, ◌<◌, ◌≤◌, ℕ, true, false, List, None, Some, length, take}
use Rattle.graph_kinds.specs.Graph.{has, weight_of}
use Rattle.graph_kinds.specs.declared.outcome.Outcome.{Outcome}
use Rattle.graph_kinds.specs.declared.outcome.Outcome.TheVariants.{NoEdge, NoVertex}
use Rattle.packed_link.specs.declared.link.Life.{Life}
use Rattle.core_journal.specs.declared.event.Event.{Event}
use Rattle.core_journal.specs.GraphOf.{graph_of}
use Rattle.core_journal.specs.Life.{vertex_marked}
use Rattle.core_journal.specs.Marks.{IsCutOf}
use Rattle.core_rule.specs.Fronts.{MetVertex}
use Rattle.core_rule.specs.declared.view.View.{View}
use Rattle.core_stretches.specs.Moments.{Has, HoldsBetween}
use Rattle.graph_updates.specs.EdgeLocating.{WasEdgeGone, WasEdgeHere}
use Rattle.graph_updates.specs.Locating.{WasGone}
use Rattle.graph_updates.specs.Parts.{Fell}
use Rattle.graph_updates.specs.declared.pairs.Ends.{Ends}
use Rattle.graph_updates.specs.declared.pairs.EndsAlive.{EndsAlive}
use Rattle.graph_updates.specs.declared.pairs.EndsAlive.TheVariants as alive
use Rattle.graph_updates.specs.declared.pairs.EndsLocated.{EndsLocated}
use Rattle.graph_updates.specs.declared.pairs.EndsLocated.TheVariants as located
use Rattle.graph_updates.specs.declared.pairs.Lack.{Lack}
use Rattle.graph_updates.specs.declared.pairs.Lack.TheVariants as lack
use Rattle.graph_updates.specs.declared.pairs.PairFound.{PairFound}
use Rattle.graph_updates.specs.declared.pairs.PairFound.TheVariants as found

-- the lives of the ends of a pair: each was met, and present with its key at a moment between two views
pub record AreEnds (a b : ℕ) (v w : View) (ends : Ends) : Type 0 where
  pub from_met : MetVertex w ends.from
  pub from_then : List Event
  pub from_there : HoldsBetween v.front w.front (Has a ends.from) from_then
  pub to_met : MetVertex w ends.to
  pub to_then : List Event
  pub to_there : HoldsBetween v.front w.front (Has b ends.to) to_then

-- both ends were located, with tries left; or one of the keys was missing at a moment; or no try is left
abbrev pub MatchEndsLocated : EndsLocated → (a b lost tries : ℕ) → View → View → Type 0
MatchEndsLocated (located.Both ends) a b lost tries v w = (lost < tries) × AreEnds a b v w ends
MatchEndsLocated (located.Gone q) a b lost tries v w = (lost < tries) × (WasGone a v w q ⊎ WasGone b v w q)
MatchEndsLocated located.Again a b lost tries v w = lost ≡ tries

-- neither end was marked at a view, or one is at a later one
abbrev pub MatchEndsAlive : EndsAlive → Ends → View → View → Type 0
MatchEndsAlive alive.Both ends v w =
    (vertex_marked v.front ends.from ≡ false) × (vertex_marked v.front ends.to ≡ false)
MatchEndsAlive (alive.Over x) ends v w =
    ((x ≡ ends.from) ⊎ (x ≡ ends.to)) × (vertex_marked w.front x ≡ true)

-- the graph has a pair with a weight
pub record HasPair (a b weight : ℕ) (journal : List Event) : Type 0 where
  pub from : has (graph_of journal) a ≡ true
  pub to : has (graph_of journal) b ≡ true
  pub weight_is : weight_of (graph_of journal) a b ≡ Some weight

-- the graph has both keys, and no pair of them
pub record LacksPair (a b : ℕ) (journal : List Event) : Type 0 where
  pub from : has (graph_of journal) a ≡ true
  pub to : has (graph_of journal) b ≡ true
  pub none : weight_of (graph_of journal) a b ≡ None

-- the graph lacks one of the keys
pub record LacksEnd (a b : ℕ) (journal : List Event) : Type 0 where
  pub missing : (has (graph_of journal) a ≡ false) ⊎ (has (graph_of journal) b ≡ false)

-- a vertex of one of the keys was present at a moment between two views, and is marked at the later one
pub record IsEndOver (a b : ℕ) (v w : View) (x : Life) : Type 0 where
  pub key : ℕ
  pub key_is : (key ≡ a) ⊎ (key ≡ b)
  pub at : List Event
  pub there : HoldsBetween v.front w.front (Has key x) at
  pub marked : vertex_marked w.front x ≡ true

-- an edge was marked by an event since a view, right after which the graph has both keys and no pair of them
pub record IsPairCut (a b : ℕ) (v w : View) (x : Life) : Type 0 where
  pub number : ℕ
  pub since : length v.front ≤ number
  pub cut : IsCutOf w.front x number
  pub lacks : LacksPair a b (take (number + 1) w.front)

-- what a pair lacks, and the place at which it does: a key, at the moment of a position; a key, right after its vertex
-- was marked; the edge, at the moment of a position, at the moment at which an edge to another life of the key was seen
-- unmarked, or right after the edge was marked
abbrev pub MatchLack : Lack → (a b : ℕ) → View → View → Type 0
MatchLack (lack.Key q) a b v w = HoldsBetween v.front w.front (LacksEnd a b) q.moment
MatchLack (lack.Vertex x) a b v w = IsEndOver a b v w x
MatchLack (lack.Edge q) a b v w = HoldsBetween v.front w.front (LacksPair a b) q.moment
MatchLack (lack.Stale s) a b v w = HoldsBetween v.front w.front (LacksPair a b) s.moment.value.view.front
MatchLack (lack.Marked x) a b v w = IsPairCut a b v w x

-- what is answered then
abbrev pub lack_outcome : Lack → Outcome
lack_outcome (lack.Key q) = NoVertex
lack_outcome (lack.Vertex x) = NoVertex
lack_outcome (lack.Edge q) = NoEdge
lack_outcome (lack.Stale s) = NoEdge
lack_outcome (lack.Marked x) = NoEdge

-- what the graph lacks then
abbrev pub LacksBy : Lack → (a b : ℕ) → List Event → Type 0
LacksBy (lack.Key q) a b journal = LacksEnd a b journal
LacksBy (lack.Vertex x) a b journal = LacksEnd a b journal
LacksBy (lack.Edge q) a b journal = LacksPair a b journal
LacksBy (lack.Stale s) a b journal = LacksPair a b journal
LacksBy (lack.Marked x) a b journal = LacksPair a b journal

-- what one walk for an edge came to: the edge to the located target; an edge to another life of its key, which is over;
-- a position at which the key is missing; the mark of one of the ends; or a foreign event fell
abbrev pub MatchPairFound : PairFound → Ends → (b : ℕ) → View → View → Type 0
MatchPairFound (found.Edge s) ends b v w = WasEdgeHere ends.from b v w s × (s.edge.target ≡ ends.to)
MatchPairFound (found.Stale s) ends b v w =
    WasEdgeHere ends.from b v w s × ((s.edge.target ≢ ends.to) × (vertex_marked w.front s.edge.target ≡ true))
MatchPairFound (found.Gone q) ends b v w = WasEdgeGone ends.from b v w q
MatchPairFound (found.Over x) ends b v w =
    ((x ≡ ends.from) ⊎ (x ≡ ends.to)) × (vertex_marked w.front x ≡ true)
MatchPairFound found.Lost ends b v w = Fell 1 w.number v.front w.front
