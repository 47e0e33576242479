-- What looking an edge up tells, try by try.
use Rattle.std.specs.Prelude.{◌≡◌, ◌⊎◌, ◌<◌, ℕ, false, true}
use Rattle.core_journal.specs.Life.{vertex_marked}
use Rattle.core_rule.specs.declared.view.View.{View}
use Rattle.core_stretches.specs.Moments.{HoldsBetween}
use Rattle.edge_list.specs.declared.walks.EdgeSighting.{EdgeSighting}
use Rattle.graph_updates.specs.Hands.{HandValue}
use Rattle.graph_updates.specs.Pairs.{HasPair, MatchLack}
use Rattle.graph_updates.specs.Parts.{Fell, GoesOnBy}
use Rattle.packed_link.specs.declared.link.Life.{Life}
use Rattle.graph_updates.specs.declared.pairs.Ends.{Ends}
use Rattle.graph_updates.specs.declared.pairs.Lack.{Lack}
use Rattle.graph_updates.specs.declared.pairs.Lack.TheVariants as lacks
use Rattle.graph_updates.specs.declared.edge_looking.EdgeLooked.{EdgeLooked}
use Rattle.graph_updates.specs.declared.edge_looking.EdgeLooked.TheVariants as looked
use Rattle.graph_updates.specs.declared.edge_looking.LookTried.{LookTried}
use Rattle.graph_updates.specs.declared.edge_looking.LookTried.TheVariants as tried

-- the graph had the pair with the edge's weight when its link was loaded
abbrev pub SawPair : (a b : ℕ) → View → View → EdgeSighting → Type 0
SawPair a b v w s = HoldsBetween v.front w.front (HasPair a b s.edge.weight) s.moment.value.view.front

-- both ends were unmarked at a view, and the pair lacks what it was found to lack; or one end is marked at a later view
abbrev pub LacksWith : (result lack : Lack) → Ends → View → View → Type 0
LacksWith result lack ends v w =
    ((result ≡ lack) × ((vertex_marked v.front ends.from ≡ false) × (vertex_marked v.front ends.to ≡ false)))
    ⊎ ((x : Life) × ((result ≡ lacks.Vertex x)
    × (((x ≡ ends.from) ⊎ (x ≡ ends.to)) × (vertex_marked w.front x ≡ true))))

-- what one walk of a located source's list came to, by its own stretch and the moments at which the ends were located
abbrev pub MatchLookedAt : LookTried → (a b : ℕ) → View → View → View → Type 0
MatchLookedAt (tried.Edge s) a b v m w = SawPair a b m w s
MatchLookedAt (tried.Lacks l) a b v m w = MatchLack l a b v w
MatchLookedAt tried.Lost a b v m w = Fell 1 w.number m.front w.front
MatchLookedAt tried.Again a b v m w = ⊥

-- what one try came to
abbrev pub MatchLookTried : LookTried → (a b lost tries : ℕ) → HandValue → HandValue → Type 0
MatchLookTried (tried.Edge s) a b lost tries old new =
    GoesOnBy false old new × SawPair a b old.token.view new.token.view s
MatchLookTried (tried.Lacks l) a b lost tries old new =
    GoesOnBy false old new × MatchLack l a b old.token.view new.token.view
MatchLookTried tried.Lost a b lost tries old new = GoesOnBy false old new × (lost < tries)
MatchLookTried tried.Again a b lost tries old new = GoesOnBy false old new × (lost ≡ tries)

-- what all tries came to
abbrev pub MatchEdgeLooked : EdgeLooked → (a b tries : ℕ) → HandValue → HandValue → Type 0
MatchEdgeLooked (looked.Edge s) a b tries old new =
    GoesOnBy false old new × SawPair a b old.token.view new.token.view s
MatchEdgeLooked (looked.Lacks l) a b tries old new =
    GoesOnBy false old new × MatchLack l a b old.token.view new.token.view
MatchEdgeLooked looked.Again a b tries old new =
    GoesOnBy false old new × Fell tries new.token.view.number old.token.view.front new.token.view.front
