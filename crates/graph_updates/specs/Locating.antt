-- What walks that help tell of their key.
use Rattle.std.specs.Prelude.{◌≡◌, ℕ, ◌<◌}
use Rattle.core_rule.specs.Fronts.{MetVertex}
use Rattle.core_rule.specs.declared.view.View.{View}
use Rattle.core_stretches.specs.Moments.{HoldsBetween, Has, Lacks}
use Rattle.vertex_list.specs.Positions.{PositionValue, IsGap}
use Rattle.vertex_list.specs.declared.walks.Sighting.{Sighting}
use Rattle.graph_updates.specs.Parts.{Fell}
use Rattle.graph_updates.specs.declared.locating.Located.{Located}
use Rattle.graph_updates.specs.declared.locating.Located.TheVariants as located
use Rattle.graph_updates.specs.declared.locating.Sought.{Sought}
use Rattle.graph_updates.specs.declared.locating.Sought.TheVariants.{Here, Gone, Lost}

-- the vertex was met, and present with the key at a moment between two views
pub record WasHere (key : ℕ) (v w : View) (s : Sighting) : Type 0 where
  pub met : MetVertex w s.life
  pub there : HoldsBetween v.front w.front (Has key s.life) s.moment.value.view.front

-- no vertex was present with the key at a moment between two views, which the position shows
pub record WasGone (key : ℕ) (v w : View) (q : PositionValue) : Type 0 where
  pub key_is : q.key ≡ key
  pub gap : IsGap w q
  pub there : HoldsBetween v.front w.front (Lacks key) q.moment

-- a walk came to its key, or to where it's missing, or a foreign event fell
abbrev pub MatchSought : Sought → ℕ → View → View → Type 0
MatchSought (Here s) key v w = WasHere key v w s
MatchSought (Gone q) key v w = WasGone key v w q
MatchSought Lost key v w = Fell 1 w.number v.front w.front

-- the same, with tries left; or no try is left
abbrev pub MatchLocated : Located → (key lost tries : ℕ) → View → View → Type 0
MatchLocated (located.Here s) key lost tries v w = (lost < tries) × WasHere key v w s
MatchLocated (located.Gone q) key lost tries v w = (lost < tries) × WasGone key v w q
MatchLocated located.Again key lost tries v w = lost ≡ tries
