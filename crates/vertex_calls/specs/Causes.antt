-- What a walk from a bucket's word came to, and why a call that stops at an answer of another kind came to none.
use Rattle.std.specs.Prelude.{◌≡◌, ◌⊎◌, ℕ, List, []}
use Rattle.packed_link.specs.declared.link.Life.{Life}
use Rattle.core_journal.specs.declared.event.Event.{Event}
use Rattle.core_journal.specs.Prefix.{IsPrefix}
use Rattle.core_lists.specs.Changed.{IsChangedByAnother}
use Rattle.core_rule.specs.declared.view.View.{View}
use Rattle.core_stretches.specs.Makes.{Makes}
use Rattle.core_stretches.specs.Moments.{Has, HoldsBetween, Lacks}
use Rattle.node_arena.specs.Taking.{TookNone}
use Rattle.vertex_list.specs.Positions.{PositionValue, LeadsToDead}
use Rattle.vertex_list.specs.Walks.{MatchFound}
use Rattle.vertex_list.specs.declared.walks.Found.{Found}

-- since the old front a vertex was present with this key
pub record WasPresent (key : ℕ) (v w : View) : Type 0 where
  pub life : Life
  pub moment : List Event
  pub there : HoldsBetween v.front w.front (Has key life) moment

-- since the old front there was a moment at which no vertex was present with this key
pub record WasMissing (key : ℕ) (v w : View) : Type 0 where
  pub moment : List Event
  pub there : HoldsBetween v.front w.front (Lacks key) moment

-- a word that was loaded since the old front, on the way to this key, leads to a marked vertex
pub record MetDead (key : ℕ) (v w : View) : Type 0 where
  pub position : PositionValue
  pub key_is : position.key ≡ key
  pub since : IsPrefix v.front position.moment
  pub dead : LeadsToDead w position

-- a walk to the key came to no gap: to its vertex, or to a marked one
abbrev pub CameToNoGap : ℕ → View → View → Type 0
CameToNoGap key v w = WasPresent key v w ⊎ MetDead key v w

-- a walk to the key came to no vertex of it that is present: to a gap, or to a marked vertex
abbrev pub CameToNone : ℕ → View → View → Type 0
CameToNone key v w = WasMissing key v w ⊎ MetDead key v w

-- another caller changed the word of a position for this key after its load, which was made since the old front
pub record LostWord (key : ℕ) (v w : View) : Type 0 where
  pub position : PositionValue
  pub key_is : position.key ≡ key
  pub since : IsPrefix v.front position.moment
  pub changed : IsChangedByAnother position.moment w.front w.number position.place

-- a walk for a key from its bucket's word, which was loaded since the old front, came to this
pub record IsWalked (key : ℕ) (r : Found) (v w : View) : Type 0 where
  pub from : PositionValue
  pub key_is : from.key ≡ key
  pub since : IsPrefix v.front from.moment
  pub makes : Makes v [] w
  pub found : MatchFound r from w

-- after loads no node was taken
pub record CameToNoNode (v w : View) : Type 0 where
  pub then : View
  pub loads : Makes v [] then
  pub cause : TookNone then w
