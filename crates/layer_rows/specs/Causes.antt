-- Why a call of these rows came to none.
use Rattle.std.specs.Prelude.{◌≡◌, ◌⊎◌, ℕ, true, List}
use Rattle.packed_link.specs.declared.link.Life.{Life}
use Rattle.core_journal.specs.declared.event.Event.{Event}
use Rattle.core_journal.specs.Life.{vertex_marked}
use Rattle.core_journal.specs.Prefix.{IsPrefix}
use Rattle.core_rule.specs.Fronts.{key_in}
use Rattle.core_rule.specs.declared.view.View.{View}
use Rattle.core_stretches.specs.Moments.{Has, HoldsBetween}
use Rattle.graph_table.specs.declared.answers.LinkTried.TheVariants.{Lost as LinkLost}
use Rattle.vertex_calls.specs.Causes.{CameToNoGap, CameToNoNode, CameToNone, LostWord, WasMissing, WasPresent}
use Rattle.vertex_list.specs.Changes.{IsMarked}
use Rattle.layer_rows.specs.Rows.{IsNoFront, IsPrepended}

-- no node was taken; the walk came to no gap; or another caller changed the word at which the vertex was to be linked
abbrev pub IsNoVertexAdded : ℕ → View → View → Type 0
IsNoVertexAdded key v w = CameToNoNode v w ⊎ (CameToNoGap key v w ⊎ LostWord key v w)

-- a node was filled as an edge, and another word stood in front of the source's list than that to which it leads
pub record IsFrontLost (source target : Life) (weight : ℕ) (v w : View) : Type 0 where
  pub node : Life
  pub back : Life
  pub found : ℕ
  pub tried : IsPrepended (LinkLost back found) source target weight node v w

-- since the old front a source was present with the one key and a target with the other; and behind that the source's
-- list had no front for the target's key, or the edge's link there was lost
pub record IsFrontMissed (from to weight : ℕ) (v w : View) : Type 0 where
  pub then : View
  pub source : Life
  pub target : Life
  pub source_at : List Event
  pub source_there : HoldsBetween v.front then.front (Has from source) source_at
  pub target_at : List Event
  pub target_there : HoldsBetween v.front then.front (Has to target) target_at
  pub cause : IsNoFront source (key_in w target.index) then w ⊎ IsFrontLost source target weight then w

-- no node was taken; a walk came to no vertex of its key; or the edge could not be put in front of the list
abbrev pub IsNoEdgeAdded : (from to weight : ℕ) → View → View → Type 0
IsNoEdgeAdded from to weight v w =
    CameToNoNode v w ⊎ (CameToNone from v w ⊎ (CameToNone to v w ⊎ IsFrontMissed from to weight v w))

-- a vertex that was present with the key since the old front had its mark already
pub record WasMarkedBefore (key : ℕ) (v w : View) : Type 0 where
  pub life : Life
  pub moment : List Event
  pub there : HoldsBetween v.front w.front (Has key life) moment
  pub marked : vertex_marked w.front life ≡ true

-- the token marked a vertex, and a walk behind that came to no marked one
pub record IsMarkedAlone (key : ℕ) (v w : View) : Type 0 where
  pub before : View
  pub then : View
  pub since : IsPrefix v.front before.front
  pub life : Life
  pub mark : IsMarked life before then
  pub walked : WasPresent key then w ⊎ WasMissing key then w

-- a walk came to no vertex of the key; the mark was there before; a walk behind the mark came to no marked vertex; or
-- another caller changed the word to which that walk came
abbrev pub IsNoneRemoved : ℕ → View → View → Type 0
IsNoneRemoved key v w =
    CameToNone key v w ⊎ (WasMarkedBefore key v w ⊎ (IsMarkedAlone key v w ⊎ LostWord key v w))
