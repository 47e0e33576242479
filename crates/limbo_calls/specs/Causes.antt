-- Why a call came to none, and what adding a vertex made.
use Rattle.std.specs.Prelude.{◌≡◌, ◌≢◌, ◌⊎◌, ℕ, List, [], ◌∷◌}
use Rattle.packed_link.specs.Link.{index_of, mark_of, nowhere}
use Rattle.packed_link.specs.Layout.{bucket_at, epoch_at, link_at, second_at}
use Rattle.packed_link.specs.declared.link.Life.{Life}
use Rattle.core_journal.specs.declared.event.Event.{Event}
use Rattle.core_journal.specs.Event.{links_vertex}
use Rattle.core_journal.specs.Machine.{word_at}
use Rattle.core_journal.specs.Prefix.{IsPrefix}
use Rattle.core_rule.specs.OwnEvents.{mark_vertex_event}
use Rattle.core_rule.specs.declared.view.View.{View}
use Rattle.core_stretches.specs.Holdings.{IsUnlinkedVertex}
use Rattle.core_stretches.specs.Makes.{Makes, of_kinds}
use Rattle.core_stretches.specs.Moments.{HoldsBetween}
use Rattle.epoch_limbo.specs.Limbos.{IsNoneRipe, LimboValue}
use Rattle.node_arena.specs.Taking.{TookNone}
use Rattle.table_calls.specs.Vertices.{IsEmptyBucket, word_in}
use Rattle.limbo_calls.specs.Steady.{LeadsToMet}

-- the token's events, one of which links a vertex
pub record LinksOne (v w : View) : Type 0 where
  pub own : List Event
  pub makes : Makes v own w
  pub one : of_kinds links_vertex own ≡ 1

-- the bucket was found empty, and another word stood there when a vertex was to be linked
pub record IsFirstLost (v w : View) : Type 0 where
  pub seen : ℕ
  pub moment : List Event
  pub found : HoldsBetween v.front w.front (λ j. word_at v.sizes j (bucket_at v.sizes 0) ≡ seen) moment
  pub empty : index_of seen ≡ nowhere
  pub other : word_in w (bucket_at w.sizes 0) ≢ seen

-- no node was taken; the bucket has a vertex; or another word stood there when a vertex was to be linked
abbrev pub IsNoneAdded : View → View → Type 0
IsNoneAdded v w = TookNone v w ⊎ ((index_of (word_in w (bucket_at w.sizes 0)) ≢ nowhere) ⊎ IsFirstLost v w)

-- the vertex has a mark, and the token made none
pub record HadMark (x : Life) (v w : View) : Type 0 where
  pub makes : Makes v [] w
  pub marked : mark_of (word_in w (link_at w.sizes x.index)) ≡ 1

-- the token marked the vertex, and its link has no mark behind that; the rule of the table leaves no room for this
pub record LostMark (x : Life) (v w : View) : Type 0 where
  pub found : ℕ
  pub makes : Makes v (mark_vertex_event v x found ∷ []) w
  pub unmarked : mark_of (word_in w (link_at w.sizes x.index)) ≡ 0

-- the vertex had its mark before; it lost the own one; or the bucket's word is another one than that which was seen
abbrev pub IsNoneUnlinked : (seen : ℕ) → Life → View → View → Type 0
IsNoneUnlinked seen x v w = HadMark x v w ⊎ (LostMark x v w ⊎ (word_in w (bucket_at w.sizes 0) ≢ seen))

-- the list had been closed, and the token made no event
pub record WasClosed (x : Life) (v w : View) : Type 0 where
  pub makes : Makes v [] w
  pub marked : mark_of (word_in w (second_at w.sizes x.index)) ≡ 1

-- the list had been closed before, or has an edge
abbrev pub IsNoneClosed : Life → View → View → Type 0
IsNoneClosed x v w = WasClosed x v w ⊎ (index_of (word_in w (second_at w.sizes x.index)) ≢ nowhere)

-- since the old front the bucket's word led to a vertex that was met, and that couldn't be unlinked
pub record IsFirstKept (v w : View) : Type 0 where
  pub then : View
  pub since : IsPrefix v.front then.front
  pub seen : ℕ
  pub life : Life
  pub first : LeadsToMet then seen life
  pub cause : IsNoneUnlinked seen life then w

-- the token had unlinked a vertex, whose list couldn't be closed
pub record IsListKept (w : View) : Type 0 where
  pub then : View
  pub life : Life
  pub unlinked : IsUnlinkedVertex then life
  pub cause : IsNoneClosed life then w

-- the bucket was found empty; its first vertex couldn't be unlinked; or the vertex's list couldn't be closed
abbrev pub IsNoneBuried : View → View → Type 0
IsNoneBuried v w = IsEmptyBucket w 0 ⊎ (IsFirstKept v w ⊎ IsListKept w)

-- by the epoch at the new front no node of the limbo is ripe
abbrev pub IsNoneRipeNow : (old new : LimboValue) → View → Type 0
IsNoneRipeNow old new w = IsNoneRipe old new (word_in w (epoch_at w.sizes))
