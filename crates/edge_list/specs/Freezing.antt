-- A list under freezing, and what freezing its head and its edges tells.
use Rattle.std.specs.Prelude.{◌≡◌, ℕ, true, false, [], Option, Some, None}
use Rattle.packed_link.specs.Layout.{link_at, second_at}
use Rattle.packed_link.specs.Link.{index_of, nowhere}
use Rattle.packed_link.specs.declared.link.Life.{Life}
use Rattle.core_journal.specs.Machine.{word_at}
use Rattle.core_journal.specs.State.{state}
use Rattle.core_kept.specs.Freezing.{IsFrozenWord}
use Rattle.core_kept.specs.Nodes.{node_in, is_frozen, is_listed, IsFrozenToEnd}
use Rattle.core_rule.specs.OwnEvents.{freeze_head_event, freeze_edge_event}
use Rattle.core_rule.specs.declared.view.View.{View}
use Rattle.core_stretches.specs.Holdings.{IsHeldSpent, IsUnlinkedVertex}
use Rattle.core_stretches.specs.Makes.{Makes, marking}

-- the vertex whose list it is, the place of the last word that was frozen, and where that word leads
pub record FrozenValue : Type 0 where
  pub from : Life
  pub place : ℕ
  pub next : ℕ

-- the token unlinked the vertex, its list is closed, and this word of it is frozen and leads there
pub record IsFreezing (v : View) (f : FrozenValue) : Type 0 where
  pub vertex : IsUnlinkedVertex v f.from
  pub word : IsFrozenWord v.sizes v.front f.from.index f.place
  pub leads : f.next ≡ index_of (word_at v.sizes v.front f.place)

-- the frozen words of the list that is being frozen stay as they are
pub record KeepsFrozen (x : Life) (v w : View) : Type 0 where
  pub each : (place next : ℕ) → IsFreezing v (record { from = x; place = place; next = next })
      → IsFreezing w (record { from = x; place = place; next = next })
      × (word_at w.sizes w.front place ≡ word_at v.sizes v.front place)

-- the list is closed at its head, by an event where the second word that was found had no mark
pub record IsHeadClosed (x : Life) (v w : View) (f : FrozenValue) : Type 0 where
  pub from : f.from ≡ x
  pub place : f.place ≡ second_at w.sizes x.index
  pub found : ℕ
  pub makes : Makes v (marking (freeze_head_event v x) found) w
  pub freezing : IsFreezing w f

-- the next edge was frozen, by an event where the link that was found had no mark, and is spent with the token: the
-- last frozen word leads to it, and its link is the next one. It's an edge of the list
pub record IsHandedTo (old : FrozenValue) (v w : View) (x : Life) (new : FrozenValue) : Type 0 where
  pub from : new.from ≡ old.from
  pub leads : index_of (word_at w.sizes w.front old.place) ≡ x.index
  pub place : new.place ≡ link_at w.sizes x.index
  pub found : ℕ
  pub makes : Makes v (marking (freeze_edge_event v x) found) w
  pub held : IsHeldSpent w x
  pub edge : (node_in w.sizes w.front x.index).vertex ≡ false
  pub listed : is_listed (state w.sizes w.front) old.from.index x.index ≡ true
  pub part : is_frozen (state w.sizes w.front) old.from.index x.index ≡ true
  pub freezing : IsFreezing w new

-- the last frozen word leads to none: the list is frozen to its end
pub record IsFrozenWhole (old : FrozenValue) (v w : View) (new : FrozenValue) : Type 0 where
  pub same : new ≡ old
  pub makes : Makes v [] w
  pub leads : index_of (word_at w.sizes w.front old.place) ≡ nowhere
  pub freezing : IsFreezing w new
  pub whole : IsFrozenToEnd w.sizes w.front old.from.index

abbrev pub MatchFrozen : Option Life → FrozenValue → View → View → FrozenValue → Type 0
MatchFrozen (Some x) old v w new = IsHandedTo old v w x new
MatchFrozen None old v w new = IsFrozenWhole old v w new
