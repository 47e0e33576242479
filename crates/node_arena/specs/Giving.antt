-- What giving a node back tells.
use Rattle.std.specs.Prelude.{◌≡◌, ℕ, List, [], ◌∷◌}
use Rattle.packed_link.specs.Layout.{free_at}
use Rattle.packed_link.specs.Link.{index_of}
use Rattle.packed_link.specs.declared.link.Life.{Life}
use Rattle.core_journal.specs.declared.event.Event.{Event}
use Rattle.core_journal.specs.State.{Free}
use Rattle.core_kept.specs.Nodes.{node_in}
use Rattle.core_lists.specs.Changed.{IsChangedByAnother}
use Rattle.core_rule.specs.OwnEvents.{push_event, store_free_event}
use Rattle.core_rule.specs.declared.view.View.{View}
use Rattle.core_stretches.specs.Holdings.{IsGivable}
use Rattle.core_stretches.specs.Makes.{Makes}
use Rattle.core_stretches.specs.Moments.{HoldsBetween, EndsBy}
use Rattle.graph_table.specs.Tokens.{RipeValue}
use Rattle.node_arena.specs.Taking.{FreeWordIs}
use Rattle.node_arena.specs.declared.giving.Given.{Given}
use Rattle.node_arena.specs.declared.giving.Given.TheVariants.{Done, Lost}

-- the node is free by the last event of the front: its link was stored with where a word of the free list leads that
-- this call loaded, and the list begins with it
pub record IsGiven (v w : View) (x : Life) : Type 0 where
  pub seen : ℕ
  pub loaded : List Event
  pub found : HoldsBetween v.front w.front (FreeWordIs v seen) loaded
  pub makes : Makes v (store_free_event v (index_of seen) x ∷ push_event v seen x ∷ []) w
  pub last : EndsBy (push_event v seen x) w
  pub free : (node_in w.sizes w.front x.index).mode ≡ Free

-- another caller changed the word of the free list after this call had loaded it; the node's link is stored, and it may
-- be given back still
pub record IsGiveLost (v w : View) (x : Life) : Type 0 where
  pub seen : ℕ
  pub loaded : List Event
  pub found : HoldsBetween v.front w.front (FreeWordIs v seen) loaded
  pub makes : Makes v (store_free_event v (index_of seen) x ∷ []) w
  pub changed : IsChangedByAnother loaded w.front w.number (free_at w.sizes)
  pub givable : IsGivable w x

abbrev pub MatchGiven : Given → RipeValue → View → View → Type 0
MatchGiven Done ripe v w = IsGiven v w ripe.life
MatchGiven (Lost back) ripe v w = (back ≡ ripe) × IsGiveLost v w ripe.life
