-- What linking, marking and unlinking a vertex tell.
use Rattle.std.specs.Prelude.{◌≡◌, ℕ, Bool, true, false, [], ◌∷◌}
use Rattle.graph_kinds.specs.declared.call.Call.TheVariants.{AddVertex, RemoveVertex}
use Rattle.packed_link.specs.Layout.{link_at}
use Rattle.packed_link.specs.Link.{pack, index_of, tag_of}
use Rattle.packed_link.specs.declared.link.Life.{Life}
use Rattle.core_journal.specs.Life.{vertex_marked}
use Rattle.core_journal.specs.Machine.{word_at}
use Rattle.core_journal.specs.State.{state}
use Rattle.core_kept.specs.Nodes.{IsSpentWith}
use Rattle.core_lists.specs.Changed.{IsChangedByAnother}
use Rattle.core_rule.specs.Fronts.{key_in}
use Rattle.core_rule.specs.OwnEvents.{link_vertex_event, mark_vertex_event, unlink_vertex_event}
use Rattle.core_rule.specs.Stretches.{HasNoFresh}
use Rattle.core_rule.specs.declared.view.View.{View}
use Rattle.core_stretches.specs.Holdings.{IsUnlinkedVertex}
use Rattle.core_stretches.specs.Makes.{Makes}
use Rattle.core_stretches.specs.Moments.{Carries, EndsBy}
use Rattle.vertex_list.specs.Positions.{PositionValue, IsPosition}
use Rattle.vertex_list.specs.declared.changes.Unlinked.{Unlinked}
use Rattle.vertex_list.specs.declared.changes.Unlinked.TheVariants.{Done as UnlinkDone, Lost as UnlinkLost}
use Rattle.vertex_list.specs.declared.changes.Linked.{Linked}
use Rattle.vertex_list.specs.declared.changes.Linked.TheVariants.{Done as LinkDone, Lost as LinkLost}
use Rattle.vertex_list.specs.declared.changes.Marked.{Marked}
use Rattle.vertex_list.specs.declared.changes.Marked.TheVariants.{Won, Was}

-- a try that was lost: another caller changed the word of the position since its load
pub record IsLost (p : PositionValue) (v w : View) : Type 0 where
  pub makes : Makes v [] w
  pub changed : IsChangedByAnother p.moment w.front w.number p.place

-- the vertex to which the position led is unlinked by the last event of the front and spent with the token, and its
-- list is open at its head; the position stays where it was, with the word that was written, which leads to where the
-- vertex's link does
pub record IsUnlinked (p : PositionValue) (v w : View) (x : Life) (q : PositionValue) : Type 0 where
  pub leads : index_of p.word ≡ x.index
  pub next : ℕ
  pub next_is : next ≡ index_of (word_at w.sizes w.front (link_at w.sizes x.index))
  pub makes : Makes v (unlink_vertex_event v p.place p.word next x ∷ []) w
  pub last : EndsBy (unlink_vertex_event v p.place p.word next x) w
  pub spent : IsUnlinkedVertex w x
  pub unclosed : (state w.sizes w.front).frozen x.index ≡ false
  pub new : IsSpentWith v.sizes v.front v.number x.index → ⊥
  pub key : q.key ≡ p.key
  pub place : q.place ≡ p.place
  pub word : q.word ≡ pack next 0 (tag_of p.word)
  pub moment : q.moment ≡ w.front
  pub position : (passed : Bool) → IsPosition passed v p → IsPosition passed w q

abbrev pub MatchUnlinked : Unlinked → PositionValue → View → View → Type 0
MatchUnlinked (UnlinkDone x q) p v w = IsUnlinked p v w x q
MatchUnlinked UnlinkLost p v w = IsLost p v w

-- the vertex is linked by the last event of the front, which adds its key to the graph; it was the only fresh node of
-- the token, which holds none now
pub record IsLinked (p : PositionValue) (x : Life) (v w : View) : Type 0 where
  pub makes : Makes v (link_vertex_event v p.place p.word p.key x ∷ []) w
  pub carries : Carries (AddVertex p.key) (link_vertex_event v p.place p.word p.key x) w
  pub none : HasNoFresh w

abbrev pub MatchLinked : Linked → PositionValue → Life → View → View → Type 0
MatchLinked (LinkDone life) p x v w = (life ≡ x) × IsLinked p x v w
MatchLinked (LinkLost fresh) p x v w = (fresh ≡ x) × IsLost p v w

-- the vertex is marked by the last event of the front, which removes its key from the graph
pub record IsMarked (x : Life) (v w : View) : Type 0 where
  pub found : ℕ
  pub makes : Makes v (mark_vertex_event v x found ∷ []) w
  pub carries : Carries (RemoveVertex (key_in v x.index)) (mark_vertex_event v x found) w

-- the mark was there before
pub record WasMarked (x : Life) (v w : View) : Type 0 where
  pub makes : Makes v [] w
  pub marked : vertex_marked w.front x ≡ true

abbrev pub MatchMarked : Marked → Life → View → View → Type 0
MatchMarked Won x v w = IsMarked x v w
MatchMarked Was x v w = WasMarked x v w
