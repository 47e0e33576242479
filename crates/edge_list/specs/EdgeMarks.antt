-- What raising a source's counter tells, and marking and replacing an edge for which it was raised.
use Rattle.std.specs.Prelude.{◌≡◌, ◌⊎◌, ℕ, true, List, [], ◌∷◌, ◌++◌}
use Rattle.graph_kinds.specs.declared.call.Call.TheVariants.{AddEdge, RemoveEdge}
use Rattle.packed_link.specs.Layout.{link_at}
use Rattle.packed_link.specs.Link.{index_of, mark_of}
use Rattle.packed_link.specs.declared.link.Life.{Life}
use Rattle.core_journal.specs.declared.event.Event.{Event}
use Rattle.core_journal.specs.Life.{edge_marked}
use Rattle.core_journal.specs.Machine.{word_at}
use Rattle.core_kept.specs.Edges.{IsRaisedFor}
use Rattle.core_kept.specs.Facts.{IsLinkOf}
use Rattle.core_lists.specs.Changed.{IsChangedByAnother}
use Rattle.core_lists.specs.Replacements.{IsReplacedBy}
use Rattle.core_rule.specs.Fronts.{MetEdge, MetVertex}
use Rattle.core_rule.specs.OwnEvents.{mark_edge_event, raise_event, replace_event}
use Rattle.core_rule.specs.Stretches.{HasNoFresh}
use Rattle.core_rule.specs.declared.view.View.{View}
use Rattle.core_stretches.specs.Holdings.{IsHeldFresh}
use Rattle.core_stretches.specs.Makes.{Makes}
use Rattle.core_stretches.specs.Moments.{HoldsBetween, EndsBy}
use Rattle.node_arena.specs.Filling.{edge_stores}
use Rattle.edge_list.specs.EdgeChanges.{CarriesBetween}
use Rattle.edge_list.specs.EdgePositions.{IsUnmarkedEdge}
use Rattle.edge_list.specs.declared.edge.Edge.{Edge}
use Rattle.edge_list.specs.declared.marking.EdgeMarked.{EdgeMarked}
use Rattle.edge_list.specs.declared.marking.EdgeMarked.TheVariants.{Won as MarkWon, Was as MarkWas}
use Rattle.edge_list.specs.declared.marking.EdgeMarked.TheVariants.{Replaced as MarkReplaced}
use Rattle.edge_list.specs.declared.replacing.EdgeReplaced.{EdgeReplaced}
use Rattle.edge_list.specs.declared.replacing.EdgeReplaced.TheVariants.{Done as ReplaceDone, Lost as ReplaceLost}

-- an edge for which the counter of its source was raised
pub record RaisedValue : Type 0 where
  pub source : Life
  pub edge : Edge

-- in its open pass, which has met the source and the edge, the token raised the counter after the edge was
-- linked
pub record IsRaisedEdge (v : View) (r : RaisedValue) : Type 0 where
  pub from : MetVertex v r.source
  pub met : MetEdge v r.source r.edge.life
  pub linked : IsLinkOf v.front r.edge.life r.source r.edge.target r.edge.key r.edge.weight
  pub raised : IsRaisedFor v.sizes v.front v.number r.edge.life r.source

-- the counter of the source is raised by the last event of the front
pub record IsRaising (source : Life) (edge : Edge) (v w : View) (r : RaisedValue) : Type 0 where
  pub source_is : r.source ≡ source
  pub edge_is : r.edge ≡ edge
  pub found : ℕ
  pub makes : Makes v (raise_event v source found ∷ []) w
  pub last : EndsBy (raise_event v source found) w
  pub raised : IsRaisedEdge w r

-- the edge, which was unmarked right before, is marked by the last event of the front, which takes its pair from the
-- graph if both ends are present
pub record IsEdgeMarked (r : RaisedValue) (v w : View) : Type 0 where
  pub found : ℕ
  pub makes : Makes v (mark_edge_event v r.edge.life found ∷ []) w
  pub carries : CarriesBetween r.source r.edge.target RemoveEdge (mark_edge_event v r.edge.life found) w
  pub unmarked : IsUnmarkedEdge r.source r.edge carries.past

-- the mark was there before, and no event replaced the edge
pub record WasEdgeMarked (r : RaisedValue) (v w : View) : Type 0 where
  pub makes : Makes v [] w
  pub marked : edge_marked w.front r.edge.life ≡ true
  pub unreplaced : (new : Life) → IsReplacedBy w.front r.edge.life new → ⊥

-- the mark was there before, by an event that replaced the edge
pub record WasEdgeReplaced (r : RaisedValue) (v w : View) : Type 0 where
  pub makes : Makes v [] w
  pub marked : edge_marked w.front r.edge.life ≡ true
  pub new : Life
  pub replaced : IsReplacedBy w.front r.edge.life new

abbrev pub MatchEdgeMarked : EdgeMarked → RaisedValue → View → View → Type 0
MatchEdgeMarked MarkWon r v w = IsEdgeMarked r v w
MatchEdgeMarked MarkWas r v w = WasEdgeMarked r v w
MatchEdgeMarked MarkReplaced r v w = WasEdgeReplaced r v w

-- the link of the edge is this word
abbrev pub EdgeLinkIs : View → RaisedValue → ℕ → List Event → Type 0
EdgeLinkIs v r word journal = word_at v.sizes journal (link_at v.sizes r.edge.life.index) ≡ word

-- the event by which the filled node replaces the edge with another weight
abbrev pub replacing : View → RaisedValue → (weight seen : ℕ) → Life → Event
replacing v r weight seen x = replace_event v seen r.edge.key r.source r.edge.target weight r.edge.life x

-- the stores that fill a node for it
abbrev pub replacing_stores : View → RaisedValue → (weight seen : ℕ) → Life → List Event
replacing_stores v r weight seen x = edge_stores v x r.edge.key (index_of seen) r.edge.target weight

-- the edge, which was unmarked right before, is replaced by the last event of the front: if both ends are present,
-- the graph has its pair with the new weight from then on. The node was filled, with where a link of the edge leads
-- that this call loaded; it was the only fresh node of the token, which holds none now
pub record IsEdgeReplaced (r : RaisedValue) (weight : ℕ) (x : Life) (v w : View) : Type 0 where
  pub seen : ℕ
  pub loaded : List Event
  pub found : HoldsBetween v.front w.front (EdgeLinkIs v r seen) loaded
  pub makes : Makes v (replacing_stores v r weight seen x ++ replacing v r weight seen x ∷ []) w
  pub carries : CarriesBetween r.source r.edge.target (λ a b. AddEdge a b weight) (replacing v r weight seen x) w
  pub unmarked : IsUnmarkedEdge r.source r.edge carries.past
  pub none : HasNoFresh w

-- the link of the edge was loaded marked
pub record FoundEdgeMarked (r : RaisedValue) (v w : View) : Type 0 where
  pub makes : Makes v [] w
  pub marked : edge_marked w.front r.edge.life ≡ true

-- another caller changed the link of the edge after this call had loaded it unmarked; the node is filled, and fresh
pub record IsReplaceLost (r : RaisedValue) (weight : ℕ) (x : Life) (v w : View) : Type 0 where
  pub seen : ℕ
  pub loaded : List Event
  pub found : HoldsBetween v.front w.front (EdgeLinkIs v r seen) loaded
  pub unmarked : mark_of seen ≡ 0
  pub makes : Makes v (replacing_stores v r weight seen x) w
  pub changed : IsChangedByAnother loaded w.front w.number (link_at w.sizes r.edge.life.index)
  pub held : IsHeldFresh w x

abbrev pub MatchEdgeReplaced : EdgeReplaced → RaisedValue → ℕ → Life → View → View → Type 0
MatchEdgeReplaced (ReplaceDone life) r weight x v w = (life ≡ x) × IsEdgeReplaced r weight x v w
MatchEdgeReplaced (ReplaceLost fresh) r weight x v w =
    (fresh ≡ x) × (FoundEdgeMarked r v w ⊎ IsReplaceLost r weight x v w)
