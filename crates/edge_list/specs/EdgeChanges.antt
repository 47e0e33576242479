-- What linking and unlinking an edge tell, and what an event on an edge does to the graph.
use Rattle.std.specs.Prelude.{◌≡◌, ℕ, Bool, [], ◌∷◌, ◌++◌, List, None, Option, Some}
use Rattle.graph_kinds.specs.declared.call.Call.{Call}
use Rattle.graph_kinds.specs.declared.call.Call.TheVariants.{AddEdge}
use Rattle.packed_link.specs.Layout.{link_at}
use Rattle.packed_link.specs.Link.{pack, index_of, tag_of}
use Rattle.packed_link.specs.declared.link.Life.{Life}
use Rattle.core_journal.specs.declared.event.Event.{Event}
use Rattle.core_journal.specs.GraphOf.{graph_of, present_key, both}
use Rattle.core_journal.specs.Machine.{word_at}
use Rattle.core_kept.specs.Nodes.{IsSpentWith}
use Rattle.core_lists.specs.Changed.{IsChangedByAnother}
use Rattle.core_rule.specs.OwnEvents.{link_edge_event, unlink_edge_event}
use Rattle.core_rule.specs.Stretches.{HasNoFresh}
use Rattle.core_rule.specs.declared.view.View.{View}
use Rattle.core_stretches.specs.Holdings.{IsRetirable}
use Rattle.core_stretches.specs.Makes.{Makes}
use Rattle.core_stretches.specs.Moments.{Carries, EndsBy}
use Rattle.edge_list.specs.EdgePositions.{EdgePositionValue, IsEdgePosition}
use Rattle.edge_list.specs.declared.changes.EdgeUnlinked.{EdgeUnlinked}
use Rattle.edge_list.specs.declared.changes.EdgeUnlinked.TheVariants.{Done as UnlinkDone, Lost as UnlinkLost}
use Rattle.edge_list.specs.declared.changes.EdgeLinked.{EdgeLinked}
use Rattle.edge_list.specs.declared.changes.EdgeLinked.TheVariants.{Done as LinkDone, Lost as LinkLost}

-- the token's own event, the last of the front, is about an edge from one life to another: if both are present right
-- before it, it carries out the call on their keys, and if one isn't, it leaves the graph as it is
pub record CarriesBetween (source target : Life) (call : ℕ → ℕ → Call) (e : Event) (w : View) : Type 0 where
  pub past : List Event
  pub front : w.front ≡ past ++ e ∷ []
  pub by : e.caller ≡ w.number
  pub present : (a b : ℕ) → present_key past source ≡ Some a → present_key past target ≡ Some b
      → Carries (call a b) e w
  pub missing : both (present_key past source) (present_key past target) ≡ None → graph_of w.front ≡ graph_of past

-- a try that was lost: another caller changed the word of the position since its load
pub record IsEdgeTryLost (p : EdgePositionValue) (v w : View) : Type 0 where
  pub makes : Makes v [] w
  pub changed : IsChangedByAnother p.moment w.front w.number p.place

-- the edge to which the position led is unlinked by the last event of the front and spent with the token, and stands on
-- no list; the position stays where it was, with the word that was written, which leads to where the edge's link does
pub record IsEdgeUnlinked (p : EdgePositionValue) (v w : View) (x : Life) (q : EdgePositionValue) : Type 0 where
  pub leads : index_of p.word ≡ x.index
  pub next : ℕ
  pub next_is : next ≡ index_of (word_at w.sizes w.front (link_at w.sizes x.index))
  pub makes : Makes v (unlink_edge_event v p.place p.word next x ∷ []) w
  pub last : EndsBy (unlink_edge_event v p.place p.word next x) w
  pub retirable : (but : Option ℕ) → IsRetirable but w x
  pub new : IsSpentWith v.sizes v.front v.number x.index → ⊥
  pub source : q.source ≡ p.source
  pub key : q.key ≡ p.key
  pub place : q.place ≡ p.place
  pub word : q.word ≡ pack next 0 (tag_of p.word)
  pub moment : q.moment ≡ w.front
  pub position : (passed : Bool) → IsEdgePosition passed v p → IsEdgePosition passed w q

abbrev pub MatchEdgeUnlinked : EdgeUnlinked → EdgePositionValue → View → View → Type 0
MatchEdgeUnlinked (UnlinkDone x q) p v w = IsEdgeUnlinked p v w x q
MatchEdgeUnlinked UnlinkLost p v w = IsEdgeTryLost p v w

-- the edge is linked by the last event of the front, which adds its pair to the graph if both ends are present; it
-- was the only fresh node of the token, which holds none now
pub record IsEdgeLinked (p : EdgePositionValue) (target : Life) (weight : ℕ) (x : Life) (v w : View) : Type 0 where
  pub makes : Makes v (link_edge_event v p.place p.word p.key p.source target weight x ∷ []) w
  pub carries : CarriesBetween p.source target (λ a b. AddEdge a b weight)
      (link_edge_event v p.place p.word p.key p.source target weight x) w
  pub none : HasNoFresh w

abbrev pub MatchEdgeLinked : EdgeLinked → EdgePositionValue → Life → ℕ → Life → View → View → Type 0
MatchEdgeLinked (LinkDone life) p target weight x v w = (life ≡ x) × IsEdgeLinked p target weight x v w
MatchEdgeLinked (LinkLost fresh) p target weight x v w = (fresh ≡ x) × IsEdgeTryLost p v w
