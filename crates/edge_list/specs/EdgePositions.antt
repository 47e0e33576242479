-- Edges of a source, positions on its list, and what a token knows of them.
use Rattle.std.specs.Prelude.{◌≡◌, ◌≢◌, ℕ, Bool, true, false, List}
use Rattle.packed_link.specs.Layout.{link_at}
use Rattle.packed_link.specs.Link.{index_of, mark_of, nowhere}
use Rattle.packed_link.specs.declared.link.Life.{Life}
use Rattle.core_journal.specs.declared.event.Event.{Event}
use Rattle.core_journal.specs.Life.{edge_marked}
use Rattle.core_journal.specs.Machine.{word_at}
use Rattle.core_kept.specs.Facts.{IsLinkOf}
use Rattle.core_rule.specs.Fronts.{IsBeforeEdge, IsEdgeAbove, MetEdge, MetVertex, key_in}
use Rattle.core_rule.specs.Stretches.{Own, Elsewhere, HasPass}
use Rattle.core_rule.specs.Views.{GoesOn}
use Rattle.core_rule.specs.declared.view.View.{View}
use Rattle.core_stretches.specs.Holdings.{IsFilledAsEdge}
use Rattle.edge_list.specs.declared.edge.Edge.{Edge}

-- the edge was linked as one of this source, with its key, target and weight, and isn't marked
pub record IsUnmarkedEdge (source : Life) (edge : Edge) (journal : List Event) : Type 0 where
  pub linked : IsLinkOf journal edge.life source edge.target edge.key edge.weight
  pub unmarked : edge_marked journal edge.life ≡ false

-- a position on a list: the source, a key, the place of a word of the list, the word that was loaded there, the moment
-- of that load, and a link: that of the edge to which the word leads, if it was found marked, and else any number
pub record EdgePositionValue : Type 0 where
  pub source : Life
  pub key : ℕ
  pub place : ℕ
  pub word : ℕ
  pub link : ℕ
  pub moment : List Event

-- the place is the link of an edge of this source and key that was met
pub record IsBehindEdge (v : View) (source : Life) (key place : ℕ) : Type 0 where
  pub edge : Life
  pub met : MetEdge v source edge
  pub place_is : place ≡ link_at v.sizes edge.index
  pub key_is : key_in v edge.index ≡ key

-- where the word stands: before the edges from the key on, at which a walk for the key may stop; or right behind the
-- edge of the key, which a step through the list has passed
abbrev pub IsPlaceOn : (passed : Bool) → View → Life → (key place : ℕ) → Type 0
IsPlaceOn false v source key place = IsBeforeEdge v source key place
IsPlaceOn true v source key place = IsBehindEdge v source key place

-- in its open pass, which has met the source, the token loaded this word at this place, unmarked, and made no event at
-- the place since then
pub record IsEdgePosition (passed : Bool) (v : View) (p : EdgePositionValue) : Type 0 where
  pub then : View
  pub at : then.front ≡ p.moment
  pub goes : GoesOn then v
  pub own : Own (Elsewhere p.place) then v
  pub pass : HasPass then
  pub from : MetVertex then p.source
  pub stands : IsPlaceOn passed then p.source p.key p.place
  pub word : word_at then.sizes then.front p.place ≡ p.word
  pub unmarked : mark_of p.word ≡ 0

-- a position of either kind
abbrev pub IsAnyEdgePosition : View → EdgePositionValue → Type 0
IsAnyEdgePosition v p = (passed : Bool) × IsEdgePosition passed v p

-- a position at which its key is missing: the word leads to none, or to an edge of a greater key
pub record IsGapOfEdge (v : View) (p : EdgePositionValue) : Type 0 where
  pub position : IsEdgePosition false v p
  pub behind : index_of p.word ≢ nowhere → IsEdgeAbove v p.source p.key (index_of p.word)

-- the position's word leads to an edge that was met, whose link is marked; the position keeps that link
pub record LeadsToDeadEdge (v : View) (p : EdgePositionValue) : Type 0 where
  pub edge : Life
  pub leads : index_of p.word ≡ edge.index
  pub met : MetEdge v p.source edge
  pub link_is : p.link ≡ word_at v.sizes v.front (link_at v.sizes edge.index)
  pub dead : mark_of (word_at v.sizes v.front (link_at v.sizes edge.index)) ≡ 1

-- in its open pass the token found an edge of the source unmarked: it loaded the edge's link then, and made no event at
-- that link since
pub record IsSeenEdge (v : View) (source : Life) (edge : Edge) (moment : List Event) : Type 0 where
  pub met : MetEdge v source edge.life
  pub unmarked : IsUnmarkedEdge source edge moment
  pub word : ℕ
  pub position : IsEdgePosition true v (record {
    source = source;
    key = edge.key;
    place = link_at v.sizes edge.life.index;
    word = word;
    link = 0;
    moment = moment;
  })

-- a node that is fresh with the token is filled as an edge for a position: of its key, with where its word leads as
-- the next edge; the target was met and has the key
pub record IsFilledForGap (v : View) (p : EdgePositionValue) (target : Life) (weight : ℕ) (x : Life) : Type 0 where
  pub filled : IsFilledAsEdge v p.key (index_of p.word) target weight x
  pub to : MetVertex v target
  pub to_key : key_in v target.index ≡ p.key
