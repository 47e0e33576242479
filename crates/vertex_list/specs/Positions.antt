-- Positions on the list of a bucket, and what a token knows of them.
use Rattle.std.specs.Prelude.{◌≡◌, ◌≢◌, ℕ, Bool, true, false, List}
use Rattle.packed_link.specs.Layout.{link_at}
use Rattle.packed_link.specs.Link.{index_of, mark_of, nowhere}
use Rattle.packed_link.specs.declared.link.Life.{Life}
use Rattle.core_journal.specs.declared.event.Event.{Event}
use Rattle.core_journal.specs.Machine.{word_at}
use Rattle.core_rule.specs.Fronts.{IsBeforeVertex, IsVertexAbove, MetVertex, key_in}
use Rattle.core_rule.specs.Stretches.{Own, Elsewhere, HasPass}
use Rattle.core_rule.specs.Views.{GoesOn}
use Rattle.core_rule.specs.declared.view.View.{View}

-- a position: a key, the place of a word of the list, the word that was loaded there, the moment of that load, and a
-- link: that of the vertex to which the word leads, if it was found marked, and else any number
pub record PositionValue : Type 0 where
  pub key : ℕ
  pub place : ℕ
  pub word : ℕ
  pub link : ℕ
  pub moment : List Event

-- the place is the link of a vertex of this key that was met
pub record IsBehindVertex (v : View) (key place : ℕ) : Type 0 where
  pub vertex : Life
  pub met : MetVertex v vertex
  pub place_is : place ≡ link_at v.sizes vertex.index
  pub key_is : key_in v vertex.index ≡ key

-- where the word stands: before the vertices from the key on, at which a walk for the key may stop; or right behind the
-- vertex of the key, which a step through the list has passed
abbrev pub IsPlaceFor : (passed : Bool) → View → (key place : ℕ) → Type 0
IsPlaceFor false v key place = IsBeforeVertex v key place
IsPlaceFor true v key place = IsBehindVertex v key place

-- in its open pass the token loaded this word at this place, unmarked, and made no event at the place since then
pub record IsPosition (passed : Bool) (v : View) (p : PositionValue) : Type 0 where
  pub then : View
  pub at : then.front ≡ p.moment
  pub goes : GoesOn then v
  pub own : Own (Elsewhere p.place) then v
  pub pass : HasPass then
  pub stands : IsPlaceFor passed then p.key p.place
  pub word : word_at then.sizes then.front p.place ≡ p.word
  pub unmarked : mark_of p.word ≡ 0

-- a position of either kind
abbrev pub IsAnyPosition : View → PositionValue → Type 0
IsAnyPosition v p = (passed : Bool) × IsPosition passed v p

-- a position at which its key is missing: the word leads to none, or to a vertex of a greater key
pub record IsGap (v : View) (p : PositionValue) : Type 0 where
  pub position : IsPosition false v p
  pub behind : index_of p.word ≢ nowhere → IsVertexAbove v p.key (index_of p.word)

-- the position's word leads to a vertex that was met, whose link is marked; the position keeps that link
pub record LeadsToDead (v : View) (p : PositionValue) : Type 0 where
  pub vertex : Life
  pub leads : index_of p.word ≡ vertex.index
  pub met : MetVertex v vertex
  pub link_is : p.link ≡ word_at v.sizes v.front (link_at v.sizes vertex.index)
  pub dead : mark_of (word_at v.sizes v.front (link_at v.sizes vertex.index)) ≡ 1
