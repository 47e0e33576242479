-- What a walk of a bucket's list tells, and a step through it.
use Rattle.std.specs.Prelude.{◌≡◌, ◌<◌, Bool, true, false}
use Rattle.packed_link.specs.Layout.{link_at}
use Rattle.packed_link.specs.Link.{index_of, nowhere}
use Rattle.packed_link.specs.declared.link.Life.{Life}
use Rattle.core_journal.specs.Prefix.{IsPrefix}
use Rattle.core_rule.specs.Fronts.{MetVertex, key_in}
use Rattle.core_rule.specs.declared.view.View.{View}
use Rattle.core_stretches.specs.Moments.{HoldsBetween, Has, Lacks}
use Rattle.vertex_list.specs.Positions.{PositionValue, IsPosition, IsGap, LeadsToDead}
use Rattle.vertex_list.specs.declared.walks.Found.{Found}
use Rattle.vertex_list.specs.declared.walks.Found.TheVariants.{Here, Gone, Dead}
use Rattle.vertex_list.specs.declared.walks.Sighting.{Sighting}
use Rattle.vertex_list.specs.declared.walks.Stepped.{Stepped}
use Rattle.vertex_list.specs.declared.walks.Stepped.TheVariants.{At, End}
use Rattle.vertex_list.specs.declared.walks.Stepped.TheVariants.{Dead as StepDead}

-- the vertex of the position's key was found: at a moment since the position's load it was present
pub record IsHere (p : PositionValue) (w : View) (s : Sighting) : Type 0 where
  pub met : MetVertex w s.life
  pub there : HoldsBetween p.moment w.front (Has p.key s.life) s.moment.value.view.front

-- the key is missing: at the moment of the new position's load no vertex was present with it
pub record IsGone (p : PositionValue) (w : View) (q : PositionValue) : Type 0 where
  pub key : q.key ≡ p.key
  pub gap : IsGap w q
  pub there : HoldsBetween p.moment w.front (Lacks p.key) q.moment

-- the new position, loaded no earlier, leads to a marked vertex
pub record IsDeadEnd (p : PositionValue) (w : View) (q : PositionValue) : Type 0 where
  pub key : q.key ≡ p.key
  pub since : IsPrefix p.moment q.moment
  pub position : IsPosition false w q
  pub dead : LeadsToDead w q

abbrev pub MatchFound : Found → PositionValue → View → Type 0
MatchFound (Here s) p w = IsHere p w s
MatchFound (Gone q) p w = IsGone p w q
MatchFound (Dead q) p w = IsDeadEnd p w q

-- a step came to the vertex to which the position's word leads: when its link was loaded it was present, with the key
-- of the new position, which stands behind it. Behind a position that was passed, that key is greater
pub record IsAt (p : PositionValue) (v w : View) (x : Life) (q : PositionValue) : Type 0 where
  pub leads : index_of p.word ≡ x.index
  pub met : MetVertex w x
  pub key : q.key ≡ key_in w x.index
  pub place : q.place ≡ link_at w.sizes x.index
  pub position : IsPosition true w q
  pub there : HoldsBetween p.moment w.front (Has q.key x) q.moment
  pub rises : IsPosition true v p → p.key < q.key

-- the position leads to a marked vertex, and is a position still: it stands where it did, with the same word
pub record IsDeadStep (p : PositionValue) (v w : View) (q : PositionValue) : Type 0 where
  pub key : q.key ≡ p.key
  pub place : q.place ≡ p.place
  pub word : q.word ≡ p.word
  pub moment : q.moment ≡ p.moment
  pub position : (passed : Bool) → IsPosition passed v p → IsPosition passed w q
  pub dead : LeadsToDead w q

abbrev pub MatchStepped : Stepped → PositionValue → View → View → Type 0
MatchStepped (At x q) p v w = IsAt p v w x q
MatchStepped End p v w = index_of p.word ≡ nowhere
MatchStepped (StepDead q) p v w = IsDeadStep p v w q
