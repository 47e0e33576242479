-- What a token's view shows: how it goes on by a step, and where a word leads that it loaded.
use Rattle.std.specs.Prelude.{◌≡◌, ℕ, ◌%◌, ◌<◌, ◌≤◌, ◌^◌, List, [], ◌∷◌, ◌++◌, Option, Some, None}
use Rattle.packed_link.specs.Link.{pack, mark_of}
use Rattle.packed_link.specs.Layout.{link_at, second_at, third_at}
use Rattle.packed_link.specs.declared.link.Life.{Life}
use Rattle.core_journal.specs.declared.event.Event.{Event}
use Rattle.core_journal.specs.Life.{key_of, link_of}
use Rattle.core_journal.specs.Machine.{word_at}
use Rattle.core_journal.specs.Prefix.{IsPrefix}
use Rattle.core_journal.specs.Reuse.{pass_in}
use Rattle.core_kept.specs.Kept.{IsKept}
use Rattle.core_lists.specs.Chains.{life_in}
use Rattle.core_rule.specs.Owes.{Reaches}
use Rattle.core_rule.specs.Fronts.{MetVertex, MetEdge, key_in}
use Rattle.core_rule.specs.declared.view.View.{View}

-- the view with another front and another last event
abbrev pub moved_on : View → List Event → ℕ → View
moved_on v front last = record v { front = front; last = last }

-- what a step adds to the journal behind the events of others: its event, or nothing where it's a load or lost
abbrev pub added : Option Event → List Event
added None = []
added (Some e) = e ∷ []

-- the step's event, if it made one, is of a kind or about a node of which this holds
abbrev pub Spares : (Event → Type 0) → Option Event → Type 0
Spares P None = Unit {0}
Spares P (Some e) = P e

-- a step of a token: others made events, which led to a journal that the token might meet, and behind these it made its
-- own event or none
pub record Steps (v : View) (own : Option Event) (w : View) : Type 0 where
  pub view : w ≡ moved_on v w.front w.last
  pub grown : List Event
  pub reaches : Reaches v grown
  pub front : w.front ≡ grown ++ added own
  pub kept : IsKept v.sizes w.front

-- a token has seen more of a kept journal, and its pass is the same
pub record GoesOn (v w : View) : Type 0 where
  pub view : w ≡ moved_on v w.front w.last
  pub grows : IsPrefix v.front w.front
  pub kept : IsKept v.sizes w.front
  pub pass : pass_in v.sizes w.front v.number ≡ pass_in v.sizes v.front v.number

-- the node of this index is a vertex that was met, with a key of this bucket
pub record IsVertexIn (v : View) (bucket index : ℕ) : Type 0 where
  pub met : MetVertex v (life_in v.sizes v.front index)
  pub of_bucket : key_in v index % v.sizes.buckets ≡ bucket

-- the node of this index is a vertex that was met, with a greater key of the same bucket as that of another
pub record IsVertexBehind (v : View) (x : Life) (index : ℕ) : Type 0 where
  pub met : MetVertex v (life_in v.sizes v.front index)
  pub rising : key_in v x.index < key_in v index
  pub bucket : key_in v index % v.sizes.buckets ≡ key_in v x.index % v.sizes.buckets

-- the node of this index is an edge of the source that was met
abbrev pub IsEdgeIn : View → Life → ℕ → Type 0
IsEdgeIn v source index = MetEdge v source (life_in v.sizes v.front index)

-- the node of this index is an edge of the source that was met, with no smaller key than that of another, and with a
-- greater one where the link of the other is unmarked
pub record IsEdgeBehind (v : View) (source x : Life) (index : ℕ) : Type 0 where
  pub met : MetEdge v source (life_in v.sizes v.front index)
  pub rising : key_in v x.index ≤ key_in v index
  pub strictly : mark_of (word_at v.sizes v.front (link_at v.sizes x.index)) ≡ 0 → key_in v x.index < key_in v index

-- the words of a node are those with which it was linked as an edge of the source: its key, that of its target, its
-- target and its weight
pub record IsEdgeShown (v : View) (source x : Life) : Type 0 where
  pub link : Event
  pub is : link_of v.front x ≡ Some link
  pub from : link.source ≡ source
  pub key : link.key ≡ key_in v x.index
  pub target : word_at v.sizes v.front (second_at v.sizes x.index) ≡ pack link.target.index 0 link.target.tag
  pub target_key : key_of v.front link.target ≡ Some link.key
  pub weight : link.weight ≡ word_at v.sizes v.front (third_at v.sizes x.index)
  pub some : 1 ≤ link.weight
  pub weight_fits : link.weight < 2 ^ 32
