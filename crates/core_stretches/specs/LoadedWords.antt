-- Words of a list that a token loaded in its pass, and nodes whose key and link it loaded there. A walk goes from one
-- to the next, on the list of a bucket as on that of a source.
use Rattle.std.specs.Prelude.{◌≡◌, ◌≢◌, ◌<◌, ℕ, List}
use Rattle.packed_link.specs.Layout.{link_at}
use Rattle.packed_link.specs.Link.{index_of, mark_of, nowhere}
use Rattle.packed_link.specs.declared.link.Life.{Life}
use Rattle.core_journal.specs.declared.event.Event.{Event}
use Rattle.core_journal.specs.Machine.{word_at}
use Rattle.core_rule.specs.Fronts.{IsBeforeVertex, IsBeforeEdge, MetVertex, key_in}
use Rattle.core_rule.specs.Stretches.{Own, Elsewhere, HasPass}
use Rattle.core_rule.specs.Views.{GoesOn}
use Rattle.core_rule.specs.declared.view.View.{View}

-- in its open pass the token loaded this word, unmarked, at a place that stood so then, and made no event at the place
-- since
pub record IsLoadedWord (Stands : View → ℕ → Type 0) (place seen : ℕ) (moment : List Event) (v : View) : Type 0 where
  pub then : View
  pub at : then.front ≡ moment
  pub goes : GoesOn then v
  pub own : Own (Elsewhere place) then v
  pub pass : HasPass then
  pub stands : Stands then place
  pub word : word_at then.sizes then.front place ≡ seen
  pub unmarked : mark_of seen ≡ 0

-- a node of the list that was met has this key, and this link at the front
pub record IsLoadedNode (Met : View → ℕ → Type 0) (index key link : ℕ) (v : View) : Type 0 where
  pub met : Met v index
  pub key_is : key_in v index ≡ key
  pub link_is : word_at v.sizes v.front (link_at v.sizes index) ≡ link

-- a word behind which a vertex of this key may stand
abbrev pub IsVertexWord : (key place seen : ℕ) → List Event → View → Type 0
IsVertexWord key place seen moment v = IsLoadedWord (λ u i. IsBeforeVertex u key i) place seen moment v

-- a word behind which an edge of this source and key may stand, where the source was met
abbrev pub IsEdgeWord : Life → (key place seen : ℕ) → List Event → View → Type 0
IsEdgeWord source key place seen moment v =
    IsLoadedWord (λ u i. MetVertex u source × IsBeforeEdge u source key i) place seen moment v

-- the word leads to none, or to a node with a greater key
abbrev pub LeadsPast : View → (key seen : ℕ) → Type 0
LeadsPast v key seen = index_of seen ≢ nowhere → key < key_in v (index_of seen)
