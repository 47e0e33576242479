-- A call loaded the word of the free list: where it leads, and who changed it since.
use Rattle.std.proofs.Common.{◌≡◌, ◌≢◌, ◌⊎◌, ℕ, ◌<◌, true, List, [], sym, ap, ◌∙◌, subst, ⊎_elim, inl, inr}
use Rattle.graph_kinds.specs.History.{Every}
use Rattle.packed_link.specs.Link.{index_of, nowhere}
use Rattle.packed_link.specs.Layout.{Sizes, IsLayout, free_at}
use Rattle.core_journal.specs.declared.event.Event.{Event}
use Rattle.core_journal.specs.Machine.{word_at}
use Rattle.core_journal.specs.Prefix.{IsPrefix}
use Rattle.core_kept.specs.Kept.{IsKept}
use Rattle.core_kept.proofs.FreeList.{first_leads}
use Rattle.core_lists.specs.Changed.{HasNoneAt, IsChangedByAnother}
use Rattle.core_lists.proofs.ChangedByAnother.{free_changed}
use Rattle.core_rule.specs.Plays.{IsSound, Looked}
use Rattle.core_rule.specs.declared.view.View.{View}
use Rattle.core_stretches.specs.Makes.{IsLater, Makes}
use Rattle.core_stretches.specs.Moments.{HoldsBetween}
use Rattle.core_stretches.proofs.MakesAddUp.{makes_look}
use Rattle.core_stretches.proofs.MakesTell.{makes_later, makes_own}
use Rattle.graph_table.specs.Table.{Missed}
use Rattle.node_arena.specs.Taking.{FreeWordIs}

-- the word of the free list is this one at a view's front, and the token made nothing until then
pub record SawFreeWord (v m : View) (seen : ℕ) : Type 0 where
  pub makes : Makes v [] m
  pub later : IsLater v m
  pub word : FreeWordIs v seen m.front

pub has_seen : (v m : View) (at seen : ℕ) → v.numbered ≡ true → IsSound v → Looked v at seen m → at ≡ free_at v.sizes
    → SawFreeWord v m seen
has_seen v m at seen has s l at_is =
    let makes = makes_look v m at seen has s l in
    record {
      makes = makes;
      later = makes_later v m [] makes;
      word = ap (word_at v.sizes m.front) (sym at_is)
          ∙ sym l.word;
    }

-- it leads to a node or to none
pub leads_somewhere : (v m : View) (seen : ℕ) → IsLayout v.sizes → SawFreeWord v m seen →
    (index_of seen < v.sizes.nodes) ⊎
    (index_of seen ≡ nowhere)
leads_somewhere v m seen z h =
    let kept : IsKept v.sizes m.front = subst (λ (s : Sizes). IsKept s m.front) h.later.sizes h.later.kept in
    subst (λ (word : ℕ). (index_of word < v.sizes.nodes) ⊎ (index_of word ≡ nowhere)) h.word (⊎_elim
    (λ (none : index_of (word_at v.sizes m.front (free_at v.sizes)) ≡ nowhere). inr none)
    (λ (there : index_of (word_at v.sizes m.front (free_at v.sizes)) < v.sizes.nodes). inl there)
    (first_leads v.sizes z m.front kept))

pub leads_to_node : (v m : View) (seen : ℕ) → IsLayout v.sizes → SawFreeWord v m seen → index_of seen ≢ nowhere
    → index_of seen < v.sizes.nodes
leads_to_node v m seen z h some = ⊎_elim
    (λ (there : index_of seen < v.sizes.nodes). there)
    (λ (none : index_of seen ≡ nowhere). absurd (some none))
    (leads_somewhere v m seen z h)

-- the moment of the load
pub seen_then : (v m w : View) (seen : ℕ) → SawFreeWord v m seen → IsPrefix m.front w.front →
    HoldsBetween v.front w.front
    (FreeWordIs v seen) m.front
seen_then v m w seen h grows = record { since = h.later.grows; until = grows; holds = h.word }

-- a token that made no event at a place has none there
none_at : (place : ℕ) (m w : View) (own : List Event) → Every (λ (e : Event). e.place ≢ place) own → Makes m own w
    → HasNoneAt m.front w.front w.number place
none_at place m w own every h =
    let own_is = makes_own (λ (e : Event). e.place ≢ place) m w own every h in
    record { none = λ p e far at by. own_is.each p e far at (by ∙ (makes_later m w own h).number) }

-- where an exchange of the word that was seen lost, another caller changed it
pub changed_since : (v m u w : View) (seen found : ℕ) (own : List Event) → SawFreeWord v m seen → Makes m own u → Every
    (λ (e : Event). e.place ≢ free_at w.sizes) own → Makes m own w → Missed u (free_at w.sizes) seen found w
    → IsChangedByAnother m.front w.front w.number (free_at w.sizes)
changed_since v m u w seen found own h first every all missed =
    let f = makes_later m u own first in
    let t = makes_later m w own all in
    let to_v : w.sizes ≡ v.sizes = t.sizes ∙ h.later.sizes in
    let was : word_at w.sizes m.front (free_at w.sizes) ≡ seen = ap (λ (s : Sizes). word_at s m.front (free_at s)) to_v
    ∙ h.word in
    let to_u : u.sizes ≡ w.sizes = f.sizes ∙ sym t.sizes in
    let is : found ≡ word_at w.sizes w.front (free_at w.sizes) = missed.looked.word ∙ ap
    (λ (s : Sizes). word_at s w.front (free_at w.sizes)) to_u in
    free_changed w.sizes m.front w.front t.grows t.kept w.number (none_at (free_at w.sizes) m w own every all)
    (λ same. missed.other (is ∙ (same ∙ was)))
