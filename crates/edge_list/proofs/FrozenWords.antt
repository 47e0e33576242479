-- The frozen words of a token's own list stay over what the token makes.
use Rattle.std.proofs.Common.{◌≡◌, ℕ, List, None, Some, Option, refl, sym, ap, ◌∙◌}
use Rattle.packed_link.specs.Link.{index_of}
use Rattle.graph_kinds.specs.History.{Every}
use Rattle.packed_link.specs.Layout.{IsLayout}
use Rattle.packed_link.specs.declared.link.Life.{Life}
use Rattle.core_journal.specs.declared.event.Event.{Event}
use Rattle.core_journal.specs.Machine.{word_at}
use Rattle.core_rule.specs.Views.{Spares, Steps}
use Rattle.core_rule.specs.declared.view.View.{View}
use Rattle.core_rule.proofs.OwnByView.{own_list_still, own_spent_still, own_word_still}
use Rattle.core_stretches.specs.Holdings.{IsUnlinkedVertex}
use Rattle.core_rule.specs.Stretches.{GivesNone, GivesOther}
use Rattle.core_stretches.specs.Makes.{Makes}
use Rattle.core_stretches.proofs.HoldingsStay.{makes_keeps}
use Rattle.edge_list.specs.Freezing.{FrozenValue, IsFreezing, KeepsFrozen}

gives_other : (own : Option Event) → Spares GivesNone own → (x : ℕ) → Spares (GivesOther x) own
gives_other None s x = tt
gives_other (Some e) s x = λ is. absurd (s.1 is)

pub vertex_on : (v w : View) (own : Option Event) → IsLayout v.sizes → Steps v own w → Spares GivesNone own → (x : Life)
    → IsUnlinkedVertex v x → IsUnlinkedVertex w x
vertex_on v w own z t spares x u =
    let l = own_list_still v w own z t x.index spares u.spent u.list in
    record {
      life = (own_spent_still v w own z t x (gives_other own spares x.index) u.life
          (record { spent = u.spent.spent; mine = u.spent.mine })).1;
      spent = l.0;
      list = l.1;
    }

pub makes_unlinked : (v w : View) (own : List Event) → IsLayout v.sizes → (x : Life) → Every GivesNone own
    → Makes v own w → IsUnlinkedVertex v x → IsUnlinkedVertex w x
makes_unlinked v w own z x every h u = makes_keeps (λ (q : View). IsUnlinkedVertex q x) GivesNone
    (λ a b z t p. vertex_on a b None z t tt x p)
    (λ a b e z by t q p. vertex_on a b (Some e) z t q x p)
    v w own z every h u

-- a frozen word, as it was at a view
record IsWordStill (v : View) (f : FrozenValue) (w : View) : Type 0 where
  pub freezing : IsFreezing w f
  pub word : word_at w.sizes w.front f.place ≡ word_at v.sizes v.front f.place

word_on : (u v w : View) (own : Option Event) → IsLayout v.sizes → Steps v own w → Spares GivesNone own →
    (f : FrozenValue) → IsWordStill u f v → IsWordStill u f w
word_on u v w own z t spares f h =
    let k = own_word_still v w own z t f.from.index f.place spares h.freezing.vertex.spent h.freezing.vertex.list
    h.freezing.word in
    record {
      freezing = record {
        vertex = vertex_on v w own z t spares f.from h.freezing.vertex;
        word = k.0;
        leads = h.freezing.leads ∙ ap index_of (sym k.1);
      };
      word = k.1 ∙ h.word;
    }

pub makes_word : (v w : View) (own : List Event) → IsLayout v.sizes → (f : FrozenValue) → Every GivesNone own
    → Makes v own w → IsFreezing v f → IsFreezing w f × (word_at w.sizes w.front f.place ≡ word_at v.sizes v.front
    f.place)
makes_word v w own z f every h g =
    let r = makes_keeps (IsWordStill v f) GivesNone
    (λ a b z t p. word_on v a b None z t tt f p)
    (λ a b e z by t q p. word_on v a b (Some e) z t q f p)
    v w own z every h (record { freezing = g; word = refl }) in
    (r.freezing, r.word)

pub makes_frozen : (v w : View) (own : List Event) → IsLayout v.sizes → (x : Life) → Every GivesNone own → Makes v own w
    → KeepsFrozen x v w
makes_frozen v w own z x every h = record {
  each = λ place next g. makes_word v w own z
      (record { from = x; place = place; next = next }) every h g;
}
