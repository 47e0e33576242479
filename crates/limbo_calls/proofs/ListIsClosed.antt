-- The list of an unlinked vertex without edges is closed, so the vertex may be retired.
use Rattle.std.proofs.Common.{◌≡◌, ℕ, true, List, [], ◌∷◌, ◌++◌, None, Some, refl, sym, ap, ap₂, ◌∙◌, subst}
use Rattle.packed_link.specs.Link.{index_of, nowhere}
use Rattle.packed_link.specs.Layout.{Sizes, IsLayout, second_at}
use Rattle.packed_link.specs.declared.link.Life.{Life}
use Rattle.core_journal.specs.declared.event.Event.{Event}
use Rattle.core_journal.specs.Machine.{word_at}
use Rattle.core_kept.specs.Freezing.{IsFrozenWord}
use Rattle.core_kept.specs.Kept.{IsKept}
use Rattle.core_lists.proofs.FrozenWordLeads.{frozen_finished}
use Rattle.core_lists.proofs.ListHoldsKept.{listing}
use Rattle.core_rule.specs.OwnEvents.{freeze_head_event}
use Rattle.core_rule.specs.Plays.{IsSound, Looked, Won}
use Rattle.core_rule.specs.declared.view.View.{View}
use Rattle.core_rule.proofs.FrozenWordStays.{head_frozen_word}
use Rattle.core_rule.proofs.OwnByView.{own_list_still, own_word_still}
use Rattle.core_rule.proofs.ViewShows.{look_steps, win_steps}
use Rattle.core_stretches.specs.Holdings.{IsHeldSpent, IsRetirable, IsUnlinkedVertex}
use Rattle.core_stretches.specs.Makes.{Makes}
use Rattle.core_stretches.proofs.HoldingsStay.{makes_spent}
use Rattle.core_stretches.proofs.MakesAddUp.{makes_chain, makes_look, makes_won}
use Rattle.core_stretches.proofs.MakesTell.{makes_later}
use Rattle.limbo_calls.specs.Steady.{IsSteady}
use Rattle.limbo_calls.proofs.StaysSteady.{steady_on}

module _ (n : ℕ) (v m w : View) (x : Life) (place found at head : ℕ) (z : IsLayout v.sizes) (sound : IsSound v)
    (s : IsSteady true n v) (u : IsUnlinkedVertex v x)
    (won : Won v place found (freeze_head_event v x found) m) (sound_m : IsSound m) (l : Looked m at head w) where
  abbrev event : Event
  event = freeze_head_event v x found

  close : Makes v (event ∷ []) m
  close = makes_won v m place found event s.numbered sound refl won

  has_number : m.numbered ≡ true
  has_number = (makes_later v m _ close).numbered ∙ s.numbered

  closes : Makes v (event ∷ []) w
  closes = makes_chain v m w (event ∷ []) [] close (makes_look m w at head has_number sound_m l)

  pub steady_closed : IsSteady true n w
  steady_closed = steady_on true n v w (event ∷ []) z (((λ y. absurd (cc)), (λ y. absurd (cc))), tt)
      ((λ y. absurd (cc)), tt) refl refl closes s

  pub is_retirable : at ≡ second_at v.sizes x.index → index_of head ≡ nowhere → IsRetirable None w x
  is_retirable at_is none =
      let t = win_steps v place found event m s.numbered sound won in
      let r = look_steps m at head w has_number sound_m l in
      let to_m = makes_later v m (event ∷ []) close in
      let to_w = makes_later v w (event ∷ []) closes in
      let zm : IsLayout m.sizes = subst IsLayout (sym to_m.sizes) z in
      let zw : IsLayout w.sizes = subst IsLayout (sym to_w.sizes) z in
      let kept : IsKept v.sizes (t.grown ++ event ∷ []) = subst (λ (j : List Event). IsKept v.sizes j) t.front t.kept in
      let frozen : IsFrozenWord m.sizes m.front x.index (second_at m.sizes x.index) = subst
      (λ (y : View). IsFrozenWord y.sizes y.front x.index (second_at y.sizes x.index)) (sym t.view)
      (subst (λ (j : List Event). IsFrozenWord v.sizes j x.index (second_at v.sizes x.index)) (sym t.front)
      (head_frozen_word v.sizes t.grown event kept refl).1) in
      let a = own_list_still v m (Some event) z t x.index ((λ y. absurd (cc)), (λ y. absurd (cc))) u.spent u.list in
      let b = own_list_still m w None zm r x.index tt a.0 a.1 in
      let c = own_word_still m w None zm r x.index (second_at m.sizes x.index) tt a.0 a.1 frozen in
      let same : second_at m.sizes x.index ≡ at = ap (λ (y : Sizes). second_at y x.index) to_m.sizes ∙ sym at_is in
      let word : word_at w.sizes w.front (second_at m.sizes x.index) ≡ head = ap₂
      (λ (y : Sizes) (p : ℕ). word_at y w.front p) (to_w.sizes ∙ sym to_m.sizes) same ∙ sym l.word in
      let done = frozen_finished w.sizes zw w.front to_w.kept x.index (second_at m.sizes x.index) b.1 c.0
      (ap index_of word ∙ none) in
      let held : IsHeldSpent v x = record {
        life = u.life;
        spent = record { spent = u.spent.spent; mine = u.spent.mine };
      } in
      record {
        held = makes_spent v w (event ∷ []) z x ((λ y. absurd (cc)), tt) closes held;
        own_list = λ _. done;
        list = λ y _ there on. let e = ((listing w.sizes zw w.front to_w.kept).on y x.index on).edge in let f =
            b.0.vertex in absurd (cc);
      }
