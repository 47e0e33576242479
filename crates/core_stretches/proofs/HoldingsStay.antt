-- What a token holds stays with it over what it makes, but for what its events are about.
use Rattle.std.proofs.Common.{◌≡◌, ◌≢◌, ℕ, ◌<◌, true, false, Option, List, [], ◌∷◌, ◌++◌, None, Some, refl, sym, ap}
use Rattle.std.proofs.Common.{◌∙◌, subst}
use Rattle.graph_kinds.specs.History.{Every}
use Rattle.packed_link.specs.Layout.{Sizes, IsLayout}
use Rattle.packed_link.specs.declared.link.Life.{Life}
use Rattle.core_journal.specs.declared.event.Kind.TheVariants.{PopFree}
use Rattle.core_journal.specs.declared.event.Event.{Event}
use Rattle.core_journal.specs.Event.{unlinks}
use Rattle.core_journal.specs.State.{Node}
use Rattle.core_kept.specs.Facts.{IsHeld}
use Rattle.core_kept.specs.Kept.{IsKept}
use Rattle.core_kept.specs.Nodes.{node_in, IsFreshWith}
use Rattle.core_counts.specs.Spending.{GotOnly, GetsNone}
use Rattle.core_counts.proofs.KnownSpentNodes.{got_beyond, got_own, got_unlink}
use Rattle.core_rule.specs.Fronts.{IsLifeAt}
use Rattle.core_rule.specs.Retired.{IsRetired}
use Rattle.core_rule.specs.Stretches.{HasNoFresh, is_of_fresh, GivesOther}
use Rattle.core_rule.specs.Views.{Spares, Steps}
use Rattle.core_rule.specs.declared.view.View.{View}
use Rattle.core_rule.proofs.OwnByKind.{own_fresh_by_kind}
use Rattle.core_rule.proofs.OwnByView.{own_none_kept, own_fresh_kept, own_spent_still}
use Rattle.core_rule.proofs.RetiredStays.{retired_still}
use Rattle.core_rule.proofs.ViewShows.{through, step_view}
use Rattle.core_stretches.specs.Makes.{StepsBy, Makes}
use Rattle.core_stretches.specs.Holdings.{IsHeldFresh, IsHeldSpent, HasGotOnly}

-- a fact that is kept by a load, and by each own event that spares it, is kept over the whole stretch
module _ (P : View → Type 0) (Q : Event → Type 0) (look : (v w : View) → IsLayout v.sizes → Steps v None w → P v → P w)
    (step : (v w : View) (e : Event) → IsLayout v.sizes → e.caller ≡ v.number → Steps v (Some e) w → Q e → P v → P w)
  where
    kept_by : (v w : View) (own : List Event) → IsLayout v.sizes → Every Q own → StepsBy v own w → P v → P w
    kept_by v w [] z every t p = look v w z t p
    kept_by v w (e ∷ es) z every (m, by, t, rest) p = kept_by m w es
        (subst IsLayout (sym (step_view v m (Some e) t).0) z) every.1 rest (step v m e z by t every.0 p)

    pub makes_keeps : (v w : View) (own : List Event) → IsLayout v.sizes → Every Q own → Makes v own w → P v → P w
    makes_keeps v w own z every h p = kept_by v w own z every h.steps p

-- the token holds no fresh node where it held none and took none
pub makes_none : (v w : View) (own : List Event) → IsLayout v.sizes → Every (λ (e : Event). e.kind ≢ PopFree) own
    → Makes v own w → HasNoFresh v → HasNoFresh w
makes_none v w own z every h n = makes_keeps HasNoFresh (λ (e : Event). e.kind ≢ PopFree)
    (λ v w z t n. record { none = own_none_kept v w None t tt n.none })
    (λ v w e z by t q n. record { none = own_none_kept v w (Some e) t q n.none })
    v w own z every h n

-- a fresh node, with all of its words, that no own event is about
record IsFreshStill (v : View) (x : Life) (w : View) : Type 0 where
  pub held : IsHeldFresh w x
  pub words : IsHeld v.sizes v.front w.front x.index
  pub sizes : w.sizes ≡ v.sizes

fresh_life : (v w : View) (own : Option Event) → Steps v own w → (x : Life) → IsLifeAt v x
    → IsFreshWith w.sizes w.front w.number x.index → IsHeld v.sizes v.front w.front x.index → IsHeldFresh w x
fresh_life v w own t x l f h =
    let sizes = (step_view v w own t).0 in
    record {
      life = record {
        there = subst (λ (s : Sizes). x.index < s.nodes) (sym sizes) l.there;
        tag = l.tag ∙
            (ap (λ (n : Node). n.tag) (sym h.node) ∙ ap (λ (s : Sizes). (node_in s w.front x.index).tag) (sym sizes));
      };
      fresh = f;
    }

fresh_more : (u v w : View) (own : Option Event) → IsLayout v.sizes → Steps v own w → (x : Life) → Spares
    (λ (e : Event). x.index ≢ e.life.index) own → IsFreshStill u x v → IsFreshStill u x w
fresh_more u v w own z t x spares h =
    let k = own_fresh_kept v w own z t x.index h.held.life.there spares h.held.fresh in
    let words : IsHeld u.sizes v.front w.front x.index = subst
    (λ (s : Sizes). IsHeld s v.front w.front x.index) h.sizes k.1 in
    record {
      held = fresh_life v w own t x h.held.life k.0 k.1;
      words = record {
        node = words.node ∙ h.words.node;
        key = words.key ∙ h.words.key;
        link = words.link
            ∙ h.words.link;
        second = words.second ∙ h.words.second;
        third = words.third ∙ h.words.third;
      };
      sizes = (step_view v w own t).0 ∙ h.sizes;
    }

pub makes_fresh : (v w : View) (own : List Event) → IsLayout v.sizes → (x : Life) → Every
    (λ (e : Event). x.index ≢ e.life.index) own → Makes v own w → IsHeldFresh v x → IsHeldFresh w x
    × IsHeld v.sizes v.front w.front x.index
makes_fresh v w own z x every h f =
    let r = makes_keeps (IsFreshStill v x) (λ (e : Event). x.index ≢ e.life.index)
    (λ a b z t p. fresh_more v a b None z t x tt p)
    (λ a b e z by t q p. fresh_more v a b (Some e) z t x q p)
    v w own z every h (record {
      held = f;
      words = record {
        node = refl;
        key = refl;
        link = refl;
        second = refl;
        third =
            refl;
      };
      sizes = refl;
    }) in
    (r.held, r.words)

-- the same where the own events are of kinds that fill and link no fresh node
fresh_kind : (u v w : View) (own : Option Event) → IsLayout v.sizes → Steps v own w → (x : Life) → Spares
    (λ (e : Event). is_of_fresh e.kind ≡ false) own → IsFreshStill u x v → IsFreshStill u x w
fresh_kind u v w own z t x spares h =
    let k = own_fresh_by_kind v w own z t x.index h.held.life.there spares h.held.fresh in
    let words : IsHeld u.sizes v.front w.front x.index = subst
    (λ (s : Sizes). IsHeld s v.front w.front x.index) h.sizes k.1 in
    record {
      held = fresh_life v w own t x h.held.life k.0 k.1;
      words = record {
        node = words.node ∙ h.words.node;
        key = words.key ∙ h.words.key;
        link = words.link
            ∙ h.words.link;
        second = words.second ∙ h.words.second;
        third = words.third ∙ h.words.third;
      };
      sizes = (step_view v w own t).0 ∙ h.sizes;
    }

pub makes_fresh_by_kind : (v w : View) (own : List Event) → IsLayout v.sizes → (x : Life) → Every
    (λ (e : Event). is_of_fresh e.kind ≡ false) own → Makes v own w → IsHeldFresh v x → IsHeldFresh w x
    × IsHeld v.sizes v.front w.front x.index
makes_fresh_by_kind v w own z x every h f =
    let r = makes_keeps (IsFreshStill v x) (λ (e : Event). is_of_fresh e.kind ≡ false)
    (λ a b z t p. fresh_kind v a b None z t x tt p)
    (λ a b e z by t q p. fresh_kind v a b (Some e) z t x q p)
    v w own z every h (record {
      held = f;
      words = record {
        node = refl;
        key = refl;
        link = refl;
        second = refl;
        third =
            refl;
      };
      sizes = refl;
    }) in
    (r.held, r.words)

-- a spent node that isn't given back
pub makes_spent : (v w : View) (own : List Event) → IsLayout v.sizes → (x : Life) → Every (GivesOther x.index) own
    → Makes v own w → IsHeldSpent v x → IsHeldSpent w x
makes_spent v w own z x every h f = makes_keeps (λ (u : View). IsHeldSpent u x) (GivesOther x.index)
    (λ v w z t p. let r = own_spent_still v w None z t x tt p.life p.spent in record { life = r.1; spent = r.0 })
    (λ v w e z by t q p. let r = own_spent_still v w (Some e) z t x q p.life p.spent in record
    { life = r.1; spent = r.0 })
    v w own z every h f

-- a retired node that isn't given back
pub makes_retired : (v w : View) (own : List Event) → IsLayout v.sizes → (but : Option ℕ) (x : Life) (stamp : ℕ) → Every
    (GivesOther x.index) own → Makes v own w → IsRetired but v x stamp → IsRetired but w x stamp
makes_retired v w own z but x stamp every h f = makes_keeps (λ (u : View). IsRetired but u x stamp) (GivesOther x.index)
    (λ v w z t p. retired_still v w None z t but x stamp tt p)
    (λ v w e z by t q p. retired_still v w (Some e) z t but x stamp q p)
    v w own z every h f

-- the spent nodes that it got
got_on : (from : List Event) (but : Option ℕ) (got : List ℕ) (v w : View) (own : Option Event) → IsLayout v.sizes
    → Steps v own w → Spares (λ (e : Event). GetsNone but e × (e.caller ≡ v.number)) own → HasGotOnly from v but got
    → HasGotOnly from w but got
got_on from but got v w own z t spares g =
    let r = t.reaches in
    subst (λ (u : View). HasGotOnly from u but got) (sym t.view)
    (through v w own t (λ (j : List Event). GotOnly v.sizes from j v.number but got)
    (λ (e : Event). GetsNone but e × (e.caller ≡ v.number)) spares
    (got_beyond v.sizes z v.number v.last but v.front t.grown r.front r.kept r.quiet r.old from got g)
    (λ e q kept p. subst (λ (n : ℕ). GotOnly v.sizes from (t.grown ++ e ∷ []) n but got) q.1
    (got_own v.sizes z t.grown e kept but q.0 from got (subst (λ (n : ℕ). GotOnly v.sizes from t.grown n but got)
    (sym q.1) p))))

pub makes_got : (v w : View) (own : List Event) → IsLayout v.sizes → (from : List Event) (but : Option ℕ) (got : List ℕ)
    → Every (GetsNone but) own → Makes v own w → HasGotOnly from v but got → HasGotOnly from w but got
makes_got v w own z from but got every h g = makes_keeps (λ (u : View). HasGotOnly from u but got) (GetsNone but)
    (λ v w z t p. got_on from but got v w None z t tt p)
    (λ v w e z by t q p. got_on from but got v w (Some e) z t (q, by) p)
    v w own z every h g

-- and one more by an own unlink
pub makes_got_unlink : (v w : View) (e : Event) → IsLayout v.sizes → (from : List Event) (but : Option ℕ) (got : List ℕ)
    → unlinks e.kind ≡ true → Makes v (e ∷ []) w → HasGotOnly from v but got → HasGotOnly from w but
    (e.life.index ∷ got)
makes_got_unlink v w e z from but got is h g =
    let m = h.steps.0 in
    let by = h.steps.1 in
    let t : Steps v (Some e) m = h.steps.2 in
    let r = t.reaches in
    let kept : IsKept v.sizes (t.grown ++ e ∷ []) = subst (λ (j : List Event). IsKept v.sizes j) t.front t.kept in
    let at = got_beyond v.sizes z v.number v.last but v.front t.grown r.front r.kept r.quiet r.old from got g in
    let now = subst (λ (n : ℕ). GotOnly v.sizes from (t.grown ++ e ∷ []) n but (e.life.index ∷ got)) by
    (got_unlink v.sizes z t.grown e kept but is from got (subst (λ (n : ℕ). GotOnly v.sizes from t.grown n but got)
    (sym by) at)) in
    let here : HasGotOnly from m but (e.life.index ∷ got) = subst
    (λ (u : View). HasGotOnly from u but (e.life.index ∷ got)) (sym t.view)
    (subst (λ (j : List Event). GotOnly v.sizes from j v.number but (e.life.index ∷ got)) (sym t.front) now) in
    got_on from but (e.life.index ∷ got) m w None (subst IsLayout (sym (step_view v m (Some e) t).0) z) h.steps.3 tt
    here
