-- What a caller raised, over stretches: nothing more, or what it did in one stretch and then in another.
use Rattle.std.proofs.Common.{◌≡◌, ℕ, ◌+◌, Bool, false, cond, List, [], ◌∷◌, refl, sym, ap, subst, arith}
use Rattle.core_journal.specs.declared.event.Event.{Event}
use Rattle.core_journal.specs.Event.{raises}
use Rattle.core_counts.specs.Totals.{RaisesOnce}
use Rattle.core_counts.proofs.RaisesOfEdges.{once_done, once_stays}
use Rattle.core_kept.specs.Counts.{made}
use Rattle.core_rule.specs.OwnEvents.{announce_event}
use Rattle.core_rule.specs.declared.view.View.{View}
use Rattle.core_stretches.specs.Makes.{Makes, of_kinds}
use Rattle.core_stretches.proofs.MakesTell.{makes_counts, makes_later}
use Rattle.epoch_limbo.specs.Passes.{IsOpened}
use Rattle.graph_kinds.specs.declared.call.Call.{Call}
use Rattle.graph_updates.specs.Parts.{CarriesOutBy, LeavesGraph, RaisesDone}

-- a stretch in which nothing is raised
pub raised_none : (v w : View) (own : List Event) → Makes v own w → of_kinds raises own ≡ 0 → RaisesDone 0 v w
raised_none v w own makes none = record {
  each = λ again h.
      let later = makes_later v w own makes in
      let count = makes_counts raises v w own makes in
      let named : made raises w.number w.front ≡ made raises v.number w.front = ap (λ (n : ℕ). made raises n w.front)
      later.number in
      let same : made raises v.number w.front ≡ made raises v.number v.front = omega (arith, count, none, named) in
      let stays = once_stays v.number again [] v.front v.front w.front later.grows same h in
      let done = once_done v.number again [] v.front w.front later.grows (λ i d low. absurd (omega (arith, low)))
      stays in
      subst (λ (n : ℕ). RaisesOnce w.front w.front n (again + 0) []) (sym later.number)
      (subst (λ (n : ℕ). RaisesOnce w.front w.front v.number n []) (omega arith) done);
}

pub raised_left : (a b : ℕ) (v w : View) → LeavesGraph false a b v w → RaisesDone 0 v w
raised_left a b v w h = raised_none v w h.own h.makes (h.raised refl)

-- one stretch behind another
pub raised_chain : (a b : ℕ) (u v w : View) → RaisesDone a u v → RaisesDone b v w → RaisesDone (a + b) u w
raised_chain a b u v w g h = record {
  each = λ again o. subst (λ (n : ℕ). RaisesOnce w.front w.front w.number n []) (omega arith)
      (h.each (again + a) (g.each again o));
}

-- a caller that raised nothing
pub raises_of_none : (journal : List Event) (caller : ℕ) → made raises caller journal ≡ 0
    → RaisesOnce journal journal caller 0 []
raises_of_none journal caller none = record {
  edges = [];
  apart = λ i j d low high. absurd (omega (arith, high));
  linked = λ i d low. absurd (omega (arith, low));
  over = λ i d low. absurd (omega (arith, low));
  few = omega (arith, none);
}

-- an edge more may be counted as given up
raised_more : (v w : View) → RaisesDone 0 v w → RaisesDone 1 v w
raised_more v w h = record {
  each = λ again o.
      let n = h.each again o in
      let few = n.few in
      record { edges = n.edges; apart = n.apart; linked = n.linked; over = n.over; few = omega (arith, few) };
}

-- a whole call that raises nothing: it left the graph, or carried itself out
module _ (a : ℕ) (u v w x : View) (o : IsOpened u v) (f : LeavesGraph false 0 1 w x) where
  opened : RaisesDone 0 u v
  opened = raised_none u v (announce_event u o.epoch ∷ []) o.makes refl

  pub raised_call : LeavesGraph false a 0 v w → RaisesDone 1 u x
  raised_call h = raised_more u x (raised_chain 0 0 u w x (raised_chain 0 0 u v w opened (raised_left a 0 v w h))
      (raised_left 0 1 w x f))

  pub raised_carried : (call : Call) (at : List Event) → CarriesOutBy false call a 0 v w at → RaisesDone 1 u x
  raised_carried call at h =
      let one = raised_none h.before h.done (h.event ∷ []) h.makes (ap (λ (b : Bool). cond {A = ℕ} b 1 0 + 0)
      h.unlike.1.1)
      in
      let until = raised_chain 0 0 u v h.before opened (raised_left a 0 v h.before h.first) in
      let since = raised_chain 0 0 h.done w x (raised_left 0 0 h.done w h.last) (raised_left 0 1 w x f) in
      raised_more u x (raised_chain 0 0 u h.done x (raised_chain 0 0 u h.before h.done until one) since)
