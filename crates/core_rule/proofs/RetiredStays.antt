-- A node that a token retired is so behind each of its steps that doesn't give it back.
use Rattle.std.proofs.Common.{◌≡◌, ◌≢◌, ℕ, ◌<◌, ◌≤◌, true, Option, sym, ap, ◌∙◌, subst}
use Rattle.packed_link.specs.Layout.{Sizes, IsLayout, epoch_at}
use Rattle.packed_link.specs.declared.link.Life.{Life}
use Rattle.core_journal.specs.declared.event.Kind.TheVariants.{PushFree}
use Rattle.core_journal.specs.declared.event.Event.{Event}
use Rattle.core_journal.specs.Machine.{word_at}
use Rattle.core_journal.specs.State.{Fresh, state}
use Rattle.core_journal.proofs.Lists.{prefix_trans}
use Rattle.core_kept.specs.Nodes.{node_in, is_listed, IsFrozenToEnd}
use Rattle.core_lists.proofs.ClosedHeadStays.{finished_stays, old_lists}
use Rattle.core_rule.specs.Retired.{IsRetired}
use Rattle.core_rule.specs.Views.{Spares, Steps}
use Rattle.core_rule.specs.declared.view.View.{View}
use Rattle.core_rule.proofs.OwnByView.{own_end_still, own_spent_still, own_stamp_still}
use Rattle.core_rule.proofs.ViewShows.{step_view}

pub retired_still : (v w : View) (own : Option Event) → IsLayout v.sizes → Steps v own w → (but : Option ℕ) (x : Life)
    (stamp : ℕ) → Spares (λ (e : Event). e.kind ≡ PushFree → e.life.index ≢ x.index) own → IsRetired but v x stamp
    → IsRetired but w x stamp
retired_still v w own z t but x stamp spares h =
    let i = x.index in
    let s = own_spent_still v w own z t x spares h.life h.stamped.spent in
    let g = step_view v w own t in
    let sizes = g.0 in
    let tag : (node_in v.sizes w.front i).tag ≡ (node_in v.sizes v.front i).tag = ap
    (λ (q : Sizes). (node_in q w.front i).tag) (sym sizes) ∙ (sym s.1.tag ∙ h.life.tag) in
    let unfresh : (node_in v.sizes v.front i).mode ≢ Fresh = λ f. let m = h.stamped.spent.spent in absurd (cc) in
    record {
      life = s.1;
      stamped = own_stamp_still v w own z t i stamp spares h.stamped;
      shown = record {
        moment = h.shown.moment;
        before = prefix_trans h.shown.moment v.front w.front h.shown.before g.4;
        epoch = subst (λ (q : Sizes). stamp ≤ word_at q h.shown.moment (epoch_at q)) (sym sizes) h.shown.epoch;
      };
      own_list = λ vertex. own_end_still v w own z t i h.life.there spares h.stamped.spent
          (h.own_list (sym s.2 ∙ vertex));
      list = λ y other there on.
          let l = old_lists v.sizes z i v.front w.front g.4 t.kept unfresh tag y
          (subst (λ (q : Sizes). is_listed (state q w.front) y i ≡ true) sizes on) in
          subst (λ (q : Sizes). IsFrozenToEnd q w.front y) (sym sizes)
          (finished_stays v.sizes z y v.front w.front g.4 t.kept l.1
          (h.list y other (subst (λ (q : Sizes). y < q.nodes) sizes there) l.0));
    }
