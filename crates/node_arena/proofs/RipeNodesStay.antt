-- A node that may be given back may be so behind own events that give no node back or another one.
use Rattle.std.proofs.Common.{List, None, Option, Some, sym, ◌∙◌}
use Rattle.graph_kinds.specs.History.{Every}
use Rattle.packed_link.specs.Layout.{IsLayout}
use Rattle.packed_link.specs.declared.link.Life.{Life}
use Rattle.core_journal.specs.declared.event.Event.{Event}
use Rattle.core_rule.specs.Views.{Spares, Steps}
use Rattle.core_rule.specs.declared.view.View.{View}
use Rattle.core_rule.proofs.OwnByView.{own_end_still, own_ends_still, own_ripe_still, own_spent_still}
use Rattle.core_stretches.specs.Holdings.{IsGivable}
use Rattle.core_rule.specs.Stretches.{GivesOther}
use Rattle.core_stretches.specs.Makes.{Makes}
use Rattle.core_stretches.proofs.HoldingsStay.{makes_keeps}

givable_still : (v w : View) (own : Option Event) → IsLayout v.sizes → Steps v own w → (x : Life) → Spares
    (GivesOther x.index) own → IsGivable v x → IsGivable w x
givable_still v w own z t x spares h =
    let spent = h.ripe.stamped.spent in
    let s = own_spent_still v w own z t x spares h.life spent in
    record {
      life = s.1;
      ripe = own_ripe_still v w own z t x.index spares h.ripe;
      own_list = λ vertex. own_end_still v w own z t x.index h.life.there spares spent (h.own_list (sym s.2 ∙ vertex));
      list = own_ends_still v w own z t x.index h.life.there spares spent h.list;
    }

pub makes_givable : (v w : View) (own : List Event) → IsLayout v.sizes → (x : Life) → Every (GivesOther x.index) own
    → Makes v own w → IsGivable v x → IsGivable w x
makes_givable v w own z x every h g = makes_keeps (λ (u : View). IsGivable u x) (GivesOther x.index)
    (λ v w z t p. givable_still v w None z t x tt p)
    (λ v w e z by t q p. givable_still v w (Some e) z t x q p)
    v w own z every h g
