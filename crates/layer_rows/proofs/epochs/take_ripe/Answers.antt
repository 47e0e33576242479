use Rattle.std.proofs.Common.{◌≡◌, ℕ, [], ap, sym, subst, ◌∙◌}
use Rattle.packed_link.specs.Layout.{Sizes, epoch_at}
use Rattle.core_journal.specs.Machine.{word_at}
use Rattle.core_stretches.proofs.MakesAddUp.{makes_look}
use Rattle.core_stretches.proofs.MakesTell.{makes_later}
use Rattle.epoch_limbo.specs.Limbos.{MatchRipe}
use Rattle.layer_rows.proofs.WaitingGoesOn.{waiting_asked, waiting_loads}
use Rattle.layer_rows.proofs.epochs.take_ripe.Goals as goal

pub ripe-requires-clause-limbo : goal.ripe-requires-clause-limbo
ripe-requires-clause-limbo c =
    let v = c.args.token.now.view in
    let m = c.load-epoch.new.token.view in
    (waiting_loads c.args._moves v m c.args.limbo.now.nodes c.requires.table.layout (makes_look v m c.epoch_at.result
    c.load-epoch.result c.requires.waiting.numbered c.requires.table.sound c.load-epoch.ensures.looked)
    c.requires.waiting).limbo

pub returns-clause-waiting : goal.returns-clause-waiting
returns-clause-waiting c =
    let v = c.args.token.now.view in
    let m = c.load-epoch.new.token.view in
    let loads = makes_look v m c.epoch_at.result c.load-epoch.result c.requires.waiting.numbered
    c.requires.table.sound c.load-epoch.ensures.looked in
    waiting_asked c.args._moves c.ripe.result c.args.limbo.now c.ripe.new.self m c.load-epoch.result
    c.ripe.ensures.ripe (waiting_loads c.args._moves v m c.args.limbo.now.nodes c.requires.table.layout loads
    c.requires.waiting)

pub returns-clause-asked : goal.returns-clause-asked
returns-clause-asked c =
    let v = c.args.token.now.view in
    let m = c.load-epoch.new.token.view in
    let l = c.load-epoch.ensures.looked in
    let loads = makes_look v m c.epoch_at.result c.load-epoch.result c.requires.waiting.numbered
    c.requires.table.sound l in
    let sizes = (makes_later v m [] loads).sizes in
    let at : c.epoch_at.result ≡ epoch_at v.sizes = c.epoch_at.ensures.place ∙ ap (λ (q : Sizes). epoch_at q)
    (c.layout-layout.ensures.sizes ∙ sym c.requires.table.sizes) in
    let epoch : c.load-epoch.result ≡ word_at m.sizes m.front (epoch_at m.sizes) = l.word
    ∙ (ap (word_at v.sizes m.front) at ∙ ap (λ (q : Sizes). word_at q m.front (epoch_at q)) (sym sizes)) in
    record {
      loads = loads;
      ripe = subst (λ (n : ℕ). MatchRipe c.ripe.result c.args.limbo.now c.ripe.new.self m n) epoch
          c.ripe.ensures.ripe;
    }
