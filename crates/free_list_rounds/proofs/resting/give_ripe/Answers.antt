use Rattle.std.proofs.Common.{◌≡◌, ◌+◌, ℕ, ap, sym, subst, arith, ◌∙◌}
use Rattle.packed_link.specs.Layout.{epoch_at}
use Rattle.core_stretches.proofs.MakesAddUp.{makes_look}
use Rattle.free_list_rounds.proofs.GivingTells.{shown_now}
use Rattle.free_list_rounds.specs.Rounds.{CountsGo}
use Rattle.free_list_rounds.proofs.WorkGoesOn.{counts_chain, counts_same, goes_look, spares_chain, spares_look}
use Rattle.free_list_rounds.proofs.resting.give_ripe.Goals as goal

pub loop-given-init : goal.loop-given-init
loop-given-init c =
    let v = c.args.token.now.view in
    let m = c.load-epoch.new.token.view in
    let sizes : c.layout-layout.result ≡ v.sizes = c.layout-layout.ensures.sizes ∙ sym c.requires.table.sizes in
    let makes = makes_look v m c.epoch_at.result c.load-epoch.result c.requires.number c.requires.table.sound
    c.load-epoch.ensures.looked in
    let g = goes_look v m c.requires.table.layout makes in
    record {
      of = c.load-epoch.ensures.table;
      number = g.numbered c.requires.number;
      closed = g.closed c.requires.closed;
      work = g.work c.args.limbo.now c.requires.work;
      shown = shown_now v m c.epoch_at.result c.load-epoch.result c.requires.number c.requires.table.sound
          c.load-epoch.ensures.looked (c.epoch_at.ensures.place ∙ ap epoch_at sizes);
      spare = spares_look v m c.requires.table.layout makes;
      counts = g.counts;
    }

pub loop-given-preserved : goal.loop-given-preserved
loop-given-preserved c =
    let v = c.args.token.now.view in
    let m = c.loop-given.token.view in
    let w = c.give_one.new.token.view in
    let l = c.loop-given.invariant in
    let e = c.if-not-give_one.ensures in
    record {
      of = e.table;
      number = e.number;
      closed = e.closed;
      work = e.work;
      shown = e.shown;
      spare = spares_chain v m w l.spare e.spare;
      counts = counts_chain v m w l.counts e.counts 0 (c.loop-given.given + 1) 0
          (omega arith) (omega arith) (omega arith);
    }

pub returns-then-not-give_one-clause-spare : goal.returns-then-not-give_one-clause-spare
returns-then-not-give_one-clause-spare c = spares_chain c.args.token.now.view c.loop-given.token.view
    c.give_one.new.token.view c.loop-given.invariant.spare c.if-not-give_one.ensures.spare

pub returns-then-not-give_one-clause-counts : goal.returns-then-not-give_one-clause-counts
returns-then-not-give_one-clause-counts c = counts_same c.args.token.now.view c.loop-given.token.view
    c.give_one.new.token.view c.loop-given.invariant.counts c.if-not-give_one.ensures.counts

pub returns-clause-counts : goal.returns-clause-counts
returns-clause-counts c =
    let end = c.loop-given.auto.given-end in
    let test = c.loop-given-test.false in
    let all : c.loop-given.given ≡ c.len-most.result = omega arith in
    subst (λ (k : ℕ). CountsGo 0 k 0 c.args.token.now.view c.loop-given.token.view) all c.loop-given.invariant.counts
