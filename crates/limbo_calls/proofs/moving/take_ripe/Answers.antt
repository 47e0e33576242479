use Rattle.std.proofs.Common.{false, None, sym, subst}
use Rattle.epoch_limbo.specs.Limbos.{IsLimboOf, LimboValue}
use Rattle.limbo_calls.proofs.StaysSteady.{steady_look, limbo_look}
use Rattle.limbo_calls.proofs.moving.take_ripe.Goals as goal

pub ripe-requires-clause-limbo : goal.ripe-requires-clause-limbo
ripe-requires-clause-limbo c =
    let v = c.args.token.now.view in
    let m = c.load-epoch.new.token.view in
    limbo_look c.args._steps false v m c.epoch_at.result c.load-epoch.result c.args.limbo.now.nodes
    c.requires.table.layout c.requires.table.sound c.load-epoch.ensures.looked c.requires.steady c.requires.limbo

pub returns-in-Some-clause-steady : goal.returns-in-Some-clause-steady
returns-in-Some-clause-steady c =
    let v = c.args.token.now.view in
    let m = c.load-epoch.new.token.view in
    steady_look false c.args._steps v m c.epoch_at.result c.load-epoch.result c.requires.table.layout
    c.requires.table.sound c.load-epoch.ensures.looked c.requires.steady

pub returns-in-None-clause-steady : goal.returns-in-None-clause-steady
returns-in-None-clause-steady c =
    let v = c.args.token.now.view in
    let m = c.load-epoch.new.token.view in
    steady_look false c.args._steps v m c.epoch_at.result c.load-epoch.result c.requires.table.layout
    c.requires.table.sound c.load-epoch.ensures.looked c.requires.steady

pub returns-in-None-clause-limbo : goal.returns-in-None-clause-limbo
returns-in-None-clause-limbo c =
    let v = c.args.token.now.view in
    let m = c.load-epoch.new.token.view in
    subst (λ (l : LimboValue). IsLimboOf None m l.nodes) (sym c.in-None.ensures.ripe.same)
    (limbo_look c.args._steps false v m c.epoch_at.result c.load-epoch.result c.args.limbo.now.nodes
    c.requires.table.layout c.requires.table.sound c.load-epoch.ensures.looked c.requires.steady c.requires.limbo)
