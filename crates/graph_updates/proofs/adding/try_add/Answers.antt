use Rattle.std.proofs.Common.{ap, arith, false}
use Rattle.graph_updates.specs.Parts.{may_take}
use Rattle.graph_updates.proofs.AddingAddsUp.{helped_on, leaves_made, tried_since}
use Rattle.graph_updates.proofs.PartsLeave.{helps_leave}
use Rattle.graph_updates.proofs.SeekingSteps.{helps_pass}
use Rattle.graph_updates.proofs.adding.try_add.Goals as goal

pub returns-in-Here-clause-pass : goal.returns-in-Here-clause-pass
returns-in-Here-clause-pass c =
    let h = c.args.hand.now in
    let k = c.find.new.hand in
    let e = c.in-Here.ensures in
    let n = c.requires.nodes in
    helps_pass h.token.view k.token.view c.requires.hand.of.layout e.helped.helped.only c.requires.pass

pub returns-in-Here-clause-tried : goal.returns-in-Here-clause-tried
returns-in-Here-clause-tried c =
    let h = c.args.hand.now in
    let k = c.find.new.hand in
    let e = c.in-Here.ensures in
    let n = c.requires.nodes in
    (helped_on false h k n e.helped, e.sought)

pub returns-in-Lost-clause-pass : goal.returns-in-Lost-clause-pass
returns-in-Lost-clause-pass c =
    let h = c.args.hand.now in
    let k = c.find.new.hand in
    let e = c.in-Lost.ensures in
    let n = c.requires.nodes in
    helps_pass h.token.view k.token.view c.requires.hand.of.layout e.helped.helped.only c.requires.pass

pub returns-in-Lost-clause-tried : goal.returns-in-Lost-clause-tried
returns-in-Lost-clause-tried c =
    let h = c.args.hand.now in
    let k = c.find.new.hand in
    let e = c.in-Lost.ensures in
    let n = c.requires.nodes in
    (helped_on false h k n e.helped, e.sought)

pub place_at-requires-clause-pass : goal.place_at-requires-clause-pass
place_at-requires-clause-pass c =
    let h = c.args.hand.now in
    let k = c.find.new.hand in
    let e = c.in-Gone.ensures in
    let n = c.requires.nodes in
    helps_pass h.token.view k.token.view c.requires.hand.of.layout e.helped.helped.only c.requires.pass

pub place_at-requires-clause-nodes : goal.place_at-requires-clause-nodes
place_at-requires-clause-nodes c =
    let h = c.args.hand.now in
    let k = c.find.new.hand in
    let e = c.in-Gone.ensures in
    let n = c.requires.nodes in
    e.helped.nodes n

pub place_at-requires-clause-limit : goal.place_at-requires-clause-limit
place_at-requires-clause-limit c =
    let h = c.args.hand.now in
    let k = c.find.new.hand in
    let e = c.in-Gone.ensures in
    let n = c.requires.nodes in
    let m = leaves_made false 0 0 h.token.view k.token.view (helps_leave false h.token.view k.token.view
    e.helped.helped.only) in
    let low = c.requires.limit in
    let same = ap may_take e.helped.spare in
    omega (arith, m, low, same)

pub place_at-requires-clause-key : goal.place_at-requires-clause-key
place_at-requires-clause-key c =
    let h = c.args.hand.now in
    let k = c.find.new.hand in
    let e = c.in-Gone.ensures in
    let n = c.requires.nodes in
    e.sought.key_is

pub place_at-requires-clause-gap : goal.place_at-requires-clause-gap
place_at-requires-clause-gap c =
    let h = c.args.hand.now in
    let k = c.find.new.hand in
    let e = c.in-Gone.ensures in
    let n = c.requires.nodes in
    e.sought.gap

pub returns-in-Gone-clause-tried : goal.returns-in-Gone-clause-tried
returns-in-Gone-clause-tried c =
    let h = c.args.hand.now in
    let k = c.find.new.hand in
    let e = c.in-Gone.ensures in
    let n = c.requires.nodes in
    let r = c.place_at.ensures in
    tried_since c.args.table.now c.place_at.result c.args.key h k c.place_at.new.hand c.in-Gone.gap e.hand r.hand n
    r.nodes e.helped e.sought r.placed
