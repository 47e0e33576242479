use Rattle.std.proofs.Common.{◌∙◌}
use Rattle.core_stretches.proofs.MakesTell.{makes_later}
use Rattle.graph_updates.proofs.AddingTells.{node_gap, placed_since, take_lost}
use Rattle.graph_updates.proofs.SeekingSteps.{moment_before}
use Rattle.graph_updates.proofs.adding.place.Goals as goal

pub link_in-requires-clause-number : goal.link_in-requires-clause-number
link_in-requires-clause-number c =
    let v = c.args.token.now.view in
    let u = c.node_for.new.token.view in
    let n = c.in-Node.ensures.node.readied in
    (makes_later v u n.own n.makes).numbered ∙ c.requires.number

pub link_in-requires-clause-gap : goal.link_in-requires-clause-gap
link_in-requires-clause-gap c =
    let v = c.args.token.now.view in
    let u = c.node_for.new.token.view in
    node_gap c.args.spare v u c.in-Node.fresh c.args.gap c.requires.table.layout c.in-Node.ensures.node c.requires.gap

pub returns-in-Node-clause-placed : goal.returns-in-Node-clause-placed
returns-in-Node-clause-placed c =
    let v = c.args.token.now.view in
    let u = c.node_for.new.token.view in
    placed_since c.link_in.result c.args.spare v u c.link_in.new.token.view c.in-Node.fresh c.args.gap
    c.in-Node.ensures.node c.link_in.ensures.placed

pub returns-in-Lost-clause-placed : goal.returns-in-Lost-clause-placed
returns-in-Lost-clause-placed c =
    let v = c.args.token.now.view in
    let u = c.node_for.new.token.view in
    take_lost c.args.spare v u c.args.gap c.requires.number c.requires.table.layout c.in-Lost.ensures.node.0
    c.requires.none (moment_before v c.args.gap c.requires.gap.position) c.in-Lost.ensures.node.1
