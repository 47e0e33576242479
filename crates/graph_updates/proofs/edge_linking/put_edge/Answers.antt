use Rattle.std.proofs.Common.{ap}
use Rattle.packed_link.specs.Link.{index_of}
use Rattle.core_rule.proofs.CallLimits.{life_tag_low}
use Rattle.graph_updates.proofs.EdgeLinkingTells.{filled_edge_gap, filled_edge_readies, filled_for_gap, put_told}
use Rattle.graph_updates.proofs.edge_linking.put_edge.Goals as goal

pub fill_edge-requires-clause-tag : goal.fill_edge-requires-clause-tag
fill_edge-requires-clause-tag c = life_tag_low c.args.token.now.view c.requires.table.layout
    c.requires.table.sound.kept c.args.target c.requires.target.life

pub link-requires-clause-gap : goal.link-requires-clause-gap
link-requires-clause-gap c = filled_edge_gap c.args.token.now.view c.fill_edge.new.token.view c.args.fresh c.args.to
    (index_of c.word.result.0) c.args.weight c.args.target c.requires.table.layout c.fill_edge.ensures.makes c.args.gap
    c.requires.fresh c.requires.gap

pub link-requires-clause-filled : goal.link-requires-clause-filled
link-requires-clause-filled c = (
  c.args.target,
  c.args.weight,
  filled_for_gap c.args.token.now.view c.fill_edge.new.token.view c.args.fresh c.args.to (index_of c.word.result.0)
      c.args.weight c.args.target c.requires.table.layout c.fill_edge.ensures.makes c.args.gap
      c.fill_edge.ensures.table.sound c.requires.key (ap index_of c.word.ensures.word) c.requires.target c.requires.to
      c.fill_edge.ensures.filled,
)

pub returns-clause-put : goal.returns-clause-put
returns-clause-put c =
    let v = c.args.token.now.view in
    let u = c.fill_edge.new.token.view in
    put_told c.link.result c.args.gap c.args.target c.args.weight c.args.fresh v u c.link.new.token.view
    c.fill_edge.ensures.table.layout
    (filled_edge_readies v u c.args.fresh c.args.to (index_of c.word.result.0) c.args.weight c.args.target
    c.requires.table.layout c.fill_edge.ensures.makes)
    c.fill_edge.ensures.filled.held
    (c.link.ensures.linked c.args.target c.args.weight
    (filled_for_gap v u c.args.fresh c.args.to (index_of c.word.result.0) c.args.weight c.args.target
    c.requires.table.layout c.fill_edge.ensures.makes c.args.gap c.fill_edge.ensures.table.sound c.requires.key
    (ap index_of c.word.ensures.word) c.requires.target c.requires.to c.fill_edge.ensures.filled))
