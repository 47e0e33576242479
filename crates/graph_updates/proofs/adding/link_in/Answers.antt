use Rattle.std.proofs.Common.{Some, ap, sym, subst}
use Rattle.packed_link.specs.Link.{index_of}
use Rattle.packed_link.specs.declared.link.Life.{Life}
use Rattle.graph_table.specs.Tokens.{TokenValue}
use Rattle.graph_updates.specs.Adding.{IsPlaceLost}
use Rattle.graph_updates.proofs.AddingTells.{filled_gap, filled_readies, link_lost, linked_is}
use Rattle.graph_updates.proofs.adding.link_in.Goals as goal

pub link-requires-clause-gap : goal.link-requires-clause-gap
link-requires-clause-gap c = filled_gap c.args.token.now.view c.fill_vertex.new.token.view c.args.fresh c.args.key
    (index_of c.word.result.0) c.requires.table.layout c.fill_vertex.ensures.makes c.args.gap c.requires.fresh
    c.requires.gap

pub returns-in-Done-clause-placed : goal.returns-in-Done-clause-placed
returns-in-Done-clause-placed c = linked_is c.args.token.now.view c.fill_vertex.new.token.view c.link.new.token.view
    c.args.fresh c.args.gap c.of.result.value
    (filled_readies c.args.token.now.view c.fill_vertex.new.token.view c.args.fresh c.args.key
    (index_of c.word.result.0) c.requires.table.layout c.fill_vertex.ensures.makes)
    c.in-Done.ensures.linked.1 (ap (λ (t : TokenValue). t.view.front) c.of.ensures)

pub returns-in-Lost-clause-placed : goal.returns-in-Lost-clause-placed
returns-in-Lost-clause-placed c =
    let v = c.args.token.now.view in
    let u = c.fill_vertex.new.token.view in
    let w = c.link.new.token.view in
    let first = filled_readies v u c.args.fresh c.args.key (index_of c.word.result.0) c.requires.table.layout
    c.fill_vertex.ensures.makes in
    let same = sym c.in-Lost.ensures.linked.0 in
    subst (λ (x : Life). IsPlaceLost c.args.gap.moment (Some c.args.fresh) v w (Some x)) same
    (link_lost v u w c.args.fresh c.args.gap c.fill_vertex.ensures.table.layout first c.fill_vertex.ensures.filled.held
    c.in-Lost.ensures.linked.1)
