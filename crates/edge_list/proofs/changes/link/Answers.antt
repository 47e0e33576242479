use Rattle.std.proofs.Common.{sym, subst, false}
use Rattle.graph_table.specs.Filled.{MayLinkFilledEdge, filled_edge_event}
use Rattle.graph_table.specs.Table.{Missed}
use Rattle.core_rule.specs.Plays.{Won}
use Rattle.edge_list.specs.EdgePositions.{EdgePositionValue}
use Rattle.edge_list.proofs.EdgeChangesTell.{may_link, edge_linked, edge_lost}
use Rattle.edge_list.proofs.changes.link.Goals as goal

pub link_edge-requires-clause-may : goal.link_edge-requires-clause-may
link_edge-requires-clause-may c =
    let v = c.args.token.now.view in
    subst (λ (q : EdgePositionValue). MayLinkFilledEdge v q.place q.word c.args.fresh) (sym c.position.view_is)
    (may_link v c.args.position c.requires.filled.0 c.requires.filled.1 c.args.fresh c.requires.table.layout
    c.requires.gap c.requires.filled.2)

pub returns-in-Won-clause-linked : goal.returns-in-Won-clause-linked
returns-in-Won-clause-linked c =
    let v = c.args.token.now.view in
    let w = c.link_edge.new.token.view in
    let x = c.args.fresh in
    let won = subst (λ (q : EdgePositionValue). Won v q.place q.word (filled_edge_event v q.place q.word x) w)
    c.position.view_is c.in-Won.ensures.tried.1 in
    λ target weight filled. (
      c.in-Won.ensures.tried.0,
      edge_linked v w c.args.position target weight x c.requires.table.layout c.requires.number c.requires.table.sound
          c.requires.gap filled won,
    )

pub returns-clause-linked : goal.returns-clause-linked
returns-clause-linked c =
    let v = c.args.token.now.view in
    let w = c.link_edge.new.token.view in
    let missed = subst (λ (q : EdgePositionValue). Missed v q.place q.word c.in-Lost.field-1 w) c.position.view_is
    c.in-Lost.ensures.tried.1 in
    λ target weight filled. (
      c.in-Lost.ensures.tried.0,
      edge_lost false v w c.args.position _ c.link_edge.ensures.table.layout c.requires.number c.requires.table.sound
          c.requires.gap.position missed,
    )
