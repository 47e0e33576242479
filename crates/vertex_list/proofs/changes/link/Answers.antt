use Rattle.std.proofs.Common.{sym, subst, false}
use Rattle.core_rule.specs.Fronts.{MayLinkVertex, key_in}
use Rattle.core_rule.specs.OwnEvents.{link_vertex_event}
use Rattle.core_rule.specs.Plays.{Won}
use Rattle.graph_table.specs.Table.{Missed}
use Rattle.vertex_list.specs.Positions.{PositionValue}
use Rattle.vertex_list.proofs.ChangesTell.{may_link, linked, lost}
use Rattle.vertex_list.proofs.changes.link.Goals as goal

pub link_vertex-requires-clause-may : goal.link_vertex-requires-clause-may
link_vertex-requires-clause-may c =
    let v = c.args.token.now.view in
    subst (λ (q : PositionValue). MayLinkVertex v q.place q.word (key_in v c.args.fresh.index) c.args.fresh)
    (sym c.position.view_is)
    (may_link v c.args.position c.args.fresh c.requires.table.layout c.requires.gap c.requires.filled)

pub returns-in-Won-clause-linked : goal.returns-in-Won-clause-linked
returns-in-Won-clause-linked c =
    let v = c.args.token.now.view in
    let w = c.link_vertex.new.token.view in
    let x = c.args.fresh in
    let won = subst (λ (q : PositionValue). Won v q.place q.word
    (link_vertex_event v q.place q.word (key_in v x.index) x) w) c.position.view_is c.in-Won.ensures.tried.1 in (
      c.in-Won.ensures.tried.0,
      linked v w c.args.position x c.requires.table.layout c.requires.number
          c.requires.table.sound c.requires.filled won,
    )

pub returns-clause-linked : goal.returns-clause-linked
returns-clause-linked c =
    let v = c.args.token.now.view in
    let w = c.link_vertex.new.token.view in
    let missed = subst (λ (q : PositionValue). Missed v q.place q.word c.in-Lost.field-1 w) c.position.view_is
    c.in-Lost.ensures.tried.1 in (
      c.in-Lost.ensures.tried.0,
      lost false v w c.args.position _ c.link_vertex.ensures.table.layout c.requires.number
          c.requires.table.sound c.requires.gap.position missed,
    )
