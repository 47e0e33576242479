use Rattle.std.proofs.Common.{rules, ◌≡◌, ap, sym}
use Rattle.packed_link.specs.Link.{mark_of}
use Rattle.packed_link.specs.Layout.{Sizes, link_at}
use Rattle.vertex_list.proofs.ChangesTell.{marked, was_marked}
use Rattle.vertex_list.proofs.changes.mark.Goals as goal

pub returns-then-marked-clause-marked : goal.returns-then-marked-clause-marked
returns-then-marked-clause-marked c =
    let one : mark_of c.mark_vertex.result ≡ 1 = search rules in
    was_marked c.args.token.now.view c.mark_vertex.new.token.view c.args.life _ _ c.requires.table.layout
    c.requires.number c.requires.table.sound c.requires.vertex
    (ap (λ (s : Sizes). link_at s c.args.life.index) (sym c.requires.table.sizes))
    (c.mark_vertex.ensures.marked.was one) one

pub returns-else-marked-clause-marked : goal.returns-else-marked-clause-marked
returns-else-marked-clause-marked c =
    let none : mark_of c.mark_vertex.result ≡ 0 = search rules in
    marked c.args.token.now.view c.mark_vertex.new.token.view c.args.life _ _ c.requires.table.layout c.requires.number
    c.requires.table.sound c.requires.vertex (c.mark_vertex.ensures.marked.won none)
