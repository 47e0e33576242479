use Rattle.std.proofs.Common.{Some, sym, subst}
use Rattle.packed_link.specs.Link.{index_of}
use Rattle.core_stretches.specs.Holdings.{IsHeldFresh}
use Rattle.free_list_rounds.proofs.StagesTell.{fill_gap, fill_goes, link_goes, looks_go, looks_spares}
use Rattle.free_list_rounds.proofs.WorkGoesOn.{chain, goes_look, spares_look}
use Rattle.free_list_rounds.proofs.growing.grow.Goals as goal

pub returns-in_default : goal.returns-in_default
returns-in_default c =
    let v = c.args.token.now.view in
    let m = c.start-first.new.token.view in
    let w = c.walk.new.token.view in
    let z = c.requires.table.layout in
    let y = c.start-first.ensures.table.layout in
    let g = looks_go v m w z y c.start-first.ensures.makes c.walk.ensures.makes in
    record {
      table = c.walk.ensures.table;
      number = g.numbered c.requires.number;
      pass = g.pass c.requires.pass;
      spare = looks_spares v m w z y c.start-first.ensures.makes c.walk.ensures.makes (Some c.args.fresh)
          c.requires.fresh;
      work = g.work;
      counts = g.counts;
    }

pub fill_vertex-requires-clause-fresh : goal.fill_vertex-requires-clause-fresh
fill_vertex-requires-clause-fresh c = looks_spares c.args.token.now.view c.start-first.new.token.view
    c.walk.new.token.view c.requires.table.layout c.start-first.ensures.table.layout c.start-first.ensures.makes
    c.walk.ensures.makes (Some c.args.fresh) c.requires.fresh

pub link-requires-clause-gap : goal.link-requires-clause-gap
link-requires-clause-gap c = fill_gap c.walk.new.token.view c.fill_vertex.new.token.view c.args.fresh c.args.key
    (index_of c.word.result.0) c.walk.ensures.table.layout c.fill_vertex.ensures.makes c.in-Gone.gap
    (looks_spares c.args.token.now.view c.start-first.new.token.view
    c.walk.new.token.view c.requires.table.layout c.start-first.ensures.table.layout c.start-first.ensures.makes
    c.walk.ensures.makes (Some c.args.fresh) c.requires.fresh)
    c.in-Gone.ensures.found.gap

pub returns-in-Done-clause-pass : goal.returns-in-Done-clause-pass
returns-in-Done-clause-pass c =
    let v = c.args.token.now.view in
    let m = c.start-first.new.token.view in
    let w = c.walk.new.token.view in
    let f = c.fill_vertex.new.token.view in
    let first = looks_go v m w c.requires.table.layout c.start-first.ensures.table.layout c.start-first.ensures.makes
    c.walk.ensures.makes in
    let fill = fill_goes w f c.args.fresh c.args.key (index_of c.word.result.0) c.walk.ensures.table.layout
    c.fill_vertex.ensures.makes in
    let p = c.in-Gone.gap in
    let last = link_goes f c.link.new.token.view p.place p.word p.key c.args.fresh c.fill_vertex.ensures.table.layout
    c.in-Done.ensures.linked.1.makes in
    let g = chain v f c.link.new.token.view (chain v w f first fill) last in
    g.pass c.requires.pass

pub returns-in-Done-clause-work : goal.returns-in-Done-clause-work
returns-in-Done-clause-work c =
    let v = c.args.token.now.view in
    let m = c.start-first.new.token.view in
    let w = c.walk.new.token.view in
    let f = c.fill_vertex.new.token.view in
    let first = looks_go v m w c.requires.table.layout c.start-first.ensures.table.layout c.start-first.ensures.makes
    c.walk.ensures.makes in
    let fill = fill_goes w f c.args.fresh c.args.key (index_of c.word.result.0) c.walk.ensures.table.layout
    c.fill_vertex.ensures.makes in
    let p = c.in-Gone.gap in
    let last = link_goes f c.link.new.token.view p.place p.word p.key c.args.fresh c.fill_vertex.ensures.table.layout
    c.in-Done.ensures.linked.1.makes in
    let g = chain v f c.link.new.token.view (chain v w f first fill) last in
    g.work

pub returns-in-Done-clause-counts : goal.returns-in-Done-clause-counts
returns-in-Done-clause-counts c =
    let v = c.args.token.now.view in
    let m = c.start-first.new.token.view in
    let w = c.walk.new.token.view in
    let f = c.fill_vertex.new.token.view in
    let first = looks_go v m w c.requires.table.layout c.start-first.ensures.table.layout c.start-first.ensures.makes
    c.walk.ensures.makes in
    let fill = fill_goes w f c.args.fresh c.args.key (index_of c.word.result.0) c.walk.ensures.table.layout
    c.fill_vertex.ensures.makes in
    let p = c.in-Gone.gap in
    let last = link_goes f c.link.new.token.view p.place p.word p.key c.args.fresh c.fill_vertex.ensures.table.layout
    c.in-Done.ensures.linked.1.makes in
    let g = chain v f c.link.new.token.view (chain v w f first fill) last in
    g.counts

pub returns-in-Lost-clause-pass : goal.returns-in-Lost-clause-pass
returns-in-Lost-clause-pass c =
    let v = c.args.token.now.view in
    let m = c.start-first.new.token.view in
    let w = c.walk.new.token.view in
    let f = c.fill_vertex.new.token.view in
    let first = looks_go v m w c.requires.table.layout c.start-first.ensures.table.layout c.start-first.ensures.makes
    c.walk.ensures.makes in
    let fill = fill_goes w f c.args.fresh c.args.key (index_of c.word.result.0) c.walk.ensures.table.layout
    c.fill_vertex.ensures.makes in
    let last = goes_look f c.link.new.token.view c.fill_vertex.ensures.table.layout c.in-Lost.ensures.linked.1.makes in
    let g = chain v f c.link.new.token.view (chain v w f first fill) last in
    g.pass c.requires.pass

pub returns-in-Lost-clause-spare : goal.returns-in-Lost-clause-spare
returns-in-Lost-clause-spare c =
    subst (λ x. IsHeldFresh c.link.new.token.view x) (sym c.in-Lost.ensures.linked.0)
    (spares_look c.fill_vertex.new.token.view c.link.new.token.view c.fill_vertex.ensures.table.layout
    c.in-Lost.ensures.linked.1.makes (Some c.args.fresh) c.fill_vertex.ensures.filled.held)

pub returns-in-Lost-clause-work : goal.returns-in-Lost-clause-work
returns-in-Lost-clause-work c =
    let v = c.args.token.now.view in
    let m = c.start-first.new.token.view in
    let w = c.walk.new.token.view in
    let f = c.fill_vertex.new.token.view in
    let first = looks_go v m w c.requires.table.layout c.start-first.ensures.table.layout c.start-first.ensures.makes
    c.walk.ensures.makes in
    let fill = fill_goes w f c.args.fresh c.args.key (index_of c.word.result.0) c.walk.ensures.table.layout
    c.fill_vertex.ensures.makes in
    let last = goes_look f c.link.new.token.view c.fill_vertex.ensures.table.layout c.in-Lost.ensures.linked.1.makes in
    let g = chain v f c.link.new.token.view (chain v w f first fill) last in
    g.work

pub returns-in-Lost-clause-counts : goal.returns-in-Lost-clause-counts
returns-in-Lost-clause-counts c =
    let v = c.args.token.now.view in
    let m = c.start-first.new.token.view in
    let w = c.walk.new.token.view in
    let f = c.fill_vertex.new.token.view in
    let first = looks_go v m w c.requires.table.layout c.start-first.ensures.table.layout c.start-first.ensures.makes
    c.walk.ensures.makes in
    let fill = fill_goes w f c.args.fresh c.args.key (index_of c.word.result.0) c.walk.ensures.table.layout
    c.fill_vertex.ensures.makes in
    let last = goes_look f c.link.new.token.view c.fill_vertex.ensures.table.layout c.in-Lost.ensures.linked.1.makes in
    let g = chain v f c.link.new.token.view (chain v w f first fill) last in
    g.counts
