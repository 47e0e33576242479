use Rattle.free_list_rounds.proofs.StagesTell.{looks_go, looks_spares, unlink_counts, unlink_cuts, unlink_pass}
use Rattle.free_list_rounds.proofs.StagesTell.{unlink_spares}
use Rattle.free_list_rounds.proofs.WorkGoesOn.{chain, counts_same, goes_look, spares_chain, spares_look}
use Rattle.free_list_rounds.proofs.growing.cut.Goals as goal

pub returns-in_default : goal.returns-in_default
returns-in_default c =
    let v = c.args.token.now.view in
    let m = c.start-first.new.token.view in
    let w = c.walk.new.token.view in
    let g = looks_go v m w c.requires.table.layout c.start-first.ensures.table.layout c.start-first.ensures.makes
    c.walk.ensures.makes in
    let s = looks_spares v m w c.requires.table.layout c.start-first.ensures.table.layout c.start-first.ensures.makes
    c.walk.ensures.makes in
    record {
      table = c.walk.ensures.table;
      number = g.numbered c.requires.number;
      pass = g.pass c.requires.pass;
      spare = s;
      cut = g.work;
      counts = g.counts;
    }

pub returns-in-Done-clause-pass : goal.returns-in-Done-clause-pass
returns-in-Done-clause-pass c =
    let v = c.args.token.now.view in
    let m = c.start-first.new.token.view in
    let w = c.walk.new.token.view in
    let g = looks_go v m w c.requires.table.layout c.start-first.ensures.table.layout c.start-first.ensures.makes
    c.walk.ensures.makes in
    let s = looks_spares v m w c.requires.table.layout c.start-first.ensures.table.layout c.start-first.ensures.makes
    c.walk.ensures.makes in
    unlink_pass w c.unlink.new.token.view _ _ _ c.walk.ensures.table.layout c.in-Done.ensures.unlinked
    (g.pass c.requires.pass)

pub returns-in-Done-clause-spare : goal.returns-in-Done-clause-spare
returns-in-Done-clause-spare c =
    let v = c.args.token.now.view in
    let m = c.start-first.new.token.view in
    let w = c.walk.new.token.view in
    let g = looks_go v m w c.requires.table.layout c.start-first.ensures.table.layout c.start-first.ensures.makes
    c.walk.ensures.makes in
    let s = looks_spares v m w c.requires.table.layout c.start-first.ensures.table.layout c.start-first.ensures.makes
    c.walk.ensures.makes in
    spares_chain v w c.unlink.new.token.view s
    (unlink_spares w c.unlink.new.token.view _ _ _ c.walk.ensures.table.layout c.in-Done.ensures.unlinked)

pub returns-in-Done-clause-cut : goal.returns-in-Done-clause-cut
returns-in-Done-clause-cut c =
    let v = c.args.token.now.view in
    let m = c.start-first.new.token.view in
    let w = c.walk.new.token.view in
    let g = looks_go v m w c.requires.table.layout c.start-first.ensures.table.layout c.start-first.ensures.makes
    c.walk.ensures.makes in
    let s = looks_spares v m w c.requires.table.layout c.start-first.ensures.table.layout c.start-first.ensures.makes
    c.walk.ensures.makes in
    λ limbo h. unlink_cuts w c.unlink.new.token.view _ _ _ c.walk.ensures.table.layout c.in-Done.ensures.unlinked limbo
    (g.work limbo h)

pub returns-in-Done-clause-counts : goal.returns-in-Done-clause-counts
returns-in-Done-clause-counts c =
    let v = c.args.token.now.view in
    let m = c.start-first.new.token.view in
    let w = c.walk.new.token.view in
    let g = looks_go v m w c.requires.table.layout c.start-first.ensures.table.layout c.start-first.ensures.makes
    c.walk.ensures.makes in
    let s = looks_spares v m w c.requires.table.layout c.start-first.ensures.table.layout c.start-first.ensures.makes
    c.walk.ensures.makes in
    counts_same v w c.unlink.new.token.view g.counts
    (unlink_counts w c.unlink.new.token.view _ _ _ c.walk.ensures.table.layout c.in-Done.ensures.unlinked)

pub returns-in-Lost-clause-pass : goal.returns-in-Lost-clause-pass
returns-in-Lost-clause-pass c =
    let v = c.args.token.now.view in
    let m = c.start-first.new.token.view in
    let w = c.walk.new.token.view in
    let g = looks_go v m w c.requires.table.layout c.start-first.ensures.table.layout c.start-first.ensures.makes
    c.walk.ensures.makes in
    let s = looks_spares v m w c.requires.table.layout c.start-first.ensures.table.layout c.start-first.ensures.makes
    c.walk.ensures.makes in
    let l = chain v w c.unlink.new.token.view g (goes_look w c.unlink.new.token.view c.walk.ensures.table.layout
    c.in-Lost.ensures.unlinked.makes) in
    l.pass c.requires.pass

pub returns-in-Lost-clause-spare : goal.returns-in-Lost-clause-spare
returns-in-Lost-clause-spare c =
    let v = c.args.token.now.view in
    let m = c.start-first.new.token.view in
    let w = c.walk.new.token.view in
    let g = looks_go v m w c.requires.table.layout c.start-first.ensures.table.layout c.start-first.ensures.makes
    c.walk.ensures.makes in
    let s = looks_spares v m w c.requires.table.layout c.start-first.ensures.table.layout c.start-first.ensures.makes
    c.walk.ensures.makes in
    spares_chain v w c.unlink.new.token.view s
    (spares_look w c.unlink.new.token.view c.walk.ensures.table.layout c.in-Lost.ensures.unlinked.makes)

pub returns-in-Lost-clause-cut : goal.returns-in-Lost-clause-cut
returns-in-Lost-clause-cut c =
    let v = c.args.token.now.view in
    let m = c.start-first.new.token.view in
    let w = c.walk.new.token.view in
    let g = looks_go v m w c.requires.table.layout c.start-first.ensures.table.layout c.start-first.ensures.makes
    c.walk.ensures.makes in
    let s = looks_spares v m w c.requires.table.layout c.start-first.ensures.table.layout c.start-first.ensures.makes
    c.walk.ensures.makes in
    let l = chain v w c.unlink.new.token.view g (goes_look w c.unlink.new.token.view c.walk.ensures.table.layout
    c.in-Lost.ensures.unlinked.makes) in
    l.work

pub returns-in-Lost-clause-counts : goal.returns-in-Lost-clause-counts
returns-in-Lost-clause-counts c =
    let v = c.args.token.now.view in
    let m = c.start-first.new.token.view in
    let w = c.walk.new.token.view in
    let g = looks_go v m w c.requires.table.layout c.start-first.ensures.table.layout c.start-first.ensures.makes
    c.walk.ensures.makes in
    let s = looks_spares v m w c.requires.table.layout c.start-first.ensures.table.layout c.start-first.ensures.makes
    c.walk.ensures.makes in
    let l = chain v w c.unlink.new.token.view g (goes_look w c.unlink.new.token.view c.walk.ensures.table.layout
    c.in-Lost.ensures.unlinked.makes) in
    l.counts
