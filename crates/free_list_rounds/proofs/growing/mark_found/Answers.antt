use Rattle.free_list_rounds.proofs.StagesTell.{looks_go, looks_spares, marked_goes, marked_spares}
use Rattle.free_list_rounds.proofs.WorkGoesOn.{chain, spares_chain}
use Rattle.free_list_rounds.proofs.growing.mark_found.Goals as goal

pub returns-in-Here-clause-pass : goal.returns-in-Here-clause-pass
returns-in-Here-clause-pass c =
    let v = c.args.token.now.view in
    let m = c.start-first.new.token.view in
    let w = c.walk.new.token.view in
    let u = c.mark.new.token.view in
    let first = looks_go v m w c.requires.table.layout c.start-first.ensures.table.layout c.start-first.ensures.makes
    c.walk.ensures.makes in
    let g = chain v w u first (marked_goes c.mark.result c.in-Here.sighting.life w u c.walk.ensures.table.layout
    c.mark.ensures.marked) in
    g.pass c.requires.pass

pub returns-in-Here-clause-spare : goal.returns-in-Here-clause-spare
returns-in-Here-clause-spare c =
    let v = c.args.token.now.view in
    let m = c.start-first.new.token.view in
    let w = c.walk.new.token.view in
    let u = c.mark.new.token.view in
    spares_chain v w u (looks_spares v m w c.requires.table.layout c.start-first.ensures.table.layout
    c.start-first.ensures.makes c.walk.ensures.makes)
    (marked_spares c.mark.result c.in-Here.sighting.life w u c.walk.ensures.table.layout c.mark.ensures.marked)

pub returns-in-Here-clause-work : goal.returns-in-Here-clause-work
returns-in-Here-clause-work c =
    let v = c.args.token.now.view in
    let m = c.start-first.new.token.view in
    let w = c.walk.new.token.view in
    let u = c.mark.new.token.view in
    let first = looks_go v m w c.requires.table.layout c.start-first.ensures.table.layout c.start-first.ensures.makes
    c.walk.ensures.makes in
    let g = chain v w u first (marked_goes c.mark.result c.in-Here.sighting.life w u c.walk.ensures.table.layout
    c.mark.ensures.marked) in
    g.work

pub returns-in-Here-clause-counts : goal.returns-in-Here-clause-counts
returns-in-Here-clause-counts c =
    let v = c.args.token.now.view in
    let m = c.start-first.new.token.view in
    let w = c.walk.new.token.view in
    let u = c.mark.new.token.view in
    let first = looks_go v m w c.requires.table.layout c.start-first.ensures.table.layout c.start-first.ensures.makes
    c.walk.ensures.makes in
    let g = chain v w u first (marked_goes c.mark.result c.in-Here.sighting.life w u c.walk.ensures.table.layout
    c.mark.ensures.marked) in
    g.counts

pub returns-in_default : goal.returns-in_default
returns-in_default c =
    let v = c.args.token.now.view in
    let m = c.start-first.new.token.view in
    let w = c.walk.new.token.view in
    let z = c.requires.table.layout in
    let y = c.start-first.ensures.table.layout in
    let g = looks_go v m w z y c.start-first.ensures.makes c.walk.ensures.makes in
    record {
      table = c.walk.ensures.table;
      number = g.numbered c.requires.number;
      pass = g.pass c.requires.pass;
      spare = looks_spares v m w z y c.start-first.ensures.makes c.walk.ensures.makes;
      work = g.work;
      counts = g.counts;
    }
