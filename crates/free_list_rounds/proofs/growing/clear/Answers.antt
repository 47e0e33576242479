use Rattle.free_list_rounds.proofs.StagesTell.{buried_counts, buried_numbered, buried_pass, buried_spares, buried_work}
use Rattle.free_list_rounds.proofs.WorkGoesOn.{counts_same, spares_chain}
use Rattle.free_list_rounds.proofs.growing.clear.Goals as goal

pub returns-in-Some-clause-number : goal.returns-in-Some-clause-number
returns-in-Some-clause-number c = buried_numbered c.args.limbo.now c.bury.new.limbo c.cut.new.token.view
    c.bury.new.token.view c.in-Some.spent
    c.cut.ensures.table.layout c.bury.ensures.buried c.cut.ensures.number

pub returns-in-Some-clause-pass : goal.returns-in-Some-clause-pass
returns-in-Some-clause-pass c = buried_pass c.args.limbo.now c.bury.new.limbo c.cut.new.token.view c.bury.new.token.view
    c.in-Some.spent
    c.cut.ensures.table.layout c.bury.ensures.buried c.cut.ensures.pass

pub returns-in-Some-clause-spare : goal.returns-in-Some-clause-spare
returns-in-Some-clause-spare c =
    let v = c.args.token.now.view in
    let m = c.mark_found.new.token.view in
    let w = c.cut.new.token.view in
    spares_chain v w c.bury.new.token.view (spares_chain v m w c.mark_found.ensures.spare c.cut.ensures.spare)
    (buried_spares c.args.limbo.now c.bury.new.limbo c.cut.new.token.view c.bury.new.token.view c.in-Some.spent
    c.cut.ensures.table.layout c.bury.ensures.buried)

pub returns-in-Some-clause-work : goal.returns-in-Some-clause-work
returns-in-Some-clause-work c =
    let t = c.in-Some.ensures.cut c.args.limbo.now (c.mark_found.ensures.work c.args.limbo.now c.requires.work) in
    buried_work c.args.limbo.now c.bury.new.limbo c.cut.new.token.view c.bury.new.token.view c.in-Some.spent
    c.cut.ensures.table.layout c.bury.ensures.buried t.0 t.1.room t.2

pub returns-in-Some-clause-counts : goal.returns-in-Some-clause-counts
returns-in-Some-clause-counts c =
    let v = c.args.token.now.view in
    let m = c.mark_found.new.token.view in
    let w = c.cut.new.token.view in
    counts_same v w c.bury.new.token.view
    (counts_same v m w c.mark_found.ensures.counts c.cut.ensures.counts)
    (buried_counts c.args.limbo.now c.bury.new.limbo c.cut.new.token.view c.bury.new.token.view c.in-Some.spent
    c.cut.ensures.table.layout c.bury.ensures.buried)

pub returns-in_default-clause-counts : goal.returns-in_default-clause-counts
returns-in_default-clause-counts c = counts_same c.args.token.now.view c.mark_found.new.token.view
    c.cut.new.token.view c.mark_found.ensures.counts c.cut.ensures.counts
