use Rattle.std.proofs.Common.{arith, ap, sym, ◌∙◌, [], inl, inr}
use Rattle.packed_link.specs.Link.{index_of}
use Rattle.core_stretches.proofs.MakesAddUp.{makes_chain}
use Rattle.vertex_calls.proofs.Causes.{is_walked, no_gap, took_none}
use Rattle.vertex_calls.proofs.ReadyStays.{prepared, ready_looks}
use Rattle.vertex_calls.proofs.calls.prepare.Goals as goal

pub take-requires-clause-none : goal.take-requires-clause-none
take-requires-clause-none c =
    let v = c.args.token.now.view in
    let m = c.walk.new.token.view in
    let r = ready_looks c.args._taken v m c.requires.table.layout
    (makes_chain v c.start-position.new.token.view m [] [] c.start-position.ensures.makes c.walk.ensures.makes)
    c.requires.ready in
    r.bare

pub take-requires-clause-limit : goal.take-requires-clause-limit
take-requires-clause-limit c =
    let v = c.args.token.now.view in
    let m = c.walk.new.token.view in
    let r = ready_looks c.args._taken v m c.requires.table.layout
    (makes_chain v c.start-position.new.token.view m [] [] c.start-position.ensures.makes c.walk.ensures.makes)
    c.requires.ready in
    let few = r.few in
    omega (arith, few, c.requires.few)

pub returns-clause-prepared : goal.returns-clause-prepared
returns-clause-prepared c =
    let v = c.args.token.now.view in
    let m = c.walk.new.token.view in
    let r = ready_looks c.args._taken v m c.requires.table.layout
    (makes_chain v c.start-position.new.token.view m [] [] c.start-position.ensures.makes c.walk.ensures.makes)
    c.requires.ready in
    prepared c.args._taken m c.take.new.token.view c.fill_vertex.new.token.view c.in-Gone.position c.in-Node.fresh
    c.args.key _ c.walk.ensures.table.layout r c.in-Gone.ensures.found.gap c.in-Node.ensures.taken
    c.fill_vertex.ensures.makes c.fill_vertex.ensures.filled
    (sym (c.in-Gone.ensures.found.key ∙ c.start-position.ensures.key)) (ap index_of c.word-next.ensures.word)

pub returns-in_default-clause-none : goal.returns-in_default-clause-none
returns-in_default-clause-none c = λ _.
    let v = c.args.token.now.view in
    let m = c.start-position.new.token.view in
    let w = c.walk.new.token.view in
    inl (no_gap v w c.args.key c.walk.result (is_walked v m w c.args.key c.start-position.result c.walk.result
    c.start-position.ensures.makes c.start-position.ensures.key c.start-position.ensures.moment c.walk.ensures.makes
    c.walk.ensures.found) c.in_default.not-Gone)

pub returns-in_default-take-clause-none : goal.returns-in_default-take-clause-none
returns-in_default-take-clause-none c = λ _.
    let v = c.args.token.now.view in
    let m = c.walk.new.token.view in
    inr (took_none v m c.take.new.token.view c.take.result (makes_chain v c.start-position.new.token.view m [] []
    c.start-position.ensures.makes c.walk.ensures.makes) c.take.ensures.taken c.in_default-take.not-Node)
