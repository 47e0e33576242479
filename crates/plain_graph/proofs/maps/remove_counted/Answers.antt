use Rattle.std.proofs.Common.{◌∙◌}
use Rattle.plain_graph.proofs.Cuts.{count-one, count-none, told_weight, told_none}
use Rattle.plain_graph.proofs.maps.remove_counted.Goals as goal

pub returns-in-Some-Some-clause-count : goal.returns-in-Some-Some-clause-count
returns-in-Some-Some-clause-count c =
    let e = c.in-Some-Some.ensures in
    count-one c.args.vertices.now c.remove_edge.new.vertices c.requires e.rises c.args.from c.args.to e.keys e.weights
    c.in-Some-Some.field-0-0 (told_weight c.args.vertices.now c.args.from c.args.to c.in-Some-Some.field-0 e.before
    ∙ c.in-Some-Some.field-0-is)

pub returns-in-Some-None-clause-count : goal.returns-in-Some-None-clause-count
returns-in-Some-None-clause-count c =
    let e = c.in-Some-None.ensures in
    count-none c.args.vertices.now c.remove_edge.new.vertices c.requires e.rises c.args.from c.args.to e.keys e.weights
    (told_weight c.args.vertices.now c.args.from c.args.to c.in-Some-None.field-0 e.before ∙ c.in-Some-None.field-0-is)

pub returns-in-None-clause-count : goal.returns-in-None-clause-count
returns-in-None-clause-count c =
    let e = c.in-None.ensures in
    count-none c.args.vertices.now c.remove_edge.new.vertices c.requires e.rises c.args.from c.args.to e.keys e.weights
    (told_none c.args.vertices.now c.args.from c.args.to e.before)
