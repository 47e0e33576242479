use Rattle.std.proofs.Common.{ap}
use Rattle.scan_record.specs.Scan.{ScanValue}
use Rattle.plain_graph.proofs.Collects.{collected_root}
use Rattle.plain_graph.proofs.Numbering.{numbering_none}
use Rattle.plain_graph.proofs.parts.collect.Goals as goal

pub loop-row-init : goal.loop-row-init
loop-row-init c =
    let begun = collected_root c.args.vertices.now c.push_key.new.numbers c.clear.new.self c.push_key.new.scan
    c.args.root c.args.scan.now.nodes c.clear.ensures c.in_ok-push_key.ensures.pushed c.requires.held
    c.in_ok-push_key.ensures.numbering c.in_ok-push_key.ensures.indexed in
    record { collected = begun.0; root = begun.1 }

pub push_key-requires-clause-numbering : goal.push_key-requires-clause-numbering
push_key-requires-clause-numbering c = numbering_none c.prepare.new.self c.clear.new.self c.in_ok-prepare.ensures
    (ap (λ (v : ScanValue). v.rows) c.clear.ensures)
