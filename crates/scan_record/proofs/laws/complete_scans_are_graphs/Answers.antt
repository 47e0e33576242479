use Rattle.scan_record.proofs.IsGraphOfScan.{graph_law}
use Rattle.scan_record.proofs.laws.complete_scans_are_graphs.Goals as goal

pub returns : goal.returns
returns c = graph_law
