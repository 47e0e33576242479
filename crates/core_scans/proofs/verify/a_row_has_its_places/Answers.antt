use Rattle.std.proofs.Common.{ap, ◌∙◌, Some, arith}
use Rattle.scan_record.specs.Scan.{row_at, edges_of, blank_edge}
use Rattle.scan_record.proofs.Edges.{length-edges_of, get_or-edges_of}
use Rattle.core_scans.proofs.FrontsKeepLives.{get_at}
use Rattle.core_scans.proofs.verify.a_row_has_its_places.Goals as goal

pub returns-clause-count : goal.returns-clause-count
returns-clause-count c = λ s k is low. length-edges_of s k is low

pub returns-clause-place : goal.returns-clause-place
returns-clause-place c = λ s k n is low inside. get_at (edges_of s (row_at s k)) n blank_edge
    (omega (arith, length-edges_of s k is low, inside)) ∙ ap Some (get_or-edges_of s (row_at s k) n inside)
