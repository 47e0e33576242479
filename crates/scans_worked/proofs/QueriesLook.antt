-- The laws of scans hold of the worked queries.
use Rattle.std.proofs.Common.{refl, lit<, lit≤}
use Rattle.graph_kinds.specs.Graph.{weight_of}
use Rattle.graph_kinds.specs.Part.{part}
use Rattle.scan_record.specs.Scan.{row_at}
use Rattle.scan_record.specs.ScanGraph.{graph_of_scan}
use Rattle.scan_record.proofs.GraphOfScan.{weights_law}
use Rattle.core_journal.specs.GraphOf.{graph_of}
use Rattle.scans_worked.proofs.ScansOfQueries.{is_scan}
use Rattle.std.specs.Prelude.{◌≡◌, Some}
use Rattle.core_journal.specs.Foreign.{IsForeign}
use Rattle.core_journal.specs.State.{state}
use Rattle.core_journal.specs.Worked.{small}
use Rattle.core_worked.proofs.SmallSteps.{quiet_from}
use Rattle.core_worked.proofs.TwoLivesShown.{small_layout}
use Rattle.core_scans.specs.Held.{IsHeldAt}
use Rattle.core_scans.specs.Seen.{OnlyLooks}
use Rattle.core_scans.specs.Worked.{moment, scan_before, scan_after, scan_between}
use Rattle.core_scans.proofs.DifferingWasChanged.{differs_foreign}
use Rattle.core_scans.proofs.HeldIsThePart.{same_held, same_part}
use Rattle.core_scans.proofs.WorkedQueries.{moments_rise, collected_before, collected_between, collected_after}
use Rattle.core_scans.proofs.WorkedQueries.{differs_late}
use Rattle.core_scans.proofs.WorkedQueries.{same_between, same_after}
use Rattle.scans_worked.proofs.KeptQueries.{kept_37, kept_38, kept_44}

pub looks_before : OnlyLooks small 1 (moment 27) (moment 37)
unfolding state
looks_before = record { kept = kept_37; opened = refl; quiet = quiet_from 1 27 (moment 37) refl }

pub looks_between : OnlyLooks small 1 (moment 37) (moment 38)
unfolding state
looks_between = record { kept = kept_38; opened = refl; quiet = quiet_from 1 37 (moment 38) refl }

pub looks_after : OnlyLooks small 1 (moment 44) (moment 44)
unfolding state
looks_after = record { kept = kept_44; opened = refl; quiet = quiet_from 1 44 (moment 44) refl }

pub foreign_between : IsForeign (moment 37) 1 27 37
foreign_between = differs_foreign small small_layout 1 (moment 27) (moment 27) (moment 37) scan_before looks_before
    (moments_rise 27 37 (lit≤ tt)) (row_at scan_before 0) ((collected_before 27 (lit≤ tt)).rows 0 (lit< tt))
    differs_late

pub held_between : IsHeldAt small (moment 37) scan_between
held_between = same_held small small_layout 1 (moment 37) (moment 37) (moment 38) scan_between looks_between
    (moments_rise 37 38 (lit≤ tt)) collected_between same_between

pub held_after : IsHeldAt small (moment 44) scan_after
held_after = same_held small small_layout 1 (moment 44) (moment 44) (moment 44) scan_after looks_after
    (moments_rise 44 44 (lit≤ tt)) collected_after same_after

-- the scan after the replacement is the part of the graph, with the new weight
pub part_after : graph_of_scan scan_after ≡ part (graph_of (moment 44)) 1
part_after = (same_part small small_layout 1 (moment 44) (moment 44) (moment 44) scan_after looks_after
    (moments_rise 44 44 (lit≤ tt)) (is_scan 2 4 7 (lit≤ tt) (lit< tt)) collected_after same_after).2

pub weight_after : weight_of (graph_of_scan scan_after) 1 2 ≡ Some 7
weight_after = weights_law scan_after 0 2 (is_scan 2 4 7 (lit≤ tt) (lit< tt)) (same_part small small_layout 1
    (moment 44) (moment 44) (moment 44) scan_after looks_after (moments_rise 44 44 (lit≤ tt))
    (is_scan 2 4 7 (lit≤ tt) (lit< tt)) collected_after same_after).0 (lit< tt)
