-- Rows and costs that stay through one change and another.
use Rattle.std.proofs.Common.{refl, ◌∙◌}
use Rattle.scan_record.specs.Scan.{ScanValue}
use Rattle.scan_record.proofs.ScanFacts.{kept_same, kept_on}
use Rattle.path_levels.specs.Search.{KeepsRowsAndCosts}

pub all_kept_same : (s : ScanValue) → KeepsRowsAndCosts s s
all_kept_same s = record { rows = kept_same s; costs = refl }

pub all_kept_on : (old mid new : ScanValue) → KeepsRowsAndCosts old mid → KeepsRowsAndCosts mid new
    → KeepsRowsAndCosts old new
all_kept_on old mid new a b = record { rows = kept_on old mid new a.rows b.rows; costs = b.costs ∙ a.costs }
