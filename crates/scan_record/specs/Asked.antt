-- What a call that answers on a scan reads and writes.
use Rattle.std.specs.Prelude.{◌≡◌, ℕ}
use Rattle.graph_kinds.specs.declared.outcome.Outcome.{Outcome}
use Rattle.graph_kinds.specs.declared.answer.Answer.{Answer}
use Rattle.scan_record.specs.Scan.{ScanValue, row_at}

-- the key of row 0, from which a search goes out
abbrev pub root_of : ScanValue → ℕ
root_of s = (row_at s 0).key

-- an outcome with what stands in the answer region
abbrev pub answer_in_region : Outcome → ScanValue → Answer
answer_in_region outcome s = record { outcome = outcome; keys = s.keys; ends = s.ends }

-- no row and no edge is changed: only the answer region and the work room are written
pub record KeepsRows (old new : ScanValue) : Type 0 where
  pub nodes : new.nodes ≡ old.nodes
  pub rows : new.rows ≡ old.rows
  pub started : new.started ≡ old.started
  pub next : new.next ≡ old.next
  pub edges : new.edges ≡ old.edges
