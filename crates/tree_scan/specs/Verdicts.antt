-- What verify asks of a scan, and what its answers tell.
use Rattle.std.specs.Prelude.{◌≡◌, ℕ, ◌+◌, ◌<◌, Bool, true, false, List, length}
use Rattle.graph_kinds.specs.Graph.{has}
use Rattle.graph_kinds.specs.Part.{part}
use Rattle.core_journal.specs.declared.event.Event.{Event}
use Rattle.core_journal.specs.Foreign.{IsForeign}
use Rattle.core_journal.specs.GraphOf.{graph_of}
use Rattle.core_journal.specs.Prefix.{IsPrefix}
use Rattle.core_rule.specs.declared.view.View.{View}
use Rattle.core_scans.specs.Differing.{DiffersNow, HasOtherLink}
use Rattle.core_scans.specs.Seen.{HasCollected, OnlyLooks}
use Rattle.core_scans.specs.Walking.{AreRowsSame, IsRowAgain}
use Rattle.packed_link.specs.Layout.{Sizes}
use Rattle.scan_record.specs.Asked.{root_of}
use Rattle.scan_record.specs.Scan.{ScanValue, IsComplete, row_at}
use Rattle.scan_record.specs.ScanGraph.{graph_of_scan}
use Rattle.tree_scan.specs.declared.again.Verdict.{Verdict}
use Rattle.tree_scan.specs.declared.again.Verdict.TheVariants.{Same, Differs}

-- a scan was filled by a collect that ended at a front; at an earlier front, where its root was found, the pass was
-- open, and the token only looked since
pub record IsFilledScan (v : View) (start end : List Event) (s : ScanValue) : Type 0 where
  pub collected : HasCollected v.sizes v.number start end s
  pub until : IsPrefix end v.front
  pub looks : OnlyLooks v.sizes v.number start v.front

-- a scan is complete, its root is in the graph of a front, and its graph is the part of that graph reached from it
pub record IsPartAt (end : List Event) (s : ScanValue) : Type 0 where
  pub complete : IsComplete s
  pub root : has (graph_of end) (root_of s) ≡ true
  pub part : graph_of_scan s ≡ part (graph_of end) (root_of s)

-- a row of a scan isn't as it was recorded, at a view's front, and another caller changed the table since a front
pub record IsFallenRow (w : View) (start : List Event) (s : ScanValue) (k : ℕ) : Type 0 where
  pub row : k < length s.rows
  pub differs : DiffersNow w.sizes s w.front (row_at s k)
  pub foreign : IsForeign w.front w.number (length start) (length w.front)

-- what a verdict tells, on a scan whose root was found at one front and whose collect ended at another
abbrev pub MatchVerdict : Verdict → View → List Event → List Event → ScanValue → Type 0
MatchVerdict Same w start end s = IsPartAt end s
MatchVerdict (Differs k) w start end s = IsFallenRow w start s k

-- one more row was found the same, at whichever front collect ended; or that row isn't as it was recorded
abbrev pub MatchRowAgain : Bool → Sizes → List Event → List Event → ScanValue → ℕ → Type 0
MatchRowAgain true sizes old new s k = (end : List Event) → IsPrefix end old → AreRowsSame sizes end old s k
    → AreRowsSame sizes end new s (k + 1)
MatchRowAgain false sizes old new s k = DiffersNow sizes s new (row_at s k)

-- after a row's head the links of all of its edges were found the same; or one isn't as it was recorded
abbrev pub MatchLinksAgain : Bool → Sizes → List Event → List Event → ScanValue → ℕ → Type 0
MatchLinksAgain true sizes old new s k = (end : List Event) → IsRowAgain sizes s end old (row_at s k) 0
    → IsRowAgain sizes s end new (row_at s k) (row_at s k).count
MatchLinksAgain false sizes old new s k = HasOtherLink sizes s new (row_at s k)
