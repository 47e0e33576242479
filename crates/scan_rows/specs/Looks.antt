-- What a look at a part of the graph tells.
use Rattle.std.specs.Prelude.{◌≡◌, ℕ, List}
use Rattle.packed_link.specs.declared.link.Life.{Life}
use Rattle.core_journal.specs.declared.event.Event.{Event}
use Rattle.core_journal.specs.Prefix.{IsPrefix}
use Rattle.core_rule.specs.declared.view.View.{View}
use Rattle.scan_record.specs.Asked.{root_of}
use Rattle.scan_record.specs.Scan.{ScanValue}
use Rattle.tree_scan.specs.Collects.{IsCollectedFrom, IsRootFound}
use Rattle.tree_scan.specs.Verdicts.{IsFilledScan, MatchVerdict}
use Rattle.tree_scan.specs.declared.again.Verdict.{Verdict}
use Rattle.vertex_calls.specs.Causes.{IsWalked}
use Rattle.vertex_list.specs.declared.walks.Found.{Found}
use Rattle.vertex_list.specs.declared.walks.Found.TheVariants.{Here}
use Rattle.vertex_list.specs.declared.walks.Sighting.{Sighting}

-- a root of this key was found since a view
pub record IsFoundSince (key : ℕ) (v w : View) (root : Life) : Type 0 where
  pub start : List Event
  pub since : IsPrefix v.front start
  pub found : IsRootFound w start root key

-- a walk to the key came to no vertex of it
pub record IsNotThere (key : ℕ) (v w : View) : Type 0 where
  pub found : Found
  pub walked : IsWalked key found v w
  pub other : (s : Sighting) → found ≡ Here s → ⊥

-- a scan is filled by a collect in this pass
pub record IsFilledHere (w : View) (s : ScanValue) : Type 0 where
  pub start : List Event
  pub end : List Event
  pub filled : IsFilledScan w start end s

-- a part was recorded from a root of this key, which was found since a view
pub record IsRecorded (key : ℕ) (v w : View) (s : ScanValue) : Type 0 where
  pub root : Life
  pub start : List Event
  pub since : IsPrefix v.front start
  pub collected : IsCollectedFrom w start root key s

-- the part that was recorded between two views was verified
pub record IsToldOf (key : ℕ) (verdict : Verdict) (v w : View) (s : ScanValue) : Type 0 where
  pub start : List Event
  pub end : List Event
  pub since : IsPrefix v.front start
  pub then : IsPrefix start end
  pub until : IsPrefix end w.front
  pub root_is : root_of s ≡ key
  pub verdict_is : MatchVerdict verdict w start end s
