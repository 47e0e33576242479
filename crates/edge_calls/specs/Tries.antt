-- What one try on an edge came to: the last call was made in a later view of the pass, on the edge of this source and
-- key.
use Rattle.std.specs.Prelude.{◌≡◌, ℕ}
use Rattle.packed_link.specs.declared.link.Life.{Life}
use Rattle.core_rule.specs.Views.{GoesOn}
use Rattle.core_rule.specs.declared.view.View.{View}
use Rattle.edge_list.specs.EdgeChanges.{MatchEdgeLinked}
use Rattle.edge_list.specs.EdgeMarks.{MatchEdgeMarked, MatchEdgeReplaced, RaisedValue}
use Rattle.edge_list.specs.EdgePositions.{EdgePositionValue}
use Rattle.edge_list.specs.declared.changes.EdgeLinked.{EdgeLinked}
use Rattle.edge_list.specs.declared.marking.EdgeMarked.{EdgeMarked}
use Rattle.edge_list.specs.declared.replacing.EdgeReplaced.{EdgeReplaced}

pub record IsRemoving (m : EdgeMarked) (source : Life) (key : ℕ) (v w : View) : Type 0 where
  pub then : View
  pub goes : GoesOn v then
  pub raised : RaisedValue
  pub source_is : raised.source ≡ source
  pub key_is : raised.edge.key ≡ key
  pub marked : MatchEdgeMarked m raised then w

pub record IsAdding (l : EdgeLinked) (source target : Life) (key weight : ℕ) (v w : View) : Type 0 where
  pub then : View
  pub goes : GoesOn v then
  pub position : EdgePositionValue
  pub source_is : position.source ≡ source
  pub key_is : position.key ≡ key
  pub fresh : Life
  pub linked : MatchEdgeLinked l position target weight fresh then w

pub record IsChanging (r : EdgeReplaced) (source : Life) (key weight : ℕ) (v w : View) : Type 0 where
  pub then : View
  pub goes : GoesOn v then
  pub raised : RaisedValue
  pub source_is : raised.source ≡ source
  pub key_is : raised.edge.key ≡ key
  pub fresh : Life
  pub replaced : MatchEdgeReplaced r raised weight fresh then w
