-- What a marked edge tells of the pair of its ends.
use Rattle.std.specs.Prelude.{◌≡◌, ◌≤◌, ◌+◌, ℕ, List, None, Some, length, take}
use Rattle.graph_kinds.specs.Graph.{weight_of}
use Rattle.packed_link.specs.declared.link.Life.{Life}
use Rattle.core_journal.specs.declared.event.Event.{Event}
use Rattle.core_journal.specs.GraphOf.{present_key}
use Rattle.core_journal.specs.Marks.{IsCutOf}
use Rattle.core_journal.specs.Right.{graph_at}
use Rattle.edge_list.specs.declared.edge.Edge.{Edge}

-- the edge was marked by an event since a moment; if both its ends were present right before that event, the graph has
-- no pair of them right after it
pub record IsPairGone (source : Life) (edge : Edge) (moment journal : List Event) : Type 0 where
  pub number : ℕ
  pub since : length moment ≤ number
  pub cut : IsCutOf journal edge.life number
  pub gone : (a b : ℕ) → present_key (take number journal) source ≡ Some a
      → present_key (take number journal) edge.target ≡ Some b → weight_of (graph_at journal (number + 1)) a b ≡ None
