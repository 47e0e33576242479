-- What the first mark of a life does to the graph of its moment.
use Rattle.std.specs.Prelude.{◌≡◌, ◌≢◌, ◌⊎◌, ℕ, ◌+◌, true, false, List, None, Some}
use Rattle.graph_kinds.specs.Graph.{has, weight_of}
use Rattle.core_journal.specs.declared.event.Event.{Event}
use Rattle.core_journal.specs.declared.event.Kind.TheVariants.{MarkEdge, ReplaceEdge}
use Rattle.core_journal.specs.Right.{graph_at}

-- right before event m the graph has a key, and right after it no longer
pub record IsKeyGone (journal : List Event) (m key : ℕ) : Type 0 where
  pub before : has (graph_at journal m) key ≡ true
  pub after : has (graph_at journal (m + 1)) key ≡ false

-- right before event m the graph has a pair with the weight of a link; the event marks the edge, and right after it the
-- pair is gone, or it replaces the edge, and right after it the pair has the weight of the event, which is another one
pub record IsPairCut (journal : List Event) (link event : Event) (m a b : ℕ) : Type 0 where
  pub kinds : (event.kind ≡ MarkEdge) ⊎ (event.kind ≡ ReplaceEdge)
  pub before : weight_of (graph_at journal m) a b ≡ Some link.weight
  pub gone : event.kind ≡ MarkEdge → weight_of (graph_at journal (m + 1)) a b ≡ None
  pub replaced : event.kind ≡ ReplaceEdge → weight_of (graph_at journal (m + 1)) a b ≡ Some event.weight
  pub other : event.kind ≡ ReplaceEdge → event.weight ≢ link.weight
