-- Kinds of calls and of outcomes that contracts speak of.
use Rattle.std.specs.Prelude.{ℕ, ◌<◌, Option, Some, None}
use Rattle.graph_kinds.specs.declared.call.Call.{Call}
use Rattle.graph_kinds.specs.declared.call.Call.TheVariants.{AddVertex, AddEdge}
use Rattle.graph_kinds.specs.declared.outcome.Outcome.{Outcome}
use Rattle.graph_kinds.specs.declared.outcome.Outcome.TheVariants.{Added, Changed, Cost}

-- the call asks to add a vertex or an edge
abbrev pub IsAdd : Call → Type 0
IsAdd (AddVertex k) = Unit {0}
IsAdd (AddEdge a b w) = Unit {0}
IsAdd _ = ⊥

-- where the outcome is a cost, it's below a limit
abbrev pub CostIsBelow : ℕ → Outcome → Type 0
CostIsBelow limit (Cost c) = c < limit
CostIsBelow limit _ = Unit {0}

-- the outcome of an edge's add, by the other weight that the edge had before
abbrev pub outcome_of_put : Option ℕ → Outcome
outcome_of_put None = Added
outcome_of_put (Some x) = Changed x
