-- What a call of a caller tells.
use Rattle.std.specs.Prelude.{◌≡◌, ℕ, []}
use Rattle.graph_kinds.specs.declared.call.Call.{Call}
use Rattle.graph_kinds.specs.declared.call.Call.TheVariants.{AddVertex, HasVertex, RemoveVertex}
use Rattle.graph_kinds.specs.declared.outcome.Outcome.{Outcome}
use Rattle.graph_updates.specs.Calls.{Answers}
use Rattle.shared_graph.specs.Callers.{CallerValue, answer_of}

-- the calls on vertices
abbrev pub IsVertexCall : Call → Type 0
IsVertexCall (AddVertex key) = Unit {0}
IsVertexCall (RemoveVertex key) = Unit {0}
IsVertexCall (HasVertex key) = Unit {0}
IsVertexCall _ = ⊥

-- a caller's call was answered with this outcome, and with the keys and level ends that the caller keeps: none, for a
-- call on vertices
pub record HasPerformed (call : Call) (tries : ℕ) (outcome : Outcome) (old new : CallerValue) : Type 0 where
  pub answers : Answers call tries (answer_of outcome new) old.hand new.hand
  pub keys : new.keys ≡ []
  pub ends : new.ends ≡ []
