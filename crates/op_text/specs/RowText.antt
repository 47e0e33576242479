-- The line of a row, and the rows that an input may have.
use Rattle.std.specs.Prelude.{ℕ, ◌<◌, ◌^◌, Option, Some, None, List, [], ◌∷◌, All, flat_map, slice_get}
use Rattle.std.specs.Fmt.{decimal}
use Rattle.std.specs.List.{join_with_byte}
use Rattle.csv.specs.Writing.{comma}
use Rattle.graph_kinds.specs.Answer.{IsWellMade}
use Rattle.graph_kinds.specs.declared.call.Call.{Call}
use Rattle.graph_kinds.specs.declared.call.Call.TheVariants.{AddVertex, RemoveVertex, HasVertex, AddEdge, RemoveEdge}
use Rattle.graph_kinds.specs.declared.call.Call.TheVariants.{HasEdge, Reach, Levels, Cheapest}
use Rattle.graph_kinds.specs.declared.call.Row.{Row}
use Rattle.op_text.specs.declared.rows.kind.CallKind.{CallKind}
use Rattle.op_text.specs.declared.rows.kind.CallKind.TheVariants as kind
use Rattle.op_text.specs.Rows.{operation}
use Rattle.op_text.specs.Text.{line}

-- the kind of a call
abbrev pub kind_of : Call → CallKind
kind_of (AddVertex k) = kind.AddVertex
kind_of (RemoveVertex k) = kind.RemoveVertex
kind_of (HasVertex k) = kind.HasVertex
kind_of (AddEdge a b w) = kind.AddEdge
kind_of (RemoveEdge a b) = kind.RemoveEdge
kind_of (HasEdge a b) = kind.HasEdge
kind_of (Reach a b) = kind.Reach
kind_of (Levels a) = kind.Levels
kind_of (Cheapest a b) = kind.Cheapest

-- the keys that a call names
abbrev pub call_keys : Call → List ℕ
call_keys (AddVertex k) = k ∷ []
call_keys (RemoveVertex k) = k ∷ []
call_keys (HasVertex k) = k ∷ []
call_keys (AddEdge a b w) = a ∷ b ∷ []
call_keys (RemoveEdge a b) = a ∷ b ∷ []
call_keys (HasEdge a b) = a ∷ b ∷ []
call_keys (Reach a b) = a ∷ b ∷ []
call_keys (Levels a) = a ∷ []
call_keys (Cheapest a b) = a ∷ b ∷ []

-- the weight of an edge that a call adds
abbrev pub call_weights : Call → List ℕ
call_weights (AddEdge a b w) = w ∷ []
call_weights _ = []

-- the field of a number, which is empty where there is none
abbrev pub number_field : Option ℕ → List ℕ
number_field (Some n) = decimal n
number_field None = []

-- the fields behind the name of an operation: the first key, the second key and the weight of its call
abbrev pub number_fields : Call → List (List ℕ)
number_fields call =
    number_field (slice_get (call_keys call) 0)
    ∷ number_field (slice_get (call_keys call) 1)
    ∷ number_field (slice_get (call_weights call) 0)
    ∷ []

-- the five fields of a row: its caller, the name of its operation, and the fields behind it
abbrev pub row_fields : Row → List (List ℕ)
row_fields row = decimal row.caller ∷ (operation (kind_of row.call)).name ∷ number_fields row.call

-- the line of a row: its fields, with a comma between each two
abbrev pub row_line : Row → List ℕ
row_line row = line (join_with_byte comma (row_fields row))

-- one line a row, in order
abbrev pub row_text : List Row → List ℕ
row_text asked = flat_map row_line asked

-- a row that an input for so many callers may have: its caller is one of them, an edge is added with a weight of at
-- least 1, and all its numbers are below 2^32
pub record IsRowFor (callers : ℕ) (row : Row) : Type 0 where
  pub caller : row.caller < callers
  pub well_made : IsWellMade row.call
  pub number : row.caller < 2 ^ 32
  pub keys : All (λ k. k < 2 ^ 32) (call_keys row.call)
  pub weights : All (λ w. w < 2 ^ 32) (call_weights row.call)
