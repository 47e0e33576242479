-- The rows of an input: one operation a record, or the first bad record with its cause.
use Rattle.std.specs.Prelude.{ℕ, ◌+◌, ◌&&◌, ◌||◌, ◌==◌, not, Bool, true, false, cond, List, [], ◌∷◌, Option, Some, None}
use Rattle.std.specs.Prelude.{find, codes, nat_lt, nat_le, unwrap_or, is_some, Result, Ok, Err}
use Rattle.std.specs.Char.{is_ascii_digit}
use Rattle.std.specs.List.{list_all}
use Rattle.std.specs.Str.{bytes_eq}
use Rattle.std.specs.Str.Parse.{digits_value}
use Rattle.csv.specs.Reading.{records, default_config, strip_bom}
use Rattle.graph_kinds.specs.declared.call.Call.{Call}
use Rattle.graph_kinds.specs.declared.call.Call.TheVariants.{AddVertex, RemoveVertex, HasVertex, AddEdge, RemoveEdge}
use Rattle.graph_kinds.specs.declared.call.Call.TheVariants.{HasEdge, Reach, Levels, Cheapest}
use Rattle.graph_kinds.specs.declared.call.Row.{Row}
use Rattle.op_text.specs.declared.rows.kind.CallKind.{CallKind}
use Rattle.op_text.specs.declared.rows.kind.CallKind.TheVariants as kind
use Rattle.op_text.specs.declared.rows.RowCause.{RowCause}
use Rattle.op_text.specs.declared.rows.RowCause.TheVariants.{FieldCount, BadCaller, UnknownOp, BadNumber, MissingField}
use Rattle.op_text.specs.declared.rows.RowCause.TheVariants.{ExtraField, ZeroWeight, TooManyRows}

-- the most rows of an input
abbrev pub most_rows : ℕ
most_rows = 65536

-- a number is written as `0`, or as a digit 1 to 9 followed by digits
abbrev pub is_numeral : List ℕ → Bool
is_numeral [] = false
is_numeral (d ∷ []) = is_ascii_digit d
is_numeral (d ∷ e ∷ ds) = not (d == 48) && list_all is_ascii_digit (d ∷ e ∷ ds)

-- the number that a field writes, if it writes one of at most 4294967295
abbrev pub number_of : List ℕ → Option ℕ
number_of field =
    cond (is_numeral field && nat_le (digits_value 10 field) 4294967295) (Some (digits_value 10 field)) None

-- an operation: its name, whether it needs a second key and a weight beside the first key, and its call
pub record Operation : Type 0 where
  pub name : List ℕ
  pub needs_second : Bool
  pub needs_weight : Bool
  pub call : ℕ → ℕ → ℕ → Call

-- an operation on one key
abbrev pub on_key : List ℕ → (ℕ → Call) → Operation
on_key name call = record { name = name; needs_second = false; needs_weight = false; call = λ a b w. call a }

-- an operation on two keys
abbrev pub on_two_keys : List ℕ → (ℕ → ℕ → Call) → Operation
on_two_keys name call = record { name = name; needs_second = true; needs_weight = false; call = λ a b w. call a b }

-- the operation of each kind of call
abbrev pub operation : CallKind → Operation
operation kind.AddVertex = on_key (codes "add-vertex") (λ a. AddVertex a)
operation kind.RemoveVertex = on_key (codes "remove-vertex") (λ a. RemoveVertex a)
operation kind.HasVertex = on_key (codes "has-vertex") (λ a. HasVertex a)
operation kind.AddEdge = record {
  name = codes "add-edge";
  needs_second = true;
  needs_weight = true;
  call = λ a b w. AddEdge a b w;
}
operation kind.RemoveEdge = on_two_keys (codes "remove-edge") (λ a b. RemoveEdge a b)
operation kind.HasEdge = on_two_keys (codes "has-edge") (λ a b. HasEdge a b)
operation kind.Reach = on_two_keys (codes "reach") (λ a b. Reach a b)
operation kind.Levels = on_key (codes "levels") (λ a. Levels a)
operation kind.Cheapest = on_two_keys (codes "cheapest") (λ a b. Cheapest a b)

-- all operations that an input may name
abbrev pub operations : List Operation
operations =
    operation kind.AddVertex
    ∷ operation kind.RemoveVertex
    ∷ operation kind.HasVertex
    ∷ operation kind.AddEdge
    ∷ operation kind.RemoveEdge
    ∷ operation kind.HasEdge
    ∷ operation kind.Reach
    ∷ operation kind.Levels
    ∷ operation kind.Cheapest
    ∷ []

-- the operation of a name, if it is one's
abbrev pub operation_of : List ℕ → Option Operation
operation_of name = find (λ (o : Operation). bytes_eq name o.name) operations

-- a field is empty
abbrev pub is_blank : List ℕ → Bool
is_blank [] = true
is_blank (b ∷ bs) = false

-- a field writes a number
abbrev pub is_number : List ℕ → Bool
is_number field = is_some (number_of field)

-- a field is a number below a bound
abbrev pub is_below : ℕ → Option ℕ → Bool
is_below bound (Some n) = nat_lt n bound
is_below bound None = false

-- a needed field is blank
abbrev pub lacks : Operation → List ℕ → List ℕ → List ℕ → Bool
lacks o a b w = is_blank a || (o.needs_second && is_blank b) || (o.needs_weight && is_blank w)

-- a field that must be blank is not
abbrev pub exceeds : Operation → List ℕ → List ℕ → List ℕ → Bool
exceeds o a b w = (not o.needs_second && not (is_blank b)) || (not o.needs_weight && not (is_blank w))

-- a needed field is no number
abbrev pub misspells : Operation → List ℕ → List ℕ → List ℕ → Bool
misspells o a b w = not (is_number a) || (o.needs_second && not (is_number b)) || (o.needs_weight && not (is_number w))

-- the number that a field writes, or 0 where it writes none
abbrev pub value_of : List ℕ → ℕ
value_of field = unwrap_or (number_of field) 0

-- the row of an operation and its three fields: the first test that fails gives the cause
abbrev pub row_by : Operation → ℕ → List ℕ → List ℕ → List ℕ → Result Row RowCause
row_by o caller a b w =
    cond (lacks o a b w) (Err MissingField)
    (cond (exceeds o a b w) (Err ExtraField)
    (cond (misspells o a b w) (Err BadNumber)
    (cond (o.needs_weight && (value_of w == 0)) (Err ZeroWeight)
    (Ok (record { caller = caller; call = o.call (value_of a) (value_of b) (value_of w) })))))

-- the row of an operation by its name and its three fields; a name of none is an unknown operation
abbrev pub row_of_operation : Option Operation → ℕ → List ℕ → List ℕ → List ℕ → Result Row RowCause
row_of_operation None caller a b w = Err UnknownOp
row_of_operation (Some o) caller a b w = row_by o caller a b w

-- the row of a record's fields, for so many callers: caller, operation, first key, second key, weight
abbrev pub row_of_fields : ℕ → List (List ℕ) → Result Row RowCause
row_of_fields callers (caller ∷ name ∷ a ∷ b ∷ w ∷ []) =
    cond (is_below callers (number_of caller)) (row_of_operation (operation_of name) (value_of caller) a b w)
    (Err BadCaller)
row_of_fields callers _ = Err FieldCount

-- the row of the record of this number, counted from 1; the record behind the last allowed one is bad, whatever it is
abbrev pub row_of : ℕ → ℕ → List (List ℕ) → Result Row RowCause
row_of callers number fields = cond (number == most_rows + 1) (Err TooManyRows) (row_of_fields callers fields)

-- the row of a record before the rows of further records, or the first cause with its record's number
abbrev pub then_rows : Result Row RowCause → ℕ → Result (List Row) (ℕ × RowCause) → Result (List Row) (ℕ × RowCause)
then_rows (Err cause) number rest = Err (number, cause)
then_rows (Ok row) number (Err e) = Err e
then_rows (Ok row) number (Ok more) = Ok (row ∷ more)

-- the rows of records, of which the first has this number, or the first bad one's number and cause
abbrev pub rows_from : ℕ → ℕ → List (List (List ℕ)) → Result (List Row) (ℕ × RowCause)
rows_from callers number [] = Ok []
rows_from callers number (fields ∷ more) =
    then_rows (row_of callers number fields) number (rows_from callers (number + 1) more)

-- the rows of an input for so many callers: its records are those that `csv` reads by its default settings, without a
-- header
unfoldable pub rows : ℕ → List ℕ → Result (List Row) (ℕ × RowCause)
rows callers bytes = rows_from callers 1 (records default_config (strip_bom bytes))
