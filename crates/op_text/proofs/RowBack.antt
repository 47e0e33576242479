-- The fields of a row are the row again.
use Rattle.std.proofs.Common.{◌≡◌, ℕ, ◌+◌, ◌<◌, ◌≤◌, ◌^◌, ◌∙◌, ap, refl, true, false, List, [], ◌∷◌, length}
use Rattle.std.proofs.Common.{Some, Ok, arith, map, All, eqb, ltb}
use Rattle.std.proofs.lemmas.Bool.{lt-ltb, ne_eqb}
use Rattle.std.proofs.lemmas.Fmt.{decimal_nonempty}
use Rattle.std.proofs.lemmas.List.Elements.{All-head, All-tail}
use Rattle.std.specs.Fmt.{decimal}
use Rattle.std.specs.Prelude.{Result, slice_get}
use Rattle.csv.specs.Reading.{default_config, records, strip_bom}
use Rattle.graph_kinds.specs.declared.call.Call.{Call}
use Rattle.graph_kinds.specs.declared.call.Call.TheVariants.{AddVertex, RemoveVertex, HasVertex, AddEdge, RemoveEdge}
use Rattle.graph_kinds.specs.declared.call.Call.TheVariants.{HasEdge, Reach, Levels, Cheapest}
use Rattle.graph_kinds.specs.declared.call.Row.{Row}
use Rattle.graph_kinds.specs.Answer.{IsWellMade}
use Rattle.op_text.specs.declared.rows.RowCause.{RowCause}
use Rattle.op_text.specs.declared.rows.kind.CallKind.TheVariants as kind
use Rattle.op_text.specs.Rows.{is_blank, most_rows, number_of, on_key, on_two_keys, operation, row_by, row_of}
use Rattle.op_text.specs.Rows.{operation_of}
use Rattle.op_text.specs.Rows.{row_of_operation, rows, rows_from}
use Rattle.op_text.specs.RowText.{IsRowFor, call_keys, call_weights, kind_of, number_field, row_fields, row_text}
use Rattle.op_text.proofs.RowDecimals.{number_of-decimal}
use Rattle.op_text.proofs.RowLines.{rows_read, strip_rows}

-- a field that writes a number
record Writes (field : List ℕ) (n : ℕ) : Type 0 where
  some : is_blank field ≡ false
  number : number_of field ≡ Some n

some_blank : (field : List ℕ) → 0 < length field → is_blank field ≡ false
some_blank [] some = absurd (omega arith)
some_blank (d ∷ ds) some = refl

decimal_writes : (n : ℕ) → n < 2 ^ 32 → Writes (decimal n) n
decimal_writes n small = record {
  some = some_blank (decimal n) (decimal_nonempty n (omega arith));
  number = number_of-decimal n small;
}

-- the row of an operation on one key, on two, and of an edge to be added
by_key : (name : List ℕ) (call : ℕ → Call) (caller a : ℕ) (f : List ℕ) → Writes f a
    → row_by (on_key name call) caller f [] [] ≡ Ok (record { caller = caller; call = call a })
by_key name call caller a f h = rw (h.some, h.number) refl

by_two_keys : (name : List ℕ) (call : ℕ → ℕ → Call) (caller a b : ℕ) (f g : List ℕ) → Writes f a → Writes g b
    → row_by (on_two_keys name call) caller f g [] ≡ Ok (record { caller = caller; call = call a b })
by_two_keys name call caller a b f g h k = rw (h.some, h.number, k.some, k.number) refl

by_weight : (caller a b w : ℕ) (f g e : List ℕ) → Writes f a → Writes g b → Writes e w → 1 ≤ w
    → row_by (operation kind.AddEdge) caller f g e ≡ Ok (record { caller = caller; call = AddEdge a b w })
by_weight caller a b w f g e h k m some =
    let weighed : eqb w 0 ≡ false = ne_eqb w 0 (λ z. omega arith) in
    rw (h.some, h.number, k.some, k.number, m.some, m.number, weighed) refl

-- a number of a list whose numbers are below 2^32
abbrev AllSmall : List ℕ → Type 0
AllSmall ns = All (λ n. n < 2 ^ 32) ns

first_writes : (n : ℕ) (ns : List ℕ) → AllSmall (n ∷ ns) → Writes (decimal n) n
first_writes n ns h = decimal_writes n (All-head (λ k. k < 2 ^ 32) n ns h)

second_writes : (m n : ℕ) (ns : List ℕ) → AllSmall (m ∷ n ∷ ns) → Writes (decimal n) n
second_writes m n ns h = first_writes n ns (All-tail (λ k. k < 2 ^ 32) m (n ∷ ns) h)

-- the row of a call's own fields
abbrev row_of_fields_behind : ℕ → Call → Result Row RowCause
row_of_fields_behind caller call =
    row_by (operation (kind_of call)) caller (number_field (slice_get (call_keys call) 0))
    (number_field (slice_get (call_keys call) 1)) (number_field (slice_get (call_weights call) 0))

-- the fields behind a call's operation are the call again
call_back : (caller : ℕ) (call : Call) → IsWellMade call → AllSmall (call_keys call) → AllSmall (call_weights call)
    → row_of_fields_behind caller call ≡ Ok (record { caller = caller; call = call })
call_back caller (AddVertex k) made keys weights =
    by_key (operation kind.AddVertex).name (λ a. AddVertex a) caller k (decimal k) (first_writes k [] keys)
call_back caller (RemoveVertex k) made keys weights =
    by_key (operation kind.RemoveVertex).name (λ a. RemoveVertex a) caller k (decimal k) (first_writes k [] keys)
call_back caller (HasVertex k) made keys weights =
    by_key (operation kind.HasVertex).name (λ a. HasVertex a) caller k (decimal k) (first_writes k [] keys)
call_back caller (AddEdge a b w) made keys weights =
    by_weight caller a b w (decimal a) (decimal b) (decimal w) (first_writes a (b ∷ []) keys)
    (second_writes a b [] keys) (first_writes w [] weights) made
call_back caller (RemoveEdge a b) made keys weights =
    by_two_keys (operation kind.RemoveEdge).name (λ x y. RemoveEdge x y) caller a b (decimal a) (decimal b)
    (first_writes a (b ∷ []) keys) (second_writes a b [] keys)
call_back caller (HasEdge a b) made keys weights =
    by_two_keys (operation kind.HasEdge).name (λ x y. HasEdge x y) caller a b (decimal a) (decimal b)
    (first_writes a (b ∷ []) keys) (second_writes a b [] keys)
call_back caller (Reach a b) made keys weights =
    by_two_keys (operation kind.Reach).name (λ x y. Reach x y) caller a b (decimal a) (decimal b)
    (first_writes a (b ∷ []) keys) (second_writes a b [] keys)
call_back caller (Levels k) made keys weights =
    by_key (operation kind.Levels).name (λ a. Levels a) caller k (decimal k) (first_writes k [] keys)
call_back caller (Cheapest a b) made keys weights =
    by_two_keys (operation kind.Cheapest).name (λ x y. Cheapest x y) caller a b (decimal a) (decimal b)
    (first_writes a (b ∷ []) keys) (second_writes a b [] keys)

-- the operation of a call's name is the call's
named : (caller : ℕ) (call : Call) → row_of_operation (operation_of (operation (kind_of call)).name) caller
    (number_field (slice_get (call_keys call) 0)) (number_field (slice_get (call_keys call) 1))
    (number_field (slice_get (call_weights call) 0)) ≡ row_of_fields_behind caller call
named caller (AddVertex k) = refl
named caller (RemoveVertex k) = refl
named caller (HasVertex k) = refl
named caller (AddEdge a b w) = refl
named caller (RemoveEdge a b) = refl
named caller (HasEdge a b) = refl
named caller (Reach a b) = refl
named caller (Levels k) = refl
named caller (Cheapest a b) = refl

-- a row's fields are the row
row_back : (callers number : ℕ) (row : Row) → IsRowFor callers row → number ≤ most_rows
    → row_of callers number (row_fields row) ≡ Ok row
row_back callers number row is few =
    let early : eqb number (most_rows + 1) ≡ false = ne_eqb number (most_rows + 1) (λ e. omega arith) in
    let read = number_of-decimal row.caller is.number in
    let below : ltb row.caller callers ≡ true = lt-ltb row.caller callers is.caller in
    rw (early, read, below) (named row.caller row.call ∙ call_back row.caller row.call is.well_made is.keys is.weights)

-- rows' fields are the rows
rows_back : (callers number : ℕ) (asked : List Row) → All (IsRowFor callers) asked
    → number + length asked ≤ most_rows + 1 → rows_from callers number (map row_fields asked) ≡ Ok asked
rows_back callers number [] all few = refl
rows_back callers number (row ∷ more) all few =
    let is = row_back callers number row (All-head (IsRowFor callers) row more all) (omega arith) in
    let rest = rows_back callers (number + 1) more (All-tail (IsRowFor callers) row more all) (omega arith) in
    rw (is, rest) refl

-- rows that are written are read
pub written_back : (callers : ℕ) (asked : List Row) → All (IsRowFor callers) asked → length asked ≤ most_rows
    → rows callers (row_text asked) ≡ Ok asked
unfolding rows
written_back callers asked all few =
    let read : records default_config (strip_bom (row_text asked)) ≡ map row_fields asked =
    ap (records default_config) (strip_rows callers asked all) ∙ rows_read callers asked all in
    ap (rows_from callers 1) read ∙ rows_back callers 1 asked all (omega arith)
