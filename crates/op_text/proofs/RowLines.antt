-- The line of a row is read as its fields.
use Rattle.std.proofs.Common.{◌≡◌, ℕ, zero, suc, ◌<◌, ◌^◌, ◌∙◌, sym, ap, refl, true, false}
use Rattle.std.proofs.Common.{List, [], ◌∷◌, ◌++◌, length, Some, arith, append_assoc, append-nil, map, All, eqb, leb}
use Rattle.std.specs.Prelude.{slice_get}
use Rattle.std.specs.Char.{is_ascii_digit}
use Rattle.std.specs.Fmt.{decimal}
use Rattle.std.specs.List.{join_with_byte, list_all, list_any}
use Rattle.std.proofs.lemmas.Bool.{and_parts, ne_eqb, leb-true}
use Rattle.std.proofs.lemmas.Fmt.{decimal_nonempty, digits_decimal}
use Rattle.std.proofs.lemmas.List.Elements.{All-head, All-tail}
use Rattle.csv.specs.Machine.{next_record}
use Rattle.csv.specs.Reading.{default_config, strip_bom}
use Rattle.csv.specs.Writing.{default_writer, fields_text, needs_byte, is_blank}
use Rattle.csv.specs.Writing.{row_text as csv_text}
use Rattle.csv.specs.declared.parser.State.TheVariants as st
use Rattle.csv.proofs.RoundTrip.{read-write-many}
use Rattle.graph_kinds.specs.History.{Every}
use Rattle.graph_kinds.specs.declared.call.Row.{Row}
use Rattle.op_text.specs.declared.rows.kind.CallKind.{CallKind}
use Rattle.op_text.specs.declared.rows.kind.CallKind.TheVariants as kind
use Rattle.op_text.specs.Rows.{operation}
use Rattle.op_text.specs.Text.{line}
use Rattle.op_text.specs.RowText.{IsRowFor, call_keys, call_weights, kind_of, number_field, number_fields, row_fields}
use Rattle.op_text.specs.RowText.{row_line, row_text}
use Rattle.op_text.proofs.RowDecimals.{all_ascii_digits_is, model}
use Rattle.op_text.proofs.RowRecords.{records_left, records_left_none, records_left_some}

-- a field that is written without quotes
abbrev IsPlain : List ℕ → Type 0
IsPlain field = list_any (needs_byte default_writer) field ≡ false

-- a digit is none of the bytes between which fields stand
digit_plain : (d : ℕ) → is_ascii_digit d ≡ true → needs_byte default_writer d ≡ false
digit_plain d digit =
    let from = leb-true 48 d (and_parts (leb 48 d) (leb d 57) digit).0 in
    let to = leb-true d 57 (and_parts (leb 48 d) (leb d 57) digit).1 in
    let a : eqb d 44 ≡ false = ne_eqb d 44 (λ e. omega arith) in
    let b : eqb d 34 ≡ false = ne_eqb d 34 (λ e. omega arith) in
    let x : eqb d 13 ≡ false = ne_eqb d 13 (λ e. omega arith) in
    let y : eqb d 10 ≡ false = ne_eqb d 10 (λ e. omega arith) in
    rw (a, b, x, y) refl

-- digits are a plain field
digits_plain : (field : List ℕ) → list_all is_ascii_digit field ≡ true → IsPlain field
digits_plain [] h = refl
digits_plain (d ∷ ds) h =
    let (one, more) = and_parts _ _ h in rw (digit_plain d one) (digits_plain ds more)

pub decimal_digits : (n : ℕ) → n < 2 ^ 32 → list_all is_ascii_digit (decimal n) ≡ true
decimal_digits n small = sym (all_ascii_digits_is (decimal n)) ∙ digits_decimal model n (omega arith)

decimal_plain : (n : ℕ) → n < 2 ^ 32 → IsPlain (decimal n)
decimal_plain n small = digits_plain (decimal n) (decimal_digits n small)

-- each name of an operation is a plain field
name_plain : (k : CallKind) → IsPlain (operation k).name
name_plain kind.AddVertex = refl
name_plain kind.RemoveVertex = refl
name_plain kind.HasVertex = refl
name_plain kind.AddEdge = refl
name_plain kind.RemoveEdge = refl
name_plain kind.HasEdge = refl
name_plain kind.Reach = refl
name_plain kind.Levels = refl
name_plain kind.Cheapest = refl

-- the field of a number at a place, or none
field_plain : (ns : List ℕ) (i : ℕ) → All (λ n. n < 2 ^ 32) ns → IsPlain (number_field (slice_get ns i))
field_plain [] i h = refl
field_plain (n ∷ ns) zero h = decimal_plain n (All-head (λ k. k < 2 ^ 32) n ns h)
field_plain (n ∷ ns) (suc i) h = field_plain ns i (All-tail (λ k. k < 2 ^ 32) n ns h)

-- each field of a row
fields_plain : (callers : ℕ) (row : Row) → IsRowFor callers row → Every IsPlain (row_fields row)
fields_plain callers row is = (
  decimal_plain row.caller is.number,
  (
    name_plain (kind_of row.call),
    (
      field_plain (call_keys row.call) 0 is.keys,
      (field_plain (call_keys row.call) 1 is.keys, (field_plain (call_weights row.call) 0 is.weights, tt)),
    ),
  ),
)

-- plain fields are written with a comma before each
fields_joined : (f : List ℕ) (fs : List (List ℕ)) → Every IsPlain (f ∷ fs)
    → fields_text default_writer (f ∷ fs) ≡ 44 ∷ join_with_byte 44 (f ∷ fs)
unfolding fields_text
fields_joined f [] h = rw h.0 (ap (λ (t : List ℕ). 44 ∷ t) (append-nil f))
fields_joined f (g ∷ fs) h = rw h.0 (ap (λ (t : List ℕ). 44 ∷ (f ++ t)) (fields_joined g fs h.1))

-- the line of plain fields is what a CSV writer writes of them
line_written : (f g : List ℕ) (fs : List (List ℕ)) → Every IsPlain (f ∷ g ∷ fs)
    → line (join_with_byte 44 (f ∷ g ∷ fs)) ≡ csv_text default_writer (f ∷ g ∷ fs)
unfolding is_blank
line_written f g fs h = rw h.0 (ap (λ (t : List ℕ). (f ++ t) ++ (10 ∷ [])) (sym (fields_joined g fs h.1)))

-- what is read of a row's line, before other lines
row_read : (callers : ℕ) (row : Row) (tail : List ℕ) → IsRowFor callers row
    → next_record default_config st.StartRecord [] [] (row_line row ++ tail) ≡ Some
    (row_fields row, st.StartRecord, tail)
row_read callers row tail is =
    ap (λ (t : List ℕ). next_record default_config st.StartRecord [] [] (t ++ tail))
    (line_written (decimal row.caller) (operation (kind_of row.call)).name (number_fields row.call)
    (fields_plain callers row is))
    ∙ read-write-many (decimal row.caller) (operation (kind_of row.call)).name (number_fields row.call) tail

-- the records of rows' lines are their fields
pub rows_read : (callers : ℕ) (asked : List Row) → All (IsRowFor callers) asked
    → records_left default_config st.StartRecord (row_text asked) ≡ map row_fields asked
unfolding next_record
rows_read callers [] all = records_left_none default_config st.StartRecord [] refl
rows_read callers (row ∷ more) all =
    records_left_some default_config st.StartRecord (row_line row ++ row_text more)
    (row_fields row, st.StartRecord, row_text more) refl
    (row_read callers row (row_text more) (All-head (IsRowFor callers) row more all))
    ∙ ap (λ (rs : List (List (List ℕ))). row_fields row ∷ rs) (rows_read callers more (All-tail (IsRowFor callers) row
    more all))

-- a text that begins with a digit has no byte order mark
strip_digit : (d : ℕ) (rest : List ℕ) → is_ascii_digit d ≡ true → strip_bom (d ∷ rest) ≡ d ∷ rest
unfolding strip_bom
strip_digit d [] h = refl
strip_digit d (b ∷ []) h = refl
strip_digit d (b ∷ e ∷ rest) h =
    let to = leb-true d 57 (and_parts (leb 48 d) (leb d 57) h).1 in
    let other : eqb d 239 ≡ false = ne_eqb d 239 (λ e. omega arith) in rw other refl

strip_digits : (field tail : List ℕ) → 0 < length field → list_all is_ascii_digit field ≡ true
    → strip_bom (field ++ tail) ≡ field ++ tail
strip_digits [] tail some h = absurd (omega arith)
strip_digits (d ∷ ds) tail some h = strip_digit d (ds ++ tail) (and_parts _ _ h).0

-- nor has the text of rows
pub strip_rows : (callers : ℕ) (asked : List Row) → All (IsRowFor callers) asked
    → strip_bom (row_text asked) ≡ row_text asked
unfolding strip_bom
strip_rows callers [] all = refl
strip_rows callers (row ∷ more) all =
    let is = All-head (IsRowFor callers) row more all in
    let small = is.number in
    let rest : List ℕ = 44 ∷ join_with_byte 44 ((operation (kind_of row.call)).name ∷ number_fields row.call) in
    let split : ((decimal row.caller ++ rest) ++ (10 ∷ [])) ++ row_text more ≡ decimal row.caller ++
    (rest ++ ((10 ∷ []) ++ row_text more)) =
    append_assoc (decimal row.caller ++ rest) (10 ∷ []) (row_text more)
    ∙ append_assoc (decimal row.caller) rest ((10 ∷ []) ++ row_text more) in
    ap strip_bom split
    ∙ strip_digits (decimal row.caller) (rest ++ ((10 ∷ []) ++ row_text more))
    (decimal_nonempty row.caller (omega arith)) (decimal_digits row.caller is.number)
    ∙ sym split
