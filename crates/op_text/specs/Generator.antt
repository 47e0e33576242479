-- The rows that are made from a number: a sequence of draws, two for each row.
use Rattle.std.specs.Prelude.{ℕ, zero, suc, ◌+◌, ◌*◌, ◌/◌, ◌%◌, ◌^◌, ◌≤◌, ◌<◌, ◌==◌, nat_le, if◌then◌else◌, List}
use Rattle.std.specs.Prelude.{map, All}
use Rattle.std.specs.List.{range_with_len}
use Rattle.graph_kinds.specs.declared.call.Call.{Call}
use Rattle.graph_kinds.specs.declared.call.Row.{Row}
use Rattle.op_text.specs.declared.rows.kind.CallKind.{CallKind}
use Rattle.op_text.specs.declared.rows.kind.CallKind.TheVariants as kind
use Rattle.op_text.specs.Rows.{operation}
use Rattle.op_text.specs.RowText.{call_keys}

-- the state of the generator from a number on, after so many draws
abbrev pub state_after : ℕ → ℕ → ℕ
state_after number zero = number
state_after number (suc count) = (1103515245 * state_after number count + 12345) % 2 ^ 31

-- the draw with this index, counted from 0: the upper bits of the state that it leaves
abbrev pub draw : ℕ → ℕ → ℕ
draw number index = state_after number (index + 1) / 65536

-- the kind of call that a draw chooses, by its remainder modulo 16
abbrev pub kind_by_remainder : ℕ → CallKind
kind_by_remainder m =
    if nat_le m 4 then kind.AddVertex
    else if m == 5 then kind.RemoveVertex
    else if m == 6 then kind.HasVertex
    else if nat_le m 10 then kind.AddEdge
    else if m == 11 then kind.RemoveEdge
    else if m == 12 then kind.HasEdge
    else if m == 13 then kind.Reach
    else if m == 14 then kind.Levels
    else kind.Cheapest

-- the call of a caller by two draws: the first chooses the kind; the second gives the keys, each one of the caller's 32
-- keys from 1000 times its number on, and the weight, which is 1 to 32
abbrev pub drawn_call : ℕ → ℕ → ℕ → Call
drawn_call caller r s =
    (operation (kind_by_remainder (r % 16))).call
    (1000 * caller + s % 32) (1000 * caller + s / 32 % 32) (1 + s / 1024)

-- the row with this index, counted from 0: the callers take turns, and each row takes the next two draws
abbrev pub made_row : ℕ → ℕ → ℕ → Row
made_row number callers index = record {
  caller = index % callers;
  call = drawn_call (index % callers) (draw number (2 * index)) (draw number (2 * index + 1));
}

-- so many rows from a number, for so many callers
unfoldable pub made_rows : ℕ → ℕ → ℕ → List Row
made_rows number count callers = map (made_row number callers) (range_with_len 0 count)

-- a key is one of the 32 of a caller
pub record IsKeyOf (caller key : ℕ) : Type 0 where
  pub low : 1000 * caller ≤ key
  pub high : key < 1000 * caller + 32

-- all keys of a row are its caller's
abbrev pub NamesOwnKeys : Row → Type 0
NamesOwnKeys row = All (IsKeyOf row.caller) (call_keys row.call)
