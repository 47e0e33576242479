-- The number and the line of each status, and facts for one of them.
use Rattle.std.specs.Prelude.{ℕ, List, [], ◌++◌, codes, Option, Some}
use Rattle.std.specs.Fmt.{decimal}
use Rattle.op_text.specs.declared.rows.RowCause.{RowCause}
use Rattle.op_text.specs.declared.rows.RowCause.TheVariants as row
use Rattle.graph_tool.specs.declared.status.Status.{Status}
use Rattle.graph_tool.specs.declared.status.Status.TheVariants.{Done, Usage, BadRow, ReadFault, WriteFault, Memory}
use Rattle.graph_tool.specs.declared.status.UsageCause.{UsageCause}
use Rattle.graph_tool.specs.declared.status.UsageCause.TheVariants as usage

-- the number that the process ends with
abbrev pub exit_number : Status → ℕ
exit_number Done = 0
exit_number (Usage c) = 2
exit_number (BadRow n c) = 3
exit_number ReadFault = 4
exit_number WriteFault = 5
exit_number Memory = 6

-- what is wrong with the words or the length of the input, as it is written
abbrev pub usage_of : UsageCause → List ℕ
usage_of usage.NoCommand = codes "no command"
usage_of usage.UnknownCommand = codes "unknown command"
usage_of usage.UnknownOption = codes "unknown option"
usage_of usage.InputTooLong = codes "input too long"

-- why a record is no row, as it is written
abbrev pub cause_of : RowCause → List ℕ
cause_of row.FieldCount = codes "field count"
cause_of row.BadCaller = codes "bad caller"
cause_of row.UnknownOp = codes "unknown operation"
cause_of row.BadNumber = codes "bad number"
cause_of row.MissingField = codes "missing field"
cause_of row.ExtraField = codes "extra field"
cause_of row.ZeroWeight = codes "zero weight"
cause_of row.TooManyRows = codes "too many rows"

-- the line on standard error, without its line feed; that of Done is empty and isn't written
abbrev pub line_of : Status → Option (List ℕ)
line_of Done = Some []
line_of (Usage c) = Some (codes "graph_tool: usage: " ++ usage_of c)
line_of (BadRow n c) = Some (codes "graph_tool: row " ++ (decimal n ++ (codes ": " ++ cause_of c)))
line_of ReadFault = Some (codes "graph_tool: read fault")
line_of WriteFault = Some (codes "graph_tool: write fault")
line_of Memory = Some (codes "graph_tool: out of memory")

-- a fact where all was written
abbrev pub IfDone : Status → Type 0 → Type 0
IfDone Done P = P
IfDone _ P = Unit {0}

-- a fact of the cause where words or input were refused
abbrev pub IfUsage : Status → (UsageCause → Type 0) → Type 0
IfUsage (Usage c) P = P c
IfUsage _ P = Unit {0}

-- a fact of the number and the cause where a record was bad
abbrev pub IfBadRow : Status → (ℕ → RowCause → Type 0) → Type 0
IfBadRow (BadRow n c) P = P n c
IfBadRow _ P = Unit {0}

-- a fact where a read failed
abbrev pub IfReadFault : Status → Type 0 → Type 0
IfReadFault ReadFault P = P
IfReadFault _ P = Unit {0}

-- a fact where a write failed
abbrev pub IfWriteFault : Status → Type 0 → Type 0
IfWriteFault WriteFault P = P
IfWriteFault _ P = Unit {0}

-- a fact of every status but Memory
abbrev pub UnlessMemory : Status → Type 0 → Type 0
UnlessMemory Memory P = Unit {0}
UnlessMemory _ P = P

-- a fact of every status with which a run ends before it writes: all but Done and WriteFault
abbrev pub UnlessWriting : Status → Type 0 → Type 0
UnlessWriting Done P = Unit {0}
UnlessWriting WriteFault P = Unit {0}
UnlessWriting _ P = P
