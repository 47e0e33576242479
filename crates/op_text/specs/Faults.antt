-- Words on what reading rows answered.
use Rattle.std.specs.Prelude.{ℕ, Result, Ok, Err}
use Rattle.op_text.specs.declared.rows.RowCause.{RowCause}
use Rattle.op_text.specs.declared.rows.RowsFault.{RowsFault}
use Rattle.op_text.specs.declared.rows.RowsFault.TheVariants.{Bad, Memory}

-- a fact of the number and the cause of the bad record, where reading answered one
abbrev pub IfBad : {A : Type 0} → Result A RowsFault → (ℕ → RowCause → Type 0) → Type 0
IfBad (Ok rows) P = Unit {0}
IfBad (Err (Bad row cause)) P = P row cause
IfBad (Err Memory) P = Unit {0}
