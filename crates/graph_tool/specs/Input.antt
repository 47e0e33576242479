-- Words on what reading an input answered.
use Rattle.std.specs.Prelude.{ℕ, ◌≤◌, List, length, Option, Result, Err}
use Rattle.graph_kinds.specs.Stream.{Takes}
use Rattle.graph_tool.specs.declared.input.InputFault.{InputFault}
use Rattle.graph_tool.specs.declared.input.InputFault.TheVariants.{TooLong, Failed}

-- the most bytes of one input
abbrev pub most_bytes : ℕ
most_bytes = 8388608

-- a fact where a read failed
abbrev pub IfFailed : {A : Type 0} → Result A InputFault → Type 0 → Type 0
IfFailed (Err Failed) P = P
IfFailed _ P = Unit {0}

-- a fact where the input was too long
abbrev pub IfTooLong : {A : Type 0} → Result A InputFault → Type 0 → Type 0
IfTooLong (Err TooLong) P = P
IfTooLong _ P = Unit {0}

-- where the bytes left are told: at most so many came from their front
abbrev pub TakesAtMost : Option (List ℕ) → Option (List ℕ) → ℕ → Type 0
TakesAtMost old new n = (bytes : List ℕ) × (length bytes ≤ n) × Takes old new bytes
