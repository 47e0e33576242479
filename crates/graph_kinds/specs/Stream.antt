-- What is said of sources and sinks: bytes taken and given, and faults counted.
use Rattle.std.specs.Prelude.{◌≡◌, ℕ, ◌<◌, ◌≤◌, ◌^◌, ◌-◌, ◌⊎◌, List, ◌++◌, take, length, Option, Some, None}
use Rattle.graph_kinds.specs.declared.source.ReadAnswer.{ReadAnswer}
use Rattle.graph_kinds.specs.declared.source.ReadAnswer.TheVariants as read
use Rattle.graph_kinds.specs.declared.sink.WriteAnswer.{WriteAnswer}
use Rattle.graph_kinds.specs.declared.sink.WriteAnswer.TheVariants as write

-- a count of faults rose: it is higher than before, or stands at its end
abbrev pub Rose : ℕ → ℕ → Type 0
Rose old new = (old < new) ⊎ (new ≡ 2 ^ 64 - 1)

-- where the bytes left are told: these came from their front
abbrev pub Takes : Option (List ℕ) → Option (List ℕ) → List ℕ → Type 0
Takes None new bytes = new ≡ None
Takes (Some old) new bytes = (rest : List ℕ) × (old ≡ bytes ++ rest) × (new ≡ Some rest)

-- where the bytes left are told: so many came from their front
abbrev pub TakesMany : Option (List ℕ) → Option (List ℕ) → ℕ → Type 0
TakesMany old new n = (bytes : List ℕ) × (length bytes ≡ n) × Takes old new bytes

-- where the bytes left are told: more than so many came from their front
abbrev pub TakesMore : Option (List ℕ) → Option (List ℕ) → ℕ → Type 0
TakesMore old new n = (bytes : List ℕ) × (n < length bytes) × Takes old new bytes

-- where the bytes taken are told: these came behind them
abbrev pub Puts : Option (List ℕ) → Option (List ℕ) → List ℕ → Type 0
Puts None new bytes = new ≡ None
Puts (Some old) new bytes = new ≡ Some (old ++ bytes)

-- where the bytes taken are told: a first part of these came behind them
abbrev pub PutsSome : Option (List ℕ) → Option (List ℕ) → List ℕ → Type 0
PutsSome old new bytes = (n : ℕ) × (n ≤ length bytes) × Puts old new (take n bytes)

-- a fact of how many bytes a read got, where it got some
abbrev pub IfGot : ReadAnswer → (ℕ → Type 0) → Type 0
IfGot (read.Got n) P = P n
IfGot read.End P = Unit {0}
IfGot read.Failed P = Unit {0}

-- a fact where a read answered that nothing is left
abbrev pub IfEnd : ReadAnswer → Type 0 → Type 0
IfEnd (read.Got n) P = Unit {0}
IfEnd read.End P = P
IfEnd read.Failed P = Unit {0}

-- a fact where a read failed
abbrev pub IfReadFailed : ReadAnswer → Type 0 → Type 0
IfReadFailed (read.Got n) P = Unit {0}
IfReadFailed read.End P = Unit {0}
IfReadFailed read.Failed P = P

-- a fact of how many bytes a write took, where it took some
abbrev pub IfTook : WriteAnswer → (ℕ → Type 0) → Type 0
IfTook (write.Took n) P = P n
IfTook write.Failed P = Unit {0}

-- a fact where a write failed
abbrev pub IfWriteFailed : WriteAnswer → Type 0 → Type 0
IfWriteFailed (write.Took n) P = Unit {0}
IfWriteFailed write.Failed P = P
