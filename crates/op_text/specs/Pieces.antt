-- What stands in a sink that hands on in pieces: the sink behind it, and what is still held.
use Rattle.std.specs.Prelude.{◌≡◌, ℕ, List, ◌++◌, Option, Some, None, take, drop}
use Rattle.op_text.specs.declared.pieces.Pieces.{Pieces}

-- the sink behind
abbrev pub inner : {K : Type 0} → Pieces K → K
inner p = p.sink

-- the bytes that were given and not yet handed on
abbrev pub held : {K : Type 0} → Pieces K → List ℕ
held p = drop p.from p.bytes.items

-- what a sink has taken, and bytes behind it
abbrev pub behind : Option (List ℕ) → List ℕ → Option (List ℕ)
behind None bytes = None
behind (Some taken) bytes = Some (taken ++ bytes)

-- what was given: what the sink behind has taken, and what is held
abbrev pub given : {K : Type 0} → (K → Option (List ℕ)) → Pieces K → Option (List ℕ)
given taken p = behind (taken (inner p)) (held p)

-- where bytes are told: the second are a first part of the first with these behind them
abbrev pub IsFirstPart : Option (List ℕ) → Option (List ℕ) → List ℕ → Type 0
IsFirstPart None part bytes = part ≡ None
IsFirstPart (Some whole) part bytes = (n : ℕ) × (part ≡ Some (take n (whole ++ bytes)))
