-- What a write of a text comes to, in one record: private functions state it whole, public ones part by part.
use Rattle.std.specs.Prelude.{ℕ, ◌≤◌, List, Option, Result, OnOk, OnErr}
use Rattle.graph_kinds.specs.Stream.{Rose, Puts, PutsSome}

-- a text was given to a sink, which is old before and new after; on an error a first part of it was given
pub record Gives {K : Type 0} {E : Type 0} (taken : K → Option (List ℕ)) (faults : K → ℕ) (old new : K) (text : List ℕ)
    (result : Result (Unit {0}) E) : Type 0 where
  pub ok : OnOk result (Puts (taken old) (taken new) text)
  pub prefix : OnErr result (PutsSome (taken old) (taken new) text)
  pub rose : OnErr result (Rose (faults old) (faults new))
  pub later : faults old ≤ faults new
