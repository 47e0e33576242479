-- Runs of steps, moment after moment.
use Rattle.std.specs.Prelude.{List, [], ◌∷◌}

module _ {A : Type 0} where
  -- from a moment on, each step leads to the next of these
  abbrev pub IsRunOf : (A → A → Type 0) → A → List A → Type 0
  IsRunOf step first [] = Unit {0}
  IsRunOf step first (next ∷ rest) = step first next × IsRunOf step next rest

  -- the last moment of a run
  abbrev pub last_of : A → List A → A
  last_of first [] = first
  last_of first (next ∷ rest) = last_of next rest
