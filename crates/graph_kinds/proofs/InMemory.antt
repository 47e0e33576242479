-- A call fails by its number exactly where the list of the setup has that number.
use Rattle.std.proofs.Common.{◌≡◌, ℕ, ◌==◌, Bool, List, ◌∙◌}
use Rattle.std.specs.List.{list_any}
use Rattle.graph_kinds.specs.InMemory.{Setup, next_call, fails_next}

pub listed-is : (setup : Setup) (now : List ℕ) (x calls : ℕ) (found : Bool) → found ≡ list_any (λ y. y == x) now
    → now ≡ setup.failing → x ≡ next_call calls → found ≡ fails_next setup calls
listed-is setup now x calls found by list number = by ∙ (λ i. list_any (λ y. y == number i) (list i))
