-- How many events of a kind a caller made, or all callers, and how often the counter of a life was raised; and how
-- many numbers pass a test.
use Rattle.std.specs.Prelude.{ℕ, zero, suc, ◌+◌, Bool, cond, ◌&&◌, ◌==◌, List, length, filter}
use Rattle.packed_link.specs.declared.link.Life.{Life}
use Rattle.core_journal.specs.declared.event.Kind.{Kind}
use Rattle.core_journal.specs.declared.event.Event.{Event}
use Rattle.core_journal.specs.Event.{same_life, raises}

-- how many events of some kinds a caller made
abbrev pub made : (Kind → Bool) → ℕ → List Event → ℕ
made test caller journal = length (filter (λ (e : Event). test e.kind && (e.caller == caller)) journal)

-- how many events of some kinds are about a life
abbrev pub about : (Kind → Bool) → Life → List Event → ℕ
about test x journal = length (filter (λ (e : Event). test e.kind && same_life x e.life) journal)

-- how many events of some kinds all callers made
abbrev pub all_made : (Kind → Bool) → List Event → ℕ
all_made test journal = length (filter (λ (e : Event). test e.kind) journal)

-- how often the counter of a life was raised
abbrev pub raised : Life → List Event → ℕ
raised x journal = about raises x journal

-- how many numbers below one pass a test
abbrev pub count_below : (ℕ → Bool) → ℕ → ℕ
count_below test zero = 0
count_below test (suc n) = cond (test n) 1 0 + count_below test n

-- how many nodes a caller may take: 2^32
abbrev pub most_pops : ℕ
most_pops = 4294967296

-- how often a caller may raise counters: 2^38
abbrev pub most_raises : ℕ
most_raises = 274877906944

-- how often a caller may move the epoch on: 2^34
abbrev pub most_moves : ℕ
most_moves = 17179869184
