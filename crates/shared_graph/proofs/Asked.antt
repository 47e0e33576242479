-- When a caller's call is answered Worn.
use Rattle.std.proofs.Common.{◌≡◌, ℕ, ◌^◌, ◌<◌, ◌≤◌, ap, arith, ⊎_elim}
use Rattle.std.proofs.lemmas.Bool.{cases_lt}
use Rattle.graph_kinds.specs.declared.answer.Answer.{Answer}
use Rattle.graph_kinds.specs.declared.call.Call.{Call}
use Rattle.graph_kinds.specs.declared.outcome.Outcome.{Outcome}
use Rattle.graph_kinds.specs.declared.outcome.Outcome.TheVariants.{Worn}
use Rattle.shared_graph.specs.Callers.{CallerValue, uses_left}
use Rattle.shared_graph.specs.Performing.{HasPerformed}

-- a call is answered Worn exactly if the caller has no use left
pub asked_worn : (call : Call) (tries : ℕ) (outcome : Outcome) (old new : CallerValue) → old.hand.uses ≤ 2 ^ 32
    → HasPerformed call tries outcome old new
    → (outcome ≡ Worn → uses_left old ≡ 0) × (uses_left old ≡ 0 → outcome ≡ Worn)
asked_worn call tries outcome old new most p =
    ⊎_elim
    (λ (few : old.hand.uses < 2 ^ 32). (
      (λ is. absurd ((p.answers.answered few).unworn is)),
      (λ none. absurd (omega (arith, few, none))),
    ))
    (λ (all : 2 ^ 32 ≤ old.hand.uses). (
      (λ is. omega (arith, all)),
      (λ none. ap (λ (a : Answer). a.outcome) (p.answers.worn (omega (arith, all, most))).0),
    ))
    (cases_lt old.hand.uses (2 ^ 32))
