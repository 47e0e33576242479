-- What one try to look an edge up tells, by what locating its ends and one walk told.
use Rattle.std.proofs.Common.{◌≡◌, ◌≢◌, ℕ, ◌+◌, ◌<◌, ◌≤◌, false, refl, arith, ⊎_elim}
use Rattle.std.proofs.lemmas.Bool.{cases_lt}
use Rattle.graph_updates.specs.EdgeLooking.{MatchLookTried, MatchLookedAt}
use Rattle.graph_updates.specs.Hands.{HandValue, HasItsNodes}
use Rattle.graph_updates.specs.Pairs.{HasPair}
use Rattle.graph_updates.specs.Parts.{GoesOnBy, HasHelped}
use Rattle.graph_updates.specs.declared.edge_looking.LookTried.{LookTried}
use Rattle.graph_updates.specs.declared.edge_looking.LookTried.TheVariants as tried
use Rattle.graph_updates.proofs.AddingAddsUp.{helped_on}
use Rattle.graph_updates.proofs.HandsHelp.{has_helped_chain}
use Rattle.graph_updates.proofs.LocatingTells.{between_earlier, helped_grows}

-- a number below a limit whose successor isn't the limit
pub still_less : (n limit : ℕ) → n < limit → (n + 1 ≡ limit → ⊥) → n + 1 < limit
still_less n limit low other = ⊎_elim (λ (h : n + 1 < limit). h)
    (λ (h : limit ≤ n + 1). absurd (other (omega (arith, low, h)))) (cases_lt (n + 1) limit)

-- a walk that wasn't lost
module _ (a b lost tries : ℕ) (old mid new : HandValue) (n : HasItsNodes old) (first : HasHelped old mid)
    (second : HasHelped mid new) where
  on : GoesOnBy false old new
  on = helped_on false old new n (has_helped_chain old mid new first second)

  pub looked_tried : (r : LookTried) → r ≢ tried.Lost
      → MatchLookedAt r a b old.token.view mid.token.view new.token.view → MatchLookTried r a b lost tries old new
  looked_tried (tried.Edge s) other h = (
    on,
    between_earlier (HasPair a b s.edge.weight) old.token.view.front mid.token.view.front new.token.view.front
        s.moment.value.view.front (helped_grows old mid first) h,
  )
  looked_tried (tried.Lacks l) other h = (on, h)
  looked_tried tried.Lost other h = absurd (other refl)
  looked_tried tried.Again other h = absurd h
