-- What wasn't linked, marked or unlinked in a journal wasn't so in a front of it.
use Rattle.std.proofs.Common.{◌≡◌, Bool, true, false, true≢false, List, ◌++◌, refl, sym, ◌∙◌, subst}
use Rattle.core_journal.specs.declared.event.Event.{Event}
use Rattle.core_journal.specs.Prefix.{IsPrefix}

-- where a test that stays passed isn't passed by a journal, it isn't by a front
pub not_before : (test : List Event → Bool) → ((past more : List Event) → test past ≡ true → test (past ++ more) ≡ true)
    → (front journal : List Event) → IsPrefix front journal → test journal ≡ false → test front ≡ false
not_before test stays front journal p none = by (test front) refl
  where
    by : (b : Bool) → test front ≡ b → b ≡ false
    by true is = absurd (true≢false (sym (subst (λ (j : List Event). test j ≡ true) p.whole (stays front p.rest is))
        ∙ none))
    by false is = refl
