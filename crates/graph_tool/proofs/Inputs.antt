-- What was taken of a source that tells its bytes is one list.
use Rattle.std.proofs.Common.{◌≡◌, ℕ, ◌<◌, ◌≤◌, Bool, List, length, sym, ap, ◌∙◌, arith, length-append}
use Rattle.std.specs.Prelude.{Option, Some, None, IfSome}
use Rattle.graph_kinds.specs.Stream.{Rose, Takes, TakesMore}
use Rattle.graph_tool.specs.Input.{TakesAtMost, most_bytes}
use Rattle.graph_tool.specs.Run.{IsRefused}
use Rattle.graph_tool.specs.Status.{UnlessMemory}
use Rattle.graph_tool.specs.declared.status.Status.{Status}
use Rattle.graph_tool.specs.declared.status.Status.TheVariants.{Done, Usage, BadRow, ReadFault, WriteFault, Memory}
use Rattle.graph_tool.specs.declared.status.UsageCause.TheVariants.{InputTooLong}

-- from one list left to one list left, so many bytes were taken
taken_once : (old : List ℕ) (new : Option (List ℕ)) (xs ys : List ℕ) → Takes (Some old) new xs → Takes (Some old) new ys
    → length xs ≡ length ys
taken_once old new xs ys (r, is, left) (s, is', left') =
    let e : Some r ≡ Some s = sym left ∙ left' in
    let same : r ≡ s = cc in
    let a = ap length is ∙ length-append xs r in
    let b = ap length is' ∙ length-append ys s in
    let l = ap length same in
    omega arith

-- more than the limit and at most the limit
pub too_many : (old : List ℕ) (new : Option (List ℕ)) → TakesMore (Some old) new most_bytes → TakesAtMost
    (Some old) new most_bytes → ⊥
too_many old new (xs, n, t) (ys, few, u) = let e = taken_once old new xs ys t u in omega arith

-- where more was taken, the input was too long, unless memory ran out
pub too_long_by : (old new : Option (List ℕ)) (ended : Bool) (before after : ℕ) (s : Status)
    → IsRefused old new ended before after s → IfSome old (λ bytes. TakesMore (Some bytes) new most_bytes
    → UnlessMemory s (s ≡ Usage InputTooLong))
too_long_by None new ended before after s r = tt
too_long_by (Some old) new ended before after (Usage cause) r = λ many. ap Usage r.0
too_long_by (Some old) new ended before after (BadRow row cause) r = λ many. absurd (too_many old new many r.2)
too_long_by (Some old) new ended before after ReadFault r = λ many. absurd (too_many old new many r.1)
too_long_by (Some old) new ended before after Memory r = λ many. tt
too_long_by (Some old) new ended before after Done r = absurd r
too_long_by (Some old) new ended before after WriteFault r = absurd r

-- where a longer input was refused and no read failed, it was too long, unless memory ran out
pub longer_by : (old new : Option (List ℕ)) (ended : Bool) (before after : ℕ) (s : Status)
    → IsRefused old new ended before after s → IfSome old (λ bytes. most_bytes < length bytes → (Rose before after → ⊥)
    → UnlessMemory s (s ≡ Usage InputTooLong))
longer_by None new ended before after s r = tt
longer_by (Some old) new ended before after (Usage cause) r = λ longer none. ap Usage r.0
longer_by (Some old) new ended before after (BadRow row cause) r = λ longer none. absurd (omega (arith, longer, r.3))
longer_by (Some old) new ended before after ReadFault r = λ longer none. absurd (none r.0)
longer_by (Some old) new ended before after Memory r = λ longer none. tt
longer_by (Some old) new ended before after Done r = absurd r
longer_by (Some old) new ended before after WriteFault r = absurd r

-- an input within the limit isn't longer
pub not_longer : (old : Option (List ℕ)) (P Q : Type 0) → IfSome old (λ bytes. length bytes ≤ most_bytes) → IfSome old
    (λ bytes. most_bytes < length bytes → P → Q)
not_longer None P Q short = tt
not_longer (Some old) P Q short = λ longer p. absurd (omega (arith, longer, short))
