-- A token stays between two calls over what it makes.
use Rattle.std.proofs.Common.{◌≡◌, ◌≢◌, ℕ, ◌+◌, ◌≤◌, Bool, false, List, [], ◌∷◌, ◌++◌, length, None, refl, sym, subst}
use Rattle.std.proofs.Common.{ap, ap₂, ◌∙◌, arith}
use mathlib.Core.Logic.{dite}
use native.Mathlib.Decide.{ℕ_discrete}
use Rattle.graph_kinds.specs.History.{Every}
use Rattle.packed_link.specs.Link.{mark_of}
use Rattle.packed_link.specs.Layout.{Sizes, IsLayout}
use Rattle.core_journal.specs.declared.event.Kind.TheVariants.{PopFree}
use Rattle.core_journal.specs.declared.event.Event.{Event}
use Rattle.core_journal.specs.Event.{pops, moves}
use Rattle.core_journal.specs.Reuse.{pass_in}
use Rattle.core_journal.specs.State.{Pass}
use Rattle.core_rule.specs.OwnEvents.{move_event}
use Rattle.core_rule.specs.Plays.{IsSound, Looked}
use Rattle.core_rule.specs.Stretches.{HasNoFresh}
use Rattle.core_rule.specs.declared.view.View.{View}
use Rattle.core_stretches.specs.Makes.{Makes, StaysInPass, of_kinds}
use Rattle.core_stretches.proofs.HoldingsStay.{makes_none}
use Rattle.core_stretches.proofs.MakesAddUp.{makes_look}
use Rattle.core_stretches.proofs.MakesTell.{makes_counts, makes_goes, makes_later}
use Rattle.epoch_limbo.proofs.LimboStays.{limbo_still_by_kind}
use Rattle.epoch_limbo.specs.Advances.{MatchAdvanced}
use Rattle.epoch_limbo.specs.Limbos.{IsLimboOf, IsOut}
use Rattle.epoch_limbo.specs.declared.advancing.Advanced.{Advanced}
use Rattle.epoch_limbo.specs.declared.advancing.Advanced.TheVariants.{Moved, Held, Lost}
use Rattle.graph_table.specs.Tokens.{RipeValue}
use Rattle.limbo_calls.specs.Steady.{IsSteady}

pub steady_more : (was now : Bool) (n m : ℕ) (v w : View) (own : List Event) → Makes v own w → n + of_kinds pops own ≤ m
    → n + of_kinds moves own ≤ m → HasNoFresh w → (pass_in w.sizes w.front w.number).is_open ≡ now → IsSteady was n v
    → IsSteady now m w
steady_more was now n m v w own h p q bare pass s =
    let t = makes_later v w own h in
    record {
      numbered = t.numbered ∙ s.numbered;
      there = let c = ap (λ (z : Sizes). z.callers) t.sizes in let k = t.number in let l = s.there in omega
          (arith, c, k, l);
      pass = pass;
      bare = bare;
      taken = let c = makes_counts pops v w own h in let l = s.taken in omega (arith, c, l, p);
      moved = let c = makes_counts moves v w own h in let l = s.moved in omega (arith, c, l, q);
    }

pub pass_by : (b : Bool) (v w : View) (own : List Event) → Every StaysInPass own → Makes v own w →
    (pass_in v.sizes v.front v.number).is_open ≡ b → (pass_in w.sizes w.front w.number).is_open ≡ b
pass_by b v w own every h is =
    let g = makes_goes v w own every h in
    let t = makes_later v w own h in
    ap₂ (λ (z : Sizes) (k : ℕ). (pass_in z w.front k).is_open) t.sizes t.number ∙
    (ap (λ (p : Pass). p.is_open) g.pass ∙ is)

-- over events that open no pass, close none, take no node and move no epoch
pub steady_on : (b : Bool) (n : ℕ) (v w : View) (own : List Event) → IsLayout v.sizes → Every StaysInPass own → Every
    (λ (e : Event). e.kind ≢ PopFree) own → of_kinds pops own ≡ 0 → of_kinds moves own ≡ 0 → Makes v own w
    → IsSteady b n v → IsSteady b n w
steady_on b n v w own z every none p q h s = steady_more b b n n v w own h (omega (arith, p)) (omega (arith, q))
    (makes_none v w own z none h s.bare) (pass_by b v w own every h s.pass) s

-- and so over a load
pub steady_look : (b : Bool) (n : ℕ) (v w : View) (at found : ℕ) → IsLayout v.sizes → IsSound v → Looked v at found w
    → IsSteady b n v → IsSteady b n w
steady_look b n v w at found z sound l s = steady_on b n v w [] z tt tt refl refl
    (makes_look v w at found s.numbered sound l) s

-- and a limbo of it is one still
pub limbo_look : (n : ℕ) (b : Bool) (v w : View) (at found : ℕ) (rs : List RipeValue) → IsLayout v.sizes → IsSound v
    → Looked v at found w → IsSteady b n v → IsLimboOf None v rs → IsLimboOf None w rs
limbo_look n b v w at found rs z sound l s h = limbo_still_by_kind None v w [] z
    (makes_look v w at found s.numbered sound l) rs tt h

-- over moving the epoch on
moved_by : (n : ℕ) (v w : View) (own : List Event) → IsLayout v.sizes → Every StaysInPass own → Every
    (λ (e : Event). e.kind ≢ PopFree) own → of_kinds pops own ≡ 0 → of_kinds moves own ≤ 1 → Makes v own w
    → IsSteady false n v → IsSteady false (n + 1) w
moved_by n v w own z every none p q h s = steady_more false false n (n + 1) v w own h (omega (arith, p))
    (omega (arith, q)) (makes_none v w own z none h s.bare) (pass_by false v w own every h s.pass) s

pub steady_moved : (n : ℕ) (v w : View) (r : Advanced) → IsLayout v.sizes → MatchAdvanced r v w → IsSteady false n v
    → IsSteady false (n + 1) w
steady_moved n v w Moved z h s = moved_by n v w (move_event v h.epoch ∷ []) z
    (((λ y. absurd (cc)), (λ y. absurd (cc))), tt) ((λ y. absurd (cc)), tt) refl (omega arith) h.makes s
steady_moved n v w (Held caller) z h s = moved_by n v w [] z tt tt refl (omega arith) h.makes s
steady_moved n v w Lost z h s = moved_by n v w [] z tt tt refl (omega arith) h.makes s

pub limbo_moved : (v w : View) (r : Advanced) (rs : List RipeValue) → IsLayout v.sizes → MatchAdvanced r v w
    → IsLimboOf None v rs → IsLimboOf None w rs
limbo_moved v w Moved rs z h l = limbo_still_by_kind None v w (move_event v h.epoch ∷ []) z h.makes rs
    ((λ y. absurd (cc)), tt) l
limbo_moved v w (Held caller) rs z h l = limbo_still_by_kind None v w [] z h.makes rs tt l
limbo_moved v w Lost rs z h l = limbo_still_by_kind None v w [] z h.makes rs tt l

-- a word without a mark
pub low_mark : (word : ℕ) → (mark_of word ≡ 1 → ⊥) → mark_of word ≡ 0
low_mark word none = dite (ℕ_discrete (mark_of word) 1) (λ one. absurd (none one)) (λ other. omega (arith, other))

-- an empty limbo that got a node has one
pub one_node : (old new : List RipeValue) (r : RipeValue) → old ≡ [] → new ≡ old ++ r ∷ [] → length new ≡ 1
one_node old new r empty is = ap length (is ∙ ap (λ (rs : List RipeValue). rs ++ r ∷ []) empty)

-- no node is in an empty limbo
pub out_of_none : (x : ℕ) (rs : List RipeValue) → rs ≡ [] → IsOut x rs
out_of_none x rs empty = subst (λ (qs : List RipeValue). IsOut x qs) (sym empty) tt
