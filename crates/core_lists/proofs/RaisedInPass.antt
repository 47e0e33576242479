-- In an open pass in which a caller raised the counter for an edge, the pass has met the source still.
use Rattle.std.proofs.Common.{◌≡◌, ◌⊎◌, ℕ, zero, suc, ◌≤◌, true, false, List, [], ◌∷◌, length, take, Some, refl, sym}
use Rattle.std.proofs.Common.{◌∙◌, subst, arith, ⊎_elim, inl, inr}
use Rattle.std.specs.Prelude.{slice_get}
use Rattle.packed_link.specs.Layout.{Sizes, IsLayout}
use Rattle.packed_link.specs.declared.link.Life.{Life}
use Rattle.core_journal.specs.declared.event.Kind.{Kind}
use Rattle.core_journal.specs.declared.event.Kind.TheVariants.{Raise, Announce, Withdraw}
use Rattle.core_journal.specs.declared.event.Event.{Event}
use Rattle.core_journal.specs.Life.{link_of}
use Rattle.core_journal.specs.Reuse.{pass_in}
use Rattle.core_journal.specs.State.{State, Pass, state_by, state}
use Rattle.core_journal.proofs.Lists.{prefix_take}
use Rattle.core_journal.proofs.States.{count-length, counted_by}
use Rattle.core_kept.specs.Edges.{IsRaise, IsRaisedFor}
use Rattle.core_kept.specs.Facts.{HasMet, IsSamePass}
use Rattle.core_kept.specs.Kept.{AllowedAs, IsKept}
use Rattle.core_kept.specs.Nodes.{node_in, IsVertex}
use Rattle.core_lists.specs.Raised.{IsLinkedLower}
use Rattle.core_lists.proofs.LowerCounters.{met_lower}
use Rattle.core_kept.proofs.Induction.{allowed_at}
use Rattle.core_kept.proofs.MetWords.{met_used, still_met}
use Rattle.core_kept.proofs.ByKind.{KeepsByKind, put_case, holds_onward}

-- a pass began when this one did, or at this number of events or later
abbrev IsSince : ℕ → ℕ → Pass → Type 0
IsSince n s0 p = (p.since ≡ s0) ⊎ (n ≤ p.since)

-- each kind keeps that
since_by : (k : Kind) (sizes : Sizes) (e : Event) (s : State) (caller n s0 : ℕ) → n ≤ s.count → IsSince n s0
    (s.pass caller) → IsSince n s0 ((state_by k sizes e s).pass caller)
since_by Announce sizes e s caller n s0 c h = put_case (IsSince n s0) e.caller _ s.pass caller (λ _. inr c) (λ _. h)
since_by Withdraw sizes e s caller n s0 c h = put_case (IsSince n s0) e.caller _ s.pass caller
    (λ same. subst (λ (i : ℕ). IsSince n s0 (s.pass i)) same h) (λ _. h)
since_by _ sizes e s caller n s0 c h = h

long_enough : {A : Type 0} (xs : List A) (n : ℕ) (x : A) → slice_get xs n ≡ Some x → n ≤ length (take n xs)
long_enough xs zero x h = omega arith
long_enough [] (suc n) x h = absurd (cc)
long_enough (y ∷ ys) (suc n) x h = omega (arith, long_enough ys n x h)

raising : (sizes : Sizes) (past : List Event) (e : Event) (k : Kind) → k ≡ Raise → AllowedAs k sizes past e
    → IsRaise sizes past e
raising sizes past e Raise h ok = ok
raising sizes past e _ h ok = absurd (cc)

-- the edge was linked at a lower counter, and the source isn't stored for the free list
pub raised_in_pass : (sizes : Sizes) → IsLayout sizes → (journal : List Event) → IsKept sizes journal → (caller : ℕ)
    (x : Life) (link : Event) → link_of journal x ≡ Some link
    → (pass_in sizes journal caller).is_open ≡ true → IsRaisedFor sizes journal caller x link.source
    → IsLinkedLower sizes journal (length journal) link × ((node_in sizes journal link.source.index).stored ≡ false)
raised_in_pass sizes z journal kept caller x link is open_ r =
    let past : List Event = take r.number journal in
    let front = prefix_take journal r.number in
    let ok = raising sizes past r.raise r.raise.kind r.kind (allowed_at sizes journal r.number r.raise kept
    r.at).as_kind in
    let m : HasMet sizes past caller link.source.index = subst (λ (i : ℕ). HasMet sizes past i link.source.index) r.by
    (subst (λ (y : Life). HasMet sizes past r.raise.caller y.index) r.vertex ok.met) in
    let v : IsVertex sizes past link.source = subst (IsVertex sizes past) r.vertex ok.vertex in
    let s0 : ℕ = (pass_in sizes past caller).since in
    let P : State → (ℕ → ℕ) → Type 0 = λ s w. (r.number ≤ s.count) × IsSince r.number s0 (s.pass caller) in
    let step : KeepsByKind sizes P = λ past e kept h k by ok w a. (
      omega (arith, h.0, counted_by k sizes e (state sizes past)),
      since_by k sizes e
          (state sizes past) caller r.number s0 h.0 h.1,
    ) in
    let now = holds_onward sizes P step past journal front kept
    (omega (arith, long_enough journal r.number r.raise r.at, count-length sizes past), inl refl) in
    let same : (pass_in sizes journal caller).since ≡ s0 = ⊎_elim (λ e. e)
    (λ late. absurd (omega (arith, late, r.since))) now.1 in
    let pass : IsSamePass sizes past journal caller = record { before = front; open_still = open_; since = same } in
    let t = still_met sizes z past journal kept caller link.source.index pass m in
    let vertex : IsVertex sizes journal link.source = record {
      there = v.there;
      life = v.life
          ∙ sym t.1.tag;
      used = met_used sizes journal caller link.source.index t.0;
      vertex = t.1.vertex ∙ v.vertex;
    } in
    met_lower sizes z journal kept caller x link is vertex t.0 r
