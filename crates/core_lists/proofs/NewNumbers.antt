-- A number that was drawn last is nowhere in the state yet, and its caller made no event before.
use Rattle.std.proofs.Common.{◌≡◌, ◌≢◌, ◌⊎◌, ℕ, ◌+◌, ◌<◌, ◌≤◌, Bool, true, false, List, [], ◌∷◌, ◌++◌, refl, sym, ap}
use Rattle.std.proofs.Common.{◌∙◌, subst, arith, inl, inr, ⊎_elim}
use Rattle.packed_link.specs.Layout.{Sizes}
use Rattle.core_journal.specs.Event.{draws}
use Rattle.core_journal.specs.declared.event.Kind.{Kind}
use Rattle.core_journal.specs.declared.event.Kind.TheVariants.{DrawNumber, PopFree, LinkVertex, MarkVertex}
use Rattle.core_journal.specs.declared.event.Kind.TheVariants.{UnlinkVertex, LinkEdge, MarkEdge, UnlinkEdge, Announce}
use Rattle.core_journal.specs.declared.event.Kind.TheVariants.{Withdraw, FreezeHead, FreezeEdge, StoreFree, PushFree}
use Rattle.core_journal.specs.declared.event.Kind.TheVariants.{ReplaceEdge}
use Rattle.core_journal.specs.declared.event.Event.{Event}
use Rattle.core_journal.specs.State.{Free, Pass, Node, State, put, handed, state_by, state, joined_edge}
use Rattle.core_journal.specs.Reuse.{pass_in}
use Rattle.core_kept.specs.Counts.{made}
use Rattle.core_kept.specs.Kept.{IsKept, IsQuiet}
use Rattle.core_kept.specs.Nodes.{node_in, IsFreshWith, IsSpentWith}
use Rattle.core_kept.proofs.Callers.{called, made_quiet, made_none}
use Rattle.core_kept.proofs.Induction.{past_kept}
use Rattle.core_lists.proofs.EventKeepsRest.{allowed_as, after_as}
use Rattle.core_kept.proofs.ByKind.{KeepsByKind, put_case, handed_case, marked_state, closed_state, holds_all}

-- a number is that of the first caller, or was drawn
abbrev IsOld : ℕ → ℕ → Type 0
IsOld drawn number = (number ≡ 0) ⊎ (number < drawn)

-- callers that hold nodes and passes have drawn their numbers
record AreDrawn (s : State) : Type 0 where
  pub some : (x : ℕ) → (s.node x).mode ≢ Free → 0 < s.drawn
  pub who : (x : ℕ) → IsOld s.drawn (s.node x).who
  pub pass : (i : ℕ) → (s.pass i).is_open ≡ true → i < s.drawn

older : (a b n : ℕ) → a ≤ b → IsOld a n → IsOld b n
older a b n le h = ⊎_elim (λ (z : n ≡ 0). inl z) (λ (l : n < a). inr (omega arith)) h

put_who : (s : State) (i : ℕ) (v : Node) (x : ℕ) → (IsOld s.drawn (s.node i).who → IsOld s.drawn v.who) → IsOld s.drawn
    (s.node x).who → IsOld s.drawn (s.node i).who → IsOld s.drawn (put i v s.node x).who
put_who s i v x new h g = put_case (λ (u : Node). IsOld s.drawn u.who) i v s.node x (λ _. new g) (λ _. h)

handed_who : (s : State) (v x : ℕ) → IsOld s.drawn (s.node v).who → IsOld s.drawn (s.node x).who → IsOld s.drawn
    ((handed v s).node x).who
handed_who s v x h g = handed_case (λ (u : Node). IsOld s.drawn u.who) s v x g (λ _ _ _. h)

-- which numbers the nodes have after an event that draws none
who_by : (k : Kind) → draws k ≡ false → (sizes : Sizes) (e : Event) (s : State) → e.caller < s.drawn →
    ((x : ℕ) → IsOld s.drawn (s.node x).who) → (x : ℕ) → IsOld s.drawn ((state_by k sizes e s).node x).who
who_by DrawNumber d sizes e s by c x = absurd (cc)
who_by PopFree d sizes e s by c x = put_who s e.life.index _ x (λ _. inr by) (c x) (c e.life.index)
who_by UnlinkVertex d sizes e s by c x = put_who s e.life.index _ x (λ _. inr by) (c x) (c e.life.index)
who_by UnlinkEdge d sizes e s by c x = put_who s e.life.index _ x (λ _. inr by) (c x) (c e.life.index)
who_by LinkVertex d sizes e s by c x = put_who s e.life.index _ x (λ h. h) (c x) (c e.life.index)
who_by LinkEdge d sizes e s by c x = put_who s e.life.index _ x (λ h. h) (c x) (c e.life.index)
who_by MarkVertex d sizes e s by c x = put_who s e.life.index _ x (λ h. h) (c x) (c e.life.index)
who_by StoreFree d sizes e s by c x = put_who s e.life.index _ x (λ h. h) (c x) (c e.life.index)
who_by PushFree d sizes e s by c x = put_who s e.life.index _ x (λ h. h) (c x) (c e.life.index)
who_by MarkEdge d sizes e s by c x =
    let m : (y : ℕ) → IsOld s.drawn ((marked_state s e.life.index).node y).who = λ y. put_who s e.life.index
    (record (s.node e.life.index) { marked = true }) y (λ h. h) (c y) (c e.life.index) in
    handed_who (marked_state s e.life.index) (s.node e.life.index).source.index x (m (s.node e.life.index).source.index)
    (m x)
who_by ReplaceEdge d sizes e s by c x =
    let t : State = joined_edge sizes e s in
    let j : (y : ℕ) → IsOld s.drawn (t.node y).who = λ y. put_who s e.life.index _ y (λ h. h) (c y) (c e.life.index) in
    let m : (y : ℕ) → IsOld s.drawn ((marked_state t e.old.index).node y).who = λ y. put_who t e.old.index
    (record (t.node e.old.index) { marked = true }) y (λ h. h) (j y) (j e.old.index) in
    handed_who (marked_state t e.old.index) (t.node e.old.index).source.index x (m (t.node e.old.index).source.index)
    (m x)
who_by FreezeEdge d sizes e s by c x =
    let m : (y : ℕ) → IsOld s.drawn ((marked_state s e.life.index).node y).who = λ y. put_who s e.life.index
    (record (s.node e.life.index) { marked = true }) y (λ h. h) (c y) (c e.life.index) in
    handed_who (marked_state s e.life.index) (s.node e.life.index).source.index x (m (s.node e.life.index).source.index)
    (m x)
who_by FreezeHead d sizes e s by c x = handed_who (closed_state s e.life.index) e.life.index x (c e.life.index) (c x)
who_by _ d sizes e s by c x = c x

open_by : (k : Kind) → draws k ≡ false → (sizes : Sizes) (e : Event) (s : State) → e.caller < s.drawn →
    ((i : ℕ) → (s.pass i).is_open ≡ true → i < s.drawn) → (i : ℕ) → ((state_by k sizes e s).pass i).is_open ≡ true
    → i < s.drawn
open_by DrawNumber d sizes e s by c i = absurd (cc)
open_by Announce d sizes e s by c i = put_case (λ (q : Pass). q.is_open ≡ true → i < s.drawn) e.caller _ s.pass i
    (λ same _. omega (arith, same, by)) (λ _. c i)
open_by Withdraw d sizes e s by c i = put_case (λ (q : Pass). q.is_open ≡ true → i < s.drawn) e.caller _ s.pass i
    (λ same _. omega (arith, same, by)) (λ _. c i)
open_by _ d sizes e s by c i = c i

drawn_as : (k : Kind) → draws k ≡ false → (sizes : Sizes) (e : Event) (s : State) →
    (state_by k sizes e s).drawn ≡ s.drawn
drawn_as DrawNumber d sizes e s = absurd (cc)
drawn_as _ d sizes e s = refl

drawn_step : (sizes : Sizes) → KeepsByKind sizes (λ (s : State) (w : ℕ → ℕ). AreDrawn s)
drawn_step sizes past e kept c DrawNumber by ok w a = record {
  some = λ x m. omega arith;
  who = λ x. older (state sizes past).drawn ((state sizes past).drawn + 1) (node_in sizes past x).who (omega arith)
      (c.who x);
  pass = λ i o. let h = c.pass i o in omega (arith, h);
}
drawn_step sizes past e kept c k by ok w a = others (by refl)
  where
    others : e.caller < (state sizes past).drawn → AreDrawn (state_by k sizes e (state sizes past))
    others low =
        let s : State = state sizes past in
        let same : (state_by k sizes e s).drawn ≡ s.drawn = drawn_as k refl sizes e s in
        record {
          some = λ x m. omega (arith, low, same);
          who = λ x. subst (λ (d : ℕ). IsOld d ((state_by k sizes e s).node x).who) (sym same)
              (who_by k refl sizes e s low c.who x);
          pass = λ i o. let h = open_by k refl sizes e s low c.pass i o in omega (arith, h, same);
        }

are_drawn : (sizes : Sizes) (journal : List Event) → IsKept sizes journal → AreDrawn (state sizes journal)
are_drawn sizes journal kept = holds_all sizes (λ (s : State) (w : ℕ → ℕ). AreDrawn s)
    (drawn_step sizes) record { some = λ x m. absurd (m refl); who = λ x. inl refl; pass = λ i o. absurd (cc) } journal
    kept

module _ (sizes : Sizes) (past : List Event) (e : Event) (kept : IsKept sizes (past ++ e ∷ []))
    (is : e.kind ≡ DrawNumber) where
  before : IsKept sizes past
  before = past_kept sizes past e kept

  next : e.caller ≡ (state sizes past).drawn
  next = (allowed_as sizes past e kept DrawNumber is).caller

  -- a draw changes no node and no pass
  node_same : (x : ℕ) → node_in sizes (past ++ e ∷ []) x ≡ node_in sizes past x
  node_same x = ap (λ (s : State). s.node x) (after_as sizes past e kept DrawNumber is)

  not_mine : (x : ℕ) → (node_in sizes past x).mode ≢ Free → (node_in sizes past x).who ≢ e.caller
  not_mine x m same =
      let c = are_drawn sizes past before in
      let some = c.some x m in
      ⊎_elim (λ (z : (node_in sizes past x).who ≡ 0). omega (arith, z, same, next, some))
      (λ (l : (node_in sizes past x).who < (state sizes past).drawn). omega (arith, l, same, next)) (c.who x)

  pub new_closed : (pass_in sizes (past ++ e ∷ []) e.caller).is_open ≡ false
  new_closed =
      let same : pass_in sizes (past ++ e ∷ []) e.caller ≡ pass_in sizes past e.caller = ap
      (λ (s : State). s.pass e.caller) (after_as sizes past e kept DrawNumber is) in
      ap (λ (q : Pass). q.is_open) same ∙ by (pass_in sizes past e.caller).is_open refl
    where
      by : (b : Bool) → (pass_in sizes past e.caller).is_open ≡ b → b ≡ false
      by true o = let h = (are_drawn sizes past before).pass e.caller o in absurd (omega (arith, h, next))
      by false o = refl

  pub new_unfresh : (x : ℕ) → IsFreshWith sizes (past ++ e ∷ []) e.caller x → ⊥
  new_unfresh x f = not_mine x (λ h. let m = sym (ap (λ (v : Node). v.mode) (node_same x)) ∙ f.fresh in absurd (cc))
      (sym (ap (λ (v : Node). v.who) (node_same x)) ∙ f.mine)

  pub new_unspent : (x : ℕ) → IsSpentWith sizes (past ++ e ∷ []) e.caller x → ⊥
  new_unspent x f = not_mine x (λ h. let m = sym (ap (λ (v : Node). v.mode) (node_same x)) ∙ f.spent in absurd (cc))
      (sym (ap (λ (v : Node). v.who) (node_same x)) ∙ f.mine)

  pub new_quiet : IsQuiet past e.caller 0
  new_quiet = record {
    none = λ k d le at same. let h = called sizes past before k d at in omega
        (arith, h, same, next);
  }

  pub new_made : (test : Kind → Bool) → test DrawNumber ≡ false → made test e.caller (past ++ e ∷ []) ≡ 0
  new_made test other =
      let nothing : made test e.caller past ≡ 0 = made_quiet test e.caller 0 [] past
      (record { rest = past; whole = refl }) (omega arith) new_quiet in
      made_none test e.caller past e (ap test is ∙ other) ∙ nothing
