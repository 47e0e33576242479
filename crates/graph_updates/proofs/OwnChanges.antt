-- How many own events that changed the graph a stretch of a call has, and where the one stands that carried the call
-- out.
use Rattle.std.proofs.Common.{◌≡◌, ℕ, ◌+◌, ◌<◌, ◌≤◌, true, false, List, [], ◌∷◌, ◌++◌, length, take, None, Bool}
use Rattle.std.proofs.Common.{Some, inl, inr, refl, sym, ap, ◌∙◌, subst, arith, append_assoc, append-nil, length-append}
use Rattle.std.proofs.Common.{⊎_elim}
use Rattle.std.specs.Prelude.{slice_get}
use Rattle.std.proofs.lemmas.Bool.{cases_lt}
use mathlib.Core.Logic.{dite}
use native.Mathlib.Decide.{ℕ_discrete}
use Rattle.graph_kinds.specs.declared.call.Call.{Call}
use Rattle.packed_link.specs.Layout.{IsLayout}
use Rattle.core_journal.specs.declared.event.Event.{Event}
use Rattle.core_journal.specs.GraphOf.{changes, graph_of}
use Rattle.core_journal.specs.Passing.{changes_made, is_own_change}
use Rattle.core_journal.specs.Prefix.{IsPrefix}
use Rattle.core_journal.proofs.Calls.{altered}
use Rattle.core_journal.proofs.EachIsCounted.{other_change, own_change, own_only, passing_one, passing_other}
use Rattle.core_journal.proofs.Lists.{get_front, get_here, prefix_length, prefix_trans, take_front, take_here}
use Rattle.core_journal.proofs.Regular.{changes_yes}
use Rattle.core_rule.specs.Stretches.{Leaves, Own}
use Rattle.core_rule.specs.Views.{Steps}
use Rattle.core_rule.specs.declared.view.View.{View}
use Rattle.core_rule.proofs.OwnStretch.{own_chain, own_event, own_look}
use Rattle.core_rule.proofs.ViewShows.{step_view}
use Rattle.core_stretches.specs.Makes.{Makes}
use Rattle.core_stretches.specs.Moments.{Carries}
use Rattle.core_stretches.proofs.MakesTell.{makes_later}
use Rattle.graph_updates.specs.Parts.{CarriesOutBy, LeavesGraph}

-- a caller that leaves the graph behind a past made as many changes as before
left_from : (caller : ℕ) (past rest : List Event) → ((p : ℕ) (e : Event) → length past ≤ p
    → slice_get (past ++ rest) p ≡ Some e → e.caller ≡ caller → changes (take p (past ++ rest)) e ≡ false)
    → changes_made caller (past ++ rest) ≡ changes_made caller past
left_from caller past [] h = ap (changes_made caller) (append-nil past)
left_from caller past (e ∷ es) h =
    let whole : (past ++ e ∷ []) ++ es ≡ past ++ e ∷ es = append_assoc past (e ∷ []) es in
    let here : e.caller ≡ caller → changes past e ≡ false = λ by. subst (λ (l : List Event). changes l e ≡ false)
    (take_here past (e ∷ es)) (h (length past) e (omega arith) (get_here past e es) by) in
    let first : changes_made caller (past ++ e ∷ []) ≡ changes_made caller past = passing_other
    (is_own_change caller) past e (other_change caller past e
    (dite (ℕ_discrete e.caller caller) (λ by. inr (here by)) (λ apart. inl apart))) in
    let more = left_from caller (past ++ e ∷ []) es
    (subst (λ (l : List Event). (p : ℕ) (d : Event) → length (past ++ e ∷ []) ≤ p → slice_get l p ≡ Some d
    → d.caller ≡ caller → changes (take p l) d ≡ false) (sym whole)
    (λ p d far at by. h p d (omega (arith, far, length-append past (e ∷ []))) at by)) in
    ap (changes_made caller) (sym whole) ∙ (more ∙ first)

pub left_count : (v w : View) → IsPrefix v.front w.front → w.number ≡ v.number → Own Leaves v w
    → changes_made w.number w.front ≡ changes_made v.number v.front
left_count v w p number o = ap (λ (n : ℕ). changes_made n w.front) number
    ∙ (ap (changes_made v.number) (sym p.whole) ∙ left_from v.number v.front p.rest
    (subst (λ (l : List Event). (k : ℕ) (e : Event) → length v.front ≤ k → slice_get l k ≡ Some e
    → e.caller ≡ v.number → changes (take k l) e ≡ false) (sym p.whole) o.each))

-- a stretch that leaves the graph
pub leaves_own : (r : Bool) (a b : ℕ) (v w : View) → IsLayout v.sizes → LeavesGraph r a b v w → Own Leaves v w
leaves_own r a b v w z h = h.leaves z

-- an own event with which a front ends stands behind a past in which no other own one stands since the view before it
module _ (before done : View) (event : Event) (makes : Makes before (event ∷ []) done) (past : List Event)
    (front : done.front ≡ past ++ event ∷ []) (by : event.caller ≡ done.number) where
  -- the view right after the event, and the steps to it and from it
  abbrev then : View
  then = makes.steps.0

  abbrev step : Steps before (Some event) then
  step = makes.steps.2

  abbrev look : Steps then None done
  look = makes.steps.3

  done_later : IsPrefix then.front done.front
  done_later = (makes_later then done [] (record { steps = look })).grows

  then_length : length then.front ≡ length step.grown + 1
  then_length = ap length step.front ∙ length-append step.grown (event ∷ [])

  done_length : length done.front ≡ length past + 1
  done_length = ap length front ∙ length-append past (event ∷ [])

  same_number : done.number ≡ before.number
  same_number = (makes_later before done (event ∷ []) makes).number

  then_number : then.number ≡ before.number
  then_number = (step_view before then (Some event) step).1

  -- the event is the last of the view's front
  pub last_at : slice_get done.front (length past) ≡ Some event
  last_at = subst (λ (l : List Event). slice_get l (length past) ≡ Some event) (sym front)
      (get_here past event [])

  past_length : length past ≡ length step.grown
  past_length =
      let longer = prefix_length then.front done.front done_later in
      let n = then_length in
      let m = done_length in
      ⊎_elim
      (λ (low : length past < length then.front). omega (arith, low, longer, n, m))
      (λ (high : length then.front ≤ length past). absurd ((own_look (λ _ _. ⊥) then done look).each (length past)
      event high last_at (by ∙ (same_number ∙ sym then_number))))
      (cases_lt (length past) (length then.front))

  past_is : past ≡ step.grown
  past_is =
      let p = done_later in
      let low : length past ≤ length then.front = omega (arith, past_length, then_length) in
      let short : length step.grown ≤ length (step.grown ++ event ∷ []) = omega (
        arith,
        length-append step.grown
            (event ∷ []),
      ) in
      sym (take_here past (event ∷ []))
      ∙ (ap (take (length past)) (sym front ∙ sym p.whole)
      ∙ (take_front then.front p.rest (length past) low
      ∙ (ap (λ (n : ℕ). take n then.front) past_length
      ∙ (ap (take (length step.grown)) step.front ∙ take_here step.grown (event ∷ [])))))

  -- the view with the front right before the event
  abbrev pub until : View
  until = record before { front = past }

  pub until_grows : IsPrefix before.front past
  until_grows = subst (IsPrefix before.front) (sym past_is) step.reaches.front

  -- no own event stands between
  until_leaves : Own Leaves before until
  until_leaves = record {
    each = λ k e far at by. absurd (step.reaches.quiet.none k e
        (let o = step.reaches.old in omega (arith, o, far))
        (subst (λ (l : List Event). slice_get l k ≡ Some e) past_is at) by);
  }

  pub past_within : IsPrefix past done.front
  past_within = record { rest = event ∷ []; whole = sym front }

  -- if it leaves the graph, all own events up to it do
  pub leaves_there : changes past event ≡ false → Own Leaves before done
  leaves_there none = own_chain Leaves before then done then_number done_later
      (own_event Leaves before then event step (subst (λ (l : List Event). changes l event ≡ false) past_is none))
      (own_look Leaves then done look)

module _ (before done : View) (call : Call) (event : Event) (makes : Makes before (event ∷ []) done)
    (c : Carries call event done) where
  pub turned : changes c.past event ≡ true
  turned = changes_yes c.past event (λ same. altered (graph_of c.past) call c.alters
      (sym c.leads ∙ (ap graph_of c.front ∙ same)))

  -- one change more
  pub one_count : changes_made done.number done.front ≡ changes_made before.number before.front + 1
  one_count =
      let by : event.caller ≡ before.number = c.by ∙ same_number before done event makes c.past c.front c.by in
      let one : changes_made before.number (c.past ++ event ∷ []) ≡ changes_made before.number c.past + 1 = passing_one
      (is_own_change before.number) c.past event (own_change before.number c.past event by turned) in
      let until_same : changes_made before.number c.past ≡ changes_made before.number before.front = left_count before
      (until before done event makes c.past c.front c.by) (until_grows before done event makes c.past c.front c.by) refl
      (until_leaves before done event makes c.past c.front c.by) in
      ap (λ (n : ℕ). changes_made n done.front) (same_number before done event makes c.past c.front c.by)
      ∙ (ap (changes_made before.number) c.front ∙ (one ∙ ap (λ (n : ℕ). n + 1) until_same))

-- in a stretch that carries a call out the caller changed the graph once
module _ (r : Bool) (call : Call) (a b : ℕ) (v m : View) (at : List Event) (z : IsLayout v.sizes)
    (h : CarriesOutBy r call a b v m at) where
  first_later : IsPrefix v.front h.before.front
  first_later = (makes_later v h.before h.first.own h.first.makes).grows

  pub past_since : IsPrefix v.front h.carries.past
  past_since = prefix_trans v.front h.before.front h.carries.past first_later
      (until_grows h.before h.done h.event h.makes h.carries.past h.carries.front h.carries.by)

  pub past_until : IsPrefix h.carries.past m.front
  past_until = prefix_trans h.carries.past h.done.front m.front
      (past_within h.before h.done h.event h.makes h.carries.past h.carries.front h.carries.by)
      (makes_later h.done m h.last.own h.last.makes).grows

  pub at_until : IsPrefix at m.front
  at_until = subst (λ (l : List Event). IsPrefix l m.front) (sym h.at_is)
      (makes_later h.done m h.last.own h.last.makes).grows

  pub at_length : length at ≡ length h.carries.past + 1
  at_length = ap length h.at_is ∙ (ap length h.carries.front ∙ length-append h.carries.past (h.event ∷ []))

  done_sizes : h.done.sizes ≡ v.sizes
  done_sizes = (makes_later h.before h.done (h.event ∷ []) h.makes).sizes
      ∙ (makes_later v h.before h.first.own h.first.makes).sizes

  pub done_number : h.done.number ≡ v.number
  done_number = (makes_later h.before h.done (h.event ∷ []) h.makes).number
      ∙ (makes_later v h.before h.first.own h.first.makes).number

  pub carried_count : changes_made m.number m.front ≡ changes_made v.number v.front + 1
  carried_count =
      let zd = subst IsLayout (sym done_sizes) z in
      let f = makes_later v h.before h.first.own h.first.makes in
      let l = makes_later h.done m h.last.own h.last.makes in
      let first = left_count v h.before f.grows f.number (leaves_own r a 0 v h.before z h.first) in
      let last = left_count h.done m l.grows l.number (leaves_own r 0 b h.done m zd h.last) in
      last ∙ (one_count h.before h.done call h.event h.makes h.carries ∙ ap (λ (n : ℕ). n + 1) first)

  -- its event stands behind the past of its front, in each longer journal
  module _ (journal : List Event) (p : IsPrefix m.front journal) where
    long : IsPrefix h.done.front journal
    long = prefix_trans h.done.front m.front journal (makes_later h.done m h.last.own h.last.makes).grows p

    pub event_at : slice_get journal (length h.carries.past) ≡ Some h.event
    event_at = subst (λ (l : List Event). slice_get l (length h.carries.past) ≡ Some h.event) long.whole
        (get_front h.done.front long.rest (length h.carries.past) h.event
        (last_at h.before h.done h.event h.makes h.carries.past h.carries.front h.carries.by))

    pub event_past : take (length h.carries.past) journal ≡ h.carries.past
    event_past =
        let q = prefix_trans h.carries.past m.front journal past_until p in
        ap (take (length h.carries.past)) (sym q.whole) ∙ take_here h.carries.past q.rest

    pub event_by : h.event.caller ≡ v.number
    event_by = h.carries.by ∙ done_number

    pub event_turns : changes (take (length h.carries.past) journal) h.event ≡ true
    event_turns = ap (λ (l : List Event). changes l h.event) event_past
        ∙ turned h.before h.done call h.event h.makes h.carries

    -- and it's the only own one that changes the graph
    pub only_there : changes_made v.number journal ≡ changes_made v.number v.front + 1 → (k : ℕ) (e : Event)
        → length v.front ≤ k → slice_get journal k ≡ Some e → e.caller ≡ v.number → changes (take k journal) e ≡ true
        → k ≡ length h.carries.past
    only_there one k e far is by turns = own_only v.number v.front journal
        (prefix_trans v.front m.front journal (prefix_trans v.front h.carries.past m.front past_since past_until) p) one
        (length h.carries.past) k h.event e (prefix_length v.front h.carries.past past_since) event_at event_by
        event_turns far is by turns
