-- A call loaded the epoch, and opened its pass, closed it, or moved the epoch on.
use Rattle.std.proofs.Common.{◌≡◌, ◌≢◌, ◌⊎◌, ℕ, ◌+◌, ◌<◌, ◌≤◌, Bool, true, false, List, [], ◌∷◌, ◌++◌, Some, refl, sym}
use Rattle.std.proofs.Common.{ap, ap₂, ◌∙◌, subst, arith, ⊎_elim}
use Rattle.std.proofs.lemmas.Bool.{cases_lt}
use Rattle.packed_link.specs.Layout.{Sizes, announce_at, epoch_at}
use Rattle.core_journal.specs.declared.event.Event.{Event}
use Rattle.core_journal.specs.Event.{moves}
use Rattle.core_journal.specs.Machine.{word_at}
use Rattle.core_journal.specs.Prefix.{IsPrefix}
use Rattle.core_journal.specs.Reuse.{pass_in}
use Rattle.core_journal.specs.State.{Pass}
use Rattle.core_journal.proofs.Lists.{prefix_refl, prefix_trans}
use Rattle.core_kept.specs.Counts.{made, most_moves}
use Rattle.core_kept.specs.Kept.{IsKept}
use Rattle.core_kept.specs.Passes.{IsChecked}
use Rattle.core_lists.proofs.EventKeepsRest.{pass_opened, pass_closed}
use Rattle.core_rule.specs.Fronts.{MayAnnounce, MayMoveEpoch}
use Rattle.core_rule.specs.OwnEvents.{announce_event, move_event, withdraw_event}
use Rattle.core_rule.specs.Plays.{IsSound, Looked, Stored, Won}
use Rattle.core_rule.specs.Views.{Steps}
use Rattle.core_rule.specs.declared.view.View.{View}
use Rattle.core_rule.proofs.ViewShows.{store_steps}
use Rattle.core_stretches.specs.Holdings.{HasNoPass}
use Rattle.core_stretches.specs.Makes.{IsLater, Makes}
use Rattle.core_stretches.proofs.MakesAddUp.{makes_chain, makes_look, makes_stored, makes_won}
use Rattle.core_stretches.proofs.MakesTell.{makes_counts, makes_goes, makes_later}
use Rattle.graph_table.specs.Table.{Missed}
use Rattle.graph_table.specs.Tokens.{TableValue, TokenValue, IsOf}
use Rattle.epoch_limbo.specs.Advances.{IsAdvanceLost, IsHeldBy, IsMoved}
use Rattle.epoch_limbo.specs.Passes.{EpochIs, IsOpened}

-- the epoch is this one at a view's front, and the token made nothing until then
pub record SawEpoch (v m : View) (epoch : ℕ) : Type 0 where
  pub makes : Makes v [] m
  pub later : IsLater v m
  pub word : EpochIs v epoch m.front

pub has_seen : (v m : View) (at epoch : ℕ) → v.numbered ≡ true → IsSound v → Looked v at epoch m → at ≡ epoch_at v.sizes
    → SawEpoch v m epoch
has_seen v m at epoch has s l at_is =
    let makes = makes_look v m at epoch has s l in
    record {
      makes = makes;
      later = makes_later v m [] makes;
      word = ap (word_at v.sizes m.front) (sym at_is)
          ∙ sym l.word;
    }

-- a token without a pass has none after it made nothing
closed_still : (v m : View) → Makes v [] m → HasNoPass v → HasNoPass m
closed_still v m makes closed =
    let g = makes_goes v m [] tt makes in
    let t = makes_later v m [] makes in
    ap₂ (λ (z : Sizes) (n : ℕ). (pass_in z m.front n).is_open) t.sizes t.number ∙
    (ap (λ (p : Pass). p.is_open) g.pass ∙ closed)

-- the pass behind a store of an event
pass_is : (b : Bool) (v w : View) (e : Event) → (t : Steps v (Some e) w) →
    (pass_in v.sizes (t.grown ++ e ∷ []) v.number).is_open ≡ b → (pass_in w.sizes w.front w.number).is_open ≡ b
pass_is b v w e t is = subst (λ (u : View). (pass_in u.sizes u.front u.number).is_open ≡ b) (sym t.view)
    (subst (λ (j : List Event). (pass_in v.sizes j v.number).is_open ≡ b) (sym t.front) is)

kept_is : (v w : View) (e : Event) → (t : Steps v (Some e) w) → IsKept v.sizes (t.grown ++ e ∷ [])
kept_is v w e t = subst (λ (j : List Event). IsKept v.sizes j) t.front t.kept

-- the epoch that was loaded may be announced
pub may_announce : (v m : View) (epoch : ℕ) → SawEpoch v m epoch → v.number < v.sizes.callers → HasNoPass v
    → MayAnnounce m epoch
may_announce v m epoch h there closed = record {
  there = let s = ap (λ (z : Sizes). z.callers) h.later.sizes in let n = h.later.number in omega (arith, s, n, there);
  loaded = m.front;
  before = prefix_refl m.front;
  word = ap (λ (z : Sizes). word_at z m.front (epoch_at z)) h.later.sizes ∙ h.word;
  closed = closed_still v m h.makes closed;
}

pub is_opened : (v m w : View) (epoch : ℕ) → SawEpoch v m epoch → v.numbered ≡ true → IsSound m → Stored m
    (announce_event m epoch) w → IsOpened v w
is_opened v m w epoch h has s st =
    let e = announce_event m epoch in
    let number = h.later.numbered ∙ has in
    let one = makes_stored m w e number s refl st in
    let same : e ≡ announce_event v epoch = ap₂ (λ (z : Sizes) (n : ℕ). announce_event
    (record v { sizes = z; number = n }) epoch) h.later.sizes h.later.number in
    let t = store_steps m e w number s st in
    record {
      epoch = epoch;
      loaded = m.front;
      found = record { since = h.later.grows; until = (makes_later m w (e ∷ []) one).grows; holds = h.word };
      makes = subst (λ (x : Event). Makes v (x ∷ []) w) same (makes_chain v m w [] (e ∷ []) h.makes one);
      last = record { past = st.grown; front = st.front ∙ ap (λ (x : Event). st.grown ++ x ∷ []) same };
      opened = pass_is true m w e t (pass_opened m.sizes t.grown e (kept_is m w e t) refl).0;
    }

-- a pass is closed
pub makes_closed : (v w : View) → v.numbered ≡ true → IsSound v → Stored v (withdraw_event v) w → Makes v
    (withdraw_event v ∷ []) w
makes_closed v w has s st = makes_stored v w (withdraw_event v) has s refl st

pub is_closed : (v w : View) → v.numbered ≡ true → IsSound v → Stored v (withdraw_event v) w → HasNoPass w
is_closed v w has s st =
    let e = withdraw_event v in
    let t = store_steps v e w has s st in
    pass_is false v w e t (pass_closed v.sizes t.grown e (kept_is v w e t) refl)

-- after the load of the epoch the announcements of so many callers were found to be none or newer
pub record HasChecked (g : TableValue) (v : View) (epoch : ℕ) (loaded : List Event) (n : ℕ)
    (t : TokenValue) : Type 0 where
  pub of : IsOf g t
  pub makes : Makes v [] t.view
  pub since : IsPrefix v.front loaded
  pub before : IsPrefix loaded t.view.front
  pub word : EpochIs v epoch loaded
  pub each : (i : ℕ) → i < n → IsChecked v.sizes loaded t.view.front epoch i

pub checks_begin : (g : TableValue) (v : View) (t : TokenValue) (epoch : ℕ) → IsOf g t → SawEpoch v t.view epoch
    → HasChecked g v epoch t.view.front 0 t
checks_begin g v t epoch of h = record {
  of = of;
  makes = h.makes;
  since = h.later.grows;
  before = prefix_refl
      t.view.front;
  word = h.word;
  each = λ i low. absurd (omega (arith, low));
}

-- a checked caller is so at a later front
checked_later : (z : Sizes) (loaded front journal : List Event) (epoch i : ℕ) → IsPrefix front journal
    → IsChecked z loaded front epoch i → IsChecked z loaded journal epoch i
checked_later z loaded front journal epoch i p c = record {
  moment = c.moment;
  after = c.after;
  before = prefix_trans
      c.moment front journal c.before p;
  clear = c.clear;
}

module _ (g : TableValue) (v : View) (epoch : ℕ) (loaded : List Event) (n : ℕ) (t : TokenValue)
    (has : v.numbered ≡ true) (h : HasChecked g v epoch loaded n t) where
  then : IsLater v t.view
  then = makes_later v t.view [] h.makes

  has_number : t.view.numbered ≡ true
  has_number = then.numbered ∙ has

  -- the announcement of the next caller was loaded
  module _ (u : TokenValue) (at word : ℕ) (of : IsOf g u) (l : Looked t.view at word u.view)
      (at_is : at ≡ announce_at v.sizes n) where
    look : Makes t.view [] u.view
    look = makes_look t.view u.view at word has_number h.of.sound l

    word_is : word ≡ word_at v.sizes u.view.front (announce_at v.sizes n)
    word_is = l.word ∙ ap₂ (λ (z : Sizes) (p : ℕ). word_at z u.view.front p) then.sizes at_is

    pub checks_more : (word ≡ 0) ⊎ (epoch + 1 ≤ word) → HasChecked g v epoch loaded (n + 1) u
    checks_more clear =
        let before = prefix_trans loaded t.view.front u.view.front h.before l.grows in
        record {
          of = of;
          makes = makes_chain v t.view u.view [] [] h.makes look;
          since = h.since;
          before = before;
          word = h.word;
          each = λ i low. ⊎_elim
              (λ (old : i < n). checked_later v.sizes loaded t.view.front u.view.front epoch i l.grows (h.each i old))
              (λ (new : n ≤ i).
              let i_is : n ≡ i = omega (arith, low, new) in
              subst (λ (k : ℕ). IsChecked v.sizes loaded u.view.front epoch k) i_is (record {
                moment = u.view.front;
                after = before;
                before = prefix_refl u.view.front;
                clear = subst (λ (x : ℕ). (x ≡ 0) ⊎ (epoch + 1 ≤ x)) word_is clear;
              }))
              (cases_lt i n);
        }

    pub held_by : n < v.sizes.callers → word ≢ 0 → word ≤ epoch → IsHeldBy v u.view n
    held_by there some older = record {
      epoch = epoch;
      loaded = loaded;
      found = record {
        since = h.since;
        until = prefix_trans loaded t.view.front u.view.front h.before l.grows;
        holds =
            h.word;
      };
      makes = makes_chain v t.view u.view [] [] h.makes look;
      there = there;
      before = λ i low. checked_later v.sizes loaded t.view.front u.view.front epoch i l.grows (h.each i low);
      some = λ none. some (word_is ∙ none);
      older = subst (λ (x : ℕ). x ≤ epoch) word_is older;
    }

  -- all callers were checked
  module _ (all : v.sizes.callers ≤ n) where
    pub may_move : v.number < v.sizes.callers → HasNoPass v → made moves v.number v.front < most_moves
        → MayMoveEpoch t.view epoch
    may_move there closed few = record {
      there = let s = ap (λ (z : Sizes). z.callers) then.sizes in let k = then.number in omega (arith, s, k, there);
      loaded = loaded;
      before = h.before;
      word = ap (λ (z : Sizes). word_at z loaded (epoch_at z)) then.sizes ∙ h.word;
      checked = λ i low. let s = ap (λ (z : Sizes). z.callers) then.sizes in
          subst (λ (z : Sizes). IsChecked z loaded t.view.front epoch i) (sym then.sizes)
          (h.each i (omega (arith, low, s, all)));
      closed = closed_still v t.view h.makes closed;
      limit = let c = makes_counts moves v t.view [] h.makes in omega (arith, c, few);
    }

    pub is_moved : (w : View) (place : ℕ) → Won t.view place epoch (move_event t.view epoch) w → IsMoved v w
    is_moved w place won =
        let e = move_event t.view epoch in
        let one = makes_won t.view w place epoch e has_number h.of.sound refl won in
        let same : e ≡ move_event v epoch = ap₂ (λ (z : Sizes) (k : ℕ). move_event
        (record v { sizes = z; number = k }) epoch) then.sizes then.number in
        let grows = (makes_later t.view w (e ∷ []) one).grows in
        record {
          epoch = epoch;
          loaded = loaded;
          found = record {
            since = h.since;
            until = prefix_trans loaded t.view.front w.front h.before grows;
            holds =
                h.word;
          };
          checked = λ i low. checked_later v.sizes loaded t.view.front w.front epoch i grows
              (h.each i (omega (arith, low, all)));
          makes = subst (λ (x : Event). Makes v (x ∷ []) w) same (makes_chain v t.view w [] (e ∷ []) h.makes one);
          last = record { past = won.grown; front = won.front ∙ ap (λ (x : Event). won.grown ++ x ∷ []) same };
        }

    pub advance_lost : (w : View) (found place : ℕ) → place ≡ epoch_at v.sizes → Missed t.view place epoch found w
        → IsAdvanceLost v w
    advance_lost w found place place_is missed =
        let one = makes_look t.view w place found has_number h.of.sound missed.looked in
        let is : found ≡ word_at v.sizes w.front (epoch_at v.sizes) = missed.looked.word ∙ ap₂
        (λ (z : Sizes) (p : ℕ). word_at z w.front p) then.sizes place_is in
        record {
          epoch = epoch;
          loaded = loaded;
          found = record {
            since = h.since;
            until = prefix_trans loaded t.view.front w.front h.before
                missed.looked.grows;
            holds = h.word;
          };
          makes = makes_chain v t.view w [] [] h.makes one;
          moved = λ same. missed.other (is ∙ same);
        }
