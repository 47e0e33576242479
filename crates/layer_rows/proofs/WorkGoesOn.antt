-- What a token knows between the calls of a row stays over what it makes.
use Rattle.std.proofs.Common.{◌≡◌, ◌≢◌, ℕ, ◌+◌, ◌<◌, true, false, List, [], ◌∷◌, ◌++◌, None, Bool, ◌||◌, eqb, eqb-true}
use Rattle.std.proofs.Common.{refl, sym, ap, ap₂, ◌∙◌, subst, arith, ⊎_elim}
use Rattle.graph_kinds.specs.Levels.{stands_in}
use Rattle.graph_kinds.specs.History.{Every}
use Rattle.packed_link.specs.Layout.{Sizes, IsLayout}
use Rattle.packed_link.specs.declared.link.Life.{Life}
use Rattle.core_journal.specs.declared.event.Kind.TheVariants.{FreezeHead, PopFree}
use Rattle.core_journal.specs.declared.event.Event.{Event}
use Rattle.core_journal.specs.Event.{pops, moves, unlinks}
use Rattle.core_journal.specs.Reuse.{pass_in}
use Rattle.core_journal.specs.State.{Pass}
use Rattle.core_kept.specs.Nodes.{IsSpentWith}
use Rattle.core_counts.specs.Spending.{GetsNone}
use Rattle.core_kept.specs.Counts.{made}
use Rattle.core_kept.specs.Kept.{IsKept}
use Rattle.core_counts.specs.Spending.{acts}
use Rattle.core_counts.proofs.IdleCallers.{has_nothing}
use Rattle.core_lists.proofs.NewNumbers.{new_made}
use Rattle.core_rule.specs.OwnEvents.{pop_event, store_event}
use Rattle.core_rule.specs.Plays.{Drew, draw_event}
use Rattle.core_rule.specs.Stretches.{HasPass}
use Rattle.core_rule.specs.declared.view.View.{View}
use Rattle.core_stretches.specs.Holdings.{HasGotOnly, IsHeldFresh}
use Rattle.core_stretches.specs.Makes.{Makes, StaysInPass, of_kinds}
use Rattle.core_stretches.proofs.HoldingsStay.{makes_fresh_by_kind, makes_got, makes_got_unlink, makes_none}
use Rattle.core_stretches.proofs.MakesTell.{makes_counts, makes_goes, makes_later}
use Rattle.core_stretches.specs.Moments.{Has, HoldsBetween}
use Rattle.core_journal.specs.Prefix.{IsPrefix}
use Rattle.core_journal.proofs.Lists.{prefix_trans}
use Rattle.vertex_list.specs.declared.walks.Found.TheVariants.{Here}
use Rattle.vertex_list.specs.declared.walks.Sighting.{Sighting}
use Rattle.table_calls.specs.Resting.{IsResting}
use Rattle.layer_rows.specs.Rows.{HasSpentNone, IsAtWork, IsBuilding, IsIdle, moved_by, taken_by}
use Rattle.vertex_calls.specs.Causes.{IsWalked}

pub number_on : (v w : View) (own : List Event) → Makes v own w → v.numbered ≡ true → w.numbered ≡ true
number_on v w own m has = (makes_later v w own m).numbered ∙ has

pub there_on : (v w : View) (own : List Event) → Makes v own w → v.number < v.sizes.callers → w.number < w.sizes.callers
there_on v w own m there =
    let h = makes_later v w own m in
    subst (λ (s : Sizes). w.number < s.callers) (sym h.sizes)
    (subst (λ (n : ℕ). n < v.sizes.callers) (sym h.number) there)

pub pass_on : (v w : View) (own : List Event) → Every StaysInPass own → Makes v own w → HasPass v → HasPass w
pass_on v w own every m is =
    let g = makes_goes v w own every m in
    ap (λ (u : View). (pass_in u.sizes u.front u.number).is_open) g.view ∙ (ap (λ (p : Pass). p.is_open) g.pass ∙ is)

-- a token that has spent none has got none since its own front
got_none : (v : View) → HasSpentNone v → HasGotOnly v.front v None []
got_none v h = record {
  finished = record { each = λ x but spent. absurd (h.none x (record { spent = spent.spent; mine = spent.mine })) };
  holder = tt;
  old = λ y spent. absurd (h.none y spent);
}

-- an event that unlinks nothing and closes no list gets the token no node
pub gets_none : (e : Event) → unlinks e.kind ≡ false → e.kind ≢ FreezeHead → GetsNone None e
gets_none e not other = record { unlinks = not; closes = λ is. absurd (other is); gives = λ b. absurd b }

pub unspent_on : (v w : View) (own : List Event) → IsLayout v.sizes → Every (GetsNone None) own → Makes v own w
    → HasSpentNone v → HasSpentNone w
unspent_on v w own z every m h =
    let got = makes_got v w own z v.front None [] every m (got_none v h) in
    let l = makes_later v w own m in
    record {
      none = λ y spent. ⊎_elim
          (λ known. ⊎_elim
          (λ (old : IsSpentWith w.sizes v.front w.number y). h.none y
          (subst (λ (s : Sizes). IsSpentWith s v.front v.number y) l.sizes
          (subst (λ (n : ℕ). IsSpentWith w.sizes v.front n y) l.number old)))
          (λ is. absurd (cc)) known)
          (λ part. absurd part) (got.old y spent);
    }

-- a token that never moved the epoch on
pub unmoved_on : (v w : View) (own : List Event) → of_kinds moves own ≡ 0 → Makes v own w → moved_by v ≡ 0
    → moved_by w ≡ 0
unmoved_on v w own none m is = let c = makes_counts moves v w own m in omega (arith, c, none, is)

-- a node that is held now is the token's own
pub building_on : (v w : View) (own : List Event) (x : Life) → IsLayout v.sizes → Every StaysInPass own
    → Every (GetsNone None) own → of_kinds moves own ≡ 0 → Makes v own w → v.numbered ≡ true
    → v.number < v.sizes.callers → HasPass v → HasSpentNone v → moved_by v ≡ 0 → IsHeldFresh w x → IsBuilding w x
building_on v w own x z stays gets none m has there pass unspent unmoved held = record {
  holding = record {
    numbered = number_on v w own m has;
    there = there_on v w own m there;
    pass = pass_on v w own stays m pass;
    held = record { life = held.life; fresh = held.fresh };
  };
  unspent = unspent_on v w own z gets m unspent;
  unmoved = unmoved_on v w own none m unmoved;
}

-- taking a node begins building
pub building_begins : (v w : View) (seen next : ℕ) (x : Life) → IsLayout v.sizes → Makes v
    (pop_event v seen next ∷ []) w
    → IsHeldFresh w x → IsAtWork v → IsBuilding w x × (taken_by w ≡ taken_by v + 1)
building_begins v w seen next x z m held h = (
  building_on v w (pop_event v seen next ∷ []) x z (((λ y. absurd (cc)), (λ y. absurd (cc))), tt)
      (gets_none (pop_event v seen next) refl (λ y. absurd (cc)), tt) refl m h.resting.numbered h.resting.there
      h.resting.pass h.unspent h.unmoved held,
  makes_counts pops v w (pop_event v seen next ∷ []) m,
)

-- loads leave it
pub building_loads : (v w : View) (x : Life) → IsLayout v.sizes → Makes v [] w → IsBuilding v x → IsBuilding w x
building_loads v w x z m b =
    let f : IsHeldFresh v x = record { life = b.holding.held.life; fresh = b.holding.held.fresh } in
    building_on v w [] x z tt tt refl m b.holding.numbered b.holding.there b.holding.pass b.unspent b.unmoved
    (makes_fresh_by_kind v w [] z x tt m f).0

pub taken_loads : (v w : View) → Makes v [] w → taken_by w ≡ taken_by v
taken_loads v w m = let c = makes_counts pops v w [] m in omega (arith, c)

-- stores to a fresh node stay in the pass, and get the token no node
pub store_stays : (v : View) (x : Life) (field word : ℕ) → StaysInPass (store_event v x field word)
store_stays v x field word = ((λ y. absurd (cc)), (λ y. absurd (cc)))

pub store_gets : (v : View) (x : Life) (field word : ℕ) → GetsNone None (store_event v x field word)
store_gets v x field word = gets_none (store_event v x field word) refl (λ y. absurd (cc))

-- a token that drew its number has spent none
pub begins_unspent : (v w : View) (found : ℕ) → IsLayout w.sizes → Drew v found w → HasSpentNone w
begins_unspent v w found z d =
    let e = draw_event found in
    let number : w.number ≡ found = ap (λ (x : View). x.number) d.view in
    let kept : IsKept w.sizes (d.grown ++ e ∷ []) = subst (λ (j : List Event). IsKept w.sizes j) d.front d.sound.kept in
    let none : made acts w.number w.front ≡ 0 = ap₂ (made acts) number d.front
    ∙ new_made w.sizes d.grown e kept refl acts refl in
    record { none = λ x spent. (has_nothing w.sizes z w.front d.sound.kept w.number none).spent x spent }

-- an event that takes no node leaves a token resting, in a pass or not
pub rests_on : (was now : Bool) (v w : View) (e : Event) → IsLayout v.sizes → e.kind ≢ PopFree → Makes v (e ∷ []) w
    → (pass_in w.sizes w.front w.number).is_open ≡ now → IsResting was v → IsResting now w
rests_on was now v w e z takes m pass h = record {
  numbered = number_on v w (e ∷ []) m h.numbered;
  there = there_on v w (e ∷ []) m h.there;
  pass = pass;
  bare = makes_none v w (e ∷ []) z (takes, tt) m h.bare;
}

-- and idle, where it gets it no node and moves no epoch
pub idle_on : (v w : View) (e : Event) → IsLayout v.sizes → GetsNone None e → of_kinds pops (e ∷ []) ≡ 0
    → of_kinds moves (e ∷ []) ≡ 0 → Makes v (e ∷ []) w → IsIdle v w
idle_on v w e z gets no_pop no_move m = record {
  unspent = unspent_on v w (e ∷ []) z (gets, tt) m;
  taken = let c = makes_counts pops v w (e ∷ []) m in omega (arith, c, no_pop);
  moved = let c = makes_counts moves v w (e ∷ []) m in omega (arith, c, no_move);
}

-- a token that rests in its pass and is idle is at work where it was
pub work_idle : (v w : View) → IsResting true w → IsIdle v w → HasSpentNone v → moved_by v ≡ 0 → IsAtWork w
work_idle v w h idle unspent unmoved = record {
  resting = h;
  unspent = idle.unspent unspent;
  unmoved = idle.moved ∙ unmoved;
}

-- an own unlink is the only thing that the token spent
pub only_one : (v w : View) (e : Event) → IsLayout v.sizes → HasSpentNone v → unlinks e.kind ≡ true
    → Makes v (e ∷ []) w → (y : ℕ) → IsSpentWith w.sizes w.front w.number y → y ≡ e.life.index
only_one v w e z h is m y spent =
    let got = makes_got_unlink v w e z v.front None [] is m (got_none v h) in
    let l = makes_later v w (e ∷ []) m in
    ⊎_elim
    (λ known. ⊎_elim
    (λ (old : IsSpentWith w.sizes v.front w.number y). absurd (h.none y
    (subst (λ (s : Sizes). IsSpentWith s v.front v.number y) l.sizes
    (subst (λ (n : ℕ). IsSpentWith w.sizes v.front n y) l.number old))))
    (λ (among : stands_in (e.life.index ∷ []) y ≡ true). first e.life.index (eqb e.life.index y) refl among) known)
    (λ part. absurd part) (got.old y spent)
  where
    first : (i : ℕ) (b : Bool) → eqb i y ≡ b → (b || false) ≡ true → y ≡ i
    first i true same among = sym (eqb-true i y same)
    first i false same among = absurd (cc)

-- a vertex to which a walk came was present with the key since an older front
pub walked_here : (v m u w : View) (key : ℕ) (s : Sighting) → IsPrefix v.front m.front → IsPrefix u.front w.front
    → IsWalked key (Here s) m u → HoldsBetween v.front w.front (Has key s.life) s.moment.value.view.front
walked_here v m u w key s before behind h =
    let at = s.moment.value.view.front in
    record {
      since = prefix_trans v.front m.front at before (prefix_trans m.front h.from.moment at h.since
          h.found.there.since);
      until = prefix_trans at u.front w.front h.found.there.until behind;
      holds = subst (λ (k : ℕ). Has k s.life at) h.key_is h.found.there.holds;
    }
