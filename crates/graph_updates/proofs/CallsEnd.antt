-- The end of every call: what its reply leaves of a hand, and that the hand is in order then if the entry is right.
use Rattle.std.proofs.Common.{◌≡◌, ◌≢◌, ℕ, ◌+◌, ◌≤◌, Bool, true, false, cond, List, [], ◌∷◌, ◌++◌, length}
use Rattle.std.proofs.Common.{None, Some, Option, take, refl, sym, ap, ◌∙◌, subst, arith}
use Rattle.std.specs.Prelude.{slice_get}
use Rattle.graph_kinds.specs.Answer.{is_change}
use Rattle.graph_kinds.specs.declared.answer.Answer.{Answer}
use Rattle.graph_kinds.specs.declared.call.Call.{Call}
use Rattle.graph_kinds.specs.declared.entry.Class.{Class}
use Rattle.graph_kinds.specs.declared.entry.Class.TheVariants.{Own}
use Rattle.graph_kinds.specs.declared.entry.Entry.{Entry}
use Rattle.graph_kinds.specs.declared.outcome.Outcome.TheVariants.{Overtaken, Worn}
use Rattle.packed_link.specs.Layout.{Sizes, IsLayout}
use Rattle.packed_link.specs.declared.link.Life.{Life}
use Rattle.core_journal.specs.declared.event.Event.{Event}
use Rattle.core_journal.specs.declared.event.Kind.{Kind}
use Rattle.core_journal.specs.Event.{moves, pops}
use Rattle.core_journal.specs.GraphOf.{changes}
use Rattle.core_journal.specs.Passing.{changes_made}
use Rattle.core_journal.specs.Prefix.{IsPrefix}
use Rattle.core_journal.specs.Right.{InFrame, IsBookOf, Right, StandsAt}
use Rattle.core_journal.proofs.Laws.{history_legal}
use Rattle.core_journal.proofs.Lists.{prefix_trans}
use Rattle.core_journal.proofs.Onward.{book_push}
use Rattle.core_kept.specs.Counts.{made}
use Rattle.core_lists.proofs.EffectOfKinds.{regular}
use Rattle.core_rule.specs.Plays.{IsSound, Replied, ended}
use Rattle.core_rule.specs.Retired.{IsRetired}
use Rattle.core_rule.specs.Stretches.{IsAlike}
use Rattle.core_rule.specs.declared.view.View.{View}
use Rattle.core_rule.proofs.AlikeViews.{retired_alike}
use Rattle.core_rule.proofs.ViewShows.{reply_steps}
use Rattle.core_stretches.specs.Holdings.{HasNoPass}
use Rattle.core_stretches.specs.Makes.{Makes, StepsBy, of_kinds}
use Rattle.core_stretches.proofs.MakesTell.{makes_counts, makes_later}
use Rattle.epoch_limbo.specs.Limbos.{LimboValue}
use Rattle.graph_table.specs.Table.{entry_of}
use Rattle.graph_table.specs.Tokens.{IsOf, RipeValue, TableValue, TokenValue}
use Rattle.graph_updates.specs.Calls.{HasAnswered, is_own}
use Rattle.graph_updates.specs.Hands.{HandValue, HasAllSpent, HasItsNodes, HoldsNoOther, HoldsSpare, IsHandOf}
use Rattle.graph_updates.specs.Hands.{IsInOrder, IsRoomyLimbo, book_of, moves_due}
use Rattle.graph_updates.specs.Parts.{RaisesDone}
use Rattle.graph_updates.specs.Replying.{HasEnded}
use Rattle.graph_updates.proofs.BurialLists.{every_map}
use Rattle.graph_updates.proofs.PartsLeave.{all_goes, limbo_goes, other_goes, pass_goes, spare_goes}
use Rattle.graph_updates.proofs.PartsLeave.{still_there}
use Rattle.graph_updates.proofs.RaisesAddUp.{raised_chain, raised_none}

-- a view but for its book
abbrev pub unbooked : View → View → View
unbooked m w = record w { book = m.book }

-- a token's events leave its book
book_by : (v w : View) (own : List Event) → StepsBy v own w → w.book ≡ v.book
book_by v w [] t = ap (λ (x : View). x.book) t.view
book_by v w (e ∷ es) (m, by, t, rest) = book_by m w es rest ∙ ap (λ (x : View). x.book) t.view

-- what a reply leaves of what a token holds
module _ (m w : View) (entry : Entry) (z : IsLayout m.sizes) (has : m.numbered ≡ true) (s : IsSound m)
    (r : Replied m entry w) where
  -- it makes no event
  pub reply_makes : Makes m [] (unbooked m w)
  reply_makes = record { steps = reply_steps m entry w has s r }

  pub reply_closed : HasNoPass m → HasNoPass w
  reply_closed closed = pass_goes m (unbooked m w) [] z reply_makes false tt closed

  alike : IsAlike (unbooked m w) w
  alike = record { sizes = refl; front = refl; number = refl }

  pub reply_limbo : (limbo : LimboValue) → IsRoomyLimbo limbo m → IsRoomyLimbo limbo w
  reply_limbo limbo h =
      let k = limbo_goes m (unbooked m w) [] z reply_makes tt limbo h in
      record {
        of = record {
          each = every_map (λ (r : RipeValue). IsRetired None (unbooked m w) r.life r.stamp)
              (λ (r : RipeValue). IsRetired None w r.life r.stamp)
              (λ r p. retired_alike (unbooked m w) w alike None r.life r.stamp p) limbo.nodes k.of.each;
          apart = k.of.apart;
          rising = k.of.rising;
        };
        room = k.room;
      }

  pub reply_spent : (limbo : LimboValue) → IsRoomyLimbo limbo m → HasAllSpent limbo m → HasAllSpent limbo w
  reply_spent limbo l h = record { each = (all_goes m (unbooked m w) [] z reply_makes tt limbo l h).each }

  pub reply_spare : (spare : Option Life) → HoldsSpare spare m → HoldsSpare spare w
  reply_spare None h = tt
  reply_spare (Some x) h =
      let k = spare_goes m (unbooked m w) [] z reply_makes tt (Some x) h in
      record { life = record { there = k.life.there; tag = k.life.tag }; fresh = k.fresh }

  pub reply_other : (spare : Option Life) → HoldsSpare spare m → HoldsNoOther spare m → HoldsNoOther spare w
  reply_other None h o = record { none = (other_goes m (unbooked m w) [] z reply_makes tt tt None h o).none }
  reply_other (Some x) h o = other_goes m (unbooked m w) [] z reply_makes tt tt (Some x) h o

-- a book with one entry more is true if each own event in between that changed the graph is at the entry's place
book_longer : (v w : View) (e : Entry) → IsBookOf v.sizes v.front (book_of v) → w.sizes ≡ v.sizes → w.number ≡ v.number
    → IsPrefix v.front w.front → w.book ≡ v.book ++ e ∷ [] → InFrame (length w.front) (length v.front) e
    → Right w.sizes w.front w.number e
    → ((p : ℕ) (event : Event) → length v.front ≤ p → slice_get w.front p ≡ Some event → event.caller ≡ v.number
    → changes (take p w.front) event ≡ true → StandsAt Own p e)
    → IsBookOf w.sizes w.front (book_of w)
book_longer v w e old sizes number p book frame right only =
    let right_by : Right v.sizes w.front v.number e = subst (λ (n : ℕ). Right v.sizes w.front n e) number
    (subst (λ (s : Sizes). Right s w.front w.number e) sizes right) in
    let pushed : IsBookOf v.sizes (v.front ++ p.rest) (record { caller = v.number; entries = v.book ++ e ∷ [] }) =
    book_push v.sizes v.front p.rest (book_of v) e old
    (subst (λ (j : List Event). InFrame (length j) (length v.front) e) (sym p.whole) frame)
    (subst (λ (j : List Event). Right v.sizes j v.number e) (sym p.whole) right_by)
    (subst (λ (j : List Event). (q : ℕ) (event : Event) → length v.front ≤ q → slice_get j q ≡ Some event
    → event.caller ≡ v.number → changes (take q j) event ≡ true → StandsAt Own q e) (sym p.whole) only) in
    subst (λ (s : Sizes). IsBookOf s w.front (record { caller = w.number; entries = w.book })) (sym sizes)
    (subst (λ (n : ℕ). IsBookOf v.sizes w.front (record { caller = n; entries = w.book })) (sym number)
    (subst (λ (es : List Entry). IsBookOf v.sizes w.front (record { caller = v.number; entries = es })) (sym book)
    (subst (λ (j : List Event). IsBookOf v.sizes j (record { caller = v.number; entries = v.book ++ e ∷ [] })) p.whole
    pushed)))

-- a hand with another token
abbrev pub with_token : HandValue → TokenValue → HandValue
with_token h t = record h { token = t }

-- an entry that ends at a front
abbrev pub entry_by : Call → ℕ → Answer → Class → (start place : ℕ) → List Event → Entry
entry_by call tries reply class start place front = ended (entry_of call tries reply class start place) (length front)

-- the token made so few events of some kinds in a call
pub record AreFew (own : List Event) : Type 0 where
  pub takes : of_kinds pops own ≤ 1
  pub shifts : of_kinds moves own ≤ 3

-- an entry tells of a stretch: it's framed and right, stands where the graph was changed, and isn't answered Worn; the
-- caller changed the graph once if it's an own one, and else not; and it's an own one exactly if its answer tells of a
-- change, but for one that was overtaken
pub record IsEntryFor (v w : View) (e : Entry) : Type 0 where
  pub frame : InFrame (length w.front) (length v.front) e
  pub right : Right w.sizes w.front w.number e
  pub only : (p : ℕ) (event : Event) → length v.front ≤ p → slice_get w.front p ≡ Some event → event.caller ≡ v.number
      → changes (take p w.front) event ≡ true → StandsAt Own p e
  pub unworn : e.answer.outcome ≢ Worn
  pub changed : changes_made w.number w.front ≡ changes_made v.number v.front + cond (is_own e.class) 1 0
  pub told : e.answer.outcome ≢ Overtaken → is_own e.class ≡ is_change e.answer.outcome

-- what a call rests on at its end
pub record HasCome (g : TableValue) (old now : HandValue) (t : TokenValue) (own : List Event) : Type 0 where
  pub hand : IsHandOf g now
  pub of : IsOf g t
  pub order : IsInOrder old
  pub ended : HasEnded old now
  pub makes : Makes old.token.view own now.token.view
  pub few : AreFew own

-- what the end of a call leaves
pub record HasReplied (g : TableValue) (call : Call) (tries : ℕ) (reply : Answer) (old new : HandValue) : Type 0
  where
    pub hand : IsHandOf g new
    pub order : IsInOrder new
    pub closed : HasNoPass new.token.view
    pub answered : HasAnswered call tries reply old new

module _ (g : TableValue) (old now : HandValue) (t : TokenValue) (own : List Event) (c : HasCome g old now t own)
    (call : Call) (tries : ℕ) (reply : Answer) (class : Class) (start place : ℕ)
    (r : Replied now.token.view (entry_of call tries reply class start place) t.view) where
  abbrev v : View
  v = old.token.view

  abbrev m : View
  m = now.token.view

  abbrev w : View
  w = t.view

  abbrev new : HandValue
  new = with_token now t

  abbrev e : Entry
  e = entry_by call tries reply class start place w.front

  replies : Makes m [] (unbooked m w)
  replies = reply_makes m w _ c.hand.of.layout c.hand.numbered c.hand.of.sound r

  sizes_m : m.sizes ≡ v.sizes
  sizes_m = (makes_later v m own c.makes).sizes

  number_m : m.number ≡ v.number
  number_m = (makes_later v m own c.makes).number

  pub end_sizes : w.sizes ≡ v.sizes
  end_sizes = (makes_later m (unbooked m w) [] replies).sizes ∙ sizes_m

  pub end_number : w.number ≡ v.number
  end_number = (makes_later m (unbooked m w) [] replies).number ∙ number_m

  pub end_grows : IsPrefix v.front w.front
  end_grows = prefix_trans v.front m.front w.front (makes_later v m own c.makes).grows r.grows

  counts : (test : Kind → Bool) → made test w.number w.front ≡ made test v.number v.front + of_kinds test own
  counts test =
      let first = makes_counts test v m own c.makes in
      let last = makes_counts test m (unbooked m w) [] replies in
      omega (arith, first, last)

  book_is : w.book ≡ v.book ++ e ∷ []
  book_is = ap (λ (x : View). x.book) r.view
      ∙ ap (λ (es : List Entry). es ++ e ∷ []) (book_by v m own c.makes.steps)

  closed_now : HasNoPass w
  closed_now = reply_closed m w _ c.hand.of.layout c.hand.numbered c.hand.of.sound r c.ended.closed

  nodes_now : HasItsNodes new
  nodes_now = record {
    spent = reply_spent m w _ c.hand.of.layout c.hand.numbered c.hand.of.sound r now.limbo c.hand.limbo
        c.ended.nodes.spent;
    fresh = reply_other m w _ c.hand.of.layout c.hand.numbered c.hand.of.sound r now.spare c.hand.spare
        c.ended.nodes.fresh;
  }

  hand_now : IsHandOf g new
  hand_now = record {
    of = c.of;
    numbered = (makes_later m (unbooked m w) [] replies).numbered ∙ c.hand.numbered;
    there = still_there m (unbooked m w) [] c.hand.of.layout replies c.hand.there;
    limbo = reply_limbo m w _ c.hand.of.layout c.hand.numbered c.hand.of.sound r now.limbo c.hand.limbo;
    spare = reply_spare m w _ c.hand.of.layout c.hand.numbered c.hand.of.sound r now.spare c.hand.spare;
  }

  raised_now : RaisesDone 1 v w
  raised_now = raised_chain 1 0 v m w c.ended.raised
      (record { each = (raised_none m (unbooked m w) [] replies refl).each })

  module _ (is_start : start ≡ length v.front) (f : IsEntryFor v w e) where
    book_now : IsBookOf w.sizes w.front (book_of w)
    book_now = book_longer v w e c.order.book end_sizes end_number end_grows book_is f.frame f.right f.only

    order_now : IsInOrder new
    order_now =
        let taken_by = counts pops in
        let moved_by = counts moves in
        let taken_old = c.order.taken in
        let moved_old = c.order.moved in
        let left = c.ended.left in
        let used = c.ended.uses in
        let takes = c.few.takes in
        let shifts = c.few.shifts in
        let none : moves_due w ≡ 0 = ap (λ (b : Bool). cond {A = ℕ} b 1 0) closed_now in
        record {
          book = book_now;
          taken = omega (arith, taken_by, taken_old, used, takes);
          moved = omega (arith, moved_by, moved_old, used, shifts, none);
          uses = omega (arith, left, used);
          again = c.order.again + 1;
          given_up = let most = c.order.given_up in omega (arith, most, used);
          raised = raised_now.each c.order.again c.order.raised;
          nodes = nodes_now;
        }

    -- the end of every call
    pub call_ends : HasReplied g call tries reply old new
    call_ends =
        let taken_by = counts pops in
        let moved_by = counts moves in
        let takes = c.few.takes in
        let shifts = c.few.shifts in
        record {
          hand = hand_now;
          order = order_now;
          closed = closed_now;
          answered = record {
            grows = end_grows;
            number = end_number;
            entry = e;
            book = book_is;
            asked = refl;
            given = refl;
            answered = refl;
            start = is_start;
            end = refl;
            right = f.right;
            true_book = book_now;
            legal = history_legal w.sizes w.front (book_of w ∷ [])
                (regular w.sizes c.of.layout w.front c.of.sound.kept) (tt, tt) (book_now, tt);
            unworn = f.unworn;
            changed = f.changed;
            told = f.told;
            counts = record {
              taken = omega (arith, taken_by, takes);
              moved = omega (arith, moved_by, shifts);
              raised = raised_now;
            };
            used = c.ended.uses;
          };
        }
