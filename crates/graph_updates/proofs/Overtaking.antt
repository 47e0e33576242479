-- A call won its exchange on an edge, and one of its ends is over by now: its entry, answered Overtaken, is right. If
-- neither end was marked before the exchange, both were present right before it, so that it carried the call out, and
-- another caller marked an end after it: the entry is an own one at the exchange. Else another caller marked an end
-- before it and within the call, so that the exchange left the graph: the entry is a late one at that mark.
use Rattle.std.proofs.Common.{◌≡◌, ◌≢◌, ◌⊎◌, ℕ, ◌+◌, ◌-◌, ◌<◌, ◌≤◌, ◌&&◌, Bool, true, false, cond, List, [], ◌∷◌}
use Rattle.std.proofs.Common.{◌++◌, length, take, None, Option, Some, inl, inr, refl, sym, ap, ap₂, ◌∙◌, subst, arith}
use Rattle.std.proofs.Common.{true≢false, length-append, ⊎_elim}
use Rattle.std.specs.Prelude.{ltb, min, slice_get}
use Rattle.std.specs.List.{list_any}
use Rattle.std.proofs.Math.Nat.{min-eq_left, min-eq_right}
use Rattle.std.proofs.lemmas.Bool.{cases_lt, ltb-false, ltb-true}
use Rattle.std.proofs.lemmas.List.{length-take-le}
use Rattle.graph_kinds.specs.Answer.{plain}
use Rattle.graph_kinds.specs.History.{Touches}
use Rattle.graph_kinds.specs.declared.call.Call.{Call}
use Rattle.graph_kinds.specs.declared.call.Call.TheVariants.{AddEdge, RemoveEdge}
use Rattle.graph_kinds.specs.declared.entry.Class.{Class}
use Rattle.graph_kinds.specs.declared.entry.Class.TheVariants.{Late, Own}
use Rattle.graph_kinds.specs.declared.outcome.Outcome.TheVariants.{Overtaken}
use Rattle.packed_link.specs.Layout.{IsLayout}
use Rattle.packed_link.specs.declared.link.Life.{Life}
use Rattle.core_journal.specs.declared.event.Event.{Event}
use Rattle.core_journal.specs.declared.event.Kind.{Kind}
use Rattle.core_journal.specs.declared.event.Kind.TheVariants.{LinkEdge, MarkEdge, ReplaceEdge}
use Rattle.core_journal.specs.Event.{marks_vertex, same_life}
use Rattle.core_journal.specs.GraphOf.{both, call_of, changes, edge_by, edge_of, graph_of, present_key}
use Rattle.core_journal.specs.Life.{key_of, vertex_marked}
use Rattle.core_journal.specs.Overtaken.{IsFirstMark}
use Rattle.core_journal.specs.Prefix.{IsPrefix}
use Rattle.core_journal.specs.Right.{IsEdgeCall, IsMarkedAfter, RightLate}
use Rattle.core_journal.proofs.Bridge.{regular_at}
use Rattle.core_journal.proofs.FirstMarks.{first_mark}
use Rattle.core_journal.proofs.KeptLives.{key_more}
use Rattle.core_journal.proofs.Lists.{get_back, get_front, get_short, prefix_length, prefix_refl, prefix_take}
use Rattle.core_journal.proofs.Lists.{prefix_trans, take_front, take_here}
use Rattle.core_journal.proofs.LivesOf.{present_is}
use Rattle.core_journal.proofs.Regular.{changes_not}
use Rattle.core_journal.proofs.Snoc.{same_self}
use Rattle.core_lists.proofs.EffectOfKinds.{regular}
use Rattle.core_rule.specs.Plays.{Replied}
use Rattle.core_rule.specs.Stretches.{Leaves, Own as OwnEvents}
use Rattle.core_rule.specs.declared.view.View.{View}
use Rattle.core_rule.proofs.OwnStretch.{own_chain, own_look}
use Rattle.core_rule.proofs.ViewShows.{reply_steps}
use Rattle.core_stretches.specs.Makes.{IsLater, Makes}
use Rattle.core_stretches.specs.Moments.{Carries, Has, HoldsBetween}
use Rattle.core_stretches.proofs.MakesAddUp.{makes_chain}
use Rattle.core_stretches.proofs.MakesTell.{makes_later}
use Rattle.graph_table.specs.Table.{before_either_mark, before_mark, entry_of, overtaken_entry}
use Rattle.graph_table.specs.Tokens.{IsOf, TableValue, TokenValue}
use Rattle.graph_updates.specs.Exchanges.{ExchangesOn, IsCallOn}
use Rattle.graph_updates.specs.Hands.{HandValue, IsHandOf, IsInOrder}
use Rattle.graph_updates.specs.Parts.{CarriesOutBy}
use Rattle.graph_updates.specs.Replying.{HasEnded, IsDueOvertaken}
use Rattle.graph_updates.specs.declared.pairs.Ends.{Ends}
use Rattle.graph_updates.proofs.CallsEnd.{HasCome, HasReplied, call_ends, end_grows, end_number, entry_by, unbooked}
use Rattle.graph_updates.proofs.CallsEnd.{with_token}
use Rattle.graph_updates.proofs.EntriesRight.{few_parts, own_ends, prefix_within}
use Rattle.graph_updates.proofs.MarkPlaces.{any_here, before_is, first_false, second_false}
use Rattle.graph_updates.proofs.PairsTell.{unmarked_since}
use Rattle.graph_updates.proofs.OwnChanges.{last_at, leaves_own, leaves_there, left_count, past_within, until_grows}

-- the first mark of a life that's unmarked at the end of a prefix comes no earlier
mark_since : (x : Life) (short rest : List Event) → vertex_marked short x ≡ false
    → length short ≤ before_mark x (short ++ rest)
mark_since x [] rest none = omega arith
mark_since x (d ∷ ds) rest none =
    let test : Event → Bool = λ (y : Event). marks_vertex y.kind && same_life x y.life in
    let here = first_false (test d) (list_any test ds) none in
    let more = mark_since x ds rest (second_false (test d) (list_any test ds) none) in
    let is : before_mark x (d ∷ (ds ++ rest)) ≡ 1 + before_mark x (ds ++ rest) = ap
    (λ (b : Bool). cond {A = ℕ} b 0 (1 + before_mark x (ds ++ rest))) here in
    omega (arith, is, more)

-- before the first mark of either of two lives there are as many events as its number says
either_is : (x y : Life) (journal : List Event) (n : ℕ) → IsFirstMark journal x y n
    → before_either_mark x y journal ≡ n
either_is x y journal n h = by h.life
  where
    low : n ≤ length journal
    low = let short = get_short journal n h.mark h.at in omega (arith, short)

    later : (z : Life) → vertex_marked (take n journal) z ≡ false → n ≤ before_mark z journal
    later z none =
        let p = prefix_take journal n in
        let since = mark_since z (take n journal) p.rest none in
        let same : before_mark z (take n journal ++ p.rest) ≡ before_mark z journal = ap (before_mark z) p.whole in
        let taken : length (take n journal) ≡ n = length-take-le n journal low in
        omega (arith, since, same, taken)

    by : (h.mark.life ≡ x) ⊎ (h.mark.life ≡ y) → before_either_mark x y journal ≡ n
    by (inl is) =
        let here = before_is x journal n h.mark h.at h.kind is h.first_of_u in
        let other = later y h.first_of_v in
        let less : before_mark x journal ≤ before_mark y journal = omega (arith, here, other) in
        min-eq_left less ∙ here
    by (inr is) =
        let here = before_is y journal n h.mark h.at h.kind is h.first_of_v in
        let other = later x h.first_of_u in
        let less : before_mark y journal ≤ before_mark x journal = omega (arith, here, other) in
        min-eq_right less ∙ here

-- a mark of a life stands behind each prefix in which it's unmarked
mark_behind : (x : Life) (short journal : List Event) (k : ℕ) (e : Event) → IsPrefix short journal
    → slice_get journal k ≡ Some e → marks_vertex e.kind ≡ true → e.life ≡ x → vertex_marked short x ≡ false
    → length short ≤ k
mark_behind x short journal k e p at marks life none = ⊎_elim
    (λ (low : k < length short).
    let here : slice_get short k ≡ Some e = sym (get_back short p.rest k low)
    ∙ subst (λ (l : List Event). slice_get l k ≡ Some e) (sym p.whole) at in
    let same : same_life x e.life ≡ true = ap (same_life x) life ∙ same_self x in
    let marked = any_here (λ (y : Event). marks_vertex y.kind && same_life x y.life) short k e here
    (ap₂ (λ (a b : Bool). a && b) marks same) in
    absurd (true≢false (sym marked ∙ none)))
    (λ (high : length short ≤ k). high)
    (cases_lt k (length short))

-- an event on an edge marks no vertex
edge_no_mark : (k : Kind) (past : List Event) (e link : Event) → edge_by k past e ≡ Some link → marks_vertex k ≡ false
edge_no_mark LinkEdge past e link h = refl
edge_no_mark ReplaceEdge past e link h = refl
edge_no_mark MarkEdge past e link h = refl
edge_no_mark _ past e link h = absurd (cc)

-- a call on the edge of a pair touches both its keys
on_edge : (c : Call) (a b : ℕ) → IsCallOn c a b → IsEdgeCall c
on_edge (AddEdge x y weight) a b h = tt
on_edge (RemoveEdge x y) a b h = tt
on_edge _ a b h = absurd h

on_first : (c : Call) (a b : ℕ) → IsCallOn c a b → Touches c a
on_first (AddEdge x y weight) a b h = inl (sym h.0)
on_first (RemoveEdge x y) a b h = inl (sym h.0)
on_first _ a b h = absurd h

on_second : (c : Call) (a b : ℕ) → IsCallOn c a b → Touches c b
on_second (AddEdge x y weight) a b h = inr (sym h.1)
on_second (RemoveEdge x y) a b h = inr (sym h.1)
on_second _ a b h = absurd h

-- no pair of keys where one is missing
none_first : (a b : Option ℕ) → a ≡ None → both a b ≡ None
none_first None None h = refl
none_first None (Some y) h = refl
none_first (Some x) b h = absurd (cc)

none_second : (a b : Option ℕ) → b ≡ None → both a b ≡ None
none_second None b h = none_first None b refl
none_second (Some x) None h = refl
none_second (Some x) (Some y) h = absurd (cc)

-- an exchange stands within its stretch
module _ (call : Call) (a b : ℕ) (source target : Life) (taken moved : ℕ) (v w : View) (at : List Event)
    (x : ExchangesOn call a b source target taken moved v w at) where
  pub exchange_low : length v.front ≤ length at
  exchange_low =
      let first = prefix_length v.front x.before.front (makes_later v x.before x.first.own x.first.makes).grows in
      let next = prefix_length x.before.front x.done.front
      (makes_later x.before x.done (x.event ∷ []) x.makes).grows in
      let is = ap length x.at_is in
      omega (arith, first, next, is)

  pub exchange_high : length at ≤ length w.front
  exchange_high =
      let last = prefix_length x.done.front w.front (makes_later x.done w x.last.own x.last.makes).grows in
      let is = ap length x.at_is in
      omega (arith, last, is)

module _ (g : TableValue) (old now : HandValue) (t : TokenValue) (hand : IsHandOf g now) (of : IsOf g t)
    (order : IsInOrder old) (ended : HasEnded old now) (call : Call) (tries start : ℕ) (at : List Event) (ends : Ends)
    (is_start : start ≡ length old.token.view.front)
    (d : IsDueOvertaken call old.token.view now.token.view at ends)
    (r : Replied now.token.view (overtaken_entry call tries start at ends.from ends.to now.token.view.front) t.view)
  where
    abbrev v : View
    v = old.token.view

    abbrev m : View
    m = now.token.view

    abbrev w : View
    w = t.view

    -- the exchange, the journal before it, and what stands between
    abbrev x : ExchangesOn call d.from d.to ends.from ends.to 1 3 v m at
    x = d.on.exchange

    abbrev past : List Event
    past = x.on.past

    abbrev event : Event
    event = x.event

    abbrev q : ℕ
    q = length past

    abbrev own : List Event
    own = x.first.own ++ (event ∷ [] ++ x.last.own)

    first_later : IsLater v x.before
    first_later = makes_later v x.before x.first.own x.first.makes

    step_later : IsLater x.before x.done
    step_later = makes_later x.before x.done (event ∷ []) x.makes

    last_later : IsLater x.done m
    last_later = makes_later x.done m x.last.own x.last.makes

    makes : Makes v own m
    makes = makes_chain v x.before m x.first.own (event ∷ [] ++ x.last.own) x.first.makes
        (makes_chain x.before x.done m (event ∷ []) x.last.own x.makes x.last.makes)

    layout_done : IsLayout x.done.sizes
    layout_done = subst IsLayout last_later.sizes hand.of.layout

    layout_v : IsLayout v.sizes
    layout_v = subst IsLayout (makes_later v m own makes).sizes hand.of.layout

    came : HasCome g old now t own
    came = record {
      hand = hand;
      of = of;
      order = order;
      ended = ended;
      makes = makes;
      few = few_parts v x.before x.done m event x.first x.last x.unlike;
    }

    number : w.number ≡ v.number
    number = end_number g old now t own came call tries (plain Overtaken) _ start _ r

    grows : IsPrefix v.front w.front
    grows = end_grows g old now t own came call tries (plain Overtaken) _ start _ r

    past_since : IsPrefix x.before.front past
    past_since = until_grows x.before x.done event x.makes past x.on.front x.on.by

    before_m : IsPrefix x.before.front m.front
    before_m = prefix_trans x.before.front x.done.front m.front step_later.grows last_later.grows

    past_m : IsPrefix past m.front
    past_m = prefix_trans past x.done.front m.front (past_within x.before x.done event x.makes past x.on.front x.on.by)
        last_later.grows

    past_w : IsPrefix past w.front
    past_w = prefix_trans past m.front w.front past_m r.grows

    done_length : length x.done.front ≡ q + 1
    done_length = ap length x.on.front ∙ length-append past (event ∷ [])

    q_is : length at - 1 ≡ q
    q_is = let is = ap length x.at_is in omega (arith, is, done_length)

    event_m : slice_get m.front q ≡ Some event
    event_m = subst (λ (l : List Event). slice_get l q ≡ Some event) last_later.grows.whole
        (get_front x.done.front last_later.grows.rest q event
        (last_at x.before x.done event x.makes past x.on.front x.on.by))

    event_w : slice_get w.front q ≡ Some event
    event_w = subst (λ (l : List Event). slice_get l q ≡ Some event) r.grows.whole
        (get_front m.front r.grows.rest q event event_m)

    taken_w : take q w.front ≡ past
    taken_w = ap (take q) (sym past_w.whole) ∙ take_here past past_w.rest

    event_by : event.caller ≡ w.number
    event_by = x.on.by ∙ (step_later.number ∙ (first_later.number ∙ sym number))

    -- the first mark of an end
    marked : (k : ℕ) × IsFirstMark m.front ends.from ends.to k
    marked = first_mark m.front ends.from ends.to d.on.marked

    abbrev k : ℕ
    k = marked.0

    abbrev mark : Event
    mark = marked.1.mark

    k_is : before_either_mark ends.from ends.to m.front ≡ k
    k_is = either_is ends.from ends.to m.front k marked.1

    k_short : k < length m.front
    k_short = get_short m.front k mark marked.1.at

    longer : length m.front ≤ length w.front
    longer = prefix_length m.front w.front r.grows

    mark_w : slice_get w.front k ≡ Some mark
    mark_w = subst (λ (l : List Event). slice_get l k ≡ Some mark) r.grows.whole
        (get_front m.front r.grows.rest k mark marked.1.at)

    -- the end that it marks, which was present at a moment of the call
    record IsEndMarked : Type 0 where
      pub life : Life
      pub key : ℕ
      pub then : List Event
      pub there : HoldsBetween v.front x.before.front (Has key life) then
      pub is : mark.life ≡ life
      pub touched : Touches call key

    end_marked : IsEndMarked
    end_marked = by marked.1.life
      where
        by : (mark.life ≡ ends.from) ⊎ (mark.life ≡ ends.to) → IsEndMarked
        by (inl is) = record {
          life = ends.from;
          key = d.from;
          then = d.on.from_then;
          there = d.on.from_there;
          is = is;
          touched = on_first call d.from d.to d.call_is;
        }
        by (inr is) = record {
          life = ends.to;
          key = d.to;
          then = d.on.to_then;
          there = d.on.to_there;
          is = is;
          touched = on_second call d.from d.to d.call_is;
        }

    then_m : IsPrefix end_marked.then m.front
    then_m = prefix_trans end_marked.then x.before.front m.front end_marked.there.until before_m

    was : (vertex_marked end_marked.then end_marked.life ≡ false)
        × (key_of end_marked.then end_marked.life ≡ Some end_marked.key)
    was = present_is end_marked.then end_marked.life end_marked.key end_marked.there.holds.there

    then_low : length end_marked.then ≤ k
    then_low = mark_behind end_marked.life end_marked.then m.front k mark then_m marked.1.at marked.1.kind end_marked.is
        was.0

    since : length v.front ≤ k
    since = let low = prefix_length v.front end_marked.then end_marked.there.since in omega (arith, low, then_low)

    -- another caller made it, if this one's events left the graph round it
    other : (a b : View) → IsPrefix b.front m.front → a.number ≡ v.number → OwnEvents Leaves a b → length a.front ≤ k
        → k < length b.front → mark.caller ≢ w.number
    other a b p same o low high by =
        let at_b : slice_get b.front k ≡ Some mark = sym (get_back b.front p.rest k high)
        ∙ subst (λ (l : List Event). slice_get l k ≡ Some mark) (sym p.whole) marked.1.at in
        let none : changes (take k b.front) mark ≡ false = o.each k mark low at_b (by ∙ (number ∙ sym same)) in
        let some : changes (take k m.front) mark ≡ true =
        (regular_at m.front k mark (regular m.sizes hand.of.layout m.front hand.of.sound.kept) marked.1.at).removal
        marked.1.kind in
        let taken : take k m.front ≡ take k b.front = ap (take k) (sym p.whole)
        ∙ take_front b.front p.rest k (omega (arith, high)) in
        true≢false (sym some ∙ (ap (λ (l : List Event). changes l mark) taken ∙ none))

    -- before the exchange
    module _ (early : k < q) (told : Replied m (entry_of call tries (plain Overtaken) Late start k) w) where
      mark_past : slice_get past k ≡ Some mark
      mark_past = sym (get_back past past_m.rest k early)
          ∙ subst (λ (l : List Event). slice_get l k ≡ Some mark) (sym past_m.whole) marked.1.at

      gone : (y : Life) → mark.life ≡ y → present_key past y ≡ None
      gone y is =
          let same : same_life y mark.life ≡ true = ap (same_life y) is ∙ same_self y in
          ap (λ (b : Bool). cond b None (key_of past y))
          (any_here (λ (e : Event). marks_vertex e.kind && same_life y e.life) past k mark mark_past
          (ap₂ (λ (a b : Bool). a && b) marked.1.kind same))

      missing : both (present_key past ends.from) (present_key past ends.to) ≡ None
      missing = by marked.1.life
        where
          by : (mark.life ≡ ends.from) ⊎ (mark.life ≡ ends.to)
              → both (present_key past ends.from) (present_key past ends.to) ≡ None
          by (inl is) = none_first (present_key past ends.from) (present_key past ends.to) (gone ends.from is)
          by (inr is) = none_second (present_key past ends.from) (present_key past ends.to) (gone ends.to is)

      still : changes past event ≡ false
      still = changes_not past event (ap graph_of (sym x.on.front) ∙ x.on.missing missing)

      all_leave : OwnEvents Leaves v m
      all_leave = own_chain Leaves v x.before m first_later.number before_m
          (leaves_own true 1 0 v x.before layout_v x.first)
          (own_chain Leaves x.before x.done m step_later.number last_later.grows
          (leaves_there x.before x.done event x.makes past x.on.front x.on.by still)
          (leaves_own true 0 3 x.done m layout_done x.last))

      quiet : OwnEvents Leaves v w
      quiet = record {
        each = (own_chain Leaves v m (unbooked m w) (makes_later v m own makes).number r.grows all_leave
            (own_look Leaves m (unbooked m w) (reply_steps m _ w hand.numbered hand.of.sound told))).each;
      }

      late_right : RightLate w.front w.number (entry_by call tries (plain Overtaken) Late start k w.front)
      late_right =
          let p = prefix_within end_marked.then w.front k (prefix_trans end_marked.then m.front w.front then_m r.grows)
          then_low in
          let low = prefix_length v.front past (prefix_trans v.front x.before.front past first_later.grows past_since)
          in
          record {
            reply = refl;
            pair = on_edge call d.from d.to d.call_is;
            mark = mark;
            at = mark_w;
            other = other v m (prefix_refl m.front) refl all_leave since k_short;
            marks = marked.1.kind;
            key = end_marked.key;
            key_is = ap (key_of (take k w.front)) end_marked.is
                ∙ subst (λ (j : List Event). key_of j end_marked.life ≡ Some end_marked.key) p.whole
                (key_more end_marked.then p.rest end_marked.life end_marked.key was.1);
            touched = end_marked.touched;
            number = q;
            since = omega (arith, low, is_start);
            until = get_short w.front q event event_w;
            made = event;
            made_at = event_w;
            made_by = event_by;
            made_call = subst (λ (j : List Event). call_of j event ≡ Some call) (sym taken_w) x.on.call_is;
          }

      late_ends : HasReplied g call tries (plain Overtaken) old (with_token now t)
      late_ends = call_ends g old now t own came call tries (plain Overtaken) Late start k told is_start (record {
        frame = record {
          apart = omega (arith, is_start);
          since = omega (arith, is_start, since);
          until = omega (arith, k_short, longer);
          within = omega arith;
          before = λ h. omega (arith, k_short, longer);
        };
        right = late_right;
        only = λ p e far stands by turns. absurd (true≢false (sym turns ∙ quiet.each p e far stands by));
        unworn = λ is. absurd (cc);
        changed = let count = left_count v w grows number quiet in omega (arith, count);
        told = λ not_so. absurd (not_so refl);
      })

    -- behind it
    module _ (late : q ≤ k) (told : Replied m (entry_of call tries (plain Overtaken) Own start (length at - 1)) w) where
      unmarked : (y : Life) → vertex_marked (take k m.front) y ≡ false → vertex_marked past y ≡ false
      unmarked y none = unmarked_since past (take k m.front)
          (prefix_within past m.front k past_m late) y none

      present : (y : Life) (key : ℕ) (then : List Event) → HoldsBetween v.front x.before.front (Has key y) then
          → vertex_marked (take k m.front) y ≡ false → present_key past y ≡ Some key
      present y key then h none =
          let p = prefix_trans then x.before.front past h.until past_since in
          ap (λ (b : Bool). cond b None (key_of past y)) (unmarked y none)
          ∙ subst (λ (j : List Event). key_of j y ≡ Some key) p.whole
          (key_more then p.rest y key (present_is then y key h.holds.there).1)

      carries : Carries call event x.done
      carries = x.on.present (present ends.from d.from d.on.from_then d.on.from_there marked.1.first_of_u)
          (present ends.to d.to d.on.to_then d.on.to_there marked.1.first_of_v)

      stretch : CarriesOutBy true call 1 3 v m at
      stretch = record {
        before = x.before;
        done = x.done;
        event = event;
        first = x.first;
        makes = x.makes;
        unlike = x.unlike;
        carries = carries;
        at_is = x.at_is;
        last = x.last;
      }

      strictly : q < k
      strictly = ⊎_elim (λ (low : q < k). low)
          (λ (high : k ≤ q).
          let same : k ≡ q = omega (arith, late, high) in
          let here : slice_get m.front q ≡ Some mark = subst (λ (n : ℕ). slice_get m.front n ≡ Some mark) same
          marked.1.at in
          let one : event ≡ mark = some_same event mark (sym event_m ∙ here) in
          absurd (true≢false (sym (ap (λ (e : Event). marks_vertex e.kind) one ∙ marked.1.kind)
          ∙ edge_no_mark event.kind past event x.on.link x.on.edge)))
          (cases_lt q k)
        where
          some_same : (a b : Event) → Some a ≡ Some b → a ≡ b
          some_same a b h = cc

      marked_after : IsMarkedAfter w.front w.number
          (entry_by call tries (plain Overtaken) Own start (length at - 1) w.front) event
      marked_after = record {
        reply = refl;
        pair = on_edge call d.from d.to d.call_is;
        link = x.on.link;
        edge = subst (λ (j : List Event). edge_of j event ≡ Some x.on.link)
            (sym (ap (λ (n : ℕ). take n w.front) q_is ∙ taken_w)) x.on.edge;
        number = k;
        since = omega (arith, q_is, strictly);
        until = omega (arith, k_short, longer);
        mark = mark;
        at = mark_w;
        other = other x.done m (prefix_refl m.front) (step_later.number ∙ first_later.number)
            (leaves_own true 0 3 x.done m layout_done x.last) (omega (arith, done_length, strictly)) k_short;
        marks = marked.1.kind;
        life = ⊎_elim (λ (is : mark.life ≡ ends.from). inl (is ∙ sym x.on.source_is))
            (λ (is : mark.life ≡ ends.to). inr (is ∙ sym x.on.target_is)) marked.1.life;
      }

      own_done : HasReplied g call tries (plain Overtaken) old (with_token now t)
      unfolding stretch
      own_done = own_ends g old now t hand of order ended call tries (plain Overtaken) start at is_start stretch told
          (λ is. absurd (cc)) (λ is. absurd (cc)) (λ not_so. absurd (not_so refl)) marked_after

    pub overtaken_ends : HasReplied g call tries (plain Overtaken) old (with_token now t)
    overtaken_ends = by (ltb (before_either_mark ends.from ends.to m.front) (length at - 1)) refl
      where
        by : (b : Bool) → ltb (before_either_mark ends.from ends.to m.front) (length at - 1) ≡ b
            → HasReplied g call tries (plain Overtaken) old (with_token now t)
        by true h =
            let less = ltb-true (before_either_mark ends.from ends.to m.front) (length at - 1) h in
            let place : min (before_either_mark ends.from ends.to m.front) (length at - 1) ≡ k = min-eq_left
            (omega (arith, less)) ∙ k_is in
            late_ends (omega (arith, less, k_is, q_is))
            (subst (λ (c : Class). Replied m (entry_of call tries (plain Overtaken) c start k) w)
            (ap (λ (b : Bool). cond {A = Class} b Late Own) h)
            (subst (λ (n : ℕ). Replied m (entry_of call tries (plain Overtaken)
            (cond (ltb (before_either_mark ends.from ends.to m.front) (length at - 1)) Late Own) start n) w) place r))
        by false h =
            let less = ltb-false (before_either_mark ends.from ends.to m.front) (length at - 1) h in
            let place : min (before_either_mark ends.from ends.to m.front) (length at - 1) ≡ length at - 1 =
            min-eq_right
            less in
            own_done (omega (arith, less, k_is, q_is))
            (subst (λ (c : Class). Replied m (entry_of call tries (plain Overtaken) c start (length at - 1)) w)
            (ap (λ (b : Bool). cond {A = Class} b Late Own) h)
            (subst (λ (n : ℕ). Replied m (entry_of call tries (plain Overtaken)
            (cond (ltb (before_either_mark ends.from ends.to m.front) (length at - 1)) Late Own) start n) w) place r))
