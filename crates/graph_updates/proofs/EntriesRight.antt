-- What an entry says at the end of a call is right, by the way in which the call was answered.
use Rattle.std.proofs.Common.{◌≡◌, ◌≢◌, ℕ, ◌+◌, ◌-◌, ◌<◌, ◌≤◌, Bool, true, false, cond, List, [], ◌∷◌, ◌++◌, length}
use Rattle.std.proofs.Common.{Some, zero, suc, take, refl, sym, ap, ap₂, ◌∙◌, subst, arith}
use Rattle.std.specs.Prelude.{slice_get}
use Rattle.std.proofs.lemmas.List.{length-take-le}
use Rattle.graph_kinds.specs.Answer.{after, alters, answer, is_change, needs_node, plain}
use Rattle.graph_kinds.specs.Graph.{Graph}
use Rattle.graph_kinds.specs.declared.answer.Answer.{Answer}
use Rattle.graph_kinds.specs.declared.call.Call.{Call}
use Rattle.graph_kinds.specs.declared.outcome.Outcome.{Outcome}
use Rattle.graph_kinds.specs.declared.outcome.Outcome.TheVariants.{Again, Full, Overtaken, Worn}
use Rattle.graph_kinds.specs.declared.entry.Class.TheVariants.{Own, Silent}
use Rattle.graph_kinds.specs.declared.entry.Entry.{Entry}
use Rattle.graph_kinds.proofs.PlainAnswers.{not_again, not_full, not_overtaken, not_worn}
use Rattle.packed_link.specs.Layout.{Sizes, IsLayout}
use Rattle.packed_link.specs.declared.link.Life.{Life}
use Rattle.core_journal.specs.declared.event.Event.{Event}
use Rattle.core_journal.specs.Event.{moves, pops, raises}
use Rattle.core_journal.specs.Foreign.{foreign}
use Rattle.core_journal.specs.GraphOf.{changes, graph_of}
use Rattle.core_journal.specs.Passing.{changes_made}
use Rattle.core_journal.specs.Prefix.{IsPrefix}
use Rattle.core_journal.specs.Right.{IsAnswer, NoneFree, OwnReply, RightOwn, RightSilent, graph_at}
use Rattle.core_journal.proofs.ForeignAddsUp.{adds_up, longer_same}
use Rattle.core_journal.proofs.Lists.{get_short, prefix_length, prefix_take, prefix_trans, take_here}
use Rattle.core_rule.specs.Plays.{Replied, place_by}
use Rattle.core_rule.specs.Stretches.{Leaves, Own as OwnEvents}
use Rattle.core_rule.specs.declared.view.View.{View}
use Rattle.core_rule.proofs.OwnStretch.{own_chain, own_look}
use Rattle.core_rule.proofs.ViewShows.{reply_steps}
use Rattle.core_stretches.specs.Makes.{Makes}
use Rattle.core_stretches.specs.Moments.{HoldsBetween}
use Rattle.core_stretches.proofs.MakesAddUp.{makes_chain}
use Rattle.core_stretches.proofs.MakesTell.{makes_later}
use Rattle.graph_table.specs.Table.{before_edge_mark, before_mark, entry_of}
use Rattle.graph_table.specs.Tokens.{IsOf, TableValue, TokenValue}
use Rattle.graph_updates.specs.Hands.{HandValue, IsHandOf, IsInOrder}
use Rattle.graph_updates.specs.Parts.{CarriesOutBy, LeavesGraph}
use Rattle.graph_updates.specs.Replying.{GivesAnswer, HasEnded, IsDueAgain, IsDueAtEdgeMark, IsDueAtMark}
use Rattle.graph_updates.specs.Replying.{IsDueByChange, IsDueForFull}
use Rattle.graph_updates.proofs.CallsEnd.{AreFew, HasCome, HasReplied, call_ends, end_grows, end_number}
use Rattle.graph_updates.proofs.CallsEnd.{end_sizes, entry_by, unbooked, with_token}
use Rattle.graph_updates.proofs.MarkPlaces.{after_mark, edge_before_is}
use Rattle.graph_updates.proofs.OwnChanges.{at_length, carried_count, event_at, event_by, event_past, event_turns}
use Rattle.graph_updates.proofs.OwnChanges.{leaves_own, left_count, only_there, past_since}
use Rattle.graph_updates.proofs.PartsLeave.{kinds_both}

-- a silent entry that answers as the graph does at its place is right, and the call leaves the graph
silent_right : (o : Outcome) (sizes : Sizes) (journal : List Event) (caller : ℕ) (e : Entry) → o ≢ Again → o ≢ Full
    → IsAnswer (graph_at journal e.place) e → RightSilent o sizes journal caller e
silent_right Full sizes journal caller e again full h = absurd (full refl)
silent_right Again sizes journal caller e again full h = absurd (again refl)
silent_right _ sizes journal caller e again full h = h

-- an own entry that isn't overtaken
own_reply : (o : Outcome) (journal : List Event) (caller : ℕ) (e : Entry) (event : Event) → o ≢ Overtaken
    → e.answer ≡ answer (graph_at journal e.place) e.call → OwnReply o journal caller e event
own_reply Overtaken journal caller e event other h = absurd (other refl)
own_reply _ journal caller e event other h = h

-- an entry stands where it was told, but for one of Again
place_told : (o : Outcome) (place end : ℕ) → o ≢ Again → place_by o place end ≡ place
place_told Again place end other = absurd (other refl)
place_told _ place end other = refl

-- the graph gave an answer
module _ (g : Graph) (call : Call) (reply : Answer) (is : reply ≡ answer g call) where
  outcome_is : reply.outcome ≡ (answer g call).outcome
  outcome_is = ap (λ (a : Answer). a.outcome) is

  pub no_again : reply.outcome ≢ Again
  no_again h = not_again g call (sym outcome_is ∙ h)

  no_full : reply.outcome ≢ Full
  no_full h = not_full g call (sym outcome_is ∙ h)

  no_overtaken : reply.outcome ≢ Overtaken
  no_overtaken h = not_overtaken g call (sym outcome_is ∙ h)

  no_worn : reply.outcome ≢ Worn
  no_worn h = not_worn g call (sym outcome_is ∙ h)

  no_change : alters g call ≡ false → is_change reply.outcome ≡ false
  unfolding alters
  no_change h = ap is_change outcome_is ∙ h

-- a prefix is one of each front that is as long
pub prefix_within : (short long : List Event) (n : ℕ) → IsPrefix short long → length short ≤ n → IsPrefix short
    (take n long)
prefix_within [] long n p low = record { rest = take n long; whole = refl }
prefix_within (e ∷ es) [] n p low = let w = p.whole in absurd (cc)
prefix_within (e ∷ es) (d ∷ ds) zero p low = absurd (omega (arith, low))
prefix_within (e ∷ es) (d ∷ ds) (suc n) p low =
    let w = p.whole in
    let head : e ≡ d = cc in
    let tail : es ++ p.rest ≡ ds = cc in
    let more = prefix_within es ds n (record { rest = p.rest; whole = tail }) (omega (arith, low)) in
    record { rest = more.rest; whole = ap₂ (λ (x : Event) (xs : List Event). x ∷ xs) head more.whole }

-- the graph at a place that is a front's length
graph_there : (at front : List Event) → IsPrefix at front → graph_at front (length at) ≡ graph_of at
graph_there at front p = ap graph_of (ap (take (length at)) (sym p.whole) ∙ take_here at p.rest)

few_left : (v w : View) (h : LeavesGraph true 1 3 v w) → AreFew h.own
few_left v w h = record { takes = h.takes; shifts = h.shifts }

-- the events of a stretch that carries a call out
abbrev pub all_own : (call : Call) (a b : ℕ) (v w : View) (at : List Event) → CarriesOutBy true call a b v w at → List
    Event
all_own call a b v w at h = h.first.own ++ (h.event ∷ [] ++ h.last.own)

pub carried_makes : (call : Call) (a b : ℕ) (v w : View) (at : List Event) (h : CarriesOutBy true call a b v w at)
    → Makes v (all_own call a b v w at h) w
carried_makes call a b v w at h = makes_chain v h.before w h.first.own (h.event ∷ [] ++ h.last.own) h.first.makes
    (makes_chain h.before h.done w (h.event ∷ []) h.last.own h.makes h.last.makes)

-- the token made few events of some kinds in a stretch with one event of none of them
pub few_parts : (v before done w : View) (event : Event) (first : LeavesGraph true 1 0 v before)
    (last : LeavesGraph true 0 3 done w)
    → (pops event.kind ≡ false) × ((moves event.kind ≡ false) × (raises event.kind ≡ false))
    → AreFew (first.own ++ (event ∷ [] ++ last.own))
few_parts v before done w event first last unlike =
    let p = kinds_both pops first.own (event ∷ [] ++ last.own) in
    let s = kinds_both moves first.own (event ∷ [] ++ last.own) in
    let no_pop = ap (λ (b : Bool). cond {A = ℕ} b 1 0) unlike.0 in
    let no_move = ap (λ (b : Bool). cond {A = ℕ} b 1 0) unlike.1.0 in
    let ft = first.takes in
    let fs = first.shifts in
    let lt = last.takes in
    let ls = last.shifts in
    record {
      takes = omega (arith, p, no_pop, ft, lt);
      shifts = omega (arith, s, no_move, fs, ls);
    }

-- of a call that ends by a reply
module _ (g : TableValue) (old now : HandValue) (t : TokenValue) (hand : IsHandOf g now) (of : IsOf g t)
    (order : IsInOrder old) (ended : HasEnded old now) where
  abbrev v : View
  v = old.token.view

  abbrev m : View
  m = now.token.view

  abbrev w : View
  w = t.view

  module _ (a b : ℕ) (stretch : LeavesGraph true a b v m) where
    layout : IsLayout v.sizes
    layout = subst IsLayout (makes_later v m stretch.own stretch.makes).sizes hand.of.layout

    -- no own event changed the graph
    left : (e : Entry) → Replied m e w → OwnEvents Leaves v w
    left e r = record {
      each = (own_chain Leaves v m (unbooked m w) (makes_later v m stretch.own stretch.makes).number r.grows
          (leaves_own true a b v m layout stretch)
          (own_look Leaves m (unbooked m w) (reply_steps m e w hand.numbered hand.of.sound r))).each;
    }

  -- silent replies
  module _ (stretch : LeavesGraph true 1 3 v m) (call : Call) (tries : ℕ) (reply : Answer) (start place : ℕ)
      (is_start : start ≡ length v.front) (r : Replied m (entry_of call tries reply Silent start place) w) where
    abbrev e : Entry
    e = entry_by call tries reply Silent start place w.front

    come : HasCome g old now t stretch.own
    come = record {
      hand = hand;
      of = of;
      order = order;
      ended = ended;
      makes = stretch.makes;
      few = few_left v m stretch;
    }

    silent_ends : reply.outcome ≢ Worn → is_change reply.outcome ≡ false → length v.front ≤ e.place
        → e.place ≤ length w.front → RightSilent reply.outcome w.sizes w.front w.number e
        → HasReplied g call tries reply old (with_token now t)
    silent_ends unworn none since until right =
        let later = end_grows g old now t stretch.own come call tries reply Silent start place r in
        let number = end_number g old now t stretch.own come call tries reply Silent start place r in
        let quiet = left 1 3 stretch (entry_of call tries reply Silent start place) r in
        call_ends g old now t stretch.own come call tries reply Silent start place r is_start
        (record {
          frame = record {
            apart = omega (arith, is_start);
            since = omega (arith, is_start, since);
            until = until;
            within = omega arith;
            before = λ h. absurd (cc);
          };
          right = right;
          only = λ p event far at by turns. let f : true ≡ false = sym turns ∙ quiet.each p event far at by in
              absurd (cc);
          unworn = unworn;
          changed = let count = left_count v w later number quiet in omega (arith, count);
          told = λ _. sym none;
        })

    -- as the graph answers at a moment
    pub moment_ends : (at : List Event) → place ≡ length at → IsPrefix v.front at → IsPrefix at m.front
        → reply ≡ answer (graph_of at) call → alters (graph_of at) call ≡ false
        → HasReplied g call tries reply old (with_token now t)
    moment_ends at is_place since then p stays =
        let told : e.place ≡ length at = place_told reply.outcome place (length w.front)
        (no_again (graph_of at) call reply p) ∙ is_place in
        let until = prefix_trans at m.front w.front then r.grows in
        let there : graph_at w.front e.place ≡ graph_of at = ap (graph_at w.front) told
        ∙ graph_there at w.front until in
        let low = prefix_length v.front at since in
        let high = prefix_length at w.front until in
        silent_ends (no_worn (graph_of at) call reply p) (no_change (graph_of at) call reply p stays)
        (omega (arith, low, told)) (omega (arith, high, told))
        (silent_right reply.outcome w.sizes w.front w.number e (no_again (graph_of at) call reply p)
        (no_full (graph_of at) call reply p)
        (record {
          reply = p ∙ ap (λ (x : Graph). answer x call) (sym there);
          stays = ap (λ (x : Graph). alters x call) there ∙ stays;
        }))

    -- as the graph answers after so many events
    pub place_ends : length v.front ≤ place → place ≤ length m.front → reply ≡ answer (graph_at m.front place) call
        → alters (graph_at m.front place) call ≡ false → HasReplied g call tries reply old (with_token now t)
    place_ends low high p stays =
        let later = makes_later v m stretch.own stretch.makes in
        let front = later.grows in
        let since : IsPrefix v.front (take place m.front) = prefix_within v.front m.front place front low in
        moment_ends (take place m.front) (sym (length-take-le place m.front high)) since
        (prefix_take m.front place) p stays

  pub at_ends : LeavesGraph true 1 3 v m → (call : Call) (tries : ℕ) (outcome : Outcome) (start place : ℕ)
      → start ≡ length v.front → Replied m (entry_of call tries (plain outcome) Silent start place) w
      → (at : List Event) → place ≡ length at → HoldsBetween v.front m.front (GivesAnswer call outcome) at
      → HasReplied g call tries (plain outcome) old (with_token now t)
  at_ends stretch call tries outcome start place is_start r at is_place h =
      moment_ends stretch call tries (plain outcome) start place is_start r at is_place h.since h.until h.holds.reply
      h.holds.stays

  -- Full
  pub full_ends : (call : Call) (tries : ℕ) (start : ℕ) (at : List Event) → start ≡ length v.front
      → (d : IsDueForFull call v m at) → Replied m (entry_of call tries (plain Full) Silent start (length at)) w
      → HasReplied g call tries (plain Full) old (with_token now t)
  full_ends call tries start at is_start d r =
      let e = entry_by call tries (plain Full) Silent start (length at) w.front in
      let until = prefix_trans at m.front w.front d.needs.until r.grows in
      let empty = prefix_trans d.then m.front w.front d.empty.until r.grows in
      let low = prefix_length v.front at d.needs.since in
      let high = prefix_length at w.front until in
      let low_then = prefix_length v.front d.then d.empty.since in
      let high_then = prefix_length d.then w.front empty in
      let sizes = end_sizes g old now t d.stretch.own
      (come d.stretch call tries (plain Full) start (length at) is_start r) call tries (plain Full) Silent start
      (length at) r in
      silent_ends d.stretch call tries (plain Full) start (length at) is_start r (λ is. absurd (cc)) refl low high
      (record {
        reply = refl;
        needs = ap (λ (x : Graph). needs_node x call) (graph_there at w.front until) ∙ d.needs.holds.needs;
        number = length d.then;
        since = omega (arith, low_then, is_start);
        until = high_then;
        none = subst (λ (s : Sizes). NoneFree s (take (length d.then) w.front)) (sym sizes)
            (subst (λ (j : List Event). NoneFree v.sizes j)
            (sym (ap (take (length d.then)) (sym empty.whole) ∙ take_here d.then empty.rest)) d.empty.holds);
      })

  -- Again
  pub again_ends : (call : Call) (tries : ℕ) (start place : ℕ) → start ≡ length v.front → (d : IsDueAgain tries v m)
      → Replied m (entry_of call tries (plain Again) Silent start place) w
      → HasReplied g call tries (plain Again) old (with_token now t)
  again_ends call tries start place is_start d r =
      let number = end_number g old now t d.stretch.own (come d.stretch call tries (plain Again) start place is_start r)
      call tries (plain Again) Silent start place r in
      let later = makes_later v m d.stretch.own d.stretch.makes in
      let low = prefix_length v.front m.front later.grows in
      let high = prefix_length m.front w.front r.grows in
      let same = longer_same m.front w.front r.grows m.number (length v.front) (length m.front) (omega arith) in
      let sum = adds_up w.front m.number (length v.front) (length m.front) (length w.front) low high in
      let fell = d.fell.least in
      let as_now : foreign w.front w.number start (length w.front)
      ≡ foreign w.front m.number (length v.front) (length w.front) = ap₂
      (λ (n k : ℕ). foreign w.front n k (length w.front)) (number ∙ sym later.number) is_start in
      silent_ends d.stretch call tries (plain Again) start place is_start r (λ is. absurd (cc)) refl
      (omega (arith, low, high)) (omega arith)
      (record { reply = refl; place = refl; lost = omega (arith, fell, same, sum, as_now) })

  -- right after the mark of a vertex life
  pub mark_ends : (call : Call) (outcome : Outcome) (tries start : ℕ) (x : Life) → start ≡ length v.front
      → (d : IsDueAtMark call outcome v m x)
      → Replied m (entry_of call tries (plain outcome) Silent start (before_mark x m.front + 1)) w
      → HasReplied g call tries (plain outcome) old (with_token now t)
  mark_ends call outcome tries start x is_start d r =
      let since = prefix_length v.front d.at d.there.since in
      let b = after_mark m.sizes d.key x v.front d.at m.front hand.of.layout hand.of.sound.kept d.there since
      d.marked in
      let place = before_mark x m.front + 1 in
      let given = d.gives (take place m.front) b.gone in
      place_ends d.stretch call tries (plain outcome) start place is_start r b.low b.high given.reply given.stays

  -- right after the mark of an edge life
  pub edge_mark_ends : (call : Call) (outcome : Outcome) (tries start : ℕ) (x : Life) → start ≡ length v.front
      → (d : IsDueAtEdgeMark call outcome v m x)
      → Replied m (entry_of call tries (plain outcome) Silent start (before_edge_mark x m.front + 1)) w
      → HasReplied g call tries (plain outcome) old (with_token now t)
  edge_mark_ends call outcome tries start x is_start d r =
      let c = d.cut in
      let since = d.since in
      let number = edge_before_is x m.front d.number c.event c.at c.cuts c.life c.uncut in
      let short = get_short m.front d.number c.event c.at in
      let given : GivesAnswer call outcome (take (before_edge_mark x m.front + 1) m.front) = subst
      (λ (n : ℕ). GivesAnswer call outcome (take (n + 1) m.front)) (sym number) d.gives in
      place_ends d.stretch call tries (plain outcome) start (before_edge_mark x m.front + 1) is_start r
      (omega (arith, number, since)) (omega (arith, number, short)) given.reply given.stays

  -- a call that was carried out
  module _ (call : Call) (tries : ℕ) (reply : Answer) (start : ℕ) (at : List Event)
      (is_start : start ≡ length v.front) (stretch : CarriesOutBy true call 1 3 v m at)
      (r : Replied m (entry_of call tries reply Own start (length at - 1)) w) (no_again : reply.outcome ≢ Again) where
    abbrev past : List Event
    past = stretch.carries.past

    abbrev own : List Event
    own = all_own call 1 3 v m at stretch

    abbrev entry : Entry
    entry = entry_by call tries reply Own start (length at - 1) w.front

    makes : Makes v own m
    makes = carried_makes call 1 3 v m at stretch

    layout_v : IsLayout v.sizes
    layout_v = subst IsLayout (makes_later v m own makes).sizes hand.of.layout

    came : HasCome g old now t own
    came = record {
      hand = hand;
      of = of;
      order = order;
      ended = ended;
      makes = makes;
      few = few_parts v stretch.before stretch.done m stretch.event stretch.first stretch.last stretch.unlike;
    }

    number : w.number ≡ v.number
    number = end_number g old now t own came call tries reply Own start (length at - 1) r

    -- the entry stands at the event
    place_is : entry.place ≡ length past
    place_is =
        let told = place_told reply.outcome (length at - 1) (length w.front) no_again in
        let n = at_length true call 1 3 v m at layout_v stretch in
        omega (arith, told, n)

    before_end : length past < length w.front
    before_end = get_short w.front (length past) stretch.event
        (event_at true call 1 3 v m at layout_v stretch w.front r.grows)

    count : changes_made w.number w.front ≡ changes_made v.number v.front + 1
    count =
        let looked : OwnEvents Leaves m w = record {
          each = (own_look Leaves m (unbooked m w)
              (reply_steps m (entry_of call tries reply Own start (length at - 1)) w hand.numbered
              hand.of.sound r)).each;
        } in
        left_count m w r.grows (number ∙ sym (makes_later v m own makes).number) looked
        ∙ carried_count true call 1 3 v m at layout_v stretch

    own_count : changes_made v.number w.front ≡ changes_made v.number v.front + 1
    own_count = ap (λ (n : ℕ). changes_made n w.front) (sym number) ∙ count

    taken_is : take entry.place w.front ≡ past
    taken_is = ap (λ (n : ℕ). take n w.front) place_is
        ∙ event_past true call 1 3 v m at layout_v stretch w.front r.grows

    taken_past : graph_at w.front entry.place ≡ graph_of past
    taken_past = ap graph_of taken_is

    own_right : OwnReply reply.outcome w.front w.number entry stretch.event → RightOwn w.front w.number entry
    own_right told = record {
      event = stretch.event;
      own = record {
        at = subst (λ (n : ℕ). slice_get w.front n ≡ Some stretch.event) (sym place_is)
            (event_at true call 1 3 v m at layout_v stretch w.front r.grows);
        by = event_by true call 1 3 v m at layout_v stretch w.front r.grows ∙ sym number;
        changing = subst (λ (n : ℕ). changes (take n w.front) stretch.event ≡ true) (sym place_is)
            (event_turns true call 1 3 v m at layout_v stretch w.front r.grows);
        leads = subst (λ (j : List Event). graph_of (j ++ stretch.event ∷ []) ≡ after (graph_of j) call)
            (sym taken_is) (ap graph_of (sym stretch.carries.front) ∙ stretch.carries.leads);
      };
      reply = told;
    }

    pub own_ends : reply.outcome ≢ Worn → (reply.outcome ≢ Overtaken → is_change reply.outcome ≡ true)
        → OwnReply reply.outcome w.front w.number entry stretch.event
        → HasReplied g call tries reply old (with_token now t)
    own_ends unworn does told =
        let since = prefix_length v.front past (past_since true call 1 3 v m at layout_v stretch) in
        let short = before_end in
        let is = place_is in
        call_ends g old now t own came call tries reply Own start (length at - 1) r is_start
        (record {
          frame = record {
            apart = omega (arith, is_start);
            since = omega (arith, is_start, since, is);
            until = omega (arith, is, short);
            within = omega arith;
            before = λ h. omega (arith, is, short);
          };
          right = own_right told;
          only = λ p event far stands by turns. record {
            class = refl;
            place = is ∙ sym (only_there true call 1 3 v m at layout_v stretch w.front r.grows own_count p event far
                stands by turns);
          };
          unworn = unworn;
          changed = let more = count in omega (arith, more);
          told = λ other. sym (does other);
        })

  -- a call that changed the graph is answered as the graph gives it before its event
  pub change_ends : (call : Call) (tries : ℕ) (outcome : Outcome) (start : ℕ) (at : List Event)
      → start ≡ length v.front → (d : IsDueByChange call outcome v m at)
      → Replied m (entry_of call tries (plain outcome) Own start (length at - 1)) w
      → HasReplied g call tries (plain outcome) old (with_token now t)
  change_ends call tries outcome start at is_start d r =
      let before : Graph = graph_of d.stretch.carries.past in
      let going = no_again before call (plain outcome) d.reply in
      own_ends call tries (plain outcome) start at is_start d.stretch r going
      (no_worn before call (plain outcome) d.reply) (λ _. d.changes)
      (own_reply outcome w.front w.number
      (entry_by call tries (plain outcome) Own start (length at - 1) w.front) d.stretch.event
      (no_overtaken before call (plain outcome) d.reply)
      (d.reply ∙ ap (λ (x : Graph). answer x call)
      (sym (taken_past call tries (plain outcome) start at is_start d.stretch r going))))
