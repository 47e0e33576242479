-- What marking an edge to an earlier life of its key tells, and replacing an edge by one of another weight.
use Rattle.std.proofs.Common.{◌≡◌, ◌≢◌, ℕ, ◌≤◌, Bool, true, false, cond, List, [], ◌∷◌, Option, None, Some}
use Rattle.std.proofs.Common.{inl, refl, sym, ap, ◌∙◌, subst, arith, ⊎_elim}
use Rattle.graph_kinds.specs.History.{Every}
use Rattle.packed_link.specs.Layout.{IsLayout, link_at}
use Rattle.packed_link.specs.declared.link.Life.{Life}
use Rattle.core_journal.specs.declared.event.Kind.TheVariants.{PopFree}
use Rattle.core_journal.specs.declared.event.Event.{Event}
use Rattle.core_journal.specs.Event.{moves, pops}
use Rattle.core_journal.specs.GraphOf.{both, graph_of, present_key}
use Rattle.core_journal.specs.Life.{edge_marked, key_of, link_of, vertex_marked}
use Rattle.core_journal.specs.Prefix.{IsPrefix}
use Rattle.core_journal.proofs.Lists.{prefix_snoc}
use Rattle.core_journal.proofs.Regular.{changes_not}
use Rattle.core_journal.proofs.Snoc.{link_skip}
use Rattle.core_kept.specs.Kept.{IsKept}
use Rattle.core_kept.proofs.Induction.{kept_front}
use Rattle.core_lists.proofs.ChangedByAnother.{change_counts}
use Rattle.core_lists.proofs.LivesOnLists.{one_present_edge}
use Rattle.core_rule.specs.OwnEvents.{mark_edge_event, raise_event}
use Rattle.core_rule.specs.Stretches.{is_of_fresh}
use Rattle.core_rule.specs.declared.view.View.{View}
use Rattle.core_stretches.specs.Makes.{IsGraphless, Makes, StaysInPass, of_kinds}
use Rattle.core_stretches.specs.Moments.{LacksEdge}
use Rattle.core_stretches.proofs.MakesTell.{makes_goes, makes_later, makes_leaves}
use Rattle.edge_list.specs.EdgeMarks.{IsEdgeMarked, MatchEdgeMarked, RaisedValue}
use Rattle.edge_list.specs.EdgePositions.{IsSeenEdge}
use Rattle.edge_list.specs.declared.edge.Edge.{Edge}
use Rattle.edge_list.specs.declared.marking.EdgeMarked.{EdgeMarked}
use Rattle.edge_list.specs.declared.marking.EdgeMarked.TheVariants.{Won, Was, Replaced}
use Rattle.edge_list.specs.declared.walks.EdgeSighting.{EdgeSighting}
use Rattle.edge_list.proofs.EdgeMarksTell.{raised_goes}
use Rattle.edge_list.proofs.EdgePositionsGoOn.{edge_place_not_third, seen_makes}
use Rattle.edge_list.proofs.EdgeWalksTell.{seen_changed}
use Rattle.graph_table.specs.Tokens.{IsOf, TableValue, TokenValue}
use Rattle.graph_updates.specs.EdgeAdding.{MatchStaleMarked}
use Rattle.graph_updates.specs.EdgeLocating.{WasEdgeHere}
use Rattle.graph_updates.specs.EdgeRaises.{IsLastRaised, IsRaisedOnce, RaisesFor}
use Rattle.graph_updates.specs.EdgeRemoving.{GoesOnBare}
use Rattle.graph_updates.specs.Hands.{HandValue, HasItsNodes, IsHandOf}
use Rattle.graph_updates.specs.Parts.{Fell, HasHelped, LeavesGraph}
use Rattle.graph_updates.proofs.AddingAddsUp.{leaves_by_loads}
use Rattle.graph_updates.proofs.AddingTries.{calm_by_kind, with_spare}
use Rattle.graph_updates.proofs.EdgeMarkingTells.{KeepsHand, keeps_chain, keeps_nodes, mark_keeps}
use Rattle.graph_updates.proofs.EdgeMarkingTells.{mark_raises, won_marked}
use Rattle.graph_updates.proofs.EdgeRaisesTell.{raises_for, unmarked_then, vertex_later}
use Rattle.graph_updates.proofs.OwnChanges.{leaves_there, until_grows}
use Rattle.graph_updates.proofs.PartsLeave.{IsCalm, helps_leave, leaves_chain}

-- a counter was raised once at most
module _ (source : Life) (edge : Edge) (last : Option RaisedValue) (v t : View) (r : RaisedValue)
    (o : IsRaisedOnce source edge last v t r) where
  pub once_own : (P : List Event → Type 0) → P [] → ((found : ℕ) → P (raise_event v source found ∷ [])) → P o.own
  once_own P none one = ⊎_elim (λ (n : (last ≡ Some r) × (o.own ≡ [])). subst P (sym n.1) none)
      (λ (n : ((found : ℕ) × (o.own ≡ raise_event v source found ∷ [])) × _). subst P (sym n.0.1) (one n.0.0)) o.once

  pub once_stays_in : Every StaysInPass o.own
  once_stays_in = once_own (Every StaysInPass) tt (λ found. (((λ is. absurd (cc)), (λ is. absurd (cc))), tt))

  pub once_keeps : KeepsHand v t
  once_keeps = record {
    own = o.own;
    makes = o.makes;
    calm = once_own (Every IsCalm) tt
        (λ found. (calm_by_kind (raise_event v source found) refl (λ is. absurd (cc)) (λ is. absurd (cc)), tt));
    stays = once_stays_in;
    plain = once_own (Every (λ (e : Event). is_of_fresh e.kind ≡ false)) tt (λ found. (refl, tt));
    none = once_own (Every (λ (e : Event). e.kind ≢ PopFree)) tt (λ found. ((λ is. absurd (cc)), tt));
  }

  pub once_leaves : LeavesGraph true 0 0 v t
  once_leaves = record {
    own = o.own;
    makes = o.makes;
    leaves = λ z. makes_leaves v t o.own z (once_own (Every IsGraphless) tt (λ found. (inl refl, tt))) o.makes;
    takes = once_own (λ (l : List Event). of_kinds pops l ≤ 0) (omega arith) (λ found. omega arith);
    shifts = once_own (λ (l : List Event). of_kinds moves l ≤ 0) (omega arith) (λ found. omega arith);
    raised = λ is. absurd (cc);
  }

  -- the edge stays one that was found
  pub once_seen : IsLayout v.sizes → (moment : List Event) → IsSeenEdge v source edge moment
      → IsSeenEdge t source edge moment
  once_seen z moment seen = seen_makes v t o.own source edge moment z once_stays_in
      (once_own (Every (λ (e : Event). e.place ≢ link_at v.sizes edge.life.index)) tt
      (λ found. (edge_place_not_third true v _ source.index z seen.position, tt)))
      o.makes seen

  -- if it's marked by a view right after that, another caller marked or replaced it since it was found
  pub once_fell : IsLayout v.sizes → IsLayout t.sizes → (moment : List Event) → IsSeenEdge v source edge moment
      → (u : View) → IsLayout u.sizes → IsKept u.sizes u.front → Makes t [] u → edge_marked u.front r.edge.life ≡ true
      → Fell 1 u.number moment u.front
  once_fell z zt moment seen u zu kept makes dead =
      let later = seen_makes t u [] source edge moment zt tt tt makes (once_seen z moment seen) in
      let changed = seen_changed u source edge moment zu kept later
      (ap (λ (e : Edge). edge_marked u.front e.life) (sym o.edge_is) ∙ dead) in
      record { least = change_counts moment u.front u.number (link_at u.sizes edge.life.index) changed }

both_none : (x : Option ℕ) → both x None ≡ None
both_none None = refl
both_none (Some a) = refl

-- an edge was marked whose target is over
module _ (r : RaisedValue) (t u : View) (h : IsEdgeMarked r t u) where
  abbrev event : Event
  event = mark_edge_event t r.edge.life h.found

  abbrev past : List Event
  past = h.carries.past

  before_grows : IsPrefix t.front past
  before_grows = until_grows t u event h.makes past h.carries.front h.carries.by

  pub won_leaves : vertex_marked t.front r.edge.target ≡ true → LeavesGraph true 0 0 t u
  won_leaves over =
      let then : vertex_marked past r.edge.target ≡ true = vertex_later t.front past before_grows r.edge.target over in
      let gone : present_key past r.edge.target ≡ None =
      ap (λ (b : Bool). cond b None (key_of past r.edge.target)) then in
      let none : both (present_key past r.source) (present_key past r.edge.target) ≡ None =
      ap (both (present_key past r.source)) gone ∙ both_none (present_key past r.source) in
      record {
        own = event ∷ [];
        makes = h.makes;
        leaves = λ z. leaves_there t u event h.makes past h.carries.front h.carries.by
            (changes_not past event (ap graph_of (sym h.carries.front) ∙ h.carries.missing none));
        takes = omega arith;
        shifts = omega arith;
        raised = λ is. absurd (cc);
      }

  -- right after that its source has no edge of its key
  pub won_lacks : IsLayout u.sizes → IsKept u.sizes u.front → LacksEdge r.source r.edge.key u.front
  won_lacks z kept = record {
    none = λ x link is live from of_key.
        let l = h.unmarked.linked in
        let until : IsPrefix past u.front = subst (IsPrefix past) (sym h.carries.front) (prefix_snoc past event) in
        let is_past : link_of past x ≡ Some link = sym (link_skip past event refl x)
        ∙ (ap (λ (j : List Event). link_of j x) (sym h.carries.front) ∙ is) in
        let same : x ≡ r.edge.life = one_present_edge u.sizes z past (kept_front u.sizes past u.front until kept) x
        r.edge.life link l.link is_past l.is (from ∙ sym l.from) (of_key ∙ sym l.of_key)
        (unmarked_then past u.front until x live) h.unmarked.unmarked in
        let dead : edge_marked u.front x ≡ true = ap (edge_marked u.front) same ∙ won_marked r t u h in
        absurd (cc);
  }

-- marking, whatever it came to, leaves the graph if the target is over
mark_leaves : (m : EdgeMarked) (r : RaisedValue) (t u : View) → MatchEdgeMarked m r t u
    → vertex_marked t.front r.edge.target ≡ true → LeavesGraph true 0 0 t u
mark_leaves Won r t u h over = won_leaves r t u h over
mark_leaves Was r t u h over = leaves_by_loads true t u h.makes
mark_leaves Replaced r t u h over = leaves_by_loads true t u h.makes

-- an edge to an earlier life of its key was to be marked
module _ (g : TableValue) (h : HandValue) (t u : TokenValue) (source : Life) (s : EdgeSighting)
    (last : Option RaisedValue) (r : RaisedValue) (m : EdgeMarked) (of : IsHandOf g h) (at : IsOf g t) (now : IsOf g u)
    (seen : IsSeenEdge h.token.view source s.edge s.moment.value.view.front)
    (o : IsRaisedOnce source s.edge last h.token.view t.view r) (k : MatchEdgeMarked m r t.view u.view) where
  pub stale_keeps : KeepsHand h.token.view u.view
  stale_keeps = keeps_chain h.token.view t.view u.view (once_keeps source s.edge last h.token.view t.view r o)
      (mark_keeps m r t.view u.view k)

  pub stale_goes : vertex_marked h.token.view.front s.edge.target ≡ true → HasItsNodes h
      → GoesOnBare h (with_spare h u h.spare)
  stale_goes over n =
      let v = h.token.view in
      let target : r.edge.target ≡ s.edge.target = ap (λ (e : Edge). e.target) o.edge_is in
      let then : vertex_marked t.view.front r.edge.target ≡ true = vertex_later v.front t.view.front
      (makes_later v t.view o.own o.makes).grows r.edge.target (ap (vertex_marked v.front) target ∙ over) in
      record {
        stretch = leaves_chain true 0 0 0 0 v t.view u.view (once_leaves source s.edge last v t.view r o)
            (mark_leaves m r t.view u.view k then);
        spare = refl;
        nodes = keeps_nodes g h u of now stale_keeps n;
        uses = refl;
      }

  pub stale_last : IsLastRaised source s.edge.key u.view (Some r)
  stale_last =
      let more = mark_keeps m r t.view u.view k in (
        raised_goes t.view u.view r at.layout (makes_goes t.view u.view more.own more.stays more.makes) o.raised,
        (ap (λ (e : Edge). e.key) o.edge_is, (ap (key_of u.view.front) o.source_is, inl o.source_is)),
      )

  pub stale_raised : (old : HandValue) → HasHelped old h
      → WasEdgeHere source s.edge.key old.token.view h.token.view s
      → RaisesFor source s.edge.key last (Some r) old.token.view u.view
  stale_raised old helped here =
      let first = helps_leave false old.token.view h.token.view helped.helped.only in
      let more = mark_raises m r t.view u.view k in
      raises_for source s.edge s.moment.value.view.front last r old.token.view h.token.view t.view u.view
      here.there.holds o first.own more.0 first.makes (first.raised refl) more.1.0 more.1.1 here.there.since
      here.there.until of.of.layout of.of.sound.kept

-- what it came to
module _ (g : TableValue) (h : HandValue) (t u : TokenValue) (source : Life) (s : EdgeSighting)
    (last : Option RaisedValue) (r : RaisedValue) (of : IsHandOf g h) (at : IsOf g t) (now : IsOf g u)
    (seen : IsSeenEdge h.token.view source s.edge s.moment.value.view.front)
    (o : IsRaisedOnce source s.edge last h.token.view t.view r) where
  pub stale_marked : (m : EdgeMarked) → MatchEdgeMarked m r t.view u.view
      → MatchStaleMarked m source s.edge.key s.moment.value.view.front u.view
  stale_marked Won k =
      let one : LacksEdge source r.edge.key u.view.front = subst
      (λ (x : Life). LacksEdge x r.edge.key u.view.front) o.source_is
      (won_lacks r t.view u.view k now.layout now.sound.kept) in
      subst (λ (e : Edge). LacksEdge source e.key u.view.front) o.edge_is one
  stale_marked Was k = once_fell source s.edge last h.token.view t.view r o of.of.layout at.layout
      s.moment.value.view.front seen u.view now.layout now.sound.kept k.makes k.marked
  stale_marked Replaced k = once_fell source s.edge last h.token.view t.view r o of.of.layout at.layout
      s.moment.value.view.front seen u.view now.layout now.sound.kept k.makes k.marked
