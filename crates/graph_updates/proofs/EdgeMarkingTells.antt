-- What marking an edge tells for which its source's counter was raised: what the hand keeps, what the caller raised,
-- and
-- what fell.
use Rattle.std.proofs.Common.{◌≡◌, ◌≢◌, ℕ, zero, suc, ◌<◌, Bool, true, false, List, [], ◌∷◌, ◌++◌, length}
use Rattle.std.proofs.Common.{None, Some, inl, refl, sym, ap, ◌∙◌, subst, arith}
use Rattle.std.specs.Prelude.{All}
use Rattle.graph_kinds.specs.History.{Every}
use Rattle.packed_link.specs.Layout.{link_at}
use Rattle.packed_link.specs.declared.link.Life.{Life}
use Rattle.core_counts.specs.Totals.{IsEdgeOver, IsNotOver, RaisesOnce}
use Rattle.core_counts.proofs.RaisesOfEdges.{once_done, once_few, once_raise, once_stays}
use Rattle.core_journal.specs.declared.event.Kind.TheVariants.{PopFree}
use Rattle.core_journal.specs.declared.event.Event.{Event}
use Rattle.core_journal.specs.Event.{raises}
use Rattle.core_journal.specs.Life.{edge_marked, vertex_marked}
use Rattle.core_journal.specs.Marks.{IsCutOf}
use Rattle.core_journal.specs.Prefix.{IsPrefix}
use Rattle.core_journal.proofs.KeptLives.{edge_marked_more}
use Rattle.core_journal.proofs.Lists.{get_here, prefix_trans, take_here}
use Rattle.core_kept.specs.Counts.{made, most_raises}
use Rattle.core_kept.proofs.Callers.{made_quiet}
use Rattle.core_lists.specs.Replacements.{IsReplacedBy}
use Rattle.core_lists.proofs.ChangedByAnother.{change_counts}
use Rattle.core_rule.specs.OwnEvents.{mark_edge_event, raise_event}
use Rattle.core_rule.specs.Stretches.{HasPass, is_of_fresh}
use Rattle.core_rule.specs.Views.{GoesOn, Steps}
use Rattle.core_rule.specs.declared.view.View.{View}
use Rattle.core_rule.proofs.ViewShows.{step_view}
use Rattle.core_stretches.specs.Makes.{Makes, StaysInPass, of_kinds}
use Rattle.core_stretches.proofs.MakesAddUp.{makes_chain}
use Rattle.core_stretches.proofs.MakesTell.{makes_counts, makes_goes, makes_later, makes_leaves}
use Rattle.edge_list.specs.EdgeMarks.{IsEdgeMarked, IsRaising, MatchEdgeMarked, RaisedValue}
use Rattle.edge_list.specs.EdgePositions.{IsSeenEdge}
use Rattle.edge_list.specs.declared.edge.Edge.{Edge}
use Rattle.edge_list.specs.declared.marking.EdgeMarked.{EdgeMarked}
use Rattle.edge_list.specs.declared.marking.EdgeMarked.TheVariants.{Won, Was, Replaced}
use Rattle.edge_list.specs.declared.walks.EdgeSighting.{EdgeSighting}
use Rattle.edge_list.proofs.EdgePositionsGoOn.{edge_place_not_third, linked_later, seen_makes}
use Rattle.edge_list.proofs.EdgeWalksTell.{seen_changed}
use Rattle.graph_table.specs.Tokens.{IsOf, TableValue, TokenValue}
use Rattle.graph_updates.specs.EdgeRaises.{HasRaised}
use Rattle.graph_updates.specs.EdgeRemoving.{GoesOnBare, MatchMarkedOnce, RaisesSince}
use Rattle.graph_updates.specs.Hands.{HandValue, HasItsNodes, IsHandOf}
use Rattle.graph_updates.specs.Parts.{Fell, LeavesGraph}
use Rattle.graph_updates.proofs.AddingTries.{calm_by_kind, calm_hand, calm_nodes, calm_pass, with_spare}
use Rattle.graph_updates.proofs.BurialLists.{every_both}
use Rattle.graph_updates.proofs.MarkPlaces.{cut_marked}
use Rattle.graph_updates.proofs.PartsLeave.{IsCalm, other_goes, spare_goes}

-- a stretch whose events touch nothing that a hand holds, and raise nothing
pub record KeepsHand (v w : View) : Type 0 where
  pub own : List Event
  pub makes : Makes v own w
  pub calm : Every IsCalm own
  pub stays : Every StaysInPass own
  pub plain : Every (λ (e : Event). is_of_fresh e.kind ≡ false) own
  pub none : Every (λ (e : Event). e.kind ≢ PopFree) own

pub keeps_chain : (u v w : View) → KeepsHand u v → KeepsHand v w → KeepsHand u w
keeps_chain u v w g h = record {
  own = g.own ++ h.own;
  makes = makes_chain u v w g.own h.own g.makes h.makes;
  calm = every_both IsCalm g.own h.own g.calm h.calm;
  stays = every_both StaysInPass g.own h.own g.stays h.stays;
  plain = every_both (λ (e : Event). is_of_fresh e.kind ≡ false) g.own h.own g.plain h.plain;
  none = every_both (λ (e : Event). e.kind ≢ PopFree) g.own h.own g.none h.none;
}

-- what a hand keeps in it
module _ (g : TableValue) (h : HandValue) (u : TokenValue) (of : IsHandOf g h) (now : IsOf g u)
    (k : KeepsHand h.token.view u.view) where
  pub keeps_hand : IsHandOf g (with_spare h u h.spare)
  keeps_hand = calm_hand g h u k.own of k.makes k.calm now h.spare
      (spare_goes h.token.view u.view k.own of.of.layout k.makes k.plain h.spare of.spare)

  pub keeps_nodes : HasItsNodes h → HasItsNodes (with_spare h u h.spare)
  keeps_nodes n = calm_nodes g h u k.own of k.makes k.calm now h.spare n
      (other_goes h.token.view u.view k.own of.of.layout k.makes k.none k.plain h.spare of.spare n.fresh)

  pub keeps_goes : GoesOn h.token.view u.view
  keeps_goes = makes_goes h.token.view u.view k.own k.stays k.makes

  pub keeps_pass : HasPass h.token.view → HasPass u.view
  keeps_pass opened = calm_pass g h u.view k.own of k.makes k.calm k.stays opened

-- a raise is such a stretch
raise_keeps : (v t : View) (source : Life) (edge : Edge) (r : RaisedValue) → IsRaising source edge v t r
    → KeepsHand v t
raise_keeps v t source edge r k = record {
  own = raise_event v source k.found ∷ [];
  makes = k.makes;
  calm = (calm_by_kind (raise_event v source k.found) refl (λ is. absurd (cc)) (λ is. absurd (cc)), tt);
  stays = (((λ is. absurd (cc)), (λ is. absurd (cc))), tt);
  plain = (refl, tt);
  none = ((λ is. absurd (cc)), tt);
}

-- and so is a mark
pub mark_keeps : (m : EdgeMarked) (r : RaisedValue) (t u : View) → MatchEdgeMarked m r t u → KeepsHand t u
mark_keeps Won r t u h = record {
  own = mark_edge_event t r.edge.life h.found ∷ [];
  makes = h.makes;
  calm = (calm_by_kind (mark_edge_event t r.edge.life h.found) refl (λ is. absurd (cc)) (λ is. absurd (cc)), tt);
  stays = (((λ is. absurd (cc)), (λ is. absurd (cc))), tt);
  plain = (refl, tt);
  none = ((λ is. absurd (cc)), tt);
}
mark_keeps Was r t u h = record { own = []; makes = h.makes; calm = tt; stays = tt; plain = tt; none = tt }
mark_keeps Replaced r t u h = record { own = []; makes = h.makes; calm = tt; stays = tt; plain = tt; none = tt }

pub marking_keeps : (m : EdgeMarked) (source : Life) (edge : Edge) (r : RaisedValue) (v t u : View)
    → IsRaising source edge v t r → MatchEdgeMarked m r t u → KeepsHand v u
marking_keeps m source edge r v t u k h = keeps_chain v t u (raise_keeps v t source edge r k) (mark_keeps m r t u h)

-- the edge is marked by then
pub won_marked : (r : RaisedValue) (t u : View) → IsEdgeMarked r t u → edge_marked u.front r.edge.life ≡ true
won_marked r t u h =
    let e = mark_edge_event t r.edge.life h.found in
    let past = h.carries.past in
    let cut : IsCutOf (past ++ e ∷ []) r.edge.life (length past) = record {
      event = e;
      at = get_here past e [];
      cuts = refl;
      life = refl;
      uncut = ap (λ (l : List Event). edge_marked l r.edge.life) (take_here past (e ∷ [])) ∙ h.unmarked.unmarked;
    } in
    ap (λ (l : List Event). edge_marked l r.edge.life) h.carries.front
    ∙ cut_marked (past ++ e ∷ []) r.edge.life (length past) cut

pub marked_then : (m : EdgeMarked) (r : RaisedValue) (t u : View) → MatchEdgeMarked m r t u
    → edge_marked u.front r.edge.life ≡ true
marked_then Won r t u h = won_marked r t u h
marked_then Was r t u h = h.marked
marked_then Replaced r t u h = h.marked

-- no raise follows
pub mark_raises : (m : EdgeMarked) (r : RaisedValue) (t u : View) → MatchEdgeMarked m r t u
    → (more : List Event) × (Makes t more u × (of_kinds raises more ≡ 0))
mark_raises Won r t u h = (mark_edge_event t r.edge.life h.found ∷ [], (h.makes, refl))
mark_raises Was r t u h = ([], (h.makes, refl))
mark_raises Replaced r t u h = ([], (h.makes, refl))

-- an edge that isn't marked wasn't before
uncut_since : (old new : List Event) → IsPrefix old new → (x : Life) → edge_marked new x ≡ false
    → edge_marked old x ≡ false
uncut_since old new p x live = by (edge_marked old x) refl
  where
    by : (b : Bool) → edge_marked old x ≡ b → edge_marked old x ≡ false
    by false is = is
    by true is =
        let marked : edge_marked new x ≡ true = subst (λ (l : List Event). edge_marked l x ≡ true) p.whole
        (edge_marked_more old p.rest x is) in
        absurd (cc)

-- the moment at which an edge was seen is before its view
pub seen_before : (v : View) (source : Life) (edge : Edge) (moment : List Event) → IsSeenEdge v source edge moment
    → IsPrefix moment v.front
seen_before v source edge moment s = subst (λ (j : List Event). IsPrefix j v.front) s.position.at
    s.position.goes.grows

one_of : (P : Life → Type 0) (x : Life) → P x → All P (x ∷ [])
one_of P x p = λ i d low. by i d low
  where
    by : All P (x ∷ [])
    by zero d low = p
    by (suc i) d low = absurd (omega (arith, low))

none_of : (P : Life → Type 0) → All P []
none_of P = λ i d low. absurd (omega (arith, low))

-- a counter was raised for an edge that was seen, and by the end of the stretch the edge is marked
module _ (source : Life) (edge : Edge) (moment : List Event) (v t u : View) (found : ℕ)
    (s : IsSeenEdge v source edge moment) (raising : Makes v (raise_event v source found ∷ []) t) (more : List Event)
    (rest : Makes t more u) (quiet : of_kinds raises more ≡ 0) (dead : edge_marked u.front edge.life ≡ true) where
  abbrev raise_of : Event
  raise_of = raise_event v source found

  abbrev there : View
  there = raising.steps.0

  step : Steps v (Some raise_of) there
  step = raising.steps.2

  abbrev before : List Event
  before = step.grown

  caller_there : there.number ≡ v.number
  caller_there = (step_view v there (Some raise_of) step).1

  since_there : Makes there more u
  since_there = makes_chain there t u [] more (record { steps = raising.steps.3 }) rest

  caller_same : u.number ≡ v.number
  caller_same = (makes_later there u more since_there).number ∙ caller_there

  none_before : made raises v.number before ≡ made raises v.number v.front
  none_before = made_quiet raises v.number v.last v.front before step.reaches.front step.reaches.old step.reaches.quiet

  none_since : made raises v.number u.front ≡ made raises v.number there.front
  none_since =
      let count = makes_counts raises there u more since_there in
      let here = ap (λ (n : ℕ). made raises n u.front) caller_same in
      let was = ap (λ (n : ℕ). made raises n there.front) caller_there in
      omega (arith, count, quiet, here, was)

  not_over : (start : List Event) → IsPrefix start moment → vertex_marked start source ≡ false
      → IsNotOver start before edge.life
  not_over start p live =
      let l = linked_later moment before edge.life source edge.target edge.key edge.weight
      (prefix_trans moment v.front before (seen_before v source edge moment s) step.reaches.front) s.unmarked.linked in
      record {
        link = l.link;
        linked = l.is;
        unmarked = uncut_since start moment p edge.life s.unmarked.unmarked;
        source = ap (vertex_marked start) l.from ∙ live;
      }

  since_each : (start : List Event) (again : ℕ) → IsPrefix start moment → vertex_marked start source ≡ false
      → RaisesOnce start v.front v.number again [] → RaisesOnce u.front u.front u.number again []
  since_each start again p live o =
      let to_v = prefix_trans start moment v.front p (seen_before v source edge moment s) in
      let to_before = prefix_trans start v.front before to_v step.reaches.front in
      let grows = (makes_later there u more since_there).grows in
      let to_there = prefix_trans start v.front there.front to_v (step_view v there (Some raise_of) step).4 in
      let to_u = prefix_trans start there.front u.front to_there grows in
      let first = once_stays v.number again [] start v.front before step.reaches.front none_before o in
      let one : RaisesOnce start (before ++ raise_of ∷ []) v.number again (edge.life ∷ []) = once_raise v.number again
      []
      start before raise_of edge.life to_before (not_over start p live) (none_of (λ (y : Life). edge.life ≢ y)) first in
      let raised : RaisesOnce start there.front v.number again (edge.life ∷ []) = subst
      (λ (l : List Event). RaisesOnce start l v.number again (edge.life ∷ [])) (sym step.front) one in
      let last = once_stays v.number again (edge.life ∷ []) start there.front u.front grows none_since raised in
      subst (λ (n : ℕ). RaisesOnce u.front u.front n again []) (sym caller_same)
      (once_done v.number again (edge.life ∷ []) start u.front to_u (one_of (IsEdgeOver u.front) edge.life (inl dead))
      last)

  raises_then : RaisesSince source moment v u
  raises_then = record { each = since_each }

pub marking_raises : (m : EdgeMarked) (source : Life) (edge : Edge) (r : RaisedValue) (moment : List Event)
    (v t u : View) → IsSeenEdge v source edge moment → IsRaising source edge v t r → MatchEdgeMarked m r t u
    → RaisesSince source moment v u
marking_raises m source edge r moment v t u s k h =
    let more = mark_raises m r t u h in
    raises_then source edge moment v t u k.found s k.makes more.0 more.1.0 more.1.1
    (subst (λ (x : Edge). edge_marked u.front x.life ≡ true) k.edge_is (marked_then m r t u h))

-- so few raises were made
pub few_raises : (g : TableValue) (h : HandValue) → IsHandOf g h → HasRaised None h.token.view
    → made raises h.token.view.number h.token.view.front < most_raises
few_raises g h of o =
    let v = h.token.view in
    let few = once_few v.sizes of.of.layout v.front v.front of.of.sound.kept v.number o.again [] o.once in
    let most = o.few in
    omega (arith, few, most)

-- a raise leaves the graph
raise_leaves : (v t : View) (source : Life) (edge : Edge) (r : RaisedValue) → IsRaising source edge v t r
    → LeavesGraph true 0 0 v t
raise_leaves v t source edge r k = record {
  own = raise_event v source k.found ∷ [];
  makes = k.makes;
  leaves = λ z. makes_leaves v t (raise_event v source k.found ∷ []) z (inl refl, tt) k.makes;
  takes = omega arith;
  shifts = omega arith;
  raised = λ is. absurd (cc);
}

-- what the mark came to
module _ (g : TableValue) (h : HandValue) (t u : TokenValue) (source : Life) (s : EdgeSighting) (r : RaisedValue)
    (of : IsHandOf g h) (at : IsOf g t) (now : IsOf g u) (nodes : HasItsNodes h)
    (seen : IsSeenEdge h.token.view source s.edge s.moment.value.view.front)
    (k : IsRaising source s.edge h.token.view t.view r) where
  edge_same : r.edge ≡ s.edge
  edge_same = k.edge_is

  loads_on : Makes t.view [] u.view → HasItsNodes (with_spare h u h.spare) → GoesOnBare h (with_spare h u h.spare)
  loads_on makes n = record {
    stretch = record {
      own = raise_event h.token.view source k.found ∷ [];
      makes = makes_chain h.token.view t.view u.view (raise_event h.token.view source k.found ∷ []) [] k.makes makes;
      leaves = λ z. makes_leaves h.token.view u.view (raise_event h.token.view source k.found ∷ []) z (inl refl, tt)
          (makes_chain h.token.view t.view u.view (raise_event h.token.view source k.found ∷ []) [] k.makes makes);
      takes = omega arith;
      shifts = omega arith;
      raised = λ is. absurd (cc);
    };
    spare = refl;
    nodes = n;
    uses = refl;
  }

  fell_by : Makes t.view [] u.view → edge_marked u.view.front s.edge.life ≡ true
      → Fell 1 u.view.number s.moment.value.view.front u.view.front
  fell_by makes dead =
      let v = h.token.view in
      let moment = s.moment.value.view.front in
      let e = raise_event v source k.found in
      let whole = makes_chain v t.view u.view (e ∷ []) [] k.makes makes in
      let later = seen_makes v u.view (e ∷ []) source s.edge moment of.of.layout
      (((λ is. absurd (cc)), (λ is. absurd (cc))), tt)
      (edge_place_not_third true v _ source.index of.of.layout seen.position, tt) whole seen in
      let changed = seen_changed u.view source s.edge moment now.layout now.sound.kept later dead in
      record {
        least = change_counts moment u.view.front u.view.number (link_at u.view.sizes s.edge.life.index) changed;
      }

  as_seen : IsEdgeMarked r t.view u.view → IsEdgeMarked (record { source = source; edge = s.edge }) t.view u.view
  as_seen w =
      let first : IsEdgeMarked (record { source = source; edge = r.edge }) t.view u.view = subst
      (λ (x : Life). IsEdgeMarked (record { source = x; edge = r.edge }) t.view u.view) k.source_is w in
      subst (λ (x : Edge). IsEdgeMarked (record { source = source; edge = x }) t.view u.view) edge_same first

  pub marked_once : (m : EdgeMarked) → HasItsNodes (with_spare h u h.spare) → MatchEdgeMarked m r t.view u.view
      → MatchMarkedOnce m source s h (with_spare h u h.spare)
  marked_once Won n w =
      let one = as_seen w in
      record {
        before = t.view;
        found = one.found;
        first = raise_leaves h.token.view t.view source s.edge r k;
        makes = one.makes;
        carries = one.carries;
        unmarked = one.unmarked;
        uses = refl;
      }
  marked_once Was n w = record {
    on = loads_on w.makes n;
    marked = subst (λ (x : Edge). edge_marked u.view.front x.life ≡ true) edge_same w.marked;
    unreplaced = subst (λ (x : Edge). (other : Life) → IsReplacedBy u.view.front x.life other → ⊥) edge_same
        w.unreplaced;
  }
  marked_once Replaced n w = (
    loads_on w.makes n,
    fell_by w.makes (subst (λ (x : Edge). edge_marked u.view.front x.life ≡ true) edge_same w.marked),
  )
