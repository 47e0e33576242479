-- What raising the counter of an edge's source tells, once for each edge, and what a call has raised over a stretch.
use Rattle.std.proofs.Common.{◌≡◌, ◌≢◌, ◌⊎◌, ℕ, zero, suc, ◌<◌, ◌&&◌, nat_eq, Bool, true, false, List, [], ◌∷◌, ◌++◌}
use Rattle.std.proofs.Common.{Option, None, Some, inl, inr, refl, sym, ap, ◌∙◌, subst, arith, ⊎_elim}
use Rattle.std.proofs.lemmas.Bool.{eqb-true}
use Rattle.std.specs.Prelude.{All}
use Rattle.packed_link.specs.Layout.{IsLayout}
use Rattle.packed_link.specs.declared.link.Life.{Life}
use Rattle.core_counts.specs.Totals.{IsEdgeOver, IsNotOver, RaisesOnce}
use Rattle.core_counts.proofs.RaisesOfEdges.{once_few, once_raise, once_stays}
use Rattle.core_journal.specs.declared.event.Event.{Event}
use Rattle.core_journal.specs.Event.{raises}
use Rattle.core_journal.specs.Life.{edge_marked, key_of, link_of, vertex_marked}
use Rattle.core_journal.specs.Prefix.{IsPrefix}
use Rattle.core_journal.proofs.KeptLives.{edge_marked_more, link_more, vertex_marked_more}
use Rattle.core_journal.proofs.Lists.{prefix_refl, prefix_trans}
use Rattle.core_journal.proofs.LivesOf.{present_is}
use Rattle.core_kept.specs.Counts.{made, most_raises}
use Rattle.core_kept.specs.Facts.{IsLinkOf}
use Rattle.core_kept.specs.Kept.{IsKept}
use Rattle.core_kept.proofs.Callers.{made_quiet}
use Rattle.core_kept.proofs.Induction.{kept_front}
use Rattle.core_lists.proofs.LivesOnLists.{one_present_edge}
use Rattle.core_lists.proofs.OneVertexOfKey.{one_present}
use Rattle.core_rule.specs.Fronts.{MetVertex}
use Rattle.core_rule.specs.Stretches.{HasPass}
use Rattle.core_rule.specs.OwnEvents.{raise_event}
use Rattle.core_rule.specs.Plays.{IsSound}
use Rattle.core_rule.specs.Views.{GoesOn, Steps}
use Rattle.core_rule.specs.declared.view.View.{View}
use Rattle.core_rule.proofs.ViewShows.{key_shown, step_view, vertex_still}
use Rattle.core_stretches.specs.Makes.{Makes, StaysInPass, of_kinds}
use Rattle.core_stretches.proofs.MakesAddUp.{makes_chain, makes_self}
use Rattle.core_stretches.proofs.MakesTell.{makes_counts, makes_goes, makes_later}
use Rattle.edge_list.specs.EdgeMarks.{RaisedValue}
use Rattle.edge_list.specs.EdgePositions.{IsSeenEdge, IsUnmarkedEdge}
use Rattle.edge_list.specs.declared.edge.Edge.{Edge}
use Rattle.edge_list.proofs.EdgeMarksTell.{raised_goes, same_edge}
use Rattle.edge_list.proofs.EdgePositionsGoOn.{linked_later, same_link}
use Rattle.graph_updates.specs.EdgeRaises.{HasRaised, HasRaisedFrom, HasRaisedSome, IsLastRaised, IsPast, IsRaisedOn}
use Rattle.graph_updates.specs.EdgeRaises.{IsRaisedOnce, RaisesFor, RaisesKept, last_raised}
use Rattle.graph_updates.specs.EdgeAdding.{IsUnraised}
use Rattle.graph_updates.specs.Hands.{HandValue}
use Rattle.graph_updates.specs.Pairs.{AreEnds}
use Rattle.graph_updates.specs.Parts.{HasHelped, IsHelp}
use Rattle.graph_updates.specs.declared.pairs.Ends.{Ends}
use Rattle.graph_updates.proofs.BurialLists.{every_both, every_map}
use Rattle.graph_updates.proofs.EndsTell.{told_apart}
use Rattle.graph_updates.proofs.PairsTell.{linked_since, present_then, unmarked_since}
use Rattle.graph_updates.proofs.PartsLeave.{each_kind, help_raises, help_stays, kinds_both, no_kinds, pass_goes}

-- two lives that a comparison finds the same
pub told_same : (x y : Life) (b : Bool) → b ≡ (nat_eq x.index y.index && nat_eq x.tag y.tag) → b ≡ true → x ≡ y
told_same x y b is same = by (nat_eq x.index y.index) (nat_eq x.tag y.tag) refl refl (sym is ∙ same)
  where
    by : (c d : Bool) → nat_eq x.index y.index ≡ c → nat_eq x.tag y.tag ≡ d → (c && d) ≡ true → x ≡ y
    by true true one two all = λ i. record {
      index = eqb-true x.index y.index one i;
      tag = eqb-true x.tag y.tag two i;
    }
    by true false one two all = absurd (cc)
    by false d one two all = absurd (cc)

-- the edge was the one for which this call raised last
pub raised_already : (source : Life) (edge : Edge) (moment : List Event) (key : ℕ) (last : Option RaisedValue)
    (y : RaisedValue) (v : View) → v.numbered ≡ true → IsSound v → last ≡ Some y → IsLastRaised source key v last
    → IsSeenEdge v source edge moment → y.edge.life ≡ edge.life → IsRaisedOnce source edge last v v y
raised_already source edge moment key last y v numbered sound is so seen same =
    let r : IsLastRaised source key v (Some y) = subst (IsLastRaised source key v) is so in
    let one = same_edge v y source edge moment r.0 seen (sym same) in
    record {
      source_is = sym one.0;
      edge_is = sym one.1;
      raised = r.0;
      own = [];
      makes = makes_self v numbered sound;
      once = inl (is, refl);
    }

-- what holds of all, holds of all where it follows
pub all_map : (P Q : Life → Type 0) → ((x : Life) → P x → Q x) → (xs : List Life) → All P xs → All Q xs
all_map P Q f xs h = λ i d low. f _ (h i d low)

all_with : (P : Life → Type 0) (x : Life) (xs : List Life) → P x → All P xs → All P (x ∷ xs)
all_with P x xs p h = λ i d low. by i d low
  where
    by : All P (x ∷ xs)
    by zero d low = p
    by (suc i) d low = h i d (omega (arith, low))

-- so few raises were made
pub few_of_some : (v : View) (source : Life) (last : Option RaisedValue) → IsLayout v.sizes → IsSound v
    → HasRaisedSome source last v → made raises v.number v.front < most_raises
few_of_some v source last z sound o =
    let few = once_few v.sizes z o.start v.front sound.kept v.number o.again (last_raised last ++ o.so.others)
    o.so.once in
    let most = o.few in
    omega (arith, few, most)

-- what a caller raised since a start stays so over a stretch without raises
pub once_along : (v w : View) (own : List Event) → Makes v own w → of_kinds raises own ≡ 0 → (start : List Event)
    (again : ℕ) (held : List Life) → RaisesOnce start v.front v.number again held
    → RaisesOnce start w.front w.number again held
once_along v w own makes none start again held o =
    let later = makes_later v w own makes in
    let count = makes_counts raises v w own makes in
    let named : made raises w.number w.front ≡ made raises v.number w.front = ap (λ (n : ℕ). made raises n w.front)
    later.number in
    let same : made raises v.number w.front ≡ made raises v.number v.front = omega (arith, count, none, named) in
    subst (λ (n : ℕ). RaisesOnce start w.front n again held) (sym later.number)
    (once_stays v.number again held start v.front w.front later.grows same o)

-- and over a raise for an edge that wasn't over at the start, and is none of those it raised for since
pub once_more : (v t : View) (source : Life) (found : ℕ) → Makes v (raise_event v source found ∷ []) t
    → (start : List Event) (again : ℕ) (held : List Life) (x : Life) → IsPrefix start v.front
    → ((journal : List Event) → IsPrefix v.front journal → IsNotOver start journal x)
    → All (λ (y : Life). x ≢ y) held → RaisesOnce start v.front v.number again held
    → RaisesOnce start t.front t.number again (x ∷ held)
once_more v t source found makes start again held x p not_over apart o =
    let e = raise_event v source found in
    let there = makes.steps.0 in
    let step : Steps v (Some e) there = makes.steps.2 in
    let since : Makes there [] t = record { steps = makes.steps.3 } in
    let grown = step.grown in
    let first = once_stays v.number again held start v.front grown step.reaches.front
    (made_quiet raises v.number v.last v.front grown step.reaches.front step.reaches.old step.reaches.quiet) o in
    let one : RaisesOnce start (grown ++ e ∷ []) v.number again (x ∷ held) = once_raise v.number again held start grown
    e x (prefix_trans start v.front grown p step.reaches.front) (not_over grown step.reaches.front) apart first in
    let here : RaisesOnce start there.front v.number again (x ∷ held) = subst
    (λ (l : List Event). RaisesOnce start l v.number again (x ∷ held)) (sym step.front) one in
    once_along there t [] since refl start again (x ∷ held)
    (subst (λ (n : ℕ). RaisesOnce start there.front n again (x ∷ held)) (sym (step_view v there (Some e) step).1) here)

edge_later : (old new : List Event) → IsPrefix old new → (x : Life) → edge_marked old x ≡ true
    → edge_marked new x ≡ true
edge_later old new p x is = subst (λ (l : List Event). edge_marked l x ≡ true) p.whole
    (edge_marked_more old p.rest x is)

pub vertex_later : (old new : List Event) → IsPrefix old new → (x : Life) → vertex_marked old x ≡ true
    → vertex_marked new x ≡ true
vertex_later old new p x is = subst (λ (l : List Event). vertex_marked l x ≡ true) p.whole
    (vertex_marked_more old p.rest x is)

link_later : (old new : List Event) → IsPrefix old new → (x : Life) (link : Event) → link_of old x ≡ Some link
    → link_of new x ≡ Some link
link_later old new p x link is = subst (λ (l : List Event). link_of l x ≡ Some link) p.whole
    (link_more old p.rest x link is)

-- an edge that isn't marked wasn't before
pub unmarked_then : (old new : List Event) → IsPrefix old new → (x : Life) → edge_marked new x ≡ false
    → edge_marked old x ≡ false
unmarked_then old new p x live = by (edge_marked old x) refl
  where
    by : (b : Bool) → edge_marked old x ≡ b → edge_marked old x ≡ false
    by false is = is
    by true is = let dead = edge_later old new p x is in absurd (cc)

-- an edge that needs no raise any more needs none later
past_on : (source : Life) (old new : List Event) → IsPrefix old new → (x : Life) → IsPast source old x
    → IsPast source new x
past_on source old new p x h = record {
  link = h.link;
  linked = link_later old new p x h.link h.linked;
  past = ⊎_elim (λ dead. inl (edge_later old new p x dead))
      (λ over. inr (over.0, vertex_later old new p h.link.source over.1)) h.past;
}

-- an edge of a source was unmarked at a moment
module _ (source : Life) (edge : Edge) (moment : List Event) (seen : IsUnmarkedEdge source edge moment) where
  -- it differs from those that needed no raise before
  apart_past : (old : List Event) → IsPrefix old moment → (y : Life) → IsPast source old y → edge.life ≢ y
  apart_past old p y h same = ⊎_elim
      (λ (dead : edge_marked old y ≡ true).
      let then = ap (edge_marked moment) same ∙ edge_later old moment p y dead in
      let live = seen.unmarked in
      absurd (cc))
      (λ (over : (h.link.source ≢ source) × (vertex_marked old h.link.source ≡ true)).
      let one : seen.linked.link ≡ h.link = same_link (link_of moment edge.life) seen.linked.link h.link
      seen.linked.is (ap (link_of moment) same ∙ link_later old moment p y h.link h.linked) in
      absurd (over.0 (sym (ap (λ (e : Event). e.source) one) ∙ seen.linked.from)))
      h.past

  -- it wasn't over at an earlier start at which its source wasn't marked
  not_over_then : (start : List Event) → IsPrefix start moment → vertex_marked start source ≡ false
      → (journal : List Event) → IsPrefix moment journal → IsNotOver start journal edge.life
  not_over_then start p live journal q =
      let l = linked_later moment journal edge.life source edge.target edge.key edge.weight q seen.linked in
      record {
        link = l.link;
        linked = l.is;
        unmarked = unmarked_then start moment p edge.life seen.unmarked;
        source = ap (vertex_marked start) l.from ∙ live;
      }

  -- another edge, for which this call raised last, needs no raise any more
  module _ (v : View) (z : IsLayout v.sizes) (kept : IsKept v.sizes moment) (p : IsPrefix v.front moment)
      (y : RaisedValue) (is : IsLastRaised source edge.key v (Some y)) (other : y.edge.life ≢ edge.life) where
    then : IsLinkOf moment y.edge.life y.source y.edge.target y.edge.key y.edge.weight
    then = linked_later v.front moment y.edge.life y.source y.edge.target y.edge.key y.edge.weight p is.0.linked

    by_mark : (b : Bool) → edge_marked moment y.edge.life ≡ b → y.source ≡ source
        → edge_marked moment y.edge.life ≡ true
    by_mark true dead same = dead
    by_mark false live same = absurd (other (one_present_edge v.sizes z moment kept y.edge.life edge.life then.link
        seen.linked.link then.is seen.linked.is (then.from ∙ (same ∙ sym seen.linked.from))
        (then.of_key ∙ (is.1.0 ∙ sym seen.linked.of_key)) live seen.unmarked))

    by_source : (b : Bool) → (nat_eq y.source.index source.index && nat_eq y.source.tag source.tag) ≡ b
        → (edge_marked moment y.edge.life ≡ true)
        ⊎ ((then.link.source ≢ source) × (vertex_marked moment then.link.source ≡ true))
    by_source true is_same = inl (by_mark (edge_marked moment y.edge.life) refl
        (told_same y.source source true (sym is_same) refl))
    by_source false is_other =
        let apart : y.source ≢ source = told_apart y.source source false (sym is_other) refl in
        ⊎_elim (λ (same : y.source ≡ source). absurd (apart same))
        (λ (over : vertex_marked v.front y.source ≡ true). inr (
          (λ same. apart (sym then.from ∙ same)),
          vertex_later v.front moment p then.link.source (ap (vertex_marked v.front) then.from ∙ over),
        ))
        is.1.1.1

    last_past : IsPast source moment y.edge.life
    last_past = record {
      link = then.link;
      linked = then.is;
      past = by_source (nat_eq y.source.index source.index && nat_eq y.source.tag source.tag) refl;
    }

-- in a stretch in which a counter was raised once for an edge, and no other was: what the caller raised since a start
-- at which the edge's source wasn't marked is for the edges that need no raise any more, and for this one
module _ (source : Life) (edge : Edge) (moment : List Event) (last : Option RaisedValue) (r : RaisedValue)
    (u v t w : View) (seen : IsUnmarkedEdge source edge moment) (o : IsRaisedOnce source edge last v t r)
    (first more : List Event) (before : Makes u first v) (none_before : of_kinds raises first ≡ 0)
    (rest : Makes t more w) (none_since : of_kinds raises more ≡ 0) (since : IsPrefix u.front moment)
    (until : IsPrefix moment v.front) (z : IsLayout v.sizes) (kept : IsKept v.sizes v.front) where
  same_life_is : r.edge.life ≡ edge.life
  same_life_is = ap (λ (x : Edge). x.life) o.edge_is

  sizes_there : v.sizes ≡ u.sizes
  sizes_there = (makes_later u v first before).sizes

  kept_moment : IsKept u.sizes moment
  kept_moment = subst (λ (s : _). IsKept s moment) sizes_there (kept_front v.sizes moment v.front until kept)

  layout_there : IsLayout u.sizes
  layout_there = subst IsLayout sizes_there z

  to_end : IsPrefix moment w.front
  to_end = prefix_trans moment v.front w.front until
      (prefix_trans v.front t.front w.front (makes_later v t o.own o.makes).grows (makes_later t w more rest).grows)

  -- nothing was raised: this call raised for the edge last
  raised_none : (start : List Event) (again : ℕ) → last ≡ Some r → o.own ≡ [] → HasRaisedFrom source start again last u
      → HasRaisedFrom source start again (Some r) w
  raised_none start again is empty h =
      let none_between : of_kinds raises o.own ≡ 0 = ap (of_kinds raises) empty in
      let had : RaisesOnce start u.front u.number again (last_raised (Some r) ++ h.others) = subst
      (λ (l : Option RaisedValue). RaisesOnce start u.front u.number again (last_raised l ++ h.others)) is h.once in
      let held = last_raised (Some r) ++ h.others in
      record {
        others = h.others;
        past = all_map (IsPast source u.front) (IsPast source w.front)
            (past_on source u.front w.front (prefix_trans u.front moment w.front since to_end)) h.others h.past;
        once = once_along t w more rest none_since start again held
            (once_along v t o.own o.makes none_between start again held
            (once_along u v first before none_before start again held had));
      }

  -- the counter was raised
  raised_one : (start : List Event) (again : ℕ) → IsPrefix start u.front → vertex_marked start source ≡ false
      → (found : ℕ) → o.own ≡ raise_event v source found ∷ [] → (others : List Life)
      → All (λ (y : Life). edge.life ≢ y) others → All (IsPast source w.front) others
      → RaisesOnce start u.front u.number again others → HasRaisedFrom source start again (Some r) w
  raised_one start again p live found own_is others apart past once =
      let makes : Makes v (raise_event v source found ∷ []) t = subst (λ (l : List Event). Makes v l t) own_is
      o.makes in
      let to_moment = prefix_trans start u.front moment p since in
      let held : RaisesOnce start w.front w.number again (edge.life ∷ others) = once_along t w more rest none_since
      start again (edge.life ∷ others)
      (once_more v t source found makes start again others edge.life (prefix_trans start moment v.front to_moment until)
      (λ journal q. not_over_then source edge moment seen start to_moment live journal
      (prefix_trans moment v.front journal until q)) apart
      (once_along u v first before none_before start again others once)) in
      record {
        others = others;
        past = past;
        once = subst (λ (x : Life). RaisesOnce start w.front w.number again (x ∷ others)) (sym same_life_is) held;
      }

  -- which edges need no raise any more by then
  raised_else : (start : List Event) (again : ℕ) → IsPrefix start u.front → vertex_marked start source ≡ false
      → (found : ℕ) → o.own ≡ raise_event v source found ∷ [] → (l : Option RaisedValue)
      → last_raised l ≢ edge.life ∷ [] → IsLastRaised source edge.key u l → HasRaisedFrom source start again l u
      → HasRaisedFrom source start again (Some r) w
  raised_else start again p live found own_is None other is h = raised_one start again p live found own_is h.others
      (all_map (IsPast source u.front) (λ (y : Life). edge.life ≢ y)
      (apart_past source edge moment seen u.front since) h.others h.past)
      (all_map (IsPast source u.front) (IsPast source w.front)
      (past_on source u.front w.front (prefix_trans u.front moment w.front since to_end)) h.others h.past)
      h.once
  raised_else start again p live found own_is (Some y) other is h =
      let apart : y.edge.life ≢ edge.life = λ same. other (ap (λ (x : Life). x ∷ []) same) in
      raised_one start again p live found own_is (y.edge.life ∷ h.others)
      (all_with (λ (x : Life). edge.life ≢ x) y.edge.life h.others (λ same. apart (sym same))
      (all_map (IsPast source u.front) (λ (x : Life). edge.life ≢ x)
      (apart_past source edge moment seen u.front since) h.others h.past))
      (all_with (IsPast source w.front) y.edge.life h.others
      (past_on source moment w.front to_end y.edge.life
      (last_past source edge moment seen u layout_there kept_moment since y is apart))
      (all_map (IsPast source u.front) (IsPast source w.front)
      (past_on source u.front w.front (prefix_trans u.front moment w.front since to_end)) h.others h.past))
      h.once

  pub raises_for : RaisesFor source edge.key last (Some r) u w
  raises_for = record {
    each = λ start again p live is h. ⊎_elim
        (λ (n : (last ≡ Some r) × (o.own ≡ [])). raised_none start again n.0 n.1 h)
        (λ (n : ((found : ℕ) × (o.own ≡ raise_event v source found ∷ [])) × (last_raised last ≢ edge.life ∷ [])).
        raised_else start again p live n.0.0 n.0.1 last n.1 is h)
        o.once;
  }

-- a stretch in an open pass without raises
module _ (v w : View) (q : IsUnraised v w) where
  pub unraised_goes : GoesOn v w
  unraised_goes = makes_goes v w q.own q.stays q.makes

  pub unraised_pass : IsLayout v.sizes → HasPass v → HasPass w
  unraised_pass z opened = pass_goes v w q.own z q.makes true q.stays opened

  pub unraised_met : IsLayout v.sizes → (x : Life) → MetVertex v x → MetVertex w x
  unraised_met z x met = vertex_still v w z unraised_goes x met

  -- the edge for which this call raised last stays one
  pub unraised_last : IsLayout v.sizes → IsKept v.sizes v.front → (source : Life) → MetVertex v source → (key : ℕ)
      → (l : Option RaisedValue) → IsLastRaised source key v l → IsLastRaised source key w l
  unraised_last z kept source met key None h = tt
  unraised_last z kept source met key (Some r) h =
      let p = unraised_goes.grows in
      let one = linked_since v.front w.front p r.source _ (key_shown v z kept r.source h.0.from) in
      let two = linked_since v.front w.front p source _ (key_shown v z kept source met) in
      let same = sym (key_shown v z kept r.source h.0.from) ∙ (h.1.1.0 ∙ key_shown v z kept source met) in (
        raised_goes v w r z unraised_goes h.0,
        (
          h.1.0,
          (
            one ∙ (same ∙ sym two),
            ⊎_elim (λ (s : r.source ≡ source). inl s)
                (λ (over : vertex_marked v.front r.source ≡ true). inr (vertex_later v.front w.front p r.source over))
                h.1.1.1,
          ),
        ),
      )

  -- what was raised since a start stays as it was
  pub unraised_from : (source : Life) (start : List Event) (again : ℕ) (l : Option RaisedValue)
      → HasRaisedFrom source start again l v → HasRaisedFrom source start again l w
  unraised_from source start again l h = record {
    others = h.others;
    past = all_map (IsPast source v.front) (IsPast source w.front)
        (past_on source v.front w.front unraised_goes.grows) h.others h.past;
    once = once_along v w q.own q.makes q.raised start again (last_raised l ++ h.others) h.once;
  }

  pub unraised_some : (source : Life) (l : Option RaisedValue) → HasRaisedSome source l v → HasRaisedSome source l w
  unraised_some source l h = record {
    start = h.start;
    since = prefix_trans h.start v.front w.front h.since unraised_goes.grows;
    unmarked = h.unmarked;
    again = h.again;
    few = h.few;
    so = unraised_from source h.start h.again l h.so;
  }

  pub unraised_for : (source : Life) (key : ℕ) (l : Option RaisedValue) → RaisesFor source key l l v w
  unraised_for source key l = record { each = λ start again p live is h. unraised_from source start again l h }

  pub raises_then : (source : Life) (key : ℕ) (l k : Option RaisedValue) (u : View) → RaisesFor source key l k u v
      → RaisesFor source key l k u w
  raises_then source key l k u r = record {
    each = λ start again p live is h. unraised_from source start again k (r.each start again p live is h);
  }

pub unraised_chain : (u v w : View) → IsUnraised u v → IsUnraised v w → IsUnraised u w
unraised_chain u v w g h = record {
  own = g.own ++ h.own;
  stays = every_both StaysInPass g.own h.own g.stays h.stays;
  makes = makes_chain u v w g.own h.own g.makes h.makes;
  raised = let both = kinds_both raises g.own h.own in let a = g.raised in let b = h.raised in
      omega (arith, both, a, b);
}

pub unraised_loads : (v w : View) → Makes v [] w → IsUnraised v w
unraised_loads v w makes = record { own = []; stays = tt; makes = makes; raised = refl }

pub unraised_helped : (old new : HandValue) → HasHelped old new → IsUnraised old.token.view new.token.view
unraised_helped old new h =
    let only = h.helped.only in
    record {
      own = only.own;
      stays = every_map (λ (e : Event). IsHelp e.kind) StaysInPass help_stays only.own only.are;
      makes = only.makes;
      raised = no_kinds raises only.own (each_kind IsHelp (λ k. raises k ≡ false) help_raises only.own only.are);
    }

-- one stretch behind another
pub raises_chain : (source : Life) (key : ℕ) (j k l : Option RaisedValue) (u v w : View) → IsPrefix u.front v.front
    → IsLastRaised source key v k → RaisesFor source key j k u v → RaisesFor source key k l v w
    → RaisesFor source key j l u w
raises_chain source key j k l u v w p last g h = record {
  each = λ start again q live is o. h.each start again (prefix_trans start u.front v.front q p) live last
      (g.each start again q live is o);
}

-- a call that raised some raised some by the end of a stretch
pub some_after : (source : Life) (key : ℕ) (l k : Option RaisedValue) (v w : View) → IsPrefix v.front w.front
    → IsLastRaised source key v l → RaisesFor source key l k v w → HasRaisedSome source l v → HasRaisedSome source k w
some_after source key l k v w p last r o = record {
  start = o.start;
  since = prefix_trans o.start v.front w.front o.since p;
  unmarked = o.unmarked;
  again = o.again;
  few = o.few;
  so = r.each o.start o.again o.since o.unmarked last o.so;
}

once_same : (v w : View) → IsUnraised v w → (start : List Event) (again : ℕ) (held : List Life)
    → RaisesOnce start v.front v.number again held → RaisesOnce start w.front w.number again held
once_same v w q start again held o = once_along v w q.own q.makes q.raised start again held o

none_held : (P : Life → Type 0) → All P []
none_held P = λ i d low. absurd (omega (arith, low))

all_two : (P : Life → Type 0) (xs ys : List Life) → All P xs → All P ys → All P (xs ++ ys)
all_two P [] ys a b = b
all_two P (x ∷ xs) ys a b = all_with P x (xs ++ ys) (a zero x (omega arith))
    (all_two P xs ys (λ i d low. a (suc i) d (omega (arith, low))) b)

over_later : (old new : List Event) → IsPrefix old new → (x : Life) → IsEdgeOver old x → IsEdgeOver new x
over_later old new p x (inl h) = inl (subst (λ (l : List Event). edge_marked l x ≡ true) p.whole
    (edge_marked_more old p.rest x h))
over_later old new p x (inr h) = inr record {
  link = h.link;
  linked = link_later old new p x h.link h.linked;
  marked = vertex_later old new p h.link.source h.marked;
}

past_over : (source : Life) (journal : List Event) (x : Life) → IsPast source journal x → IsEdgeOver journal x
past_over source journal x h = ⊎_elim (λ (m : edge_marked journal x ≡ true). inl m)
    (λ (m : (h.link.source ≢ source) × (vertex_marked journal h.link.source ≡ true)).
    inr (record { link = h.link; linked = h.linked; marked = m.1 })) h.past

-- what a caller raised since a start is for edges that are over, but for the last one
pub once_kept : (source : Life) (start : List Event) (again : ℕ) (last : Option RaisedValue) (v : View)
    → IsPrefix start v.front → HasRaisedFrom source start again last v
    → RaisesOnce v.front v.front v.number again (last_raised last)
once_kept source start again None v p h = record {
  edges = h.others ++ h.once.edges;
  apart = h.once.apart;
  linked = h.once.linked;
  over = all_two (IsEdgeOver v.front) h.others h.once.edges
      (all_map (IsPast source v.front) (IsEdgeOver v.front) (past_over source v.front) h.others h.past)
      (all_map (IsEdgeOver start) (IsEdgeOver v.front) (over_later start v.front p) h.once.edges h.once.over);
  few = h.once.few;
}
once_kept source start again (Some r) v p h = record {
  edges = h.others ++ h.once.edges;
  apart = h.once.apart;
  linked = h.once.linked;
  over = all_two (IsEdgeOver v.front) h.others h.once.edges
      (all_map (IsPast source v.front) (IsEdgeOver v.front) (past_over source v.front) h.others h.past)
      (all_map (IsEdgeOver start) (IsEdgeOver v.front) (over_later start v.front p) h.once.edges h.once.over);
  few = h.once.few;
}

-- a call that kept its raises, seen from the start of a try
pub from_kept : (source : Life) (v w : View) (again : ℕ) (last : Option RaisedValue) → IsUnraised v w
    → RaisesOnce v.front v.front v.number again (last_raised last) → HasRaisedFrom source v.front again last w
from_kept source v w again None q o = record {
  others = [];
  past = none_held (IsPast source w.front);
  once = once_same v w q v.front again [] o;
}
from_kept source v w again (Some r) q o = record {
  others = [];
  past = none_held (IsPast source w.front);
  once = once_same v w q v.front again (r.edge.life ∷ []) o;
}

-- the last raise of a call on a pair, once its ends were located in a later try
pub last_located : (a b : ℕ) (v w : View) (ends : Ends) → IsLayout w.sizes → IsLayout v.sizes → IsSound v
    → IsKept w.sizes w.front → IsUnraised v w → AreEnds a b v w ends → (last : Option RaisedValue)
    → IsRaisedOn a b v last → IsLastRaised ends.from b w last
last_located a b v w ends zw z sound kept q e None h = tt
last_located a b v w ends zw z sound kept q e (Some r) h =
    let g = unraised_goes v w q in
    let at = e.from_then in
    let here = e.from_there in
    let key_at = linked_since v.front at here.since r.source a h.1.1 in
    let there = (present_is at ends.from a here.holds.there).1 in (
      raised_goes v w r z g h.0,
      (
        h.1.0,
        (
          linked_since v.front w.front g.grows r.source a h.1.1
              ∙ sym (linked_since at w.front here.until ends.from a there),
          by (vertex_marked at r.source) refl,
        ),
      ),
    )
  where
    at_then : List Event
    at_then = e.from_then

    by : (m : Bool) → vertex_marked e.from_then r.source ≡ m
        → (r.source ≡ ends.from) ⊎ (vertex_marked w.front r.source ≡ true)
    by true is = inr (vertex_later e.from_then w.front e.from_there.until r.source is)
    by false is = inl (one_present w.sizes zw e.from_then (kept_front w.sizes e.from_then w.front e.from_there.until
        kept)
        r.source ends.from a
        (present_then v.front e.from_then e.from_then e.from_there.since (prefix_refl e.from_then) r.source a h.1.1 is)
        e.from_there.holds.there)

pub raised_on : (a b : ℕ) (source : Life) (w : View) (last : Option RaisedValue) → key_of w.front source ≡ Some a
    → IsLastRaised source b w last → IsRaisedOn a b w last
raised_on a b source w None is h = tt
raised_on a b source w (Some r) is h = (h.0, (h.1.0, h.1.1.0 ∙ is))

-- it stays one in a stretch without raises
pub unraised_on : (a b : ℕ) (v w : View) → IsUnraised v w → IsLayout v.sizes → (last : Option RaisedValue)
    → IsRaisedOn a b v last → IsRaisedOn a b w last
unraised_on a b v w q z None h = tt
unraised_on a b v w q z (Some r) h =
    let g = unraised_goes v w q in
    (raised_goes v w r z g h.0, (h.1.0, linked_since v.front w.front g.grows r.source a h.1.1))

-- what a try keeps of the raises of its call
pub kept_by : (a b : ℕ) (v m w : View) (ends : Ends) (old new : Option RaisedValue) → IsUnraised v m
    → IsPrefix m.front w.front → AreEnds a b v m ends → IsLastRaised ends.from b m old
    → RaisesFor ends.from b old new m w → RaisesKept old new v w
kept_by a b v m w ends old new q p e last r = record {
  each = λ again o.
      let since = (unraised_goes v m q).grows in
      let live = unmarked_since v.front e.from_then e.from_there.since ends.from
      (present_is e.from_then ends.from a e.from_there.holds.there).0 in
      once_kept ends.from v.front again new w (prefix_trans v.front m.front w.front since p)
      (r.each v.front again since live last (from_kept ends.from v m again old q o));
}

-- and the raises of its call, once its ends were located
pub some_located : (a b : ℕ) (v m : View) (ends : Ends) (last : Option RaisedValue) → IsUnraised v m
    → AreEnds a b v m ends → HasRaised last v → HasRaisedSome ends.from last m
some_located a b v m ends last q e o = record {
  start = v.front;
  since = (unraised_goes v m q).grows;
  unmarked = unmarked_since v.front e.from_then e.from_there.since ends.from
      (present_is e.from_then ends.from a e.from_there.holds.there).0;
  again = o.again;
  few = o.few;
  so = from_kept ends.from v m o.again last q o.once;
}

-- nothing was raised
pub kept_unraised : (last : Option RaisedValue) (v w : View) → IsUnraised v w → RaisesKept last last v w
kept_unraised last v w q = record {
  each = λ again o. once_kept_on last again o;
}
  where
    once_kept_on : (l : Option RaisedValue) (again : ℕ) → RaisesOnce v.front v.front v.number again (last_raised l)
        → RaisesOnce w.front w.front w.number again (last_raised l)
    once_kept_on l again o = once_kept here v.front again l w (unraised_goes v w q).grows (from_kept here v w again l
        q o)
      where
        here : Life
        here = record { index = 0; tag = 0 }

pub kept_along : (j k l : Option RaisedValue) (u v w : View) → RaisesKept j k u v → RaisesKept k l v w
    → RaisesKept j l u w
kept_along j k l u v w g h = record { each = λ again o. h.each again (g.each again o) }

pub raised_along : (j k : Option RaisedValue) (v w : View) → RaisesKept j k v w → HasRaised j v → HasRaised k w
raised_along j k v w r o = record { again = o.again; few = o.few; once = r.each o.again o.once }
