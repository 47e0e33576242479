-- What the token's own event tells where an edge is linked, and what an event on an edge does to the graph.
use Rattle.std.proofs.Common.{◌≡◌, ◌≢◌, ℕ, ◌<◌, Bool, true, false, List, [], ◌∷◌, ◌++◌, Some, Option, refl, sym}
use Rattle.std.proofs.Common.{ap, ◌∙◌, subst}
use Rattle.std.proofs.lemmas.List.{same_from_push}
use Rattle.graph_kinds.specs.Answer.{alters, after}
use Rattle.graph_kinds.specs.declared.call.Call.{Call}
use Rattle.graph_kinds.specs.declared.call.Call.TheVariants.{AddEdge}
use Rattle.packed_link.specs.Layout.{Sizes, IsLayout}
use Rattle.packed_link.specs.declared.link.Life.{Life}
use Rattle.core_journal.specs.declared.event.Kind.TheVariants.{LinkEdge}
use Rattle.core_journal.specs.declared.event.Event.{Event}
use Rattle.core_journal.specs.GraphOf.{graph_of, weighed, CarriesOut, call_of}
use Rattle.core_journal.specs.Machine.{word_at}
use Rattle.core_kept.specs.Kept.{IsKept}
use Rattle.core_kept.specs.Nodes.{IsFreshWith}
use Rattle.core_kept.proofs.Induction.{past_kept, last_allowed}
use Rattle.core_lists.specs.Effects.{AddsEdge}
use Rattle.core_lists.proofs.EffectOfKinds.{effect}
use Rattle.core_lists.proofs.EventKeepsRest.{edge_joined}
use Rattle.core_rule.specs.Fronts.{MayLinkEdge}
use Rattle.core_rule.specs.OwnEvents.{link_edge_event}
use Rattle.core_rule.specs.Plays.{IsSound, Won}
use Rattle.core_rule.specs.Stretches.{HasNoFresh}
use Rattle.core_rule.specs.Views.{Steps}
use Rattle.core_rule.specs.declared.view.View.{View}
use Rattle.core_rule.proofs.ViewShows.{win_steps}
use Rattle.core_stretches.specs.Moments.{Carries}
use Rattle.core_stretches.proofs.EdgeWords.{IsOfSource}
use Rattle.core_stretches.proofs.MakesAddUp.{makes_look, makes_won}
use Rattle.core_stretches.proofs.MakesTell.{makes_goes, makes_own}
use Rattle.core_stretches.proofs.WordsLeadOn.{goes_sizes, word_changed}
use Rattle.graph_table.specs.Filled.{MayLinkFilledEdge, filled_edge_event}
use Rattle.graph_table.specs.Table.{Missed}
use Rattle.graph_table.proofs.FilledNodes.{link_filled}
use Rattle.edge_list.specs.EdgeChanges.{IsEdgeLinked, IsEdgeTryLost}
use Rattle.edge_list.specs.EdgePositions.{EdgePositionValue, IsEdgePosition, IsFilledForGap, IsGapOfEdge}
use Rattle.edge_list.proofs.EdgePositionsGoOn.{StandsOn, as_edge_word, edge_place_words, edge_position_goes, stands_now}

pub same_call : (o : Option Call) (a b : Call) → o ≡ Some a → o ≡ Some b → a ≡ b
same_call o a b p q = cc

-- an event of the token that carried out a call
pub carries : (v w : View) (e : Event) (call : Call) → w.number ≡ v.number → e.caller ≡ v.number
    → (t : Steps v (Some e) w) → (c : CarriesOut t.grown e) → call_of t.grown e ≡ Some call → Carries call e w
carries v w e call number by t c told =
    let is : c.call ≡ call = same_call (call_of t.grown e) c.call call c.is told in
    record {
      past = t.grown;
      front = t.front;
      by = by ∙ sym number;
      alters = subst (λ (d : Call). alters (graph_of t.grown) d ≡ true) is c.alters;
      leads = ap graph_of t.front ∙ subst (λ (d : Call). graph_of (t.grown ++ e ∷ []) ≡ after
          (graph_of t.grown) d) is c.leads;
    }

-- the front behind the token's own event is kept
pub kept_behind : (v w : View) (e : Event) (t : Steps v (Some e) w) → IsKept v.sizes (t.grown ++ e ∷ [])
kept_behind v w e t = subst (λ (j : List Event). IsKept v.sizes j) t.front t.kept

-- the journal before it is the one that the step tells
pub grown_is : (v w : View) (place found : ℕ) (e : Event) (t : Steps v (Some e) w) (won : Won v place found e w)
    → t.grown ≡ won.grown
grown_is v w place found e t won = (same_from_push t.grown won.grown e e (sym t.front ∙ won.front)).0

-- a token that holds no fresh node by a journal holds none by its view
pub none_fresh : (v w : View) (journal : List Event) → w.sizes ≡ v.sizes → w.number ≡ v.number → w.front ≡ journal
    → ((x : ℕ) → x < v.sizes.nodes → IsFreshWith v.sizes journal v.number x → ⊥) → HasNoFresh w
none_fresh v w journal sizes number front none = record {
  none = λ y there fresh. none y (subst (λ (s : Sizes). y < s.nodes) sizes there)
      (subst (λ (j : List Event). IsFreshWith v.sizes j v.number y) front
      (subst (λ (n : ℕ). IsFreshWith v.sizes w.front n y) number
      (subst (λ (s : Sizes). IsFreshWith s w.front w.number y) sizes fresh)));
}

-- a try that was lost
pub edge_lost : (passed : Bool) (v w : View) (p : EdgePositionValue) (found : ℕ) → IsLayout w.sizes
    → v.numbered ≡ true → IsSound v → IsEdgePosition passed v p → Missed v p.place p.word found w
    → IsEdgeTryLost p v w
edge_lost passed v w p found z has s h missed =
    let l = missed.looked in
    let makes = makes_look v w p.place found has s l in
    let g = makes_goes v w [] tt makes in
    let later = edge_position_goes passed v w p g (makes_own (λ (e : Event). e.place ≢ p.place) v w [] tt makes) h in
    let found_is : found ≡ word_at w.sizes w.front p.place = l.word
    ∙ ap (λ (y : Sizes). word_at y w.front p.place) (sym (goes_sizes v w g)) in
    record {
      makes = makes;
      changed = word_changed (IsOfSource p.source) (StandsOn passed p.source p.key)
          (edge_place_words passed p.source p.key) p.place p.word p.moment w z (as_edge_word passed w p later)
          (λ same. missed.other (found_is ∙ same));
    }

-- a gap and a node that is filled for it
may_link_edge : (v : View) (p : EdgePositionValue) (target : Life) (weight : ℕ) (x : Life) → IsLayout v.sizes
    → IsGapOfEdge v p → IsFilledForGap v p target weight x
    → MayLinkEdge v p.place p.word p.key p.source target weight x
may_link_edge v p target weight x z g f =
    let stands = stands_now false v p z g.position in
    record {
      life = f.filled.held.life;
      from = stands.0;
      before = stands.1;
      behind = g.behind;
      unmarked = g.position.unmarked;
      fresh = f.filled.held.fresh;
      filled = f.filled.filled;
      to = f.to;
      to_key = f.to_key;
    }

pub may_link : (v : View) (p : EdgePositionValue) (target : Life) (weight : ℕ) (x : Life) → IsLayout v.sizes
    → IsGapOfEdge v p → IsFilledForGap v p target weight x → MayLinkFilledEdge v p.place p.word x
may_link v p target weight x z g f = (link_filled v z p.place p.word p.key p.source target weight x
    (may_link_edge v p target weight x z g f)).0

-- an edge is linked: its pair is added to the graph where both ends are present
pub edge_linked : (v w : View) (p : EdgePositionValue) (target : Life) (weight : ℕ) (x : Life) → IsLayout v.sizes
    → v.numbered ≡ true → IsSound v → IsGapOfEdge v p → IsFilledForGap v p target weight x
    → Won v p.place p.word (filled_edge_event v p.place p.word x) w → IsEdgeLinked p target weight x v w
edge_linked v w p target weight x z has s g f won_by_words =
    let e = link_edge_event v p.place p.word p.key p.source target weight x in
    let won : Won v p.place p.word e w = subst (λ (y : Event). Won v p.place p.word y w)
    (link_filled v z p.place p.word p.key p.source target weight x (may_link_edge v p target weight x z g f)).1
    won_by_words in
    let t = win_steps v p.place p.word e w has s won in
    let kept = kept_behind v w e t in
    let effect_is : AddsEdge v.sizes t.grown e = effect v.sizes z t.grown e
    (past_kept v.sizes t.grown e kept) LinkEdge refl (last_allowed v.sizes t.grown e kept).as_kind in
    let number : w.number ≡ v.number = ap (λ (u : View). u.number) won.view in
    let sizes : w.sizes ≡ v.sizes = ap (λ (u : View). u.sizes) won.view in
    record {
      makes = makes_won v w p.place p.word e has s refl won;
      carries = record {
        past = t.grown;
        front = t.front;
        by = sym number;
        present = λ a b from to. carries v w e (AddEdge a b weight) number refl t (effect_is.graph a b from to)
            (effect_is.call a b from to);
        missing = λ none. ap graph_of t.front ∙ effect_is.none (ap (weighed weight) none);
      };
      none = none_fresh v w (t.grown ++ e ∷ []) sizes number t.front (edge_joined v.sizes t.grown e kept refl).2;
    }
