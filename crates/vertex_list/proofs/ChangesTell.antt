-- What the token's own event tells where a vertex is linked, marked or unlinked.
use Rattle.std.proofs.Common.{◌≡◌, ◌≢◌, ℕ, ◌<◌, Bool, true, List, [], ◌∷◌, ◌++◌, Some, Option, refl, sym, ap, ap₂, ◌∙◌}
use Rattle.std.proofs.Common.{subst}
use Rattle.std.specs.Prelude.{option_map}
use Rattle.graph_kinds.specs.Answer.{alters, after}
use Rattle.graph_kinds.specs.declared.call.Call.{Call}
use Rattle.graph_kinds.specs.declared.call.Call.TheVariants.{AddVertex, RemoveVertex}
use Rattle.packed_link.specs.Link.{index_of, mark_of}
use Rattle.packed_link.specs.Layout.{Sizes, IsLayout, link_at}
use Rattle.packed_link.specs.declared.link.Life.{Life}
use Rattle.core_journal.specs.declared.event.Kind.TheVariants.{LinkVertex, MarkVertex}
use Rattle.core_journal.specs.declared.event.Event.{Event}
use Rattle.core_journal.specs.GraphOf.{graph_of, CarriesOut, call_of}
use Rattle.core_journal.specs.Life.{key_of}
use Rattle.core_journal.specs.Machine.{word_at}
use Rattle.core_journal.proofs.KeptLives.{key_more}
use Rattle.core_kept.specs.Kept.{IsKept}
use Rattle.core_kept.specs.Nodes.{IsFreshWith}
use Rattle.core_kept.proofs.Induction.{past_kept, last_allowed}
use Rattle.core_lists.specs.Effects.{AddsVertex, RemovesVertex}
use Rattle.core_lists.proofs.EffectOfKinds.{effect}
use Rattle.core_lists.proofs.EventKeepsRest.{vertex_joined}
use Rattle.core_rule.specs.Fronts.{MayLinkVertex, MetVertex, key_in}
use Rattle.core_rule.specs.OwnEvents.{link_vertex_event, mark_vertex_event}
use Rattle.core_rule.specs.Plays.{IsSound, Looked, Won}
use Rattle.core_rule.specs.Views.{Steps}
use Rattle.core_rule.specs.declared.view.View.{View}
use Rattle.core_rule.proofs.OwnStretch.{goes_opened}
use Rattle.core_rule.proofs.ViewShows.{absent_shown, before_vertex_still, key_shown, vertex_still, win_steps}
use Rattle.core_stretches.specs.Holdings.{IsFilledAsVertex}
use Rattle.core_stretches.specs.Moments.{Carries}
use Rattle.core_stretches.proofs.MakesAddUp.{makes_look, makes_won}
use Rattle.core_stretches.proofs.MakesTell.{makes_goes, makes_own}
use Rattle.core_stretches.proofs.WordsLeadOn.{goes_sizes, word_changed}
use Rattle.graph_table.specs.Table.{Missed}
use Rattle.vertex_list.specs.Changes.{IsLinked, IsLost, IsMarked, WasMarked}
use Rattle.vertex_list.specs.Positions.{PositionValue, IsGap, IsPosition}
use Rattle.vertex_list.proofs.PositionsGoOn.{IsVertexAt, IsPlaceOf, as_word, position_goes, position_words}

same_call : (o : Option Call) (a b : Call) → o ≡ Some a → o ≡ Some b → a ≡ b
same_call o a b p q = cc

-- an event of the token that carried out a call
carries : (v w : View) (e : Event) (call : Call) → w.number ≡ v.number → e.caller ≡ v.number → (t : Steps v (Some e) w)
    → (c : CarriesOut t.grown e) → c.call ≡ call → Carries call e w
carries v w e call number by t c is = record {
  past = t.grown;
  front = t.front;
  by = by ∙ sym number;
  alters = subst (λ (d : Call). alters (graph_of t.grown) d ≡ true) is c.alters;
  leads = ap graph_of t.front ∙ subst (λ (d : Call). graph_of (t.grown ++ e ∷ []) ≡ after
      (graph_of t.grown) d) is c.leads;
}

-- a try that was lost
pub lost : (passed : Bool) (v w : View) (p : PositionValue) (found : ℕ) → IsLayout w.sizes → v.numbered ≡ true
    → IsSound v → IsPosition passed v p → Missed v p.place p.word found w → IsLost p v w
lost passed v w p found z has s h missed =
    let l = missed.looked in
    let makes = makes_look v w p.place found has s l in
    let g = makes_goes v w [] tt makes in
    let later = position_goes passed v w p g (makes_own (λ (e : Event). e.place ≢ p.place) v w [] tt makes) h in
    let found_is : found ≡ word_at w.sizes w.front p.place = l.word
    ∙ ap (λ (y : Sizes). word_at y w.front p.place) (sym (goes_sizes v w g)) in
    record {
      makes = makes;
      changed = word_changed IsVertexAt (IsPlaceOf passed p.key)
          (position_words passed p.key) p.place p.word p.moment w z (as_word passed w p later)
          (λ same. missed.other (found_is ∙ same));
    }

-- a gap and a node that is filled for it
pub may_link : (v : View) (p : PositionValue) (x : Life) → IsLayout v.sizes → IsGap v p
    → IsFilledAsVertex v p.key (index_of p.word) x → MayLinkVertex v p.place p.word (key_in v x.index) x
may_link v p x z g f =
    let h = g.position in
    let same : key_in v x.index ≡ p.key = f.filled.key_word in
    subst (λ (k : ℕ). MayLinkVertex v p.place p.word k x) (sym same) (record {
      life = f.held.life;
      pass = goes_opened h.then v h.goes h.pass;
      before = before_vertex_still h.then v
          (subst IsLayout (goes_sizes h.then v h.goes) z) h.goes p.key p.place h.stands;
      behind = g.behind;
      unmarked = h.unmarked;
      fresh = f.held.fresh;
      filled = f.filled;
    })

-- a vertex is linked: its key is added to the graph
pub linked : (v w : View) (p : PositionValue) (x : Life) → IsLayout v.sizes → v.numbered ≡ true → IsSound v
    → IsFilledAsVertex v p.key (index_of p.word) x
    → Won v p.place p.word (link_vertex_event v p.place p.word (key_in v x.index) x) w → IsLinked p x v w
linked v w p x z has s f won_by_key =
    let won : Won v p.place p.word (link_vertex_event v p.place p.word p.key x) w = subst
    (λ (k : ℕ). Won v p.place p.word (link_vertex_event v p.place p.word k x) w) f.filled.key_word won_by_key in
    let e = link_vertex_event v p.place p.word p.key x in
    let t = win_steps v p.place p.word e w has s won in
    let kept : IsKept v.sizes (t.grown ++ e ∷ []) = subst (λ (j : List Event). IsKept v.sizes j) t.front t.kept in
    let effect_is : AddsVertex v.sizes t.grown e = effect v.sizes z t.grown e
    (past_kept v.sizes t.grown e kept) LinkVertex refl (last_allowed v.sizes t.grown e kept).as_kind in
    let call : effect_is.graph.call ≡ AddVertex p.key = same_call (call_of t.grown e) effect_is.graph.call
    (AddVertex p.key) effect_is.graph.is effect_is.call in
    let joined = vertex_joined v.sizes t.grown e kept refl in
    let number : w.number ≡ v.number = ap (λ (u : View). u.number) won.view in
    let sizes : w.sizes ≡ v.sizes = ap (λ (u : View). u.sizes) won.view in
    record {
      makes = makes_won v w p.place p.word e has s refl won;
      carries = carries v w e (AddVertex p.key) number refl t effect_is.graph call;
      none = record {
        none = λ y there fresh. joined.1 y (subst (λ (s : Sizes). y < s.nodes) sizes there)
            (subst (λ (j : List Event). IsFreshWith v.sizes j v.number y) t.front
            (subst (λ (n : ℕ). IsFreshWith v.sizes w.front n y) number
            (subst (λ (s : Sizes). IsFreshWith s w.front w.number y) sizes fresh)));
      };
    }

-- a vertex is marked: its key is taken from the graph
pub marked : (v w : View) (x : Life) (place found : ℕ) → IsLayout v.sizes → v.numbered ≡ true → IsSound v
    → MetVertex v x → Won v place found (mark_vertex_event v x found) w → IsMarked x v w
marked v w x place found z has s m won =
    let e = mark_vertex_event v x found in
    let t = win_steps v place found e w has s won in
    let kept : IsKept v.sizes (t.grown ++ e ∷ []) = subst (λ (j : List Event). IsKept v.sizes j) t.front t.kept in
    let effect_is : RemovesVertex v.sizes t.grown e = effect v.sizes z t.grown e
    (past_kept v.sizes t.grown e kept) MarkVertex refl (last_allowed v.sizes t.grown e kept).as_kind in
    let key_is : key_of t.grown x ≡ Some (key_in v x.index) = subst
    (λ (j : List Event). key_of j x ≡ Some (key_in v x.index)) t.reaches.front.whole
    (key_more v.front t.reaches.front.rest x (key_in v x.index) (key_shown v z s.kept x m)) in
    let call : effect_is.graph.call ≡ RemoveVertex (key_in v x.index) = same_call
    (call_of t.grown e) effect_is.graph.call (RemoveVertex (key_in v x.index)) effect_is.graph.is
    (ap (option_map RemoveVertex) key_is) in
    record {
      found = found;
      makes = makes_won v w place found e has s refl won;
      carries = carries v w e (RemoveVertex (key_in v x.index))
          (ap (λ (u : View). u.number) won.view) refl t effect_is.graph call;
    }

-- the mark was there
pub was_marked : (v w : View) (x : Life) (place found : ℕ) → IsLayout v.sizes → v.numbered ≡ true → IsSound v
    → MetVertex v x → place ≡ link_at v.sizes x.index → Looked v place found w → mark_of found ≡ 1 → WasMarked x v w
was_marked v w x place found z has s m place_is l dead =
    let makes = makes_look v w place found has s l in
    let g = makes_goes v w [] tt makes in
    let sizes = goes_sizes v w g in
    let word : word_at w.sizes w.front (link_at w.sizes x.index) ≡ found = ap₂
    (λ (y : Sizes) (i : ℕ). word_at y w.front i) sizes (ap (λ (y : Sizes). link_at y x.index) sizes ∙ sym place_is)
    ∙ sym l.word in
    record {
      makes = makes;
      marked = (absent_shown w (subst IsLayout (sym sizes) z) l.sound.kept x
          (vertex_still v w z g x m) (ap mark_of word ∙ dead)).0;
    }
