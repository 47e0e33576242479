-- What removing a vertex tells: it's marked in its pass, and one more walk helps.
use Rattle.std.proofs.Common.{◌≡◌, ℕ, [], ◌∷◌, Some, refl, sym, false}
use Rattle.std.proofs.Common.{◌∙◌, subst, arith}
use Rattle.graph_kinds.specs.declared.call.Call.TheVariants.{RemoveVertex}
use Rattle.packed_link.specs.declared.link.Life.{Life}
use Rattle.core_journal.specs.Life.{key_of}
use Rattle.core_journal.proofs.KeptLives.{key_more}
use Rattle.core_journal.proofs.LivesOf.{present_is}
use Rattle.core_journal.proofs.Fronts.{onward}
use Rattle.core_rule.specs.Fronts.{key_in}
use Rattle.core_rule.specs.OwnEvents.{mark_vertex_event}
use Rattle.core_rule.specs.Stretches.{HasPass}
use Rattle.core_rule.specs.declared.view.View.{View}
use Rattle.core_rule.proofs.ViewShows.{key_shown}
use Rattle.core_stretches.specs.Makes.{Makes, StaysInPass}
use Rattle.core_stretches.specs.Moments.{Carries}
use Rattle.core_stretches.proofs.MakesTell.{makes_later}
use Rattle.graph_table.specs.Tokens.{IsOf, TableValue, TokenValue}
use Rattle.vertex_list.specs.Changes.{IsMarked, WasMarked}
use Rattle.vertex_list.specs.declared.walks.Sighting.{Sighting}
use Rattle.graph_updates.specs.Hands.{HandValue, HasItsNodes, IsHandOf}
use Rattle.graph_updates.specs.Locating.{WasHere}
use Rattle.graph_updates.specs.Parts.{HasHelped}
use Rattle.graph_updates.specs.Removing.{IsRemoved, WasMarkedMeanwhile}
use Rattle.graph_updates.proofs.AddingAddsUp.{goes_on_chain, helped_on, leaves_by_loads}
use Rattle.graph_updates.proofs.AddingTries.{calm_by_kind, calm_hand, calm_nodes, calm_pass, with_spare}
use Rattle.graph_updates.proofs.LocatingTells.{between_later}
use Rattle.graph_updates.proofs.PartsLeave.{IsCalm, helps_leave, other_goes, spare_goes}

mark_calm : (v : View) (x : Life) (found : ℕ) → IsCalm (mark_vertex_event v x found)
mark_calm v x found = calm_by_kind (mark_vertex_event v x found) refl (λ is. absurd (cc)) (λ is. absurd (cc))

mark_stays : (v : View) (x : Life) (found : ℕ) → StaysInPass (mark_vertex_event v x found)
mark_stays v x found = ((λ is. absurd (cc)), (λ is. absurd (cc)))

-- a hand that marked a vertex, or found it marked, keeps what it holds
module _ (g : TableValue) (h : HandValue) (t : TokenValue) (of : IsHandOf g h) (now : IsOf g t) where
  module _ (x : Life) (m : IsMarked x h.token.view t.view) where
    pub marked_hand : IsHandOf g (with_spare h t h.spare)
    marked_hand = calm_hand g h t (mark_vertex_event h.token.view x m.found ∷ []) of m.makes
        (mark_calm h.token.view x m.found, tt) now h.spare
        (spare_goes h.token.view t.view (mark_vertex_event h.token.view x m.found ∷ []) of.of.layout m.makes (refl, tt)
        h.spare of.spare)

    pub marked_nodes : HasItsNodes h → HasItsNodes (with_spare h t h.spare)
    marked_nodes n = calm_nodes g h t (mark_vertex_event h.token.view x m.found ∷ []) of m.makes
        (mark_calm h.token.view x m.found, tt) now h.spare n
        (other_goes h.token.view t.view (mark_vertex_event h.token.view x m.found ∷ []) of.of.layout m.makes
        ((λ is. absurd (cc)), tt) (refl, tt) h.spare of.spare n.fresh)

    pub marked_pass : HasPass h.token.view → HasPass t.view
    marked_pass opened = calm_pass g h t.view (mark_vertex_event h.token.view x m.found ∷ []) of m.makes
        (mark_calm h.token.view x m.found, tt) (mark_stays h.token.view x m.found, tt) opened

  pub was_hand : Makes h.token.view [] t.view → IsHandOf g (with_spare h t h.spare)
  was_hand makes = calm_hand g h t [] of makes tt now h.spare
      (spare_goes h.token.view t.view [] of.of.layout makes tt h.spare of.spare)

  pub was_nodes : Makes h.token.view [] t.view → HasItsNodes h → HasItsNodes (with_spare h t h.spare)
  was_nodes makes n = calm_nodes g h t [] of makes tt now h.spare n
      (other_goes h.token.view t.view [] of.of.layout makes tt tt h.spare of.spare n.fresh)

  pub was_pass : Makes h.token.view [] t.view → HasPass h.token.view → HasPass t.view
  was_pass makes opened = calm_pass g h t.view [] of makes tt tt opened

-- the key of a vertex that was found
key_is : (g : TableValue) (h : HandValue) (key : ℕ) (u : View) (s : Sighting) → IsHandOf g h
    → WasHere key u h.token.view s → key_in h.token.view s.life.index ≡ key
key_is g h key u s of here =
    let v = h.token.view in
    let then = (present_is s.moment.value.view.front s.life key here.there.holds.there).1 in
    let now : key_of v.front s.life ≡ Some key = onward (λ l. key_of l s.life ≡ Some key)
    (λ past more k. key_more past more s.life key k) s.moment.value.view.front v.front here.there.until then in
    let shown : key_of v.front s.life ≡ Some (key_in v s.life.index) = key_shown v of.of.layout of.of.sound.kept s.life
    here.met in
    same (key_in v s.life.index) key (sym shown ∙ now)
  where
    same : (a b : ℕ) → Some a ≡ Some b → a ≡ b
    same a b e = cc

-- the vertex is removed
pub removed_is : (g : TableValue) (key : ℕ) (old h new : HandValue) (t m : TokenValue) (s : Sighting) → IsHandOf g h
    → HasItsNodes new → HasHelped old h → WasHere key old.token.view h.token.view s
    → IsMarked s.life h.token.view t.view → m.view.front ≡ t.view.front → HasHelped (with_spare h t h.spare) new
    → IsRemoved key old new m
removed_is g key old h new t m s of n first here k at then = record {
  carries = record {
    before = h.token.view;
    done = t.view;
    event = mark_vertex_event h.token.view s.life k.found;
    first = helps_leave false old.token.view h.token.view first.helped.only;
    makes = k.makes;
    unlike = (refl, (refl, refl));
    carries = subst (λ (i : ℕ). Carries (RemoveVertex i) (mark_vertex_event h.token.view s.life k.found) t.view)
        (key_is g h key old.token.view s of here) k.carries;
    at_is = at;
    last = helps_leave false t.view new.token.view then.helped.only;
  };
  spare = then.spare ∙ first.spare;
  nodes = n;
  uses = then.uses ∙ first.uses;
}

-- it was marked by another caller
pub was_marked_is : (g : TableValue) (key : ℕ) (old h : HandValue) (t : TokenValue) (s : Sighting) → HasItsNodes old
    → HasItsNodes (with_spare h t h.spare) → HasHelped old h → WasHere key old.token.view h.token.view s
    → WasMarked s.life h.token.view t.view → WasMarkedMeanwhile key old (with_spare h t h.spare) s.life
was_marked_is g key old h t s n nodes first here k = record {
  on = goes_on_chain false old h (with_spare h t h.spare) (helped_on false old h n first) (record {
    taken = 0;
    stretch = leaves_by_loads false h.token.view t.view k.makes;
    spares = omega arith;
    nodes = nodes;
    uses = refl;
  });
  then = s.moment.value.view.front;
  there = between_later _ old.token.view.front h.token.view.front t.view.front s.moment.value.view.front
      (makes_later h.token.view t.view [] k.makes).grows here.there;
  marked = k.marked;
}
