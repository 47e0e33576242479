-- What a try to add a vertex leaves of a hand.
use Rattle.std.proofs.Common.{◌≡◌, ◌≢◌, ℕ, ◌<◌, true, false, List, [], ◌∷◌, ◌++◌, None}
use Rattle.std.proofs.Common.{Option, inl, ap, subst, arith, ⊎_elim}
use Rattle.graph_kinds.specs.History.{Every}
use Rattle.packed_link.specs.declared.link.Life.{Life}
use Rattle.core_journal.specs.declared.event.Kind.TheVariants.{FreezeHead, LinkVertex, PopFree, PushFree, StorePrivate}
use Rattle.core_journal.specs.declared.event.Event.{Event}
use Rattle.core_journal.specs.Changes.{is_idle}
use Rattle.core_journal.specs.Event.{moves, raises, unlinks}
use Rattle.core_rule.specs.Stretches.{HasPass}
use Rattle.core_rule.specs.declared.view.View.{View}
use Rattle.core_stretches.specs.Makes.{IsGraphless, Makes, StaysInPass, of_kinds}
use Rattle.core_stretches.proofs.MakesTell.{makes_leaves}
use Rattle.core_stretches.proofs.MakesAddUp.{makes_chain}
use Rattle.graph_table.specs.Tokens.{IsOf, TableValue, TokenValue}
use Rattle.graph_updates.specs.Adding.{IsNodePlaced, Readies}
use Rattle.graph_updates.specs.Hands.{HandValue, HasAllSpent, HasItsNodes, HoldsNoOther, HoldsSpare, IsHandOf}
use Rattle.graph_updates.specs.Hands.{IsRoomyLimbo}
use Rattle.graph_updates.specs.Parts.{IsReadying, LeavesGraph}
use Rattle.graph_updates.proofs.BurialLists.{every_both, every_map}
use Rattle.graph_updates.proofs.AddingTells.{ready_stays}
use Rattle.graph_updates.proofs.PartsLeave.{IsCalm, all_goes, each_kind, limbo_goes, no_kinds, pass_goes}
use Rattle.graph_updates.proofs.PartsLeave.{still_numbered}
use Rattle.graph_updates.proofs.PartsLeave.{other_goes, still_there}

-- what a kind leaves
pub calm_by_kind : (e : Event) → unlinks e.kind ≡ false → e.kind ≢ FreezeHead → e.kind ≢ PushFree → IsCalm e
calm_by_kind e unlinks_none closes_none gives_none = record {
  gets = record { unlinks = unlinks_none; closes = λ is. absurd (closes_none is); gives = λ b. absurd b };
  gives = gives_none;
}

pub ready_calm : (e : Event) → IsReadying e.kind → IsCalm e
ready_calm e h = calm_by_kind e (⊎_elim (λ is. ap unlinks is) (λ is. ap unlinks is) h)
    (λ is. ⊎_elim (λ (k : e.kind ≡ PopFree). absurd (cc)) (λ (k : e.kind ≡ StorePrivate). absurd (cc)) h)
    (λ is. ⊎_elim (λ (k : e.kind ≡ PopFree). absurd (cc)) (λ (k : e.kind ≡ StorePrivate). absurd (cc)) h)

pub link_calm : (e : Event) → e.kind ≡ LinkVertex → IsCalm e
link_calm e k = calm_by_kind e (ap unlinks k) (λ is. absurd (cc)) (λ is. absurd (cc))

pub link_stays : (e : Event) → e.kind ≡ LinkVertex → StaysInPass e
link_stays e k = ((λ is. absurd (cc)), (λ is. absurd (cc)))

-- what a stretch of calm events in the pass leaves of a hand but for its spare node
module _ (g : TableValue) (h : HandValue) (w : View) (own : List Event) (of : IsHandOf g h)
    (makes : Makes h.token.view own w) (calm : Every IsCalm own) where
  pub calm_limbo : IsRoomyLimbo h.limbo w
  calm_limbo = limbo_goes h.token.view w own of.of.layout makes
      (every_map IsCalm (λ (e : Event). e.kind ≢ PushFree) (λ e c. c.gives) own calm) h.limbo of.limbo

  pub calm_spent : HasAllSpent h.limbo h.token.view → HasAllSpent h.limbo w
  calm_spent s = all_goes h.token.view w own of.of.layout makes calm h.limbo of.limbo s

  pub calm_numbered : w.numbered ≡ true
  calm_numbered = still_numbered h.token.view w own of.of.layout makes of.numbered

  pub calm_there : w.number < w.sizes.callers
  calm_there = still_there h.token.view w own of.of.layout makes of.there

  pub calm_pass : Every StaysInPass own → HasPass h.token.view → HasPass w
  calm_pass stays opened = pass_goes h.token.view w own of.of.layout makes true stays opened

-- what readies is calm and stays in the pass
pub readies_calm : (a : ℕ) (v w : View) → (r : Readies a v w) → Every IsCalm r.own
readies_calm a v w r = every_map (λ (e : Event). IsReadying e.kind) IsCalm ready_calm r.own r.are

pub readies_stays : (a : ℕ) (v w : View) → (r : Readies a v w) → Every StaysInPass r.own
readies_stays a v w r = every_map (λ (e : Event). IsReadying e.kind) StaysInPass ready_stays r.own r.are

-- and raises nothing
pub readies_quiet : (a : ℕ) (v w : View) → (r : Readies a v w) → of_kinds raises r.own ≡ 0
readies_quiet a v w r = no_kinds raises r.own (each_kind IsReadying (λ k. raises k ≡ false)
    (λ k h. ⊎_elim (λ is. ap raises is) (λ is. ap raises is) h) r.own r.are)

-- and leaves the graph
pub readies_leave : (a : ℕ) (v w : View) → Readies a v w → LeavesGraph false a 0 v w
readies_leave a v w r = record {
  own = r.own;
  makes = r.makes;
  leaves = λ z. makes_leaves v w r.own z (every_map (λ (e : Event). IsReadying e.kind) IsGraphless
      (λ e h. inl (⊎_elim (λ is. ap is_idle is) (λ is. ap is_idle is) h)) r.own r.are) r.makes;
  takes = r.takes;
  shifts = let n = no_kinds moves r.own (each_kind IsReadying (λ k. moves k ≡ false)
      (λ k h. ⊎_elim (λ is. ap moves is) (λ is. ap moves is) h) r.own r.are) in omega (arith, n);
  raised = λ _. readies_quiet a v w r;
}

-- all own events of placing a node that was linked
module _ (key : ℕ) (spare : Option Life) (v w : View) (m : TokenValue) (p : IsNodePlaced key spare v w m) where
  abbrev pub placed_own : List Event
  placed_own = p.first.own ++ p.event ∷ []

  pub placed_makes : Makes v (p.first.own ++ p.event ∷ []) w
  placed_makes = makes_chain v p.before w p.first.own (p.event ∷ []) p.first.makes p.makes

  pub placed_calm : Every IsCalm (p.first.own ++ p.event ∷ [])
  placed_calm = every_both IsCalm p.first.own (p.event ∷ []) (readies_calm _ v p.before p.first)
      (link_calm p.event p.kind, tt)

  pub placed_stays : Every StaysInPass (p.first.own ++ p.event ∷ [])
  placed_stays = every_both StaysInPass p.first.own (p.event ∷ []) (readies_stays _ v p.before p.first)
      (link_stays p.event p.kind, tt)

-- the hand with another token and spare node
abbrev pub with_spare : HandValue → TokenValue → Option Life → HandValue
with_spare h t s = record { token = t; limbo = h.limbo; spare = s; uses = h.uses; retired = h.retired }

module _ (g : TableValue) (h : HandValue) (t : TokenValue) (own : List Event) (of : IsHandOf g h)
    (makes : Makes h.token.view own t.view) (calm : Every IsCalm own) (now : IsOf g t) (s : Option Life) where
  pub calm_hand : HoldsSpare s t.view → IsHandOf g (with_spare h t s)
  calm_hand held = record {
    of = now;
    numbered = calm_numbered g h t.view own of makes calm;
    there = calm_there g h t.view own of makes calm;
    limbo = calm_limbo g h t.view own of makes calm;
    spare = held;
  }

  pub calm_nodes : HasItsNodes h → HoldsNoOther s t.view → HasItsNodes (with_spare h t s)
  calm_nodes n only = record { spent = calm_spent g h t.view own of makes calm n.spent; fresh = only }

-- no fresh node, where none was held and loads were made
pub still_none : (g : TableValue) (h : HandValue) (w : View) → IsHandOf g h → Makes h.token.view [] w → h.spare ≡ None
    → HasItsNodes h → HoldsNoOther None w
still_none g h w of makes bare n = other_goes h.token.view w [] of.of.layout makes tt tt None tt
    (subst (λ (o : Option Life). HoldsNoOther o h.token.view) bare n.fresh)
