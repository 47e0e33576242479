-- An edge may be linked in front of a list: the first word leads to none, or to an edge of a greater key.
use Rattle.std.proofs.Common.{◌≡◌, ◌≢◌, ◌⊎◌, ℕ, ◌+◌, ◌<◌, ◌≤◌, true, List, [], ◌∷◌, None, inl, refl, sym, ap, ◌∙◌}
use Rattle.std.proofs.Common.{subst, arith}
use Rattle.graph_kinds.specs.History.{Every}
use Rattle.packed_link.specs.Link.{index_of, mark_of, nowhere, pack}
use Rattle.packed_link.specs.Layout.{Sizes, IsLayout, key_at, second_at}
use Rattle.packed_link.specs.declared.link.Life.{Life}
use Rattle.core_journal.specs.declared.event.Event.{Event}
use Rattle.core_journal.specs.Event.{pops}
use Rattle.core_journal.specs.Machine.{word_at}
use Rattle.core_journal.specs.Prefix.{IsPrefix}
use Rattle.core_journal.proofs.Lists.{prefix_trans}
use Rattle.core_kept.specs.Edges.{IsFilledEdge}
use Rattle.core_counts.specs.Spending.{GetsNone}
use Rattle.core_lists.specs.Chains.{life_in}
use Rattle.core_rule.specs.Fronts.{IsEdgeAbove, MayLinkEdge, MetVertex, key_in}
use Rattle.core_rule.specs.OwnEvents.{link_edge_event}
use Rattle.core_rule.specs.Plays.{IsSound, Looked, Won}
use Rattle.core_rule.specs.Views.{GoesOn, IsEdgeIn}
use Rattle.core_rule.specs.declared.view.View.{View}
use Rattle.core_rule.proofs.ViewShows.{edge_above_still, edge_still, goes_further, key_still, vertex_still}
use Rattle.core_stretches.specs.Holdings.{IsFilledAsEdge}
use Rattle.core_stretches.specs.Makes.{Makes, StaysInPass}
use Rattle.core_stretches.specs.Moments.{Has, HoldsBetween}
use Rattle.core_stretches.proofs.MakesAddUp.{makes_chain, makes_look, makes_won}
use Rattle.core_stretches.proofs.MakesTell.{makes_counts, makes_goes, makes_later}
use Rattle.graph_table.specs.Filled.{MayLinkFilledEdge, filled_edge_event}
use Rattle.graph_table.specs.declared.answers.LinkTried.TheVariants.{Won as LinkWon}
use Rattle.graph_table.proofs.FilledNodes.{link_filled}
use Rattle.node_arena.specs.Filling.{edge_stores}
use Rattle.table_calls.specs.Resting.{IsHolding}
use Rattle.table_calls.proofs.Loaded.{loaded, loaded_goes, loaded_sizes}
use Rattle.layer_rows.specs.Rows.{IsBuilding, IsEdgeAdded, IsNoFront, IsPrepended, taken_by}
use Rattle.layer_rows.proofs.WorkGoesOn.{building_loads, building_on, gets_none, store_gets, store_stays, taken_loads}
use Rattle.layer_rows.proofs.WorkGoesOn.{unmoved_on, unspent_on}

-- the key word of a node that was loaded
pub key_loaded : (v w : View) (index at found : ℕ) → Looked v at found w → at ≡ key_at v.sizes index
    → found ≡ key_in w index
key_loaded v w index at found l at_is =
    l.word ∙ (ap (word_at v.sizes w.front) at_is ∙ ap (λ (q : Sizes). word_at q w.front (key_at q index))
    (sym (loaded_sizes v w (loaded v at found w l))))

-- an edge of the list whose key was loaded and is greater
pub edge_above : (v w : View) (source : Life) (key index at found : ℕ) → IsLayout v.sizes → v.numbered ≡ true
    → IsSound v
    → IsEdgeIn v source index → Looked v at found w → at ≡ key_at v.sizes index → key < found
    → IsEdgeAbove w source key index
edge_above v w source key index at found z has s m l at_is below = record {
  life = life_in v.sizes v.front index;
  is = refl;
  met = edge_still v w z (loaded_goes v w has s (loaded v at found w l)) source (life_in v.sizes v.front index) m;
  above = subst (λ (n : ℕ). key < n) (key_loaded v w index at found l at_is) below;
}

-- a filled node that may be linked in front of a list
pub record MayGoInFront (v : View) (source target : Life) (key place seen weight : ℕ) (x : Life) (t : View) : Type 0
  where
    pub building : IsBuilding t x
    pub taken : taken_by t ≡ taken_by v
    pub at : place ≡ second_at t.sizes source.index
    pub may : MayLinkFilledEdge t place seen x
    pub event_is : filled_edge_event t place seen x ≡ link_edge_event t place seen key source target weight x
    pub grows : IsPrefix v.front t.front

may_prepend : (v : View) → IsLayout v.sizes → (place seen key : ℕ) (source target : Life) (weight : ℕ) (x : Life)
    → IsHolding v x → MetVertex v source → MetVertex v target → place ≡ second_at v.sizes source.index
    → mark_of seen ≡ 0 → (index_of seen ≢ nowhere → IsEdgeAbove v source key (index_of seen))
    → key_in v target.index ≡ key → IsFilledEdge v.sizes v.front x.index key (index_of seen) target weight
    → MayLinkFilledEdge v place seen x
    × (filled_edge_event v place seen x ≡ link_edge_event v place seen key source target weight x)
may_prepend v z place seen key source target weight x h from to at live behind key_is f =
    let may : MayLinkEdge v place seen key source target weight x = record {
      life = h.held.life;
      from = from;
      before = inl at;
      behind = behind;
      unmarked = live;
      fresh = h.held.fresh;
      filled = f;
      to = to;
      to_key = key_is;
    } in
    link_filled v z place seen key source target weight x may

pub ready : (v m u t : View) (x source target : Life) (key at place seen weight : ℕ) → IsLayout v.sizes
    → IsLayout u.sizes → IsLayout t.sizes → IsSound v → IsBuilding v x → MetVertex v source → MetVertex v target
    → Looked v at key m → at ≡ key_at v.sizes target.index → Makes m [] u → mark_of seen ≡ 0
    → (index_of seen ≢ nowhere → IsEdgeAbove u source key (index_of seen))
    → Makes u (edge_stores u x key (index_of seen) target weight) t → IsFilledAsEdge t key
    (index_of seen) target weight x
    → place ≡ second_at t.sizes source.index → MayGoInFront v source target key place seen weight x t
ready v m u t x source target key at place seen weight z zu zt s b from to l at_is mu live behind mt f place_is =
    let has = b.holding.numbered in
    let all : Makes v [] u = makes_chain v m u [] [] (makes_look v m at key has s l) mu in
    let b' = building_loads v u x z all b in
    let stores = edge_stores u x key (index_of seen) target weight in
    let stays : Every StaysInPass stores = (
      store_stays u x 0 key,
      (
        store_stays u x 1 (pack (index_of seen) 0 x.tag),
        (
          store_stays u x 2 (pack target.index 0 target.tag),
          (store_stays u x 3 weight, tt),
        ),
      ),
    ) in
    let gets : Every (GetsNone None) stores = (
      store_gets u x 0 key,
      (
        store_gets u x 1 (pack (index_of seen) 0 x.tag),
        (
          store_gets u x 2 (pack target.index 0 target.tag),
          (store_gets u x 3 weight, tt),
        ),
      ),
    ) in
    let g3 = makes_goes u t stores stays mt in
    let g = goes_further v u t (makes_goes v u [] tt all) g3 in
    let building = building_on u t stores x zu stays gets refl mt b'.holding.numbered b'.holding.there
    b'.holding.pass b'.unspent b'.unmoved f.held in
    let g1 : GoesOn v m = loaded_goes v m has s (loaded v at key m l) in
    let key_is : key_in t target.index ≡ key = key_still v t z g target.index to.life.there to.met
    ∙ (sym (key_still v m z g1 target.index to.life.there to.met) ∙ sym (key_loaded v m target.index at key l at_is)) in
    let from' = vertex_still v t z g source from in
    let c = makes_counts pops u t stores mt in
    let d = taken_loads v u all in
    let may = may_prepend t zt place seen key source target weight x building.holding from'
    (vertex_still v t z g target to) place_is live
    (λ some. edge_above_still u t zu g3 source key (index_of seen) (behind some)) key_is f.filled in
    record {
      building = building;
      taken = c ∙ (omega (arith) ∙ d);
      at = place_is;
      may = may.0;
      event_is = may.1;
      grows = g.grows;
    }

-- an edge that was linked in front
pub edge_added : (v u w : View) (from to : ℕ) (source target life x : Life) (weight : ℕ) → taken_by u ≡ taken_by v + 1
    → (source_at target_at : List Event) → HoldsBetween v.front u.front (Has from source) source_at
    → HoldsBetween v.front u.front (Has to target) target_at → IsPrepended (LinkWon life) source target weight x u w
    → IsEdgeAdded from to weight v w life
edge_added v u w from to source target life x weight taken source_at target_at s t p =
    let e = filled_edge_event p.then p.place p.seen x in
    let won : Won p.then p.place p.seen e w = p.tried.1 in
    let m : Makes p.then (e ∷ []) w = makes_won p.then w p.place p.seen e p.building.holding.numbered p.sound refl won
    in
    let c = makes_counts pops p.then w (e ∷ []) m in
    let d = p.taken in
    let grows = prefix_trans u.front p.then.front w.front p.grows (makes_later p.then w (e ∷ []) m).grows in
    record {
      work = record {
        resting = p.held;
        unspent = unspent_on p.then w (e ∷ []) p.layout (gets_none e refl (λ y. absurd (cc)), tt) m p.building.unspent;
        unmoved = unmoved_on p.then w (e ∷ []) refl m p.building.unmoved;
      };
      taken = omega (arith, c, d, taken);
      event = e;
      kind = refl;
      of = sym p.tried.0;
      weighs = ap (λ (i : Event). i.weight) p.event_is;
      source_at = source_at;
      source = record {
        since = s.since;
        until = prefix_trans source_at u.front w.front s.until grows;
        holds = subst (λ (y : Life). Has from y source_at) (sym (ap (λ (i : Event). i.source) p.event_is)) s.holds;
      };
      target_at = target_at;
      target = record {
        since = t.since;
        until = prefix_trans target_at u.front w.front t.until grows;
        holds = subst (λ (y : Life). Has to y target_at) (sym (ap (λ (i : Event). i.target) p.event_is)) t.holds;
      };
      last = record { past = won.grown; front = won.front };
    }

-- where no edge may be put in front, by the target's key as it was loaded
pub no_front : (v m u : View) (source target : Life) (key at : ℕ) → IsLayout v.sizes → v.numbered ≡ true → IsSound v
    → MetVertex v target → Looked v at key m → at ≡ key_at v.sizes target.index → Makes m [] u
    → IsNoFront source key m u
    → IsNoFront source (key_in u target.index) v u
no_front v m u source target key at z has s to l at_is mu n =
    let mm = makes_look v m at key has s l in
    let g1 : GoesOn v m = loaded_goes v m has s (loaded v at key m l) in
    let g = makes_goes v u [] tt (makes_chain v m u [] [] mm mu) in
    let key_is : key ≡ key_in u target.index = key_loaded v m target.index at key l at_is
    ∙ (key_still v m z g1 target.index to.life.there to.met ∙ sym (key_still v u z g target.index to.life.there to.met))
    in
    record {
      then = n.then;
      before = makes_chain v m n.then [] [] mm n.before;
      behind = n.behind;
      seen = n.seen;
      word = n.word;
      cause = subst (λ (k : ℕ). (mark_of n.seen ≡ 1) ⊎ ((index_of n.seen ≢ nowhere) × (key_in u (index_of n.seen) ≤ k)))
          key_is n.cause;
    }
