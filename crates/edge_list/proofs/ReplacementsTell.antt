-- What replacing an edge tells: a load of its link, four stores to the new node, and the exchange.
use Rattle.std.proofs.Common.{◌≡◌, ◌≢◌, ℕ, ◌<◌, ◌^◌, true, List, [], ◌∷◌, ◌++◌, Option, refl, sym, ap, ap₂}
use Rattle.std.proofs.Common.{◌∙◌, subst, arith}
use Rattle.graph_kinds.specs.History.{Every}
use Rattle.graph_kinds.specs.declared.call.Call.TheVariants.{AddEdge}
use Rattle.packed_link.specs.Link.{index_of, mark_of}
use Rattle.packed_link.specs.Layout.{Sizes, IsLayout, link_at}
use Rattle.packed_link.specs.declared.link.Life.{Life}
use Rattle.core_journal.specs.declared.event.Kind.TheVariants.{ReplaceEdge}
use Rattle.core_journal.specs.declared.event.Event.{Event}
use Rattle.core_journal.specs.GraphOf.{graph_of, weighed, both}
use Rattle.core_journal.specs.Life.{link_of}
use Rattle.core_journal.specs.Machine.{word_at}
use Rattle.core_journal.specs.Prefix.{IsPrefix}
use Rattle.core_journal.proofs.Lists.{prefix_trans}
use Rattle.core_kept.specs.Kept.{IsKept}
use Rattle.core_kept.proofs.Induction.{past_kept, last_allowed}
use Rattle.core_lists.specs.Effects.{ReplacesEdge}
use Rattle.core_lists.specs.Changed.{IsChangedByAnother}
use Rattle.core_lists.proofs.EffectOfKinds.{effect}
use Rattle.core_lists.proofs.EventKeepsRest.{edge_replaced}
use Rattle.core_rule.specs.Fronts.{MayReplaceEdge, key_in}
use Rattle.core_rule.specs.Plays.{IsSound, Looked, Won}
use Rattle.core_rule.specs.declared.view.View.{View}
use Rattle.core_rule.proofs.ShownTargets.{target_shown}
use Rattle.core_rule.proofs.ViewShows.{win_steps}
use Rattle.core_stretches.specs.Holdings.{IsFilledAsEdge, IsHeldFresh}
use Rattle.core_stretches.specs.Makes.{Makes, StaysInPass}
use Rattle.core_stretches.proofs.HoldingsStay.{makes_fresh_by_kind}
use Rattle.core_stretches.proofs.MakesAddUp.{makes_chain, makes_look, makes_won}
use Rattle.core_stretches.proofs.MakesTell.{makes_later}
use Rattle.core_stretches.proofs.WordsLeadOn.{word_here}
use Rattle.graph_table.specs.Filled.{MayReplaceByFilled, replaced_event}
use Rattle.graph_table.specs.Table.{Missed}
use Rattle.graph_table.proofs.FilledNodes.{replace_filled}
use Rattle.node_arena.specs.Filling.{edge_stores}
use Rattle.edge_list.specs.EdgeChanges.{CarriesBetween, IsEdgeTryLost}
use Rattle.edge_list.specs.EdgeMarks.{IsEdgeReplaced, IsRaisedEdge, IsReplaceLost, RaisedValue, replacing}
use Rattle.edge_list.specs.EdgeMarks.{replacing_stores}
use Rattle.edge_list.specs.EdgePositions.{EdgePositionValue, IsEdgePosition, IsUnmarkedEdge}
use Rattle.edge_list.proofs.EdgeChangesTell.{carries, edge_lost, grown_is, kept_behind, none_fresh}
use Rattle.edge_list.proofs.EdgeMarksTell.{pair_told, raised_makes, unmarked_before}
use Rattle.edge_list.proofs.EdgePositionsGoOn.{StandsOn, as_edge_position, edge_place_apart, edge_position_makes}
use Rattle.edge_list.proofs.EdgePositionsGoOn.{same_link}

-- the target of an edge that was met is a node of the table, and its tag fits
pub target_fits : (v : View) (r : RaisedValue) → IsLayout v.sizes → IsKept v.sizes v.front → IsRaisedEdge v r
    → (r.edge.target.index < v.sizes.nodes) × (r.edge.target.tag < 2 ^ 39)
target_fits v r z kept h =
    let t = target_shown v z kept r.source r.edge.life h.met in
    let same : t.link ≡ h.linked.link = same_link (link_of v.front r.edge.life) t.link h.linked.link t.is h.linked.is
    in
    let target : t.link.target ≡ r.edge.target = ap (λ (e : Event). e.target) same ∙ h.linked.to in (
      subst (λ (n : ℕ). n < v.sizes.nodes) (t.index ∙ ap (λ (y : Life). y.index) target) t.there,
      subst (λ (n : ℕ). n < 2 ^ 39) (t.tag ∙ ap (λ (y : Life). y.tag) target) t.low,
    )

-- the stores leave the pass open
pub stores_stay : (v : View) (x : Life) (key next : ℕ) (target : Life) (weight : ℕ)
    → Every StaysInPass (edge_stores v x key next target weight)
stores_stay v x key next target weight = (
  (λ y. absurd (cc), λ y. absurd (cc)),
  (
    (λ y. absurd (cc), λ y. absurd (cc)),
    (
      (λ y. absurd (cc), λ y. absurd (cc)),
      ((λ y. absurd (cc), λ y. absurd (cc)), tt),
    ),
  ),
)

-- a filled node may replace the edge
module _ (m : View) (r : RaisedValue) (weight seen : ℕ) (x : Life) (z : IsLayout m.sizes) (s : IsSound m)
    (h : IsRaisedEdge m r) (f : IsFilledAsEdge m r.edge.key (index_of seen) r.edge.target weight x)
    (live : mark_of seen ≡ 0) (other : r.edge.weight ≢ weight) where
  may_replace_edge : MayReplaceEdge m seen r.edge.key r.source r.edge.target weight r.edge.life x
  may_replace_edge = record {
    life = f.held.life;
    edge = h.met;
    raised = h.raised;
    unmarked = live;
    fresh = f.held.fresh;
    filled = f.filled;
    link = h.linked.link;
    link_is = h.linked.is;
    same_key = h.linked.of_key;
    same_target = h.linked.to;
    other_weight = λ same. other (sym h.linked.of_weight ∙ same);
  }

  target_small : r.edge.target.index < 2 ^ 24
  target_small = let there = (target_fits m r z s.kept h).0 in omega (arith, there, z.few_nodes)

  pub may_replace : MayReplaceByFilled m seen r.edge.life x
  may_replace = (replace_filled m seen r.edge.key r.source r.edge.target weight r.edge.life x target_small
      may_replace_edge).0

  pub replaced_is : replaced_event m seen r.edge.life x ≡ replacing m r weight seen x
  replaced_is = (replace_filled m seen r.edge.key r.source r.edge.target weight r.edge.life x target_small
      may_replace_edge).1

-- what the event does, with what was there before it
record IsReplacing (r : RaisedValue) (weight : ℕ) (e : Event) (w : View) : Type 0 where
  pub carries : CarriesBetween r.source r.edge.target (λ a b. AddEdge a b weight) e w
  pub unmarked : IsUnmarkedEdge r.source r.edge carries.past

module _ (v u m : View) (r : RaisedValue) (weight seen : ℕ) (x : Life) (at : ℕ) (z : IsLayout v.sizes)
    (has : v.numbered ≡ true) (s : IsSound v) (h : IsRaisedEdge v r) (at_is : at ≡ link_at v.sizes r.edge.life.index)
    (l : Looked v at seen u) (live : mark_of seen ≡ 0) (sm : IsSound m)
    (fills : Makes u (edge_stores u x r.edge.key (index_of seen) r.edge.target weight) m)
    (f : IsFilledAsEdge m r.edge.key (index_of seen) r.edge.target weight x) where
  looked : Makes v [] u
  looked = makes_look v u at seen has s l

  sizes_u : u.sizes ≡ v.sizes
  sizes_u = (makes_later v u [] looked).sizes

  number_u : u.number ≡ v.number
  number_u = (makes_later v u [] looked).number

  pub stores_make : Makes v (replacing_stores v r weight seen x) m
  stores_make = makes_chain v u m [] (replacing_stores v r weight seen x) looked
      (subst (λ (own : List Event). Makes u own m)
      (ap₂ (λ (y : Sizes) (n : ℕ). edge_stores (record v { sizes = y; number = n }) x r.edge.key (index_of seen)
      r.edge.target weight) sizes_u number_u) fills)

  stays : Every StaysInPass (replacing_stores v r weight seen x)
  stays = stores_stay v x r.edge.key (index_of seen) r.edge.target weight

  sizes_m : m.sizes ≡ v.sizes
  sizes_m = (makes_later v m (replacing_stores v r weight seen x) stores_make).sizes

  number_m : m.number ≡ v.number
  number_m = (makes_later v m (replacing_stores v r weight seen x) stores_make).number

  layout_m : IsLayout m.sizes
  layout_m = subst IsLayout (sym sizes_m) z

  pub has_m : m.numbered ≡ true
  has_m = (makes_later v m (replacing_stores v r weight seen x) stores_make).numbered ∙ has

  pub raised_m : IsRaisedEdge m r
  raised_m = raised_makes v m (replacing_stores v r weight seen x) r z stays stores_make h

  until_m : IsPrefix u.front m.front
  until_m = (makes_later u m (edge_stores u x r.edge.key (index_of seen) r.edge.target weight) fills).grows

  loaded_is : word_at v.sizes u.front (link_at v.sizes r.edge.life.index) ≡ seen
  loaded_is = ap (word_at v.sizes u.front) (sym at_is) ∙ sym l.word

  -- the exchange was made
  module _ (other : r.edge.weight ≢ weight) (w : View) (place : ℕ)
      (place_is : place ≡ link_at m.sizes r.edge.life.index)
      (won_by_words : Won m place seen (replaced_event m seen r.edge.life x) w) where
    made_event : Won m place seen (replacing m r weight seen x) w
    made_event = subst (λ (y : Event). Won m place seen y w)
        (replaced_is m r weight seen x layout_m sm raised_m f live other) won_by_words

    same_event : replacing m r weight seen x ≡ replacing v r weight seen x
    same_event = ap₂ (λ (y : Sizes) (n : ℕ). replacing (record v { sizes = y; number = n }) r weight seen x) sizes_m
        number_m

    event_makes : Makes m (replacing m r weight seen x ∷ []) w
    event_makes = makes_won m w place seen (replacing m r weight seen x) has_m sm refl made_event

    replaces : IsReplacing r weight (replacing m r weight seen x) w
    replaces =
        let e = replacing m r weight seen x in
        let t = win_steps m place seen e w has_m sm made_event in
        let kept = kept_behind m w e t in
        let effect_is : ReplacesEdge m.sizes t.grown e = effect m.sizes layout_m t.grown e
        (past_kept m.sizes t.grown e kept) ReplaceEdge refl (last_allowed m.sizes t.grown e kept).as_kind in
        let number : w.number ≡ m.number = (makes_later m w (e ∷ []) event_makes).number in
        let word : word_at m.sizes t.grown (link_at m.sizes r.edge.life.index) ≡ seen =
        ap₂ (word_at m.sizes) (grown_is m w place seen e t made_event) (sym place_is) ∙ sym made_event.word in
        let before = unmarked_before m w e layout_m t r raised_m (ap mark_of word ∙ live) in
        let pair = pair_told t.grown r.edge.life r.source r.edge.target r.edge.key r.edge.weight before.linked
        before.unmarked in
        record {
          carries = record {
            past = t.grown;
            front = t.front;
            by = sym number;
            present = λ a b from to.
                let there = pair ∙ ap₂ (λ (k n : Option ℕ). weighed r.edge.weight (both k n)) from to in
                carries m w e (AddEdge a b weight) number refl t (effect_is.graph a b r.edge.weight there)
                (effect_is.call a b r.edge.weight there);
            missing = λ none. ap graph_of t.front ∙ effect_is.none (pair ∙ ap (weighed r.edge.weight) none);
          };
          unmarked = before;
        }

    pub replaced : IsEdgeReplaced r weight x v w
    replaced =
        let e = replacing m r weight seen x in
        let t = win_steps m place seen e w has_m sm made_event in
        let kept = kept_behind m w e t in
        let later = makes_later m w (e ∷ []) event_makes in
        let q : IsReplacing r weight (replacing v r weight seen x) w = subst
        (λ (y : Event). IsReplacing r weight y w) same_event replaces in
        record {
          seen = seen;
          loaded = u.front;
          found = record {
            since = l.grows;
            until = prefix_trans u.front m.front w.front until_m later.grows;
            holds = loaded_is;
          };
          makes = makes_chain v m w (replacing_stores v r weight seen x) (replacing v r weight seen x ∷ []) stores_make
              (subst (λ (y : Event). Makes m (y ∷ []) w) same_event event_makes);
          carries = q.carries;
          unmarked = q.unmarked;
          none = none_fresh m w (t.grown ++ e ∷ []) later.sizes later.number t.front
              (edge_replaced m.sizes t.grown e kept layout_m refl).3;
        }

  -- another word was there
  module _ (w : View) (place found : ℕ) (zw : IsLayout w.sizes) (fresh : IsHeldFresh u x)
      (place_is : place ≡ link_at m.sizes r.edge.life.index) (missed : Missed m place seen found w) where
    abbrev old_place : EdgePositionValue
    old_place = record {
      source = r.source;
      key = key_in u r.edge.life.index;
      place = link_at u.sizes r.edge.life.index;
      word = seen;
      link = 0;
      moment = u.front;
    }

    raised_u : IsRaisedEdge u r
    raised_u = raised_makes v u [] r z tt looked h

    layout_u : IsLayout u.sizes
    layout_u = subst IsLayout (sym sizes_u) z

    stood : IsEdgePosition true u old_place
    stood = as_edge_position true r.source (key_in u r.edge.life.index) (link_at u.sizes r.edge.life.index) seen 0
        u.front u (word_here (StandsOn true r.source (key_in u r.edge.life.index))
        (link_at u.sizes r.edge.life.index) seen u l.sound.kept raised_u.from.met.pass
        (raised_u.from, record { edge = r.edge.life; met = raised_u.met; place_is = refl; key_is = refl })
        (ap (λ (y : Sizes). word_at y u.front (link_at y r.edge.life.index)) sizes_u ∙ loaded_is) live)

    stands_still_there : IsEdgePosition true m old_place
    stands_still_there = edge_position_makes true u m
        (edge_stores u x r.edge.key (index_of seen) r.edge.target weight) old_place
        (stores_stay u x r.edge.key (index_of seen) r.edge.target weight) (
          edge_place_apart true u old_place x 0 layout_u (omega arith) fresh stood,
          (
            edge_place_apart true u old_place x 1 layout_u (omega arith) fresh stood,
            (
              edge_place_apart true u old_place x 2 layout_u (omega arith) fresh stood,
              (edge_place_apart true u old_place x 3 layout_u (omega arith) fresh stood, tt),
            ),
          ),
        ) fills stood

    same_place : place ≡ link_at u.sizes r.edge.life.index
    same_place = place_is ∙ ap (λ (y : Sizes). link_at y r.edge.life.index) (sizes_m ∙ sym sizes_u)

    tried : IsEdgeTryLost old_place m w
    tried = edge_lost true m w old_place found zw has_m sm stands_still_there
        (subst (λ (i : ℕ). Missed m i seen found w) same_place missed)

    pub replace_lost : IsReplaceLost r weight x v w
    replace_lost =
        let later = makes_later m w [] tried.makes in
        record {
          seen = seen;
          loaded = u.front;
          found = record {
            since = l.grows;
            until = prefix_trans u.front m.front w.front until_m later.grows;
            holds = loaded_is;
          };
          unmarked = live;
          makes = makes_chain v m w (replacing_stores v r weight seen x) [] stores_make tried.makes;
          changed = subst (λ (i : ℕ). IsChangedByAnother u.front w.front w.number i)
              (ap (λ (y : Sizes). link_at y r.edge.life.index) (sizes_u ∙ (sym sizes_m ∙ sym later.sizes)))
              tried.changed;
          held = (makes_fresh_by_kind m w [] layout_m x tt tried.makes f.held).0;
        }
