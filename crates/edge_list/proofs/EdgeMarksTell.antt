-- What raising a counter and marking an edge tell.
use Rattle.std.proofs.Common.{◌≡◌, ◌≢◌, ℕ, ◌<◌, Bool, true, false, cond, List, [], ◌∷◌, ◌++◌, None, Some, Option, inr}
use Rattle.std.proofs.Common.{refl, sym, ap, ap₂, ◌∙◌, subst, arith, append-nil}
use Rattle.std.specs.Prelude.{option_and_then, length}
use Rattle.graph_kinds.specs.History.{Every}
use Rattle.graph_kinds.specs.declared.call.Call.TheVariants.{RemoveEdge}
use Rattle.packed_link.specs.Link.{index_of, mark_of, nowhere}
use Rattle.packed_link.specs.Layout.{Sizes, IsLayout, key_at, link_at}
use Rattle.packed_link.specs.declared.link.Life.{Life}
use Rattle.core_journal.specs.declared.event.Kind.TheVariants.{MarkEdge}
use Rattle.core_journal.specs.declared.event.Event.{Event}
use Rattle.core_journal.specs.Event.{raises}
use Rattle.core_journal.specs.GraphOf.{graph_of, present_key, present_pair, pair_between, both, weighed}
use Rattle.core_journal.specs.Life.{edge_marked, link_of}
use Rattle.core_journal.specs.Machine.{word_at}
use Rattle.core_journal.specs.Prefix.{IsPrefix}
use Rattle.core_journal.specs.Reuse.{pass_in}
use Rattle.core_journal.specs.State.{Pass}
use Rattle.core_journal.proofs.States.{count-length}
use Rattle.core_kept.specs.Counts.{made, most_raises}
use Rattle.core_kept.specs.Edges.{IsRaisedFor}
use Rattle.core_kept.specs.Facts.{IsLinkOf}
use Rattle.core_kept.proofs.Announcements.{announcements}
use Rattle.core_kept.proofs.Induction.{past_kept, last_allowed}
use Rattle.core_lists.specs.Chains.{life_in}
use Rattle.core_lists.specs.Effects.{RemovesEdge}
use Rattle.core_lists.specs.Replacements.{LeadsToItsKey}
use Rattle.core_lists.proofs.EffectOfKinds.{effect}
use Rattle.core_lists.proofs.LinksTellReplaced.{old_leads, told}
use Rattle.core_rule.specs.Fronts.{MayRaise, key_in}
use Rattle.core_rule.specs.OwnEvents.{mark_edge_event, raise_event}
use Rattle.core_rule.specs.Plays.{IsSound, Looked, Won}
use Rattle.core_rule.specs.Views.{GoesOn, Steps}
use Rattle.core_rule.specs.declared.view.View.{View}
use Rattle.core_rule.proofs.ViewShows.{dead_still, edge_dead_shown, edge_live_shown, edge_shown, edge_still}
use Rattle.core_rule.proofs.ViewShows.{raise_is_for, raised_still, step_goes_on, vertex_still, win_steps}
use Rattle.core_stretches.specs.Makes.{Makes, StaysInPass}
use Rattle.core_stretches.proofs.EdgeWords.{edge_link_leads}
use Rattle.core_stretches.proofs.MakesAddUp.{makes_chain, makes_look, makes_won}
use Rattle.core_stretches.proofs.MakesTell.{makes_goes}
use Rattle.core_stretches.proofs.WordsLeadOn.{goes_number, goes_sizes, kept_before}
use Rattle.edge_list.specs.EdgeMarks.{FoundEdgeMarked, IsEdgeMarked, IsRaisedEdge, IsRaising, RaisedValue}
use Rattle.edge_list.specs.EdgeMarks.{WasEdgeMarked, WasEdgeReplaced}
use Rattle.edge_list.specs.EdgePositions.{IsSeenEdge, IsUnmarkedEdge}
use Rattle.edge_list.specs.declared.edge.Edge.{Edge}
use Rattle.edge_list.proofs.EdgeChangesTell.{carries, grown_is, kept_behind}
use Rattle.edge_list.proofs.EdgePositionsGoOn.{edge_position_from, linked_later, same_link}

-- the source of an edge that was found unmarked may be raised
module _ (v : View) (source : Life) (edge : Edge) (moment : List Event) (z : IsLayout v.sizes)
    (s : IsSeenEdge v source edge moment) where
  seen_since : (pass_in v.sizes v.front v.number).since < length moment
  seen_since =
      let then = s.position.then in
      let g = s.position.goes in
      let kept = kept_before then v g in
      let began = ((announcements then.sizes then.front kept).inside then.number s.position.pass).began in
      let n = count-length then.sizes then.front in
      let same : pass_in v.sizes v.front v.number ≡ pass_in then.sizes then.front then.number = ap₂
      (λ (y : Sizes) (i : ℕ). pass_in y v.front i) (goes_sizes then v g) (goes_number then v g) ∙ g.pass in
      let since : (pass_in v.sizes v.front v.number).since ≡ (pass_in then.sizes then.front then.number).since = ap
      (λ (p : Pass). p.since) same in
      let at : length moment ≡ length then.front = ap length (sym s.position.at) in
      omega (arith, began, n, since, at)

  seen_before : IsPrefix moment v.front
  seen_before = subst (λ (f : List Event). IsPrefix f v.front) s.position.at s.position.goes.grows

  pub may_raise_seen : made raises v.number v.front < most_raises → MayRaise v source
  may_raise_seen few = record {
    vertex = edge_position_from true v _ z s.position;
    moment = moment;
    before = seen_before;
    since = seen_since;
    edge = edge.life;
    link = s.unmarked.linked.link;
    linked = s.unmarked.linked.is;
    from = s.unmarked.linked.from;
    unmarked = s.unmarked.unmarked;
    limit = few;
  }

  -- the counter is raised
  pub raising : (w : View) (place found : ℕ) → v.numbered ≡ true → IsSound v
      → Won v place found (raise_event v source found) w
      → IsRaising source edge v w (record { source = source; edge = edge })
  raising w place found has sound won =
      let e = raise_event v source found in
      let t = win_steps v place found e w has sound won in
      let makes = makes_won v w place found e has sound refl won in
      let g = makes_goes v w (e ∷ []) ((λ y. absurd (cc), λ y. absurd (cc)), tt) makes in
      let kept = kept_behind v w e t in
      let link = s.unmarked.linked in
      let at_v = linked_later moment v.front edge.life source edge.target edge.key edge.weight seen_before link in
      let at_grown = linked_later v.front t.grown edge.life source edge.target edge.key edge.weight t.reaches.front
      at_v in
      let raised : IsRaisedFor v.sizes (t.grown ++ e ∷ []) v.number edge.life source =
      raise_is_for v.sizes t.grown e kept refl edge.life at_grown.link at_grown.is in
      record {
        source_is = refl;
        edge_is = refl;
        found = found;
        makes = makes;
        last = record { past = t.grown; front = t.front };
        raised = record {
          from = vertex_still v w z g source (edge_position_from true v _ z s.position);
          met = edge_still v w z g source edge.life s.met;
          linked = linked_later v.front w.front edge.life source edge.target edge.key edge.weight g.grows at_v;
          raised = subst (λ (y : Sizes). IsRaisedFor y w.front w.number edge.life source) (sym (goes_sizes v w g))
              (subst (λ (n : ℕ). IsRaisedFor v.sizes w.front n edge.life source) (sym (goes_number v w g))
              (subst (λ (j : List Event). IsRaisedFor v.sizes j v.number edge.life source) (sym t.front) raised));
        };
      }

-- an edge for which the counter was raised is one in each later view of the pass
pub raised_goes : (v w : View) (r : RaisedValue) → IsLayout v.sizes → GoesOn v w → IsRaisedEdge v r → IsRaisedEdge w r
raised_goes v w r z g h = record {
  from = vertex_still v w z g r.source h.from;
  met = edge_still v w z g r.source r.edge.life h.met;
  linked = linked_later v.front w.front r.edge.life r.source r.edge.target r.edge.key r.edge.weight g.grows h.linked;
  raised = raised_still v w z g r.edge.life r.source h.raised;
}

pub raised_makes : (v w : View) (own : List Event) (r : RaisedValue) → IsLayout v.sizes → Every StaysInPass own
    → Makes v own w → IsRaisedEdge v r → IsRaisedEdge w r
raised_makes v w own r z stays h = raised_goes v w r z (makes_goes v w own stays h)

-- the pair of an edge that isn't marked is told by its two ends
pub pair_told : (past : List Event) (x source target : Life) (key weight : ℕ)
    → IsLinkOf past x source target key weight → edge_marked past x ≡ false
    → present_pair past x ≡ weighed weight (both (present_key past source) (present_key past target))
pair_told past x source target key weight h live =
    ap (λ (b : Bool). cond b None (option_and_then (pair_between past) (link_of past x))) live
    ∙ (ap (option_and_then (pair_between past)) h.is
    ∙ (ap (λ (w : ℕ). weighed w (both (present_key past h.link.source) (present_key past h.link.target))) h.of_weight
    ∙ ap₂ (λ (y t : Life). weighed weight (both (present_key past y) (present_key past t))) h.from h.to))

-- the view right before the token's own event
module _ (v w : View) (e : Event) (z : IsLayout v.sizes) (t : Steps v (Some e) w) (r : RaisedValue)
    (h : IsRaisedEdge v r) where
  abbrev pub before_event : View
  before_event = record v { front = t.grown }

  goes_before : GoesOn v before_event
  goes_before = step_goes_on v before_event None (record {
    view = refl;
    grown = t.grown;
    reaches = t.reaches;
    front = sym (append-nil t.grown);
    kept = t.reaches.kept;
  }) tt

  -- if its link has no mark there, the edge isn't marked
  pub unmarked_before : mark_of (word_at v.sizes t.grown (link_at v.sizes r.edge.life.index)) ≡ 0
      → IsUnmarkedEdge r.source r.edge t.grown
  unmarked_before live = record {
    linked = linked_later v.front t.grown r.edge.life r.source r.edge.target r.edge.key r.edge.weight
        t.reaches.front h.linked;
    unmarked = (edge_live_shown before_event z t.reaches.kept r.source r.edge.life
        (edge_still v before_event z goes_before r.source r.edge.life h.met) live).1;
  }

-- the edge is marked: its pair is taken from the graph where both ends are present
pub edge_cut : (v w : View) (r : RaisedValue) (place found : ℕ) → IsLayout v.sizes → v.numbered ≡ true → IsSound v
    → IsRaisedEdge v r → place ≡ link_at v.sizes r.edge.life.index
    → Won v place found (mark_edge_event v r.edge.life found) w → mark_of found ≡ 0 → IsEdgeMarked r v w
edge_cut v w r place found z has s h place_is won live =
    let x = r.edge.life in
    let e = mark_edge_event v x found in
    let t = win_steps v place found e w has s won in
    let kept = kept_behind v w e t in
    let effect_is : RemovesEdge v.sizes t.grown e = effect v.sizes z t.grown e
    (past_kept v.sizes t.grown e kept) MarkEdge refl (last_allowed v.sizes t.grown e kept).as_kind in
    let number : w.number ≡ v.number = ap (λ (u : View). u.number) won.view in
    let word : word_at v.sizes t.grown (link_at v.sizes x.index) ≡ found =
    ap₂ (word_at v.sizes) (grown_is v w place found e t won) (sym place_is) ∙ sym won.word in
    let before = unmarked_before v w e z t r h (ap mark_of word ∙ live) in
    let pair = pair_told t.grown x r.source r.edge.target r.edge.key r.edge.weight before.linked before.unmarked in
    record {
      found = found;
      makes = makes_won v w place found e has s refl won;
      carries = record {
        past = t.grown;
        front = t.front;
        by = sym number;
        present = λ a b from to.
            let there = pair ∙ ap₂ (λ (k l : Option ℕ). weighed r.edge.weight (both k l)) from to in
            carries v w e (RemoveEdge a b) number refl t (effect_is.graph a b r.edge.weight there)
            (effect_is.call a b r.edge.weight there);
        missing = λ none. ap graph_of t.front ∙ effect_is.none (pair ∙ ap (weighed r.edge.weight) none);
      };
      unmarked = before;
    }

-- the mark was there
module _ (v u : View) (r : RaisedValue) (place found : ℕ) (z : IsLayout v.sizes) (has : v.numbered ≡ true)
    (s : IsSound v) (h : IsRaisedEdge v r) (place_is : place ≡ link_at v.sizes r.edge.life.index)
    (l : Looked v place found u) (dead : mark_of found ≡ 1) where
  abbrev cut : Life
  cut = r.edge.life

  looked_makes : Makes v [] u
  looked_makes = makes_look v u place found has s l

  looked_goes : GoesOn v u
  looked_goes = makes_goes v u [] tt looked_makes

  layout_looked : IsLayout u.sizes
  layout_looked = subst IsLayout (sym (goes_sizes v u looked_goes)) z

  raised_looked : IsRaisedEdge u r
  raised_looked = raised_goes v u r z looked_goes h

  looked_word : word_at u.sizes u.front (link_at u.sizes cut.index) ≡ found
  looked_word = ap₂ (λ (y : Sizes) (i : ℕ). word_at y u.front i) (goes_sizes v u looked_goes)
      (ap (λ (y : Sizes). link_at y cut.index) (goes_sizes v u looked_goes) ∙ sym place_is) ∙ sym l.word

  looked_marked : edge_marked u.front cut ≡ true
  looked_marked = edge_dead_shown u layout_looked l.sound.kept r.source cut raised_looked.met
      (ap mark_of looked_word ∙ dead)

  pub found_marked : FoundEdgeMarked r v u
  found_marked = record { makes = looked_makes; marked = looked_marked }

  -- where the link leads to none, no edge replaced it
  pub was_at_end : index_of found ≡ nowhere → WasEdgeMarked r v u
  was_at_end none = record {
    makes = looked_makes;
    marked = looked_marked;
    unreplaced = λ new by. (old_leads u.sizes layout_looked u.front l.sound.kept cut new raised_looked.met.life.tag
        (inr (u.number, raised_looked.met.met)) by).0.some (ap index_of looked_word ∙ none);
  }

  -- where it leads to a node, that's an edge of the source that was met
  pub next_is_there : index_of found ≢ nowhere → index_of found < u.sizes.nodes
  next_is_there some = subst (λ (i : ℕ). index_of i < u.sizes.nodes) looked_word
      (edge_link_leads u layout_looked l.sound.kept r.source cut raised_looked.met
      (λ none. some (ap index_of (sym looked_word) ∙ none))).met.life.there

  module _ (w : View) (at behind : ℕ) (some : index_of found ≢ nowhere) (at_is : at ≡ key_at u.sizes (index_of found))
      (k : Looked u at behind w) where
    key_makes : Makes u [] w
    key_makes = makes_look u w at behind (ap (λ (y : View). y.numbered) l.view ∙ has) l.sound k

    key_goes : GoesOn u w
    key_goes = makes_goes u w [] tt key_makes

    layout_key : IsLayout w.sizes
    layout_key = subst IsLayout (sym (goes_sizes u w key_goes)) layout_looked

    raised_key : IsRaisedEdge w r
    raised_key = raised_goes u w r layout_looked key_goes raised_looked

    word_now : word_at w.sizes w.front (link_at w.sizes cut.index) ≡ found
    word_now = dead_still u w layout_looked key_goes cut.index raised_looked.met.life.there raised_looked.met.met
        (ap mark_of looked_word ∙ dead) ∙ looked_word

    marked_now : edge_marked w.front cut ≡ true
    marked_now = edge_dead_shown w layout_key k.sound.kept r.source cut raised_key.met (ap mark_of word_now ∙ dead)

    behind_is : key_in w (index_of found) ≡ behind
    behind_is = ap₂ (λ (y : Sizes) (i : ℕ). word_at y w.front i) (goes_sizes u w key_goes)
        (ap (λ (y : Sizes). key_at y (index_of found)) (goes_sizes u w key_goes) ∙ sym at_is) ∙ sym k.word

    own_key : key_in w cut.index ≡ r.edge.key
    own_key =
        let shown = edge_shown w layout_key k.sound.kept r.source cut raised_key.met in
        let same : shown.link ≡ raised_key.linked.link = same_link (link_of w.front cut) shown.link
        raised_key.linked.link shown.is raised_key.linked.is in
        sym shown.key ∙ (ap (λ (e : Event). e.key) same ∙ raised_key.linked.of_key)

    -- it's of the edge's key exactly where it replaced the edge
    pub was_replaced : behind ≡ r.edge.key → WasEdgeReplaced r v w
    was_replaced same =
        let d : LeadsToItsKey w.sizes w.front cut.index = record {
          marked = ap mark_of word_now ∙ dead;
          some = λ none. some (ap index_of (sym word_now) ∙ none);
          key = ap (λ (i : ℕ). key_in w (index_of i)) word_now ∙ (behind_is ∙ (same ∙ sym own_key));
        } in
        record {
          makes = makes_chain v u w [] [] looked_makes key_makes;
          marked = marked_now;
          new = life_in w.sizes w.front (index_of (word_at w.sizes w.front (link_at w.sizes cut.index)));
          replaced = told w.sizes layout_key w.front k.sound.kept cut raised_key.met.life.there
              raised_key.met.life.tag (inr (w.number, raised_key.met.met)) d raised_key.met.edge;
        }

    pub was_cut : behind ≢ r.edge.key → WasEdgeMarked r v w
    was_cut other = record {
      makes = makes_chain v u w [] [] looked_makes key_makes;
      marked = marked_now;
      unreplaced = λ new by.
          let d = (old_leads w.sizes layout_key w.front k.sound.kept cut new raised_key.met.life.tag
          (inr (w.number, raised_key.met.met)) by).0 in
          other (sym behind_is ∙ (ap (λ (i : ℕ). key_in w (index_of i)) (sym word_now) ∙ (d.key ∙ own_key)));
    }

-- one life is one edge
pub same_edge : (v : View) (r : RaisedValue) (source : Life) (edge : Edge) (moment : List Event) → IsRaisedEdge v r
    → IsSeenEdge v source edge moment → edge.life ≡ r.edge.life → (source ≡ r.source) × (edge ≡ r.edge)
same_edge v r source edge moment h s same =
    let a = linked_later moment v.front edge.life source edge.target edge.key edge.weight
    (subst (λ (f : List Event). IsPrefix f v.front) s.position.at s.position.goes.grows) s.unmarked.linked in
    let b = h.linked in
    let link : a.link ≡ b.link = same_link (link_of v.front r.edge.life) a.link b.link
    (ap (link_of v.front) (sym same) ∙ a.is) b.is in
    let key : edge.key ≡ r.edge.key = sym a.of_key ∙ (ap (λ (e : Event). e.key) link ∙ b.of_key) in
    let target : edge.target ≡ r.edge.target = sym a.to ∙ (ap (λ (e : Event). e.target) link ∙ b.to) in
    let weight : edge.weight ≡ r.edge.weight = sym a.of_weight ∙ (ap (λ (e : Event). e.weight) link ∙ b.of_weight) in (
      sym a.from ∙ (ap (λ (e : Event). e.source) link ∙ b.from),
      λ i. record { life = same i; key = key i; target = target i; weight = weight i },
    )
