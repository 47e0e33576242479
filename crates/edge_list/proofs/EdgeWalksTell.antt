-- What the start of a walk, a walk and a step tell, by the loads of the words of the edge to which their position
-- leads.
use Rattle.std.proofs.Common.{◌≡◌, ◌≢◌, ℕ, ◌+◌, ◌-◌, ◌<◌, ◌≤◌, ◌^◌, Bool, true, false, List, [], Some, inl, refl, sym}
use Rattle.std.proofs.Common.{ap, ap₂, ◌∙◌, subst, arith}
use Rattle.packed_link.specs.Link.{index_of, mark_of, tag_of, nowhere}
use Rattle.packed_link.specs.Layout.{Sizes, IsLayout, key_at, link_at, second_at, third_at}
use Rattle.packed_link.specs.declared.link.Life.{Life}
use Rattle.core_journal.specs.declared.event.Event.{Event}
use Rattle.core_journal.specs.Life.{edge_marked, key_of, link_of}
use Rattle.core_journal.specs.Machine.{word_at}
use Rattle.core_journal.specs.Prefix.{IsPrefix}
use Rattle.core_journal.proofs.Lists.{prefix_trans}
use Rattle.core_kept.specs.Facts.{IsLinkOf}
use Rattle.core_kept.specs.Kept.{IsKept}
use Rattle.core_kept.proofs.Contents.{contents}
use Rattle.core_kept.proofs.MetWords.{met_used}
use Rattle.core_lists.specs.Chains.{life_in}
use Rattle.core_lists.specs.Changed.{IsChangedByAnother}
use Rattle.core_lists.proofs.LinkTellsPresence.{key_there}
use Rattle.core_rule.specs.Fronts.{MetEdge, MetVertex, key_in}
use Rattle.core_rule.specs.Plays.{IsSound, Looked}
use Rattle.core_rule.specs.Views.{GoesOn}
use Rattle.core_rule.specs.declared.view.View.{View}
use Rattle.core_rule.proofs.ShownTargets.{edge_words_still, head_marked, target_shown}
use Rattle.core_rule.proofs.ViewShows.{edge_live_shown, edge_shown, life_shown, vertex_still}
use Rattle.core_stretches.specs.LoadedWords.{IsLoadedNode}
use Rattle.core_stretches.specs.Makes.{Makes}
use Rattle.core_stretches.specs.Moments.{LacksEdge, HoldsBetween}
use Rattle.core_stretches.proofs.MakesAddUp.{makes_look}
use Rattle.core_stretches.proofs.MakesTell.{makes_goes, makes_later}
use Rattle.core_stretches.proofs.EdgeWords.{IsBeforeOf, IsOfSource, edge_link_leads, edge_walks}
use Rattle.core_stretches.proofs.WordsLeadOn.{goes_sizes, kept_before, key_then, loads_make, low_at, low_passed}
use Rattle.core_stretches.proofs.WordsLeadOn.{node_loaded, node_passed, word_changed, word_here, word_leads, word_looks}
use Rattle.core_stretches.proofs.WordsLeadOn.{word_opened, word_passes, word_rises, word_until}
use Rattle.graph_table.specs.Tokens.{TableValue, TokenValue, IsOf}
use Rattle.edge_list.specs.EdgePositions.{EdgePositionValue, IsEdgePosition, IsGapOfEdge, IsSeenEdge, IsUnmarkedEdge}
use Rattle.edge_list.specs.EdgePositions.{LeadsToDeadEdge}
use Rattle.edge_list.specs.EdgeWalks.{FoundFrozen, HasTarget, IsEdgeAt, IsEdgeDead, IsEdgeDeadStep, IsEdgeGone}
use Rattle.edge_list.specs.EdgeWalks.{IsEdgeHere, IsStarted}
use Rattle.edge_list.specs.declared.edge.Edge.{Edge}
use Rattle.edge_list.specs.declared.walks.EdgeSighting.{EdgeSighting}
use Rattle.edge_list.proofs.EdgePositionsGoOn.{StandsOn, as_edge_position, as_edge_word, edge_place_words}
use Rattle.edge_list.proofs.EdgePositionsGoOn.{edge_position_makes, edge_position_with, linked_later, same_link}
use Rattle.edge_list.proofs.EdgePositionsGoOn.{seen_makes}

-- the second word of the source is loaded
module _ (v w : View) (source : Life) (key at found : ℕ) (z : IsLayout w.sizes) (has : v.numbered ≡ true)
    (s : IsSound v) (m : MetVertex v source) (l : Looked v at found w) (at_is : at ≡ second_at w.sizes source.index)
  where
    start_goes : GoesOn v w
    start_goes = makes_goes v w [] tt (makes_look v w at found has s l)

    start_met : MetVertex w source
    start_met = vertex_still v w (subst IsLayout (goes_sizes v w start_goes) z) start_goes source m

    start_word : word_at w.sizes w.front at ≡ found
    start_word = ap (λ (y : Sizes). word_at y w.front at) (goes_sizes v w start_goes) ∙ sym l.word

    pub started : mark_of found ≡ 0 → IsStarted source key w
        (record { source = source; key = key; place = at; word = found; link = 0; moment = w.front })
    started live = record {
      source_is = refl;
      key_is = refl;
      place = at_is;
      moment = refl;
      position = as_edge_position false source key at found 0 w.front w
          (word_here (StandsOn false source key) at found w l.sound.kept start_met.met.pass
          (start_met, inl at_is) start_word live);
    }

    pub start_frozen : mark_of found ≡ 1 → FoundFrozen source w
    start_frozen dead =
        let closed : mark_of (word_at w.sizes w.front (second_at w.sizes source.index)) ≡ 1 =
        ap (λ (i : ℕ). mark_of (word_at w.sizes w.front i)) (sym at_is) ∙ (ap mark_of start_word ∙ dead) in
        record { closed = closed; marked = (head_marked w z l.sound.kept source start_met closed).1 }

-- the position of a walk, whose word leads to a node
pub walk_leads : (v : View) (p : EdgePositionValue) → IsLayout v.sizes → IsEdgePosition false v p
    → index_of p.word ≢ nowhere → IsOfSource p.source v (index_of p.word)
walk_leads v p z h some = word_leads (IsOfSource p.source) (StandsOn false p.source p.key)
    (edge_place_words false p.source p.key) p.place p.word p.moment v z (as_edge_word false v p h) some

pub step_leads : (passed : Bool) (v : View) (p : EdgePositionValue) → IsLayout v.sizes → IsEdgePosition passed v p
    → index_of p.word ≢ nowhere → IsOfSource p.source v (index_of p.word)
step_leads passed v p z h some = word_leads (IsOfSource p.source) (StandsOn passed p.source p.key)
    (edge_place_words passed p.source p.key) p.place p.word p.moment v z (as_edge_word passed v p h) some

-- the key and the link of that edge are loaded
pub record IsEdgeLoaded (passed : Bool) (v w : View) (p : EdgePositionValue) (found link : ℕ) : Type 0 where
  pub makes : Makes v [] w
  pub position : IsEdgePosition passed w p
  pub node : IsLoadedNode (IsOfSource p.source) (index_of p.word) found link w

pub edge_loaded : (passed : Bool) (g : TableValue) (t m u : TokenValue) (p : EdgePositionValue) (found link at at' : ℕ)
    → IsOf g t → IsOf g m → t.view.numbered ≡ true → IsEdgePosition passed t.view p → index_of p.word ≢ nowhere
    → at ≡ key_at g.sizes (index_of p.word) → at' ≡ link_at g.sizes (index_of p.word)
    → Looked t.view at found m.view → Looked m.view at' link u.view → IsEdgeLoaded passed t.view u.view p found link
edge_loaded passed g t m u p found link at at' of of' has h some is is' l l' =
    let laws = edge_place_words passed p.source p.key in
    let makes = loads_make t.view m.view u.view at found at' link has of.sound l l' in
    let sizes = sym of.sizes in
    record {
      makes = makes;
      position = as_edge_position passed p.source p.key p.place p.word p.link p.moment u.view
          (word_looks (StandsOn passed p.source p.key) p.place p.word p.moment t.view u.view makes
          (as_edge_word passed t.view p h));
      node = node_loaded (IsOfSource p.source) (StandsOn passed p.source p.key) laws t.view m.view u.view at
          (index_of p.word) found at' link of.layout has of.sound (step_leads passed t.view p of.layout h some)
          (is ∙ ap (λ (s : Sizes). key_at s (index_of p.word)) sizes)
          (is' ∙ ap (λ (s : Sizes). link_at s (index_of p.word)) sizes) l l';
    }

-- the edge's life is told by the tag of its link
pub loaded_life : (source : Life) (w : View) (x found link index tag : ℕ) → IsLayout w.sizes → IsKept w.sizes w.front
    → IsLoadedNode (IsOfSource source) x found link w → index ≡ x → tag ≡ tag_of link
    → record { index = index; tag = tag } ≡ life_in w.sizes w.front x
loaded_life source w x found link index tag z kept n index_is tag_is = ap₂
    (λ (i t : ℕ). record { index = i; tag = t }) index_is
    (tag_is ∙ (ap tag_of (sym n.link_is) ∙ life_shown w z kept (life_in w.sizes w.front x) n.met.1.life n.met.1.met))

pub loaded_met : (source : Life) (w : View) (x found link index tag : ℕ) → IsLayout w.sizes → IsKept w.sizes w.front
    → IsLoadedNode (IsOfSource source) x found link w → index ≡ x → tag ≡ tag_of link
    → MetEdge w source (record { index = index; tag = tag })
loaded_met source w x found link index tag z kept n index_is tag_is = subst (MetEdge w source)
    (sym (loaded_life source w x found link index tag z kept n index_is tag_is)) n.met.1

loaded_dead : (w : View) (p : EdgePositionValue) (found link : ℕ)
    → IsLoadedNode (IsOfSource p.source) (index_of p.word) found link w → mark_of link ≡ 1
    → LeadsToDeadEdge w (record p { link = link })
loaded_dead w p found link n dead = record {
  edge = life_in w.sizes w.front (index_of p.word);
  leads = refl;
  met = n.met.1;
  link_is = sym n.link_is;
  dead = ap mark_of n.link_is ∙ dead;
}

-- a key of an edge fits 32 bits, and so does what is loaded of it
pub edge_key_fits : (passed : Bool) (v w : View) (p : EdgePositionValue) (at found : ℕ) → IsLayout v.sizes
    → v.numbered ≡ true → IsSound v → IsEdgePosition passed v p → index_of p.word ≢ nowhere
    → at ≡ key_at v.sizes (index_of p.word) → Looked v at found w → found < 2 ^ 32
edge_key_fits passed v w p at found z has s h some at_is l =
    let x = index_of p.word in
    let makes = makes_look v w at found has s l in
    let sizes = goes_sizes v w (makes_goes v w [] tt makes) in
    let z' : IsLayout w.sizes = subst IsLayout (sym sizes) z in
    let met = (step_leads passed w p z' (edge_position_makes passed v w [] p tt tt makes h) some).1 in
    let c = ((contents w.sizes z' w.front l.sound.kept).each x met.life.there).edge
    (met_used w.sizes w.front w.number x met.met) met.edge in
    let found_is : found ≡ key_in w x = l.word
    ∙ (ap (word_at v.sizes w.front) at_is ∙ ap (λ (y : Sizes). word_at y w.front (key_at y x)) (sym sizes)) in
    subst (λ (k : ℕ). k < 2 ^ 32) (sym c.key_word ∙ sym found_is) c.key_fits

-- the other words of an edge that was met, its target and its weight, are loaded one after another
module _ (g : TableValue) (t m u : TokenValue) (source x : Life) (second third at at' : ℕ) (of : IsOf g t)
    (of' : IsOf g m) (has : t.view.numbered ≡ true) (e : MetEdge t.view source x)
    (is : at ≡ second_at g.sizes x.index) (is' : at' ≡ third_at g.sizes x.index)
    (l : Looked t.view at second m.view) (l' : Looked m.view at' third u.view) where
  first_goes : GoesOn t.view m.view
  first_goes = makes_goes t.view m.view [] tt (makes_look t.view m.view at second has of.sound l)

  both_make : Makes t.view [] u.view
  both_make = loads_make t.view m.view u.view at second at' third has of.sound l l'

  both_go : GoesOn t.view u.view
  both_go = makes_goes t.view u.view [] tt both_make

  pub second_is : second ≡ word_at t.view.sizes t.view.front (second_at t.view.sizes x.index)
  second_is = l.word ∙ (ap (word_at t.view.sizes m.view.front) (is ∙ ap (λ (s : Sizes). second_at s x.index)
      (sym of.sizes)) ∙ (ap (λ (s : Sizes). word_at s m.view.front (second_at s x.index))
      (sym (goes_sizes t.view m.view first_goes)) ∙ (edge_words_still t.view m.view of.layout first_goes source x e).0))

  pub third_is : third ≡ word_at t.view.sizes t.view.front (third_at t.view.sizes x.index)
  third_is = l'.word ∙ (ap (word_at m.view.sizes u.view.front) (is' ∙ ap (λ (s : Sizes). third_at s x.index)
      (sym of'.sizes)) ∙ (ap (λ (s : Sizes). word_at s u.view.front (third_at s x.index))
      (sym (goes_sizes m.view u.view
      (makes_goes m.view u.view [] tt (makes_look m.view u.view at' third
      ((makes_later t.view m.view [] (makes_look t.view m.view at second has of.sound l)).numbered ∙ has) of'.sound
      l'))))
      ∙ (edge_words_still t.view u.view of.layout both_go source x e).1))

-- what those words tell
pub edge_told : (v : View) (source x : Life) (second third key index tag weight : ℕ) → IsLayout v.sizes
    → IsKept v.sizes v.front → MetEdge v source x → second ≡ word_at v.sizes v.front (second_at v.sizes x.index)
    → third ≡ word_at v.sizes v.front (third_at v.sizes x.index) → key_in v x.index ≡ key → index ≡ index_of second
    → tag ≡ tag_of second → weight ≡ third
    → IsLinkOf v.front x source (record { index = index; tag = tag }) key weight
edge_told v source x second third key index tag weight z kept m second_is third_is key_is index_is tag_is weight_is =
    let s = edge_shown v z kept source x m in
    let t = target_shown v z kept source x m in
    let same : t.link ≡ s.link = same_link (link_of v.front x) t.link s.link t.is s.is in
    let i : index ≡ s.link.target.index = index_is ∙ (ap index_of second_is
    ∙ (t.index ∙ ap (λ (e : Event). e.target.index) same)) in
    let g : tag ≡ s.link.target.tag = tag_is ∙ (ap tag_of second_is
    ∙ (t.tag ∙ ap (λ (e : Event). e.target.tag) same)) in
    record {
      link = s.link;
      is = s.is;
      from = s.from;
      to = sym (ap₂ (λ (a b : ℕ). record { index = a; tag = b }) i g);
      of_key = s.key ∙ key_is;
      of_weight = s.weight ∙ (sym third_is ∙ sym weight_is);
    }

pub weight_loaded_fits : (v : View) (source x : Life) (third : ℕ) → IsLayout v.sizes → IsKept v.sizes v.front
    → MetEdge v source x → third ≡ word_at v.sizes v.front (third_at v.sizes x.index) → third < 2 ^ 32
weight_loaded_fits v source x third z kept m is =
    let s = edge_shown v z kept source x m in
    subst (λ (n : ℕ). n < 2 ^ 32) (s.weight ∙ sym is) s.weight_fits

-- an edge whose link is loaded unmarked is seen
module _ (source : Life) (w : View) (x found link : ℕ) (edge : Edge) (z : IsLayout w.sizes)
    (kept : IsKept w.sizes w.front)
    (n : IsLoadedNode (IsOfSource source) x found link w) (live : mark_of link ≡ 0) (index_is : edge.life.index ≡ x)
    (tag_is : edge.life.tag ≡ tag_of link) (key_is : edge.key ≡ found) where
  seen_met : MetEdge w source edge.life
  seen_met = loaded_met source w x found link edge.life.index edge.life.tag z kept n index_is tag_is

  seen_link : word_at w.sizes w.front (link_at w.sizes edge.life.index) ≡ link
  seen_link = ap (λ (i : ℕ). word_at w.sizes w.front (link_at w.sizes i)) index_is ∙ n.link_is

  pub seen_place : IsEdgePosition true w (record {
    source = source;
    key = edge.key;
    place = link_at w.sizes edge.life.index;
    word = link;
    link = 0;
    moment = w.front;
  })
  seen_place = as_edge_position true source edge.key (link_at w.sizes edge.life.index) link 0 w.front w
      (word_here (StandsOn true source edge.key) (link_at w.sizes edge.life.index) link w kept n.met.0.met.pass (
        n.met.0,
        record {
          edge = edge.life;
          met = seen_met;
          place_is = refl;
          key_is = ap (key_in w) index_is ∙ (n.key_is ∙ sym key_is);
        },
      ) seen_link live)

  pub loaded_seen : IsLinkOf w.front edge.life source edge.target edge.key edge.weight
      → IsSeenEdge w source edge w.front
  loaded_seen linked = record {
    met = seen_met;
    unmarked = record {
      linked = linked;
      unmarked = (edge_live_shown w z kept source edge.life seen_met (ap mark_of seen_link ∙ live)).1;
    };
    word = link;
    position = seen_place;
  }

-- the target of an edge that was met
pub has_target : (v : View) (source : Life) (edge : Edge) (moment : List Event) → IsLayout v.sizes
    → IsKept v.sizes v.front → IsSeenEdge v source edge moment → HasTarget v edge
has_target v source edge moment z kept s =
    let shown = edge_shown v z kept source edge.life s.met in
    let linked = linked_later moment v.front edge.life source edge.target edge.key edge.weight
    (subst (λ (f : List Event). IsPrefix f v.front) s.position.at s.position.goes.grows) s.unmarked.linked in
    let same : shown.link ≡ linked.link = same_link (link_of v.front edge.life) shown.link linked.link shown.is
    linked.is in
    let key : key_of v.front edge.target ≡ Some edge.key = ap (key_of v.front) (sym linked.to
    ∙ ap (λ (e : Event). e.target) (sym same))
    ∙ (shown.target_key ∙ ap Some (ap (λ (e : Event). e.key) same ∙ linked.of_key)) in
    record { there = key_there v.sizes v.front kept edge.target edge.key key; linked = key }

-- an edge that was found unmarked and is marked now was changed by another caller
pub seen_changed : (v : View) (source : Life) (edge : Edge) (moment : List Event) → IsLayout v.sizes
    → IsKept v.sizes v.front → IsSeenEdge v source edge moment → edge_marked v.front edge.life ≡ true
    → IsChangedByAnother moment v.front v.number (link_at v.sizes edge.life.index)
seen_changed v source edge moment z kept s dead =
    let place = link_at v.sizes edge.life.index in
    let p : EdgePositionValue = record
    { source = source; key = edge.key; place = place; word = s.word; link = 0; moment = moment } in
    word_changed (IsOfSource source) (StandsOn true source edge.key) (edge_place_words true source edge.key) place
    s.word
    moment v z (as_edge_word true v p s.position)
    (λ same. differ (edge_marked v.front edge.life) dead
    (edge_live_shown v z kept source edge.life s.met (ap mark_of same ∙ s.position.unmarked)).1)
  where
    differ : (b : Bool) → b ≡ true → b ≡ false → ⊥
    differ b t f = absurd (cc)

-- a step that comes to a marked edge stays where it is
pub edge_dead_step : (v w : View) (p : EdgePositionValue) (passed : Bool) (found link : ℕ)
    → IsEdgeLoaded passed v w p found link → mark_of link ≡ 1 → IsEdgeDeadStep p v w (record p { link = link })
edge_dead_step v w p passed found link s dead =
    record {
      source = refl;
      key = refl;
      place = refl;
      word = refl;
      moment = refl;
      position = λ other h. edge_position_with other w p link (edge_position_makes other v w [] p tt tt s.makes h);
      dead = loaded_dead w p found link s.node dead;
    }

-- a position whose word leads to none, or to a greater key, is a gap, and the key was missing at its moment
lacks_edge : (w : View) (p : EdgePositionValue) → IsLayout w.sizes → IsEdgePosition false w p
    → (index_of p.word ≢ nowhere → p.key < key_in w (index_of p.word)) → LacksEdge p.source p.key p.moment
lacks_edge w p z h above = word_passes p.key (IsOfSource p.source) (IsBeforeOf p.source p.key)
    (LacksEdge p.source p.key) (edge_walks p.source p.key) p.place p.word p.moment w z (as_edge_word false w p h) above

until : (passed : Bool) (w : View) (p : EdgePositionValue) → IsEdgePosition passed w p → IsPrefix p.moment w.front
until passed w p h =
    word_until (StandsOn passed p.source p.key) p.place p.word p.moment w (as_edge_word passed w p h)

-- how the position of a walk stands to the one that it began with
pub record IsOnWalk (from p : EdgePositionValue) : Type 0 where
  pub source_is : p.source ≡ from.source
  pub key_is : p.key ≡ from.key
  pub since : IsPrefix from.moment p.moment

gone : (w : View) (from p : EdgePositionValue) → IsOnWalk from p → IsGapOfEdge w p → LacksEdge p.source p.key p.moment
    → IsEdgeGone from w p
gone w from p on g none = record {
  source = on.source_is;
  key = on.key_is;
  gap = g;
  there = record {
    since = on.since;
    until = until false w p g.position;
    holds = subst (λ (n : ℕ). LacksEdge from.source n p.moment) on.key_is
        (subst (λ (y : Life). LacksEdge y p.key p.moment) on.source_is none);
  };
}

-- the answers of a walk: the word leads to none
pub edge_gone_at_end : (w : View) (from p : EdgePositionValue) → IsOnWalk from p → IsLayout w.sizes
    → IsEdgePosition false w p → index_of p.word ≡ nowhere → IsEdgeGone from w p
edge_gone_at_end w from p on z h none = gone w from p on
    (record { position = h; behind = λ some. absurd (some none) }) (lacks_edge w p z h (λ some. absurd (some none)))

-- or to a greater key
pub edge_gone_before : (v w : View) (from p : EdgePositionValue) (found link : ℕ) → IsOnWalk from p → IsLayout w.sizes
    → IsEdgeLoaded false v w p found link → p.key < found → IsEdgeGone from w p
edge_gone_before v w from p found link on z s above =
    let a : p.key < key_in w (index_of p.word) = subst (λ (k : ℕ). p.key < k) (sym s.node.key_is) above in
    gone w from p on (record {
      position = s.position;
      behind = λ some. record {
        life = life_in w.sizes w.front (index_of p.word);
        is = refl;
        met = s.node.met.1;
        above = a;
      };
    })
    (lacks_edge w p z s.position (λ some. a))

-- or to a marked edge
pub edge_dead_end : (v w : View) (from p : EdgePositionValue) (found link : ℕ) → IsOnWalk from p
    → IsEdgeLoaded false v w p found link → mark_of link ≡ 1 → IsEdgeDead from w (record p { link = link })
edge_dead_end v w from p found link on s dead = record {
  source = on.source_is;
  key = on.key_is;
  since = on.since;
  position = edge_position_with false w p link s.position;
  dead = loaded_dead w p found link s.node dead;
}

-- or to the edge of the key, whose target and weight are loaded then
pub edge_here : (v u w : View) (from p : EdgePositionValue) (found link : ℕ) (s : EdgeSighting) → IsOnWalk from p
    → IsLayout u.sizes → IsKept u.sizes u.front → IsEdgeLoaded false v u p found link → mark_of link ≡ 0
    → found ≡ p.key → Makes u [] w → s.edge.life.index ≡ index_of p.word → s.edge.life.tag ≡ tag_of link
    → s.edge.key ≡ p.key → IsLinkOf u.front s.edge.life p.source s.edge.target s.edge.key s.edge.weight
    → s.moment.value.view.front ≡ u.front → IsEdgeHere from w s
edge_here v u w from p found link s on z kept loaded live is makes index_is tag_is key_is linked same =
    let seen_p : IsSeenEdge u p.source s.edge u.front = loaded_seen p.source u (index_of p.word) found link s.edge z
    kept loaded.node live index_is tag_is (key_is ∙ sym is) linked in
    let seen_u : IsSeenEdge u from.source s.edge u.front = subst
    (λ (y : Life). IsSeenEdge u y s.edge u.front) on.source_is seen_p in
    let seen : IsSeenEdge w from.source s.edge u.front = seen_makes u w [] from.source s.edge u.front z tt tt makes
    seen_u in
    let later = makes_later u w [] makes in
    record {
      key = key_is ∙ on.key_is;
      seen = subst (λ (f : List Event). IsSeenEdge w from.source s.edge f) (sym same) seen;
      there = subst (λ (f : List Event). HoldsBetween from.moment w.front (IsUnmarkedEdge from.source s.edge) f)
          (sym same)
          (record {
            since = prefix_trans from.moment p.moment u.front on.since (until false u p loaded.position);
            until = later.grows;
            holds = seen_u.unmarked;
          });
      target = has_target w from.source s.edge u.front (subst IsLayout (sym later.sizes) z) later.kept seen;
    }

-- the walk goes on behind a smaller key: its position is one still, and it has less to go
pub record IsEdgeNearer (w : View) (p q : EdgePositionValue) : Type 0 where
  pub position : IsEdgePosition false w q
  pub since : IsPrefix p.moment q.moment
  pub nearer : p.key + 1 - low_at w.sizes q.moment q.place < p.key + 1 - low_at w.sizes p.moment p.place

pub edge_nearer : (v w : View) (p : EdgePositionValue) (found link place : ℕ) (moment : List Event) → IsLayout v.sizes
    → IsLayout w.sizes → IsKept w.sizes w.front → IsEdgePosition false v p → index_of p.word ≢ nowhere
    → IsEdgeLoaded false v w p found link → mark_of link ≡ 0 → found < p.key
    → place ≡ link_at w.sizes (index_of p.word) → moment ≡ w.front
    → IsEdgeNearer w p (record {
      source = p.source;
      key = p.key;
      place = place;
      word = link;
      link = p.link;
      moment = moment;
    })
edge_nearer v w p found link place moment z z' kept h some s live below at same =
    let x = index_of p.word in
    let here = as_edge_word false w p s.position in
    let laws = edge_walks p.source p.key in
    let opened = word_opened (IsBeforeOf p.source p.key) p.place p.word p.moment w here in
    let next = node_passed p.key (IsOfSource p.source) (IsBeforeOf p.source p.key)
    (LacksEdge p.source p.key) laws w x found link kept opened s.node below live in
    let low = low_passed p.key (IsOfSource p.source) (IsBeforeOf p.source p.key) (LacksEdge p.source p.key) laws w x
    found link s.node in
    let rises : low_at w.sizes p.moment p.place ≤ found = subst
    (λ (k : ℕ). low_at w.sizes p.moment p.place ≤ k) s.node.key_is
    (word_rises p.key (IsOfSource p.source) (IsBeforeOf p.source p.key)
    (LacksEdge p.source p.key) laws p.place p.word p.moment w z' here some) in
    let made : IsEdgeNearer w p (record {
      source = p.source;
      key = p.key;
      place = link_at w.sizes x;
      word = link;
      link = p.link;
      moment = w.front;
    }) =
    record {
      position = as_edge_position false p.source p.key (link_at w.sizes x) link p.link w.front w next;
      since = until false w p s.position;
      nearer = less p.key (low_at w.sizes p.moment p.place)
          (low_at w.sizes w.front (link_at w.sizes x)) found low rises below;
    } in
    subst (λ (i : ℕ). IsEdgeNearer w p (record {
      source = p.source;
      key = p.key;
      place = i;
      word = link;
      link = p.link;
      moment = moment;
    })) (sym at)
    (subst (λ (f : List Event). IsEdgeNearer w p (record {
      source = p.source;
      key = p.key;
      place = link_at w.sizes x;
      word = link;
      link = p.link;
      moment = f;
    })) (sym same) made)
  where
    less : (k old new found : ℕ) → new ≡ found + 1 → old ≤ found → found < k → k + 1 - new < k + 1 - old
    less k old new found is rises below = omega arith

-- a step comes to an edge
edge_behind_rises : (v : View) (p : EdgePositionValue) → IsLayout v.sizes → index_of p.word ≢ nowhere
    → IsEdgePosition true v p → p.key < key_in v (index_of p.word)
edge_behind_rises v p z some h =
    let then = h.then in
    let x = h.stands.edge in
    let z' = subst IsLayout (goes_sizes then v h.goes) z in
    let word : word_at then.sizes then.front (link_at then.sizes x.index) ≡ p.word = ap (word_at then.sizes then.front)
    (sym h.stands.place_is) ∙ h.word in
    let kept = kept_before then v h.goes in
    let b = edge_link_leads then z' kept p.source x h.stands.met (λ none. some (ap index_of (sym word) ∙ none)) in
    let rising : p.key < key_in then (index_of p.word) = subst
    (λ (k : ℕ). k < key_in then (index_of p.word)) h.stands.key_is
    (subst (λ (i : ℕ). key_in then x.index < key_in then (index_of i)) word
    (b.strictly (ap mark_of word ∙ h.unmarked))) in
    subst (λ (k : ℕ). p.key < k) (sym (key_then (IsOfSource p.source) (StandsOn true p.source p.key)
    (edge_place_words true p.source p.key) p.place p.word p.moment v z (as_edge_word true v p h) some)) rising

pub edge_stepped : (v u w : View) (p q : EdgePositionValue) (passed : Bool) (edge : Edge) (found link : ℕ)
    → IsLayout v.sizes → IsLayout u.sizes → IsKept u.sizes u.front → IsEdgePosition passed v p
    → index_of p.word ≢ nowhere → IsEdgeLoaded passed v u p found link → mark_of link ≡ 0 → Makes u [] w
    → edge.life.index ≡ index_of p.word → edge.life.tag ≡ tag_of link → edge.key ≡ found
    → IsLinkOf u.front edge.life p.source edge.target edge.key edge.weight
    → q ≡ record {
      source = p.source;
      key = found;
      place = link_at w.sizes (index_of p.word);
      word = link;
      link = 0;
      moment = u.front;
    }
    → IsEdgeAt p v w edge q
edge_stepped v u w p q passed edge found link z z' kept h some s live makes index_is tag_is key_is linked is =
    let i = index_of p.word in
    let later = makes_later u w [] makes in
    let seen_u : IsSeenEdge u p.source edge u.front =
    loaded_seen p.source u i found link edge z' kept s.node live index_is tag_is key_is linked in
    let seen : IsSeenEdge w p.source edge u.front = seen_makes u w [] p.source edge u.front z' tt tt makes seen_u in
    let at : link_at u.sizes edge.life.index ≡ link_at w.sizes i = ap₂ link_at (sym later.sizes) index_is in
    let position : IsEdgePosition true w (record {
      source = p.source;
      key = found;
      place = link_at w.sizes i;
      word = link;
      link = 0;
      moment = u.front;
    }) = subst (λ (n : ℕ). IsEdgePosition true w (record {
      source = p.source;
      key = n;
      place = link_at w.sizes i;
      word = link;
      link = 0;
      moment = u.front;
    })) key_is (subst (λ (n : ℕ). IsEdgePosition true w (record {
      source = p.source;
      key = edge.key;
      place = n;
      word = link;
      link = 0;
      moment = u.front;
    })) at (edge_position_makes true u w [] _ tt tt makes
    (seen_place p.source u i found link edge z' kept s.node live index_is tag_is key_is))) in
    let made : IsEdgeAt p v w edge (record {
      source = p.source;
      key = found;
      place = link_at w.sizes i;
      word = link;
      link = 0;
      moment = u.front;
    }) = record {
      leads = sym index_is;
      source = refl;
      key = sym key_is;
      place = ap (link_at w.sizes) (sym index_is);
      position = position;
      seen = seen;
      there = record {
        since = until passed u p s.position;
        until = later.grows;
        holds = seen_u.unmarked;
      };
      target = has_target w p.source edge u.front (subst IsLayout (sym later.sizes) z') later.kept seen;
      rises = λ a. rise a;
    } in
    subst (λ (r : EdgePositionValue). IsEdgeAt p v w edge r) (sym is) made
  where
    rise : IsEdgePosition true v p → p.key < edge.key
    rise a = subst (λ (k : ℕ). p.key < k) (s.node.key_is ∙ sym key_is)
        (edge_behind_rises u p z' some (edge_position_makes true v u [] p tt tt s.makes a))
