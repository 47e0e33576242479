-- Positions on a source's list as loaded words: a walk's word stands before its key, and a step's anywhere on the list.
use Rattle.std.proofs.Common.{◌≡◌, ◌≢◌, ℕ, ◌+◌, ◌<◌, Bool, true, false, List, inl, inr, sym, ap, ◌∙◌, subst}
use Rattle.std.proofs.Common.{arith, ⊎_elim, Option, Some}
use Rattle.graph_kinds.specs.History.{Every}
use Rattle.packed_link.specs.Link.{index_of, mark_of, nowhere}
use Rattle.packed_link.specs.Layout.{Sizes, IsLayout, bucket_at, free_at, key_at, link_at, second_at, third_at}
use Rattle.packed_link.specs.declared.link.Life.{Life}
use Rattle.core_journal.specs.declared.event.Event.{Event}
use Rattle.core_journal.specs.Life.{link_of}
use Rattle.core_journal.specs.Machine.{word_at}
use Rattle.core_journal.specs.Prefix.{IsPrefix}
use Rattle.core_journal.specs.State.{Fresh}
use Rattle.core_journal.proofs.KeptLives.{link_more}
use Rattle.core_kept.specs.Facts.{HasMet, IsLinkOf}
use Rattle.core_kept.specs.Kept.{IsKept}
use Rattle.core_kept.specs.Nodes.{node_in}
use Rattle.core_rule.specs.Fronts.{IsEdgeBelow, IsEdgeLink, IsVertexLink, LeadsToEdge, LeadsToVertex, MetEdge}
use Rattle.core_rule.specs.Fronts.{MetVertex}
use Rattle.core_rule.specs.Stretches.{Own, Elsewhere, HasPass}
use Rattle.core_rule.specs.Views.{GoesOn}
use Rattle.core_rule.specs.declared.view.View.{View}
use Rattle.core_rule.proofs.ViewShows.{before_edge_still, dead_still, edge_above_still, edge_still, key_still}
use Rattle.core_rule.proofs.ViewShows.{vertex_still}
use Rattle.core_stretches.specs.Holdings.{IsHeldFresh}
use Rattle.core_stretches.specs.Makes.{Makes, StaysInPass}
use Rattle.core_stretches.specs.LoadedWords.{IsLoadedWord}
use Rattle.core_stretches.proofs.EdgeWords.{IsOfSource, edge_life_still, edge_link_leads, edge_words}
use Rattle.core_stretches.proofs.MakesTell.{makes_goes, makes_later, makes_own}
use Rattle.core_stretches.proofs.WordsLeadOn.{WordLaws, IsCountedWord, goes_sizes, word_goes}
use Rattle.edge_list.specs.EdgePositions.{EdgePositionValue, IsBehindEdge, IsEdgePosition, IsGapOfEdge, IsPlaceOn}
use Rattle.edge_list.specs.EdgePositions.{IsSeenEdge, LeadsToDeadEdge}
use Rattle.edge_list.specs.declared.edge.Edge.{Edge}

-- where the word of a position stands, on the list of a source that was met
abbrev pub StandsOn : Bool → Life → ℕ → View → ℕ → Type 0
StandsOn passed source key v place = MetVertex v source × IsPlaceOn passed v source key place

abbrev pub as_edge_word : (passed : Bool) (v : View) (p : EdgePositionValue) → IsEdgePosition passed v p
    → IsLoadedWord (StandsOn passed p.source p.key) p.place p.word p.moment v
as_edge_word passed v p h = record {
  then = h.then;
  at = h.at;
  goes = h.goes;
  own = h.own;
  pass = h.pass;
  stands = (h.from, h.stands);
  word = h.word;
  unmarked = h.unmarked;
}

pub as_edge_position : (passed : Bool) (source : Life) (key place word link : ℕ) (moment : List Event) (v : View)
    → IsLoadedWord (StandsOn passed source key) place word moment v
    → IsEdgePosition passed v
    (record { source = source; key = key; place = place; word = word; link = link; moment = moment })
as_edge_position passed source key place word link moment v h =
    record {
      then = h.then;
      at = h.at;
      goes = h.goes;
      own = h.own;
      pass = h.pass;
      from = h.stands.0;
      stands = h.stands.1;
      word = h.word;
      unmarked = h.unmarked;
    }

-- a token with a number has it still
pub still_numbered : (v w : View) (own : List Event) → Makes v own w → v.numbered ≡ true → w.numbered ≡ true
still_numbered v w own h has = (makes_later v w own h).numbered ∙ has

-- what linked an edge linked it in each later journal
pub linked_later : (front journal : List Event) (x source target : Life) (key weight : ℕ) → IsPrefix front journal
    → IsLinkOf front x source target key weight → IsLinkOf journal x source target key weight
linked_later front journal x source target key weight p h = record {
  link = h.link;
  is = subst (λ (j : List Event). link_of j x ≡ Some h.link) p.whole (link_more front p.rest x h.link h.is);
  from = h.from;
  to = h.to;
  of_key = h.of_key;
  of_weight = h.of_weight;
}

pub same_link : (o : Option Event) (a b : Event) → o ≡ Some a → o ≡ Some b → a ≡ b
same_link o a b p q = cc

-- the laws of both kinds of places
behind_still : (source : Life) (key : ℕ) (v w : View) → IsLayout v.sizes → GoesOn v w → (place : ℕ)
    → IsBehindEdge v source key place → IsBehindEdge w source key place
behind_still source key v w z g place h = record {
  edge = h.edge;
  met = edge_still v w z g source h.edge h.met;
  place_is = h.place_is ∙ ap (λ (s : Sizes). link_at s h.edge.index) (sym (goes_sizes v w g));
  key_is = key_still v w z g h.edge.index h.met.life.there h.met.met ∙ h.key_is;
}

pub stands_still : (passed : Bool) (source : Life) (key : ℕ) (v w : View) → IsLayout v.sizes → GoesOn v w
    → (place : ℕ) → StandsOn passed source key v place → StandsOn passed source key w place
stands_still false source key v w z g place h =
    (vertex_still v w z g source h.0, before_edge_still v w z g source key place h.1)
stands_still true source key v w z g place h =
    (vertex_still v w z g source h.0, behind_still source key v w z g place h.1)

stands_counted : (passed : Bool) (source : Life) (key : ℕ) (v : View) → IsLayout v.sizes → (place : ℕ)
    → StandsOn passed source key v place → IsCountedWord v place
stands_counted false source key v z place h = (edge_words source key).counted v z place h
stands_counted true source key v z place h =
    inr (h.1.edge.index, 1, omega arith, h.1.met.met, h.1.place_is ∙ omega arith)

stands_leads : (passed : Bool) (source : Life) (key : ℕ) (v : View) → IsLayout v.sizes → IsKept v.sizes v.front
    → HasPass v → (place : ℕ) → StandsOn passed source key v place
    → index_of (word_at v.sizes v.front place) ≢ nowhere
    → IsOfSource source v (index_of (word_at v.sizes v.front place))
stands_leads false source key v z kept opened place h some = (edge_words source key).leads v z kept opened place h some
stands_leads true source key v z kept opened place h some =
    subst (λ (i : ℕ). IsOfSource source v (index_of (word_at v.sizes v.front i))) (sym h.1.place_is) (
      h.0,
      (edge_link_leads v z kept source h.1.edge h.1.met (λ none. some
          (ap (λ (i : ℕ). index_of (word_at v.sizes v.front i)) h.1.place_is ∙ none))).met,
    )

pub edge_place_words : (passed : Bool) (source : Life) (key : ℕ)
    → WordLaws (IsOfSource source) (StandsOn passed source key)
edge_place_words passed source key = record {
  there = λ v x h. h.1.life.there;
  has = λ v x h. h.1.met;
  still = λ v w z g x h. (vertex_still v w z g source h.0, edge_life_still source v w z g x h.1);
  stands = stands_still passed source key;
  counted = stands_counted passed source key;
  leads = stands_leads passed source key;
}

-- a place of either kind is that of a word which leads to edges of the source
pub stands_leads_on : (passed : Bool) (source : Life) (key : ℕ) (v : View) → (place : ℕ)
    → StandsOn passed source key v place → LeadsToEdge v source place
stands_leads_on false source key v place h = ⊎_elim
    (λ (b : place ≡ second_at v.sizes source.index). inl b)
    (λ (b : (x : Life) × IsEdgeBelow v source key place x). inr
    (b.0, record { met = b.1.met; place_is = b.1.place_is }))
    h.1
stands_leads_on true source key v place h = inr (h.1.edge, record { met = h.1.met; place_is = h.1.place_is })

-- a position goes on with its token, and so does a gap
pub edge_position_goes : (passed : Bool) (v w : View) (p : EdgePositionValue) → GoesOn v w
    → Own (Elsewhere p.place) v w → IsEdgePosition passed v p → IsEdgePosition passed w p
edge_position_goes passed v w p g o h = as_edge_position passed p.source p.key p.place p.word p.link p.moment w
    (word_goes (StandsOn passed p.source p.key) p.place p.word p.moment v w g o (as_edge_word passed v p h))

pub edge_gap_goes : (v w : View) (p : EdgePositionValue) → IsLayout v.sizes → GoesOn v w → Own (Elsewhere p.place) v w
    → IsGapOfEdge v p → IsGapOfEdge w p
edge_gap_goes v w p z g o h = record {
  position = edge_position_goes false v w p g o h.position;
  behind = λ some. edge_above_still v w z g p.source p.key (index_of p.word) (h.behind some);
}

pub dead_edge_goes : (v w : View) (p : EdgePositionValue) → IsLayout v.sizes → GoesOn v w → LeadsToDeadEdge v p
    → LeadsToDeadEdge w p
dead_edge_goes v w p z g d = record {
  edge = d.edge;
  leads = d.leads;
  met = edge_still v w z g p.source d.edge d.met;
  link_is = d.link_is ∙ sym (dead_still v w z g d.edge.index d.met.life.there d.met.met d.dead);
  dead = ap mark_of (dead_still v w z g d.edge.index d.met.life.there d.met.met d.dead) ∙ d.dead;
}

-- a position stays one whatever link it keeps
pub edge_position_with : (passed : Bool) (v : View) (p : EdgePositionValue) (link : ℕ) → IsEdgePosition passed v p
    → IsEdgePosition passed v (record p { link = link })
edge_position_with passed v p link h =
    as_edge_position passed p.source p.key p.place p.word link p.moment v (as_edge_word passed v p h)

pub edge_position_makes : (passed : Bool) (v w : View) (own : List Event) (p : EdgePositionValue)
    → Every StaysInPass own → Every (λ (e : Event). e.place ≢ p.place) own → Makes v own w → IsEdgePosition passed v p
    → IsEdgePosition passed w p
edge_position_makes passed v w own p stays apart h = edge_position_goes passed v w p (makes_goes v w own stays h)
    (makes_own (λ (e : Event). e.place ≢ p.place) v w own apart h)

pub edge_gap_makes : (v w : View) (own : List Event) (p : EdgePositionValue) → IsLayout v.sizes
    → Every StaysInPass own → Every (λ (e : Event). e.place ≢ p.place) own → Makes v own w → IsGapOfEdge v p
    → IsGapOfEdge w p
edge_gap_makes v w own p z stays apart h = edge_gap_goes v w p z (makes_goes v w own stays h)
    (makes_own (λ (e : Event). e.place ≢ p.place) v w own apart h)

pub dead_edge_makes : (v w : View) (own : List Event) (p : EdgePositionValue) → IsLayout v.sizes
    → Every StaysInPass own → Makes v own w → LeadsToDeadEdge v p → LeadsToDeadEdge w p
dead_edge_makes v w own p z stays h = dead_edge_goes v w p z (makes_goes v w own stays h)

-- the source of a position was met, and its place is that of a word which leads to edges of it
pub stands_now : (passed : Bool) (v : View) (p : EdgePositionValue) → IsLayout v.sizes → IsEdgePosition passed v p
    → StandsOn passed p.source p.key v p.place
stands_now passed v p z h = stands_still passed p.source p.key h.then v
    (subst IsLayout (goes_sizes h.then v h.goes) z) h.goes p.place (h.from, h.stands)

pub edge_position_from : (passed : Bool) (v : View) (p : EdgePositionValue) → IsLayout v.sizes
    → IsEdgePosition passed v p → MetVertex v p.source
edge_position_from passed v p z h = (stands_now passed v p z h).0

pub edge_position_leads : (passed : Bool) (v : View) (p : EdgePositionValue) → IsLayout v.sizes
    → IsEdgePosition passed v p → LeadsToEdge v p.source p.place
edge_position_leads passed v p z h = stands_leads_on passed p.source p.key v p.place (stands_now passed v p z h)

-- no word of a fresh node is the place of a position, so filling it leaves the position
pub edge_place_apart : (passed : Bool) (v : View) (p : EdgePositionValue) (x : Life) (field : ℕ) → IsLayout v.sizes
    → field < 4 → IsHeldFresh v x → IsEdgePosition passed v p → key_at v.sizes x.index + field ≢ p.place
edge_place_apart passed v p x field z low f h same = ⊎_elim
    (λ (b : (j : ℕ) × (j < v.sizes.buckets) × (p.place ≡ bucket_at v.sizes j)). let small = b.1 in absurd
    (omega (arith, small, b.2, same)))
    (λ (b : (y : ℕ) × (other : ℕ) × (other < 4) × HasMet v.sizes v.front v.number y ×
    (p.place ≡ key_at v.sizes y + other)).
    let small = b.2 in
    let is : x.index ≡ b.0 = omega (arith, low, small, b.4, same) in
    b.3.fresh (subst (λ (i : ℕ). (node_in v.sizes v.front i).mode ≡ Fresh) is f.fresh.fresh))
    (stands_counted passed p.source p.key v z p.place (stands_now passed v p z h))

-- nor the word of the free list, so taking a node leaves it
pub edge_place_not_free : (passed : Bool) (v : View) (p : EdgePositionValue) → IsLayout v.sizes
    → IsEdgePosition passed v p → free_at v.sizes ≢ p.place
edge_place_not_free passed v p z h same = ⊎_elim
    (λ (b : p.place ≡ second_at v.sizes p.source.index). absurd (omega (arith, b, same)))
    (λ (b : (y : Life) × IsEdgeLink v p.source p.place y). let at = b.1.place_is in absurd (omega (arith, at, same)))
    (edge_position_leads passed v p z h)

-- nor a third word, so raising a counter leaves it
pub edge_place_not_third : (passed : Bool) (v : View) (p : EdgePositionValue) (x : ℕ) → IsLayout v.sizes
    → IsEdgePosition passed v p → third_at v.sizes x ≢ p.place
edge_place_not_third passed v p x z h same = ⊎_elim
    (λ (b : p.place ≡ second_at v.sizes p.source.index). absurd (omega (arith, b, same)))
    (λ (b : (y : Life) × IsEdgeLink v p.source p.place y). let at = b.1.place_is in absurd (omega (arith, at, same)))
    (edge_position_leads passed v p z h)

-- nor a word that leads to vertices, so changing a bucket's list leaves it
pub edge_place_not_vertex : (passed : Bool) (v : View) (p : EdgePositionValue) (place : ℕ) → IsLayout v.sizes
    → IsEdgePosition passed v p → LeadsToVertex v place → place ≢ p.place
edge_place_not_vertex passed v p place z h l same = ⊎_elim
    (λ (b : (j : ℕ) × (j < v.sizes.buckets) × (place ≡ bucket_at v.sizes j)). let small = b.1 in let at = b.2 in
    ⊎_elim
    (λ (c : p.place ≡ second_at v.sizes p.source.index). absurd (omega (arith, small, at, c, same)))
    (λ (c : (y : Life) × IsEdgeLink v p.source p.place y). let to = c.1.place_is in absurd
    (omega (arith, small, at, to, same)))
    (edge_position_leads passed v p z h))
    (λ (b : (x : Life) × IsVertexLink v place x). let at = b.1.place_is in ⊎_elim
    (λ (c : p.place ≡ second_at v.sizes p.source.index). absurd (omega (arith, at, c, same)))
    (λ (c : (y : Life) × IsEdgeLink v p.source p.place y).
    let to = c.1.place_is in
    let is : b.0.index ≡ c.0.index = omega (arith, at, to, same) in
    differ (node_in v.sizes v.front b.0.index).vertex b.1.met.vertex
    (ap (λ (i : ℕ). (node_in v.sizes v.front i).vertex) is ∙ c.1.met.edge))
    (edge_position_leads passed v p z h))
    l
  where
    differ : (b : Bool) → b ≡ true → b ≡ false → ⊥
    differ b t f = absurd (cc)

-- nor a link of another source's list, so freezing that leaves it
pub edge_place_not_other : (passed : Bool) (v : View) (p : EdgePositionValue) (source x : Life) → IsLayout v.sizes
    → IsEdgePosition passed v p → MetEdge v source x → source ≢ p.source → link_at v.sizes x.index ≢ p.place
edge_place_not_other passed v p source x z h m other same = ⊎_elim
    (λ (c : p.place ≡ second_at v.sizes p.source.index). absurd (omega (arith, c, same)))
    (λ (c : (y : Life) × IsEdgeLink v p.source p.place y).
    let to = c.1.place_is in
    let is : x.index ≡ c.0.index = omega (arith, to, same) in
    other (sym m.from ∙ (ap (λ (i : ℕ). (node_in v.sizes v.front i).source) is ∙ c.1.met.from)))
    (edge_position_leads passed v p z h)

-- an edge that was found unmarked is one still, where each own event stays in the pass and stands elsewhere
pub seen_goes : (v w : View) (source : Life) (edge : Edge) (moment : List Event) → IsLayout v.sizes → GoesOn v w
    → Own (Elsewhere (link_at v.sizes edge.life.index)) v w → IsSeenEdge v source edge moment
    → IsSeenEdge w source edge moment
seen_goes v w source edge moment z g o h =
    let place = link_at v.sizes edge.life.index in
    let p : EdgePositionValue = record
    { source = source; key = edge.key; place = place; word = h.word; link = 0; moment = moment } in
    record {
      met = edge_still v w z g source edge.life h.met;
      unmarked = h.unmarked;
      word = h.word;
      position = subst (λ (s : Sizes). IsEdgePosition true w (record {
        source = source;
        key = edge.key;
        place = link_at s edge.life.index;
        word = h.word;
        link = 0;
        moment = moment;
      })) (sym (goes_sizes v w g)) (edge_position_goes true v w p g o h.position);
    }

pub seen_makes : (v w : View) (own : List Event) (source : Life) (edge : Edge) (moment : List Event) → IsLayout v.sizes
    → Every StaysInPass own → Every (λ (e : Event). e.place ≢ link_at v.sizes edge.life.index) own → Makes v own w
    → IsSeenEdge v source edge moment → IsSeenEdge w source edge moment
seen_makes v w own source edge moment z stays apart h s = seen_goes v w source edge moment z
    (makes_goes v w own stays h)
    (makes_own (λ (e : Event). e.place ≢ link_at v.sizes edge.life.index) v w own apart h) s

-- nor the second word of another vertex, so closing another list leaves it
pub edge_place_not_head : (passed : Bool) (v : View) (p : EdgePositionValue) (x : ℕ) → IsLayout v.sizes
    → IsEdgePosition passed v p → x ≢ p.source.index → second_at v.sizes x ≢ p.place
edge_place_not_head passed v p x z h other same = ⊎_elim
    (λ (b : p.place ≡ second_at v.sizes p.source.index). other (omega (arith, b, same)))
    (λ (b : (y : Life) × IsEdgeLink v p.source p.place y). let at = b.1.place_is in absurd (omega (arith, at, same)))
    (edge_position_leads passed v p z h)
