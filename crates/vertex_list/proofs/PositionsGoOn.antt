-- Positions as loaded words: a walk's word stands before its key, and a step's anywhere on the list.
use Rattle.std.proofs.Common.{◌≡◌, ◌≢◌, ℕ, ◌+◌, ◌%◌, ◌<◌, Bool, true, false, List, [], inl, inr, sym, ap, ◌∙◌, subst}
use Rattle.std.proofs.Common.{arith, ⊎_elim}
use Rattle.graph_kinds.specs.History.{Every}
use Rattle.packed_link.specs.Link.{index_of, mark_of, nowhere}
use Rattle.packed_link.specs.Layout.{Sizes, IsLayout, bucket_at, key_at, link_at}
use Rattle.packed_link.specs.declared.link.Life.{Life}
use Rattle.core_journal.specs.declared.event.Event.{Event}
use Rattle.core_journal.specs.Machine.{word_at}
use Rattle.core_kept.specs.Kept.{IsKept}
use Rattle.core_kept.proofs.BucketWords.{bucket_unmarked}
use Rattle.core_journal.specs.State.{Fresh}
use Rattle.core_kept.specs.Facts.{HasMet}
use Rattle.core_kept.specs.Nodes.{node_in}
use Rattle.core_lists.specs.Chains.{life_in}
use Rattle.core_rule.specs.Fronts.{IsVertexBelow, LeadsToVertex, MetVertex}
use Rattle.core_rule.specs.Plays.{IsSound, Looked}
use Rattle.core_rule.specs.Stretches.{Own, Elsewhere, HasPass}
use Rattle.core_rule.specs.Views.{GoesOn}
use Rattle.core_rule.specs.declared.view.View.{View}
use Rattle.core_rule.proofs.OwnStretch.{goes_opened}
use Rattle.core_rule.proofs.ViewShows.{above_still, before_vertex_still, dead_still, key_still, vertex_still}
use Rattle.core_stretches.specs.Holdings.{IsHeldFresh}
use Rattle.core_stretches.specs.Makes.{Makes, StaysInPass}
use Rattle.core_stretches.specs.LoadedWords.{IsLoadedWord}
use Rattle.core_stretches.proofs.MakesAddUp.{makes_look}
use Rattle.core_stretches.proofs.MakesTell.{makes_goes, makes_later, makes_own}
use Rattle.core_stretches.proofs.VertexWords.{vertex_words, vertex_life_still, link_leads}
use Rattle.core_stretches.proofs.WordsLeadOn.{WordLaws, IsCountedWord, goes_sizes, word_goes, word_here}
use Rattle.vertex_list.specs.Positions.{PositionValue, IsBehindVertex, IsGap, IsPosition, LeadsToDead, IsPlaceFor}

-- a vertex that was met
abbrev pub IsVertexAt : View → ℕ → Type 0
IsVertexAt v x = MetVertex v (life_in v.sizes v.front x)

-- where the word of a position stands
abbrev pub IsPlaceOf : Bool → ℕ → View → ℕ → Type 0
IsPlaceOf passed key v place = IsPlaceFor passed v key place

abbrev pub as_word : (passed : Bool) (v : View) (p : PositionValue) → IsPosition passed v p
    → IsLoadedWord (IsPlaceOf passed p.key) p.place p.word p.moment v
as_word passed v p h = record {
  then = h.then;
  at = h.at;
  goes = h.goes;
  own = h.own;
  pass = h.pass;
  stands =
      h.stands;
  word = h.word;
  unmarked = h.unmarked;
}

pub as_position : (passed : Bool) (key place word link : ℕ) (moment : List Event) (v : View)
    → IsLoadedWord (IsPlaceOf passed key) place word moment v
    → IsPosition passed v (record { key = key; place = place; word = word; link = link; moment = moment })
as_position passed key place word link moment v h =
    record {
      then = h.then;
      at = h.at;
      goes = h.goes;
      own = h.own;
      pass = h.pass;
      stands = h.stands;
      word =
          h.word;
      unmarked = h.unmarked;
    }

-- a token with a number has it still
pub is_numbered : (v w : View) (own : List Event) → Makes v own w → v.numbered ≡ true → w.numbered ≡ true
is_numbered v w own h has = (makes_later v w own h).numbered ∙ has

-- the laws of both kinds of places
behind_still : (key : ℕ) (v w : View) → IsLayout v.sizes → GoesOn v w → (place : ℕ) → IsBehindVertex v key place
    → IsBehindVertex w key place
behind_still key v w z g place h = record {
  vertex = h.vertex;
  met = vertex_still v w z g h.vertex h.met;
  place_is = h.place_is ∙ ap (λ (s : Sizes). link_at s h.vertex.index) (sym (goes_sizes v w g));
  key_is = key_still v w z g h.vertex.index h.met.life.there h.met.met ∙ h.key_is;
}

pub place_still : (passed : Bool) (key : ℕ) (v w : View) → IsLayout v.sizes → GoesOn v w → (place : ℕ)
    → IsPlaceOf passed key v place → IsPlaceOf passed key w place
place_still false key v w z g place h = before_vertex_still v w z g key place h
place_still true key v w z g place h = behind_still key v w z g place h

place_counted : (passed : Bool) (key : ℕ) (v : View) → IsLayout v.sizes → (place : ℕ) → IsPlaceOf passed key v place
    → IsCountedWord v place
place_counted false key v z place h = (vertex_words key).counted v z place h
place_counted true key v z place h = inr (h.vertex.index, 1, omega arith, h.met.met, h.place_is ∙ omega arith)

place_leads : (passed : Bool) (key : ℕ) (v : View) → IsLayout v.sizes → IsKept v.sizes v.front → HasPass v → (place : ℕ)
    → IsPlaceOf passed key v place → index_of (word_at v.sizes v.front place) ≢ nowhere
    → IsVertexAt v (index_of (word_at v.sizes v.front place))
place_leads false key v z kept opened place h some = ((vertex_words key).leads v z kept opened place h some).met
place_leads true key v z kept opened place h some =
    subst (λ (i : ℕ). IsVertexAt v (index_of (word_at v.sizes v.front i))) (sym h.place_is)
    (link_leads v z kept h.vertex h.met (λ none. some
    (ap (λ (i : ℕ). index_of (word_at v.sizes v.front i)) h.place_is ∙ none))).met

pub position_words : (passed : Bool) (key : ℕ) → WordLaws IsVertexAt (IsPlaceOf passed key)
position_words passed key = record {
  there = λ v x h. h.life.there;
  has = λ v x h. h.met;
  still = vertex_life_still;
  stands = place_still passed key;
  counted = place_counted passed key;
  leads = place_leads passed key;
}

-- a place of either kind is that of a word which leads to vertices
pub place_leads_on : (passed : Bool) (key : ℕ) (v : View) → IsLayout v.sizes → (place : ℕ)
    → IsPlaceOf passed key v place → LeadsToVertex v place
place_leads_on false key v z place before = ⊎_elim
    (λ (b : place ≡ bucket_at v.sizes (key % v.sizes.buckets)). inl
    (key % v.sizes.buckets, omega (arith, z.some_buckets), b))
    (λ (b : (x : Life) × IsVertexBelow v key place x). inr (b.0, record { met = b.1.met; place_is = b.1.place_is }))
    before
place_leads_on true key v z place h = inr (h.vertex, record { met = h.met; place_is = h.place_is })

-- a position goes on with its token, and so does a gap
pub position_goes : (passed : Bool) (v w : View) (p : PositionValue) → GoesOn v w → Own (Elsewhere p.place) v w
    → IsPosition passed v p → IsPosition passed w p
position_goes passed v w p g o h = as_position passed p.key p.place p.word p.link p.moment w
    (word_goes (IsPlaceOf passed p.key) p.place p.word p.moment v w g o (as_word passed v p h))

pub gap_goes : (v w : View) (p : PositionValue) → IsLayout v.sizes → GoesOn v w → Own (Elsewhere p.place) v w
    → IsGap v p → IsGap w p
gap_goes v w p z g o h = record {
  position = position_goes false v w p g o h.position;
  behind =
      λ some. above_still v w z g p.key (index_of p.word) (h.behind some);
}

pub dead_goes : (v w : View) (p : PositionValue) → IsLayout v.sizes → GoesOn v w → LeadsToDead v p → LeadsToDead w p
dead_goes v w p z g d = record {
  vertex = d.vertex;
  leads = d.leads;
  met = vertex_still v w z g d.vertex d.met;
  link_is = d.link_is ∙ sym (dead_still v w z g d.vertex.index d.met.life.there d.met.met d.dead);
  dead = ap mark_of (dead_still v w z g d.vertex.index d.met.life.there d.met.met d.dead) ∙ d.dead;
}

-- a position stays one whatever link it keeps
pub position_with : (passed : Bool) (v : View) (p : PositionValue) (link : ℕ) → IsPosition passed v p
    → IsPosition passed v (record p { link = link })
position_with passed v p link h = as_position passed p.key p.place p.word link p.moment v (as_word passed v p h)

pub position_makes : (passed : Bool) (v w : View) (own : List Event) (p : PositionValue) → Every StaysInPass own
    → Every (λ (e : Event). e.place ≢ p.place) own → Makes v own w → IsPosition passed v p → IsPosition passed w p
position_makes passed v w own p stays apart h = position_goes passed v w p (makes_goes v w own stays h)
    (makes_own (λ (e : Event). e.place ≢ p.place) v w own apart h)

pub gap_makes : (v w : View) (own : List Event) (p : PositionValue) → IsLayout v.sizes → Every StaysInPass own
    → Every (λ (e : Event). e.place ≢ p.place) own → Makes v own w → IsGap v p → IsGap w p
gap_makes v w own p z stays apart h = gap_goes v w p z (makes_goes v w own stays h)
    (makes_own (λ (e : Event). e.place ≢ p.place) v w own apart h)

pub dead_makes : (v w : View) (own : List Event) (p : PositionValue) → IsLayout v.sizes → Every StaysInPass own
    → Makes v own w → LeadsToDead v p → LeadsToDead w p
dead_makes v w own p z stays h = dead_goes v w p z (makes_goes v w own stays h)

-- the place of a position is that of a word which leads to vertices, a bucket's or the link of a vertex that was met
pub position_leads : (passed : Bool) (v : View) (p : PositionValue) → IsLayout v.sizes → IsPosition passed v p
    → LeadsToVertex v p.place
position_leads passed v p z h = place_leads_on passed p.key v z p.place
    (place_still passed p.key h.then v (subst IsLayout (goes_sizes h.then v h.goes) z) h.goes p.place h.stands)

-- no word of a fresh node is the place of a position, so filling it leaves the position
pub place_apart : (passed : Bool) (v : View) (p : PositionValue) (x : Life) (field : ℕ) → IsLayout v.sizes → field < 4
    → IsHeldFresh v x → IsPosition passed v p → key_at v.sizes x.index + field ≢ p.place
place_apart passed v p x field z low f h same = ⊎_elim
    (λ (b : (j : ℕ) × (j < v.sizes.buckets) × (p.place ≡ bucket_at v.sizes j)). let small = b.1 in absurd
    (omega (arith, small, b.2, same)))
    (λ (b : (y : ℕ) × (other : ℕ) × (other < 4) × HasMet v.sizes v.front v.number y ×
    (p.place ≡ key_at v.sizes y + other)).
    let small = b.2 in
    let is : x.index ≡ b.0 = omega (arith, low, small, b.4, same) in
    b.3.fresh (subst (λ (i : ℕ). (node_in v.sizes v.front i).mode ≡ Fresh) is f.fresh.fresh))
    (place_counted passed p.key v z p.place
    (place_still passed p.key h.then v (subst IsLayout (goes_sizes h.then v h.goes) z) h.goes p.place h.stands))

-- the position at the word of a bucket
pub started : (v w : View) (key at found : ℕ) → IsLayout w.sizes → v.numbered ≡ true → IsSound v → HasPass v
    → Looked v at found w → at ≡ bucket_at w.sizes (key % w.sizes.buckets)
    → IsPosition false w (record { key = key; place = at; word = found; link = 0; moment = w.front })
started v w key at found z has s opened l at_is =
    let g = makes_goes v w [] tt (makes_look v w at found has s l) in
    let low : key % w.sizes.buckets < w.sizes.buckets = omega (arith, z.some_buckets) in
    let found_is : word_at w.sizes w.front at ≡ found = ap (λ (y : Sizes). word_at y w.front at) (goes_sizes v w g)
    ∙ sym l.word in
    as_position false key at found 0 w.front w
    (word_here (IsPlaceOf false key) at found w l.sound.kept (goes_opened v w g opened) (inl at_is) found_is
    (ap mark_of (sym found_is ∙ ap (word_at w.sizes w.front) at_is)
    ∙ bucket_unmarked w.sizes z w.front l.sound.kept (key % w.sizes.buckets) low))
