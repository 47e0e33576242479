-- What a walk and a step tell, by the loads of the key and the link of the vertex to which their position leads.
use Rattle.std.proofs.Common.{◌≡◌, ◌≢◌, ℕ, ◌+◌, ◌-◌, ◌<◌, ◌≤◌, ◌^◌, Bool, true, false, List, [], Some, refl, sym, ap}
use Rattle.std.proofs.Common.{ap₂, ◌∙◌, subst, arith}
use Rattle.packed_link.specs.Link.{index_of, mark_of, tag_of, nowhere}
use Rattle.packed_link.specs.Layout.{Sizes, IsLayout, key_at, link_at}
use Rattle.packed_link.specs.declared.link.Life.{Life}
use Rattle.core_journal.specs.declared.event.Event.{Event}
use Rattle.core_journal.specs.GraphOf.{present_key}
use Rattle.core_journal.specs.Machine.{word_at}
use Rattle.core_journal.specs.Prefix.{IsPrefix}
use Rattle.core_journal.proofs.Lists.{prefix_refl, prefix_trans}
use Rattle.core_kept.specs.Kept.{IsKept}
use Rattle.core_kept.proofs.Contents.{contents}
use Rattle.core_kept.proofs.MetWords.{met_used}
use Rattle.core_lists.specs.Chains.{life_in}
use Rattle.core_rule.specs.Fronts.{MetVertex, key_in}
use Rattle.core_rule.specs.Plays.{IsSound, Looked}
use Rattle.core_rule.specs.declared.view.View.{View}
use Rattle.core_rule.proofs.ViewShows.{life_shown, present_shown}
use Rattle.core_stretches.specs.LoadedWords.{IsLoadedNode}
use Rattle.core_stretches.specs.Makes.{Makes}
use Rattle.core_stretches.specs.Moments.{Has, Lacks, HoldsBetween}
use Rattle.core_stretches.proofs.MakesAddUp.{makes_look}
use Rattle.core_stretches.proofs.MakesTell.{makes_goes}
use Rattle.core_stretches.proofs.VertexWords.{IsInBucketOf, IsBefore, vertex_walks, vertex_words, link_leads}
use Rattle.core_stretches.proofs.WordsLeadOn.{goes_sizes, kept_before, key_then, loads_make, low_at, low_passed}
use Rattle.core_stretches.proofs.WordsLeadOn.{node_loaded, node_passed, word_here, word_leads, word_looks, word_opened}
use Rattle.core_stretches.proofs.WordsLeadOn.{word_passes, word_rises, word_until}
use Rattle.graph_table.specs.Tokens.{TableValue, TokenValue, IsOf}
use Rattle.vertex_list.specs.Positions.{PositionValue, IsGap, IsPosition, LeadsToDead}
use Rattle.vertex_list.specs.Walks.{IsAt, IsDeadEnd, IsDeadStep, IsGone, IsHere}
use Rattle.vertex_list.specs.declared.walks.Sighting.{Sighting}
use Rattle.vertex_list.proofs.PositionsGoOn.{IsVertexAt, IsPlaceOf, as_position, as_word, position_makes, position_with}
use Rattle.vertex_list.proofs.PositionsGoOn.{position_words}

-- the position of a walk, whose word leads to a node
pub walk_leads : (v : View) (p : PositionValue) → IsLayout v.sizes → IsPosition false v p → index_of p.word ≢ nowhere
    → IsInBucketOf p.key v (index_of p.word)
walk_leads v p z h some = word_leads (IsInBucketOf p.key) (IsBefore p.key)
    (vertex_words p.key) p.place p.word p.moment v z (as_word false v p h) some

pub step_leads : (passed : Bool) (v : View) (p : PositionValue) → IsLayout v.sizes → IsPosition passed v p
    → index_of p.word ≢ nowhere → IsVertexAt v (index_of p.word)
step_leads passed v p z h some = word_leads IsVertexAt (IsPlaceOf passed p.key)
    (position_words passed p.key) p.place p.word p.moment v z (as_word passed v p h) some

-- the key and the link of that vertex are loaded
pub record IsSeen (passed : Bool) (v w : View) (p : PositionValue) (found link : ℕ) : Type 0 where
  pub makes : Makes v [] w
  pub position : IsPosition passed w p
  pub node : IsLoadedNode IsVertexAt (index_of p.word) found link w

pub seen : (passed : Bool) (g : TableValue) (t m u : TokenValue) (p : PositionValue) (found link at at' : ℕ) → IsOf g t
    → IsOf g m → t.view.numbered ≡ true → IsPosition passed t.view p → index_of p.word ≢ nowhere
    → at ≡ key_at g.sizes (index_of p.word) → at' ≡ link_at g.sizes (index_of p.word)
    → Looked t.view at found m.view → Looked m.view at' link u.view → IsSeen passed t.view u.view p found link
seen passed g t m u p found link at at' of of' has h some is is' l l' =
    let laws = position_words passed p.key in
    let makes = loads_make t.view m.view u.view at found at' link has of.sound l l' in
    let sizes = sym of.sizes in
    record {
      makes = makes;
      position = as_position passed p.key p.place p.word p.link p.moment u.view
          (word_looks (IsPlaceOf passed p.key) p.place p.word p.moment t.view u.view makes (as_word passed t.view p h));
      node = node_loaded IsVertexAt (IsPlaceOf passed p.key) laws t.view m.view u.view at
          (index_of p.word) found at' link of.layout has of.sound (step_leads passed t.view p of.layout h some)
          (is ∙ ap (λ (s : Sizes). key_at s (index_of p.word)) sizes)
          (is' ∙ ap (λ (s : Sizes). link_at s (index_of p.word)) sizes) l l';
    }

-- the vertex's life is told by the tag of its link
seen_life : (w : View) (x found link index tag : ℕ) → IsLayout w.sizes → IsKept w.sizes w.front
    → IsLoadedNode IsVertexAt x found link w → index ≡ x → tag ≡ tag_of link
    → record { index = index; tag = tag } ≡ life_in w.sizes w.front x
seen_life w x found link index tag z kept n index_is tag_is = ap₂ (λ (i t : ℕ). record { index = i; tag = t }) index_is
    (tag_is ∙ (ap tag_of (sym n.link_is) ∙ life_shown w z kept (life_in w.sizes w.front x) n.met.life n.met.met))

-- where its link is unmarked, it's present
seen_present : (w : View) (x found link : ℕ) → IsLayout w.sizes → IsKept w.sizes w.front
    → IsLoadedNode IsVertexAt x found link w → mark_of link ≡ 0
    → present_key w.front (life_in w.sizes w.front x) ≡ Some found
seen_present w x found link z kept n live =
    (present_shown w z kept (life_in w.sizes w.front x) n.met (ap mark_of n.link_is ∙ live)).1 ∙ ap Some n.key_is

seen_dead : (w : View) (p : PositionValue) (found link : ℕ) → IsLoadedNode IsVertexAt (index_of p.word) found link w
    → mark_of link ≡ 1 → LeadsToDead w (record p { link = link })
seen_dead w p found link n dead = record {
  vertex = life_in w.sizes w.front (index_of p.word);
  leads = refl;
  met = n.met;
  link_is = sym n.link_is;
  dead = ap mark_of n.link_is ∙ dead;
}

-- a key of a vertex fits 32 bits, and so does what is loaded of it
pub key_loaded_fits : (passed : Bool) (v w : View) (p : PositionValue) (at found : ℕ) → IsLayout v.sizes
    → v.numbered ≡ true → IsSound v → IsPosition passed v p → index_of p.word ≢ nowhere
    → at ≡ key_at v.sizes (index_of p.word) → Looked v at found w → found < 2 ^ 32
key_loaded_fits passed v w p at found z has s h some at_is l =
    let x = index_of p.word in
    let makes = makes_look v w at found has s l in
    let sizes = goes_sizes v w (makes_goes v w [] tt makes) in
    let z' : IsLayout w.sizes = subst IsLayout (sym sizes) z in
    let met = step_leads passed w p z' (position_makes passed v w [] p tt tt makes h) some in
    let c = ((contents w.sizes z' w.front l.sound.kept).each x met.life.there).vertex
    (met_used w.sizes w.front w.number x met.met) met.vertex in
    let found_is : found ≡ key_in w x = l.word
    ∙ (ap (word_at v.sizes w.front) at_is ∙ ap (λ (y : Sizes). word_at y w.front (key_at y x)) (sym sizes)) in
    subst (λ (k : ℕ). k < 2 ^ 32) (sym c.key_word ∙ sym found_is) c.key_fits

-- a step that comes to a marked vertex stays where it is
pub dead_step : (v w : View) (p : PositionValue) (passed : Bool) (found link : ℕ) → IsSeen passed v w p found link
    → mark_of link ≡ 1 → IsDeadStep p v w (record p { link = link })
dead_step v w p passed found link s dead =
    record {
      key = refl;
      place = refl;
      word = refl;
      moment = refl;
      position = λ other h. position_with other w p link (position_makes other v w [] p tt tt s.makes h);
      dead =
          seen_dead w p found link s.node dead;
    }

-- a position whose word leads to none, or to a greater key, is a gap, and the key was missing at its moment
lacks : (w : View) (p : PositionValue) → IsLayout w.sizes → IsPosition false w p
    → (index_of p.word ≢ nowhere → p.key < key_in w (index_of p.word)) → Lacks p.key p.moment
lacks w p z h above = word_passes p.key (IsInBucketOf p.key) (IsBefore p.key) (Lacks p.key)
    (vertex_walks p.key) p.place p.word p.moment w z (as_word false w p h) above

until : (passed : Bool) (w : View) (p : PositionValue) → IsPosition passed w p → IsPrefix p.moment w.front
until passed w p h = word_until (IsPlaceOf passed p.key) p.place p.word p.moment w (as_word passed w p h)

abbrev pub keyed : PositionValue → ℕ → ℕ → PositionValue
keyed p key link = record p { key = key; link = link }

gone : (w : View) (from p : PositionValue) (key : ℕ) → p.key ≡ from.key → key ≡ from.key → IsLayout w.sizes
    → IsPrefix from.moment p.moment → IsGap w p → Lacks p.key p.moment → IsGone from w (keyed p key p.link)
gone w from p key here same z since g none =
    let is : p.key ≡ key = here ∙ sym same in
    record {
      key = same;
      gap = subst (λ (k : ℕ). IsGap w (keyed p k p.link)) is g;
      there = record {
        since = since;
        until = until false w p g.position;
        holds = subst
            (λ (k : ℕ). Lacks k p.moment) here none;
      };
    }

-- the answers of a walk: the word leads to none
pub gone_at_end : (w : View) (from p : PositionValue) (key : ℕ) → p.key ≡ from.key → key ≡ from.key → IsLayout w.sizes
    → IsPrefix from.moment p.moment → IsPosition false w p → index_of p.word ≡ nowhere
    → IsGone from w (keyed p key p.link)
gone_at_end w from p key here same z since h none = gone w from p key here same z since
    (record { position = h; behind = λ some. absurd (some none) }) (lacks w p z h (λ some. absurd (some none)))

-- or to a greater key
pub gone_before : (v w : View) (from p : PositionValue) (key found link : ℕ) → p.key ≡ from.key → key ≡ from.key
    → IsLayout w.sizes → IsPrefix from.moment p.moment → IsSeen false v w p found link → p.key < found
    → IsGone from w (keyed p key p.link)
gone_before v w from p key found link here same z since s above =
    let a : p.key < key_in w (index_of p.word) = subst (λ (k : ℕ). p.key < k) (sym s.node.key_is) above in
    gone w from p key here same z since (record {
      position = s.position;
      behind = λ some. record {
        life =
            life_in w.sizes w.front (index_of p.word);
        is = refl;
        met = s.node.met;
        above = a;
      };
    })
    (lacks w p z s.position (λ some. a))

-- or to a marked vertex
pub dead_end : (v w : View) (from p : PositionValue) (key found link : ℕ) → p.key ≡ from.key → key ≡ from.key
    → IsPrefix from.moment p.moment → IsSeen false v w p found link → mark_of link ≡ 1
    → IsDeadEnd from w (keyed p key link)
dead_end v w from p key found link here same since s dead =
    let is : p.key ≡ key = here ∙ sym same in
    record {
      key = same;
      since = since;
      position = subst (λ (k : ℕ). IsPosition false w (keyed p k link)) is (position_with false w p link s.position);
      dead = subst (λ (k : ℕ). LeadsToDead w (keyed p k link)) is (seen_dead w p found link s.node dead);
    }

-- or to the vertex of the key
pub found_here : (v w : View) (from p : PositionValue) (found link : ℕ) (s : Sighting) → p.key ≡ from.key
    → IsLayout w.sizes → IsKept w.sizes w.front → IsPrefix from.moment p.moment → IsSeen false v w p found link
    → mark_of link ≡ 0 → found ≡ from.key → s.life.index ≡ index_of p.word → s.life.tag ≡ tag_of link
    → s.moment.value.view.front ≡ w.front → IsHere from w s
found_here v w from p found link s here z kept since seen_is live is index_is tag_is same =
    let x = index_of p.word in
    let life : s.life ≡ life_in w.sizes w.front x =
    seen_life w x found link s.life.index s.life.tag z kept seen_is.node index_is tag_is in
    record {
      met = subst (λ (y : Life). MetVertex w y) (sym life) seen_is.node.met;
      there = subst (λ (y : Life). HoldsBetween from.moment w.front (Has from.key y) s.moment.value.view.front)
          (sym life)
          (subst (λ (f : List Event). HoldsBetween from.moment w.front (Has from.key (life_in w.sizes w.front x)) f)
          (sym same)
          (record {
            since = prefix_trans from.moment p.moment w.front since (until false w p seen_is.position);
            until =
                prefix_refl w.front;
            holds = record {
              there = subst
                  (λ (k : ℕ). present_key w.front (life_in w.sizes w.front x) ≡ Some k) is
                  (seen_present w x found link z kept seen_is.node live);
            };
          }));
    }

-- the walk goes on behind a smaller key: its position is one still, and it has less to go
pub record IsNearer (w : View) (p q : PositionValue) : Type 0 where
  pub position : IsPosition false w q
  pub since : IsPrefix p.moment q.moment
  pub nearer : p.key + 1 - low_at w.sizes q.moment q.place < p.key + 1 - low_at w.sizes p.moment p.place

pub goes_nearer : (v w : View) (p : PositionValue) (found link place : ℕ) (moment : List Event) → IsLayout v.sizes
    → IsLayout w.sizes → IsKept w.sizes w.front → IsPosition false v p → index_of p.word ≢ nowhere
    → IsSeen false v w p found link → mark_of link ≡ 0 → found < p.key → place ≡ link_at w.sizes (index_of p.word)
    → moment ≡ w.front
    → IsNearer w p (record { key = p.key; place = place; word = link; link = p.link; moment = moment })
goes_nearer v w p found link place moment z z' kept h some s live below at same =
    let x = index_of p.word in
    let node : IsLoadedNode (IsInBucketOf p.key) x found link w =
    record { met = walk_leads w p z' s.position some; key_is = s.node.key_is; link_is = s.node.link_is } in
    let here = as_word false w p s.position in
    let laws = vertex_walks p.key in
    let opened = word_opened (IsBefore p.key) p.place p.word p.moment w here in
    let next = node_passed p.key (IsInBucketOf p.key) (IsBefore p.key)
    (Lacks p.key) laws w x found link kept opened node below live in
    let low = low_passed p.key (IsInBucketOf p.key) (IsBefore p.key) (Lacks p.key) laws w x found link node in
    let rises : low_at w.sizes p.moment p.place ≤ found = subst
    (λ (k : ℕ). low_at w.sizes p.moment p.place ≤ k) s.node.key_is
    (word_rises p.key (IsInBucketOf p.key) (IsBefore p.key)
    (Lacks p.key) laws p.place p.word p.moment w z' here some) in
    let made : IsNearer w p
    (record { key = p.key; place = link_at w.sizes x; word = link; link = p.link; moment = w.front }) =
    record {
      position = as_position false p.key (link_at w.sizes x) link p.link w.front w next;
      since = until false w p s.position;
      nearer = less p.key (low_at w.sizes p.moment p.place)
          (low_at w.sizes w.front (link_at w.sizes x)) found low rises below;
    } in
    subst (λ (i : ℕ). IsNearer w p
    (record { key = p.key; place = i; word = link; link = p.link; moment = moment })) (sym at)
    (subst (λ (f : List Event). IsNearer w p
    (record { key = p.key; place = link_at w.sizes x; word = link; link = p.link; moment = f })) (sym same) made)
  where
    less : (k old new found : ℕ) → new ≡ found + 1 → old ≤ found → found < k → k + 1 - new < k + 1 - old
    less k old new found is rises below = omega arith

-- a step comes to a vertex
behind_rises : (v : View) (p : PositionValue) → IsLayout v.sizes → index_of p.word ≢ nowhere → IsPosition true v p
    → p.key < key_in v (index_of p.word)
behind_rises v p z some h =
    let then = h.then in
    let x = h.stands.vertex in
    let z' = subst IsLayout (goes_sizes then v h.goes) z in
    let word : word_at then.sizes then.front (link_at then.sizes x.index) ≡ p.word = ap (word_at then.sizes then.front)
    (sym h.stands.place_is) ∙ h.word in
    let kept = kept_before then v h.goes in
    let b = link_leads then z' kept x h.stands.met (λ none. some (ap index_of (sym word) ∙ none)) in
    let rising : p.key < key_in then (index_of p.word) = subst
    (λ (k : ℕ). k < key_in then (index_of p.word)) h.stands.key_is
    (subst (λ (i : ℕ). key_in then x.index < key_in then (index_of i)) word b.rising) in
    subst (λ (k : ℕ). p.key < k) (sym (key_then IsVertexAt (IsPlaceOf true p.key)
    (position_words true p.key) p.place p.word p.moment v z (as_word true v p h) some)) rising

pub stepped : (v w : View) (p q : PositionValue) (passed : Bool) (x : Life) (found link : ℕ) → IsLayout v.sizes
    → IsLayout w.sizes → IsKept w.sizes w.front → IsPosition passed v p → index_of p.word ≢ nowhere
    → IsSeen passed v w p found link → mark_of link ≡ 0 → x.index ≡ index_of p.word → x.tag ≡ tag_of link
    → q ≡ record { key = found; place = link_at w.sizes (index_of p.word); word = link; link = 0; moment = w.front }
    → IsAt p v w x q
stepped v w p q passed x found link z z' kept h some s live index_is tag_is is =
    let i = index_of p.word in
    let life : x ≡ life_in w.sizes w.front i = seen_life w i found link x.index x.tag z' kept s.node index_is tag_is in
    let opened = word_opened (IsPlaceOf passed p.key) p.place p.word p.moment w (as_word passed w p s.position) in
    let made : IsAt p v w (life_in w.sizes w.front i)
    (record { key = found; place = link_at w.sizes i; word = link; link = 0; moment = w.front }) = record {
      leads = refl;
      met = s.node.met;
      key = sym s.node.key_is;
      place = refl;
      position = as_position true found (link_at w.sizes i) link 0 w.front w
          (word_here (IsPlaceOf true found) (link_at w.sizes i) link w kept opened
          (record {
            vertex = life_in w.sizes w.front i;
            met = s.node.met;
            place_is = refl;
            key_is =
                s.node.key_is;
          }) s.node.link_is live);
      there = record {
        since = until passed w p s.position;
        until = prefix_refl w.front;
        holds =
            record { there = seen_present w i found link z' kept s.node live };
      };
      rises = λ a. rise a;
    } in
    subst (λ (y : Life). IsAt p v w y q) (sym life)
    (subst (λ (r : PositionValue). IsAt p v w (life_in w.sizes w.front i) r) (sym is) made)
  where
    rise : IsPosition true v p → p.key < found
    rise a = subst (λ (k : ℕ). p.key < k) s.node.key_is
        (behind_rises w p z' some (position_makes true v w [] p tt tt s.makes a))
