-- What the loads of link words tell of vertex lives, and what locating two keys tells of their lives.
use Rattle.std.proofs.Common.{◌≡◌, ◌≢◌, ℕ, ◌<◌, Bool, true, false, cond, not, List, [], Some, None, inl, inr, refl}
use Rattle.std.proofs.Common.{nat_eq, sym, ap, ap₂, ◌∙◌, subst, arith}
use Rattle.packed_link.specs.Layout.{Sizes, IsLayout, link_at}
use Rattle.packed_link.specs.Link.{mark_of, tag_of}
use Rattle.packed_link.specs.declared.link.Life.{Life}
use Rattle.core_journal.specs.declared.event.Event.{Event}
use Rattle.core_journal.specs.GraphOf.{present_key}
use Rattle.core_journal.specs.Life.{key_of, vertex_marked}
use Rattle.core_journal.specs.Machine.{word_at}
use Rattle.core_kept.specs.Kept.{IsKept}
use Rattle.core_lists.proofs.LinkTellsPresence.{alive, over}
use Rattle.std.proofs.lemmas.Bool.{eq-eqb, eqb-true}
use Rattle.core_journal.proofs.KeptLives.{key_more}
use Rattle.core_rule.specs.Plays.{Looked}
use Rattle.graph_table.specs.Tokens.{IsOf, TableValue, TokenValue}
use Rattle.std.proofs.Common.{length, ◌&&◌}
use Rattle.core_journal.specs.Event.{marks_vertex, same_life}
use Rattle.core_journal.specs.Prefix.{IsPrefix}
use Rattle.core_journal.proofs.Lists.{any_more}
use Rattle.core_rule.specs.Fronts.{MetVertex, key_in}
use Rattle.core_rule.specs.Plays.{IsSound}
use Rattle.core_rule.specs.declared.view.View.{View}
use Rattle.core_rule.proofs.ViewShows.{key_shown, vertex_still}
use Rattle.core_stretches.specs.Makes.{Makes}
use Rattle.core_stretches.specs.Moments.{Has, HoldsBetween}
use Rattle.vertex_list.specs.declared.walks.Sighting.{Sighting}
use Rattle.graph_updates.specs.Hands.{HandValue, IsHandOf}
use Rattle.graph_updates.specs.Locating.{WasHere}
use Rattle.graph_updates.specs.Pairs.{AreEnds}
use Rattle.graph_updates.specs.Parts.{HasHelped, Helps}
use Rattle.graph_updates.proofs.HandsHelp.{has_helped, helped_of, same_retired, with_parts}
use Rattle.graph_updates.proofs.LocatingTells.{between_earlier, between_later, helped_grows}
use Rattle.graph_updates.proofs.SeekingSteps.{helps_goes, helps_look}
use Rattle.std.proofs.Common.{◌+◌, ◌-◌, ◌≤◌}
use Rattle.core_lists.proofs.OneVertexOfKey.{one_present}
use Rattle.core_stretches.proofs.MakesTell.{makes_later}
use Rattle.edge_list.specs.declared.walks.EdgeSighting.{EdgeSighting}
use Rattle.edge_list.proofs.EdgePositionsGoOn.{seen_makes}
use Rattle.graph_updates.specs.EdgeLocating.{WasEdgeHere}
use Rattle.graph_updates.specs.Parts.{Fell}
use Rattle.graph_updates.proofs.LocatingTells.{fell_as, fell_both, helped_number}

-- a life that's present isn't marked
unmarked_by : (b : Bool) (key : ℕ) (o : _) → cond b None o ≡ Some key → b ≡ false
unmarked_by true key o h = absurd (cc)
unmarked_by false key o h = refl

module _ (sizes : Sizes) (z : IsLayout sizes) (journal : List Event) (kept : IsKept sizes journal) (x : Life) (key : ℕ)
    (linked : key_of journal x ≡ Some key) (link : ℕ) (is : word_at sizes journal (link_at sizes x.index) ≡ link) where
  -- a marked link word
  pub over_by : mark_of link ≡ 1 → false ≡ not (vertex_marked journal x)
  over_by marked = sym (ap not (over sizes z journal kept x key linked (inr (ap mark_of is ∙ marked))))

  -- an unmarked one is alive if it shows the life's tag
  pub alive_by : mark_of link ≡ 0 → nat_eq (tag_of link) x.tag ≡ not (vertex_marked journal x)
  alive_by live = by (nat_eq (tag_of link) x.tag) refl
    where
      by : (b : Bool) → nat_eq (tag_of link) x.tag ≡ b → b ≡ not (vertex_marked journal x)
      by true same =
          let tag : tag_of (word_at sizes journal (link_at sizes x.index)) ≡ x.tag = ap tag_of is
          ∙ eqb-true (tag_of link) x.tag same in
          let there = alive sizes z journal kept x key linked tag (ap mark_of is ∙ live) in
          sym (ap not (unmarked_by (vertex_marked journal x) key (key_of journal x) there))
      by false other = sym (ap not (over sizes z journal kept x key linked (inl
          (λ (tag : tag_of (word_at sizes journal (link_at sizes x.index)) ≡ x.tag).
          let same : nat_eq (tag_of link) x.tag ≡ true = ap (λ (n : ℕ). nat_eq n x.tag) (sym (ap tag_of is) ∙ tag)
          ∙ eq-eqb x.tag x.tag refl in
          absurd (cc)))))

-- the link word of a life that was linked was loaded
module _ (g : TableValue) (t u : TokenValue) (x : Life) (key place found : ℕ) (of : IsOf g t) (now : IsOf g u)
    (looked : Looked t.view place found u.view) (at : place ≡ link_at g.sizes x.index)
    (linked : key_of t.view.front x ≡ Some key) where
  linked_now : key_of u.view.front x ≡ Some key
  linked_now = subst (λ (l : List Event). key_of l x ≡ Some key) looked.grows.whole
      (key_more t.view.front looked.grows.rest x key linked)

  word_is : word_at u.view.sizes u.view.front (link_at u.view.sizes x.index) ≡ found
  word_is = sym (looked.word ∙ ap₂ (λ (s : Sizes) (p : ℕ). word_at s u.view.front p)
      (of.sizes ∙ sym now.sizes) (at ∙ ap (λ (s : Sizes). link_at s x.index) (sym now.sizes)))

  pub loaded_over : mark_of found ≡ 1 → false ≡ not (vertex_marked u.view.front x)
  loaded_over = over_by u.view.sizes now.layout u.view.front now.sound.kept x key linked_now found word_is

  pub loaded_alive : mark_of found ≡ 0 → nat_eq (tag_of found) x.tag ≡ not (vertex_marked u.view.front x)
  loaded_alive = alive_by u.view.sizes now.layout u.view.front now.sound.kept x key linked_now found word_is

-- a vertex that was met was linked with the key in its node
pub met_linked : (v : View) → IsLayout v.sizes → IsSound v → (x : Life) → MetVertex v x → (key : ℕ)
    × (key_of v.front x ≡ Some key)
met_linked v z s x m = (key_in v x.index, key_shown v z s.kept x m)

-- a key that a life was linked with stays
pub key_later : (v w : View) → IsPrefix v.front w.front → (x : Life) (key : ℕ) → key_of v.front x ≡ Some key
    → key_of w.front x ≡ Some key
key_later v w p x key h = subst (λ (l : List Event). key_of l x ≡ Some key) p.whole (key_more v.front p.rest x key h)

-- a mark stays
pub mark_later : (v w : View) → IsPrefix v.front w.front → (x : Life) → vertex_marked v.front x ≡ true
    → vertex_marked w.front x ≡ true
mark_later v w p x h = subst (λ (l : List Event). vertex_marked l x ≡ true) p.whole
    (any_more (λ (e : Event). marks_vertex e.kind && same_life x e.life) v.front p.rest h)

alive_is : (b : Bool) → true ≡ not b → b ≡ false
alive_is true h = absurd (cc)
alive_is false h = refl

over_is : (b : Bool) → false ≡ not b → b ≡ true
over_is true h = refl
over_is false h = absurd (cc)

pub unmarked_alive : (b m : Bool) → b ≡ not m → b ≡ true → m ≡ false
unmarked_alive b m h is = alive_is m (sym is ∙ h)

pub marked_over : (b m : Bool) → b ≡ not m → b ≡ false → m ≡ true
marked_over b m h is = over_is m (sym is ∙ h)

-- a hand that only loaded has helped
module _ (g : TableValue) (h : HandValue) (t : TokenValue) (of : IsHandOf g h) (now : IsOf g t)
    (makes : Makes h.token.view [] t.view) where
  abbrev pub looked : HandValue
  looked = with_parts h t h.limbo h.retired

  helps : Helps h.limbo h.limbo h.token.view t.view
  helps = helps_look h.limbo h.token.view t.view of.of.layout of.limbo makes

  pub looked_of : IsHandOf g looked
  looked_of = helped_of g h t h.limbo h.retired of now helps

  pub looked_helped : HasHelped h looked
  looked_helped = has_helped g h t h.limbo h.retired of now helps
      (same_retired h.retired (length h.limbo.nodes) (length h.limbo.nodes) (omega arith))

-- what was found before stays so while the hand helps
pub met_helped : (old new : HandValue) → IsLayout old.token.view.sizes → HasHelped old new → (x : Life)
    → MetVertex old.token.view x → MetVertex new.token.view x
met_helped old new z h x m = vertex_still old.token.view new.token.view z
    (helps_goes old.token.view new.token.view h.helped.only) x m

-- both keys were located, the first in one stretch and the second in the next
pub ends_both : (a b : ℕ) (old mid new : HandValue) (first second : Sighting) → IsLayout mid.token.view.sizes
    → HasHelped old mid → HasHelped mid new → WasHere a old.token.view mid.token.view first
    → WasHere b mid.token.view new.token.view second
    → AreEnds a b old.token.view new.token.view (record { from = first.life; to = second.life })
ends_both a b old mid new first second z g h f s = record {
  from_met = met_helped mid new z h first.life f.met;
  from_then = first.moment.value.view.front;
  from_there = between_later _ old.token.view.front mid.token.view.front new.token.view.front
      first.moment.value.view.front (helped_grows mid new h) f.there;
  to_met = s.met;
  to_then = second.moment.value.view.front;
  to_there = between_earlier _ old.token.view.front mid.token.view.front new.token.view.front
      second.moment.value.view.front (helped_grows old mid g) s.there;
}

-- one key, which is both
pub ends_one : (a b : ℕ) (v w : View) (s : Sighting) → a ≡ b → WasHere a v w s
    → AreEnds a b v w (record { from = s.life; to = s.life })
ends_one a b v w s same h = record {
  from_met = h.met;
  from_then = s.moment.value.view.front;
  from_there = h.there;
  to_met = h.met;
  to_then = s.moment.value.view.front;
  to_there = subst (λ (k : ℕ). HoldsBetween v.front w.front (Has k s.life) s.moment.value.view.front) same h.there;
}

-- foreign events that fell in two stretches that adjoin, each counted from where the one before it ended
pub fell_two : (a b c : ℕ) (old mid new : HandValue) → a ≤ b → b ≤ c → HasHelped old mid → HasHelped mid new
    → Fell (b - a) old.token.view.number old.token.view.front mid.token.view.front
    → Fell (c - b) mid.token.view.number mid.token.view.front new.token.view.front
    → Fell (c - a) old.token.view.number old.token.view.front new.token.view.front
fell_two a b c old mid new low high g h f k =
    let number = helped_number old mid g in
    let second = subst (λ (n : ℕ). Fell (c - b) n mid.token.view.front new.token.view.front) number k in
    fell_as (b - a + (c - b)) (c - a) old.token.view.number old.token.view.front new.token.view.front
    (omega (arith, low, high))
    (fell_both (b - a) (c - b) old.token.view.number old.token.view.front mid.token.view.front new.token.view.front
    (helped_grows old mid g) (helped_grows mid new h) f second)

-- two lives that a comparison tells apart
pub told_apart : (x y : Life) (b : Bool) → b ≡ (nat_eq x.index y.index && nat_eq x.tag y.tag) → b ≡ false → x ≢ y
told_apart x y b is other same =
    let one : nat_eq x.index y.index ≡ true = eq-eqb x.index y.index (ap (λ (l : Life). l.index) same) in
    let two : nat_eq x.tag y.tag ≡ true = eq-eqb x.tag y.tag (ap (λ (l : Life). l.tag) same) in
    let all : (nat_eq x.index y.index && nat_eq x.tag y.tag) ≡ true = ap₂ (λ (c d : Bool). c && d) one two in
    absurd (cc)

-- another life of the key is alive, so this one is over
pub other_over : (sizes : Sizes) → IsLayout sizes → (journal : List Event) → IsKept sizes journal → (x y : Life)
    (key : ℕ) → key_of journal x ≡ Some key → vertex_marked journal x ≡ false → key_of journal y ≡ Some key → x ≢ y
    → vertex_marked journal y ≡ true
other_over sizes z journal kept x y key kx live ky other = by (vertex_marked journal y) refl
  where
    by : (b : Bool) → vertex_marked journal y ≡ b → vertex_marked journal y ≡ true
    by true is = is
    by false is =
        let px : present_key journal x ≡ Some key = ap (λ (b : Bool). cond b None (key_of journal x)) live ∙ kx in
        let py : present_key journal y ≡ Some key = ap (λ (b : Bool). cond b None (key_of journal y)) is ∙ ky in
        absurd (other (one_present sizes z journal kept x y key px py))

-- an edge that was found is one still after loads
pub found_later : (source : Life) (key : ℕ) (v w x : View) (s : EdgeSighting) → IsLayout w.sizes → Makes w [] x
    → WasEdgeHere source key v w s → WasEdgeHere source key v x s
found_later source key v w x s z makes h =
    let l = makes_later w x [] makes in
    record {
      key_is = h.key_is;
      seen = seen_makes w x [] source s.edge s.moment.value.view.front z tt tt makes h.seen;
      there = between_later _ v.front w.front x.front s.moment.value.view.front l.grows h.there;
      target = record {
        there = subst (λ (k : Sizes). s.edge.target.index < k.nodes) (sym l.sizes) h.target.there;
        linked = key_later w x l.grows s.edge.target s.edge.key h.target.linked;
      };
    }
