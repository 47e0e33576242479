-- What a pair has or lacks at a moment: its ends were linked before and aren't marked later, so both are present there.
use Rattle.std.proofs.Common.{◌≡◌, ◌≢◌, ◌⊎◌, ℕ, ◌&&◌, Bool, true, false, cond, List, Some, None, inl, inr, refl, sym}
use Rattle.std.proofs.Common.{ap}
use Rattle.std.proofs.Common.{◌∙◌, subst, ⊎_elim}
use Rattle.graph_kinds.specs.Graph.{weight_of}
use Rattle.packed_link.specs.Layout.{IsLayout}
use Rattle.packed_link.specs.declared.link.Life.{Life}
use Rattle.core_journal.specs.declared.event.Event.{Event}
use Rattle.core_journal.specs.Event.{marks_vertex, same_life}
use Rattle.core_journal.specs.GraphOf.{graph_of, present_key}
use Rattle.core_journal.specs.Life.{key_of, vertex_marked}
use Rattle.core_journal.specs.Prefix.{IsPrefix}
use Rattle.core_journal.proofs.KeptLives.{key_more}
use Rattle.core_journal.proofs.Lists.{any_more, prefix_trans}
use Rattle.core_journal.proofs.LivesOf.{key_of_life, present_is}
use Rattle.core_kept.specs.Kept.{IsKept}
use Rattle.core_kept.proofs.Induction.{kept_front}
use Rattle.core_rule.specs.declared.view.View.{View}
use Rattle.core_stretches.specs.Moments.{Has, HoldsBetween, LacksEdge}
use Rattle.edge_list.specs.EdgePositions.{EdgePositionValue, IsUnmarkedEdge}
use Rattle.edge_list.specs.declared.walks.EdgeSighting.{EdgeSighting}
use Rattle.edge_list.proofs.EdgesTellPairs.{has_pair, lacks_pair, stale_pair}
use Rattle.vertex_list.specs.Positions.{PositionValue}
use Rattle.graph_updates.specs.EdgeLocating.{WasEdgeGone, WasEdgeHere}
use Rattle.graph_updates.specs.EdgeLooking.{LacksWith}
use Rattle.graph_updates.specs.Locating.{WasGone}
use Rattle.graph_updates.specs.Pairs.{AreEnds, HasPair, IsEndOver, LacksEnd, LacksPair, MatchLack}
use Rattle.graph_updates.specs.declared.pairs.Ends.{Ends}
use Rattle.graph_updates.specs.declared.pairs.Lack.{Lack}
use Rattle.graph_updates.proofs.CallsGo.{lacks_there}

-- a life that isn't marked in a journal isn't in a shorter one
pub unmarked_since : (old new : List Event) → IsPrefix old new → (x : Life) → vertex_marked new x ≡ false
    → vertex_marked old x ≡ false
unmarked_since old new p x live = by (vertex_marked old x) refl
  where
    by : (b : Bool) → vertex_marked old x ≡ b → vertex_marked old x ≡ false
    by false is = is
    by true is =
        let marked : vertex_marked new x ≡ true = subst (λ (l : List Event). vertex_marked l x ≡ true) p.whole
        (any_more (λ (e : Event). marks_vertex e.kind && same_life x e.life) old p.rest is) in
        absurd (cc)

pub linked_since : (old new : List Event) → IsPrefix old new → (x : Life) (key : ℕ) → key_of old x ≡ Some key
    → key_of new x ≡ Some key
linked_since old new p x key h = subst (λ (l : List Event). key_of l x ≡ Some key) p.whole (key_more old p.rest x key h)

-- a vertex that was linked before and isn't marked later is present at a moment between
pub present_then : (old at new : List Event) → IsPrefix old at → IsPrefix at new → (x : Life) (key : ℕ)
    → key_of old x ≡ Some key → vertex_marked new x ≡ false → present_key at x ≡ Some key
present_then old at new p q x key linked live =
    ap (λ (b : Bool). cond b None (key_of at x)) (unmarked_since at new q x live) ∙ linked_since old at p x key linked

-- a vertex that was present is linked still
pub had_key : (old new at : List Event) (x : Life) (key : ℕ) → HoldsBetween old new (Has key x) at
    → key_of new x ≡ Some key
had_key old new at x key h = linked_since at new h.until x key (present_is at x key h.holds.there).1

-- between two views, of which the first has the keys of both ends, and neither is marked in the second
module _ (a b : ℕ) (v w : View) (ends : Ends) (from_key : key_of v.front ends.from ≡ Some a)
    (to_key : key_of v.front ends.to ≡ Some b) (z : IsLayout w.sizes) (kept : IsKept w.sizes w.front)
    (from : vertex_marked w.front ends.from ≡ false) (to : vertex_marked w.front ends.to ≡ false) where
  module _ (at : List Event) (since : IsPrefix v.front at) (until : IsPrefix at w.front) where
    pub from_then : present_key at ends.from ≡ Some a
    from_then = present_then v.front at w.front since until ends.from a from_key from

    pub to_then : present_key at ends.to ≡ Some b
    to_then = present_then v.front at w.front since until ends.to b to_key to

    kept_then : IsKept w.sizes at
    kept_then = kept_front w.sizes at w.front until kept

    -- the pair has the weight of its edge
    pub pair_then : (s : EdgeSighting) → IsUnmarkedEdge ends.from s.edge at → s.edge.target ≡ ends.to
        → HasPair a b s.edge.weight at
    pair_then s u target = record {
      from = key_of_life at ends.from a from_then;
      to = key_of_life at ends.to b to_then;
      weight_is = has_pair w.sizes z at kept_then ends.from s.edge a b u from_then
          (ap (present_key at) target ∙ to_then);
    }

    -- there's no pair where there's no edge of the key
    pub none_then : LacksEdge ends.from b at → LacksPair a b at
    none_then l = record {
      from = key_of_life at ends.from a from_then;
      to = key_of_life at ends.to b to_then;
      none = lacks_pair w.sizes z at kept_then ends.from a b l from_then;
    }

    -- nor where the edge leads to another life of the key
    pub stale_then : (s : EdgeSighting) → IsUnmarkedEdge ends.from s.edge at → s.edge.key ≡ b
        → s.edge.target ≢ ends.to → LacksPair a b at
    stale_then s u key_is other = record {
      from = key_of_life at ends.from a from_then;
      to = key_of_life at ends.to b to_then;
      none = subst (λ (k : ℕ). weight_of (graph_of at) a k ≡ None) key_is
          (stale_pair w.sizes z at kept_then ends.from ends.to s.edge a u from_then (to_then ∙ ap Some (sym key_is))
          other);
    }

  pub pair_seen : (s : EdgeSighting) → WasEdgeHere ends.from b v w s → s.edge.target ≡ ends.to
      → HoldsBetween v.front w.front (HasPair a b s.edge.weight) s.moment.value.view.front
  pair_seen s h target = record {
    since = h.there.since;
    until = h.there.until;
    holds = pair_then s.moment.value.view.front h.there.since h.there.until s h.there.holds target;
  }

  pub pair_missing : (q : EdgePositionValue) → WasEdgeGone ends.from b v w q
      → HoldsBetween v.front w.front (LacksPair a b) q.moment
  pair_missing q h = record {
    since = h.there.since;
    until = h.there.until;
    holds = none_then q.moment h.there.since h.there.until h.there.holds;
  }

  pub pair_stale : (s : EdgeSighting) → WasEdgeHere ends.from b v w s → s.edge.target ≢ ends.to
      → HoldsBetween v.front w.front (LacksPair a b) s.moment.value.view.front
  pair_stale s h other = record {
    since = h.there.since;
    until = h.there.until;
    holds = stale_then s.moment.value.view.front h.there.since h.there.until s h.there.holds h.key_is other;
  }

-- one of the keys was missing
pub key_lacks : (a b : ℕ) (v w : View) (q : PositionValue) → (WasGone a v w q ⊎ WasGone b v w q)
    → HoldsBetween v.front w.front (LacksEnd a b) q.moment
key_lacks a b v w q h = ⊎_elim
    (λ (g : WasGone a v w q). record {
      since = g.there.since;
      until = g.there.until;
      holds = record { missing = inl (lacks_there q.moment a g.there.holds) };
    })
    (λ (g : WasGone b v w q). record {
      since = g.there.since;
      until = g.there.until;
      holds = record { missing = inr (lacks_there q.moment b g.there.holds) };
    }) h

-- both ends were located
module _ (a b : ℕ) (v m : View) (ends : Ends) (e : AreEnds a b v m ends) where
  pub located_grows : IsPrefix v.front m.front
  located_grows = prefix_trans v.front e.from_then m.front e.from_there.since e.from_there.until

  pub from_linked : key_of m.front ends.from ≡ Some a
  from_linked = had_key v.front m.front e.from_then ends.from a e.from_there

  pub to_linked : key_of m.front ends.to ≡ Some b
  to_linked = had_key v.front m.front e.to_then ends.to b e.to_there

-- and one of them is over
module _ (a b : ℕ) (v m w : View) (ends : Ends) (e : AreEnds a b v m ends) (p : IsPrefix m.front w.front) where
  pub end_over : (x : Life) → (x ≡ ends.from) ⊎ (x ≡ ends.to) → vertex_marked w.front x ≡ true → IsEndOver a b v w x
  end_over x one marked = ⊎_elim
      (λ (is : x ≡ ends.from). record {
        key = a;
        key_is = inl refl;
        at = e.from_then;
        there = record {
          since = e.from_there.since;
          until = prefix_trans e.from_then m.front w.front e.from_there.until p;
          holds = subst (λ (y : Life). Has a y e.from_then) (sym is) e.from_there.holds;
        };
        marked = marked;
      })
      (λ (is : x ≡ ends.to). record {
        key = b;
        key_is = inr refl;
        at = e.to_then;
        there = record {
          since = e.to_there.since;
          until = prefix_trans e.to_then m.front w.front e.to_there.until p;
          holds = subst (λ (y : Life). Has b y e.to_then) (sym is) e.to_there.holds;
        };
        marked = marked;
      }) one

  -- after the links of both ends were loaded: the pair lacks what was found lacking, or an end is over
  pub lack_told : (u : View) (result lack : Lack) → LacksWith result lack ends u w
      → (vertex_marked u.front ends.from ≡ false → vertex_marked u.front ends.to ≡ false → MatchLack lack a b v w)
      → MatchLack result a b v w
  lack_told u result lack h told = ⊎_elim
      (λ s. subst (λ (l : Lack). MatchLack l a b v w) (sym s.0) (told s.1.0 s.1.1))
      (λ s. subst (λ (l : Lack). MatchLack l a b v w) (sym s.1.0) (end_over s.0 s.1.1.0 s.1.1.1)) h
