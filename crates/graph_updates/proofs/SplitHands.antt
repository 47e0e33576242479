-- A hand whose token was split in two, and the lists of the vertices that a hand spent.
use Rattle.std.proofs.Common.{◌≡◌, ℕ, ◌<◌, true, None, Some, Option, refl, sym, subst}
use Rattle.packed_link.specs.Layout.{IsLayout}
use Rattle.packed_link.specs.declared.link.Life.{Life}
use Rattle.core_kept.specs.Kept.{IsKept}
use Rattle.core_kept.specs.Nodes.{node_in, IsFrozenToEnd, IsLinkedEdge, IsSpentWith}
use Rattle.core_lists.proofs.ListHoldsKept.{listing}
use Rattle.core_rule.specs.Plays.{stays}
use Rattle.core_rule.specs.Retired.{IsRetired}
use Rattle.core_rule.specs.Stretches.{IsAlike}
use Rattle.core_rule.specs.declared.view.View.{View}
use Rattle.core_rule.proofs.AlikeViews.{retired_alike}
use Rattle.core_stretches.specs.Holdings.{HasNoPass}
use Rattle.epoch_limbo.specs.Limbos.{LimboValue, index_in}
use Rattle.graph_table.specs.Tokens.{IsOf, RipeValue, TableValue, TokenValue}
use Rattle.graph_updates.specs.Hands.{HandValue, HasAllSpent, HasNoEdgeOfSpent, HoldsNoOther, HoldsSpare}
use Rattle.graph_updates.specs.Hands.{IsHandOf, IsInOrder, IsRoomyLimbo}
use Rattle.graph_updates.proofs.BurialLists.{every_map}
use Rattle.graph_updates.proofs.PartsLeave.{in_limbo}

-- the list of each vertex in the limbo is frozen to its end, so no edge of it is linked
pub no_edge_of_spent : (v : View) (limbo : LimboValue) → IsLayout v.sizes → IsKept v.sizes v.front
    → IsRoomyLimbo limbo v → HasAllSpent limbo v → HasNoEdgeOfSpent v
no_edge_of_spent v limbo z kept l h = record { none = none }
  where
    none : (y : ℕ) → y < v.sizes.nodes → IsLinkedEdge v.sizes v.front y
        → IsSpentWith v.sizes v.front v.number (node_in v.sizes v.front y).source.index → ⊥
    none y low edge spent =
        let s = ((listing v.sizes z v.front kept).source y low edge.linked edge.edge).list in
        let f = in_limbo (λ (k : ℕ). (node_in v.sizes v.front k).vertex ≡ true → IsFrozenToEnd v.sizes v.front k)
        limbo.nodes
        (every_map (λ (r : RipeValue). IsRetired None v r.life r.stamp)
        (λ (r : RipeValue). (node_in v.sizes v.front (index_in r)).vertex ≡ true → IsFrozenToEnd v.sizes v.front
        (index_in r))
        (λ r p. p.own_list) limbo.nodes l.of.each)
        (node_in v.sizes v.front y).source.index (h.each (node_in v.sizes v.front y).source.index spent) s.vertex in
        s.unfinished (record { head = f.head; each = f.edges })

-- views that differ by the right to draw alone
module _ (v : View) where
  split_alike : IsAlike v (stays v)
  split_alike = record { sizes = refl; front = refl; number = refl }

  split_limbo : (limbo : LimboValue) → IsRoomyLimbo limbo v → IsRoomyLimbo limbo (stays v)
  split_limbo limbo h = record {
    of = record {
      each = every_map (λ (r : RipeValue). IsRetired None v r.life r.stamp)
          (λ (r : RipeValue). IsRetired None (stays v) r.life r.stamp)
          (λ r p. retired_alike v (stays v) split_alike None r.life r.stamp p) limbo.nodes h.of.each;
      apart = h.of.apart;
      rising = h.of.rising;
    };
    room = h.room;
  }

  split_spare : (spare : Option Life) → HoldsSpare spare v → HoldsSpare spare (stays v)
  split_spare None h = tt
  split_spare (Some x) h = record { life = record { there = h.life.there; tag = h.life.tag }; fresh = h.fresh }

  split_other : (spare : Option Life) → HoldsNoOther spare v → HoldsNoOther spare (stays v)
  split_other None h = record { none = h.none }
  split_other (Some x) h = h

module _ (g : TableValue) (h : HandValue) (t : TokenValue) (is : t.view ≡ stays h.token.view) where
  -- the hand with a token of this view
  abbrev seen_by : View → HandValue
  seen_by u = record {
    token = record { table = t.table; view = u };
    limbo = h.limbo;
    spare = h.spare;
    uses = h.uses;
    retired = h.retired;
  }

  pub split_hand : IsOf g t → IsHandOf g h → IsHandOf g (record h { token = t })
  split_hand of k =
      let v = h.token.view in
      let o : IsOf g (record { table = t.table; view = stays v }) = subst
      (λ (u : View). IsOf g (record { table = t.table; view = u })) is of in
      subst (λ (u : View). IsHandOf g (seen_by u)) (sym is) (record {
        of = o;
        numbered = k.numbered;
        there = k.there;
        limbo = split_limbo v h.limbo k.limbo;
        spare = split_spare v h.spare k.spare;
      })

  pub split_order : IsInOrder h → IsInOrder (record h { token = t })
  split_order k =
      let v = h.token.view in
      subst (λ (u : View). IsInOrder (seen_by u)) (sym is) (record {
        book = k.book;
        taken = k.taken;
        moved = k.moved;
        uses = k.uses;
        again = k.again;
        given_up = k.given_up;
        raised = k.raised;
        nodes = record {
          spent = record { each = k.nodes.spent.each };
          fresh = split_other v h.spare k.nodes.fresh;
        };
      })

pub split_closed : (h : HandValue) (t : TokenValue) → t.view ≡ stays h.token.view → HasNoPass h.token.view
    → HasNoPass t.view
split_closed h t is c = subst HasNoPass (sym is) c
