-- A hand that looks on is one of its table still, in order, with its pass closed.
use Rattle.std.proofs.Common.{◌≡◌, ℕ, false, [], None, Some, Option, append-nil, refl, sym, ap}
use Rattle.std.proofs.Common.{◌∙◌, subst, arith}
use Rattle.packed_link.specs.declared.link.Life.{Life}
use Rattle.core_journal.specs.State.{Pass}
use Rattle.core_journal.specs.Prefix.{IsPrefix}
use Rattle.core_journal.proofs.Lists.{prefix_refl}
use Rattle.core_rule.specs.Plays.{Met, both_fronts, stays}
use Rattle.core_rule.specs.Retired.{IsRetired}
use Rattle.core_rule.specs.Stretches.{IsAlike}
use Rattle.core_rule.specs.Views.{moved_on}
use Rattle.core_rule.specs.declared.view.View.{View}
use Rattle.core_rule.proofs.AlikeViews.{retired_alike}
use Rattle.core_stretches.specs.Holdings.{HasNoPass}
use Rattle.core_stretches.specs.Makes.{Makes}
use Rattle.core_stretches.proofs.MakesTell.{makes_goes, makes_later, makes_leaves}
use Rattle.epoch_limbo.specs.Limbos.{LimboValue}
use Rattle.graph_table.specs.Tokens.{IsOf, RipeValue, TableValue, TokenValue}
use Rattle.graph_updates.specs.Hands.{HandValue, HasItsNodes, HoldsNoOther, HoldsSpare, IsHandOf, IsInOrder}
use Rattle.graph_updates.specs.Hands.{IsRoomyLimbo}
use Rattle.graph_updates.specs.Parts.{LeavesGraph}
use Rattle.graph_updates.proofs.BurialLists.{every_map}
use Rattle.graph_updates.proofs.HandsStay.{LeavesParts, due_closed, nodes_go, order_goes, plain_parts}
use Rattle.shared_graph.specs.Looking.{with_sight}

-- the view that has seen more, and no other field of the view
abbrev grown_to : View → View → View
grown_to v w = record v { front = w.front }

-- facts of a hand don't read what its token accounts for and may draw
module _ (v w : View) where
  sight_alike : IsAlike (grown_to v w) (with_sight v w)
  sight_alike = record { sizes = refl; front = refl; number = refl }

  sight_limbo : (limbo : LimboValue) → IsRoomyLimbo limbo (grown_to v w) → IsRoomyLimbo limbo (with_sight v w)
  sight_limbo limbo h = record {
    of = record {
      each = every_map (λ (r : RipeValue). IsRetired None (grown_to v w) r.life r.stamp)
          (λ (r : RipeValue). IsRetired None (with_sight v w) r.life r.stamp)
          (λ r p. retired_alike (grown_to v w) (with_sight v w) sight_alike None r.life r.stamp p) limbo.nodes
          h.of.each;
      apart = h.of.apart;
      rising = h.of.rising;
    };
    room = h.room;
  }

  sight_spare : (spare : Option Life) → HoldsSpare spare (grown_to v w) → HoldsSpare spare (with_sight v w)
  sight_spare None h = tt
  sight_spare (Some x) h = record { life = record { there = h.life.there; tag = h.life.tag }; fresh = h.fresh }

  sight_other : (spare : Option Life) → HoldsNoOther spare (grown_to v w) → HoldsNoOther spare (with_sight v w)
  sight_other None h = record { none = h.none }
  sight_other (Some x) h = h

-- a hand with another view of its token's table
abbrev seeing : HandValue → TokenValue → View → HandValue
seeing h t u = record h { token = record { table = t.table; view = u } }

-- a hand whose token has seen more
module _ (g : TableValue) (h : HandValue) (t : TokenValue) (k : IsHandOf g h) (of : IsOf g t)
    (grows : IsPrefix h.token.view.front t.view.front)
    (is : t.view ≡ with_sight h.token.view t.view) where
  abbrev v : View
  v = h.token.view

  abbrev mid : View
  mid = grown_to h.token.view t.view

  abbrev last : View
  last = with_sight h.token.view t.view

  of_last : IsOf g (record { table = t.table; view = last })
  of_last = subst (λ (u : View). IsOf g (record { table = t.table; view = u })) is of

  mid_makes : Makes v [] mid
  mid_makes = record {
    steps = record {
      view = refl;
      grown = t.view.front;
      reaches = record {
        kept = of_last.sound.kept;
        front = grows;
        quiet = of_last.sound.quiet k.numbered;
        old = k.of.sound.old k.numbered;
      };
      front = sym (append-nil t.view.front);
      kept = of_last.sound.kept;
    };
  }

  parts : LeavesParts h.limbo h.limbo v mid
  parts = plain_parts h.limbo v mid [] k.of.layout mid_makes tt

  pub looking_hand : IsHandOf g (record h { token = t })
  looking_hand = subst (λ (u : View). IsHandOf g (seeing h t u)) (sym is) (record {
    of = of_last;
    numbered = k.numbered;
    there = k.there;
    limbo = sight_limbo v t.view h.limbo (parts.limbo k.limbo);
    spare = sight_spare v t.view h.spare (parts.spare h.spare k.spare);
  })

  mid_closed : HasNoPass v → HasNoPass mid
  mid_closed c = ap (λ (p : Pass). p.is_open) (makes_goes v mid [] tt mid_makes).pass ∙ c

  pub looking_closed : HasNoPass v → HasNoPass t.view
  looking_closed c = subst HasNoPass (sym is) (mid_closed c)

  mid_order : HasNoPass v → IsInOrder h → IsInOrder (seeing h t mid)
  mid_order c o =
      let nodes : HasItsNodes (seeing h t mid) = nodes_go g h (seeing h t mid) k refl parts o.nodes in
      let stretch : LeavesGraph false 0 0 v mid = record {
        own = [];
        makes = mid_makes;
        leaves = λ z. makes_leaves v mid [] z tt mid_makes;
        takes = omega arith;
        shifts = omega arith;
        raised = λ _. refl;
      } in
      let due = due_closed mid (mid_closed c) in
      order_goes h (seeing h t mid) 0 0 k.of.layout stretch nodes (omega arith) (omega (arith, due)) o.uses o

  pub looking_order : HasNoPass v → IsInOrder h → IsInOrder (record h { token = t })
  looking_order c o =
      let m = mid_order c o in
      subst (λ (u : View). IsInOrder (seeing h t u)) (sym is) (record {
        book = m.book;
        taken = m.taken;
        moved = m.moved;
        uses = m.uses;
        again = m.again;
        given_up = m.given_up;
        raised = m.raised;
        nodes = record {
          spent = record { each = m.nodes.spent.each };
          fresh = sight_other v t.view h.spare m.nodes.fresh;
        };
      })

-- a token that was split, or joined to another, has another sight and nothing else
pub split_sight : (v w : View) → w ≡ stays v → w ≡ with_sight v w
split_sight v w is = is ∙ ap (λ (u : View). with_sight v u) (sym is)

pub split_grows : (v w : View) → w ≡ stays v → IsPrefix v.front w.front
split_grows v w is = subst (λ (u : View). IsPrefix v.front u.front) (sym is) (prefix_refl v.front)

pub met_sight : (v n w : View) → Met (both_fronts v n) w → w ≡ with_sight v w
met_sight v n w m = m.view ∙ ap (λ (u : View). with_sight v u) (sym m.view)

-- and so has one that loaded words and made no event
pub read_sight : (v w : View) → Makes v [] w → w.last ≡ v.last → w ≡ with_sight v w
read_sight v w m last =
    let is : w ≡ grown_to v w = m.steps.view ∙ ap (λ (n : ℕ). moved_on v w.front n) last in
    is ∙ ap (λ (u : View). with_sight v u) (sym is)

pub read_grows : (v w : View) → Makes v [] w → IsPrefix v.front w.front
read_grows v w m = (makes_later v w [] m).grows
