-- A call whose exchange on an edge may leave the graph or carry the call out, from its entry to its reply.
use Rattle.std.proofs.Common.{◌≡◌, ℕ, ◌+◌, ◌^◌, ◌<◌, ◌≤◌, ◌&&◌, Bool, true, false, cond, List, [], ◌∷◌, None, Option}
use Rattle.std.proofs.Common.{Some, ap, inl, inr, refl, subst, arith, ⊎_elim}
use Rattle.graph_kinds.specs.declared.call.Call.{Call}
use Rattle.packed_link.specs.declared.link.Life.{Life}
use Rattle.core_journal.specs.declared.event.Event.{Event}
use Rattle.core_journal.specs.Event.{marks_vertex, moves, same_life}
use Rattle.core_journal.specs.Life.{vertex_marked}
use Rattle.core_journal.proofs.Lists.{any_more, prefix_refl}
use Rattle.core_counts.proofs.RaisesOfEdges.{once_lost}
use Rattle.core_kept.specs.Counts.{made, most_moves}
use Rattle.core_rule.specs.OwnEvents.{announce_event}
use Rattle.core_rule.specs.declared.view.View.{View}
use Rattle.core_stretches.specs.Moments.{Has}
use Rattle.core_stretches.proofs.MakesTell.{makes_counts, makes_later}
use Rattle.epoch_limbo.specs.Passes.{IsOpened}
use Rattle.edge_list.specs.EdgeMarks.{RaisedValue}
use Rattle.graph_updates.specs.EdgeRaises.{HasRaised, RaisesKept}
use Rattle.graph_updates.specs.Exchanges.{ExchangesOn, IsCallOn, IsOvertakenOn}
use Rattle.graph_updates.specs.Hands.{HandValue, IsInOrder}
use Rattle.graph_updates.specs.Parts.{LeavesGraph, RaisesDone, may_take}
use Rattle.graph_updates.specs.Replying.{IsDueOvertaken}
use Rattle.graph_updates.specs.declared.pairs.Ends.{Ends}
use Rattle.graph_kinds.specs.declared.call.Call.TheVariants.{AddEdge, RemoveEdge}
use Rattle.graph_updates.specs.EdgeAdding.{MatchEdgeAdding}
use Rattle.graph_updates.specs.declared.edge_adding.EdgeAdding.{EdgeAdding}
use Rattle.graph_updates.specs.declared.edge_adding.EdgeAdding.TheVariants as adding
use Rattle.graph_updates.specs.EdgeRemoving.{MatchEdgeRemoving}
use Rattle.graph_updates.specs.declared.edge_removing.EdgeRemoving.{EdgeRemoving}
use Rattle.graph_updates.specs.declared.edge_removing.EdgeRemoving.TheVariants as removing
use Rattle.graph_updates.proofs.CallsGo.{may_move, may_move_carried, opened_leaves}
use Rattle.graph_updates.proofs.LocatingTells.{between_earlier}
use Rattle.graph_updates.proofs.PartsLeave.{leaves_any, leaves_chain, leaves_less}
use Rattle.graph_updates.proofs.RaisesAddUp.{raised_chain, raised_left, raised_none}

-- the exchange, told of the whole call
module _ (call : Call) (a b taken : ℕ) (ends : Ends) (u v w x : View) (at : List Event) (few : taken ≤ 1)
    (o : IsOpened u v) (f : LeavesGraph false 0 1 w x) where
  wide : ExchangesOn call a b ends.from ends.to taken 0 v w at → ExchangesOn call a b ends.from ends.to 1 3 u x at
  wide h = record {
    before = h.before;
    done = h.done;
    event = h.event;
    first = leaves_less true (0 + taken) (0 + 0) 1 0 u h.before (omega (arith, few)) (omega arith)
        (leaves_chain true 0 0 taken 0 u v h.before (opened_leaves true u v o) h.first);
    makes = h.makes;
    unlike = h.unlike;
    on = h.on;
    at_is = h.at_is;
    last = leaves_less true (0 + 0) (0 + 1) 0 3 h.done x (omega arith) (omega arith)
        (leaves_chain true 0 0 0 1 h.done w x h.last (leaves_any true 0 1 w x f));
  }

  marked_later : (y : Life) → vertex_marked w.front y ≡ true → vertex_marked x.front y ≡ true
  marked_later y is =
      let stops = (makes_later w x f.own f.makes).grows in
      subst (λ (j : List Event). vertex_marked j y ≡ true) stops.whole
      (any_more (λ (e : Event). marks_vertex e.kind && same_life y e.life) w.front stops.rest is)

  pub due_overtaken : IsCallOn call a b → IsOvertakenOn call a b ends taken 0 v w at → IsDueOvertaken call u x at ends
  unfolding wide
  due_overtaken is h =
      let starts = (makes_later u v (announce_event u o.epoch ∷ []) o.makes).grows in
      record {
        from = a;
        to = b;
        call_is = is;
        on = record {
          exchange = wide h.exchange;
          from_then = h.from_then;
          from_there = between_earlier (Has a ends.from) u.front v.front h.exchange.before.front h.from_then starts
              h.from_there;
          to_then = h.to_then;
          to_there = between_earlier (Has b ends.to) u.front v.front h.exchange.before.front h.to_then starts
              h.to_there;
          marked = ⊎_elim (λ is. inl (marked_later ends.from is)) (λ is. inr (marked_later ends.to is)) h.marked;
        };
      }

-- the moves of the epoch are few still
pub may_move_exchanged : (old : HandValue) (v : View) → IsInOrder old → old.uses < 2 ^ 32 → IsOpened old.token.view v
    → (call : Call) (a b taken : ℕ) (source target : Life) (w : View) (at : List Event)
    → ExchangesOn call a b source target taken 0 v w at → made moves w.number w.front < most_moves
may_move_exchanged old v o few opened call a b taken source target w at h =
    let one = makes_counts moves h.before h.done (h.event ∷ []) h.makes in
    let last = makes_counts moves h.done w h.last.own h.last.makes in
    let none = h.last.shifts in
    let low = may_move old v o few opened true taken h.before h.first in
    let no_move = ap (λ (b : Bool). cond {A = ℕ} b 1 0) h.unlike.1.0 in
    omega (arith, one, last, none, low, no_move)

-- a hand in order raised for edges that are over, but for those that it gave up
pub order_raised : (h : HandValue) → IsInOrder h → HasRaised None h.token.view
order_raised h o = record {
  again = o.again;
  few = let given = o.given_up in let uses = o.uses in omega (arith, given, uses);
  once = o.raised;
}

-- what a call raised, of which it gave up the last at most
raised_last : (last : Option RaisedValue) (v w : View) → RaisesKept None last v w → RaisesDone 1 v w
raised_last None v w h = record {
  each = λ again r.
      let n = h.each again r in
      let few = n.few in
      record { edges = n.edges; apart = n.apart; linked = n.linked; over = n.over; few = omega (arith, few) };
}
raised_last (Some r) v w h = record {
  each = λ again s. once_lost w.number again r.edge.life [] w.front w.front (prefix_refl w.front)
      (λ i d low. absurd (omega (arith, low))) (h.each again s);
}

-- told of the whole call
pub raised_kept : (last : Option RaisedValue) (u v w x : View) → IsOpened u v → LeavesGraph false 0 1 w x
    → RaisesKept None last v w → RaisesDone 1 u x
raised_kept last u v w x o f h =
    let opened = raised_none u v (announce_event u o.epoch ∷ []) o.makes refl in
    raised_chain 1 0 u w x (raised_chain 0 1 u v w opened (raised_last last v w h)) (raised_left 0 1 w x f)

-- the moves are few still after removing an edge
pub unpairing_moves : (old begun now : HandValue) → IsInOrder old → old.uses < 2 ^ 32
    → IsOpened old.token.view begun.token.view → (r : EdgeRemoving) (a b tries : ℕ)
    → MatchEdgeRemoving r a b tries begun now
    → made moves now.token.view.number now.token.view.front < most_moves
unpairing_moves old begun now o few opened (removing.Marked weight m) a b tries h = may_move_carried old
    begun.token.view o few opened true (RemoveEdge a b) 0 now.token.view m.value.view.front h.carries
unpairing_moves old begun now o few opened (removing.Overtaken ends m) a b tries h = may_move_exchanged old
    begun.token.view o few opened (RemoveEdge a b) a b 0 ends.from ends.to now.token.view m.value.view.front
    h.on.exchange
unpairing_moves old begun now o few opened (removing.Lacks l) a b tries h = may_move old begun.token.view o few opened
    true h.0.taken now.token.view h.0.stretch
unpairing_moves old begun now o few opened removing.Again a b tries h = may_move old begun.token.view o few opened true
    h.0.taken now.token.view h.0.stretch

-- and after adding one
pub pairing_moves : (old begun now : HandValue) → IsInOrder old → old.uses < 2 ^ 32
    → IsOpened old.token.view begun.token.view → (r : EdgeAdding) (a b weight tries : ℕ)
    → MatchEdgeAdding r a b weight tries begun now
    → made moves now.token.view.number now.token.view.front < most_moves
pairing_moves old begun now o few opened (adding.Done outcome m) a b weight tries h = may_move_carried old
    begun.token.view o few opened true (AddEdge a b weight) (may_take begun.spare) now.token.view m.value.view.front
    h.carries
pairing_moves old begun now o few opened (adding.Overtaken ends m) a b weight tries h = may_move_exchanged old
    begun.token.view o few opened (AddEdge a b weight) a b (may_take begun.spare) ends.from ends.to now.token.view
    m.value.view.front h.on.exchange
pairing_moves old begun now o few opened (adding.Present s) a b weight tries h = may_move old begun.token.view o few
    opened true h.0.taken now.token.view h.0.stretch
pairing_moves old begun now o few opened (adding.Lacks l) a b weight tries h = may_move old begun.token.view o few
    opened true h.0.taken now.token.view h.0.stretch
pairing_moves old begun now o few opened (adding.FullAtGap q) a b weight tries h = may_move old begun.token.view o few
    opened true h.on.taken now.token.view h.on.stretch
pairing_moves old begun now o few opened (adding.FullAtEdge s) a b weight tries h = may_move old begun.token.view o few
    opened true h.on.taken now.token.view h.on.stretch
pairing_moves old begun now o few opened adding.Again a b weight tries h = may_move old begun.token.view o few opened
    true h.0.taken now.token.view h.0.stretch
