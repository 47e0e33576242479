-- What linking an edge tells: what filling its node and linking it came to, what that does to the graph, and what the
-- hand keeps and the call came to by it.
use Rattle.std.proofs.Common.{◌≡◌, ℕ, ◌&&◌, Bool, true, false, cond, List, [], ◌∷◌, ◌++◌, None, Some}
use Rattle.std.proofs.Common.{Option, inr, refl, sym, ap, ap₂, ◌∙◌, subst, arith}
use Rattle.std.specs.Prelude.{option_map}
use mathlib.Core.List.{append_cancel_right}
use Rattle.graph_kinds.specs.Answer.{answer, by_weight, plain, there_with}
use Rattle.graph_kinds.specs.Graph.{Graph, has, weight_of}
use Rattle.graph_kinds.specs.History.{Every}
use Rattle.graph_kinds.specs.declared.call.Call.TheVariants.{AddEdge}
use Rattle.graph_kinds.specs.declared.outcome.Outcome.TheVariants.{Added, NoVertex}
use Rattle.packed_link.specs.Layout.{IsLayout}
use Rattle.packed_link.specs.Link.{index_of}
use Rattle.packed_link.specs.declared.link.Life.{Life}
use Rattle.core_journal.specs.declared.event.Event.{Event}
use Rattle.core_journal.specs.GraphOf.{both, graph_of, present_key}
use Rattle.core_journal.specs.Life.{key_of, vertex_marked}
use Rattle.core_journal.specs.Prefix.{IsPrefix}
use Rattle.core_journal.proofs.Lists.{prefix_refl, prefix_snoc, prefix_trans}
use Rattle.core_journal.proofs.LivesOf.{key_of_life}
use Rattle.core_kept.specs.Kept.{IsKept}
use Rattle.core_kept.proofs.Induction.{kept_front, last_allowed}
use Rattle.core_lists.proofs.OneEdgeOfPair.{new_pair}
use Rattle.core_rule.specs.Fronts.{MetVertex, key_in}
use Rattle.core_rule.specs.OwnEvents.{link_edge_event}
use Rattle.core_rule.specs.Plays.{IsSound}
use Rattle.core_rule.specs.Stretches.{HasPass}
use Rattle.core_rule.specs.declared.view.View.{View}
use Rattle.core_rule.proofs.ViewShows.{key_shown, vertex_still}
use Rattle.core_stretches.specs.Holdings.{IsFilledAsEdge, IsHeldFresh}
use Rattle.core_stretches.specs.Makes.{Makes, StaysInPass, of_kinds}
use Rattle.core_stretches.specs.Moments.{Carries}
use Rattle.core_stretches.proofs.MakesTell.{makes_goes, makes_later}
use Rattle.node_arena.specs.Filling.{edge_stores}
use Rattle.node_arena.specs.declared.taking.Taken.{Taken}
use Rattle.node_arena.specs.declared.taking.Taken.TheVariants as taken
use Rattle.edge_list.specs.EdgeChanges.{IsEdgeLinked, MatchEdgeLinked}
use Rattle.edge_list.specs.EdgePositions.{EdgePositionValue, IsFilledForGap, IsGapOfEdge}
use Rattle.edge_list.specs.declared.changes.EdgeLinked.{EdgeLinked}
use Rattle.edge_list.specs.declared.changes.EdgeLinked.TheVariants.{Done, Lost}
use Rattle.edge_list.proofs.EdgePositionsGoOn.{edge_gap_makes, edge_place_apart}
use Rattle.graph_table.specs.Tokens.{IsOf, TableValue, TokenValue}
use Rattle.graph_updates.specs.Adding.{Readies, IsPlaceLost}
use Rattle.graph_updates.specs.EdgeChanging.{MatchNodeReady, holding}
use Rattle.graph_updates.specs.EdgeLinking.{IsAtFree, MatchEdgePut, IsEdgePut}
use Rattle.graph_updates.specs.Exchanges.{IsOnPair}
use Rattle.graph_updates.specs.Hands.{HandValue, HasItsNodes, IsHandOf}
use Rattle.graph_updates.specs.Parts.{GoesOnBy, IsReadying, Fell}
use Rattle.graph_updates.proofs.AddingAddsUp.{leaves_by_loads}
use Rattle.graph_updates.proofs.AddingTells.{place_lost, ready_stays}
use Rattle.graph_updates.proofs.AddingTries.{calm_hand, calm_nodes, calm_pass, readies_calm, readies_leave}
use Rattle.graph_updates.proofs.AddingTries.{readies_quiet, readies_stays, with_spare, calm_by_kind}
use Rattle.graph_updates.proofs.AddingTries.{calm_numbered}
use Rattle.graph_updates.proofs.BurialLists.{every_map, every_both}
use Rattle.graph_updates.proofs.EndsTell.{key_later}
use Rattle.graph_updates.proofs.PairsTell.{present_then}
use Rattle.graph_updates.proofs.PartsLeave.{IsCalm, kinds_both, leaves_raising, other_goes}
use Rattle.core_journal.specs.Event.{raises}
use Rattle.core_stretches.proofs.MakesAddUp.{makes_chain}
use Rattle.graph_updates.specs.EdgeAdding.{IsUnraised, MatchConcluded, MatchPlaced}
use Rattle.graph_updates.specs.declared.edge_adding.AddTurn.{AddTurn}
use Rattle.graph_updates.specs.declared.edge_adding.AddTurn.TheVariants as turn
use Rattle.graph_updates.specs.declared.pairs.Ends.{Ends}
use Rattle.graph_updates.proofs.OwnChanges.{until_grows}

-- a node is made ready at the free list's word
pub at_free : (r : Taken) (old new : HandValue) → MatchNodeReady r old new → IsAtFree old.token.view new.token.view
at_free (taken.Node x) old new n = record {
  own = n.unraised.own;
  stays = n.unraised.stays;
  at = n.at;
  makes = n.unraised.makes;
  raised = n.unraised.raised;
}
at_free taken.Empty old new n = record { own = []; stays = tt; at = tt; makes = n.0.makes; raised = refl }
at_free taken.Lost old new n = record { own = []; stays = tt; at = tt; makes = n.0.makes; raised = refl }

-- a node is filled as an edge, and the position stays
module _ (v u : View) (x : Life) (key next weight : ℕ) (target : Life) (z : IsLayout v.sizes)
    (makes : Makes v (edge_stores v x key next target weight) u) where
  pub filled_edge_readies : Readies 0 v u
  filled_edge_readies = record {
    own = edge_stores v x key next target weight;
    are = (inr refl, (inr refl, (inr refl, (inr refl, tt))));
    makes = makes;
    takes = omega arith;
  }

  filled_stays : Every StaysInPass (edge_stores v x key next target weight)
  filled_stays = every_map (λ (e : Event). IsReadying e.kind) StaysInPass ready_stays
      (edge_stores v x key next target weight) (inr refl, (inr refl, (inr refl, (inr refl, tt))))

  pub filled_edge_gap : (p : EdgePositionValue) → IsHeldFresh v x → IsGapOfEdge v p → IsGapOfEdge u p
  filled_edge_gap p held gap = edge_gap_makes v u (edge_stores v x key next target weight) p z filled_stays (
    edge_place_apart false v p x 0 z (omega arith) held gap.position,
    (
      edge_place_apart false v p x 1 z (omega arith) held gap.position,
      (
        edge_place_apart false v p x 2 z (omega arith) held gap.position,
        (edge_place_apart false v p x 3 z (omega arith) held gap.position, tt),
      ),
    ),
  )
      makes gap

  -- it's filled for it
  pub filled_for_gap : (p : EdgePositionValue) → IsSound u → p.key ≡ key → next ≡ index_of p.word
      → MetVertex v target → key_of v.front target ≡ Some key → IsFilledAsEdge u key next target weight x
      → IsFilledForGap u p target weight x
  filled_for_gap p sound key_is next_is met linked filled =
      let g = makes_goes v u (edge_stores v x key next target weight) filled_stays makes in
      let later = makes_later v u (edge_stores v x key next target weight) makes in
      let z_u = subst IsLayout (sym later.sizes) z in
      let met_u = vertex_still v u z g target met in
      let same : Some (key_in u target.index) ≡ Some key = sym (key_shown u z_u sound.kept target met_u)
      ∙ key_later v u later.grows target key linked in
      record {
        filled = subst (λ (k : ℕ). IsFilledAsEdge u k (index_of p.word) target weight x) (sym key_is)
            (subst (λ (n : ℕ). IsFilledAsEdge u key n target weight x) next_is filled);
        to = met_u;
        to_key = (let t = same in cc) ∙ sym key_is;
      }

-- what linking it came to
pub put_told : (r : EdgeLinked) (p : EdgePositionValue) (target : Life) (weight : ℕ) (x : Life) (v u w : View)
    → IsLayout u.sizes → Readies 0 v u → IsHeldFresh u x → MatchEdgeLinked r p target weight x u w
    → MatchEdgePut r p target weight x v w
put_told (Done life) p target weight x v u w z first held m = record { before = u; first = first; linked = m.1 }
put_told (Lost fresh) p target weight x v u w z first held m = (
  m.0,
  place_lost v u w x p.moment p.place z first held m.1.makes m.1.changed,
)

-- a missing pair is answered Added
added_answer : (g : Graph) (a b w : ℕ) → has g a ≡ true → has g b ≡ true → weight_of g a b ≡ None
    → plain Added ≡ answer g (AddEdge a b w)
unfolding answer
added_answer g a b w from to none = sym (ap₂
    (λ (x y : Bool). cond (x && y) (by_weight (weight_of g a b) (there_with w) Added) (plain NoVertex)) from to
    ∙ ap (λ (o : Option ℕ). by_weight o (there_with w) Added) none)

-- an edge was linked between two lives that have the keys of a pair
module _ (a b : ℕ) (p : EdgePositionValue) (target : Life) (weight : ℕ) (x : Life) (before u : View)
    (l : IsEdgeLinked p target weight x before u) (z : IsLayout u.sizes) (kept : IsKept u.sizes u.front)
    (source_key : key_of l.carries.past p.source ≡ Some a) (target_key : key_of l.carries.past target ≡ Some b) where
  abbrev event : Event
  event = link_edge_event before p.place p.word p.key p.source target weight x

  abbrev past : List Event
  past = l.carries.past

  until : IsPrefix past u.front
  until = subst (IsPrefix past) (sym l.carries.front) (prefix_snoc past event)

  kept_past : IsKept u.sizes past
  kept_past = kept_front u.sizes past u.front until kept

  kept_event : IsKept u.sizes (past ++ event ∷ [])
  kept_event = subst (IsKept u.sizes) l.carries.front kept

  pub link_on_pair : IsOnPair (AddEdge a b weight) a b p.source target event u
  link_on_pair = record {
    past = past;
    front = l.carries.front;
    by = l.carries.by;
    link = event;
    edge = refl;
    source_is = refl;
    target_is = refl;
    call_is = ap₂ (λ (i j : Option ℕ). option_map (λ (q : ℕ × ℕ). AddEdge q.0 q.1 weight) (both i j)) source_key
        target_key;
    present = l.carries.present a b;
    missing = l.carries.missing;
  }

  -- both ends were alive after that: the edge was added
  module _ (from : vertex_marked u.front p.source ≡ false) (to : vertex_marked u.front target ≡ false) where
    from_there : present_key past p.source ≡ Some a
    from_there = present_then past past u.front (prefix_refl past) until p.source a source_key from

    to_there : present_key past target ≡ Some b
    to_there = present_then past past u.front (prefix_refl past) until target b target_key to

    pub link_carries : Carries (AddEdge a b weight) event u
    link_carries = l.carries.present a b from_there to_there

    pub link_reply : plain Added ≡ answer (graph_of link_carries.past) (AddEdge a b weight)
    link_reply =
        let same : link_carries.past ≡ past = append_cancel_right link_carries.past past (event ∷ [])
        (sym link_carries.front ∙ l.carries.front) in
        let none = new_pair u.sizes z past kept_past event a b (last_allowed u.sizes past event kept_event).as_kind
        from_there to_there in
        added_answer (graph_of past) a b weight (key_of_life past p.source a from_there)
        (key_of_life past target b to_there) none
        ∙ ap (λ (q : List Event). answer (graph_of q) (AddEdge a b weight)) (sym same)

-- a hand that had a node as its spare one filled it and linked it
module _ (g : TableValue) (h : HandValue) (x : Life) (t : TokenValue) (p : EdgePositionValue) (target : Life)
    (weight : ℕ) (of : IsHandOf g (holding h x)) (now : IsOf g t)
    (q : IsEdgePut p target weight x h.token.view t.view) where
  abbrev put_event : Event
  put_event = link_edge_event q.before p.place p.word p.key p.source target weight x

  abbrev put_own : List Event
  put_own = q.first.own ++ put_event ∷ []

  put_makes : Makes h.token.view put_own t.view
  put_makes = makes_chain h.token.view q.before t.view q.first.own (put_event ∷ []) q.first.makes q.linked.makes

  put_calm : Every IsCalm put_own
  put_calm = every_both IsCalm q.first.own (put_event ∷ []) (readies_calm 0 h.token.view q.before q.first)
      (calm_by_kind put_event refl (λ is. absurd (cc)) (λ is. absurd (cc)), tt)

  put_stays : Every StaysInPass put_own
  put_stays = every_both StaysInPass q.first.own (put_event ∷ []) (readies_stays 0 h.token.view q.before q.first)
      (((λ is. absurd (cc)), (λ is. absurd (cc))), tt)

  put_quiet : of_kinds raises put_own ≡ 0
  put_quiet =
      let both = kinds_both raises q.first.own (put_event ∷ []) in
      let none = readies_quiet 0 h.token.view q.before q.first in
      omega (arith, both, none)

  pub put_numbered : t.view.numbered ≡ true
  put_numbered = calm_numbered g (holding h x) t.view put_own of put_makes put_calm

  pub put_met : (y : Life) → MetVertex h.token.view y → MetVertex t.view y
  put_met y met = vertex_still h.token.view t.view of.of.layout
      (makes_goes h.token.view t.view put_own put_stays put_makes) y met

  -- and then the links of both ends were loaded
  module _ (u : TokenValue) (after : IsOf g u) (loads : Makes t.view [] u.view) where
    done_makes : Makes h.token.view (put_own ++ []) u.view
    done_makes = makes_chain h.token.view t.view u.view put_own [] put_makes loads

    done_calm : Every IsCalm (put_own ++ [])
    done_calm = every_both IsCalm put_own [] put_calm tt

    done_stays : Every StaysInPass (put_own ++ [])
    done_stays = every_both StaysInPass put_own [] put_stays tt

    pub done_hand : IsHandOf g (with_spare h u None)
    done_hand = calm_hand g (holding h x) u (put_own ++ []) of done_makes done_calm after None tt

    pub done_pass : HasPass h.token.view → HasPass u.view
    done_pass opened = calm_pass g (holding h x) u.view (put_own ++ []) of done_makes done_calm done_stays opened

    done_nodes : HasItsNodes (holding h x) → HasItsNodes (with_spare h u None)
    done_nodes nodes = calm_nodes g (holding h x) u (put_own ++ []) of done_makes done_calm after None nodes
        (other_goes t.view u.view [] now.layout loads tt tt None tt q.linked.none)

    pub done_unraised : IsUnraised h.token.view u.view
    done_unraised = record {
      own = put_own ++ [];
      stays = done_stays;
      makes = done_makes;
      raised = let both = kinds_both raises put_own [] in let none = put_quiet in omega (arith, both, none);
    }

    module _ (ends : Ends) (a : ℕ) (full : AddTurn) (nodes : HasItsNodes (holding h x))
        (source : p.source ≡ ends.from) (to : target ≡ ends.to) (from_key : key_of h.token.view.front ends.from ≡ Some
        a)
        (to_key : key_of h.token.view.front ends.to ≡ Some p.key) where
      past_since : IsPrefix h.token.view.front q.linked.carries.past
      past_since = prefix_trans h.token.view.front q.before.front q.linked.carries.past
          (makes_later h.token.view q.before q.first.own q.first.makes).grows
          (until_grows q.before t.view put_event q.linked.makes q.linked.carries.past q.linked.carries.front
          q.linked.carries.by)

      source_key : key_of q.linked.carries.past p.source ≡ Some a
      source_key = ap (key_of q.linked.carries.past) source ∙ key_grows ends.from a from_key
        where
          key_grows : (y : Life) (k : ℕ) → key_of h.token.view.front y ≡ Some k
              → key_of q.linked.carries.past y ≡ Some k
          key_grows y k is = key_later h.token.view (record h.token.view { front = q.linked.carries.past }) past_since y
              k is

      target_key : key_of q.linked.carries.past target ≡ Some p.key
      target_key = ap (key_of q.linked.carries.past) to
          ∙ key_later h.token.view (record h.token.view { front = q.linked.carries.past }) past_since ends.to p.key
          to_key

      pub done_placed : (r : AddTurn) → MatchConcluded r Added ends t u
          → MatchPlaced r Added full ends a p.key weight p.moment (holding h x) (with_spare h u None)
      done_placed (turn.Done o m) c =
          let from = ap (vertex_marked t.view.front) source ∙ c.1.from in
          let over = ap (vertex_marked t.view.front) to ∙ c.1.to in (
            c.0,
            record {
              carries = record {
                before = q.before;
                done = t.view;
                event = put_event;
                first = leaves_raising false 0 0 h.token.view q.before
                    (readies_leave 0 h.token.view q.before q.first);
                makes = q.linked.makes;
                unlike = (refl, (refl, refl));
                carries = link_carries a p.key p target weight x q.before t.view q.linked now.layout now.sound.kept
                    source_key target_key from over;
                at_is = c.1.moment;
                last = leaves_by_loads true t.view u.view loads;
              };
              changes = refl;
              reply = link_reply a p.key p target weight x q.before t.view q.linked now.layout now.sound.kept source_key
                  target_key from over;
              spare = refl;
              nodes = done_nodes nodes;
              uses = refl;
            },
          )
      done_placed (turn.Overtaken e m) c = (
        c.0,
        record {
          exchange = record {
            before = q.before;
            done = t.view;
            event = put_event;
            first = leaves_raising false 0 0 h.token.view q.before (readies_leave 0 h.token.view q.before q.first);
            makes = q.linked.makes;
            unlike = (refl, (refl, refl));
            on = subst (λ (y : Life). IsOnPair (AddEdge a p.key weight) a p.key ends.from y put_event t.view) to
                (subst (λ (y : Life). IsOnPair (AddEdge a p.key weight) a p.key y target put_event t.view) source
                (link_on_pair a p.key p target weight x q.before t.view q.linked now.layout now.sound.kept source_key
                target_key));
            at_is = c.1.0;
            last = leaves_by_loads true t.view u.view loads;
          };
          marked = c.1.1;
          spare = refl;
          nodes = done_nodes nodes;
          uses = refl;
        },
      )
      done_placed (turn.Present s) c = absurd c
      done_placed (turn.Lacks l) c = absurd c
      done_placed (turn.FullAtGap b) c = absurd c
      done_placed (turn.FullAtEdge s) c = absurd c
      done_placed (turn.Stale m) c = absurd c
      done_placed turn.Lost c = absurd c

-- another caller changed the list: the node is the spare one
module _ (g : TableValue) (h : HandValue) (x : Life) (t : TokenValue) (since : List Event)
    (of : IsHandOf g (holding h x)) (now : IsOf g t)
    (l : IsPlaceLost since (Some x) h.token.view t.view (Some x)) where
  pub missed_hand : IsHandOf g (with_spare h t (Some x))
  missed_hand = calm_hand g (holding h x) t l.first.own of l.first.makes
      (readies_calm l.taken h.token.view t.view l.first) now (Some x) l.held

  pub missed_pass : HasPass h.token.view → HasPass t.view
  missed_pass opened = calm_pass g (holding h x) t.view l.first.own of l.first.makes
      (readies_calm l.taken h.token.view t.view l.first) (readies_stays l.taken h.token.view t.view l.first) opened

  pub missed_unraised : IsUnraised h.token.view t.view
  missed_unraised = record {
    own = l.first.own;
    stays = readies_stays l.taken h.token.view t.view l.first;
    makes = l.first.makes;
    raised = readies_quiet l.taken h.token.view t.view l.first;
  }

  pub missed_placed : HasItsNodes (holding h x)
      → GoesOnBy true (holding h x) (with_spare h t (Some x)) × Fell 1 t.view.number since t.view.front
  missed_placed nodes = (
    record {
      taken = l.taken;
      stretch = leaves_raising false l.taken 0 h.token.view t.view (readies_leave l.taken h.token.view t.view l.first);
      spares = l.spares;
      nodes = calm_nodes g (holding h x) t l.first.own of l.first.makes
          (readies_calm l.taken h.token.view t.view l.first) now (Some x) nodes l.other;
      uses = refl;
    },
    l.fell,
  )
