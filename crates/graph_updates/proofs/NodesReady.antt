-- What it tells that a node was made ready for an edge: the hand's spare one, or one that was taken.
use Rattle.std.proofs.Common.{◌≡◌, true, false, [], None, Some, inl, inr, refl, ap, subst, arith, ⊎_elim}
use Rattle.packed_link.specs.Layout.{Sizes, free_at}
use Rattle.core_journal.specs.Event.{raises}
use Rattle.core_journal.specs.Life.{vertex_marked}
use Rattle.core_journal.specs.Prefix.{IsPrefix}
use Rattle.core_journal.specs.Right.{NoneFree}
use Rattle.core_lists.proofs.ChangedByAnother.{change_counts}
use Rattle.core_stretches.specs.Makes.{Makes}
use Rattle.core_stretches.proofs.MakesTell.{makes_later}
use Rattle.node_arena.specs.declared.taking.Taken.{Taken}
use Rattle.node_arena.specs.declared.taking.Taken.TheVariants as taken
use Rattle.graph_table.specs.Tokens.{IsOf, TableValue, TokenValue}
use Rattle.graph_updates.specs.Adding.{MatchNode}
use Rattle.graph_kinds.specs.declared.outcome.Outcome.{Outcome}
use Rattle.graph_updates.specs.EdgeAdding.{MatchConcluded}
use Rattle.graph_updates.specs.declared.edge_adding.AddTurn.{AddTurn}
use Rattle.graph_updates.specs.declared.edge_adding.AddTurn.TheVariants as turn
use Rattle.graph_updates.specs.declared.pairs.Ends.{Ends}
use Rattle.graph_updates.specs.EdgeChanging.{IsNoneReady, MatchNodeReady}
use Rattle.graph_updates.specs.Hands.{HandValue, HasItsNodes, IsHandOf}
use Rattle.graph_updates.specs.Parts.{IsReadying, may_take}
use Rattle.graph_updates.proofs.AddingAddsUp.{fell_since, leaves_by_loads}
use Rattle.graph_updates.proofs.AddingTries.{calm_hand, calm_nodes, readies_calm, readies_leave, readies_stays}
use Rattle.graph_updates.proofs.AddingTries.{still_none, with_spare}
use Rattle.graph_updates.proofs.EdgeRaisesTell.{vertex_later}
use Rattle.graph_updates.proofs.PartsLeave.{each_kind, leaves_any, no_kinds, only_fresh}

module _ (g : TableValue) (h : HandValue) (t : TokenValue) (of : IsHandOf g h) (now : IsOf g t) where
  pub ready_hand : (r : Taken) → MatchNode r h.spare h.token.view t.view → IsHandOf g (with_spare h t None)
  ready_hand (taken.Node x) k = calm_hand g h t k.readied.own of k.readied.makes
      (readies_calm (may_take h.spare) h.token.view t.view k.readied) now None tt
  ready_hand taken.Empty k = calm_hand g h t [] of k.1.makes tt now None tt
  ready_hand taken.Lost k = calm_hand g h t [] of k.1.makes tt now None tt

  module _ (n : HasItsNodes h) where
    none_ready : h.spare ≡ None → Makes h.token.view [] t.view → IsNoneReady h (with_spare h t None)
    none_ready bare makes =
        let held = ap may_take bare in
        record {
          spare = refl;
          on = record {
            taken = 0;
            stretch = leaves_by_loads true h.token.view t.view makes;
            spares = omega (arith, held);
            nodes = calm_nodes g h t [] of makes tt now None n (still_none g h t.view of makes bare n);
            uses = refl;
          };
          makes = makes;
        }

    pub node_ready : (r : Taken) → MatchNode r h.spare h.token.view t.view → MatchNodeReady r h (with_spare h t None)
    node_ready (taken.Node x) k =
        let v = h.token.view in
        let w = t.view in
        let a = may_take h.spare in
        record {
          spare = refl;
          held = k.held;
          on = record {
            taken = a;
            stretch = leaves_any true a 0 v w (readies_leave a v w k.readied);
            spares = omega arith;
            nodes = calm_nodes g h t k.readied.own of k.readied.makes (readies_calm a v w k.readied) now (Some x) n
                (only_fresh w x now.sound.kept k.held);
            uses = refl;
          };
          unraised = record {
            own = k.readied.own;
            stays = readies_stays a v w k.readied;
            makes = k.readied.makes;
            raised = no_kinds raises k.readied.own (each_kind IsReadying (λ d. raises d ≡ false)
                (λ d i. ⊎_elim (λ is. ap raises is) (λ is. ap raises is) i) k.readied.own k.readied.are);
          };
          at = k.at;
        }
    node_ready taken.Empty k = (
      none_ready k.0 k.1.makes,
      subst (λ (s : Sizes). NoneFree s t.view.front) (makes_later h.token.view t.view [] k.1.makes).sizes
          (record { empty = k.1.empty }),
    )
    node_ready taken.Lost k = (
      none_ready k.0 k.1.makes,
      fell_since 1 t.view.number h.token.view.front k.1.loaded t.view.front k.1.found.since k.1.found.until
          (record { least = change_counts k.1.loaded t.view.front t.view.number (free_at t.view.sizes) k.1.changed }),
    )

-- what the loads of both ends told stays so
pub concluded_on : (r : AddTurn) (outcome : Outcome) (ends : Ends) (t u w : TokenValue)
    → IsPrefix u.view.front w.view.front → MatchConcluded r outcome ends t u → MatchConcluded r outcome ends t w
concluded_on (turn.Done o m) outcome ends t u w p h = h
concluded_on (turn.Overtaken e m) outcome ends t u w p h = (
  h.0,
  (
    h.1.0,
    ⊎_elim
        (λ (over : vertex_marked u.view.front ends.from ≡ true).
        inl (vertex_later u.view.front w.view.front p ends.from over))
        (λ (over : vertex_marked u.view.front ends.to ≡ true).
        inr (vertex_later u.view.front w.view.front p ends.to over))
        h.1.1,
  ),
)
concluded_on (turn.Present s) outcome ends t u w p h = absurd h
concluded_on (turn.Lacks l) outcome ends t u w p h = absurd h
concluded_on (turn.FullAtGap q) outcome ends t u w p h = absurd h
concluded_on (turn.FullAtEdge s) outcome ends t u w p h = absurd h
concluded_on (turn.Stale s) outcome ends t u w p h = absurd h
concluded_on turn.Lost outcome ends t u w p h = absurd h
