-- What the events on edges do to the lists and to the graph.
use Rattle.std.proofs.Common.{◌≡◌, ℕ, List, Some, refl, ap, ◌∙◌}
use Rattle.std.specs.Prelude.{option_map, option_and_then}
use Rattle.packed_link.specs.Layout.{Sizes, IsLayout}
use Rattle.graph_kinds.specs.declared.call.Call.TheVariants.{AddEdge, RemoveEdge}
use Rattle.core_journal.specs.declared.event.Kind.{Kind}
use Rattle.core_journal.specs.declared.event.Kind.TheVariants.{LinkEdge, MarkEdge, UnlinkEdge, FreezeHead, FreezeEdge}
use Rattle.core_journal.specs.declared.event.Event.{Event}
use Rattle.core_journal.specs.Event.{marks_edge}
use Rattle.core_journal.specs.Changes.{is_idle}
use Rattle.core_journal.specs.GraphOf.{graph_of, both, ends_of, call_by, call_of, present_key, present_pair}
use Rattle.core_journal.proofs.Calls.{adds_edge, removes_edge}
use Rattle.core_journal.proofs.GraphRows.{idle_graph, hidden_graph, new_edge_graph, no_edge_graph, removed_edge_graph}
use Rattle.core_journal.proofs.GraphRows.{frozen_graph}
use Rattle.core_journal.proofs.LivesOf.{present_is, joined_is, key_of_life, only_pair}
use Rattle.core_kept.specs.Kept.{AllowedAs, IsKept}
use Rattle.core_kept.specs.Nodes.{node_in}
use Rattle.core_kept.specs.Edges.{IsLinkEdge, IsMarkEdge, IsUnlinkEdge}
use Rattle.core_kept.specs.Freezing.{IsFreezeHead, IsFreezeEdge}
use Rattle.core_lists.specs.Effects.{OthersThanList, AddsEdge, RemovesEdge, UnlinksEdge, ClosesList, FreezesEdge}
use Rattle.core_lists.proofs.BucketChains.{IsOffBuckets}
use Rattle.core_kept.proofs.EdgeEnds.{new_edge, frozen_edge}
use Rattle.core_lists.proofs.EventsOnLists.{OtherLists, link_spot_of, link_step, link_rest, cut_spot_of, cut_step}
use Rattle.core_lists.proofs.EventsOnLists.{cut_rest, mark_step, mark_rest, close_step, close_rest, freeze_end}
use Rattle.core_lists.proofs.EventsOnLists.{freeze_step, freeze_rest}
use Rattle.core_lists.proofs.OneEdgeOfPair.{new_pair, removed_pair}
use Rattle.core_lists.proofs.VertexEffects.{carries, buckets_stay}

module _ (sizes : Sizes) (z : IsLayout sizes) (past : List Event) (e : Event) (kept : IsKept sizes past) where
  -- an event that changes one list, as the lists of the other vertices say
  others : (k : Kind) → e.kind ≡ k → IsOffBuckets k → AllowedAs k sizes past e → (home : ℕ)
      → OtherLists sizes z past e kept home → OthersThanList sizes past e home
  others k is off ok home stay = record { buckets = buckets_stay sizes z past e kept k is off ok; lists = stay }

  pub adds_edge_of : e.kind ≡ LinkEdge → IsLinkEdge sizes past e → AddsEdge sizes past e
  adds_edge_of is ok =
      let s = link_spot_of sizes z past e kept ok in
      let call : (a b : ℕ) → present_key past e.source ≡ Some a → present_key past e.target ≡ Some b
      → call_of past e ≡ Some (AddEdge a b e.weight) = λ a b from to.
      ap (λ (k : Kind). call_by k past e) is ∙ (λ i. option_map (λ (p : ℕ × ℕ). AddEdge p.0 p.1 e.weight)
      (both ((present_is past e.source a from).1 i) ((present_is past e.target b to).1 i))) in
      let new = new_edge sizes z past e kept is ok in
      record {
        at = s.at;
        place = s.place;
        chain = link_step sizes z past e kept is ok s;
        others = others LinkEdge is tt ok e.source.index (link_rest sizes z past e kept is ok);
        call = call;
        graph = λ a b from to. carries past e (AddEdge a b e.weight) (call a b from to)
            (adds_edge (graph_of past) a b e.weight (key_of_life past e.source a from) (key_of_life past e.target b to)
            (new_pair sizes z past kept e a b ok from to)) (new_edge_graph past e a b new from to);
        none = λ gone. no_edge_graph past e new gone;
      }

  pub removes_edge_of : e.kind ≡ MarkEdge → IsMarkEdge sizes past e → RemovesEdge sizes past e
  removes_edge_of is ok =
      let call : (a b w : ℕ) → present_pair past e.life ≡ Some ((a, b), w) → call_of past e ≡ Some
      (RemoveEdge a b) = λ a b w h.
      let j = joined_is past e.life a b w h in
      ap (λ (k : Kind). call_by k past e) is ∙ (ap (λ o. option_map (λ (p : ℕ × ℕ). RemoveEdge p.0 p.1)
      (option_and_then (ends_of past) o)) j.is
      ∙ (λ i. option_map (λ (p : ℕ × ℕ). RemoveEdge p.0 p.1) (both ((present_is past j.link.source a j.source).1 i)
      ((present_is past j.link.target b j.target).1 i)))) in
      record {
        source = (node_in sizes past e.life.index).source.index;
        of_source = refl;
        chain = mark_step sizes z past e kept is ok;
        others = others MarkEdge is tt ok (node_in sizes past e.life.index).source.index
            (mark_rest sizes z past e kept is ok);
        call = call;
        graph = λ a b w h.
            let j = joined_is past e.life a b w h in
            let r = removed_pair sizes z past kept e a b w is h in
            carries past e (RemoveEdge a b) (call a b w h)
            (removes_edge (graph_of past) a b w (key_of_life past j.link.source a j.source)
            (key_of_life past j.link.target b j.target) (only_pair past e.life a b w h r.only))
            (removed_edge_graph past e a b r);
        none = λ gone. hidden_graph past e (ap marks_edge is) gone;
      }

  pub unlinks_edge : e.kind ≡ UnlinkEdge → IsUnlinkEdge sizes past e → UnlinksEdge sizes past e
  unlinks_edge is ok =
      let s = cut_spot_of sizes z past e kept ok in
      record {
        source = (node_in sizes past e.life.index).source.index;
        of_source = refl;
        at = s.at;
        place = s.place;
        chain = cut_step sizes z past e kept is ok s;
        others = others UnlinkEdge is tt ok (node_in sizes past e.life.index).source.index
            (cut_rest sizes z past e kept is ok);
        graph = idle_graph past e (ap is_idle is);
      }

  pub closes : e.kind ≡ FreezeHead → IsFreezeHead sizes past e → ClosesList sizes past e
  closes is ok = record {
    chain = close_step sizes z past e kept is ok;
    others = others FreezeHead is tt ok e.life.index
        (close_rest sizes z past e kept is ok);
    graph = idle_graph past e (ap is_idle is);
  }

  pub freezes : e.kind ≡ FreezeEdge → IsFreezeEdge sizes past e → FreezesEdge sizes past e
  freezes is ok =
      let d = freeze_end sizes z past e kept ok in
      record {
        source = (node_in sizes past e.life.index).source.index;
        of_source = refl;
        end = d.at;
        chain = freeze_step sizes z past e kept is ok d;
        others = others FreezeEdge is tt ok (node_in sizes past e.life.index).source.index
            (freeze_rest sizes z past e kept is ok);
        graph = frozen_graph past e (frozen_edge sizes z past e kept is ok);
      }
