-- Each kind has its effect on the chains and the graph, and kept journals are regular.
use Rattle.std.proofs.Common.{◌≡◌, ℕ, false, [], ◌∷◌, ◌++◌, List, Option, Some, None, refl, ap}
use Rattle.packed_link.specs.Layout.{Sizes, IsLayout}
use Rattle.core_journal.specs.declared.event.Kind.{Kind}
use Rattle.core_journal.specs.declared.event.Kind.TheVariants.{LinkVertex, MarkVertex, UnlinkVertex, LinkEdge, MarkEdge}
use Rattle.core_journal.specs.declared.event.Kind.TheVariants.{UnlinkEdge, FreezeHead, FreezeEdge, ReplaceEdge}
use Rattle.core_journal.specs.declared.event.Event.{Event}
use Rattle.core_journal.specs.Event.{marks_vertex, marks_edge}
use Rattle.core_journal.specs.Changes.{is_idle}
use Rattle.core_journal.specs.GraphOf.{both, weighed, present_key, present_pair, IsRegularEvent, IsRegular}
use Rattle.core_journal.proofs.GraphRows.{idle_graph, frozen_graph}
use Rattle.core_journal.proofs.Regular.{regular_still, new_vertex_regular, removed_vertex_regular, new_edge_regular}
use Rattle.core_journal.proofs.Regular.{no_edge_regular, removed_edge_regular, hidden_regular, idle_regular}
use Rattle.core_journal.proofs.Regular.{regular_snoc}
use Rattle.core_kept.specs.Edges.{IsLinkEdge}
use Rattle.core_lists.specs.Effects.{EffectAs}
use Rattle.core_kept.specs.Kept.{AllowedAs, IsKept}
use Rattle.core_kept.specs.Nodes.{node_in}
use Rattle.core_lists.proofs.EdgeEffects.{adds_edge_of, removes_edge_of, unlinks_edge, closes, freezes}
use Rattle.core_kept.proofs.EdgeEnds.{new_vertex, new_edge, frozen_edge}
use Rattle.core_kept.proofs.Induction.{kept_all}
use Rattle.core_lists.proofs.EventsOnLists.{lists_stay}
use Rattle.core_lists.proofs.OneEdgeOfPair.{new_pair, removed_pair}
use Rattle.core_lists.proofs.ReplaceEffects.{replace_regular, replaces_edge_of}
use Rattle.core_lists.proofs.VertexEffects.{buckets_stay, new_key, adds, removed, removes, unlinks_vertex}
use Rattle.core_journal.specs.GraphOf.{changes}
use Rattle.core_journal.proofs.Regular.{changes_not}
use Rattle.core_kept.proofs.Induction.{past_kept}
use Rattle.core_lists.proofs.EventKeepsRest.{allowed_as}

module _ (sizes : Sizes) (z : IsLayout sizes) (past : List Event) (e : Event) (kept : IsKept sizes past) where
  -- an edge that is linked is regular, whether or not its ends are present
  link_regular : e.kind ≡ LinkEdge → IsLinkEdge sizes past e → IsRegularEvent past e
  link_regular is ok = by (present_key past e.source) (present_key past e.target) refl refl
    where
      by : (s t : Option ℕ) → present_key past e.source ≡ s → present_key past e.target ≡ t → IsRegularEvent past e
      by (Some a) (Some b) p q = new_edge_regular past e a b (new_edge sizes z past e kept is ok) p q
          (new_pair sizes z past kept e a b ok p q)
      by None t p q = no_edge_regular past e (new_edge sizes z past e kept is ok)
          (λ i. weighed e.weight (both (p i) (q i)))
      by (Some a) None p q = no_edge_regular past e (new_edge sizes z past e kept is ok)
          (λ i. weighed e.weight (both (p i) (q i)))

  -- so is one that is marked
  mark_regular : e.kind ≡ MarkEdge → IsRegularEvent past e
  mark_regular is = by (present_pair past e.life) refl
    where
      by : (o : Option ((ℕ × ℕ) × ℕ)) → present_pair past e.life ≡ o → IsRegularEvent past e
      by None h = hidden_regular past e (ap marks_edge is) h
      by (Some ((a, b), w)) h = removed_edge_regular past e a b (removed_pair sizes z past kept e a b w is h)

  -- each allowed event is regular
  regular_event : (k : Kind) → e.kind ≡ k → AllowedAs k sizes past e → IsRegularEvent past e
  regular_event LinkVertex is ok = new_vertex_regular past e (new_vertex sizes z past e kept is ok)
      (new_key sizes z past e kept ok)
  regular_event MarkVertex is ok = removed_vertex_regular past e (node_in sizes past e.life.index).key
      (removed sizes z past e kept is ok)
  regular_event LinkEdge is ok = link_regular is ok
  regular_event ReplaceEdge is ok = replace_regular sizes z past e kept is ok
  regular_event MarkEdge is ok = mark_regular is
  regular_event FreezeEdge is ok = regular_still past e (frozen_graph past e (frozen_edge sizes z past e kept is ok))
      (ap marks_vertex is)
  regular_event _ is ok = idle_regular past e (ap is_idle is)

  -- the effect of each kind
  pub effect : (k : Kind) → e.kind ≡ k → AllowedAs k sizes past e → EffectAs k sizes past e
  effect LinkVertex is ok = adds sizes z past e kept is ok (lists_stay sizes z past e kept LinkVertex is tt ok)
  effect MarkVertex is ok = removes sizes z past e kept is ok (lists_stay sizes z past e kept MarkVertex is tt ok)
  effect UnlinkVertex is ok = unlinks_vertex sizes z past e kept is ok
      (lists_stay sizes z past e kept UnlinkVertex is tt ok)
  effect LinkEdge is ok = adds_edge_of sizes z past e kept is ok
  effect ReplaceEdge is ok = replaces_edge_of sizes z past e kept is ok
  effect MarkEdge is ok = removes_edge_of sizes z past e kept is ok
  effect UnlinkEdge is ok = unlinks_edge sizes z past e kept is ok
  effect FreezeHead is ok = closes sizes z past e kept is ok
  effect FreezeEdge is ok = freezes sizes z past e kept is ok
  effect k is ok = record {
    buckets = buckets_stay sizes z past e kept k is tt ok;
    lists = lists_stay sizes z past e
        kept k is tt ok;
    graph = idle_graph past e (ap is_idle is);
  }

-- kept journals are regular
pub regular : (sizes : Sizes) → IsLayout sizes → (journal : List Event) → IsKept sizes journal → IsRegular journal
regular sizes z journal kept = kept_all sizes IsRegular (λ past e k r ok. regular_snoc past e r
    (regular_event sizes z past e k e.kind refl ok.as_kind)) (record { steps = tt }) journal kept

-- the freezing of an edge leaves the graph: its source is marked
pub frozen_leaves : (sizes : Sizes) → IsLayout sizes → (past : List Event) (e : Event) → IsKept sizes (past ++ e ∷ [])
    → e.kind ≡ FreezeEdge → changes past e ≡ false
frozen_leaves sizes z past e kept is = changes_not past e (frozen_graph past e
    (frozen_edge sizes z past e (past_kept sizes past e kept) is (allowed_as sizes past e kept FreezeEdge is)))
