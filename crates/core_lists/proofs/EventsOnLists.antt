-- What each kind of event does to the lists of edges, from journal to journal.
use Rattle.std.proofs.Common.{◌≡◌, ◌≢◌, ℕ, List, [], ◌∷◌, ◌++◌, refl, sym, ap, ◌∙◌, subst, arith}
use Rattle.packed_link.specs.Link.{index_of}
use Rattle.packed_link.specs.Layout.{Sizes, IsLayout}
use Rattle.core_chain.specs.Chain.{Head, Next}
use Rattle.core_chain.specs.Steps.{Inserts, Marks, Unlinks, SetsMark, Freezes, Untouched}
use Rattle.core_journal.specs.declared.event.Kind.{Kind}
use Rattle.core_journal.specs.declared.event.Kind.TheVariants.{LinkEdge, MarkEdge, UnlinkEdge, FreezeHead, FreezeEdge}
use Rattle.core_journal.specs.declared.event.Event.{Event}
use Rattle.core_journal.specs.Machine.{word_at}
use Rattle.core_journal.specs.State.{State, state_by, state}
use Rattle.core_kept.specs.Kept.{AllowedAs, IsKept}
use Rattle.core_kept.specs.Nodes.{node_in}
use Rattle.core_kept.specs.Edges.{IsLinkEdge, IsMarkEdge, IsUnlinkEdge}
use Rattle.core_kept.specs.Freezing.{IsFreezeHead, IsFreezeEdge}
use Rattle.core_lists.specs.Chains.{edge_chain, HasList}
use Rattle.core_kept.proofs.ByKind.{after_event}
use Rattle.core_kept.proofs.ByKind.{since_still}
use Rattle.core_lists.proofs.VertexEffects.{next_state, ListsStay}
use Rattle.core_lists.proofs.ListHoldsKept.{listing, has_open}
use Rattle.core_lists.proofs.ListChains.{list_chain, IsOffLists, idle_list, untouched, off_mark, off_close, IsListSpot}
use Rattle.core_lists.proofs.ListChains.{link_spot, link_inserts, link_others, cut_spot, cut_unlinks, cut_others}
use Rattle.core_lists.proofs.ListChains.{mark_sets}
use Rattle.core_lists.proofs.FrozenPart.{IsEnd, frozen_end, frozen_to}

module _ (sizes : Sizes) (z : IsLayout sizes) (past : List Event) (e : Event) (kept : IsKept sizes past) where
  abbrev words : ℕ → ℕ
  words = word_at sizes (past ++ e ∷ [])

  -- a kind that changes no list
  pub lists_stay : (k : Kind) → e.kind ≡ k → IsOffLists k → AllowedAs k sizes past e → ListsStay sizes past e
  lists_stay k is off ok x has = subst (λ (s : State). Untouched (edge_chain sizes past x) (list_chain sizes s words x))
      (next_state sizes past e k is)
      (idle_list sizes z past e kept x (has_open sizes past x has) k off ok words (after_event sizes past e))

  -- the lists of other vertices than one
  abbrev pub OtherLists : ℕ → Type 0
  OtherLists home = (x : ℕ) → HasList sizes past x → x ≢ home → Untouched (edge_chain sizes past x)
      (edge_chain sizes (past ++ e ∷ []) x)

  -- an edge is linked
  pub link_step : e.kind ≡ LinkEdge → (ok : IsLinkEdge sizes past e) → (s : IsListSpot sizes past e e.source.index)
      → Inserts (edge_chain sizes past e.source.index) (edge_chain sizes (past ++ e ∷ []) e.source.index) s.at
      e.life.index
  link_step is ok s = subst (λ (t : State). Inserts (edge_chain sizes past e.source.index)
      (list_chain sizes t words e.source.index) s.at e.life.index) (next_state sizes past e LinkEdge is)
      (link_inserts sizes z past e kept ok words (after_event sizes past e) s)

  pub link_spot_of : IsLinkEdge sizes past e → IsListSpot sizes past e e.source.index
  link_spot_of ok = link_spot sizes z past e kept ok

  pub link_rest : e.kind ≡ LinkEdge → IsLinkEdge sizes past e → OtherLists e.source.index
  link_rest is ok x has ne = subst (λ (t : State). Untouched (edge_chain sizes past x) (list_chain sizes t words x))
      (next_state sizes past e LinkEdge is)
      (link_others sizes z past e kept ok words (after_event sizes past e) x (has_open sizes past x has) ne)

  -- an edge is unlinked
  pub cut_step : e.kind ≡ UnlinkEdge → (ok : IsUnlinkEdge sizes past e) →
      (s : IsListSpot sizes past e (node_in sizes past e.life.index).source.index)
      → Unlinks (edge_chain sizes past (node_in sizes past e.life.index).source.index)
      (edge_chain sizes (past ++ e ∷ []) (node_in sizes past e.life.index).source.index) s.at e.life.index
  cut_step is ok s = subst (λ (t : State). Unlinks (edge_chain sizes past
      (node_in sizes past e.life.index).source.index) (list_chain sizes t words
      (node_in sizes past e.life.index).source.index) s.at e.life.index) (next_state sizes past e UnlinkEdge is)
      (cut_unlinks sizes z past e kept ok words (after_event sizes past e) s)

  pub cut_spot_of : IsUnlinkEdge sizes past e → IsListSpot sizes past e (node_in sizes past e.life.index).source.index
  cut_spot_of ok = cut_spot sizes z past e kept ok

  pub cut_rest : e.kind ≡ UnlinkEdge → IsUnlinkEdge sizes past e → OtherLists
      (node_in sizes past e.life.index).source.index
  cut_rest is ok x has ne = subst (λ (t : State). Untouched (edge_chain sizes past x) (list_chain sizes t words x))
      (next_state sizes past e UnlinkEdge is)
      (cut_others sizes z past e kept ok words (after_event sizes past e) x (has_open sizes past x has) ne)

  -- an edge is marked by its removal
  pub mark_step : e.kind ≡ MarkEdge → IsMarkEdge sizes past e → Marks
      (edge_chain sizes past (node_in sizes past e.life.index).source.index)
      (edge_chain sizes (past ++ e ∷ []) (node_in sizes past e.life.index).source.index) e.life.index
  mark_step is ok =
      let home : ℕ = (node_in sizes past e.life.index).source.index in
      record {
        present = ((listing sizes z past kept).source e.life.index ok.there ok.linked.linked ok.linked.edge).on;
        sets = subst (λ (t : State). SetsMark (edge_chain sizes past home) (list_chain sizes t words home)
            (Next e.life.index)) (next_state sizes past e MarkEdge is)
            (mark_sets sizes past e (state_by MarkEdge sizes e (state sizes past)) (λ _. refl)
            (λ y. since_still MarkEdge tt sizes e (state sizes past) y) home (Next e.life.index) (sym ok.place)
            (omega (arith, ok.place, ok.there)) ok.word words (after_event sizes past e));
      }

  pub mark_rest : e.kind ≡ MarkEdge → IsMarkEdge sizes past e → OtherLists
      (node_in sizes past e.life.index).source.index
  mark_rest is ok x has ne = subst (λ (t : State). Untouched (edge_chain sizes past x) (list_chain sizes t words x))
      (next_state sizes past e MarkEdge is)
      (untouched sizes past e words (state_by MarkEdge sizes e (state sizes past)) x (after_event sizes past e)
      (off_mark sizes z past e kept x ok.place ne) (λ y on. since_still MarkEdge tt sizes e (state sizes past) y)
      refl)

  -- a list is closed at its head
  pub close_step : e.kind ≡ FreezeHead → IsFreezeHead sizes past e → SetsMark (edge_chain sizes past e.life.index)
      (edge_chain sizes (past ++ e ∷ []) e.life.index) Head
  close_step is ok = subst (λ (t : State). SetsMark (edge_chain sizes past e.life.index)
      (list_chain sizes t words e.life.index) Head) (next_state sizes past e FreezeHead is)
      (mark_sets sizes past e (state_by FreezeHead sizes e (state sizes past)) (λ _. refl)
      (λ y. since_still FreezeHead tt sizes e (state sizes past) y) e.life.index Head (sym ok.place)
      (omega (arith, ok.place, ok.there)) ok.word words (after_event sizes past e))

  pub close_rest : e.kind ≡ FreezeHead → IsFreezeHead sizes past e → OtherLists e.life.index
  close_rest is ok x has ne = subst (λ (t : State). Untouched (edge_chain sizes past x) (list_chain sizes t words x))
      (next_state sizes past e FreezeHead is)
      (untouched sizes past e words (state_by FreezeHead sizes e (state sizes past)) x (after_event sizes past e)
      (off_close sizes z past e kept x ok.place ne) (λ y on. since_still FreezeHead tt sizes e (state sizes past) y)
      refl)

  -- an edge is frozen, to which the frozen part of its list leads
  pub freeze_end : (ok : IsFreezeEdge sizes past e) → IsEnd sizes past
      (node_in sizes past e.life.index).source.index ok.before
  freeze_end ok = frozen_end sizes past (node_in sizes past e.life.index).source.index ok.before ok.frozen

  pub freeze_step : e.kind ≡ FreezeEdge → (ok : IsFreezeEdge sizes past e)
      (d : IsEnd sizes past (node_in sizes past e.life.index).source.index ok.before)
      → Freezes (edge_chain sizes past (node_in sizes past e.life.index).source.index)
      (edge_chain sizes (past ++ e ∷ []) (node_in sizes past e.life.index).source.index) d.at e.life.index
  freeze_step is ok d =
      let home : ℕ = (node_in sizes past e.life.index).source.index in
      record {
        frozen = frozen_to sizes z past kept home ((listing sizes z past kept).source e.life.index ok.there
            ok.linked.linked ok.linked.edge).list ok.before d;
        named = λ none. omega (arith, ok.there, z.few_nodes, none);
        led = ap (λ (p : ℕ). index_of (word_at sizes past p)) d.place_is ∙ ok.leads;
        sets = subst (λ (t : State). SetsMark (edge_chain sizes past home) (list_chain sizes t words home)
            (Next e.life.index)) (next_state sizes past e FreezeEdge is)
            (mark_sets sizes past e (state_by FreezeEdge sizes e (state sizes past)) (λ _. refl)
            (λ y. since_still FreezeEdge tt sizes e (state sizes past) y) home (Next e.life.index) (sym ok.place)
            (omega (arith, ok.place, ok.there)) ok.word words (after_event sizes past e));
      }

  pub freeze_rest : e.kind ≡ FreezeEdge → IsFreezeEdge sizes past e → OtherLists
      (node_in sizes past e.life.index).source.index
  freeze_rest is ok x has ne = subst (λ (t : State). Untouched (edge_chain sizes past x) (list_chain sizes t words x))
      (next_state sizes past e FreezeEdge is)
      (untouched sizes past e words (state_by FreezeEdge sizes e (state sizes past)) x (after_event sizes past e)
      (off_mark sizes z past e kept x ok.place ne) (λ y on. since_still FreezeEdge tt sizes e (state sizes past) y)
      refl)
