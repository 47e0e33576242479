-- What the event that replaces an edge does to the lists and to the graph.
use Rattle.std.proofs.Common.{◌≡◌, ◌≢◌, ℕ, false, List, [], ◌∷◌, ◌++◌, Option, Some, None, cond, refl, sym, ap, ◌∙◌}
use Rattle.std.proofs.Common.{subst, arith}
use Rattle.std.specs.Prelude.{option_map, option_and_then}
use Rattle.packed_link.specs.Link.{mark_of}
use Rattle.packed_link.specs.Layout.{Sizes, IsLayout}
use Rattle.packed_link.specs.declared.link.Life.{Life}
use Rattle.graph_kinds.specs.declared.call.Call.TheVariants.{AddEdge}
use Rattle.core_chain.specs.Steps.{Replaces, Untouched}
use Rattle.core_journal.specs.declared.event.Kind.{Kind}
use Rattle.core_journal.specs.declared.event.Kind.TheVariants.{ReplaceEdge}
use Rattle.core_journal.specs.declared.event.Event.{Event}
use Rattle.core_journal.specs.Changes.{IsReplacing, IsReplacedEdge}
use Rattle.core_journal.specs.GraphOf.{both, weighed, graph_of, call_by, call_of, present_key, present_pair}
use Rattle.core_journal.specs.GraphOf.{pair_between, IsRegularEvent}
use Rattle.core_journal.specs.Life.{link_of, edge_marked}
use Rattle.core_journal.specs.Machine.{word_at}
use Rattle.core_journal.specs.State.{State}
use Rattle.core_journal.proofs.Calls.{changes_edge}
use Rattle.core_journal.proofs.GraphRows.{replaced_edge_graph, hidden_replaced_graph}
use Rattle.core_journal.proofs.LivesOf.{present_is, joined_is, key_of_life, only_pair}
use Rattle.core_journal.proofs.Regular.{replaced_edge_regular, hidden_replaced_regular}
use Rattle.core_kept.specs.Kept.{IsKept}
use Rattle.core_kept.specs.Nodes.{node_in, IsUsed}
use Rattle.core_lists.specs.Chains.{edge_chain, HasList}
use Rattle.core_kept.specs.Edges.{IsReplaceEdge}
use Rattle.core_lists.specs.Effects.{ReplacesEdge}
use Rattle.core_kept.specs.Facts.{IsLinkOf}
use Rattle.core_kept.proofs.EdgeEnds.{new_here}
use Rattle.core_lists.proofs.ListChains.{list_chain, new_replaces, new_others}
use Rattle.core_kept.proofs.LinkWords.{mark_isnt, used_link}
use Rattle.core_kept.proofs.Named.{life_is, named}
use Rattle.core_lists.proofs.OneEdgeOfPair.{one_pair}
use Rattle.core_kept.proofs.Replaced.{old_apart}
use Rattle.core_kept.proofs.ByKind.{after_event}
use Rattle.core_lists.proofs.VertexEffects.{carries, buckets_stay, next_state}

module _ (sizes : Sizes) (z : IsLayout sizes) (past : List Event) (e : Event) (kept : IsKept sizes past)
    (is : e.kind ≡ ReplaceEdge) (ok : IsReplaceEdge sizes past e) where
  -- the new life is new, and isn't the one that it replaces
  pub replacing : IsReplacing past e
  replacing =
      let d = new_here sizes z past e kept ok.there ok.life ok.fresh.fresh in
      record {
        kind = is;
        new = d.link;
        unmarked = d.edge;
        apart = λ same. old_apart sizes past e ok
            (sym (ap (λ (x : Life). x.index) same));
      }

  old_used : IsUsed (node_in sizes past e.old.index).mode
  old_used = subst IsUsed (sym ok.linked.linked) tt

  old_is : e.old ≡ record { index = e.old.index; tag = (node_in sizes past e.old.index).tag }
  old_is = life_is e.old e.old.index (node_in sizes past e.old.index).tag refl ok.old_life

  -- the old edge was linked with the new one's source, target and key, and another weight
  pub old_link : IsLinkOf past e.old e.source e.target e.key (node_in sizes past e.old.index).weight
  old_link =
      let d = ((named sizes z past kept).each e.old.index ok.old_there).edge_link old_used ok.linked.edge in
      record {
        link = d.link;
        is = ap (link_of past) old_is ∙ d.is;
        from = d.from ∙ sym ok.source;
        to = d.to
            ∙ sym ok.target;
        of_key = d.of_key ∙ sym ok.key;
        of_weight = d.of_weight;
      }

  -- it isn't marked
  pub old_live : edge_marked past e.old ≡ false
  old_live =
      let mark = ((named sizes z past kept).each e.old.index ok.old_there).edge_mark old_used ok.linked.edge in
      let word = (used_link sizes z past kept e.old.index ok.old_there old_used).1 in
      let live = ap (word_at sizes past) ok.place in
      ap (edge_marked past) old_is ∙ (mark ∙ mark_isnt (node_in sizes past e.old.index).marked
      (omega (arith, word, ap mark_of live, ok.unmarked)))

  -- the pair of the new edge is told where that of the old one is
  joined : (a b w : ℕ) → present_pair past e.old ≡ Some ((a, b), w) → (present_key past e.source ≡ Some a) ×
      (present_key past e.target ≡ Some b) × (w ≡ (node_in sizes past e.old.index).weight)
  joined a b w h =
      let j = joined_is past e.old a b w h in
      let d = old_link in
      let same : j.link ≡ d.link = value j.link d.link (sym j.is ∙ d.is) in (
        ap (present_key past) (sym (ap (λ (x : Event). x.source) same ∙ d.from)) ∙ j.source,
        ap (present_key past) (sym (ap (λ (x : Event). x.target) same ∙ d.to)) ∙ j.target,
        sym j.weight ∙ (ap (λ (x : Event). x.weight) same ∙ d.of_weight),
      )
    where
      value : (a b : Event) → Some a ≡ Some b → a ≡ b
      value a b p = cc

  -- where it isn't, neither is that of the new one
  hidden : present_pair past e.old ≡ None → pair_between past e ≡ None
  hidden none =
      let d = old_link in
      let old : pair_between past d.link ≡ None =
      sym (λ i. cond (old_live i) None (option_and_then (pair_between past) (d.is i))) ∙ none in
      by (present_key past e.source) (present_key past e.target) refl refl
      (sym (λ i. weighed d.link.weight (both (present_key past (d.from i)) (present_key past (d.to i)))) ∙ old)
    where
      by : (s t : Option ℕ) → present_key past e.source ≡ s → present_key past e.target ≡ t
          → weighed old_link.link.weight (both (present_key past e.source) (present_key past e.target)) ≡ None
          → pair_between past e ≡ None
      by None t p q h = λ i. weighed e.weight (both (p i) (q i))
      by (Some a) None p q h = λ i. weighed e.weight (both (p i) (q i))
      by (Some a) (Some b) p q h = let f = sym (λ i. weighed old_link.link.weight (both (p i) (q i))) ∙ h in absurd (cc)

  abbrev is_replaced : (a b w : ℕ) → present_pair past e.old ≡ Some ((a, b), w) → IsReplacedEdge past e a b
  is_replaced a b w h = let j = joined a b w h in record {
    replaces = replacing;
    weight = w;
    there = h;
    source = j.0;
    target = j.1;
  }

  -- the old edge is the only present one of its pair
  only : (a b w : ℕ) → present_pair past e.old ≡ Some ((a, b), w) → (x : Life) (v : ℕ) → present_pair past x ≡ Some
      ((a, b), v) → x ≡ e.old
  only a b w h x v g = one_pair sizes z past kept x e.old a b v w g h

  other : (a b w : ℕ) → present_pair past e.old ≡ Some ((a, b), w) → w ≢ e.weight
  other a b w h same = let j = joined a b w h in ok.other (sym same ∙ j.2)

  -- an edge that is replaced is regular, whether or not its ends are present
  pub replace_regular : IsRegularEvent past e
  replace_regular = by (present_pair past e.old) refl
    where
      by : (o : Option ((ℕ × ℕ) × ℕ)) → present_pair past e.old ≡ o → IsRegularEvent past e
      by None h = hidden_replaced_regular past e replacing h (hidden h)
      by (Some ((a, b), w)) h = replaced_edge_regular past e a b (is_replaced a b w h) (only a b w h) (other a b w h)

  -- the new one joins the list behind the old one, which is marked
  step : Replaces (edge_chain sizes past e.source.index) (edge_chain sizes (past ++ e ∷ []) e.source.index) e.old.index
      e.life.index
  step = subst (λ (t : State). Replaces (edge_chain sizes past e.source.index)
      (list_chain sizes t (word_at sizes (past ++ e ∷ [])) e.source.index) e.old.index e.life.index)
      (next_state sizes past e ReplaceEdge is)
      (new_replaces sizes z past e kept ok (word_at sizes (past ++ e ∷ [])) (after_event sizes past e))

  rest : (x : ℕ) → HasList sizes past x → x ≢ e.source.index → Untouched (edge_chain sizes past x)
      (edge_chain sizes (past ++ e ∷ []) x)
  rest x has ne = subst (λ (t : State). Untouched (edge_chain sizes past x)
      (list_chain sizes t (word_at sizes (past ++ e ∷ [])) x)) (next_state sizes past e ReplaceEdge is)
      (new_others sizes z past e kept ok (word_at sizes (past ++ e ∷ [])) (after_event sizes past e) x ne)

  pub replaces_edge_of : ReplacesEdge sizes past e
  replaces_edge_of =
      let call : (a b w : ℕ) → present_pair past e.old ≡ Some ((a, b), w) → call_of past e ≡ Some
      (AddEdge a b e.weight) = λ a b w h.
      let j = joined a b w h in
      ap (λ (k : Kind). call_by k past e) is ∙ (λ i. option_map (λ (p : ℕ × ℕ). AddEdge p.0 p.1 e.weight)
      (both ((present_is past e.source a j.0).1 i) ((present_is past e.target b j.1).1 i))) in
      record {
        of_source = ok.source;
        chain = step;
        others = record { buckets = buckets_stay sizes z past e kept ReplaceEdge is tt ok; lists = rest };
        call = call;
        graph = λ a b w h.
            let j = joined a b w h in
            carries past e (AddEdge a b e.weight) (call a b w h)
            (changes_edge (graph_of past) a b w e.weight (key_of_life past e.source a j.0)
            (key_of_life past e.target b j.1) (only_pair past e.old a b w h (only a b w h)) (other a b w h))
            (replaced_edge_graph past e a b (is_replaced a b w h));
        none = λ gone. hidden_replaced_graph past e replacing gone (hidden gone);
      }
