-- A present edge is on the list of its source by the key of its target; so no other is of its pair.
use Rattle.std.proofs.Common.{◌≡◌, ℕ, true, List, Option, Some, None, refl, sym, ap, ◌∙◌, subst}
use Rattle.packed_link.specs.Layout.{Sizes, IsLayout, key_at, link_at}
use Rattle.packed_link.specs.Link.{mark_of, mark_bit}
use Rattle.packed_link.specs.declared.link.Life.{Life}
use Rattle.graph_kinds.specs.Graph.{weight_of}
use Rattle.core_chain.proofs.Walks.{one_of_key, none_of_key}
use Rattle.core_journal.specs.declared.event.Kind.TheVariants.{MarkEdge}
use Rattle.core_journal.specs.declared.event.Event.{Event}
use Rattle.core_journal.specs.Changes.{IsRemovedEdge}
use Rattle.core_journal.specs.GraphOf.{graph_of, present_key, present_pair}
use Rattle.core_journal.specs.Life.{link_of}
use Rattle.core_journal.specs.Machine.{word_at}
use Rattle.core_journal.specs.State.{state}
use Rattle.core_journal.proofs.LivesOf.{present_is, joined_is, life_of_pair}
use Rattle.core_kept.specs.Kept.{IsKept}
use Rattle.core_kept.specs.Nodes.{node_in, IsUsed, is_listed}
use Rattle.core_kept.specs.Edges.{IsLinkEdge}
use Rattle.core_lists.specs.Chains.{edge_chain, HasList}
use Rattle.core_kept.proofs.Contents.{contents}
use Rattle.core_kept.proofs.EdgeEnds.{ends_linked}
use Rattle.core_lists.proofs.ListChains.{lists, link_spot, link_can}
use Rattle.core_lists.proofs.ListHoldsKept.{has_open, sources}
use Rattle.core_kept.proofs.LinkWords.{used_link}
use Rattle.core_kept.proofs.LinkedEdges.{live_edges, unmarked_node}
use Rattle.core_kept.proofs.Named.{life_is, named}
use Rattle.core_kept.proofs.NodesInPlace.{used_there}
use Rattle.core_lists.proofs.OneVertexOfKey.{one_present}

-- an edge is on the list of its source, which is present with the first key of a pair, and the edge's key is the second
record IsOfPair (sizes : Sizes) (journal : List Event) (x : Life) (a b : ℕ) : Type 0 where
  pub life : x.tag ≡ (node_in sizes journal x.index).tag
  pub source : Life
  pub present : present_key journal source ≡ Some a
  pub list : HasList sizes journal source.index
  pub on : is_listed (state sizes journal) source.index x.index ≡ true
  pub key : word_at sizes journal (key_at sizes x.index) ≡ b
  pub live : mark_of (word_at sizes journal (link_at sizes x.index)) ≡ 0

value : {A : Type 0} (a b : A) → Some a ≡ Some b → a ≡ b
value a b p = cc

module _ (sizes : Sizes) (z : IsLayout sizes) (journal : List Event) (kept : IsKept sizes journal) where
  of_pair : (x : Life) (a b w : ℕ) → present_pair journal x ≡ Some ((a, b), w) → IsOfPair sizes journal x a b
  of_pair x a b w h =
      let j = joined_is journal x a b w h in
      let live = (live_edges sizes z journal kept).live x j.link j.is j.uncut in
      let v = node_in sizes journal x.index in
      let there = used_there sizes journal x.index kept (λ f. let m = live.linked in absurd (cc)) in
      let used : IsUsed v.mode = subst IsUsed (sym live.linked) tt in
      let d = ((named sizes z journal kept).each x.index there).edge_link used live.edge in
      let same : d.link ≡ j.link = value d.link j.link (sym d.is ∙
      (ap (link_of journal) (sym (life_is x x.index v.tag refl live.life)) ∙ j.is)) in
      let from : v.source ≡ j.link.source = sym d.from ∙ ap (λ (y : Event). y.source) same in
      let at = (sources sizes z journal kept).each x.index there record { linked = live.linked; edge = live.edge } in
      let word = (((contents sizes z journal kept).each x.index there).edge used live.edge).key_word in
      let to : j.link.key ≡ b = value j.link.key b (sym ((ends_linked sizes z journal kept).target x j.link j.is) ∙
      (present_is journal j.link.target b j.target).1) in
      record {
        life = live.life;
        source = v.source;
        present = ap (present_key journal) from ∙ j.source;
        list = at.list;
        on = at.on;
        key = word ∙ (sym d.of_key ∙ (ap (λ (y : Event). y.key) same ∙ to));
        live = (used_link sizes z journal kept x.index there used).1 ∙ ap mark_bit
            (unmarked_node sizes z journal kept x live j.uncut);
      }

  -- two present edges of one pair are one
  pub one_pair : (x y : Life) (a b v w : ℕ) → present_pair journal x ≡ Some ((a, b), v) → present_pair journal y ≡ Some
      ((a, b), w) → x ≡ y
  one_pair x y a b v w h g =
      let p = of_pair x a b v h in
      let q = of_pair y a b w g in
      let one : q.source ≡ p.source = one_present sizes z journal kept q.source p.source a q.present p.present in
      let on = subst (λ (s : Life). is_listed (state sizes journal) s.index y.index ≡ true) one q.on in
      let chain = ((lists sizes z journal kept).each p.source.index
      (has_open sizes journal p.source.index p.list)).chain in
      let same : x.index ≡ y.index = one_of_key (edge_chain sizes journal p.source.index) x.index y.index chain p.on on
      p.live q.live (p.key ∙ sym q.key) in
      let tags : x.tag ≡ y.tag = p.life ∙ (ap (λ (i : ℕ). (node_in sizes journal i).tag) same ∙ sym q.life) in
      λ i. record { index = same i; tag = tags i }

  -- a present edge that is marked next is the only one of its pair
  pub removed_pair : (e : Event) (a b w : ℕ) → e.kind ≡ MarkEdge → present_pair journal e.life ≡ Some ((a, b), w)
      → IsRemovedEdge journal e a b
  removed_pair e a b w is h = record { kind = is; weight = w; there = h; only = λ x v g. one_pair x e.life a b v w g h }

  -- the pair of an edge that is linked next between present vertices isn't there
  pub new_pair : (e : Event) (a b : ℕ) → IsLinkEdge sizes journal e → present_key journal e.source ≡ Some a
      → present_key journal e.target ≡ Some b → weight_of (graph_of journal) a b ≡ None
  new_pair e a b ok from to = by (weight_of (graph_of journal) a b) refl
    where
      by : (o : Option ℕ) → weight_of (graph_of journal) a b ≡ o → weight_of (graph_of journal) a b ≡ None
      by None h = h
      by (Some w) h =
          let x = life_of_pair journal a b w h in
          let p = of_pair x.0 a b w x.1 in
          let one : p.source ≡ e.source = one_present sizes z journal kept p.source e.source a p.present from in
          let i : p.source.index ≡ e.source.index = ap (λ (s : Life). s.index) one in
          let on = subst (λ (y : ℕ). is_listed (state sizes journal) y x.0.index ≡ true) i p.on in
          let has = subst (HasList sizes journal) i p.list in
          let s = link_spot sizes z journal e kept ok in
          let key : e.key ≡ b = value e.key b (sym ok.target_key ∙ (present_is journal e.target b to).1) in
          absurd (none_of_key (edge_chain sizes journal e.source.index) s.at
          (word_at sizes journal (key_at sizes e.life.index)) x.0.index
          ((lists sizes z journal kept).each e.source.index (has_open sizes journal e.source.index has)).chain
          (link_can sizes z journal e kept ok s).passes on
          (p.key ∙ (sym key ∙ sym ok.filled.key_word)))
