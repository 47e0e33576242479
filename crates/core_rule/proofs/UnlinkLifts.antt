-- What a token knows by its front makes its unlinks allowed: the unmarked word of a linked node leads to a linked one.
use Rattle.std.proofs.Common.{◌≡◌, ℕ, ◌%◌, ◌<◌, List, true, inl, inr, refl, sym, ap, ◌∙◌, subst, arith, ⊎_elim}
use Rattle.std.proofs.Math.Nat.{mod-lt}
use Rattle.packed_link.specs.Link.{pack, index_of, mark_of, tag_of}
use Rattle.packed_link.specs.Layout.{IsLayout, bucket_at, link_at, second_at}
use Rattle.packed_link.specs.declared.link.Life.{Life}
use Rattle.core_chain.specs.Chain.{Head, Next}
use Rattle.core_journal.specs.declared.event.Event.{Event}
use Rattle.core_journal.specs.Machine.{word_at}
use Rattle.core_journal.specs.Reuse.{pass_in}
use Rattle.core_journal.specs.State.{Pass, state}
use Rattle.core_kept.specs.Facts.{HasMet}
use Rattle.core_kept.specs.Nodes.{node_in, IsLinkedVertex, IsLinkedEdge, IsVertex}
use Rattle.core_kept.specs.Vertices.{IsUnlinkVertex}
use Rattle.core_kept.specs.Edges.{IsEdgeFrom, IsUnlinkEdge}
use Rattle.core_rule.specs.Fronts.{IsVertexLink, MayUnlinkVertex, IsEdgeLink, MayUnlinkEdge}
use Rattle.core_rule.specs.OwnEvents.{unlink_vertex_event, unlink_edge_event}
use Rattle.core_rule.specs.Owes.{Reaches}
use Rattle.core_rule.specs.declared.view.View.{View}
use Rattle.core_lists.proofs.BucketChains.{in_is}
use Rattle.core_rule.proofs.EdgeLifts.{edge_still, edge_linked_now}
use Rattle.core_rule.proofs.OwnLifts.{own_pass}
use Rattle.core_kept.proofs.LinkWords.{link_words}
use Rattle.core_lists.proofs.LinkedWordsLead.{leads_to_vertex, leads_from_head, leads_from_edge}
use Rattle.core_kept.proofs.MarkedWords.{marked_link_stays}
use Rattle.core_rule.proofs.VertexLifts.{vertex_still, vertex_now, vertex_linked_now}

module _ (v : View) (z : IsLayout v.sizes) (journal : List Event) (r : Reaches v journal) where
  -- a vertex is unlinked
  pub lift_unlink_vertex : (place seen next : ℕ) (x : Life) → MayUnlinkVertex v place seen next x
      → word_at v.sizes journal place ≡ seen → IsUnlinkVertex v.sizes journal (unlink_vertex_event v place seen next x)
  lift_unlink_vertex place seen next x m is =
      let s = vertex_still v z journal r x m.vertex in
      let there = m.vertex.life.there in
      let leads : index_of (word_at v.sizes journal place) ≡ x.index = ap index_of is ∙ m.leads in
      let live : mark_of (word_at v.sizes journal place) ≡ 0 = ap mark_of is ∙ m.unmarked in
      let pass : (pass_in v.sizes journal v.number).is_open ≡ true = ap (λ (q : Pass). q.is_open) (own_pass v journal r)
      ∙ m.pass in
      ⊎_elim
      (λ (b : (j : ℕ) × (j < v.sizes.buckets) × (place ≡ bucket_at v.sizes j)).
      let linked : IsLinkedVertex v.sizes journal x.index = leads_to_vertex v.sizes z journal r.kept b.0 x.index Head
      b.1 tt (ap (λ (i : ℕ). index_of (word_at v.sizes journal i)) (sym b.2) ∙ leads) there in
      let link = dead_link linked in
      record {
        life = m.vertex.life.tag ∙ sym s.same.tag;
        there = there;
        bucket = b.0;
        before = 0;
        place = inl (b.2, b.1);
        before_linked = λ y at. absurd (let low = b.1 in let head = b.2 in omega (arith, head, at, low));
        unmarked = live;
        leads = leads;
        linked = linked;
        dead = ap mark_of link ∙ m.dead;
        word = λ i. pack ((m.next_is ∙ ap index_of (sym link)) i) 0 (tag_of (sym is i));
        pass = pass;
      })
      (λ (b : (y : Life) × IsVertexLink v place y).
      let y = b.0 in
      let at_y = b.1 in
      let before : IsLinkedVertex v.sizes journal y.index = vertex_linked_now v z journal r y at_y.met
      (ap (λ (i : ℕ). mark_of (word_at v.sizes journal i)) (sym at_y.place_is) ∙ live) in
      let low : (node_in v.sizes journal y.index).key % v.sizes.buckets < v.sizes.buckets = mod-lt
      (node_in v.sizes journal y.index).key (omega (arith, z.some_buckets)) in
      let on = in_is v.sizes (state v.sizes journal) ((node_in v.sizes journal y.index).key % v.sizes.buckets) y.index
      record { linked = before.linked; vertex = before.vertex; of_bucket = refl } in
      let linked : IsLinkedVertex v.sizes journal x.index = leads_to_vertex v.sizes z journal r.kept
      ((node_in v.sizes journal y.index).key % v.sizes.buckets) x.index (Next y.index) low on
      (ap (λ (i : ℕ). index_of (word_at v.sizes journal i)) (sym at_y.place_is) ∙ leads) there in
      let link = dead_link linked in
      record {
        life = m.vertex.life.tag ∙ sym s.same.tag;
        there = there;
        bucket = 0;
        before = y.index;
        place = inr (at_y.place_is, at_y.met.life.there);
        before_linked = λ u at. let same : y.index ≡ u = omega (arith, at, at_y.place_is) in subst
            (λ (i : ℕ). IsLinkedVertex v.sizes journal i) same before;
        unmarked = live;
        leads = leads;
        linked = linked;
        dead = ap mark_of link ∙ m.dead;
        word = λ i. pack ((m.next_is ∙ ap index_of (sym link)) i) 0 (tag_of (sym is i));
        pass = pass;
      })
      m.before
    where
      dead_link : IsLinkedVertex v.sizes journal x.index → word_at v.sizes journal
          (link_at v.sizes x.index) ≡ word_at v.sizes v.front (link_at v.sizes x.index)
      dead_link linked =
          let s = vertex_still v z journal r x m.vertex in
          marked_link_stays v.sizes z x.index v.front journal r.front r.kept m.vertex.met.fresh m.dead s.same.tag
          (((link_words v.sizes z journal r.kept).each x.index m.vertex.life.there).unstored linked.linked)

  -- an edge is unlinked
  pub lift_unlink_edge : (place seen next : ℕ) (source x : Life) → MayUnlinkEdge v place seen next source x
      → word_at v.sizes journal place ≡ seen → IsUnlinkEdge v.sizes journal (unlink_edge_event v place seen next x)
  lift_unlink_edge place seen next source x m is =
      let s = edge_still v z journal r source x m.edge in
      let there = m.edge.life.there in
      let leads : index_of (word_at v.sizes journal place) ≡ x.index = ap index_of is ∙ m.leads in
      let live : mark_of (word_at v.sizes journal place) ≡ 0 = ap mark_of is ∙ m.unmarked in
      let from : IsVertex v.sizes journal source = vertex_now v z journal r source m.from in
      let source_is : (node_in v.sizes journal x.index).source ≡ source = s.same.source ∙ m.edge.from in
      ⊎_elim
      (λ (head : place ≡ second_at v.sizes source.index).
      let linked : IsLinkedEdge v.sizes journal x.index = leads_from_head v.sizes z journal r.kept source x.index from
      (ap (λ (i : ℕ). mark_of (word_at v.sizes journal i)) (sym head) ∙ live)
      (ap (λ (i : ℕ). index_of (word_at v.sizes journal i)) (sym head) ∙ leads) there in
      let link = dead_link linked in
      record {
        life = m.edge.life.tag ∙ sym s.same.tag;
        there = there;
        source = subst (λ (y : Life). IsVertex v.sizes journal y) (sym source_is) from;
        before = 0;
        place = inl (
          head ∙ ap (λ (y : Life). second_at v.sizes y.index) (sym source_is),
          subst
              (λ (y : Life). y.index < v.sizes.nodes) (sym source_is) from.there,
        );
        before_linked = λ y at. absurd (omega (arith, head, at));
        unmarked = live;
        leads = leads;
        linked = linked;
        dead = ap mark_of link ∙ m.dead;
        word = λ i. pack ((m.next_is ∙ ap index_of (sym link)) i) 0 (tag_of (sym is i));
        source_met = subst (λ (y : Life). HasMet v.sizes journal v.number y.index) (sym source_is)
            (vertex_still v z journal r source m.from).met;
        pass = s.met.pass;
      })
      (λ (b : (y : Life) × IsEdgeLink v source place y).
      let y = b.0 in
      let at_y = b.1 in
      let before : IsEdgeFrom v.sizes journal source y.index = edge_linked_now v z journal r source y at_y.met
      (ap (λ (i : ℕ). mark_of (word_at v.sizes journal i)) (sym at_y.place_is) ∙ live) in
      let linked : IsLinkedEdge v.sizes journal x.index = leads_from_edge v.sizes z journal r.kept source y.index
      x.index at_y.met.life.there before (ap (λ (i : ℕ). index_of (word_at v.sizes journal i)) (sym at_y.place_is)
      ∙ leads) there in
      let link = dead_link linked in
      record {
        life = m.edge.life.tag ∙ sym s.same.tag;
        there = there;
        source = subst (λ (u : Life). IsVertex v.sizes journal u) (sym source_is) from;
        before = y.index;
        place = inr (at_y.place_is, at_y.met.life.there);
        before_linked = λ u at. let same : y.index ≡ u = omega (arith, at, at_y.place_is) in subst
            (λ (w : Life). IsEdgeFrom v.sizes journal w u) (sym source_is)
            (subst (λ (i : ℕ). IsEdgeFrom v.sizes journal source i) same before);
        unmarked = live;
        leads = leads;
        linked = linked;
        dead = ap mark_of link ∙ m.dead;
        word = λ i. pack ((m.next_is ∙ ap index_of (sym link)) i) 0 (tag_of (sym is i));
        source_met = subst (λ (y : Life). HasMet v.sizes journal v.number y.index) (sym source_is)
            (vertex_still v z journal r source m.from).met;
        pass = s.met.pass;
      })
      m.before
    where
      dead_link : IsLinkedEdge v.sizes journal x.index → word_at v.sizes journal
          (link_at v.sizes x.index) ≡ word_at v.sizes v.front (link_at v.sizes x.index)
      dead_link linked =
          let s = edge_still v z journal r source x m.edge in
          marked_link_stays v.sizes z x.index v.front journal r.front r.kept m.edge.met.fresh m.dead s.same.tag
          (((link_words v.sizes z journal r.kept).each x.index m.edge.life.there).unstored linked.linked)
