-- What a token knows by its front makes its steps on edges allowed: an edge is linked and marked, and a list is closed.
use Rattle.std.proofs.Common.{◌≡◌, ◌≢◌, ℕ, ◌<◌, List, length, true, Some, inl, inr, refl, sym, ap, ◌∙◌, subst, arith}
use Rattle.std.proofs.Common.{⊎_elim}
use Rattle.std.specs.Prelude.{slice_get, take}
use Rattle.packed_link.specs.Link.{pack, index_of, mark_of, tag_of, nowhere}
use Rattle.packed_link.specs.Layout.{IsLayout, key_at, link_at, second_at}
use Rattle.packed_link.specs.declared.link.Life.{Life}
use Rattle.core_journal.specs.declared.event.Event.{Event}
use Rattle.core_journal.specs.Life.{key_of, link_of, edge_linked}
use Rattle.core_journal.specs.Machine.{word_at}
use Rattle.core_journal.specs.Reuse.{pass_in}
use Rattle.core_journal.specs.State.{Node, Pass}
use Rattle.core_journal.proofs.Lists.{get_short, get_front, take_front}
use Rattle.core_kept.specs.Nodes.{node_in, IsVertex}
use Rattle.core_kept.specs.Edges.{IsFilledEdge, IsEdgeFrom, IsLinkEdge, IsRaisedFor, IsMarkEdge, IsReplaceEdge}
use Rattle.core_kept.specs.Freezing.{IsFreezeHead}
use Rattle.core_rule.specs.Fronts.{MetEdge, IsEdgeBelow, MayLinkEdge, MayMarkEdge, MayReplaceEdge, MayFreezeHead}
use Rattle.core_rule.specs.Fronts.{key_in}
use Rattle.core_rule.specs.OwnEvents.{link_edge_event, mark_edge_event, replace_event, freeze_head_event}
use Rattle.core_rule.specs.Owes.{Reaches}
use Rattle.core_rule.specs.declared.view.View.{View}
use Rattle.core_kept.proofs.EdgeEnds.{vertex_key}
use Rattle.core_kept.proofs.Induction.{kept_front}
use Rattle.core_kept.proofs.MetWords.{met_used}
use Rattle.core_kept.proofs.Named.{life_is, named}
use Rattle.core_rule.proofs.OwnLifts.{own_fresh, own_spent, still_fresh}
use Rattle.core_kept.proofs.OwnMet.{IsMetStill, met_still, met_linked, key_word_is}
use Rattle.core_rule.proofs.VertexLifts.{vertex_still, vertex_now, vertex_key_now}

-- what a token raised for it raised for in a longer journal of the same pass
raised_still : (v : View) (journal : List Event) → Reaches v journal → (x source : Life) →
    (pass_in v.sizes journal v.number).since ≡ (pass_in v.sizes v.front v.number).since
    → IsRaisedFor v.sizes v.front v.number x source → IsRaisedFor v.sizes journal v.number x source
raised_still v journal r x source same d =
    let within : d.number < length v.front = get_short v.front d.number d.raise d.at in
    let at : slice_get journal d.number ≡ Some d.raise = subst
    (λ (j : List Event). slice_get j d.number ≡ Some d.raise) r.front.whole
    (get_front v.front r.front.rest d.number d.raise d.at) in
    let first : take d.number journal ≡ take d.number v.front = ap (take d.number) (sym r.front.whole)
    ∙ take_front v.front r.front.rest d.number (omega (arith, within)) in
    record {
      number = d.number;
      since = omega (arith, same, d.since);
      raise = d.raise;
      at = at;
      kind = d.kind;
      by = d.by;
      vertex = d.vertex;
      linked = ap (λ (j : List Event). edge_linked j x) first ∙ d.linked;
    }

module _ (v : View) (z : IsLayout v.sizes) (journal : List Event) (r : Reaches v journal) where
  -- what an edge that was met is in the journal
  pub edge_still : (source x : Life) → MetEdge v source x → IsMetStill v.sizes v.front journal v.number x.index
  edge_still source x m = met_still v.sizes z v.number v.last x.index v.front journal r.front r.kept r.quiet r.old m.met

  pub edge_linked_now : (source x : Life) → MetEdge v source x → mark_of
      (word_at v.sizes journal (link_at v.sizes x.index)) ≡ 0 → IsEdgeFrom v.sizes journal source x.index
  edge_linked_now source x m live =
      let s = edge_still source x m in
      record {
        linked = record {
          linked = met_linked v.sizes z journal r.kept v.number x.index m.life.there s.met live;
          edge = s.same.vertex ∙ m.edge;
        };
        from = s.same.source ∙ m.from;
      }

  pub edge_key_now : (source x : Life) → MetEdge v source x → word_at v.sizes journal
      (key_at v.sizes x.index) ≡ key_in v x.index
  edge_key_now source x m = (edge_still source x m).key m.life.there

  -- an edge is linked
  pub lift_link_edge : (place seen key : ℕ) (source target : Life) (weight : ℕ) (x : Life)
      → MayLinkEdge v place seen key source target weight x → word_at v.sizes journal place ≡ seen
      → IsLinkEdge v.sizes journal (link_edge_event v place seen key source target weight x)
  lift_link_edge place seen key source target weight x m is =
      let h = own_fresh v z journal r x.index m.life.there m.fresh in
      let tag : (node_in v.sizes journal x.index).tag ≡ (node_in v.sizes v.front x.index).tag = ap
      (λ (u : Node). u.tag) h.node in
      let to : index_of (word_at v.sizes journal place) ≡ index_of seen = ap index_of is in
      let live : mark_of (word_at v.sizes journal place) ≡ 0 = ap mark_of is ∙ m.unmarked in
      let from : IsVertex v.sizes journal source = vertex_now v z journal r source m.from in
      let end : IsVertex v.sizes journal target = vertex_now v z journal r target m.to in
      let end_key : key_of journal target ≡ Some key =
      vertex_key v.sizes z journal r.kept target end ∙ ap Some
      (sym (key_word_is v.sizes z journal r.kept target.index end.there end.used) ∙
      (vertex_key_now v z journal r target m.to ∙ m.to_key)) in
      let pass : (pass_in v.sizes journal v.number).is_open ≡ true =
      (vertex_still v z journal r source m.from).met.pass in
      let filled : IsFilledEdge v.sizes journal x.index key (index_of (word_at v.sizes journal place)) target weight =
      record {
        key_word = h.key ∙ m.filled.key_word;
        key_fits = m.filled.key_fits;
        link_word = h.link ∙ (m.filled.link_word ∙ (λ i. pack (sym to i) 0 (sym tag i)));
        second_word = h.second ∙ m.filled.second_word;
        third_word = h.third ∙ m.filled.third_word;
        some = m.filled.some;
        weight_fits = m.filled.weight_fits;
      } in
      let above : index_of (word_at v.sizes journal place) ≢ nowhere → key < word_at v.sizes journal
      (key_at v.sizes (index_of (word_at v.sizes journal place))) = λ some.
      let b = m.behind (λ none. some (to ∙ none)) in
      let at : key_at v.sizes (index_of (word_at v.sizes journal place)) ≡ key_at v.sizes b.life.index = ap
      (key_at v.sizes) (to ∙ sym b.is) in
      let now : word_at v.sizes journal (key_at v.sizes b.life.index) ≡ key_in v b.life.index = edge_key_now source
      b.life b.met in
      let same : key_in v b.life.index ≡ key_in v (index_of seen) = ap (key_in v) b.is in
      omega (arith, b.above, same, now, ap (word_at v.sizes journal) at) in
      ⊎_elim
      (λ (head : place ≡ second_at v.sizes source.index). record {
        life = m.life.tag ∙ sym tag;
        there = m.life.there;
        source = from;
        before = 0;
        place = inl (head, from.there);
        linked = λ y at. absurd (omega (arith, head, at));
        unmarked = live;
        gap = record { below = λ y at. absurd (omega (arith, head, at)); above = above };
        word = ap (λ (w : ℕ). pack x.index 0 (tag_of w)) (sym is);
        fresh = still_fresh v journal x.index h m.fresh;
        filled = filled;
        target_key = end_key;
        source_met = (vertex_still v z journal r source m.from).met;
        target = end;
        target_met = (vertex_still v z journal r target m.to).met;
        pass = pass;
      })
      (λ (b : (y : Life) × IsEdgeBelow v source key place y).
      let y = b.0 in
      let below = b.1 in
      let linked : IsEdgeFrom v.sizes journal source y.index = edge_linked_now source y below.met
      (ap (λ (i : ℕ). mark_of (word_at v.sizes journal i)) (sym below.place_is) ∙ live) in
      let now : word_at v.sizes journal (key_at v.sizes y.index) ≡ key_in v y.index = edge_key_now source y below.met in
      record {
        life = m.life.tag ∙ sym tag;
        there = m.life.there;
        source = from;
        before = y.index;
        place = inr (below.place_is, below.met.life.there);
        linked = λ u at. let same : y.index ≡ u = omega (arith, at, below.place_is) in subst
            (λ (i : ℕ). IsEdgeFrom v.sizes journal source i) same linked;
        unmarked = live;
        gap = record {
          below = λ u at. let same : u ≡ y.index = omega (arith, at, below.place_is) in let is : word_at v.sizes journal
              (key_at v.sizes u) ≡ key_in v y.index = ap (λ (i : ℕ). word_at v.sizes journal (key_at v.sizes i)) same
              ∙ now in omega (arith, is, below.below);
          above = above;
        };
        word = ap (λ (w : ℕ). pack x.index 0 (tag_of w)) (sym is);
        fresh = still_fresh v journal x.index h m.fresh;
        filled = filled;
        target_key = end_key;
        source_met = (vertex_still v z journal r source m.from).met;
        target = end;
        target_met = (vertex_still v z journal r target m.to).met;
        pass = pass;
      })
      m.before

  -- an edge is marked
  pub lift_mark_edge : (source x : Life) → MayMarkEdge v source x → mark_of
      (word_at v.sizes journal (link_at v.sizes x.index)) ≡ 0 → IsMarkEdge v.sizes journal
      (mark_edge_event v x (word_at v.sizes journal (link_at v.sizes x.index)))
  lift_mark_edge source x m live =
      let s = edge_still source x m.edge in
      let now = edge_linked_now source x m.edge live in
      record {
        life = m.edge.life.tag ∙ sym s.same.tag;
        there = m.edge.life.there;
        place = refl;
        linked = now.linked;
        unmarked = live;
        word = refl;
        raised = subst (λ (y : Life). IsRaisedFor v.sizes journal v.number x y) (sym now.from)
            (raised_still v journal r x source (ap (λ (q : Pass). q.since) s.pass) m.raised);
        pass = s.met.pass;
      }

  -- an edge is replaced
  pub lift_replace_edge : (seen key : ℕ) (source target : Life) (weight : ℕ) (old x : Life)
      → MayReplaceEdge v seen key source target weight old x → word_at v.sizes journal
      (link_at v.sizes old.index) ≡ seen
      → IsReplaceEdge v.sizes journal (replace_event v seen key source target weight old x)
  lift_replace_edge seen key source target weight old x m is =
      let h = own_fresh v z journal r x.index m.life.there m.fresh in
      let tag : (node_in v.sizes journal x.index).tag ≡ (node_in v.sizes v.front x.index).tag = ap
      (λ (u : Node). u.tag) h.node in
      let to : index_of (word_at v.sizes journal (link_at v.sizes old.index)) ≡ index_of seen = ap index_of is in
      let live : mark_of (word_at v.sizes journal (link_at v.sizes old.index)) ≡ 0 = ap mark_of is ∙ m.unmarked in
      let s = edge_still source old m.edge in
      let now = edge_linked_now source old m.edge live in
      let kept = kept_front v.sizes v.front journal r.front r.kept in
      let d = ((named v.sizes z v.front kept).each old.index m.edge.life.there).edge_link
      (met_used v.sizes v.front v.number old.index m.edge.met) m.edge.edge in
      let one : d.link ≡ m.link = value d.link m.link (sym d.is ∙
      (ap (link_of v.front) (sym (life_is old old.index (node_in v.sizes v.front old.index).tag refl
      m.edge.life.tag)) ∙ m.link_is)) in
      record {
        life = m.life.tag ∙ sym tag;
        there = m.life.there;
        old_life = m.edge.life.tag ∙ sym s.same.tag;
        old_there = m.edge.life.there;
        place = refl;
        linked = now.linked;
        unmarked = live;
        word = ap (λ (w : ℕ). pack x.index 1 (tag_of w)) (sym is);
        fresh = still_fresh v journal x.index h m.fresh;
        filled = record {
          key_word = h.key ∙ m.filled.key_word;
          key_fits = m.filled.key_fits;
          link_word = h.link ∙ (m.filled.link_word ∙ (λ i. pack (sym to i) 0 (sym tag i)));
          second_word = h.second ∙ m.filled.second_word;
          third_word = h.third ∙ m.filled.third_word;
          some = m.filled.some;
          weight_fits = m.filled.weight_fits;
        };
        key = sym m.same_key ∙ (ap (λ (e : Event). e.key) (sym one) ∙ (d.of_key ∙ sym s.same.key));
        source = sym now.from;
        target = sym m.same_target ∙ (ap (λ (e : Event). e.target) (sym one) ∙ (d.to ∙ sym s.same.target));
        other = λ same. m.other_weight (ap (λ (e : Event). e.weight) (sym one) ∙
            (d.of_weight ∙ (sym s.same.weight ∙ sym same)));
        raised = subst (λ (y : Life). IsRaisedFor v.sizes journal v.number old y) (sym now.from)
            (raised_still v journal r old source (ap (λ (q : Pass). q.since) s.pass) m.raised);
        pass = s.met.pass;
      }
    where
      value : (a b : Event) → Some a ≡ Some b → a ≡ b
      value a b p = cc

  -- a list is closed at its head
  pub lift_freeze_head : (x : Life) → MayFreezeHead v x → mark_of
      (word_at v.sizes journal (second_at v.sizes x.index)) ≡ 0 → IsFreezeHead v.sizes journal
      (freeze_head_event v x (word_at v.sizes journal (second_at v.sizes x.index)))
  lift_freeze_head x m live =
      let s = own_spent v z journal r x.index m.life.there record { spent = m.spent.spent; mine = m.spent.mine } in
      record {
        life = m.life.tag ∙ sym (ap (λ (u : Node). u.tag) s.node);
        there = m.life.there;
        place = refl;
        spent = record {
          spent = ap (λ (u : Node). u.mode) s.node ∙ m.spent.spent;
          vertex = ap
              (λ (u : Node). u.vertex) s.node ∙ m.spent.vertex;
          mine = ap (λ (u : Node). u.who) s.node ∙ m.spent.mine;
        };
        unmarked = live;
        word = refl;
      }
