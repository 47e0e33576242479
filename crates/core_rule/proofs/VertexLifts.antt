-- What a token knows by its front makes its steps on vertices allowed: a vertex is linked, marked, and raised for.
use Rattle.std.proofs.Common.{◌≡◌, ◌≢◌, ℕ, ◌%◌, ◌<◌, List, true, inl, inr, refl, sym, ap, ◌∙◌, subst, arith, ⊎_elim}
use Rattle.std.proofs.Math.Nat.{mod-lt}
use Rattle.packed_link.specs.Link.{pack, index_of, mark_of, tag_of, nowhere}
use Rattle.packed_link.specs.Layout.{IsLayout, bucket_at, key_at, link_at, third_at}
use Rattle.packed_link.specs.declared.link.Life.{Life}
use Rattle.core_journal.specs.Event.{raises}
use Rattle.core_journal.specs.declared.event.Event.{Event}
use Rattle.core_journal.specs.Machine.{word_at}
use Rattle.core_journal.specs.Reuse.{pass_in}
use Rattle.core_journal.specs.State.{Node, Pass}
use Rattle.core_journal.proofs.Lists.{prefix_trans}
use Rattle.core_kept.specs.Nodes.{node_in, IsLinkedVertex, IsVertex}
use Rattle.core_kept.specs.Vertices.{IsFilledVertex, IsLinkVertex, IsMarkVertex}
use Rattle.core_kept.specs.Edges.{IsRaise}
use Rattle.core_rule.specs.Fronts.{MetVertex, IsVertexBelow, MayLinkVertex, MayMarkVertex, MayRaise, key_in}
use Rattle.core_rule.specs.OwnEvents.{link_vertex_event, mark_vertex_event, raise_event}
use Rattle.core_rule.specs.Owes.{Reaches}
use Rattle.core_rule.specs.declared.view.View.{View}
use Rattle.core_kept.proofs.Callers.{made_quiet}
use Rattle.core_rule.proofs.OwnLifts.{own_pass, own_fresh, still_fresh}
use Rattle.core_kept.proofs.OwnMet.{IsMetStill, met_still, met_linked}

module _ (v : View) (z : IsLayout v.sizes) (journal : List Event) (r : Reaches v journal) where
  -- what a vertex that was met is in the journal
  pub vertex_still : (x : Life) → MetVertex v x → IsMetStill v.sizes v.front journal v.number x.index
  vertex_still x m = met_still v.sizes z v.number v.last x.index v.front journal r.front r.kept r.quiet r.old m.met

  pub vertex_now : (x : Life) → MetVertex v x → IsVertex v.sizes journal x
  vertex_now x m = let s = vertex_still x m in record {
    there = m.life.there;
    life = m.life.tag
        ∙ sym s.same.tag;
    used = s.used;
    vertex = s.same.vertex ∙ m.vertex;
  }

  pub vertex_linked_now : (x : Life) → MetVertex v x → mark_of (word_at v.sizes journal (link_at v.sizes x.index)) ≡ 0
      → IsLinkedVertex v.sizes journal x.index
  vertex_linked_now x m live = let s = vertex_still x m in record {
    linked = met_linked v.sizes z journal r.kept v.number x.index m.life.there s.met live;
    vertex = s.same.vertex
        ∙ m.vertex;
  }

  pub vertex_key_now : (x : Life) → MetVertex v x → word_at v.sizes journal (key_at v.sizes x.index) ≡ key_in v x.index
  vertex_key_now x m = (vertex_still x m).key m.life.there

  -- a vertex is linked
  pub lift_link_vertex : (place seen key : ℕ) (x : Life) → MayLinkVertex v place seen key x
      → word_at v.sizes journal place ≡ seen → IsLinkVertex v.sizes journal (link_vertex_event v place seen key x)
  lift_link_vertex place seen key x m is =
      let h = own_fresh v z journal r x.index m.life.there m.fresh in
      let tag : (node_in v.sizes journal x.index).tag ≡ (node_in v.sizes v.front x.index).tag = ap
      (λ (u : Node). u.tag) h.node in
      let to : index_of (word_at v.sizes journal place) ≡ index_of seen = ap index_of is in
      let live : mark_of (word_at v.sizes journal place) ≡ 0 = ap mark_of is ∙ m.unmarked in
      let pass : (pass_in v.sizes journal v.number).is_open ≡ true = ap (λ (q : Pass). q.is_open) (own_pass v journal r)
      ∙ m.pass in
      let filled : IsFilledVertex v.sizes journal x.index key (index_of (word_at v.sizes journal place)) = record {
        key_word = h.key ∙ m.filled.key_word;
        key_fits = m.filled.key_fits;
        link_word = h.link ∙ (m.filled.link_word ∙ (λ i. pack (sym to i) 0 (sym tag i)));
        second_word = h.second ∙ (m.filled.second_word ∙ ap (λ (t : ℕ). pack nowhere 0 t) (sym tag));
        third_word = h.third ∙ m.filled.third_word;
      } in
      let above : index_of (word_at v.sizes journal place) ≢ nowhere → key < word_at v.sizes journal
      (key_at v.sizes (index_of (word_at v.sizes journal place))) = λ some.
      let b = m.behind (λ none. some (to ∙ none)) in
      let at : key_at v.sizes (index_of (word_at v.sizes journal place)) ≡ key_at v.sizes b.life.index = ap
      (key_at v.sizes) (to ∙ sym b.is) in
      let now : word_at v.sizes journal (key_at v.sizes b.life.index) ≡ key_in v b.life.index = vertex_key_now b.life
      b.met in
      let same : key_in v b.life.index ≡ key_in v (index_of seen) = ap (key_in v) b.is in
      omega (arith, b.above, same, now, ap (word_at v.sizes journal) at) in
      ⊎_elim
      (λ (head : place ≡ bucket_at v.sizes (key % v.sizes.buckets)).
      let within : key % v.sizes.buckets < v.sizes.buckets = mod-lt key (omega (arith, z.some_buckets)) in
      record {
        life = m.life.tag ∙ sym tag;
        there = m.life.there;
        bucket = key % v.sizes.buckets;
        before = 0;
        place = inl (head, within);
        linked = λ y at. absurd (omega (arith, head, at, within));
        unmarked = live;
        gap = record {
          bucket_word = λ j at _. omega (arith, head, at);
          bucket = λ y at. absurd
              (omega (arith, head, at, within));
          below = λ y at. absurd
              (omega (arith, head, at, within));
          above = above;
        };
        word = ap (λ (w : ℕ). pack x.index 0 (tag_of w)) (sym is);
        fresh = still_fresh v journal x.index h m.fresh;
        filled = filled;
        pass = pass;
      })
      (λ (b : (y : Life) × IsVertexBelow v key place y).
      let y = b.0 in
      let below = b.1 in
      let there = below.met.life.there in
      let linked : IsLinkedVertex v.sizes journal y.index = vertex_linked_now y below.met
      (ap (λ (i : ℕ). mark_of (word_at v.sizes journal i)) (sym below.place_is) ∙ live) in
      let now : word_at v.sizes journal (key_at v.sizes y.index) ≡ key_in v y.index = vertex_key_now y below.met in
      record {
        life = m.life.tag ∙ sym tag;
        there = m.life.there;
        bucket = 0;
        before = y.index;
        place = inr (below.place_is, there);
        linked = λ u at. let same : y.index ≡ u = omega (arith, at, below.place_is) in subst
            (λ (i : ℕ). IsLinkedVertex v.sizes journal i) same linked;
        unmarked = live;
        gap = record {
          bucket_word = λ j at within. absurd (omega (arith, at, within, below.place_is));
          bucket = λ u at. let same : u ≡ y.index = omega (arith, at, below.place_is) in ap
              (λ (i : ℕ). word_at v.sizes journal (key_at v.sizes i) % v.sizes.buckets) same ∙
              (ap (λ (k : ℕ). k % v.sizes.buckets) now ∙ below.bucket);
          below = λ u at. let same : u ≡ y.index = omega (arith, at, below.place_is) in let is : word_at v.sizes journal
              (key_at v.sizes u) ≡ key_in v y.index = ap (λ (i : ℕ). word_at v.sizes journal (key_at v.sizes i)) same
              ∙ now in omega (arith, is, below.below);
          above = above;
        };
        word = ap (λ (w : ℕ). pack x.index 0 (tag_of w)) (sym is);
        fresh = still_fresh v journal x.index h m.fresh;
        filled = filled;
        pass = pass;
      })
      m.before

  -- a vertex is marked
  pub lift_mark_vertex : (x : Life) → MayMarkVertex v x → mark_of
      (word_at v.sizes journal (link_at v.sizes x.index)) ≡ 0 → IsMarkVertex v.sizes journal
      (mark_vertex_event v x (word_at v.sizes journal (link_at v.sizes x.index)))
  lift_mark_vertex x m live =
      let s = vertex_still x m.vertex in record {
        life = m.vertex.life.tag ∙ sym s.same.tag;
        there = m.vertex.life.there;
        place = refl;
        linked = vertex_linked_now x m.vertex live;
        unmarked = live;
        word = refl;
        pass = s.met.pass;
      }

  -- the counter of a vertex is raised
  pub lift_raise : (x : Life) → MayRaise v x → IsRaise v.sizes journal
      (raise_event v x (word_at v.sizes journal (third_at v.sizes x.index)))
  lift_raise x m =
      let s = vertex_still x m.vertex in record {
        life = m.vertex.life.tag ∙ sym s.same.tag;
        there = m.vertex.life.there;
        place = refl;
        vertex = vertex_now x m.vertex;
        moment = m.moment;
        before = prefix_trans m.moment v.front journal m.before r.front;
        since = let same = ap (λ (q : Pass). q.since) s.pass in omega (arith, same, m.since);
        edge = m.edge;
        link = m.link;
        linked = m.linked;
        from = m.from;
        unmarked = m.unmarked;
        word = refl;
        met = s.met;
        pass = s.met.pass;
        limit = let same = made_quiet raises v.number v.last v.front journal r.front r.old r.quiet in omega
            (arith, same, m.limit);
      }
