-- A key that a walk passed is absent at the moment of the word that led past it.
use Rattle.std.proofs.Common.{◌≡◌, ◌≢◌, ℕ, ◌%◌, ◌<◌, true, false, Some, refl, sym, ap, ◌∙◌, subst, arith, ⊎_elim}
use Rattle.std.proofs.Common.{mod-lt}
use Rattle.packed_link.specs.Link.{index_of, mark_of, nowhere}
use Rattle.packed_link.specs.Layout.{IsLayout, bucket_at, key_at, second_at}
use Rattle.packed_link.specs.declared.link.Life.{Life}
use Rattle.core_chain.specs.Chain.{ChainWord, Head, Next, IsOn}
use Rattle.core_chain.specs.Walk.{StandsBelow}
use Rattle.core_chain.proofs.Walks.{none_of_key}
use Rattle.core_journal.specs.declared.event.Event.{Event}
use Rattle.core_journal.specs.GraphOf.{present_key}
use Rattle.core_journal.specs.Life.{link_of, edge_marked}
use Rattle.core_journal.specs.Machine.{word_at}
use Rattle.core_journal.specs.State.{state}
use Rattle.core_lists.specs.Chains.{bucket_word, list_word, bucket_chain, edge_chain, life_in, HasList, IsEdgeOf}
use Rattle.core_rule.specs.Fronts.{IsBeforeVertex, IsVertexBelow, IsVertexAbove, IsBeforeEdge, IsEdgeBelow, IsEdgeAbove}
use Rattle.core_kept.specs.Kept.{IsKept}
use Rattle.core_kept.specs.Nodes.{node_in, IsUsed, IsLinkedEdge, is_listed}
use Rattle.core_rule.specs.declared.view.View.{View}
use Rattle.core_lists.proofs.BucketChains.{in_is, buckets}
use Rattle.core_lists.proofs.ListChains.{lists}
use Rattle.core_lists.proofs.LivesOnLists.{present_edge, present_source, edge_present, of_edge}
use Rattle.core_lists.proofs.ListHoldsKept.{sources, has_open}
use Rattle.core_kept.proofs.MetWords.{met_used}
use Rattle.core_kept.proofs.Named.{life_is, named}
use Rattle.core_kept.proofs.OwnMet.{key_word_is, met_linked}
use Rattle.core_lists.proofs.OneVertexOfKey.{present_live, present_in}

module _ (v : View) (z : IsLayout v.sizes) (kept : IsKept v.sizes v.front) where
  -- of vertices
  pub passed_vertex : (key place : ℕ) → IsBeforeVertex v key place → mark_of (word_at v.sizes v.front place) ≡ 0
      → (index_of (word_at v.sizes v.front place) ≢ nowhere → IsVertexAbove v key
      (index_of (word_at v.sizes v.front place)))
      → (x : Life) → present_key v.front x ≡ Some key → ⊥
  passed_vertex key place before live behind x p = ⊎_elim
      (λ (h : place ≡ bucket_at v.sizes home). none Head (sym h) tt tt)
      (λ (h : (y : Life) × IsVertexBelow v key place y).
      let m = h.1.met in
      let linked = met_linked v.sizes z v.front kept v.number h.0.index m.life.there m.met
      (ap (λ (i : ℕ). mark_of (word_at v.sizes v.front i)) (sym h.1.place_is) ∙ live) in
      let word = key_word_is v.sizes z v.front kept h.0.index m.life.there
      (met_used v.sizes v.front v.number h.0.index m.met) in
      none (Next h.0.index) (sym h.1.place_is) (in_is v.sizes
      (state v.sizes v.front) home h.0.index record {
        linked = linked;
        vertex = m.vertex;
        of_bucket = ap
            (λ (k : ℕ). k % v.sizes.buckets) (sym word) ∙ h.1.bucket;
      }) h.1.below)
      before
    where
      home : ℕ
      home = key % v.sizes.buckets

      none : (at : ChainWord) → bucket_word v.sizes (key % v.sizes.buckets) at ≡ place → IsOn
          (bucket_chain v.sizes v.front (key % v.sizes.buckets)) at → StandsBelow
          (bucket_chain v.sizes v.front (key % v.sizes.buckets)) at key → ⊥
      none at is on below =
          let j : ℕ = key % v.sizes.buckets in
          let low : j < v.sizes.buckets = mod-lt key (omega (arith, z.some_buckets)) in
          let here = present_in v.sizes z v.front kept x key p in
          let alive = present_live v.sizes z v.front kept x key p in
          let word = key_word_is v.sizes z v.front kept x.index here.there (subst IsUsed (sym alive.linked) tt) in
          none_of_key (bucket_chain v.sizes v.front j) at key x.index
          ((buckets v.sizes z v.front kept).each j low).chain
          record {
            present = on;
            above = below;
            below = λ some.
                (subst (λ (i : ℕ). index_of (word_at v.sizes v.front i) ≢ nowhere → IsVertexAbove v key
                (index_of (word_at v.sizes v.front i))) (sym is) behind some).above;
          }
          here.on (word ∙ alive.key_is)

  -- of the edges of a source
  pub passed_edge : (source : Life) (key place : ℕ) → IsBeforeEdge v source key place → mark_of
      (word_at v.sizes v.front place) ≡ 0
      → (index_of (word_at v.sizes v.front place) ≢ nowhere → IsEdgeAbove v source key
      (index_of (word_at v.sizes v.front place)))
      → (x : Life) (link : Event) → link_of v.front x ≡ Some link → edge_marked v.front x ≡ false → link.source ≡ source
      → link.key ≡ key → ⊥
  passed_edge source key place before live behind x link is unmarked from of_key = ⊎_elim
      (λ (h : place ≡ second_at v.sizes source.index). none Head (sym h) tt tt)
      (λ (h : (y : Life) × IsEdgeBelow v source key place y).
      let m = h.1.met in
      let linked : IsLinkedEdge v.sizes v.front h.0.index = record {
        linked = met_linked v.sizes z v.front kept v.number h.0.index m.life.there m.met
            (ap (λ (i : ℕ). mark_of (word_at v.sizes v.front i)) (sym h.1.place_is) ∙ live);
        edge = m.edge;
      } in
      let at = (sources v.sizes z v.front kept).each h.0.index m.life.there linked in
      none (Next h.0.index) (sym h.1.place_is) (subst (λ (l : Life). is_listed
      (state v.sizes v.front) l.index h.0.index ≡ true) m.from at.on) h.1.below)
      before
    where
      none : (at : ChainWord) → list_word v.sizes source.index at ≡ place → IsOn
          (edge_chain v.sizes v.front source.index) at → StandsBelow (edge_chain v.sizes v.front source.index) at key
          → ⊥
      none at place_is on below =
          let s = present_source v.sizes z v.front kept x link is unmarked in
          let has : HasList v.sizes v.front source.index = subst
          (λ (l : Life). HasList v.sizes v.front l.index) from s.list in
          let life : link.source ≡ life_in v.sizes v.front source.index = subst
          (λ (l : Life). link.source ≡ life_in v.sizes v.front l.index) from s.life in
          let edge : IsEdgeOf v.front (life_in v.sizes v.front source.index) x = subst
          (λ (l : Life). IsEdgeOf v.front l x) life (edge_present v.sizes z v.front kept x link is unmarked) in
          let here = of_edge v.sizes z v.front kept source.index has x edge in
          let e = present_edge v.sizes z v.front kept x link is unmarked in
          let used = subst IsUsed (sym e.linked.linked) tt in
          let n = ((named v.sizes z v.front kept).each x.index e.there).edge_link used e.linked.edge in
          let same : Some n.link ≡ Some link = sym n.is ∙ (ap (link_of v.front)
          (sym (life_is x x.index (node_in v.sizes v.front x.index).tag refl e.life)) ∙ is) in
          let key_is : word_at v.sizes v.front (key_at v.sizes x.index) ≡ key = key_word_is v.sizes z v.front kept
          x.index e.there used ∙ (sym n.of_key ∙ (ap (λ (d : Event). d.key) (value n.link link same) ∙ of_key)) in
          none_of_key (edge_chain v.sizes v.front source.index) at key x.index
          ((lists v.sizes z v.front kept).each source.index (has_open v.sizes v.front source.index has)).chain
          record {
            present = on;
            above = below;
            below = λ some.
                (subst (λ (i : ℕ). index_of (word_at v.sizes v.front i) ≢ nowhere → IsEdgeAbove v source key
                (index_of (word_at v.sizes v.front i))) (sym place_is) behind some).above;
          }
          here.on key_is
        where
          value : (a b : Event) → Some a ≡ Some b → a ≡ b
          value a b p = cc
