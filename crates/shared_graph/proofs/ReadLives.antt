-- What is read from the words of a kept journal: exactly the keys and the pairs of its graph, from no more nodes than
-- the
-- table has.
use Rattle.std.proofs.Common.{◌≡◌, ◌≢◌, ℕ, ◌+◌, ◌<◌, ◌≤◌, ◌%◌, ◌^◌, Bool, true, false, cond, not, ◌&&◌, ◌||◌}
use Rattle.std.proofs.Common.{◌==◌, List, [], ◌∷◌, ◌++◌, Some, length, refl, sym, ap, ap₂, ◌∙◌, subst, arith}
use Rattle.std.proofs.Common.{inl, ⊎_elim, eqb-true, eq-eqb, true≢false, length-append}
use Rattle.std.specs.Prelude.{nat_lt}
use Rattle.std.specs.List.{range_with_len}
use Rattle.std.proofs.lemmas.Bool.{and_parts, and_from}
use Rattle.graph_kinds.specs.Graph.{weight_of}
use Rattle.graph_kinds.specs.History.{Every}
use Rattle.graph_kinds.specs.Levels.{stands_in}
use Rattle.packed_link.specs.Link.{index_of, mark_of, tag_of, mark_bit, pack}
use Rattle.packed_link.specs.Layout.{Sizes, IsLayout, key_at, link_at, second_at, third_at}
use Rattle.packed_link.specs.declared.link.Life.{Life}
use Rattle.packed_link.proofs.Links.{index_of-pack, tag_of-pack}
use Rattle.core_journal.specs.declared.event.Event.{Event}
use Rattle.core_journal.specs.GraphOf.{graph_of, present_key}
use Rattle.core_journal.specs.Life.{key_of, link_of, edge_marked}
use Rattle.core_journal.specs.Machine.{word_at}
use Rattle.core_journal.specs.State.{Mode, Linked, State, is_linked, state}
use Rattle.core_journal.proofs.LivesOf.{joined_is, life_of_pair, present_is}
use Rattle.core_epoch.proofs.Lists.{range_contains, range_once, range_within}
use Rattle.core_chain.specs.Met.{IsMet}
use Rattle.core_kept.specs.Kept.{IsKept}
use Rattle.core_kept.specs.Nodes.{IsLinkedVertex, IsUsed}
use Rattle.core_kept.proofs.Contents.{contents}
use Rattle.core_kept.proofs.EdgeEnds.{ends_linked}
use Rattle.core_kept.proofs.LinkWords.{used_link}
use Rattle.core_kept.proofs.MetFromHead.{contains_stands}
use Rattle.core_kept.proofs.Named.{life_is, named}
use Rattle.core_kept.proofs.NodesInPlace.{used_there}
use Rattle.core_lists.specs.Chains.{bucket_chain, edge_chain, life_in}
use Rattle.core_lists.proofs.BucketChains.{IsNodeOfBucket, bucket_chains, home_low, is_in}
use Rattle.core_lists.proofs.GraphOfLives.{weight_between}
use Rattle.core_lists.proofs.LinkTellsPresence.{alive, key_there}
use Rattle.core_lists.proofs.ListChains.{edge_lists}
use Rattle.core_lists.proofs.ListHoldsKept.{listing}
use Rattle.core_lists.proofs.ListedWords.{listed_linked}
use Rattle.core_lists.proofs.LivesOnLists.{present_edge}
use Rattle.core_lists.proofs.OneVertexOfKey.{present_in}
use Rattle.core_lists.proofs.SpentWordsLead.{unclosed}
use Rattle.core_counts.proofs.GraphNodes.{linked_is, node_present, not_is, present_node}
use Rattle.shared_graph.specs.declared.reading.ReadVertex.{ReadVertex}
use Rattle.shared_graph.specs.declared.reading.ReadEdge.{ReadEdge}
use Rattle.shared_graph.specs.Reading.{all_read_edges, all_read_vertices, chain_nodes, edge_read, edges_of_vertex}
use Rattle.shared_graph.specs.Reading.{list_nodes, low_half, names_present, vertex_read}
use Rattle.shared_graph.proofs.Elements.{IsIn, in_parts, in_flat, ComesOf, of_flat, Differ, differ_append, differ_flat}
use Rattle.shared_graph.proofs.Elements.{few_below, in_contains, contains_in, once_differ, each_in}

-- the one element of a list that has it or none
in_single : {A : Type 0} (b : Bool) (x y : A) → IsIn (cond b (x ∷ []) []) y → (b ≡ true) × (x ≡ y)
in_single true x y h = ⊎_elim (λ (e : x ≡ y). (refl, e)) (λ (n : ⊥). absurd n) h
in_single false x y h = absurd h

single_in : {A : Type 0} (b : Bool) (x y : A) → b ≡ true → x ≡ y → IsIn (cond b (x ∷ []) []) y
single_in true x y t e = inl e
single_in false x y t e = absurd (cc)

single_differ : {A : Type 0} (id : A → ℕ) (b : Bool) (x : A) → Differ id (cond b (x ∷ []) [])
single_differ id true x = (λ y h. absurd h, tt)
single_differ id false x = tt

unmarked_bit : (b : Bool) → mark_bit b ≡ 0 → b ≡ false
unmarked_bit true h = absurd (omega (arith, h))
unmarked_bit false h = refl

low_is : (word value : ℕ) → word ≡ value → value < 2 ^ 32 → low_half word ≡ value
low_is word value is low = omega (arith, is, low)

stands_contained : (xs : List ℕ) (y : ℕ) → IsIn xs y → stands_in xs y ≡ true
stands_contained [] y h = absurd h
stands_contained (x ∷ xs) y h = ⊎_elim (λ (e : x ≡ y). ap (λ b. b || stands_in xs y) (eq-eqb x y e))
    (λ (t : IsIn xs y). ap (λ b. (x == y) || b) (stands_contained xs y t) ∙ or_true (x == y)) h
  where
    or_true : (b : Bool) → (b || true) ≡ true
    or_true true = refl
    or_true false = refl

module _ (sizes : Sizes) (z : IsLayout sizes) (journal : List Event) (kept : IsKept sizes journal) where
  abbrev s : State
  s = state sizes journal

  abbrev w : ℕ → ℕ
  w = word_at sizes journal

  linked_there : (x : ℕ) → (s.node x).mode ≡ Linked → x < sizes.nodes
  linked_there x m = used_there sizes journal x kept (λ f. absurd (cc))

  -- what is met on the chain of a bucket is a vertex of the bucket
  pub bucket_met : (j : ℕ) → j < sizes.buckets → IsMet (bucket_chain sizes journal j) (s.bucket j)
  bucket_met j low = (bucket_chains sizes z journal kept).each j low

  pub on_bucket : (j x : ℕ) → j < sizes.buckets → IsIn (s.bucket j) x → IsNodeOfBucket sizes (s.node x) j
  on_bucket j x low h = is_in sizes s j x (((bucket_met j low).exactly x).1 (contains_in (s.bucket j) x h))

  pub bucket_low : (j x : ℕ) → j < sizes.buckets → IsIn (s.bucket j) x → x < sizes.nodes
  bucket_low j x low h = linked_there x (on_bucket j x low h).linked

  -- what is met on the list of a linked vertex
  pub list_met : (x : ℕ) → x < sizes.nodes → IsLinkedVertex sizes journal x
      → IsMet (edge_chain sizes journal x) (s.edges x)
  list_met x there l = (edge_lists sizes z journal kept).each x record {
    there = there;
    used = subst IsUsed (sym l.linked) tt;
    vertex = l.vertex;
    unfinished = λ f. let open_ = unclosed sizes z journal kept x l.linked in let head = f.head in absurd (cc);
  }

  pub list_low : (x y : ℕ) → IsIn (s.edges x) y → y < sizes.nodes
  list_low x y h = ((listing sizes z journal kept).on x y (stands_contained (s.edges x) y h)).there

  -- a vertex that is read from the node of a linked vertex
  pub record IsReadAt (x : ℕ) (v : ReadVertex) : Type 0 where
    pub index : v.index ≡ x
    pub vertex : IsLinkedVertex sizes journal x
    pub there : x < sizes.nodes
    pub key : present_key journal (life_in sizes journal x) ≡ Some v.key

  vertex_there : (x : ℕ) (v : ReadVertex) → IsLinkedVertex sizes journal x → IsIn (vertex_read sizes journal x) v
      → IsReadAt x v
  vertex_there x v l h =
      let there = linked_there x l.linked in
      let used : IsUsed (s.node x).mode = subst IsUsed (sym l.linked) tt in
      let c = ((contents sizes z journal kept).each x there).vertex used l.vertex in
      let r = in_single (mark_of (w (link_at sizes x)) == 0)
      (record { index = x; key = low_half (w (key_at sizes x)) }) v h in
      let live : (s.node x).marked ≡ false = unmarked_bit (s.node x).marked
      (sym (used_link sizes z journal kept x there used).1 ∙ eqb-true (mark_of (w (link_at sizes x))) 0 r.0) in
      let key : low_half (w (key_at sizes x)) ≡ (s.node x).key = low_is (w (key_at sizes x)) (s.node x).key c.key_word
      c.key_fits in
      record {
        index = sym (ap (λ (u : ReadVertex). u.index) r.1);
        vertex = l;
        there = there;
        key = node_present sizes z journal kept x (flags (s.node x).mode (s.node x).vertex (s.node x).marked l.linked
            l.vertex live) ∙ ap Some (sym key ∙ ap (λ (u : ReadVertex). u.key) r.1);
      }
    where
      flags : (m : Mode) (v d : Bool) → m ≡ Linked → v ≡ true → d ≡ false → (is_linked m && (v && not d)) ≡ true
      flags m v d a b c = ap₂ (λ (p : Mode) (q : Bool). is_linked p && (q && not d)) a b ∙ ap not c

  -- a vertex of a key that is present is read from its node
  there_vertex : (x : Life) (k : ℕ) → present_key journal x ≡ Some k
      → IsIn (vertex_read sizes journal x.index) (record { index = x.index; key = k })
  there_vertex x k h =
      let p = present_node sizes z journal kept x k h in
      let f = and_parts (is_linked (s.node x.index).mode)
      ((s.node x.index).vertex && not (s.node x.index).marked) p.2 in
      let g = and_parts (s.node x.index).vertex (not (s.node x.index).marked) f.1 in
      let linked = linked_is (s.node x.index).mode f.0 in
      let used : IsUsed (s.node x.index).mode = subst IsUsed (sym linked) tt in
      let c = ((contents sizes z journal kept).each x.index p.0).vertex used g.0 in
      let live : mark_of (w (link_at sizes x.index)) ≡ 0 = (used_link sizes z journal kept x.index p.0 used).1
      ∙ ap mark_bit (not_is (s.node x.index).marked g.1) in
      let life : x ≡ life_in sizes journal x.index = life_is x x.index (s.node x.index).tag refl p.1 in
      let same : Some (s.node x.index).key ≡ Some k = sym (node_present sizes z journal kept x.index p.2)
      ∙ (ap (present_key journal) (sym life) ∙ h) in
      let key : (s.node x.index).key ≡ k = value_of (s.node x.index).key k same in
      single_in (mark_of (w (link_at sizes x.index)) == 0)
      (record { index = x.index; key = low_half (w (key_at sizes x.index)) }) (record { index = x.index; key = k })
      (eq-eqb (mark_of (w (link_at sizes x.index))) 0 live)
      (ap (λ (i : ℕ). record { index = x.index; key = i })
      (low_is (w (key_at sizes x.index)) (s.node x.index).key c.key_word c.key_fits ∙ key))
    where
      value_of : (a b : ℕ) → Some a ≡ Some b → a ≡ b
      value_of a b p = cc

  -- the nodes of all chains
  in_buckets : (x : ℕ) → IsIn (chain_nodes sizes journal) x → IsLinkedVertex sizes journal x
  in_buckets x h =
      let c = of_flat s.bucket (range_with_len 0 sizes.buckets) x h in
      let low = range_within 0 sizes.buckets c.of (contains_in (range_with_len 0 sizes.buckets) c.of c.there) in
      let v = on_bucket c.of x (omega (arith, low.1)) c.gives in
      record { linked = v.linked; vertex = v.vertex }

  -- each vertex that is read is present with its key
  pub vertices_there : (v : ReadVertex) → IsIn (all_read_vertices sizes journal) v → IsReadAt v.index v
  vertices_there v h =
      let c = of_flat (vertex_read sizes journal) (chain_nodes sizes journal) v h in
      let r = vertex_there c.of v (in_buckets c.of c.there) c.gives in
      subst (λ x. IsReadAt x v) (sym r.index) r

  -- and each that is present is read
  pub there_vertices : (x : Life) (k : ℕ) → present_key journal x ≡ Some k
      → IsIn (all_read_vertices sizes journal) (record { index = x.index; key = k })
  there_vertices x k h =
      let j : ℕ = k % sizes.buckets in
      let low : j < sizes.buckets = home_low sizes z journal kept k in
      let on = (present_in sizes z journal kept x k h).on in
      in_flat (vertex_read sizes journal) (chain_nodes sizes journal) x.index
      (record { index = x.index; key = k })
      (in_flat s.bucket (range_with_len 0 sizes.buckets) j x.index
      (in_contains (range_with_len 0 sizes.buckets) j (range_contains 0 sizes.buckets j (omega arith) (omega
      (arith, low))))
      (in_contains (s.bucket j) x.index (((bucket_met j low).exactly x.index).0 on)))
      (there_vertex x k h)

  -- the words of an edge on the list of a linked vertex
  record IsEdgeThere (x y : ℕ) : Type 0 where
    pub there : y < sizes.nodes
    pub link : Event
    pub is : link_of journal (life_in sizes journal y) ≡ Some link
    pub from : link.source ≡ life_in sizes journal x
    pub key : low_half (w (key_at sizes y)) ≡ link.key
    pub weight : low_half (w (third_at sizes y)) ≡ link.weight
    pub target_index : index_of (w (second_at sizes y)) ≡ link.target.index
    pub target_tag : tag_of (w (second_at sizes y)) ≡ link.target.tag
    pub target_key : key_of journal link.target ≡ Some link.key
    pub word : mark_of (w (link_at sizes y)) ≡ mark_bit (s.node y).marked
    pub mark : edge_marked journal (life_in sizes journal y) ≡ (s.node y).marked

  edge_there : (x y : ℕ) → x < sizes.nodes → IsLinkedVertex sizes journal x → IsIn (s.edges x) y → IsEdgeThere x y
  edge_there x y low l h =
      let on = stands_contained (s.edges x) y h in
      let d = (listing sizes z journal kept).on x y on in
      let linked = listed_linked sizes z journal kept x y low l.linked l.vertex on in
      let used : IsUsed (s.node y).mode = subst IsUsed (sym linked) tt in
      let n = ((named sizes z journal kept).each y d.there).edge_link used d.edge in
      let c = ((contents sizes z journal kept).each y d.there).edge used d.edge in
      let key = (ends_linked sizes z journal kept).target (life_in sizes journal y) n.link n.is in
      let there = key_there sizes journal kept n.link.target n.link.key key in
      let small : n.link.target.index < 2 ^ 24 = omega (arith, there, z.few_nodes) in
      let second : w (second_at sizes y) ≡ pack n.link.target.index 0 n.link.target.tag = c.target_word
      ∙ ap (λ (t : Life). pack t.index 0 t.tag) (sym n.to) in
      record {
        there = d.there;
        link = n.link;
        is = n.is;
        from = n.from ∙ life_is (s.node y).source x (s.node x).tag d.index d.life;
        key = low_is (w (key_at sizes y)) (s.node y).key c.key_word c.key_fits ∙ sym n.of_key;
        weight = low_is (w (third_at sizes y)) (s.node y).weight c.weight_word c.weight_fits ∙ sym n.of_weight;
        target_index = ap index_of second ∙ index_of-pack n.link.target.index 0 n.link.target.tag small;
        target_tag = ap tag_of second ∙ tag_of-pack n.link.target.index 0 n.link.target.tag small (omega arith);
        target_key = key;
        word = (used_link sizes z journal kept y d.there used).1;
        mark = ((named sizes z journal kept).each y d.there).edge_mark used d.edge;
      }

  -- a word names a life that is present
  names_there : (word : ℕ) (x : Life) (k : ℕ) → index_of word ≡ x.index → tag_of word ≡ x.tag
      → key_of journal x ≡ Some k
      → names_present sizes journal word ≡ true → present_key journal x ≡ Some k
  names_there word x k index tag key h =
      let p = and_parts (nat_lt (index_of word) sizes.nodes)
      ((tag_of (w (link_at sizes (index_of word))) == tag_of word)
      && (mark_of (w (link_at sizes (index_of word))) == 0)) h in
      let q = and_parts (tag_of (w (link_at sizes (index_of word))) == tag_of word)
      (mark_of (w (link_at sizes (index_of word))) == 0) p.1 in
      let place : w (link_at sizes x.index) ≡ w (link_at sizes (index_of word)) = ap (λ i. w (link_at sizes i))
      (sym index) in
      alive sizes z journal kept x k key
      (ap tag_of place ∙ (eqb-true (tag_of (w (link_at sizes (index_of word)))) (tag_of word) q.0 ∙ tag))
      (ap mark_of place ∙ eqb-true (mark_of (w (link_at sizes (index_of word)))) 0 q.1)

  there_names : (word : ℕ) (x : Life) (k : ℕ) → index_of word ≡ x.index → tag_of word ≡ x.tag
      → present_key journal x ≡ Some k → names_present sizes journal word ≡ true
  there_names word x k index tag h =
      let p = present_node sizes z journal kept x k h in
      let f = and_parts (is_linked (s.node x.index).mode)
      ((s.node x.index).vertex && not (s.node x.index).marked) p.2 in
      let g = and_parts (s.node x.index).vertex (not (s.node x.index).marked) f.1 in
      let linked = linked_is (s.node x.index).mode f.0 in
      let u = used_link sizes z journal kept x.index p.0 (subst IsUsed (sym linked) tt) in
      let place : w (link_at sizes (index_of word)) ≡ w (link_at sizes x.index) = ap (λ i. w (link_at sizes i)) index in
      and_from (nat_lt (index_of word) sizes.nodes)
      ((tag_of (w (link_at sizes (index_of word))) == tag_of word)
      && (mark_of (w (link_at sizes (index_of word))) == 0))
      (lt_true (index_of word) sizes.nodes (omega (arith, index, p.0)))
      (and_from (tag_of (w (link_at sizes (index_of word))) == tag_of word)
      (mark_of (w (link_at sizes (index_of word))) == 0)
      (eq-eqb (tag_of (w (link_at sizes (index_of word)))) (tag_of word)
      (ap tag_of place ∙ (u.0 ∙ (sym p.1 ∙ sym tag))))
      (eq-eqb (mark_of (w (link_at sizes (index_of word)))) 0
      (ap mark_of place ∙ (u.1 ∙ ap mark_bit (not_is (s.node x.index).marked g.1)))))
    where
      lt_true : (a b : ℕ) → a < b → nat_lt a b ≡ true
      lt_true a b h = grind (arith, h)

  -- each edge that is read is a pair of the graph, with its weight
  pub edges_there : (e : ReadEdge) → IsIn (all_read_edges sizes journal) e
      → weight_of (graph_of journal) e.from e.to ≡ Some e.weight
  edges_there e h =
      let c = of_flat (edges_of_vertex sizes journal) (all_read_vertices sizes journal) e h in
      let v : ReadVertex = c.of in
      let r = vertices_there v c.there in
      let d = of_flat (edge_read sizes journal v.key) (s.edges v.index) e c.gives in
      let t = edge_there v.index d.of r.there r.vertex d.there in
      let i = in_single ((mark_of (w (link_at sizes d.of)) == 0)
      && names_present sizes journal (w (second_at sizes d.of)))
      (record {
        from = v.key;
        to = low_half (w (key_at sizes d.of));
        weight = low_half (w (third_at sizes d.of));
      }) e d.gives in
      let p = and_parts (mark_of (w (link_at sizes d.of)) == 0)
      (names_present sizes journal (w (second_at sizes d.of))) i.0 in
      let live : (s.node d.of).marked ≡ false = unmarked_bit (s.node d.of).marked
      (sym t.word ∙ eqb-true (mark_of (w (link_at sizes d.of))) 0 p.0) in
      let to = names_there (w (second_at sizes d.of)) t.link.target t.link.key t.target_index t.target_tag t.target_key
      p.1 in
      let from : present_key journal t.link.source ≡ Some v.key = ap (present_key journal) t.from ∙ r.key in
      let pair = weight_between sizes z journal kept (life_in sizes journal d.of) t.link v.key t.link.key t.is
      (t.mark ∙ live) from to in
      ap₂ (λ a b. weight_of (graph_of journal) a b) (sym (ap (λ (x : ReadEdge). x.from) i.1))
      (sym (ap (λ (x : ReadEdge). x.to) i.1) ∙ t.key)
      ∙ (pair ∙ ap Some (sym t.weight ∙ ap (λ (x : ReadEdge). x.weight) i.1))

  -- an edge that isn't marked and whose target is present is read
  there_edge : (x y a b n : ℕ) (t : IsEdgeThere x y) → (s.node y).marked ≡ false
      → present_key journal t.link.target ≡ Some b → t.link.key ≡ b → t.link.weight ≡ n
      → IsIn (edge_read sizes journal a y) (record { from = a; to = b; weight = n })
  there_edge x y a b n t live target key weight = single_in ((mark_of (w (link_at sizes y)) == 0)
      && names_present sizes journal (w (second_at sizes y)))
      (record { from = a; to = low_half (w (key_at sizes y)); weight = low_half (w (third_at sizes y)) })
      (record { from = a; to = b; weight = n })
      (and_from (mark_of (w (link_at sizes y)) == 0) (names_present sizes journal (w (second_at sizes y)))
      (eq-eqb (mark_of (w (link_at sizes y))) 0 (t.word ∙ ap mark_bit live))
      (there_names (w (second_at sizes y)) t.link.target b t.target_index t.target_tag target))
      (ap₂ (λ (k m : ℕ). record { from = a; to = k; weight = m }) (t.key ∙ key) (t.weight ∙ weight))

  value : {A : Type 0} (x y : A) → Some x ≡ Some y → x ≡ y
  value x y p = cc

  -- so is a present edge
  linked_edge : (x y a b n : ℕ) (link : Event) (t : IsEdgeThere x y)
      → link_of journal (life_in sizes journal y) ≡ Some link → edge_marked journal (life_in sizes journal y) ≡ false
      → present_key journal link.target ≡ Some b → link.weight ≡ n
      → IsIn (edge_read sizes journal a y) (record { from = a; to = b; weight = n })
  linked_edge x y a b n link t is uncut to weight =
      let same : t.link ≡ link = value t.link link (sym t.is ∙ is) in
      let target : present_key journal t.link.target ≡ Some b = ap (λ (e : Event). present_key journal e.target) same
      ∙ to in
      there_edge x y a b n t (sym t.mark ∙ uncut) target
      (value t.link.key b (sym t.target_key ∙ (present_is journal t.link.target b target).1))
      (ap (λ (e : Event). e.weight) same ∙ weight)

  -- and each pair of the graph is read
  pub there_edges : (a b n : ℕ) → weight_of (graph_of journal) a b ≡ Some n
      → IsIn (all_read_edges sizes journal) (record { from = a; to = b; weight = n })
  there_edges a b n h =
      let l = life_of_pair journal a b n h in
      let y : Life = l.0 in
      let j = joined_is journal y a b n l.1 in
      let p = present_edge sizes z journal kept y j.link j.is j.uncut in
      let source : Life = (s.node y.index).source in
      let life : life_in sizes journal y.index ≡ y = sym (life_is y y.index (s.node y.index).tag refl p.life) in
      let is : link_of journal (life_in sizes journal y.index) ≡ Some j.link = ap (link_of journal) life ∙ j.is in
      let uncut : edge_marked journal (life_in sizes journal y.index) ≡ false = ap (edge_marked journal) life
      ∙ j.uncut in
      let on : IsIn (s.edges source.index) y.index = in_contains (s.edges source.index) y.index
      (contains_stands y.index (s.edges source.index) p.at.on) in
      let own = ((named sizes z journal kept).each y.index p.there).edge_link
      (subst IsUsed (sym p.linked.linked) tt) p.linked.edge in
      let same : own.link ≡ j.link = value own.link j.link (sym own.is ∙ is) in
      let from : present_key journal source ≡ Some a = ap (present_key journal)
      (sym own.from ∙ ap (λ (e : Event). e.source) same) ∙ j.source in
      let vertex = there_vertices source a from in
      let r = vertices_there (record { index = source.index; key = a }) vertex in
      in_flat (edges_of_vertex sizes journal) (all_read_vertices sizes journal)
      (record { index = source.index; key = a }) (record { from = a; to = b; weight = n }) vertex
      (in_flat (edge_read sizes journal a) (s.edges source.index) y.index (record { from = a; to = b; weight = n }) on
      (linked_edge source.index y.index a b n j.link (edge_there source.index y.index r.there r.vertex on) is uncut
      j.target j.weight))

  -- no node is on two chains, none on two lists, and none on a chain and a list
  chains_differ : Differ (λ (x : ℕ). x) (chain_nodes sizes journal)
  chains_differ = differ_flat s.bucket (λ x. x) (λ j. j) (λ x. (s.node x).key % sizes.buckets)
      (λ a b e. ap (λ x. (s.node x).key % sizes.buckets) e) (range_with_len 0 sizes.buckets)
      (once_differ (range_with_len 0 sizes.buckets) (range_once 0 sizes.buckets))
      (λ j h. once_differ (s.bucket j) (bucket_met j (low j h)).once)
      (λ j x h g. (on_bucket j x (low j h) g).of_bucket)
    where
      low : (j : ℕ) → IsIn (range_with_len 0 sizes.buckets) j → j < sizes.buckets
      low j h = let r = range_within 0 sizes.buckets j (contains_in (range_with_len 0 sizes.buckets) j h) in
          omega (arith, r.1)

  vertices_differ : Differ (λ (v : ReadVertex). v.index) (all_read_vertices sizes journal)
  vertices_differ = differ_flat (vertex_read sizes journal) (λ v. v.index) (λ x. x) (λ v. v.index) (λ a b e. e)
      (chain_nodes sizes journal) chains_differ
      (λ x h. single_differ (λ (v : ReadVertex). v.index) (mark_of (w (link_at sizes x)) == 0)
      (record { index = x; key = low_half (w (key_at sizes x)) }))
      (λ x v h g. (vertex_there x v (in_buckets x h) g).index)

  lists_differ : Differ (λ (x : ℕ). x) (list_nodes sizes journal (all_read_vertices sizes journal))
  lists_differ = differ_flat (λ (v : ReadVertex). s.edges v.index) (λ x. x) (λ v. v.index)
      (λ y. (s.node y).source.index) (λ a b e. ap (λ y. (s.node y).source.index) e) (all_read_vertices sizes journal)
      vertices_differ
      (λ v h. let r = vertices_there v h in once_differ (s.edges v.index) (list_met v.index r.there r.vertex).once)
      (λ v y h g. ((listing sizes z journal kept).on v.index y (stands_contained (s.edges v.index) y g)).index)

  -- so they are no more than the nodes of the table
  pub few_visits : length (chain_nodes sizes journal)
      + length (list_nodes sizes journal (all_read_vertices sizes journal)) ≤ sizes.nodes
  few_visits = subst (λ n. n ≤ sizes.nodes)
      (length-append (chain_nodes sizes journal) (list_nodes sizes journal (all_read_vertices sizes journal)))
      (few_below (chain_nodes sizes journal ++ list_nodes sizes journal (all_read_vertices sizes journal))
      sizes.nodes
      (differ_append (λ (x : ℕ). x) (chain_nodes sizes journal)
      (list_nodes sizes journal (all_read_vertices sizes journal)) chains_differ lists_differ apart)
      (λ y h. ⊎_elim (λ (l : IsIn (chain_nodes sizes journal) y). linked_there y (in_buckets y l).linked)
      (λ (r : IsIn (list_nodes sizes journal (all_read_vertices sizes journal)) y). let c = from_list y r in
      list_low c.of.index y c.gives)
      (in_parts (chain_nodes sizes journal) (list_nodes sizes journal (all_read_vertices sizes journal)) y h)))
    where
      from_list : (y : ℕ) → IsIn (list_nodes sizes journal (all_read_vertices sizes journal)) y
          → ComesOf (λ (v : ReadVertex). s.edges v.index) (all_read_vertices sizes journal) y
      from_list y r = of_flat (λ (v : ReadVertex). s.edges v.index) (all_read_vertices sizes journal) y r

      apart : (x y : ℕ) → IsIn (chain_nodes sizes journal) x
          → IsIn (list_nodes sizes journal (all_read_vertices sizes journal)) y → x ≢ y
      apart x y h g e =
          let v = (in_buckets x h).vertex in
          let c = from_list y g in
          let d = ((listing sizes z journal kept).on c.of.index y (stands_contained
          (s.edges c.of.index) y c.gives)).edge in
          true≢false (sym v ∙ (ap (λ i. (s.node i).vertex) e ∙ d))

  -- the vertices that are read are linked vertices of the table
  pub all_linked : Every (λ (v : ReadVertex). IsLinkedVertex sizes journal v.index) (all_read_vertices sizes journal)
  all_linked = each_in (λ (v : ReadVertex). IsLinkedVertex sizes journal v.index) (all_read_vertices sizes journal)
      (λ v h. (vertices_there v h).vertex)
