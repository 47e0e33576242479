-- The walks of a reading: along the chain of a bucket, and along the list of a vertex.
use Rattle.std.proofs.Common.{◌≡◌, ℕ, ◌+◌, ◌<◌, ◌≤◌, List, [], ◌∷◌, ◌++◌, length, sym, ap, ◌∙◌, subst, arith}
use Rattle.std.proofs.Common.{take, get_or, zero, suc}
use Rattle.std.specs.Prelude.{flat_map}
use Rattle.std.specs.List.{range_with_len}
use Rattle.std.proofs.lemmas.List.{take_more}
use Rattle.graph_kinds.specs.History.{Every}
use Rattle.packed_link.specs.Link.{index_of}
use Rattle.packed_link.specs.Layout.{bucket_at, link_at, second_at}
use Rattle.core_journal.specs.Machine.{word_at}
use Rattle.core_journal.specs.State.{state}
use Rattle.core_kept.specs.Nodes.{IsLinkedVertex}
use Rattle.core_lists.specs.Chains.{bucket_chain, edge_chain}
use Rattle.graph_table.specs.Tokens.{TableValue, TokenValue}
use Rattle.shared_graph.specs.declared.reading.ReadVertex.{ReadVertex}
use Rattle.shared_graph.specs.declared.reading.ReadEdge.{ReadEdge}
use Rattle.shared_graph.specs.Reading.{IsReading, chain_nodes, edge_read, edges_of_vertex, list_nodes}
use Rattle.shared_graph.specs.Reading.{all_read_edges, all_read_vertices, vertex_read}
use Rattle.shared_graph.proofs.Rests.{AtRest, read_kept, read_layout}
use Rattle.shared_graph.proofs.ReadLives.{all_linked, bucket_low, bucket_met, list_low, list_met}
use Rattle.shared_graph.proofs.Ways.{HasRead, IsOnWay, flat_flat, none_read, one_more_read, range_more}
use Rattle.shared_graph.proofs.Ways.{way_ends, way_goes, way_is_over, way_starts}

-- a fact of all elements is one of each
pub each_at : {A : Type 0} (P : A → Type 0) (xs : List A) (i : ℕ) (d : A) → i < length xs → Every P xs
    → P (get_or xs i d)
each_at P [] i d low all = absurd (omega (arith, low))
each_at P (x ∷ xs) zero d low all = all.0
each_at P (x ∷ xs) (suc i) d low all = each_at P xs i d (omega (arith, low)) all.1

module _ (g : TableValue) (begun : TokenValue) where
  abbrev w : ℕ → ℕ
  w = word_at g.sizes begun.view.front

  abbrev pub BucketWay : (bucket : ℕ) (before now : List ReadVertex) (word left rest : ℕ) → Type 0
  BucketWay bucket before now word left rest =
      IsOnWay (bucket_chain g.sizes begun.view.front bucket) ((state g.sizes begun.view.front).bucket bucket)
      (vertex_read g.sizes begun.view.front) before now word left rest

  abbrev pub ListWay : (vertex : ReadVertex) (before now : List ReadEdge) (word left rest : ℕ) → Type 0
  ListWay vertex before now word left rest =
      IsOnWay (edge_chain g.sizes begun.view.front vertex.index)
      ((state g.sizes begun.view.front).edges vertex.index) (edge_read g.sizes begun.view.front vertex.key)
      before now word left rest

  -- a walk begins
  pub bucket_starts : (t u : TokenValue) (bucket place word left : ℕ) (before : List ReadVertex)
      → bucket < g.sizes.buckets
      → place ≡ bucket_at g.sizes bucket → IsReading g begun u → AtRest begun t u (word ≡ w place)
      → AtRest begun t u (BucketWay bucket before before word left left)
  bucket_starts t u bucket place word left before low is r told still =
      let d = told still in
      let kept = read_kept g begun u r still in (
        d.0,
        way_starts (bucket_chain g.sizes begun.view.front bucket) ((state g.sizes begun.view.front).bucket bucket)
            (vertex_read g.sizes begun.view.front) before word left
            (bucket_met g.sizes (read_layout g begun u r) begun.view.front kept bucket low).met
            (ap index_of (d.1 ∙ ap w is)),
      )

  pub list_starts : (t u : TokenValue) (vertex : ReadVertex) (place word left : ℕ) (before : List ReadEdge)
      → vertex.index < g.sizes.nodes → place ≡ second_at g.sizes vertex.index → IsReading g begun u
      → AtRest begun t u (word ≡ w place)
      → AtRest begun t u (IsLinkedVertex g.sizes begun.view.front vertex.index
      → ListWay vertex before before word left left)
  list_starts t u vertex place word left before low is r told still =
      let d = told still in
      let kept = read_kept g begun u r still in (
        d.0,
        λ linked. way_starts (edge_chain g.sizes begun.view.front vertex.index)
            ((state g.sizes begun.view.front).edges vertex.index)
            (edge_read g.sizes begun.view.front vertex.key) before word
            left (list_met g.sizes (read_layout g begun u r) begun.view.front kept vertex.index low linked).met
            (ap index_of (d.1 ∙ ap w is)),
      )

  -- it goes on by a node
  pub bucket_goes : (t u v : TokenValue) (bucket word word' left rest rest' index : ℕ)
      (before now now' : List ReadVertex)
      → index < g.sizes.nodes → index ≡ index_of word → rest ≡ rest' + 1 → IsReading g begun v
      → AtRest begun t u (BucketWay bucket before now word left rest)
      → AtRest begun u v ((word' ≡ w (link_at g.sizes index))
      × (now' ≡ now ++ vertex_read g.sizes begun.view.front index))
      → AtRest begun t v (BucketWay bucket before now' word' left rest')
  bucket_goes t u v bucket word word' left rest rest' index before now now' low is one r old told still =
      let d = told still in
      let o = old d.0 in
      let z = read_layout g begun v r in (
        o.0,
        way_goes (bucket_chain g.sizes begun.view.front bucket) ((state g.sizes begun.view.front).bucket bucket)
            (vertex_read g.sizes begun.view.front) before now now' word word' left rest rest' index g.sizes.nodes
            (omega (arith, z.few_nodes)) low is (ap index_of d.1.0) d.1.1 one o.1,
      )

  pub list_goes : (t u v : TokenValue) (vertex : ReadVertex) (word word' left rest rest' index : ℕ)
      (before now now' : List ReadEdge) → index < g.sizes.nodes → index ≡ index_of word → rest ≡ rest' + 1
      → IsReading g begun v → AtRest begun t u (IsLinkedVertex g.sizes begun.view.front vertex.index
      → ListWay vertex before now word left rest)
      → AtRest begun u v ((word' ≡ w (link_at g.sizes index))
      × (now' ≡ now ++ edge_read g.sizes begun.view.front vertex.key index))
      → AtRest begun t v (IsLinkedVertex g.sizes begun.view.front vertex.index
      → ListWay vertex before now' word' left rest')
  list_goes t u v vertex word word' left rest rest' index before now now' low is one r old told still =
      let d = told still in
      let o = old d.0 in
      let z = read_layout g begun v r in (
        o.0,
        λ linked. way_goes (edge_chain g.sizes begun.view.front vertex.index)
            ((state g.sizes begun.view.front).edges vertex.index)
            (edge_read g.sizes begun.view.front vertex.key) before now now'
            word word' left rest rest' index g.sizes.nodes (omega (arith, z.few_nodes)) low is
            (ap index_of d.1.0) d.1.1 one
            (o.1 linked),
      )

  -- and ends: at a word that leads to no node, or where no visit is left
  pub bucket_ends : (t u : TokenValue) (bucket word left rest index : ℕ) (before now : List ReadVertex)
      → bucket < g.sizes.buckets → g.sizes.nodes ≤ index → index ≡ index_of word → IsReading g begun u
      → AtRest begun t u (BucketWay bucket before now word left rest)
      → AtRest begun t u (length ((state g.sizes begun.view.front).bucket bucket) ≤ left
      → (rest + length ((state g.sizes begun.view.front).bucket bucket) ≡ left)
      × (now ≡ before ++ flat_map (vertex_read g.sizes begun.view.front)
      ((state g.sizes begun.view.front).bucket bucket)))
  bucket_ends t u bucket word left rest index before now low high is r old still =
      let o = old still in
      let kept = read_kept g begun u r still in
      let a = way_ends (bucket_chain g.sizes begun.view.front bucket) ((state g.sizes begun.view.front).bucket bucket)
      (vertex_read g.sizes begun.view.front) before now word left rest index g.sizes.nodes
      (λ y h. bucket_low g.sizes (read_layout g begun u r) begun.view.front kept bucket y low h) high is o.1 in
      (o.0, λ room. (a.spent, a.items))

  pub bucket_over : (t u : TokenValue) (bucket word left rest : ℕ) (before now : List ReadVertex) → rest ≡ 0
      → AtRest begun t u (BucketWay bucket before now word left rest)
      → AtRest begun t u (length ((state g.sizes begun.view.front).bucket bucket) ≤ left
      → (rest + length ((state g.sizes begun.view.front).bucket bucket) ≡ left)
      × (now ≡ before ++ flat_map (vertex_read g.sizes begun.view.front)
      ((state g.sizes begun.view.front).bucket bucket)))
  bucket_over t u bucket word left rest before now none old still =
      let o = old still in (
        o.0,
        λ room.
            let a = way_is_over (bucket_chain g.sizes begun.view.front bucket)
            ((state g.sizes begun.view.front).bucket bucket) (vertex_read g.sizes begun.view.front) before now word
            left rest
            room none o.1 in
            (a.spent, a.items),
      )

  pub list_ends : (t u : TokenValue) (vertex : ReadVertex) (word left rest index : ℕ) (before now : List ReadEdge)
      → g.sizes.nodes ≤ index → index ≡ index_of word → IsReading g begun u
      → AtRest begun t u (IsLinkedVertex g.sizes begun.view.front vertex.index
      → ListWay vertex before now word left rest)
      → AtRest begun t u (IsLinkedVertex g.sizes begun.view.front vertex.index
      → length ((state g.sizes begun.view.front).edges vertex.index) ≤ left
      → (rest + length ((state g.sizes begun.view.front).edges vertex.index) ≡ left)
      × (now ≡ before ++ flat_map (edge_read g.sizes begun.view.front vertex.key)
      ((state g.sizes begun.view.front).edges vertex.index)))
  list_ends t u vertex word left rest index before now high is r old still =
      let o = old still in
      let kept = read_kept g begun u r still in (
        o.0,
        λ linked room.
            let a = way_ends (edge_chain g.sizes begun.view.front vertex.index)
            ((state g.sizes begun.view.front).edges vertex.index)
            (edge_read g.sizes begun.view.front vertex.key) before now word
            left rest index g.sizes.nodes
            (λ y h. list_low g.sizes (read_layout g begun u r) begun.view.front kept vertex.index y h) high is
            (o.1 linked) in
            (a.spent, a.items),
      )

  pub list_over : (t u : TokenValue) (vertex : ReadVertex) (word left rest : ℕ) (before now : List ReadEdge) → rest ≡ 0
      → AtRest begun t u (IsLinkedVertex g.sizes begun.view.front vertex.index
      → ListWay vertex before now word left rest)
      → AtRest begun t u (IsLinkedVertex g.sizes begun.view.front vertex.index
      → length ((state g.sizes begun.view.front).edges vertex.index) ≤ left
      → (rest + length ((state g.sizes begun.view.front).edges vertex.index) ≡ left)
      × (now ≡ before ++ flat_map (edge_read g.sizes begun.view.front vertex.key)
      ((state g.sizes begun.view.front).edges vertex.index)))
  list_over t u vertex word left rest before now none old still =
      let o = old still in (
        o.0,
        λ linked room.
            let a = way_is_over (edge_chain g.sizes begun.view.front vertex.index)
            ((state g.sizes begun.view.front).edges vertex.index)
            (edge_read g.sizes begun.view.front vertex.key) before now word
            left rest room none (o.1 linked) in
            (a.spent, a.items),
      )

  -- of the first buckets all vertices were read
  abbrev pub BucketsRead : (count : ℕ) (now : List ReadVertex) (left rest : ℕ) → Type 0
  BucketsRead count now left rest =
      HasRead (state g.sizes begun.view.front).bucket
      (λ j. flat_map (vertex_read g.sizes begun.view.front) ((state g.sizes begun.view.front).bucket j))
      (range_with_len 0 count) [] now left rest

  pub no_bucket : (t : TokenValue) (now : List ReadVertex) (left : ℕ) → now ≡ []
      → AtRest begun t t (BucketsRead 0 now left left)
  no_bucket t now left none still = (
    still,
    subst (λ ys. BucketsRead 0 ys left left) (sym none) (none_read (state g.sizes begun.view.front).bucket
        (λ j. flat_map (vertex_read g.sizes begun.view.front) ((state g.sizes begun.view.front).bucket j)) [] left),
  )

  pub next_bucket : (t u v : TokenValue) (bucket left rest rest' : ℕ) (now now' : List ReadVertex)
      → AtRest begun t u (BucketsRead bucket now left rest)
      → AtRest begun u v (length ((state g.sizes begun.view.front).bucket bucket) ≤ rest
      → (rest' + length ((state g.sizes begun.view.front).bucket bucket) ≡ rest)
      × (now' ≡ now ++ flat_map (vertex_read g.sizes begun.view.front)
      ((state g.sizes begun.view.front).bucket bucket)))
      → AtRest begun t v (BucketsRead (bucket + 1) now' left rest')
  next_bucket t u v bucket left rest rest' now now' old new still =
      let d = new still in
      let o = old d.0 in
      let more : range_with_len 0 (bucket + 1) ≡ range_with_len 0 bucket ++ bucket ∷ [] = range_more 0 bucket
      ∙ ap (λ i. range_with_len 0 bucket ++ i ∷ []) (omega arith) in (
        o.0,
        subst (λ ps. HasRead (state g.sizes begun.view.front).bucket
            (λ j. flat_map (vertex_read g.sizes begun.view.front)
            ((state g.sizes begun.view.front).bucket j)) ps [] now'
            left rest') (sym more)
            (one_more_read (state g.sizes begun.view.front).bucket
            (λ j. flat_map (vertex_read g.sizes begun.view.front) ((state g.sizes begun.view.front).bucket j))
            (range_with_len 0 bucket) bucket [] now now' left rest rest' o.1 d.1),
      )

  pub all_buckets : (t u : TokenValue) (count left rest : ℕ) (now : List ReadVertex) → count ≡ g.sizes.buckets
      → AtRest begun t u (BucketsRead count now left rest)
      → AtRest begun t u (length (chain_nodes g.sizes begun.view.front) ≤ left
      → (rest + length (chain_nodes g.sizes begun.view.front) ≡ left)
      × (now ≡ flat_map (vertex_read g.sizes begun.view.front)
      (chain_nodes g.sizes begun.view.front)))
  all_buckets t u count left rest now is old still =
      let o = old still in
      let all : BucketsRead g.sizes.buckets now left rest = subst (λ n. BucketsRead n now left rest) is o.1 in (
        o.0,
        λ room.
            let a = all room in (
              a.0,
              a.1 ∙ sym (flat_flat (state g.sizes begun.view.front).bucket (vertex_read g.sizes begun.view.front)
                  (range_with_len 0 g.sizes.buckets)),
            ),
      )

  -- of the first vertices all edges were read
  abbrev pub ListsRead : (vertices : List ReadVertex) (now : List ReadEdge) (left rest : ℕ) → Type 0
  ListsRead vertices now left rest =
      HasRead (λ (v : ReadVertex). (state g.sizes begun.view.front).edges v.index)
      (edges_of_vertex g.sizes begun.view.front) vertices [] now left rest

  abbrev pub AreLinked : List ReadVertex → Type 0
  AreLinked vertices = Every (λ (v : ReadVertex). IsLinkedVertex g.sizes begun.view.front v.index) vertices

  pub no_list : (t : TokenValue) (vertices : List ReadVertex) (now : List ReadEdge) (left : ℕ) → now ≡ []
      → AtRest begun t t (AreLinked vertices → ListsRead [] now left left)
  no_list t vertices now left none still = (
    still,
    λ linked. subst (λ ys. ListsRead [] ys left left) (sym none)
        (none_read (λ (v : ReadVertex). (state g.sizes begun.view.front).edges v.index)
        (edges_of_vertex g.sizes begun.view.front) [] left),
  )

  pub next_list : (t u v : TokenValue) (vertices : List ReadVertex) (i : ℕ) (x : ReadVertex) (left rest rest' : ℕ)
      (now now' : List ReadEdge) → i < length vertices
      → AtRest begun t u (AreLinked vertices → ListsRead (take i vertices) now left rest)
      → AtRest begun u v (IsLinkedVertex g.sizes begun.view.front (get_or vertices i x).index
      → length ((state g.sizes begun.view.front).edges (get_or vertices i x).index) ≤ rest
      → (rest' + length ((state g.sizes begun.view.front).edges (get_or vertices i x).index) ≡ rest)
      × (now' ≡ now ++ edges_of_vertex g.sizes begun.view.front (get_or vertices i x)))
      → AtRest begun t v (AreLinked vertices → ListsRead (take (i + 1) vertices) now' left rest')
  next_list t u v vertices i x left rest rest' now now' low old new still =
      let d = new still in
      let o = old d.0 in (
        o.0,
        λ linked. subst (λ ps. ListsRead ps now' left rest') (sym (take_more vertices i x low))
            (one_more_read (λ (v : ReadVertex). (state g.sizes begun.view.front).edges v.index)
            (edges_of_vertex g.sizes begun.view.front) (take i vertices)
            (get_or vertices i x) [] now now' left rest rest'
            (o.1 linked)
            (d.1 (each_at (λ (v : ReadVertex). IsLinkedVertex g.sizes begun.view.front v.index) vertices i x low
            linked))),
      )

  pub last_list : (t u : TokenValue) (vertices some : List ReadVertex) (left rest : ℕ) (now : List ReadEdge)
      → some ≡ vertices → IsReading g begun u
      → AtRest begun t u (AreLinked vertices → ListsRead some now left rest)
      → AtRest begun t u (vertices ≡ all_read_vertices g.sizes begun.view.front
      → length (list_nodes g.sizes begun.view.front vertices) ≤ left
      → now ≡ all_read_edges g.sizes begun.view.front)
  last_list t u vertices some left rest now is r old still =
      let o = old still in (
        o.0,
        λ all room.
            let linked = subst AreLinked (sym all) (all_linked g.sizes (read_layout g begun u r) begun.view.front
            (read_kept g begun u r still)) in
            (subst (λ vs. ListsRead vs now left rest) is (o.1 linked) room).1
            ∙ ap (flat_map (edges_of_vertex g.sizes begun.view.front)) all,
      )
