-- Where the words of linked nodes lead: a bucket and the link of a linked vertex to linked vertices, an open list and
-- the link of
-- a linked edge to linked edges.
use Rattle.std.proofs.Common.{◌≡◌, ◌≢◌, ℕ, ◌%◌, ◌<◌, ◌≤◌, ◌⊎◌, List, [], ◌∷◌, Bool, true, false, cond, inl, inr, refl}
use Rattle.std.proofs.Common.{sym, ap, ◌∙◌, subst, arith, ⊎_elim}
use Rattle.std.specs.Prelude.{take_while}
use Rattle.std.proofs.lemmas.List.Sums.{take_while-cons}
use mathlib.Core.Logic.{dite}
use native.Mathlib.Decide.{ℕ_discrete}
use Rattle.graph_kinds.specs.Levels.{stands_in}
use Rattle.packed_link.specs.Link.{index_of, mark_of, nowhere}
use Rattle.packed_link.specs.Layout.{Sizes, IsLayout, bucket_at, key_at, link_at, second_at}
use Rattle.packed_link.specs.declared.link.Life.{Life}
use Rattle.core_chain.specs.Chain.{Chain, ChainWord, Head, Next, IsOn, IsChain, Precedes, rank_of}
use Rattle.core_chain.specs.Met.{MeetsFrom}
use Rattle.core_chain.proofs.Orders.{by_rank, one_leads, before_same}
use Rattle.core_journal.specs.declared.event.Event.{Event}
use Rattle.core_journal.specs.Machine.{word_at}
use Rattle.core_journal.specs.State.{Linked, state}
use Rattle.core_kept.specs.Nodes.{node_in, IsUsed, IsLinkedVertex, IsLinkedEdge, IsVertex, is_listed, is_frozen}
use Rattle.core_kept.specs.Kept.{IsKept}
use Rattle.core_kept.specs.Edges.{IsEdgeFrom}
use Rattle.core_lists.specs.Chains.{bucket_chain, edge_chain, life_in, HasList}
use Rattle.core_lists.specs.Walks.{LeadsTo}
use Rattle.core_lists.proofs.BucketChains.{is_in, home_in, home_low, key_word, buckets}
use Rattle.core_kept.proofs.Contents.{contents}
use Rattle.core_lists.proofs.ListChains.{lists}
use Rattle.core_kept.proofs.LinkWords.{mark_isnt}
use Rattle.core_kept.proofs.NodesOnLists.{stands_case, stands_here, stands_later, yes_no}
use Rattle.core_lists.proofs.ListHoldsKept.{listing, sources, has_open}
use Rattle.core_kept.proofs.NodesInPlace.{used_there}

-- the word of a bucket, or the link of a linked vertex of it, leads to linked vertices
pub leads_to_vertex : (sizes : Sizes) → IsLayout sizes → (journal : List Event) → IsKept sizes journal → (j x : ℕ)
    (p : ChainWord) → j < sizes.buckets → IsOn (bucket_chain sizes journal j) p →
    (bucket_chain sizes journal j).next p ≡ x → x < sizes.nodes → IsLinkedVertex sizes journal x
leads_to_vertex sizes z journal kept j x p low on next there =
    let c = ((buckets sizes z journal kept).each j low).chain in
    let some : (bucket_chain sizes journal j).next p ≢ nowhere = λ h. omega (arith, h, next, there, z.few_nodes) in
    let goes = (c.leads p on some).0 in
    let v = is_in sizes (state sizes journal) j x (subst (λ (y : ℕ). IsOn (bucket_chain sizes journal j) (Next y)) next
    goes) in
    record { linked = v.linked; vertex = v.vertex }

-- the node whose link a word is
abbrev node_of : ChainWord → ℕ
node_of Head = 0
node_of (Next x) = x

-- along a chain, a word behind which a node of the longest prefix that passes a test stands is the first, or of that
-- prefix
before_part : (c : Chain) → IsChain c → (test : ℕ → Bool) (p : ℕ) → IsOn c (Next p) → (q : ChainWord) (xs : List ℕ)
    → IsOn c q → MeetsFrom c q xs → Precedes c q (Next p) → c.next (Next p) ≢ nowhere → stands_in (take_while test xs)
    (c.next (Next p)) ≡ true → stands_in (take_while test xs) p ≡ true
before_part c is test p on q [] here met before some h = absurd (cc)
before_part c is test p on q (a ∷ rest) here met before some h =
    let leads : c.next q ≡ a = met.0 in
    let there = is.leads q here (λ none. met.1 (sym leads ∙ none)) in
    let on_a : IsOn c (Next a) = subst (λ (y : ℕ). IsOn c (Next y)) leads there.0 in
    let next : Precedes c (Next a) (Next p) → stands_in (take_while test rest) (c.next (Next p)) ≡ true → stands_in
    (take_while test rest)
    p ≡ true = λ low. before_part c is test p on (Next a) rest on_a met.2 low some in
    yes_no (stands_in (take_while test (a ∷ rest)) p ≡ true) (test a)
    (λ t. ap (λ (l : List ℕ). stands_in l p) (take_while-cons test a rest ∙ ap
    (λ (b : Bool). cond b (a ∷ take_while test rest) []) t)
    ∙ stands_case (stands_in (a ∷ take_while test rest) p ≡ true) a (c.next (Next p)) (take_while test rest)
    (sym (ap (λ (l : List ℕ). stands_in l (c.next (Next p)))
    (take_while-cons test a rest ∙ ap (λ (b : Bool). cond b (a ∷ take_while test rest) []) t)) ∙ h)
    (λ same. let one : Next p ≡ q = one_leads c (Next p) q is on here some (sym same ∙ sym leads) in absurd
    (before_same c q (Next p) before (sym one)))
    (λ _ later. dite (ℕ_discrete a p)
    (λ same. stands_here a p (take_while test rest) same)
    (λ ne. stands_later a p (take_while test rest) (by_rank c (Next a) (Next p)
    (λ e f. absurd (ne (ap node_of (is.alone (Next a) (Next p) on_a on e f))))
    (λ low. next low later)
    (λ high. absurd (is.gap q (Next p) here on before (subst (λ (y : ℕ). Precedes c (Next p) (Next y))
    (sym leads) high)))))))
    (λ f. let none : stands_in [] (c.next (Next p)) ≡ true = sym
    (ap (λ (l : List ℕ). stands_in l (c.next (Next p))) (take_while-cons test a rest ∙ ap
    (λ (b : Bool). cond b (a ∷ take_while test rest) []) f)) ∙ h in absurd (cc))

-- the unmarked second word of a vertex, or the unmarked link of an edge of it, leads to linked edges
module _ (sizes : Sizes) (z : IsLayout sizes) (journal : List Event) (kept : IsKept sizes journal) where
  -- an unmarked second word isn't frozen
  head_open : (x : Life) → IsVertex sizes journal x → mark_of (word_at sizes journal (second_at sizes x.index)) ≡ 0 →
      (state sizes journal).frozen x.index ≡ false
  head_open x v live = let c = ((contents sizes z journal kept).each x.index v.there).vertex v.used v.vertex in
      mark_isnt ((state sizes journal).frozen x.index) (sym c.second_mark ∙ live)

  head_list : (x : Life) → IsVertex sizes journal x → (state sizes journal).frozen x.index ≡ false
      → HasList sizes journal x.index
  head_list x v f = record {
    there = v.there;
    used = v.used;
    vertex = v.vertex;
    unfinished = λ d. let h = d.head in
        absurd (cc);
  }

  on_list : (x y : ℕ) (p : ChainWord) → HasList sizes journal x → IsOn (edge_chain sizes journal x) p →
      (edge_chain sizes journal x).next p ≡ y → y < sizes.nodes → is_listed (state sizes journal) x y ≡ true
  on_list x y p has on next there =
      let c = ((lists sizes z journal kept).each x (has_open sizes journal x has)).chain in
      let some : (edge_chain sizes journal x).next p ≢ nowhere = λ h. omega (arith, h, next, there, z.few_nodes) in
      subst (λ (i : ℕ). IsOn (edge_chain sizes journal x) (Next i)) next (c.leads p on some).0

  edge_of : (x y : ℕ) → HasList sizes journal x → is_listed (state sizes journal) x y ≡ true → is_frozen
      (state sizes journal) x y ≡ false → IsLinkedEdge sizes journal y
  edge_of x y has on open_ =
      let c = listing sizes z journal kept in
      record { linked = c.linked x y (has_open sizes journal x has) on open_; edge = (c.on x y on).edge }

  leads_from_open : (x : Life) (y : ℕ) → IsVertex sizes journal x → (state sizes journal).frozen x.index ≡ false
      → index_of (word_at sizes journal (second_at sizes x.index)) ≡ y → y < sizes.nodes → IsLinkedEdge sizes journal y
  leads_from_open x y v f next there =
      let has = head_list x v f in
      edge_of x.index y has (on_list x.index y Head has tt next there)
      (ap (λ (b : Bool). stands_in (cond b (take_while (λ i. (node_in sizes journal i).marked)
      ((state sizes journal).edges x.index)) []) y) f)

  pub leads_from_head : (x : Life) (y : ℕ) → IsVertex sizes journal x → mark_of
      (word_at sizes journal (second_at sizes x.index)) ≡ 0 → index_of
      (word_at sizes journal (second_at sizes x.index)) ≡ y → y < sizes.nodes → IsLinkedEdge sizes journal y
  leads_from_head x y v live next there = leads_from_open x y v (head_open x v live) next there

  pub leads_from_edge : (source : Life) (p y : ℕ) → p < sizes.nodes → IsEdgeFrom sizes journal source p → index_of
      (word_at sizes journal (link_at sizes p)) ≡ y → y < sizes.nodes → IsLinkedEdge sizes journal y
  leads_from_edge source p y within from next there =
      let at = (sources sizes z journal kept).each p within from.linked in
      let x : ℕ = (node_in sizes journal p).source.index in
      let c = (lists sizes z journal kept).each x (has_open sizes journal x at.list) in
      let some : (edge_chain sizes journal x).next (Next p) ≢ nowhere = λ h. omega
      (arith, h, next, there, z.few_nodes) in
      edge_of x y at.list (on_list x y (Next p) at.list at.on next there)
      (yes_no (is_frozen (state sizes journal) x y ≡ false) (is_frozen (state sizes journal) x y)
      (λ t. let part = frozen_before x p at.on c.chain c.met some
      (subst (λ (i : ℕ). is_frozen (state sizes journal) x i ≡ true) (sym next) t) in
      let spent = (listing sizes z journal kept).handed x p (has_open sizes journal x at.list) part in
      let linked = from.linked.linked in
      absurd (cc))
      (λ f. f))
    where
      frozen_before : (x p : ℕ) → is_listed (state sizes journal) x p ≡ true → IsChain (edge_chain sizes journal x)
          → MeetsFrom (edge_chain sizes journal x) Head ((state sizes journal).edges x) →
          (edge_chain sizes journal x).next (Next p) ≢ nowhere
          → is_frozen (state sizes journal) x ((edge_chain sizes journal x).next (Next p)) ≡ true → is_frozen
          (state sizes journal) x p ≡ true
      frozen_before x p on chain met some h = by ((state sizes journal).frozen x) h
        where
          by : (b : Bool) → stands_in (cond b (take_while (λ i. (node_in sizes journal i).marked)
              ((state sizes journal).edges x)) [])
              ((edge_chain sizes journal x).next (Next p)) ≡ true
              → stands_in (cond b (take_while (λ i. (node_in sizes journal i).marked) ((state sizes journal).edges x))
              []) p ≡ true
          by true t = before_part (edge_chain sizes journal x) chain (λ i. (node_in sizes journal i).marked) p on Head
              ((state sizes journal).edges x) tt met (inl (omega arith)) some t
          by false t = absurd (cc)

-- y is linked and stands behind the linked node x
pub record IsLinkedBehind (sizes : Sizes) (journal : List Event) (x y : ℕ) : Type 0 where
  pub there : y < sizes.nodes
  pub linked : (node_in sizes journal y).mode ≡ Linked
  pub kind : (node_in sizes journal y).vertex ≡ (node_in sizes journal x).vertex
  pub rising : word_at sizes journal (key_at sizes x) ≤ word_at sizes journal (key_at sizes y)
  pub strictly : ((node_in sizes journal x).vertex ≡ true) ⊎ (mark_of (word_at sizes journal (link_at sizes x)) ≡ 0)
      → word_at sizes journal (key_at sizes x) < word_at sizes journal (key_at sizes y)
  pub bucket : (node_in sizes journal x).vertex ≡ true
      → word_at sizes journal (key_at sizes y) % sizes.buckets ≡ word_at sizes journal (key_at sizes x) % sizes.buckets
  pub source : (node_in sizes journal x).vertex ≡ false → (node_in sizes journal y).source ≡
      (node_in sizes journal x).source

-- y is a linked edge of the vertex x in its life
pub record IsLinkedIn (sizes : Sizes) (journal : List Event) (x y : ℕ) : Type 0 where
  pub there : y < sizes.nodes
  pub linked : (node_in sizes journal y).mode ≡ Linked
  pub edge : (node_in sizes journal y).vertex ≡ false
  pub source : (node_in sizes journal y).source ≡ life_in sizes journal x

-- y is a linked vertex with a key of this bucket
pub record IsLinkedFirst (sizes : Sizes) (journal : List Event) (j y : ℕ) : Type 0 where
  pub there : y < sizes.nodes
  pub linked : (node_in sizes journal y).mode ≡ Linked
  pub vertex : (node_in sizes journal y).vertex ≡ true
  pub bucket : word_at sizes journal (key_at sizes y) % sizes.buckets ≡ j

-- a word leads to none, or to a node
leads_case : (word : ℕ) (P : ℕ → Type 0) → (index_of word ≢ nowhere → P (index_of word)) → LeadsTo word P
leads_case word P some = dite (ℕ_discrete (index_of word) nowhere) (λ e. inl e) (λ ne. inr (some ne))

-- a word that leads to the same node
pub leads_same : (word word' : ℕ) (P Q : ℕ → Type 0) → index_of word' ≡ index_of word → ((y : ℕ) → P y → Q y)
    → LeadsTo word P → LeadsTo word' Q
leads_same word word' P Q same more l = ⊎_elim (λ (none : index_of word ≡ nowhere). inl (same ∙ none))
    (λ (p : P (index_of word)). inr (subst Q (sym same) (more (index_of word) p))) l

module _ (sizes : Sizes) (z : IsLayout sizes) (journal : List Event) (kept : IsKept sizes journal) where
  -- a node on the chain of a bucket
  on_bucket : (j y : ℕ) → IsOn (bucket_chain sizes journal j) (Next y) → IsLinkedFirst sizes journal j y
  on_bucket j y on =
      let v = is_in sizes (state sizes journal) j y on in
      record {
        there = used_there sizes journal y kept (λ f. let m = v.linked in absurd (cc));
        linked = v.linked;
        vertex = v.vertex;
        bucket = ap (λ (k : ℕ). k % sizes.buckets) (key_word sizes z journal kept y j v) ∙ v.of_bucket;
      }

  -- the word of a bucket
  pub bucket_leads : (j : ℕ) → j < sizes.buckets → LeadsTo (word_at sizes journal (bucket_at sizes j))
      (IsLinkedFirst sizes journal j)
  bucket_leads j low = leads_case (word_at sizes journal (bucket_at sizes j)) (IsLinkedFirst sizes journal j)
      (λ some. on_bucket j _ (((buckets sizes z journal kept).each j low).chain.leads Head tt some).0)

  -- the link of a linked vertex
  pub vertex_leads : (x : ℕ) → IsLinkedVertex sizes journal x → LeadsTo (word_at sizes journal (link_at sizes x))
      (IsLinkedBehind sizes journal x)
  vertex_leads x v = leads_case (word_at sizes journal (link_at sizes x)) (IsLinkedBehind sizes journal x)
      (λ some.
      let j : ℕ = (node_in sizes journal x).key % sizes.buckets in
      let on : IsOn (bucket_chain sizes journal j) (Next x) = home_in sizes z journal kept x j v refl in
      let goes = ((buckets sizes z journal kept).each j (home_low sizes z journal kept
      (node_in sizes journal x).key)).chain.leads (Next x) on some in
      let low : rank_of (bucket_chain sizes journal j) (Next x) < rank_of (bucket_chain sizes journal j)
      (Next (index_of (word_at sizes journal (link_at sizes x)))) = ⊎_elim (λ h. h)
      (λ h. absurd (let u = h.1 in omega arith)) goes.1 in
      let y = on_bucket j (index_of (word_at sizes journal (link_at sizes x))) goes.0 in
      record {
        there = y.there;
        linked = y.linked;
        kind = y.vertex ∙ sym v.vertex;
        rising = omega (arith, low);
        strictly = λ _. omega (arith, low);
        bucket = λ _. y.bucket ∙ sym (on_bucket j x on).bucket;
        source = λ f. let t = v.vertex in absurd (cc);
      })

  -- two edges on one list have one source
  one_source : (x a b : ℕ) → is_listed (state sizes journal) x a ≡ true → is_listed (state sizes journal) x b ≡ true →
      (node_in sizes journal a).source ≡ (node_in sizes journal b).source
  one_source x a b p q =
      let c = listing sizes z journal kept in
      let index : (node_in sizes journal a).source.index ≡ (node_in sizes journal b).source.index = (c.on x a p).index
      ∙ sym (c.on x b q).index in
      let tag : (node_in sizes journal a).source.tag ≡ (node_in sizes journal b).source.tag = (c.on x a p).life ∙ sym
      (c.on x b q).life in
      λ i. record { index = index i; tag = tag i }

  -- the link of a linked edge
  pub edge_leads : (x : ℕ) → x < sizes.nodes → IsLinkedEdge sizes journal x → LeadsTo
      (word_at sizes journal (link_at sizes x)) (IsLinkedBehind sizes journal x)
  edge_leads x within v = leads_case (word_at sizes journal (link_at sizes x)) (IsLinkedBehind sizes journal x)
      (λ some.
      let at = (sources sizes z journal kept).each x within v in
      let home : ℕ = (node_in sizes journal x).source.index in
      let chain = ((lists sizes z journal kept).each home (has_open sizes journal home at.list)).chain in
      let goes = chain.leads (Next x) at.on some in
      let there = ((listing sizes z journal kept).on home (index_of (word_at sizes journal (link_at sizes x)))
      goes.0).there in
      let y = leads_from_edge sizes z journal kept (node_in sizes journal x).source x
      (index_of (word_at sizes journal (link_at sizes x))) within record { linked = v; from = refl } refl there in
      record {
        there = there;
        linked = y.linked;
        kind = y.edge ∙ sym v.edge;
        rising = ⊎_elim {A = rank_of (edge_chain sizes journal home) (Next x) < rank_of (edge_chain sizes journal home)
            (Next (index_of (word_at sizes journal (link_at sizes x))))}
            (λ low. omega (arith, low)) (λ same. let u = same.0 in omega (arith, u)) goes.1;
        strictly = λ c. ⊎_elim {A = (node_in sizes journal x).vertex ≡ true} (λ t. let f = v.edge in absurd (cc))
            (λ live. let low = chain.rises (Next x) at.on live some in omega (arith, low)) c;
        bucket = λ t. let f = v.edge in absurd (cc);
        source = λ _. one_source home (index_of (word_at sizes journal (link_at sizes x))) x goes.0 at.on;
      })

  -- the second word of a vertex whose list isn't closed
  pub head_leads : (x : ℕ) → x < sizes.nodes → IsUsed (node_in sizes journal x).mode →
      (node_in sizes journal x).vertex ≡ true → (state sizes journal).frozen x ≡ false
      → LeadsTo (word_at sizes journal (second_at sizes x)) (IsLinkedIn sizes journal x)
  head_leads x within used vertex open_ = leads_case (word_at sizes journal (second_at sizes x))
      (IsLinkedIn sizes journal x)
      (λ some.
      let life : IsVertex sizes journal (life_in sizes journal x) = record
      { there = within; life = refl; used = used; vertex = vertex } in
      let has = head_list sizes z journal kept (life_in sizes journal x) life open_ in
      let goes = ((lists sizes z journal kept).each x (has_open sizes journal x has)).chain.leads Head tt some in
      let on = (listing sizes z journal kept).on x (index_of (word_at sizes journal (second_at sizes x))) goes.0 in
      let y = leads_from_open sizes z journal kept (life_in sizes journal x)
      (index_of (word_at sizes journal (second_at sizes x))) life open_ refl on.there in
      let index : (node_in sizes journal (index_of (word_at sizes journal (second_at sizes x)))).source.index ≡ x =
      on.index in
      let tag : (node_in sizes journal (index_of (word_at sizes journal (second_at sizes x)))).source.tag ≡
      (node_in sizes journal x).tag = on.life in
      record {
        there = on.there;
        linked = y.linked;
        edge = y.edge;
        source = λ i. record { index = index i; tag = tag i };
      })
