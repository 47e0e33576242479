-- One word of a vertex's list that leads to the same node at two moments led there in between, unless an edge was both
-- linked and unlinked between the two.
use Rattle.std.proofs.Common.{◌≡◌, ◌≢◌, ℕ, true, List, Some, refl, sym, ap, ◌∙◌, subst, ◌+◌}
use mathlib.Core.Logic.{dite}
use native.Mathlib.Decide.{ℕ_discrete}
use Rattle.packed_link.specs.Link.{nowhere}
use Rattle.packed_link.specs.Layout.{Sizes, IsLayout, key_at}
use Rattle.packed_link.specs.declared.link.Life.{Life}
use Rattle.core_chain.specs.Chain.{Chain, ChainWord, Next, IsOn, IsChain, Precedes, rank_of, since_of}
use Rattle.core_chain.proofs.Orders.{by_order, before_still}
use Rattle.core_journal.specs.declared.event.Event.{Event}
use Rattle.core_journal.specs.GraphOf.{present_key}
use Rattle.core_journal.specs.Life.{link_of}
use Rattle.core_journal.specs.Machine.{word_at}
use Rattle.core_journal.specs.Prefix.{IsPrefix}
use Rattle.core_journal.specs.State.{state}
use Rattle.core_kept.specs.Kept.{IsKept}
use Rattle.core_kept.specs.Nodes.{node_in, is_listed, IsUsed}
use Rattle.core_kept.proofs.Named.{life_is}
use Rattle.core_kept.proofs.NodesInPlace.{used_there}
use Rattle.core_lists.specs.Chains.{HasList, IsEdgeOf, IsInList, edge_chain, life_in}
use Rattle.core_lists.proofs.FrozenToEndIsList.{has_keeps}
use Rattle.core_lists.proofs.ListChains.{lists}
use Rattle.core_lists.proofs.ListedWords.{listed_key}
use Rattle.core_lists.proofs.ListHoldsKept.{has_open, listing}
use Rattle.core_lists.proofs.LivesOnLists.{edge_of, of_edge}
use Rattle.core_lists.proofs.OneVertexOfKey.{present_live}
use Rattle.core_lists.proofs.SpentWordsLead.{unclosed}
use Rattle.core_scans.proofs.FrontsKeepLives.{some_is, link_on, stays_back}
use Rattle.core_scans.proofs.LinkNumberStays.{since_stays}

node_is : (x y : ℕ) → Next x ≡ Next y → x ≡ y
node_is x y p = cc

module _ (sizes : Sizes) (z : IsLayout sizes) (v : Life) (key : ℕ) where
  -- a moment of a kept journal at which the vertex is present
  pub record IsHere (j : List Event) : Type 0 where
    pub kept : IsKept sizes j
    pub present : present_key j v ≡ Some key

  -- it has a list then, in its life
  pub has_list : (j : List Event) → IsHere j → HasList sizes j v.index
  has_list j h =
      let l = present_live sizes z j h.kept v key h.present in
      record {
        there = used_there sizes j v.index h.kept (λ f. let m = l.linked in absurd (cc));
        used = subst IsUsed (sym l.linked) tt;
        vertex = l.vertex;
        unfinished = λ f. let open_ = unclosed sizes z j h.kept v.index l.linked in let head = f.head in absurd (cc);
      }

  pub this_life : (j : List Event) → IsHere j → v ≡ life_in sizes j v.index
  this_life j h = life_is v v.index (node_in sizes j v.index).tag refl
      (present_live sizes z j h.kept v key h.present).life

  -- what stands on the list are the edges of the vertex
  pub on_list : (j : List Event) → IsHere j → (l : Life) → IsEdgeOf j v l → IsInList sizes j v.index l
  on_list j h l f = of_edge sizes z j h.kept v.index (has_list j h) l
      (subst (λ (s : Life). IsEdgeOf j s l) (this_life j h) f)

  pub of_list : (j : List Event) → IsHere j → (l : Life) → IsInList sizes j v.index l → IsEdgeOf j v l
  of_list j h l i = subst (λ (s : Life). IsEdgeOf j s l) (sym (this_life j h))
      (edge_of sizes z j h.kept v.index (has_list j h) l i)

  -- the node on the list, as a life
  pub node_of : (j : List Event) → IsHere j → (y : ℕ) → is_listed (state sizes j) v.index y ≡ true
      → IsEdgeOf j v (life_in sizes j y)
  node_of j h y on = of_list j h (life_in sizes j y)
      record { there = ((listing sizes z j h.kept).on v.index y on).there; life = refl; on = on }

  abbrev pub list_at : List Event → Chain
  list_at j = edge_chain sizes j v.index

  pub chain_of : (j : List Event) → IsHere j → IsChain (list_at j)
  chain_of j h = ((lists sizes z j h.kept).each v.index (has_open sizes j v.index (has_list j h))).chain

  -- its key on the list is that with which it was linked
  pub key_on_list : (j : List Event) → IsHere j → (l : Life) (f : IsEdgeOf j v l)
      → word_at sizes j (key_at sizes l.index) ≡ f.link.key
  key_on_list j h l f =
      let i = on_list j h l f in
      listed_key sizes z j h.kept v.index l.index (has_keeps sizes z j h.kept v.index (has_list j h)) i.on f.link
      (ap (link_of j) (sym (life_is l l.index (node_in sizes j l.index).tag refl i.life)) ∙ f.is)

  -- a word stands at one place of the order at two moments
  pub record IsPlacedAlike (i j : List Event) (p : ChainWord) : Type 0 where
    pub rank : rank_of (list_at j) p ≡ rank_of (list_at i) p
    pub since : since_of (list_at j) p ≡ since_of (list_at i) p

  alike_back : (i j : List Event) (p : ChainWord) → IsPlacedAlike i j p → IsPlacedAlike j i p
  alike_back i j p a = record { rank = sym a.rank; since = sym a.since }

  -- an edge that stands on the list at both
  pub placed_alike : (i j : List Event) → IsHere i → IsHere j → IsPrefix i j → (l : Life) → IsEdgeOf i v l
      → IsEdgeOf j v l
      → IsPlacedAlike i j (Next l.index)
  placed_alike i j hi hj q l f g =
      let a = on_list i hi l f in
      let b = on_list j hj l g in
      let one : f.link ≡ g.link = some_is f.link g.link (sym (link_on i j q l f.link f.is) ∙ g.is) in
      record {
        rank = ap (λ (k : ℕ). k + 1)
            (key_on_list j hj l g ∙ (ap (λ (e : Event). e.key) (sym one) ∙ sym (key_on_list i hi l f)));
        since = since_stays sizes z l.index i j q hj.kept ((listing sizes z i hi.kept).on v.index l.index a.on).unfresh
            (sym b.life ∙ a.life);
      }

  -- words that are placed alike stand in the same order
  order_moved : (i j : List Event) (p q : ChainWord) → IsPlacedAlike i j p → IsPlacedAlike i j q
      → Precedes (list_at i) p q → Precedes (list_at j) p q
  order_moved i j p q a b = before_still (list_at i) (list_at j) p q a.rank b.rank a.since b.since

  -- where the word leads
  abbrev leads_to : List Event → ChainWord → ℕ
  leads_to j p = (list_at j).next p

  -- a moment, beside another at which a word of the list is placed alike
  module _ (e x : List Event) (p : ChainWord) (he : IsHere e) (hx : IsHere x) (on : IsOn (list_at x) p)
      (word : IsPlacedAlike e x p)
      (edges : (l : Life) → IsEdgeOf e v l → IsEdgeOf x v l → IsPlacedAlike e x (Next l.index)) where
    -- where it leads to none, no edge stood behind it then that stands on the list now
    none_behind : leads_to x p ≡ nowhere → (l : Life) (f : IsEdgeOf e v l) → Precedes (list_at e) p (Next l.index)
        → IsEdgeOf x v l → ⊥
    none_behind none l f before g = (chain_of x hx).last p (Next l.index) on (on_list x hx l g).on
        (order_moved e x p (Next l.index) word (edges l f g) before) none

    -- nor did one stand between the word and the edge to which it leads
    none_between : (b : Life) → IsEdgeOf e v b → IsEdgeOf x v b → leads_to x p ≡ b.index → (l : Life)
        (f : IsEdgeOf e v l) → Precedes (list_at e) p (Next l.index)
        → Precedes (list_at e) (Next l.index) (Next b.index) → IsEdgeOf x v l → ⊥
    none_between b be bx leads l f before behind g = (chain_of x hx).gap p (Next l.index) on (on_list x hx l g).on
        (order_moved e x p (Next l.index) word (edges l f g) before)
        (subst (λ (n : ℕ). Precedes (list_at x) (Next l.index) (Next n)) (sym leads)
        (order_moved e x (Next l.index) (Next b.index) (edges l f g) (edges b be bx) behind))

  -- a word that stands on the list at three moments, at one place of the order
  module _ (m e t : List Event) (p : ChainWord) (hm : IsHere m) (he : IsHere e) (ht : IsHere t)
      (on_m : IsOn (list_at m) p) (on_e : IsOn (list_at e) p) (on_t : IsOn (list_at t) p)
      (first : IsPrefix m e) (second : IsPrefix e t) (early : IsPlacedAlike m e p) (late : IsPlacedAlike e t p)
      (none : (l : Life) → IsEdgeOf e v l → (IsEdgeOf m v l → ⊥) → (IsEdgeOf t v l → ⊥) → ⊥)
      (lives : (y : ℕ) → is_listed (state sizes m) v.index y ≡ true
      → (node_in sizes t y).tag ≡ (node_in sizes m y).tag)
      (same : leads_to t p ≡ leads_to m p) where
    -- an edge on the list at the first and the last moment was on it in between
    edge_between : (l : Life) → IsEdgeOf m v l → IsEdgeOf t v l → IsEdgeOf e v l
    edge_between l f g = record {
      link = f.link;
      is = link_on m e first l f.link f.is;
      from = f.from;
      stays = stays_back e t second l g.stays;
    }

    alike_m : (l : Life) → IsEdgeOf e v l → IsEdgeOf m v l → IsPlacedAlike e m (Next l.index)
    alike_m l f g = alike_back m e (Next l.index) (placed_alike m e hm he first l g f)

    alike_t : (l : Life) → IsEdgeOf e v l → IsEdgeOf t v l → IsPlacedAlike e t (Next l.index)
    alike_t l f g = placed_alike e t he ht second l f g

    -- it led to none, and to an edge in between
    from_none : leads_to m p ≡ nowhere → leads_to e p ≢ nowhere → ⊥
    from_none h some =
        let r = (chain_of e he).leads p on_e some in
        let l : Life = life_in sizes e (leads_to e p) in
        let f = node_of e he (leads_to e p) r.0 in
        none l f (none_behind e m p he hm on_m (alike_back m e p early) alike_m h l f r.1)
        (none_behind e t p he ht on_t late alike_t (same ∙ h) l f r.1)

    -- it led to an edge, and elsewhere in between
    from_edge : leads_to m p ≢ nowhere → leads_to e p ≢ leads_to m p → ⊥
    from_edge h other =
        let n : ℕ = leads_to m p in
        let rm = (chain_of m hm).leads p on_m h in
        let rt = (chain_of t ht).leads p on_t (λ q. h (sym same ∙ q)) in
        let listed_t : is_listed (state sizes t) v.index n ≡ true = subst
        (λ (y : ℕ). is_listed (state sizes t) v.index y ≡ true) same rt.0 in
        let b : Life = life_in sizes m n in
        let one : life_in sizes t n ≡ b = λ i. record { index = n; tag = lives n rm.0 i } in
        let bm = node_of m hm n rm.0 in
        let bt = subst (IsEdgeOf t v) one (node_of t ht n listed_t) in
        let be = edge_between b bm bt in
        let on_b = on_list e he b be in
        let before : Precedes (list_at e) p (Next n) = order_moved m e p (Next n) early
        (alike_back e m (Next n) (alike_m b be bm)) rm.1 in
        let some : leads_to e p ≢ nowhere = (chain_of e he).last p (Next n) on_e on_b.on before in
        let re = (chain_of e he).leads p on_e some in
        let l : Life = life_in sizes e (leads_to e p) in
        let f = node_of e he (leads_to e p) re.0 in
        by_order (list_at e) (Next (leads_to e p)) (Next n) (chain_of e he) re.0 on_b.on
        (λ is. other (node_is (leads_to e p) n is))
        (λ behind. none l f
        (none_between e m p he hm on_m (alike_back m e p early) alike_m b be bm refl l f re.1 behind)
        (none_between e t p he ht on_t late alike_t b be bt same l f re.1 behind))
        (λ behind. (chain_of e he).gap p (Next n) on_e on_b.on before behind)

    -- so it led to the same node
    pub same_between : leads_to e p ≡ leads_to m p
    same_between = dite (ℕ_discrete (leads_to e p) (leads_to m p)) (λ h. h) (λ ne. absurd
        (dite (ℕ_discrete (leads_to m p) nowhere) (λ h. from_none h (λ q. ne (q ∙ sym h))) (λ h. from_edge h ne)))
