-- A place and a node's words name what an edge is linked with.
use Rattle.std.proofs.Common.{◌≡◌, ℕ, ◌<◌, ◌^◌, Bool, true, false, cond, eqb, eq-eqb, ne_eqb, refl, sym, ap, ◌∙◌, subst}
use Rattle.std.proofs.Common.{arith, ⊎_elim}
use Rattle.packed_link.specs.Link.{index_of, tag_of}
use Rattle.packed_link.specs.Layout.{Sizes, IsLayout, link_at, second_at}
use Rattle.packed_link.specs.declared.link.Life.{Life}
use Rattle.packed_link.proofs.Links.{index_of-pack, tag_of-pack}
use Rattle.core_kept.specs.Edges.{IsFilledEdge}
use Rattle.core_kept.proofs.Named.{life_is}
use Rattle.core_lists.specs.Chains.{life_in}
use Rattle.core_rule.specs.Fronts.{MetVertex, IsBeforeEdge, IsEdgeBelow, MayLinkEdge, MayReplaceEdge, key_in}
use Rattle.core_rule.specs.OwnEvents.{link_edge_event, replace_event}
use Rattle.core_rule.specs.declared.view.View.{View}
use Rattle.graph_table.specs.Table.{node_at, list_at, source_in, target_in, weight_in}
use Rattle.graph_table.specs.Filled.{MayLinkFilledEdge, MayReplaceByFilled, filled_edge_event, replaced_event}

node_of_second : (z : Sizes) (i : ℕ) → node_at z (second_at z i) ≡ i
node_of_second z i = omega arith

node_of_link : (z : Sizes) (i : ℕ) → node_at z (link_at z i) ≡ i
node_of_link z i = omega arith

-- the list that goes on at a word behind which an edge of a source may stand is the source's
pub list_is : (v : View) (source : Life) (key place : ℕ) → MetVertex v source → IsBeforeEdge v source key place
    → list_at v place ≡ source
list_is v source key place m before = ⊎_elim
    (λ (at : place ≡ second_at v.sizes source.index).
    let n : node_at v.sizes place ≡ source.index = ap (node_at v.sizes) at ∙ node_of_second v.sizes source.index in
    let here : eqb place (second_at v.sizes (node_at v.sizes place)) ≡ true = eq-eqb place _
    (at ∙ sym (ap (second_at v.sizes) n)) in
    ap (λ (b : Bool). cond b (life_in v.sizes v.front (node_at v.sizes place)) (source_in v (node_at v.sizes place)))
    here
    ∙ (ap (life_in v.sizes v.front) n ∙ sym (life_is source source.index _ refl m.life.tag)))
    (λ (b : (x : Life) × IsEdgeBelow v source key place x).
    let x = b.0 in
    let n : node_at v.sizes place ≡ x.index = ap (node_at v.sizes) b.1.place_is ∙ node_of_link v.sizes x.index in
    let there : eqb place (second_at v.sizes (node_at v.sizes place)) ≡ false = ne_eqb place _
    (λ same. let i = ap (second_at v.sizes) n in let p = b.1.place_is in omega (arith, same, i, p)) in
    ap (λ (c : Bool). cond c (life_in v.sizes v.front (node_at v.sizes place)) (source_in v (node_at v.sizes place)))
    there
    ∙ (ap (source_in v) n ∙ b.1.met.from))
    before

-- the target that a filled edge names
target_is : (v : View) (x key next : ℕ) (to : Life) (weight : ℕ) → to.index < 2 ^ 24
    → IsFilledEdge v.sizes v.front x key next to weight → target_in v x ≡ to
target_is v x key next to weight fits f =
    sym (life_is to _ _
    (sym (ap index_of f.second_word ∙ index_of-pack to.index 0 to.tag fits))
    (sym (ap tag_of f.second_word ∙ tag_of-pack to.index 0 to.tag fits (omega arith))))

pub link_filled : (v : View) → IsLayout v.sizes → (place seen key : ℕ) (source target : Life) (weight : ℕ) (x : Life)
    → MayLinkEdge v place seen key source target weight x
    → MayLinkFilledEdge v place seen x × (filled_edge_event v place seen x ≡ link_edge_event v place seen key source
    target weight x)
link_filled v z place seen key source target weight x m =
    let k : key_in v x.index ≡ key = m.filled.key_word in
    let s : list_at v place ≡ source = list_is v source key place m.from m.before in
    let few = z.few_nodes in
    let t : target_in v x.index ≡ target = target_is v x.index key _ target weight
    (omega (arith, few, m.to.life.there)) m.filled in
    let w : weight_in v x.index ≡ weight = m.filled.third_word in (
      subst (λ (n : ℕ). MayLinkEdge v place seen n (list_at v place) (target_in v x.index) (weight_in v x.index) x)
          (sym k)
          (subst (λ (y : Life). MayLinkEdge v place seen key y (target_in v x.index) (weight_in v x.index) x) (sym s)
          (subst (λ (y : Life). MayLinkEdge v place seen key source y (weight_in v x.index) x) (sym t)
          (subst (λ (n : ℕ). MayLinkEdge v place seen key source target n x) (sym w) m))),
      λ i. link_edge_event v place seen (k i) (s i) (t i) (w i) x,
    )

pub replace_filled : (v : View) (seen key : ℕ) (source target : Life) (weight : ℕ) (old x : Life)
    → target.index < 2 ^ 24 → MayReplaceEdge v seen key source target weight old x
    → MayReplaceByFilled v seen old x × (replaced_event v seen old x ≡ replace_event v seen key source target weight old
    x)
replace_filled v seen key source target weight old x fits m =
    let k : key_in v x.index ≡ key = m.filled.key_word in
    let s : source_in v old.index ≡ source = m.edge.from in
    let t : target_in v x.index ≡ target = target_is v x.index key _ target weight fits m.filled in
    let w : weight_in v x.index ≡ weight = m.filled.third_word in (
      subst (λ (n : ℕ). MayReplaceEdge v seen n (source_in v old.index) (target_in v x.index)
          (weight_in v x.index) old x) (sym k)
          (subst (λ (y : Life). MayReplaceEdge v seen key y (target_in v x.index) (weight_in v x.index) old x) (sym s)
          (subst (λ (y : Life). MayReplaceEdge v seen key source y (weight_in v x.index) old x) (sym t)
          (subst (λ (n : ℕ). MayReplaceEdge v seen key source target n old x) (sym w) m))),
      λ i. replace_event v seen (k i) (s i) (t i) (w i) old x,
    )
