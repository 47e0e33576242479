-- The graph of a kept journal is a graph, and the pair of two present vertices is that of the one unmarked edge between
-- their lives.
use Rattle.std.proofs.Common.{◌≡◌, ◌≢◌, ℕ, ◌≤◌, Bool, true, false, cond, List, Option, Some, None, refl, sym, ap, ◌∙◌}
use Rattle.std.proofs.Common.{subst, true≢false}
use Rattle.std.specs.Prelude.{option_and_then}
use Rattle.graph_kinds.specs.Graph.{IsGraph, weight_of}
use Rattle.packed_link.specs.Layout.{Sizes, IsLayout}
use Rattle.packed_link.specs.declared.link.Life.{Life}
use Rattle.core_journal.specs.declared.event.Event.{Event}
use Rattle.core_journal.specs.GraphOf.{both, weighed, graph_of, pair_between, present_key, present_pair}
use Rattle.core_journal.specs.Life.{edge_marked, link_of}
use Rattle.core_journal.proofs.LivesOf.{present_is, joined_is, life_of_pair, only_pair, ends_there}
use Rattle.core_kept.specs.Kept.{IsKept}
use Rattle.core_kept.specs.Nodes.{IsUsed, node_in}
use Rattle.core_kept.proofs.Contents.{contents}
use Rattle.core_kept.proofs.EdgeEnds.{ends_linked}
use Rattle.core_kept.proofs.LinkedEdges.{live_edges}
use Rattle.core_kept.proofs.Named.{life_is, named}
use Rattle.core_kept.proofs.NodesInPlace.{used_there}
use Rattle.core_lists.proofs.LivesOnLists.{one_present_edge}
use Rattle.core_lists.proofs.OneEdgeOfPair.{one_pair}
use Rattle.core_lists.proofs.OneVertexOfKey.{one_present}

value : {A : Type 0} (a b : A) → Some a ≡ Some b → a ≡ b
value a b p = cc

-- an edge that was linked and not marked has its pair, where its ends are present
pub pair_shown : (journal : List Event) (x : Life) (link : Event) (a b : ℕ) → link_of journal x ≡ Some link
    → edge_marked journal x ≡ false → present_key journal link.source ≡ Some a
    → present_key journal link.target ≡ Some b → present_pair journal x ≡ Some ((a, b), link.weight)
pair_shown journal x link a b is uncut from to =
    ap (λ (c : Bool). cond c None (option_and_then (pair_between journal) (link_of journal x))) uncut
    ∙ (ap (option_and_then (pair_between journal)) is ∙ (λ i. weighed link.weight (both (from i) (to i))))

module _ (sizes : Sizes) (z : IsLayout sizes) (journal : List Event) (kept : IsKept sizes journal) where
  -- its weight is that of the pair
  pub weight_between : (x : Life) (link : Event) (a b : ℕ) → link_of journal x ≡ Some link
      → edge_marked journal x ≡ false → present_key journal link.source ≡ Some a
      → present_key journal link.target ≡ Some b → weight_of (graph_of journal) a b ≡ Some link.weight
  weight_between x link a b is uncut from to =
      let h = pair_shown journal x link a b is uncut from to in
      only_pair journal x a b link.weight h (λ y v g. one_pair sizes z journal kept y x a b v link.weight g h)

  -- an unmarked edge of a source and a key, whose target is present
  record IsEdgeTo (source : Life) (b : ℕ) : Type 0 where
    pub life : Life
    pub link : Event
    pub is : link_of journal life ≡ Some link
    pub uncut : edge_marked journal life ≡ false
    pub from : link.source ≡ source
    pub key : link.key ≡ b
    pub to : present_key journal link.target ≡ Some b

  edge_to : (source : Life) (a b w : ℕ) → present_key journal source ≡ Some a → weight_of
      (graph_of journal) a b ≡ Some w → IsEdgeTo source b
  edge_to source a b w there h =
      let l = life_of_pair journal a b w h in
      let j = joined_is journal l.0 a b w l.1 in
      record {
        life = l.0;
        link = j.link;
        is = j.is;
        uncut = j.uncut;
        from = one_present sizes z journal kept j.link.source source a j.source there;
        key = value j.link.key b (sym ((ends_linked sizes z journal kept).target l.0 j.link j.is) ∙
            (present_is journal j.link.target b j.target).1);
        to = j.target;
      }

  none_where : (a b : ℕ) → ((w : ℕ) → weight_of (graph_of journal) a b ≡ Some w → ⊥) → weight_of
      (graph_of journal) a b ≡ None
  none_where a b not = by (weight_of (graph_of journal) a b) refl
    where
      by : (o : Option ℕ) → weight_of (graph_of journal) a b ≡ o → weight_of (graph_of journal) a b ≡ None
      by None h = h
      by (Some w) h = absurd (not w h)

  -- no unmarked edge of the source has the key: there's no such pair
  pub no_edge_no_pair : (source : Life) (a b : ℕ) → present_key journal source ≡ Some a →
      ((x : Life) (link : Event) → link_of journal x ≡ Some link → link.source ≡ source → link.key ≡ b
      → edge_marked journal x ≡ true) → weight_of (graph_of journal) a b ≡ None
  no_edge_no_pair source a b there cut = none_where a b (λ w h.
      let e = edge_to source a b w there h in
      true≢false (sym (cut e.life e.link e.is e.from e.key) ∙ e.uncut))

  -- the one unmarked edge of the source and the key has another target life: there's no such pair
  pub other_target_no_pair : (source target x : Life) (link : Event) (a b : ℕ) → present_key journal source ≡ Some a
      → present_key journal target ≡ Some b → link_of journal x ≡ Some link → edge_marked journal x ≡ false
      → link.source ≡ source → link.key ≡ b → link.target ≢ target → weight_of (graph_of journal) a b ≡ None
  other_target_no_pair source target x link a b there to is uncut from key apart = none_where a b (λ w h.
      let e = edge_to source a b w there h in
      let one : e.life ≡ x = one_present_edge sizes z journal kept e.life x e.link link e.is is (e.from ∙ sym from)
      (e.key ∙ sym key) e.uncut uncut in
      let same : e.link ≡ link = value e.link link (sym e.is ∙ (ap (link_of journal) one ∙ is)) in
      apart (ap (λ (d : Event). d.target) (sym same) ∙ one_present sizes z journal kept e.link.target target b e.to to))

  -- an edge that was linked and not marked has a weight of at least 1
  pub weighs : (x : Life) (link : Event) → link_of journal x ≡ Some link → edge_marked journal x ≡ false
      → 1 ≤ link.weight
  weighs x link is uncut =
      let live = (live_edges sizes z journal kept).live x link is uncut in
      let v = node_in sizes journal x.index in
      let there = used_there sizes journal x.index kept (λ f. let m = live.linked in absurd (cc)) in
      let used : IsUsed v.mode = subst IsUsed (sym live.linked) tt in
      let d = ((named sizes z journal kept).each x.index there).edge_link used live.edge in
      let words = ((contents sizes z journal kept).each x.index there).edge used live.edge in
      let which : d.link ≡ link = value d.link link (sym d.is ∙
      (ap (link_of journal) (sym (life_is x x.index v.tag refl live.life)) ∙ is)) in
      subst (λ (n : ℕ). 1 ≤ n) (sym d.of_weight ∙ ap (λ (e : Event). e.weight) which) words.some

  pub graph_is : IsGraph (graph_of journal)
  graph_is = record {
    from_key = λ a b w h. (ends_there journal a b w h).0;
    to_key = λ a b w h. (ends_there journal a b w h).1;
    weighed = λ a b w h.
        let l = life_of_pair journal a b w h in
        let j = joined_is journal l.0 a b w l.1 in
        subst (λ (n : ℕ). 1 ≤ n) j.weight (weighs l.0 j.link j.is j.uncut);
  }
