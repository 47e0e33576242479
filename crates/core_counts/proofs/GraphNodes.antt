-- The keys and pairs of the graph are those of nodes.
use Rattle.std.proofs.Common.{◌≡◌, ℕ, zero, suc, ◌+◌, ◌<◌, Bool, true, false, cond, not, ◌&&◌, ◌==◌, List, Option, Some}
use Rattle.std.proofs.Common.{None, is_some, refl, sym, ap, ap₂, ◌∙◌, subst, arith, eqb-true, eq-eqb}
use Rattle.std.specs.Prelude.{option_and_then}
use Rattle.std.specs.Cmp.{nat_cmp_total}
use Rattle.std.specs.FinMap as map
use Rattle.std.specs.FinSet as set
use Rattle.std.proofs.lemmas.Bool.{and_parts}
use Rattle.packed_link.specs.Layout.{Sizes, IsLayout}
use Rattle.packed_link.specs.declared.link.Life.{Life}
use Rattle.graph_kinds.specs.Graph.{has, weight_of, key_count, pair_count}
use Rattle.graph_kinds.proofs.Graphs.{pair_total, pair_same}
use Rattle.core_journal.specs.declared.event.Event.{Event}
use Rattle.core_journal.specs.GraphOf.{graph_of, present_key, present_pair, pair_between, both, weighed}
use Rattle.core_journal.specs.Life.{link_of, vertex_marked, edge_marked}
use Rattle.core_journal.specs.State.{Mode, Linked, Node, State, is_linked, state}
use Rattle.core_journal.proofs.LivesOf.{present_is, joined_is, life_of_key, key_of_life, life_of_pair, only_pair}
use Rattle.core_kept.specs.Counts.{count_below}
use Rattle.core_kept.specs.Kept.{IsKept}
use Rattle.core_kept.specs.Nodes.{node_in, IsUsed}
use Rattle.core_lists.specs.Chains.{life_in}
use Rattle.core_kept.proofs.LinkedEdges.{live_edges}
use Rattle.core_kept.proofs.Named.{life_is, named}
use Rattle.core_lists.proofs.OneEdgeOfPair.{one_pair}
use Rattle.core_kept.proofs.NodesInPlace.{used_there}
use Rattle.core_lists.proofs.OneVertexOfKey.{present_live, one_present}
use Rattle.core_counts.specs.Nodes.{is_key, is_key_life, is_pair}
use Rattle.core_counts.proofs.BuiltFromNodes.{same_bool, same_option, keys_below, key_from, key_in, keys_counted}
use Rattle.core_counts.proofs.BuiltFromNodes.{pairs_below, pair_from, pair_in, pairs_counted}

value : {A : Type 0} (a b : A) → Some a ≡ Some b → a ≡ b
value a b p = cc

pub linked_is : (m : Mode) → is_linked m ≡ true → m ≡ Linked
linked_is Linked h = refl
linked_is _ h = absurd (cc)

pub not_is : (b : Bool) → not b ≡ true → b ≡ false
not_is true h = absurd (cc)
not_is false h = refl

module _ (sizes : Sizes) (z : IsLayout sizes) (journal : List Event) (kept : IsKept sizes journal) where
  abbrev s : State
  s = state sizes journal

  linked_there : (x : ℕ) → (node_in sizes journal x).mode ≡ Linked → x < sizes.nodes
  linked_there x m = used_there sizes journal x kept (λ f. absurd (cc))

  -- a present vertex is a key node in its life
  pub present_node : (x : Life) (k : ℕ) → present_key journal x ≡ Some k → (x.index < sizes.nodes) ×
      (x.tag ≡ (s.node x.index).tag) × (is_key (s.node x.index) ≡ true)
  present_node x k h =
      let v = present_live sizes z journal kept x k h in
      let there = linked_there x.index v.linked in
      let mark = ((named sizes z journal kept).each x.index there).vertex_mark
      (subst IsUsed (sym v.linked) tt) v.vertex in
      let unmarked : (s.node x.index).marked ≡ false = sym mark ∙
      (ap (vertex_marked journal) (sym (life_is x x.index (s.node x.index).tag refl v.life)) ∙
      (present_is journal x k h).0) in (
        there,
        v.life,
        flags (s.node x.index).mode (s.node x.index).vertex
            (s.node x.index).marked v.linked v.vertex unmarked,
      )
    where
      flags : (m : Mode) (v d : Bool) → m ≡ Linked → v ≡ true → d ≡ false → (is_linked m && (v && not d)) ≡ true
      flags m v d a b c = ap₂ (λ (p : Mode) (q : Bool). is_linked p && (q && not d)) a b ∙ ap not c

  -- and the other way round
  pub node_present : (x : ℕ) → is_key (s.node x) ≡ true → present_key journal (life_in sizes journal x) ≡ Some
      (s.node x).key
  node_present x h =
      let p = and_parts (is_linked (s.node x).mode) ((s.node x).vertex && not (s.node x).marked) h in
      let q = and_parts (s.node x).vertex (not (s.node x).marked) p.1 in
      let m = linked_is (s.node x).mode p.0 in
      let n = (named sizes z journal kept).each x (linked_there x m) in
      let used : IsUsed (s.node x).mode = subst IsUsed (sym m) tt in
      ap₂ (λ (b : Bool) (o : Option ℕ). cond b None o) (n.vertex_mark used q.0 ∙ not_is (s.node x).marked q.1)
      (n.vertex_key used q.0)

  pub key_life : (x : Life) (k : ℕ) → present_key journal x ≡ Some k → is_key_life s x ≡ true
  key_life x k h = let p = present_node x k h in ap₂ (λ (a b : Bool). a && b) p.2
      (eq-eqb (s.node x.index).tag x.tag (sym p.1))

  pub life_key : (x : Life) → is_key_life s x ≡ true → present_key journal x ≡ Some (s.node x.index).key
  life_key x h =
      let p = and_parts (is_key (s.node x.index)) ((s.node x.index).tag == x.tag) h in
      ap (present_key journal) (life_is x x.index (s.node x.index).tag refl
      (sym (eqb-true (s.node x.index).tag x.tag p.1))) ∙ node_present x.index p.0

  -- a present edge is a pair node in its life
  pub pair_node : (x : Life) (a b w : ℕ) → present_pair journal x ≡ Some ((a, b), w) → (x.index < sizes.nodes) ×
      (x.tag ≡ (s.node x.index).tag) × (is_pair s (s.node x.index) ≡ true)
  pair_node x a b w h =
      let j = joined_is journal x a b w h in
      let live = (live_edges sizes z journal kept).live x j.link j.is j.uncut in
      let v : Node = s.node x.index in
      let there = linked_there x.index live.linked in
      let used : IsUsed v.mode = subst IsUsed (sym live.linked) tt in
      let n = (named sizes z journal kept).each x.index there in
      let d = n.edge_link used live.edge in
      let is : x ≡ life_in sizes journal x.index = life_is x x.index v.tag refl live.life in
      let same : d.link ≡ j.link = value d.link j.link (sym d.is ∙ (ap (link_of journal) (sym is) ∙ j.is)) in
      let unmarked : v.marked ≡ false = sym (n.edge_mark used live.edge) ∙
      (ap (edge_marked journal) (sym is) ∙ j.uncut) in
      let from : present_key journal v.source ≡ Some a = ap (present_key journal)
      (sym d.from ∙ ap (λ (y : Event). y.source) same) ∙ j.source in
      let to : present_key journal v.target ≡ Some b = ap (present_key journal)
      (sym d.to ∙ ap (λ (y : Event). y.target) same) ∙ j.target in (
        there,
        live.life,
        ap₂ (λ (p q : Bool). p && q) (flags v.mode v.vertex v.marked live.linked live.edge unmarked)
            (ap₂ (λ (p q : Bool). p && q) (key_life v.source a from) (key_life v.target b to)),
      )
    where
      flags : (m : Mode) (v d : Bool) → m ≡ Linked → v ≡ false → d ≡ false → (is_linked m && (not v && not d)) ≡ true
      flags m v d a b c = ap₂ (λ (p : Mode) (q : Bool). is_linked p && (not q && not d)) a b ∙ ap not c

  -- and the other way round
  pub node_pair : (x : ℕ) → is_pair s (s.node x) ≡ true → present_pair journal (life_in sizes journal x) ≡ Some
      (((s.node (s.node x).source.index).key, (s.node (s.node x).target.index).key), (s.node x).weight)
  node_pair x h =
      let v : Node = s.node x in
      let f = and_parts (is_linked v.mode && (not v.vertex && not v.marked))
      (is_key_life s v.source && is_key_life s v.target) h in
      let p = and_parts (is_linked v.mode) (not v.vertex && not v.marked) f.0 in
      let q = and_parts (not v.vertex) (not v.marked) p.1 in
      let e = and_parts (is_key_life s v.source) (is_key_life s v.target) f.1 in
      let m = linked_is v.mode p.0 in
      let n = (named sizes z journal kept).each x (linked_there x m) in
      let used : IsUsed v.mode = subst IsUsed (sym m) tt in
      let edge = not_is v.vertex q.0 in
      let d = n.edge_link used edge in
      let from = ap (present_key journal) d.from ∙ life_key v.source e.0 in
      let to = ap (present_key journal) d.to ∙ life_key v.target e.1 in
      let between : pair_between journal d.link ≡ weighed v.weight
      (both (Some (s.node v.source.index).key) (Some (s.node v.target.index).key)) =
      ap₂ (λ (w : ℕ) (o : Option (ℕ × ℕ)). weighed w o) d.of_weight (ap₂ both from to) in
      ap₂ (λ (b : Bool) (o : Option Event). cond b None (option_and_then (pair_between journal) o))
      (n.edge_mark used edge ∙ not_is v.marked q.1) d.is ∙ between

  abbrev key_opt : ℕ → Option ℕ
  key_opt x = present_key journal (life_in sizes journal x)

  abbrev pair_opt : ℕ → Option ((ℕ × ℕ) × ℕ)
  pair_opt x = present_pair journal (life_in sizes journal x)

  key_is : (x : ℕ) → is_some (key_opt x) ≡ is_key (s.node x)
  key_is x = same_bool (is_some (key_opt x)) (is_key (s.node x)) (by (key_opt x) refl)
      (λ h. ap is_some (node_present x h))
    where
      by : (o : Option ℕ) → key_opt x ≡ o → is_some o ≡ true → is_key (s.node x) ≡ true
      by None e h = absurd (cc)
      by (Some k) e h = (present_node (life_in sizes journal x) k e).2

  pair_is : (x : ℕ) → is_some (pair_opt x) ≡ is_pair s (s.node x)
  pair_is x = same_bool (is_some (pair_opt x)) (is_pair s (s.node x)) (by (pair_opt x) refl)
      (λ h. ap is_some (node_pair x h))
    where
      by : (o : Option ((ℕ × ℕ) × ℕ)) → pair_opt x ≡ o → is_some o ≡ true → is_pair s (s.node x) ≡ true
      by None e h = absurd (cc)
      by (Some p) e h = (pair_node (life_in sizes journal x) p.0.0 p.0.1 p.1 e).2

  count_same : (f g : ℕ → Bool) (n : ℕ) → ((x : ℕ) → f x ≡ g x) → count_below f n ≡ count_below g n
  count_same f g zero h = refl
  count_same f g (suc n) h = ap₂ (λ (b : Bool) (m : ℕ). cond b 1 0 + m) (h n) (count_same f g n h)

  one_key : (x y k : ℕ) → x < sizes.nodes → y < sizes.nodes → key_opt x ≡ Some k → key_opt y ≡ Some k → x ≡ y
  one_key x y k a b h g = ap (λ (l : Life). l.index) (one_present sizes z journal kept (life_in sizes journal x)
      (life_in sizes journal y) k h g)

  pair_one : (x y : ℕ) (q : ℕ × ℕ) (v w : ℕ) → x < sizes.nodes → y < sizes.nodes → pair_opt x ≡ Some (q, v)
      → pair_opt y ≡ Some (q, w) → x ≡ y
  pair_one x y q v w a b h g = ap (λ (l : Life). l.index) (one_pair sizes z journal kept (life_in sizes journal x)
      (life_in sizes journal y) q.0 q.1 v w h g)

  the_keys : (graph_of journal).keys ≡ keys_below key_opt sizes.nodes
  the_keys = set.same_set nat_cmp_total set.nat_cmp-IsAntisymmetric (graph_of journal).keys
      (keys_below key_opt sizes.nodes)
      (λ q. same_bool (has (graph_of journal) q) (set.contains (keys_below key_opt sizes.nodes) q)
      (λ h.
      let l = life_of_key journal q h in
      let p = present_node l.0 q l.1 in
      key_in key_opt sizes.nodes l.0.index q p.0 (ap (present_key journal)
      (sym (life_is l.0 l.0.index (s.node l.0.index).tag refl p.1)) ∙ l.1))
      (λ h. let r = key_from key_opt sizes.nodes q h in key_of_life journal (life_in sizes journal r.0) q r.2))

  pub keys_are : key_count (graph_of journal) ≡ count_below (λ (x : ℕ). is_key (s.node x)) sizes.nodes
  keys_are = ap set.len the_keys ∙ (keys_counted key_opt sizes.nodes one_key ∙ count_same
      (λ (x : ℕ). is_some (key_opt x)) (λ (x : ℕ). is_key (s.node x)) sizes.nodes key_is)

  the_pairs : (graph_of journal).pairs ≡ pairs_below pair_opt sizes.nodes
  the_pairs = map.same_map pair_total pair_same (graph_of journal).pairs (pairs_below pair_opt sizes.nodes)
      (λ q. same_option (weight_of (graph_of journal) q.0 q.1) (map.get (pairs_below pair_opt sizes.nodes) q)
      (λ w h.
      let l = life_of_pair journal q.0 q.1 w h in
      let p = pair_node l.0 q.0 q.1 w l.1 in
      pair_in pair_opt sizes.nodes pair_one sizes.nodes l.0.index q w (omega arith) p.0
      (ap (present_pair journal) (sym (life_is l.0 l.0.index (s.node l.0.index).tag refl p.1)) ∙ l.1))
      (λ w h.
      let r = pair_from pair_opt sizes.nodes q w h in
      only_pair journal (life_in sizes journal r.0) q.0 q.1 w r.2
      (λ y v g. one_pair sizes z journal kept y (life_in sizes journal r.0) q.0 q.1 v w g r.2)))

  pub pairs_are : pair_count (graph_of journal) ≡ count_below (λ (x : ℕ). is_pair s (s.node x)) sizes.nodes
  pairs_are = ap map.len the_pairs ∙ (pairs_counted pair_opt sizes.nodes pair_one sizes.nodes (omega arith) ∙ count_same
      (λ (x : ℕ). is_some (pair_opt x)) (λ (x : ℕ). is_pair s (s.node x)) sizes.nodes pair_is)
