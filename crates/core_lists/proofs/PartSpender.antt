-- The edges of a closed list are spent by the caller who spent its vertex.
use Rattle.std.proofs.Common.{◌≡◌, ◌≢◌, ℕ, ◌<◌, Bool, true, false, List, [], refl, sym, ap, ◌∙◌, subst, ⊎_elim}
use Rattle.graph_kinds.specs.Levels.{stands_in}
use Rattle.packed_link.specs.Layout.{Sizes, IsLayout, second_at}
use Rattle.core_journal.specs.declared.event.Kind.TheVariants.{PopFree, LinkVertex, MarkVertex, UnlinkVertex, LinkEdge}
use Rattle.core_journal.specs.declared.event.Kind.TheVariants.{MarkEdge, UnlinkEdge, FreezeHead, FreezeEdge, StoreFree}
use Rattle.core_journal.specs.declared.event.Kind.TheVariants.{PushFree, ReplaceEdge}
use Rattle.core_journal.specs.declared.event.Event.{Event}
use Rattle.core_journal.specs.State.{Fresh, Linked, Spent, Node, State, put, handed, joined_edge, state_by, state}
use Rattle.core_kept.specs.Kept.{IsKept}
use Rattle.core_kept.specs.Nodes.{node_in, IsUsed, is_frozen}
use Rattle.core_kept.proofs.ByKind.{KeepsByKind, put_case, put_other, handed_case, marked_state, closed_state}
use Rattle.core_kept.proofs.ByKind.{holds_all}
use Rattle.core_kept.proofs.LinkWords.{taken}
use Rattle.core_kept.proofs.Contents.{contents}
use Rattle.core_kept.proofs.NodesOnLists.{unlinked_was, linked_was}
use Rattle.core_lists.proofs.ListHolds.{ListingOf, part_listed, handed_split}
use Rattle.core_lists.proofs.ListHoldsKept.{listing, replace_joins}
use Rattle.core_lists.proofs.ListingsBehindSteps.{joins, popped_was}
use Rattle.core_kept.proofs.ReplaceCases.{new_edge_node}
use Rattle.core_lists.proofs.ClosedHeadStays.{part_head, part_spent}

-- a spent edge on the list of a vertex was handed over: the list is closed, and the vertex's spender is the edge's too;
-- and
-- no list of a linked node is closed
pub record Spenders (node : ℕ → Node) (edges : ℕ → List ℕ) (frozen : ℕ → Bool) : Type 0 where
  pub closed : (x : ℕ) → frozen x ≡ true → (node x).mode ≢ Linked
  pub edge : (x y : ℕ) → IsUsed (node x).mode → (node x).vertex ≡ true → stands_in (edges x) y ≡ true →
      (node y).mode ≡ Spent → (frozen x ≡ true) × ((node y).who ≡ (node x).who)

-- a vertex with an edge on its list, and that edge, before one node changes
record IsPairMoved (node : ℕ → Node) (edges edges' : ℕ → List ℕ) (frozen frozen' : ℕ → Bool) (i : ℕ)
    (v : Node) : Type 0 where
  pub frozen_else : (x : ℕ) → x ≢ i → frozen' x ≡ frozen x
  pub frozen_here : frozen' i ≡ true → v.mode ≢ Linked
  pub lists : (x y : ℕ) → stands_in (edges' x) y ≡ true → y ≢ i → stands_in (edges x) y ≡ true
  pub vertex : IsUsed v.mode → v.vertex ≡ true → (y : ℕ) → stands_in (edges' i) y ≡ true → IsUsed (node i).mode ×
      ((node i).vertex ≡ true) × (frozen i ≡ true → (v.who ≡ (node i).who) × (frozen' i ≡ true))
  pub edge : (x : ℕ) → stands_in (edges' x) i ≡ true → v.mode ≡ Spent → ((node i).mode ≡ Spent) ×
      (v.who ≡ (node i).who) ×
      (stands_in (edges x) i ≡ true)

module _ (node : ℕ → Node) (edges edges' : ℕ → List ℕ) (frozen frozen' : ℕ → Bool) (i : ℕ) (v : Node)
    (m : IsPairMoved node edges edges' frozen frozen' i v) (c : Spenders node edges frozen) where
  edge_before : (x y : ℕ) → stands_in (edges' x) y ≡ true → (put i v node y).mode ≡ Spent → ((node y).mode ≡ Spent) ×
      ((put i v node y).who ≡ (node y).who) × (stands_in (edges x) y ≡ true)
  edge_before x y h = put_case (λ (n : Node). n.mode ≡ Spent → ((node y).mode ≡ Spent) × (n.who ≡ (node y).who) ×
      (stands_in (edges x) y ≡ true)) i v node y
      (λ same g. let q = m.edge x (subst (λ (j : ℕ). stands_in (edges' x) j ≡ true) same h) g in (
        ap (λ (j : ℕ). (node j).mode) same ∙ q.0,
        q.1 ∙ ap (λ (j : ℕ). (node j).who) (sym same),
        subst
            (λ (j : ℕ). stands_in (edges x) j ≡ true) (sym same) q.2,
      ))
      (λ ne g. (g, refl, m.lists x y h ne))

  vertex_before : (x y : ℕ) → stands_in (edges' x) y ≡ true → IsUsed (put i v node x).mode → (put i v node x).vertex
      ≡ true
      → IsUsed (node x).mode × ((node x).vertex ≡ true) × (frozen x ≡ true → ((put i v node x).who ≡ (node x).who) ×
      (frozen' x ≡ true))
  vertex_before x y h = put_case (λ (n : Node). IsUsed n.mode → n.vertex ≡ true → IsUsed (node x).mode ×
      ((node x).vertex ≡ true) × (frozen x ≡ true → (n.who ≡ (node x).who) × (frozen' x ≡ true))) i v node x
      (λ same u t. subst (λ (j : ℕ). IsUsed (node j).mode × ((node j).vertex ≡ true) ×
      (frozen j ≡ true → (v.who ≡ (node j).who) × (frozen' j ≡ true))) (sym same)
      (m.vertex u t y (subst (λ (j : ℕ). stands_in (edges' j) y ≡ true) same h)))
      (λ ne u t. (u, t, λ f. (refl, m.frozen_else x ne ∙ f)))

  spenders_moved : Spenders (put i v node) edges' frozen'
  spenders_moved = record {
    closed = λ x. put_case (λ (n : Node). frozen' x ≡ true → n.mode ≢ Linked) i v node x
        (λ same h. m.frozen_here (ap frozen' (sym same) ∙ h)) (λ ne h. c.closed x (sym (m.frozen_else x ne) ∙ h));
    edge = λ x y u t h spent.
        let e = edge_before x y h spent in
        let b = vertex_before x y h u t in
        let d = c.edge x y b.0 b.1 e.2 e.0 in
        let n = b.2 d.0 in
        (n.1, e.1 ∙ (d.1 ∙ sym n.0));
  }

-- the frozen part of a list is handed over
spenders_handed : (s : State) (v : ℕ) → ((x y : ℕ) → stands_in (s.edges x) y ≡ true → ((s.node y).vertex ≡ false) ×
    ((s.node y).source.index ≡ x)) → Spenders s.node s.edges s.frozen → Spenders (handed v s).node s.edges s.frozen
spenders_handed s v on c = record {
  closed = λ x h. handed_split (λ (n : Node). n.mode ≢ Linked) s v x (λ _. c.closed x h) (λ _ _ l. absurd (cc));
  edge = λ x y u t h spent.
      let vertex : (s.node x).vertex ≡ true = handed_case (λ (n : Node). n.vertex ≡ true → (s.node x).vertex ≡ true) s v
      x (λ q. q) (λ _ _ _ q. q) t in
      let same : (handed v s).node x ≡ s.node x = handed_split (λ (n : Node). n ≡ s.node x) s v x (λ _. refl)
      (λ at _. let b = (on v x (part_listed s.node s.edges s.frozen v x at)).0 in absurd (cc)) in
      let r = handed_split (λ (n : Node). n.mode ≡ Spent → (s.frozen x ≡ true) × (n.who ≡ (s.node x).who)) s v y
      (λ _ g. c.edge x y (subst (λ (n : Node). IsUsed n.mode) same u) vertex h g)
      (λ at _ _.
      let home : v ≡ x = sym (on v y (part_listed s.node s.edges s.frozen v y at)).1 ∙ (on x y h).1 in
      (ap s.frozen (sym home) ∙ part_head s v y at, ap (λ (j : ℕ). (s.node j).who) home)) spent in
      (r.0, r.1 ∙ ap (λ (n : Node). n.who) (sym same));
}

-- a node changes, and the lists and their heads stay
abbrev IsPairKept : State → ℕ → Node → Type 0
IsPairKept s i v = IsPairMoved s.node s.edges s.edges s.frozen s.frozen i v

-- a mark
pair_marked : (s : State) (i : ℕ) → (s.frozen i ≡ true → (s.node i).mode ≢ Linked) → IsPairKept s i
    (record (s.node i) { marked = true })
pair_marked s i closed = record {
  frozen_else = λ x _. refl;
  frozen_here = closed;
  lists = λ x y h _. h;
  vertex = λ u t
      y h. (u, t, λ f. (refl, f));
  edge = λ x h g. (g, refl, h);
}

module _ (sizes : Sizes) (z : IsLayout sizes) (past : List Event) (kept : IsKept sizes past) where
  on_past : (i : ℕ) (x y : ℕ) → stands_in ((state sizes past).edges x) y ≡ true →
      (((marked_state (state sizes past) i).node y).vertex ≡ false) ×
      (((marked_state (state sizes past) i).node y).source.index ≡ x)
  on_past i x y h =
      let d = (listing sizes z past kept).on x y h in
      put_case (λ (n : Node). (n.vertex ≡ false) × (n.source.index ≡ x)) i _ (state sizes past).node y
      (λ same. (
        ap (λ (j : ℕ). (node_in sizes past j).vertex) (sym same) ∙ d.edge,
        ap
            (λ (j : ℕ). (node_in sizes past j).source.index) (sym same) ∙ d.index,
      ))
      (λ _. (d.edge, d.index))

  vertex_off_list : (i x : ℕ) → (node_in sizes past i).vertex ≡ true → stands_in ((state sizes past).edges x) i ≡ true →
      ⊥
  vertex_off_list i x v h = let b = ((listing sizes z past kept).on x i h).edge in absurd (cc)

  fresh_off_list : (i x : ℕ) → (node_in sizes past i).mode ≡ Fresh → stands_in ((state sizes past).edges x) i ≡ true → ⊥
  fresh_off_list i x f h = ((listing sizes z past kept).on x i h).unfresh f

  no_edges_yet : (i y : ℕ) → (node_in sizes past i).mode ≡ Fresh → stands_in ((state sizes past).edges i) y ≡ true → ⊥
  no_edges_yet i y f h = let t : stands_in [] y ≡ true = subst (λ (l : List ℕ). stands_in l y ≡ true)
      ((listing sizes z past kept).empty i f) h in absurd (cc)

  open_yet : (i : ℕ) → i < sizes.nodes → (node_in sizes past i).mode ≡ Fresh → (state sizes past).frozen i ≡ true → ⊥
  open_yet i t f h = let g = ((contents sizes z past kept).each i t).fresh f in absurd (cc)

spenders_step : (sizes : Sizes) → IsLayout sizes → KeepsByKind sizes
    (λ (s : State) (w : ℕ → ℕ). Spenders s.node s.edges s.frozen)
spenders_step sizes z past e kept c PopFree by ok w a =
    let s : State = state sizes past in
    let s' : State = state_by PopFree sizes e s in
    let v : Node = record (s.node e.life.index) {
      mode = Fresh;
      who = e.caller;
      tag = e.life.tag;
      marked = false;
      stored
          = false;
    } in
    spenders_moved s.node s.edges s'.edges s.frozen s'.frozen e.life.index v record {
      frozen_else = λ x ne. put_other e.life.index false s.frozen x ne;
      frozen_here = λ _ l. absurd (cc);
      lists = λ x y h ne. (popped_was sizes s.node s.edges s.frozen (listing sizes z past kept) e.life.index v
          (taken sizes z past e kept ok).free refl x y h).1;
      vertex = λ u t y h. absurd u;
      edge = λ x h g. absurd (cc);
    } c
spenders_step sizes z past e kept c LinkVertex by ok w a = spenders_moved (state sizes past).node
    (state sizes past).edges (state sizes past).edges (state sizes past).frozen
    (state sizes past).frozen e.life.index _ record {
      frozen_else = λ x _. refl;
      frozen_here = λ h. absurd (open_yet sizes z past kept e.life.index ok.there ok.fresh.fresh h);
      lists = λ x y h _. h;
      vertex = λ u t y h. absurd (no_edges_yet sizes z past kept e.life.index y ok.fresh.fresh h);
      edge = λ x h g. absurd (fresh_off_list sizes z past kept e.life.index x ok.fresh.fresh h);
    } c
spenders_step sizes z past e kept c MarkVertex by ok w a = spenders_moved (state sizes past).node
    (state sizes past).edges (state sizes past).edges (state sizes past).frozen (state sizes past).frozen e.life.index _
    (pair_marked (state sizes past) e.life.index (c.closed e.life.index)) c
spenders_step sizes z past e kept c UnlinkVertex by ok w a = spenders_moved (state sizes past).node
    (state sizes past).edges (state sizes past).edges (state sizes past).frozen
    (state sizes past).frozen e.life.index _ record {
      frozen_else = λ x _. refl;
      frozen_here = λ _ l. absurd (cc);
      lists = λ x y h _. h;
      vertex = λ u t y h. (
        subst IsUsed (sym ok.linked.linked) tt,
        t,
        λ f. absurd
            (c.closed e.life.index f ok.linked.linked),
      );
      edge = λ x h g. absurd (vertex_off_list sizes z past kept e.life.index x ok.linked.vertex h);
    } c
spenders_step sizes z past e kept c LinkEdge by ok w a = spenders_moved (state sizes past).node (state sizes past).edges
    (state_by LinkEdge sizes e (state sizes past)).edges (state sizes past).frozen
    (state sizes past).frozen e.life.index _ record {
      frozen_else = λ x _. refl;
      frozen_here = λ h. absurd (open_yet sizes z past kept e.life.index ok.there ok.fresh.fresh h);
      lists = λ x y h ne. ⊎_elim (λ (t : stands_in ((state sizes past).edges x) y ≡ true). t)
          (λ (t : (y ≡ e.life.index) × _). absurd (ne t.0)) (linked_was sizes (second_at sizes x) e.place e.life.index y
          ((state sizes past).edges x) h);
      vertex = λ u t y h. absurd (cc);
      edge = λ x h g. absurd (cc);
    } c
spenders_step sizes z past e kept c UnlinkEdge by ok w a = spenders_moved (state sizes past).node
    (state sizes past).edges (state_by UnlinkEdge sizes e (state sizes past)).edges (state sizes past).frozen
    (state sizes past).frozen e.life.index _ record {
      frozen_else = λ x _. refl;
      frozen_here = λ _ l. absurd (cc);
      lists = λ x y h ne. (unlinked_was e.life.index y ((state sizes past).edges x) h).0;
      vertex = λ u t y h. let b = ok.linked.edge in absurd (cc);
      edge = λ x h g. absurd ((unlinked_was e.life.index e.life.index ((state sizes past).edges x) h).1 refl);
    } c
spenders_step sizes z past e kept c StoreFree by ok w a = spenders_moved (state sizes past).node
    (state sizes past).edges (state sizes past).edges (state sizes past).frozen
    (state sizes past).frozen e.life.index _ record {
      frozen_else = λ x _. refl;
      frozen_here = λ h. c.closed e.life.index h;
      lists = λ x y h _. h;
      vertex = λ u t y h. (u, t, λ f. (refl, f));
      edge = λ x h g. (g, refl, h);
    } c
spenders_step sizes z past e kept c PushFree by ok w a = spenders_moved (state sizes past).node (state sizes past).edges
    (state sizes past).edges (state sizes past).frozen (state sizes past).frozen e.life.index _ record {
      frozen_else = λ x _. refl;
      frozen_here = λ _ l. absurd (cc);
      lists = λ x y h _. h;
      vertex = λ u t y h. absurd u;
      edge = λ x h g. absurd (cc);
    } c
spenders_step sizes z past e kept c ReplaceEdge by ok w a =
    let s : State = state sizes past in
    let j : State = joined_edge sizes e s in
    let v : Node = new_edge_node (s.node e.life.index) e s.count in
    let l : ListingOf sizes j = joins sizes s.node s.edges s.frozen (listing sizes z past kept) e.life.index e.place v
    (replace_joins sizes z past e kept (listing sizes z past kept) ok) in
    let cj : Spenders j.node j.edges j.frozen = spenders_moved s.node s.edges j.edges s.frozen s.frozen e.life.index v
    record {
      frozen_else = λ x _. refl;
      frozen_here = λ h. absurd (open_yet sizes z past kept e.life.index ok.there ok.fresh.fresh h);
      lists = λ x y h ne. ⊎_elim (λ (t : stands_in (s.edges x) y ≡ true). t)
          (λ (t : (y ≡ e.life.index) × _). absurd (ne t.0)) (linked_was sizes (second_at sizes x) e.place e.life.index y
          (s.edges x) h);
      vertex = λ u t y h. absurd (cc);
      edge = λ x h g. absurd (cc);
    } c in
    spenders_handed (marked_state j e.old.index) (j.node e.old.index).source.index
    (λ x y h.
    let d = l.on x y h in
    put_case (λ (n : Node). (n.vertex ≡ false) × (n.source.index ≡ x)) e.old.index
    (record (j.node e.old.index) { marked = true }) j.node y
    (λ same. (
      ap (λ (i : ℕ). (j.node i).vertex) (sym same) ∙ d.edge,
      ap (λ (i : ℕ). (j.node i).source.index) (sym same)
          ∙ d.index,
    ))
    (λ _. (d.edge, d.index)))
    (spenders_moved j.node j.edges j.edges j.frozen j.frozen e.old.index (record (j.node e.old.index) { marked = true })
    (pair_marked j e.old.index (cj.closed e.old.index)) cj)
spenders_step sizes z past e kept c MarkEdge by ok w a = spenders_handed (marked_state (state sizes past) e.life.index)
    (node_in sizes past e.life.index).source.index (on_past sizes z past kept e.life.index)
    (spenders_moved (state sizes past).node (state sizes past).edges (state sizes past).edges (state sizes past).frozen
    (state sizes past).frozen e.life.index _ (pair_marked (state sizes past) e.life.index (c.closed e.life.index))
    c)
spenders_step sizes z past e kept c FreezeEdge by ok w a = spenders_handed
    (marked_state (state sizes past) e.life.index) (node_in sizes past e.life.index).source.index
    (on_past sizes z past kept e.life.index)
    (spenders_moved (state sizes past).node (state sizes past).edges (state sizes past).edges (state sizes past).frozen
    (state sizes past).frozen e.life.index _ (pair_marked (state sizes past) e.life.index (c.closed e.life.index))
    c)
spenders_step sizes z past e kept c FreezeHead by ok w a = spenders_handed
    (closed_state (state sizes past) e.life.index) e.life.index
    (λ x y h. let d = (listing sizes z past kept).on x y h in (d.edge, d.index)) record {
      closed = λ x. put_case (λ (b : Bool). b ≡ true → (node_in sizes past x).mode ≢ Linked) e.life.index true
          (state sizes past).frozen x (λ same _ l. let t = ap (λ (j : ℕ). (node_in sizes past j).mode) same
          ∙ ok.spent.spent in absurd (cc)) (λ _. c.closed x);
      edge = λ x y u t h g. let d = c.edge x y u t h g in (
        put_case (λ (b : Bool). b ≡ true) e.life.index true
            (state sizes past).frozen x (λ _. refl) (λ _. d.0),
        d.1,
      );
    }
spenders_step sizes z past e kept c _ by ok w a = c

pub spenders : (sizes : Sizes) → IsLayout sizes → (journal : List Event) → IsKept sizes journal → Spenders
    (state sizes journal).node (state sizes journal).edges (state sizes journal).frozen
spenders sizes z journal kept = holds_all sizes (λ (s : State) (w : ℕ → ℕ). Spenders s.node s.edges s.frozen)
    (spenders_step sizes z) (record { closed = λ x h. absurd (cc); edge = λ x y u t h g. absurd u }) journal kept

-- an edge of the frozen part of a vertex's list that isn't given back is spent, by the caller who spent the vertex
pub part_who : (sizes : Sizes) → IsLayout sizes → (journal : List Event) → IsKept sizes journal → (x y : ℕ) → IsUsed
    (node_in sizes journal x).mode → (node_in sizes journal x).vertex ≡ true → is_frozen
    (state sizes journal) x y ≡ true → IsUsed (node_in sizes journal y).mode
    → ((node_in sizes journal y).mode ≡ Spent) × ((node_in sizes journal y).who ≡ (node_in sizes journal x).who)
part_who sizes z journal kept x y u t h v =
    let s : State = state sizes journal in
    let g = part_spent sizes z journal kept x y h v in
    (g, ((spenders sizes z journal kept).edge x y u t (part_listed s.node s.edges s.frozen x y h) g).1)
