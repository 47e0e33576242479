-- What the lists of edges hold: edges of their vertex, and on a list that isn't frozen to its end those that are linked
-- or were
-- handed over.
use Rattle.std.proofs.Common.{◌≡◌, ◌≢◌, ◌⊎◌, ℕ, ◌<◌, List, [], Bool, true, false, cond, refl, sym, ap, ◌∙◌, subst, inl}
use Rattle.std.proofs.Common.{inr, ⊎_elim}
use Rattle.std.specs.Prelude.{take_while, ◌&&◌}
use mathlib.Core.Logic.{dite}
use native.Mathlib.Decide.{ℕ_discrete}
use Rattle.graph_kinds.specs.Levels.{stands_in}
use Rattle.packed_link.specs.Layout.{Sizes}
use Rattle.packed_link.specs.declared.link.Life.{Life}
use Rattle.core_journal.specs.State.{Mode, Fresh, Linked, Spent, Node, State, is_linked, put, handed, frozen_part}
use Rattle.core_kept.specs.Nodes.{IsUsed}
use Rattle.core_kept.proofs.ByKind.{put_case}
use Rattle.core_kept.proofs.NodesOnLists.{part_was, part_all, part_grows, part_same, yes_no}

-- the frozen part of the list of a vertex
abbrev pub part_of : (ℕ → Node) → (ℕ → List ℕ) → (ℕ → Bool) → ℕ → List ℕ
part_of node edges frozen x = cond (frozen x) (take_while (λ y. (node y).marked) (edges x)) []

-- a node on a list of edges: an edge whose source is the vertex in its life
pub record IsEdgeOn (sizes : Sizes) (node : ℕ → Node) (x y : ℕ) : Type 0 where
  pub there : y < sizes.nodes
  pub edge : (node y).vertex ≡ false
  pub unfresh : (node y).mode ≢ Fresh
  pub index : (node y).source.index ≡ x
  pub life : (node y).source.tag ≡ (node x).tag

-- a list is frozen to its end
pub record IsFinished (node : ℕ → Node) (edges : ℕ → List ℕ) (frozen : ℕ → Bool) (x : ℕ) : Type 0 where
  pub head : frozen x ≡ true
  pub each : (y : ℕ) → stands_in (edges x) y ≡ true → (node y).marked ≡ true

-- a vertex is linked or spent, and its list isn't frozen to its end
pub record IsOpenList (sizes : Sizes) (node : ℕ → Node) (edges : ℕ → List ℕ) (frozen : ℕ → Bool) (x : ℕ) : Type 0 where
  pub there : x < sizes.nodes
  pub used : IsUsed (node x).mode
  pub vertex : (node x).vertex ≡ true
  pub unfinished : IsFinished node edges frozen x → ⊥

-- an edge is on the list of its source, which is in its life and has a list
pub record IsOnSource (sizes : Sizes) (node : ℕ → Node) (edges : ℕ → List ℕ) (frozen : ℕ → Bool) (y : ℕ) : Type 0 where
  pub list : IsOpenList sizes node edges frozen (node y).source.index
  pub life : (node y).source.tag ≡ (node (node y).source.index).tag
  pub on : stands_in (edges (node y).source.index) y ≡ true

-- what the lists hold
pub record Listing (sizes : Sizes) (node : ℕ → Node) (edges : ℕ → List ℕ) (frozen : ℕ → Bool) : Type 0 where
  pub on : (x y : ℕ) → stands_in (edges x) y ≡ true → IsEdgeOn sizes node x y
  pub empty : (x : ℕ) → (node x).mode ≡ Fresh → edges x ≡ []
  pub handed : (x y : ℕ) → IsOpenList sizes node edges frozen x → stands_in (part_of node edges frozen x) y ≡ true →
      (node y).mode ≡ Spent
  pub linked : (x y : ℕ) → IsOpenList sizes node edges frozen x → stands_in (edges x) y ≡ true → stands_in
      (part_of node edges frozen x)
      y ≡ false → (node y).mode ≡ Linked
  pub unstored : (x : ℕ) → IsOpenList sizes node edges frozen x → (node x).stored ≡ false
  pub held : (x y : ℕ) → IsOpenList sizes node edges frozen x → stands_in (edges x) y ≡ true → (node y).stored ≡ false
  pub source : (y : ℕ) → y < sizes.nodes → (node y).mode ≡ Linked → (node y).vertex ≡ false
      → IsOnSource sizes node edges frozen y

abbrev pub ListingOf : Sizes → State → Type 0
ListingOf sizes s = Listing sizes s.node s.edges s.frozen

-- the frozen part is a part of the list
pub part_listed : (node : ℕ → Node) (edges : ℕ → List ℕ) (frozen : ℕ → Bool) (x y : ℕ) → stands_in
    (part_of node edges frozen x)
    y ≡ true → stands_in (edges x) y ≡ true
part_listed node edges frozen x y h = by (frozen x) h
  where
    by : (b : Bool) → stands_in (cond b (take_while (λ y. (node y).marked) (edges x)) []) y ≡ true → stands_in (edges x)
        y ≡ true
    by true h = (part_was (λ y. (node y).marked) y (edges x) h).0
    by false h = absurd (cc)

-- what is on a list that isn't frozen to its end is linked or spent
pub open_mode : (sizes : Sizes) (node : ℕ → Node) (edges : ℕ → List ℕ) (frozen : ℕ → Bool) (x y : ℕ)
    → Listing sizes node edges frozen → IsOpenList sizes node edges frozen x → stands_in (edges x) y ≡ true →
    ((node y).mode ≡ Linked) ⊎ ((node y).mode ≡ Spent)
open_mode sizes node edges frozen x y c o h = yes_no (((node y).mode ≡ Linked) ⊎ ((node y).mode ≡ Spent))
    (stands_in (part_of node edges frozen x) y) (λ t. inr (c.handed x y o t)) (λ f. inl (c.linked x y o h f))

-- a change of one node that keeps the lists
pub record KeepsLists (sizes : Sizes) (node : ℕ → Node) (edges : ℕ → List ℕ) (frozen : ℕ → Bool) (i : ℕ)
    (v : Node) : Type 0 where
  pub tag : v.tag ≡ (node i).tag
  pub fresh : v.mode ≡ Fresh → (node i).mode ≡ Fresh
  pub edge : (x : ℕ) → stands_in (edges x) i ≡ true → (v.vertex ≡ false) × (v.source ≡ (node i).source) ×
      (v.marked ≡ (node i).marked)
  pub member : (x : ℕ) → IsOpenList sizes node edges frozen x → stands_in (edges x) i ≡ true →
      (v.mode ≡ (node i).mode) ×
      (v.stored ≡ (node i).stored)
  pub used : IsUsed v.mode → v.vertex ≡ true → (IsUsed (node i).mode × ((node i).vertex ≡ true)) ⊎
      ((node i).mode ≡ Fresh)
  pub unstored : IsUsed v.mode → v.vertex ≡ true → (IsFinished node edges frozen i → ⊥) → v.stored ≡ false
  pub linked : v.mode ≡ Linked → v.vertex ≡ false → ((node i).mode ≡ Linked) × ((node i).vertex ≡ false) ×
      (v.source ≡ (node i).source)
  pub still : IsOpenList sizes node edges frozen i → IsUsed v.mode × (v.vertex ≡ true)

module _ (sizes : Sizes) (node : ℕ → Node) (edges : ℕ → List ℕ) (frozen : ℕ → Bool)
    (c : Listing sizes node edges frozen) (i : ℕ) (v : Node) (m : KeepsLists sizes node edges frozen i v) where
  moved_tag : (x : ℕ) → (put i v node x).tag ≡ (node x).tag
  moved_tag x = put_case (λ (u : Node). u.tag ≡ (node x).tag) i v node x
      (λ same. m.tag ∙ ap (λ (y : ℕ). (node y).tag) (sym same)) (λ _. refl)

  moved_mark : (x y : ℕ) → stands_in (edges x) y ≡ true → (put i v node y).marked ≡ (node y).marked
  moved_mark x y h = put_case (λ (u : Node). u.marked ≡ (node y).marked) i v node y
      (λ same. (m.edge x (subst (λ (z : ℕ). stands_in (edges x) z ≡ true) same h)).2 ∙ ap (λ (z : ℕ). (node z).marked)
      (sym same)) (λ _. refl)

  moved_on : (x y : ℕ) → stands_in (edges x) y ≡ true → IsEdgeOn sizes (put i v node) x y
  moved_on x y h =
      let d = c.on x y h in
      let s : (put i v node y).source ≡ (node y).source = put_case (λ (u : Node). u.source ≡ (node y).source) i v node y
      (λ same. (m.edge x (subst (λ (z : ℕ). stands_in (edges x) z ≡ true) same h)).1 ∙ ap (λ (z : ℕ). (node z).source)
      (sym same)) (λ _. refl) in
      record {
        there = d.there;
        edge = put_case (λ (u : Node). u.vertex ≡ false) i v node y
            (λ same. (m.edge x (subst (λ (z : ℕ). stands_in (edges x) z ≡ true) same h)).0) (λ _. d.edge);
        unfresh = put_case (λ (u : Node). u.mode ≢ Fresh) i v node y
            (λ same f. d.unfresh (ap (λ (z : ℕ). (node z).mode) same ∙ m.fresh f)) (λ _. d.unfresh);
        index = ap (λ (l : Life). l.index) s ∙ d.index;
        life = ap (λ (l : Life). l.tag) s ∙ (d.life ∙ sym (moved_tag x));
      }

  pub moved_finish : (x : ℕ) → IsFinished node edges frozen x → IsFinished (put i v node) edges frozen x
  moved_finish x f = record { head = f.head; each = λ y h. moved_mark x y h ∙ f.each y h }

  moved_finished : (x : ℕ) → IsFinished (put i v node) edges frozen x → IsFinished node edges frozen x
  moved_finished x f = record { head = f.head; each = λ y h. sym (moved_mark x y h) ∙ f.each y h }

  pub moved_open : (x : ℕ) → IsOpenList sizes (put i v node) edges frozen x → IsOpenList sizes node edges frozen x ⊎
      ((node x).mode ≡ Fresh)
  moved_open x o = put_case (λ (u : Node). IsUsed u.mode → u.vertex ≡ true → IsOpenList sizes node edges frozen x ⊎
      ((node x).mode ≡ Fresh)) i v node x
      (λ same u t. ⊎_elim (λ (a : IsUsed (node i).mode × ((node i).vertex ≡ true)). inl
      (build (subst (λ (y : ℕ). IsUsed (node y).mode) (sym same) a.0) (ap (λ (y : ℕ). (node y).vertex) same ∙ a.1)))
      (λ (f : (node i).mode ≡ Fresh). inr (ap (λ (y : ℕ). (node y).mode) same ∙ f)) (m.used u t))
      (λ _ u t. inl (build u t)) o.used o.vertex
    where
      build : IsUsed (node x).mode → (node x).vertex ≡ true → IsOpenList sizes node edges frozen x
      build u t = record { there = o.there; used = u; vertex = t; unfinished = λ f. o.unfinished (moved_finish x f) }

  -- where the node was no fresh one
  pub moved_back : (IsUsed v.mode → v.vertex ≡ true → IsUsed (node i).mode × ((node i).vertex ≡ true)) → (x : ℕ)
      → IsOpenList sizes (put i v node) edges frozen x → IsOpenList sizes node edges frozen x
  moved_back was x o =
      let q = put_case (λ (u : Node). IsUsed u.mode → u.vertex ≡ true → IsUsed (node x).mode × ((node x).vertex ≡ true))
      i v node x
      (λ same u t. let r = was u t in (
        subst (λ (y : ℕ). IsUsed (node y).mode) (sym same) r.0,
        ap
            (λ (y : ℕ). (node y).vertex) same ∙ r.1,
      ))
      (λ _ u t. (u, t)) o.used o.vertex in
      record { there = o.there; used = q.0; vertex = q.1; unfinished = λ f. o.unfinished (moved_finish x f) }

  moved_still : (x : ℕ) → IsOpenList sizes node edges frozen x → IsOpenList sizes (put i v node) edges frozen x
  moved_still x o =
      let q = put_case (λ (u : Node). IsUsed u.mode × (u.vertex ≡ true)) i v node x
      (λ same. m.still (subst (IsOpenList sizes node edges frozen) same o)) (λ _. (o.used, o.vertex)) in
      record { there = o.there; used = q.0; vertex = q.1; unfinished = λ f. o.unfinished (moved_finished x f) }

  moved_part : (x : ℕ) → part_of (put i v node) edges frozen x ≡ part_of node edges frozen x
  moved_part x = ap (λ (l : List ℕ). cond (frozen x) l []) (part_same (λ y. (put i v node y).marked)
      (λ y. (node y).marked) (edges x) (λ y h. moved_mark x y h))

  no_member : (x y : ℕ) → (node x).mode ≡ Fresh → stands_in (edges x) y ≡ true → ⊥
  no_member x y f h = let t : stands_in [] y ≡ true = subst (λ (l : List ℕ). stands_in l y ≡ true) (c.empty x f) h in
      absurd
      (cc)

  moved_member : (x y : ℕ) → IsOpenList sizes (put i v node) edges frozen x → stands_in (edges x) y ≡ true
      → IsOpenList sizes node edges frozen x × ((put i v node y).mode ≡ (node y).mode) ×
      ((put i v node y).stored ≡ (node y).stored)
  moved_member x y o h = ⊎_elim (λ (old : IsOpenList sizes node edges frozen x). (old, (both old).0, (both old).1))
      (λ (f : (node x).mode ≡ Fresh). absurd (no_member x y f h)) (moved_open x o)
    where
      both : IsOpenList sizes node edges frozen x → ((put i v node y).mode ≡ (node y).mode) ×
          ((put i v node y).stored ≡ (node y).stored)
      both old = put_case (λ (u : Node). (u.mode ≡ (node y).mode) × (u.stored ≡ (node y).stored)) i v node y
          (λ same. let q = m.member x old (subst (λ (z : ℕ). stands_in (edges x) z ≡ true) same h) in
          (q.0 ∙ ap (λ (z : ℕ). (node z).mode) (sym same), q.1 ∙ ap (λ (z : ℕ). (node z).stored) (sym same)))
          (λ _. (refl, refl))

  moved_source : (y : ℕ) → y < sizes.nodes → (put i v node y).mode ≡ Linked → (put i v node y).vertex ≡ false
      → IsOnSource sizes (put i v node) edges frozen y
  moved_source y t = put_case (λ (u : Node). u.mode ≡ Linked → u.vertex ≡ false → IsOnSource sizes
      (put i v node) edges frozen y) i v node y
      (λ same l e. let q = m.linked l e in at (ap (λ (z : ℕ). (node z).mode) same ∙ q.0)
      (ap (λ (z : ℕ). (node z).vertex) same ∙ q.1)
      (put_case (λ (u : Node). u.source ≡ (node y).source) i v node y
      (λ _. q.2 ∙ ap (λ (z : ℕ). (node z).source) (sym same)) (λ _. refl)))
      (λ ne l e. at l e (put_case (λ (u : Node). u.source ≡ (node y).source) i v node y (λ same. absurd (ne same))
      (λ _. refl)))
    where
      at : (node y).mode ≡ Linked → (node y).vertex ≡ false → (put i v node y).source ≡ (node y).source
          → IsOnSource sizes (put i v node) edges frozen y
      at l e s =
          let d = c.source y t l e in
          let p : (put i v node y).source.index ≡ (node y).source.index = ap (λ (z : Life). z.index) s in
          record {
            list = subst (IsOpenList sizes (put i v node) edges frozen) (sym p)
                (moved_still (node y).source.index d.list);
            life = ap (λ (z : Life). z.tag) s ∙ (d.life ∙ (sym (moved_tag (node y).source.index) ∙ ap
                (λ (z : ℕ). (put i v node z).tag) (sym p)));
            on = subst (λ (z : ℕ). stands_in (edges z) y ≡ true) (sym p) d.on;
          }

  -- the lists hold what they held
  pub moved : Listing sizes (put i v node) edges frozen
  moved = record {
    on = moved_on;
    empty = λ x. put_case (λ (u : Node). u.mode ≡ Fresh → edges x ≡ []) i v node x
        (λ same f. c.empty x (ap (λ (y : ℕ). (node y).mode) same ∙ m.fresh f)) (λ _. c.empty x);
    handed = λ x y o h.
        let p : stands_in (part_of node edges frozen x) y ≡ true = subst (λ (l : List ℕ). stands_in l y ≡ true)
        (moved_part x) h in
        let q = moved_member x y o (part_listed node edges frozen x y p) in q.1 ∙ c.handed x y q.0 p;
    linked = λ x y o h f. let q = moved_member x y o h in q.1 ∙ c.linked x y q.0 h
        (subst (λ (l : List ℕ). stands_in l y ≡ false) (moved_part x) f);
    unstored = λ x o. put_case (λ (u : Node). IsUsed u.mode → u.vertex ≡ true → u.stored ≡ false) i v node x
        (λ same u t. m.unstored u t (λ f. o.unfinished (moved_finish x
        (subst (IsFinished node edges frozen) (sym same) f))))
        (λ ne u t. c.unstored x (record {
          there = o.there;
          used = u;
          vertex = t;
          unfinished = λ f. o.unfinished
              (moved_finish x f);
        })) o.used o.vertex;
    held = λ x y o h. let q = moved_member x y o h in q.2 ∙ c.held x y q.0 h;
    source = moved_source;
  }

-- marks and closed heads of one list grow, before its frozen part is handed over
pub record IsGrown (node node' : ℕ → Node) (edges : ℕ → List ℕ) (frozen frozen' : ℕ → Bool) (v : ℕ) : Type 0 where
  pub mode : (y : ℕ) → (node' y).mode ≡ (node y).mode
  pub vertex : (y : ℕ) → (node' y).vertex ≡ (node y).vertex
  pub source : (y : ℕ) → (node' y).source ≡ (node y).source
  pub tag : (y : ℕ) → (node' y).tag ≡ (node y).tag
  pub stored : (y : ℕ) → (node' y).stored ≡ (node y).stored
  pub marked : (y : ℕ) → (node y).marked ≡ true → (node' y).marked ≡ true
  pub head : (x : ℕ) → frozen x ≡ true → frozen' x ≡ true
  pub marked_else : (x y : ℕ) → x ≢ v → stands_in (edges x) y ≡ true → (node' y).marked ≡ (node y).marked
  pub head_else : (x : ℕ) → x ≢ v → frozen' x ≡ frozen x

-- a node that's handed over or not keeps all but its mode
record IsHanded (u u' : Node) : Type 0 where
  pub vertex : u'.vertex ≡ u.vertex
  pub source : u'.source ≡ u.source
  pub tag : u'.tag ≡ u.tag
  pub stored : u'.stored ≡ u.stored
  pub marked : u'.marked ≡ u.marked
  pub used : IsUsed u'.mode → IsUsed u.mode
  pub still : IsUsed u.mode → IsUsed u'.mode
  pub fresh : u'.mode ≡ Fresh → u.mode ≡ Fresh
  pub linked : u'.mode ≡ Linked → u.mode ≡ Linked

-- by cases on whether a node is handed over
pub handed_split : (P : Node → Type 0) (s : State) (x y : ℕ) →
    ((stands_in (frozen_part s x) y ≡ true → (s.node y).mode ≢ Linked) → P (s.node y))
    → (stands_in (frozen_part s x) y ≡ true → (s.node y).mode ≡ Linked → P
    (record (s.node y) { mode = Spent; who = (s.node x).who; ended = s.count; epoch = s.epoch })) → P
    ((handed x s).node y)
handed_split P s x y same given = by (stands_in (frozen_part s x) y) refl
  where
    linked : (m : Mode) → is_linked m ≡ true → m ≡ Linked
    linked Linked h = refl
    linked _ h = absurd (cc)

    unlinked : (m : Mode) → is_linked m ≡ false → m ≢ Linked
    unlinked Linked h = absurd (cc)
    unlinked _ h = λ e. absurd (cc)

    inner : (b : Bool) → is_linked (s.node y).mode ≡ b → stands_in (frozen_part s x) y ≡ true → P
        (cond b (record (s.node y) { mode = Spent; who = (s.node x).who; ended = s.count; epoch = s.epoch }) (s.node y))
    inner true e h = given h (linked (s.node y).mode e)
    inner false e h = same (λ _. unlinked (s.node y).mode e)

    by : (b : Bool) → stands_in (frozen_part s x) y ≡ b → P (cond (b && is_linked (s.node y).mode)
        (record (s.node y) { mode = Spent; who = (s.node x).who; ended = s.count; epoch = s.epoch }) (s.node y))
    by true e = inner (is_linked (s.node y).mode) refl e
    by false e = same (λ h. absurd (cc))

handed_node : (s : State) (x y : ℕ) → IsHanded (s.node y) ((handed x s).node y)
handed_node s x y = handed_split (IsHanded (s.node y)) s x y
    (λ _. record {
      vertex = refl;
      source = refl;
      tag = refl;
      stored = refl;
      marked = refl;
      used = λ u. u;
      still = λ u.
          u;
      fresh = λ f. f;
      linked = λ l. l;
    })
    (λ _ l. record {
      vertex = refl;
      source = refl;
      tag = refl;
      stored = refl;
      marked = refl;
      used = λ _. subst IsUsed
          (sym l) tt;
      still = λ _. tt;
      fresh = λ f. absurd (cc);
      linked = λ f. absurd (cc);
    })

module _ (sizes : Sizes) (node : ℕ → Node) (frozen : ℕ → Bool) (s : State) (v : ℕ)
    (c : Listing sizes node s.edges frozen) (g : IsGrown node s.node s.edges frozen s.frozen v) where
  -- the nodes after that
  abbrev then : ℕ → Node
  then y = (handed v s).node y

  then_is : (y : ℕ) → IsHanded (s.node y) (then y)
  then_is y = handed_node s v y

  then_used : (y : ℕ) → IsUsed (then y).mode → IsUsed (node y).mode
  then_used y u = subst IsUsed (g.mode y) ((then_is y).used u)

  then_still : (y : ℕ) → IsUsed (node y).mode → IsUsed (then y).mode
  then_still y u = (then_is y).still (subst IsUsed (sym (g.mode y)) u)

  then_tag : (y : ℕ) → (then y).tag ≡ (node y).tag
  then_tag y = (then_is y).tag ∙ g.tag y

  then_source : (y : ℕ) → (then y).source ≡ (node y).source
  then_source y = (then_is y).source ∙ g.source y

  then_vertex : (y : ℕ) → (then y).vertex ≡ (node y).vertex
  then_vertex y = (then_is y).vertex ∙ g.vertex y

  pub then_finished : (x : ℕ) → IsFinished node s.edges frozen x → IsFinished then s.edges s.frozen x
  then_finished x f = record { head = g.head x f.head; each = λ y h. (then_is y).marked ∙ g.marked y (f.each y h) }

  pub then_open : (x : ℕ) → IsOpenList sizes then s.edges s.frozen x → IsOpenList sizes node s.edges frozen x
  then_open x o = record {
    there = o.there;
    used = then_used x o.used;
    vertex = sym (then_vertex x)
        ∙ o.vertex;
    unfinished = λ f. o.unfinished (then_finished x f);
  }

  -- the frozen part of that list grows, and every other stays
  then_part : (x : ℕ) → part_of then s.edges s.frozen x ≡ frozen_part s x
  then_part x = ap (λ (l : List ℕ). cond (s.frozen x) l []) (part_same (λ y. (then y).marked) (λ y. (s.node y).marked)
      (s.edges x) (λ y _. (then_is y).marked))

  part_else : (x : ℕ) → x ≢ v → frozen_part s x ≡ part_of node s.edges frozen x
  part_else x ne = ap (λ (b : Bool). cond b (take_while (λ y. (s.node y).marked) (s.edges x)) []) (g.head_else x ne)
      ∙ ap (λ (l : List ℕ). cond (frozen x) l []) (part_same (λ y. (s.node y).marked) (λ y. (node y).marked) (s.edges x)
      (λ y h. g.marked_else x y ne h))

  part_more : (x y : ℕ) → stands_in (part_of node s.edges frozen x) y ≡ true → stands_in (frozen_part s x) y ≡ true
  part_more x y h = by (frozen x) (s.frozen x) refl refl h
    where
      by : (b b' : Bool) → frozen x ≡ b → s.frozen x ≡ b' → stands_in
          (cond b (take_while (λ y. (node y).marked) (s.edges x)) [])
          y ≡ true → stands_in (cond b' (take_while (λ y. (s.node y).marked) (s.edges x)) [])
          y ≡ true
      by true true e e' h = part_grows (λ y. (node y).marked) (λ y. (s.node y).marked) y (s.edges x)
          (λ z _ t. g.marked z t) h
      by true false e e' h = let t = g.head x e in absurd (cc)
      by false b' e e' h = absurd (cc)

  -- a node of another list isn't handed over
  not_here : (x y : ℕ) → x ≢ v → stands_in (s.edges x) y ≡ true → stands_in (frozen_part s v) y ≡ true → ⊥
  not_here x y ne h at = let a = (c.on x y h).index in let b =
      (c.on v y (part_listed s.node s.edges s.frozen v y at)).index in ne (sym a ∙ b)

  then_handed : (x y : ℕ) → IsOpenList sizes then s.edges s.frozen x → stands_in (part_of then s.edges s.frozen x) y
      ≡ true
      → (then y).mode ≡ Spent
  then_handed x y o h =
      let p : stands_in (frozen_part s x) y ≡ true = subst (λ (l : List ℕ). stands_in l y ≡ true) (then_part x) h in
      let l : stands_in (s.edges x) y ≡ true = part_listed s.node s.edges s.frozen x y p in
      let m = open_mode sizes node s.edges frozen x y c (then_open x o) l in
      handed_split (λ (u : Node). u.mode ≡ Spent) s v y
      (λ ne. ⊎_elim (λ (linked : (node y).mode ≡ Linked). dite (ℕ_discrete x v)
      (λ same. absurd (ne (subst (λ (z : ℕ). stands_in (frozen_part s z) y ≡ true) same p) (g.mode y ∙ linked)))
      (λ other. let t = c.handed x y (then_open x o)
      (subst (λ (l : List ℕ). stands_in l y ≡ true) (part_else x other) p)
      in absurd (cc)))
      (λ (spent : (node y).mode ≡ Spent). g.mode y ∙ spent) m)
      (λ _ _. refl)

  then_linked : (x y : ℕ) → IsOpenList sizes then s.edges s.frozen x → stands_in (s.edges x) y ≡ true → stands_in
      (part_of then s.edges s.frozen x)
      y ≡ false → (then y).mode ≡ Linked
  then_linked x y o h f =
      let p : stands_in (frozen_part s x) y ≡ false = subst (λ (l : List ℕ). stands_in l y ≡ false) (then_part x) f in
      let before : stands_in (part_of node s.edges frozen x) y ≡ false = yes_no
      (stands_in (part_of node s.edges frozen x) y ≡ false) (stands_in (part_of node s.edges frozen x) y)
      (λ t. let u = part_more x y t in absurd (cc)) (λ e. e) in
      let m : (node y).mode ≡ Linked = c.linked x y (then_open x o) h before in
      handed_split (λ (u : Node). u.mode ≡ Linked) s v y (λ _. g.mode y ∙ m)
      (λ at _. dite (ℕ_discrete x v) (λ same. let u : stands_in (frozen_part s x) y ≡ true = subst
      (λ (z : ℕ). stands_in (frozen_part s z) y ≡ true) (sym same) at in absurd (cc))
      (λ other. absurd (not_here x y other h at)))

  -- a linked edge isn't on a list that is frozen to its end now
  then_unfinished : (x y : ℕ) → IsOpenList sizes node s.edges frozen x → stands_in (s.edges x) y ≡ true →
      (then y).mode ≡ Linked → IsFinished then s.edges s.frozen x → ⊥
  then_unfinished x y o h l f = dite (ℕ_discrete x v)
      (λ same.
      let all : stands_in (take_while (λ z. (s.node z).marked) (s.edges x)) y ≡ true =
      part_all (λ z. (s.node z).marked) y
      (s.edges x) (λ z t. sym (then_is z).marked ∙ f.each z t) h in
      let p : stands_in (frozen_part s x) y ≡ true =
      subst (λ (b : Bool). stands_in (cond b (take_while (λ z. (s.node z).marked) (s.edges x)) [])
      y ≡ true) (sym f.head) all in
      handed_split (λ (u : Node). u.mode ≡ Linked → ⊥) s v y (λ ne m. ne
      (subst (λ (z : ℕ). stands_in (frozen_part s z) y ≡ true) same p) m) (λ _ _ m. absurd (cc)) l)
      (λ other. o.unfinished (record {
        head = sym (g.head_else x other) ∙ f.head;
        each = λ z t. sym
            (g.marked_else x z other t) ∙ (sym (then_is z).marked ∙ f.each z t);
      }))

  then_at : (y : ℕ) → y < sizes.nodes → (then y).mode ≡ Linked → (then y).vertex ≡ false
      → IsOnSource sizes then s.edges s.frozen y
  then_at y t l e =
      let d = c.source y t (sym (g.mode y) ∙ (then_is y).linked l) (sym (then_vertex y) ∙ e) in
      let p : (then y).source.index ≡ (node y).source.index = ap (λ (z : Life). z.index) (then_source y) in
      let o : IsOpenList sizes then s.edges s.frozen (node y).source.index = record {
        there = d.list.there;
        used = then_still (node y).source.index d.list.used;
        vertex = then_vertex
            (node y).source.index ∙ d.list.vertex;
        unfinished = then_unfinished (node y).source.index y d.list d.on l;
      } in
      record {
        list = subst (IsOpenList sizes then s.edges s.frozen) (sym p) o;
        life = ap (λ (z : Life). z.tag) (then_source y) ∙ (d.life ∙
            (sym (then_tag (node y).source.index) ∙ ap (λ (z : ℕ). (then z).tag) (sym p)));
        on = subst (λ (z : ℕ). stands_in (s.edges z) y ≡ true) (sym p) d.on;
      }

  -- the lists hold what they held
  pub handed_over : Listing sizes (handed v s).node s.edges s.frozen
  handed_over = record {
    on = λ x y h. let d = c.on x y h in record {
      there = d.there;
      edge = then_vertex y ∙ d.edge;
      unfresh = λ f. d.unfresh (sym (g.mode y) ∙ (then_is y).fresh f);
      index = ap (λ (z : Life). z.index) (then_source y) ∙ d.index;
      life = ap (λ (z : Life). z.tag) (then_source y) ∙ (d.life ∙ sym (then_tag x));
    };
    empty = λ x f. c.empty x (sym (g.mode x) ∙ (then_is x).fresh f);
    handed = then_handed;
    linked = then_linked;
    unstored = λ x o. (then_is x).stored ∙ (g.stored x ∙ c.unstored x (then_open x o));
    held = λ x y o h. (then_is y).stored ∙ (g.stored y ∙ c.held x y (then_open x o) h);
    source = then_at;
  }
