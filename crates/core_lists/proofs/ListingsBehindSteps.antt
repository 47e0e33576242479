-- What single steps do to the lists of edges: a node is taken, a marked edge leaves its list, and a fresh edge joins
-- one.
use Rattle.std.proofs.Common.{◌≡◌, ◌≢◌, ◌⊎◌, ℕ, ◌<◌, List, [], Bool, true, false, cond, refl, sym, ap, ◌∙◌, subst, inl}
use Rattle.std.proofs.Common.{inr, ⊎_elim}
use Rattle.std.specs.Prelude.{take_while}
use mathlib.Core.Logic.{dite}
use native.Mathlib.Decide.{ℕ_discrete}
use Rattle.graph_kinds.specs.Levels.{stands_in}
use Rattle.packed_link.specs.Layout.{Sizes, link_at, second_at}
use Rattle.core_journal.specs.State.{Free, Fresh, Linked, Spent, Node, put, linked_in, unlinked_from}
use Rattle.core_kept.specs.Nodes.{IsUsed}
use Rattle.core_kept.proofs.ByKind.{put_case, put_same, put_other}
use Rattle.core_kept.proofs.LinkWords.{taken}
use Rattle.core_kept.proofs.NodesOnLists.{unlinked_was, unlinked_keeps, unlinked_none, IsWordOf, linked_was}
use Rattle.core_kept.proofs.NodesOnLists.{linked_keeps, linked_joins, linked_none, part_unlinked, part_linked}
use Rattle.core_kept.proofs.NodesOnLists.{part_same, yes_no}
use Rattle.core_lists.proofs.ListHolds.{part_of, IsEdgeOn, IsFinished, IsOpenList, IsOnSource, Listing, part_listed}
use Rattle.core_lists.proofs.ListHolds.{open_mode}

-- a node is taken: it leaves the lists, and has an empty one
module _ (sizes : Sizes) (node : ℕ → Node) (edges : ℕ → List ℕ) (frozen : ℕ → Bool)
    (c : Listing sizes node edges frozen) (i : ℕ) (v : Node) (free : (node i).mode ≡ Free)
    (fresh : v.mode ≡ Fresh) where
  abbrev popped : ℕ → List ℕ
  popped x = put i [] (λ y. unlinked_from i (edges y)) x

  abbrev reopened : ℕ → Bool
  reopened x = put i false frozen x

  pub popped_was : (x y : ℕ) → stands_in (popped x) y ≡ true → (x ≢ i) × (stands_in (edges x) y ≡ true) × (y ≢ i)
  popped_was x y h = put_case (λ (l : List ℕ). stands_in l y ≡ true → (x ≢ i) × (stands_in (edges x) y ≡ true) ×
      (y ≢ i)) i []
      (λ y. unlinked_from i (edges y)) x
      (λ _ t. absurd (cc)) (λ ne t. let r = unlinked_was i y (edges x) t in (ne, r.0, r.1)) h

  popped_node : (x : ℕ) → x ≢ i → put i v node x ≡ node x
  popped_node x ne = put_other i v node x ne

  not_free : (x : ℕ) → IsUsed (node x).mode → x ≢ i
  not_free x u same = subst IsUsed (ap (λ (y : ℕ). (node y).mode) same ∙ free) u

  not_fresh : (x : ℕ) → IsUsed (put i v node x).mode → x ≢ i
  not_fresh x u same = subst IsUsed (ap (λ (y : ℕ). (put i v node y).mode) same ∙
      (ap (λ (n : Node). n.mode) (put_same i v node) ∙ fresh)) u

  -- a list that isn't frozen to its end doesn't have the node
  pub popped_not : (x : ℕ) → IsOpenList sizes node edges frozen x → stands_in (edges x) i ≡ false
  popped_not x o = yes_no (stands_in (edges x) i ≡ false) (stands_in (edges x) i)
      (λ t. ⊎_elim (λ (l : (node i).mode ≡ Linked). absurd (cc)) (λ (l : (node i).mode ≡ Spent). absurd (cc))
      (open_mode sizes node edges frozen x i c o t)) (λ f. f)

  pub popped_list : (x : ℕ) → IsOpenList sizes node edges frozen x → popped x ≡ edges x
  popped_list x o = put_other i [] (λ y. unlinked_from i (edges y)) x (not_free x o.used) ∙ unlinked_none i (edges x)
      (popped_not x o)

  pub popped_finished : (x : ℕ) → x ≢ i → IsFinished node edges frozen x → IsFinished (put i v node) popped reopened x
  popped_finished x ne f = record {
    head = put_other i false frozen x ne ∙ f.head;
    each = λ y h. let r = popped_was x y h in ap (λ (n : Node). n.marked) (popped_node y r.2) ∙ f.each y r.1;
  }

  pub popped_open : (x : ℕ) → IsOpenList sizes (put i v node) popped reopened x → IsOpenList sizes node edges frozen x
  popped_open x o =
      let ne = not_fresh x o.used in
      record {
        there = o.there;
        used = subst (λ (n : Node). IsUsed n.mode) (popped_node x ne) o.used;
        vertex = ap
            (λ (n : Node). n.vertex) (sym (popped_node x ne)) ∙ o.vertex;
        unfinished = λ f. o.unfinished
            (popped_finished x ne f);
      }

  popped_still : (x : ℕ) → IsOpenList sizes node edges frozen x → IsOpenList sizes (put i v node) popped reopened x
  popped_still x o =
      let ne = not_free x o.used in
      record {
        there = o.there;
        used = subst (λ (n : Node). IsUsed n.mode) (sym (popped_node x ne)) o.used;
        vertex = ap (λ (n : Node). n.vertex) (popped_node x ne) ∙ o.vertex;
        unfinished = λ f. o.unfinished (record {
          head = sym (put_other i false frozen x ne) ∙ f.head;
          each = λ y h.
              let other : y ≢ i = λ same. let t : stands_in (edges x) i ≡ true = subst
              (λ (z : ℕ). stands_in (edges x) z ≡ true) same h in let n = popped_not x o in absurd (cc) in
              ap (λ (n : Node). n.marked) (sym (popped_node y other)) ∙ f.each y
              (subst (λ (l : List ℕ). stands_in l y ≡ true) (sym (popped_list x o)) h);
        });
      }

  popped_part : (x : ℕ) → IsOpenList sizes node edges frozen x → part_of
      (put i v node) popped reopened x ≡ part_of node edges frozen x
  popped_part x o =
      ap (λ (b : Bool). cond b (take_while (λ y. (put i v node y).marked) (popped x)) [])
      (put_other i false frozen x (not_free x o.used))
      ∙ (ap (λ (l : List ℕ). cond (frozen x) (take_while (λ y. (put i v node y).marked) l) []) (popped_list x o)
      ∙ ap (λ (l : List ℕ). cond (frozen x) l []) (part_same (λ y. (put i v node y).marked) (λ y. (node y).marked)
      (edges x)
      (λ y h. ap (λ (n : Node). n.marked) (popped_node y (λ same. let t : stands_in (edges x) i ≡ true = subst
      (λ (z : ℕ). stands_in (edges x) z ≡ true) same h in let n = popped_not x o in absurd (cc))))))

  popped_source : (y : ℕ) → y < sizes.nodes → (put i v node y).mode ≡ Linked → (put i v node y).vertex ≡ false
      → IsOnSource sizes (put i v node) popped reopened y
  popped_source y t l e =
      let ne : y ≢ i = not_fresh y (subst IsUsed (sym l) tt) in
      let same : put i v node y ≡ node y = popped_node y ne in
      let d = c.source y t (ap (λ (n : Node). n.mode) (sym same) ∙ l) (ap (λ (n : Node). n.vertex) (sym same) ∙ e) in
      let apart : (node y).source.index ≢ i = not_free (node y).source.index d.list.used in
      subst (λ (n : Node). IsOpenList sizes (put i v node) popped reopened n.source.index ×
      (n.source.tag ≡ (put i v node n.source.index).tag) × (stands_in (popped n.source.index) y ≡ true)
      → IsOnSource sizes (put i v node) popped reopened y) same
      (λ q. record { list = q.0; life = q.1; on = q.2 }) (
        popped_still (node y).source.index d.list,
        d.life ∙ ap (λ (n : Node). n.tag)
            (sym (popped_node (node y).source.index apart)),
        subst (λ (l : List ℕ). stands_in l y ≡ true)
            (sym (popped_list (node y).source.index d.list)) d.on,
      )

  pub popped_listing : Listing sizes (put i v node) popped reopened
  popped_listing = record {
    on = λ x y h.
        let r = popped_was x y h in
        let d = c.on x y r.1 in
        let same : put i v node y ≡ node y = popped_node y r.2 in record {
          there = d.there;
          edge = ap (λ (n : Node). n.vertex) same ∙ d.edge;
          unfresh = λ f. d.unfresh (ap (λ (n : Node). n.mode) (sym same) ∙ f);
          index = ap (λ (n : Node). n.source.index) same ∙ d.index;
          life = ap (λ (n : Node). n.source.tag) same ∙ (d.life ∙ ap (λ (n : Node). n.tag) (sym (popped_node x r.0)));
        };
    empty = λ x. put_case (λ (l : List ℕ). (put i v node x).mode ≡ Fresh → l ≡ []) i []
        (λ y. unlinked_from i (edges y)) x (λ _ _. refl)
        (λ ne f. ap (unlinked_from i) (c.empty x (ap (λ (n : Node). n.mode) (sym (popped_node x ne)) ∙ f)));
    handed = λ x y o h.
        let b = popped_open x o in
        let p : stands_in (part_of node edges frozen x) y ≡ true = subst (λ (l : List ℕ). stands_in l y ≡ true)
        (popped_part x b) h in
        let r = popped_was x y (part_listed (put i v node) popped reopened x y h) in
        ap (λ (n : Node). n.mode) (popped_node y r.2) ∙ c.handed x y b p;
    linked = λ x y o h f.
        let b = popped_open x o in
        let r = popped_was x y h in
        ap (λ (n : Node). n.mode) (popped_node y r.2) ∙ c.linked x y b r.1
        (subst (λ (l : List ℕ). stands_in l y ≡ false) (popped_part x b) f);
    unstored = λ x o. ap (λ (n : Node). n.stored) (popped_node x (not_fresh x o.used)) ∙ c.unstored x (popped_open x o);
    held = λ x y o h. let r = popped_was x y h in ap (λ (n : Node). n.stored) (popped_node y r.2) ∙ c.held x y
        (popped_open x o) r.1;
    source = popped_source;
  }

-- a marked edge that is linked leaves its list
module _ (sizes : Sizes) (node : ℕ → Node) (edges : ℕ → List ℕ) (frozen : ℕ → Bool)
    (c : Listing sizes node edges frozen) (i : ℕ) (v : Node)
    (linked : (node i).mode ≡ Linked) (edge : (node i).vertex ≡ false) (marked : (node i).marked ≡ true)
    (spent : v.mode ≡ Spent) (tag : v.tag ≡ (node i).tag) (vertex : v.vertex ≡ false) (mark : v.marked ≡ true) where
  abbrev cut : ℕ → List ℕ
  cut x = unlinked_from i (edges x)

  cut_node : (y : ℕ) → y ≢ i → put i v node y ≡ node y
  cut_node y ne = put_other i v node y ne

  cut_tag : (x : ℕ) → (put i v node x).tag ≡ (node x).tag
  cut_tag x = put_case (λ (u : Node). u.tag ≡ (node x).tag) i v node x
      (λ same. tag ∙ ap (λ (y : ℕ). (node y).tag) (sym same)) (λ _. refl)

  cut_mark : (x : ℕ) → (put i v node x).marked ≡ (node x).marked
  cut_mark x = put_case (λ (u : Node). u.marked ≡ (node x).marked) i v node x
      (λ same. mark ∙ (sym marked ∙ ap (λ (y : ℕ). (node y).marked) (sym same))) (λ _. refl)

  not_vertex : (x : ℕ) → (node x).vertex ≡ true → x ≢ i
  not_vertex x t same = let u : (node x).vertex ≡ false = ap (λ (y : ℕ). (node y).vertex) same ∙ edge in absurd (cc)

  now_vertex : (x : ℕ) → (put i v node x).vertex ≡ true → x ≢ i
  now_vertex x t same = let u : (put i v node x).vertex ≡ false = ap (λ (y : ℕ). (put i v node y).vertex) same ∙
      (ap (λ (n : Node). n.vertex) (put_same i v node) ∙ vertex) in absurd (cc)

  pub cut_finished : (x : ℕ) → IsFinished node edges frozen x → IsFinished (put i v node) cut frozen x
  cut_finished x f = record { head = f.head; each = λ y h. cut_mark y ∙ f.each y (unlinked_was i y (edges x) h).0 }

  finished_cut : (x : ℕ) → IsFinished (put i v node) cut frozen x → IsFinished node edges frozen x
  finished_cut x f = record {
    head = f.head;
    each = λ y h. dite (ℕ_discrete y i) (λ same. ap (λ (z : ℕ). (node z).marked) same ∙ marked)
        (λ ne. sym (cut_mark y) ∙ f.each y (unlinked_keeps i y (edges x) h ne));
  }

  pub cut_open : (x : ℕ) → IsOpenList sizes (put i v node) cut frozen x → IsOpenList sizes node edges frozen x
  cut_open x o =
      let same = cut_node x (now_vertex x o.vertex) in
      record {
        there = o.there;
        used = subst (λ (n : Node). IsUsed n.mode) same o.used;
        vertex = ap
            (λ (n : Node). n.vertex) (sym same) ∙ o.vertex;
        unfinished = λ f. o.unfinished (cut_finished x f);
      }

  cut_still : (x : ℕ) → IsOpenList sizes node edges frozen x → IsOpenList sizes (put i v node) cut frozen x
  cut_still x o =
      let same = cut_node x (not_vertex x o.vertex) in
      record {
        there = o.there;
        used = subst (λ (n : Node). IsUsed n.mode) (sym same) o.used;
        vertex = ap
            (λ (n : Node). n.vertex) same ∙ o.vertex;
        unfinished = λ f. o.unfinished (finished_cut x f);
      }

  cut_part : (x : ℕ) → IsOpenList sizes node edges frozen x → part_of
      (put i v node) cut frozen x ≡ part_of node edges frozen x
  cut_part x o = ap (λ (l : List ℕ). cond (frozen x) l []) (part_same (λ y. (put i v node y).marked)
      (λ y. (node y).marked) (cut x) (λ y _. cut_mark y)) ∙ by (frozen x) (c.handed x i o)
    where
      by : (b : Bool) → (stands_in (cond b (take_while (λ y. (node y).marked) (edges x)) []) i ≡ true →
          (node i).mode ≡ Spent) → cond b (take_while (λ y. (node y).marked) (cut x)) [] ≡ cond b
          (take_while (λ y. (node y).marked) (edges x)) []
      by true h = part_unlinked (λ y. (node y).marked) i (edges x) marked
          (yes_no (stands_in (take_while (λ y. (node y).marked) (edges x)) i ≡ false)
          (stands_in (take_while (λ y. (node y).marked) (edges x)) i) (λ t. let s = h t in absurd (cc)) (λ f. f))
      by false h = refl

  cut_source : (y : ℕ) → y < sizes.nodes → (put i v node y).mode ≡ Linked → (put i v node y).vertex ≡ false
      → IsOnSource sizes (put i v node) cut frozen y
  cut_source y t l e =
      let ne : y ≢ i = λ same. let u : (put i v node y).mode ≡ Spent = ap (λ (z : ℕ). (put i v node z).mode) same ∙
      (ap (λ (n : Node). n.mode) (put_same i v node) ∙ spent) in absurd (cc) in
      let same : put i v node y ≡ node y = cut_node y ne in
      let d = c.source y t (ap (λ (n : Node). n.mode) (sym same) ∙ l) (ap (λ (n : Node). n.vertex) (sym same) ∙ e) in
      subst (λ (n : Node). IsOpenList sizes (put i v node) cut frozen n.source.index ×
      (n.source.tag ≡ (put i v node n.source.index).tag) × (stands_in (cut n.source.index) y ≡ true) → IsOnSource sizes
      (put i v node) cut frozen y) same
      (λ q. record { list = q.0; life = q.1; on = q.2 }) (
        cut_still (node y).source.index d.list,
        d.life ∙ sym (cut_tag (node y).source.index),
        unlinked_keeps i y
            (edges (node y).source.index) d.on ne,
      )

  pub cut_listing : Listing sizes (put i v node) cut frozen
  cut_listing = record {
    on = λ x y h.
        let r = unlinked_was i y (edges x) h in
        let d = c.on x y r.0 in
        let same : put i v node y ≡ node y = cut_node y r.1 in record {
          there = d.there;
          edge = ap (λ (n : Node). n.vertex) same ∙ d.edge;
          unfresh = λ f. d.unfresh (ap (λ (n : Node). n.mode) (sym same) ∙ f);
          index = ap (λ (n : Node). n.source.index) same ∙ d.index;
          life = ap (λ (n : Node). n.source.tag) same ∙ (d.life ∙ sym (cut_tag x));
        };
    empty = λ x. put_case (λ (u : Node). u.mode ≡ Fresh → cut x ≡ []) i v node x (λ _ f. absurd (cc))
        (λ _ f. ap (unlinked_from i) (c.empty x f));
    handed = λ x y o h.
        let p : stands_in (part_of node edges frozen x) y ≡ true = subst (λ (l : List ℕ). stands_in l y ≡ true)
        (cut_part x (cut_open x o)) h in
        put_case (λ (u : Node). u.mode ≡ Spent) i v node y (λ _. spent) (λ _. c.handed x y (cut_open x o) p);
    linked = λ x y o h f.
        let r = unlinked_was i y (edges x) h in
        ap (λ (n : Node). n.mode) (cut_node y r.1) ∙ c.linked x y (cut_open x o) r.0
        (subst (λ (l : List ℕ). stands_in l y ≡ false) (cut_part x (cut_open x o)) f);
    unstored = λ x o. ap (λ (n : Node). n.stored) (cut_node x (now_vertex x o.vertex)) ∙ c.unstored x (cut_open x o);
    held = λ x y o h. let r = unlinked_was i y (edges x) h in ap (λ (n : Node). n.stored) (cut_node y r.1) ∙ c.held x y
        (cut_open x o) r.0;
    source = cut_source;
  }

-- a fresh edge joins the list of its source
module _ (sizes : Sizes) (node : ℕ → Node) (edges : ℕ → List ℕ) (frozen : ℕ → Bool)
    (c : Listing sizes node edges frozen) (i place : ℕ) (v : Node)
    (there : i < sizes.nodes) (fresh : (node i).mode ≡ Fresh) (linked : v.mode ≡ Linked) (edge : v.vertex ≡ false)
    (tag : v.tag ≡ (node i).tag) (mark : v.marked ≡ (node i).marked) (stored : v.stored ≡ false)
    (used : IsUsed (node v.source.index).mode) (vertex : (node v.source.index).vertex ≡ true)
    (inside : v.source.index < sizes.nodes) (life : v.source.tag ≡ (node v.source.index).tag)
    (word : IsWordOf sizes (second_at sizes v.source.index) place (edges v.source.index))
    (only : (x : ℕ) → IsWordOf sizes (second_at sizes x) place (edges x) → x ≡ v.source.index)
    (head : place ≡ second_at sizes v.source.index → frozen v.source.index ≡ false)
    (unmarked : (z : ℕ) → place ≡ link_at sizes z → (node z).marked ≡ false) where
  abbrev joined_list : ℕ → List ℕ
  joined_list x = linked_in sizes (second_at sizes x) place i (edges x)

  join_node : (y : ℕ) → y ≢ i → put i v node y ≡ node y
  join_node y ne = put_other i v node y ne

  join_tag : (x : ℕ) → (put i v node x).tag ≡ (node x).tag
  join_tag x = put_case (λ (u : Node). u.tag ≡ (node x).tag) i v node x
      (λ same. tag ∙ ap (λ (y : ℕ). (node y).tag) (sym same)) (λ _. refl)

  join_mark : (x : ℕ) → (put i v node x).marked ≡ (node x).marked
  join_mark x = put_case (λ (u : Node). u.marked ≡ (node x).marked) i v node x
      (λ same. mark ∙ ap (λ (y : ℕ). (node y).marked) (sym same)) (λ _. refl)

  not_new : (x y : ℕ) → stands_in (edges x) y ≡ true → y ≢ i
  not_new x y h same = (c.on x y h).unfresh (ap (λ (z : ℕ). (node z).mode) same ∙ fresh)

  is_used : (x : ℕ) → IsUsed (node x).mode → x ≢ i
  is_used x u same = subst IsUsed (ap (λ (z : ℕ). (node z).mode) same ∙ fresh) u

  now_vertex' : (x : ℕ) → (put i v node x).vertex ≡ true → x ≢ i
  now_vertex' x t same = let u : (put i v node x).vertex ≡ false = ap (λ (y : ℕ). (put i v node y).vertex) same ∙
      (ap (λ (n : Node). n.vertex) (put_same i v node) ∙ edge) in absurd (cc)

  pub joined_else : (x : ℕ) → x ≢ v.source.index → joined_list x ≡ edges x
  joined_else x ne = linked_none sizes (second_at sizes x) place i (edges x) (λ at. ne (only x at))

  pub joined_was : (x y : ℕ) → stands_in (joined_list x) y ≡ true → ((stands_in (edges x) y ≡ true) × (y ≢ i)) ⊎
      ((y ≡ i) × (x ≡ v.source.index))
  joined_was x y h = ⊎_elim (λ (t : stands_in (edges x) y ≡ true). inl (t, not_new x y t))
      (λ (t : (y ≡ i) × IsWordOf sizes (second_at sizes x) place (edges x)). inr (t.0, only x t.1))
      (linked_was sizes (second_at sizes x) place i y (edges x) h)

  -- the list of the source isn't frozen to its end
  pub source_unfinished : IsFinished node edges frozen v.source.index → ⊥
  source_unfinished f = ⊎_elim
      (λ (at : place ≡ second_at sizes v.source.index). let t = head at in let u = f.head in absurd (cc))
      (λ (at : (z : ℕ) × (stands_in (edges v.source.index) z ≡ true) × (place ≡ link_at sizes z)). let t = unmarked at.0
      at.2 in let u = f.each at.0 at.1 in absurd (cc)) word

  pub join_finished : (x : ℕ) → IsFinished node edges frozen x → IsFinished (put i v node) joined_list frozen x
  join_finished x f = record {
    head = f.head;
    each = λ y h. join_mark y ∙ ⊎_elim (λ (t : (stands_in (edges x) y ≡ true) × (y ≢ i)). f.each y t.0)
        (λ (t : (y ≡ i) × (x ≡ v.source.index)). absurd (source_unfinished
        (subst (IsFinished node edges frozen) t.1 f))) (joined_was x y h);
  }

  finished_join : (x : ℕ) → IsFinished (put i v node) joined_list frozen x → IsFinished node edges frozen x
  finished_join x f = record {
    head = f.head;
    each = λ y h. sym (join_mark y) ∙ f.each y
        (linked_keeps sizes (second_at sizes x) place i y (edges x) h);
  }

  pub join_open : (x : ℕ) → IsOpenList sizes (put i v node) joined_list frozen x → IsOpenList sizes node edges frozen x
  join_open x o =
      let same = join_node x (now_vertex' x o.vertex) in
      record {
        there = o.there;
        used = subst (λ (n : Node). IsUsed n.mode) same o.used;
        vertex = ap
            (λ (n : Node). n.vertex) (sym same) ∙ o.vertex;
        unfinished = λ f. o.unfinished (join_finished x f);
      }

  join_still : (x : ℕ) → IsOpenList sizes node edges frozen x → IsOpenList sizes (put i v node) joined_list frozen x
  join_still x o =
      let same = join_node x (is_used x o.used) in
      record {
        there = o.there;
        used = subst (λ (n : Node). IsUsed n.mode) (sym same) o.used;
        vertex = ap
            (λ (n : Node). n.vertex) same ∙ o.vertex;
        unfinished = λ f. o.unfinished (finished_join x f);
      }

  join_part : (x : ℕ) → part_of (put i v node) joined_list frozen x ≡ part_of node edges frozen x
  join_part x = ap (λ (l : List ℕ). cond (frozen x) l []) (part_same (λ y. (put i v node y).marked)
      (λ y. (node y).marked) (joined_list x) (λ y _. join_mark y))
      ∙ dite (ℕ_discrete x v.source.index)
      (λ same. by (frozen x) (λ at. ap frozen same ∙ head (at ∙ ap (second_at sizes) same)))
      (λ ne. ap (λ (l : List ℕ). cond (frozen x) (take_while (λ y. (node y).marked) l) []) (joined_else x ne))
    where
      by : (b : Bool) → (place ≡ second_at sizes x → b ≡ false) → cond b
          (take_while (λ y. (node y).marked) (joined_list x)) [] ≡ cond b (take_while (λ y. (node y).marked) (edges x))
          []
      by true h = part_linked (λ y. (node y).marked) sizes (second_at sizes x) place i (edges x)
          (λ at. let t = h at in absurd (cc)) (λ z _ at. unmarked z at)
      by false h = refl

  join_source : (y : ℕ) → y < sizes.nodes → (put i v node y).mode ≡ Linked → (put i v node y).vertex ≡ false
      → IsOnSource sizes (put i v node) joined_list frozen y
  join_source y t l e = dite (ℕ_discrete y i)
      (λ same. build v (ap (put i v node) same ∙ put_same i v node) (
        join_still v.source.index (record {
          there = inside;
          used = used;
          vertex = vertex;
          unfinished = source_unfinished;
        }),
        life ∙ sym (join_tag v.source.index),
        subst (λ (z : ℕ). stands_in (joined_list v.source.index) z ≡ true) (sym same)
            (linked_joins sizes (second_at sizes v.source.index) place i (edges v.source.index) word),
      ))
      (λ ne.
      let same : put i v node y ≡ node y = join_node y ne in
      let d = c.source y t (ap (λ (n : Node). n.mode) (sym same) ∙ l) (ap (λ (n : Node). n.vertex) (sym same) ∙ e) in
      build (node y) same (
        join_still (node y).source.index d.list,
        d.life ∙ sym
            (join_tag (node y).source.index),
        linked_keeps sizes (second_at sizes (node y).source.index) place i y
            (edges (node y).source.index) d.on,
      ))
    where
      build : (n : Node) → put i v node y ≡ n → IsOpenList sizes (put i v node) joined_list frozen n.source.index ×
          (n.source.tag ≡ (put i v node n.source.index).tag) × (stands_in (joined_list n.source.index) y ≡ true)
          → IsOnSource sizes (put i v node) joined_list frozen y
      build n same q = subst (λ (n : Node). IsOpenList sizes (put i v node) joined_list frozen n.source.index ×
          (n.source.tag ≡ (put i v node n.source.index).tag) × (stands_in (joined_list n.source.index) y ≡ true)
          → IsOnSource sizes (put i v node) joined_list frozen y) same
          (λ q. record { list = q.0; life = q.1; on = q.2 }) q

  join_on : (x y : ℕ) → stands_in (joined_list x) y ≡ true → IsEdgeOn sizes (put i v node) x y
  join_on x y h = ⊎_elim
      (λ (t : (stands_in (edges x) y ≡ true) × (y ≢ i)).
      let d = c.on x y t.0 in
      let same : put i v node y ≡ node y = join_node y t.1 in record {
        there = d.there;
        edge = ap (λ (n : Node). n.vertex) same ∙ d.edge;
        unfresh = λ f. d.unfresh (ap (λ (n : Node). n.mode) (sym same) ∙ f);
        index = ap (λ (n : Node). n.source.index) same ∙ d.index;
        life = ap (λ (n : Node). n.source.tag) same ∙ (d.life ∙ sym (join_tag x));
      })
      (λ (t : (y ≡ i) × (x ≡ v.source.index)).
      let same : put i v node y ≡ v = ap (put i v node) t.0 ∙ put_same i v node in record {
        there = subst (λ (z : ℕ). z < sizes.nodes) (sym t.0) there;
        edge = ap (λ (n : Node). n.vertex) same ∙ edge;
        unfresh = λ f. let m : (put i v node y).mode ≡ Linked = ap (λ (n : Node). n.mode) same ∙ linked in absurd (cc);
        index = ap (λ (n : Node). n.source.index) same ∙ sym t.1;
        life = ap (λ (n : Node). n.source.tag) same ∙ (life ∙
            (ap (λ (z : ℕ). (node z).tag) (sym t.1) ∙ sym (join_tag x)));
      })
      (joined_was x y h)

  pub join_listing : Listing sizes (put i v node) joined_list frozen
  join_listing = record {
    on = join_on;
    empty = λ x. put_case (λ (u : Node). u.mode ≡ Fresh → joined_list x ≡ []) i v node x (λ _ f. absurd (cc))
        (λ _ f. joined_else x (λ same. subst IsUsed (ap (λ (z : ℕ). (node z).mode) (sym same) ∙ f) used) ∙ c.empty x f);
    handed = λ x y o h.
        let p : stands_in (part_of node edges frozen x) y ≡ true = subst (λ (l : List ℕ). stands_in l y ≡ true)
        (join_part x) h in
        ap (λ (n : Node). n.mode) (join_node y (not_new x y (part_listed node edges frozen x y p))) ∙ c.handed x y
        (join_open x o) p;
    linked = λ x y o h f. ⊎_elim
        (λ (t : (stands_in (edges x) y ≡ true) × (y ≢ i)). ap (λ (n : Node). n.mode) (join_node y t.1) ∙ c.linked x y
        (join_open x o) t.0 (subst (λ (l : List ℕ). stands_in l y ≡ false) (join_part x) f))
        (λ (t : (y ≡ i) × (x ≡ v.source.index)). ap (λ (z : ℕ). (put i v node z).mode) t.0 ∙
        (ap (λ (n : Node). n.mode) (put_same i v node) ∙ linked))
        (joined_was x y h);
    unstored = λ x o. ap (λ (n : Node). n.stored) (join_node x (now_vertex' x o.vertex)) ∙ c.unstored x (join_open x o);
    held = λ x y o h. ⊎_elim
        (λ (t : (stands_in (edges x) y ≡ true) × (y ≢ i)). ap (λ (n : Node). n.stored) (join_node y t.1) ∙ c.held x y
        (join_open x o) t.0)
        (λ (t : (y ≡ i) × (x ≡ v.source.index)). ap (λ (z : ℕ). (put i v node z).stored) t.0 ∙
        (ap (λ (n : Node). n.stored) (put_same i v node) ∙ stored))
        (joined_was x y h);
    source = join_source;
  }

-- what an edge has that joins the list of its source
pub record IsJoining (sizes : Sizes) (node : ℕ → Node) (edges : ℕ → List ℕ) (frozen : ℕ → Bool) (i place : ℕ)
    (v : Node) : Type 0 where
  pub there : i < sizes.nodes
  pub fresh : (node i).mode ≡ Fresh
  pub linked : v.mode ≡ Linked
  pub edge : v.vertex ≡ false
  pub tag : v.tag ≡ (node i).tag
  pub mark : v.marked ≡ (node i).marked
  pub stored : v.stored ≡ false
  pub used : IsUsed (node v.source.index).mode
  pub vertex : (node v.source.index).vertex ≡ true
  pub inside : v.source.index < sizes.nodes
  pub life : v.source.tag ≡ (node v.source.index).tag
  pub word : IsWordOf sizes (second_at sizes v.source.index) place (edges v.source.index)
  pub only : (x : ℕ) → IsWordOf sizes (second_at sizes x) place (edges x) → x ≡ v.source.index
  pub head : place ≡ second_at sizes v.source.index → frozen v.source.index ≡ false
  pub unmarked : (z : ℕ) → place ≡ link_at sizes z → (node z).marked ≡ false

module _ (sizes : Sizes) (node : ℕ → Node) (edges : ℕ → List ℕ) (frozen : ℕ → Bool)
    (c : Listing sizes node edges frozen) (i place : ℕ) (v : Node)
    (j : IsJoining sizes node edges frozen i place v) where
  pub joins : Listing sizes (put i v node) (λ x. linked_in sizes (second_at sizes x) place i (edges x)) frozen
  joins = join_listing sizes node edges frozen c i place v j.there j.fresh j.linked j.edge j.tag j.mark j.stored j.used
      j.vertex j.inside j.life j.word j.only j.head j.unmarked

  pub joins_open : (x : ℕ) → IsOpenList sizes (put i v node) (λ x. linked_in sizes (second_at sizes x) place i
      (edges x)) frozen x → IsOpenList sizes node edges frozen x
  joins_open = join_open sizes node edges frozen c i place v j.there j.fresh j.linked j.edge j.tag j.mark j.stored
      j.used j.vertex j.inside j.life j.word j.only j.head j.unmarked

  pub joins_finished : (x : ℕ) → IsFinished node edges frozen x → IsFinished (put i v node)
      (λ x. linked_in sizes (second_at sizes x) place i (edges x)) frozen x
  joins_finished = join_finished sizes node edges frozen c i place v j.there j.fresh j.linked j.edge j.tag j.mark
      j.stored j.used j.vertex j.inside j.life j.word j.only j.head j.unmarked

  -- the list of the source isn't frozen to its end
  pub joins_unfinished : IsFinished node edges frozen v.source.index → ⊥
  joins_unfinished = source_unfinished sizes node edges frozen c i place v j.there j.fresh j.linked j.edge j.tag j.mark
      j.stored j.used j.vertex j.inside j.life j.word j.only j.head j.unmarked

pub marked_same : {A : Type 0} (f : Node → A) (node : ℕ → Node) (i y : ℕ) → f (record (node i) { marked = true }) ≡ f
    (node i) → f (put i (record (node i) { marked = true }) node y) ≡ f (node y)
marked_same f node i y h = put_case (λ (u : Node). f u ≡ f (node y)) i (record (node i) { marked = true }) node y
    (λ same. h ∙ ap (λ (z : ℕ). f (node z)) (sym same)) (λ _. refl)
