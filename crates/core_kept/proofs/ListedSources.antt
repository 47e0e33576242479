-- Each linked edge on the list of a vertex has that vertex, in its present life, as its source; and a list that is
-- closed was
-- closed in that life.
use Rattle.std.proofs.Common.{◌≡◌, ◌≢◌, ℕ, ◌⊎◌, Bool, true, false, cond, not, ◌&&◌, ◌||◌, List, [], ◌∷◌, ◌++◌, refl}
use Rattle.std.proofs.Common.{sym, ap, ◌∙◌, subst, arith, ⊎_elim, inl, inr, eqb-true, eq-eqb, ◌+◌}
use Rattle.std.specs.Prelude.{take_while, ◌==◌}
use Rattle.std.specs.List.{list_any}
use Rattle.std.proofs.lemmas.List.Sums.{take_while-cons}
use mathlib.Core.Logic.{dite}
use native.Mathlib.Decide.{ℕ_discrete}
use Rattle.packed_link.specs.Layout.{Sizes, IsLayout, link_at, second_at}
use Rattle.packed_link.specs.declared.link.Life.{Life}
use Rattle.core_journal.specs.declared.event.Kind.{Kind}
use Rattle.core_journal.specs.declared.event.Kind.TheVariants.{PopFree, LinkVertex, MarkVertex, UnlinkVertex, LinkEdge}
use Rattle.core_journal.specs.declared.event.Kind.TheVariants.{MarkEdge, UnlinkEdge, FreezeHead, FreezeEdge, StoreFree}
use Rattle.core_journal.specs.declared.event.Kind.TheVariants.{PushFree, ReplaceEdge}
use Rattle.core_journal.specs.declared.event.Event.{Event}
use Rattle.core_journal.specs.Event.{freezes_head, same_life}
use Rattle.core_journal.specs.Life.{head_frozen}
use Rattle.core_journal.specs.State.{Fresh, Linked, Spent, Node, State, put, put_behind, linked_in, unlinked_from}
use Rattle.core_journal.specs.State.{handed, frozen_part, joined_edge, state_by, state}
use Rattle.core_journal.proofs.Lists.{any_more}
use Rattle.core_journal.proofs.Snoc.{any_last, same_self}
use Rattle.core_kept.specs.Kept.{IsKept}
use Rattle.core_kept.specs.Nodes.{node_in}
use Rattle.core_kept.specs.Edges.{IsLinkEdge, IsReplaceEdge}
use Rattle.core_kept.proofs.ByKind.{KeepsIn, put_case, put_both, put_same, put_other, handed_case, marked_state}
use Rattle.core_kept.proofs.ByKind.{closed_state, all_in}
use Rattle.core_kept.proofs.PastLives.{same_tag}
use Rattle.core_kept.proofs.Named.{life_is}
use Rattle.core_kept.proofs.ReplaceCases.{new_edge_node}

-- a node stands on a list
abbrev pub On : List ℕ → ℕ → Type 0
On xs y = list_any (λ z. z == y) xs ≡ true

on_cases : (P : Type 0) (x y : ℕ) (xs : List ℕ) → (x ≡ y → P) → (On xs y → P) → On (x ∷ xs) y → P
on_cases P x y xs first later h = by (x == y) refl h
  where
    by : (b : Bool) → (x == y) ≡ b → (b || list_any (λ z. z == y) xs) ≡ true → P
    by true e h = first (eqb-true x y e)
    by false e h = later h

on_first : (x y : ℕ) (xs : List ℕ) → x ≡ y → On (x ∷ xs) y
on_first x y xs same = ap (λ (b : Bool). b || list_any (λ z. z == y) xs) (eq-eqb x y same)

on_later : (x y : ℕ) (xs : List ℕ) → On xs y → On (x ∷ xs) y
on_later x y xs h = ap (λ (b : Bool). (x == y) || b) h ∙ by (x == y)
  where
    by : (b : Bool) → (b || true) ≡ true
    by true = refl
    by false = refl

-- what stands on a list without a node
on_unlinked : (i y : ℕ) (xs : List ℕ) → On (unlinked_from i xs) y → On xs y × (y ≢ i)
on_unlinked i y [] h = absurd (cc)
on_unlinked i y (x ∷ xs) h = by (on_unlinked i y xs) (x == i) refl h
  where
    by : (On (unlinked_from i xs) y → On xs y × (y ≢ i)) → (b : Bool) → (x == i) ≡ b → On
        (cond (not b) (x ∷ unlinked_from i xs) (unlinked_from i xs)) y → On (x ∷ xs) y × (y ≢ i)
    by more true e h = let m = more h in (on_later x y xs m.0, m.1)
    by more false e h = on_cases (On (x ∷ xs) y × (y ≢ i)) x y (unlinked_from i xs)
        (λ same. (on_first x y xs same, λ is. let t : (x == i) ≡ true = eq-eqb x i (same ∙ is) in absurd (cc)))
        (λ later. let m = more later in (on_later x y xs m.0, m.1)) h

-- a node that another was put behind
record HasPredecessor (is : ℕ → Bool) (xs : List ℕ) : Type 0 where
  pub node : ℕ
  pub on : On xs node
  pub at : is node ≡ true

-- what stands on a list into which a node was put: that node, behind one that passes the test, or what stood there
on_behind : (is : ℕ → Bool) (i y : ℕ) (xs : List ℕ) → On (put_behind is i xs) y → ((y ≡ i) × HasPredecessor is xs) ⊎
    On xs y
on_behind is i y [] h = absurd (cc)
on_behind is i y (x ∷ xs) h = by (on_behind is i y xs) (is x) refl h
  where
    by : (On (put_behind is i xs) y → ((y ≡ i) × HasPredecessor is xs) ⊎ On xs y) → (b : Bool) → is x ≡ b → On
        (cond b (x ∷ i ∷ xs) (x ∷ put_behind is i xs)) y → ((y ≡ i) × HasPredecessor is (x ∷ xs)) ⊎ On (x ∷ xs) y
    by more true e h = on_cases (((y ≡ i) × HasPredecessor is (x ∷ xs)) ⊎ On (x ∷ xs) y) x y (i ∷ xs)
        (λ same. inr (on_first x y xs same))
        (λ later. on_cases (((y ≡ i) × HasPredecessor is (x ∷ xs)) ⊎ On (x ∷ xs) y) i y xs
        (λ new. inl (sym new, record { node = x; on = on_first x x xs refl; at = e }))
        (λ old. inr (on_later x y xs old)) later) h
    by more false e h = on_cases (((y ≡ i) × HasPredecessor is (x ∷ xs)) ⊎ On (x ∷ xs) y) x y (put_behind is i xs)
        (λ same. inr (on_first x y xs same))
        (λ later. ⊎_elim
        (λ (b : (y ≡ i) × HasPredecessor is xs). inl (
          b.0,
          record {
            node = b.1.node;
            on = on_later x b.1.node xs b.1.on;
            at =
                b.1.at;
          },
        ))
        (λ (old : On xs y). inr (on_later x y xs old)) (more later)) h

-- the same where it was put at the head, or behind the node whose link stands at the place
on_linked_in : (sizes : Sizes) (head place i y : ℕ) (xs : List ℕ) → On (linked_in sizes head place i xs) y →
    ((y ≡ i) × ((place ≡ head) ⊎ HasPredecessor (λ x. place == link_at sizes x) xs)) ⊎ On xs y
on_linked_in sizes head place i y xs h = by (place == head) refl h
  where
    by : (b : Bool) → (place == head) ≡ b → On (cond b (i ∷ xs) (put_behind (λ x. place == link_at sizes x) i xs)) y →
        ((y ≡ i) × ((place ≡ head) ⊎ HasPredecessor (λ x. place == link_at sizes x) xs)) ⊎ On xs y
    by true e h = on_cases (((y ≡ i) × ((place ≡ head) ⊎ HasPredecessor (λ x. place == link_at sizes x) xs)) ⊎ On xs y)
        i y xs
        (λ same. inl (sym same, inl (eqb-true place head e)))
        (λ later. inr later) h
    by false e h = ⊎_elim
        (λ (b : (y ≡ i) × HasPredecessor (λ x. place == link_at sizes x) xs). inl (b.0, inr b.1))
        (λ (old : On xs y). inr old) (on_behind (λ x. place == link_at sizes x) i y xs h)

-- the first part of a list
on_taken : (test : ℕ → Bool) (xs : List ℕ) (y : ℕ) → On (take_while test xs) y → On xs y
on_taken test [] y h = absurd (cc)
on_taken test (x ∷ xs) y h = by (on_taken test xs y) (test x)
    (subst (λ (l : List ℕ). On l y) (take_while-cons test x xs) h)
  where
    by : (On (take_while test xs) y → On xs y) → (b : Bool) → On (cond b (x ∷ take_while test xs) []) y → On (x ∷ xs) y
    by more true h = on_cases (On (x ∷ xs) y) x y (take_while test xs) (λ same. on_first x y xs same)
        (λ later. on_later x y xs (more later)) h
    by more false h = absurd (cc)

-- a node of a frozen part stands on the list, which is closed
pub part_on : (s : State) (x y : ℕ) → On (frozen_part s x) y → On (s.edges x) y × (s.frozen x ≡ true)
part_on s x y h = by (s.frozen x) refl h
  where
    by : (b : Bool) → s.frozen x ≡ b → On (cond b (take_while (λ y. (s.node y).marked) (s.edges x)) []) y → On
        (s.edges x) y × (s.frozen x ≡ true)
    by true e h = (on_taken (λ y. (s.node y).marked) (s.edges x) y h, e)
    by false e h = absurd (cc)

-- a node on the list of a vertex isn't fresh, and while it's linked it's an edge of that vertex
pub record IsEdgeOfList (s : State) (x y : ℕ) : Type 0 where
  pub fresh : (s.node y).mode ≢ Fresh
  pub edge : (s.node y).mode ≡ Linked → (s.node y).vertex ≡ false
  pub index : (s.node y).mode ≡ Linked → (s.node y).source.index ≡ x
  pub tag : (s.node y).mode ≡ Linked → (s.node y).source.tag ≡ (s.node x).tag

pub record Listed (s : State) : Type 0 where
  pub each : (x y : ℕ) → On (s.edges x) y → IsEdgeOfList s x y

-- a node says the same of its source
record IsSameSource (v v' : Node) : Type 0 where
  pub fresh : v'.mode ≡ Fresh → v.mode ≡ Fresh
  pub linked : v'.mode ≡ Linked → v.mode ≡ Linked
  pub vertex : v'.vertex ≡ v.vertex
  pub source : v'.source ≡ v.source

same_source : (v : Node) → IsSameSource v v
same_source v = record { fresh = λ m. m; linked = λ m. m; vertex = refl; source = refl }

-- where the lists get no longer, and each node that isn't fresh says the same of its source
listed_same : (s s' : State) → Listed s → ((x y : ℕ) → On (s'.edges x) y → On (s.edges x) y) →
    ((y : ℕ) → ((s.node y).mode ≡ Fresh) ⊎ IsSameSource (s.node y) (s'.node y)) →
    ((x : ℕ) → (s'.node x).tag ≡ (s.node x).tag) → Listed s'
listed_same s s' c fewer same tags = record {
  each = λ x y h.
      let l : IsEdgeOfList s x y = c.each x y (fewer x y h) in
      ⊎_elim (λ m. absurd (l.fresh m))
      (λ (n : IsSameSource (s.node y) (s'.node y)). record {
        fresh = λ m. l.fresh (n.fresh m);
        edge = λ m. n.vertex ∙ l.edge (n.linked m);
        index = λ m. ap (λ (z : Life). z.index) n.source ∙ l.index (n.linked m);
        tag = λ m. ap (λ (z : Life). z.tag) n.source ∙ (l.tag (n.linked m) ∙ sym (tags x));
      }) (same y);
}

marked_source : (v : Node) → IsSameSource v (record v { marked = true })
marked_source v = record { fresh = λ m. m; linked = λ m. m; vertex = refl; source = refl }

spent_source : (v : Node) (who ended epoch : ℕ) → IsSameSource v
    (record v { mode = Spent; who = who; ended = ended; epoch = epoch })
spent_source v who ended epoch = record {
  fresh = λ m. absurd (cc);
  linked = λ m. absurd
      (cc);
  vertex = refl;
  source = refl;
}

put_source : (s : State) (i : ℕ) (v : Node) (y : ℕ) → ((s.node i).mode ≡ Fresh) ⊎ IsSameSource (s.node i) v →
    ((s.node y).mode ≡ Fresh) ⊎ IsSameSource (s.node y) (put i v s.node y)
put_source s i v y h = put_case (λ (u : Node). ((s.node y).mode ≡ Fresh) ⊎ IsSameSource (s.node y) u) i v s.node y
    (λ same. subst (λ (j : ℕ). ((s.node j).mode ≡ Fresh) ⊎ IsSameSource (s.node j) v) (sym same) h)
    (λ _. inr (same_source (s.node y)))

handed_source : (s : State) (v : ℕ) (u : Node) (y : ℕ) → (u.mode ≡ Fresh) ⊎ IsSameSource u (s.node y) → (u.mode ≡ Fresh)
    ⊎ IsSameSource u ((handed v s).node y)
handed_source s v u y h = handed_case (λ (u' : Node). (u.mode ≡ Fresh) ⊎ IsSameSource u u') s v y h
    (λ m _ _. ⊎_elim (λ f. inl f) (λ (n : IsSameSource u (s.node y)). inr record
    { fresh = λ h. absurd (cc); linked = λ h. absurd (cc); vertex = n.vertex; source = n.source }) h)

-- a node that stays the same stands on the list of the same life
listed_at : (s s' : State) (x y : ℕ) → s'.node y ≡ s.node y → (s'.node x).tag ≡ (s.node x).tag → IsEdgeOfList s x y
    → IsEdgeOfList s' x y
listed_at s s' x y at tag l =
    let mode : (s'.node y).mode ≡ (s.node y).mode = ap (λ (u : Node). u.mode) at in
    record {
      fresh = λ m. l.fresh (sym mode ∙ m);
      edge = λ m. ap (λ (u : Node). u.vertex) at ∙ l.edge (sym mode ∙ m);
      index = λ m. ap (λ (u : Node). u.source.index) at ∙ l.index (sym mode ∙ m);
      tag = λ m. ap (λ (u : Node). u.source.tag) at ∙ (l.tag (sym mode ∙ m) ∙ sym tag);
    }

-- where a node is taken
listed_taken : (sizes : Sizes) (e : Event) (s : State) → Listed s → Listed (state_by PopFree sizes e s)
listed_taken sizes e s c =
    let v : Node = record (s.node e.life.index) {
      mode = Fresh;
      who = e.caller;
      tag = e.life.tag;
      marked = false;
      stored
          = false;
    } in
    record {
      each = λ x y. put_case (λ (xs : List ℕ). On xs y → IsEdgeOfList (state_by PopFree sizes e s) x y) e.life.index []
          (λ x. unlinked_from e.life.index (s.edges x)) x
          (λ _ h. absurd (cc))
          (λ ne h.
          let o = on_unlinked e.life.index y (s.edges x) h in
          listed_at s (state_by PopFree sizes e s) x y (put_other e.life.index v s.node y o.1)
          (ap (λ (u : Node). u.tag) (put_other e.life.index v s.node x ne)) (c.each x y o.0));
    }

-- where an edge is linked
listed_linked : (sizes : Sizes) (past : List Event) (e : Event) → IsLinkEdge sizes past e → Listed (state sizes past)
    → Listed (state_by LinkEdge sizes e (state sizes past))
listed_linked sizes past e ok c =
    let s : State = state sizes past in
    let v : Node = record (s.node e.life.index) {
      mode = Linked;
      vertex = false;
      key = e.key;
      source = e.source;
      target
          = e.target;
      weight = e.weight;
      since = s.count + 1;
    } in
    let tags : (x : ℕ) → (put e.life.index v s.node x).tag ≡ (s.node x).tag = same_tag LinkEdge tt sizes e s in
    let at : put e.life.index v s.node e.life.index ≡ v = put_same e.life.index v s.node in
    let here : (x : ℕ) → e.source.index ≡ x → IsEdgeOfList (state_by LinkEdge sizes e s) x e.life.index =
    λ x is. record {
      fresh = λ m. let t : Linked ≡ Fresh = sym (ap (λ (u : Node). u.mode) at) ∙ m in absurd (cc);
      edge = λ _. ap (λ (u : Node). u.vertex) at;
      index = λ _. ap (λ (u : Node). u.source.index) at ∙ is;
      tag = λ _. ap (λ (u : Node). u.source.tag) at ∙ (ok.source.life ∙
          (ap (λ (j : ℕ). (s.node j).tag) is ∙ sym (tags x)));
    } in
    let old : (x y : ℕ) → On (s.edges x) y → IsEdgeOfList (state_by LinkEdge sizes e s) x y = λ x y h.
    let l : IsEdgeOfList s x y = c.each x y h in
    dite (ℕ_discrete y e.life.index)
    (λ same. absurd (l.fresh (ap (λ (j : ℕ). (s.node j).mode) same ∙ ok.fresh.fresh)))
    (λ ne. listed_at s (state_by LinkEdge sizes e s) x y (put_other e.life.index v s.node y ne) (tags x) l) in
    record {
      each = λ x y h. ⊎_elim
          (λ (new : (y ≡ e.life.index) × ((e.place ≡ second_at sizes x) ⊎
          HasPredecessor (λ z. e.place == link_at sizes z)
          (s.edges x))).
          subst (λ (j : ℕ). IsEdgeOfList (state_by LinkEdge sizes e s) x j) (sym new.0) (here x (⊎_elim
          (λ (head : e.place ≡ second_at sizes x). ⊎_elim (λ p. omega (arith, head, p.0))
          (λ p. absurd (omega (arith, head, p.0))) ok.place)
          (λ (b : HasPredecessor (λ z. e.place == link_at sizes z) (s.edges x)).
          let from = ok.linked b.node (eqb-true e.place (link_at sizes b.node) b.at) in
          ap (λ (z : Life). z.index) (sym from.from) ∙ (c.each x b.node b.on).index from.linked.linked) new.1)))
          (λ (was : On (s.edges x) y). old x y was) (on_linked_in sizes (second_at sizes x) e.place e.life.index y
          (s.edges x) h);
    }

-- where an edge is linked that replaces another
listed_joined : (sizes : Sizes) (past : List Event) (e : Event) → IsReplaceEdge sizes past e → Listed (state sizes past)
    → Listed (joined_edge sizes e (state sizes past))
listed_joined sizes past e ok c =
    let s : State = state sizes past in
    let j : State = joined_edge sizes e s in
    let v : Node = new_edge_node (s.node e.life.index) e s.count in
    let tags : (x : ℕ) → (put e.life.index v s.node x).tag ≡ (s.node x).tag = same_tag LinkEdge tt sizes e s in
    let at : put e.life.index v s.node e.life.index ≡ v = put_same e.life.index v s.node in
    let here : (x : ℕ) → On (s.edges x) e.old.index → IsEdgeOfList j x e.life.index = λ x on.
    let l : IsEdgeOfList s x e.old.index = c.each x e.old.index on in
    record {
      fresh = λ m. let t : Linked ≡ Fresh = sym (ap (λ (u : Node). u.mode) at) ∙ m in absurd (cc);
      edge = λ _. ap (λ (u : Node). u.vertex) at;
      index = λ _. ap (λ (u : Node). u.source.index) at ∙ (ap (λ (z : Life). z.index) ok.source
          ∙ l.index ok.linked.linked);
      tag = λ _. ap (λ (u : Node). u.source.tag) at ∙ (ap (λ (z : Life). z.tag) ok.source ∙
          (l.tag ok.linked.linked ∙ sym (tags x)));
    } in
    let old : (x y : ℕ) → On (s.edges x) y → IsEdgeOfList j x y = λ x y h.
    let l : IsEdgeOfList s x y = c.each x y h in
    dite (ℕ_discrete y e.life.index)
    (λ same. absurd (l.fresh (ap (λ (i : ℕ). (s.node i).mode) same ∙ ok.fresh.fresh)))
    (λ ne. listed_at s j x y (put_other e.life.index v s.node y ne) (tags x) l) in
    record {
      each = λ x y h. ⊎_elim
          (λ (new : (y ≡ e.life.index) × ((e.place ≡ second_at sizes x) ⊎
          HasPredecessor (λ z. e.place == link_at sizes z)
          (s.edges x))).
          subst (λ (i : ℕ). IsEdgeOfList j x i) (sym new.0) (⊎_elim
          (λ (head : e.place ≡ second_at sizes x). absurd (omega (arith, head, ok.place)))
          (λ (b : HasPredecessor (λ z. e.place == link_at sizes z) (s.edges x)).
          let link : e.place ≡ link_at sizes b.node = eqb-true e.place (link_at sizes b.node) b.at in
          let same : b.node ≡ e.old.index = omega (arith, link, ok.place) in
          here x (subst (On (s.edges x)) same b.on)) new.1))
          (λ (was : On (s.edges x) y). old x y was) (on_linked_in sizes (second_at sizes x) e.place e.life.index y
          (s.edges x) h);
    }

listed_step : (sizes : Sizes) → IsLayout sizes → KeepsIn sizes (λ (j : List Event) (s : State) (w : ℕ → ℕ). Listed s)
listed_step sizes z past e kept c PopFree is ok w a = listed_taken sizes e (state sizes past) c
listed_step sizes z past e kept c LinkEdge is ok w a = listed_linked sizes past e ok c
listed_step sizes z past e kept c LinkVertex is ok w a = listed_same (state sizes past) _ c (λ x y h. h)
    (λ y. put_source (state sizes past) e.life.index _ y (inl ok.fresh.fresh))
    (same_tag LinkVertex tt sizes e (state sizes past))
listed_step sizes z past e kept c MarkVertex is ok w a = listed_same (state sizes past) _ c (λ x y h. h)
    (λ y. put_source (state sizes past) e.life.index _ y (inr (marked_source (node_in sizes past e.life.index))))
    (same_tag MarkVertex tt sizes e (state sizes past))
listed_step sizes z past e kept c UnlinkVertex is ok w a = listed_same (state sizes past) _ c (λ x y h. h)
    (λ y. put_source (state sizes past) e.life.index _ y (inr (spent_source (node_in sizes past e.life.index) _ _ _)))
    (same_tag UnlinkVertex tt sizes e (state sizes past))
listed_step sizes z past e kept c UnlinkEdge is ok w a = listed_same (state sizes past) _ c
    (λ x y h. (on_unlinked e.life.index y ((state sizes past).edges x) h).0)
    (λ y. put_source (state sizes past) e.life.index _ y (inr (spent_source (node_in sizes past e.life.index) _ _ _)))
    (same_tag UnlinkEdge tt sizes e (state sizes past))
listed_step sizes z past e kept c StoreFree is ok w a = listed_same (state sizes past) _ c (λ x y h. h)
    (λ y. put_source (state sizes past) e.life.index _ y (inr record
    { fresh = λ m. m; linked = λ m. m; vertex = refl; source = refl }))
    (same_tag StoreFree tt sizes e (state sizes past))
listed_step sizes z past e kept c PushFree is ok w a = listed_same (state sizes past) _ c (λ x y h. h)
    (λ y. put_source (state sizes past) e.life.index _ y (inr record
    { fresh = λ m. absurd (cc); linked = λ m. absurd (cc); vertex = refl; source = refl }))
    (same_tag PushFree tt sizes e (state sizes past))
listed_step sizes z past e kept c ReplaceEdge is ok w a =
    let j : State = joined_edge sizes e (state sizes past) in
    listed_same j (state_by ReplaceEdge sizes e (state sizes past)) (listed_joined sizes past e ok c) (λ x y h. h)
    (λ y. handed_source (marked_state j e.old.index) (j.node e.old.index).source.index (j.node y) y
    (put_source j e.old.index (record (j.node e.old.index) { marked = true }) y
    (inr (marked_source (j.node e.old.index)))))
    (λ x. same_tag ReplaceEdge tt sizes e (state sizes past) x ∙ sym
    (same_tag LinkEdge tt sizes e (state sizes past) x))
listed_step sizes z past e kept c MarkEdge is ok w a = listed_same (state sizes past) _ c (λ x y h. h)
    (λ y. handed_source (marked_state (state sizes past) e.life.index) (node_in sizes past e.life.index).source.index
    (node_in sizes past y) y (put_source (state sizes past) e.life.index _ y
    (inr (marked_source (node_in sizes past e.life.index))))) (same_tag MarkEdge tt sizes e (state sizes past))
listed_step sizes z past e kept c FreezeEdge is ok w a = listed_same (state sizes past) _ c (λ x y h. h)
    (λ y. handed_source (marked_state (state sizes past) e.life.index) (node_in sizes past e.life.index).source.index
    (node_in sizes past y) y (put_source (state sizes past) e.life.index _ y
    (inr (marked_source (node_in sizes past e.life.index))))) (same_tag FreezeEdge tt sizes e (state sizes past))
listed_step sizes z past e kept c FreezeHead is ok w a = listed_same (state sizes past) _ c (λ x y h. h)
    (λ y. handed_source (closed_state (state sizes past) e.life.index) e.life.index (node_in sizes past y) y
    (inr (same_source (node_in sizes past y)))) (same_tag FreezeHead tt sizes e (state sizes past))
listed_step sizes z past e kept c _ is ok w a = record {
  each = λ x y h. let l = c.each x y h in record
      { fresh = l.fresh; edge = l.edge; index = l.index; tag = l.tag };
}

-- the nodes on lists after each kept journal
pub listed : (sizes : Sizes) → IsLayout sizes → (journal : List Event) → IsKept sizes journal → Listed
    (state sizes journal)
listed sizes z journal kept = all_in sizes (λ (j : List Event) (s : State) (w : ℕ → ℕ). Listed s) (listed_step sizes z)
    (record { each = λ x y h. absurd (cc) }) journal kept

-- a list that is closed was closed in the present life of its vertex
pub record Closed (journal : List Event) (s : State) : Type 0 where
  pub each : (x : ℕ) → s.frozen x ≡ true → head_frozen journal (record { index = x; tag = (s.node x).tag }) ≡ true

closed_more : (past : List Event) (e : Event) (s s' : State) → Closed past s →
    ((x : ℕ) → s'.frozen x ≡ true → s.frozen x ≡ true) → ((x : ℕ) → (s'.node x).tag ≡ (s.node x).tag) → Closed
    (past ++ e ∷ []) s'
closed_more past e s s' c was tags = record {
  each = λ x h. subst (λ (t : ℕ). head_frozen (past ++ e ∷ []) (record { index = x; tag = t }) ≡ true) (sym (tags x))
      (any_more _ past (e ∷ []) (c.each x (was x h)));
}

closed_step : (sizes : Sizes) → KeepsIn sizes (λ (j : List Event) (s : State) (w : ℕ → ℕ). Closed j s)
closed_step sizes past e kept c PopFree is ok w a = record {
  each = λ x. put_both (λ (v : Node) (b : Bool). b ≡ true → head_frozen (past ++ e ∷ [])
      (record { index = x; tag = v.tag }) ≡ true) e.life.index _ false (state sizes past).node
      (state sizes past).frozen x
      (λ _ h. absurd (cc)) (λ _ h. any_more _ past (e ∷ []) (c.each x h));
}
closed_step sizes past e kept c FreezeHead is ok w a = record {
  each = λ x. subst (λ (t : ℕ). put e.life.index true (state sizes past).frozen x ≡ true → head_frozen (past ++ e ∷ [])
      (record { index = x; tag = t }) ≡ true) (sym (same_tag FreezeHead tt sizes e (state sizes past) x))
      (put_case (λ (b : Bool). b ≡ true → head_frozen (past ++ e ∷ [])
      (record { index = x; tag = (node_in sizes past x).tag }) ≡ true) e.life.index true (state sizes past).frozen x
      (λ same _. subst (λ (y : Life). head_frozen (past ++ e ∷ []) y ≡ true)
      (life_is e.life x (node_in sizes past x).tag (sym same)
      (ok.life ∙ ap (λ (j : ℕ). (node_in sizes past j).tag) (sym same)))
      (any_last _ past e (ap (λ (k : Kind). freezes_head k && same_life e.life e.life) is ∙ same_self e.life)))
      (λ _ h. any_more _ past (e ∷ []) (c.each x h)));
}
closed_step sizes past e kept c k is ok w a = closed_more past e (state sizes past) _ c (λ x h. h)
    (same_tag k tt sizes e (state sizes past))

pub closed : (sizes : Sizes) (journal : List Event) → IsKept sizes journal → Closed journal (state sizes journal)
closed sizes journal kept = all_in sizes (λ (j : List Event) (s : State) (w : ℕ → ℕ). Closed j s) (closed_step sizes)
    (record { each = λ x h. absurd (cc) }) journal kept
