-- The source and target of each edge were linked before it; so a vertex and an edge that are linked are new.
use Rattle.std.proofs.Common.{◌≡◌, ◌≢◌, ◌<◌, Bool, true, false, ◌&&◌, List, [], ◌∷◌, ◌++◌, find, Option, Some, None}
use Rattle.std.proofs.Common.{refl, sym, ap, ◌∙◌, subst}
use Rattle.packed_link.specs.Layout.{Sizes, IsLayout}
use Rattle.packed_link.specs.declared.link.Life.{Life}
use Rattle.core_journal.specs.declared.event.Kind.{Kind}
use Rattle.core_journal.specs.declared.event.Kind.TheVariants.{LinkVertex, LinkEdge, FreezeEdge, ReplaceEdge}
use Rattle.core_journal.specs.declared.event.Event.{Event}
use Rattle.core_journal.specs.Event.{same_life, links_edge}
use Rattle.core_journal.specs.Changes.{IsNewVertex, IsNewEdge, IsReplacing, IsFrozenEdge}
use Rattle.core_journal.specs.Life.{key_of, link_of, vertex_marked}
use Rattle.core_journal.proofs.KeptLives.{key_more, link_more}
use Rattle.core_journal.proofs.Snoc.{find_last, find_skip}
use Rattle.core_kept.specs.Kept.{AllowedAs, IsKept}
use Rattle.core_kept.specs.Vertices.{IsLinkVertex}
use Rattle.core_kept.specs.Edges.{IsLinkEdge, IsReplaceEdge}
use Rattle.core_kept.specs.Freezing.{IsFreezeEdge}
use Rattle.core_journal.specs.State.{Mode, Fresh, Linked}
use Rattle.core_kept.specs.Nodes.{node_in, IsUsed, IsVertex}
use Rattle.core_kept.specs.Facts.{IsNewLife, EdgeEnds}
use Rattle.core_kept.proofs.Induction.{kept_all}
use Rattle.core_kept.proofs.LinkWords.{link_words}
use Rattle.core_kept.proofs.Named.{life_is, named}
use Rattle.core_kept.proofs.Replaced.{old_apart}

some_none : {A : Type 0} (o : Option A) (x : A) → o ≡ Some x → o ≢ None
some_none o x h n = absurd (cc)

-- a vertex that is linked or spent has a key
pub vertex_key : (sizes : Sizes) → IsLayout sizes → (past : List Event) → IsKept sizes past → (x : Life)
    → IsVertex sizes past x → key_of past x ≡ Some (node_in sizes past x.index).key
vertex_key sizes z past kept x v = ap (key_of past) (life_is x x.index (node_in sizes past x.index).tag refl v.life) ∙
    ((named sizes z past kept).each x.index v.there).vertex_key v.used v.vertex

-- the two ends of an edge that is linked next
pub end_keys : (sizes : Sizes) → IsLayout sizes → (past : List Event) (e : Event) → IsKept sizes past → EdgeEnds past →
    (k : Kind) → links_edge k ≡ true → AllowedAs k sizes past e → (key_of past e.source ≢ None) ×
    (key_of past e.target ≡ Some e.key)
end_keys sizes z past e kept c ReplaceEdge is ok =
    let x : Life = record { index = e.old.index; tag = (node_in sizes past e.old.index).tag } in
    let d = ((named sizes z past kept).each e.old.index ok.old_there).edge_link
    (subst IsUsed (sym ok.linked.linked) tt) ok.linked.edge in (
      (λ none. c.source x d.link d.is (ap (key_of past) (d.from ∙ sym ok.source) ∙ none)),
      ap (key_of past) (ok.target ∙ sym d.to) ∙ (c.target x d.link d.is ∙ ap Some (d.of_key ∙ sym ok.key)),
    )
end_keys sizes z past e kept c LinkEdge is ok = (
  some_none _ _
      (vertex_key sizes z past kept e.source ok.source),
  ok.target_key,
)
end_keys sizes z past e kept c _ is ok = absurd (cc)

pub not_none : {A : Type 0} (o : Option A) → o ≢ None → (x : A) × (o ≡ Some x)
not_none None h = absurd (h refl)
not_none (Some x) h = (x, refl)

-- what is linked in a longer journal was linked before, or is the last event
pub link_split : (past : List Event) (e : Event) (x : Life) (link : Event) → link_of (past ++ e ∷ []) x ≡ Some link →
    (P : Event → Type 0) → ((d : Event) → link_of past x ≡ Some d → P d) → (links_edge e.kind ≡ true → P e) → P link
unfolding link_of
link_split past e x link h P old new = by (find (λ (d : Event). links_edge d.kind && same_life x d.life) past) refl
  where
    value : (a b : Event) → Some a ≡ Some b → a ≡ b
    value a b p = cc

    inner : (k s : Bool) → links_edge e.kind ≡ k → same_life x e.life ≡ s → find
        (λ (d : Event). links_edge d.kind && same_life x d.life) past ≡ None → P link
    inner true true i j none = subst P (value e link (sym (find_last
        (λ (d : Event). links_edge d.kind && same_life x d.life) past e none
        (ap (λ (b : Bool). b && same_life x e.life) i ∙ j)) ∙ h)) (new i)
    inner true false i j none = let q = sym (find_skip (λ (d : Event). links_edge d.kind && same_life x d.life) past e
        (ap (λ (b : Bool). b && same_life x e.life) i ∙ j) ∙ none) ∙ h in absurd (cc)
    inner false s i j none = let q = sym (find_skip (λ (d : Event). links_edge d.kind && same_life x d.life) past e
        (ap (λ (b : Bool). b && same_life x e.life) i) ∙ none) ∙ h in absurd (cc)

    by : (o : Option Event) → find (λ (d : Event). links_edge d.kind && same_life x d.life) past ≡ o → P link
    by None i = inner (links_edge e.kind) (same_life x e.life) refl refl i
    by (Some d) i = subst P (value d link (sym (link_more past (e ∷ []) x d i) ∙ h)) (old d i)

more_some : (past : List Event) (e : Event) (x : Life) → key_of past x ≢ None → key_of (past ++ e ∷ []) x ≢ None
more_some past e x h = let s = not_none (key_of past x) h in some_none _ _ (key_more past (e ∷ []) x s.0 s.1)

-- at opening there are no edges
none_yet : EdgeEnds []
unfolding link_of
none_yet = record { source = λ x link h. absurd (cc); target = λ x link h. absurd (cc) }

-- the ends of edges after each kept journal
pub ends_linked : (sizes : Sizes) → IsLayout sizes → (journal : List Event) → IsKept sizes journal → EdgeEnds journal
ends_linked sizes z journal kept = kept_all sizes EdgeEnds
    (λ past e k c ok. record {
      source = λ x link h. link_split past e x link h (λ (d : Event). key_of (past ++ e ∷ []) d.source ≢ None)
          (λ d i. more_some past e d.source (c.source x d i))
          (λ i. more_some past e e.source (end_keys sizes z past e k c e.kind i ok.as_kind).0);
      target = λ x link h. link_split past e x link h (λ (d : Event). key_of (past ++ e ∷ []) d.target ≡ Some d.key)
          (λ d i. key_more past (e ∷ []) d.target d.key (c.target x d i))
          (λ i. key_more past (e ∷ []) e.target e.key (end_keys sizes z past e k c e.kind i ok.as_kind).1);
    })
    none_yet journal kept

-- the life of a fresh node is new
pub new_here : (sizes : Sizes) → IsLayout sizes → (past : List Event) (e : Event) → IsKept sizes past
    → e.life.index < sizes.nodes → e.life.tag ≡ (node_in sizes past e.life.index).tag →
    (node_in sizes past e.life.index).mode ≡ Fresh → IsNewLife past e.life
new_here sizes z past e kept there life m = subst (λ (y : Life). IsNewLife past y)
    (sym (life_is e.life e.life.index (node_in sizes past e.life.index).tag refl life))
    (((named sizes z past kept).each e.life.index there).new m)

-- a vertex that is linked next is new, and no edge names it
pub new_vertex : (sizes : Sizes) → IsLayout sizes → (past : List Event) (e : Event) → IsKept sizes past
    → e.kind ≡ LinkVertex → IsLinkVertex sizes past e → IsNewVertex past e
new_vertex sizes z past e kept is ok =
    let d = new_here sizes z past e kept ok.there ok.life ok.fresh.fresh in
    let c = ends_linked sizes z past kept in record {
      kind = is;
      new = d.key;
      unmarked = d.vertex;
      unnamed = λ x link h. (
        (λ same. c.source x link h (ap (key_of past) same ∙ d.key)),
        (λ same. let t = sym (c.target x link h) ∙ (ap (key_of past) same ∙ d.key) in absurd (cc)),
      );
    }

-- an edge that is linked next is new
pub new_edge : (sizes : Sizes) → IsLayout sizes → (past : List Event) (e : Event) → IsKept sizes past
    → e.kind ≡ LinkEdge → IsLinkEdge sizes past e → IsNewEdge past e
new_edge sizes z past e kept is ok = let d = new_here sizes z past e kept ok.there ok.life ok.fresh.fresh in record
    { kind = is; new = d.link; unmarked = d.edge }

-- so is one that replaces another
pub new_replacing : (sizes : Sizes) → IsLayout sizes → (past : List Event) (e : Event) → IsKept sizes past
    → e.kind ≡ ReplaceEdge → IsReplaceEdge sizes past e → IsReplacing past e
new_replacing sizes z past e kept is ok =
    let d = new_here sizes z past e kept ok.there ok.life ok.fresh.fresh in
    record {
      kind = is;
      new = d.link;
      unmarked = d.edge;
      apart = λ same. old_apart sizes past e ok
          (ap (λ (y : Life). y.index) (sym same));
    }

-- an edge that is frozen next has a marked source
pub frozen_edge : (sizes : Sizes) → IsLayout sizes → (past : List Event) (e : Event) → IsKept sizes past
    → e.kind ≡ FreezeEdge → IsFreezeEdge sizes past e → IsFrozenEdge past e
frozen_edge sizes z past e kept is ok = record {
  kind = is;
  gone = λ link h.
      let v = node_in sizes past e.life.index in
      let d = ((named sizes z past kept).each e.life.index ok.there).edge_link (used ok.linked.linked) ok.linked.edge in
      let s = v.source in
      let same : Some d.link ≡ Some link = sym d.is ∙ (ap (link_of past)
      (sym (life_is e.life e.life.index v.tag refl ok.life)) ∙ h) in
      let from : link.source ≡ s = ap (λ (y : Event). y.source) (sym (value d.link link same)) ∙ d.from in
      let mark = ((named sizes z past kept).each s.index ok.source.there).vertex_mark ok.source.used ok.source.vertex in
      let marked = ((link_words sizes z past kept).each s.index ok.source.there).marked ok.spent.spent in
      ap (vertex_marked past) (from ∙ life_is s s.index (node_in sizes past s.index).tag refl ok.source.life) ∙
      (mark ∙ marked);
}
  where
    value : (a b : Event) → Some a ≡ Some b → a ≡ b
    value a b p = cc

    used : {m : Mode} → m ≡ Linked → IsUsed m
    used m = subst IsUsed (sym m) tt
