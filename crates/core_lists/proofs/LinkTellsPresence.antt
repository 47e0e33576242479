-- The link of a vertex that was linked tells whether it's present, also after its node was given to another life.
use Rattle.std.proofs.Common.{◌≡◌, ◌≢◌, ◌⊎◌, ℕ, ◌<◌, Bool, true, false, cond, ◌&&◌, List, Option, Some, None, find, inl}
use Rattle.std.proofs.Common.{inr, refl, sym, ap, ◌∙◌, subst, arith, ⊎_elim}
use Rattle.std.specs.Prelude.{option_map, take}
use Rattle.std.proofs.lemmas.Bool.{and_parts}
use Rattle.packed_link.specs.Link.{mark_of, tag_of, mark_bit}
use Rattle.packed_link.specs.Layout.{Sizes, IsLayout, link_at}
use Rattle.packed_link.specs.declared.link.Life.{Life}
use Rattle.core_journal.specs.declared.event.Kind.{Kind}
use Rattle.core_journal.specs.declared.event.Kind.TheVariants.{LinkVertex, LinkEdge, ReplaceEdge}
use Rattle.core_journal.specs.declared.event.Event.{Event}
use Rattle.core_journal.specs.Event.{links_vertex, links_edge, same_life}
use Rattle.core_journal.specs.GraphOf.{present_key}
use Rattle.core_journal.specs.Life.{key_of, link_of, vertex_marked}
use Rattle.core_journal.specs.Machine.{word_at}
use Rattle.core_journal.specs.State.{Mode, Free, Fresh, Linked, Spent}
use Rattle.core_journal.proofs.Snoc.{same_is}
use Rattle.core_kept.specs.Kept.{AllowedAs, IsKept}
use Rattle.core_kept.specs.Nodes.{node_in, IsUsed}
use Rattle.core_lists.proofs.LowerCounters.{found_at}
use Rattle.core_kept.proofs.Induction.{allowed_at}
use Rattle.core_kept.proofs.LinkWords.{link_words}
use Rattle.core_kept.proofs.LinkedVertices.{linked_stays, live_vertices}
use Rattle.core_kept.proofs.Named.{life_is, named}
use Rattle.core_lists.proofs.OneVertexOfKey.{present_live}

-- a life that was linked is of a node of the table
linked_there : (sizes : Sizes) (past : List Event) (e : Event) (k : Kind) → (links_vertex k ≡ true) ⊎
    (links_edge k ≡ true) → AllowedAs k sizes past e → e.life.index < sizes.nodes
linked_there sizes past e LinkVertex h ok = ok.there
linked_there sizes past e LinkEdge h ok = ok.there
linked_there sizes past e ReplaceEdge h ok = ok.there
linked_there sizes past e _ h ok = ⊎_elim (λ t. absurd (cc)) (λ t. absurd (cc)) h

pub key_there : (sizes : Sizes) (journal : List Event) → IsKept sizes journal → (x : Life) (key : ℕ)
    → key_of journal x ≡ Some key → x.index < sizes.nodes
unfolding key_of
key_there sizes journal kept x key h = by (find (λ (e : Event). links_vertex e.kind && same_life x e.life) journal) refl
    h
  where
    by : (o : Option Event) → find (λ (e : Event). links_vertex e.kind && same_life x e.life) journal ≡ o → option_map
        (λ (e : Event). e.key) o ≡ Some key → x.index < sizes.nodes
    by None is h = absurd (cc)
    by (Some e) is h =
        let r = found_at (λ (d : Event). links_vertex d.kind && same_life x d.life) journal e is in
        let p = and_parts (links_vertex e.kind) (same_life x e.life) r.2 in
        let there = linked_there sizes (take r.0 journal) e e.kind (inl p.0)
        (allowed_at sizes journal r.0 e kept r.1).as_kind in
        subst (λ (l : Life). l.index < sizes.nodes) (sym (same_is x e.life p.1)) there

pub link_there : (sizes : Sizes) (journal : List Event) → IsKept sizes journal → (x : Life) (link : Event)
    → link_of journal x ≡ Some link → x.index < sizes.nodes
unfolding link_of
link_there sizes journal kept x link h =
    let r = found_at (λ (d : Event). links_edge d.kind && same_life x d.life) journal link h in
    let p = and_parts (links_edge link.kind) (same_life x link.life) r.2 in
    let there = linked_there sizes (take r.0 journal) link link.kind (inr p.0)
    (allowed_at sizes journal r.0 link kept r.1).as_kind in
    subst (λ (l : Life). l.index < sizes.nodes) (sym (same_is x link.life p.1)) there

module _ (sizes : Sizes) (z : IsLayout sizes) (journal : List Event) (kept : IsKept sizes journal) (x : Life) (key : ℕ)
    (has : key_of journal x ≡ Some key) where
  -- an unmarked link of its life
  pub alive : tag_of (word_at sizes journal (link_at sizes x.index)) ≡ x.tag → mark_of
      (word_at sizes journal (link_at sizes x.index)) ≡ 0 → present_key journal x ≡ Some key
  alive tag live = by (node_in sizes journal x.index).mode refl
    where
      by : (m : Mode) → (node_in sizes journal x.index).mode ≡ m → present_key journal x ≡ Some key
      by Free is =
          let there = key_there sizes journal kept x key has in
          let d = ((link_words sizes z journal kept).each x.index there).free is in
          absurd (omega (arith, d.marked, live))
      by Spent is =
          let there = key_there sizes journal kept x key has in
          let d = ((link_words sizes z journal kept).each x.index there).spent is in
          absurd (omega (arith, d.marked, live))
      by Fresh is =
          let there = key_there sizes journal kept x key has in
          let d = ((link_words sizes z journal kept).each x.index there).fresh is in
          ⊎_elim
          (λ (h : _ × (mark_of (word_at sizes journal (link_at sizes x.index)) ≡ 1)). absurd (omega (arith, h.1, live)))
          (λ (h : (tag_of (word_at sizes journal (link_at sizes x.index)) ≡ (node_in sizes journal x.index).tag) × _).
          let new = (((named sizes z journal kept).each x.index there).new is).key in
          let same : key_of journal x ≡ None = ap (key_of journal)
          (life_is x x.index (node_in sizes journal x.index).tag refl (sym tag ∙ h.0)) ∙ new in
          absurd (cc)) d
      by Linked is =
          let there = key_there sizes journal kept x key has in
          let d = ((link_words sizes z journal kept).each x.index there).linked is in
          let life : x.tag ≡ (node_in sizes journal x.index).tag = sym tag ∙ d.life in
          let v = (live_vertices sizes z journal kept).live x key has (linked_stays sizes z journal kept x life is) in
          let mark = ((named sizes z journal kept).each x.index there).vertex_mark
          (subst IsUsed (sym is) tt) v.vertex in
          let unmarked : vertex_marked journal x ≡ false = ap (vertex_marked journal)
          (life_is x x.index (node_in sizes journal x.index).tag refl life) ∙
          (mark ∙ unset (node_in sizes journal x.index).marked (sym d.mark ∙ live)) in
          ap (λ (b : Bool). cond b None (key_of journal x)) unmarked ∙ has
        where
          unset : (b : Bool) → mark_bit b ≡ 0 → b ≡ false
          unset true h = absurd (omega (arith, h))
          unset false h = refl

  -- any other link
  pub over : (tag_of (word_at sizes journal (link_at sizes x.index)) ≢ x.tag) ⊎
      (mark_of (word_at sizes journal (link_at sizes x.index)) ≡ 1) → vertex_marked journal x ≡ true
  over other = by (vertex_marked journal x) refl
    where
      by : (b : Bool) → vertex_marked journal x ≡ b → b ≡ true
      by true is = refl
      by false is =
          let there = key_there sizes journal kept x key has in
          let present : present_key journal x ≡ Some key = ap (λ (b : Bool). cond b None (key_of journal x)) is ∙ has in
          let v = present_live sizes z journal kept x key present in
          let d = ((link_words sizes z journal kept).each x.index there).linked v.linked in
          let mark = ((named sizes z journal kept).each x.index there).vertex_mark
          (subst IsUsed (sym v.linked) tt) v.vertex in
          let marked : (node_in sizes journal x.index).marked ≡ false = sym mark ∙
          (ap (vertex_marked journal) (sym (life_is x x.index (node_in sizes journal x.index).tag refl v.life))
          ∙ is) in
          let live : mark_of (word_at sizes journal (link_at sizes x.index)) ≡ 0 = d.mark ∙ ap mark_bit marked in
          absurd (⊎_elim (λ (ne : tag_of (word_at sizes journal (link_at sizes x.index)) ≢ x.tag). ne
          (d.life ∙ sym v.life)) (λ (one : mark_of (word_at sizes journal (link_at sizes x.index)) ≡ 1). omega
          (arith, one, live)) other)
