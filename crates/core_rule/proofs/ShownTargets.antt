-- What the second word of a node that was met tells: of a vertex whether it's marked, of an edge the life of its
-- target.
use Rattle.std.proofs.Common.{◌≡◌, ℕ, ◌^◌, ◌<◌, ◌≤◌, ◌&&◌, Bool, true, false, List, Option, Some, None, find, refl, sym}
use Rattle.std.proofs.Common.{ap, ◌∙◌, subst, arith}
use Rattle.std.specs.Prelude.{option_map, take}
use Rattle.std.proofs.lemmas.Bool.{and_parts}
use Rattle.packed_link.specs.Link.{index_of, mark_of, tag_of, mark_bit}
use Rattle.packed_link.specs.Layout.{Sizes, IsLayout, link_at, second_at, third_at}
use Rattle.packed_link.specs.declared.link.Life.{Life}
use Rattle.packed_link.proofs.Links.{index_of-pack, tag_of-pack}
use Rattle.core_journal.specs.declared.event.Kind.{Kind}
use Rattle.core_journal.specs.declared.event.Kind.TheVariants.{LinkVertex}
use Rattle.core_journal.specs.declared.event.Event.{Event}
use Rattle.core_journal.specs.Event.{links_vertex, same_life}
use Rattle.core_journal.specs.Life.{key_of, vertex_marked}
use Rattle.core_journal.specs.Machine.{word_at}
use Rattle.core_journal.specs.State.{Mode, Linked, Spent, Free, Fresh, Pass, state}
use Rattle.core_journal.proofs.Snoc.{same_is}
use Rattle.core_kept.specs.Facts.{IsSamePass}
use Rattle.core_kept.specs.Kept.{AllowedAs, IsKept}
use Rattle.core_kept.specs.Nodes.{node_in, IsUsed}
use Rattle.core_kept.proofs.Contents.{contents}
use Rattle.core_kept.proofs.Induction.{allowed_at, kept_front}
use Rattle.core_kept.proofs.LinkWords.{link_words}
use Rattle.core_kept.proofs.MetWords.{edge_stays, met_used}
use Rattle.core_kept.proofs.NoWrap.{bounds}
use Rattle.core_journal.proofs.Lists.{prefix_take}
use Rattle.core_lists.proofs.LinkTellsPresence.{key_there}
use Rattle.core_lists.proofs.LowerCounters.{found_at}
use Rattle.core_lists.proofs.SpentWordsLead.{unclosed}
use Rattle.core_rule.specs.Fronts.{MetVertex, MetEdge}
use Rattle.core_rule.specs.Stretches.{IsTargetShown}
use Rattle.core_rule.specs.Views.{GoesOn}
use Rattle.core_rule.specs.declared.view.View.{View}
use Rattle.core_rule.proofs.ViewShows.{absent_shown, edge_shown}

-- the tag of a life that was linked as a vertex is low
low_by : (sizes : Sizes) → IsLayout sizes → (past : List Event) (e : Event) (k : Kind) → IsKept sizes past
    → links_vertex k ≡ true → AllowedAs k sizes past e → e.life.tag ≤ 2 ^ 36
low_by sizes z past e LinkVertex kept h ok = omega (arith, ok.life, (bounds sizes z past kept).lives e.life.index)
low_by sizes z past e _ kept h ok = absurd (cc)

key_low : (sizes : Sizes) → IsLayout sizes → (journal : List Event) → IsKept sizes journal → (x : Life) (key : ℕ)
    → key_of journal x ≡ Some key → x.tag ≤ 2 ^ 36
unfolding key_of
key_low sizes z journal kept x key h = by (find (λ (e : Event). links_vertex e.kind && same_life x e.life) journal) refl
    h
  where
    by : (o : Option Event) → find (λ (e : Event). links_vertex e.kind && same_life x e.life) journal ≡ o → option_map
        (λ (e : Event). e.key) o ≡ Some key → x.tag ≤ 2 ^ 36
    by None is h = absurd (cc)
    by (Some e) is h =
        let r = found_at (λ (d : Event). links_vertex d.kind && same_life x d.life) journal e is in
        let p = and_parts (links_vertex e.kind) (same_life x e.life) r.2 in
        let low = low_by sizes z (take r.0 journal) e e.kind (kept_front sizes (take r.0 journal) journal
        (prefix_take journal r.0) kept) p.0 (allowed_at sizes journal r.0 e kept r.1).as_kind in
        subst (λ (l : Life). l.tag ≤ 2 ^ 36) (sym (same_is x e.life p.1)) low

module _ (v : View) (z : IsLayout v.sizes) (kept : IsKept v.sizes v.front) where
  -- a vertex whose second word is marked is marked
  pub head_marked : (x : Life) → MetVertex v x → mark_of (word_at v.sizes v.front (second_at v.sizes x.index)) ≡ 1 →
      (mark_of (word_at v.sizes v.front (link_at v.sizes x.index)) ≡ 1) × (vertex_marked v.front x ≡ true)
  head_marked x m dead =
      let used = met_used v.sizes v.front v.number x.index m.met in
      let c = ((contents v.sizes z v.front kept).each x.index m.life.there).vertex used m.vertex in
      let closed : (state v.sizes v.front).frozen x.index ≡ true = set ((state v.sizes v.front).frozen x.index)
      (sym c.second_mark ∙ dead) in
      let link = by closed (node_in v.sizes v.front x.index).mode refl used in
      (link, (absent_shown v z kept x m link).0)
    where
      set : (b : Bool) → mark_bit b ≡ 1 → b ≡ true
      set true h = refl
      set false h = absurd (omega (arith, h))

      by : (state v.sizes v.front).frozen x.index ≡ true → (k : Mode) → (node_in v.sizes v.front x.index).mode ≡ k
          → IsUsed k → mark_of (word_at v.sizes v.front (link_at v.sizes x.index)) ≡ 1
      by closed Linked is u = let open_ = unclosed v.sizes z v.front kept x.index is in absurd (cc)
      by closed Spent is u = (((link_words v.sizes z v.front kept).each x.index m.life.there).spent is).marked
      by closed Free is u = absurd u
      by closed Fresh is u = absurd u

  -- the target of an edge, as its second word has it
  pub target_shown : (source x : Life) → MetEdge v source x → IsTargetShown v x
  target_shown source x m =
      let s = edge_shown v z kept source x m in
      let there = key_there v.sizes v.front kept s.link.target s.link.key s.target_key in
      let low = key_low v.sizes z v.front kept s.link.target s.link.key s.target_key in
      let small : s.link.target.index < 2 ^ 24 = omega (arith, there, z.few_nodes) in
      let index : index_of (word_at v.sizes v.front (second_at v.sizes x.index)) ≡ s.link.target.index = ap index_of
      s.target ∙ index_of-pack s.link.target.index 0 s.link.target.tag small in
      let tag : tag_of (word_at v.sizes v.front (second_at v.sizes x.index)) ≡ s.link.target.tag = ap tag_of s.target
      ∙ tag_of-pack s.link.target.index 0 s.link.target.tag small (omega arith) in
      record {
        link = s.link;
        is = s.is;
        index = index;
        tag = tag;
        there = omega (arith, index, there);
        low = omega (arith, tag, low);
      }

-- the target and the weight of an edge that was met stay
pub edge_words_still : (v w : View) → IsLayout v.sizes → GoesOn v w → (source x : Life) → MetEdge v source x
    → (word_at w.sizes w.front (second_at w.sizes x.index) ≡ word_at v.sizes v.front (second_at v.sizes x.index)) ×
    (word_at w.sizes w.front (third_at w.sizes x.index) ≡ word_at v.sizes v.front (third_at v.sizes x.index))
edge_words_still v w z g source x m =
    let p : IsSamePass v.sizes v.front w.front v.number = record {
      before = g.grows;
      open_still = ap (λ (q : Pass). q.is_open) g.pass ∙ m.met.pass;
      since = ap
          (λ (q : Pass). q.since) g.pass;
    } in
    subst (λ (u : View). (word_at u.sizes u.front (second_at u.sizes x.index) ≡ word_at v.sizes v.front
    (second_at v.sizes x.index)) × (word_at u.sizes u.front (third_at u.sizes x.index) ≡ word_at v.sizes v.front
    (third_at v.sizes x.index))) (sym g.view)
    (edge_stays v.sizes z v.front w.front g.kept v.number x.index p m.met m.life.there m.edge)
