-- A marked link of an edge to which one may come leads to a node of the edge's key exactly where the edge was replaced
-- by that node.
use Rattle.std.proofs.Common.{◌≡◌, ◌≢◌, ℕ, zero, suc, ◌<◌, Bool, true, false, cond, List, [], ◌∷◌, ◌++◌, Some, take}
use Rattle.std.proofs.Common.{inr, refl, sym, ap, ◌∙◌, subst, arith, ⊎_elim}
use Rattle.std.specs.Prelude.{slice_get, ◌&&◌}
use Rattle.graph_kinds.proofs.Calls.{and_left, and_right}
use Rattle.packed_link.specs.Link.{index_of, mark_of, mark_bit, with_mark, nowhere}
use Rattle.packed_link.specs.Layout.{Sizes, IsLayout, key_at, link_at}
use Rattle.packed_link.specs.declared.link.Life.{Life}
use Rattle.core_journal.specs.declared.event.Kind.{Kind}
use Rattle.core_journal.specs.declared.event.Kind.TheVariants.{MarkEdge, FreezeEdge, ReplaceEdge}
use Rattle.core_journal.specs.declared.event.Event.{Event}
use Rattle.core_journal.specs.Event.{same_life, cuts_edge, replaces, cut_life}
use Rattle.core_journal.specs.Life.{edge_marked}
use Rattle.core_journal.specs.Machine.{word_at}
use Rattle.core_journal.specs.Prefix.{IsPrefix}
use Rattle.core_journal.specs.State.{Mode, Free, Fresh, Linked, Node, state}
use Rattle.core_journal.proofs.Lists.{prefix_snoc, prefix_take}
use Rattle.core_journal.proofs.Snoc.{same_is}
use Rattle.core_kept.specs.Kept.{AllowedAs, IsKept}
use Rattle.core_kept.specs.Nodes.{node_in, IsUsed, IsLinkedEdge, is_listed}
use Rattle.core_kept.specs.Edges.{IsReplaceEdge}
use Rattle.core_lists.specs.Chains.{life_in, HasList}
use Rattle.core_kept.specs.Facts.{HasMet}
use Rattle.core_lists.specs.Walks.{IsMetBehind}
use Rattle.core_chain.specs.Chain.{Next}
use Rattle.core_lists.proofs.ListChains.{lists}
use Rattle.core_lists.proofs.ListHoldsKept.{has_open}
use Rattle.core_lists.proofs.MetWordsLead.{walk_link}
use Rattle.core_lists.specs.Replacements.{IsReplacedBy, IsInReach, LeadsToItsKey}
use Rattle.core_kept.proofs.LivesEnd.{any_at}
use Rattle.core_kept.proofs.Induction.{allowed_at, kept_front}
use Rattle.core_lists.proofs.LinkedWordsLead.{IsLinkedBehind, edge_leads}
use Rattle.core_kept.proofs.LinkWords.{used_link}
use Rattle.core_lists.proofs.MarkedWordsLead.{reach_used, reach_unstored, next_reach, next_same}
use Rattle.core_kept.proofs.MarkedWords.{marked_link_stays}
use Rattle.core_kept.proofs.Named.{life_is, named}
use Rattle.core_kept.proofs.OwnMet.{key_word_is}
use Rattle.core_lists.proofs.EventKeepsRest.{written}
use Rattle.core_kept.proofs.ReplaceCases.{leads_new, marks_old, new_after}
use Rattle.core_kept.proofs.SameLife.{life_stays, tag_kept}

-- the front of a list up to an element, and that element
pub front_at : {A : Type 0} (xs : List A) (k : ℕ) (x : A) → slice_get xs k ≡ Some x → IsPrefix (take k xs ++ x ∷ []) xs
front_at [] k x h = absurd (cc)
front_at (y ∷ ys) zero x h = let same : y ≡ x = cc in record { rest = ys; whole = ap (λ z. z ∷ ys) (sym same) }
front_at (y ∷ ys) (suc k) x h = let p = front_at ys k x h in record { rest = p.rest; whole = ap (λ l. y ∷ l) p.whole }

linked_unfresh : (m : Mode) → m ≡ Linked → m ≢ Fresh
linked_unfresh m l f = absurd (cc)

linked_unfree : (m : Mode) → m ≡ Linked → m ≢ Free
linked_unfree m l f = absurd (cc)

module _ (sizes : Sizes) (z : IsLayout sizes) (journal : List Event) (kept : IsKept sizes journal) (k : ℕ) (e : Event)
    (at : slice_get journal k ≡ Some e) where
  abbrev past : List Event
  past = take k journal

  abbrev front : List Event
  front = past ++ e ∷ []

  before : IsPrefix front journal
  before = front_at journal k e at

  kept_past : IsKept sizes past
  kept_past = kept_front sizes past journal (prefix_take journal k) kept

  kept_then : IsKept sizes front
  kept_then = kept_front sizes front journal before kept

  -- what was linked before the event is in the same life behind it
  module _ (x : ℕ) (v : IsLinkedEdge sizes past x) where
    tag_then : (node_in sizes front x).tag ≡ (node_in sizes past x).tag
    tag_then = tag_kept sizes z past e kept_past (allowed_at sizes journal k e kept at) x
        (linked_unfree (node_in sizes past x).mode v.linked)

    unfresh_then : (node_in sizes front x).mode ≢ Fresh
    unfresh_then = ((life_stays sizes z x past front (prefix_snoc past e) kept_then
        (linked_unfresh (node_in sizes past x).mode v.linked)).same tag_then).fresh

    edge_then : (node_in sizes front x).vertex ≡ false
    edge_then = ((life_stays sizes z x past front (prefix_snoc past e) kept_then
        (linked_unfresh (node_in sizes past x).mode v.linked)).same tag_then).vertex ∙ v.edge

    key_now : (node_in sizes journal x).tag ≡ (node_in sizes past x).tag → (node_in sizes journal x).key ≡
        (node_in sizes past x).key
    key_now tag = ((life_stays sizes z x past journal (prefix_take journal k) kept
        (linked_unfresh (node_in sizes past x).mode v.linked)).same tag).key

  -- an edge was replaced
  module _ (is : e.kind ≡ ReplaceEdge) where
    ok : IsReplaceEdge sizes past e
    ok = subst (λ (j : Kind). AllowedAs j sizes past e) is (allowed_at sizes journal k e kept at).as_kind

    word_then : word_at sizes front (link_at sizes e.old.index) ≡ e.word
    word_then = ap (word_at sizes front) (sym ok.place) ∙ written sizes past e kept_then

    led_then : index_of (word_at sizes front (link_at sizes e.old.index)) ≡ e.life.index
    led_then = ap index_of word_then ∙ leads_new sizes z past e kept_past ok

    marked_then : mark_of (word_at sizes front (link_at sizes e.old.index)) ≡ 1
    marked_then = ap mark_of word_then ∙ marks_old sizes z past e kept_past ok

    -- its link has the event's word until it's stored for the free list
    pub replaced_word : e.old.tag ≡ (node_in sizes journal e.old.index).tag →
        (node_in sizes journal e.old.index).stored ≡ false
        → (index_of (word_at sizes journal (link_at sizes e.old.index)) ≡ e.life.index) ×
        (mark_of (word_at sizes journal (link_at sizes e.old.index)) ≡ 1)
    replaced_word tag unstored =
        let same = marked_link_stays sizes z e.old.index front journal before kept
        (unfresh_then e.old.index ok.linked) marked_then (sym tag ∙
        (ok.old_life ∙ sym (tag_then e.old.index ok.linked))) unstored in
        (ap index_of same ∙ led_then, ap mark_of same ∙ marked_then)

    -- and leads to the new edge, which has its key
    pub replaced_leads : e.old.tag ≡ (node_in sizes journal e.old.index).tag → IsInReach sizes journal e.old.index
        → LeadsToItsKey sizes journal e.old.index × (e.life ≡ life_in sizes journal
        (index_of (word_at sizes journal (link_at sizes e.old.index))))
    replaced_leads tag r =
        let x : ℕ = e.old.index in
        let y : ℕ = e.life.index in
        let since : (node_in sizes journal x).tag ≡ (node_in sizes front x).tag = sym tag ∙
        (ok.old_life ∙ sym (tag_then x ok.linked)) in
        let some : index_of (word_at sizes front (link_at sizes x)) ≢ nowhere = λ none. omega
        (arith, none, led_then, ok.there, z.few_nodes) in
        let w = replaced_word tag (reach_unstored sizes z journal kept x ok.old_there r) in
        let led : index_of (word_at sizes journal (link_at sizes x)) ≡ y = w.0 in
        let new = new_after sizes z past e kept_past ok is in
        let life : (node_in sizes journal y).tag ≡ (node_in sizes front y).tag = subst
        (λ (i : ℕ). (node_in sizes journal i).tag ≡ (node_in sizes front i).tag) led_then
        (next_same sizes z front x ok.old_there (unfresh_then x ok.linked)
        (edge_then x ok.linked) marked_then some journal before kept since r) in
        let here : e.life.tag ≡ (node_in sizes journal y).tag = ok.life ∙
        (sym (ap (λ (v : Node). v.tag) new) ∙ sym life) in
        let to = next_reach sizes z journal kept x ok.old_there r
        (λ none. omega (arith, none, led, ok.there, z.few_nodes)) in
        let key_y : word_at sizes journal (key_at sizes y) ≡ e.key =
        key_word_is sizes z journal kept y ok.there (reach_used sizes z journal kept y
        (subst (IsInReach sizes journal) led to.1))
        ∙ (((life_stays sizes z y front journal before kept (linked_unfresh (node_in sizes front y).mode
        (ap (λ (v : Node). v.mode) new))).same life).key ∙ ap (λ (v : Node). v.key) new) in
        let key_x : word_at sizes journal (key_at sizes x) ≡ e.key =
        key_word_is sizes z journal kept x ok.old_there (reach_used sizes z journal kept x r) ∙
        (key_now x ok.linked (sym tag ∙ ok.old_life) ∙ sym ok.key) in (
          record {
            marked = w.1;
            some = λ none. omega (arith, none, led, ok.there, z.few_nodes);
            key = ap (λ (i : ℕ). word_at sizes journal (key_at sizes i)) led ∙ (key_y ∙ sym key_x);
          },
          life_is e.life y (node_in sizes journal y).tag refl here ∙ ap (λ (i : ℕ). life_in sizes journal i) (sym led),
        )

  -- an edge was marked, and not replaced: its link leads to a greater key
  marked_rises : (x : ℕ) → x < sizes.nodes → IsLinkedEdge sizes past x → e.place ≡ link_at sizes x → mark_of
      (word_at sizes past e.place) ≡ 0 → e.word ≡ with_mark (word_at sizes past e.place)
      → (node_in sizes journal x).tag ≡ (node_in sizes past x).tag → IsInReach sizes journal x
      → LeadsToItsKey sizes journal x → ⊥
  marked_rises x there v place live word tag r d =
      let old : word_at sizes past e.place ≡ word_at sizes past (link_at sizes x) = ap (word_at sizes past) place in
      let then : word_at sizes front (link_at sizes x) ≡ e.word = ap (word_at sizes front) (sym place)
      ∙ written sizes past e kept_then in
      let dead : mark_of (word_at sizes front (link_at sizes x)) ≡ 1 = omega (arith, then, word) in
      let led : index_of (word_at sizes front (link_at sizes x)) ≡ index_of
      (word_at sizes past (link_at sizes x)) = omega (arith, then, word, old) in
      let since : (node_in sizes journal x).tag ≡ (node_in sizes front x).tag = tag ∙ sym (tag_then x v) in
      let same : word_at sizes journal (link_at sizes x) ≡ word_at sizes front
      (link_at sizes x) = marked_link_stays sizes z x front journal before kept (unfresh_then x v) dead since
      (reach_unstored sizes z journal kept x there r) in
      let now : index_of (word_at sizes journal (link_at sizes x)) ≡ index_of
      (word_at sizes past (link_at sizes x)) = ap index_of same ∙ led in
      let y : ℕ = index_of (word_at sizes past (link_at sizes x)) in
      ⊎_elim (λ (none : index_of (word_at sizes past (link_at sizes x)) ≡ nowhere). d.some (now ∙ none))
      (λ (b : IsLinkedBehind sizes past x (index_of (word_at sizes past (link_at sizes x)))).
      let low = b.strictly (inr (sym (ap mark_of old) ∙ live)) in
      let life : (node_in sizes journal y).tag ≡ (node_in sizes front y).tag = subst
      (λ (i : ℕ). (node_in sizes journal i).tag ≡ (node_in sizes front i).tag) led
      (next_same sizes z front x there (unfresh_then x v) (edge_then x v) dead
      (λ none. d.some (ap index_of same ∙ none)) journal before kept since r) in
      let edge : IsLinkedEdge sizes past y = record { linked = b.linked; edge = b.kind ∙ v.edge } in
      let to = next_reach sizes z journal kept x there r d.some in
      let old_x = key_word_is sizes z past kept_past x there (subst IsUsed (sym v.linked) tt) in
      let old_y = key_word_is sizes z past kept_past y b.there (subst IsUsed (sym b.linked) tt) in
      let new_x = key_word_is sizes z journal kept x there (reach_used sizes z journal kept x r) in
      let new_y = key_word_is sizes z journal kept y b.there (reach_used sizes z journal kept y
      (subst (IsInReach sizes journal) now to.1)) in
      let kept_x = key_now x v tag in
      let kept_y = key_now y edge (life ∙ tag_then y edge) in
      let equal : word_at sizes journal (key_at sizes y) ≡ word_at sizes journal (key_at sizes x) = ap
      (λ (i : ℕ). word_at sizes journal (key_at sizes i)) (sym now) ∙ d.key in
      absurd (omega (arith, low, old_x, old_y, new_x, new_y, kept_x, kept_y, equal)))
      (edge_leads sizes z past kept_past x there v)

module _ (sizes : Sizes) (z : IsLayout sizes) (journal : List Event) (kept : IsKept sizes journal) where
  -- what the journal says of an edge that was replaced
  pub old_leads : (x new : Life) → x.tag ≡ (node_in sizes journal x.index).tag → IsInReach sizes journal x.index
      → IsReplacedBy journal x new
      → LeadsToItsKey sizes journal x.index × (new ≡ life_in sizes journal
      (index_of (word_at sizes journal (link_at sizes x.index))))
  old_leads x new tag r b =
      let tag_old = subst (λ (l : Life). l.tag ≡ (node_in sizes journal l.index).tag) (sym b.of_old) tag in
      let r_old = subst (λ (l : Life). IsInReach sizes journal l.index) (sym b.of_old) r in
      let h = replaced_leads sizes z journal kept b.number b.event b.at b.kind tag_old r_old in
      subst (λ (l : Life). LeadsToItsKey sizes journal l.index ×
      (new ≡ life_in sizes journal (index_of (word_at sizes journal (link_at sizes l.index))))) b.of_old
      (h.0, sym b.of_new ∙ h.1)

  pub old_word : (x new : Life) → x.tag ≡ (node_in sizes journal x.index).tag →
      (node_in sizes journal x.index).stored ≡ false → IsReplacedBy journal x new
      → (index_of (word_at sizes journal (link_at sizes x.index)) ≡ new.index) ×
      (mark_of (word_at sizes journal (link_at sizes x.index)) ≡ 1)
  old_word x new tag unstored b =
      let tag_old = subst (λ (l : Life). l.tag ≡ (node_in sizes journal l.index).tag) (sym b.of_old) tag in
      let un_old = subst (λ (l : Life). (node_in sizes journal l.index).stored ≡ false) (sym b.of_old) unstored in
      let h = replaced_word sizes z journal kept b.number b.event b.at b.kind tag_old un_old in
      subst (λ (l : Life). (index_of (word_at sizes journal (link_at sizes l.index)) ≡ new.index) ×
      (mark_of (word_at sizes journal (link_at sizes l.index)) ≡ 1)) b.of_old
      (h.0 ∙ ap (λ (l : Life). l.index) b.of_new, h.1)

  -- what its link says to the journal
  module _ (x : Life) (there : x.index < sizes.nodes) (tag : x.tag ≡ (node_in sizes journal x.index).tag)
      (r : IsInReach sizes journal x.index) (d : LeadsToItsKey sizes journal x.index) where
    abbrev IsTheReplaced : Type 0
    IsTheReplaced = IsReplacedBy journal x
        (life_in sizes journal (index_of (word_at sizes journal (link_at sizes x.index))))

    -- not by an event that only marks it
    not_marked : (k : ℕ) (e : Event) (at : slice_get journal k ≡ Some e) → x ≡ e.life → e.life.tag ≡
        (node_in sizes (take k journal) e.life.index).tag → e.life.index < sizes.nodes → IsLinkedEdge sizes
        (take k journal) e.life.index → e.place ≡ link_at sizes e.life.index
        → mark_of (word_at sizes (take k journal) e.place) ≡ 0 → e.word ≡ with_mark
        (word_at sizes (take k journal) e.place) → IsTheReplaced
    not_marked k e at same life inside v place live word = absurd
        (marked_rises sizes z journal kept k e at e.life.index inside v place live word
        (sym (subst (λ (l : Life). l.tag ≡ (node_in sizes journal l.index).tag) same tag) ∙ life)
        (subst (λ (l : Life). IsInReach sizes journal l.index) same r)
        (subst (λ (l : Life). LeadsToItsKey sizes journal l.index) same d))

    told_by : (k : ℕ) (e : Event) → slice_get journal k ≡ Some e → (j : Kind) → e.kind ≡ j → cuts_edge j ≡ true
        → x ≡ cond (replaces j) e.old e.life → AllowedAs j sizes (take k journal) e → IsTheReplaced
    told_by k e at MarkEdge is cuts same ok = not_marked k e at same ok.life ok.there ok.linked ok.place ok.unmarked
        ok.word
    told_by k e at FreezeEdge is cuts same ok = not_marked k e at same ok.life ok.there ok.linked ok.place ok.unmarked
        ok.word
    told_by k e at ReplaceEdge is cuts same ok =
        let b : IsReplacedBy journal x e.life = record {
          number = k;
          event = e;
          at = at;
          kind = is;
          of_old = sym same;
          of_new = refl;
        } in
        record { number = k; event = e; at = at; kind = is; of_old = sym same; of_new = (old_leads x e.life tag r b).1 }
    told_by k e at _ is cuts same ok = absurd (cc)

    pub told : (node_in sizes journal x.index).vertex ≡ false → IsTheReplaced
    told edge =
        let used = reach_used sizes z journal kept x.index r in
        let mark = (used_link sizes z journal kept x.index there used).1 in
        let is = ((named sizes z journal kept).each x.index there).edge_mark used edge in
        let marked : edge_marked journal x ≡ true = ap (edge_marked journal)
        (life_is x x.index (node_in sizes journal x.index).tag refl tag) ∙
        (is ∙ is_marked (node_in sizes journal x.index).marked (omega (arith, mark, d.marked))) in
        let a = any_at (λ (c : Event). cuts_edge c.kind && same_life x (cut_life c)) journal marked in
        told_by a.number a.event a.at a.event.kind refl (and_left (cuts_edge a.event.kind)
        (same_life x (cut_life a.event)) a.passes)
        (same_is x (cut_life a.event) (and_right (cuts_edge a.event.kind) (same_life x (cut_life a.event)) a.passes))
        (allowed_at sizes journal a.number a.event kept a.at).as_kind
      where
        is_marked : (b : Bool) → mark_bit b ≡ 1 → b ≡ true
        is_marked true h = refl
        is_marked false h = absurd (omega (arith, h))

-- a link of an edge that leads to a node of its key is marked
pub same_key_marked : (sizes : Sizes) → IsLayout sizes → (journal : List Event) → IsKept sizes journal → (x : ℕ)
    → x < sizes.nodes → IsInReach sizes journal x → index_of (word_at sizes journal (link_at sizes x)) ≢ nowhere
    → word_at sizes journal (key_at sizes (index_of (word_at sizes journal (link_at sizes x)))) ≡ word_at sizes journal
    (key_at sizes x) → LeadsToItsKey sizes journal x
same_key_marked sizes z journal kept x there r some same = record {
  marked = by (node_in sizes journal x).marked (used_link sizes z journal kept x there
      (reach_used sizes z journal kept x r)).1;
  some = some;
  key = same;
}
  where
    rises : mark_of (word_at sizes journal (link_at sizes x)) ≡ 0 → word_at sizes journal
        (key_at sizes x) < word_at sizes journal (key_at sizes (index_of (word_at sizes journal (link_at sizes x))))
    rises live = ⊎_elim
        (λ (l : (home : ℕ) × HasList sizes journal home × (is_listed (state sizes journal) home x ≡ true)).
        let low = ((lists sizes z journal kept).each l.0 (has_open sizes journal l.0 l.1)).chain.rises
        (Next x) l.2 live some in omega (arith, low))
        (λ (m : (caller : ℕ) × HasMet sizes journal caller x). ⊎_elim
        (λ (none : index_of (word_at sizes journal (link_at sizes x)) ≡ nowhere). absurd (some none))
        (λ (b : IsMetBehind sizes journal m.0 x (index_of (word_at sizes journal (link_at sizes x)))). b.strictly
        (inr live))
        (walk_link sizes z journal kept m.0 x there m.1)) r

    by : (b : Bool) → mark_of (word_at sizes journal (link_at sizes x)) ≡ mark_bit b → mark_of
        (word_at sizes journal (link_at sizes x)) ≡ 1
    by true h = h
    by false h = let low = rises h in absurd (omega (arith, low, same))
