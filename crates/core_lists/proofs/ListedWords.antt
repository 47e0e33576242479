-- The key word of an edge that stands on a list, and that the edges of a linked vertex are linked.
use Rattle.std.proofs.Common.{◌≡◌, ℕ, ◌<◌, Bool, true, false, cond, List, [], Some, sym, ap, ◌∙◌, subst}
use Rattle.graph_kinds.specs.Levels.{stands_in}
use Rattle.packed_link.specs.Layout.{Sizes, IsLayout, key_at}
use Rattle.core_journal.specs.declared.event.Event.{Event}
use Rattle.core_journal.specs.Life.{link_of}
use Rattle.core_journal.specs.Machine.{word_at}
use Rattle.core_journal.specs.State.{Linked, State, state}
use Rattle.std.specs.Prelude.{take_while}
use Rattle.core_kept.specs.Kept.{IsKept}
use Rattle.core_kept.specs.Nodes.{node_in, IsUsed, is_listed, is_frozen}
use Rattle.core_lists.specs.Chains.{HasList, KeepsList, life_in}
use Rattle.core_kept.proofs.Named.{named}
use Rattle.core_kept.proofs.OwnMet.{key_word_is}
use Rattle.core_lists.proofs.FrozenPart.{frozen_parts}
use Rattle.core_lists.proofs.FrozenToEndIsList.{edge_on}
use Rattle.core_lists.proofs.ListHoldsKept.{listing}
use Rattle.core_lists.proofs.SpentWordsLead.{unclosed}

module _ (sizes : Sizes) (z : IsLayout sizes) (journal : List Event) (kept : IsKept sizes journal) where
  -- the key word of an edge of a list is the key with which the edge was linked
  pub listed_key : (x y : ℕ) → KeepsList sizes journal x → is_listed (state sizes journal) x y ≡ true → (link : Event)
      → link_of journal (life_in sizes journal y) ≡ Some link → word_at sizes journal (key_at sizes y) ≡ link.key
  listed_key x y k on link is =
      let d = (listing sizes z journal kept).on x y on in
      let used = (k.edges (life_in sizes journal y) (edge_on sizes z journal kept x y on)).used in
      let n = ((named sizes z journal kept).each y d.there).edge_link used d.edge in
      let same : n.link ≡ link = let h = n.is in cc in
      key_word_is sizes z journal kept y d.there used ∙ (sym n.of_key ∙ ap (λ (e : Event). e.key) same)

  -- a list that is open at its head has no frozen part
  no_part : (s : State) (x y : ℕ) → s.frozen x ≡ false → is_frozen s x y ≡ false
  no_part s x y h = ap (λ (b : Bool). stands_in (cond b (take_while (λ (z : ℕ). (s.node z).marked) (s.edges x)) []) y) h

  -- an edge on the list of a linked vertex is linked
  pub listed_linked : (x y : ℕ) → x < sizes.nodes → (node_in sizes journal x).mode ≡ Linked →
      (node_in sizes journal x).vertex ≡ true → is_listed (state sizes journal) x y ≡ true →
      (node_in sizes journal y).mode ≡ Linked
  listed_linked x y there linked vertex on =
      let open_ = unclosed sizes z journal kept x linked in
      let has : HasList sizes journal x = record {
        there = there;
        used = subst IsUsed
            (sym linked) tt;
        vertex = vertex;
        unfinished = λ f. let head = f.head in absurd (cc);
      } in
      (frozen_parts sizes z journal kept).linked x y has on (no_part (state sizes journal) x y open_)
