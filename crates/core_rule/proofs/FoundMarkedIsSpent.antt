-- An edge to which a frozen word leads, and which is found marked, is spent with the caller who freezes the list.
use Rattle.std.proofs.Common.{◌≡◌, ◌≢◌, ℕ, ◌<◌, List, Bool, true, false, inr, refl, sym, ap, ◌∙◌, subst, arith, ⊎_elim}
use Rattle.packed_link.specs.Link.{index_of, mark_of, mark_bit, nowhere}
use Rattle.packed_link.specs.Layout.{Sizes, IsLayout, link_at}
use Rattle.packed_link.specs.declared.link.Life.{Life}
use Rattle.core_journal.specs.declared.event.Event.{Event}
use Rattle.core_journal.specs.Machine.{word_at}
use Rattle.core_journal.specs.State.{Mode, Free, Fresh, Linked, Spent, state}
use Rattle.core_kept.specs.Nodes.{node_in, IsUsed, IsVertex, IsSpentWith, is_listed}
use Rattle.core_kept.specs.Freezing.{IsSpentVertex, IsFrozenWord}
use Rattle.core_lists.specs.Chains.{life_in, KeepsList}
use Rattle.core_rule.specs.Fronts.{MayFreezeEdge}
use Rattle.core_kept.specs.Kept.{IsKept}
use Rattle.core_rule.specs.Owes.{Reaches}
use Rattle.core_rule.specs.declared.view.View.{View}
use Rattle.core_lists.proofs.FrozenToEndIsList.{edge_on, kept_leads}
use Rattle.core_rule.proofs.FreezeLifts.{same_word, handed_at}
use Rattle.core_lists.proofs.FrozenWordLeads.{frozen_next}
use Rattle.core_kept.proofs.Induction.{kept_front}
use Rattle.core_lists.proofs.SpentVertexKeepsList.{own_list_stays}
use Rattle.core_kept.proofs.LinkWords.{link_words}
use Rattle.core_lists.proofs.ListHoldsKept.{listing}
use Rattle.core_lists.proofs.PartSpender.{part_who}

-- at a moment at which the list is one
pub found_at : (sizes : Sizes) → IsLayout sizes → (journal : List Event) → IsKept sizes journal → (caller x place : ℕ)
    → IsSpentVertex sizes journal caller x → KeepsList sizes journal x → IsFrozenWord sizes journal x place
    → (y : ℕ) → index_of (word_at sizes journal place) ≡ y → y ≢ nowhere → mark_of
    (word_at sizes journal (link_at sizes y)) ≡ 1 → IsSpentWith sizes journal caller y
    × IsFrozenWord sizes journal x (link_at sizes y)
found_at sizes z journal kept caller x place spent k f y leads some dead =
    let on : is_listed (state sizes journal) x y ≡ true = ⊎_elim
    (λ (none : index_of (word_at sizes journal place) ≡ nowhere). absurd (some (sym leads ∙ none)))
    (λ (h : is_listed (state sizes journal) x (index_of (word_at sizes journal place)) ≡ true). subst
    (λ (i : ℕ). is_listed (state sizes journal) x i ≡ true) leads h)
    (kept_leads sizes z journal kept x place k f) in
    let there = ((listing sizes z journal kept).on x y on).there in
    let used = (k.edges (life_in sizes journal y) (edge_on sizes z journal kept x y on)).used in
    let marked : (node_in sizes journal y).marked ≡ true = by there (node_in sizes journal y).mode used refl in
    let part = frozen_next sizes z journal kept x place k f y leads some marked in
    let who = part_who sizes z journal kept x y k.used k.vertex part used in
    (record { spent = who.0; mine = who.1 ∙ spent.mine }, record { head = f.head; at = inr (y, part, refl) })
  where
    set : (b : Bool) → mark_bit b ≡ 1 → b ≡ true
    set true h = refl
    set false h = absurd (omega (arith, h))

    by : y < sizes.nodes → (m : Mode) → IsUsed m → (node_in sizes journal y).mode ≡ m →
        (node_in sizes journal y).marked ≡ true
    by there Linked u is = set (node_in sizes journal y).marked
        (sym (((link_words sizes z journal kept).each y there).linked is).mark ∙ dead)
    by there Spent u is = ((link_words sizes z journal kept).each y there).marked is
    by there Free u is = absurd u
    by there Fresh u is = absurd u

pub found_frozen : (v : View) → IsLayout v.sizes → (source : Life) (place : ℕ) (x : Life)
    → MayFreezeEdge v source place x → (journal : List Event) → Reaches v journal
    → mark_of (word_at v.sizes journal (link_at v.sizes x.index)) ≡ 1 → IsSpentWith v.sizes journal v.number x.index
found_frozen v z source place x m journal r dead =
    let old : IsKept v.sizes v.front = kept_front v.sizes v.front journal r.front r.kept in
    let vertex : IsVertex v.sizes v.front source = record {
      there = m.life.there;
      life = m.life.tag;
      used = m.list.used;
      vertex = m.list.vertex;
    } in
    let word = same_word v.sizes z v.number v.last place x.index source v.front old r.old vertex m.spent m.frozen
    (handed_at v z journal r source m.list m.spent) m.leads m.edge.there journal r.front r.kept r.quiet in
    let own = own_list_stays v.sizes z v.number v.last source.index v.front journal r.front r.kept r.quiet r.old m.spent
    m.list in
    let leads : index_of (word_at v.sizes journal place) ≡ x.index = ap index_of word.same ∙ m.leads in
    let there = m.edge.there in
    (found_at v.sizes z journal r.kept v.number source.index place own.0 own.1 word.frozen x.index leads
    (λ h. omega (arith, h, there, z.few_nodes)) dead).0
