-- A marked link leads to the same life for as long as one may come to its node. So it leads to a node of its own key
-- exactly where
-- its edge was replaced by that one.
use Rattle.std.proofs.Common.{◌≡◌, ◌≢◌, ◌⊎◌, ℕ, ◌<◌, true, false, List, [], ◌∷◌, ◌++◌, inl, inr, refl, sym, ap, ◌∙◌}
use Rattle.std.proofs.Common.{subst, arith, ⊎_elim}
use Rattle.graph_kinds.specs.Levels.{stands_in}
use Rattle.packed_link.specs.Link.{index_of, mark_of, nowhere}
use Rattle.packed_link.specs.Layout.{Sizes, IsLayout, link_at, second_at}
use Rattle.core_chain.specs.Chain.{Next}
use Rattle.core_journal.specs.declared.event.Kind.{Kind}
use Rattle.core_journal.specs.declared.event.Kind.TheVariants.{PopFree, LinkVertex, LinkEdge, UnlinkEdge, ReplaceEdge}
use Rattle.core_journal.specs.declared.event.Event.{Event}
use Rattle.core_journal.specs.Machine.{word_at}
use Rattle.core_journal.specs.Prefix.{IsPrefix}
use Rattle.core_journal.specs.State.{Free, Fresh, Linked, Spent, Node, State, state_by, state}
use Rattle.core_journal.proofs.Lists.{prefix_refl, prefix_snoc, prefix_trans}
use Rattle.core_journal.proofs.States.{state-snoc}
use Rattle.core_kept.specs.Kept.{Allowed, AllowedAs, IsKept}
use Rattle.core_kept.specs.Nodes.{node_in, IsUsed, IsLinkedEdge, is_listed}
use Rattle.core_lists.specs.Chains.{HasList}
use Rattle.core_kept.specs.Facts.{HasMet}
use Rattle.core_lists.specs.Replacements.{IsInReach}
use Rattle.core_lists.specs.Walks.{IsMetBehind}
use Rattle.core_lists.proofs.ListChains.{lists}
use Rattle.core_kept.proofs.Induction.{kept_snoc, kept_onward}
use Rattle.core_kept.proofs.LinkWords.{taken}
use Rattle.core_kept.proofs.NodesOnLists.{unlinked_was, linked_was}
use Rattle.core_lists.proofs.ListHolds.{open_mode}
use Rattle.core_lists.proofs.ListHoldsKept.{IsOpenIn, listing, open_before, open_linked, has_open, open_has, sources}
use Rattle.core_lists.proofs.ListingsBehindSteps.{popped_was}
use Rattle.core_kept.proofs.MarkedWords.{marked_link_stays}
use Rattle.core_lists.proofs.MetWordsLead.{met_before, met_modes, met_not_stored, walk_link}
use Rattle.core_kept.proofs.ModeSteps.{ModeStep, stays, spends, swaps, links, takes, frees, turn}
use Rattle.core_kept.proofs.SameLife.{life_stays, tags_rise, tag_kept}

-- what stood on a list before an event, of a node that wasn't fresh
listed_by : (k : Kind) (sizes : Sizes) → IsLayout sizes → (past : List Event) (e : Event) → IsKept sizes past
    → AllowedAs k sizes past e → (home x : ℕ) → (node_in sizes past x).mode ≢ Fresh
    → stands_in ((state_by k sizes e (state sizes past)).edges home) x ≡ true → stands_in
    ((state sizes past).edges home)
    x ≡ true
listed_by PopFree sizes z past e kept ok home x old h =
    let s : State = state sizes past in
    let v : Node = record (s.node e.life.index) {
      mode = Fresh;
      who = e.caller;
      tag = e.life.tag;
      marked = false;
      stored
          = false;
    } in
    (popped_was sizes s.node s.edges s.frozen (listing sizes z past kept) e.life.index v
    (taken sizes z past e kept ok).free refl home x h).1
listed_by LinkEdge sizes z past e kept ok home x old h = ⊎_elim
    (λ (t : stands_in ((state sizes past).edges home) x ≡ true). t)
    (λ (t : (x ≡ e.life.index) × _). absurd (old (ap (λ (i : ℕ). (node_in sizes past i).mode) t.0 ∙ ok.fresh.fresh)))
    (linked_was sizes (second_at sizes home) e.place e.life.index x ((state sizes past).edges home) h)
listed_by ReplaceEdge sizes z past e kept ok home x old h = ⊎_elim
    (λ (t : stands_in ((state sizes past).edges home) x ≡ true). t)
    (λ (t : (x ≡ e.life.index) × _). absurd (old (ap (λ (i : ℕ). (node_in sizes past i).mode) t.0 ∙ ok.fresh.fresh)))
    (linked_was sizes (second_at sizes home) e.place e.life.index x ((state sizes past).edges home) h)
listed_by UnlinkEdge sizes z past e kept ok home x old h = (unlinked_was e.life.index x
    ((state sizes past).edges home) h).0
listed_by _ sizes z past e kept ok home x old h = h

-- a list with a node that wasn't fresh was one before an event
open_by : (k : Kind) (sizes : Sizes) → IsLayout sizes → (past : List Event) (e : Event) → IsKept sizes past
    → AllowedAs k sizes past e → (home x : ℕ) → stands_in ((state sizes past).edges home) x ≡ true
    → IsOpenIn sizes (state_by k sizes e (state sizes past)) home → IsOpenIn sizes (state sizes past) home
open_by LinkVertex sizes z past e kept ok home x on o = ⊎_elim (λ (h : IsOpenIn sizes (state sizes past) home). h)
    (λ (same : home ≡ e.life.index). absurd (let none = (listing sizes z past kept).empty home
    (ap (λ (i : ℕ). (node_in sizes past i).mode) same ∙ ok.fresh.fresh) in let f : false ≡ true = subst
    (λ (l : List ℕ). stands_in l x ≡ true) none on in cc))
    (open_linked sizes z past e kept ok home o)
open_by k sizes z past e kept ok home x on o = open_before sizes z past e kept k tt ok home o

module _ (sizes : Sizes) (z : IsLayout sizes) (journal : List Event) (kept : IsKept sizes journal) where
  -- a node to which one may come is linked or spent, and isn't stored for the free list
  pub reach_modes : (x : ℕ) → IsInReach sizes journal x → ((node_in sizes journal x).mode ≡ Linked) ⊎
      ((node_in sizes journal x).mode ≡ Spent)
  reach_modes x r = ⊎_elim
      (λ (l : (home : ℕ) × HasList sizes journal home × (is_listed (state sizes journal) home x ≡ true)).
      open_mode sizes (state sizes journal).node (state sizes journal).edges (state sizes journal).frozen l.0 x
      (listing sizes z journal kept) (has_open sizes journal l.0 l.1) l.2)
      (λ (m : (caller : ℕ) × HasMet sizes journal caller x). met_modes sizes journal m.0 x m.1) r

  pub reach_used : (x : ℕ) → IsInReach sizes journal x → IsUsed (node_in sizes journal x).mode
  reach_used x r = ⊎_elim (λ (m : (node_in sizes journal x).mode ≡ Linked). subst IsUsed (sym m) tt)
      (λ (m : (node_in sizes journal x).mode ≡ Spent). subst IsUsed (sym m) tt) (reach_modes x r)

  pub reach_unstored : (x : ℕ) → x < sizes.nodes → IsInReach sizes journal x → (node_in sizes journal x).stored ≡ false
  reach_unstored x there r = ⊎_elim
      (λ (l : (home : ℕ) × HasList sizes journal home × (is_listed (state sizes journal) home x ≡ true)).
      (listing sizes z journal kept).held l.0 x (has_open sizes journal l.0 l.1) l.2)
      (λ (m : (caller : ℕ) × HasMet sizes journal caller x). met_not_stored sizes z journal kept m.0 x there m.1) r

  -- one may come to a linked edge
  pub linked_reach : (x : ℕ) → x < sizes.nodes → IsLinkedEdge sizes journal x → IsInReach sizes journal x
  linked_reach x there v = let at = (sources sizes z journal kept).each x there v in inl
      ((node_in sizes journal x).source.index, at.list, at.on)

  -- and so to the node to which it leads
  pub next_reach : (x : ℕ) → x < sizes.nodes → IsInReach sizes journal x → index_of
      (word_at sizes journal (link_at sizes x)) ≢ nowhere
      → (index_of (word_at sizes journal (link_at sizes x)) < sizes.nodes) × IsInReach sizes journal
      (index_of (word_at sizes journal (link_at sizes x)))
  next_reach x there r some = ⊎_elim
      (λ (l : (home : ℕ) × HasList sizes journal home × (is_listed (state sizes journal) home x ≡ true)).
      let goes =
      ((lists sizes z journal kept).each l.0 (has_open sizes journal l.0 l.1)).chain.leads (Next x) l.2 some in (
        ((listing sizes z journal kept).on l.0 (index_of (word_at sizes journal (link_at sizes x))) goes.0).there,
        inl
            (l.0, l.1, goes.0),
      ))
      (λ (m : (caller : ℕ) × HasMet sizes journal caller x). ⊎_elim
      (λ (none : index_of (word_at sizes journal (link_at sizes x)) ≡ nowhere). absurd (some none))
      (λ (b : IsMetBehind sizes journal m.0 x (index_of (word_at sizes journal (link_at sizes x)))).
      (b.there, inr (m.0, b.met)))
      (walk_link sizes z journal kept m.0 x there m.1)) r

-- from a front in which its link is marked on: the node to which it leads stays in its life
module _ (sizes : Sizes) (z : IsLayout sizes) (front : List Event) (x : ℕ) (there : x < sizes.nodes)
    (unfresh : (node_in sizes front x).mode ≢ Fresh) (edge : (node_in sizes front x).vertex ≡ false)
    (marked : mark_of (word_at sizes front (link_at sizes x)) ≡ 1)
    (some : index_of (word_at sizes front (link_at sizes x)) ≢ nowhere) where
  abbrev next_node : ℕ
  next_node = index_of (word_at sizes front (link_at sizes x))

  -- the link stays
  pub link_same : (journal : List Event) → IsPrefix front journal → IsKept sizes journal →
      (node_in sizes journal x).tag ≡ (node_in sizes front x).tag → IsInReach sizes journal x
      → word_at sizes journal (link_at sizes x) ≡ word_at sizes front (link_at sizes x)
  link_same journal p kept tag r = marked_link_stays sizes z x front journal p kept unfresh marked tag
      (reach_unstored sizes z journal kept x there r)

  -- what holds on the way
  record IsOnWay (journal : List Event) : Type 0 where
    pub before : IsPrefix front journal
    pub life : (node_in sizes journal x).tag ≡ (node_in sizes front x).tag → IsInReach sizes journal x →
        (node_in sizes journal next_node).tag ≡ (node_in sizes front next_node).tag

  module _ (past : List Event) (e : Event) (kept : IsKept sizes past) (p : IsPrefix front past)
      (ok : Allowed sizes past e) where
    abbrev grown : List Event
    grown = past ++ e ∷ []

    kept_after : IsKept sizes grown
    kept_after = kept_snoc sizes past e kept ok

    tag_then : (node_in sizes grown x).tag ≡ (node_in sizes front x).tag → (node_in sizes past x).tag ≡
        (node_in sizes front x).tag
    tag_then tag = let c = life_stays sizes z x front past p kept unfresh in omega
        (arith, tag, c.low, tags_rise sizes z past e kept ok x)

    -- one might come to it before the event
    reach_then : (node_in sizes grown x).tag ≡ (node_in sizes front x).tag → IsInReach sizes grown x
        → IsInReach sizes past x
    reach_then tag r = by (turn sizes z past e kept ok x)
      where
        was_linked : (node_in sizes past x).mode ≡ Linked → IsInReach sizes past x
        was_linked m = linked_reach sizes z past kept x there record
            { linked = m; edge = ((life_stays sizes z x front past p kept unfresh).same (tag_then tag)).vertex ∙ edge }

        was_spent : (node_in sizes grown x).mode ≡ Spent → IsInReach sizes past x
        was_spent m = ⊎_elim
            (λ (l : (home : ℕ) × HasList sizes grown home × (is_listed (state sizes grown) home x ≡ true)).
            let on = listed_by e.kind sizes z past e kept ok.as_kind l.0 x
            ((life_stays sizes z x front past p kept unfresh).same (tag_then tag)).fresh
            (subst (λ (s : State). stands_in (s.edges l.0) x ≡ true) (state-snoc sizes past e) l.2) in
            inl (
              l.0,
              open_has sizes past l.0 (open_by e.kind sizes z past e kept ok.as_kind l.0 x on
                  (subst (λ (s : State). IsOpenIn sizes s l.0) (state-snoc sizes past e)
                  (has_open sizes grown l.0 l.1))),
              on,
            ))
            (λ (h : (caller : ℕ) × HasMet sizes grown caller x). inr
            (h.0, (met_before sizes z past e kept ok h.0 x h.1 m).met)) r

        by : ModeStep sizes past e (word_at sizes grown) x (node_in sizes grown x) → IsInReach sizes past x
        by (stays m _ _ _) = ⊎_elim (λ (l : (node_in sizes grown x).mode ≡ Linked). was_linked (sym m ∙ l))
            (λ (s : (node_in sizes grown x).mode ≡ Spent). was_spent s) (reach_modes sizes z grown kept_after x r)
        by (spends m _ _ _) = was_linked m
        by (swaps _ _ _ m _ _ _) = was_linked m
        by (links m _) = absurd (((life_stays sizes z x front past p kept unfresh).same (tag_then tag)).fresh m)
        by (takes _ m) = absurd (⊎_elim (λ (l : (node_in sizes grown x).mode ≡ Linked). let f : Linked ≡ Fresh = sym l
            ∙ m in absurd (cc)) (λ (s : (node_in sizes grown x).mode ≡ Spent). let f : Spent ≡ Fresh = sym s
            ∙ m in absurd (cc)) (reach_modes sizes z grown kept_after x r))
        by (frees _ m) = absurd (⊎_elim (λ (l : (node_in sizes grown x).mode ≡ Linked). let f : Linked ≡ Free = sym l
            ∙ m in absurd (cc)) (λ (s : (node_in sizes grown x).mode ≡ Spent). let f : Spent ≡ Free = sym s
            ∙ m in absurd (cc)) (reach_modes sizes z grown kept_after x r))

    -- so the node to which it leads wasn't free, and isn't taken
    way_step : IsOnWay past → IsOnWay grown
    way_step c = record {
      before = prefix_trans front past grown p (prefix_snoc past e);
      life = λ tag r.
          let then = reach_then tag r in
          let word = ap index_of (link_same past p kept (tag_then tag) then) in
          let y = next_reach sizes z past kept x there then (λ none. some (sym word ∙ none)) in
          let used : ((node_in sizes past next_node).mode ≡ Linked) ⊎
          ((node_in sizes past next_node).mode ≡ Spent) = reach_modes sizes z past kept next_node
          (subst (IsInReach sizes past) word y.1) in
          tag_kept sizes z past e kept ok next_node (λ free. ⊎_elim
          (λ (m : (node_in sizes past next_node).mode ≡ Linked). let f : Linked ≡ Free = sym m ∙ free in absurd (cc))
          (λ (m : (node_in sizes past next_node).mode ≡ Spent). let f : Spent ≡ Free = sym m ∙ free in absurd (cc))
          used)
          ∙ c.life (tag_then tag) then;
    }

  pub next_same : (journal : List Event) → IsPrefix front journal → IsKept sizes journal →
      (node_in sizes journal x).tag ≡ (node_in sizes front x).tag → IsInReach sizes journal x →
      (node_in sizes journal next_node).tag ≡ (node_in sizes front next_node).tag
  next_same journal p kept tag r =
      let end = kept_onward sizes IsOnWay (λ past e k c ok. way_step past e k c.before ok c) front journal p kept record
      { before = prefix_refl front; life = λ _ _. refl } in
      end.life tag r
