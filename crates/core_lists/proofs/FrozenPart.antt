-- The frozen part of each list after each kept journal: what it holds, where its words lead, and that it begins the
-- list.
use Rattle.std.proofs.Common.{◌≡◌, ◌⊎◌, ℕ, Bool, true, false, cond, List, [], ◌∷◌, refl, sym, ap, ◌∙◌, subst, arith}
use Rattle.std.proofs.Common.{⊎_elim, inl, inr}
use Rattle.std.specs.Prelude.{take_while}
use mathlib.Core.Logic.{dite}
use native.Mathlib.Decide.{ℕ_discrete}
use Rattle.graph_kinds.specs.Levels.{stands_in}
use Rattle.packed_link.specs.Link.{nowhere, index_of, mark_of, mark_bit}
use Rattle.packed_link.specs.Layout.{Sizes, IsLayout, link_at}
use Rattle.core_chain.specs.Chain.{Chain, ChainWord, Head, Next, IsOn, Precedes}
use Rattle.core_chain.specs.Met.{RisesAlong}
use Rattle.core_chain.specs.Steps.{IsFrozenTo}
use Rattle.core_chain.proofs.Orders.{before_then}
use Rattle.core_journal.specs.declared.event.Event.{Event}
use Rattle.core_journal.specs.Machine.{word_at}
use Rattle.core_journal.specs.State.{State, frozen_part, state}
use Rattle.core_kept.specs.Nodes.{is_listed}
use Rattle.core_kept.specs.Kept.{IsKept}
use Rattle.core_kept.specs.Freezing.{IsFrozenWord}
use Rattle.core_lists.specs.Chains.{list_word, edge_chain, HasList, FrozenParts}
use Rattle.core_kept.proofs.LinkWords.{link_words}
use Rattle.core_kept.proofs.Contents.{contents}
use Rattle.core_kept.proofs.NodesOnLists.{yes_no, stands_case, stands_here, stands_later, part_more, part_end}
use Rattle.core_lists.proofs.ListHolds.{part_listed}
use Rattle.core_lists.proofs.ListHoldsKept.{listing, IsOpenIn, has_open}
use Rattle.core_lists.proofs.ListChains.{lists, list_met}

-- a word of the frozen part of a list
pub record IsEnd (sizes : Sizes) (journal : List Event) (x place : ℕ) : Type 0 where
  pub at : ChainWord
  pub place_is : list_word sizes x at ≡ place
  pub on : IsOn (edge_chain sizes journal x) at
  pub head : (state sizes journal).frozen x ≡ true
  pub part : (y : ℕ) → at ≡ Next y → stands_in (frozen_part (state sizes journal) x) y ≡ true

pub frozen_end : (sizes : Sizes) (journal : List Event) (x place : ℕ) → IsFrozenWord sizes journal x place
    → IsEnd sizes journal x place
frozen_end sizes journal x place f = ⊎_elim
    (λ h. record { at = Head; place_is = sym h; on = tt; head = f.head; part = λ y p. absurd (cc) })
    (λ (h : (y : ℕ) × (stands_in (frozen_part (state sizes journal) x) y ≡ true) × (place ≡ link_at sizes y)). record {
      at = Next h.0;
      place_is = sym h.2;
      on = part_listed (state sizes journal).node (state sizes journal).edges (state sizes journal).frozen x h.0 h.1;
      head = f.head;
      part = λ y p. let q : h.0 ≡ y = cc in subst (λ (v : ℕ). stands_in (frozen_part (state sizes journal) x) v ≡ true)
          q
          h.1;
    })
    f.at

-- a word of a list leads to none, or to an edge of it
leads_on : (sizes : Sizes) → IsLayout sizes → (journal : List Event) → IsKept sizes journal → (x : ℕ)
    → HasList sizes journal x → (at : ChainWord) → IsOn (edge_chain sizes journal x) at → (place : ℕ)
    → list_word sizes x at ≡ place
    → (index_of (word_at sizes journal place) ≡ nowhere) ⊎ (is_listed (state sizes journal) x
    (index_of (word_at sizes journal place)) ≡ true)
leads_on sizes z journal kept x has at on place is = subst (λ (p : ℕ). (index_of (word_at sizes journal p) ≡ nowhere) ⊎
    (is_listed (state sizes journal) x (index_of (word_at sizes journal p)) ≡ true)) is
    (dite (ℕ_discrete (index_of (word_at sizes journal (list_word sizes x at))) nowhere) (λ none. inl none)
    (λ some. inr (((lists sizes z journal kept).each x (has_open sizes journal x has)).chain.leads at on some).0))

-- what the frozen parts hold
pub frozen_parts : (sizes : Sizes) → IsLayout sizes → (journal : List Event) → IsKept sizes journal
    → FrozenParts sizes journal
frozen_parts sizes z journal kept =
    let c = listing sizes z journal kept in record {
      handed = λ x y has h. c.handed x y (has_open sizes journal x has) h;
      linked = λ x y has h f. c.linked x y (has_open sizes journal x has) h f;
      leads = λ x place has f. let d = frozen_end sizes journal x place f in leads_on sizes z journal kept x has d.at
          d.on place d.place_is;
    }

-- each node that rises behind a word stands behind it
rises_behind : (c : Chain) (p : ChainWord) (xs : List ℕ) (v : ℕ) → RisesAlong c p xs → stands_in xs v ≡ true →
    Precedes c p
    (Next v)
rises_behind c p [] v rising on = absurd (cc)
rises_behind c p (x ∷ xs) v rising on =
    stands_case (Precedes c p (Next v)) x v xs on (λ same. subst (λ (u : ℕ). Precedes c p (Next u)) same rising.0)
    (λ _ later. before_then c p (Next x) (Next v) rising.0 (rises_behind c (Next x) xs v rising.1 later))

-- what stands no further than a node of the longest part that passes a test is in it, where the nodes rise
part_before : (c : Chain) (test : ℕ → Bool) (p : ChainWord) (xs : List ℕ) (y v : ℕ) → RisesAlong c p xs → stands_in
    (take_while test xs)
    y ≡ true → stands_in xs v ≡ true → (Precedes c (Next y) (Next v) → ⊥) → stands_in (take_while test xs)
    v ≡ true
part_before c test p [] y v rising h on not_behind = absurd (cc)
part_before c test p (x ∷ xs) y v rising h on not_behind =
    yes_no (stands_in (take_while test (x ∷ xs)) v ≡ true) (test x)
    (λ e. ap (λ (l : List ℕ). stands_in l v) (part_more test x xs e) ∙ stands_case
    (stands_in (x ∷ take_while test xs) v ≡ true) x v xs on
    (λ same. stands_here x v (take_while test xs) same)
    (λ _ later. stands_later x v (take_while test xs) (stands_case (stands_in (take_while test xs) v ≡ true) x y
    (take_while test xs) (sym (ap (λ (l : List ℕ). stands_in l y) (part_more test x xs e)) ∙ h)
    (λ same. absurd (not_behind (subst (λ (u : ℕ). Precedes c (Next u) (Next v)) same
    (rises_behind c (Next x) xs v rising.1 later))))
    (λ _ more. part_before c test (Next x) xs y v rising.1 more later not_behind))))
    (λ e. let t : false ≡ true = sym (ap (λ (l : List ℕ). stands_in l y) (part_end test x xs e)) ∙ h in absurd (cc))

module _ (sizes : Sizes) (z : IsLayout sizes) (journal : List Event) (kept : IsKept sizes journal) (x : ℕ)
    (o : IsOpenIn sizes (state sizes journal) x) (head : (state sizes journal).frozen x ≡ true) where
  -- the links of the frozen part are marked
  part_links : (v : ℕ) → stands_in (frozen_part (state sizes journal) x) v ≡ true → mark_of
      (word_at sizes journal (link_at sizes v)) ≡ 1
  part_links v h =
      let c = listing sizes z journal kept in
      let there = (c.on x v (part_listed (state sizes journal).node (state sizes journal).edges
      (state sizes journal).frozen x v h)).there in
      (((link_words sizes z journal kept).each v there).spent (c.handed x v o h)).marked

  -- and so are all words up to one of it
  before_marked : (at p : ChainWord)
      → ((y : ℕ) → at ≡ Next y → stands_in (frozen_part (state sizes journal) x) y ≡ true)
      → IsOn (edge_chain sizes journal x) p → (Precedes (edge_chain sizes journal x) at p → ⊥) →
      (edge_chain sizes journal x).mark p ≡ 1
  before_marked at Head part on not_behind = (((contents sizes z journal kept).each x o.there).vertex o.used
      o.vertex).second_mark ∙ ap mark_bit head
  before_marked Head (Next v) part on not_behind = absurd (not_behind (inl (omega arith)))
  before_marked (Next y) (Next v) part on not_behind =
      let s : State = state sizes journal in
      let test : ℕ → Bool = λ u. (s.node u).marked in
      let h : stands_in (take_while test (s.edges x)) y ≡ true = subst
      (λ (b : Bool). stands_in (cond b (take_while test (s.edges x)) []) y ≡ true) head (part y refl) in
      let rising = (list_met sizes z journal kept x o).rising in
      let in_part : stands_in (take_while test (s.edges x)) v ≡ true =
      part_before (edge_chain sizes journal x) test Head
      (s.edges x) y v rising h on not_behind in
      part_links v (subst (λ (b : Bool). stands_in (cond b (take_while test (s.edges x)) []) v ≡ true) (sym head)
      in_part)

-- the frozen words of a list are a frozen part of its chain
pub frozen_to : (sizes : Sizes) → IsLayout sizes → (journal : List Event) → IsKept sizes journal → (x : ℕ)
    → IsOpenIn sizes (state sizes journal) x → (place : ℕ) (d : IsEnd sizes journal x place) → IsFrozenTo
    (edge_chain sizes journal x) d.at
frozen_to sizes z journal kept x o place d = record {
  present = d.on;
  marks = λ p on not_behind. before_marked sizes z
      journal kept x o d.head d.at p d.part on not_behind;
}
