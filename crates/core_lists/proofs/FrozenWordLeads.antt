-- Where a frozen word of a list leads: to an edge that is in the frozen part where it's marked, and to none where the
-- list ends.
use Rattle.std.proofs.Common.{◌≡◌, ◌≢◌, ℕ, List, [], ◌∷◌, Bool, true, false, cond, refl, sym, ap, ◌∙◌, subst}
use Rattle.std.specs.Prelude.{take_while}
use Rattle.graph_kinds.specs.Levels.{stands_in}
use Rattle.packed_link.specs.Link.{nowhere, index_of}
use Rattle.packed_link.specs.Layout.{Sizes, IsLayout}
use Rattle.core_chain.specs.Chain.{Chain, ChainWord, Head, Next}
use Rattle.core_chain.specs.Met.{MeetsFrom}
use Rattle.core_journal.specs.declared.event.Event.{Event}
use Rattle.core_journal.specs.Machine.{word_at}
use Rattle.core_journal.specs.State.{state}
use Rattle.core_kept.specs.Kept.{IsKept}
use Rattle.core_kept.specs.Nodes.{node_in, IsFrozenToEnd, is_frozen}
use Rattle.core_kept.specs.Freezing.{IsFrozenWord}
use Rattle.core_lists.specs.Chains.{list_word, edge_chain, KeepsList}
use Rattle.core_kept.proofs.NodesOnLists.{yes_no, stands_case, stands_here, stands_later, part_more, part_end}
use Rattle.core_lists.proofs.FrozenPart.{frozen_end}
use Rattle.core_lists.proofs.FrozenToEndIsList.{kept_met}

module _ (c : Chain) (test : ℕ → Bool) where
  first_in : (p : ChainWord) (xs : List ℕ) (y : ℕ) → MeetsFrom c p xs → c.next p ≡ y → y ≢ nowhere → test y ≡ true
      → stands_in (take_while test xs) y ≡ true
  first_in p [] y m n some t = absurd (some (sym n ∙ m))
  first_in p (x ∷ xs) y m n some t =
      let same : x ≡ y = sym m.0 ∙ n in
      let yes : test x ≡ true = ap test same ∙ t in
      ap (λ (l : List ℕ). stands_in l y) (part_more test x xs yes) ∙ stands_here x y (take_while test xs) same

  later_in : (p : ChainWord) (xs : List ℕ) (z y : ℕ) → MeetsFrom c p xs → stands_in (take_while test xs) z ≡ true →
      c.next
      (Next z) ≡ y → y ≢ nowhere → test y ≡ true → stands_in (take_while test xs) y ≡ true
  later_in p [] z y m h n some t = absurd (cc)
  later_in p (x ∷ xs) z y m h n some t = yes_no (stands_in (take_while test (x ∷ xs)) y ≡ true) (test x)
      (λ e. ap (λ (l : List ℕ). stands_in l y) (part_more test x xs e) ∙ stands_later x y (take_while test xs)
      (stands_case (stands_in (take_while test xs) y ≡ true) x z (take_while test xs)
      (sym (ap (λ (l : List ℕ). stands_in l z) (part_more test x xs e)) ∙ h)
      (λ same. first_in (Next x) xs y m.2 (ap (λ (u : ℕ). c.next (Next u)) same ∙ n) some t)
      (λ _ later. later_in (Next x) xs z y m.2 later n some t)))
      (λ e. let f : false ≡ true = sym (ap (λ (l : List ℕ). stands_in l z) (part_end test x xs e)) ∙ h in absurd (cc))

  first_ends : (p : ChainWord) (xs : List ℕ) (v : ℕ) → MeetsFrom c p xs → c.next p ≡ nowhere → stands_in xs v ≡ true
      → test v ≡ true
  first_ends p [] v m n h = absurd (cc)
  first_ends p (x ∷ xs) v m n h = absurd (m.1 (sym m.0 ∙ n))

  later_ends : (p : ChainWord) (xs : List ℕ) (z v : ℕ) → MeetsFrom c p xs → stands_in (take_while test xs) z ≡ true →
      c.next
      (Next z) ≡ nowhere → stands_in xs v ≡ true → test v ≡ true
  later_ends p [] z v m h n on = absurd (cc)
  later_ends p (x ∷ xs) z v m h n on = yes_no (test v ≡ true) (test x)
      (λ e. stands_case (test v ≡ true) x v xs on
      (λ same. ap test (sym same) ∙ e)
      (λ _ behind. stands_case (test v ≡ true) x z (take_while test xs)
      (sym (ap (λ (l : List ℕ). stands_in l z) (part_more test x xs e)) ∙ h)
      (λ same. first_ends (Next x) xs v m.2 (ap (λ (u : ℕ). c.next (Next u)) same ∙ n) behind)
      (λ _ later. later_ends (Next x) xs z v m.2 later n behind)))
      (λ e. let f : false ≡ true = sym (ap (λ (l : List ℕ). stands_in l z) (part_end test x xs e)) ∙ h in absurd (cc))

module _ (sizes : Sizes) (z : IsLayout sizes) (journal : List Event) (kept : IsKept sizes journal) (x place : ℕ)
    (k : KeepsList sizes journal x) (f : IsFrozenWord sizes journal x place) where
  abbrev test : ℕ → Bool
  test y = (node_in sizes journal y).marked

  abbrev list : List ℕ
  list = (state sizes journal).edges x

  in_list : (y : ℕ) → is_frozen (state sizes journal) x y ≡ true → stands_in (take_while test list) y ≡ true
  in_list y h = subst (λ (b : Bool). stands_in (cond b (take_while test list) []) y ≡ true) f.head h

  in_part : (y : ℕ) → stands_in (take_while test list) y ≡ true → is_frozen (state sizes journal) x y ≡ true
  in_part y h = subst (λ (b : Bool). stands_in (cond b (take_while test list) []) y ≡ true) (sym f.head) h

  next_at : (at : ChainWord) → list_word sizes x at ≡ place → ((v : ℕ) → at ≡ Next v → is_frozen
      (state sizes journal) x v ≡ true) → (y : ℕ) → index_of (word_at sizes journal place) ≡ y → y ≢ nowhere
      → test y ≡ true → is_frozen (state sizes journal) x y ≡ true
  next_at Head is part y leads some t = in_part y (first_in (edge_chain sizes journal x) test Head list y
      (kept_met sizes z journal kept x k).met (ap (λ (i : ℕ). index_of (word_at sizes journal i)) is ∙ leads) some t)
  next_at (Next v) is part y leads some t = in_part y (later_in (edge_chain sizes journal x) test Head list v y
      (kept_met sizes z journal kept x k).met (in_list v (part v refl))
      (ap (λ (i : ℕ). index_of (word_at sizes journal i)) is ∙ leads) some t)

  -- a marked edge to which a frozen word leads is of the frozen part
  pub frozen_next : (y : ℕ) → index_of (word_at sizes journal place) ≡ y → y ≢ nowhere → test y ≡ true → is_frozen
      (state sizes journal) x y ≡ true
  frozen_next = let d = frozen_end sizes journal x place f in next_at d.at d.place_is d.part

  ends_at : (at : ChainWord) → list_word sizes x at ≡ place → ((v : ℕ) → at ≡ Next v → is_frozen
      (state sizes journal) x v ≡ true) → index_of (word_at sizes journal place) ≡ nowhere → (v : ℕ)
      → stands_in list v ≡ true → test v ≡ true
  ends_at Head is part none v on = first_ends (edge_chain sizes journal x) test Head list v
      (kept_met sizes z journal kept x k).met (ap (λ (i : ℕ). index_of (word_at sizes journal i)) is ∙ none) on
  ends_at (Next u) is part none v on = later_ends (edge_chain sizes journal x) test Head list u v
      (kept_met sizes z journal kept x k).met (in_list u (part u refl))
      (ap (λ (i : ℕ). index_of (word_at sizes journal i)) is ∙ none) on

  -- where a frozen word leads to none, the list is frozen to its end
  pub frozen_finished : index_of (word_at sizes journal place) ≡ nowhere → IsFrozenToEnd sizes journal x
  frozen_finished none = let d = frozen_end sizes journal x place f in record
      { head = f.head; edges = ends_at d.at d.place_is d.part none }
