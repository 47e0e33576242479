-- A path along frozen words from the head of a list to a word that leads to none meets all edges of the list.
use Rattle.std.proofs.Common.{◌≡◌, ◌≢◌, ℕ, List, [], ◌∷◌, ◌++◌, refl, sym, ap, ap₂, ◌∙◌, subst}
use Rattle.packed_link.specs.Link.{index_of, nowhere}
use Rattle.packed_link.specs.Layout.{Sizes, IsLayout, link_at}
use Rattle.core_chain.specs.Chain.{ChainWord, Head, Next}
use Rattle.core_chain.specs.Met.{MeetsFrom}
use Rattle.core_journal.specs.declared.event.Event.{Event}
use Rattle.core_journal.specs.Machine.{word_at}
use Rattle.core_journal.specs.State.{state}
use Rattle.core_kept.specs.Freezing.{IsFrozenWord}
use Rattle.core_kept.specs.Kept.{IsKept}
use Rattle.core_lists.specs.Chains.{KeepsList, edge_chain}
use Rattle.core_lists.specs.FrozenPaths.{FrozenPath}
use Rattle.core_lists.proofs.FrozenToEndIsList.{kept_met}

module _ (sizes : Sizes) (journal : List Event) (x : ℕ) where
  -- the path goes on where its last word is frozen and leads to an edge
  pub path_more : (at : ChainWord) (ys : List ℕ) (place y : ℕ) → FrozenPath sizes journal x at ys place
      → IsFrozenWord sizes journal x place → index_of (word_at sizes journal place) ≡ y → y ≢ nowhere
      → FrozenPath sizes journal x at (ys ++ y ∷ []) (link_at sizes y)
  path_more at [] place y h f leads some = (
    subst (λ (q : ℕ). IsFrozenWord sizes journal x q) (sym h) f,
    ap
        (λ (q : ℕ). index_of (word_at sizes journal q)) h ∙ leads,
    some,
    refl,
  )
  path_more at (d ∷ ds) place y h f leads some = (h.0, h.1, h.2, path_more (Next d) ds place y h.3 f leads some)

  -- where its last word leads to none, what one meets from its first position are these edges
  path_met : (at : ChainWord) (ys nodes : List ℕ) (place : ℕ) → FrozenPath sizes journal x at ys place → index_of
      (word_at sizes journal place) ≡ nowhere → MeetsFrom (edge_chain sizes journal x) at nodes → nodes ≡ ys
  path_met at [] [] place h none m = refl
  path_met at [] (y ∷ ys) place h none m = absurd (m.1 (sym m.0 ∙
      (ap (λ (q : ℕ). index_of (word_at sizes journal q)) h ∙ none)))
  path_met at (d ∷ ds) [] place h none m = absurd (h.2 (sym h.1 ∙ m))
  path_met at (d ∷ ds) (y ∷ ys) place h none m =
      let same : y ≡ d = sym m.0 ∙ h.1 in
      ap₂ (λ (a : ℕ) (l : List ℕ). a ∷ l) same (path_met (Next d) ds ys place h.3 none
      (subst (λ (i : ℕ). MeetsFrom (edge_chain sizes journal x) (Next i) ys) same m.2))

  -- so the path from the head meets the list
  pub path_all : IsLayout sizes → IsKept sizes journal → KeepsList sizes journal x → (ys : List ℕ) (place : ℕ)
      → FrozenPath sizes journal x Head ys place → index_of (word_at sizes journal place) ≡ nowhere →
      (state sizes journal).edges x ≡ ys
  path_all z kept k ys place h none = path_met Head ys ((state sizes journal).edges x) place h none
      (kept_met sizes z journal kept x k).met
