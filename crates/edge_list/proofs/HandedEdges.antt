-- The edges that were handed over along a path of frozen words: the next one is new, each stands on this list alone,
-- and
-- at the end they're all of its frozen part.
use Rattle.std.proofs.Common.{◌≡◌, ◌≢◌, ℕ, true, List, [], ◌∷◌, ◌++◌, refl, sym, ap, ap₂, ◌∙◌, subst}
use Rattle.std.specs.Prelude.{AllPairs, Contains}
use Rattle.graph_kinds.specs.History.{Every}
use Rattle.packed_link.specs.Link.{index_of, nowhere}
use Rattle.packed_link.specs.Layout.{Sizes, IsLayout}
use Rattle.core_chain.specs.Chain.{ChainWord, Head}
use Rattle.core_chain.specs.Chain.{Next}
use Rattle.core_chain.specs.Met.{MeetsFrom}
use Rattle.core_epoch.proofs.Lists.{contains_first, contains_later, once_first, once_rest}
use Rattle.core_journal.specs.declared.event.Event.{Event}
use Rattle.core_journal.specs.Machine.{word_at}
use Rattle.core_journal.specs.State.{state}
use Rattle.core_kept.specs.Kept.{IsKept}
use Rattle.core_kept.specs.Nodes.{is_frozen, is_listed}
use Rattle.core_kept.proofs.MetFromHead.{contains_stands}
use Rattle.core_lists.specs.Chains.{KeepsList, edge_chain}
use Rattle.core_lists.specs.FrozenPaths.{FrozenPath}
use Rattle.core_lists.proofs.FrozenPathIsList.{path_all}
use Rattle.core_lists.proofs.FrozenToEndIsList.{kept_met}
use Rattle.core_lists.proofs.ListHolds.{part_listed}
use Rattle.core_lists.proofs.ListHoldsKept.{listing}

module _ (sizes : Sizes) (journal : List Event) (x : ℕ) where
  -- what one meets begins with the path, and goes on with where its last word leads
  record Continues (ys zs : List ℕ) (y : ℕ) : Type 0 where
    pub rest : List ℕ
    pub is : zs ≡ ys ++ y ∷ rest

  path_begins : (at : ChainWord) (ys zs : List ℕ) (place y : ℕ) → FrozenPath sizes journal x at ys place
      → index_of (word_at sizes journal place) ≡ y → y ≢ nowhere → MeetsFrom (edge_chain sizes journal x) at zs
      → Continues ys zs y
  path_begins at [] [] place y h leads some m =
      absurd (some (sym leads ∙ (ap (λ (q : ℕ). index_of (word_at sizes journal q)) (sym h) ∙ m)))
  path_begins at [] (z ∷ zs) place y h leads some m =
      let same : z ≡ y = sym m.0 ∙ (ap (λ (q : ℕ). index_of (word_at sizes journal q)) h ∙ leads) in
      record { rest = zs; is = ap (λ (a : ℕ). a ∷ zs) same }
  path_begins at (d ∷ ds) [] place y h leads some m = absurd (h.2 (sym h.1 ∙ m))
  path_begins at (d ∷ ds) (z ∷ zs) place y h leads some m =
      let same : z ≡ d = sym m.0 ∙ h.1 in
      let more = path_begins (Next d) ds zs place y h.3 leads some
      (subst (λ (i : ℕ). MeetsFrom (edge_chain sizes journal x) (Next i) zs) same m.2) in
      record { rest = more.rest; is = ap₂ (λ (a : ℕ) (l : List ℕ). a ∷ l) same more.is }

-- what stands behind others once isn't among them
behind : (ys rest : List ℕ) (y : ℕ) → Contains (ys ++ y ∷ rest) y
behind [] rest y = contains_first y y rest refl
behind (u ∷ us) rest y = contains_later y u (us ++ y ∷ rest) (behind us rest y)

apart : (ys rest : List ℕ) (y : ℕ) → AllPairs ◌≢◌ (ys ++ y ∷ rest) → Every (λ u. u ≢ y) ys
apart [] rest y once = tt
apart (u ∷ us) rest y once = (
  once_first u (us ++ y ∷ rest) once y (behind us rest y),
  apart us rest y
      (once_rest u (us ++ y ∷ rest) once),
)

-- the next edge wasn't handed over before
pub next_is_new : (sizes : Sizes) → IsLayout sizes → (journal : List Event) → IsKept sizes journal → (x : ℕ)
    → KeepsList sizes journal x → (ys : List ℕ) (place y : ℕ) → FrozenPath sizes journal x Head ys place
    → index_of (word_at sizes journal place) ≡ y → y ≢ nowhere → Every (λ u. u ≢ y) ys
next_is_new sizes z journal kept x list ys place y h leads some =
    let met = kept_met sizes z journal kept x list in
    let c = path_begins sizes journal x Head ys ((state sizes journal).edges x) place y h leads some met.met in
    apart ys c.rest y (subst (AllPairs ◌≢◌) c.is met.once)

-- an edge stands on one list
pub one_list : (sizes : Sizes) → IsLayout sizes → (journal : List Event) → IsKept sizes journal → (x w y : ℕ)
    → is_listed (state sizes journal) x y ≡ true → is_listed (state sizes journal) w y ≡ true → w ≡ x
one_list sizes z journal kept x w y on on' =
    let l = listing sizes z journal kept in sym (l.on w y on').index ∙ (l.on x y on).index

-- behind the end of the path all of the frozen part was handed over
pub all_handed : (sizes : Sizes) → IsLayout sizes → (journal : List Event) → IsKept sizes journal → (x : ℕ)
    → KeepsList sizes journal x → (ys : List ℕ) (place : ℕ) → FrozenPath sizes journal x Head ys place
    → index_of (word_at sizes journal place) ≡ nowhere → (y : ℕ) → is_frozen (state sizes journal) x y ≡ true
    → Contains ys y
all_handed sizes z journal kept x list ys place h none y on =
    let s = state sizes journal in
    subst (λ (l : List ℕ). Contains l y) (path_all sizes journal x z kept list ys place h none)
    (contains_stands y (s.edges x) (part_listed s.node s.edges s.frozen x y on))
