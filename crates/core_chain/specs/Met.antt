-- A chain as a walker sees it: the nodes that one meets from the head by following the links.
use Rattle.std.specs.Prelude.{◌≡◌, ◌≢◌, ◌↔◌, ℕ, ◌<◌, List, [], ◌∷◌, AllPairs, Contains}
use Rattle.packed_link.specs.Link.{nowhere}
use Rattle.core_chain.specs.Chain.{Chain, ChainWord, Head, Next, IsOn, Precedes, rank_of}

-- following the links from a word on, one meets these nodes, in this order, and then none
abbrev pub MeetsFrom : Chain → ChainWord → List ℕ → Type 0
MeetsFrom chain p [] = chain.next p ≡ nowhere
MeetsFrom chain p (x ∷ xs) = (chain.next p ≡ x) × (x ≢ nowhere) × MeetsFrom chain (Next x) xs

-- each of the nodes stands before the next, and the word before the first
abbrev pub RisesAlong : Chain → ChainWord → List ℕ → Type 0
RisesAlong chain p [] = Unit {0}
RisesAlong chain p (x ∷ xs) = Precedes chain p (Next x) × RisesAlong chain (Next x) xs

-- where a word is unmarked, the node that it leads to has a greater key
abbrev pub RisesUnmarked : Chain → ChainWord → List ℕ → Type 0
RisesUnmarked chain p [] = Unit {0}
RisesUnmarked chain p (x ∷ xs) =
    (chain.mark p ≡ 0 → rank_of chain p < rank_of chain (Next x)) × RisesUnmarked chain (Next x) xs

-- the nodes that one meets from the head are exactly those on the chain, each once, in rising order; two neighbours
-- have one key only where the first is marked
pub record IsMet (chain : Chain) (nodes : List ℕ) : Type 0 where
  pub met : MeetsFrom chain Head nodes
  pub rising : RisesAlong chain Head nodes
  pub unmarked : RisesUnmarked chain Head nodes
  pub once : AllPairs ◌≢◌ nodes
  pub exactly : (x : ℕ) → IsOn chain (Next x) ↔ Contains nodes x
