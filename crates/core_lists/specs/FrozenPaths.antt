-- A path along the frozen words of a list.
use Rattle.std.specs.Prelude.{◌≡◌, ◌≢◌, ℕ, List, [], ◌∷◌}
use Rattle.packed_link.specs.Link.{index_of, nowhere}
use Rattle.packed_link.specs.Layout.{Sizes}
use Rattle.core_chain.specs.Chain.{ChainWord, Next}
use Rattle.core_journal.specs.declared.event.Event.{Event}
use Rattle.core_journal.specs.Machine.{word_at}
use Rattle.core_kept.specs.Freezing.{IsFrozenWord}
use Rattle.core_lists.specs.Chains.{list_word}

-- from a position of the list of a vertex one comes to a place over these edges, each of which a frozen word leads to
abbrev pub FrozenPath : Sizes → List Event → ℕ → ChainWord → List ℕ → ℕ → Type 0
FrozenPath sizes journal x at [] place = list_word sizes x at ≡ place
FrozenPath sizes journal x at (y ∷ ys) place =
    IsFrozenWord sizes journal x (list_word sizes x at)
    × (index_of (word_at sizes journal (list_word sizes x at)) ≡ y) × (y ≢ nowhere)
    × FrozenPath sizes journal x (Next y) ys place
