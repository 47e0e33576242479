-- The words of the table: at opening, and after the events of a journal.
use Rattle.std.specs.Prelude.{ℕ, ◌+◌, ◌==◌, cond, List, [], ◌∷◌, ◌++◌, map, flat_map, slice_index, slice_set}
use Rattle.std.specs.List.{range_with_len}
use Rattle.packed_link.specs.Link.{pack, nowhere}
use Rattle.packed_link.specs.Layout.{Sizes, Place}
use Rattle.packed_link.specs.Layout as at
use Rattle.core_journal.specs.declared.event.Event.{Event}

-- the word of each name at opening: all nodes are free, each leads to the next, and the buckets are empty
abbrev pub opening_word : Sizes → Place → ℕ
opening_word sizes at.MeetingWord = 0
opening_word sizes at.NumberWord = 0
opening_word sizes at.EpochWord = 0
opening_word sizes at.FreeWord = pack 0 0 0
opening_word sizes (at.AnnounceWord caller) = 0
opening_word sizes (at.BucketWord bucket) = pack nowhere 0 0
opening_word sizes (at.KeyWord index) = 0
opening_word sizes (at.LinkWord index) = pack (cond (index + 1 == sizes.nodes) nowhere (index + 1)) 1 0
opening_word sizes (at.SecondWord index) = 0
opening_word sizes (at.ThirdWord index) = 0

-- the four words of a node
abbrev pub node_places : ℕ → List Place
node_places index = at.KeyWord index ∷ at.LinkWord index ∷ at.SecondWord index ∷ at.ThirdWord index ∷ []

-- the names of all words, in the order of their places
abbrev pub places : Sizes → List Place
places sizes =
    (at.MeetingWord ∷ at.NumberWord ∷ at.EpochWord ∷ at.FreeWord ∷ [])
    ++ (map at.AnnounceWord (range_with_len 0 sizes.callers)
    ++ (map at.BucketWord (range_with_len 0 sizes.buckets)
    ++ flat_map node_places (range_with_len 0 sizes.nodes)))

-- all words at opening
abbrev pub opening_words : Sizes → List ℕ
opening_words sizes = map (opening_word sizes) (places sizes)

-- words in which each event has written its word, in order
abbrev pub rewritten : List ℕ → List Event → List ℕ
rewritten words [] = words
rewritten words (e ∷ es) = rewritten (slice_set words e.place e.word) es

-- all words after a journal
unfoldable pub machine : Sizes → List Event → List ℕ
machine sizes journal = rewritten (opening_words sizes) journal

-- the word at one place after a journal
unfoldable pub word_at : Sizes → List Event → ℕ → ℕ
word_at sizes journal place = slice_index (machine sizes journal) place
