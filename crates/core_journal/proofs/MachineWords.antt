-- The words of the machine: at opening, where an event wrote, and elsewhere.
use Rattle.std.proofs.Common.{◌≡◌, ◌≢◌, ℕ, zero, suc, ◌+◌, ◌*◌, ◌<◌, List, [], ◌∷◌, ◌++◌, length, set, get_or, map}
use Rattle.std.proofs.Common.{flat_map, refl, ap, ◌∙◌, arith, length-set, get_or-set_same, get_or-set_other}
use Rattle.std.specs.List.{range_with_len}
use Rattle.packed_link.specs.Layout.{Sizes, Place, IsPlace, place_of, word_count}
use Rattle.packed_link.specs.Layout as at
use Rattle.core_journal.specs.declared.event.Event.{Event}
use Rattle.core_journal.specs.Machine.{opening_word, node_places, opening_words, rewritten, machine, word_at}

module _ (f : Place → ℕ) where
  -- the words behind a row of names
  row_behind : (g : ℕ → Place) (a n k : ℕ) (rest : List Place) → get_or (map f (map g (range_with_len a n) ++ rest))
      (n + k) 0 ≡ get_or (map f rest) k 0
  row_behind g a zero k rest = let e : zero + k ≡ k = omega arith in ap (λ i. get_or (map f rest) i 0) e
  row_behind g a (suc n) k rest =
      let e : suc n + k ≡ suc (n + k) = omega arith in
      ap (λ i. get_or (map f (map g (range_with_len a (suc n)) ++ rest)) i 0) e ∙ row_behind g (a + 1) n k rest

  -- a word of a row of names
  row_word : (g : ℕ → Place) (a n k : ℕ) (rest : List Place) → k < n → get_or
      (map f (map g (range_with_len a n) ++ rest)) k 0 ≡ f (g (a + k))
  row_word g a zero k rest h = absurd (omega arith)
  row_word g a (suc n) zero rest h = let e : a ≡ a + 0 = omega arith in ap (λ i. f (g i)) e
  row_word g a (suc n) (suc k) rest h = let e : a + 1 + k ≡ a + suc k = omega arith in row_word g (a + 1) n k rest
      (omega arith) ∙ ap (λ i. f (g i)) e

  first_node : (x j : ℕ) (rest : List Place) → j < 4 → get_or (map f (node_places x ++ rest)) j 0 ≡ get_or
      (map f (node_places x)) j 0
  first_node x zero rest h = refl
  first_node x (suc zero) rest h = refl
  first_node x (suc (suc zero)) rest h = refl
  first_node x (suc (suc (suc zero))) rest h = refl
  first_node x (suc (suc (suc (suc j)))) rest h = absurd (omega arith)

  -- a word of a node
  node_word : (a n k j : ℕ) → k < n → j < 4 → get_or (map f (flat_map node_places (range_with_len a n)))
      (4 * k + j) 0 ≡ get_or (map f (node_places (a + k))) j 0
  node_word a zero k j h low = absurd (omega arith)
  node_word a (suc n) zero j h low =
      let e : 4 * 0 + j ≡ j = omega arith in
      let x : a ≡ a + 0 = omega arith in
      ap (λ i. get_or (map f (flat_map node_places (range_with_len a (suc n)))) i 0) e
      ∙ (first_node a j (flat_map node_places (range_with_len (a + 1) n)) low ∙ ap
      (λ y. get_or (map f (node_places y)) j 0) x)
  node_word a (suc n) (suc k) j h low =
      let e : 4 * suc k + j ≡ suc (suc (suc (suc (4 * k + j)))) = omega arith in
      let x : a + 1 + k ≡ a + suc k = omega arith in
      ap (λ i. get_or (map f (flat_map node_places (range_with_len a (suc n)))) i 0) e
      ∙ (node_word (a + 1) n k j (omega arith) low ∙ ap (λ y. get_or (map f (node_places y)) j 0) x)

  length_row : (g : ℕ → Place) (a n : ℕ) (rest : List Place) → length
      (map f (map g (range_with_len a n) ++ rest)) ≡ n + length (map f rest)
  length_row g a zero rest = omega arith
  length_row g a (suc n) rest = omega (arith, length_row g (a + 1) n rest)

  length_nodes : (a n : ℕ) → length (map f (flat_map node_places (range_with_len a n))) ≡ 4 * n
  length_nodes a zero = refl
  length_nodes a (suc n) = omega (arith, length_nodes (a + 1) n)

length_opening : (sizes : Sizes) → length (opening_words sizes) ≡ word_count sizes
length_opening sizes =
    let f = opening_word sizes in
    let nodes : List Place = flat_map node_places (range_with_len 0 sizes.nodes) in
    let buckets : List Place = map at.BucketWord (range_with_len 0 sizes.buckets) ++ nodes in
    omega (
      arith,
      length_row f at.AnnounceWord 0 sizes.callers buckets,
      length_row f at.BucketWord 0 sizes.buckets nodes,
      length_nodes f 0 sizes.nodes,
    )

-- each word at opening is that of its name
pub opening-at : (sizes : Sizes) (p : Place) → IsPlace sizes p → get_or (opening_words sizes)
    (place_of sizes p) 0 ≡ opening_word sizes p
opening-at sizes p h = by p h
  where
    f : Place → ℕ
    f = opening_word sizes

    nodes : List Place
    nodes = flat_map node_places (range_with_len 0 sizes.nodes)

    buckets : List Place
    buckets = map at.BucketWord (range_with_len 0 sizes.buckets) ++ nodes

    behind_callers : (i k : ℕ) → i ≡ 4 + sizes.callers + k → get_or (opening_words sizes) i 0 ≡ get_or
        (map (opening_word sizes) (map at.BucketWord (range_with_len 0 sizes.buckets) ++ flat_map node_places
        (range_with_len 0 sizes.nodes))) k 0
    behind_callers i k e =
        let s : i ≡ suc (suc (suc (suc (sizes.callers + k)))) = omega arith in
        ap (λ j. get_or (opening_words sizes) j 0) s ∙ row_behind (opening_word sizes) at.AnnounceWord 0 sizes.callers k
        (map at.BucketWord (range_with_len 0 sizes.buckets) ++ flat_map node_places (range_with_len 0 sizes.nodes))

    behind_buckets : (i k : ℕ) → i ≡ 4 + sizes.callers + sizes.buckets + k → get_or (opening_words sizes) i 0 ≡ get_or
        (map (opening_word sizes) (flat_map node_places (range_with_len 0 sizes.nodes))) k 0
    behind_buckets i k e = behind_callers i (sizes.buckets + k) (omega arith) ∙ row_behind
        (opening_word sizes) at.BucketWord 0 sizes.buckets k (flat_map node_places (range_with_len 0 sizes.nodes))

    of_node : (i x j : ℕ) → i ≡ 4 + sizes.callers + sizes.buckets + 4 * x + j → x < sizes.nodes → j < 4 → get_or
        (opening_words sizes) i 0 ≡ get_or (map (opening_word sizes) (node_places x)) j 0
    of_node i x j e h low =
        let z : 0 + x ≡ x = omega arith in
        behind_buckets i (4 * x + j) (omega arith) ∙ (node_word (opening_word sizes) 0 sizes.nodes x j h low ∙ ap
        (λ y. get_or (map (opening_word sizes) (node_places y)) j 0) z)

    by : (p : Place) → IsPlace sizes p → get_or (opening_words sizes) (place_of sizes p) 0 ≡ opening_word sizes p
    by at.MeetingWord h = refl
    by at.NumberWord h = refl
    by at.EpochWord h = refl
    by at.FreeWord h = refl
    by (at.AnnounceWord i) h =
        let s : 4 + i ≡ suc (suc (suc (suc i))) = omega arith in
        ap (λ j. get_or (opening_words sizes) j 0) s ∙ row_word (opening_word sizes) at.AnnounceWord 0 sizes.callers i
        (map at.BucketWord (range_with_len 0 sizes.buckets) ++ flat_map node_places (range_with_len 0 sizes.nodes)) h
    by (at.BucketWord j) h =
        let z : 0 + j ≡ j = omega arith in
        behind_callers (4 + sizes.callers + j) j refl
        ∙ row_word (opening_word sizes) at.BucketWord 0 sizes.buckets j
        (flat_map node_places (range_with_len 0 sizes.nodes)) h
    by (at.KeyWord x) h = of_node (4 + sizes.callers + sizes.buckets + 4 * x) x 0 (omega arith) h (omega arith)
    by (at.LinkWord x) h = of_node (4 + sizes.callers + sizes.buckets + 4 * x + 1) x 1 refl h (omega arith)
    by (at.SecondWord x) h = of_node (4 + sizes.callers + sizes.buckets + 4 * x + 2) x 2 refl h (omega arith)
    by (at.ThirdWord x) h = of_node (4 + sizes.callers + sizes.buckets + 4 * x + 3) x 3 refl h (omega arith)

rewritten-append : (words : List ℕ) (xs ys : List Event) → rewritten words (xs ++ ys) ≡ rewritten
    (rewritten words xs) ys
rewritten-append words [] ys = refl
rewritten-append words (x ∷ xs) ys = rewritten-append (set words x.place x.word) xs ys

length-rewritten : (words : List ℕ) (xs : List Event) → length (rewritten words xs) ≡ length words
length-rewritten words [] = refl
length-rewritten words (x ∷ xs) = length-rewritten (set words x.place x.word) xs ∙ length-set words x.place x.word

-- the table keeps its size
pub length-machine : (sizes : Sizes) (journal : List Event) → length (machine sizes journal) ≡ word_count sizes
unfolding machine
length-machine sizes journal = length-rewritten (opening_words sizes) journal ∙ length_opening sizes

-- one more event writes its word
pub machine-snoc : (sizes : Sizes) (journal : List Event) (e : Event) → machine sizes (journal ++ e ∷ []) ≡ set
    (machine sizes journal) e.place e.word
unfolding machine
machine-snoc sizes journal e = rewritten-append (opening_words sizes) journal (e ∷ [])

-- the word that an event wrote
pub word_here : (sizes : Sizes) (journal : List Event) (e : Event) → e.place < word_count sizes → word_at sizes
    (journal ++ e ∷ []) e.place ≡ e.word
unfolding word_at
word_here sizes journal e h = rw (machine-snoc sizes journal e)
    (get_or-set_same (machine sizes journal) e.place e.word 0 (omega (arith, length-machine sizes journal)))

-- any other word
pub word_else : (sizes : Sizes) (journal : List Event) (e : Event) (i : ℕ) → i ≢ e.place → word_at sizes
    (journal ++ e ∷ []) i ≡ word_at sizes journal i
unfolding word_at
word_else sizes journal e i ne = rw (machine-snoc sizes journal e)
    (get_or-set_other (machine sizes journal) e.place i e.word 0 ne)

-- the word at opening
pub word_first : (sizes : Sizes) (p : Place) → IsPlace sizes p → word_at sizes []
    (place_of sizes p) ≡ opening_word sizes p
unfolding word_at machine
word_first sizes p h = opening-at sizes p h
