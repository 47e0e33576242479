-- The words of a new table.
use Rattle.std.proofs.Common.{◌≡◌, ℕ, zero, suc, ◌+◌, ◌==◌, cond, List, [], ◌∷◌, ◌++◌, length, append_assoc, append-nil}
use Rattle.std.proofs.Common.{refl, sym, ap, ap₂, ◌∙◌, arith}
use Rattle.std.specs.Prelude.{flat_map, map, replicate}
use Rattle.std.specs.List.{range_with_len}
use Rattle.std.proofs.lemmas.List.{replicate-append-replicate, map-append}
use Rattle.std.proofs.lemmas.List.FromFn.{length-range_with_len}
use Rattle.std.proofs.lemmas.Grind.{flat_map-append}
use Rattle.packed_link.specs.Link.{pack, nowhere}
use Rattle.packed_link.specs.Layout.{Sizes, Place, word_count}
use Rattle.packed_link.specs.Layout as at
use Rattle.core_journal.specs.Machine.{machine, opening_word, opening_words, node_places}
use Rattle.core_journal.proofs.MachineWords.{length-machine}
use Rattle.graph_table.specs.Opening.{nodes_from}

announced : (sizes : Sizes) (xs : List ℕ) → map (opening_word sizes) (map at.AnnounceWord xs) ≡ replicate (length xs) 0
announced sizes [] = refl
announced sizes (x ∷ xs) = ap (λ (l : List ℕ). 0 ∷ l) (announced sizes xs)

headed : (sizes : Sizes) (xs : List ℕ)
    → map (opening_word sizes) (map at.BucketWord xs) ≡ replicate (length xs) 16777215
headed sizes [] = refl
headed sizes (x ∷ xs) = ap (λ (l : List ℕ). 16777215 ∷ l) (headed sizes xs)

abbrev four : Sizes → ℕ → List ℕ
four sizes i = 0 ∷ pack (cond (i + 1 == sizes.nodes) nowhere (i + 1)) 1 0 ∷ 0 ∷ 0 ∷ []

nodes_map : (sizes : Sizes) (xs : List ℕ) → map (opening_word sizes) (flat_map node_places xs) ≡ flat_map
    (four sizes) xs
nodes_map sizes [] = refl
nodes_map sizes (x ∷ xs) = ap (λ (l : List ℕ). 0 ∷ pack (cond (x + 1 == sizes.nodes) nowhere (x + 1)) 1 0 ∷ 0 ∷ 0 ∷ l)
    (nodes_map sizes xs)

range_last : (a n : ℕ) → range_with_len a (suc n) ≡ range_with_len a n ++ (a + n) ∷ []
range_last a zero = let e : a ≡ a + 0 = omega arith in ap (λ (x : ℕ). x ∷ []) e
range_last a (suc n) = let e : (a + 1) + n ≡ a + suc n = omega arith in ap (λ (l : List ℕ). a ∷ l)
    (range_last (a + 1) n) ∙ ap (λ (x : ℕ). a ∷ (range_with_len (a + 1) n ++ x ∷ [])) e

nodes_all : (sizes : Sizes) (n : ℕ) → nodes_from sizes.nodes n ≡ flat_map (four sizes) (range_with_len 0 n)
nodes_all sizes zero = refl
nodes_all sizes (suc n) =
    let e : 0 + n ≡ n = omega arith in
    ap₂ (λ (l m : List ℕ). l ++ m) (nodes_all sizes n) (sym (append-nil (four sizes n)))
    ∙ (ap (λ (x : ℕ). flat_map (four sizes) (range_with_len 0 n) ++ (four sizes x ++ [])) (sym e)
    ∙ (sym (flat_map-append (four sizes) (range_with_len 0 n) ((0 + n) ∷ [])) ∙ ap (flat_map (four sizes))
    (sym (range_last 0 n))))

pub opened : (sizes : Sizes) → (replicate (4 + sizes.callers) 0 ++ replicate sizes.buckets 16777215) ++ nodes_from
    sizes.nodes sizes.nodes ≡ opening_words sizes
opened sizes =
    let c = sizes.callers in
    let b = sizes.buckets in
    let n = sizes.nodes in
    let r1 = announced sizes (range_with_len 0 c) ∙ ap (λ (k : ℕ). replicate k 0) (length-range_with_len 0 c) in
    let r2 = headed sizes (range_with_len 0 b) ∙ ap (λ (k : ℕ). replicate k 16777215) (length-range_with_len 0 b) in
    let r3 = nodes_map sizes (range_with_len 0 n) ∙ sym (nodes_all sizes n) in
    let tail : map (opening_word sizes) (map at.AnnounceWord (range_with_len 0 c) ++
    (map at.BucketWord (range_with_len 0 b) ++ flat_map node_places (range_with_len 0 n))) ≡ replicate c 0 ++
    (replicate b 16777215 ++ nodes_from n n) =
    map-append (opening_word sizes) (map at.AnnounceWord (range_with_len 0 c))
    (map at.BucketWord (range_with_len 0 b) ++ flat_map node_places (range_with_len 0 n))
    ∙ ap₂ (λ (x y : List ℕ). x ++ y) r1 (map-append (opening_word sizes) (map at.BucketWord (range_with_len 0 b))
    (flat_map node_places (range_with_len 0 n)) ∙ ap₂ (λ (x y : List ℕ). x ++ y) r2 r3) in
    append_assoc (replicate (4 + c) 0) (replicate b 16777215) (nodes_from n n)
    ∙ (ap (λ (l : List ℕ). l ++ (replicate b 16777215 ++ nodes_from n n)) (sym (replicate-append-replicate 4 c 0))
    ∙ ap (λ (l : List ℕ). 0 ∷ 0 ∷ 0 ∷ 0 ∷ l) (sym tail))

pub opening_count : (sizes : Sizes) → length (opening_words sizes) ≡ word_count sizes
unfolding machine
opening_count sizes = length-machine sizes []
