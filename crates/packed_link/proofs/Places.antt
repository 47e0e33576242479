-- Laws of the places: no two words meet, all lie within the table, and there are no others.
use Rattle.std.proofs.Common.{◌≡◌, ℕ, zero, suc, ◌+◌, ◌-◌, ◌/◌, ◌%◌, ◌<◌, ◌≤◌, refl, ap, arith, ⊎_elim}
use Rattle.std.proofs.lemmas.Bool.{cases_lt, cases_eq}
use Rattle.packed_link.specs.Layout.{Sizes, Place, IsPlace, place_of, word_count}
use Rattle.packed_link.specs.Layout.{MeetingWord, NumberWord, EpochWord, FreeWord, AnnounceWord, BucketWord, KeyWord}
use Rattle.packed_link.specs.Layout.{LinkWord, SecondWord, ThirdWord}

-- two names of one word are one name
pub place_of-injective : (sizes : Sizes) (p q : Place)
    → IsPlace sizes p → IsPlace sizes q → place_of sizes p ≡ place_of sizes q → p ≡ q
place_of-injective sizes MeetingWord MeetingWord hp hq same = refl
place_of-injective sizes NumberWord NumberWord hp hq same = refl
place_of-injective sizes EpochWord EpochWord hp hq same = refl
place_of-injective sizes FreeWord FreeWord hp hq same = refl
place_of-injective sizes (AnnounceWord i) (AnnounceWord j) hp hq same = ap AnnounceWord (omega arith)
place_of-injective sizes (BucketWord i) (BucketWord j) hp hq same = ap BucketWord (omega arith)
place_of-injective sizes (KeyWord i) (KeyWord j) hp hq same = ap KeyWord (omega arith)
place_of-injective sizes (LinkWord i) (LinkWord j) hp hq same = ap LinkWord (omega arith)
place_of-injective sizes (SecondWord i) (SecondWord j) hp hq same = ap SecondWord (omega arith)
place_of-injective sizes (ThirdWord i) (ThirdWord j) hp hq same = ap ThirdWord (omega arith)
place_of-injective sizes _ _ hp hq same = absurd (omega arith)

-- each word lies within the table
pub place_of-bound : (sizes : Sizes) (p : Place) → IsPlace sizes p → place_of sizes p < word_count sizes
place_of-bound sizes MeetingWord hp = omega arith
place_of-bound sizes NumberWord hp = omega arith
place_of-bound sizes EpochWord hp = omega arith
place_of-bound sizes FreeWord hp = omega arith
place_of-bound sizes (AnnounceWord i) hp = omega arith
place_of-bound sizes (BucketWord i) hp = omega arith
place_of-bound sizes (KeyWord i) hp = omega arith
place_of-bound sizes (LinkWord i) hp = omega arith
place_of-bound sizes (SecondWord i) hp = omega arith
place_of-bound sizes (ThirdWord i) hp = omega arith

-- the name of the word at a place of the table
abbrev NameOf : Sizes → ℕ → Type 0
NameOf sizes i = (p : Place) × IsPlace sizes p × (place_of sizes p ≡ i)

-- a place among the words of the nodes: by its remainder modulo 4
named_word : (sizes : Sizes) (i : ℕ) → 4 + sizes.callers + sizes.buckets ≤ i → i < word_count sizes → NameOf sizes i
named_word sizes i low high =
    let from : ℕ = i - (4 + sizes.callers + sizes.buckets) in
    ⊎_elim (λ (key : from % 4 ≡ 0). (KeyWord (from / 4), omega arith, omega arith)) (λ (key : from % 4 ≡ 0 → ⊥).
    ⊎_elim (λ (link : from % 4 ≡ 1). (LinkWord (from / 4), omega arith, omega arith)) (λ (link : from % 4 ≡ 1 → ⊥).
    ⊎_elim (λ (second : from % 4 ≡ 2). (SecondWord (from / 4), omega arith, omega arith))
    (λ (second : from % 4 ≡ 2 → ⊥).
    (ThirdWord (from / 4), omega arith, omega arith))
    (cases_eq (from % 4) 2)) (cases_eq (from % 4) 1)) (cases_eq (from % 4) 0)

-- a place behind the counters
named_list : (sizes : Sizes) (i : ℕ) → 4 ≤ i → i < word_count sizes → NameOf sizes i
named_list sizes i low high =
    ⊎_elim (λ (announcement : i < 4 + sizes.callers). (AnnounceWord (i - 4), omega arith, omega arith))
    (λ (behind : 4 + sizes.callers ≤ i).
    ⊎_elim (λ (bucket : i < 4 + sizes.callers + sizes.buckets).
    (BucketWord (i - 4 - sizes.callers), omega arith, omega arith))
    (λ (node : 4 + sizes.callers + sizes.buckets ≤ i). named_word sizes i node high)
    (cases_lt i (4 + sizes.callers + sizes.buckets))) (cases_lt i (4 + sizes.callers))

-- each place of the table is that of a word
pub place_of-onto : (sizes : Sizes) (i : ℕ) → i < word_count sizes → NameOf sizes i
place_of-onto sizes zero high = (MeetingWord, tt, refl)
place_of-onto sizes (suc zero) high = (NumberWord, tt, refl)
place_of-onto sizes (suc (suc zero)) high = (EpochWord, tt, refl)
place_of-onto sizes (suc (suc (suc zero))) high = (FreeWord, tt, refl)
place_of-onto sizes (suc (suc (suc (suc i)))) high = named_list sizes _ (omega arith) high
