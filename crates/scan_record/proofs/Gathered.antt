-- Keys are gathered one by one in a slot, and written from its other end.
use Rattle.std.proofs.Common.{◌≡◌, ℕ, zero, suc, ◌+◌, ◌<◌, List, [], ◌∷◌, ◌++◌, length, take, reverse, get_or, set}
use Rattle.std.proofs.Common.{append_assoc, refl, sym, ap, ◌∙◌}
use Rattle.std.proofs.lemmas.List.{take_more, take_more_set, reverse-append}
use Rattle.scan_record.specs.Scan.{ScanValue, IsScan, slot_of}

-- one key more is gathered
pub one_more : (slot : List ℕ) (n key : ℕ) → n < length slot → key ∷ reverse (take n slot) ≡ reverse
    (take (n + 1) (set slot n key))
one_more slot n key lt = sym (ap (λ (xs : List ℕ). reverse xs) (take_more_set slot n key lt) ∙ reverse-append
    (take n slot) (key ∷ []))

-- one key more is written, one fewer is left
pub written_next : (keys slot : List ℕ) (n : ℕ) → n < length slot → (keys ++ get_or slot n 0 ∷ []) ++ reverse
    (take n slot) ≡ keys ++ reverse (take (n + 1) slot)
written_next keys slot n lt =
    append_assoc keys (get_or slot n 0 ∷ []) (reverse (take n slot))
    ∙ ap (λ (xs : List ℕ). keys ++ xs) (sym (ap (λ (xs : List ℕ). reverse xs) (take_more slot n 0 lt) ∙ reverse-append
    (take n slot) (get_or slot n 0 ∷ [])))

-- the slots don't read the answer
pub slot_kept : (s : ScanValue) (keys ends : List ℕ) (slot : ℕ) → slot_of
    (record s { keys = keys; ends = ends }) slot ≡ slot_of s slot
slot_kept s keys ends zero = refl
slot_kept s keys ends (suc zero) = refl
slot_kept s keys ends (suc (suc n)) = refl

-- a slot has a number for each row
pub slot_long : (s : ScanValue) → IsScan s → (slot : ℕ) → length (slot_of s slot) ≡ length s.rows
slot_long s scan zero = scan.slot_zero_of_rows
slot_long s scan (suc zero) = scan.slot_one_of_rows
slot_long s scan (suc (suc n)) = scan.slot_two_of_rows
