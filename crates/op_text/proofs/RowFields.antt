-- The fields of a record, one by one.
use Rattle.std.proofs.Common.{◌≡◌, ℕ, List, [], ◌∷◌, length, Some, arith}
use Rattle.csv.specs.Records.{field_at}

-- five fields, by their places
pub five_fields : (fields : List (List ℕ)) (caller name first second weight : List ℕ) → length fields ≡ 5
    → field_at fields 0 ≡ Some caller → field_at fields 1 ≡ Some name → field_at fields 2 ≡ Some first
    → field_at fields 3 ≡ Some second → field_at fields 4 ≡ Some weight
    → fields ≡ caller ∷ name ∷ first ∷ second ∷ weight ∷ []
unfolding field_at
five_fields (a ∷ b ∷ c ∷ d ∷ e ∷ []) caller name first second weight five at_0 at_1 at_2 at_3 at_4 = cc
five_fields _ caller name first second weight five at_0 at_1 at_2 at_3 at_4 = absurd (omega arith)
