-- A way back is gathered key by key.
use Rattle.std.proofs.Common.{◌≡◌, ℕ, zero, suc, ◌+◌, ◌-◌, ◌<◌, ◌≤◌, Bool, cond, List, [], ◌∷◌, ◌++◌, length, take}
use Rattle.std.proofs.Common.{reverse, get_or, set, append_assoc, sym, ap, ◌∙◌, arith}
use Rattle.std.proofs.lemmas.Bool.{ne_eqb}
use Rattle.scan_record.proofs.Gathered.{one_more}
use Rattle.path_levels.specs.Queue.{trail}

-- a step back, where there are steps left
trail_step : (queue parents : List ℕ) (n p : ℕ) → 0 < p → 0 < n → trail queue parents n p ≡ trail queue parents (n - 1)
    (get_or parents p 0) ++ get_or queue p 0 ∷ []
trail_step queue parents zero p pos some = absurd (omega arith)
trail_step queue parents (suc n) p pos some =
    let less : n ≡ suc n - 1 = omega arith in
    ap (λ (b : Bool). cond b (get_or queue p 0 ∷ []) (trail queue parents n
    (get_or parents p 0) ++ get_or queue p 0 ∷ [])) (ne_eqb p 0 (omega arith))
    ∙ ap (λ (m : ℕ). trail queue parents m (get_or parents p 0) ++ get_or queue p 0 ∷ []) less

trail_start : (queue parents : List ℕ) (n p : ℕ) → p ≡ 0 → trail queue parents n p ≡ get_or queue 0 0 ∷ []
trail_start queue parents zero p e = ap (λ (q : ℕ). get_or queue q 0 ∷ []) e
trail_start queue parents (suc n) p e = ap (trail queue parents (suc n)) e

pub gather_next : (queue parents slot : List ℕ) (goal count at : ℕ) → 0 < at → count + at ≤ goal → count < length slot →
    (way : List ℕ)
    → way ≡ trail queue parents (goal - count) at ++ reverse (take count slot)
    → way ≡ trail queue parents (goal - (count + 1)) (get_or parents at 0) ++ reverse
    (take (count + 1) (set slot count (get_or queue at 0)))
gather_next queue parents slot goal count at pos steps lt way now =
    let less : goal - count - 1 ≡ goal - (count + 1) = omega arith in
    now
    ∙ (ap (λ (xs : List ℕ). xs ++ reverse (take count slot)) (trail_step queue parents (goal - count) at pos
    (omega arith) ∙ ap (λ (m : ℕ). trail queue parents m (get_or parents at 0) ++ get_or queue at 0 ∷ []) less)
    ∙ (append_assoc (trail queue parents (goal - (count + 1)) (get_or parents at 0)) (get_or queue at 0 ∷ [])
    (reverse (take count slot))
    ∙ ap (λ (xs : List ℕ). trail queue parents (goal - (count + 1)) (get_or parents at 0) ++ xs)
    (one_more slot count (get_or queue at 0) lt)))

pub gather_last : (queue parents slot : List ℕ) (goal count at : ℕ) → at ≡ 0 → count < length slot → (way : List ℕ)
    → way ≡ trail queue parents (goal - count) at ++ reverse (take count slot) → reverse
    (take (count + 1) (set slot count (get_or queue 0 0))) ≡ way
gather_last queue parents slot goal count at e lt way now =
    sym (now ∙ (ap (λ (xs : List ℕ). xs ++ reverse (take count slot)) (trail_start queue parents (goal - count) at e)
    ∙ one_more slot count (get_or queue 0 0) lt))
