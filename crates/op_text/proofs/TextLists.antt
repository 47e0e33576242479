-- The texts of lists, a number and a level at a time.
use Rattle.std.proofs.Common.{◌≡◌, ℕ, zero, suc, ◌+◌, ◌-◌, ◌<◌, ◌≤◌, Bool, cond, codes, arith, List, [], ◌∷◌, ◌++◌}
use Rattle.std.proofs.Common.{length, get_or, take, drop, sym, ap, ◌∙◌, add-one, take-append-drop, append-nil}
use Rattle.std.proofs.Common.{append_assoc, drop-drop, length-drop, eq-eqb, ne_eqb}
use Rattle.std.proofs.Math.Dec.{eqb}
use Rattle.std.proofs.Math.Seq.{take-suc, drop-cons}
use Rattle.std.proofs.lemmas.Grind.{flat_map-append}
use Rattle.std.specs.Fmt.{decimal}
use Rattle.op_text.specs.Text.{AreEnds, spaced, barred, levels_by}

-- one number more
pub spaced-more : (numbers : List ℕ) (i : ℕ) → i < length numbers → spaced (take i numbers) ++
    (32 ∷ decimal (get_or numbers i 0)) ≡ spaced (take (i + 1) numbers)
spaced-more numbers i inside =
    let one : spaced (get_or numbers i 0 ∷ []) ≡ 32 ∷ decimal (get_or numbers i 0) = append-nil
    (32 ∷ decimal (get_or numbers i 0)) in
    sym (ap spaced (ap (λ (n : ℕ). take n numbers) (add-one i) ∙ take-suc numbers i 0 inside) ∙ flat_map-append
    (λ (n : ℕ). 32 ∷ decimal n) (take i numbers) (get_or numbers i 0 ∷ []) ∙ ap
    (λ (t : List ℕ). spaced (take i numbers) ++ t) one)

-- the numbers before one, that one, and those behind it
pub spaced-split : (numbers : List ℕ) (i : ℕ) → i < length numbers → spaced (take i numbers) ++
    ((32 ∷ decimal (get_or numbers i 0)) ++ spaced (drop (i + 1) numbers)) ≡ spaced numbers
spaced-split numbers i inside =
    sym (append_assoc (spaced (take i numbers)) (32 ∷ decimal (get_or numbers i 0)) (spaced (drop (i + 1) numbers)))
    ∙ ap (λ (t : List ℕ). t ++ spaced (drop (i + 1) numbers)) (spaced-more numbers i inside)
    ∙ sym (flat_map-append (λ (n : ℕ). 32 ∷ decimal n) (take (i + 1) numbers) (drop (i + 1) numbers))
    ∙ ap spaced (take-append-drop (i + 1) numbers)

-- no level ends behind the keys
ends-inside : (n : ℕ) (keys ends : List ℕ) → AreEnds n keys ends → (later i : ℕ) → i + later + 1 ≡ length ends
    → get_or ends i 0 ≤ length keys
ends-inside n keys ends a zero i is =
    let last : i ≡ n - 1 = omega (arith, a.each) in
    let end : get_or ends i 0 ≡ length keys = ap (λ (k : ℕ). get_or ends k 0) last ∙ a.some (omega (arith, a.each)) in
    omega (arith, end)
ends-inside n keys ends a (suc later) i is =
    omega (arith, a.rise i (omega arith), ends-inside n keys ends a later (i + 1) (omega arith))

pub end-inside : (n : ℕ) (keys ends : List ℕ) → AreEnds n keys ends → (i : ℕ) → i < length ends
    → get_or ends i 0 ≤ length keys
end-inside n keys ends a i inside = ends-inside n keys ends a (length ends - (i + 1)) i (omega arith)

-- the first level, a bar where more follow, and the others
barred-cons : (level keys ends : List ℕ) (end at all : ℕ) → at ≤ all → length ends ≡ all - at
    → (spaced level ++ cond (eqb at all) [] (codes " |")) ++ barred (levels_by end keys ends) ≡ barred
    (level ∷ levels_by end keys ends)
barred-cons level keys [] end at all below count =
    ap (λ (b : Bool). (spaced level ++ cond b [] (codes " |")) ++ []) (eq-eqb at all (omega (arith, count)))
    ∙ append-nil (spaced level ++ [])
    ∙ append-nil (spaced level)
barred-cons level keys (e ∷ ends) end at all below count =
    let more = barred (levels_by end keys (e ∷ ends)) in
    let differ : at ≡ all → ⊥ = λ (same : at ≡ all). omega (arith, count) in
    ap (λ (b : Bool). (spaced level ++ cond b [] (codes " |")) ++ more) (ne_eqb at all differ)
    ∙ append_assoc (spaced level) (codes " |") more

-- the text of the levels behind the first i, which end at `from`
pub barred-step : (keys ends : List ℕ) (i from : ℕ) → i < length ends → from ≤ get_or ends i 0
    → (spaced (take (get_or ends i 0 - from) (drop from keys)) ++ cond (eqb (i + 1) (length ends)) [] (codes " |"))
    ++ barred (levels_by (get_or ends i 0) (drop (get_or ends i 0) keys) (drop (i + 1) ends))
    ≡ barred (levels_by from (drop from keys) (drop i ends))
barred-step keys ends i from inside below =
    let end = get_or ends i 0 in
    let level = take (end - from) (drop from keys) in
    let rest : drop i ends ≡ end ∷ drop (i + 1) ends = drop-cons ends i 0 inside ∙ ap (λ (k : ℕ). end ∷ drop k ends)
    (sym (add-one i)) in
    let behind : drop (end - from) (drop from keys) ≡ drop end keys = drop-drop (end - from) from keys ∙ ap
    (λ (k : ℕ). drop k keys) (omega arith) in
    barred-cons level (drop end keys) (drop (i + 1) ends) end (i + 1) (length ends) (omega arith)
    (length-drop (i + 1) ends)
    ∙ ap (λ (ks : List ℕ). barred (level ∷ levels_by end ks (drop (i + 1) ends))) (sym behind)
    ∙ ap (λ (es : List ℕ). barred (levels_by from (drop from keys) es)) (sym rest)
