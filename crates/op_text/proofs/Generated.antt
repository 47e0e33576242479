-- The rows that draws give, one after the other.
use Rattle.std.proofs.Common.{◌≡◌, ℕ, ◌+◌, ◌*◌, ◌/◌, ◌%◌, ◌^◌, List, [], ◌∷◌, ◌++◌, sym, ap, refl, ◌∙◌, arith}
use Rattle.std.proofs.Common.{add-one, zero-add}
use Rattle.std.proofs.lemmas.List.FromFn.{map-range_with_len_more}
use Rattle.graph_kinds.specs.declared.call.Call.{Call}
use Rattle.graph_kinds.specs.declared.call.Row.{Row}
use Rattle.op_text.specs.Generator.{draw, drawn_call, made_row, made_rows, state_after}

-- the state after one more draw
pub state_after_more : (number count : ℕ) → state_after number (count + 1) ≡
    (1103515245 * state_after number count + 12345) % 2 ^ 31
state_after_more number count = rw (add-one count) refl

-- no rows yet
pub made_none : (number callers : ℕ) (rows : List Row) → rows ≡ [] → rows ≡ made_rows number 0 callers
unfolding made_rows
made_none number callers rows none = none

-- one more row
pub made_more : (number callers i : ℕ) (rows : List Row) (row : Row) → rows ≡ made_rows number i callers
    → row ≡ made_row number callers i → rows ++ row ∷ [] ≡ made_rows number (i + 1) callers
unfolding made_rows
made_more number callers i rows row before is =
    ap (λ (rs : List Row). rs ++ row ∷ []) before
    ∙ ap (λ (r : Row). made_rows number i callers ++ r ∷ []) is
    ∙ sym (map-range_with_len_more (made_row number callers) 0 i i (zero-add i))

-- the state after the two draws of a row
pub state_after_row : (number i s t u : ℕ) → s ≡ state_after number (2 * i) → t ≡ (1103515245 * s + 12345) % 2 ^ 31
    → u ≡ (1103515245 * t + 12345) % 2 ^ 31
    → (t ≡ state_after number (2 * i + 1)) × (u ≡ state_after number (2 * i + 1 + 1))
state_after_row number i s t u at_s at_t at_u =
    let first : t ≡ state_after number (2 * i + 1) =
    at_t ∙ ap (λ (x : ℕ). (1103515245 * x + 12345) % 2 ^ 31) at_s ∙ sym (state_after_more number (2 * i)) in (
      first,
      at_u ∙ ap (λ (x : ℕ). (1103515245 * x + 12345) % 2 ^ 31) first ∙ sym (state_after_more number (2 * i + 1)),
    )

-- the row of two draws
pub row_of_draws : (number callers i t u first second : ℕ) (call : Call) → t ≡ state_after number (2 * i + 1)
    → u ≡ state_after number (2 * i + 1 + 1) → first ≡ t / 65536 → second ≡ u / 65536
    → call ≡ drawn_call (i % callers) first second
    → record { caller = i % callers; call = call } ≡ made_row number callers i
row_of_draws number callers i t u first second call at_t at_u one two is =
    let a : first ≡ draw number (2 * i) = one ∙ ap (λ (x : ℕ). x / 65536) at_t in
    let b : second ≡ draw number (2 * i + 1) = two ∙ ap (λ (x : ℕ). x / 65536) at_u in
    ap (λ (c : Call). record { caller = i % callers; call = c }) (is
    ∙ ap (λ (r : ℕ). drawn_call (i % callers) r second) a
    ∙ ap (λ (s : ℕ). drawn_call (i % callers) (draw number (2 * i)) s) b)

-- twice the next index
pub twice_next : (number i : ℕ) → state_after number (2 * i + 1 + 1) ≡ state_after number (2 * (i + 1))
twice_next number i = let e : 2 * i + 1 + 1 ≡ 2 * (i + 1) = omega arith in ap (state_after number) e
