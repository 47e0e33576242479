-- What is true of each row that is made: its keys are its caller's, and it's a row that an input may have.
use Rattle.std.proofs.Common.{◌≡◌, ℕ, ◌+◌, ◌*◌, ◌/◌, ◌%◌, ◌<◌, ◌≤◌, ◌^◌, [], ◌∷◌, length, All, arith}
use Rattle.std.specs.Prelude.{Contains}
use Rattle.std.specs.List.{range_with_len}
use Rattle.std.proofs.lemmas.List.Elements.{All-nil, All-cons, All-map, All-contains}
use Rattle.std.proofs.lemmas.List.FromFn.{length-map-range_with_len}
use Rattle.graph_kinds.specs.Answer.{IsWellMade}
use Rattle.graph_kinds.specs.declared.call.Row.{Row}
use Rattle.op_text.specs.declared.rows.kind.CallKind.{CallKind}
use Rattle.op_text.specs.declared.rows.kind.CallKind.TheVariants as kind
use Rattle.op_text.specs.Rows.{operation}
use Rattle.op_text.specs.RowText.{IsRowFor, call_keys, call_weights}
use Rattle.op_text.specs.Generator.{IsKeyOf, NamesOwnKeys, draw, kind_by_remainder, made_row, made_rows, state_after}
use Rattle.op_text.proofs.Generated.{state_after_more}

module _ (P : ℕ → Type 0) where
  one : (a : ℕ) → P a → All P (a ∷ [])
  one a h = All-cons P a [] h (All-nil P)

  two : (a b : ℕ) → P a → P b → All P (a ∷ b ∷ [])
  two a b h g = All-cons P a (b ∷ []) h (one b g)

  -- what both numbers are, the keys of the call of a kind are
  keys_of_kind : (k : CallKind) (a b w : ℕ) → P a → P b → All P (call_keys ((operation k).call a b w))
  keys_of_kind kind.AddVertex a b w h g = one a h
  keys_of_kind kind.RemoveVertex a b w h g = one a h
  keys_of_kind kind.HasVertex a b w h g = one a h
  keys_of_kind kind.AddEdge a b w h g = two a b h g
  keys_of_kind kind.RemoveEdge a b w h g = two a b h g
  keys_of_kind kind.HasEdge a b w h g = two a b h g
  keys_of_kind kind.Reach a b w h g = two a b h g
  keys_of_kind kind.Levels a b w h g = one a h
  keys_of_kind kind.Cheapest a b w h g = two a b h g

  -- what the third number is, the weight of the call of a kind is
  weights_of_kind : (k : CallKind) (a b w : ℕ) → P w → All P (call_weights ((operation k).call a b w))
  weights_of_kind kind.AddVertex a b w h = All-nil P
  weights_of_kind kind.RemoveVertex a b w h = All-nil P
  weights_of_kind kind.HasVertex a b w h = All-nil P
  weights_of_kind kind.AddEdge a b w h = one w h
  weights_of_kind kind.RemoveEdge a b w h = All-nil P
  weights_of_kind kind.HasEdge a b w h = All-nil P
  weights_of_kind kind.Reach a b w h = All-nil P
  weights_of_kind kind.Levels a b w h = All-nil P
  weights_of_kind kind.Cheapest a b w h = All-nil P

-- a call with a weight of at least 1 is well made
well_made_of_kind : (k : CallKind) (a b w : ℕ) → 1 ≤ w → IsWellMade ((operation k).call a b w)
well_made_of_kind kind.AddVertex a b w h = tt
well_made_of_kind kind.RemoveVertex a b w h = tt
well_made_of_kind kind.HasVertex a b w h = tt
well_made_of_kind kind.AddEdge a b w h = h
well_made_of_kind kind.RemoveEdge a b w h = tt
well_made_of_kind kind.HasEdge a b w h = tt
well_made_of_kind kind.Reach a b w h = tt
well_made_of_kind kind.Levels a b w h = tt
well_made_of_kind kind.Cheapest a b w h = tt

-- a key that is drawn is the caller's
own_key : (caller n : ℕ) → IsKeyOf caller (1000 * caller + n % 32)
own_key caller n = record { low = omega arith; high = omega arith }

-- a draw has 15 bits
draw_small : (number index : ℕ) → draw number index < 32768
draw_small number index = small (state_after number (index + 1)) (below index)
  where
    below : (i : ℕ) → state_after number (i + 1) < 2 ^ 31
    below i = let e = state_after_more number i in omega (arith, e)

    small : (x : ℕ) → x < 2 ^ 31 → x / 65536 < 32768
    small x h = omega arith

pub row_own : (number callers index : ℕ) → NamesOwnKeys (made_row number callers index)
row_own number callers index =
    let caller = index % callers in
    let s = draw number (2 * index + 1) in
    keys_of_kind (IsKeyOf caller) (kind_by_remainder (draw number (2 * index) % 16)) (1000 * caller + s % 32)
    (1000 * caller + s / 32 % 32) (1 + s / 1024) (own_key caller s) (own_key caller (s / 32))

pub row_valid : (number callers index : ℕ) → 1 ≤ callers → callers ≤ 16
    → IsRowFor callers (made_row number callers index)
row_valid number callers index some few =
    let caller = index % callers in
    let s = draw number (2 * index + 1) in
    let k = kind_by_remainder (draw number (2 * index) % 16) in
    let below : caller < callers = omega arith in
    let small : s < 32768 = draw_small number (2 * index + 1) in
    let a = 1000 * caller + s % 32 in
    let b = 1000 * caller + s / 32 % 32 in
    let w = 1 + s / 1024 in
    record {
      caller = below;
      well_made = well_made_of_kind k a b w (omega arith);
      number = omega arith;
      keys = keys_of_kind (λ n. n < 2 ^ 32) k a b w (omega arith) (omega arith);
      weights = weights_of_kind (λ n. n < 2 ^ 32) k a b w (omega arith);
    }

-- what is true of each row, made rows all are
pub each_row : (P : Row → Type 0) (number count callers : ℕ) → ((i : ℕ) → P (made_row number callers i))
    → All P (made_rows number count callers)
unfolding made_rows
each_row P number count callers h =
    All-map P (made_row number callers) (range_with_len 0 count) (λ k d lt. h _)

pub rows_count : (number count callers : ℕ) → length (made_rows number count callers) ≡ count
unfolding made_rows
rows_count number count callers = length-map-range_with_len (made_row number callers) 0 count

-- a key of two callers is of one
pub one_owner : (p q : Row) (key : ℕ) → NamesOwnKeys p → NamesOwnKeys q → Contains (call_keys p.call) key
    → Contains (call_keys q.call) key → p.caller ≡ q.caller
one_owner p q key own_p own_q in_p in_q =
    let a = All-contains (IsKeyOf p.caller) (call_keys p.call) key own_p in_p in
    let b = All-contains (IsKeyOf q.caller) (call_keys q.call) key own_q in_q in
    omega (arith, a.low, a.high, b.low, b.high)
