-- The level ends of an answer rise, and the last is the number of its keys.
use Rattle.std.proofs.Common.{◌≡◌, ℕ, ◌+◌, ◌-◌, ◌<◌, ◌==◌, true, false, cond, ◌&&◌, List, [], ◌∷◌, ◌++◌, length, get_or}
use Rattle.std.proofs.Common.{Option, Some, None, refl, ap, arith, length-append, add-one}
use Rattle.std.specs.Prelude.{suc, zero}
use Rattle.std.specs.List.{concat}
use Rattle.graph_kinds.specs.declared.call.Call.{Call}
use Rattle.graph_kinds.specs.declared.call.Call.TheVariants.{AddVertex, RemoveVertex, HasVertex, AddEdge, RemoveEdge}
use Rattle.graph_kinds.specs.declared.call.Call.TheVariants.{HasEdge, Reach, Levels, Cheapest}
use Rattle.graph_kinds.specs.declared.outcome.Outcome.{Outcome}
use Rattle.graph_kinds.specs.declared.outcome.Outcome.TheVariants as out
use Rattle.graph_kinds.specs.declared.answer.Answer.{Answer}
use Rattle.graph_kinds.specs.Graph.{Graph, has, weight_of, key_count}
use Rattle.graph_kinds.specs.Levels.{levels_from, levels_of, level_ends, level_after, reach_path}
use Rattle.graph_kinds.specs.Path.{least_cost, cheapest_path}
use Rattle.graph_kinds.specs.Answer.{answer, plain, by_weight, on_keys, by_path, by_levels, by_cost, there_with}
use Rattle.op_text.specs.Text.{AreEnds, IsWritable}

-- no level is empty
abbrev Filled : List (List ℕ) → Type 0
Filled [] = Unit {0}
Filled (l ∷ ls) = (0 < length l) × Filled ls

filled : (g : Graph) (n : ℕ) (known level : List ℕ) → Filled (levels_from g n known level)
filled g zero known level = tt
filled g (suc n) known [] = tt
filled g (suc n) known (x ∷ xs) = (omega arith, filled g n (known ++ x ∷ xs) (level_after g (known ++ x ∷ xs) (x ∷ xs)))

length-level_ends : (n : ℕ) (ls : List (List ℕ)) → length (level_ends n ls) ≡ length ls
length-level_ends n [] = refl
length-level_ends n (l ∷ ls) = ap (λ k. suc k) (length-level_ends (n + length l) ls)

-- each end is above the one before it
rising : (n : ℕ) (ls : List (List ℕ)) → Filled ls → (k : ℕ) → suc k < length (level_ends n ls) → get_or
    (level_ends n ls) k 0 < get_or (level_ends n ls) (suc k) 0
rising n [] f k h = absurd (omega arith)
rising n (l ∷ []) f k h = absurd (omega arith)
rising n (l ∷ m ∷ ls) f zero h = let some = f.1.0 in omega arith
rising n (l ∷ m ∷ ls) f (suc k) h = rising (n + length l) (m ∷ ls) f.1 k (omega arith)

-- the last end is the number of all keys
last : (n : ℕ) (ls : List (List ℕ)) (k : ℕ) → length ls ≡ suc k → get_or (level_ends n ls) k 0 ≡ n + length (concat ls)
last n [] k h = absurd (omega arith)
last n (l ∷ []) zero h = let e = length-append l [] in omega arith
last n (l ∷ []) (suc k) h = absurd (omega arith)
last n (l ∷ m ∷ ls) zero h = absurd (omega arith)
last n (l ∷ m ∷ ls) (suc k) h =
    let rest = last (n + length l) (m ∷ ls) k (omega arith) in
    let e = length-append l (concat (m ∷ ls)) in
    omega arith

no_keys : (ls : List (List ℕ)) → length ls ≡ 0 → concat ls ≡ []
no_keys [] e = refl
no_keys (l ∷ ls) e = absurd (omega arith)

levels_shown : (ls : List (List ℕ)) → Filled ls → AreEnds (length ls) (concat ls) (level_ends 0 ls)
levels_shown ls f = record {
  each = length-level_ends 0 ls;
  rise = λ k h. rw add-one (rising 0 ls f k (omega arith));
  some = λ h. (let e = last 0 ls (length ls - 1) (omega arith) in omega arith);
  none = no_keys ls;
}

abbrev Shown : Answer → Type 0
Shown a = IsWritable a.outcome a.keys a.ends

on_both : (g : Graph) (a b : ℕ) (r : Answer) → Shown r → Shown (on_keys g a b r)
on_both g a b r s = elim (has g a && has g b) as (λ t. Shown (cond t r (plain out.NoVertex))) [ true ↦ s | false ↦ tt ]

weighed : (w : Option ℕ) (there : ℕ → Outcome) (gone : Outcome) → ((x : ℕ) → Shown (plain (there x))) → Shown
    (plain gone) → Shown (by_weight w there gone)
weighed None there gone p q = q
weighed (Some w) there gone p q = p w

there_shown : (w x : ℕ) → Shown (plain (there_with w x))
there_shown w x = elim (x == w) as (λ t. Shown (plain (cond t (out.Present x) (out.Changed x))))
    [ true ↦ tt | false ↦ tt ]

pub answer-shown : (g : Graph) (c : Call) → Shown (answer g c)
unfolding answer
answer-shown g (AddVertex k) = elim (has g k) as (λ b. Shown (plain (cond b (out.Present 0) out.Added)))
    [ true ↦ tt | false ↦ tt ]
answer-shown g (RemoveVertex k) = elim (has g k) as (λ b. Shown (plain (cond b (out.Removed 0) out.Absent)))
    [ true ↦ tt | false ↦ tt ]
answer-shown g (HasVertex k) = elim (has g k) as (λ b. Shown (plain (cond b out.Yes out.No))) [ true ↦ tt | false ↦ tt ]
answer-shown g (AddEdge a b w) = on_both g a b _ (weighed (weight_of g a b) (there_with w) out.Added (there_shown w) tt)
answer-shown g (RemoveEdge a b) = on_both g a b _ (weighed (weight_of g a b) out.Removed out.NoEdge (λ x. tt) tt)
answer-shown g (HasEdge a b) = on_both g a b _ (weighed (weight_of g a b) out.Edge out.NoEdge (λ x. tt) tt)
answer-shown g (Reach a b) = on_both g a b _ (elim (reach_path g a b) as
    (λ p. Shown (by_path p)) [ None ↦ tt | Some p ↦ tt ])
answer-shown g (Levels a) = elim (has g a) as (λ t. Shown (cond t (by_levels (levels_of g a)) (plain out.NoVertex)))
    [ true ↦ levels_shown (levels_of g a) (filled g (key_count g) [] (a ∷ [])) | false ↦ tt ]
answer-shown g (Cheapest a b) = on_both g a b _ (elim (least_cost g a b) as
    (λ c. Shown (by_cost c (cheapest_path g a b))) [ None ↦ tt | Some c ↦ tt ])
