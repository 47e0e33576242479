-- What a call answers on a graph, and what it changes.
use Rattle.std.specs.Prelude.{ℕ, ◌≤◌, ◌==◌, Bool, true, false, cond, not, ◌&&◌, List, [], ◌∷◌, Option, Some, None}
use Rattle.std.specs.Prelude.{length}
use Rattle.std.specs.List.{concat}
use Rattle.std.specs.FinMap as map
use Rattle.std.specs.FinSet as set
use Rattle.graph_kinds.specs.declared.call.Call.{Call}
use Rattle.graph_kinds.specs.declared.call.Call.TheVariants.{AddVertex, RemoveVertex, HasVertex, AddEdge, RemoveEdge}
use Rattle.graph_kinds.specs.declared.call.Call.TheVariants.{HasEdge, Reach, Levels, Cheapest}
use Rattle.graph_kinds.specs.declared.outcome.Outcome.{Outcome}
use Rattle.graph_kinds.specs.declared.outcome.Outcome.TheVariants as out
use Rattle.graph_kinds.specs.declared.answer.Answer.{Answer}
use Rattle.graph_kinds.specs.Graph.{Graph, has, weight_of}
use Rattle.graph_kinds.specs.Levels.{levels_of, level_ends, reach_path}
use Rattle.graph_kinds.specs.Path.{least_cost, cheapest_path}

-- an edge is added with a weight of at least 1
abbrev pub IsWellMade : Call → Type 0
IsWellMade (AddEdge a b w) = 1 ≤ w
IsWellMade _ = Unit {0}

-- the call asks for a path, or for levels
abbrev pub IsPathCall : Call → Type 0
IsPathCall (Reach a b) = Unit {0}
IsPathCall (Levels a) = Unit {0}
IsPathCall (Cheapest a b) = Unit {0}
IsPathCall _ = ⊥

-- an answer without keys
abbrev pub plain : Outcome → Answer
plain o = record { outcome = o; keys = []; ends = [] }

-- by the weight of a pair: the answer with it where there is such a pair, and another where there is none
abbrev pub by_weight : Option ℕ → (ℕ → Outcome) → Outcome → Answer
by_weight None there gone = plain gone
by_weight (Some w) there gone = plain (there w)

-- a call on two keys is answered NoVertex where one of them is no key, and else as given
abbrev pub on_keys : Graph → ℕ → ℕ → Answer → Answer
on_keys g a b then = cond (has g a && has g b) then (plain out.NoVertex)

-- the answer to reach: Path with the keys of the path, or NoPath where there is none
abbrev pub by_path : Option (List ℕ) → Answer
by_path None = plain out.NoPath
by_path (Some p) = record { outcome = out.Path; keys = p; ends = [] }

-- the answer to levels: how many there are, the keys of all in order, and where each level ends among them
abbrev pub by_levels : List (List ℕ) → Answer
by_levels ls = record { outcome = out.Levels (length ls); keys = concat ls; ends = level_ends 0 ls }

-- the answer to cheapest: Cost with the least cost and the keys of the path, or NoPath where there is none
abbrev pub by_cost : Option ℕ → List ℕ → Answer
by_cost None p = plain out.NoPath
by_cost (Some c) p = record { outcome = out.Cost c; keys = p; ends = [] }

-- an edge that is to be added is there: Present where it has this weight, else Changed
abbrev pub there_with : ℕ → ℕ → Outcome
there_with w x = cond (x == w) (out.Present x) (out.Changed x)

-- what a call answers on a graph
unfoldable pub answer : Graph → Call → Answer
answer g (AddVertex k) = plain (cond (has g k) (out.Present 0) out.Added)
answer g (RemoveVertex k) = plain (cond (has g k) (out.Removed 0) out.Absent)
answer g (HasVertex k) = plain (cond (has g k) out.Yes out.No)
answer g (AddEdge a b w) = on_keys g a b (by_weight (weight_of g a b) (there_with w) out.Added)
answer g (RemoveEdge a b) = on_keys g a b (by_weight (weight_of g a b) out.Removed out.NoEdge)
answer g (HasEdge a b) = on_keys g a b (by_weight (weight_of g a b) out.Edge out.NoEdge)
answer g (Reach a b) = on_keys g a b (by_path (reach_path g a b))
answer g (Levels a) = cond (has g a) (by_levels (levels_of g a)) (plain out.NoVertex)
answer g (Cheapest a b) = on_keys g a b (by_cost (least_cost g a b) (cheapest_path g a b))

-- the outcome tells of a change: something was added or removed
abbrev pub is_change : Outcome → Bool
is_change out.Added = true
is_change (out.Changed w) = true
is_change (out.Removed w) = true
is_change _ = false

-- the outcome tells that something was added
abbrev pub is_added : Outcome → Bool
is_added out.Added = true
is_added (out.Changed w) = true
is_added _ = false

-- the outcome tells that something new is there
abbrev pub is_new : Outcome → Bool
is_new out.Added = true
is_new _ = false

-- the call would make the graph larger: its outcome is Added
unfoldable pub grows : Graph → Call → Bool
grows g call = is_new (answer g call).outcome

-- the call would change the graph: its outcome is Added, Changed or Removed
unfoldable pub alters : Graph → Call → Bool
alters g call = is_change (answer g call).outcome

-- the call would take a node: its outcome is Added or Changed
unfoldable pub needs_node : Graph → Call → Bool
needs_node g call = is_added (answer g call).outcome

-- the graph without a key and without every pair that has it
abbrev pub without : Graph → ℕ → Graph
without g k = record {
  keys = set.remove g.keys k;
  pairs = map.retain_keys g.pairs (λ p. not (p.0 == k) && not (p.1 == k));
}

-- the graph as a call leaves it that alters it; every other call leaves it as it was
abbrev pub change : Graph → Call → Graph
change g (AddVertex k) = record g { keys = set.insert g.keys k }
change g (RemoveVertex k) = without g k
change g (AddEdge a b w) = record g { pairs = map.insert g.pairs (a, b) w }
change g (RemoveEdge a b) = record g { pairs = map.remove g.pairs (a, b) }
change g _ = g

-- the graph after a call: changed where the call alters it, and else the same
unfoldable pub after : Graph → Call → Graph
after g call = cond (alters g call) (change g call) g

-- the graph after calls in order
abbrev pub after_all : Graph → List Call → Graph
after_all g [] = g
after_all g (c ∷ cs) = after_all (after g c) cs

-- the answers to calls in order
abbrev pub answers : Graph → List Call → List Answer
answers g [] = []
answers g (c ∷ cs) = answer g c ∷ answers (after g c) cs
