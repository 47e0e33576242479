-- Small graphs, on which the answers were worked out by hand.
use Rattle.std.specs.Prelude.{ℕ, List, [], ◌∷◌}
use Rattle.std.specs.FinMap as map
use Rattle.std.specs.FinSet as set
use Rattle.graph_kinds.specs.Graph.{Graph}

-- the graph of these keys, and of these pairs with their weights; the pairs stand in rising order
abbrev pub graph_from : List ℕ → List ((ℕ × ℕ) × ℕ) → Graph
graph_from keys pairs = record { keys = set.from_list keys; pairs = map.from_sorted pairs }

-- from 1 to 10 over 2 and 9, or over 3 and 4
abbrev pub two_ways : Graph
two_ways =
    graph_from (1 ∷ 2 ∷ 3 ∷ 4 ∷ 9 ∷ 10 ∷ [])
    (((1, 2), 1) ∷ ((1, 3), 1) ∷ ((2, 9), 1) ∷ ((3, 4), 1) ∷ ((4, 10), 1) ∷ ((9, 10), 1) ∷ [])

-- from 1 to 2 by one dear pair, or by two cheap ones
abbrev pub detour : Graph
detour = graph_from (1 ∷ 2 ∷ 3 ∷ []) (((1, 2), 10) ∷ ((1, 3), 1) ∷ ((3, 2), 2) ∷ [])

-- from 1 to 4 over 2 or 3 at the same cost
abbrev pub tie : Graph
tie = graph_from (1 ∷ 2 ∷ 3 ∷ 4 ∷ []) (((1, 2), 2) ∷ ((1, 3), 1) ∷ ((2, 4), 1) ∷ ((3, 4), 2) ∷ [])

-- from 3 no pair leads on
abbrev pub dead_end : Graph
dead_end = graph_from (1 ∷ 2 ∷ 3 ∷ 4 ∷ []) (((1, 2), 1) ∷ ((1, 3), 1) ∷ ((2, 4), 1) ∷ ((4, 1), 1) ∷ [])
