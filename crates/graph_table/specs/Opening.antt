-- The words of the nodes of a new table.
use Rattle.std.specs.Prelude.{ℕ, zero, suc, ◌+◌, ◌==◌, cond, List, [], ◌∷◌, ◌++◌}
use Rattle.packed_link.specs.Link.{pack, nowhere}

-- the words of the first nodes of so many: each link leads to the next node, and the last one to none
abbrev pub nodes_from : ℕ → ℕ → List ℕ
nodes_from nodes zero = []
nodes_from nodes (suc i) = nodes_from nodes i ++ (0 ∷ pack (cond (i + 1 == nodes) nowhere (i + 1)) 1 0 ∷ 0 ∷ 0 ∷ [])
