-- The line of an edge, piece by piece.
use Rattle.std.proofs.Common.{◌≡◌, ℕ, List, [], ◌∷◌, ◌++◌, append-nil, append_assoc}
use Rattle.std.specs.Prelude.{codes}
use Rattle.std.specs.Fmt.{decimal}
use Rattle.op_text.specs.Text.{edge_line}

-- the line of a pair, as its pieces are given
abbrev pub behind_to : ℕ → List ℕ
behind_to w = (32 ∷ decimal w) ++ codes "\n"

abbrev pub behind_from : ℕ → ℕ → List ℕ
behind_from b w = (32 ∷ decimal b) ++ behind_to w

abbrev pub behind_word : ℕ → ℕ → ℕ → List ℕ
behind_word a b w = (32 ∷ decimal a) ++ behind_from b w

regroup : (x y z w n : List ℕ) → x ++ (y ++ (z ++ (w ++ n))) ≡ (x ++ (y ++ (z ++ (w ++ [])))) ++ n
regroup x y z w n = simp (append_assoc, append-nil)

pub edge_line-pieces : (a b w : ℕ) → codes "edge" ++ behind_word a b w ≡ edge_line ((a, b), w)
edge_line-pieces a b w = regroup (codes "edge") (32 ∷ decimal a) (32 ∷ decimal b) (32 ∷ decimal w) (codes "\n")
