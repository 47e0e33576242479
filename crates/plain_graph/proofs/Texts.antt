-- A text that is given to a sink piece by piece: what was given so far, and what is left.
use Rattle.std.proofs.Common.{◌≡◌, ℕ, List, [], ◌∷◌, ◌++◌, refl, sym, ◌∙◌, append-nil, append_assoc}
use Rattle.std.specs.Prelude.{Option, Result, Ok, Err, IsErr, flat_map, codes}
use Rattle.std.proofs.lemmas.List.Concat.{flat_map-append}
use Rattle.op_text.specs.Gives.{Gives}
use Rattle.op_text.specs.Text.{line, spaced, edge_line}
use Rattle.op_text.proofs.TextWrites.{gives-none, gives-then, gives-stop, gives-as}
use Rattle.plain_graph.specs.Kept.{Edges, pairs_from}

-- a first part of the whole text was given, and the rest is left
pub record GivesFront {K : Type 0} (E : Type 0) (taken : K → Option (List ℕ)) (faults : K → ℕ) (old new : K)
    (rest whole : List ℕ) : Type 0 where
  pub done : List ℕ
  pub given : Gives {E = E} taken faults old new done (Ok tt)
  pub adds : done ++ rest ≡ whole

module _ {K : Type 0} {E : Type 0} {taken : K → Option (List ℕ)} {faults : K → ℕ} where
  -- nothing yet
  pub front-none : (old : K) (whole : List ℕ) → GivesFront E taken faults old old whole whole
  front-none old whole = record { done = []; given = gives-none old; adds = refl }

  -- one piece more
  pub front-more : {old mid new : K} (piece rest whole : List ℕ) → GivesFront E taken faults old mid
      (piece ++ rest) whole → Gives {E = E} taken faults mid new piece (Ok tt)
      → GivesFront E taken faults old new rest whole
  front-more piece rest whole f p = record {
    done = f.done ++ piece;
    given = gives-then f.given p;
    adds = append_assoc
        f.done piece rest ∙ f.adds;
  }

  -- a piece failed
  pub front-stop : {old mid new : K} {e : E} {r : Result (Unit {0}) E} (piece rest whole : List ℕ)
      → GivesFront E taken faults old mid (piece ++ rest) whole → IsErr r → Gives {E = E} taken faults mid new piece
      (Err e) → Gives {E = E} taken faults old new whole r
  front-stop piece rest whole f h p = gives-as f.adds (gives-then f.given (gives-stop rest h p))

  -- nothing is left
  pub front-all : {old new : K} (whole : List ℕ) → GivesFront E taken faults old new [] whole
      → Gives {E = E} taken faults old new whole (Ok tt)
  front-all whole f = gives-as (sym (append-nil f.done) ∙ f.adds) f.given

-- the lines of the pairs of a vertex and of those behind it
pub edge_lines-cons : (v : ℕ × Edges) (vs : List (ℕ × Edges)) → flat_map edge_line
    (flat_map pairs_from (v ∷ vs)) ≡ flat_map edge_line (pairs_from v) ++ flat_map edge_line (flat_map pairs_from vs)
edge_lines-cons v vs = flat_map-append edge_line (pairs_from v) (flat_map pairs_from vs)

-- the line of the keys, as its pieces are given
pub vertices_line-pieces : (ks : List ℕ) → codes "vertices" ++ (spaced ks ++ codes "\n") ≡ line
    (codes "vertices" ++ spaced ks)
vertices_line-pieces ks = sym (append_assoc (codes "vertices") (spaced ks) (codes "\n"))
