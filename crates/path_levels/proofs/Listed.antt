-- The levels that a search has listed, and the level that it is at.
use Rattle.std.proofs.Common.{◌≡◌, ◌≢◌, ℕ, zero, suc, ◌+◌, ◌≤◌, true, List, [], ◌∷◌, ◌++◌, length, append_assoc}
use Rattle.std.proofs.Common.{append-nil, refl, sym, ap, ◌∙◌, arith, length-append}
use Rattle.std.specs.List.{concat}
use Rattle.graph_kinds.specs.Graph.{Graph, IsGraph, has, key_count}
use Rattle.graph_kinds.specs.Levels.{level_after, levels_from, levels_of, level_ends}
use Rattle.graph_kinds.proofs.LevelsTurns.{IsTurn, first_turn, next_turn, none_left}

-- the levels from a are the listed ones, and those from this level on
pub record IsListed (g : Graph) (a : ℕ) (listed : List (List ℕ)) (level : List ℕ) : Type 0 where
  pub turns : ℕ
  pub rest : levels_of g a ≡ listed ++ levels_from g turns (concat listed) level
  pub enough : key_count g ≤ length (concat listed) + turns
  pub turn : IsTurn g a (length listed) (concat listed) level

pub first_listed : (g : Graph) (a : ℕ) → IsListed g a [] (a ∷ [])
first_listed g a = record { turns = key_count g; rest = refl; enough = omega arith; turn = first_turn g a }

pub concat-push : (listed : List (List ℕ)) (level : List ℕ) → concat (listed ++ level ∷ []) ≡ concat listed ++ level
concat-push [] level = append-nil level
concat-push (l ∷ listed) level = ap (λ (zs : List ℕ). l ++ zs) (concat-push listed level) ∙ sym
    (append_assoc l (concat listed) level)

pub next_listed : (g : Graph) (a : ℕ) → IsGraph g → has g a ≡ true → (listed : List (List ℕ)) (level : List ℕ)
    → IsListed g a listed level → level ≢ [] → IsListed g a (listed ++ level ∷ [])
    (level_after g (concat listed ++ level) level)
next_listed g a is there listed [] l filled = absurd (filled refl)
next_listed g a is there listed (x ∷ xs) l filled = from l.turns l.rest l.enough
  where
    level : List ℕ
    level = x ∷ xs

    known : List ℕ
    known = concat listed

    next : List ℕ
    next = level_after g (known ++ x ∷ xs) (x ∷ xs)

    longer : length (listed ++ (x ∷ xs) ∷ []) ≡ suc (length listed)
    longer = omega (arith, length-append listed ((x ∷ xs) ∷ []))

    all : concat (listed ++ (x ∷ xs) ∷ []) ≡ concat listed ++ x ∷ xs
    all = concat-push listed (x ∷ xs)

    turned : IsTurn g a (length (listed ++ (x ∷ xs) ∷ [])) (concat (listed ++ (x ∷ xs) ∷ []))
        (level_after g (concat listed ++ x ∷ xs) (x ∷ xs))
    turned = rw (longer, all) (next_turn g a (length listed) (concat listed) (x ∷ xs) l.turn)

    from : (turns : ℕ) → levels_of g a ≡ listed ++ levels_from g turns (concat listed) (x ∷ xs) → key_count g ≤ length
        (concat listed) + turns
        → IsListed g a (listed ++ (x ∷ xs) ∷ []) (level_after g (concat listed ++ x ∷ xs) (x ∷ xs))
    from zero rest enough = absurd (filled (none_left g a (length listed) (concat listed) (x ∷ xs) l.turn is there
        (omega (arith, enough))))
    from (suc n) rest enough = record {
      turns = n;
      rest = rw all (rest ∙ sym (append_assoc listed ((x ∷ xs) ∷ [])
          (levels_from g n (concat listed ++ x ∷ xs) (level_after g (concat listed ++ x ∷ xs) (x ∷ xs)))));
      enough = omega (arith, enough, ap length all, length-append (concat listed) (x ∷ xs));
      turn = turned;
    }

-- behind an empty level there is none
pub all_listed : (g : Graph) (a : ℕ) (listed : List (List ℕ)) → IsListed g a listed [] → levels_of g a ≡ listed
all_listed g a listed l = from l.turns l.rest
  where
    from : (turns : ℕ) → levels_of g a ≡ listed ++ levels_from g turns (concat listed) [] → levels_of g a ≡ listed
    from zero rest = rest ∙ append-nil listed
    from (suc n) rest = rest ∙ append-nil listed

-- one more level ends where the keys up to it end
pub level_ends-push : (n : ℕ) (listed : List (List ℕ)) (level : List ℕ) → level_ends n
    (listed ++ level ∷ []) ≡ level_ends n listed ++ (n + length (concat listed ++ level)) ∷ []
level_ends-push n [] level = refl
level_ends-push n (l ∷ listed) level =
    let long : (n + length l) + length (concat listed ++ level) ≡ n + length (concat (l ∷ listed) ++ level) = omega
    (arith, ap length (append_assoc l (concat listed) level), length-append l (concat listed ++ level)) in
    ap (λ (zs : List ℕ). (n + length l) ∷ zs) (level_ends-push (n + length l) listed level ∙ ap
    (λ (e : ℕ). level_ends (n + length l) listed ++ e ∷ []) long)

pub length-level_ends : (n : ℕ) (listed : List (List ℕ)) → length (level_ends n listed) ≡ length listed
length-level_ends n [] = refl
length-level_ends n (l ∷ listed) = ap suc (length-level_ends (n + length l) listed)
