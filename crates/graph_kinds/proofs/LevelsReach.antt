-- The path by parents is a path, none is shorter, and it is found wherever one leads there.
use Rattle.std.proofs.Common.{◌≡◌, ℕ, zero, suc, ◌+◌, ◌-◌, ◌≤◌, Bool, true, false, cond, ◌↔◌, inl, inr, List, [], ◌∷◌}
use Rattle.std.proofs.Common.{◌++◌, length, get_or, find, unwrap_or, Option, Some, None, is_some, refl, sym, ap, ◌∙◌}
use Rattle.std.proofs.Common.{subst, arith, length-append}
use Rattle.std.proofs.lemmas.Bool.{true≢false, cases_lt}
use Rattle.std.proofs.lemmas.List.{get_or_append_left, ext_get_or}
use Rattle.std.proofs.Math.Seq.{get_or-append_seam}
use Rattle.graph_kinds.specs.Graph.{Graph, IsGraph, has, weight_of, key_count}
use Rattle.graph_kinds.specs.Path.{IsPath}
use Rattle.graph_kinds.specs.Levels.{stands_in, level_after, levels_from, levels_of, level_at, parent_in, way_back}
use Rattle.graph_kinds.specs.Levels.{way_in, reach_path, GoesByParents}
use Rattle.graph_kinds.proofs.PathsLists.{In, in_either, in_standing, stands}
use Rattle.graph_kinds.proofs.PathsWalks.{Walk, path_on, key_behind, walk_from_path}
use Rattle.graph_kinds.proofs.LevelsTurns.{IsTurn, first_turn, next_turn, no_more, none_left, after_in}

-- the first item that passes, where one does
pub find_there : (p : ℕ → Bool) (xs : List ℕ) (x : ℕ) → In x xs → p x ≡ true → (z : ℕ) × (find p xs ≡ Some z) × In z xs
    × (p z ≡ true)
find_there p [] x h t = absurd h
find_there p (y ∷ ys) x h t = elim (p y) as (λ b. p y ≡ b → (z : ℕ) × (cond b (Some y) (find p ys) ≡ Some z) × In z
    (y ∷ ys) × (p z ≡ true)) [
      | true ↦ λ e. (y, refl, inl refl, e)
      | false ↦ λ e. elim h as (λ _. (z : ℕ) × (find p ys ≡ Some z) × In z (y ∷ ys) × (p z ≡ true)) [
        | inl same ↦ absurd (true≢false (sym (ap p same ∙ t) ∙ e))
        | inr later ↦ let r = find_there p ys x later t in (r.0, r.1, inr r.2, r.3)
      ]
    ] refl

-- y may stand in the level behind these, of which the nearest is the first
abbrev pub Behind : Graph → ℕ → List (List ℕ) → ℕ → Type 0
Behind g a [] y = a ≡ y
Behind g a (level ∷ earlier) y = ((x : ℕ) × In x level × (is_some (weight_of g x y) ≡ true)) ×
    ((x : ℕ) → In x level → Behind g a earlier x)

-- x is the parent of y in the level before
record IsParent (g : Graph) (level : List ℕ) (y x : ℕ) : Type 0 where
  pub found : find (λ z. is_some (weight_of g z y)) level ≡ Some x
  pub within : In x level
  pub pair : is_some (weight_of g x y) ≡ true

-- a key with an edge from that level has a parent there
parent : (g : Graph) (level : List ℕ) (x y : ℕ) → In x level → is_some (weight_of g x y) ≡ true → IsParent g level y
    (parent_in g y level)
parent g level x y h pair =
    let r = find_there (λ z. is_some (weight_of g z y)) level x h pair in
    let same : r.0 ≡ parent_in g y level = sym (ap (λ (o : Option ℕ). unwrap_or o y) r.1) in
    subst (IsParent g level y) same (record { found = r.1; within = r.2; pair = r.3 })

-- the way back has a key for each level
way_long : (g : Graph) (earlier : List (List ℕ)) (y : ℕ) → length (way_back g earlier y) ≡ length earlier + 1
way_long g [] y = refl
way_long g (level ∷ earlier) y =
    let q = way_back g earlier (parent_in g y level) in
    omega (arith, length-append q (y ∷ []), way_long g earlier (parent_in g y level))

-- the way back is a path
way_path : (g : Graph) (a : ℕ) → IsGraph g → has g a ≡ true → (earlier : List (List ℕ)) (y : ℕ) → Behind g a earlier y
    → IsPath g a y (way_back g earlier y)
way_path g a is there [] y e = (sym e, refl, subst (λ (z : ℕ). has g z ≡ true) e there)
way_path g a is there (level ∷ earlier) y b =
    let x = parent_in g y level in
    let p : IsParent g level y x = parent g level b.0.0 y b.0.1 b.0.2 in
    path_on g a x y (way_back g earlier x) (way_path g a is there earlier x (b.1 x p.within)) p.pair
    (key_behind g is x y p.pair)

-- the levels, of which these are the earlier ones
abbrev StandBefore : List (List ℕ) → List (List ℕ) → Type 0
StandBefore levels [] = Unit {0}
StandBefore levels (level ∷ earlier) = (level_at levels (length earlier) ≡ level) × StandBefore levels earlier

-- it ends with the key that it is the way to
way_last : (g : Graph) (earlier : List (List ℕ)) (y : ℕ) → get_or (way_back g earlier y) (length earlier) 0 ≡ y
way_last g [] y = refl
way_last g (level ∷ earlier) y =
    let q = way_back g earlier (parent_in g y level) in
    let long : suc (length earlier) ≡ length q = omega (arith, way_long g earlier (parent_in g y level)) in
    ap (λ (i : ℕ). get_or (q ++ y ∷ []) i 0) long ∙ get_or-append_seam q y [] 0

-- it goes by parents
way_parents : (g : Graph) (a : ℕ) (levels earlier : List (List ℕ)) (y : ℕ) → StandBefore levels earlier
    → Behind g a earlier y → GoesByParents g levels (way_back g earlier y)
way_parents g a levels [] y s b i h = absurd (omega arith)
way_parents g a levels (level ∷ earlier) y s b i h = elim (cases_lt (i + 1) (length q)) as
    (λ _. Parent (get_or (q ++ y ∷ []) (i + 1) 0) i (get_or (q ++ y ∷ []) i 0)) [
      | inl lt ↦
          let next = get_or_append_left q (y ∷ []) 0 (i + 1) lt in
          let this = get_or_append_left q (y ∷ []) 0 i (omega (arith, lt)) in
          rw (next, this) (way_parents g a levels earlier x s.1 (b.1 x p.within) i lt)
      | inr le ↦
          let now : i ≡ length earlier = omega (arith, le, h, long, length-append q (y ∷ [])) in
          let end : i + 1 ≡ length q = omega (arith, now, long) in
          let next : get_or (q ++ y ∷ []) (i + 1) 0 ≡ y = ap (λ (j : ℕ). get_or (q ++ y ∷ []) j 0) end
          ∙ get_or-append_seam q y [] 0 in
          let this : get_or (q ++ y ∷ []) i 0 ≡ x = get_or_append_left q (y ∷ []) 0 i (omega (arith, end)) ∙
          (ap (λ (j : ℕ). get_or q j 0) now ∙ way_last g earlier x) in
          let here : level_at levels i ≡ level = ap (level_at levels) now ∙ s.0 in
          rw (next, this) (subst (λ (l : List ℕ). find (λ z. is_some (weight_of g z y)) l ≡ Some x) (sym here) p.found)
    ]
  where
    x : ℕ
    x = parent_in g y level

    q : List ℕ
    q = way_back g earlier x

    long : length q ≡ length earlier + 1
    long = way_long g earlier x

    p : IsParent g level y x
    p = parent g level b.0.0 y b.0.1 b.0.2

    Parent : ℕ → ℕ → ℕ → Type 0
    Parent next j this = find (λ z. is_some (weight_of g z next)) (level_at levels j) ≡ Some this

-- what the way to b is, where the keys of the earlier levels are known
abbrev pub IsWay : Graph → ℕ → List (List ℕ) → ℕ → List ℕ → Option (List ℕ) → Type 0
IsWay g a levels b known None = (n : ℕ) → Walk g a n b → In b known
IsWay g a levels b known (Some p) = IsPath g a b p × ((q : List ℕ) → IsPath g a b q → length p ≤ length q)
    × GoesByParents g levels p

-- what is not in this level and known with it was known before
way_narrower : (g : Graph) (a : ℕ) (levels : List (List ℕ)) (b : ℕ) (known level : List ℕ) → stands_in level b ≡ false →
    (o : Option (List ℕ)) → IsWay g a levels b (known ++ level) o → IsWay g a levels b known o
way_narrower g a levels b known level out None way = λ n w. elim (in_either b known level (way n w)) as
    (λ _. In b known) [ inl k ↦ k | inr l ↦ absurd (true≢false (sym (stands level b l) ∙ out)) ]
way_narrower g a levels b known level out (Some p) way = way

module _ (g : Graph) (a : ℕ) (is : IsGraph g) (there : has g a ≡ true) (levels : List (List ℕ)) (b : ℕ) where
  -- the way to a key of this level
  way_here : (i : ℕ) (known level : List ℕ) (earlier : List (List ℕ)) → IsTurn g a i known level → length earlier ≡ i
      → StandBefore levels earlier → Behind g a earlier b → In b level
      → IsWay g a levels b known (Some (way_back g earlier b))
  way_here i known level earlier t here before behind h = (
    way_path g a is there earlier b behind,
    λ q k. no_shorter q
        k,
    way_parents g a levels earlier b before behind,
  )
    where
      no_shorter : (q : List ℕ) → IsPath g a b q → length (way_back g earlier b) ≤ length q
      no_shorter q k =
          let w = walk_from_path g a b q k in
          elim (cases_lt w.0 i) as (λ _. length (way_back g earlier b) ≤ length q) [
            | inl lt ↦ absurd (t.apart b (t.in_known b (w.0, lt, w.1)) h)
            | inr le ↦ omega (arith, le, w.2, here, way_long g earlier b)
          ]

  -- the way from a turn on, with n turns that are enough
  way_found : (n i : ℕ) (known level : List ℕ) → IsTurn g a i known level → key_count g ≤ length known + n →
      (earlier : List (List ℕ)) → length earlier ≡ i → StandBefore levels earlier
      → ((x : ℕ) → In x level → Behind g a earlier x) → ((j : ℕ) → level_at levels (i + j) ≡ level_at
      (levels_from g n known level) j) → IsWay g a levels b known (way_in g earlier (levels_from g n known level) b)
  way_found zero i known level t enough earlier here before behind ahead = λ n w. t.in_known b
      (no_more g a i known level t (none_left g a i known level t is there (omega (arith, enough))) n b w)
  way_found (suc n) i known [] t enough earlier here before behind ahead = λ m w. t.in_known b
      (no_more g a i known [] t refl m b w)
  way_found (suc n) i known (y ∷ ys) t enough earlier here before behind ahead =
      elim (stands_in level b) as (λ c. stands_in level b ≡ c → IsWay g a levels b known
      (cond c (Some (way_back g earlier b)) (way_in g (level ∷ earlier) later b))) [
        | true ↦ λ e. let h = in_standing level b e in way_here i known level earlier t here before (behind b h) h
        | false ↦ λ e. way_narrower g a levels b known level e (way_in g (level ∷ earlier) later b)
            (way_found n (suc i) (known ++ level) (level_after g (known ++ level) level) (next_turn g a i known level t)
            (omega (arith, enough, length-append known level)) (level ∷ earlier) (omega (arith, here))
            (at_here, before) next (λ j. let e : suc i + j ≡ i + suc j = omega arith in ap (level_at levels) e ∙ ahead
            (suc j)))
      ] refl
    where
      level : List ℕ
      level = y ∷ ys

      later : List (List ℕ)
      later = levels_from g n (known ++ level) (level_after g (known ++ level) level)

      at_here : level_at levels (length earlier) ≡ level
      at_here = let e : length earlier ≡ i + 0 = omega (arith, here) in ap (level_at levels) e ∙ ahead 0

      next : (x : ℕ) → In x (level_after g (known ++ level) level) → Behind g a (level ∷ earlier) x
      next x h = let r = (after_in g (known ++ level) level x h).1 in ((r.0, r.1, r.2), behind)

-- the way to b is what `reach_path` answers
pub reach_way : (g : Graph) (a b : ℕ) → IsGraph g → has g a ≡ true → IsWay g a (levels_of g a) b [] (reach_path g a b)
reach_way g a b is there = way_found g a is there (levels_of g a) b (key_count g) 0 [] (a ∷ []) (first_turn g a)
    (omega arith) [] refl tt (λ x h. elim h as (λ _. a ≡ x) [ inl e ↦ e | inr l ↦ absurd l ])
    (λ j. let e : 0 + j ≡ j = omega arith in ap (level_at (levels_of g a)) e)

-- where it answers a path
way_some : (g : Graph) (a b : ℕ) (p : List ℕ) → IsGraph g → has g a ≡ true → reach_path g a b ≡ Some p → IsWay g a
    (levels_of g a) b [] (Some p)
way_some g a b p is there e = subst (IsWay g a (levels_of g a) b []) e (reach_way g a b is there)

-- the clauses of the law
pub reach_path_law : (g : Graph) (a b : ℕ) (p : List ℕ) → IsGraph g → has g a ≡ true → reach_path g a b ≡ Some p
    → IsPath g a b p
reach_path_law g a b p is there e = (way_some g a b p is there e).0

pub shortest_law : (g : Graph) (a b : ℕ) (p : List ℕ) → IsGraph g → has g a ≡ true → reach_path g a b ≡ Some p →
    (q : List ℕ) → IsPath g a b q → length p ≤ length q
shortest_law g a b p is there e = (way_some g a b p is there e).1

pub parents_law : (g : Graph) (a b : ℕ) (p : List ℕ) → IsGraph g → has g a ≡ true → reach_path g a b ≡ Some p
    → GoesByParents g (levels_of g a) p
parents_law g a b p is there e = (way_some g a b p is there e).2

pub no_reach_law : (g : Graph) (a b : ℕ) → IsGraph g → has g a ≡ true → (reach_path g a b ≡ None) ↔
    ((p : List ℕ) → ¬ (IsPath g a b p))
no_reach_law g a b is there = (
  λ none p h. (let w = walk_from_path g a b p h in subst (IsWay g a (levels_of g a) b []) none
      (reach_way g a b is there) w.0 w.1),
  λ empty. none empty (reach_path g a b) refl,
)
  where
    none : ((p : List ℕ) → ¬ (IsPath g a b p)) → (o : Option (List ℕ)) → reach_path g a b ≡ o → reach_path g a b ≡ None
    none empty None e = e
    none empty (Some p) e = absurd (empty p (reach_path_law g a b p is there e))

-- a path of one key
only_start : (g : Graph) (a : ℕ) (p : List ℕ) → IsPath g a a p → length p ≤ 1 → p ≡ a ∷ []
only_start g a [] h short = absurd h
only_start g a (x ∷ []) h short = ap (λ (z : ℕ). z ∷ []) h.0
only_start g a (x ∷ y ∷ p) h short = absurd (omega arith)

pub itself_law : (g : Graph) (a : ℕ) → IsGraph g → has g a ≡ true → reach_path g a a ≡ Some (a ∷ [])
itself_law g a is there = from (reach_path g a a) refl
  where
    here : IsPath g a a (a ∷ [])
    here = (refl, refl, there)

    from : (o : Option (List ℕ)) → reach_path g a a ≡ o → reach_path g a a ≡ Some (a ∷ [])
    from None e = absurd ((no_reach_law g a a is there).0 e (a ∷ []) here)
    from (Some p) e = e ∙ ap (λ (q : List ℕ). Some q) (only_start g a p (reach_path_law g a a p is there e)
        (shortest_law g a a p is there e (a ∷ []) here))

-- the last place of a path
path_last : (g : Graph) (a b : ℕ) (p : List ℕ) → IsPath g a b p → (i : ℕ) → i + 1 ≡ length p → get_or p i 0 ≡ b
path_last g a b [] h i e = absurd h
path_last g a b (x ∷ []) h zero e = h.1
path_last g a b (x ∷ []) h (suc i) e = absurd (omega arith)
path_last g a b (x ∷ y ∷ p) h zero e = absurd (omega arith)
path_last g a b (x ∷ y ∷ p) h (suc i) e = path_last g y b (y ∷ p) h.2 i (omega arith)

module _ (g : Graph) (a b : ℕ) (levels : List (List ℕ)) (p q : List ℕ) (long : length p ≡ length q) (h : IsPath g a b p)
    (k : IsPath g a b q) (f : GoesByParents g levels p) (j : GoesByParents g levels q) where
  -- two paths of one length by parents, from the last key back
  same_places : (n i : ℕ) → i + n + 1 ≡ length p → get_or p i 0 ≡ get_or q i 0
  same_places zero i e = path_last g a b p h i (omega arith) ∙ sym (path_last g a b q k i (omega arith))
  same_places (suc n) i e =
      let next = same_places n (i + 1) (omega arith) in
      let here = f i (omega arith) in
      let there = j i (omega arith) in
      let found = ap (λ (y : ℕ). find (λ x. is_some (weight_of g x y)) (level_at levels i)) next in
      ap (λ (o : Option ℕ). unwrap_or o 0) (sym here ∙ found ∙ there)

  -- so they are one
  same_way : p ≡ q
  same_way = ext_get_or 0 p q long (λ i lt. same_places (length p - suc i) i (omega arith))

-- and a shortest path by parents is the one that is answered
pub only_law : (g : Graph) (a b : ℕ) (p : List ℕ) → IsGraph g → has g a ≡ true → IsPath g a b p →
    ((q : List ℕ) → IsPath g a b q → length p ≤ length q) → GoesByParents g (levels_of g a) p
    → reach_path g a b ≡ Some p
only_law g a b p is there h least f = from (reach_path g a b) refl
  where
    from : (o : Option (List ℕ)) → reach_path g a b ≡ o → reach_path g a b ≡ Some p
    from None e = absurd ((no_reach_law g a b is there).0 e p h)
    from (Some q) e =
        let way = way_some g a b q is there e in
        let long : length q ≡ length p = omega (arith, way.1 p h, least q way.0) in
        e ∙ ap (λ (r : List ℕ). Some r) (same_way g a b (levels_of g a) q p long way.0 h way.2 f)
