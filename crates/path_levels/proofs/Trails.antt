-- The way back by the parents of a finished queue is the path of reach.
use Rattle.std.proofs.Common.{◌≡◌, ◌≢◌, ℕ, zero, suc, ◌<◌, ◌≤◌, ◌==◌, Bool, true, false, cond, ◌⊎◌, inl, inr, List, []}
use Rattle.std.proofs.Common.{◌∷◌, ◌++◌, length, get_or, find, unwrap_or, Option, Some, None, AllPairs, append_assoc}
use Rattle.std.proofs.Common.{refl, sym, ap, ◌∙◌, subst, arith, length-append}
use Rattle.std.specs.Option.{option_or}
use Rattle.std.specs.List.{concat}
use Rattle.std.proofs.lemmas.Bool.{true≢false, cases_lt, ne_eqb}
use Rattle.std.proofs.lemmas.List.{get_or_append_left}
use Rattle.std.proofs.lemmas.List.Folds.{find-append}
use Rattle.graph_kinds.specs.Graph.{Graph, has, key_count}
use Rattle.graph_kinds.specs.Levels.{stands_in, level_after, levels_from, levels_of, parent_in, way_back, way_in}
use Rattle.graph_kinds.specs.Levels.{reach_path}
use Rattle.graph_kinds.proofs.PathsLists.{In, in_left, in_right, in_either, in_place, in_standing, stands, few}
use Rattle.graph_kinds.proofs.PathsWalks.{Walk}
use Rattle.graph_kinds.proofs.LevelsTurns.{IsTurn, first_turn, next_turn, after_in}
use Rattle.graph_kinds.proofs.LevelsLaws.{once_law}
use Rattle.graph_kinds.proofs.LevelsReach.{find_there}
use Rattle.path_levels.specs.Queue.{leads, IsTree, trail}

-- an edge from an earlier level leads to a level up to this one
onward : (g : Graph) (a i : ℕ) (known level : List ℕ) → IsTurn g a i known level → (x y : ℕ) → In x known
    → leads g y x ≡ true → In y (known ++ level)
onward g a i known level t x y h pair =
    let s = t.known_in x h in
    let w : Walk g a (suc s.0) y = (x, s.2, pair) in
    elim (cases_lt (suc s.0) i) as (λ _. In y (known ++ level)) [
      | inl lt ↦ in_left y known level (t.in_known y (suc s.0, lt, w))
      | inr le ↦
          let now : suc s.0 ≡ i = omega (arith, s.1, le) in
          elim (t.in_level y (subst (λ (n : ℕ). Walk g a n y) now w)) as
          (λ _. In y (known ++ level)) [ inl k ↦ in_left y known level k | inr l ↦ in_right y known level l ]
    ]

find_nothing : (p : ℕ → Bool) (xs : List ℕ) → ((x : ℕ) → In x xs → p x ≡ true → ⊥) → find p xs ≡ None
find_nothing p [] none = refl
find_nothing p (x ∷ xs) none = elim (p x) as (λ b. p x ≡ b → cond b (Some x) (find p xs) ≡ None) [
  | true ↦ λ e. absurd (none x (inl refl) e)
  | false ↦ λ _. find_nothing p xs (λ y h e. none y (inr h) e)
] refl

-- the first of three lists that has an item that passes is the second
find_between : (p : ℕ → Bool) (xs ys zs : List ℕ) (z : ℕ) → find p xs ≡ None → find p ys ≡ Some z → find p
    ((xs ++ ys) ++ zs) ≡ Some z
find_between p xs ys zs z none some = find-append p (xs ++ ys) zs ∙ ap (λ (o : Option ℕ). option_or o (find p zs))
    (find-append p xs ys ∙ (ap (λ (o : Option ℕ). option_or o (find p ys)) none ∙ some))

-- an item that stands behind the front of a list has a place behind it
behind : (xs ys : List ℕ) (p : ℕ) → (In (get_or (xs ++ ys) p 0) xs → ⊥) → length xs ≤ p
behind xs ys p out = elim (cases_lt p (length xs)) as (λ _. length xs ≤ p) [
  | inl lt ↦ absurd (out (subst (λ (v : ℕ). In v xs) (sym (get_or_append_left xs ys 0 p lt)) (in_place xs p 0 lt)))
  | inr le ↦ le
]

some_same : (x y : ℕ) → Some x ≡ Some y → x ≡ y
some_same x y e = ap (λ (o : Option ℕ). unwrap_or o x) e

-- the keys at the first places of a queue have their parents
record IsTreeBefore (g : Graph) (queue parents : List ℕ) (places : ℕ) : Type 0 where
  pub before : (p : ℕ) → 0 < p → p < places → get_or parents p 0 < p
  pub first : (p : ℕ) → 0 < p → p < places → find (leads g (get_or queue p 0)) queue ≡ Some
      (get_or queue (get_or parents p 0) 0)

module _ (g : Graph) (a : ℕ) (queue parents : List ℕ) (places : ℕ) (tree : IsTreeBefore g queue parents places) where
  key : ℕ → ℕ
  key p = get_or queue p 0

  -- the ways to the keys of a level, of which these are the earlier ones
  abbrev Ways : List (List ℕ) → List ℕ → Type 0
  Ways earlier level = (p n : ℕ) → p ≤ n → p < places → In (get_or queue p 0) level
      → trail queue parents n p ≡ way_back g earlier (get_or queue p 0)

  -- a key with a parent in the level before
  step : (earlier : List (List ℕ)) (level : List ℕ) → Ways earlier level → (p n z : ℕ) → p ≤ n → 0 < p → p < places
      → find (leads g (get_or queue p 0)) level ≡ Some z → In z level → get_or queue (get_or parents p 0) 0 ≡ z
      → trail queue parents n p ≡ way_back g (level ∷ earlier) (get_or queue p 0)
  step earlier level ways p zero z le pos lt found h same = absurd (omega arith)
  step earlier level ways p (suc n) z le pos lt found h same =
      let before = tree.before p pos lt in
      let q = get_or parents p 0 in
      let there : In (get_or queue q 0) level = subst (λ (y : ℕ). In y level) (sym same) h in
      let way : trail queue parents n q ≡ way_back g earlier (get_or queue q 0) = ways q n (omega (arith, before, le))
      (omega (arith, before, lt)) there in
      let up : get_or queue q 0 ≡ parent_in g (get_or queue p 0) level = same ∙ sym
      (ap (λ (o : Option ℕ). unwrap_or o (get_or queue p 0)) found) in
      let ne : p ≢ 0 = omega (arith, pos) in
      ap (λ (b : Bool). cond b (get_or queue p 0 ∷ []) (trail queue parents n q ++ get_or queue p 0 ∷ []))
      (ne_eqb p 0 ne)
      ∙ ap (λ (zs : List ℕ). zs ++ get_or queue p 0 ∷ []) (way ∙ ap (way_back g earlier) up)

  next_ways : (i : ℕ) (known : List ℕ) (x : ℕ) (xs rest : List ℕ) → IsTurn g a i known (x ∷ xs) → queue ≡
      (known ++ x ∷ xs) ++ rest → (earlier : List (List ℕ)) → Ways earlier (x ∷ xs)
      → Ways ((x ∷ xs) ∷ earlier) (level_after g (known ++ x ∷ xs) (x ∷ xs))
  next_ways i known x xs rest t whole earlier ways p n le lt h =
      let y = get_or queue p 0 in
      let r = after_in g (known ++ x ∷ xs) (x ∷ xs) y h in
      let f = find_there (leads g y) (x ∷ xs) r.1.0 r.1.1 r.1.2 in
      let none : find (leads g y) known ≡ None = find_nothing (leads g y) known
      (λ u k e. r.0 (onward g a i known (x ∷ xs) t u y k e)) in
      let found : find (leads g y) queue ≡ Some f.0 = ap (find (leads g y)) whole ∙ find_between (leads g y) known
      (x ∷ xs) rest f.0 none f.1 in
      let out = behind (known ++ x ∷ xs) rest p (λ k. r.0 (subst (λ (q : List ℕ). In (get_or q p 0) (known ++ x ∷ xs))
      (sym whole) k)) in
      let pos : 0 < p = omega (arith, out, length-append known (x ∷ xs)) in
      let same = some_same _ _ (sym (tree.first p pos lt) ∙ found) in
      step earlier (x ∷ xs) ways p n f.0 le pos lt f.1 f.2 same

  way_found : (n i : ℕ) (known level : List ℕ) → IsTurn g a i known level → queue ≡ known ++ concat
      (levels_from g n known level) → (earlier : List (List ℕ)) → Ways earlier level
      → (p m : ℕ) → p ≤ m → p < places → In (get_or queue p 0) (concat (levels_from g n known level))
      → way_in g earlier (levels_from g n known level) (get_or queue p 0) ≡ Some (trail queue parents m p)
  way_found zero i known level t whole earlier ways p m le lt h = absurd h
  way_found (suc n) i known [] t whole earlier ways p m le lt h = absurd h
  way_found (suc n) i known (x ∷ xs) t whole earlier ways p m le lt h =
      elim (stands_in (x ∷ xs) (get_or queue p 0)) as (λ c. stands_in (x ∷ xs) (get_or queue p 0) ≡ c → cond c
      (Some (way_back g earlier (get_or queue p 0))) (way_in g ((x ∷ xs) ∷ earlier) later (get_or queue p 0)) ≡ Some
      (trail queue parents m p)) [
        | true ↦ λ e. ap (λ (q : List ℕ). Some q) (sym (ways p m le lt (in_standing (x ∷ xs) (get_or queue p 0) e)))
        | false ↦ λ e. way_found n (suc i) (known ++ x ∷ xs) next (next_turn g a i known (x ∷ xs) t) split
            ((x ∷ xs) ∷ earlier) (next_ways i known x xs (concat later) t split earlier ways) p m le lt
            (further e (in_either (get_or queue p 0) (x ∷ xs) (concat later) h))
      ] refl
    where
      next : List ℕ
      next = level_after g (known ++ x ∷ xs) (x ∷ xs)

      later : List (List ℕ)
      later = levels_from g n (known ++ x ∷ xs) (level_after g (known ++ x ∷ xs) (x ∷ xs))

      split : queue ≡ (known ++ x ∷ xs) ++ concat (levels_from g n (known ++ x ∷ xs)
          (level_after g (known ++ x ∷ xs) (x ∷ xs)))
      split = whole ∙ sym (append_assoc known (x ∷ xs) _)

      further : stands_in (x ∷ xs) (get_or queue p 0) ≡ false → In (get_or queue p 0) (x ∷ xs) ⊎ In (get_or queue p 0)
          (concat later) → In (get_or queue p 0) (concat later)
      further e (inl k) = absurd (true≢false (sym (stands (x ∷ xs) (get_or queue p 0) k) ∙ e))
      further e (inr k) = k

way_nowhere : (g : Graph) (earlier later : List (List ℕ)) (b : ℕ) → (In b (concat later) → ⊥)
    → way_in g earlier later b ≡ None
way_nowhere g earlier [] b out = refl
way_nowhere g earlier (level ∷ later) b out =
    elim (stands_in level b) as (λ c. stands_in level b ≡ c → cond c (Some (way_back g earlier b))
    (way_in g (level ∷ earlier) later b) ≡ None) [
      | true ↦ λ e. absurd (out (in_left b level (concat later) (in_standing level b e)))
      | false ↦ λ _. way_nowhere g (level ∷ earlier) later b (λ h. out (in_right b level (concat later) h))
    ] refl

-- no path leads to what the queue doesn't have
pub reach_nowhere : (g : Graph) (a b : ℕ) → stands_in (concat (levels_of g a)) b ≡ false → reach_path g a b ≡ None
reach_nowhere g a b out = way_nowhere g [] (levels_of g a) b (λ h. true≢false
    (sym (stands (concat (levels_of g a)) b h) ∙ out))

-- the way by parents to one of these places is the path to its key
reach_there : (g : Graph) (a : ℕ) (queue parents : List ℕ) (places : ℕ) → places ≤ length queue
    → IsTreeBefore g queue parents places → queue ≡ concat (levels_of g a) → get_or queue 0 0 ≡ a
    → (p : ℕ) → p < places → reach_path g a (get_or queue p 0) ≡ Some (trail queue parents p p)
reach_there g a queue parents places long tree whole root p lt =
    way_found g a queue parents places tree (key_count g) 0 [] (a ∷ []) (first_turn g a) whole [] first p p
    (omega arith) lt (subst (λ (q : List ℕ). In (get_or queue p 0) q) whole (in_place queue p 0 (omega arith)))
  where
    once : AllPairs (λ x y. x ≢ y) queue
    once = subst (AllPairs (λ x y. x ≢ y)) (sym whole) (once_law g a)

    first : (q n : ℕ) → q ≤ n → q < places → In (get_or queue q 0) (a ∷ [])
        → trail queue parents n q ≡ get_or queue q 0 ∷ []
    first zero zero le h k = refl
    first zero (suc n) le h k = refl
    first (suc q) n le h (inl e) = absurd (once 0 (suc q) 0 (omega arith) (omega arith) (root ∙ e))
    first (suc q) n le h (inr k) = absurd k

-- the first key of all levels is that from which they start
pub first_key : (g : Graph) (a : ℕ) → has g a ≡ true → get_or (concat (levels_of g a)) 0 0 ≡ a
first_key g a there = from (key_count g) (few g.keys (a ∷ []) ((λ h. h), tt)
    (λ x h. elim h as (λ _. has g x ≡ true) [ inl e ↦ subst (λ (z : ℕ). has g z ≡ true) e there | inr l ↦ absurd l ]))
  where
    from : (n : ℕ) → 1 ≤ n → get_or (concat (levels_from g n [] (a ∷ []))) 0 0 ≡ a
    from zero h = absurd (omega arith)
    from (suc n) h = refl

-- keys that come behind change neither parents nor the way by them
module _ (g : Graph) (met later parents : List ℕ) (tree : IsTree g met parents) where
  at_front : (p : ℕ) → p < length met → get_or (met ++ later) p 0 ≡ get_or met p 0
  at_front p lt = get_or_append_left met later 0 p lt

  tree_front : IsTreeBefore g (met ++ later) parents (length met)
  tree_front = record {
    before = tree.before;
    first = λ p pos lt. (let before = tree.before p pos lt in
        ap (λ (y : ℕ). find (leads g y) (met ++ later)) (at_front p lt)
        ∙ (find-append (leads g (get_or met p 0)) met later
        ∙ (ap (λ (o : Option ℕ). option_or o (find (leads g (get_or met p 0)) later)) (tree.first p pos lt)
        ∙ ap (λ (y : ℕ). Some y) (sym (at_front (get_or parents p 0) (omega arith))))));
  }

  trail_front : (n p : ℕ) → p < length met → trail (met ++ later) parents n p ≡ trail met parents n p
  trail_front zero p lt = ap (λ (y : ℕ). y ∷ []) (at_front p lt)
  trail_front (suc n) zero lt = ap (λ (y : ℕ). y ∷ []) (at_front 0 lt)
  trail_front (suc n) (suc p) lt =
      let before = tree.before (suc p) (omega arith) lt in
      let q = get_or parents (suc p) 0 in
      let off : (suc p == 0) ≡ false = ne_eqb (suc p) 0 (omega arith) in
      ap (λ (b : Bool). cond b (get_or (met ++ later) (suc p) 0 ∷ [])
      (trail (met ++ later) parents n q ++ get_or (met ++ later) (suc p) 0 ∷ [])) off
      ∙ ((λ i. trail_front n q (omega arith) i ++ at_front (suc p) lt i ∷ [])
      ∙ sym (ap (λ (b : Bool). cond b (get_or met (suc p) 0 ∷ []) (trail met parents n q ++ get_or met (suc p) 0 ∷ []))
      off))

-- the path by parents to a key that was met, whatever keys come behind
pub reach_met : (g : Graph) (a : ℕ) (met later parents : List ℕ) → has g a ≡ true → met ++ later ≡ concat
    (levels_of g a) → IsTree g met parents
    → (p : ℕ) → p < length met → reach_path g a (get_or met p 0) ≡ Some (trail met parents p p)
reach_met g a met later parents there whole tree p lt =
    ap (reach_path g a) (sym (at_front g met later parents tree p lt))
    ∙ (reach_there g a (met ++ later) parents (length met) (omega (arith, length-append met later))
    (tree_front g met later parents tree) whole (ap (λ (q : List ℕ). get_or q 0 0) whole ∙ first_key g a there) p lt
    ∙ ap (λ (q : List ℕ). Some q) (trail_front g met later parents tree p p lt))
