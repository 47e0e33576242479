-- What holds at each turn of a walk in levels: level i has the keys at distance i, and those before it the nearer ones.
use Rattle.std.proofs.Common.{◌≡◌, ◌≢◌, ℕ, zero, suc, ◌+◌, ◌<◌, ◌≤◌, true, not, ◌⊎◌, inl, inr, List, [], ◌∷◌, ◌++◌}
use Rattle.std.proofs.Common.{length, flat_map, append_assoc, append-nil, is_some, refl, sym, ap, ◌∙◌, subst, arith}
use Rattle.std.proofs.Common.{length-append}
use Rattle.std.proofs.lemmas.Bool.{true≢false, cases_lt}
use Rattle.std.specs.List.{concat}
use Rattle.graph_kinds.specs.Graph.{Graph, IsGraph, has, weight_of, neighbours, key_count}
use Rattle.graph_kinds.specs.Levels.{stands_in, level_after, levels_from, level_at}
use Rattle.graph_kinds.proofs.PathsLists.{In, Once, in_left, in_right, in_either, in_filter, filter_in, once_append}
use Rattle.graph_kinds.proofs.PathsLists.{in_flat, flat_in, stands, not_standing, in_or_not, in_firsts, firsts_in}
use Rattle.graph_kinds.proofs.PathsLists.{once_firsts, few}
use Rattle.graph_kinds.proofs.PathsWalks.{Walk, in_neighbours, neighbours_in, walk_key}

-- x is reached in fewer than n steps
abbrev pub Sooner : Graph → ℕ → ℕ → ℕ → Type 0
Sooner g a n x = (m : ℕ) × (m < n) × Walk g a m x

-- at turn i: known are the keys nearer than i, level those at distance i, and each stands once
pub record IsTurn (g : Graph) (a i : ℕ) (known level : List ℕ) : Type 0 where
  pub known_in : (x : ℕ) → In x known → Sooner g a i x
  pub in_known : (x : ℕ) → Sooner g a i x → In x known
  pub level_in : (x : ℕ) → In x level → Walk g a i x
  pub in_level : (x : ℕ) → Walk g a i x → In x known ⊎ In x level
  pub once_known : Once known
  pub once_level : Once level
  pub apart : (x : ℕ) → In x known → In x level → ⊥

-- the level of the first key alone
pub first_turn : (g : Graph) (a : ℕ) → IsTurn g a 0 [] (a ∷ [])
first_turn g a = record {
  known_in = λ x h. absurd h;
  in_known = λ x h. absurd (omega (arith, h.1));
  level_in = λ x h. elim h as (λ _. a ≡ x) [ inl e ↦ e | inr l ↦ absurd l ];
  in_level = λ x w. inr (inl w);
  once_known = tt;
  once_level = (λ h. h, tt);
  apart = λ x h _. h;
}

-- what stands in the level behind one
pub after_in : (g : Graph) (known level : List ℕ) (x : ℕ) → In x (level_after g known level) → (In x known → ⊥) ×
    ((y : ℕ) × In y level × (is_some (weight_of g y x) ≡ true))
after_in g known level x h =
    let all = flat_map (neighbours g) level in
    let f = filter_in (λ (y : ℕ). not (stands_in known y)) x all (firsts_in x _ h) in
    let r = flat_in (neighbours g) x level f.0 in
    (λ k. true≢false (sym f.1 ∙ ap not (stands known x k)), (r.0, r.1, neighbours_in g r.0 x r.2))

-- and back
in_after : (g : Graph) (known level : List ℕ) (x y : ℕ) → (In x known → ⊥) → In y level → is_some
    (weight_of g y x) ≡ true → In x (level_after g known level)
in_after g known level x y new h pair =
    in_firsts x _ (in_filter (λ (z : ℕ). not (stands_in known z)) x (flat_map (neighbours g) level)
    (in_flat (neighbours g) y x level h (in_neighbours g y x pair)) (ap not (not_standing known x new)))

module _ (g : Graph) (a i : ℕ) (known level : List ℕ) (t : IsTurn g a i known level) where
  -- the keys known at the next turn are those nearer than its number
  all_known : (x : ℕ) → Sooner g a (suc i) x → In x (known ++ level)
  all_known x h = elim (cases_lt h.0 i) as (λ _. In x (known ++ level)) [
    | inl lt ↦ in_left x known level (t.in_known x (h.0, lt, h.2))
    | inr le ↦ let now : h.0 ≡ i = omega (arith, h.1, le) in
        elim (t.in_level x (subst (λ (n : ℕ). Walk g a n x) now h.2)) as
        (λ _. In x (known ++ level)) [ inl k ↦ in_left x known level k | inr l ↦ in_right x known level l ]
  ]

  -- and back
  known_all : (x : ℕ) → In x (known ++ level) → Sooner g a (suc i) x
  known_all x h = elim (in_either x known level h) as (λ _. Sooner g a (suc i) x) [
    | inl k ↦ let s = t.known_in x k in (s.0, omega (arith, s.1), s.2)
    | inr l ↦ (i, omega arith, t.level_in x l)
  ]

  -- what is reached in one step more is known or in the next level
  reached : (x : ℕ) → Walk g a (suc i) x → In x (known ++ level) ⊎ In x (level_after g (known ++ level) level)
  reached x w = elim (in_or_not (known ++ level) x) as (λ _. In x (known ++ level) ⊎ In x
      (level_after g (known ++ level) level)) [
        | inl k ↦ inl k
        | inr new ↦ elim (t.in_level w.0 w.1) as (λ _. In x (known ++ level) ⊎
            In x (level_after g (known ++ level) level)) [
              | inl k ↦ let s = t.known_in w.0 k in inl (all_known x (suc s.0, omega (arith, s.1), (w.0, s.2, w.2)))
              | inr l ↦ inr (in_after g (known ++ level) level x w.0 new l w.2)
            ]
      ]

  pub next_turn : IsTurn g a (suc i) (known ++ level) (level_after g (known ++ level) level)
  next_turn = record {
    known_in = known_all;
    in_known = all_known;
    level_in = λ x h. let r = (after_in g (known ++ level) level x h).1 in (r.0, t.level_in r.0 r.1, r.2);
    in_level = reached;
    once_known = once_append known level t.once_known t.once_level t.apart;
    once_level = once_firsts _;
    apart = λ x k h. (after_in g (known ++ level) level x h).0 k;
  }

  -- where the level is empty, what is reached now was reached sooner
  known_here : level ≡ [] → (x : ℕ) → Walk g a i x → Sooner g a i x
  known_here none x w = elim (t.in_level x w) as (λ _. Sooner g a i x)
      [ inl k ↦ t.known_in x k | inr l ↦ absurd (subst (In x) none l) ]

  -- and what is reached by now
  by_then : level ≡ [] → (n x : ℕ) → n ≤ i → Walk g a n x → Sooner g a i x
  by_then none n x le w = elim (cases_lt n i) as (λ _. Sooner g a i x) [
    | inl lt ↦ (n, lt, w)
    | inr ge ↦ let now : n ≡ i = omega (arith, le, ge) in known_here none x (subst (λ (m : ℕ). Walk g a m x) now w)
  ]

  -- behind an empty level nothing new is reached
  pub no_more : level ≡ [] → (n x : ℕ) → Walk g a n x → Sooner g a i x
  no_more none zero x w = by_then none 0 x (omega arith) w
  no_more none (suc n) x w =
      let s = no_more none n w.0 w.1 in
      by_then none (suc s.0) x (omega (arith, s.1)) (w.0, s.2, w.2)

  -- the keys of the levels are no more than those of the graph, so the turns don't run out
  pub none_left : IsGraph g → has g a ≡ true → key_count g ≤ length known → level ≡ []
  none_left is there full = elim level as (λ l. level ≡ l → level ≡ []) [
    | [] ↦ λ e. e
    | x ∷ xs ↦ λ e. absurd (
        let all = few g.keys (known ++ level) (once_append known level t.once_known t.once_level t.apart)
        (λ y h. let s = known_all y h in walk_key g a is there s.0 y s.2) in
        omega (arith, all, length-append known level, ap length e, full))
  ] refl

-- x is in level j of those from level i on exactly where its distance is i + j
pub record IsLevelled (g : Graph) (a i : ℕ) (levels : List (List ℕ)) : Type 0 where
  pub at_distance : (x j : ℕ) → In x (level_at levels j) → Walk g a (i + j) x × (Sooner g a (i + j) x → ⊥)
  pub at_level : (x j : ℕ) → Walk g a (i + j) x → (Sooner g a (i + j) x → ⊥) → In x (level_at levels j)

-- no level is left
levelled_end : (g : Graph) (a i : ℕ) (known : List ℕ) → IsTurn g a i known [] → IsLevelled g a i []
levelled_end g a i known t = record {
  at_distance = λ x j h. absurd h;
  at_level = λ x j w new. let s = no_more g a i known [] t refl (i + j) x w in absurd
      (new (s.0, omega (arith, s.1), s.2));
}

-- one more level at the front
levelled_step : (g : Graph) (a i : ℕ) (known level : List ℕ) (later : List (List ℕ)) → IsTurn g a i known level
    → IsLevelled g a (suc i) later → IsLevelled g a i (level ∷ later)
levelled_step g a i known level later t l = record {
  at_distance = λ x j h. here x j h;
  at_level = λ x j w new. there x j w new;
}
  where
    At : ℕ → ℕ → Type 0
    At x n = Walk g a n x × (Sooner g a n x → ⊥)

    here : (x j : ℕ) → In x (level_at (level ∷ later) j) → Walk g a (i + j) x × (Sooner g a (i + j) x → ⊥)
    here x zero h = let now : i + 0 ≡ i = omega arith in rw now (t.level_in x h, λ s. t.apart x (t.in_known x s) h)
    here x (suc j) h = let now : i + suc j ≡ suc i + j = omega arith in rw now (l.at_distance x j h)

    there : (x j : ℕ) → Walk g a (i + j) x → (Sooner g a (i + j) x → ⊥) → In x (level_at (level ∷ later) j)
    there x zero w new =
        let now : i + 0 ≡ i = omega arith in
        elim (t.in_level x (subst (λ (n : ℕ). Walk g a n x) now w)) as (λ _. In x level) [
          | inl k ↦ let s = t.known_in x k in absurd (new (s.0, omega (arith, s.1), s.2))
          | inr h ↦ h
        ]
    there x (suc j) w new =
        let now : i + suc j ≡ suc i + j = omega arith in
        l.at_level x j (subst (λ (n : ℕ). Walk g a n x) now w) (λ s. new (s.0, omega (arith, s.1), s.2))

-- from a turn on, with n turns that are enough
pub levelled : (g : Graph) (a : ℕ) → IsGraph g → has g a ≡ true → (n i : ℕ) (known level : List ℕ)
    → IsTurn g a i known level → key_count g ≤ length known + n → IsLevelled g a i (levels_from g n known level)
levelled g a is there zero i known level t enough =
    let none = none_left g a i known level t is there (omega (arith, enough)) in
    levelled_end g a i known (subst (IsTurn g a i known) none t)
levelled g a is there (suc n) i known [] t enough = levelled_end g a i known t
levelled g a is there (suc n) i known (x ∷ xs) t enough =
    levelled_step g a i known (x ∷ xs) _ t
    (levelled g a is there n (suc i) (known ++ x ∷ xs) (level_after g (known ++ x ∷ xs) (x ∷ xs))
    (next_turn g a i known (x ∷ xs) t) (omega (arith, enough, length-append known (x ∷ xs))))

-- the keys of earlier levels and those of the levels from here on stand once
pub once_from : (g : Graph) (a n i : ℕ) (known level : List ℕ) → IsTurn g a i known level → Once
    (known ++ concat (levels_from g n known level))
once_from g a zero i known level t = rw append-nil t.once_known
once_from g a (suc n) i known [] t = rw append-nil t.once_known
once_from g a (suc n) i known (x ∷ xs) t =
    let later = once_from g a n (suc i) (known ++ x ∷ xs) (level_after g (known ++ x ∷ xs) (x ∷ xs))
    (next_turn g a i known (x ∷ xs) t) in
    subst Once (append_assoc known (x ∷ xs) (concat (levels_from g n (known ++ x ∷ xs)
    (level_after g (known ++ x ∷ xs) (x ∷ xs))))) later

-- no level is empty
pub filled : (g : Graph) (n : ℕ) (known level : List ℕ) (i : ℕ) → i < length (levels_from g n known level) → level_at
    (levels_from g n known level) i ≢ []
filled g zero known level i h = absurd (omega arith)
filled g (suc n) known [] i h = absurd (omega arith)
filled g (suc n) known (x ∷ xs) zero h = λ e. (cc)
filled g (suc n) known (x ∷ xs) (suc i) h = filled g n _ _ i (omega arith)

-- each key that is reached stands in an earlier level or in one from here on
pub all_from : (g : Graph) (a : ℕ) → IsGraph g → has g a ≡ true → (n i : ℕ) (known level : List ℕ)
    → IsTurn g a i known level → key_count g ≤ length known + n
    → (m x : ℕ) → Walk g a m x → In x (known ++ concat (levels_from g n known level))
all_from g a is there zero i known level t enough m x w =
    let none = none_left g a i known level t is there (omega (arith, enough)) in
    rw append-nil (t.in_known x (no_more g a i known level t none m x w))
all_from g a is there (suc n) i known [] t enough m x w = rw append-nil
    (t.in_known x (no_more g a i known [] t refl m x w))
all_from g a is there (suc n) i known (y ∷ ys) t enough m x w =
    let later = all_from g a is there n (suc i) (known ++ y ∷ ys) (level_after g (known ++ y ∷ ys) (y ∷ ys))
    (next_turn g a i known (y ∷ ys) t) (omega (arith, enough, length-append known (y ∷ ys))) m x w in
    subst (In x) (append_assoc known (y ∷ ys) (concat (levels_from g n (known ++ y ∷ ys)
    (level_after g (known ++ y ∷ ys) (y ∷ ys))))) later
