-- From a key, a graph and the part of it that is reached from there are answered alike.
use Rattle.std.proofs.Common.{◌≡◌, ℕ, zero, suc, ◌+◌, ◌≤◌, Bool, true, false, cond, inl, inr, List, [], ◌∷◌, ◌++◌}
use Rattle.std.proofs.Common.{length, length-append, filter, flat_map, find, not, unwrap_or, slice_index, Option, Some}
use Rattle.std.proofs.Common.{None, is_some, refl, sym, ap, ◌∙◌, subst, arith}
use Rattle.std.proofs.lemmas.Bool.{cond-true}
use Rattle.std.specs.FinSet as set
use Rattle.std.specs.List.{concat}
use Rattle.graph_kinds.specs.Graph.{Graph, IsGraph, has, weight_of, neighbours, key_count}
use Rattle.graph_kinds.specs.Path.{IsPath, cost_of, IsLeastCost, least_cost, cheapest_path, LeadsOver, GoesByLeastKeys}
use Rattle.graph_kinds.specs.Levels.{stands_in, firsts_of, level_after, levels_from, levels_of, level_at, reach_path}
use Rattle.graph_kinds.specs.Levels.{GoesByParents}
use Rattle.graph_kinds.specs.Part.{IsPart, part}
use Rattle.graph_kinds.proofs.Graphs.{same_graph, weight_kept}
use Rattle.graph_kinds.proofs.PathsLists.{In, stands}
use Rattle.graph_kinds.proofs.PathsPairs.{neighbours_rise, same_rising}
use Rattle.graph_kinds.proofs.PathsWalks.{weight_there, in_neighbours, neighbours_in, key_behind, path_on, walk_key}
use Rattle.graph_kinds.proofs.LevelsTurns.{IsTurn, first_turn, next_turn, none_left}
use Rattle.graph_kinds.proofs.LevelsReach as reach
use Rattle.graph_kinds.proofs.CostsLeast.{some_least, least_some}
use Rattle.graph_kinds.proofs.CostsCheapest.{path_end, IsCheapest, cheapest}
use Rattle.graph_kinds.proofs.CostsOnly.{only_law}
use Rattle.graph_kinds.proofs.LevelsLaws.{all_law, in_some_level}

-- functions that agree on a list give one joined list, one first item that passes
same_flat : (f k : ℕ → List ℕ) (xs : List ℕ) → ((x : ℕ) → In x xs → f x ≡ k x) → flat_map f xs ≡ flat_map k xs
same_flat f k [] e = refl
same_flat f k (x ∷ xs) e = λ i. e x (inl refl) i ++ same_flat f k xs (λ z h. e z (inr h)) i

same_find : (p q : ℕ → Bool) (xs : List ℕ) → ((x : ℕ) → In x xs → p x ≡ q x) → find p xs ≡ find q xs
same_find p q [] e = refl
same_find p q (x ∷ xs) e = λ i. cond (e x (inl refl) i) (Some x) (same_find p q xs (λ z h. e z (inr h)) i)

-- two options with the same contents are one
same_option : (o u : Option ℕ) → ((w : ℕ) → o ≡ Some w → u ≡ Some w) → ((w : ℕ) → u ≡ Some w → o ≡ Some w) → o ≡ u
same_option None None f k = refl
same_option None (Some w) f k = k w refl
same_option (Some w) u f k = sym (f w refl)

-- no level behind an empty one
no_levels : (g : Graph) (n : ℕ) (known level : List ℕ) → level ≡ [] → levels_from g n known level ≡ []
no_levels g zero known level e = refl
no_levels g (suc n) known level e = ap (levels_from g (suc n) known) e

module _ (g : Graph) (a : ℕ) (h : Graph) (is : IsGraph g) (there : has g a ≡ true) (reached : IsPart g a h) where
  -- the first key is in its part
  here : has h a ≡ true
  here = (reached.keys a).1 (a ∷ [], (refl, refl, there))

  -- keys and pairs of the part are those of the graph
  key_in : (x : ℕ) → has h x ≡ true → has g x ≡ true
  key_in x k = let p = (reached.keys x).0 k in path_end g a x p.0 p.1

  -- pairs from a key of the part are the same in both
  weight_same : (x y : ℕ) → has h x ≡ true → weight_of h x y ≡ weight_of g x y
  weight_same x y k = same_option (weight_of h x y) (weight_of g x y) (λ w e. ((reached.pairs x y w).0 e).1)
      (λ w e. (reached.pairs x y w).1 (k, e))

  weight_in : (x y w : ℕ) → weight_of h x y ≡ Some w → weight_of g x y ≡ Some w
  weight_in x y w e = ((reached.pairs x y w).0 e).1

  -- the part is a graph
  part_is : IsGraph h
  part_is = record {
    from_key = λ x y w e. ((reached.pairs x y w).0 e).0;
    to_key = λ x y w e. (
        let r = (reached.pairs x y w).0 e in
        let p = (reached.keys x).0 r.0 in
        let pair : is_some (weight_of g x y) ≡ true = ap (λ (o : Option ℕ). is_some o) r.1 in
        (reached.keys y).1 (p.0 ++ y ∷ [], path_on g a x y p.0 p.1 pair (is.to_key x y w r.1)));
    weighed = λ x y w e. is.weighed x y w (weight_in x y w e);
  }

  -- paths of the part are paths of the graph, and back from a key of the part, at the same cost
  path_in : (s b : ℕ) (p : List ℕ) → IsPath h s b p → IsPath g s b p
  path_in s b [] k = k
  path_in s b (x ∷ []) k = (k.0, k.1, key_in x k.2)
  path_in s b (x ∷ y ∷ p) k =
      let w = weight_there (weight_of h x y) k.1 in
      (k.0, ap (λ (o : Option ℕ). is_some o) (weight_in x y w.0 w.1), path_in y b (y ∷ p) k.2)

  in_path : (s b : ℕ) (p : List ℕ) → has h s ≡ true → IsPath g s b p → IsPath h s b p
  in_path s b [] t k = k
  in_path s b (x ∷ []) t k = (k.0, k.1, subst (λ (z : ℕ). has h z ≡ true) (sym k.0) t)
  in_path s b (x ∷ y ∷ p) t k =
      let tx : has h x ≡ true = subst (λ (z : ℕ). has h z ≡ true) (sym k.0) t in
      let pair : is_some (weight_of h x y) ≡ true = ap (λ (o : Option ℕ). is_some o) (weight_same x y tx) ∙ k.1 in
      (k.0, pair, in_path y b (y ∷ p) (key_behind h part_is x y pair) k.2)

  cost_same : (s b : ℕ) (p : List ℕ) → IsPath h s b p → cost_of h p ≡ cost_of g p
  cost_same s b [] k = refl
  cost_same s b (x ∷ []) k = refl
  cost_same s b (x ∷ y ∷ p) k =
      let w = weight_there (weight_of h x y) k.1 in
      let weight : unwrap_or (weight_of h x y) 0 ≡ unwrap_or (weight_of g x y) 0 = ap (λ (o : Option ℕ). unwrap_or o 0)
      (w.1 ∙ sym (weight_in x y w.0 w.1)) in
      omega (arith, weight, cost_same y b (y ∷ p) k.2)

  -- so are least costs
  least_in : (b c : ℕ) → IsLeastCost h a b c → IsLeastCost g a b c
  least_in b c l = record {
    path = l.path;
    is_path = path_in a b l.path l.is_path;
    cost = sym (cost_same a b l.path l.is_path) ∙ l.cost;
    least = λ p k. let q = in_path a b p here k in omega (arith, l.least p q, cost_same a b p q);
  }

  in_least : (b c : ℕ) → IsLeastCost g a b c → IsLeastCost h a b c
  in_least b c l =
      let q = in_path a b l.path here l.is_path in
      record {
        path = l.path;
        is_path = q;
        cost = cost_same a b l.path q ∙ l.cost;
        least = λ p k. omega (arith, l.least p (path_in a b p k), cost_same a b p k);
      }

  -- and so is what is answered
  pub cost_alike : (b : ℕ) → least_cost h a b ≡ least_cost g a b
  cost_alike b = same_option (least_cost h a b) (least_cost g a b)
      (λ c e. least_some g a b is there c (least_in b c (some_least h a b part_is here c e)))
      (λ c e. least_some h a b part_is here c (in_least b c (some_least g a b is there c e)))

  -- a key of the part has the same neighbours in both
  some_same : (x y : ℕ) → has h x ≡ true → is_some (weight_of h x y) ≡ is_some (weight_of g x y)
  some_same x y k = ap (λ (o : Option ℕ). is_some o) (weight_same x y k)

  neighbours_same : (x : ℕ) → has h x ≡ true → neighbours h x ≡ neighbours g x
  neighbours_same x k = same_rising (neighbours h x) (neighbours g x) (neighbours_rise h x) (neighbours_rise g x)
      (λ z i. in_neighbours g x z (sym (some_same x z k) ∙ neighbours_in h x z i))
      (λ z i. in_neighbours h x z (some_same x z k ∙ neighbours_in g x z i))

  -- and a level of such keys the same level behind it
  after_same : (known level : List ℕ) → ((x : ℕ) → In x level → has h x ≡ true)
      → level_after h known level ≡ level_after g known level
  after_same known level keys = ap (λ (l : List ℕ). firsts_of (filter (λ z. not (stands_in known z)) l))
      (same_flat (neighbours h) (neighbours g) level (λ x i. neighbours_same x (keys x i)))

  -- so the levels from a turn on are the same, with turns that are enough in both
  levels_same : (n m i : ℕ) (known level : List ℕ) → IsTurn h a i known level → IsTurn g a i known level
      → key_count h ≤ length known + n → key_count g ≤ length known + m
      → levels_from h n known level ≡ levels_from g m known level
  levels_same zero m i known level t u enough more = sym (no_levels g m known level
      (none_left h a i known level t part_is here (omega (arith, enough))))
  levels_same (suc n) zero i known level t u enough more = no_levels h (suc n) known level
      (none_left g a i known level u is there (omega (arith, more)))
  levels_same (suc n) (suc m) i known [] t u enough more = refl
  levels_same (suc n) (suc m) i known (y ∷ ys) t u enough more =
      let beyond = known ++ y ∷ ys in
      let after = after_same beyond (y ∷ ys) (λ x k. walk_key h a part_is here i x (t.level_in x k)) in
      let next : IsTurn h a (suc i) beyond (level_after g beyond (y ∷ ys)) = subst (IsTurn h a (suc i) beyond) after
      (next_turn h a i known (y ∷ ys) t) in
      let later = levels_same n m (suc i) beyond (level_after g beyond (y ∷ ys)) next (next_turn g a i known (y ∷ ys) u)
      (omega (arith, enough, length-append known (y ∷ ys))) (omega (arith, more, length-append known (y ∷ ys))) in
      ap (λ (l : List ℕ). (y ∷ ys) ∷ levels_from h n beyond l) after ∙ ap (λ (ls : List (List ℕ)). (y ∷ ys) ∷ ls) later

  pub levels_alike : levels_of h a ≡ levels_of g a
  levels_alike = levels_same (key_count h) (key_count g) 0 [] (a ∷ []) (first_turn h a) (first_turn g a) (omega arith)
      (omega arith)

  -- the keys of levels are keys of the part
  level_key : (i x : ℕ) → In x (level_at (levels_of g a) i) → has h x ≡ true
  level_key i x k = let p = (all_law g a x is there).0 (stands (concat (levels_of g a)) x
      (in_some_level x (levels_of g a) i k).1) in (reached.keys x).1 p

  -- parents in the part are parents in the graph
  parents_in : (p : List ℕ) → GoesByParents g (levels_of g a) p → GoesByParents h (levels_of h a) p
  parents_in p f i lt =
      let y = slice_index p (i + 1) in
      let same = same_find (λ x. is_some (weight_of h x y)) (λ x. is_some (weight_of g x y))
      (level_at (levels_of g a) i) (λ x k. some_same x y (level_key i x k)) in
      ap (λ (ls : List (List ℕ)). find (λ x. is_some (weight_of h x y)) (level_at ls i)) levels_alike ∙ same ∙ f i lt

  -- the shortest path by parents in the graph is that in the part
  pub reach_alike : (b : ℕ) → reach_path h a b ≡ reach_path g a b
  reach_alike b = from (reach_path g a b) refl
    where
      from : (o : Option (List ℕ)) → reach_path g a b ≡ o → reach_path h a b ≡ reach_path g a b
      from None e = (reach.no_reach_law h a b part_is here).1
          (λ p k. (reach.no_reach_law g a b is there).0 e p (path_in a b p k)) ∙ sym e
      from (Some p) e =
          let path : IsPath g a b p = reach.reach_path_law g a b p is there e in
          let least = reach.shortest_law g a b p is there e in
          let parents = parents_in p (reach.parents_law g a b p is there e) in
          reach.only_law h a b p part_is here (in_path a b p here path) (λ q k. least q (path_in a b q k)) parents
          ∙ sym e

  -- a cheapest way leads over a pair in the part where it does in the graph
  leads_in : (x y : ℕ) → LeadsOver h a x y → LeadsOver g a x y
  leads_in x y l = record {
    cost = l.cost;
    weight = l.weight;
    to_x = sym (cost_alike x) ∙ l.to_x;
    pair = weight_in x y l.weight l.pair;
    to_y = sym (cost_alike y) ∙ l.to_y;
  }

  in_leads : (x y : ℕ) → LeadsOver g a x y → LeadsOver h a x y
  in_leads x y l =
      let best : IsLeastCost g a x l.cost = some_least g a x is there l.cost l.to_x in
      let key : has h x ≡ true = (reached.keys x).1 (best.path, best.is_path) in
      record {
        cost = l.cost;
        weight = l.weight;
        to_x = cost_alike x ∙ l.to_x;
        pair = weight_same x y key ∙ l.pair;
        to_y = cost_alike y ∙ l.to_y;
      }

  -- so a path goes by the least keys in both
  least_keys_in : (p : List ℕ) → GoesByLeastKeys g a p → GoesByLeastKeys h a p
  least_keys_in [] k = tt
  least_keys_in (x ∷ []) k = tt
  least_keys_in (x ∷ y ∷ p) k = (
    record { leads = in_leads x y k.0.leads; least = λ z l. k.0.least z (leads_in z y l) },
    least_keys_in (y ∷ p) k.1,
  )

  -- and is the one found backwards in both
  pub cheapest_alike : (b c : ℕ) → least_cost g a b ≡ Some c → cheapest_path h a b ≡ cheapest_path g a b
  cheapest_alike b c e =
      let best : IsCheapest g a b c (cheapest_path g a b) = cheapest g is a there b c e in
      sym (only_law h a b (cheapest_path g a b) part_is here (in_path a b (cheapest_path g a b) here best.is_path)
      (least_keys_in (cheapest_path g a b) best.keys))

-- two tests that imply each other give one answer
same_bool : (b d : Bool) → (b ≡ true → d ≡ true) → (d ≡ true → b ≡ true) → b ≡ d
same_bool true d f k = sym (f refl)
same_bool false true f k = k refl
same_bool false false f k = refl

-- two graphs that are the part are one
one_part : (g : Graph) (a : ℕ) (h k : Graph) → IsPart g a h → IsPart g a k → h ≡ k
one_part g a h k p q = same_graph h k (λ x. keys x) (λ x y. same_option (weight_of h x y) (weight_of k x y)
    (λ w e. let r = (p.pairs x y w).0 e in (q.pairs x y w).1 (sym (keys x) ∙ r.0, r.1))
    (λ w e. let r = (q.pairs x y w).0 e in (p.pairs x y w).1 (keys x ∙ r.0, r.1)))
  where
    keys : (x : ℕ) → has h x ≡ has k x
    keys x = same_bool (has h x) (has k x) (λ e. (q.keys x).1 ((p.keys x).0 e)) (λ e. (p.keys x).1 ((q.keys x).0 e))

-- the part by levels is the part
pub part_law : (g : Graph) (a : ℕ) → IsGraph g → has g a ≡ true → IsPart g a (part g a)
part_law g a is there = record {
  keys = λ x. (λ e. (all_law g a x is there).0 (sym (key x) ∙ e), λ p. key x ∙ (all_law g a x is there).1 p);
  pairs = λ x y w. (λ e. out x y w (sym (kept x y) ∙ e), λ r. kept x y ∙ into x y w r);
}
  where
    all : List ℕ
    all = concat (levels_of g a)

    key : (x : ℕ) → has (part g a) x ≡ stands_in all x
    key x = set.contains-from_list_nat all x

    kept : (x y : ℕ) → weight_of (part g a) x y ≡ cond (stands_in all x) (weight_of g x y) None
    kept x y = weight_kept g.pairs (λ p. stands_in all p.0) x y

    out : (x y w : ℕ) → cond (stands_in all x) (weight_of g x y) None ≡ Some w → (has (part g a) x ≡ true) ×
        (weight_of g x y ≡ Some w)
    out x y w e = elim (stands_in all x) as (λ b. stands_in all x ≡ b → cond b (weight_of g x y) None ≡ Some w →
        (has (part g a) x ≡ true) × (weight_of g x y ≡ Some w)) [
          | true ↦ λ t f. (key x ∙ t, f)
          | false ↦ λ t f. absurd (cc)
        ] refl e

    into : (x y w : ℕ) → (has (part g a) x ≡ true) × (weight_of g x y ≡ Some w) → cond (stands_in all x)
        (weight_of g x y) None ≡ Some w
    into x y w r = cond-true (stands_in all x) (weight_of g x y) None (sym (key x) ∙ r.0) ∙ r.1

pub only_part_law : (g h : Graph) (a : ℕ) → IsGraph g → has g a ≡ true → IsPart g a h → h ≡ part g a
only_part_law g h a is there p = one_part g a h (part g a) p (part_law g a is there)

pub graph_law : (g : Graph) (a : ℕ) → IsGraph g → has g a ≡ true → IsGraph (part g a)
graph_law g a is there = part_is g a (part g a) is there (part_law g a is there)

pub levels_law : (g : Graph) (a : ℕ) → IsGraph g → has g a ≡ true → levels_of (part g a) a ≡ levels_of g a
levels_law g a is there = levels_alike g a (part g a) is there (part_law g a is there)

pub reach_law : (g : Graph) (a b : ℕ) → IsGraph g → has g a ≡ true → reach_path (part g a) a b ≡ reach_path g a b
reach_law g a b is there = reach_alike g a (part g a) is there (part_law g a is there) b

pub cost_law : (g : Graph) (a b : ℕ) → IsGraph g → has g a ≡ true → least_cost (part g a) a b ≡ least_cost g a b
cost_law g a b is there = cost_alike g a (part g a) is there (part_law g a is there) b

pub cheapest_law : (g : Graph) (a b c : ℕ) → IsGraph g → has g a ≡ true → least_cost g a b ≡ Some c → cheapest_path
    (part g a) a b ≡ cheapest_path g a b
cheapest_law g a b c is there e = cheapest_alike g a (part g a) is there (part_law g a is there) b c e
