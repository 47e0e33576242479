-- The path found backwards is a path of the least cost, and goes by the least keys.
use Rattle.std.proofs.Common.{◌≡◌, ◌≢◌, ℕ, zero, suc, ◌+◌, ◌<◌, ◌≤◌, ◌==◌, true, false, cond, inl, inr, List, [], ◌∷◌}
use Rattle.std.proofs.Common.{◌++◌, length, filter, unwrap_or, Option, Some, None, is_some, refl, sym, ap, ◌∙◌, subst}
use Rattle.std.proofs.Common.{arith}
use Rattle.std.proofs.lemmas.Bool.{true≢false, eq-eqb, eqb-true, eqb-false, or_cases, cond-true}
use Rattle.std.specs.FinSet as set
use Rattle.std.specs.Ordering.{nat_cmp, eq_by_cmp}
use Rattle.std.specs.List.{list_any}
use Rattle.std.specs.Cmp.{unsigned_tied}
use Rattle.graph_kinds.specs.Graph.{Graph, IsGraph, has, weight_of, key_count}
use Rattle.graph_kinds.specs.Path.{IsPath, cost_of, IsLeastCost, least_cost, reaches_by, is_before, key_before}
use Rattle.graph_kinds.specs.Path.{behind_before, cheapest_back, cheapest_path, LeadsOver, IsKeyBefore, GoesByLeastKeys}
use Rattle.graph_kinds.proofs.PathsLists.{In, Once, in_filter, filter_in, few}
use Rattle.graph_kinds.proofs.PathsWalks.{weight_there, path_on, key_behind}
use Rattle.graph_kinds.proofs.CostsPaths.{path_head}
use Rattle.graph_kinds.proofs.CostsLeast.{least_is, least_there, some_least, least_some}

-- one more pair at the end of a path adds its weight
pub cost_on : (g : Graph) (a y x w : ℕ) (q : List ℕ) → IsPath g a y q → weight_of g y x ≡ Some w → cost_of g
    (q ++ x ∷ []) ≡ cost_of g q + w
cost_on g a y x w [] h is = absurd h
cost_on g a y x w (z ∷ []) h is =
    let weight : unwrap_or (weight_of g z x) 0 ≡ w = ap (λ (u : ℕ). unwrap_or (weight_of g u x) 0) h.1 ∙ ap
    (λ (o : Option ℕ). unwrap_or o 0) is in
    omega (arith, weight)
cost_on g a y x w (z ∷ u ∷ q) h is = omega (arith, cost_on g u y x w (u ∷ q) h.2 is)

-- a path to y that ends with the pair from x
pub record EndsInPair (g : Graph) (a y cost : ℕ) : Type 0 where
  pub x : ℕ
  pub front : List ℕ
  pub weight : ℕ
  pub is_path : IsPath g a x front
  pub pair : weight_of g x y ≡ Some weight
  pub total : cost_of g front + weight ≡ cost

-- one more pair at its front
behind_on : (g : Graph) (a x y z c : ℕ) → x ≡ a → is_some (weight_of g x z) ≡ true → EndsInPair g z y c →
    EndsInPair g a y
    (unwrap_or (weight_of g x z) 0 + c)
behind_on g a x y z c same pair b =
    let head = path_head g z b.x b.front b.is_path in
    record {
      x = b.x;
      front = x ∷ z ∷ head.0;
      weight = b.weight;
      is_path = (same, pair, subst (IsPath g z b.x) head.1 b.is_path);
      pair = b.pair;
      total = omega (arith, b.total, ap (cost_of g) head.1);
    }

-- a path of two keys at least ends with a pair
last_pair : (g : Graph) → IsGraph g → (a y : ℕ) → has g a ≡ true → (x z : ℕ) (p : List ℕ) → IsPath g a y (x ∷ z ∷ p)
    → EndsInPair g a y (cost_of g (x ∷ z ∷ p))
last_pair g is a y there x z [] h =
    let same : z ≡ y = h.2.1 in
    let w = weight_there (weight_of g x z) h.1 in
    let weight : unwrap_or (weight_of g x z) 0 ≡ w.0 = ap (λ (o : Option ℕ). unwrap_or o 0) w.1 in
    record {
      x = x;
      front = x ∷ [];
      weight = w.0;
      is_path = (h.0, refl, subst (λ (u : ℕ). has g u ≡ true) (sym h.0) there);
      pair = subst (λ (u : ℕ). weight_of g x u ≡ Some w.0) same w.1;
      total = omega (arith, weight);
    }
last_pair g is a y there x z (u ∷ p) h = behind_on g a x y z (cost_of g (z ∷ u ∷ p)) h.0 h.1
    (last_pair g is z y (key_behind g is x z h.1) z u p h.2)

-- and so does each path to another key than the first
pub path_behind : (g : Graph) → IsGraph g → (a y : ℕ) → has g a ≡ true → a ≢ y → (p : List ℕ) → IsPath g a y p
    → EndsInPair g a y (cost_of g p)
path_behind g is a y there ne [] h = absurd h
path_behind g is a y there ne (x ∷ []) h = absurd (ne (sym h.0 ∙ h.1))
path_behind g is a y there ne (x ∷ z ∷ p) h = last_pair g is a y there x z p h

-- what the test on a key says
test_leads : (g : Graph) (a x y : ℕ) (c w d : Option ℕ) → least_cost g a x ≡ c → weight_of g x y ≡ w
    → least_cost g a y ≡ d → reaches_by c w d ≡ true → LeadsOver g a x y
test_leads g a x y None w d p q r t = absurd (true≢false (sym t))
test_leads g a x y (Some c) None d p q r t = absurd (true≢false (sym t))
test_leads g a x y (Some c) (Some w) None p q r t = absurd (true≢false (sym t))
test_leads g a x y (Some c) (Some w) (Some d) p q r t = record
    { cost = c; weight = w; to_x = p; pair = q; to_y = r ∙ ap (λ (n : ℕ). Some n) (sym (eqb-true (c + w) d t)) }

-- the test on a key and the record of it say the same
pub leads : (g : Graph) (a x y : ℕ) → is_before g a y x ≡ true → LeadsOver g a x y
leads g a x y t = test_leads g a x y (least_cost g a x) (weight_of g x y) (least_cost g a y) refl refl refl t

-- and back
pub leads_test : (g : Graph) (a x y : ℕ) → LeadsOver g a x y → is_before g a y x ≡ true
leads_test g a x y l =
    ap (λ (o : Option ℕ). reaches_by o (weight_of g x y) (least_cost g a y)) l.to_x
    ∙ ap (λ (o : Option ℕ). reaches_by (Some l.cost) o (least_cost g a y)) l.pair
    ∙ ap (λ (o : Option ℕ). reaches_by (Some l.cost) (Some l.weight) o) l.to_y
    ∙ eq-eqb (l.cost + l.weight) (l.cost + l.weight) refl

-- the keys of a set are its items
item_there : (xs : List ℕ) (x : ℕ) → list_any (eq_by_cmp nat_cmp x) xs ≡ true → In x xs
item_there [] x e = absurd (true≢false (sym e))
item_there (y ∷ ys) x e = elim (or_cases (eq_by_cmp nat_cmp x y) (list_any (eq_by_cmp nat_cmp x) ys) e) as
    (λ _. In x (y ∷ ys)) [
      | inl t ↦ inl (sym (eqb-true x y (sym (unsigned_tied x y) ∙ t)))
      | inr t ↦ inr (item_there ys x t)
    ]

-- each key is an item
pub key_item : (g : Graph) (x : ℕ) → has g x ≡ true → In x (set.items g.keys)
key_item g x h = item_there (set.items g.keys) x (sym (set.contains-items g.keys x) ∙ h)

-- the key before is the least over which a cheapest way leads
pub before_is : (g : Graph) → IsGraph g → (a x y : ℕ) → key_before g a y ≡ Some x → IsKeyBefore g a x y
before_is g is a x y e =
    let l = least_is (filter (is_before g a y) (set.items g.keys)) x e in
    record {
      leads = leads g a x y (filter_in (is_before g a y) x (set.items g.keys) l.within).1;
      least = λ z k. l.bound z (in_filter (is_before g a y) z (set.items g.keys)
          (key_item g z (is.from_key z y k.weight k.pair)) (leads_test g a z y k));
    }

-- a key but the first has one before it
pub before_there : (g : Graph) → IsGraph g → (a y d : ℕ) → has g a ≡ true → a ≢ y → least_cost g a y ≡ Some d → (x : ℕ)
    × (key_before g a y ≡ Some x)
before_there g is a y d there ne e =
    least_there over.x (filter (is_before g a y) (set.items g.keys))
    (in_filter (is_before g a y) over.x (set.items g.keys)
    (key_item g over.x (is.from_key over.x y over.weight over.pair)) (leads_test g a over.x y over_leads))
  where
    best : IsLeastCost g a y d
    best = some_least g a y is there d e

    over : EndsInPair g a y (cost_of g best.path)
    over = path_behind g is a y there ne best.path best.is_path

    front_least : (p : List ℕ) → IsPath g a over.x p → cost_of g over.front ≤ cost_of g p
    front_least p h =
        let pair : is_some (weight_of g over.x y) ≡ true = ap (λ (o : Option ℕ). is_some o) over.pair in
        let longer = path_on g a over.x y p h pair (is.to_key over.x y over.weight over.pair) in
        omega (
          arith,
          best.least (p ++ y ∷ []) longer,
          cost_on g a over.x y over.weight p h over.pair,
          over.total,
          best.cost,
        )

    over_leads : LeadsOver g a over.x y
    over_leads = record {
      cost = cost_of g over.front;
      weight = over.weight;
      to_x = least_some g a over.x is there (cost_of g over.front)
          (record { path = over.front; is_path = over.is_path; cost = refl; least = front_least });
      pair = over.pair;
      to_y = e ∙ ap (λ (n : ℕ). Some n) (sym (over.total ∙ best.cost));
    }

-- the last key of a path is a key of the graph
pub path_end : (g : Graph) (a b : ℕ) (p : List ℕ) → IsPath g a b p → has g b ≡ true
path_end g a b [] h = absurd h
path_end g a b (x ∷ []) h = subst (λ (z : ℕ). has g z ≡ true) h.1 h.2
path_end g a b (x ∷ y ∷ p) h = path_end g y b (y ∷ p) h.2

-- one more key at the end of a path by the least keys
keys_on : (g : Graph) (a start x y : ℕ) (q : List ℕ) → IsPath g start x q → GoesByLeastKeys g a q → IsKeyBefore g a x y
    → GoesByLeastKeys g a (q ++ y ∷ [])
keys_on g a start x y [] h k b = absurd h
keys_on g a start x y (z ∷ []) h k b = (subst (λ (u : ℕ). IsKeyBefore g a u y) (sym h.1) b, tt)
keys_on g a start x y (z ∷ u ∷ q) h k b = (k.0, keys_on g a u x y (u ∷ q) h.2 k.1 b)

-- a path to y of cost d that goes by the least keys
pub record IsCheapest (g : Graph) (a y d : ℕ) (p : List ℕ) : Type 0 where
  pub is_path : IsPath g a y p
  pub cost : cost_of g p ≡ d
  pub keys : GoesByLeastKeys g a p

-- z costs more than d
abbrev Dearer : Graph → ℕ → ℕ → ℕ → Type 0
Dearer g a d z = (e : ℕ) × (least_cost g a z ≡ Some e) × (d < e)

module _ (g : Graph) (is : IsGraph g) (a : ℕ) (there : has g a ≡ true) where
  -- what has a least cost is a key
  end_key : (y d : ℕ) → least_cost g a y ≡ Some d → has g y ≡ true
  end_key y d e = let best : IsLeastCost g a y d = some_least g a y is there d e in path_end g a y best.path
      best.is_path

  -- the path of one key
  start_best : (y d : ℕ) → least_cost g a y ≡ Some d → y ≡ a → IsCheapest g a y d (y ∷ [])
  start_best y d e same =
      let best : IsLeastCost g a y d = some_least g a y is there d e in
      let here : IsPath g a y (y ∷ []) = (same, refl, end_key y d e) in
      record { is_path = here; cost = omega (arith, best.least (y ∷ []) here); keys = tt }

  -- one more key at the end of a cheapest path
  step_best : (x y d : ℕ) (q : List ℕ) (k : IsKeyBefore g a x y) → least_cost g a y ≡ Some d
      → IsCheapest g a x k.leads.cost q → IsCheapest g a y d (q ++ y ∷ [])
  step_best x y d q k e b =
      let l : LeadsOver g a x y = k.leads in
      let total : l.cost + l.weight ≡ d = ap (λ (o : Option ℕ). unwrap_or o d) (sym l.to_y ∙ e) in
      record {
        is_path = path_on g a x y q b.is_path (ap (λ (o : Option ℕ). is_some o) l.pair) (end_key y d e);
        cost = omega (arith, cost_on g a x y l.weight q b.is_path l.pair, b.cost, total);
        keys = keys_on g a a x y q b.is_path b.keys k;
      }

  -- each of these is a key that costs more than d
  abbrev DearKeys : ℕ → List ℕ → Type 0
  DearKeys d later = (z : ℕ) → In z later → (has g z ≡ true) × Dearer g a d z

  -- a key is not among those that cost more than it
  not_later : (y d : ℕ) (later : List ℕ) → least_cost g a y ≡ Some d → DearKeys d later → In y later → ⊥
  not_later y d later e dear h =
      let r = (dear y h).1 in
      let same : d ≡ r.0 = ap (λ (o : Option ℕ). unwrap_or o d) (sym e ∙ r.1) in
      absurd (omega (arith, same, r.2))

  -- the key before costs less, so these and y cost more than it
  dear_before : (x y d : ℕ) (later : List ℕ) (k : IsKeyBefore g a x y) → least_cost g a y ≡ Some d → DearKeys d later
      → DearKeys k.leads.cost (y ∷ later)
  dear_before x y d later k e dear z h =
      let l : LeadsOver g a x y = k.leads in
      let total : l.cost + l.weight ≡ d = ap (λ (o : Option ℕ). unwrap_or o d) (sym l.to_y ∙ e) in
      let some : 1 ≤ l.weight = is.weighed x y l.weight l.pair in
      elim h as (λ _. (has g z ≡ true) × Dearer g a l.cost z) [
        | inl same ↦ (
          subst (λ (u : ℕ). has g u ≡ true) same (end_key y d e),
          (d, ap (least_cost g a) (sym same) ∙ e, omega (arith, total, some)),
        )
        | inr j ↦ let r = dear z j in (r.0, (r.1.0, r.1.1, omega (arith, r.1.2, total, some)))
      ]

  -- the keys behind y on the way, later, cost more each; so the turns don't run out
  back_best : (n y d : ℕ) → least_cost g a y ≡ Some d → (later : List ℕ) → Once later → DearKeys d later
      → key_count g ≤ length later + n → IsCheapest g a y d (cheapest_back g a n y)
  back_best zero y d e later once dear enough = absurd (
      let all : length (y ∷ later) ≤ key_count g = few g.keys (y ∷ later) (not_later y d later e dear, once)
      (λ z h. elim h as (λ _. has g z ≡ true) [
        | inl same ↦ subst (λ (u : ℕ). has g u ≡ true) same
            (end_key y d e)
        | inr k ↦ (dear z k).0
      ]) in
      omega (arith, all, enough))
  back_best (suc n) y d e later once dear enough = elim (y == a) as
      (λ b. (y == a) ≡ b → IsCheapest g a y d (cond b (y ∷ [])
      (behind_before (cheapest_back g a n) y (key_before g a y)))) [
        | true ↦ λ t. start_best y d e (eqb-true y a t)
        | false ↦ λ t.
            let r = before_there g is a y d there (λ (same : a ≡ y). eqb-false y a t (sym same)) e in
            let k : IsKeyBefore g a r.0 y = before_is g is a r.0 y r.1 in
            subst (λ (o : Option ℕ). IsCheapest g a y d (behind_before (cheapest_back g a n) y o)) (sym r.1)
            (step_best r.0 y d (cheapest_back g a n r.0) k e
            (back_best n r.0 k.leads.cost k.leads.to_x (y ∷ later) (not_later y d later e dear, once)
            (dear_before r.0 y d later k e dear) (omega (arith, enough))))
      ] refl

  pub cheapest : (b c : ℕ) → least_cost g a b ≡ Some c → IsCheapest g a b c (cheapest_path g a b)
  cheapest b c e = back_best (key_count g) b c e [] tt (λ z h. absurd h) (omega arith)

-- the clauses of the law
pub cheapest_path_law : (g : Graph) (a b c : ℕ) → IsGraph g → has g a ≡ true → least_cost g a b ≡ Some c → IsPath g a b
    (cheapest_path g a b)
cheapest_path_law g a b c is there e = (cheapest g is a there b c e).is_path

pub cost_law : (g : Graph) (a b c : ℕ) → IsGraph g → has g a ≡ true → least_cost g a b ≡ Some c → cost_of g
    (cheapest_path g a b) ≡ c
cost_law g a b c is there e = (cheapest g is a there b c e).cost

pub keys_law : (g : Graph) (a b c : ℕ) → IsGraph g → has g a ≡ true → least_cost g a b ≡ Some c → GoesByLeastKeys g a
    (cheapest_path g a b)
keys_law g a b c is there e = (cheapest g is a there b c e).keys

pub itself_law : (g : Graph) (a : ℕ) → cheapest_path g a a ≡ a ∷ []
itself_law g a = from (key_count g)
  where
    from : (n : ℕ) → cheapest_back g a n a ≡ a ∷ []
    from zero = refl
    from (suc n) = cond-true (a == a) _ _ (eq-eqb a a refl)
