-- What graphs are by their look-ups, and what calls change.
use Rattle.std.proofs.Common.{◌≡◌, ℕ, ◌≤◌, Bool, true, false, cond, not, ◌&&◌, ◌||◌, ◌==◌, List, [], ◌∷◌, length, Some}
use Rattle.std.proofs.Common.{None, refl, sym, ap, ◌∙◌, arith}
use Rattle.std.specs.Prelude.{filter}
use Rattle.std.specs.declared.cmp.Ordering.{Ordering}
use Rattle.std.specs.declared.cmp.Ordering.TheVariants.{Less, Equal, Greater}
use Rattle.std.specs.Ordering.{nat_cmp, eq_by_cmp, ordering_then, is_eq}
use Rattle.std.specs.Cmp.{IsTotalOrder, then_total, on_total, nat_cmp_total, unsigned_tied}
use Rattle.std.specs.FinMap as map
use Rattle.std.specs.FinMap.Entries as entry
use Rattle.std.specs.FinSet as set
use Rattle.graph_kinds.specs.Graph.{Graph, pair_cmp, has, weight_of}

pub pair_total : IsTotalOrder pair_cmp
pair_total = then_total (on_total (λ (p : ℕ × ℕ). p.0) nat_cmp_total) (on_total (λ (p : ℕ × ℕ). p.1) nat_cmp_total)

both_equal : (r s : Ordering) → ordering_then r s ≡ Equal → (r ≡ Equal) × (s ≡ Equal)
both_equal Less s e = absurd (cc)
both_equal Equal s e = (refl, e)
both_equal Greater s e = absurd (cc)

-- only equal pairs tie
pub pair_same : map.IsAntisymmetric pair_cmp
pair_same x y e =
    let both = both_equal (nat_cmp x.0 y.0) (nat_cmp x.1 y.1) e in
    let first : x.0 ≡ y.0 = map.nat_cmp-IsAntisymmetric x.0 y.0 both.0 in
    let second : x.1 ≡ y.1 = map.nat_cmp-IsAntisymmetric x.1 y.1 both.1 in
    λ i. (first i, second i)

-- the test of equal pairs, as tests of their keys
pub pair_tied : (a b c d : ℕ) → eq_by_cmp pair_cmp (a, b) (c, d) ≡ ((a == c) && (b == d))
pair_tied a b c d = by (nat_cmp a c) (nat_cmp b d) ∙ (λ i. unsigned_tied a c i && unsigned_tied b d i)
  where
    by : (r s : Ordering) → is_eq (ordering_then r s) ≡ (is_eq r && is_eq s)
    by Less s = refl
    by Equal s = refl
    by Greater s = refl

-- two graphs with the same keys and weights are one
pub same_graph : (g h : Graph) → ((k : ℕ) → has g k ≡ has h k) → ((a b : ℕ) → weight_of g a b ≡ weight_of h a b) → g ≡ h
same_graph g h keys weights =
    let k : g.keys ≡ h.keys = set.same_set nat_cmp_total set.nat_cmp-IsAntisymmetric g.keys h.keys keys in
    let p : g.pairs ≡ h.pairs = map.same_map pair_total pair_same g.pairs h.pairs (λ q. weights q.0 q.1) in
    λ i. record { keys = k i; pairs = p i }

-- look-ups in what a call changed
pub has_put : (s : set.FinSet nat_cmp) (j k : ℕ) → set.contains (set.insert s j) k ≡ ((k == j) || set.contains s k)
has_put s j k = set.contains-insert nat_cmp_total s j k ∙ ap (λ b. b || set.contains s k) (unsigned_tied k j)

pub has_cut : (s : set.FinSet nat_cmp) (j k : ℕ) → set.contains (set.remove s j) k ≡ (not (k == j) && set.contains s k)
has_cut s j k = set.contains-remove nat_cmp_total s j k ∙ ap (λ b. not b && set.contains s k) (unsigned_tied k j)

pub weight_put : (m : map.FinMap pair_cmp ℕ) (c d w a b : ℕ) → map.get (map.insert m (c, d) w) (a, b) ≡ cond
    ((a == c) && (b == d)) (Some w) (map.get m (a, b))
weight_put m c d w a b = map.get-insert pair_total m (c, d) w (a, b) ∙ ap (λ t. cond t (Some w) (map.get m (a, b)))
    (pair_tied a b c d)

pub weight_cut : (m : map.FinMap pair_cmp ℕ) (c d a b : ℕ) → map.get (map.remove m (c, d)) (a, b) ≡ cond
    ((a == c) && (b == d)) None (map.get m (a, b))
weight_cut m c d a b = map.get-remove pair_total m (c, d) (a, b) ∙ ap (λ t. cond t None (map.get m (a, b)))
    (pair_tied a b c d)

pub weight_kept : (m : map.FinMap pair_cmp ℕ) (t : ℕ × ℕ → Bool) (a b : ℕ) → map.get (map.retain_keys m t) (a, b) ≡ cond
    (t (a, b)) (map.get m (a, b)) None
weight_kept m t a b = map.get-retain_keys m t (a, b) (λ x e. ap t (sym (pair_same (a, b) x e)))

-- the entries that are retained, and that they are no more
pub entries-retain_keys : (m : map.FinMap pair_cmp ℕ) (t : ℕ × ℕ → Bool) → map.entries
    (map.retain_keys m t) ≡ entry.where_key pair_cmp t (map.entries m)
entries-retain_keys m t =
    let sorted = entry.is_sorted-where_key pair_cmp t (map.entries m) (map.entries_sorted m) in
    let alike : (q x : ℕ × ℕ) → pair_cmp q x ≡ Equal → t x ≡ t q = λ q x e. ap t (sym (pair_same q x e)) in
    let same : map.retain_keys m t ≡ map.from_sorted (entry.where_key pair_cmp t (map.entries m)) =
    map.same_map pair_total pair_same _ _ (λ q. map.get-retain_keys m t q (alike q)
    ∙ (ap (λ x. cond (t q) x None) (map.get-entries m q)
    ∙ (sym (entry.find-where_key pair_cmp t q (alike q) (map.entries m))
    ∙ sym (map.get-from_sorted pair_cmp _ q sorted)))) in
    ap map.entries same ∙ map.entries-from_sorted pair_cmp _ sorted

filter_short : {A : Type 0} (p : A → Bool) (xs : List A) → length (filter p xs) ≤ length xs
filter_short p [] = omega arith
filter_short p (x ∷ xs) = let h = filter_short p xs in elim (p x) as
    (λ b. length (cond b (x ∷ filter p xs) (filter p xs)) ≤ length (x ∷ xs))
    [ true ↦ omega arith | false ↦ omega arith ]

pub len-retain_keys : (m : map.FinMap pair_cmp ℕ) (t : ℕ × ℕ → Bool) → map.len (map.retain_keys m t) ≤ map.len m
len-retain_keys m t =
    let a : map.len (map.retain_keys m t) ≡ length (entry.where_key pair_cmp t (map.entries m)) = map.len-entries _
    ∙ ap length (entries-retain_keys m t) in
    let b = map.len-entries m in
    let h = filter_short (λ (e : (ℕ × ℕ) × ℕ). t e.0) (map.entries m) in
    omega arith
