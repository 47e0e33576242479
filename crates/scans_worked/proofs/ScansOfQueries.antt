-- The worked scans are scans.
use Rattle.std.proofs.Common.{◌≡◌, ◌≢◌, ℕ, zero, suc, ◌+◌, ◌<◌, ◌≤◌, ◌^◌, Some, refl}
use Rattle.std.proofs.Common.{arith}
use Rattle.std.proofs.Common.{subst, lit<, lit≤}
use Rattle.scan_record.specs.Scan.{ScanValue, IsScan, row_at, edge_at}
use Rattle.core_scans.specs.Worked.{edge_to_two, scan_from_one}

-- of the rows of vertex 1 and 2, and of the one edge
two : (P : ℕ → Type 0) → P 0 → P 1 → (k : ℕ) → k < 2 → P k
two P a b zero low = a
two P a b (suc zero) low = b
two P a b (suc (suc k)) low = absurd (omega (arith, low))

one : (P : ℕ → Type 0) → P 0 → (p : ℕ) → p < 1 → P p
one P a zero low = a
one P a (suc p) low = absurd (omega (arith, low))

module _ (counter x weight : ℕ) (some : 1 ≤ weight) (fits : weight < 2 ^ 32) where
  abbrev s : ScanValue
  s = scan_from_one counter (edge_to_two x weight)

  differ : (j k : ℕ) → j < k → k < 2 → (row_at s j).life.index ≢ (row_at s k).life.index
  differ zero zero less low = absurd (omega (arith, less))
  differ zero (suc zero) less low = λ h. absurd (omega (arith, h))
  differ (suc j) (suc zero) less low = absurd (omega (arith, less))
  differ (suc j) zero less low = absurd (omega (arith, less))
  differ j (suc (suc k)) less low = absurd (omega (arith, low))

  apart : (j k : ℕ) → j < k → k < 2 → 0 < (row_at s k).count
      → (row_at s j).first + (row_at s j).count ≤ (row_at s k).first
  apart j zero less low many = absurd (omega (arith, less))
  apart j (suc zero) less low many = absurd (omega (arith, many))
  apart j (suc (suc k)) less low many = absurd (omega (arith, low))

  rising : (k p q : ℕ) → k < 2 → (row_at s k).first ≤ p → p < q → q < (row_at s k).first + (row_at s k).count
      → (edge_at s p).key < (edge_at s q).key
  rising zero p q low from less to = absurd (omega (arith, from, less, to))
  rising (suc zero) p q low from less to = absurd (omega (arith, from, less, to))
  rising (suc (suc k)) p q low from less to = absurd (omega (arith, low))

  pub is_scan : IsScan (scan_from_one counter (edge_to_two x weight))
  is_scan = record {
    few_nodes = lit≤ tt;
    rows_fit = lit≤ tt;
    edges_fit = lit≤ tt;
    keys_fit = lit≤ tt;
    ends_fit = lit≤ tt;
    costs_of_rows = refl;
    slot_zero_of_rows = refl;
    slot_one_of_rows = refl;
    slot_two_of_rows = refl;
    index_fits = two (λ k. (row_at s k).life.index < 8) (lit< tt) (lit< tt);
    indices_differ = differ;
    key_fits = two (λ k. (row_at s k).key < 2 ^ 32) (lit< tt) (lit< tt);
    started_in_order = lit≤ tt;
    started_are_rows = lit≤ tt;
    not_started = λ k from low. absurd (omega (arith, from, low));
    edges_end = two (λ k. (row_at s k).first + (row_at s k).count ≤ 1) (lit≤ tt) (lit≤ tt);
    last_ends = λ _. refl;
    apart = apart;
    held = one (λ p. (k : ℕ) × (k < 2) × ((row_at s k).first ≤ p) × (p < (row_at s k).first + (row_at s k).count))
        (0, lit< tt, lit≤ tt, lit< tt);
    rising = rising;
    edge_key_fits = one (λ p. (edge_at s p).key < 2 ^ 32) (lit< tt);
    weighed = one (λ p. 1 ≤ (edge_at s p).weight) some;
    weight_fits = one (λ p. (edge_at s p).weight < 2 ^ 32) fits;
    targets_are_rows = λ p t low h.
        one (λ p. (edge_at s p).target ≡ Some t → t < 2) (λ g. let same : 1 ≡ t = cc in subst (λ n. n < 2) same
        (lit< tt)) p low h;
  }
