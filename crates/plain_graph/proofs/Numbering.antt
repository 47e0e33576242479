-- The numbers of rows by their keys, as rows are pushed.
use Rattle.std.proofs.Common.{◌≡◌, ◌≢◌, ℕ, ◌+◌, ◌<◌, ◌==◌, ◌⊎◌, Bool, true, false, cond, [], ◌∷◌, length, get_or, Some}
use Rattle.std.proofs.Common.{inl, inr, refl, sym, ap, subst, arith, ◌∙◌, eqb-true}
use Rattle.std.proofs.Math.ListN.{set, length-set}
use Rattle.std.specs.Ordering.{nat_cmp}
use Rattle.std.specs.Cmp.{nat_eq_equiv, unsigned_tied}
use Rattle.std.specs.BTreeMap.{get, is_at}
use Rattle.std.proofs.lemmas.Bool.{cases_lt}
use Rattle.std.proofs.lemmas.List.{get_or_append_left, get_or_push, length_push, get_or-set_same, get_or-set_other}
use Rattle.scan_record.specs.declared.rows.VertexRow.{VertexRow}
use Rattle.scan_record.specs.Scan.{ScanValue, row_at, new_row, blank_life}
use Rattle.plain_graph.specs.declared.numbers.Numbers.{Numbers}
use Rattle.plain_graph.specs.Collecting.{IsNumbering, IsOfBucket, bucket_of, first_in, with_key}

pub itself : (x : ℕ) → (x == x) ≡ true
itself x = nat_eq_equiv.refl x

pub at_key : (q k : ℕ) → is_at (nat_cmp q) k ≡ (k == q)
at_key q k = unsigned_tied q k ∙ nat_eq_equiv.symm q k

-- a row that was there stays, and the new one has the key
pub row_at-with_key : (s : ScanValue) (key k : ℕ) → k < length s.rows → row_at (with_key s key) k ≡ row_at s k
row_at-with_key s key k h = get_or_append_left s.rows (new_row (record { index = length s.rows; tag = 1 }) key ∷ [])
    (new_row blank_life 0) k h

pub row_at-new_key : (s : ScanValue) (key k : ℕ) → length s.rows ≡ k → row_at (with_key s key) k ≡ new_row
    (record { index = length s.rows; tag = 1 }) key
row_at-new_key s key k h = get_or_push s.rows (new_row (record { index = length s.rows; tag = 1 }) key)
    (new_row blank_life 0) k h

pub length-with_key : (s : ScanValue) (key : ℕ) → length (with_key s key).rows ≡ length s.rows + 1
length-with_key s key = length_push s.rows (new_row (record { index = length s.rows; tag = 1 }) key)

-- the key of a row that was there
key_same : (s : ScanValue) (key k : ℕ) → k < length s.rows → (row_at (with_key s key) k).key ≡ (row_at s k).key
key_same s key k h = ap (λ (r : VertexRow). r.key) (row_at-with_key s key k h)

-- what holds of each row that was there, and of the new one, holds of each row
each_row : (s : ScanValue) (key : ℕ) (P : ℕ → ℕ → Type 0) → ((k : ℕ) → k < length s.rows → P k (row_at s k).key) → P
    (length s.rows) key
    → (k : ℕ) → k < length (with_key s key).rows → P k (row_at (with_key s key) k).key
each_row s key P old new k h =
    let long = length-with_key s key in
    elim (cases_lt k (length s.rows)) as (λ _. P k (row_at (with_key s key) k).key) [
      | inl lt ↦ subst (P k) (sym (key_same s key k lt)) (old k lt)
      | inr ge ↦ let last : length s.rows ≡ k = omega arith in
          subst (λ (n : ℕ). P n (row_at (with_key s key) n).key) last
          (subst (P (length s.rows)) (sym (ap (λ (r : VertexRow). r.key)
          (row_at-new_key s key (length s.rows) refl))) new)
    ]

differ_more : (s : ScanValue) (key : ℕ) → ((j k : ℕ) → j < k → k < length s.rows → (row_at s j).key ≢ (row_at s k).key)
    → ((k : ℕ) → k < length s.rows → (row_at s k).key ≢ key)
    → (j k : ℕ) → j < k → k < length (with_key s key).rows → (row_at (with_key s key) j).key ≢
    (row_at (with_key s key) k).key
differ_more s key differ absent j k lt h =
    each_row s key (λ n x. (i : ℕ) → i < n → (row_at (with_key s key) i).key ≢ x)
    (λ n inside i below same. (let there : i < length s.rows = omega arith in differ i n below inside
    (sym (key_same s key i there) ∙ same)))
    (λ i below same. absent i below (sym (key_same s key i below) ∙ same)) k h j lt

-- a row of a bucket stays one, and the new row is one of its key's
of_bucket_more : (s : ScanValue) (key bucket r : ℕ) → IsOfBucket s bucket r → IsOfBucket (with_key s key) bucket r
of_bucket_more s key bucket r is = (
  omega (arith, is.0, length-with_key s key),
  ap bucket_of (key_same s key r is.0)
      ∙ is.1,
)

of_bucket_new : (s : ScanValue) (key : ℕ) → IsOfBucket (with_key s key) (bucket_of key) (length s.rows)
of_bucket_new s key = (
  omega (arith, length-with_key s key),
  ap (λ (r : VertexRow). bucket_of r.key)
      (row_at-new_key s key (length s.rows) refl),
)

module _ (old new : Numbers) (s : ScanValue) (key : ℕ) (p : IsNumbering old s)
    (absent : (k : ℕ) → k < length s.rows → (row_at s k).key ≢ key) where
  -- the new row is the first of its bucket
  pub numbering_first : (IsOfBucket s (bucket_of key) (first_in old key) → ⊥) → new.firsts.items ≡ set old.firsts.items
      (bucket_of key) (length s.rows) → new.others ≡ old.others
      → IsNumbering new (with_key s key)
  numbering_first free firsts others = record {
    wide = ap length firsts ∙ (length-set old.firsts.items (bucket_of key) (length s.rows) ∙ p.wide);
    differ = differ_more s key p.differ absent;
    taken = each_row s key (λ n x. IsOfBucket (with_key s key) (bucket_of x) (first_in new x))
        (λ n h. subst (IsOfBucket (with_key s key) (bucket_of (row_at s n).key)) (sym (same n h))
        (of_bucket_more s key (bucket_of (row_at s n).key) (first_in old (row_at s n).key) (p.taken n h)))
        (subst (IsOfBucket (with_key s key) (bucket_of key)) (sym here) (of_bucket_new s key));
    found = each_row s key (λ n x. (first_in new x ≡ n) ⊎ (get nat_cmp new.others x ≡ Some n))
        (λ n h. elim (p.found n h) as (λ _. (first_in new (row_at s n).key ≡ n) ⊎
        (get nat_cmp new.others (row_at s n).key ≡ Some n)) [
          | inl e ↦ inl (same n h ∙ e)
          | inr e ↦ inr (ap (λ m. get nat_cmp m (row_at s n).key) others ∙ e)
        ])
        (inl here);
  }
    where
      apart : (n : ℕ) → n < length s.rows → bucket_of (row_at s n).key ≢ bucket_of key
      apart n h e = free (subst (λ (b : ℕ). IsOfBucket s b (get_or old.firsts.items b 0)) e (p.taken n h))

      same : (n : ℕ) → n < length s.rows → first_in new (row_at s n).key ≡ first_in old (row_at s n).key
      same n h = ap (λ xs. get_or xs (bucket_of (row_at s n).key) 0) firsts ∙ get_or-set_other old.firsts.items
          (bucket_of key) (bucket_of (row_at s n).key) (length s.rows) 0 (apart n h)

      here : first_in new key ≡ length s.rows
      here = ap (λ xs. get_or xs (bucket_of key) 0) firsts ∙ get_or-set_same old.firsts.items (bucket_of key)
          (length s.rows) 0 (omega (arith, p.wide))

  -- another row came first into the bucket, and the number of the new one is noted at its key
  pub numbering_other : IsOfBucket s (bucket_of key) (first_in old key) → new.firsts ≡ old.firsts
      → ((q : ℕ) → get nat_cmp new.others q ≡ cond (is_at (nat_cmp key) q) (Some (length s.rows))
      (get nat_cmp old.others q)) → IsNumbering new (with_key s key)
  numbering_other first firsts noted = record {
    wide = ap (λ v. length v.items) firsts ∙ p.wide;
    differ = differ_more s key p.differ absent;
    taken = each_row s key (λ n x. IsOfBucket (with_key s key) (bucket_of x) (first_in new x))
        (λ n h. subst (IsOfBucket (with_key s key) (bucket_of (row_at s n).key)) (sym (same (row_at s n).key))
        (of_bucket_more s key (bucket_of (row_at s n).key) (first_in old (row_at s n).key) (p.taken n h)))
        (subst (IsOfBucket (with_key s key) (bucket_of key)) (sym (same key))
        (of_bucket_more s key (bucket_of key) (first_in old key) first));
    found = each_row s key (λ n x. (first_in new x ≡ n) ⊎ (get nat_cmp new.others x ≡ Some n))
        (λ n h. elim (p.found n h) as (λ _. (first_in new (row_at s n).key ≡ n) ⊎
        (get nat_cmp new.others (row_at s n).key ≡ Some n)) [
          | inl e ↦ inl (same (row_at s n).key ∙ e)
          | inr e ↦ inr (noted (row_at s n).key ∙ (ap (λ t. cond t (Some (length s.rows))
              (get nat_cmp old.others (row_at s n).key)) (at_key key (row_at s n).key) ∙ by n h e
              ((row_at s n).key == key) refl))
        ])
        (inr (noted key ∙ ap (λ t. cond t (Some (length s.rows)) (get nat_cmp old.others key))
        (at_key key key ∙ itself key)));
  }
    where
      same : (x : ℕ) → first_in new x ≡ first_in old x
      same x = ap (λ v. get_or v.items (bucket_of x) 0) firsts

      by : (n : ℕ) → n < length s.rows → get nat_cmp old.others (row_at s n).key ≡ Some n → (t : Bool) →
          ((row_at s n).key == key) ≡ t → cond t (Some (length s.rows))
          (get nat_cmp old.others (row_at s n).key) ≡ Some n
      by n h e true at = absurd (absent n h (eqb-true (row_at s n).key key at))
      by n h e false at = e

-- the numbers stay right where rows keep their keys
pub numbering_kept : (numbers : Numbers) (s t : ScanValue) → length t.rows ≡ length s.rows →
    ((k : ℕ) → (row_at t k).key ≡ (row_at s k).key) → IsNumbering numbers s → IsNumbering numbers t
numbering_kept numbers s t long keys p = record {
  wide = p.wide;
  differ = λ j k lt h same. p.differ j k lt (omega arith) (sym (keys j) ∙ (same ∙ keys k));
  taken = λ k h. (let there : k < length s.rows = omega arith in let is = p.taken k there in
      subst (λ (x : ℕ). IsOfBucket t (bucket_of x) (first_in numbers x)) (sym (keys k))
      (omega (arith, is.0), ap bucket_of (keys (first_in numbers (row_at s k).key)) ∙ is.1));
  found = λ k h. subst (λ (x : ℕ). (first_in numbers x ≡ k) ⊎ (get nat_cmp numbers.others x ≡ Some k)) (sym (keys k))
      (p.found k (omega arith));
}

-- no row has a key where the first row of its bucket isn't there, or has a key of another bucket
pub no_row_in_bucket : (numbers : Numbers) (s : ScanValue) (key : ℕ) → IsNumbering numbers s →
    (IsOfBucket s (bucket_of key) (first_in numbers key) → ⊥) → (k : ℕ) → k < length s.rows → (row_at s k).key ≢ key
no_row_in_bucket numbers s key p free k h same = free (subst (λ (x : ℕ). IsOfBucket s (bucket_of x)
    (first_in numbers x)) same (p.taken k h))

-- nor where neither the first row of its bucket nor the row whose number is noted at it has it
pub no_row : (numbers : Numbers) (s : ScanValue) (key : ℕ) → IsNumbering numbers s →
    (first_in numbers key < length s.rows → (row_at s (first_in numbers key)).key ≢ key)
    → ((r : ℕ) → get nat_cmp numbers.others key ≡ Some r → r < length s.rows → (row_at s r).key ≢ key) → (k : ℕ)
    → k < length s.rows → (row_at s k).key ≢ key
no_row numbers s key p later wrong k h same =
    elim (p.found k h) as (λ _. ⊥) [
      | inl e ↦ let here : first_in numbers key ≡ k = ap (first_in numbers) (sym same) ∙ e in
          later (omega arith) (ap (λ n. (row_at s n).key) here ∙ same)
      | inr e ↦ wrong k (ap (get nat_cmp numbers.others) (sym same) ∙ e) h same
    ]

-- where there are no rows, numbers say nothing that is wrong
pub numbering_none : (numbers : Numbers) (s : ScanValue) → length numbers.firsts.items ≡ 65536 → s.rows ≡ []
    → IsNumbering numbers s
numbering_none numbers s wide none =
    let zero_rows : length s.rows ≡ 0 = ap length none in
    record {
      wide = wide;
      differ = λ j k lt h. absurd (omega arith);
      taken = λ k h. absurd (omega arith);
      found = λ k h. absurd (omega arith);
    }
