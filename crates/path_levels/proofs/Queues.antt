-- A queue with one more row is a queue.
use Rattle.std.proofs.Common.{◌≡◌, ◌≢◌, ℕ, zero, suc, ◌<◌, ◌≤◌, ◌==◌, ◌||◌, Bool, true, false, cond, ◌⊎◌, inl, inr}
use Rattle.std.proofs.Common.{List, [], ◌∷◌, ◌++◌, length, get_or, set, find, Option, Some, nat_eq, refl, sym, ap, ◌∙◌}
use Rattle.std.proofs.Common.{subst, arith, length-append, get_or-set_same, get_or-set_other}
use Rattle.std.specs.List.{IsDistinct, AllByRecursion, list_any}
use Rattle.std.specs.Option.{option_or}
use Rattle.std.proofs.lemmas.Bool.{true≢false, cases_lt, cases_eq, ne_eqb, eq-eqb}
use Rattle.std.proofs.lemmas.Cmp.{nat_eq_equiv}
use Rattle.std.proofs.lemmas.List.{get_or_append_left, get_or_push, length_push}
use Rattle.std.proofs.lemmas.List.Folds.{find-append, list_any-append}
use Rattle.std.proofs.lemmas.Map.Keys.{IsDistinct-push}
use Rattle.graph_kinds.specs.Graph.{Graph, has}
use Rattle.graph_kinds.specs.Levels.{stands_in}
use Rattle.graph_kinds.proofs.PathsLists.{In, Once, in_left, in_either, stands, in_standing, once_append, few}
use Rattle.scan_record.specs.Scan.{ScanValue, IsScan, IsComplete, row_at}
use Rattle.scan_record.specs.ScanGraph.{graph_of_scan}
use Rattle.path_levels.specs.Queue.{leads, IsTree}
use Rattle.path_levels.specs.Search.{with_row, IsQueue}
use Rattle.path_levels.proofs.MetLists.{eqb_swap}
use Rattle.scan_record.proofs.ScanFacts.{row_key, few_keys}

all_apart : (x : ℕ) (xs : List ℕ) → AllByRecursion (λ y. nat_eq x y ≡ false) xs → In x xs → ⊥
all_apart x [] all h = h
all_apart x (y ∷ ys) all (inl e) = true≢false (sym (eq-eqb x y (sym e)) ∙ all.0)
all_apart x (y ∷ ys) all (inr h) = all_apart x ys all.1 h

pub once_distinct : (xs : List ℕ) → IsDistinct nat_eq xs → Once xs
unfolding IsDistinct
once_distinct [] d = tt
once_distinct (x ∷ xs) d = (all_apart x xs d.0, once_distinct xs d.1)

neither : (b c : Bool) → (b || c) ≡ false → (b ≡ false) × (c ≡ false)
neither true c e = absurd (true≢false e)
neither false true e = absurd (true≢false e)
neither false false e = (refl, refl)

none_equal : (x : ℕ) (xs : List ℕ) → stands_in xs x ≡ false → list_any (nat_eq x) xs ≡ false
none_equal x [] e = refl
none_equal x (y ∷ ys) e =
    let parts = neither (y == x) (stands_in ys x) e in
    ap (λ (b : Bool). b || list_any (nat_eq x) ys) (eqb_swap x y ∙ parts.0) ∙ none_equal x ys parts.1

distinct_push : (xs : List ℕ) (y : ℕ) → IsDistinct nat_eq xs → stands_in xs y ≡ false → IsDistinct nat_eq (xs ++ y ∷ [])
distinct_push xs y d new = IsDistinct-push nat_eq_equiv xs y d (none_equal y xs new)

pub distinct_one : (y : ℕ) → IsDistinct nat_eq (y ∷ [])
unfolding IsDistinct
distinct_one y = (tt, tt)

-- a key that was met is the key of a row, and so are few
pub queue_keys : (s : ScanValue) (done : ℕ) → IsQueue s done → (x : ℕ) → In x s.keys → has (graph_of_scan s) x ≡ true
queue_keys s done q x h =
    let r = place_in s.keys x h in
    let e : (row_at s (get_or s.slot_zero r.0 0)).key ≡ x = q.keys r.0 r.1 ∙ r.2 in
    subst (λ (y : ℕ). has (graph_of_scan s) y ≡ true) e (row_key s (get_or s.slot_zero r.0 0) (q.rows r.0 r.1))
  where
    place_in : (xs : List ℕ) (x : ℕ) → In x xs → (p : ℕ) × (p < length xs) × (get_or xs p 0 ≡ x)
    place_in [] x h = absurd h
    place_in (y ∷ ys) x (inl e) = (0, omega arith, e)
    place_in (y ∷ ys) x (inr h) = let r = place_in ys x h in (suc r.0, omega (arith, r.1), r.2)

pub queue_few : (s : ScanValue) (done : ℕ) → IsQueue s done → length s.keys ≤ length s.rows
queue_few s done q =
    let all = few (graph_of_scan s).keys s.keys (once_distinct s.keys q.once) (queue_keys s done q) in
    omega (arith, all, few_keys s)

-- there is room for a row that was not met
pub room_left : (s : ScanValue) (done row : ℕ) → IsQueue s done → row < length s.rows → stands_in s.keys
    (row_at s row).key ≡ false → length s.keys < length s.rows
room_left s done row q h new =
    let y = (row_at s row).key in
    let all = few (graph_of_scan s).keys (s.keys ++ y ∷ []) (once_append s.keys (y ∷ []) (once_distinct s.keys q.once)
    ((λ k. k), tt) apart) there in
    omega (arith, all, few_keys s, length-append s.keys (y ∷ []))
  where
    apart : (x : ℕ) → In x s.keys → In x ((row_at s row).key ∷ []) → ⊥
    apart x k (inl e) = true≢false (sym (stands s.keys (row_at s row).key (subst (λ (z : ℕ). In z s.keys) (sym e) k))
        ∙ new)
    apart x k (inr l) = l

    there : (x : ℕ) → In x (s.keys ++ (row_at s row).key ∷ []) → has (graph_of_scan s) x ≡ true
    there x k = elim (in_either x s.keys ((row_at s row).key ∷ []) k) as (λ _. has (graph_of_scan s) x ≡ true) [
      | inl l ↦ queue_keys s done q x l
      | inr l ↦ elim l as (λ _. has (graph_of_scan s) x ≡ true)
          [ inl e ↦ subst (λ (z : ℕ). has (graph_of_scan s) z ≡ true) e (row_key s row h) | inr n ↦ absurd n ]
    ]

-- the first item that passes is that at a place before which none passes
find_first : (p : ℕ → Bool) (xs : List ℕ) (k : ℕ) → k < length xs → p (get_or xs k 0) ≡ true →
    ((j : ℕ) → j < k → p (get_or xs j 0) ≡ true → ⊥) → find p xs ≡ Some (get_or xs k 0)
find_first p [] k h t none = absurd (omega arith)
find_first p (x ∷ xs) zero h t none = ap (λ (b : Bool). cond b (Some x) (find p xs)) t
find_first p (x ∷ xs) (suc k) h t none = elim (p x) as (λ b. p x ≡ b → cond b (Some x) (find p xs) ≡ Some
    (get_or xs k 0)) [
      | true ↦ λ e. absurd (none 0 (omega arith) e)
      | false ↦ λ _. find_first p xs k (omega arith) t (λ j lt e. none (suc j) (omega arith) e)
    ] refl

stands_push : (xs : List ℕ) (y z : ℕ) → stands_in (xs ++ y ∷ []) z ≡ (stands_in xs z || ((y == z) || false))
stands_push xs y z = list_any-append (λ x. x == z) xs (y ∷ [])

-- the rows of a complete scan have different keys
pub other_key : (s : ScanValue) → IsComplete s → (j k : ℕ) → j < length s.rows → k < length s.rows → j ≢ k →
    (row_at s j).key ≢ (row_at s k).key
other_key s is j k g h ne = elim (cases_lt j k) as (λ _. (row_at s j).key ≢ (row_at s k).key) [
  | inl lt ↦ is.keys_differ j k lt h
  | inr le ↦ λ e. is.keys_differ k j (omega (arith, le, ne)) g (sym e)
]

module _ (s : ScanValue) (scan : IsScan s) (is : IsComplete s) (row parent : ℕ) (h : row < length s.rows) where
  -- marks after the row was marked
  marks : (keys : List ℕ) → ((k : ℕ) → k < length s.rows → get_or s.slot_two k 0 ≡ cond
      (stands_in keys (row_at s k).key) 1 0)
      → (k : ℕ) → k < length s.rows → get_or (set s.slot_two row 1) k 0 ≡ cond
      (stands_in (keys ++ (row_at s row).key ∷ []) (row_at s k).key) 1 0
  marks keys met k l = elim (cases_eq k row) as (λ _. get_or (set s.slot_two row 1) k 0 ≡ cond
      (stands_in (keys ++ (row_at s row).key ∷ []) (row_at s k).key) 1 0) [
        | inl e ↦
            let one : get_or (set s.slot_two row 1) k 0 ≡ 1 = ap (λ (j : ℕ). get_or (set s.slot_two row 1) j 0) e
            ∙ get_or-set_same s.slot_two row 1 0 (omega (arith, h, scan.slot_two_of_rows)) in
            let same : (row_at s row).key ≡ (row_at s k).key = ap (λ (j : ℕ). (row_at s j).key) (sym e) in
            let there : stands_in (keys ++ (row_at s row).key ∷ []) (row_at s k).key ≡ true = stands_push keys
            (row_at s row).key (row_at s k).key ∙ last (stands_in keys (row_at s k).key)
            (eq-eqb (row_at s row).key (row_at s k).key same) in
            one ∙ sym (ap (λ (b : Bool). cond b 1 0) there)
        | inr ne ↦
            let old : get_or (set s.slot_two row 1) k 0 ≡ get_or s.slot_two k 0 =
            get_or-set_other s.slot_two row k 1 0 ne
            in
            let other = ne_eqb (row_at s row).key (row_at s k).key (other_key s is row k h l (λ e. ne (sym e))) in
            let there : stands_in (keys ++ (row_at s row).key ∷ []) (row_at s k).key ≡ stands_in keys
            (row_at s k).key = stands_push keys (row_at s row).key (row_at s k).key ∙ none
            (stands_in keys (row_at s k).key) other in
            old ∙ (met k l ∙ sym (ap (λ (b : Bool). cond b 1 0) there))
      ]
    where
      last : (b : Bool) {c : Bool} → c ≡ true → (b || (c || false)) ≡ true
      last true e = refl
      last false e = ap (λ (d : Bool). d || false) e

      none : (b : Bool) {c : Bool} → c ≡ false → (b || (c || false)) ≡ b
      none true e = refl
      none false e = ap (λ (d : Bool). d || false) e

  -- the queue of row 0
  pub first_queue : s.keys ≡ [] → ((k : ℕ) → k < length s.rows → get_or s.slot_two k 0 ≡ 0) → IsQueue
      (with_row s row parent) 0
  first_queue none unmarked = record {
    once = rw none (distinct_one (row_at s row).key);
    rows = λ p l. rw none (here p (short p l));
    keys = λ p l. rw none (keys_here p (short p l));
    parents = record {
      before = λ p pos l. absurd (omega (arith, pos, short p l));
      first = λ p pos l. absurd
          (omega (arith, pos, short p l));
    };
    met = rw none (marks [] unmarked);
    closed = λ p y lt. absurd (omega (arith, lt));
  }
    where
      short : (p : ℕ) → p < length (s.keys ++ (row_at s row).key ∷ []) → p < 1
      short p l = omega (arith, l, length-append s.keys ((row_at s row).key ∷ []), ap (λ (xs : List ℕ). length xs) none)

      first : get_or (set s.slot_zero 0 row) 0 0 ≡ row
      first = get_or-set_same s.slot_zero 0 row 0 (omega (arith, h, scan.slot_zero_of_rows))

      here : (p : ℕ) → p < 1 → get_or (set s.slot_zero 0 row) p 0 < length s.rows
      here zero l = rw first h
      here (suc p) l = absurd (omega arith)

      keys_here : (p : ℕ) → p < 1 → (row_at s (get_or (set s.slot_zero 0 row) p 0)).key ≡ get_or
          ((row_at s row).key ∷ []) p 0
      keys_here zero l = ap (λ (k : ℕ). (row_at s k).key) first
      keys_here (suc p) l = absurd (omega arith)

  module _ (q : IsQueue s parent) (there : parent < length s.keys)
      (edge : leads (graph_of_scan s) (row_at s row).key (get_or s.keys parent 0) ≡ true)
      (new : stands_in s.keys (row_at s row).key ≡ false) where
    room : length s.keys < length s.rows
    room = room_left s parent row q h new

    old_or_last : (p : ℕ) → p < length (s.keys ++ (row_at s row).key ∷ []) → (p < length s.keys) ⊎ (p ≡ length s.keys)
    old_or_last p l = elim (cases_lt p (length s.keys)) as (λ _. (p < length s.keys) ⊎ (p ≡ length s.keys)) [
      | inl lt ↦ inl lt
      | inr le ↦ inr (omega (arith, le, l, length_push s.keys (row_at s row).key))
    ]

    old_key : (p : ℕ) → p < length s.keys → get_or (s.keys ++ (row_at s row).key ∷ []) p 0 ≡ get_or s.keys p 0
    old_key p lt = get_or_append_left s.keys ((row_at s row).key ∷ []) 0 p lt

    last_key : (p : ℕ) → p ≡ length s.keys → get_or (s.keys ++ (row_at s row).key ∷ []) p 0 ≡ (row_at s row).key
    last_key p e = get_or_push s.keys (row_at s row).key 0 p (sym e)

    old_slot : (slot : List ℕ) (v p : ℕ) → p < length s.keys → get_or (set slot (length s.keys) v) p 0 ≡ get_or slot p 0
    old_slot slot v p lt = let ne : p ≢ length s.keys = omega arith in get_or-set_other slot (length s.keys) p v 0 ne

    last_slot : (slot : List ℕ) (v p : ℕ) → length slot ≡ length s.rows → p ≡ length s.keys → get_or
        (set slot (length s.keys) v) p 0 ≡ v
    last_slot slot v p long e = ap (λ (j : ℕ). get_or (set slot (length s.keys) v) j 0) e ∙ get_or-set_same slot
        (length s.keys) v 0 (omega (arith, long, room))

    row_rows : (p : ℕ) → p < length (s.keys ++ (row_at s row).key ∷ []) → get_or
        (set s.slot_zero (length s.keys) row) p 0 < length s.rows
    row_rows p l = elim (old_or_last p l) as (λ _. get_or (set s.slot_zero (length s.keys) row) p 0 < length s.rows) [
      | inl lt ↦ rw (old_slot s.slot_zero row p lt) (q.rows p lt)
      | inr e ↦ rw (last_slot s.slot_zero row p scan.slot_zero_of_rows e) h
    ]

    row_keys : (p : ℕ) → p < length (s.keys ++ (row_at s row).key ∷ []) →
        (row_at s (get_or (set s.slot_zero (length s.keys) row) p 0)).key ≡ get_or
        (s.keys ++ (row_at s row).key ∷ []) p 0
    row_keys p l = elim (old_or_last p l) as (λ _. (row_at s (get_or (set s.slot_zero (length s.keys) row) p 0)).key ≡
        get_or (s.keys ++ (row_at s row).key ∷ []) p 0) [
          | inl lt ↦ ap (λ (k : ℕ). (row_at s k).key) (old_slot s.slot_zero row p lt) ∙
              (q.keys p lt ∙ sym (old_key p lt))
          | inr e ↦ ap (λ (k : ℕ). (row_at s k).key) (last_slot s.slot_zero row p scan.slot_zero_of_rows e) ∙ sym
              (last_key p e)
        ]

    first_leads : find (leads (graph_of_scan s) (row_at s row).key) s.keys ≡ Some (get_or s.keys parent 0)
    first_leads = find_first (leads (graph_of_scan s) (row_at s row).key) s.keys parent there edge
        (λ j lt e. true≢false (sym (q.closed j (row_at s row).key lt (omega (arith, lt, there)) e) ∙ new))

    tree : IsTree (graph_of_scan s) (s.keys ++ (row_at s row).key ∷ []) (set s.slot_one (length s.keys) parent)
    tree = record { before = before; first = first }
      where
        g : Graph
        g = graph_of_scan s

        keys : List ℕ
        keys = s.keys ++ (row_at s row).key ∷ []

        places : List ℕ
        places = set s.slot_one (length s.keys) parent

        longer : (y x : ℕ) → find (leads (graph_of_scan s) y) s.keys ≡ Some x → find (leads (graph_of_scan s) y)
            (s.keys ++ (row_at s row).key ∷ []) ≡ Some x
        longer y x e = find-append (leads (graph_of_scan s) y) s.keys ((row_at s row).key ∷ []) ∙ ap
            (λ (o : Option ℕ). option_or o (find (leads (graph_of_scan s) y) ((row_at s row).key ∷ []))) e

        before : (p : ℕ) → 0 < p → p < length keys → get_or places p 0 < p
        before p pos l = elim (old_or_last p l) as (λ _. get_or places p 0 < p) [
          | inl lt ↦ rw (old_slot s.slot_one parent p lt) (q.parents.before p pos lt)
          | inr e ↦ rw (last_slot s.slot_one parent p scan.slot_one_of_rows e) (omega (arith, e, there))
        ]

        first : (p : ℕ) → 0 < p → p < length keys → find (leads g (get_or keys p 0)) keys ≡ Some
            (get_or keys (get_or places p 0) 0)
        first p pos l = elim (old_or_last p l) as (λ _. find (leads g (get_or keys p 0)) keys ≡ Some
            (get_or keys (get_or places p 0) 0)) [
              | inl lt ↦
                  let up = q.parents.before p pos lt in
                  let near : get_or s.slot_one p 0 < length s.keys = omega (arith, up, lt) in
                  rw (old_slot s.slot_one parent p lt, old_key p lt, old_key (get_or s.slot_one p 0) near)
                  (longer (get_or s.keys p 0) _ (q.parents.first p pos lt))
              | inr e ↦ rw (last_slot s.slot_one parent p scan.slot_one_of_rows e, last_key p e, old_key parent there)
                  (longer (row_at s row).key _ first_leads)
            ]

    -- a queue with a row that was not met, by an edge from the key that is expanded
    pub put_queue : IsQueue (with_row s row parent) parent
    put_queue = record {
      once = distinct_push s.keys (row_at s row).key q.once new;
      rows = row_rows;
      keys = row_keys;
      parents = tree;
      met = marks s.keys q.met;
      closed = λ p y lt l e.
          let far : p < length s.keys = omega (arith, lt, there) in
          stands (s.keys ++ (row_at s row).key ∷ []) y (in_left y s.keys ((row_at s row).key ∷ [])
          (in_standing s.keys y (q.closed p y lt far (rw (old_key p far) at e))));
    }

-- what the mark of a row says
pub marked : (s : ScanValue) (done row : ℕ) → IsQueue s done → row < length s.rows →
    (get_or s.slot_two row 0 ≡ 0 → stands_in s.keys (row_at s row).key ≡ false) ×
    ((get_or s.slot_two row 0 ≡ 0 → ⊥) → stands_in s.keys (row_at s row).key ≡ true)
marked s done row q h = by (stands_in s.keys (row_at s row).key) (q.met row h)
  where
    by : (b : Bool) → get_or s.slot_two row 0 ≡ cond b 1 0 → (get_or s.slot_two row 0 ≡ 0 → b ≡ false) ×
        ((get_or s.slot_two row 0 ≡ 0 → ⊥) → b ≡ true)
    by true e = (λ z. absurd (omega (arith, e, z)), λ _. refl)
    by false e = (λ _. refl, λ n. absurd (n e))
