-- How the rows' calls are dealt to the lanes, and how the kept answers are put in the order of the rows.
use Rattle.std.proofs.Common.{◌≡◌, ℕ, suc, ◌+◌, ◌<◌, ◌≤◌, true, false, List, [], ◌∷◌, ◌++◌, length, map, take, drop}
use Rattle.std.proofs.Common.{get_or, set, refl, sym, ap, ◌∙◌, arith, append_assoc, append-nil, length-append}
use Rattle.std.proofs.Common.{length-set, take-suc, drop-cons, add-one, length-take-le, take_all, drop_of_length-le}
use Rattle.std.proofs.Common.{eqb-true, eq-eqb, get_or-set_same, get_or-set_other, All}
use Rattle.std.specs.Prelude.{Bool, ◌==◌, cond, filter}
use Rattle.std.specs.List.{zip}
use Rattle.std.proofs.lemmas.Bool.{eqb-false}
use Rattle.std.proofs.lemmas.List.{get_or_default, map-append}
use Rattle.std.proofs.lemmas.List.Elements.{filter-append, All-filter, All-map}
use Rattle.graph_kinds.specs.declared.call.Call.{Call}
use Rattle.graph_kinds.specs.declared.call.Row.{Row}
use Rattle.graph_kinds.specs.declared.answer.Answer.{Answer}
use Rattle.graph_kinds.specs.History.{calls_of}
use Rattle.caller_run.specs.declared.lane.Lane.{Lane}
use Rattle.caller_run.specs.Asked.{rows_of_caller, answers_to_caller}
use Rattle.caller_run.proofs.Driving.{zip-snoc}

-- the calls of one caller's rows
abbrev pub own : ℕ → List Row → List Call
own i rows = calls_of (rows_of_caller i rows)

-- one row more, at the head
own-cons : (i : ℕ) (r : Row) (rows : List Row) → own i (r ∷ rows)
    ≡ cond (r.caller == i) (r.call ∷ own i rows) (own i rows)
own-cons i r rows =
    elim (r.caller == i) as
    (λ v. calls_of (cond v (r ∷ rows_of_caller i rows) (rows_of_caller i rows))
    ≡ cond v (r.call ∷ own i rows) (own i rows)) [
      | true ↦ refl
      | false ↦ refl
    ]

own-append : (i : ℕ) (xs ys : List Row) → own i (xs ++ ys) ≡ own i xs ++ own i ys
own-append i xs ys =
    ap calls_of (filter-append (λ (r : Row). r.caller == i) xs ys)
    ∙ map-append (λ (r : Row). r.call) (rows_of_caller i xs) (rows_of_caller i ys)

-- the first k rows and one more
own-more : (i k : ℕ) (rows : List Row) (d : Row) → k < length rows
    → own i (take (k + 1) rows) ≡ own i (take k rows) ++ cond ((get_or rows k d).caller == i)
    ((get_or rows k d).call ∷ []) []
own-more i k rows d lt =
    ap (own i) (rw add-one (take-suc rows k d lt)) ∙ own-append i (take k rows) (get_or rows k d ∷ [])
    ∙ ap (λ l. own i (take k rows) ++ l) (own-cons i (get_or rows k d) [])

-- the answer beside a row, and whether the row is a caller's
abbrev second : Row × Answer → Answer
second p = p.1

abbrev is_for : ℕ → Row × Answer → Bool
is_for i p = p.0.caller == i

-- one row more, with its answer
answers-snoc : (i : ℕ) (rows : List Row) (out : List Answer) (r : Row) (a : Answer) → length out ≡ length rows
    → answers_to_caller i (rows ++ r ∷ []) (out ++ a ∷ [])
    ≡ answers_to_caller i rows out ++ cond (r.caller == i) (a ∷ []) []
answers-snoc i rows out r a e =
    let last : map second (filter (is_for i) ((r, a) ∷ [])) ≡ cond (r.caller == i) (a ∷ []) [] =
    elim (r.caller == i) as (λ v. map second (cond v ((r, a) ∷ []) []) ≡ cond v (a ∷ []) []) [
      | true ↦ refl
      | false ↦ refl
    ] in
    ap (λ l. map second (filter (is_for i) l)) (zip-snoc rows out r a e)
    ∙ ap (map second) (filter-append (is_for i) (zip rows out) ((r, a) ∷ []))
    ∙ map-append second (filter (is_for i) (zip rows out)) (filter (is_for i) ((r, a) ∷ []))
    ∙ ap (λ l. answers_to_caller i rows out ++ l) last

pub no_items : {A : Type 0} (l : List A) → length l ≡ 0 → l ≡ []
no_items [] e = refl
no_items (x ∷ l) e = absurd (omega arith)

-- one lane of some is another now
module _ {X : Type 0} where
  same_lane : (now : List (Lane X)) (c i : ℕ) (d after : Lane X) → c < length now → c ≡ i
      → get_or (set now c after) i d ≡ after
  same_lane now c i d after room q = rw (← q) (get_or-set_same now c after d room)

  other_lane : (now : List (Lane X)) (c i : ℕ) (d after : Lane X) → (c ≡ i → ⊥) → get_or (set now c after) i d
      ≡ get_or now i d
  other_lane now c i d after q = get_or-set_other now c i after d (λ r. q (sym r))

  old_lane : (now : List (Lane X)) (c i : ℕ) (d e : Lane X) → c < length now → c ≡ i → get_or now i d ≡ get_or now c e
  old_lane now c i d e room q = rw (← q) (get_or_default now c d e room)

  -- the calls of the first k rows are dealt
  pub record Dealing (rows : List Row) (k : ℕ) (start now : List (Lane X)) : Type 0 where
    pub count : length now ≡ length start
    pub ports : (i : ℕ) (d : Lane X) → i < length start → (get_or now i d).port ≡ (get_or start i d).port
    pub calls : (i : ℕ) (d : Lane X) → i < length start → (get_or now i d).calls.items ≡ own i (take k rows)

  -- the next row's call is dealt
  pub dealing-step : (rows : List Row) (k : ℕ) (start now : List (Lane X)) (d : Row) (e after : Lane X)
      → Dealing rows k start now → k < length rows → (get_or rows k d).caller < length start
      → after.port ≡ (get_or now (get_or rows k d).caller e).port
      → after.calls.items ≡ (get_or now (get_or rows k d).caller e).calls.items ++ (get_or rows k d).call ∷ []
      → Dealing rows (k + 1) start (set now (get_or rows k d).caller after)
  dealing-step rows k start now d e after m lt inside port calls =
      let c = (get_or rows k d).caller in
      let room : c < length now = (let n = m.count in omega arith) in
      record {
        count = length-set now c after ∙ m.count;
        ports = λ i x h. elim (c == i) as
            (λ v. (c == i) ≡ v → (get_or (set now c after) i x).port ≡ (get_or start i x).port) [
              | true ↦ λ q. ap (λ (l : Lane X). l.port) (same_lane now c i x after room (eqb-true c i q)) ∙ port
                  ∙ sym (ap (λ (l : Lane X). l.port) (old_lane now c i x e room (eqb-true c i q))) ∙ m.ports i x h
              | false ↦ λ q. ap (λ (l : Lane X). l.port) (other_lane now c i x after (eqb-false c i q)) ∙ m.ports i x h
            ] refl;
        calls = λ i x h. elim (c == i) as
            (λ v. (c == i) ≡ v → (get_or (set now c after) i x).calls.items ≡ own i (take (k + 1) rows)) [
              | true ↦ λ q.
                  let more : own i (take (k + 1) rows) ≡ own i (take k rows) ++ (get_or rows k d).call ∷ [] =
                  rw q at (own-more i k rows d lt) in
                  ap (λ (l : Lane X). l.calls.items) (same_lane now c i x after room (eqb-true c i q)) ∙ calls
                  ∙ ap (λ (l : Lane X). l.calls.items ++ (get_or rows k d).call ∷ [])
                  (sym (old_lane now c i x e room (eqb-true c i q)))
                  ∙ ap (λ l. l ++ (get_or rows k d).call ∷ []) (m.calls i x h) ∙ sym more
              | false ↦ λ q.
                  let none : own i (take (k + 1) rows) ≡ own i (take k rows) ++ [] = rw q at (own-more i k rows d lt) in
                  ap (λ (l : Lane X). l.calls.items) (other_lane now c i x after (eqb-false c i q)) ∙ m.calls i x h
                  ∙ sym (none ∙ append-nil (own i (take k rows)))
            ] refl;
      }

  -- the first k answers are out, and the lanes keep the others
  pub record Merging (rows : List Row) (k : ℕ) (start now : List (Lane X)) (out : List Answer) : Type 0 where
    pub count : length out ≡ k
    pub lanes : length now ≡ length start
    pub ports : (i : ℕ) (d : Lane X) → i < length start → (get_or now i d).port ≡ (get_or start i d).port
    pub parts : (i : ℕ) (d : Lane X) → i < length start
        → answers_to_caller i (take k rows) out ++ (get_or now i d).kept.items ≡ (get_or start i d).kept.items
    pub rest : (i : ℕ) (d : Lane X) → i < length start → length (get_or now i d).kept.items
        ≡ length (own i (drop k rows))

  -- the lane of the next row keeps an answer
  pub some_kept : (rows : List Row) (k : ℕ) (start now : List (Lane X)) (out : List Answer) (d : Row) (e : Lane X)
      → Merging rows k start now out → k < length rows → (get_or rows k d).caller < length start
      → 0 < length (get_or now (get_or rows k d).caller e).kept.items
  some_kept rows k start now out d e m lt inside =
      let i = (get_or rows k d).caller in
      let cut : drop k rows ≡ get_or rows k d ∷ drop (k + 1) rows = rw add-one (drop-cons rows k d lt) in
      let one : own i (drop k rows) ≡ (get_or rows k d).call ∷ own i (drop (k + 1) rows) =
      ap (own i) cut ∙ own-cons i (get_or rows k d) (drop (k + 1) rows)
      ∙ rw (eq-eqb (get_or rows k d).caller i refl) refl in
      let n : length (get_or now i e).kept.items ≡ length (own i (drop k rows)) = m.rest i e inside in
      let f : length (own i (drop k rows)) ≡ suc (length (own i (drop (k + 1) rows))) = ap length one in
      omega arith

  -- the next row has its answer
  pub merging-step : (rows : List Row) (k : ℕ) (start now : List (Lane X)) (out : List Answer) (d : Row)
      (e after : Lane X) (a : Answer)
      → Merging rows k start now out → k < length rows → (get_or rows k d).caller < length start
      → after.port ≡ (get_or now (get_or rows k d).caller e).port
      → (get_or now (get_or rows k d).caller e).kept.items ≡ a ∷ after.kept.items
      → Merging rows (k + 1) start (set now (get_or rows k d).caller after) (out ++ a ∷ [])
  merging-step rows k start now out d e after a m lt inside port kept =
      let c = (get_or rows k d).caller in
      let room : c < length now = (let n = m.lanes in omega arith) in
      let cut : drop k rows ≡ get_or rows k d ∷ drop (k + 1) rows = rw add-one (drop-cons rows k d lt) in
      let more : take (k + 1) rows ≡ take k rows ++ get_or rows k d ∷ [] = rw add-one (take-suc rows k d lt) in
      let outs : (i : ℕ) → answers_to_caller i (take (k + 1) rows) (out ++ a ∷ [])
      ≡ answers_to_caller i (take k rows) out ++ cond (c == i) (a ∷ []) [] =
      (λ i. ap (λ l. answers_to_caller i l (out ++ a ∷ [])) more
      ∙ answers-snoc i (take k rows) out (get_or rows k d) a
      (let n = m.count in omega (arith, length-take-le k rows (omega arith)))) in
      let calls : (i : ℕ) → own i (drop k rows)
      ≡ cond (c == i) ((get_or rows k d).call ∷ own i (drop (k + 1) rows)) (own i (drop (k + 1) rows)) =
      (λ i. ap (own i) cut ∙ own-cons i (get_or rows k d) (drop (k + 1) rows)) in
      record {
        count = (let n = m.count in omega (arith, length-append out (a ∷ [])));
        lanes = length-set now c after ∙ m.lanes;
        ports = λ i x h. elim (c == i) as
            (λ v. (c == i) ≡ v → (get_or (set now c after) i x).port ≡ (get_or start i x).port) [
              | true ↦ λ q. ap (λ (l : Lane X). l.port) (same_lane now c i x after room (eqb-true c i q)) ∙ port
                  ∙ sym (ap (λ (l : Lane X). l.port) (old_lane now c i x e room (eqb-true c i q))) ∙ m.ports i x h
              | false ↦ λ q. ap (λ (l : Lane X). l.port) (other_lane now c i x after (eqb-false c i q)) ∙ m.ports i x h
            ] refl;
        parts = λ i x h. elim (c == i) as
            (λ v. (c == i) ≡ v → answers_to_caller i (take (k + 1) rows) (out ++ a ∷ []) ++
            (get_or (set now c after) i x).kept.items ≡ (get_or start i x).kept.items) [
              | true ↦ λ q.
                  let one : answers_to_caller i (take (k + 1) rows) (out ++ a ∷ [])
                  ≡ answers_to_caller i (take k rows) out ++ a ∷ [] = rw q at (outs i) in
                  ap (λ l. l ++ (get_or (set now c after) i x).kept.items) one
                  ∙ ap (λ (l : Lane X). (answers_to_caller i (take k rows) out ++ a ∷ []) ++ l.kept.items)
                  (same_lane now c i x after room (eqb-true c i q))
                  ∙ append_assoc (answers_to_caller i (take k rows) out) (a ∷ []) after.kept.items
                  ∙ ap (λ l. answers_to_caller i (take k rows) out ++ l) (sym kept)
                  ∙ ap (λ (l : Lane X). answers_to_caller i (take k rows) out ++ l.kept.items)
                  (sym (old_lane now c i x e room (eqb-true c i q)))
                  ∙ m.parts i x h
              | false ↦ λ q.
                  let none : answers_to_caller i (take (k + 1) rows) (out ++ a ∷ [])
                  ≡ answers_to_caller i (take k rows) out ++ [] = rw q at (outs i) in
                  ap (λ l. l ++ (get_or (set now c after) i x).kept.items)
                  (none ∙ append-nil (answers_to_caller i (take k rows) out))
                  ∙ ap (λ (l : Lane X). answers_to_caller i (take k rows) out ++ l.kept.items)
                  (other_lane now c i x after (eqb-false c i q))
                  ∙ m.parts i x h
            ] refl;
        rest = λ i x h. elim (c == i) as
            (λ v. (c == i) ≡ v → length (get_or (set now c after) i x).kept.items
            ≡ length (own i (drop (k + 1) rows))) [
              | true ↦ λ q.
                  let one : own i (drop k rows) ≡ (get_or rows k d).call ∷ own i (drop (k + 1) rows) =
                  rw q at (calls i) in
                  let n : length (get_or now i x).kept.items ≡ length (own i (drop k rows)) = m.rest i x h in
                  let n2 : length (get_or (set now c after) i x).kept.items ≡ length after.kept.items =
                  ap (λ (l : Lane X). length l.kept.items) (same_lane now c i x after room (eqb-true c i q)) in
                  let n3 : length (get_or now i x).kept.items ≡ length (get_or now c e).kept.items =
                  ap (λ (l : Lane X). length l.kept.items) (old_lane now c i x e room (eqb-true c i q)) in
                  let n4 : length (get_or now c e).kept.items ≡ suc (length after.kept.items) = ap length kept in
                  let n5 : length (own i (drop k rows)) ≡ suc (length (own i (drop (k + 1) rows))) = ap length one in
                  omega arith
              | false ↦ λ q. ap (λ (l : Lane X). length l.kept.items) (other_lane now c i x after (eqb-false c i q))
                  ∙ m.rest i x h ∙ ap length (rw q at (calls i))
            ] refl;
      }

  -- all answers are out
  pub merged : (rows : List Row) (k : ℕ) (start now : List (Lane X)) (out : List Answer) → Merging rows k start now out
      → length rows ≤ k → (i : ℕ) (d : Lane X) → i < length start → answers_to_caller i rows out
      ≡ (get_or start i d).kept.items
  merged rows k start now out m all i d h =
      let none : length (get_or now i d).kept.items ≡ 0 =
      m.rest i d h ∙ ap (λ l. length (own i l)) (drop_of_length-le rows all) in
      ap (λ l. answers_to_caller i l out) (sym (take_all k rows all))
      ∙ sym (append-nil (answers_to_caller i (take k rows) out))
      ∙ ap (λ l. answers_to_caller i (take k rows) out ++ l) (sym (no_items (get_or now i d).kept.items none))
      ∙ m.parts i d h

-- what holds of each row's call holds of each call of one caller
pub all-own : (P : Call → Type 0) (i : ℕ) (rows : List Row) → All (λ (r : Row). P r.call) rows → All P (own i rows)
all-own P i rows h =
    All-map P (λ (r : Row). r.call) (rows_of_caller i rows)
    (All-filter (λ (r : Row). r.caller == i) (λ (r : Row). P r.call) rows h)
