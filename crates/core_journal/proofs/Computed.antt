-- What the worked journals share: idle stretches, answers on graphs, and books covered by a test.
use Rattle.std.proofs.Common.{◌≡◌, ℕ, zero, suc, ◌+◌, Bool, true, false, cond, not, ◌&&◌, ◌||◌, ◌==◌, List, [], ◌∷◌}
use Rattle.std.proofs.Common.{◌++◌, length, filter, map, take, Some, None, refl, sym, ap, ◌∙◌, subst, true≢false, arith}
use Rattle.std.proofs.Common.{eqb-true, append-nil, append_assoc, ◌<◌, ◌⊎◌, inl, inr, leb, leb-true}
use Rattle.std.specs.Prelude.{slice_get}
use Rattle.std.specs.List.{list_all}
use Rattle.graph_kinds.specs.Graph.{Graph, has, weight_of}
use Rattle.graph_kinds.specs.Answer.{answer, alters, after, change, plain, is_change, by_weight}
use Rattle.graph_kinds.specs.declared.call.Call.TheVariants.{AddVertex, RemoveVertex, HasEdge}
use Rattle.graph_kinds.specs.declared.entry.Class.TheVariants.{Own}
use Rattle.graph_kinds.specs.declared.entry.Entry.{Entry}
use Rattle.graph_kinds.specs.declared.outcome.Outcome.TheVariants.{Added, Removed, Present, Absent, NoVertex, Edge}
use Rattle.graph_kinds.specs.declared.outcome.Outcome.TheVariants.{NoEdge}
use Rattle.graph_kinds.proofs.Calls.{after_change}
use Rattle.core_journal.specs.declared.event.Event.{Event}
use Rattle.core_journal.specs.GraphOf.{graph_of, call_of, changes, RegularFrom}
use Rattle.core_journal.specs.History.{Turn, turn, turns_from, stands, HasBook, IsClosed}
use Rattle.core_journal.specs.declared.book.Book.{Book}
use Rattle.core_journal.specs.Right.{OwnReply, RightOwn}
use Rattle.core_journal.specs.Changes.{is_idle}
use Rattle.core_journal.proofs.Calls.{altered}
use Rattle.core_journal.proofs.GraphRows.{idle_graph}
use Rattle.core_journal.proofs.Regular.{changes_not, changes_yes, idle_regular}

abbrev pub all_idle : List Event → Bool
all_idle xs = list_all (λ (e : Event). is_idle e.kind) xs

split_idle : (e : Event) (xs : List Event) → all_idle (e ∷ xs) ≡ true → (is_idle e.kind ≡ true) × (all_idle xs ≡ true)
split_idle e xs h = by (is_idle e.kind) refl h
  where
    by : (b : Bool) → is_idle e.kind ≡ b → (b && all_idle xs) ≡ true → (is_idle e.kind ≡ true) × (all_idle xs ≡ true)
    by true is h = (is, h)
    by false is h = absurd (cc)

-- idle events may stand before regular ones
pub idle_stretch : (past xs ys : List Event) → all_idle xs ≡ true → RegularFrom (past ++ xs) ys → RegularFrom past
    (xs ++ ys)
idle_stretch past [] ys h r = subst (λ (l : List Event). RegularFrom l ys) (append-nil past) r
idle_stretch past (x ∷ xs) ys h r =
    let s = split_idle x xs h in (
      idle_regular past x s.0,
      idle_stretch (past ++ x ∷ []) xs ys s.1
          (subst (λ (l : List Event). RegularFrom l ys) (sym (append_assoc past (x ∷ []) xs)) r),
    )

-- the turn of an event that changes nothing
abbrev pub still : Event → Turn
still e = record { caller = e.caller; call = None }

-- the turn of an event that leaves the graph
pub still_turn : (past : List Event) (e : Event) → graph_of (past ++ e ∷ []) ≡ graph_of past → turn past e ≡ still e
still_turn past e same = ap (λ b. record { caller = e.caller; call = cond b (call_of past e) None })
    (changes_not past e same)

-- the turns of idle events
pub idle_turns : (past xs ys : List Event) → all_idle xs ≡ true → turns_from past
    (xs ++ ys) ≡ map still xs ++ turns_from (past ++ xs) ys
idle_turns past [] ys h = ap (λ (l : List Event). turns_from l ys) (sym (append-nil past))
idle_turns past (x ∷ xs) ys h =
    let s = split_idle x xs h in
    (λ i. still_turn past x (idle_graph past x s.0) i ∷ idle_turns (past ++ x ∷ []) xs ys s.1 i) ∙ ap
    (λ (l : List Event). still x ∷ (map still xs ++ turns_from l ys)) (append_assoc past (x ∷ []) xs)

-- what an add of a new key is answered
pub answers_added : (g : Graph) (k : ℕ) → has g k ≡ false → plain Added ≡ answer g (AddVertex k)
unfolding answer
answers_added g k h = sym (ap (λ b. plain (cond b (Present 0) Added)) h)

-- what a removal of a key is answered
pub answers_gone : (g : Graph) (k : ℕ) → has g k ≡ true → plain (Removed 0) ≡ answer g (RemoveVertex k)
unfolding answer
answers_gone g k h = sym (ap (λ b. plain (cond b (Removed 0) Absent)) h)

-- what a look-up is answered where a key is missing
pub answers_no_vertex : (g : Graph) (a b : ℕ) → (has g a && has g b) ≡ false → plain NoVertex ≡ answer g (HasEdge a b)
unfolding answer
answers_no_vertex g a b h = sym (ap (λ t. cond t (by_weight (weight_of g a b) Edge NoEdge) (plain NoVertex)) h)

-- such a look-up alters nothing
pub looks_only : (g : Graph) (a b : ℕ) → (has g a && has g b) ≡ false → alters g (HasEdge a b) ≡ false
unfolding alters answer
looks_only g a b h = ap (λ t. is_change (cond t (by_weight (weight_of g a b) Edge NoEdge) (plain NoVertex)).outcome) h

-- an event that changes the graph as the entry's call does is its own
pub own_right : (journal : List Event) (caller : ℕ) (e : Entry) (event : Event) → slice_get journal e.place ≡ Some event
    → event.caller ≡ caller → alters (graph_of (take e.place journal)) e.call ≡ true
    → graph_of (take e.place journal ++ event ∷ []) ≡ change (graph_of (take e.place journal)) e.call
    → OwnReply e.answer.outcome journal caller e event → RightOwn journal caller e
own_right journal caller e event at by does leads reply =
    let g : Graph = graph_of (take e.place journal) in
    let to : graph_of (take e.place journal ++ event ∷ []) ≡ after (graph_of (take e.place journal)) e.call = leads
    ∙ sym (after_change (graph_of (take e.place journal)) e.call does) in
    record {
      event = event;
      own = record {
        at = at;
        by = by;
        changing = changes_yes (take e.place journal) event
            (λ same. altered (graph_of (take e.place journal)) e.call does (sym to ∙ same));
        leads = to;
      };
      reply = reply;
    }

-- each event is idle, another caller's, that of one own entry, or at a place that is looked at by itself
abbrev pub is_covered : ℕ → ℕ → List Entry → ℕ → Event → Bool
is_covered caller dull entries p e = is_idle e.kind || (not (e.caller == caller) ||
    ((length (filter (stands Own p) entries) == 1) || (p == dull)))

abbrev pub all_covered : ℕ → ℕ → List Entry → ℕ → List Event → Bool
all_covered caller dull entries p [] = true
all_covered caller dull entries p (e ∷ es) = is_covered caller dull entries p e && all_covered caller dull entries
    (p + 1) es

covered_at : (caller dull : ℕ) (entries : List Entry) (p : ℕ) (xs : List Event)
    → all_covered caller dull entries p xs ≡ true → (k : ℕ) (e : Event) → slice_get xs k ≡ Some e
    → is_covered caller dull entries (p + k) e ≡ true
covered_at caller dull entries p [] h k e at = absurd (cc)
covered_at caller dull entries p (x ∷ xs) h zero e at =
    let same : x ≡ e = cc in
    let n : p ≡ p + 0 = omega arith in
    ap (is_covered caller dull entries (p + 0)) (sym same) ∙ (ap (λ (q : ℕ). is_covered caller dull entries q x) (sym n)
    ∙ first (is_covered caller dull entries p x) h)
  where
    first : (b : Bool) → (b && all_covered caller dull entries (p + 1) xs) ≡ true → b ≡ true
    first true h = refl
    first false h = h
covered_at caller dull entries p (x ∷ xs) h (suc k) e at =
    let n : p + 1 + k ≡ p + suc k = omega arith in
    subst (λ (q : ℕ). is_covered caller dull entries q e ≡ true) n
    (covered_at caller dull entries (p + 1) xs (rest (is_covered caller dull entries p x) h) k e at)
  where
    rest : (b : Bool) → (b && all_covered caller dull entries (p + 1) xs) ≡ true → all_covered caller dull entries
        (p + 1) xs ≡ true
    rest true h = h
    rest false h = absurd (cc)

-- a book covers a journal whose events pass the test
pub covers_by : (journal : List Event) (caller dull : ℕ) (entries : List Entry)
    → all_covered caller dull entries 0 journal ≡ true → ((e : Event) → slice_get journal dull ≡ Some e → changes
    (take dull journal) e ≡ false)
    → (p : ℕ) (e : Event) → slice_get journal p ≡ Some e → e.caller ≡ caller → changes (take p journal) e ≡ true
    → length (filter (stands Own p) entries) ≡ 1
covers_by journal caller dull entries h quiet p e at by does =
    let z : 0 + p ≡ p = omega arith in
    cases (is_idle e.kind) (e.caller == caller) (length (filter (stands Own p) entries) == 1)
    (p == dull) refl refl refl refl
    (subst (λ (q : ℕ). is_covered caller dull entries q e ≡ true) z (covered_at caller dull entries 0 journal h p e at))
  where
    equal : (n : ℕ) → (n == n) ≡ true
    equal n = grind arith

    cases : (a b c d : Bool) → is_idle e.kind ≡ a → (e.caller == caller) ≡ b →
        (length (filter (stands Own p) entries) == 1) ≡ c → (p == dull) ≡ d → (a || (not b || (c || d))) ≡ true → length
        (filter (stands Own p) entries) ≡ 1
    cases true b c d idle i j k t = absurd (true≢false (sym does ∙ changes_not (take p journal) e
        (idle_graph (take p journal) e idle)))
    cases false false c d idle i j k t = absurd (true≢false (sym (ap (λ n. n == caller) by ∙ equal caller) ∙ i))
    cases false true true d idle i j k t = eqb-true (length (filter (stands Own p) entries)) 1 j
    cases false true false true idle i j k t =
        let here : p ≡ dull = eqb-true p dull k in
        absurd (true≢false (sym does ∙ subst (λ (q : ℕ). changes (take q journal) e ≡ false) (sym here)
        (quiet e (subst (λ (q : ℕ). slice_get journal q ≡ Some e) here at))))
    cases false true false false idle i j k t = absurd (true≢false (sym t))

-- each event is idle, or of a caller below a number
abbrev pub callers_below : ℕ → List Event → Bool
callers_below n xs = list_all (λ (e : Event). is_idle e.kind || leb (e.caller + 1) n) xs

below_at : (n : ℕ) (xs : List Event) → callers_below n xs ≡ true → (k : ℕ) (e : Event) → slice_get xs k ≡ Some e →
    (is_idle e.kind || leb (e.caller + 1) n) ≡ true
below_at n [] h k e at = absurd (cc)
below_at n (x ∷ xs) h zero e at = let same : x ≡ e = cc in ap (λ (d : Event). is_idle d.kind || leb (d.caller + 1) n)
    (sym same) ∙ first (is_idle x.kind || leb (x.caller + 1) n) h
  where
    first : (b : Bool) → (b && callers_below n xs) ≡ true → b ≡ true
    first true h = refl
    first false h = h
below_at n (x ∷ xs) h (suc k) e at = below_at n xs (rest (is_idle x.kind || leb (x.caller + 1) n) h) k e at
  where
    rest : (b : Bool) → (b && callers_below n xs) ≡ true → callers_below n xs ≡ true
    rest true h = h
    rest false h = absurd (cc)

-- where two callers have books, and each event is idle or of one of them, the journal is closed
pub closed_by : (journal : List Event) (b c : Book) → b.caller ≡ 0 → c.caller ≡ 1 → callers_below 2 journal ≡ true
    → IsClosed journal (b ∷ c ∷ [])
closed_by journal b c zeroth oneth h = record {
  has = λ p e at does. cases p e at does (is_idle e.kind) (leb (e.caller + 1) 2) refl refl
      (below_at 2 journal h p e at);
}
  where
    caller : (n : ℕ) → n < 2 → (0 ≡ n) ⊎ (1 ≡ n)
    caller zero h = inl refl
    caller (suc zero) h = inr refl
    caller (suc (suc n)) h = absurd (omega arith)

    book : (n : ℕ) → (0 ≡ n) ⊎ (1 ≡ n) → HasBook n (b ∷ c ∷ [])
    book n (inl e) = inl (zeroth ∙ e)
    book n (inr e) = inr (inl (oneth ∙ e))

    cases : (p : ℕ) (e : Event) → slice_get journal p ≡ Some e → changes (take p journal) e ≡ true → (i l : Bool)
        → is_idle e.kind ≡ i → leb (e.caller + 1) 2 ≡ l → (i || l) ≡ true → HasBook e.caller (b ∷ c ∷ [])
    cases p e at does true l idle less t = absurd (true≢false
        (sym does ∙ changes_not (take p journal) e (idle_graph (take p journal) e idle)))
    cases p e at does false true idle less t = book e.caller (caller e.caller
        (let h = leb-true (e.caller + 1) 2 less in omega (arith, h)))
    cases p e at does false false idle less t = absurd (true≢false (sym t))
