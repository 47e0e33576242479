-- Callers that have answered all rows of a graph and have ended have run the rows.
use Rattle.std.proofs.Common.{◌≡◌, ◌≢◌, ℕ, suc, ◌<◌, ◌≤◌, ◌==◌, Bool, true, false, List, []}
use Rattle.std.proofs.Common.{◌∷◌, ◌++◌, length, map, get_or, Some, inl, inr, refl, sym, ap, ◌∙◌, subst, arith, ⊎_elim}
use Rattle.std.proofs.Common.{eqb-true, take_all}
use Rattle.std.specs.Prelude.{All}
use Rattle.std.specs.List.{zip}
use Rattle.caller_run.specs.Asked.{HasAnsweredAll, answers_to_caller, asked_in, is_worn, rows_of_caller, unworn}
use Rattle.core_journal.specs.declared.book.Book.{Book}
use Rattle.core_journal.specs.History.{HasBook, history, item}
use Rattle.core_journal.proofs.Laws.{history_interleaves}
use Rattle.graph_kinds.specs.declared.answer.Answer.{Answer}
use Rattle.graph_kinds.specs.declared.call.Call.{Call}
use Rattle.graph_kinds.specs.declared.call.Row.{Row}
use Rattle.graph_kinds.specs.declared.entry.Entry.{Entry}
use Rattle.graph_kinds.specs.declared.outcome.Outcome.{Outcome}
use Rattle.graph_kinds.specs.declared.outcome.Outcome.TheVariants.{Worn}
use Rattle.graph_kinds.specs.Graph.{Graph}
use Rattle.graph_kinds.specs.History.{Every, IsInterleaving, IsLegal, Item, answered, calls_of, item_by, items_of}
use Rattle.graph_table.specs.Tokens.{TableValue}
use Rattle.op_text.specs.Text.{IsWritable, text}
use Rattle.shared_graph.specs.Callers.{CallerValue, HasCaller, HoldsEach, IsHired, book_in, seen_by, uses_left}
use Rattle.shared_graph.specs.Closing.{IsClosedAs}
use Rattle.graph_tool.specs.OnCallers.{AreNumbered, HaveAnswered, entries_of}
use Rattle.graph_tool.specs.Run.{IsRun}
use Rattle.graph_tool.proofs.Shown.{replies_can_be_written}

-- the item of a caller's call with its answer
abbrev item_for : ℕ → Call × Answer → Item
item_for caller p = record { caller = caller; call = p.0; reply = Some p.1 }

-- the items of a caller's rows with their answers are those of the caller among all rows
items_among : (caller : ℕ) (rows : List Row) (replies : List Answer) → length replies ≡ length rows
    → map (item_for caller) (zip (calls_of (rows_of_caller caller rows)) (answers_to_caller caller rows replies))
    ≡ items_of caller (answered rows replies)
items_among caller [] [] long = refl
items_among caller [] (a ∷ replies) long = absurd (omega (arith, long))
items_among caller (r ∷ rows) [] long = absurd (omega (arith, long))
items_among caller (r ∷ rows) (a ∷ replies) long =
    by (r.caller == caller) refl (items_among caller rows replies (omega (arith, long)))
  where
    by : (t : Bool) → (r.caller == caller) ≡ t
        → map (item_for caller)
        (zip (calls_of (rows_of_caller caller rows)) (answers_to_caller caller rows replies))
        ≡ items_of caller (answered rows replies)
        → map (item_for caller)
        (zip (calls_of (rows_of_caller caller (r ∷ rows))) (answers_to_caller caller (r ∷ rows) (a ∷ replies)))
        ≡ items_of caller (answered (r ∷ rows) (a ∷ replies))
    by true is rest =
        let same : r.caller ≡ caller = eqb-true r.caller caller is in
        let one : item_for caller (r.call, a) ≡ item_by (r, a) =
        λ i. record { caller = sym same i; call = r.call; reply = Some a } in
        rw is (λ i. one i ∷ rest i)
    by false is rest = rw is rest

-- where no answer is Worn, all calls are answered otherwise
unworn-all : (calls : List Call) (replies : List Answer) → All (λ (a : Answer). a.outcome ≢ Worn) replies
    → unworn calls replies ≡ zip calls replies
unworn-all [] replies h = refl
unworn-all (c ∷ calls) [] h = refl
unworn-all (c ∷ calls) (a ∷ replies) h =
    let first : is_worn a.outcome ≡ false = not_worn a.outcome (h 0 a (omega arith)) in
    let rest = unworn-all calls replies (λ k d low. h (suc k) d (omega (arith, low))) in
    rw first (ap (λ (l : List (Call × Answer)). (c, a) ∷ l) rest)
  where
    not_worn : (o : Outcome) → o ≢ Worn → is_worn o ≡ false
    not_worn o n = grind arith

-- the items of entries are those of their calls with their answers
items_entered : (caller : ℕ) (entries : List Entry)
    → map (item caller) entries ≡ map (item_for caller) (map asked_in entries)
items_entered caller [] = refl
items_entered caller (e ∷ entries) = ap (λ (l : List Item). item caller e ∷ l) (items_entered caller entries)

answers-fewer : (caller : ℕ) (rows : List Row) (replies : List Answer)
    → length (answers_to_caller caller rows replies) ≤ length rows
answers-fewer caller [] replies = omega arith
answers-fewer caller (r ∷ rows) [] = omega arith
answers-fewer caller (r ∷ rows) (a ∷ replies) = by (r.caller == caller) refl (answers-fewer caller rows replies)
  where
    by : (t : Bool) → (r.caller == caller) ≡ t
        → length (answers_to_caller caller rows replies) ≤ length rows
        → length (answers_to_caller caller (r ∷ rows) (a ∷ replies)) ≤ length (r ∷ rows)
    by true is fewer = rw is (omega (arith, fewer))
    by false is fewer = rw is (omega (arith, fewer))

-- a new caller's book has its rows with their answers
book_answers : (g : TableValue) (caller : ℕ) (old new : CallerValue) (tries : ℕ) (rows : List Row)
    (replies : List Answer) → IsHired g caller old → length rows ≤ 65536 → length replies ≡ length rows
    → HasAnsweredAll entries_of uses_left seen_by old new tries (calls_of (rows_of_caller caller rows))
    (answers_to_caller caller rows replies)
    → map (item caller) (entries_of new) ≡ items_of caller (answered rows replies)
book_answers g caller old new tries rows replies hired few long all =
    let mine : List Answer = answers_to_caller caller rows replies in
    let fewer = answers-fewer caller rows replies in
    let uses = hired.uses in
    let enough : length mine ≤ uses_left old = rw uses (omega (arith, fewer, few)) in
    let none : All (λ (a : Answer). a.outcome ≢ Worn) mine =
    subst (All (λ (a : Answer). a.outcome ≢ Worn)) (take_all (uses_left old) mine enough) all.in_time in
    ap (map (item caller)) (all.some.grown ∙ ap (λ (l : List Entry). l ++ all.some.gained) hired.book)
    ∙ items_entered caller all.some.gained
    ∙ ap (map (item_for caller)) (all.entered ∙ unworn-all (calls_of (rows_of_caller caller rows)) mine none)
    ∙ items_among caller rows replies long

-- what holds of each book by its number
every_book : (P : Book → Type 0) (cs : List CallerValue)
    → ((i : ℕ) (d : CallerValue) → i < length cs → P (book_in (get_or cs i d))) → Every P (map book_in cs)
every_book P [] h = tt
every_book P (c ∷ cs) h = (h 0 c (omega arith), every_book P cs (λ i d low. h (suc i) d (omega (arith, low))))

has_book : (number : ℕ) (cs : List CallerValue) → HasCaller cs number → HasBook number (map book_in cs)
has_book number [] h = absurd h
has_book number (c ∷ cs) h = ⊎_elim (λ (e : c.hand.token.view.number ≡ number). inl e)
    (λ (k : HasCaller cs number). inr (has_book number cs k)) h

rows_have_books : (bound : ℕ) (books : List Book) (rows : List Row)
    → ((number : ℕ) → number < bound → HasBook number books) → All (λ (r : Row). r.caller < bound) rows
    → Every (λ (r : Row). HasBook r.caller books) rows
rows_have_books bound books [] has low = tt
rows_have_books bound books (r ∷ rows) has low = (
  has r.caller (low 0 r (omega arith)),
  rows_have_books bound books rows has (λ k d l. low (suc k) d (omega (arith, l))),
)

-- the callers of a new graph have answered all rows, and the graph was closed
pub record HaveRun (g : TableValue) (old new : List CallerValue) (tries : ℕ) (rows : List Row) (replies : List Answer)
    (x : Graph) : Type 0 where
  pub count : length old ≡ g.sizes.callers
  pub hired : (i : ℕ) (d : CallerValue) → i < length old → IsHired g i (get_or old i d)
  pub same : length new ≡ length old
  pub numbers : AreNumbered new
  pub few : length rows ≤ 65536
  pub low : All (λ (r : Row). r.caller < g.sizes.callers) rows
  pub long : length replies ≡ length rows
  pub all : HaveAnswered old new tries rows replies
  pub each : HoldsEach g new
  pub closed : IsClosedAs g new x

module _ (g : TableValue) (old new : List CallerValue) (tries : ℕ) (rows : List Row) (replies : List Answer) (x : Graph)
    (run : HaveRun g old new tries rows replies x) where
  books_answer : Every (λ (b : Book). map (item b.caller) b.entries ≡ items_of b.caller (answered rows replies))
      (map book_in new)
  books_answer =
      every_book (λ (b : Book). map (item b.caller) b.entries ≡ items_of b.caller (answered rows replies)) new
      (λ i d low. let count = run.same in subst
      (λ (n : ℕ). map (item n) (entries_of (get_or new i d)) ≡ items_of n (answered rows replies))
      (sym (run.numbers i d low))
      (book_answers g i (get_or old i d) (get_or new i d) tries rows replies
      (run.hired i d (omega (arith, low, count))) run.few run.long (run.all i d (omega (arith, low, count)))))

  run_interleaves : IsInterleaving rows replies (history run.closed.journal (map book_in new))
  run_interleaves =
      history_interleaves g.sizes run.closed.journal (map book_in new) rows replies run.closed.ended.regular
      run.each.apart run.closed.ended.books run.closed.ended.closed run.long
      (rows_have_books g.sizes.callers (map book_in new) rows (λ n l. has_book n new (run.each.each n l)) run.low)
      books_answer

  run_legal : IsLegal (history run.closed.journal (map book_in new)) x
  run_legal = subst (IsLegal (history run.closed.journal (map book_in new))) (sym run.closed.graph)
      run.closed.ended.legal

  -- so the text of the answers and of the closed graph is that of a run of the rows
  pub run_by : IsRun rows (text replies x)
  run_by = record {
    replies = replies;
    graph = x;
    history = history run.closed.journal (map book_in new);
    text_is = refl;
    interleaving = run_interleaves;
    legal = run_legal;
  }

  -- and the answers can be written
  pub run_can_be_written : All (λ (a : Answer). IsWritable a.outcome a.keys a.ends) replies
  run_can_be_written = replies_can_be_written rows replies (history run.closed.journal (map book_in new)) x
      run_interleaves run_legal
