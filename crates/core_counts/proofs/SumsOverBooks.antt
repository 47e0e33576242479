-- The events of callers with books, against a number for each book; and Again.
use Rattle.std.proofs.Common.{◌≡◌, ℕ, zero, suc, ◌+◌, ◌<◌, ◌≤◌, Bool, true, false, cond, ◌&&◌, ◌||◌, List, [], ◌∷◌}
use Rattle.std.proofs.Common.{length, filter, Some, refl, ap, ◌∙◌, arith, eqb}
use Rattle.std.specs.Prelude.{slice_get}
use Rattle.std.specs.List.{sum_by, fold, list_any}
use Rattle.packed_link.specs.Layout.{Sizes}
use Rattle.graph_kinds.specs.History.{Every}
use Rattle.core_journal.specs.declared.book.Book.{Book}
use Rattle.core_journal.specs.declared.event.Kind.{Kind}
use Rattle.core_journal.specs.declared.event.Event.{Event}
use Rattle.core_journal.specs.State.{state}
use Rattle.core_kept.specs.Counts.{made, all_made}
use Rattle.core_kept.specs.Kept.{IsKept}
use Rattle.core_kept.proofs.Callers.{called}

abbrev of_book : ℕ → Book → Bool
of_book i b = eqb i b.caller

-- the sum from the first on
abbrev sum_of : (Book → ℕ) → List Book → ℕ
sum_of f [] = 0
sum_of f (b ∷ bs) = f b + sum_of f bs

-- an event of a caller with a book counts for it
sum_more : (test : Kind → Bool) (e : Event) (es : List Event) (books : List Book) → sum_of
    (λ (b : Book). made test b.caller es) books ≤ sum_of (λ (b : Book). made test b.caller (e ∷ es)) books
sum_more test e es [] = omega arith
sum_more test e es (b ∷ bs) = by (test e.kind && eqb e.caller b.caller) (sum_more test e es bs)
  where
    by : (c : Bool) → sum_of (λ (b : Book). made test b.caller es) bs ≤ sum_of
        (λ (b : Book). made test b.caller (e ∷ es)) bs → made test b.caller es + sum_of
        (λ (b : Book). made test b.caller es) bs ≤ length (cond c
        (e ∷ filter (λ (d : Event). test d.kind && eqb d.caller b.caller) es)
        (filter (λ (d : Event). test d.kind && eqb d.caller b.caller) es)) + sum_of
        (λ (b : Book). made test b.caller (e ∷ es)) bs
    by true h = omega (arith, h)
    by false h = omega (arith, h)

sum_one : (test : Kind → Bool) (e : Event) (es : List Event) → test e.kind ≡ true → (books : List Book) → list_any
    (of_book e.caller) books ≡ true → sum_of (λ (b : Book). made test b.caller es) books + 1 ≤ sum_of
    (λ (b : Book). made test b.caller (e ∷ es)) books
sum_one test e es t [] h = absurd (cc)
sum_one test e es t (b ∷ bs) h = by (eqb e.caller b.caller) refl h (sum_one test e es t bs)
  where
    by : (c : Bool) → eqb e.caller b.caller ≡ c → (c || list_any (of_book e.caller) bs) ≡ true →
        (list_any (of_book e.caller) bs ≡ true → sum_of (λ (b : Book). made test b.caller es) bs + 1 ≤ sum_of
        (λ (b : Book). made test b.caller (e ∷ es)) bs) → made test b.caller es + sum_of
        (λ (b : Book). made test b.caller es) bs + 1 ≤ made test b.caller (e ∷ es) + sum_of
        (λ (b : Book). made test b.caller (e ∷ es)) bs
    by true s h more =
        let hit : (test e.kind && eqb e.caller b.caller) ≡ true = ap (λ (c : Bool). c && eqb e.caller b.caller) t ∙ s in
        let here : made test b.caller (e ∷ es) ≡ made test b.caller es + 1 = ap
        (λ (c : Bool). length (cond c (e ∷ filter (λ (d : Event). test d.kind && eqb d.caller b.caller) es)
        (filter (λ (d : Event). test d.kind && eqb d.caller b.caller) es))) hit ∙ omega arith in
        omega (arith, here, sum_more test e es bs)
    by false s h more =
        let miss : (test e.kind && eqb e.caller b.caller) ≡ false = ap (λ (c : Bool). c && eqb e.caller b.caller) t
        ∙ s in
        let here : made test b.caller (e ∷ es) ≡ made test b.caller es = ap
        (λ (c : Bool). length (cond c (e ∷ filter (λ (d : Event). test d.kind && eqb d.caller b.caller) es)
        (filter (λ (d : Event). test d.kind && eqb d.caller b.caller) es))) miss in
        omega (arith, here, more h)

sum_all : (test : Kind → Bool) (books : List Book) (journal : List Event) → Every
    (λ (e : Event). list_any (of_book e.caller) books ≡ true) journal → all_made test journal ≤ sum_of
    (λ (b : Book). made test b.caller journal) books
sum_all test books [] h = omega arith
sum_all test books (e ∷ es) h = by (test e.kind) refl (sum_all test books es h.1)
  where
    by : (c : Bool) → test e.kind ≡ c → all_made test es ≤ sum_of (λ (b : Book). made test b.caller es) books → length
        (cond c (e ∷ filter (λ (d : Event). test d.kind) es) (filter (λ (d : Event). test d.kind) es)) ≤ sum_of
        (λ (b : Book). made test b.caller (e ∷ es)) books
    by true t g = omega (arith, g, sum_one test e es t books h.0)
    by false t g = omega (arith, g, sum_more test e es books)

sum_most : (f g : Book → ℕ) (books : List Book) → Every (λ (b : Book). f b ≤ g b) books
    → sum_of f books ≤ sum_of g books
sum_most f g [] h = omega arith
sum_most f g (b ∷ bs) h = let a = h.0 in let r = sum_most f g bs h.1 in omega (arith, a, r)

sum_from : (f : Book → ℕ) (books : List Book) (n : ℕ) → fold (λ (a : ℕ) (b : Book). a + f b) n books ≡ n + sum_of f
    books
sum_from f [] n = omega arith
sum_from f (b ∷ bs) n = sum_from f bs (n + f b) ∙ omega arith

sum-of : (f : Book → ℕ) (books : List Book) → sum_by f books ≡ sum_of f books
sum-of f books = sum_from f books 0 ∙ omega arith

every_event : (P : Event → Type 0) (journal : List Event) → ((k : ℕ) (e : Event) → slice_get journal k ≡ Some e → P e)
    → Every P journal
every_event P [] h = tt
every_event P (e ∷ es) h = (h zero e refl, every_event P es (λ k d at. h (suc k) d at))

pub of_books : (sizes : Sizes) (journal : List Event) → IsKept sizes journal → (test : Kind → Bool) (books : List Book)
    (most : Book → ℕ) → ((i : ℕ) → i < (state sizes journal).drawn → list_any
    (λ (b : Book). eqb i b.caller) books ≡ true) → Every (λ (b : Book). made test b.caller journal ≤ most b) books
    → all_made test journal ≤ sum_by most books
of_books sizes journal kept test books most each few =
    let all = sum_all test books journal (every_event (λ (e : Event). list_any (of_book e.caller) books ≡ true) journal
    (λ k e at. each e.caller (called sizes journal kept k e at))) in
    omega (arith, all, sum_most (λ (b : Book). made test b.caller journal) most books few, sum-of most books)
