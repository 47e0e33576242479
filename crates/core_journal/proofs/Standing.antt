-- Where the items of a history come from: entries of the books at their places, and events that no own entry is of.
use Rattle.std.proofs.Common.{◌≡◌, ℕ, zero, suc, ◌+◌, Bool, true, false, ◌==◌, List, [], ◌∷◌, ◌++◌, length, Option}
use Rattle.std.proofs.Common.{Some, None, refl, sym, ap, ◌∙◌, subst, arith, append_assoc, length-append, inl, inr, ◌⊎◌}
use Rattle.std.proofs.Common.{eqb-true, true≢false}
use Rattle.std.specs.Prelude.{slice_get}
use Rattle.graph_kinds.specs.History.{Item, Every, items_of, answered, IsInterleaving}
use Rattle.graph_kinds.specs.declared.answer.Answer.{Answer}
use Rattle.graph_kinds.specs.declared.call.Call.{Call}
use Rattle.graph_kinds.specs.declared.call.Row.{Row}
use Rattle.graph_kinds.specs.declared.entry.Class.{Class}
use Rattle.graph_kinds.specs.declared.entry.Class.TheVariants.{Silent, Late, Own}
use Rattle.graph_kinds.specs.declared.entry.Entry.{Entry}
use Rattle.graph_kinds.proofs.PathsLists.{In}
use Rattle.core_journal.specs.declared.book.Book.{Book}
use Rattle.core_journal.specs.History.{Turn, item, running, entries_at, or_running, items_at, history_from, HasBook}
use Rattle.core_journal.specs.Order.{Placed, placed, placed_from, IsEntryOf, IsPlacedAt}
use Rattle.core_journal.specs.Right.{StandsAt}
use Rattle.core_journal.proofs.Lists.{every_append, every_map, every_all, every_mapped, every_none, every_filter}
use Rattle.core_journal.proofs.Lists.{get_here}
use Rattle.core_journal.proofs.Turns.{each_at, or_running_each}

-- each element of a list stands at a number
each_number : {A : Type 0} (xs : List A) → Every (λ x. (n : ℕ) × (slice_get xs n ≡ Some x)) xs
each_number [] = tt
each_number {A = A} (x ∷ xs) = (
  (0, refl),
  every_map (λ (y : A). (n : ℕ) × (slice_get xs n ≡ Some y))
      (λ (y : A). (n : ℕ) × (slice_get (x ∷ xs) n ≡ Some y)) (λ y h. (suc h.0, h.1)) xs (each_number xs),
)

-- the entries of a class at a place are placed there
entries_placed : (ts : List Turn) (books : List Book) (c : Class) (p : ℕ) → Every
    (λ (i : Item). IsEntryOf books (record { place = p; class = c; item = i })) (entries_at c p books)
entries_placed ts books c p = each_at c p (λ (b : Book). (n : ℕ) × (slice_get books n ≡ Some b))
    (λ (i : Item). IsEntryOf books (record { place = p; class = c; item = i })) one books (each_number books)
  where
    one : (b : Book) → (n : ℕ) × (slice_get books n ≡ Some b) → Every
        (λ (e : Entry). StandsAt c p e → IsEntryOf books (record { place = p; class = c; item = item b.caller e }))
        b.entries
    one b k = every_map (λ (e : Entry). (m : ℕ) × (slice_get b.entries m ≡ Some e))
        (λ (e : Entry). StandsAt c p e → IsEntryOf books (record { place = p; class = c; item = item b.caller e }))
        (λ e m s. record {
          number = k.0;
          book = b;
          book_at = k.1;
          row = m.0;
          entry = e;
          entry_at = m.1;
          item = refl;
          place = sym s.place;
          class = sym s.class;
        }) b.entries (each_number b.entries)

all_placed : (ts : List Turn) (books : List Book) (c : Class) (p : ℕ) → Every (IsPlacedAt ts books)
    (placed p c (entries_at c p books))
all_placed ts books c p = every_mapped (λ (i : Item). IsEntryOf books (record { place = p; class = c; item = i }))
    (IsPlacedAt ts books) (λ (i : Item). record { place = p; class = c; item = i }) (λ i h. inl h)
    (entries_at c p books) (entries_placed ts books c p)

own_placed : (ts : List Turn) (books : List Book) (p : ℕ) (t : Turn) → slice_get ts p ≡ Some t → Every
    (IsPlacedAt ts books) (placed p Own (or_running t (entries_at Own p books)))
own_placed ts books p t at = by (entries_at Own p books) refl (all_placed ts books Own p)
  where
    by : (xs : List Item) → entries_at Own p books ≡ xs → Every (IsPlacedAt ts books) (placed p Own xs) → Every
        (IsPlacedAt ts books) (placed p Own (or_running t xs))
    by (x ∷ xs) e h = h
    by [] e h = every_mapped (λ (i : Item). (c : Call) × (t.call ≡ Some c) × (i ≡ running t.caller c))
        (IsPlacedAt ts books) (λ (i : Item). record { place = p; class = Own; item = i })
        (λ i k. inr (record { turn = t; at = at; call = k.0; carries = k.1; item = k.2; class = refl; alone = e }))
        (or_running t []) (or_running_each (λ (i : Item). (c : Call) × (t.call ≡ Some c) × (i ≡ running t.caller c)) t
        [] tt (λ c is. (c, is, refl)))

placed_walk : (ts : List Turn) (books : List Book) (past ss : List Turn) (p : ℕ) → p ≡ length past → past ++ ss ≡ ts
    → Every (IsPlacedAt ts books) (placed_from p ss books)
placed_walk ts books past [] p here whole =
    every_append (IsPlacedAt ts books) (placed p Silent (entries_at Silent p books)) _ (all_placed ts books Silent p)
    (every_append (IsPlacedAt ts books) (placed p Late (entries_at Late p books))
    (placed p Own (entries_at Own p books)) (all_placed ts books Late p) (all_placed ts books Own p))
placed_walk ts books past (s ∷ ss) p here whole =
    let at : slice_get ts p ≡ Some s = subst (λ (l : List Turn). slice_get l p ≡ Some s) whole
    (subst (λ (n : ℕ). slice_get (past ++ s ∷ ss) n ≡ Some s) (sym here) (get_here past s ss)) in
    every_append (IsPlacedAt ts books) _ (placed_from (p + 1) ss books)
    (every_append (IsPlacedAt ts books) (placed p Silent (entries_at Silent p books)) _ (all_placed ts books Silent p)
    (every_append (IsPlacedAt ts books) (placed p Late (entries_at Late p books))
    (placed p Own (or_running s (entries_at Own p books))) (all_placed ts books Late p)
    (own_placed ts books p s at)))
    (placed_walk ts books (past ++ s ∷ []) ss (p + 1) (omega (arith, length-append past (s ∷ []), here))
    (append_assoc past (s ∷ []) ss ∙ whole))

-- each placed item is an entry's or a running call's
pub all_stand : (ts : List Turn) (books : List Book) → Every (IsPlacedAt ts books) (placed_from 0 ts books)
all_stand ts books = placed_walk ts books [] ts 0 refl refl

own_books : (bs : List Book) → Every (λ (b : Book). HasBook b.caller bs) bs
own_books [] = tt
own_books (b ∷ bs) = (
  inl refl,
  every_map (λ (c : Book). HasBook c.caller bs) (λ (c : Book). HasBook c.caller (b ∷ bs))
      (λ c h. inr h) bs (own_books bs),
)

booked_at : (c : Class) (p : ℕ) (books : List Book) → Every (λ (i : Item). HasBook i.caller books)
    (entries_at c p books)
booked_at c p books = each_at c p (λ (b : Book). HasBook b.caller books) (λ (i : Item). HasBook i.caller books)
    (λ b h. every_all (λ (e : Entry). StandsAt c p e → HasBook b.caller books) (λ e s. h) b.entries) books
    (own_books books)

booked_own : (books : List Book) (p : ℕ) (t : Turn) → ((c : Call) → t.call ≡ Some c → HasBook t.caller books) → Every
    (λ (i : Item). HasBook i.caller books) (or_running t (entries_at Own p books))
booked_own books p t has = or_running_each (λ (i : Item). HasBook i.caller books) t (entries_at Own p books)
    (booked_at Own p books) has

booked_from : (ts : List Turn) (books : List Book) → ((p : ℕ) (t : Turn) (c : Call) → slice_get ts p ≡ Some t
    → t.call ≡ Some c → HasBook t.caller books)
    → (past ss : List Turn) (p : ℕ) → p ≡ length past → past ++ ss ≡ ts → Every (λ (i : Item). HasBook i.caller books)
    (history_from p ss books)
booked_from ts books has past [] p here whole =
    every_append (λ (i : Item). HasBook i.caller books) (entries_at Silent p books) _ (booked_at Silent p books)
    (every_append (λ (i : Item). HasBook i.caller books) (entries_at Late p books) _ (booked_at Late p books)
    (booked_at Own p books))
booked_from ts books has past (s ∷ ss) p here whole =
    let at : slice_get ts p ≡ Some s = subst (λ (l : List Turn). slice_get l p ≡ Some s) whole
    (subst (λ (n : ℕ). slice_get (past ++ s ∷ ss) n ≡ Some s) (sym here) (get_here past s ss)) in
    every_append (λ (i : Item). HasBook i.caller books) (items_at p s books) (history_from (p + 1) ss books)
    (every_append (λ (i : Item). HasBook i.caller books) (entries_at Silent p books) _ (booked_at Silent p books)
    (every_append (λ (i : Item). HasBook i.caller books) (entries_at Late p books) _ (booked_at Late p books)
    (booked_own books p s (λ c is. has p s c at is))))
    (booked_from ts books has (past ++ s ∷ []) ss (p + 1) (omega (arith, length-append past (s ∷ []), here))
    (append_assoc past (s ∷ []) ss ∙ whole))

-- each item is of a caller with a book
pub all_booked : (ts : List Turn) (books : List Book) → ((p : ℕ) (t : Turn) (c : Call) → slice_get ts p ≡ Some t
    → t.call ≡ Some c → HasBook t.caller books) → Every (λ (i : Item). HasBook i.caller books) (history_from 0 ts books)
all_booked ts books has = booked_from ts books has [] ts 0 refl refl

-- a caller without a book has no item
no_items : (caller : ℕ) (books : List Book) → (HasBook caller books → ⊥) → (xs : List Item) → Every
    (λ (i : Item). HasBook i.caller books) xs → items_of caller xs ≡ []
no_items caller books none xs h = every_none (items_of caller xs)
    (every_filter (λ (i : Item). HasBook i.caller books) (λ _. ⊥) (λ (i : Item). i.caller == caller)
    (λ i has is. none (subst (λ (n : ℕ). HasBook n books) (eqb-true i.caller caller is) has)) xs h)

rows_booked : (books : List Book) (rows : List Row) (replies : List Answer) → Every
    (λ (r : Row). HasBook r.caller books) rows → Every (λ (i : Item). HasBook i.caller books) (answered rows replies)
rows_booked books [] replies h = tt
rows_booked books (r ∷ rows) [] h = tt
rows_booked books (r ∷ rows) (a ∷ replies) h = (h.0, rows_booked books rows replies h.1)

has_or_not : (caller : ℕ) (books : List Book) → HasBook caller books ⊎ (HasBook caller books → ⊥)
has_or_not caller [] = inr (λ h. h)
has_or_not caller (b ∷ bs) = by (b.caller == caller) refl (has_or_not caller bs)
  where
    not_here : (b.caller == caller) ≡ false → b.caller ≡ caller → ⊥
    not_here e same = true≢false (sym (ap (λ n. n == caller) same ∙ equal caller) ∙ e)
      where
        equal : (n : ℕ) → (n == n) ≡ true
        equal n = grind arith

    by : (t : Bool) → (b.caller == caller) ≡ t → HasBook caller bs ⊎ (HasBook caller bs → ⊥) → HasBook caller (b ∷ bs) ⊎
        (HasBook caller (b ∷ bs) → ⊥)
    by true e r = inl (inl (eqb-true b.caller caller e))
    by false e (inl h) = inl (inr h)
    by false e (inr none) = inr (none_of e none)
      where
        none_of : (b.caller == caller) ≡ false → (HasBook caller bs → ⊥) → HasBook caller (b ∷ bs) → ⊥
        none_of e none (inl same) = not_here e same
        none_of e none (inr h) = none h

-- lists of items that agree for each caller with a book agree for each caller
pub agree_all : (books : List Book) (xs ys : List Item) → Every
    (λ (b : Book). items_of b.caller xs ≡ items_of b.caller ys) books → Every (λ (i : Item). HasBook i.caller books) xs
    → Every (λ (i : Item). HasBook i.caller books) ys
    → (caller : ℕ) → items_of caller xs ≡ items_of caller ys
agree_all books xs ys each hx hy caller = by (has_or_not caller books)
  where
    found : (bs : List Book) → Every (λ (b : Book). items_of b.caller xs ≡ items_of b.caller ys) bs → HasBook caller bs
        → items_of caller xs ≡ items_of caller ys
    found [] h has = absurd has
    found (b ∷ bs) h (inl same) = subst (λ (n : ℕ). items_of n xs ≡ items_of n ys) same h.0
    found (b ∷ bs) h (inr has) = found bs h.1 has

    by : HasBook caller books ⊎ (HasBook caller books → ⊥) → items_of caller xs ≡ items_of caller ys
    by (inl has) = found books each has
    by (inr none) = no_items caller books none xs hx ∙ sym (no_items caller books none ys hy)

-- the history of true books interleaves rows that were answered as the books say
pub rows_interleave : (books : List Book) (h : List Item) (rows : List Row) (replies : List Answer)
    → length replies ≡ length rows → Every (λ (r : Row). HasBook r.caller books) rows
    → Every (λ (b : Book). items_of b.caller h ≡ items_of b.caller (answered rows replies)) books → Every
    (λ (i : Item). HasBook i.caller books) h → IsInterleaving rows replies h
rows_interleave books h rows replies long has each booked = record {
  one_each = long;
  in_order = agree_all books h (answered rows replies) each booked
      (rows_booked books rows replies has);
}

among_left : (x : Placed) (xs ys : List Placed) → In x xs → In x (xs ++ ys)
among_left x [] ys h = absurd h
among_left x (z ∷ xs) ys (inl h) = inl h
among_left x (z ∷ xs) ys (inr h) = inr (among_left x xs ys h)

among_right : (x : Placed) (xs ys : List Placed) → In x ys → In x (xs ++ ys)
among_right x [] ys h = h
among_right x (z ∷ xs) ys h = inr (among_right x xs ys h)

number_of : (x : Placed) (xs : List Placed) → In x xs → (n : ℕ) × (slice_get xs n ≡ Some x)
number_of x [] h = absurd h
number_of x (y ∷ ys) (inl h) = (0, ap (λ (z : Placed). Some z) h)
number_of x (y ∷ ys) (inr h) = let r = number_of x ys h in (suc r.0, r.1)

running_in : (ts : List Turn) (books : List Book) (p k : ℕ) (t : Turn) (c : Call) → slice_get ts k ≡ Some t
    → t.call ≡ Some c → entries_at Own (p + k) books ≡ [] → In
    (record { place = p + k; class = Own; item = running t.caller c }) (placed_from p ts books)
running_in [] books p k t c at is alone = absurd (cc)
running_in (s ∷ ts) books p zero t c at is alone =
    let same : s ≡ t = cc in
    let n : p ≡ p + 0 = omega arith in
    let empty : entries_at Own p books ≡ [] = ap (λ q. entries_at Own q books) n ∙ alone in
    among_left _ _ (placed_from (p + 1) ts books)
    (among_right _ (placed p Silent (entries_at Silent p books)) _
    (among_right _ (placed p Late (entries_at Late p books)) (placed p Own (or_running s (entries_at Own p books)))
    (subst (λ (xs : List Item). In (record { place = p + 0; class = Own; item = running t.caller c })
    (placed p Own (or_running s xs))) (sym empty)
    (subst (λ (u : Turn). In (record { place = p + 0; class = Own; item = running t.caller c })
    (placed p Own (or_running u []))) (sym same)
    (subst (λ (o : Option Call). In (record { place = p + 0; class = Own; item = running t.caller c })
    (placed p Own (elim o as (λ _. List Item) [ None ↦ [] | Some d ↦ running t.caller d ∷ [] ]))) (sym is)
    (inl (λ i. record { place = n i; class = Own; item = running t.caller c })))))))
running_in (s ∷ ts) books p (suc k) t c at is alone =
    let n : p + 1 + k ≡ p + suc k = omega arith in
    among_right _ _ (placed_from (p + 1) ts books)
    (subst (λ (q : ℕ). In (record { place = q; class = Own; item = running t.caller c })
    (placed_from (p + 1) ts books)) n
    (running_in ts books (p + 1) k t c at is (ap (λ q. entries_at Own q books) n ∙ alone)))

-- an event that changes the graph, and is no own entry's, has its item
pub running_stands : (ts : List Turn) (books : List Book) (p : ℕ) (t : Turn) (c : Call) → slice_get ts p ≡ Some t
    → t.call ≡ Some c → entries_at Own p books ≡ []
    → (n : ℕ) × (slice_get (placed_from 0 ts books) n ≡ Some (record
    { place = p; class = Own; item = running t.caller c }))
running_stands ts books p t c at is alone =
    let z : 0 + p ≡ p = omega arith in
    number_of _ (placed_from 0 ts books)
    (subst (λ (q : ℕ). In (record { place = q; class = Own; item = running t.caller c }) (placed_from 0 ts books)) z
    (running_in ts books 0 p t c at is (ap (λ q. entries_at Own q books) z ∙ alone)))
