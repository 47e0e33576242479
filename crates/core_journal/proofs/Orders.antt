-- A caller's items in a history are the entries of its book in their order.
use Rattle.std.proofs.Common.{inl, inr, ◌≡◌, ◌≢◌, ℕ, ◌+◌, ◌<◌, ◌≤◌, Bool, true, false, cond, ◌&&◌, ◌==◌, List, [], ◌∷◌}
use Rattle.std.proofs.Common.{◌++◌, length, map, filter, Some, refl, sym, ap, ◌∙◌, subst, arith, append_assoc}
use Rattle.std.proofs.Common.{append-nil, ne_eqb, le-leb, leb, leb-true, leb-false, length-append, eqb-true}
use Rattle.std.specs.Prelude.{slice_get}
use mathlib.Core.Logic.{dite}
use native.Mathlib.Decide.{ℕ_discrete}
use Rattle.graph_kinds.specs.declared.call.Call.{Call}
use Rattle.graph_kinds.specs.declared.entry.Class.{Class}
use Rattle.graph_kinds.specs.declared.entry.Class.TheVariants.{Silent, Late, Own}
use Rattle.graph_kinds.specs.declared.entry.Entry.{Entry}
use Rattle.core_journal.specs.declared.book.Book.{Book}
use Rattle.graph_kinds.specs.History.{Item, Every, items_of}
use Rattle.core_journal.specs.History.{Turn, same_class, stands, item, entries_at, or_running, items_at, history_from}
use Rattle.core_journal.specs.History.{HasBook, IsAnswered}
use Rattle.core_journal.specs.Right.{StandsAt, is_silent, FramedFrom, CallersApart}
use Rattle.core_journal.proofs.Turns.{all_since, BookIn, each_at, BooksIn, or_running_each}
use Rattle.core_journal.proofs.Places.{none_filtered}
use Rattle.core_journal.proofs.Lists.{every_append, every_map, every_both, every_none, every_all, every_filter}
use Rattle.core_journal.proofs.Lists.{every_mapped, get_here}
use Rattle.std.proofs.lemmas.List.{map-append}

filter_append : {A : Type 0} (test : A → Bool) (xs ys : List A) → filter test
    (xs ++ ys) ≡ filter test xs ++ filter test ys
filter_append test [] ys = refl
filter_append test (x ∷ xs) ys = elim (test x) as (λ b. cond b (x ∷ filter test (xs ++ ys))
    (filter test (xs ++ ys)) ≡ cond b (x ∷ filter test xs) (filter test xs) ++ filter test ys) [
      | true ↦ ap (λ l. x ∷ l) (filter_append test xs ys)
      | false ↦ filter_append test xs ys
    ]

own_items : (caller : ℕ) (es : List Entry) → items_of caller (map (item caller) es) ≡ map (item caller) es
own_items caller [] = refl
own_items caller (e ∷ es) = ap (λ b. cond b (item caller e ∷ items_of caller (map (item caller) es))
    (items_of caller (map (item caller) es))) (equal caller) ∙ ap (λ l. item caller e ∷ l) (own_items caller es)
  where
    equal : (n : ℕ) → (n == n) ≡ true
    equal n = grind arith

other_items : (caller : ℕ) (xs : List Item) → Every (λ (i : Item). i.caller ≢ caller) xs → items_of caller xs ≡ []
other_items caller xs h = every_none (items_of caller xs) (every_filter (λ (i : Item). i.caller ≢ caller) (λ _. ⊥)
    (λ (i : Item). i.caller == caller) (λ i ne e. ne (eqb-true i.caller caller e)) xs h)

callers_of : (caller n : ℕ) (es : List Entry) → n ≢ caller → Every (λ (i : Item). i.caller ≢ caller) (map (item n) es)
callers_of caller n es ne = every_mapped (λ (e : Entry). Unit {0}) (λ (i : Item). i.caller ≢ caller) (item n)
    (λ e u. ne) es (every_all (λ (e : Entry). Unit {0}) (λ e. tt) es)

-- what of a class stands at a place of a caller is what its book has there
items_at_place : (c : Class) (p : ℕ) (books : List Book) → CallersApart books → Every
    (λ (b : Book). items_of b.caller (entries_at c p books) ≡ map (item b.caller) (filter (stands c p) b.entries)) books
items_at_place c p [] apart = tt
items_at_place c p (b ∷ bs) apart = (
  filter_append (λ (i : Item). i.caller == b.caller) (map (item b.caller) (filter (stands c p) b.entries))
      (entries_at c p bs)
      ∙ (ap (λ (l : List Item). l ++ items_of b.caller (entries_at c p bs))
      (own_items b.caller (filter (stands c p) b.entries))
      ∙ (ap (λ (l : List Item). map (item b.caller) (filter (stands c p) b.entries) ++ l)
      (other_items b.caller (entries_at c p bs) (each_at c p (λ (d : Book). d.caller ≢ b.caller)
      (λ (i : Item). i.caller ≢ b.caller) (λ d ne. every_all (λ (e : Entry). StandsAt c p e → d.caller ≢ b.caller)
      (λ e s. ne) d.entries) bs apart.0))
      ∙ append-nil (map (item b.caller) (filter (stands c p) b.entries)))),
  every_map (λ (d : Book). (d.caller ≢ b.caller) × (items_of d.caller (entries_at c p bs) ≡ map (item d.caller)
      (filter (stands c p) d.entries))) (λ (d : Book). items_of d.caller (entries_at c p (b ∷ bs)) ≡ map (item d.caller)
      (filter (stands c p) d.entries))
      (λ d k. filter_append (λ (i : Item). i.caller == d.caller) (map (item b.caller) (filter (stands c p) b.entries))
      (entries_at c p bs)
      ∙ (ap (λ (l : List Item). l ++ items_of d.caller (entries_at c p bs))
      (other_items d.caller (map (item b.caller) (filter (stands c p) b.entries))
      (callers_of d.caller b.caller (filter (stands c p) b.entries) (λ e. k.0 (sym e)))) ∙ k.1))
      bs (every_both (λ (d : Book). d.caller ≢ b.caller) (λ (d : Book). items_of d.caller (entries_at c p bs) ≡ map
      (item d.caller) (filter (stands c p) d.entries)) bs apart.0 (items_at_place c p bs apart.1)),
)

abbrev parts : ℕ → List Entry → List Entry
parts p es = filter (stands Silent p) es ++ (filter (stands Late p) es ++ filter (stands Own p) es)

abbrev entries_from : ℕ → List Entry → List Entry
entries_from p es = filter (λ (e : Entry). leb p e.place) es

no_part : (c : Class) (p : ℕ) (es : List Entry) → Every (λ (e : Entry). p < e.place) es → filter (stands c p) es ≡ []
no_part c p es h = none_filtered c p es (every_map (λ (e : Entry). p < e.place) (λ (e : Entry). StandsAt c p e → ⊥)
    (λ e less s. omega (arith, less, s.place)) es h)

no_parts : (p : ℕ) (es : List Entry) → Every (λ (e : Entry). p < e.place) es → parts p es ≡ []
no_parts p es h = λ i. no_part Silent p es h i ++ (no_part Late p es h i ++ no_part Own p es h i)

skipped : (c : Class) (p : ℕ) (e : Entry) (es : List Entry) → p ≢ e.place → filter (stands c p) (e ∷ es) ≡ filter
    (stands c p) es
skipped c p e es ne = ap (λ b. cond b (e ∷ filter (stands c p) es) (filter (stands c p) es))
    (ap (λ b. same_class c e.class && b) (ne_eqb p e.place ne) ∙ and_false (same_class c e.class))
  where
    and_false : (b : Bool) → (b && false) ≡ false
    and_false true = refl
    and_false false = refl

tested : (c d : Class) (p : ℕ) (e : Entry) (es : List Entry) → e.class ≡ d → p ≡ e.place → filter (stands c p)
    (e ∷ es) ≡ cond (same_class c d) (e ∷ filter (stands c p) es) (filter (stands c p) es)
tested c d p e es class place = ap (λ b. cond b (e ∷ filter (stands c p) es) (filter (stands c p) es))
    (ap (λ b. same_class c e.class && b) (ap (λ n. n == e.place) place ∙ equal e.place) ∙
    (and_true (same_class c e.class) ∙ ap (same_class c) class))
  where
    equal : (n : ℕ) → (n == n) ≡ true
    equal n = grind arith

    and_true : (b : Bool) → (b && true) ≡ b
    and_true true = refl
    and_true false = refl

kept : (p : ℕ) (e : Entry) (es : List Entry) → p ≤ e.place → entries_from p (e ∷ es) ≡ e ∷ entries_from p es
kept p e es h = ap (λ b. cond b (e ∷ entries_from p es) (entries_from p es)) (le-leb p e.place h)

dropped : (p : ℕ) (e : Entry) (es : List Entry) → e.place < p → entries_from p (e ∷ es) ≡ entries_from p es
dropped p e es h = ap (λ b. cond b (e ∷ entries_from p es) (entries_from p es)) (less (leb p e.place) refl)
  where
    less : (b : Bool) → leb p e.place ≡ b → b ≡ false
    less false f = refl
    less true f = absurd (omega (arith, leb-true p e.place f))

-- an entry at p and those behind it
placed : (p : ℕ) (e : Entry) (es : List Entry) (c : Class) → e.class ≡ c → p ≡ e.place →
    (is_silent c ≡ false → Every (λ (d : Entry). p < d.place) es) → parts p (e ∷ es) ≡ e ∷ parts p es
placed p e es Silent class place later = λ i. tested Silent Silent p e es class place i ++
    (tested Late Silent p e es class place i ++ tested Own Silent p e es class place i)
placed p e es Late class place later =
    let h = later refl in
    (λ i. (tested Silent Late p e es class place ∙ no_part Silent p es h) i ++
    (tested Late Late p e es class place i ++ tested Own Late p e es class place i))
    ∙ ap (λ l. e ∷ l) (sym (λ i. no_part Silent p es h i ++ (filter (stands Late p) es ++ filter (stands Own p) es)))
placed p e es Own class place later =
    let h = later refl in
    (λ i. (tested Silent Own p e es class place ∙ no_part Silent p es h) i ++
    ((tested Late Own p e es class place ∙ no_part Late p es h) i ++ tested Own Own p e es class place i))
    ∙ ap (λ l. e ∷ l) (sym (λ i. no_part Silent p es h i ++ (no_part Late p es h i ++ filter (stands Own p) es)))

split : (n least p : ℕ) (es : List Entry) → FramedFrom n least es → entries_from p es ≡ parts p es
    ++ entries_from (p + 1) es
split n least p [] f = refl
split n least p (e ∷ es) f = dite (ℕ_discrete p e.place)
    (λ same.
    kept p e es (omega arith) ∙ (ap (λ l. e ∷ l) (split n e.end p es f.1)
    ∙ sym (λ i. placed p e es e.class refl same (λ loud. every_map (λ (d : Entry). e.end ≤ d.place)
    (λ (d : Entry). p < d.place) (λ d h. omega (arith, h, f.0.before loud, same)) es (all_since n e.end es f.1)) i
    ++ dropped (p + 1) e es (omega arith) i)))
    (λ ne.
    let rest = split n e.end p es f.1 in
    let skip : parts p (e ∷ es) ≡ parts p es = λ i. skipped Silent p e es ne i ++
    (skipped Late p e es ne i ++ skipped Own p e es ne i) in
    elim (leb p e.place) as (λ b. leb p e.place ≡ b → entries_from p (e ∷ es) ≡ parts p (e ∷ es)
    ++ entries_from (p + 1) (e ∷ es)) [
      | true ↦ λ is.
          let less : p < e.place = omega (arith, ne, leb-true p e.place is) in
          let none = no_parts p es (every_map (λ (d : Entry). e.end ≤ d.place) (λ (d : Entry). p < d.place)
          (λ d h. omega (arith, h, f.0.until, less)) es (all_since n e.end es f.1)) in
          kept p e es (omega arith) ∙ (ap (λ l. e ∷ l) (rest ∙ ap (λ l. l ++ entries_from (p + 1) es) none) ∙ sym
          (λ i. (skip ∙ none) i ++ kept (p + 1) e es (omega arith) i))
      | false ↦ λ is.
          let less : e.place < p = omega (arith, leb-false p e.place is) in
          dropped p e es less ∙ (rest ∙ sym (λ i. skip i ++ dropped (p + 1) e es (omega arith) i))
    ] refl)

all_behind : (n least : ℕ) (es : List Entry) → FramedFrom n least es → entries_from 0 es ≡ es
all_behind n least [] f = refl
all_behind n least (e ∷ es) f = kept 0 e es (omega arith) ∙ ap (λ l. e ∷ l) (all_behind n e.end es f.1)

none_behind : (n least : ℕ) (es : List Entry) → FramedFrom n least es → entries_from (n + 1) es ≡ []
none_behind n least [] f = refl
none_behind n least (e ∷ es) f = dropped (n + 1) e es (omega (arith, f.0.until, f.0.within))
    ∙ none_behind n e.end es f.1

one_list : (xs : List Item) (es : List Entry) (f : Entry → Item) → xs ≡ map f es → xs ≡ [] → length es ≡ 0
one_list xs [] f e empty = refl
one_list xs (d ∷ es) f e empty = absurd (cc)

own_at : (ts : List Turn) (books : List Book) (b : Book) (p : ℕ) (t : Turn) → BookIn ts b → slice_get ts p ≡ Some t
    → items_of b.caller (entries_at Own p books) ≡ map (item b.caller) (filter (stands Own p) b.entries)
    → items_of b.caller (or_running t (entries_at Own p books)) ≡ map (item b.caller) (filter (stands Own p) b.entries)
own_at ts books b p t k at fits = by (entries_at Own p books) fits
  where
    by : (xs : List Item) → items_of b.caller xs ≡ map (item b.caller) (filter (stands Own p) b.entries)
        → items_of b.caller (or_running t xs) ≡ map (item b.caller) (filter (stands Own p) b.entries)
    by (x ∷ xs) h = h
    by [] h = other_items b.caller (or_running t []) (or_running_each (λ (i : Item). i.caller ≢ b.caller) t [] tt
        (λ c is same. omega (
          arith,
          k.covers p t c at same is,
          one_list [] (filter (stands Own p) b.entries)
              (item b.caller) h refl,
        ))) ∙ h

items_in : (f : Entry → Item) (p : ℕ) (es : List Entry) → map f (parts p es) ≡ map f (filter (stands Silent p) es) ++
    (map f (filter (stands Late p) es) ++ map f (filter (stands Own p) es))
items_in f p es = map-append f (filter (stands Silent p) es) (filter (stands Late p) es ++ filter (stands Own p) es)
    ∙ ap (λ (l : List Item). map f (filter (stands Silent p) es) ++ l)
    (map-append f (filter (stands Late p) es) (filter (stands Own p) es))

three : (caller : ℕ) (silent late own : List Item) → items_of caller
    (silent ++ (late ++ own)) ≡ items_of caller silent ++ (items_of caller late ++ items_of caller own)
three caller silent late own = filter_append (λ (i : Item). i.caller == caller) silent (late ++ own)
    ∙ ap (λ (l : List Item). items_of caller silent ++ l) (filter_append (λ (i : Item). i.caller == caller) late own)

walk_items : (ts : List Turn) (books : List Book) (b : Book) → BookIn ts b →
    ((c : Class) (p : ℕ) → items_of b.caller (entries_at c p books) ≡ map (item b.caller)
    (filter (stands c p) b.entries))
    → (past ss : List Turn) (p : ℕ) → p ≡ length past → past ++ ss ≡ ts → items_of b.caller
    (history_from p ss books) ≡ map (item b.caller) (entries_from p b.entries)
walk_items ts books b k fits past [] p here whole =
    let end : length ts ≡ p = omega (arith, here, ap length whole, length-append past []) in
    let gone : entries_from (p + 1) b.entries ≡ [] = none_behind p 0 b.entries
    (subst (λ (n : ℕ). FramedFrom n 0 b.entries) end k.framed) in
    three b.caller (entries_at Silent p books) (entries_at Late p books) (entries_at Own p books)
    ∙ ((λ i. fits Silent p i ++ (fits Late p i ++ fits Own p i))
    ∙ (sym (items_in (item b.caller) p b.entries)
    ∙ ap (map (item b.caller)) (sym (append-nil (parts p b.entries)) ∙
    (ap (λ (l : List Entry). parts p b.entries ++ l) (sym gone) ∙ sym (split (length ts) 0 p b.entries k.framed)))))
walk_items ts books b k fits past (s ∷ ss) p here whole =
    let at : slice_get ts p ≡ Some s = subst (λ (l : List Turn). slice_get l p ≡ Some s) whole
    (subst (λ (n : ℕ). slice_get (past ++ s ∷ ss) n ≡ Some s) (sym here) (get_here past s ss)) in
    let rest = walk_items ts books b k fits (past ++ s ∷ []) ss (p + 1)
    (omega (arith, length-append past (s ∷ []), here)) (append_assoc past (s ∷ []) ss ∙ whole) in
    filter_append (λ (i : Item). i.caller == b.caller) (items_at p s books) (history_from (p + 1) ss books)
    ∙ ((λ i. (three b.caller (entries_at Silent p books) (entries_at Late p books)
    (or_running s (entries_at Own p books))
    ∙ ((λ j. fits Silent p j ++ (fits Late p j ++ own_at ts books b p s k at (fits Own p) j)) ∙ sym
    (items_in (item b.caller) p b.entries))) i ++ rest i)
    ∙ (sym (map-append (item b.caller) (parts p b.entries) (entries_from (p + 1) b.entries)) ∙ ap (map (item b.caller))
    (sym (split (length ts) 0 p b.entries k.framed))))

-- a caller's items are the entries of its book
pub items_turns : (ts : List Turn) (books : List Book) (b : Book) → BookIn ts b →
    ((c : Class) (p : ℕ) → items_of b.caller (entries_at c p books) ≡ map (item b.caller)
    (filter (stands c p) b.entries))
    → items_of b.caller (history_from 0 ts books) ≡ map (item b.caller) b.entries
items_turns ts books b k fits = walk_items ts books b k fits [] ts 0 refl refl ∙ ap (map (item b.caller))
    (all_behind (length ts) 0 b.entries k.framed)

every_pi : (P : Class → ℕ → Book → Type 0) (books : List Book) → ((c : Class) (p : ℕ) → Every (P c p) books) → Every
    (λ (b : Book). (c : Class) (p : ℕ) → P c p b) books
every_pi P [] f = tt
every_pi P (b ∷ bs) f = (λ c p. (f c p).0, every_pi P bs (λ c p. (f c p).1))

-- so for each book
pub items_books : (ts : List Turn) (books : List Book) → BooksIn ts books → Every
    (λ (b : Book). items_of b.caller (history_from 0 ts books) ≡ map (item b.caller) b.entries) books
items_books ts books h =
    every_map (λ (b : Book). BookIn ts b × ((c : Class) (p : ℕ) → items_of b.caller (entries_at c p books) ≡ map
    (item b.caller) (filter (stands c p) b.entries))) (λ (b : Book). items_of b.caller
    (history_from 0 ts books) ≡ map (item b.caller) b.entries)
    (λ b k. items_turns ts books b k.0 k.1) books
    (every_both (BookIn ts) (λ (b : Book). (c : Class) (p : ℕ) → items_of b.caller (entries_at c p books) ≡ map
    (item b.caller) (filter (stands c p) b.entries)) books h.each
    (every_pi (λ c p b. items_of b.caller (entries_at c p books) ≡ map (item b.caller) (filter (stands c p) b.entries))
    books (λ c p. items_at_place c p books h.apart)))

nothing : {A : Type 0} (xs ys : List A) → xs ++ ys ≡ [] → (xs ≡ []) × (ys ≡ [])
nothing [] ys e = (refl, e)
nothing (x ∷ xs) ys e = absurd (cc)

has_own : (ts : List Turn) (p : ℕ) (t : Turn) (c : Call) → slice_get ts p ≡ Some t → t.call ≡ Some c →
    (books : List Book) → Every (BookIn ts) books → HasBook t.caller books → entries_at Own p books ≡ [] → ⊥
has_own ts p t c at is [] h has e = absurd has
has_own ts p t c at is (b ∷ bs) h (inl same) e =
    let none = (nothing (map (item b.caller) (filter (stands Own p) b.entries)) (entries_at Own p bs) e).0 in
    omega (
      arith,
      h.0.covers p t c at (sym same) is,
      one_list [] (filter (stands Own p) b.entries) (item b.caller)
          (sym none) refl,
    )
has_own ts p t c at is (b ∷ bs) h (inr has) e = has_own ts p t c at is bs h.1 has
    ((nothing (map (item b.caller) (filter (stands Own p) b.entries)) (entries_at Own p bs) e).1)

answered_at : (c : Class) (p : ℕ) (books : List Book) → Every IsAnswered (entries_at c p books)
answered_at c p books = each_at c p (λ (b : Book). Unit {0}) IsAnswered
    (λ b u. every_all (λ (e : Entry). StandsAt c p e → IsAnswered (item b.caller e)) (λ e s. refl) b.entries) books
    (every_all (λ (b : Book). Unit {0}) (λ b. tt) books)

answered_own : (ts : List Turn) (books : List Book) (p : ℕ) (t : Turn) → slice_get ts p ≡ Some t → Every
    (BookIn ts) books → ((c : Call) → t.call ≡ Some c → HasBook t.caller books) → Every IsAnswered
    (or_running t (entries_at Own p books))
answered_own ts books p t at h has = by (entries_at Own p books) refl (answered_at Own p books)
  where
    by : (xs : List Item) → entries_at Own p books ≡ xs → Every IsAnswered xs → Every IsAnswered (or_running t xs)
    by (x ∷ xs) e a = a
    by [] e a = or_running_each IsAnswered t [] tt (λ c is. absurd (has_own ts p t c at is books h (has c is) e))

answered_from : (ts : List Turn) (books : List Book) → Every (BookIn ts) books →
    ((p : ℕ) (t : Turn) (c : Call) → slice_get ts p ≡ Some t → t.call ≡ Some c → HasBook t.caller books)
    → (past ss : List Turn) (p : ℕ) → p ≡ length past → past ++ ss ≡ ts → Every IsAnswered (history_from p ss books)
answered_from ts books h has past [] p here whole =
    every_append IsAnswered (entries_at Silent p books) _ (answered_at Silent p books)
    (every_append IsAnswered (entries_at Late p books) _ (answered_at Late p books) (answered_at Own p books))
answered_from ts books h has past (s ∷ ss) p here whole =
    let at : slice_get ts p ≡ Some s = subst (λ (l : List Turn). slice_get l p ≡ Some s) whole
    (subst (λ (n : ℕ). slice_get (past ++ s ∷ ss) n ≡ Some s) (sym here) (get_here past s ss)) in
    every_append IsAnswered (items_at p s books) (history_from (p + 1) ss books)
    (every_append IsAnswered (entries_at Silent p books) _ (answered_at Silent p books)
    (every_append IsAnswered (entries_at Late p books) _ (answered_at Late p books)
    (answered_own ts books p s at h (λ c is. has p s c at is))))
    (answered_from ts books h has (past ++ s ∷ []) ss (p + 1) (omega (arith, length-append past (s ∷ []), here))
    (append_assoc past (s ∷ []) ss ∙ whole))

-- each item has an answer where each call of a turn is of a caller with a book
pub answered_all : (ts : List Turn) (books : List Book) → Every (BookIn ts) books →
    ((p : ℕ) (t : Turn) (c : Call) → slice_get ts p ≡ Some t → t.call ≡ Some c → HasBook t.caller books)
    → Every IsAnswered (history_from 0 ts books)
answered_all ts books h has = answered_from ts books h has [] ts 0 refl refl
