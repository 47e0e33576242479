-- A history stands in the order of places, classes and callers.
use Rattle.std.proofs.Common.{◌≡◌, ℕ, ◌+◌, ◌<◌, ◌≤◌, inl, inr, List, [], ◌∷◌, ◌++◌, map, filter, Some, None, refl, ap}
use Rattle.std.proofs.Common.{◌∙◌, arith}
use Rattle.graph_kinds.specs.declared.entry.Class.{Class}
use Rattle.graph_kinds.specs.declared.entry.Class.TheVariants.{Silent, Late, Own}
use Rattle.graph_kinds.specs.declared.entry.Entry.{Entry}
use Rattle.core_journal.specs.declared.book.Book.{Book}
use Rattle.graph_kinds.specs.History.{Item, Every}
use Rattle.core_journal.specs.Order.{placed, Placed, placed_from, Before, InOrder, CallersRise}
use Rattle.core_journal.specs.History.{Turn, stands, item, running, entries_at, or_running, history_from}
use Rattle.core_journal.specs.Right.{StandsAt}
use Rattle.core_journal.proofs.Lists.{every_append, every_map, every_all, every_mapped}
use Rattle.core_journal.proofs.Turns.{each_at}
use Rattle.std.proofs.lemmas.List.{map-append}

items_placed_at : (p : ℕ) (c : Class) (items : List Item) → map (λ (x : Placed). x.item) (placed p c items) ≡ items
items_placed_at p c [] = refl
items_placed_at p c (i ∷ items) = ap (λ l. i ∷ l) (items_placed_at p c items)

items_three : (p : ℕ) (silent late own : List Item) → map (λ (x : Placed). x.item)
    (placed p Silent silent ++ (placed p Late late ++ placed p Own own)) ≡ silent ++ (late ++ own)
items_three p silent late own = map-append (λ (x : Placed). x.item) (placed p Silent silent)
    (placed p Late late ++ placed p Own own)
    ∙ (λ i. items_placed_at p Silent silent i ++ (map-append (λ (x : Placed). x.item) (placed p Late late)
    (placed p Own own) ∙ (λ j. items_placed_at p Late late j ++ items_placed_at p Own own j)) i)

-- the placed items are those of the history
pub items_placed : (p : ℕ) (ts : List Turn) (books : List Book) → map (λ (x : Placed). x.item)
    (placed_from p ts books) ≡ history_from p ts books
items_placed p [] books = items_three p (entries_at Silent p books) (entries_at Late p books) (entries_at Own p books)
items_placed p (t ∷ ts) books = map-append (λ (x : Placed). x.item) _ (placed_from (p + 1) ts books)
    ∙ (λ i. items_three p (entries_at Silent p books) (entries_at Late p books)
    (or_running t (entries_at Own p books)) i ++ items_placed (p + 1) ts books i)

order_append : (xs ys : List Placed) → InOrder xs → InOrder ys → Every (λ (x : Placed). Every (Before x) ys) xs
    → InOrder (xs ++ ys)
order_append [] ys f g h = g
order_append (x ∷ xs) ys f g h = (every_append (Before x) xs ys f.0 h.0, order_append xs ys f.1 g h.1)

Rising : List Item → Type 0
Rising [] = Unit {0}
Rising (i ∷ items) = Every (λ (j : Item). i.caller ≤ j.caller) items × Rising items

rising_append : (xs ys : List Item) → Rising xs → Rising ys → Every
    (λ (x : Item). Every (λ (y : Item). x.caller ≤ y.caller) ys) xs → Rising (xs ++ ys)
unfolding Rising
rising_append [] ys f g h = g
rising_append (x ∷ xs) ys f g h = (
  every_append (λ (y : Item). x.caller ≤ y.caller) xs ys f.0 h.0,
  rising_append xs ys
      f.1 g h.1,
)

by_caller : (n : ℕ) (P : Item → Type 0) → ((i : Item) → i.caller ≡ n → P i) → (es : List Entry) → Every P
    (map (item n) es)
by_caller n P f [] = tt
by_caller n P f (e ∷ es) = (f (item n e) refl, by_caller n P f es)

rising_one : (n : ℕ) (es : List Entry) → Rising (map (item n) es)
unfolding Rising
rising_one n [] = tt
rising_one n (e ∷ es) = (by_caller n (λ (j : Item). n ≤ j.caller) (λ i is. omega (arith, is)) es, rising_one n es)

rising_entries : (c : Class) (p : ℕ) (books : List Book) → CallersRise books → Rising (entries_at c p books)
unfolding Rising
rising_entries c p [] rise = tt
rising_entries c p (b ∷ bs) rise =
    rising_append (map (item b.caller) (filter (stands c p) b.entries)) (entries_at c p bs)
    (rising_one b.caller (filter (stands c p) b.entries)) (rising_entries c p bs rise.1)
    (by_caller b.caller (λ (x : Item). Every (λ (y : Item). x.caller ≤ y.caller) (entries_at c p bs))
    (λ x is. each_at c p (λ (d : Book). b.caller < d.caller) (λ (y : Item). x.caller ≤ y.caller)
    (λ d less. every_all (λ (e : Entry). StandsAt c p e → x.caller ≤ d.caller)
    (λ e s. omega (arith, less, is)) d.entries) bs rise.0)
    (filter (stands c p) b.entries))

rising_own : (t : Turn) (xs : List Item) → Rising xs → Rising (or_running t xs)
unfolding Rising
rising_own t (x ∷ xs) r = r
rising_own t [] r = elim t.call as (λ o. Rising (elim o as (λ _. List Item)
    [ None ↦ [] | Some c ↦ running t.caller c ∷ [] ])) [ None ↦ tt | Some c ↦ (tt, tt) ]

order_placed : (p : ℕ) (c : Class) (items : List Item) → Rising items → InOrder (placed p c items)
unfolding Rising
order_placed p c [] r = tt
order_placed p c (i ∷ items) r = (
  every_mapped (λ (j : Item). i.caller ≤ j.caller) (Before (record { place = p; class = c; item = i }))
      (λ (j : Item). record { place = p; class = c; item = j })
      (λ j h. inr (refl, inr (refl, h))) items r.0,
  order_placed p c items r.1,
)

all_placed : (p : ℕ) (c : Class) (P : Placed → Type 0) → ((i : Item) → P (record { place = p; class = c; item = i })) →
    (items : List Item) → Every P (placed p c items)
all_placed p c P f [] = tt
all_placed p c P f (i ∷ items) = (f i, all_placed p c P f items)

order_three : (p : ℕ) (silent late own : List Item) → Rising silent → Rising late → Rising own → InOrder
    (placed p Silent silent ++ (placed p Late late ++ placed p Own own))
order_three p silent late own r s t =
    order_append (placed p Silent silent) _ (order_placed p Silent silent r)
    (order_append (placed p Late late) (placed p Own own) (order_placed p Late late s) (order_placed p Own own t)
    (all_placed p Late _ (λ i. all_placed p Own _ (λ j. inr (refl, inl (omega arith))) own) late))
    (all_placed p Silent _ (λ i. every_append (Before (record { place = p; class = Silent; item = i }))
    (placed p Late late) (placed p Own own)
    (all_placed p Late _ (λ j. inr (refl, inl (omega arith))) late)
    (all_placed p Own _ (λ j. inr (refl, inl (omega arith))) own)) silent)

three_all : (p : ℕ) (P : Placed → Type 0) → ((c : Class) (i : Item) → P (record { place = p; class = c; item = i })) →
    (silent late own : List Item) → Every P (placed p Silent silent ++ (placed p Late late ++ placed p Own own))
three_all p P f silent late own = every_append P (placed p Silent silent) _ (all_placed p Silent P (f Silent) silent)
    (every_append P (placed p Late late) _ (all_placed p Late P (f Late) late) (all_placed p Own P (f Own) own))

placed_since : (p : ℕ) (ts : List Turn) (books : List Book) → Every (λ (x : Placed). p ≤ x.place)
    (placed_from p ts books)
placed_since p [] books = three_all p (λ (x : Placed). p ≤ x.place) (λ c i. omega arith) (entries_at Silent p books)
    (entries_at Late p books) (entries_at Own p books)
placed_since p (t ∷ ts) books = every_append (λ (x : Placed). p ≤ x.place) _ (placed_from (p + 1) ts books)
    (three_all p (λ (x : Placed). p ≤ x.place) (λ c i. omega arith) (entries_at Silent p books)
    (entries_at Late p books) (or_running t (entries_at Own p books)))
    (every_map (λ (x : Placed). p + 1 ≤ x.place) (λ (x : Placed). p ≤ x.place) (λ x h. omega (arith, h))
    (placed_from (p + 1) ts books) (placed_since (p + 1) ts books))

-- and stand in order
pub placed_in_order : (p : ℕ) (ts : List Turn) (books : List Book) → CallersRise books → InOrder
    (placed_from p ts books)
placed_in_order p [] books rise = order_three p (entries_at Silent p books) (entries_at Late p books)
    (entries_at Own p books) (rising_entries Silent p books rise) (rising_entries Late p books rise)
    (rising_entries Own p books rise)
placed_in_order p (t ∷ ts) books rise =
    order_append _ (placed_from (p + 1) ts books)
    (order_three p (entries_at Silent p books) (entries_at Late p books) (or_running t (entries_at Own p books))
    (rising_entries Silent p books rise) (rising_entries Late p books rise)
    (rising_own t (entries_at Own p books) (rising_entries Own p books rise)))
    (placed_in_order (p + 1) ts books rise)
    (three_all p (λ (x : Placed). Every (Before x) (placed_from (p + 1) ts books))
    (λ c i. every_map (λ (y : Placed). p + 1 ≤ y.place) (Before (record { place = p; class = c; item = i }))
    (λ y h. inl (omega (arith, h))) (placed_from (p + 1) ts books) (placed_since (p + 1) ts books))
    (entries_at Silent p books) (entries_at Late p books) (or_running t (entries_at Own p books)))
