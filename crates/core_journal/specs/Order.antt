-- The order of a history: by place, then silent before late before own, then by caller.
use Rattle.std.specs.Prelude.{◌≡◌, ℕ, ◌+◌, ◌<◌, ◌≤◌, ◌⊎◌, List, [], ◌∷◌, ◌++◌, map, Some, slice_get}
use Rattle.graph_kinds.specs.History.{Item, Every}
use Rattle.graph_kinds.specs.declared.call.Call.{Call}
use Rattle.graph_kinds.specs.declared.entry.Class.{Class}
use Rattle.graph_kinds.specs.declared.entry.Class.TheVariants.{Silent, Late, Own}
use Rattle.graph_kinds.specs.declared.entry.Entry.{Entry}
use Rattle.core_journal.specs.declared.book.Book.{Book}
use Rattle.core_journal.specs.History.{Turn, item, running, entries_at, or_running}

-- an item with its place and class; an item without answer is own, at its event's place
pub record Placed : Type 0 where
  pub place : ℕ
  pub class : Class
  pub item : Item

-- items with one place and class
abbrev pub placed : ℕ → Class → List Item → List Placed
placed p c items = map (λ (i : Item). record { place = p; class = c; item = i }) items

-- the items of one place: silent, late and own
abbrev pub placed_at : ℕ → List Item → List Item → List Item → List Placed
placed_at p silent late own = placed p Silent silent ++ (placed p Late late ++ placed p Own own)

-- the items of a history with their places and classes
abbrev pub placed_from : ℕ → List Turn → List Book → List Placed
placed_from p [] books = placed_at p (entries_at Silent p books) (entries_at Late p books) (entries_at Own p books)
placed_from p (t ∷ ts) books =
    placed_at p (entries_at Silent p books) (entries_at Late p books) (or_running t (entries_at Own p books))
    ++ placed_from (p + 1) ts books

-- the order of the classes at one place: silent comes before late, and late before own
abbrev pub rank : Class → ℕ
rank Silent = 0
rank Late = 1
rank Own = 2

-- at one place, an item stands before another: in an earlier class, or in the same one by no greater caller
abbrev pub BeforeThere : Placed → Placed → Type 0
BeforeThere x y = (rank x.class < rank y.class) ⊎ ((rank x.class ≡ rank y.class) × (x.item.caller ≤ y.item.caller))

-- one item stands before another: at an earlier place, or before it at the same one
abbrev pub Before : Placed → Placed → Type 0
Before x y = (x.place < y.place) ⊎ ((x.place ≡ y.place) × BeforeThere x y)

-- each item stands before all later ones
abbrev pub InOrder : List Placed → Type 0
InOrder [] = Unit {0}
InOrder (x ∷ xs) = Every (Before x) xs × InOrder xs

-- the books stand by rising caller
abbrev pub CallersRise : List Book → Type 0
CallersRise [] = Unit {0}
CallersRise (b ∷ bs) = Every (λ (c : Book). b.caller < c.caller) bs × CallersRise bs

-- the item of an entry of one of the books, at the entry's place and in its class
pub record IsEntryOf (books : List Book) (x : Placed) : Type 0 where
  pub number : ℕ
  pub book : Book
  pub book_at : slice_get books number ≡ Some book
  pub row : ℕ
  pub entry : Entry
  pub entry_at : slice_get book.entries row ≡ Some entry
  pub item : x.item ≡ item book.caller entry
  pub place : x.place ≡ entry.place
  pub class : x.class ≡ entry.class

-- the item of an event that changes the graph, where no own entry of the books stands
pub record IsRunningOf (turns : List Turn) (books : List Book) (x : Placed) : Type 0 where
  pub turn : Turn
  pub at : slice_get turns x.place ≡ Some turn
  pub call : Call
  pub carries : turn.call ≡ Some call
  pub item : x.item ≡ running turn.caller call
  pub class : x.class ≡ Own
  pub alone : entries_at Own x.place books ≡ []

-- a placed item is that of an entry, or of an event that changes the graph and has no own entry
abbrev pub IsPlacedAt : List Turn → List Book → Placed → Type 0
IsPlacedAt turns books x = IsEntryOf books x ⊎ IsRunningOf turns books x
