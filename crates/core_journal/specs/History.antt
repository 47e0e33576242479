-- The history of a journal and its callers' books: the calls of the books in the order of their places.
use Rattle.std.specs.Prelude.{◌≡◌, ℕ, ◌+◌, Bool, true, false, cond, ◌&&◌, ◌==◌, ◌⊎◌, List, [], ◌∷◌, ◌++◌, Option, Some}
use Rattle.std.specs.Prelude.{None, filter, map, flat_map, slice_get, take, is_some}
use Rattle.graph_kinds.specs.History.{Item}
use Rattle.graph_kinds.specs.declared.call.Call.{Call}
use Rattle.graph_kinds.specs.declared.entry.Class.{Class}
use Rattle.graph_kinds.specs.declared.entry.Class.TheVariants.{Silent, Late, Own}
use Rattle.graph_kinds.specs.declared.entry.Entry.{Entry}
use Rattle.core_journal.specs.declared.book.Book.{Book}
use Rattle.core_journal.specs.declared.event.Event.{Event}
use Rattle.core_journal.specs.GraphOf.{changes, call_of}

-- what an event is to the graph: its caller and, where it changes the graph, the call that it carries out
pub record Turn : Type 0 where
  pub caller : ℕ
  pub call : Option Call

-- the turn of an event behind others
abbrev pub turn : List Event → Event → Turn
turn past e = record { caller = e.caller; call = cond (changes past e) (call_of past e) None }

-- the turns of events behind others
abbrev pub turns_from : List Event → List Event → List Turn
turns_from past [] = []
turns_from past (e ∷ es) = turn past e ∷ turns_from (past ++ e ∷ []) es

-- the turns of a journal, one for each event
unfoldable pub turns : List Event → List Turn
turns journal = turns_from [] journal

-- whether two classes are one
abbrev pub same_class : Class → Class → Bool
same_class Silent Silent = true
same_class Late Late = true
same_class Own Own = true
same_class _ _ = false

-- an entry of a class at a place
abbrev pub stands : Class → ℕ → Entry → Bool
stands c p e = same_class c e.class && (p == e.place)

-- the item of an entry
abbrev pub item : ℕ → Entry → Item
item caller e = record { caller = caller; call = e.call; reply = Some e.answer }

-- the item of an event whose call isn't answered yet
abbrev pub running : ℕ → Call → Item
running caller call = record { caller = caller; call = call; reply = None }

-- the entries of one class at one place, caller after caller, and each caller's in the order of its book
abbrev pub entries_at : Class → ℕ → List Book → List Item
entries_at c p books = flat_map (λ (b : Book). map (item b.caller) (filter (stands c p) b.entries)) books

-- an event that changes the graph and is no own entry's event is an item without answer
abbrev pub or_running : Turn → List Item → List Item
or_running t (i ∷ items) = i ∷ items
or_running t [] = elim t.call as (λ _. List Item) [ None ↦ [] | Some c ↦ running t.caller c ∷ [] ]

-- all items at the place of an event: what was silent before it, what it overtook, and its own
abbrev pub items_at : ℕ → Turn → List Book → List Item
items_at p t books = entries_at Silent p books ++ (entries_at Late p books ++ or_running t (entries_at Own p books))

-- the items place after place, and then those behind the last event
abbrev pub history_from : ℕ → List Turn → List Book → List Item
history_from p [] books = entries_at Silent p books ++ (entries_at Late p books ++ entries_at Own p books)
history_from p (t ∷ ts) books = items_at p t books ++ history_from (p + 1) ts books

-- the history of turns and books
unfoldable pub history_of : List Turn → List Book → List Item
history_of turns books = history_from 0 turns books

-- the history of a journal and its books
abbrev pub history : List Event → List Book → List Item
history journal books = history_of (turns journal) books

-- one of the books is this caller's
abbrev pub HasBook : ℕ → List Book → Type 0
HasBook caller [] = ⊥
HasBook caller (b ∷ bs) = (b.caller ≡ caller) ⊎ HasBook caller bs

-- each event that changes the graph is of a caller with a book
pub record IsClosed (journal : List Event) (books : List Book) : Type 0 where
  pub has : (p : ℕ) (e : Event) → slice_get journal p ≡ Some e → changes (take p journal) e ≡ true
      → HasBook e.caller books

-- the item is a call that was answered
abbrev pub IsAnswered : Item → Type 0
IsAnswered i = is_some i.reply ≡ true
