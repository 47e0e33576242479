-- When a caller's book is true of a journal: each entry is right, the entries are framed, and they cover the caller's
-- changes.
use Rattle.std.specs.Prelude.{◌≡◌, ◌≢◌, ℕ, ◌<◌, ◌≤◌, Bool, true, false, ◌⊎◌, List, [], ◌∷◌, ◌++◌, length, take, Some}
use Rattle.std.specs.Prelude.{filter, slice_get}
use Rattle.graph_kinds.specs.Graph.{Graph}
use Rattle.graph_kinds.specs.Answer.{answer, alters, needs_node, after, plain}
use Rattle.graph_kinds.specs.History.{Every, Touches}
use Rattle.graph_kinds.specs.declared.call.Call.{Call}
use Rattle.graph_kinds.specs.declared.call.Call.TheVariants.{AddEdge, RemoveEdge}
use Rattle.graph_kinds.specs.declared.outcome.Outcome.{Outcome}
use Rattle.graph_kinds.specs.declared.outcome.Outcome.TheVariants.{Overtaken, Full, Again}
use Rattle.graph_kinds.specs.declared.entry.Class.{Class}
use Rattle.graph_kinds.specs.declared.entry.Class.TheVariants.{Silent, Late, Own}
use Rattle.graph_kinds.specs.declared.entry.Entry.{Entry}
use Rattle.packed_link.specs.Link.{index_of, nowhere}
use Rattle.packed_link.specs.Layout.{Sizes, free_at}
use Rattle.core_journal.specs.declared.book.Book.{Book}
use Rattle.core_journal.specs.declared.event.Event.{Event}
use Rattle.core_journal.specs.Event.{marks_vertex}
use Rattle.core_journal.specs.Life.{key_of}
use Rattle.core_journal.specs.Machine.{word_at}
use Rattle.core_journal.specs.GraphOf.{graph_of, call_of, edge_of, changes}
use Rattle.core_journal.specs.Foreign.{foreign}
use Rattle.core_journal.specs.History.{stands}

-- the graph at a place: after that many events
abbrev pub graph_at : List Event → ℕ → Graph
graph_at journal p = graph_of (take p journal)

-- whether a class is that of silent entries
abbrev pub is_silent : Class → Bool
is_silent Silent = true
is_silent _ = false

-- an entry's place lies within its call, which begins at a number or later, in a journal of n events;
-- a late or own entry stands at an event of its call
pub record InFrame (n least : ℕ) (e : Entry) : Type 0 where
  pub apart : least ≤ e.start
  pub since : e.start ≤ e.place
  pub until : e.place ≤ e.end
  pub within : e.end ≤ n
  pub before : is_silent e.class ≡ false → e.place < e.end

-- entries that are framed behind a number, in a journal of n events
abbrev pub FramedFrom : ℕ → ℕ → List Entry → Type 0
FramedFrom n least [] = Unit {0}
FramedFrom n least (e ∷ es) = InFrame n least e × FramedFrom n e.end es

-- each entry's place lies within its call, and no call begins before the end of the one before it
pub record IsFramed (journal : List Event) (book : Book) : Type 0 where
  pub order : FramedFrom (length journal) 0 book.entries

-- the entry answers what the graph gives, and changes nothing
pub record IsAnswer (x : Graph) (e : Entry) : Type 0 where
  pub reply : e.answer ≡ answer x e.call
  pub stays : alters x e.call ≡ false

-- no node is free after a journal: the word of the free list names none
pub record NoneFree (sizes : Sizes) (journal : List Event) : Type 0 where
  pub empty : index_of (word_at sizes journal (free_at sizes)) ≡ nowhere

-- the call would add at its place, and at a number in the call no node was free
pub record IsFull (sizes : Sizes) (journal : List Event) (e : Entry) : Type 0 where
  pub reply : e.answer ≡ plain Full
  pub needs : needs_node (graph_at journal e.place) e.call ≡ true
  pub number : ℕ
  pub since : e.start ≤ number
  pub until : number ≤ e.end
  pub none : NoneFree sizes (take number journal)

-- in the call at least as many foreign events fell as it had tries; its place is its end
pub record IsAgain (journal : List Event) (caller : ℕ) (e : Entry) : Type 0 where
  pub reply : e.answer ≡ plain Again
  pub place : e.place ≡ e.end
  pub lost : e.tries ≤ foreign journal caller e.start e.end

-- a silent entry is right, by its outcome
abbrev pub RightSilent : Outcome → Sizes → List Event → ℕ → Entry → Type 0
RightSilent Full sizes journal caller e = IsFull sizes journal e
RightSilent Again sizes journal caller e = IsAgain journal caller e
RightSilent _ sizes journal caller e = IsAnswer (graph_at journal e.place) e

-- the event at the entry's place is its caller's, changes the graph, and takes it to the graph after the entry's call
pub record IsOwn (journal : List Event) (caller : ℕ) (e : Entry) (event : Event) : Type 0 where
  pub at : slice_get journal e.place ≡ Some event
  pub by : event.caller ≡ caller
  pub changing : changes (take e.place journal) event ≡ true
  pub leads : graph_of (take e.place journal ++ event ∷ []) ≡ after (graph_at journal e.place) e.call

-- the call adds or removes an edge
abbrev pub IsEdgeCall : Call → Type 0
IsEdgeCall (AddEdge a b w) = Unit {0}
IsEdgeCall (RemoveEdge a b) = Unit {0}
IsEdgeCall _ = ⊥

-- after the entry's own event and before its call's end, another caller marks the source or target life of that event's
-- edge
pub record IsMarkedAfter (journal : List Event) (caller : ℕ) (e : Entry) (event : Event) : Type 0 where
  pub reply : e.answer ≡ plain Overtaken
  pub pair : IsEdgeCall e.call
  pub link : Event
  pub edge : edge_of (take e.place journal) event ≡ Some link
  pub number : ℕ
  pub since : e.place < number
  pub until : number < e.end
  pub mark : Event
  pub at : slice_get journal number ≡ Some mark
  pub other : mark.caller ≢ caller
  pub marks : marks_vertex mark.kind ≡ true
  pub life : (mark.life ≡ link.source) ⊎ (mark.life ≡ link.target)

-- what an own entry answers, by its outcome
abbrev pub OwnReply : Outcome → List Event → ℕ → Entry → Event → Type 0
OwnReply Overtaken journal caller e event = IsMarkedAfter journal caller e event
OwnReply _ journal caller e event = e.answer ≡ answer (graph_at journal e.place) e.call

-- an own entry is right: its event carries out its call, and its answer is the graph's, or it was overtaken
pub record RightOwn (journal : List Event) (caller : ℕ) (e : Entry) : Type 0 where
  pub event : Event
  pub own : IsOwn journal caller e event
  pub reply : OwnReply e.answer.outcome journal caller e event

-- a late entry is right: another caller's event at its place removes a vertex with one of the call's two keys, and
-- within the call its caller made the event of that call on an edge of the two keys
pub record RightLate (journal : List Event) (caller : ℕ) (e : Entry) : Type 0 where
  pub reply : e.answer ≡ plain Overtaken
  pub pair : IsEdgeCall e.call
  pub mark : Event
  pub at : slice_get journal e.place ≡ Some mark
  pub other : mark.caller ≢ caller
  pub marks : marks_vertex mark.kind ≡ true
  pub key : ℕ
  pub key_is : key_of (take e.place journal) mark.life ≡ Some key
  pub touched : Touches e.call key
  pub number : ℕ
  pub since : e.start ≤ number
  pub until : number < e.end
  pub made : Event
  pub made_at : slice_get journal number ≡ Some made
  pub made_by : made.caller ≡ caller
  pub made_call : call_of (take number journal) made ≡ Some e.call

-- an entry is right as one of a class
abbrev pub RightAs : Class → Sizes → List Event → ℕ → Entry → Type 0
RightAs Silent sizes journal caller e = RightSilent e.answer.outcome sizes journal caller e
RightAs Late sizes journal caller e = RightLate journal caller e
RightAs Own sizes journal caller e = RightOwn journal caller e

-- an entry of a caller is right in a journal, by its class
abbrev pub Right : Sizes → List Event → ℕ → Entry → Type 0
Right sizes journal caller e = RightAs e.class sizes journal caller e

-- an entry of this class at this place
pub record StandsAt (c : Class) (p : ℕ) (e : Entry) : Type 0 where
  pub class : e.class ≡ c
  pub place : e.place ≡ p

-- a book is true of a journal: its entries are right and framed, and each event of its caller that changes the graph
-- is that of exactly one own entry
pub record IsBookOf (sizes : Sizes) (journal : List Event) (book : Book) : Type 0 where
  pub right : Every (λ (e : Entry). Right sizes journal book.caller e) book.entries
  pub framed : IsFramed journal book
  pub covers : (p : ℕ) (e : Event) → slice_get journal p ≡ Some e → e.caller ≡ book.caller
      → changes (take p journal) e ≡ true → length (filter (stands Own p) book.entries) ≡ 1

-- no two books are one caller's
abbrev pub CallersApart : List Book → Type 0
CallersApart [] = Unit {0}
CallersApart (b ∷ bs) = Every (λ (c : Book). c.caller ≢ b.caller) bs × CallersApart bs
