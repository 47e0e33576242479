-- What each step on the one table tells its token.
use Rattle.std.specs.Prelude.{◌≡◌, ℕ, ◌+◌, ◌≤◌, Bool, true, false, cond, List, [], ◌∷◌, ◌++◌, length}
use Rattle.atomic_table.specs.Table.{Me, Step}
use Rattle.graph_kinds.specs.History.{Every}
use Rattle.graph_kinds.specs.declared.entry.Entry.{Entry}
use Rattle.packed_link.specs.Layout.{number_at}
use Rattle.graph_kinds.specs.declared.outcome.Outcome.{Outcome}
use Rattle.graph_kinds.specs.declared.outcome.Outcome.TheVariants.{Again}
use Rattle.core_journal.specs.declared.event.Kind.TheVariants.{DrawNumber}
use Rattle.core_journal.specs.declared.event.Event.{Event}
use Rattle.core_journal.specs.Event.{blank}
use Rattle.core_journal.specs.Prefix.{IsPrefix}
use Rattle.core_journal.specs.Machine.{word_at}
use Rattle.core_kept.specs.Kept.{IsKept, IsQuiet}
use Rattle.core_rule.specs.Rule.{own_account}
use Rattle.core_rule.specs.declared.view.View.{View}

-- a token's view at its seat, and the slots that it has taken
abbrev pub AtSeat : Type 0
AtSeat = Me (Unit {0}) View

-- what holds of a token's view at any time: its front is a kept journal, its own events end at its last, and those of
-- each number that was joined to it at the length that stands beside the number
pub record IsSound (v : View) : Type 0 where
  pub kept : IsKept v.sizes v.front
  pub quiet : v.numbered ≡ true → IsQuiet v.front v.number v.last
  pub old : v.numbered ≡ true → v.last ≤ length v.front
  pub others : Every (λ (a : ℕ × ℕ). IsQuiet v.front a.0 a.1) v.others

-- the view that has seen more of the journal
abbrev pub seen : View → List Event → View
seen v front = record v { front = front }

-- the view whose own event is the last of its front
abbrev pub stepped : View → List Event → View
stepped v front = record v { front = front; last = length front }

-- the view that drew a number
abbrev pub numbered : View → List Event → ℕ → View
numbered v front number =
    record v { front = front; last = length front; numbered = true; number = number; drawn = v.drawn + 1 }

-- where an entry stands that ends at a length: a call that is answered Again stands at its end
abbrev pub place_by : Outcome → ℕ → ℕ → ℕ
place_by Again place end = end
place_by _ place end = place

-- an entry that ends at a length
abbrev pub ended : Entry → ℕ → Entry
ended entry end = record entry { place = place_by entry.answer.outcome entry.place end; end = end }

-- the view whose book has one more entry, which ends at its front's length
abbrev pub replied : View → List Event → Entry → View
replied v front entry = record v { front = front; book = v.book ++ ended entry (length front) ∷ [] }

-- a load: the token has seen the journal up to then, and the word is as the journal says. Where it's the word of
-- numbers, a token with the right to draw has its count there
pub record Looked (v : View) (place found : ℕ) (w : View) : Type 0 where
  pub grows : IsPrefix v.front w.front
  pub word : found ≡ word_at v.sizes w.front place
  pub count : v.draws ≡ true → place ≡ number_at v.sizes → found ≡ v.drawn
  pub sound : IsSound w
  pub view : w ≡ seen v w.front

-- a won step: its event is the last of the new front, and the token made no event between its last and this one
pub record Won (v : View) (place found : ℕ) (e : Event) (w : View) : Type 0 where
  pub grown : List Event
  pub grows : IsPrefix v.front grown
  pub word : found ≡ word_at v.sizes grown place
  pub front : w.front ≡ grown ++ e ∷ []
  pub quiet : IsQuiet grown v.number v.last
  pub sound : IsSound w
  pub view : w ≡ stepped v w.front

-- a store: the same, and it finds nothing
pub record Stored (v : View) (e : Event) (w : View) : Type 0 where
  pub grown : List Event
  pub grows : IsPrefix v.front grown
  pub front : w.front ≡ grown ++ e ∷ []
  pub quiet : IsQuiet grown v.number v.last
  pub sound : IsSound w
  pub view : w ≡ stepped v w.front

-- the event of a caller that draws its number
abbrev pub draw_event : ℕ → Event
draw_event found = record blank { caller = found; kind = DrawNumber; place = 1; word = found + 1 }

-- a number was drawn: the number of numbers drawn before
pub record Drew (v : View) (found : ℕ) (w : View) : Type 0 where
  pub next : found ≡ v.drawn
  pub grown : List Event
  pub grows : IsPrefix v.front grown
  pub front : w.front ≡ grown ++ draw_event found ∷ []
  pub sound : IsSound w
  pub view : w ≡ numbered v w.front found

-- a load that adds an entry to the book
pub record Replied (v : View) (entry : Entry) (w : View) : Type 0 where
  pub grows : IsPrefix v.front w.front
  pub sound : IsSound w
  pub view : w ≡ replied v w.front entry

-- a load after a join: both fronts begin the new one
pub record Met (v w : View) : Type 0 where
  pub grows : IsPrefix v.front w.front
  pub met : IsPrefix v.met w.front
  pub sound : IsSound w
  pub view : w ≡ record v { front = w.front; met = [] }

-- what a load tells the token; the slots that it has taken stay
abbrev pub looking : Step (Unit {0}) → AtSeat → ℕ → AtSeat → Type 0
looking step m found n = Looked m.0 step.word found n.0 × (n.1 ≡ m.1)

-- a step wins where the word that it finds passes a test, and makes an event of that word; else it's a load
abbrev pub turning : (ℕ → Bool) → (ℕ → Event) → Step (Unit {0}) → AtSeat → ℕ → AtSeat → Type 0
turning wins event step m found n =
    (wins found ≡ true → Won m.0 step.word found (event found) n.0)
    × (wins found ≡ false → Looked m.0 step.word found n.0) × (n.1 ≡ m.1)

-- what a store tells it: its event is the last of its front
abbrev pub storing : (ℕ → Event) → Step (Unit {0}) → AtSeat → ℕ → AtSeat → Type 0
storing event step m found n = Stored m.0 (event step.first) n.0 × (n.1 ≡ m.1)

-- what the draw of a number tells it: the number is the next one, and it's the token's own from then on
abbrev pub drawing : Step (Unit {0}) → AtSeat → ℕ → AtSeat → Type 0
drawing step m found n = Drew m.0 found n.0 × (n.1 ≡ m.1)

-- what a load tells it that ends a call: its book has one more entry
abbrev pub replying : Entry → Step (Unit {0}) → AtSeat → ℕ → AtSeat → Type 0
replying entry step m found n = Replied m.0 entry n.0 × (n.1 ≡ m.1)

-- what a load tells it after a join: the other token's front begins its own
abbrev pub meeting : Step (Unit {0}) → AtSeat → ℕ → AtSeat → Type 0
meeting step m found n = Met m.0 n.0 × (n.1 ≡ m.1)

-- the view of a new token: the same front, an empty book and no number, and the right to draw where the other had it
abbrev pub newcomer : View → View
newcomer v =
    record {
      sizes = v.sizes;
      front = v.front;
      met = [];
      book = [];
      numbered = false;
      number = 0;
      last = 0;
      others = [];
      draws = v.draws;
      drawn = v.drawn;
    }

-- the view of the token that it was split from
abbrev pub stays : View → View
stays v = record v { draws = false }

-- a view to which another is joined: it answers for the other's numbers, has the right to draw of either, and holds
-- the other's front until it looks again
abbrev pub both_fronts : View → View → View
both_fronts v w =
    record v {
      met = w.front;
      others = v.others ++ (own_account w ++ w.others);
      draws = cond w.draws true v.draws;
      drawn = cond w.draws w.drawn v.drawn;
    }
