-- What a step owes, so that it keeps the rule of the one table: where it wins, its event is allowed.
use Rattle.std.specs.Prelude.{◌≡◌, ℕ, ◌≤◌, Bool, true, false, List, length}
use Rattle.core_journal.specs.Event.{draws}
use Rattle.core_journal.specs.declared.event.Event.{Event}
use Rattle.core_journal.specs.Prefix.{IsPrefix}
use Rattle.core_journal.specs.Machine.{word_at}
use Rattle.core_kept.specs.Kept.{AllowedAs, IsKept, IsQuiet}
use Rattle.core_rule.specs.declared.view.View.{View}

-- a journal that a token with a number may meet at its next step: it's kept, it goes on from the token's front, and no
-- event of the token stands behind the token's last
pub record Reaches (v : View) (journal : List Event) : Type 0 where
  pub kept : IsKept v.sizes journal
  pub front : IsPrefix v.front journal
  pub quiet : IsQuiet journal v.number v.last
  pub old : v.last ≤ length v.front

-- a step changes the word at a place from x to f x, and makes an event of the word that it finds where that word passes
-- a test: in each journal that it may meet this event is allowed and writes the word, and where the step loses, the
-- word stays
pub record Owes (v : View) (place : ℕ) (f : ℕ → ℕ) (wins : ℕ → Bool) (event : ℕ → Event) : Type 0 where
  pub by : (x : ℕ) → (event x).caller ≡ v.number
  pub at : (x : ℕ) → (event x).place ≡ place
  pub no_draw : (x : ℕ) → draws (event x).kind ≡ false
  pub lose : (x : ℕ) → wins x ≡ false → f x ≡ x
  pub writes : (journal : List Event) → Reaches v journal → wins (word_at v.sizes journal place) ≡ true
      → (event (word_at v.sizes journal place)).word ≡ f (word_at v.sizes journal place)
  pub allowed : (journal : List Event) → Reaches v journal → wins (word_at v.sizes journal place) ≡ true
      → AllowedAs (event (word_at v.sizes journal place)).kind v.sizes journal (event (word_at v.sizes journal place))

-- the same of a store, which always wins
pub record OwesStore (v : View) (place word : ℕ) (event : Event) : Type 0 where
  pub by : event.caller ≡ v.number
  pub at : event.place ≡ place
  pub no_draw : draws event.kind ≡ false
  pub writes : event.word ≡ word
  pub allowed : (journal : List Event) → Reaches v journal → AllowedAs event.kind v.sizes journal event
