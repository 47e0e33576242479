-- What a token made from one of its views to a later one: the list of all its own events on the way. The calls of the
-- layers above say by this one relation all that they did; what a call keeps, and how often it did what, follows from
-- the list.
use Rattle.std.specs.Prelude.{◌≡◌, ◌≢◌, ℕ, ◌+◌, ◌==◌, ◌⊎◌, Bool, true, cond, List, [], ◌∷◌, None, Some}
use Rattle.packed_link.specs.Link.{mark_of}
use Rattle.core_journal.specs.declared.event.Kind.{Kind}
use Rattle.core_journal.specs.declared.event.Kind.TheVariants.{Announce, Withdraw, FreezeEdge}
use Rattle.core_journal.specs.declared.event.Event.{Event}
use Rattle.core_journal.specs.Changes.{is_idle}
use Rattle.core_journal.specs.Prefix.{IsPrefix}
use Rattle.core_kept.specs.Kept.{IsKept}
use Rattle.core_rule.specs.Views.{Steps}
use Rattle.core_rule.specs.declared.view.View.{View}

-- the token's own events, one step after another; between them, and behind the last, others make events
abbrev pub StepsBy : View → List Event → View → Type 0
StepsBy v [] w = Steps v None w
StepsBy v (e ∷ es) w = (m : View) × (e.caller ≡ v.number) × Steps v (Some e) m × StepsBy m es w

-- from a view to a later one the token made these events, in this order, and no others
pub record Makes (v : View) (own : List Event) (w : View) : Type 0 where
  pub steps : StepsBy v own w

-- how many of these events are of some kinds
abbrev pub of_kinds : (Kind → Bool) → List Event → ℕ
of_kinds test [] = 0
of_kinds test (e ∷ es) = cond (test e.kind) 1 0 + of_kinds test es

-- what setting a mark makes: the event of the word that is found, where that has no mark
abbrev pub marking : (ℕ → Event) → ℕ → List Event
marking event found = cond (mark_of found == 0) (event found ∷ []) []

-- the event opens no pass and closes none
abbrev pub StaysInPass : Event → Type 0
StaysInPass e = (e.kind ≢ Announce) × (e.kind ≢ Withdraw)

-- the event leaves the graph as it is by its kind
abbrev pub IsGraphless : Event → Type 0
IsGraphless e = (is_idle e.kind ≡ true) ⊎ (e.kind ≡ FreezeEdge)

-- the later view is of the same table and caller, has a number where the other has one, and has seen more
pub record IsLater (v w : View) : Type 0 where
  pub sizes : w.sizes ≡ v.sizes
  pub number : w.number ≡ v.number
  pub numbered : w.numbered ≡ v.numbered
  pub kept : IsKept w.sizes w.front
  pub grows : IsPrefix v.front w.front
