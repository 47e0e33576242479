-- The contract of the table for the layers above: what each step tells its token, in the words of specs/Tokens.antt.
-- What a step owes is one condition a kind, over the token's view (core_rule's specs/Fronts.antt), and the event that
-- it then makes stands in core_rule's specs/OwnEvents.antt.
use Rattle.std.specs.Prelude.{◌≡◌, ◌≢◌, ℕ, ◌+◌, ◌-◌, ◌/◌, ◌==◌, ◌&&◌, Bool, true, false, cond, List, [], ◌∷◌}
use Rattle.std.specs.Prelude.{length, ltb, min}
use Rattle.graph_kinds.specs.Answer.{plain}
use Rattle.graph_kinds.specs.History.{Every}
use Rattle.graph_kinds.specs.declared.call.Call.{Call}
use Rattle.graph_kinds.specs.declared.answer.Answer.{Answer}
use Rattle.graph_kinds.specs.declared.entry.Class.{Class}
use Rattle.graph_kinds.specs.declared.entry.Class.TheVariants.{Late, Own}
use Rattle.graph_kinds.specs.declared.entry.Entry.{Entry}
use Rattle.graph_kinds.specs.declared.outcome.Outcome.TheVariants.{Overtaken}
use Rattle.packed_link.specs.Link.{mark_of, index_of, tag_of}
use Rattle.packed_link.specs.Layout.{Sizes, key_at, second_at, third_at}
use Rattle.packed_link.specs.declared.link.Life.{Life}
use Rattle.core_journal.specs.Machine.{word_at}
use Rattle.core_journal.specs.declared.event.Event.{Event}
use Rattle.core_journal.specs.Event.{cut_life, cuts_edge, marks_vertex, same_life}
use Rattle.core_kept.specs.Kept.{IsQuiet}
use Rattle.core_kept.specs.Nodes.{node_in}
use Rattle.core_lists.specs.Chains.{life_in}
use Rattle.core_rule.specs.Plays.{Looked, Won}
use Rattle.core_rule.specs.Rule.{accounts}
use Rattle.core_rule.specs.declared.view.View.{View}
use Rattle.graph_table.specs.Tokens.{RipeValue}
use Rattle.graph_table.specs.declared.answers.Tried.{Tried}
use Rattle.graph_table.specs.declared.answers.Tried.TheVariants.{Won as TriedWon, Lost as TriedLost}
use Rattle.graph_table.specs.declared.answers.LinkTried.{LinkTried}
use Rattle.graph_table.specs.declared.answers.LinkTried.TheVariants.{Won as LinkWon, Lost as LinkLost}
use Rattle.graph_table.specs.declared.answers.Popped.{Popped}
use Rattle.graph_table.specs.declared.answers.Popped.TheVariants.{Won as PoppedWon, Lost as PoppedLost}
use Rattle.graph_table.specs.declared.answers.UnlinkTried.{UnlinkTried}
use Rattle.graph_table.specs.declared.answers.UnlinkTried.TheVariants.{Won as UnlinkWon, Lost as UnlinkLost}
use Rattle.graph_table.specs.declared.answers.PushTried.{PushTried}
use Rattle.graph_table.specs.declared.answers.PushTried.TheVariants.{Won as PushWon, Lost as PushLost}
use Rattle.graph_table.specs.declared.answers.Field.{Field}
use Rattle.graph_table.specs.declared.answers.Field.TheVariants.{Key, Link, Second, Third}

-- an exchange that lost: a load, which found another word than the one expected
pub record Missed (v : View) (place seen found : ℕ) (w : View) : Type 0 where
  pub looked : Looked v place found w
  pub other : found ≢ seen

-- what an exchange came to: it found the word expected and made its event, or it found another one
abbrev pub MatchTried : Tried → (v : View) (place seen : ℕ) (e : Event) (w : View) → Type 0
MatchTried TriedWon v place seen e w = Won v place seen e w
MatchTried (TriedLost found) v place seen e w = Missed v place seen found w

-- what linking came to: the fresh node's life is linked by the last event of the front, or the node is handed back
abbrev pub MatchLink : LinkTried → (v : View) (place seen : ℕ) (x : Life) (e : Event) (w : View) → Type 0
MatchLink (LinkWon life) v place seen x e w = (life ≡ x) × Won v place seen e w
MatchLink (LinkLost fresh found) v place seen x e w = (fresh ≡ x) × Missed v place seen found w

-- what taking a node came to: it's taken for the life of the event
abbrev pub MatchPopped : Popped → (v : View) (place seen : ℕ) (e : Event) (w : View) → Type 0
MatchPopped (PoppedWon fresh) v place seen e w = (fresh ≡ e.life) × Won v place seen e w
MatchPopped (PoppedLost found) v place seen e w = Missed v place seen found w

-- what unlinking came to: the node's life is spent by the last event of the front
abbrev pub MatchUnlink : UnlinkTried → (v : View) (place seen : ℕ) (x : Life) (e : Event) (w : View) → Type 0
MatchUnlink (UnlinkWon spent) v place seen x e w = (spent ≡ x) × Won v place seen e w
MatchUnlink (UnlinkLost found) v place seen x e w = Missed v place seen found w

-- what giving back came to: the node is given back by the last event of the front, or handed back
abbrev pub MatchPush : PushTried → (v : View) (place seen : ℕ) (x : RipeValue) (e : Event) (w : View) → Type 0
MatchPush PushWon v place seen x e w = Won v place seen e w
MatchPush (PushLost ripe found) v place seen x e w = (ripe ≡ x) × Missed v place seen found w

-- what setting a mark came to: it's an event where the word that was found is unmarked, else a load
pub record MatchMark (v : View) (place found : ℕ) (e : Event) (w : View) : Type 0 where
  pub won : mark_of found ≡ 0 → Won v place found e w
  pub was : mark_of found ≡ 1 → Looked v place found w

-- a step at a word: it made the event of the word that it found where that word passed the test, and else it's a load
pub record Turned (wins : ℕ → Bool) (event : ℕ → Event) (v : View) (place found : ℕ) (w : View) : Type 0 where
  pub won : wins found ≡ true → Won v place found (event found) w
  pub lost : wins found ≡ false → Looked v place found w

-- the target that the second word of a node names
abbrev pub target_in : View → ℕ → Life
target_in v x =
    record {
      index = index_of (word_at v.sizes v.front (second_at v.sizes x));
      tag = tag_of (word_at v.sizes v.front (second_at v.sizes x));
    }

-- the weight in the third word of a node
abbrev pub weight_in : View → ℕ → ℕ
weight_in v x = word_at v.sizes v.front (third_at v.sizes x)

-- the source of an edge
abbrev pub source_in : View → ℕ → Life
source_in v x = (node_in v.sizes v.front x).source

-- the node one of whose words stands at a place
abbrev pub node_at : Sizes → ℕ → ℕ
node_at sizes place = (place - key_at sizes 0) / 4

-- the vertex whose list goes on at a word: of a second word its node, and of a link the source of its node
abbrev pub list_at : View → ℕ → Life
list_at v place =
    cond (place == second_at v.sizes (node_at v.sizes place)) (life_in v.sizes v.front (node_at v.sizes place))
    (source_in v (node_at v.sizes place))

-- the place of an entry that is told of a front: at its last event where that is the entry's own, and else at its end
abbrev pub place_in : Class → List Event → ℕ
place_in Own front = length front - 1
place_in _ front = length front

-- how many events of a journal there are before the first mark of a vertex life; all, if no event marks it
abbrev pub before_mark : Life → List Event → ℕ
before_mark x [] = 0
before_mark x (e ∷ es) = cond (marks_vertex e.kind && same_life x e.life) 0 (1 + before_mark x es)

-- how many events of a journal there are before the first mark of an edge life, by its removal, its replacement or the
-- freezing of its list; all, if no event marks it
abbrev pub before_edge_mark : Life → List Event → ℕ
before_edge_mark x [] = 0
before_edge_mark x (e ∷ es) = cond (cuts_edge e.kind && same_life x (cut_life e)) 0 (1 + before_edge_mark x es)

-- an entry before it ends
abbrev pub entry_of : Call → ℕ → Answer → Class → ℕ → ℕ → Entry
entry_of call tries answer class start place =
    record { call = call; tries = tries; answer = answer; class = class; place = place; start = start; end = 0 }

-- how many events of a journal there are before the first that marks one of two vertex lives; all, if none does
abbrev pub before_either_mark : Life → Life → List Event → ℕ
before_either_mark x y journal = min (before_mark x journal) (before_mark y journal)

-- an entry that is answered Overtaken, by a call that made its exchange on an edge between two vertex lives as the last
-- event of a moment: an own one at the exchange where neither was marked before it, and else a late one at the first
-- mark of either
abbrev pub overtaken_entry : Call → (tries start : ℕ) → (moment : List Event) → (source target : Life) → List Event
    → Entry
overtaken_entry call tries start moment source target front =
    entry_of call tries (plain Overtaken)
    (cond (ltb (before_either_mark source target front) (place_in Own moment)) Late Own) start
    (min (before_either_mark source target front) (place_in Own moment))

-- the number of the field of a node
abbrev pub field_of : Field → ℕ
field_of Key = 0
field_of Link = 1
field_of Second = 2
field_of Third = 3

-- no event of a number that the token accounts for stands in its front at or after the length beside the number
pub record IsWhole (v : View) : Type 0 where
  pub quiet : Every (λ (a : ℕ × ℕ). IsQuiet v.front a.0 a.1) (accounts v)
