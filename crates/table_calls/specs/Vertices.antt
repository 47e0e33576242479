-- What the calls on vertices tell, and why they answer none.
use Rattle.std.specs.Prelude.{◌≡◌, ◌≢◌, ℕ, ◌%◌, ◌≤◌, ◌⊎◌, true}
use Rattle.packed_link.specs.Link.{index_of, mark_of, nowhere}
use Rattle.packed_link.specs.Layout.{bucket_at, link_at}
use Rattle.packed_link.specs.declared.link.Life.{Life}
use Rattle.core_journal.specs.Machine.{word_at}
use Rattle.core_rule.specs.Fronts.{MetVertex, key_in}
use Rattle.core_rule.specs.OwnEvents.{mark_vertex_event}
use Rattle.core_rule.specs.declared.view.View.{View}
use Rattle.core_stretches.specs.Holdings.{IsUnlinkedVertex}
use Rattle.graph_table.specs.Table.{MatchMark}
use Rattle.graph_table.specs.declared.answers.LinkTried.{LinkTried}
use Rattle.graph_table.specs.declared.answers.LinkTried.TheVariants.{Won as LinkWon, Lost as LinkLost}
use Rattle.graph_table.specs.declared.answers.UnlinkTried.{UnlinkTried}
use Rattle.graph_table.specs.declared.answers.UnlinkTried.TheVariants.{Won as UnlinkWon, Lost as UnlinkLost}
use Rattle.table_calls.specs.Loads.{HasLoaded}
use Rattle.table_calls.specs.Resting.{IsHolding, IsResting}

-- the word at a place
abbrev pub word_in : View → ℕ → ℕ
word_in v place = word_at v.sizes v.front place

-- the bucket has no vertex
abbrev pub IsEmptyBucket : View → ℕ → Type 0
IsEmptyBucket v bucket = index_of (word_in v (bucket_at v.sizes bucket)) ≡ nowhere

-- a vertex of the bucket that was met
pub record IsFound (v : View) (bucket : ℕ) (x : Life) : Type 0 where
  pub met : MetVertex v x
  pub of_bucket : key_in v x.index % v.sizes.buckets ≡ bucket

-- the word at a place is marked, or leads to a node
abbrev pub IsNoEnd : View → ℕ → Type 0
IsNoEnd v place = (mark_of (word_in v place) ≡ 1) ⊎ (index_of (word_in v place) ≢ nowhere)

-- a vertex of the bucket that was met has this key or a greater one, or its link is no end
abbrev pub IsNoGapBehind : View → ℕ → ℕ → Life → Type 0
IsNoGapBehind v bucket key x =
    IsFound v bucket x × ((key ≤ key_in v x.index) ⊎ IsNoEnd v (link_at v.sizes x.index))

-- no vertex of this key may be linked behind the first one of the bucket
abbrev pub IsNoGap : View → ℕ → ℕ → Type 0
IsNoGap v bucket key = IsEmptyBucket v bucket ⊎ ((x : Life) × IsNoGapBehind v bucket key x)

-- linking came to a token that holds none, or holds the node that was handed back
abbrev pub MatchHeld : LinkTried → View → Type 0
MatchHeld (LinkWon x) w = IsResting true w
MatchHeld (LinkLost x found) w = IsHolding w x

-- unlinking a vertex came to a vertex that is spent with the token
abbrev pub MatchSpent : UnlinkTried → View → Type 0
MatchSpent (UnlinkWon x) w = IsUnlinkedVertex w x
MatchSpent (UnlinkLost found) w = Unit {0}

-- a vertex of the bucket was found, and marked where it wasn't yet
pub record MarksVertex (v : View) (bucket found : ℕ) (w : View) : Type 0 where
  pub then : View
  pub loaded : HasLoaded v then
  pub life : Life
  pub vertex : IsFound then bucket life
  pub marked : MatchMark then (link_at then.sizes life.index) found (mark_vertex_event then life found) w

-- a word led to no vertex, or was marked, or led to a vertex that is unmarked
pub record IsNoneDead (v : View) (place : ℕ) (w : View) : Type 0 where
  pub then : View
  pub loaded : HasLoaded v then
  pub later : HasLoaded then w
  pub cause : (index_of (word_in then place) ≡ nowhere) ⊎ (mark_of (word_in then place) ≡ 1)
      ⊎ (mark_of (word_in w (link_at w.sizes (index_of (word_in then place)))) ≡ 0)
