-- What the calls on edges tell, and why they answer none.
use Rattle.std.specs.Prelude.{◌≡◌, ℕ, ◌<◌, ◌⊎◌, true}
use Rattle.packed_link.specs.Link.{index_of, mark_of, nowhere}
use Rattle.packed_link.specs.Layout.{link_at, second_at, third_at}
use Rattle.packed_link.specs.declared.link.Life.{Life}
use Rattle.core_journal.specs.State.{state}
use Rattle.core_kept.specs.Nodes.{node_in, is_listed, IsFrozenToEnd, IsSpentWith}
use Rattle.core_rule.specs.Fronts.{IsLifeAt, MetEdge}
use Rattle.core_rule.specs.OwnEvents.{raise_event}
use Rattle.core_rule.specs.Plays.{Won}
use Rattle.core_rule.specs.declared.view.View.{View}
use Rattle.graph_table.specs.declared.answers.UnlinkTried.{UnlinkTried}
use Rattle.graph_table.specs.declared.answers.UnlinkTried.TheVariants.{Won as UnlinkWon, Lost as UnlinkLost}
use Rattle.table_calls.specs.Loads.{HasLoaded}
use Rattle.table_calls.specs.Vertices.{IsEmptyBucket, IsFound, IsNoEnd, word_in}

-- the list of a vertex has no edge
abbrev pub IsEmptyList : View → Life → Type 0
IsEmptyList v x = index_of (word_in v (second_at v.sizes x.index)) ≡ nowhere

-- the bucket has no vertex, or its first one has an edge already
abbrev pub IsNoRoom : View → ℕ → Type 0
IsNoRoom v bucket = IsEmptyBucket v bucket ⊎ ((x : Life) × IsFound v bucket x × IsNoEnd v (second_at v.sizes x.index))

-- an edge of the first vertex of the bucket was met, and its link was this word
pub record IsFirstEdge (v : View) (bucket : ℕ) (source x : Life) (seen : ℕ) : Type 0 where
  pub vertex : IsFound v bucket source
  pub edge : MetEdge v source x
  pub link : seen ≡ word_in v (link_at v.sizes x.index)

-- the counter of the source of an unmarked edge was raised
pub record RaisesFor (v : View) (bucket : ℕ) (source x : Life) (seen : ℕ) (w : View) : Type 0 where
  pub then : View
  pub loaded : HasLoaded v then
  pub first : IsFirstEdge then bucket source x seen
  pub live : mark_of seen ≡ 0
  pub found : ℕ
  pub raised : Won then (third_at then.sizes source.index) found (raise_event then source found) w

-- the first vertex of the bucket has an edge, whose link is marked
pub record IsCutFirst (v : View) (bucket : ℕ) : Type 0 where
  pub source : Life
  pub life : Life
  pub seen : ℕ
  pub first : IsFirstEdge v bucket source life seen
  pub cut : mark_of seen ≡ 1

-- the bucket has no vertex, or its first one has no edge, or the first edge of that is marked
abbrev pub IsNoEdge : View → ℕ → Type 0
IsNoEdge v bucket = IsEmptyBucket v bucket ⊎ ((x : Life) × IsFound v bucket x × IsEmptyList v x) ⊎ IsCutFirst v bucket

-- an edge that was met has this weight
pub record IsSameWeight (v : View) (weight : ℕ) : Type 0 where
  pub source : Life
  pub life : Life
  pub edge : MetEdge v source life
  pub same : word_in v (third_at v.sizes life.index) ≡ weight

-- a life is spent with the token, and all lists that may lead to it are frozen to their ends
pub record IsDone (v : View) (x : Life) : Type 0 where
  pub life : IsLifeAt v x
  pub spent : IsSpentWith v.sizes v.front v.number x.index
  pub own_list : (node_in v.sizes v.front x.index).vertex ≡ true → IsFrozenToEnd v.sizes v.front x.index
  pub list : (y : ℕ) → y < v.sizes.nodes → is_listed (state v.sizes v.front) y x.index ≡ true
      → IsFrozenToEnd v.sizes v.front y

-- unlinking an edge came to an edge that is spent with the token, and stands on no list
abbrev pub MatchCut : UnlinkTried → View → Type 0
MatchCut (UnlinkWon x) w = IsDone w x
MatchCut (UnlinkLost found) w = Unit {0}
