-- A token between two calls of a pass, and one with a vertex that it's about to link.
use Rattle.std.specs.Prelude.{◌≡◌, ℕ, ◌≤◌, Bool, true, false}
use Rattle.packed_link.specs.Link.{index_of}
use Rattle.packed_link.specs.declared.link.Life.{Life}
use Rattle.core_journal.specs.Event.{pops}
use Rattle.core_kept.specs.Counts.{made}
use Rattle.core_rule.specs.Stretches.{HasNoFresh, HasPass}
use Rattle.core_rule.specs.declared.view.View.{View}
use Rattle.core_stretches.specs.Holdings.{IsFilledAsVertex}
use Rattle.vertex_list.specs.Positions.{PositionValue, IsGap}
use Rattle.vertex_list.specs.declared.changes.Linked.{Linked}
use Rattle.vertex_list.specs.declared.changes.Linked.TheVariants.{Done, Lost}

-- the token has a number, and its pass is open
pub record IsInPass (v : View) : Type 0 where
  pub numbered : v.numbered ≡ true
  pub pass : HasPass v

-- the token has a number, its pass is open, it holds no fresh node, and it took at most so many nodes
pub record IsReady (taken : ℕ) (v : View) : Type 0 where
  pub numbered : v.numbered ≡ true
  pub pass : HasPass v
  pub bare : HasNoFresh v
  pub few : made pops v.number v.front ≤ taken

-- the token has a number, its pass is open, it took at most so many nodes, and the last one is filled for a position at
-- which its key is missing
pub record IsPrepared (taken : ℕ) (v : View) (p : PositionValue) (x : Life) : Type 0 where
  pub numbered : v.numbered ≡ true
  pub pass : HasPass v
  pub few : made pops v.number v.front ≤ taken
  pub gap : IsGap v p
  pub filled : IsFilledAsVertex v p.key (index_of p.word) x

-- whether a vertex was linked
abbrev pub is_done : Linked → Bool
is_done (Done life) = true
is_done (Lost fresh) = false
