-- A token between two calls, and the first vertex of a bucket.
use Rattle.std.specs.Prelude.{◌≡◌, ℕ, ◌<◌, ◌≤◌, Bool, true, false, length, None}
use Rattle.packed_link.specs.Link.{index_of, mark_of}
use Rattle.packed_link.specs.declared.link.Life.{Life}
use Rattle.core_journal.specs.Event.{pops, moves}
use Rattle.core_journal.specs.Reuse.{pass_in}
use Rattle.core_kept.specs.Counts.{made}
use Rattle.core_rule.specs.Fronts.{MetVertex}
use Rattle.core_rule.specs.Stretches.{HasNoFresh}
use Rattle.core_rule.specs.declared.view.View.{View}
use Rattle.epoch_limbo.specs.Limbos.{IsLimboOf, LimboValue}

-- the token has a number, its pass is open or not, it holds no fresh node, and it took at most so many nodes and moved
-- the epoch at most so often
pub record IsSteady (opened : Bool) (steps : ℕ) (v : View) : Type 0 where
  pub numbered : v.numbered ≡ true
  pub there : v.number < v.sizes.callers
  pub pass : (pass_in v.sizes v.front v.number).is_open ≡ opened
  pub bare : HasNoFresh v
  pub taken : made pops v.number v.front ≤ steps
  pub moved : made moves v.number v.front ≤ steps

-- the word that was loaded of the only bucket leads to this vertex, which the pass has met
pub record LeadsToMet (v : View) (seen : ℕ) (x : Life) : Type 0 where
  pub met : MetVertex v x
  pub leads : index_of seen ≡ x.index
  pub unmarked : mark_of seen ≡ 0

-- one node is in the limbo, which is the token's
pub record HoldsOneNode (steps : ℕ) (v : View) (kept : LimboValue) : Type 0 where
  pub steady : IsSteady false steps v
  pub limbo : IsLimboOf None v kept.nodes
  pub one : length kept.nodes ≡ 1
  pub room : length kept.nodes ≤ kept.room
