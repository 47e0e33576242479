-- What a token holds by its view: fresh nodes and spent ones.
use Rattle.std.specs.Prelude.{◌≡◌, ℕ, ◌<◌, true, false, Option, List}
use Rattle.packed_link.specs.declared.link.Life.{Life}
use Rattle.core_journal.specs.declared.event.Event.{Event}
use Rattle.core_journal.specs.Reuse.{pass_in}
use Rattle.core_kept.specs.Edges.{IsFilledEdge}
use Rattle.core_kept.specs.Freezing.{IsSpentVertex}
use Rattle.core_journal.specs.State.{state}
use Rattle.core_kept.specs.Nodes.{node_in, is_listed, IsFreshWith, IsSpentWith, IsRipe, IsFrozenToEnd}
use Rattle.core_kept.specs.Vertices.{IsFilledVertex}
use Rattle.core_lists.specs.Chains.{KeepsList, IsBeingFrozen}
use Rattle.core_counts.specs.Spending.{GotOnly}
use Rattle.core_rule.specs.Fronts.{IsLifeAt}
use Rattle.core_rule.specs.declared.view.View.{View}

-- the node is fresh with the token, in this life
pub record IsHeldFresh (v : View) (x : Life) : Type 0 where
  pub life : IsLifeAt v x
  pub fresh : IsFreshWith v.sizes v.front v.number x.index

-- a node that is fresh with the token is filled as a vertex of this key, whose link leads there
pub record IsFilledAsVertex (v : View) (key next : ℕ) (x : Life) : Type 0 where
  pub held : IsHeldFresh v x
  pub filled : IsFilledVertex v.sizes v.front x.index key next

-- a node that is fresh with the token is filled as an edge of this key, target and weight, whose link leads there
pub record IsFilledAsEdge (v : View) (key next : ℕ) (target : Life) (weight : ℕ) (x : Life) : Type 0 where
  pub held : IsHeldFresh v x
  pub filled : IsFilledEdge v.sizes v.front x.index key next target weight

-- the node is spent with the token, in this life
pub record IsHeldSpent (v : View) (x : Life) : Type 0 where
  pub life : IsLifeAt v x
  pub spent : IsSpentWith v.sizes v.front v.number x.index

-- since a front the token got no spent node but these and those of the list that is being frozen
abbrev pub HasGotOnly : List Event → View → Option ℕ → List ℕ → Type 0
HasGotOnly from v but got = GotOnly v.sizes from v.front v.number but got

-- the token's pass is closed
abbrev pub HasNoPass : View → Type 0
HasNoPass v = (pass_in v.sizes v.front v.number).is_open ≡ false

-- the token unlinked the vertex, and its list is one still
pub record IsUnlinkedVertex (v : View) (x : Life) : Type 0 where
  pub life : IsLifeAt v x
  pub spent : IsSpentVertex v.sizes v.front v.number x.index
  pub list : KeepsList v.sizes v.front x.index

-- a spent node may be retired: the lists that may lead to it are frozen to their ends, all but that which is being
-- frozen
pub record IsRetirable (but : Option ℕ) (v : View) (x : Life) : Type 0 where
  pub held : IsHeldSpent v x
  pub own_list : (node_in v.sizes v.front x.index).vertex ≡ true → IsFrozenToEnd v.sizes v.front x.index
  pub list : (y : ℕ) → (IsBeingFrozen but y → ⊥) → y < v.sizes.nodes
      → is_listed (state v.sizes v.front) y x.index ≡ true → IsFrozenToEnd v.sizes v.front y

-- the node is ripe, and the lists that may lead to it are frozen to their ends: its own, and those on which it stands
pub record IsGivable (v : View) (x : Life) : Type 0 where
  pub life : IsLifeAt v x
  pub ripe : IsRipe v.sizes v.front v.number x.index
  pub own_list : (node_in v.sizes v.front x.index).vertex ≡ true → IsFrozenToEnd v.sizes v.front x.index
  pub list : (y : ℕ) → y < v.sizes.nodes → is_listed (state v.sizes v.front) y x.index ≡ true
      → IsFrozenToEnd v.sizes v.front y
