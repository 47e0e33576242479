-- Nodes that a token retires: they're spent with it, and the lists that may lead to them are frozen to their ends, but
-- for the one that is being frozen.
use Rattle.std.specs.Prelude.{◌≡◌, ◌≢◌, ℕ, ◌<◌, ◌≤◌, true, List, [], ◌∷◌, Option}
use Rattle.graph_kinds.specs.History.{Every}
use Rattle.packed_link.specs.Layout.{epoch_at}
use Rattle.packed_link.specs.declared.link.Life.{Life}
use Rattle.core_journal.specs.declared.event.Event.{Event}
use Rattle.core_journal.specs.Machine.{word_at}
use Rattle.core_journal.specs.Prefix.{IsPrefix}
use Rattle.core_journal.specs.State.{state}
use Rattle.core_kept.specs.Nodes.{node_in, is_listed, IsStamped, IsFrozenToEnd}
use Rattle.core_lists.specs.Chains.{IsBeingFrozen}
use Rattle.core_rule.specs.Fronts.{IsLifeAt}
use Rattle.core_rule.specs.declared.view.View.{View}

-- an epoch of at least this was shown
pub record IsShown (v : View) (stamp : ℕ) : Type 0 where
  pub moment : List Event
  pub before : IsPrefix moment v.front
  pub epoch : stamp ≤ word_at v.sizes moment (epoch_at v.sizes)

-- a life is spent with the token, with a stamp that the epoch has reached, and the lists that may lead to it are
-- frozen to their ends, its own and those on which it stands, but for the one that is being frozen
pub record IsRetired (but : Option ℕ) (v : View) (x : Life) (stamp : ℕ) : Type 0 where
  pub life : IsLifeAt v x
  pub stamped : IsStamped v.sizes v.front v.number x.index stamp
  pub shown : IsShown v stamp
  pub own_list : (node_in v.sizes v.front x.index).vertex ≡ true → IsFrozenToEnd v.sizes v.front x.index
  pub list : (y : ℕ) → (IsBeingFrozen but y → ⊥) → y < v.sizes.nodes
      → is_listed (state v.sizes v.front) y x.index ≡ true → IsFrozenToEnd v.sizes v.front y

-- no index of a list stands there twice
abbrev pub AreApart : List ℕ → Type 0
AreApart [] = Unit {0}
AreApart (x ∷ xs) = Every (λ y. y ≢ x) xs × AreApart xs
