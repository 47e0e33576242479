-- What burying a vertex asks and tells.
use Rattle.std.specs.Prelude.{◌≡◌, ◌≢◌, ◌⊎◌, ℕ, ◌≤◌, true, false, List, [], ◌∷◌, ◌++◌, map, None}
use Rattle.graph_kinds.specs.Levels.{stands_in}
use Rattle.graph_kinds.specs.History.{Every}
use Rattle.packed_link.specs.Layout.{link_at, second_at}
use Rattle.packed_link.specs.declared.link.Life.{Life}
use Rattle.core_journal.specs.declared.event.Kind.TheVariants.{FreezeHead, FreezeEdge}
use Rattle.core_journal.specs.declared.event.Event.{Event}
use Rattle.core_journal.specs.State.{state}
use Rattle.core_kept.specs.Nodes.{node_in, IsFrozenToEnd, IsSpentWith}
use Rattle.core_rule.specs.declared.view.View.{View}
use Rattle.core_stretches.specs.Holdings.{IsUnlinkedVertex}
use Rattle.core_stretches.specs.Makes.{Makes}
use Rattle.graph_table.specs.Tokens.{RipeValue}
use Rattle.epoch_limbo.specs.Limbos.{LimboValue, IsLimboOf, IsOut, index_in}

-- a node is one of a limbo's
abbrev pub IsIn : List RipeValue → ℕ → Type 0
IsIn nodes y = stands_in (map index_in nodes) y ≡ true

-- the token unlinked the vertex, whose list is open at its head; the limbo is of the token, doesn't have the vertex,
-- and has room for all nodes
pub record IsToBury (limbo : LimboValue) (v : View) (x : Life) : Type 0 where
  pub vertex : IsUnlinkedVertex v x
  pub unclosed : (state v.sizes v.front).frozen x.index ≡ false
  pub limbo_of : IsLimboOf None v limbo.nodes
  pub out : IsOut x.index limbo.nodes
  pub room : v.sizes.nodes ≤ limbo.room

-- the event closes the vertex's list at its head, or freezes one of these edges
abbrev pub FreezesOf : View → Life → List ℕ → Event → Type 0
FreezesOf v x edges e =
    ((e.kind ≡ FreezeHead) × (e.place ≡ second_at v.sizes x.index))
    ⊎ ((e.kind ≡ FreezeEdge) × ((y : ℕ) × (stands_in edges y ≡ true) × (e.place ≡ link_at v.sizes y)))

-- the limbo has every node that the token spent, but perhaps this one
abbrev pub HasAllSpentBut : ℕ → View → List RipeValue → Type 0
HasAllSpentBut x v nodes = (y : ℕ) → IsSpentWith v.sizes v.front v.number y → y ≢ x → IsIn nodes y

-- the vertex's list is frozen to its end; its edges and then the vertex were put behind the others in the limbo, which
-- is of the token; where it had every other node that the token spent, it has every one; and the token made no other
-- events than those of freezing
pub record IsBuried (old new : LimboValue) (v w : View) (x : Life) : Type 0 where
  pub edges : List RipeValue
  pub stamp : ℕ
  pub nodes : new.nodes ≡ old.nodes ++ (edges ++ record { life = x; stamp = stamp } ∷ [])
  pub are_edges : Every (λ (r : RipeValue). (node_in w.sizes w.front (index_in r)).vertex ≡ false) edges
  pub own : List Event
  pub kinds : Every (FreezesOf v x (map index_in edges)) own
  pub makes : Makes v own w
  pub frozen : IsFrozenToEnd w.sizes w.front x.index
  pub limbo_of : IsLimboOf None w new.nodes
  pub all : HasAllSpentBut x.index v old.nodes → (y : ℕ) → IsSpentWith w.sizes w.front w.number y → IsIn new.nodes y
  pub room : new.room ≡ old.room
