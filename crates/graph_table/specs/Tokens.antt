-- What contracts see of a table and of a token: a token's value is its table and its view, no more.
use Rattle.std.specs.Prelude.{◌≡◌, ℕ, []}
use Rattle.atomic_table.specs.Seated.{TableId}
use Rattle.packed_link.specs.Layout.{Sizes, IsLayout}
use Rattle.packed_link.specs.declared.link.Life.{Life}
use Rattle.core_rule.specs.Plays.{IsSound}
use Rattle.core_rule.specs.declared.view.View.{View}

-- a table: which one it is, and its sizes
pub record TableValue : Type 0 where
  pub table : TableId
  pub sizes : Sizes

-- a token: its table, and what it knows of the journal
pub record TokenValue : Type 0 where
  pub table : TableId
  pub view : View

-- a spent node with its stamp
pub record RipeValue : Type 0 where
  pub life : Life
  pub stamp : ℕ

-- the token is one of this table, and what its view says is so
pub record IsOf (g : TableValue) (t : TokenValue) : Type 0 where
  pub table : t.table ≡ g.table
  pub sizes : t.view.sizes ≡ g.sizes
  pub met : t.view.met ≡ []
  pub sound : IsSound t.view
  pub layout : IsLayout t.view.sizes
