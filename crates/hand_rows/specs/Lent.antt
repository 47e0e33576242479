-- A token in its pass, and a node that it prepared.
use Rattle.std.specs.Prelude.{◌≡◌, ℕ, true}
use Rattle.packed_link.specs.Link.{index_of}
use Rattle.packed_link.specs.declared.link.Life.{Life}
use Rattle.core_rule.specs.Fronts.{MetVertex}
use Rattle.core_rule.specs.Stretches.{HasPass}
use Rattle.core_rule.specs.declared.view.View.{View}
use Rattle.core_stretches.specs.Holdings.{IsFilledAsVertex}
use Rattle.graph_table.specs.Tokens.{IsOf, TableValue, TokenValue}
use Rattle.vertex_list.specs.Positions.{IsGap, PositionValue}
use Rattle.vertex_list.specs.declared.walks.Found.{Found}
use Rattle.vertex_list.specs.declared.walks.Found.TheVariants.{Here, Gone, Dead}

-- the token is of the table, has a number, and its pass is open
pub record IsLentOpen (g : TableValue) (t : TokenValue) : Type 0 where
  pub of : IsOf g t
  pub numbered : t.view.numbered ≡ true
  pub pass : HasPass t.view

-- the key is missing at the position, and the node is filled for it
pub record IsFilledFor (key : ℕ) (v : View) (p : PositionValue) (x : Life) : Type 0 where
  pub key_is : p.key ≡ key
  pub gap : IsGap v p
  pub filled : IsFilledAsVertex v p.key (index_of p.word) x

-- a vertex that a walk came to was met
abbrev pub MatchLooked : Found → View → Type 0
MatchLooked (Here s) v = MetVertex v s.life
MatchLooked (Gone p) v = Unit {0}
MatchLooked (Dead p) v = Unit {0}
