-- A limbo, and when it is of a token.
use Rattle.std.specs.Prelude.{◌≡◌, ◌≢◌, ℕ, ◌+◌, ◌<◌, ◌≤◌, List, [], ◌∷◌, ◌++◌, map, Option, Some, None, slice_get}
use Rattle.graph_kinds.specs.History.{Every}
use Rattle.packed_link.specs.Layout.{epoch_at}
use Rattle.packed_link.specs.declared.link.Life.{Life}
use Rattle.core_journal.specs.Machine.{word_at}
use Rattle.core_rule.specs.Retired.{IsRetired, AreApart}
use Rattle.core_rule.specs.declared.view.View.{View}
use Rattle.core_stretches.specs.Holdings.{IsGivable, IsRetirable}
use Rattle.graph_table.specs.Tokens.{RipeValue}

-- the nodes with their stamps, the oldest first, and for how many there's room
pub record LimboValue : Type 0 where
  pub nodes : List RipeValue
  pub room : ℕ

-- the index of a node
abbrev pub index_in : RipeValue → ℕ
index_in r = r.life.index

-- the node isn't among these
abbrev pub IsOut : ℕ → List RipeValue → Type 0
IsOut x rs = Every (λ (r : RipeValue). index_in r ≢ x) rs

-- the stamps rise weakly
abbrev pub AreRising : List RipeValue → Type 0
AreRising [] = Unit {0}
AreRising (r ∷ rs) = Every (λ (q : RipeValue). r.stamp ≤ q.stamp) rs × AreRising rs

-- a limbo is of a token: each of its nodes is spent with the token, was spent when the epoch was at most its stamp,
-- and the token's front has shown an epoch of at least the stamp; the lists that may lead to it are frozen to their
-- ends, all but that which is being frozen, if there is one; no node stands there twice; and stamps rise
pub record IsLimboOf (but : Option ℕ) (v : View) (nodes : List RipeValue) : Type 0 where
  pub each : Every (λ (r : RipeValue). IsRetired but v r.life r.stamp) nodes
  pub apart : AreApart (map index_in nodes)
  pub rising : AreRising nodes

-- a node was put behind the others, with the epoch at the new front as its stamp
pub record IsRetiredInto (old new : LimboValue) (v w : View) (x : Life) : Type 0 where
  pub nodes : new.nodes ≡ old.nodes ++ record { life = x; stamp = word_at w.sizes w.front (epoch_at w.sizes) } ∷ []
  pub room : new.room ≡ old.room
  pub limbo : (but : Option ℕ) → IsLimboOf but v old.nodes → IsRetirable but v x → IsOut x.index old.nodes
      → IsLimboOf but w new.nodes

-- the oldest node was taken out: it's ripe, may be given back, and isn't in the limbo any more
pub record IsRipeOut (old new : LimboValue) (v : View) (epoch : ℕ) (r : RipeValue) : Type 0 where
  pub nodes : old.nodes ≡ r ∷ new.nodes
  pub room : new.room ≡ old.room
  pub stamp : r.stamp + 2 ≤ epoch
  pub givable : IsGivable v r.life
  pub retired : IsRetired None v r.life r.stamp
  pub out : IsOut r.life.index new.nodes
  pub limbo : IsLimboOf None v new.nodes

-- or no node has a stamp that lies two epochs back, and the limbo is as it was
pub record IsNoneRipe (old new : LimboValue) (epoch : ℕ) : Type 0 where
  pub same : new ≡ old
  pub none : Every (λ (r : RipeValue). epoch < r.stamp + 2) old.nodes

abbrev pub MatchRipe : Option RipeValue → (old new : LimboValue) → View → ℕ → Type 0
MatchRipe (Some r) old new v epoch = IsRipeOut old new v epoch r
MatchRipe None old new v epoch = IsNoneRipe old new epoch

-- a node was put before the others
pub record IsPutBack (old new : LimboValue) (r : RipeValue) : Type 0 where
  pub nodes : new.nodes ≡ r ∷ old.nodes
  pub room : new.room ≡ old.room
  pub limbo : (but : Option ℕ) (v : View) → IsLimboOf but v old.nodes → IsRetired but v r.life r.stamp
      → IsOut r.life.index old.nodes → Every (λ (q : RipeValue). r.stamp ≤ q.stamp) old.nodes
      → IsLimboOf but v new.nodes

-- the stamp of the node at a place
pub record IsStampAt (nodes : List RipeValue) (place stamp : ℕ) : Type 0 where
  pub node : RipeValue
  pub at : slice_get nodes place ≡ Some node
  pub is : stamp ≡ node.stamp
