-- The walk of a row's list, edge by edge.
use Rattle.std.proofs.Common.{◌≡◌, ◌≢◌, ℕ, ◌+◌, ◌<◌, true, [], List, refl, ap, ◌∙◌, arith}
use Rattle.packed_link.specs.Link.{index_of, nowhere}
use Rattle.packed_link.specs.Layout.{Sizes}
use Rattle.core_journal.specs.declared.event.Event.{Event}
use Rattle.core_scans.proofs.PushesKeepLives.{more_chain, more_same}
use Rattle.core_scans.proofs.RowSteps.{within_done}
use Rattle.core_scans.proofs.WalkMeetsOnce.{few_steps}
use Rattle.core_stretches.specs.Makes.{Makes}
use Rattle.core_stretches.proofs.MakesAddUp.{makes_chain, makes_self}
use Rattle.core_stretches.proofs.MakesTell.{makes_later}
use Rattle.graph_table.specs.Tokens.{TableValue, TokenValue, IsOf}
use Rattle.scan_record.specs.Scan.{ScanValue}
use Rattle.tree_scan.specs.Collects.{IsAtEdge, IsAtRow, IsGrown}

-- a walk that began at a head stands at a word, after so many meetings
pub record IsWalked (g : TableValue) (t : TokenValue) (s : ScanValue) (head : ℕ) (u : TokenValue) (r : ScanValue)
    (at steps : ℕ) : Type 0 where
  pub of : IsOf g u
  pub makes : Makes t.view [] u.view
  pub grown : IsGrown s r
  pub start : List Event
  pub some : IsAtEdge u.view start r at steps
  pub stands : (start : List Event) → IsAtEdge t.view start s head 0 → IsAtEdge u.view start r at steps

pub grown_chain : (r s t : ScanValue) → IsGrown r s → IsGrown s t → IsGrown r t
grown_chain r s t a b = record {
  more = more_chain r s t a.more b.more;
  nodes = b.nodes ∙ a.nodes;
  next = b.next ∙ a.next;
}

pub walk_first : (g : TableValue) (t : TokenValue) (s : ScanValue) (head : ℕ) → IsOf g t → t.view.numbered ≡ true
    → (start : List Event) → IsAtEdge t.view start s head 0 → IsWalked g t s head t s head 0
walk_first g t s head of has start h = record {
  of = of;
  makes = makes_self t.view has of.sound;
  grown = record { more = more_same s; nodes = refl; next = refl };
  start = start;
  some = h;
  stands = λ _ k. k;
}

pub walk_next : (g : TableValue) (t : TokenValue) (s : ScanValue) (head : ℕ) (u w : TokenValue) (r q : ScanValue)
    (at steps to : ℕ) → IsWalked g t s head u r at steps → IsOf g w → Makes u.view [] w.view → IsGrown r q
    → ((start : List Event) (n : ℕ) → IsAtEdge u.view start r at n → IsAtEdge w.view start q to (n + 1))
    → IsWalked g t s head w q to (steps + 1)
walk_next g t s head u w r q at steps to h of made grown on = record {
  of = of;
  makes = makes_chain t.view u.view w.view [] [] h.makes made;
  grown = grown_chain s r q h.grown grown;
  start = h.start;
  some = on h.start steps h.some;
  stands = λ start k. on start steps (h.stands start k);
}

-- it has fewer steps than the table has nodes
pub walk_few : (g : TableValue) (t : TokenValue) (s : ScanValue) (head : ℕ) (u : TokenValue) (r : ScanValue)
    (at steps : ℕ) → IsWalked g t s head u r at steps → index_of at ≢ nowhere → steps < g.sizes.nodes
walk_few g t s head u r at steps h some =
    let less = few_steps u.view h.of.layout h.start r h.some.looks at steps h.some.within some in
    omega (arith, less, ap (λ (z : Sizes). z.nodes) h.of.sizes)

pub walk_has : (g : TableValue) (t : TokenValue) (s : ScanValue) (head : ℕ) (u : TokenValue) (r : ScanValue)
    (at steps : ℕ) → t.view.numbered ≡ true → IsWalked g t s head u r at steps → u.view.numbered ≡ true
walk_has g t s head u r at steps has h = (makes_later t.view u.view [] h.makes).numbered ∙ has

-- the row is whole
pub walk_done : (g : TableValue) (t : TokenValue) (s : ScanValue) (head : ℕ) (u : TokenValue) (r : ScanValue)
    (at steps : ℕ) → IsWalked g t s head u r at steps → index_of at ≡ nowhere → (start : List Event)
    → IsAtEdge t.view start s head 0 → IsAtRow u.view start r
walk_done g t s head u r at steps h none start k =
    let e = h.stands start k in
    record {
      looks = e.looks;
      between = within_done u.view start r at steps e.within none;
      reached = e.reached;
      room = e.room;
    }
