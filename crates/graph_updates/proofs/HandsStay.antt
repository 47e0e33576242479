-- A hand in order is in order after a stretch that leaves the graph, and what a stretch leaves of its parts.
use Rattle.std.proofs.Common.{◌≡◌, ◌≢◌, ℕ, ◌+◌, ◌*◌, ◌^◌, ◌<◌, ◌≤◌, true, false, cond, List, [], ◌∷◌, ◌++◌, Option}
use Rattle.std.proofs.Common.{Some, sym, ap, ap₂, ◌∙◌, subst, arith}
use Rattle.std.specs.Prelude.{Bool, slice_get, take}
use Rattle.graph_kinds.specs.History.{Every}
use Rattle.graph_kinds.specs.declared.entry.Entry.{Entry}
use Rattle.packed_link.specs.Layout.{Sizes, IsLayout}
use Rattle.packed_link.specs.declared.link.Life.{Life}
use Rattle.core_journal.specs.declared.book.Book.{Book}
use Rattle.core_journal.specs.declared.event.Event.{Event}
use Rattle.core_journal.specs.declared.event.Kind.TheVariants.{PopFree, PushFree}
use Rattle.core_journal.specs.Event.{pops, moves}
use Rattle.core_journal.specs.GraphOf.{changes}
use Rattle.core_journal.specs.Right.{IsBookOf}
use Rattle.core_journal.proofs.Onward.{book_more}
use Rattle.core_kept.specs.Counts.{made, most_moves}
use Rattle.core_rule.specs.Stretches.{HasPass, Leaves, Own, is_of_fresh}
use Rattle.core_rule.specs.declared.view.View.{View}
use Rattle.core_stretches.specs.Holdings.{HasNoPass}
use Rattle.core_stretches.specs.Makes.{Makes, StepsBy, of_kinds}
use Rattle.core_stretches.proofs.MakesTell.{makes_counts, makes_later}
use Rattle.epoch_limbo.specs.Limbos.{LimboValue}
use Rattle.graph_table.specs.Tokens.{IsOf, TableValue}
use Rattle.graph_updates.specs.Hands.{HandValue, HasAllSpent, HasItsNodes, HoldsNoOther, HoldsSpare, IsHandOf}
use Rattle.graph_updates.specs.Hands.{IsInOrder, IsRoomyLimbo, book_of, moves_due}
use Rattle.graph_updates.specs.Parts.{LeavesGraph}
use Rattle.graph_updates.proofs.BurialLists.{every_map}
use Rattle.graph_updates.proofs.PartsLeave.{IsCalm, all_goes, limbo_goes, other_goes, spare_goes, still_numbered}
use Rattle.graph_updates.proofs.PartsLeave.{still_there}
use Rattle.graph_updates.proofs.RaisesAddUp.{raised_left}

-- steps leave the book
book_by : (v w : View) (own : List Event) → StepsBy v own w → w.book ≡ v.book
book_by v w [] t = ap (λ (u : View). u.book) t.view
book_by v w (e ∷ es) (m, by, t, rest) = book_by m w es rest ∙ ap (λ (u : View). u.book) t.view

pub makes_book : (v w : View) (own : List Event) → Makes v own w → w.book ≡ v.book
makes_book v w own h = book_by v w own h.steps

-- the book stays true where each own event leaves the graph
pub book_goes : (v w : View) (own : List Event) → Makes v own w → Own Leaves v w
    → IsBookOf v.sizes v.front (book_of v) → IsBookOf w.sizes w.front (book_of w)
book_goes v w own makes leaves h =
    let later = makes_later v w own makes in
    let g = later.grows in
    let more : IsBookOf v.sizes (v.front ++ g.rest) (book_of v) = book_more v.sizes v.front g.rest (book_of v) h
    (λ p e far at by. subst (λ (j : List Event). changes (take p j) e ≡ false) (sym g.whole)
    (leaves.each p e far (subst (λ (j : List Event). slice_get j p ≡ Some e) g.whole at) by)) in
    let here : IsBookOf v.sizes w.front (book_of v) = subst
    (λ (j : List Event). IsBookOf v.sizes j (book_of v)) g.whole more in
    let same : book_of w ≡ book_of v = ap₂
    (λ (n : ℕ) (b : List Entry). record { caller = n; entries = b }) later.number (makes_book v w own makes) in
    subst (λ (s : Sizes). IsBookOf s w.front (book_of w)) (sym later.sizes)
    (subst (λ (b : Book). IsBookOf v.sizes w.front b) (sym same) here)

-- the end of an open call may move the epoch once, that of none doesn't
pub due_open : (v : View) → HasPass v → moves_due v ≡ 1
due_open v h = ap (λ (b : Bool). cond {A = ℕ} b 1 0) h

pub due_closed : (v : View) → HasNoPass v → moves_due v ≡ 0
due_closed v h = ap (λ (b : Bool). cond {A = ℕ} b 1 0) h

-- a hand in order is in order after a stretch that leaves the graph, where it has its nodes and uses enough
pub order_goes : (old new : HandValue) (taken moved : ℕ) → IsLayout old.token.view.sizes
    → LeavesGraph false taken moved old.token.view new.token.view → HasItsNodes new → old.uses + taken ≤ new.uses
    → 3 * old.uses + moved + moves_due new.token.view ≤ 3 * new.uses + moves_due old.token.view → new.uses ≤ 2 ^ 32
    → IsInOrder old → IsInOrder new
order_goes old new taken moved z s nodes few less uses h =
    let v = old.token.view in
    let w = new.token.view in
    let p = makes_counts pops v w s.own s.makes in
    let q = makes_counts moves v w s.own s.makes in
    let t = s.takes in
    let m = s.shifts in
    let a = h.taken in
    let b = h.moved in
    record {
      book = book_goes v w s.own s.makes (s.leaves z) h.book;
      taken = omega (arith, p, t, a, few);
      moved = omega (arith, q, m, b, less);
      uses = uses;
      again = h.again + 0;
      given_up = let most = h.given_up in omega (arith, most, few);
      raised = (raised_left taken moved v w s).each h.again h.raised;
      nodes = nodes;
    }

-- a token whose hand was in order has moves of the epoch left after a stretch with at most three
pub limit_goes : (old : HandValue) (w : View) (own : List Event) → Makes old.token.view own w → of_kinds moves own ≤ 3
    → IsInOrder old → made moves w.number w.front < most_moves
limit_goes old w own makes few h =
    let n = makes_counts moves old.token.view w own makes in
    let moved = h.moved in
    let uses = h.uses in
    omega (arith, n, few, moved, uses)

-- what a stretch leaves of the parts of a hand, whose limbo is another one then
pub record LeavesParts (a b : LimboValue) (v w : View) : Type 0 where
  pub numbered : v.numbered ≡ true → w.numbered ≡ true
  pub there : v.number < v.sizes.callers → w.number < w.sizes.callers
  pub limbo : IsRoomyLimbo a v → IsRoomyLimbo b w
  pub all : IsRoomyLimbo a v → HasAllSpent a v → HasAllSpent b w
  pub spare : (s : Option Life) → HoldsSpare s v → HoldsSpare s w
  pub other : (s : Option Life) → HoldsSpare s v → HoldsNoOther s v → HoldsNoOther s w

-- an event that takes, fills, spends and gives back no node
pub record IsPlain (e : Event) : Type 0 where
  pub calm : IsCalm e
  pub plain : is_of_fresh e.kind ≡ false
  pub takes : e.kind ≢ PopFree

pub plain_parts : (limbo : LimboValue) (v w : View) (own : List Event) → IsLayout v.sizes → Makes v own w
    → Every IsPlain own → LeavesParts limbo limbo v w
plain_parts limbo v w own z makes h =
    let calm = every_map IsPlain IsCalm (λ e p. p.calm) own h in
    let plain = every_map IsPlain (λ (e : Event). is_of_fresh e.kind ≡ false) (λ e p. p.plain) own h in
    let takes = every_map IsPlain (λ (e : Event). e.kind ≢ PopFree) (λ e p. p.takes) own h in
    let gives = every_map IsPlain (λ (e : Event). e.kind ≢ PushFree) (λ e p. p.calm.gives) own h in
    record {
      numbered = still_numbered v w own z makes;
      there = still_there v w own z makes;
      limbo = limbo_goes v w own z makes gives limbo;
      all = all_goes v w own z makes calm limbo;
      spare = spare_goes v w own z makes plain;
      other = other_goes v w own z makes takes plain;
    }

pub parts_chain : (a b c : LimboValue) (u v w : View) → LeavesParts a b u v → LeavesParts b c v w
    → LeavesParts a c u w
parts_chain a b c u v w g h = record {
  numbered = λ x. h.numbered (g.numbered x);
  there = λ x. h.there (g.there x);
  limbo = λ x. h.limbo (g.limbo x);
  all = λ l x. h.all (g.limbo l) (g.all l x);
  spare = λ s x. h.spare s (g.spare s x);
  other = λ s x y. h.other s (g.spare s x) (g.other s x y);
}

-- a hand of a table is one still, and has its nodes still
module _ (g : TableValue) (old new : HandValue) (h : IsHandOf g old) (same : new.spare ≡ old.spare)
    (l : LeavesParts old.limbo new.limbo old.token.view new.token.view) where
  pub hand_goes : IsOf g new.token → IsHandOf g new
  hand_goes of = record {
    of = of;
    numbered = l.numbered h.numbered;
    there = l.there h.there;
    limbo = l.limbo h.limbo;
    spare = subst (λ (s : Option Life). HoldsSpare s new.token.view) (sym same) (l.spare old.spare h.spare);
  }

  pub nodes_go : HasItsNodes old → HasItsNodes new
  nodes_go n = record {
    spent = l.all h.limbo n.spent;
    fresh = subst (λ (s : Option Life). HoldsNoOther s new.token.view) (sym same)
        (l.other old.spare h.spare n.fresh);
  }
