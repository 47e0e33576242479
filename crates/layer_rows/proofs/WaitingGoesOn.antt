-- A token that waits does so over what it makes, and burying begins it.
use Rattle.std.proofs.Common.{◌≡◌, ◌≢◌, ℕ, ◌+◌, ◌≤◌, Bool, true, false, List, [], ◌∷◌, Option, Some, None, refl}
use Rattle.std.proofs.Common.{ap, sym, subst, arith, ⊎_elim, map, ◌∙◌}
use Rattle.graph_kinds.specs.History.{Every}
use Rattle.graph_kinds.specs.Levels.{stands_in}
use Rattle.packed_link.specs.Layout.{IsLayout, link_at, second_at}
use Rattle.packed_link.specs.declared.link.Life.{Life}
use Rattle.core_journal.specs.declared.event.Kind.{Kind}
use Rattle.core_journal.specs.declared.event.Kind.TheVariants.{FreezeEdge, FreezeHead, PushFree}
use Rattle.core_journal.specs.declared.event.Event.{Event}
use Rattle.core_journal.specs.Event.{moves}
use Rattle.core_journal.specs.Reuse.{pass_in}
use Rattle.core_journal.specs.State.{Pass}
use Rattle.core_rule.specs.OwnEvents.{move_event}
use Rattle.core_rule.specs.declared.view.View.{View}
use Rattle.core_stretches.specs.Makes.{Makes, StaysInPass, of_kinds}
use Rattle.core_stretches.proofs.MakesTell.{makes_counts, makes_goes}
use Rattle.epoch_limbo.proofs.LimboStays.{limbo_still_by_kind}
use Rattle.epoch_limbo.specs.Advances.{MatchAdvanced}
use Rattle.epoch_limbo.specs.Limbos.{IsLimboOf, LimboValue, MatchRipe, index_in}
use Rattle.epoch_limbo.specs.declared.advancing.Advanced.{Advanced}
use Rattle.epoch_limbo.specs.declared.advancing.Advanced.TheVariants.{Moved, Held, Lost}
use Rattle.graph_table.specs.Tokens.{RipeValue}
use Rattle.graph_updates.proofs.BurialLists.{every_map}
use Rattle.graph_updates.specs.Burying.{FreezesOf, IsBuried}
use Rattle.layer_rows.specs.Rows.{HasUnlinkedOne, IsWaiting}
use Rattle.layer_rows.proofs.WorkGoesOn.{number_on, pass_on, there_on, unmoved_on}

pub waiting_on : (was now : Bool) (n m : ℕ) (v w : View) (own : List Event) (nodes : List RipeValue)
    → IsLayout v.sizes → Makes v own w → n + of_kinds moves own ≤ m
    → (pass_in w.sizes w.front w.number).is_open ≡ now → Every (λ (e : Event). e.kind ≢ PushFree) own
    → IsWaiting was n v nodes → IsWaiting now m w nodes
waiting_on was now n m v w own nodes z makes few pass gives h = record {
  numbered = number_on v w own makes h.numbered;
  there = there_on v w own makes h.there;
  pass = pass;
  moved = let c = makes_counts moves v w own makes in let l = h.moved in omega (arith, c, l, few);
  limbo = limbo_still_by_kind None v w own z makes nodes gives h.limbo;
}

-- over moving the epoch on
still_closed : (v w : View) (own : List Event) → Every StaysInPass own → Makes v own w
    → (pass_in v.sizes v.front v.number).is_open ≡ false → (pass_in w.sizes w.front w.number).is_open ≡ false
still_closed v w own every h is =
    let g = makes_goes v w own every h in
    ap (λ (u : View). (pass_in u.sizes u.front u.number).is_open) g.view ∙ (ap (λ (p : Pass). p.is_open) g.pass ∙ is)

pub waiting_moved : (n : ℕ) (v w : View) (r : Advanced) (nodes : List RipeValue) → IsLayout v.sizes
    → MatchAdvanced r v w → IsWaiting false n v nodes → IsWaiting false (n + 1) w nodes
waiting_moved n v w Moved nodes z h s = waiting_on false false n (n + 1) v w (move_event v h.epoch ∷ []) nodes z h.makes
    (omega arith) (still_closed v w (move_event v h.epoch ∷ []) (((λ y. absurd (cc)), (λ y. absurd (cc))), tt) h.makes
    s.pass) ((λ y. absurd (cc)), tt) s
waiting_moved n v w (Held caller) nodes z h s = waiting_on false false n (n + 1) v w [] nodes z h.makes (omega arith)
    (still_closed v w [] tt h.makes s.pass) tt s
waiting_moved n v w Lost nodes z h s = waiting_on false false n (n + 1) v w [] nodes z h.makes (omega arith)
    (still_closed v w [] tt h.makes s.pass) tt s

-- over a load
pub waiting_loads : (n : ℕ) (v w : View) (nodes : List RipeValue) → IsLayout v.sizes → Makes v [] w
    → IsWaiting false n v nodes → IsWaiting false n w nodes
waiting_loads n v w nodes z m s = waiting_on false false n n v w [] nodes z m (omega arith)
    (still_closed v w [] tt m s.pass) tt s

-- and over taking a ripe node out
limbo_asked : (r : Option RipeValue) (old new : LimboValue) (w : View) (epoch : ℕ) → MatchRipe r old new w epoch
    → IsLimboOf None w old.nodes → IsLimboOf None w new.nodes
limbo_asked (Some q) old new w epoch h l = h.limbo
limbo_asked None old new w epoch h l = subst (λ (k : LimboValue). IsLimboOf None w k.nodes) (sym h.same) l

pub waiting_asked : (n : ℕ) (r : Option RipeValue) (old new : LimboValue) (w : View) (epoch : ℕ)
    → MatchRipe r old new w epoch → IsWaiting false n w old.nodes → IsWaiting false n w new.nodes
waiting_asked n r old new w epoch h s = record {
  numbered = s.numbered;
  there = s.there;
  pass = s.pass;
  moved = s.moved;
  limbo = limbo_asked r old new w epoch h s.limbo;
}

-- freezing stays in the pass and moves no epoch
freezes_stay : (v : View) (x : Life) (edges : List ℕ) (e : Event) → FreezesOf v x edges e → StaysInPass e
freezes_stay v x edges e f = ⊎_elim
    (λ (h : (e.kind ≡ FreezeHead) × (e.place ≡ second_at v.sizes x.index)).
    let is = h.0 in ((λ y. absurd (cc)), (λ y. absurd (cc))))
    (λ (h : (e.kind ≡ FreezeEdge) × ((y : ℕ) × (stands_in edges y ≡ true) × (e.place ≡ link_at v.sizes y))).
    let is = h.0 in ((λ y. absurd (cc)), (λ y. absurd (cc))))
    f

freezes_move : (v : View) (x : Life) (edges : List ℕ) (e : Event) → FreezesOf v x edges e → moves e.kind ≡ false
freezes_move v x edges e f = ⊎_elim
    (λ (h : (e.kind ≡ FreezeHead) × (e.place ≡ second_at v.sizes x.index)). ap moves h.0)
    (λ (h : (e.kind ≡ FreezeEdge) × ((y : ℕ) × (stands_in edges y ≡ true) × (e.place ≡ link_at v.sizes y))).
    ap moves h.0)
    f

none_of_kinds : (test : Kind → Bool) (own : List Event) → Every (λ (e : Event). test e.kind ≡ false) own
    → of_kinds test own ≡ 0
none_of_kinds test [] every = refl
none_of_kinds test (e ∷ es) every = let rest = none_of_kinds test es every.1 in rw every.0 (omega (arith, rest))

-- burying begins to wait
pub buried_waiting : (v w : View) (old new : LimboValue) (x : Life) → HasUnlinkedOne v x → IsBuried old new v w x
    → IsWaiting true 0 w new.nodes
buried_waiting v w old new x r b =
    let edges = map index_in b.edges in
    let stays = every_map (FreezesOf v x edges) StaysInPass (freezes_stay v x edges) b.own b.kinds in
    let moved = none_of_kinds moves b.own (every_map (FreezesOf v x edges) (λ (e : Event). moves e.kind ≡ false)
    (freezes_move v x edges) b.own b.kinds) in
    let unmoved = unmoved_on v w b.own moved b.makes r.unmoved in
    record {
      numbered = number_on v w b.own b.makes r.numbered;
      there = there_on v w b.own b.makes r.there;
      pass = pass_on v w b.own stays b.makes r.pass;
      moved = omega (arith, unmoved);
      limbo = b.limbo_of;
    }
