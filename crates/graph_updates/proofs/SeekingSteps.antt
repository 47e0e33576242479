-- A walk that helps, step by step: what it finds marked is unlinked and buried, and the position goes on.
use Rattle.std.proofs.Common.{◌≡◌, ◌≢◌, ◌⊎◌, ◌||◌, ℕ, ◌+◌, ◌-◌, ◌<◌, ◌≤◌, Bool, true, false, List, [], ◌∷◌, ◌++◌}
use Rattle.std.proofs.Common.{length, map}
use Rattle.std.proofs.Common.{None, Some, inl, inr, refl, ap, sym, ◌∙◌, subst, arith, ⊎_elim, ne_eqb, length-append}
use mathlib.Core.Logic.{dite}
use native.Mathlib.Decide.{ℕ_discrete}
use Rattle.graph_kinds.specs.Levels.{stands_in}
use Rattle.packed_link.specs.Layout.{IsLayout, bucket_at, link_at, second_at}
use Rattle.packed_link.specs.declared.link.Life.{Life}
use Rattle.core_journal.specs.declared.event.Kind.TheVariants.{FreezeHead, FreezeEdge}
use Rattle.core_journal.specs.declared.event.Event.{Event}
use Rattle.core_journal.specs.Prefix.{IsPrefix}
use Rattle.core_journal.proofs.ForeignAddsUp.{adds_up}
use Rattle.core_journal.proofs.Lists.{prefix_length}
use Rattle.core_kept.specs.Nodes.{node_in, IsSpentWith}
use Rattle.core_lists.proofs.ChangedByAnother.{change_counts}
use Rattle.core_rule.specs.Fronts.{IsVertexLink}
use Rattle.core_rule.specs.OwnEvents.{unlink_vertex_event}
use Rattle.core_rule.specs.Retired.{IsRetired}
use Rattle.core_rule.specs.Stretches.{HasPass, spent_since}
use Rattle.core_rule.specs.Views.{GoesOn, Steps}
use Rattle.core_rule.specs.declared.view.View.{View}
use Rattle.core_rule.proofs.OwnStretch.{goes_opened}
use Rattle.core_rule.proofs.SpentSince.{spent_since_bound, spent_since_grows, unlink_counts}
use Rattle.core_rule.proofs.ViewShows.{step_goes_on, vertex_still}
use Rattle.core_stretches.specs.Makes.{Makes, StaysInPass}
use Rattle.core_stretches.proofs.HoldingsStay.{makes_got_unlink}
use Rattle.core_stretches.proofs.MakesTell.{makes_goes, makes_later}
use Rattle.epoch_limbo.specs.Limbos.{LimboValue, index_in}
use Rattle.epoch_limbo.proofs.LimboStays.{limbo_still_by_kind}
use Rattle.graph_table.specs.Tokens.{IsOf, RipeValue, TableValue, TokenValue}
use Rattle.vertex_list.specs.Changes.{IsLost, IsUnlinked}
use Rattle.vertex_list.specs.Positions.{IsPosition, PositionValue}
use Rattle.vertex_list.proofs.PositionsGoOn.{position_leads, position_makes}
use Rattle.graph_updates.specs.Burying.{FreezesOf, HasAllSpentBut, IsBuried, IsToBury}
use Rattle.graph_updates.specs.Hands.{HasAllSpent, IsRoomyLimbo}
use Rattle.graph_updates.specs.Parts.{Fell, Helps, IsHelp, MakesOnly}
use Rattle.graph_updates.proofs.BurialLists.{every_map}
use Rattle.graph_updates.proofs.PartsLeave.{all_goes, got_none, help_stays, in_limbo, limbo_goes, only_chain, pass_goes}
use Rattle.graph_updates.proofs.PartsLeave.{spent_before, still_layout, still_room}

-- a walk that helps, since a view
pub record IsSeeking (g : TableValue) (key : ℕ) (old now : LimboValue) (v : View) (t : TokenValue) (p : PositionValue)
    : Type 0 where
  pub of : IsOf g t
  pub helped : Helps old now v t.view
  pub position : IsPosition false t.view p
  pub key_is : p.key ≡ key
  pub since : IsPrefix v.front p.moment

-- loads help
only_looks : (v w : View) → Makes v [] w → MakesOnly IsHelp v w
only_looks v w h = record { own = []; are = tt; makes = h }

-- one stretch that helps behind another
pub helps_chain : (a b c : LimboValue) (u v w : View) → Helps a b u v → Helps b c v w → Helps a c u w
helps_chain a b c u v w g h =
    let gm = g.more in
    let hm = h.more in
    record {
      only = only_chain IsHelp u v w g.only h.only;
      limbo = h.limbo;
      all = λ s. h.all (g.all s);
      more = omega (arith, gm, hm);
    }

pub helps_look : (limbo : LimboValue) (v w : View) → IsLayout v.sizes → IsRoomyLimbo limbo v → Makes v [] w
    → Helps limbo limbo v w
helps_look limbo v w z l h = record {
  only = only_looks v w h;
  limbo = limbo_goes v w [] z h tt limbo l;
  all = all_goes v w [] z h tt limbo l;
  more = omega arith;
}

-- the pass is open still
pub helps_pass : (v w : View) → IsLayout v.sizes → MakesOnly IsHelp v w → HasPass v → HasPass w
helps_pass v w z h = pass_goes v w h.own z h.makes true
    (every_map (λ (e : Event). IsHelp e.kind) StaysInPass help_stays h.own h.are)

pub helps_goes : (v w : View) → MakesOnly IsHelp v w → GoesOn v w
helps_goes v w h = makes_goes v w h.own (every_map (λ (e : Event). IsHelp e.kind) StaysInPass help_stays h.own h.are)
    h.makes

-- another number isn't among one
in_one : (x y : ℕ) → x ≢ y → stands_in (x ∷ []) y ≡ true → ⊥
in_one x y apart is = absurd (let no : true ≡ false = sym is ∙ ap (λ (b : Bool). b || false) (ne_eqb x y apart) in cc)

-- a vertex is unlinked: it may be buried, and the limbo has all but it
module _ (v w : View) (p q : PositionValue) (x : Life) (z : IsLayout v.sizes) (u : IsUnlinked p v w x q) where
  abbrev unlink_events : List Event
  unlink_events = unlink_vertex_event v p.place p.word u.next x ∷ []

  pub unlink_only : MakesOnly IsHelp v w
  unlink_only = record { own = unlink_events; are = (inl refl, tt); makes = u.makes }

  pub unlink_cuts : (limbo : LimboValue) → IsRoomyLimbo limbo v → IsToBury limbo w x
  unlink_cuts limbo l = record {
    vertex = u.spent;
    unclosed = u.unclosed;
    limbo_of = limbo_still_by_kind None v w unlink_events z u.makes limbo.nodes ((λ is. absurd (cc)), tt) l.of;
    out = every_map (λ (r : RipeValue). IsRetired None v r.life r.stamp) (λ (r : RipeValue). index_in r ≢ x.index)
        (λ r ret is. u.new (subst (λ (k : ℕ). IsSpentWith v.sizes v.front v.number k) is ret.stamped.spent))
        limbo.nodes l.of.each;
    room = still_room v w unlink_events z u.makes limbo.room l.room;
  }

  pub unlink_but : (limbo : LimboValue) → IsRoomyLimbo limbo v → HasAllSpent limbo v
      → HasAllSpentBut x.index w limbo.nodes
  unlink_but limbo l h y spent other =
      let later = makes_later v w unlink_events u.makes in
      let got = makes_got_unlink v w (unlink_vertex_event v p.place p.word u.next x) z v.front None [] refl u.makes
      (got_none limbo v l h) in
      h.each y (spent_before v w y later.sizes later.number
      (⊎_elim (λ (a : IsSpentWith w.sizes v.front w.number y ⊎ (stands_in (x.index ∷ []) y ≡ true)). ⊎_elim
      (λ (b : IsSpentWith w.sizes v.front w.number y). b)
      (λ (b : stands_in (x.index ∷ []) y ≡ true). absurd (dite (ℕ_discrete x.index y)
      (λ same. other (sym same)) (λ apart. in_one x.index y apart b)))
      a)
      (λ (a : ⊥). absurd a) (got.old y spent)))

  -- and one more node is spent since the pass began
  pub unlink_more : HasPass v → spent_since v + 1 ≤ spent_since w
  unlink_more opened =
      let e = unlink_vertex_event v p.place p.word u.next x in
      let m = u.makes.steps.0 in
      let t : Steps v (Some e) m = u.makes.steps.2 in
      let rest : Steps m None w = u.makes.steps.3 in
      let g = step_goes_on v m (Some e) t ((λ is. absurd (cc)), (λ is. absurd (cc))) in
      let k = step_goes_on m w None rest tt in
      let zm : IsLayout m.sizes = subst IsLayout (sym (ap (λ (y : View). y.sizes) g.view)) z in
      let first = unlink_counts v m e z t refl opened refl in
      let second = spent_since_grows m w zm k (goes_opened v m g opened) in
      omega (arith, first, second)

-- a vertex is buried: the position goes on
module _ (old new : LimboValue) (v w : View) (x : Life) (z : IsLayout v.sizes) (b : IsBuried old new v w x) where
  freezes : (e : Event) → FreezesOf v x (map index_in b.edges) e → IsHelp e.kind
  freezes e f = ⊎_elim
      (λ (h : (e.kind ≡ FreezeHead) × (e.place ≡ second_at v.sizes x.index)). inr (inr (inl h.0)))
      (λ (h : (e.kind ≡ FreezeEdge) × ((y : ℕ) × (stands_in (map index_in b.edges) y ≡ true)
      × (e.place ≡ link_at v.sizes y))). inr (inr (inr h.0)))
      f

  pub bury_only : MakesOnly IsHelp v w
  bury_only = record {
    own = b.own;
    are = every_map (FreezesOf v x (map index_in b.edges)) (λ (e : Event). IsHelp e.kind) freezes b.own b.kinds;
    makes = b.makes;
  }

  apart_one : (p : PositionValue) → IsPosition false v p → (e : Event) → FreezesOf v x (map index_in b.edges) e
      → e.place ≢ p.place
  apart_one p h e f same = ⊎_elim
      (λ (a : (j : ℕ) × (j < v.sizes.buckets) × (p.place ≡ bucket_at v.sizes j)).
      let low = a.1 in
      let at = a.2 in
      ⊎_elim
      (λ (k : (e.kind ≡ FreezeHead) × (e.place ≡ second_at v.sizes x.index)).
      let is = k.1 in absurd (omega (arith, low, at, is, same)))
      (λ (k : (e.kind ≡ FreezeEdge) × ((y : ℕ) × (stands_in (map index_in b.edges) y ≡ true)
      × (e.place ≡ link_at v.sizes y))).
      let is = k.1.2 in absurd (omega (arith, low, at, is, same)))
      f)
      (λ (a : (y : Life) × IsVertexLink v p.place y).
      let at = a.1.place_is in
      ⊎_elim
      (λ (k : (e.kind ≡ FreezeHead) × (e.place ≡ second_at v.sizes x.index)).
      let is = k.1 in absurd (omega (arith, at, is, same)))
      (λ (k : (e.kind ≡ FreezeEdge) × ((y : ℕ) × (stands_in (map index_in b.edges) y ≡ true)
      × (e.place ≡ link_at v.sizes y))).
      let is = k.1.2 in
      let one : k.1.0 ≡ a.0.index = omega (arith, at, is, same) in
      let edge = in_limbo (λ (i : ℕ). (node_in w.sizes w.front i).vertex ≡ false) b.edges b.are_edges k.1.0 k.1.1 in
      let met = vertex_still v w z (helps_goes v w bury_only) a.0 a.1.met in
      let vertex : (node_in w.sizes w.front k.1.0).vertex ≡ true = ap
      (λ (i : ℕ). (node_in w.sizes w.front i).vertex) one ∙ met.vertex in
      absurd (cc))
      f)
      (position_leads false v p z h)

  pub bury_position : (p : PositionValue) → IsPosition false v p → IsPosition false w p
  bury_position p h = position_makes false v w b.own p
      (every_map (λ (e : Event). IsHelp e.kind) StaysInPass help_stays b.own
      (every_map (FreezesOf v x (map index_in b.edges)) (λ (e : Event). IsHelp e.kind) freezes b.own b.kinds))
      (every_map (FreezesOf v x (map index_in b.edges)) (λ (e : Event). e.place ≢ p.place) (apart_one p h) b.own
      b.kinds) b.makes h

-- what a bury leaves
module _ (old new : LimboValue) (v w : View) (x : Life) (z : IsLayout v.sizes) (b : IsBuried old new v w x) where
  pub bury_roomy : v.sizes.nodes ≤ old.room → IsRoomyLimbo new w
  bury_roomy room = record {
    of = b.limbo_of;
    room = let r = b.room in let s = still_room v w b.own z b.makes old.room room in omega (arith, r, s);
  }

  pub bury_longer : length old.nodes ≤ length new.nodes
  bury_longer =
      let r : RipeValue = record { life = x; stamp = b.stamp } in
      let n : length new.nodes ≡ length old.nodes + length (b.edges ++ r ∷ []) = ap length b.nodes
      ∙ length-append old.nodes (b.edges ++ r ∷ []) in
      omega (arith, n)

-- a marked vertex that a walk came to is unlinked and buried
module _ (v w y : View) (p q : PositionValue) (x : Life) (old new : LimboValue) (z : IsLayout v.sizes)
    (u : IsUnlinked p v w x q) (b : IsBuried old new w y x) where
  pub cleared_helps : IsRoomyLimbo old v → Helps old new v y
  cleared_helps l =
      let e = unlink_vertex_event v p.place p.word u.next x in
      let zw = still_layout v w (e ∷ []) z u.makes in
      let room = still_room v w (e ∷ []) z u.makes old.room l.room in
      record {
        only = only_chain IsHelp v w y (unlink_only v w p q x z u) (bury_only old new w y x zw b);
        limbo = bury_roomy old new w y x zw b room;
        all = λ s. record { each = b.all (unlink_but v w p q x z u old l s) };
        more = bury_longer old new w y x zw b;
      }

  pub cleared_smaller : HasPass v → v.sizes.nodes ≡ y.sizes.nodes
      → y.sizes.nodes - spent_since y < v.sizes.nodes - spent_since v
  cleared_smaller opened same =
      let e = unlink_vertex_event v p.place p.word u.next x in
      let zw = still_layout v w (e ∷ []) z u.makes in
      let first = unlink_more v w p q x z u opened in
      let opened_w = helps_pass v w z (unlink_only v w p q x z u) opened in
      let second = spent_since_grows w y zw (helps_goes w y (bury_only old new w y x zw b)) opened_w in
      let bound = spent_since_bound y in
      omega (arith, first, second, bound, same)

-- a lost unlink: a foreign event fell in the walk
pub lost_fell : (v w : View) (p : PositionValue) (at : View) → IsPrefix v.front p.moment → IsPrefix p.moment w.front
    → IsLost p at w → Fell 1 w.number v.front w.front
lost_fell v w p at since until lost =
    let a = prefix_length v.front p.moment since in
    let b = prefix_length p.moment w.front until in
    let one = change_counts p.moment w.front w.number p.place lost.changed in
    let sum = adds_up w.front w.number (length v.front) (length p.moment) (length w.front) a b in
    record { least = omega (arith, one, sum) }

-- the moment of a position is behind its view
pub moment_before : (v : View) (p : PositionValue) → IsPosition false v p → IsPrefix p.moment v.front
moment_before v p h = subst (λ (j : List Event). IsPrefix j v.front) h.at h.goes.grows
