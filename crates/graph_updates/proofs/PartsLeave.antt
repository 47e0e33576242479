-- What a stretch of a call leaves of a hand, by the kinds of its own events: its limbo, its spare node, its pass, its
-- counts, and the graph.
use Rattle.std.proofs.Common.{◌≡◌, ◌≢◌, ◌||◌, ◌⊎◌, ℕ, ◌+◌, ◌<◌, ◌≤◌, Bool, true, false, cond, List, [], ◌∷◌, ◌++◌, map}
use Rattle.std.proofs.Common.{None, Some, Option, inl, inr, refl, ap, ap₂, sym, ◌∙◌, subst, arith, ⊎_elim, ne_eqb}
use mathlib.Core.Logic.{dite}
use native.Mathlib.Decide.{ℕ_discrete}
use Rattle.graph_kinds.specs.Levels.{stands_in}
use Rattle.graph_kinds.specs.History.{Every}
use Rattle.packed_link.specs.Layout.{Sizes, IsLayout}
use Rattle.packed_link.specs.declared.link.Life.{Life}
use Rattle.core_counts.specs.Spending.{AreFinished, GetsNone}
use Rattle.core_counts.proofs.KnownSpentNodes.{got_itself}
use Rattle.core_journal.specs.declared.event.Kind.{Kind}
use Rattle.core_journal.specs.declared.event.Kind.TheVariants.{PopFree, PushFree, FreezeHead, FreezeEdge}
use Rattle.core_journal.specs.declared.event.Kind.TheVariants.{UnlinkVertex, UnlinkEdge, Announce, Withdraw}
use Rattle.core_journal.specs.declared.event.Event.{Event}
use Rattle.core_journal.specs.Changes.{is_idle}
use Rattle.core_journal.specs.Event.{pops, moves, raises}
use Rattle.core_journal.specs.Reuse.{pass_in}
use Rattle.core_journal.specs.State.{Pass}
use Rattle.core_kept.specs.Kept.{IsKept}
use Rattle.core_kept.specs.Nodes.{node_in, IsFrozenToEnd, IsSpentWith}
use Rattle.core_lists.proofs.EventKeepsRest.{one_fresh}
use Rattle.core_rule.specs.Retired.{IsRetired}
use Rattle.core_rule.specs.Stretches.{Leaves, is_of_fresh}
use Rattle.core_rule.specs.declared.view.View.{View}
use Rattle.core_rule.proofs.OwnStretch.{own_chain}
use Rattle.core_stretches.specs.Holdings.{HasGotOnly, IsHeldFresh}
use Rattle.core_stretches.specs.Makes.{IsGraphless, Makes, StaysInPass, of_kinds}
use Rattle.core_stretches.proofs.HoldingsStay.{makes_fresh_by_kind, makes_got, makes_none}
use Rattle.core_stretches.proofs.MakesAddUp.{makes_chain}
use Rattle.core_stretches.proofs.MakesTell.{makes_goes, makes_later, makes_leaves}
use Rattle.epoch_limbo.specs.Limbos.{LimboValue, index_in}
use Rattle.epoch_limbo.proofs.LimboStays.{limbo_still_by_kind}
use Rattle.graph_table.specs.Tokens.{RipeValue}
use Rattle.graph_updates.specs.Burying.{IsIn}
use Rattle.graph_updates.specs.Hands.{HasAllSpent, HoldsNoOther, HoldsSpare, IsRoomyLimbo}
use Rattle.graph_updates.specs.Parts.{IsHelp, LeavesGraph, MakesOnly}
use Rattle.graph_updates.proofs.BurialLists.{every_both, every_map}

-- what holds of each node of a limbo holds of one that is in it
pub in_limbo : (P : ℕ → Type 0) (rs : List RipeValue) → Every (λ (r : RipeValue). P (index_in r)) rs → (y : ℕ)
    → IsIn rs y → P y
in_limbo P [] h y is = absurd (cc)
in_limbo P (r ∷ rs) h y is = dite (ℕ_discrete (index_in r) y)
    (λ same. subst P same h.0)
    (λ apart. in_limbo P rs h.1 y
    (subst (λ (b : Bool). (b || stands_in (map index_in rs) y) ≡ true) (ne_eqb (index_in r) y apart) is))

-- each vertex that a token spent is frozen to its end, where the limbo has all that it spent
finished : (limbo : LimboValue) (v : View) → IsRoomyLimbo limbo v → HasAllSpent limbo v
    → AreFinished v.sizes v.front v.number None
finished limbo v l h = record {
  each = λ y _ spent closed. in_limbo
      (λ (k : ℕ). (node_in v.sizes v.front k).vertex ≡ true → IsFrozenToEnd v.sizes v.front k) limbo.nodes
      (every_map (λ (r : RipeValue). IsRetired None v r.life r.stamp)
      (λ (r : RipeValue). (node_in v.sizes v.front (index_in r)).vertex ≡ true → IsFrozenToEnd v.sizes v.front
      (index_in r))
      (λ r p. p.own_list) limbo.nodes l.of.each) y
      (h.each y (record { spent = spent.spent; mine = spent.mine })) spent.vertex;
}

pub got_none : (limbo : LimboValue) (v : View) → IsRoomyLimbo limbo v → HasAllSpent limbo v
    → HasGotOnly v.front v None []
got_none limbo v l h = got_itself v.sizes v.front v.number None (finished limbo v l h) tt

-- an event by which a token gets no spent node and gives none back
pub record IsCalm (e : Event) : Type 0 where
  pub gets : GetsNone None e
  pub gives : e.kind ≢ PushFree

pub spent_before : (v w : View) (y : ℕ) → w.sizes ≡ v.sizes → w.number ≡ v.number
    → IsSpentWith w.sizes v.front w.number y → IsSpentWith v.sizes v.front v.number y
spent_before v w y s n h = subst (λ (z : Sizes). IsSpentWith z v.front v.number y) s
    (subst (λ (k : ℕ). IsSpentWith w.sizes v.front k y) n h)

-- what is spent now was spent before, where the token got none
old_spent : (v w : View) (own : List Event) → Makes v own w → HasGotOnly v.front w None [] → (y : ℕ)
    → IsSpentWith w.sizes w.front w.number y → IsSpentWith v.sizes v.front v.number y
old_spent v w own makes got y h =
    let later = makes_later v w own makes in
    spent_before v w y later.sizes later.number
    (⊎_elim (λ (a : IsSpentWith w.sizes v.front w.number y ⊎ (stands_in [] y ≡ true)). ⊎_elim
    (λ (b : IsSpentWith w.sizes v.front w.number y). b) (λ (b : stands_in [] y ≡ true). absurd (cc)) a)
    (λ (a : ⊥). absurd a) (got.old y h))

-- none of the own events is of some kinds
pub no_kinds : (test : Kind → Bool) (own : List Event) → Every (λ (e : Event). test e.kind ≡ false) own
    → of_kinds test own ≡ 0
no_kinds test [] h = refl
no_kinds test (e ∷ es) h =
    let k = no_kinds test es h.1 in
    let first = ap (λ (b : Bool). cond {A = ℕ} b 1 0) h.0 in
    omega (arith, k, first)

-- of both of two stretches
pub kinds_both : (test : Kind → Bool) (es ds : List Event)
    → of_kinds test (es ++ ds) ≡ of_kinds test es + of_kinds test ds
kinds_both test [] ds = omega arith
kinds_both test (e ∷ es) ds =
    let k = kinds_both test es ds in
    omega (arith, k)

module _ (v w : View) (own : List Event) (z : IsLayout v.sizes) (makes : Makes v own w) where
  pub still_there : v.number < v.sizes.callers → w.number < w.sizes.callers
  still_there low =
      let later = makes_later v w own makes in
      let n = later.number in
      let s = ap (λ (q : Sizes). q.callers) later.sizes in
      omega (arith, n, s, low)

  pub still_room : (room : ℕ) → v.sizes.nodes ≤ room → w.sizes.nodes ≤ room
  still_room room low =
      let later = makes_later v w own makes in
      let s = ap (λ (q : Sizes). q.nodes) later.sizes in
      omega (arith, s, low)

  pub still_numbered : v.numbered ≡ true → w.numbered ≡ true
  still_numbered has = (makes_later v w own makes).numbered ∙ has

  pub still_layout : IsLayout w.sizes
  still_layout = subst IsLayout (sym (makes_later v w own makes).sizes) z

  -- a limbo, where no node is given back
  pub limbo_goes : Every (λ (e : Event). e.kind ≢ PushFree) own → (limbo : LimboValue) → IsRoomyLimbo limbo v
      → IsRoomyLimbo limbo w
  limbo_goes none limbo h = record {
    of = limbo_still_by_kind None v w own z makes limbo.nodes none h.of;
    room = still_room limbo.room h.room;
  }

  -- all that the token spent is in it still
  pub all_goes : Every IsCalm own → (limbo : LimboValue) → IsRoomyLimbo limbo v → HasAllSpent limbo v
      → HasAllSpent limbo w
  all_goes calm limbo l h =
      let got = makes_got v w own z v.front None [] (every_map IsCalm (GetsNone None) (λ e c. c.gets) own calm) makes
      (got_none limbo v l h) in
      record { each = λ y spent. h.each y (old_spent v w own makes got y spent) }

  -- the spare node is fresh still
  pub spare_goes : Every (λ (e : Event). is_of_fresh e.kind ≡ false) own → (spare : Option Life) → HoldsSpare spare v
      → HoldsSpare spare w
  spare_goes plain None h = tt
  spare_goes plain (Some x) h = (makes_fresh_by_kind v w own z x plain makes h).0

  -- and the only one
  pub other_goes : Every (λ (e : Event). e.kind ≢ PopFree) own → Every (λ (e : Event). is_of_fresh e.kind ≡ false) own
      → (spare : Option Life) → HoldsSpare spare v → HoldsNoOther spare v → HoldsNoOther spare w
  other_goes none plain None held only = makes_none v w own z none makes only
  other_goes none plain (Some x) held only = λ y fresh.
      let now = (makes_fresh_by_kind v w own z x plain makes held).0.fresh in
      let kept = (makes_later v w own makes).kept in
      one_fresh w.sizes w.front kept w.number y x.index fresh now

  pub pass_goes : (b : Bool) → Every StaysInPass own → (pass_in v.sizes v.front v.number).is_open ≡ b
      → (pass_in w.sizes w.front w.number).is_open ≡ b
  pass_goes b stays is =
      let g = makes_goes v w own stays makes in
      let t = makes_later v w own makes in
      ap₂ (λ (s : Sizes) (n : ℕ). (pass_in s w.front n).is_open) t.sizes t.number
      ∙ (ap (λ (p : Pass). p.is_open) g.pass ∙ is)

-- a fresh node is the only one
pub only_fresh : (v : View) (x : Life) → IsKept v.sizes v.front → IsHeldFresh v x → HoldsNoOther (Some x) v
only_fresh v x kept held y fresh = one_fresh v.sizes v.front kept v.number y x.index fresh held.fresh

-- what events that help leave
pub help_pops : (k : Kind) → IsHelp k → pops k ≡ false
help_pops k h = ⊎_elim (λ is. ap pops is) (λ r. ⊎_elim (λ is. ap pops is) (λ s. ⊎_elim (λ is. ap pops is)
    (λ is. ap pops is) s) r) h

pub help_moves : (k : Kind) → IsHelp k → moves k ≡ false
help_moves k h = ⊎_elim (λ is. ap moves is) (λ r. ⊎_elim (λ is. ap moves is) (λ s. ⊎_elim (λ is. ap moves is)
    (λ is. ap moves is) s) r) h

pub help_raises : (k : Kind) → IsHelp k → raises k ≡ false
help_raises k h = ⊎_elim (λ is. ap raises is) (λ r. ⊎_elim (λ is. ap raises is) (λ s. ⊎_elim (λ is. ap raises is)
    (λ is. ap raises is) s) r) h

pub help_fresh : (k : Kind) → IsHelp k → is_of_fresh k ≡ false
help_fresh k h = ⊎_elim (λ is. ap is_of_fresh is) (λ r. ⊎_elim (λ is. ap is_of_fresh is)
    (λ s. ⊎_elim (λ is. ap is_of_fresh is) (λ is. ap is_of_fresh is) s) r) h

pub help_graphless : (e : Event) → IsHelp e.kind → IsGraphless e
help_graphless e h = ⊎_elim (λ is. inl (ap is_idle is)) (λ r. ⊎_elim (λ is. inl (ap is_idle is))
    (λ s. ⊎_elim (λ is. inl (ap is_idle is)) (λ is. inr is) s) r) h

-- a kind that is of one of four isn't another
is_one_of : (k a b c d e : Kind) → (k ≡ a) ⊎ ((k ≡ b) ⊎ ((k ≡ c) ⊎ (k ≡ d))) → (e ≡ a → ⊥) → (e ≡ b → ⊥)
    → (e ≡ c → ⊥) → (e ≡ d → ⊥) → k ≢ e
is_one_of k a b c d e h na nb nc nd is = ⊎_elim (λ x. na (sym is ∙ x)) (λ r. ⊎_elim (λ x. nb (sym is ∙ x))
    (λ s. ⊎_elim (λ x. nc (sym is ∙ x)) (λ x. nd (sym is ∙ x)) s) r) h

pub help_not : (k e : Kind) → IsHelp k → (e ≡ UnlinkVertex → ⊥) → (e ≡ UnlinkEdge → ⊥) → (e ≡ FreezeHead → ⊥)
    → (e ≡ FreezeEdge → ⊥) → k ≢ e
help_not k e h = is_one_of k UnlinkVertex UnlinkEdge FreezeHead FreezeEdge e h

pub help_gives : (k : Kind) → IsHelp k → k ≢ PushFree
help_gives k h = help_not k PushFree h (λ x. absurd (cc)) (λ x. absurd (cc)) (λ x. absurd (cc)) (λ x. absurd (cc))

pub help_takes : (k : Kind) → IsHelp k → k ≢ PopFree
help_takes k h = help_not k PopFree h (λ x. absurd (cc)) (λ x. absurd (cc)) (λ x. absurd (cc)) (λ x. absurd (cc))

pub help_stays : (e : Event) → IsHelp e.kind → StaysInPass e
help_stays e h = (
  help_not e.kind Announce h (λ x. absurd (cc)) (λ x. absurd (cc)) (λ x. absurd (cc)) (λ x. absurd (cc)),
  help_not e.kind Withdraw h (λ x. absurd (cc)) (λ x. absurd (cc)) (λ x. absurd (cc)) (λ x. absurd (cc)),
)

-- of each of these events
pub each_kind : (P Q : Kind → Type 0) → ((k : Kind) → P k → Q k) → (own : List Event) → Every
    (λ (e : Event). P e.kind) own → Every (λ (e : Event). Q e.kind) own
each_kind P Q f own h = every_map (λ (e : Event). P e.kind) (λ (e : Event). Q e.kind) (λ e p. f e.kind p) own h

-- a stretch that helps leaves the graph
pub helps_leave : (r : Bool) (v w : View) → MakesOnly IsHelp v w → LeavesGraph r 0 0 v w
helps_leave r v w h = record {
  own = h.own;
  makes = h.makes;
  leaves = λ z. makes_leaves v w h.own z (every_map (λ (e : Event). IsHelp e.kind) IsGraphless help_graphless h.own
      h.are) h.makes;
  takes = let n = no_kinds pops h.own (each_kind IsHelp (λ k. pops k ≡ false) help_pops h.own h.are) in
      omega (arith, n);
  shifts = let n = no_kinds moves h.own (each_kind IsHelp (λ k. moves k ≡ false) help_moves h.own h.are) in
      omega (arith, n);
  raised = λ _. no_kinds raises h.own (each_kind IsHelp (λ k. raises k ≡ false) help_raises h.own h.are);
}

-- stretches one behind another
pub only_chain : (P : Kind → Type 0) (u v w : View) → MakesOnly P u v → MakesOnly P v w → MakesOnly P u w
only_chain P u v w g h = record {
  own = g.own ++ h.own;
  are = every_both (λ (e : Event). P e.kind) g.own h.own g.are h.are;
  makes = makes_chain u v w g.own h.own g.makes h.makes;
}

pub leaves_chain : (r : Bool) (a b c d : ℕ) (u v w : View) → LeavesGraph r a b u v → LeavesGraph r c d v w
    → LeavesGraph r (a + c) (b + d) u w
leaves_chain r a b c d u v w g h =
    let p = kinds_both pops g.own h.own in
    let q = kinds_both moves g.own h.own in
    let s = kinds_both raises g.own h.own in
    let gt = g.takes in
    let ht = h.takes in
    let gs = g.shifts in
    let hs = h.shifts in
    record {
      own = g.own ++ h.own;
      makes = makes_chain u v w g.own h.own g.makes h.makes;
      leaves = λ z.
          let one = makes_later u v g.own g.makes in
          let two = makes_later v w h.own h.makes in
          own_chain Leaves u v w one.number two.grows (g.leaves z)
          (h.leaves (subst IsLayout (sym one.sizes) z));
      takes = omega (arith, p, gt, ht);
      shifts = omega (arith, q, gs, hs);
      raised = λ is. let gr = g.raised is in let hr = h.raised is in omega (arith, s, gr, hr);
    }

-- more may be taken and moved
pub leaves_less : (r : Bool) (a b c d : ℕ) (v w : View) → a ≤ c → b ≤ d → LeavesGraph r a b v w
    → LeavesGraph r c d v w
leaves_less r a b c d v w ac bd h =
    let t = h.takes in
    let s = h.shifts in
    record {
      own = h.own;
      makes = h.makes;
      leaves = h.leaves;
      takes = omega (arith, t, ac);
      shifts = omega (arith, s, bd);
      raised = h.raised;
    }

-- a stretch that raises nothing is one of a call that may raise
pub leaves_raising : (r : Bool) (a b : ℕ) (v w : View) → LeavesGraph r a b v w → LeavesGraph true a b v w
leaves_raising r a b v w h = record {
  own = h.own;
  makes = h.makes;
  leaves = h.leaves;
  takes = h.takes;
  shifts = h.shifts;
  raised = λ is. absurd (cc);
}

pub leaves_any : (r : Bool) (a b : ℕ) (v w : View) → LeavesGraph false a b v w → LeavesGraph r a b v w
leaves_any r a b v w h = record {
  own = h.own;
  makes = h.makes;
  leaves = h.leaves;
  takes = h.takes;
  shifts = h.shifts;
  raised = λ _. h.raised refl;
}
