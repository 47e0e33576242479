-- What a stretch of a token's events leaves of a caller at work: its limbo, its spare node, its counts and its pass.
use Rattle.std.proofs.Common.{◌≡◌, ◌≢◌, ◌||◌, ℕ, ◌+◌, ◌<◌, ◌≤◌, Bool, true, false, cond, List, [], ◌∷◌, map, None, Some}
use Rattle.std.proofs.Common.{refl, ap, ap₂, ◌∙◌, subst, arith, ⊎_elim, ◌⊎◌, ne_eqb}
use mathlib.Core.Logic.{dite}
use native.Mathlib.Decide.{ℕ_discrete}
use Rattle.graph_kinds.specs.Levels.{stands_in}
use Rattle.graph_kinds.specs.History.{Every}
use Rattle.packed_link.specs.Layout.{Sizes, IsLayout}
use Rattle.core_counts.specs.Spending.{AreFinished, GetsNone}
use Rattle.core_counts.proofs.KnownSpentNodes.{got_itself}
use Rattle.core_journal.specs.declared.event.Kind.{Kind}
use Rattle.core_journal.specs.declared.event.Kind.TheVariants.{PopFree, PushFree}
use Rattle.core_journal.specs.declared.event.Event.{Event}
use Rattle.core_journal.specs.Event.{pops, pushes, moves}
use Rattle.core_journal.specs.Reuse.{pass_in}
use Rattle.core_journal.specs.State.{Pass}
use Rattle.core_kept.specs.Nodes.{node_in, IsFrozenToEnd, IsSpentWith}
use Rattle.core_rule.specs.Retired.{IsRetired}
use Rattle.core_rule.specs.Stretches.{HasPass, is_of_fresh}
use Rattle.core_rule.specs.declared.view.View.{View}
use Rattle.core_stretches.specs.Holdings.{HasNoPass, HasGotOnly}
use Rattle.core_stretches.specs.Makes.{Makes, StaysInPass, of_kinds}
use Rattle.core_stretches.proofs.HoldingsStay.{makes_fresh_by_kind, makes_got, makes_none}
use Rattle.core_stretches.proofs.MakesTell.{makes_counts, makes_goes, makes_later}
use Rattle.epoch_limbo.specs.Limbos.{LimboValue, index_in}
use Rattle.epoch_limbo.proofs.LimboStays.{limbo_still_by_kind}
use Rattle.graph_table.specs.Tokens.{RipeValue}
use Rattle.graph_updates.specs.Burying.{IsIn}
use Rattle.free_list_rounds.specs.Rounds.{CountsGo, LimboHoldsAll, SparesGo, WorkGoes}

pub every_as : {A : Type 0} (P Q : A → Type 0) → ((x : A) → P x → Q x) → (xs : List A) → Every P xs → Every Q xs
every_as P Q f [] h = tt
every_as P Q f (x ∷ xs) h = (f x h.0, every_as P Q f xs h.1)

-- what holds of each node of a limbo holds of one that is in it
pub in_limbo : (P : ℕ → Type 0) (rs : List RipeValue) → Every (λ (r : RipeValue). P (index_in r)) rs → (y : ℕ)
    → IsIn rs y → P y
in_limbo P [] h y is = absurd (cc)
in_limbo P (r ∷ rs) h y is = dite (ℕ_discrete (index_in r) y)
    (λ same. subst P same h.0)
    (λ apart. in_limbo P rs h.1 y
    (subst (λ (b : Bool). (b || stands_in (map index_in rs) y) ≡ true) (ne_eqb (index_in r) y apart) is))

-- each vertex that a token at work spent is frozen to its end
pub finished : (limbo : LimboValue) (v : View) → LimboHoldsAll limbo v → AreFinished v.sizes v.front v.number None
finished limbo v h = record {
  each = λ y _ spent closed. in_limbo
      (λ (k : ℕ). (node_in v.sizes v.front k).vertex ≡ true → IsFrozenToEnd v.sizes v.front k) limbo.nodes
      (every_as (λ (r : RipeValue). IsRetired None v r.life r.stamp)
      (λ (r : RipeValue). (node_in v.sizes v.front (index_in r)).vertex ≡ true → IsFrozenToEnd v.sizes v.front
      (index_in r))
      (λ r p. p.own_list) limbo.nodes h.roomy.of.each) y
      (h.all.each y (record { spent = spent.spent; mine = spent.mine })) spent.vertex;
}

pub got_none : (limbo : LimboValue) (v : View) → LimboHoldsAll limbo v → HasGotOnly v.front v None []
got_none limbo v h = got_itself v.sizes v.front v.number None (finished limbo v h) tt

-- an event by which a limbo keeps all
pub record IsCalm (e : Event) : Type 0 where
  pub gets : GetsNone None e
  pub gives : e.kind ≢ PushFree

pub spent_before : (v w : View) (y : ℕ) → w.sizes ≡ v.sizes → w.number ≡ v.number
    → IsSpentWith w.sizes v.front w.number y → IsSpentWith v.sizes v.front v.number y
spent_before v w y s n h = subst (λ (z : Sizes). IsSpentWith z v.front v.number y) s
    (subst (λ (k : ℕ). IsSpentWith w.sizes v.front k y) n h)

-- what is spent now was spent before, where the token got none
pub old_spent : (v w : View) (own : List Event) → Makes v own w → HasGotOnly v.front w None [] → (y : ℕ)
    → IsSpentWith w.sizes w.front w.number y → IsSpentWith v.sizes v.front v.number y
old_spent v w own makes got y h =
    let later = makes_later v w own makes in
    spent_before v w y later.sizes later.number
    (⊎_elim (λ (a : IsSpentWith w.sizes v.front w.number y ⊎ (stands_in [] y ≡ true)). ⊎_elim
    (λ (b : IsSpentWith w.sizes v.front w.number y). b) (λ (b : stands_in [] y ≡ true). absurd (cc)) a)
    (λ (a : ⊥). absurd a) (got.old y h))

module _ (v w : View) (own : List Event) (z : IsLayout v.sizes) (makes : Makes v own w) where
  pub still_there : v.number < v.sizes.callers → w.number < w.sizes.callers
  still_there low =
      let later = makes_later v w own makes in
      let n = later.number in
      let s = ap (λ (q : Sizes). q.callers) later.sizes in
      omega (arith, n, s, low)

  pub still_room : (room : ℕ) → v.sizes.nodes ≤ room → w.sizes.nodes ≤ room
  still_room room low =
      let later = makes_later v w own makes in
      let s = ap (λ (q : Sizes). q.nodes) later.sizes in
      omega (arith, s, low)

  pub work_goes : Every IsCalm own → WorkGoes v w
  work_goes calm limbo h =
      let got = makes_got v w own z v.front None [] (every_as IsCalm (GetsNone None) (λ e c. c.gets) own calm) makes
      (got_none limbo v h) in
      record {
        there = still_there h.there;
        roomy = record {
          of = limbo_still_by_kind None v w own z makes limbo.nodes
              (every_as IsCalm (λ (e : Event). e.kind ≢ PushFree) (λ e c. c.gives) own calm) h.roomy.of;
          room = still_room limbo.room h.roomy.room;
        };
        all = record { each = λ y spent. h.all.each y (old_spent v w own makes got y spent) };
      }

  pub spares_go : Every (λ (e : Event). (e.kind ≢ PopFree) × (is_of_fresh e.kind ≡ false)) own → SparesGo v w
  spares_go plain None h = makes_none v w own z (every_as
      (λ (e : Event). (e.kind ≢ PopFree) × (is_of_fresh e.kind ≡ false)) (λ (e : Event). e.kind ≢ PopFree)
      (λ e c. c.0) own plain) makes h
  spares_go plain (Some x) h = (makes_fresh_by_kind v w own z x (every_as
      (λ (e : Event). (e.kind ≢ PopFree) × (is_of_fresh e.kind ≡ false)) (λ (e : Event). is_of_fresh e.kind ≡ false)
      (λ e c. c.1) own plain) makes h).0

  pub counts_go : (takes gives shifts : ℕ) → of_kinds pops own ≡ takes → of_kinds pushes own ≡ gives
      → of_kinds moves own ≤ shifts → CountsGo takes gives shifts v w
  counts_go takes gives shifts takes_are gives_are few =
      let p = makes_counts pops v w own makes in
      let q = makes_counts pushes v w own makes in
      let r = makes_counts moves v w own makes in
      record {
        taken = omega (arith, p, takes_are);
        given = omega (arith, q, gives_are);
        moved = omega (arith, r, few);
      }

  pub pass_goes : (b : Bool) → Every StaysInPass own → (pass_in v.sizes v.front v.number).is_open ≡ b
      → (pass_in w.sizes w.front w.number).is_open ≡ b
  pass_goes b stays is =
      let g = makes_goes v w own stays makes in
      let t = makes_later v w own makes in
      ap₂ (λ (s : Sizes) (n : ℕ). (pass_in s w.front n).is_open) t.sizes t.number
      ∙ (ap (λ (p : Pass). p.is_open) g.pass ∙ is)

  pub numbered_goes : v.numbered ≡ true → w.numbered ≡ true
  numbered_goes has = (makes_later v w own makes).numbered ∙ has

-- what a stretch in a pass leaves
pub record Goes (v w : View) : Type 0 where
  pub numbered : v.numbered ≡ true → w.numbered ≡ true
  pub pass : HasPass v → HasPass w
  pub closed : HasNoPass v → HasNoPass w
  pub work : WorkGoes v w
  pub counts : CountsGo 0 0 0 v w

-- an event that leaves all of this
pub record IsQuietEvent (e : Event) : Type 0 where
  pub calm : IsCalm e
  pub stays : StaysInPass e
  pub pops : pops e.kind ≡ false
  pub pushes : pushes e.kind ≡ false
  pub moves : moves e.kind ≡ false

pub no_kinds : (test : Kind → Bool) (own : List Event) → Every (λ (e : Event). test e.kind ≡ false) own
    → of_kinds test own ≡ 0
no_kinds test [] h = refl
no_kinds test (e ∷ es) h =
    let k = no_kinds test es h.1 in
    let first = ap (λ (b : Bool). cond {A = ℕ} b 1 0) h.0 in
    omega (arith, k, first)

pub goes : (v w : View) (own : List Event) → IsLayout v.sizes → Makes v own w → Every IsQuietEvent own → Goes v w
goes v w own z makes q = record {
  numbered = numbered_goes v w own z makes;
  pass = pass_goes v w own z makes true (every_as IsQuietEvent StaysInPass (λ e c. c.stays) own q);
  closed = pass_goes v w own z makes false (every_as IsQuietEvent StaysInPass (λ e c. c.stays) own q);
  work = work_goes v w own z makes (every_as IsQuietEvent IsCalm (λ e c. c.calm) own q);
  counts = counts_go v w own z makes 0 0 0
      (no_kinds pops own (every_as IsQuietEvent (λ (e : Event). pops e.kind ≡ false) (λ e c. c.pops) own q))
      (no_kinds pushes own (every_as IsQuietEvent (λ (e : Event). pushes e.kind ≡ false) (λ e c. c.pushes) own q))
      (let k = no_kinds moves own (every_as IsQuietEvent (λ (e : Event). moves e.kind ≡ false) (λ e c. c.moves) own q)
      in omega (arith, k));
}

pub goes_look : (v w : View) → IsLayout v.sizes → Makes v [] w → Goes v w
goes_look v w z makes = goes v w [] z makes tt

pub spares_look : (v w : View) → IsLayout v.sizes → Makes v [] w → SparesGo v w
spares_look v w z makes = spares_go v w [] z makes tt

pub counts_chain : {a b c x y z : ℕ} (u v w : View) → CountsGo a b c u v → CountsGo x y z v w
    → (takes gives shifts : ℕ) → a + x ≡ takes → b + y ≡ gives → c + z ≤ shifts → CountsGo takes gives shifts u w
counts_chain u v w first then takes gives shifts takes_are gives_are few =
    let p = first.taken in
    let q = first.given in
    let r = first.moved in
    let s = then.taken in
    let t = then.given in
    let m = then.moved in
    record {
      taken = omega (arith, p, s, takes_are);
      given = omega (arith, q, t, gives_are);
      moved = omega (arith, r, m, few);
    }

-- what moves no count
pub counts_same : {a b c : ℕ} (u v w : View) → CountsGo a b c u v → CountsGo 0 0 0 v w → CountsGo a b c u w
counts_same {a} {b} {c} u v w first then =
    counts_chain u v w first then a b c (omega arith) (omega arith) (omega arith)

pub chain : (u v w : View) → Goes u v → Goes v w → Goes u w
chain u v w g h = record {
  numbered = λ x. h.numbered (g.numbered x);
  pass = λ x. h.pass (g.pass x);
  closed = λ x. h.closed (g.closed x);
  work = λ l x. h.work l (g.work l x);
  counts = counts_same u v w g.counts h.counts;
}

pub spares_chain : (u v w : View) → SparesGo u v → SparesGo v w → SparesGo u w
spares_chain u v w g h s x = h s (g s x)
