-- What each part of a round leaves of a caller at work.
use Rattle.std.proofs.Common.{◌≡◌, ◌≢◌, ◌||◌, ℕ, ◌<◌, ◌≤◌, Bool, true, false, List, [], ◌∷◌, map, None}
use Rattle.std.proofs.Common.{refl, sym, ap, ◌∙◌, subst, arith, ⊎_elim, ◌⊎◌, inl, inr, ne_eqb}
use mathlib.Core.Logic.{dite}
use native.Mathlib.Decide.{ℕ_discrete}
use Rattle.graph_kinds.specs.Levels.{stands_in}
use Rattle.graph_kinds.specs.History.{Every}
use Rattle.packed_link.specs.Layout.{IsLayout, link_at, second_at}
use Rattle.packed_link.specs.declared.link.Life.{Life}
use Rattle.core_journal.specs.declared.event.Kind.TheVariants.{PopFree, Announce, Withdraw, FreezeHead, FreezeEdge}
use Rattle.core_journal.specs.declared.event.Kind.{Kind}
use Rattle.core_journal.specs.declared.event.Event.{Event}
use Rattle.core_journal.specs.Event.{pops, pushes, moves}
use Rattle.core_kept.specs.Nodes.{IsSpentWith}
use Rattle.core_rule.specs.OwnEvents.{pop_event, store_event, link_vertex_event, mark_vertex_event}
use Rattle.core_rule.specs.OwnEvents.{unlink_vertex_event}
use Rattle.core_rule.specs.Retired.{IsRetired}
use Rattle.core_rule.specs.Stretches.{HasPass, is_of_fresh}
use Rattle.core_rule.specs.declared.view.View.{View}
use Rattle.core_stretches.specs.Holdings.{IsHeldFresh}
use Rattle.core_stretches.specs.Makes.{Makes, StaysInPass, of_kinds}
use Rattle.core_stretches.proofs.HoldingsStay.{makes_got_unlink}
use Rattle.core_stretches.proofs.MakesTell.{makes_later}
use Rattle.epoch_limbo.specs.Limbos.{LimboValue, index_in}
use Rattle.epoch_limbo.proofs.LimboStays.{limbo_still_by_kind}
use Rattle.graph_table.specs.Tokens.{RipeValue}
use Rattle.graph_updates.specs.Burying.{FreezesOf, HasAllSpentBut, IsBuried, IsToBury}
use Rattle.node_arena.specs.Filling.{vertex_stores}
use Rattle.node_arena.specs.Taking.{IsTaken}
use Rattle.vertex_list.specs.Changes.{IsMarked, IsUnlinked, MatchMarked}
use Rattle.vertex_list.specs.declared.changes.Marked.{Marked}
use Rattle.vertex_list.specs.declared.changes.Marked.TheVariants.{Won, Was}
use Rattle.vertex_list.specs.Positions.{IsGap, PositionValue}
use Rattle.vertex_list.proofs.PositionsGoOn.{gap_makes, place_apart}
use Rattle.free_list_rounds.specs.Rounds.{CountsGo, LimboHoldsAll, SparesGo, WorkGoes}
use Rattle.free_list_rounds.proofs.WorkGoesOn.{IsCalm, IsQuietEvent, Goes, chain, counts_go, every_as, goes, goes_look}
use Rattle.free_list_rounds.proofs.WorkGoesOn.{got_none, no_kinds, pass_goes, spares_chain, spares_go}
use Rattle.free_list_rounds.proofs.WorkGoesOn.{spares_look, spent_before, still_room, still_there, work_goes}

-- a node is taken
took_calm : (v : View) (seen next : ℕ) → IsCalm (pop_event v seen next)
took_calm v seen next = record {
  gets = record { unlinks = refl; closes = λ is. absurd (cc); gives = λ b. absurd b };
  gives = λ is. absurd (cc);
}

took_stays : (v : View) (seen next : ℕ) → StaysInPass (pop_event v seen next)
took_stays v seen next = ((λ is. absurd (cc)), (λ is. absurd (cc)))

module _ (v w : View) (x : Life) (z : IsLayout v.sizes) (t : IsTaken v w x) where
  pub took_pass : HasPass v → HasPass w
  took_pass = pass_goes v w (pop_event v t.seen t.next ∷ []) z t.makes true (took_stays v t.seen t.next, tt)

  pub took_work : WorkGoes v w
  took_work = work_goes v w (pop_event v t.seen t.next ∷ []) z t.makes (took_calm v t.seen t.next, tt)

  pub took_counts : CountsGo 1 0 0 v w
  took_counts = counts_go v w (pop_event v t.seen t.next ∷ []) z t.makes 1 0 0 refl refl (omega arith)

-- quiet events
store_quiet : (v : View) (x : Life) (field word : ℕ) → IsQuietEvent (store_event v x field word)
store_quiet v x field word = record {
  calm = record {
    gets = record { unlinks = refl; closes = λ is. absurd (cc); gives = λ b. absurd b };
    gives = λ is. absurd (cc);
  };
  stays = ((λ is. absurd (cc)), (λ is. absurd (cc)));
  pops = refl;
  pushes = refl;
  moves = refl;
}

link_quiet : (v : View) (place seen key : ℕ) (x : Life) → IsQuietEvent (link_vertex_event v place seen key x)
link_quiet v place seen key x = record {
  calm = record {
    gets = record { unlinks = refl; closes = λ is. absurd (cc); gives = λ b. absurd b };
    gives = λ is. absurd (cc);
  };
  stays = ((λ is. absurd (cc)), (λ is. absurd (cc)));
  pops = refl;
  pushes = refl;
  moves = refl;
}

mark_quiet : (v : View) (x : Life) (found : ℕ) → IsQuietEvent (mark_vertex_event v x found)
mark_quiet v x found = record {
  calm = record {
    gets = record { unlinks = refl; closes = λ is. absurd (cc); gives = λ b. absurd b };
    gives = λ is. absurd (cc);
  };
  stays = ((λ is. absurd (cc)), (λ is. absurd (cc)));
  pops = refl;
  pushes = refl;
  moves = refl;
}

-- a node is filled, and the position stays
module _ (v w : View) (x : Life) (key next : ℕ) (z : IsLayout v.sizes) (makes : Makes v (vertex_stores v x key next) w)
  where
    pub fill_goes : Goes v w
    fill_goes = goes v w (vertex_stores v x key next) z makes
        (store_quiet v x 0 _, (store_quiet v x 1 _, (store_quiet v x 2 _, (store_quiet v x 3 _, tt))))

    pub fill_gap : (p : PositionValue) → IsHeldFresh v x → IsGap v p → IsGap w p
    fill_gap p held gap =
        gap_makes v w (vertex_stores v x key next) p z
        (every_as IsQuietEvent StaysInPass (λ e c. c.stays) (vertex_stores v x key next)
        (store_quiet v x 0 _, (store_quiet v x 1 _, (store_quiet v x 2 _, (store_quiet v x 3 _, tt))))) (
          place_apart false v p x 0 z (omega arith) held gap.position,
          (
            place_apart false v p x 1 z (omega arith) held gap.position,
            (
              place_apart false v p x 2 z (omega arith) held gap.position,
              (place_apart false v p x 3 z (omega arith) held gap.position, tt),
            ),
          ),
        )
        makes gap

-- a vertex is linked
pub link_goes : (v w : View) (place seen key : ℕ) (x : Life) → IsLayout v.sizes
    → Makes v (link_vertex_event v place seen key x ∷ []) w → Goes v w
link_goes v w place seen key x z makes = goes v w (link_vertex_event v place seen key x ∷ []) z makes
    (link_quiet v place seen key x, tt)

-- a vertex is marked
pub mark_goes : (v w : View) (x : Life) → IsLayout v.sizes → IsMarked x v w → Goes v w
mark_goes v w x z m = goes v w (mark_vertex_event v x m.found ∷ []) z m.makes (mark_quiet v x m.found, tt)

pub mark_spares : (v w : View) (x : Life) → IsLayout v.sizes → IsMarked x v w → SparesGo v w
mark_spares v w x z m = spares_go v w (mark_vertex_event v x m.found ∷ []) z m.makes (((λ is. absurd (cc)), refl), tt)

-- two loads
pub looks_go : (u v w : View) → IsLayout u.sizes → IsLayout v.sizes → Makes u [] v → Makes v [] w → Goes u w
looks_go u v w z y a b = chain u v w (goes_look u v z a) (goes_look v w y b)

pub looks_spares : (u v w : View) → IsLayout u.sizes → IsLayout v.sizes → Makes u [] v → Makes v [] w → SparesGo u w
looks_spares u v w z y a b = spares_chain u v w (spares_look u v z a) (spares_look v w y b)

-- another number isn't among one
in_one : (x y : ℕ) → x ≢ y → stands_in (x ∷ []) y ≡ true → ⊥
in_one x y apart is = absurd (let no : true ≡ false = sym is ∙ ap (λ (b : Bool). b || false) (ne_eqb x y apart) in cc)

-- a vertex is unlinked: the limbo has all but it
module _ (v w : View) (p q : PositionValue) (x : Life) (z : IsLayout v.sizes) (u : IsUnlinked p v w x q) where
  abbrev unlink_events : List Event
  unlink_events = unlink_vertex_event v p.place p.word u.next x ∷ []

  spent_then : (y : ℕ) → IsSpentWith w.sizes w.front w.number y → y ≢ x.index → (limbo : LimboValue)
      → LimboHoldsAll limbo v → IsSpentWith v.sizes v.front v.number y
  spent_then y spent other limbo h =
      let later = makes_later v w unlink_events u.makes in
      let got = makes_got_unlink v w (unlink_vertex_event v p.place p.word u.next x) z v.front None [] refl u.makes
      (got_none limbo v h) in
      spent_before v w y later.sizes later.number
      (⊎_elim (λ (a : IsSpentWith w.sizes v.front w.number y ⊎ (stands_in (x.index ∷ []) y ≡ true)). ⊎_elim
      (λ (b : IsSpentWith w.sizes v.front w.number y). b)
      (λ (b : stands_in (x.index ∷ []) y ≡ true). absurd (dite (ℕ_discrete x.index y)
      (λ same. other (sym same)) (λ apart. in_one x.index y apart b)))
      a)
      (λ (a : ⊥). absurd a) (got.old y spent))

  pub unlink_cuts : (limbo : LimboValue) → LimboHoldsAll limbo v
      → (w.number < w.sizes.callers) × IsToBury limbo w x × HasAllSpentBut x.index w limbo.nodes
  unlink_cuts limbo h = (
    still_there v w unlink_events z u.makes h.there,
    record {
      vertex = u.spent;
      unclosed = u.unclosed;
      limbo_of = limbo_still_by_kind None v w unlink_events z u.makes limbo.nodes ((λ is. absurd (cc)), tt) h.roomy.of;
      out = every_as (λ (r : RipeValue). IsRetired None v r.life r.stamp) (λ (r : RipeValue). index_in r ≢ x.index)
          (λ r ret is. u.new (subst (λ (k : ℕ). IsSpentWith v.sizes v.front v.number k) is ret.stamped.spent))
          limbo.nodes h.roomy.of.each;
      room = still_room v w unlink_events z u.makes limbo.room h.roomy.room;
    },
    (λ y spent other. h.all.each y (spent_then y spent other limbo h)),
  )

  pub unlink_spares : SparesGo v w
  unlink_spares = spares_go v w unlink_events z u.makes (((λ is. absurd (cc)), refl), tt)

  pub unlink_counts : CountsGo 0 0 0 v w
  unlink_counts = counts_go v w unlink_events z u.makes 0 0 0 refl refl (omega arith)

  pub unlink_pass : HasPass v → HasPass w
  unlink_pass = pass_goes v w unlink_events z u.makes true (((λ is. absurd (cc)), (λ is. absurd (cc))), tt)

-- what became of marking a vertex
pub marked_goes : (r : Marked) (x : Life) (v w : View) → IsLayout v.sizes → MatchMarked r x v w → Goes v w
marked_goes Won x v w z m = mark_goes v w x z m
marked_goes Was x v w z m = goes_look v w z m.makes

pub marked_spares : (r : Marked) (x : Life) (v w : View) → IsLayout v.sizes → MatchMarked r x v w → SparesGo v w
marked_spares Won x v w z m = mark_spares v w x z m
marked_spares Was x v w z m = spares_look v w z m.makes

-- a vertex is buried
freeze_quiet : (v : View) (x : Life) (edges : List ℕ) (e : Event) → FreezesOf v x edges e → (e.kind ≡ FreezeHead)
    ⊎ (e.kind ≡ FreezeEdge)
freeze_quiet v x edges e f = ⊎_elim
    (λ (h : (e.kind ≡ FreezeHead) × (e.place ≡ second_at v.sizes x.index)). inl h.0)
    (λ (h : (e.kind ≡ FreezeEdge) × ((y : ℕ) × (stands_in edges y ≡ true) × (e.place ≡ link_at v.sizes y))). inr h.0)
    f

not_kind : (e : Event) → (e.kind ≡ FreezeHead) ⊎ (e.kind ≡ FreezeEdge) → (k : Kind) → (FreezeHead ≡ k → ⊥)
    → (FreezeEdge ≡ k → ⊥) → e.kind ≢ k
not_kind e f k a b is = ⊎_elim (λ (h : e.kind ≡ FreezeHead). a (sym h ∙ is))
    (λ (h : e.kind ≡ FreezeEdge). b (sym h ∙ is)) f

fails : (test : Kind → Bool) (e : Event) → (e.kind ≡ FreezeHead) ⊎ (e.kind ≡ FreezeEdge) → test FreezeHead ≡ false
    → test FreezeEdge ≡ false → test e.kind ≡ false
fails test e f a b = ⊎_elim (λ (h : e.kind ≡ FreezeHead). ap test h ∙ a) (λ (h : e.kind ≡ FreezeEdge). ap test h ∙ b) f

module _ (old new : LimboValue) (v w : View) (x : Life) (z : IsLayout v.sizes) (b : IsBuried old new v w x) where
  each_freeze : (P : Event → Type 0)
      → ((e : Event) → (e.kind ≡ FreezeHead) ⊎ (e.kind ≡ FreezeEdge) → P e) → Every P b.own
  each_freeze P f = every_as (FreezesOf v x (map index_in b.edges)) P
      (λ e k. f e (freeze_quiet v x (map index_in b.edges) e k)) b.own b.kinds

  pub buried_pass : HasPass v → HasPass w
  buried_pass = pass_goes v w b.own z b.makes true (each_freeze StaysInPass
      (λ e f. (
        not_kind e f Announce (λ is. absurd (cc)) (λ is. absurd (cc)),
        not_kind e f Withdraw (λ is. absurd (cc)) (λ is. absurd (cc)),
      )))

  none_of : (test : Kind → Bool) → test FreezeHead ≡ false → test FreezeEdge ≡ false → of_kinds test b.own ≡ 0
  none_of test head edge = no_kinds test b.own (each_freeze (λ (e : Event). test e.kind ≡ false)
      (λ e f. fails test e f head edge))

  pub buried_counts : CountsGo 0 0 0 v w
  buried_counts = counts_go v w b.own z b.makes 0 0 0 (none_of pops refl refl) (none_of pushes refl refl)
      (let k = none_of moves refl refl in omega (arith, k))

  pub buried_spares : SparesGo v w
  buried_spares = spares_go v w b.own z b.makes (each_freeze
      (λ (e : Event). (e.kind ≢ PopFree) × (is_of_fresh e.kind ≡ false))
      (λ e f. (not_kind e f PopFree (λ is. absurd (cc)) (λ is. absurd (cc)), fails is_of_fresh e f refl refl)))

  pub buried_work : v.number < v.sizes.callers → v.sizes.nodes ≤ old.room → HasAllSpentBut x.index v old.nodes
      → LimboHoldsAll new w
  buried_work there room but = record {
    there = still_there v w b.own z b.makes there;
    roomy = record {
      of = b.limbo_of;
      room = let r = b.room in let s = still_room v w b.own z b.makes old.room room in omega (arith, r, s);
    };
    all = record { each = b.all but };
  }

  pub buried_numbered : v.numbered ≡ true → w.numbered ≡ true
  buried_numbered has = (makes_later v w b.own b.makes).numbered ∙ has
