-- What a try to give a node back leaves of a caller at work.
use Rattle.std.proofs.Common.{◌≡◌, ◌≢◌, ◌||◌, ℕ, ◌<◌, ◌≤◌, Bool, true, false, List, [], ◌∷◌, map, None}
use Rattle.std.proofs.Common.{refl, sym, ap, ◌∙◌, subst, arith, length, ne_eqb}
use Rattle.graph_kinds.specs.Levels.{stands_in}
use Rattle.graph_kinds.specs.History.{Every}
use Rattle.packed_link.specs.Layout.{Sizes, IsLayout, epoch_at}
use Rattle.core_journal.specs.Machine.{word_at}
use Rattle.core_journal.proofs.Lists.{prefix_refl, prefix_trans}
use Rattle.core_rule.specs.Plays.{IsSound, Looked}
use Rattle.core_stretches.proofs.MakesAddUp.{makes_look}
use Rattle.packed_link.specs.Link.{index_of}
use Rattle.core_counts.specs.Spending.{GetsNone}
use Rattle.core_journal.specs.declared.event.Kind.TheVariants.{PushFree}
use Rattle.core_journal.specs.declared.event.Event.{Event}
use Rattle.core_journal.specs.State.{Free, Spent}
use Rattle.core_kept.specs.Nodes.{node_in, IsSpentWith}
use Rattle.core_rule.specs.OwnEvents.{store_free_event, push_event}
use Rattle.core_rule.specs.Retired.{IsRetired, IsShown}
use Rattle.core_rule.specs.declared.view.View.{View}
use Rattle.core_stretches.specs.Holdings.{HasNoPass}
use Rattle.core_rule.specs.Stretches.{GivesOther}
use Rattle.core_stretches.specs.Makes.{Makes}
use Rattle.core_stretches.proofs.HoldingsStay.{makes_got, makes_retired}
use Rattle.core_stretches.proofs.MakesTell.{makes_later}
use Rattle.epoch_limbo.specs.Limbos.{AreRising, IsLimboOf, IsPutBack, IsRipeOut, LimboValue, index_in}
use Rattle.epoch_limbo.proofs.LimboStays.{limbo_room, limbo_still}
use Rattle.graph_table.specs.Tokens.{RipeValue}
use Rattle.graph_updates.specs.Burying.{IsIn}
use Rattle.node_arena.specs.Giving.{IsGiven, IsGiveLost}
use Rattle.free_list_rounds.specs.Rounds.{CountsGo, LimboHoldsAll, SparesGo}
use Rattle.free_list_rounds.proofs.WorkGoesOn.{counts_go, every_as}
use Rattle.free_list_rounds.proofs.WorkGoesOn.{got_none, old_spent, pass_goes, spares_go}
use Rattle.free_list_rounds.proofs.WorkGoesOn.{still_room, still_there}

-- an epoch that was shown was so later on
pub shown_goes : (v w : View) (own : List Event) → Makes v own w → (epoch : ℕ) → IsShown v epoch → IsShown w epoch
shown_goes v w own makes epoch s =
    let later = makes_later v w own makes in
    record {
      moment = s.moment;
      before = prefix_trans s.moment v.front w.front s.before later.grows;
      epoch = subst (λ (q : Sizes). epoch ≤ word_at q s.moment (epoch_at q)) (sym later.sizes) s.epoch;
    }

-- the front shows the epoch that is loaded there
pub shown_now : (v w : View) (at found : ℕ) → v.numbered ≡ true → IsSound v → Looked v at found w
    → at ≡ epoch_at v.sizes
    → IsShown w found
shown_now v w at found has s l at_is =
    let makes = makes_look v w at found has s l in
    let later = makes_later v w [] makes in
    let is : found ≡ word_at w.sizes w.front (epoch_at w.sizes) = l.word ∙ (ap (word_at v.sizes w.front) at_is ∙ ap
    (λ (q : Sizes). word_at q w.front (epoch_at q)) (sym later.sizes)) in
    record { moment = w.front; before = prefix_refl w.front; epoch = omega (arith, is) }

-- a node is given back, or isn't
module _ (old new : LimboValue) (v w : View) (epoch : ℕ) (r : RipeValue) (z : IsLayout v.sizes)
    (out : IsRipeOut old new v epoch r) (h : LimboHoldsAll old v) where
  rest_others : (es : List Event) → Every (λ (e : Event). e.kind ≡ PushFree → e.life.index ≡ index_in r) es
      → Every (λ (q : RipeValue). Every (GivesOther (index_in q)) es) new.nodes
  rest_others es only = every_as (λ (q : RipeValue). index_in q ≢ index_in r)
      (λ (q : RipeValue). Every (GivesOther (index_in q)) es)
      (λ q apart. every_as (λ (e : Event). e.kind ≡ PushFree → e.life.index ≡ index_in r) (GivesOther (index_in q))
      (λ e is push same. apart (sym same ∙ is push)) es only) new.nodes out.out

  module _ (own : List Event) (makes : Makes v own w)
      (only : Every (λ (e : Event). e.kind ≡ PushFree → e.life.index ≡ index_in r) own)
      (gets : Every (GetsNone None) own) where
    abbrev rest_limbo : IsLimboOf None w new.nodes
    rest_limbo = limbo_still None v w own z makes new.nodes (rest_others own only) out.limbo

    rest_spent : (y : ℕ) → IsSpentWith w.sizes w.front w.number y → IsIn old.nodes y
    rest_spent y spent = h.all.each y (old_spent v w own makes
        (makes_got v w own z v.front None [] gets makes (got_none old v h)) y spent)

    in_rest : (y : ℕ) → IsIn old.nodes y → y ≢ index_in r → IsIn new.nodes y
    in_rest y is other =
        let all : IsIn (r ∷ new.nodes) y = subst (λ (ns : List RipeValue). IsIn ns y) out.nodes is in
        subst (λ (b : Bool). (b || stands_in (map index_in new.nodes) y) ≡ true)
        (ne_eqb (index_in r) y (λ same. other (sym same))) all

    rest_room : w.sizes.nodes ≤ new.room
    rest_room = let s = still_room v w own z makes old.room h.roomy.room in let q = out.room in omega (arith, s, q)

    given_work : (node_in w.sizes w.front (index_in r)).mode ≡ Free → LimboHoldsAll new w
    given_work free = record {
      there = still_there v w own z makes h.there;
      roomy = record { of = rest_limbo; room = rest_room };
      all = record {
        each = λ y spent. in_rest y (rest_spent y spent) (λ same. absurd
            (let was : (node_in w.sizes w.front (index_in r)).mode ≡ Spent
            = subst (λ (k : ℕ). (node_in w.sizes w.front k).mode ≡ Spent) same spent.spent in cc));
      };
    }

  -- it's given back
  module _ (g : IsGiven v w r.life) where
    abbrev gave : List Event
    gave = store_free_event v (index_of g.seen) r.life ∷ push_event v g.seen r.life ∷ []

    pub done_closed : HasNoPass v → HasNoPass w
    done_closed = pass_goes v w gave z g.makes false (
      ((λ is. absurd (cc)), (λ is. absurd (cc))),
      (((λ is. absurd (cc)), (λ is. absurd (cc))), tt),
    )

    pub done_work : LimboHoldsAll new w
    done_work = given_work gave g.makes ((λ is. absurd (cc)), ((λ is. refl), tt)) (
      record { unlinks = refl; closes = λ is. absurd (cc); gives = λ b. absurd b },
      (record { unlinks = refl; closes = λ is. absurd (cc); gives = λ b. absurd b }, tt),
    )
        g.free

    pub done_shown : IsShown v epoch → IsShown w epoch
    done_shown = shown_goes v w gave g.makes epoch

    pub done_spares : SparesGo v w
    done_spares = spares_go v w gave z g.makes (((λ is. absurd (cc)), refl), (((λ is. absurd (cc)), refl), tt))

    pub done_counts : CountsGo 0 1 0 v w
    done_counts = counts_go v w gave z g.makes 0 1 0 refl refl (omega arith)

  -- another caller changed the list
  module _ (g : IsGiveLost v w r.life) where
    abbrev stored : List Event
    stored = store_free_event v (index_of g.seen) r.life ∷ []

    pub lost_closed : HasNoPass v → HasNoPass w
    lost_closed = pass_goes v w stored z g.makes false (((λ is. absurd (cc)), (λ is. absurd (cc))), tt)

    lost_limbo : IsLimboOf None w new.nodes
    lost_limbo = rest_limbo stored g.makes ((λ is. absurd (cc)), tt)
        (record { unlinks = refl; closes = λ is. absurd (cc); gives = λ b. absurd b }, tt)

    lost_retired : IsRetired None w r.life r.stamp
    lost_retired = makes_retired v w stored z None r.life r.stamp ((λ is. absurd (cc)), tt) g.makes out.retired

    pub lost_ready : length new.nodes < new.room
    lost_ready =
        let later = makes_later v w stored g.makes in
        let low = limbo_room None w new.nodes r.life later.kept lost_limbo
        (record { life = lost_retired.life; spent = lost_retired.stamped.spent }) out.out in
        let room = rest_room stored g.makes ((λ is. absurd (cc)), tt)
        (record { unlinks = refl; closes = λ is. absurd (cc); gives = λ b. absurd b }, tt) in
        omega (arith, low, room)

    pub lost_work : (back : LimboValue) → IsPutBack new back r → LimboHoldsAll back w
    lost_work back p = record {
      there = still_there v w stored z g.makes h.there;
      roomy = record {
        of = p.limbo None w lost_limbo lost_retired out.out (subst AreRising out.nodes h.roomy.of.rising).0;
        room = let s = still_room v w stored z g.makes old.room h.roomy.room in let q = out.room in let t = p.room in
            omega (arith, s, q, t);
      };
      all = record {
        each = λ y spent. subst (λ (ns : List RipeValue). IsIn ns y) (out.nodes ∙ sym p.nodes)
            (rest_spent stored g.makes ((λ is. absurd (cc)), tt)
            (record { unlinks = refl; closes = λ is. absurd (cc); gives = λ b. absurd b }, tt) y spent);
      };
    }

    pub lost_shown : IsShown v epoch → IsShown w epoch
    lost_shown = shown_goes v w stored g.makes epoch

    pub lost_spares : SparesGo v w
    lost_spares = spares_go v w stored z g.makes (((λ is. absurd (cc)), refl), tt)

    pub lost_counts : CountsGo 0 0 0 v w
    lost_counts = counts_go v w stored z g.makes 0 0 0 refl refl (omega arith)
