-- What giving back tells: one node is given back, or isn't, and ripe nodes are, one after another.
use Rattle.std.proofs.Common.{◌≡◌, ◌≢◌, ◌||◌, ◌⊎◌, ℕ, ◌+◌, ◌<◌, ◌≤◌, Bool, true, false, List, [], ◌∷◌, ◌++◌, map, None}
use Rattle.std.proofs.Common.{inl, inr, refl, sym, ap, ◌∙◌, subst, arith, length, ne_eqb, append_assoc, ⊎_elim}
use Rattle.graph_kinds.specs.Levels.{stands_in}
use Rattle.graph_kinds.specs.History.{Every}
use Rattle.packed_link.specs.Layout.{Sizes, IsLayout, epoch_at, free_at}
use Rattle.packed_link.specs.Link.{index_of}
use Rattle.core_counts.specs.Spending.{GetsNone}
use Rattle.core_journal.specs.declared.event.Kind.{Kind}
use Rattle.core_journal.specs.declared.event.Kind.TheVariants.{Announce, PopFree, PushFree, StoreFree, Withdraw}
use Rattle.core_journal.specs.declared.event.Event.{Event}
use Rattle.core_journal.specs.Changes.{is_idle}
use Rattle.core_journal.specs.Event.{moves, pops, raises}
use Rattle.core_journal.specs.Foreign.{foreign}
use Rattle.core_journal.specs.Machine.{word_at}
use Rattle.core_journal.specs.Prefix.{IsPrefix}
use Rattle.core_journal.specs.Reuse.{pass_in}
use Rattle.core_journal.specs.State.{Free, Spent}
use Rattle.core_journal.proofs.ForeignAddsUp.{adds_up}
use Rattle.core_journal.proofs.Lists.{prefix_length, prefix_refl, prefix_trans}
use Rattle.core_kept.specs.Nodes.{node_in, IsSpentWith}
use Rattle.core_lists.proofs.ChangedByAnother.{change_counts}
use Rattle.core_rule.specs.OwnEvents.{store_free_event, push_event}
use Rattle.core_rule.specs.Plays.{IsSound, Looked}
use Rattle.core_rule.specs.Retired.{IsRetired, IsShown}
use Rattle.core_rule.specs.Stretches.{GivesOther, is_of_fresh}
use Rattle.core_rule.specs.declared.view.View.{View}
use Rattle.core_stretches.specs.Makes.{IsGraphless, Makes, StaysInPass}
use Rattle.core_stretches.specs.Moments.{HoldsBetween}
use Rattle.core_stretches.proofs.HoldingsStay.{makes_got, makes_retired}
use Rattle.core_stretches.proofs.MakesAddUp.{makes_look}
use Rattle.core_stretches.proofs.MakesTell.{makes_later, makes_leaves}
use Rattle.epoch_limbo.specs.Limbos.{AreRising, IsLimboOf, IsPutBack, IsRipeOut, LimboValue, index_in}
use Rattle.epoch_limbo.specs.Passes.{EpochIs}
use Rattle.epoch_limbo.proofs.LimboStays.{limbo_room, limbo_still}
use Rattle.graph_table.specs.Tokens.{IsOf, RipeValue, TableValue, TokenValue}
use Rattle.node_arena.specs.Giving.{IsGiven, IsGiveLost}
use Rattle.graph_updates.specs.Burying.{IsIn}
use Rattle.graph_updates.specs.Ending.{GivesOldest, HasGiven, IsFreeIn, IsGiving, NoneRipe, WasFreed}
use Rattle.graph_updates.specs.Hands.{HasAllSpent, IsRoomyLimbo}
use Rattle.graph_updates.specs.Parts.{Fell, LeavesGraph, MakesOnly}
use Rattle.graph_updates.proofs.BurialLists.{every_both, every_map}
use Rattle.graph_updates.proofs.HandsStay.{LeavesParts}
use Rattle.graph_updates.proofs.PartsLeave.{all_goes, each_kind, got_none, limbo_goes, no_kinds, only_chain, other_goes}
use Rattle.graph_updates.proofs.PartsLeave.{pass_goes, spare_goes, spent_before, still_numbered, still_room}
use Rattle.graph_updates.proofs.PartsLeave.{still_there}

-- an epoch that was shown was so later on
pub shown_goes : (v w : View) (own : List Event) → Makes v own w → (epoch : ℕ) → IsShown v epoch → IsShown w epoch
shown_goes v w own makes epoch s =
    let later = makes_later v w own makes in
    record {
      moment = s.moment;
      before = prefix_trans s.moment v.front w.front s.before later.grows;
      epoch = subst (λ (q : Sizes). epoch ≤ word_at q s.moment (epoch_at q)) (sym later.sizes) s.epoch;
    }

-- foreign events that fell in a part fell in the whole
pub fell_wider : (n caller : ℕ) (old from to new : List Event) → IsPrefix old from → IsPrefix from to → IsPrefix to new
    → n ≤ foreign new caller (length from) (length to) → Fell n caller old new
fell_wider n caller old from to new a b d low =
    let la = prefix_length old from a in
    let lb = prefix_length from to b in
    let ld = prefix_length to new d in
    let s = adds_up new caller (length old) (length from) (length new) la (omega (arith, lb, ld)) in
    let t = adds_up new caller (length from) (length to) (length new) lb ld in
    record { least = omega (arith, s, t, low) }

-- what is spent now was spent before, where the token got none
was_spent : (v w : View) (own : List Event) → IsLayout v.sizes → Makes v own w → Every (GetsNone None) own
    → (limbo : LimboValue) → IsRoomyLimbo limbo v → HasAllSpent limbo v → (y : ℕ)
    → IsSpentWith w.sizes w.front w.number y → IsIn limbo.nodes y
was_spent v w own z makes gets limbo l h y spent =
    let later = makes_later v w own makes in
    let got = makes_got v w own z v.front None [] gets makes (got_none limbo v l h) in
    h.each y (spent_before v w y later.sizes later.number
    (⊎_elim (λ (a : IsSpentWith w.sizes v.front w.number y ⊎ (stands_in [] y ≡ true)). ⊎_elim
    (λ (b : IsSpentWith w.sizes v.front w.number y). b) (λ (b : stands_in [] y ≡ true). absurd (cc)) a)
    (λ (a : ⊥). absurd a) (got.old y spent)))

-- a node is given back, or isn't
module _ (old new : LimboValue) (v w : View) (epoch : ℕ) (r : RipeValue) (z : IsLayout v.sizes)
    (out : IsRipeOut old new v epoch r) (l : IsRoomyLimbo old v) where
  rest_others : (es : List Event) → Every (λ (e : Event). e.kind ≡ PushFree → e.life.index ≡ index_in r) es
      → Every (λ (q : RipeValue). Every (GivesOther (index_in q)) es) new.nodes
  rest_others es only = every_map (λ (q : RipeValue). index_in q ≢ index_in r)
      (λ (q : RipeValue). Every (GivesOther (index_in q)) es)
      (λ q apart. every_map (λ (e : Event). e.kind ≡ PushFree → e.life.index ≡ index_in r) (GivesOther (index_in q))
      (λ e is push same. apart (sym same ∙ is push)) es only) new.nodes out.out

  module _ (own : List Event) (makes : Makes v own w)
      (only : Every (λ (e : Event). e.kind ≡ PushFree → e.life.index ≡ index_in r) own)
      (gets : Every (GetsNone None) own) where
    rest_limbo : IsLimboOf None w new.nodes
    rest_limbo = limbo_still None v w own z makes new.nodes (rest_others own only) out.limbo

    in_rest : (y : ℕ) → IsIn old.nodes y → y ≢ index_in r → IsIn new.nodes y
    in_rest y is other =
        let all : IsIn (r ∷ new.nodes) y = subst (λ (ns : List RipeValue). IsIn ns y) out.nodes is in
        subst (λ (b : Bool). (b || stands_in (map index_in new.nodes) y) ≡ true)
        (ne_eqb (index_in r) y (λ same. other (sym same))) all

    rest_room : w.sizes.nodes ≤ new.room
    rest_room = let s = still_room v w own z makes old.room l.room in let q = out.room in omega (arith, s, q)

    rest_all : (node_in w.sizes w.front (index_in r)).mode ≡ Free → HasAllSpent old v → HasAllSpent new w
    rest_all free h = record {
      each = λ y spent. in_rest y (was_spent v w own z makes gets old l h y spent) (λ same. absurd
          (let was : (node_in w.sizes w.front (index_in r)).mode ≡ Spent
          = subst (λ (k : ℕ). (node_in w.sizes w.front k).mode ≡ Spent) same spent.spent in cc));
    }

  -- it's given back
  module _ (g : IsGiven v w r.life) where
    abbrev gave : List Event
    gave = store_free_event v (index_of g.seen) r.life ∷ push_event v g.seen r.life ∷ []

    given_only : Every (λ (e : Event). e.kind ≡ PushFree → e.life.index ≡ index_in r) gave
    given_only = ((λ is. absurd (cc)), ((λ is. refl), tt))

    given_gets : Every (GetsNone None) gave
    given_gets = (
      record { unlinks = refl; closes = λ is. absurd (cc); gives = λ b. absurd b },
      (record { unlinks = refl; closes = λ is. absurd (cc); gives = λ b. absurd b }, tt),
    )

    pub done_gives : GivesOldest epoch old new v w
    done_gives =
        let later = makes_later v w gave g.makes in
        record {
          only = record { own = gave; are = (inl refl, (inr refl, tt)); makes = g.makes };
          gone = r ∷ [];
          nodes = out.nodes;
          room = out.room;
          ripe = (out.stamp, tt);
          freed = (
            (
              w.front,
              record {
                since = later.grows;
                until = prefix_refl w.front;
                holds = subst (λ (s : Sizes). IsFreeIn s (index_in r) w.front) later.sizes g.free;
              },
            ),
            tt,
          );
          limbo = record {
            of = rest_limbo gave g.makes given_only given_gets;
            room = rest_room gave g.makes given_only given_gets;
          };
          all = rest_all gave g.makes given_only given_gets g.free;
        }

  -- another caller changed the list
  module _ (g : IsGiveLost v w r.life) where
    abbrev stored : List Event
    stored = store_free_event v (index_of g.seen) r.life ∷ []

    stored_only : Every (λ (e : Event). e.kind ≡ PushFree → e.life.index ≡ index_in r) stored
    stored_only = ((λ is. absurd (cc)), tt)

    stored_gets : Every (GetsNone None) stored
    stored_gets = (record { unlinks = refl; closes = λ is. absurd (cc); gives = λ b. absurd b }, tt)

    lost_limbo : IsLimboOf None w new.nodes
    lost_limbo = rest_limbo stored g.makes stored_only stored_gets

    lost_retired : IsRetired None w r.life r.stamp
    lost_retired = makes_retired v w stored z None r.life r.stamp ((λ is. absurd (cc)), tt) g.makes out.retired

    pub lost_ready : length new.nodes < new.room
    lost_ready =
        let later = makes_later v w stored g.makes in
        let low = limbo_room None w new.nodes r.life later.kept lost_limbo
        (record { life = lost_retired.life; spent = lost_retired.stamped.spent }) out.out in
        let room = rest_room stored g.makes stored_only stored_gets in
        omega (arith, low, room)

    pub lost_gives : (back : LimboValue) → IsPutBack new back r → GivesOldest epoch old back v w
    lost_gives back p =
        let same : back.nodes ≡ old.nodes = p.nodes ∙ sym out.nodes in
        record {
          only = record { own = stored; are = (inl refl, tt); makes = g.makes };
          gone = [];
          nodes = sym same;
          room = p.room ∙ out.room;
          ripe = tt;
          freed = tt;
          limbo = record {
            of = p.limbo None w lost_limbo lost_retired out.out (subst AreRising out.nodes l.of.rising).0;
            room = let s = still_room v w stored z g.makes old.room l.room in let q = out.room in let t = p.room in
                omega (arith, s, q, t);
          };
          all = λ h. record {
            each = λ y spent. subst (λ (ns : List RipeValue). IsIn ns y) (sym same)
                (was_spent v w stored z g.makes stored_gets old l h y spent);
          };
        }

    pub lost_fell : Fell 1 w.number v.front w.front
    lost_fell = fell_wider 1 w.number v.front g.loaded w.front w.front g.found.since g.found.until
        (prefix_refl w.front) (change_counts g.loaded w.front w.number (free_at w.sizes) g.changed)

-- nothing is given back where the token makes nothing
pub gives_none : (epoch : ℕ) (limbo : LimboValue) (v w : View) → IsLayout v.sizes → IsRoomyLimbo limbo v → Makes v [] w
    → GivesOldest epoch limbo limbo v w
gives_none epoch limbo v w z l makes = record {
  only = record { own = []; are = tt; makes = makes };
  gone = [];
  nodes = refl;
  room = refl;
  ripe = tt;
  freed = tt;
  limbo = limbo_goes v w [] z makes tt limbo l;
  all = all_goes v w [] z makes tt limbo l;
}

-- one after another
pub gives_chain : (epoch : ℕ) (a b c : LimboValue) (u v w : View) → GivesOldest epoch a b u v
    → GivesOldest epoch b c v w → GivesOldest epoch a c u w
gives_chain epoch a b c u v w g h =
    let first = makes_later u v g.only.own g.only.makes in
    let second = makes_later v w h.only.own h.only.makes in
    record {
      only = only_chain IsGiving u v w g.only h.only;
      gone = g.gone ++ h.gone;
      nodes = g.nodes ∙ (ap (λ (ns : List RipeValue). g.gone ++ ns) h.nodes ∙ sym
          (append_assoc g.gone h.gone c.nodes));
      room = h.room ∙ g.room;
      ripe = every_both (λ (r : RipeValue). r.stamp + 2 ≤ epoch) g.gone h.gone g.ripe h.ripe;
      freed = every_both (WasFreed u w) g.gone h.gone
          (every_map (WasFreed u v) (WasFreed u w)
          (λ r p. (
            p.0,
            record {
              since = p.1.since;
              until = prefix_trans p.0 v.front w.front p.1.until second.grows;
              holds = p.1.holds;
            },
          ))
          g.gone g.freed)
          (every_map (WasFreed v w) (WasFreed u w)
          (λ r p. (
            p.0,
            record {
              since = prefix_trans u.front v.front p.0 first.grows p.1.since;
              until = p.1.until;
              holds = subst (λ (s : Sizes). IsFreeIn s (index_in r) p.0) first.sizes p.1.holds;
            },
          ))
          h.gone h.freed);
      limbo = h.limbo;
      all = λ x. h.all (g.all x);
    }

-- what events that give back leave
giving_test : (test : Kind → Bool) (b : Bool) → test StoreFree ≡ b → test PushFree ≡ b → (k : Kind) → IsGiving k
    → test k ≡ b
giving_test test b s p k h = ⊎_elim (λ (is : k ≡ StoreFree). ap test is ∙ s) (λ (is : k ≡ PushFree). ap test is ∙ p) h

giving_not : (e : Kind) → (StoreFree ≡ e → ⊥) → (PushFree ≡ e → ⊥) → (k : Kind) → IsGiving k → k ≢ e
giving_not e s p k h is = ⊎_elim (λ (a : k ≡ StoreFree). s (sym a ∙ is)) (λ (a : k ≡ PushFree). p (sym a ∙ is)) h

module _ (v w : View) (z : IsLayout v.sizes) (h : MakesOnly IsGiving v w) where
  pub giving_leaves : LeavesGraph false 0 0 v w
  giving_leaves = record {
    own = h.own;
    makes = h.makes;
    leaves = λ y. makes_leaves v w h.own y (every_map (λ (e : Event). IsGiving e.kind) IsGraphless
        (λ e p. inl (giving_test is_idle true refl refl e.kind p)) h.own h.are) h.makes;
    takes = let n = no_kinds pops h.own
        (each_kind IsGiving (λ k. pops k ≡ false) (giving_test pops false refl refl) h.own h.are) in omega (arith, n);
    shifts = let n = no_kinds moves h.own
        (each_kind IsGiving (λ k. moves k ≡ false) (giving_test moves false refl refl) h.own h.are) in omega (arith, n);
    raised = λ _. no_kinds raises h.own
        (each_kind IsGiving (λ k. raises k ≡ false) (giving_test raises false refl refl) h.own h.are);
  }

  pub giving_pass : (b : Bool) → (pass_in v.sizes v.front v.number).is_open ≡ b
      → (pass_in w.sizes w.front w.number).is_open ≡ b
  giving_pass b = pass_goes v w h.own z h.makes b (every_map (λ (e : Event). IsGiving e.kind) StaysInPass
      (λ e p. (
        giving_not Announce (λ x. absurd (cc)) (λ x. absurd (cc)) e.kind p,
        giving_not Withdraw (λ x. absurd (cc)) (λ x. absurd (cc)) e.kind p,
      )) h.own h.are)

  pub giving_parts : (a b : LimboValue) → IsRoomyLimbo b w → (HasAllSpent a v → HasAllSpent b w) → LeavesParts a b v w
  giving_parts a b l all =
      let plain = each_kind IsGiving (λ k. is_of_fresh k ≡ false) (giving_test is_of_fresh false refl refl) h.own
      h.are in
      let takes = each_kind IsGiving (λ k. k ≢ PopFree)
      (giving_not PopFree (λ x. absurd (cc)) (λ x. absurd (cc))) h.own h.are in
      record {
        numbered = still_numbered v w h.own z h.makes;
        there = still_there v w h.own z h.makes;
        limbo = λ _. l;
        all = λ _ x. all x;
        spare = spare_goes v w h.own z h.makes plain;
        other = other_goes v w h.own z h.makes takes plain;
      }

-- ripe nodes are given back at an epoch that was loaded
pub record IsGivingRipe (g : TableValue) (epoch : ℕ) (old now : LimboValue) (v : View) (t : TokenValue) : Type 0 where
  pub of : IsOf g t
  pub loaded : List Event
  pub found : HoldsBetween v.front t.view.front (EpochIs v epoch) loaded
  pub given : GivesOldest epoch old now v t.view
  pub shown : IsShown t.view epoch

-- the epoch is loaded
pub giving_begins : (g : TableValue) (limbo : LimboValue) (v : View) (t : TokenValue) (at epoch : ℕ)
    → v.numbered ≡ true → IsSound v → IsLayout v.sizes → IsRoomyLimbo limbo v → IsOf g t → Looked v at epoch t.view
    → at ≡ epoch_at v.sizes → IsGivingRipe g epoch limbo limbo v t
giving_begins g limbo v t at epoch has s z l of looked at_is =
    let makes = makes_look v t.view at epoch has s looked in
    let later = makes_later v t.view [] makes in
    let word : EpochIs v epoch t.view.front = ap (word_at v.sizes t.view.front) (sym at_is) ∙ sym looked.word in
    let there : word_at t.view.sizes t.view.front (epoch_at t.view.sizes) ≡ epoch = ap
    (λ (q : Sizes). word_at q t.view.front (epoch_at q)) later.sizes ∙ word in
    record {
      of = of;
      loaded = t.view.front;
      found = record { since = later.grows; until = prefix_refl t.view.front; holds = word };
      given = gives_none epoch limbo v t.view z l makes;
      shown = record {
        moment = t.view.front;
        before = prefix_refl t.view.front;
        epoch = omega (arith, there);
      };
    }

-- nodes are given back, one or none
module _ (g : TableValue) (epoch : ℕ) (old now : LimboValue) (v : View) (t : TokenValue)
    (i : IsGivingRipe g epoch old now v t) where
  pub giving_number : v.numbered ≡ true → t.view.numbered ≡ true
  giving_number has = (makes_later v t.view i.given.only.own i.given.only.makes).numbered ∙ has

  module _ (new : LimboValue) (u : TokenValue) (b : GivesOldest epoch now new t.view u.view) where
    later_on : IsPrefix t.view.front u.view.front
    later_on = (makes_later t.view u.view b.only.own b.only.makes).grows

    pub giving_more : IsOf g u → IsGivingRipe g epoch old new v u
    giving_more of = record {
      of = of;
      loaded = i.loaded;
      found = record {
        since = i.found.since;
        until = prefix_trans i.loaded t.view.front u.view.front i.found.until later_on;
        holds = i.found.holds;
      };
      given = gives_chain epoch old now new v t.view u.view i.given b;
      shown = shown_goes t.view u.view b.only.own b.only.makes epoch i.shown;
    }

    pub giving_lost : Fell 1 u.view.number t.view.front u.view.front → HasGiven epoch false old new v u.view
    giving_lost f =
        let before = (makes_later v t.view i.given.only.own i.given.only.makes).grows in
        let fell = fell_wider 1 u.view.number v.front t.view.front u.view.front u.view.front before later_on
        (prefix_refl u.view.front) f.least in
        record {
          loaded = i.loaded;
          found = record {
            since = i.found.since;
            until = prefix_trans i.loaded t.view.front u.view.front i.found.until later_on;
            holds = i.found.holds;
          };
          given = gives_chain epoch old now new v t.view u.view i.given b;
          left = λ is. absurd (cc);
          lost = λ _. fell;
        }

  pub giving_done : NoneRipe epoch now → HasGiven epoch true old now v t.view
  giving_done none = record {
    loaded = i.loaded;
    found = i.found;
    given = i.given;
    left = λ _. none;
    lost = λ is. absurd (cc);
  }
