-- A call begins and ends: what opening and closing its pass, moving the epoch on and giving back leave of a hand.
use Rattle.std.proofs.Common.{◌≡◌, ◌+◌, ◌^◌, ◌<◌, true, false, [], ◌∷◌, refl, arith}
use Rattle.std.proofs.Common.{inl, inr}
use Rattle.packed_link.specs.Layout.{IsLayout}
use Rattle.core_journal.specs.Event.{moves}
use Rattle.core_kept.specs.Counts.{made, most_moves}
use Rattle.core_rule.specs.OwnEvents.{announce_event, move_event, withdraw_event}
use Rattle.core_rule.specs.Stretches.{HasPass}
use Rattle.core_rule.specs.declared.view.View.{View}
use Rattle.core_stretches.specs.Holdings.{HasNoPass}
use Rattle.core_stretches.specs.Makes.{Makes}
use Rattle.core_stretches.proofs.MakesTell.{makes_counts, makes_leaves}
use Rattle.epoch_limbo.specs.Advances.{MatchAdvanced}
use Rattle.epoch_limbo.specs.Limbos.{LimboValue}
use Rattle.epoch_limbo.specs.Passes.{IsOpened}
use Rattle.epoch_limbo.specs.declared.advancing.Advanced.{Advanced}
use Rattle.epoch_limbo.specs.declared.advancing.Advanced.TheVariants.{Held, Lost, Moved}
use Rattle.graph_table.specs.Tokens.{IsOf, TableValue, TokenValue}
use Rattle.graph_updates.specs.Ending.{GivesOldest, HasBegun, HasTidied, IsEnding, IsFinished, IsGiving}
use Rattle.graph_updates.specs.Hands.{HandValue, IsHandOf, IsInOrder, IsRoomyLimbo}
use Rattle.graph_updates.specs.Parts.{LeavesGraph, MakesOnly}
use Rattle.graph_updates.proofs.GivingTells.{giving_leaves, giving_parts, giving_pass}
use Rattle.graph_updates.proofs.HandsStay.{LeavesParts, due_closed, due_open, hand_goes, nodes_go, order_goes}
use Rattle.graph_updates.proofs.HandsStay.{parts_chain, plain_parts}
use Rattle.graph_updates.proofs.PartsLeave.{each_kind, leaves_chain, leaves_less, only_chain, pass_goes, still_layout}

-- a pass is opened
module _ (v w : View) (z : IsLayout v.sizes) (o : IsOpened v w) where
  pub opened_leaves : LeavesGraph false 0 0 v w
  opened_leaves = record {
    own = announce_event v o.epoch ∷ [];
    makes = o.makes;
    leaves = λ y. makes_leaves v w (announce_event v o.epoch ∷ []) y (inl refl, tt) o.makes;
    takes = omega arith;
    shifts = omega arith;
    raised = λ _. refl;
  }

  pub opened_parts : (limbo : LimboValue) → LeavesParts limbo limbo v w
  opened_parts limbo = plain_parts limbo v w (announce_event v o.epoch ∷ []) z o.makes (
    record {
      calm = record {
        gets = record { unlinks = refl; closes = λ is. absurd (cc); gives = λ b. absurd b };
        gives = λ is. absurd (cc);
      };
      plain = refl;
      takes = λ is. absurd (cc);
    },
    tt,
  )

-- a call begins
module _ (g : TableValue) (old : HandValue) (t : TokenValue) (h : IsHandOf g old) (closed : HasNoPass old.token.view)
    (o : IsOpened old.token.view t.view) where
  abbrev pub begun : HandValue
  begun = record { token = t; limbo = old.limbo; spare = old.spare; uses = old.uses + 1; retired = false }

  parts : LeavesParts old.limbo old.limbo old.token.view t.view
  parts = opened_parts old.token.view t.view h.of.layout o old.limbo

  pub begun_hand : IsOf g t → IsHandOf g begun
  begun_hand = hand_goes g old begun h refl parts

  pub begun_order : old.uses < 2 ^ 32 → IsInOrder old → IsInOrder begun
  begun_order left ord =
      let none = due_closed old.token.view closed in
      let one = due_open t.view o.opened in
      order_goes old begun 0 0 h.of.layout (opened_leaves old.token.view t.view h.of.layout o)
      (nodes_go g old begun h refl parts ord.nodes) (omega arith) (omega (arith, none, one)) (omega (arith, left)) ord

  pub has_begun : HasBegun old begun
  has_begun = record {
    opened = o;
    limbo = refl;
    spare = refl;
    uses = refl;
    retired = refl;
    nodes = nodes_go g old begun h refl parts;
  }

-- a pass is closed
module _ (v w : View) (z : IsLayout v.sizes) (makes : Makes v (withdraw_event v ∷ []) w) where
  pub closed_leaves : LeavesGraph false 0 0 v w
  closed_leaves = record {
    own = withdraw_event v ∷ [];
    makes = makes;
    leaves = λ y. makes_leaves v w (withdraw_event v ∷ []) y (inl refl, tt) makes;
    takes = omega arith;
    shifts = omega arith;
    raised = λ _. refl;
  }

  pub closed_parts : (limbo : LimboValue) → LeavesParts limbo limbo v w
  closed_parts limbo = plain_parts limbo v w (withdraw_event v ∷ []) z makes (
    record {
      calm = record {
        gets = record { unlinks = refl; closes = λ is. absurd (cc); gives = λ b. absurd b };
        gives = λ is. absurd (cc);
      };
      plain = refl;
      takes = λ is. absurd (cc);
    },
    tt,
  )

  closed_only : MakesOnly IsEnding v w
  closed_only = record { own = withdraw_event v ∷ []; are = (inl refl, tt); makes = makes }

-- the epoch is moved on, or isn't
pub record Advances (v w : View) : Type 0 where
  pub leaves : LeavesGraph false 0 1 v w
  pub only : MakesOnly IsEnding v w
  pub parts : (limbo : LimboValue) → LeavesParts limbo limbo v w
  pub pass : HasNoPass v → HasNoPass w

advances_none : (v w : View) → IsLayout v.sizes → Makes v [] w → Advances v w
advances_none v w z makes = record {
  leaves = record {
    own = [];
    makes = makes;
    leaves = λ y. makes_leaves v w [] y tt makes;
    takes = omega arith;
    shifts = omega arith;
    raised = λ _. refl;
  };
  only = record { own = []; are = tt; makes = makes };
  parts = λ limbo. plain_parts limbo v w [] z makes tt;
  pass = pass_goes v w [] z makes false tt;
}

pub advances : (r : Advanced) (v w : View) → IsLayout v.sizes → MatchAdvanced r v w → Advances v w
advances Moved v w z m = record {
  leaves = record {
    own = move_event v m.epoch ∷ [];
    makes = m.makes;
    leaves = λ y. makes_leaves v w (move_event v m.epoch ∷ []) y (inl refl, tt) m.makes;
    takes = omega arith;
    shifts = omega arith;
    raised = λ _. refl;
  };
  only = record { own = move_event v m.epoch ∷ []; are = (inr (inl refl), tt); makes = m.makes };
  parts = λ limbo. plain_parts limbo v w (move_event v m.epoch ∷ []) z m.makes (
    record {
      calm = record {
        gets = record { unlinks = refl; closes = λ is. absurd (cc); gives = λ b. absurd b };
        gives = λ is. absurd (cc);
      };
      plain = refl;
      takes = λ is. absurd (cc);
    },
    tt,
  );
  pass = pass_goes v w (move_event v m.epoch ∷ []) z m.makes false (((λ is. absurd (cc)), (λ is. absurd (cc))), tt);
}
advances (Held caller) v w z m = advances_none v w z m.makes
advances Lost v w z m = advances_none v w z m.makes

-- moving the epoch on leaves a limbo
pub advanced_limbo : (r : Advanced) (v w : View) (limbo : LimboValue) → IsLayout v.sizes → MatchAdvanced r v w
    → IsRoomyLimbo limbo v → IsRoomyLimbo limbo w
advanced_limbo r v w limbo z m = ((advances r v w z m).parts limbo).limbo

pub advanced_number : (r : Advanced) (v w : View) (limbo : LimboValue) → IsLayout v.sizes → MatchAdvanced r v w
    → v.numbered ≡ true → w.numbered ≡ true
advanced_number r v w limbo z m = ((advances r v w z m).parts limbo).numbered

pub advanced_pass : (r : Advanced) (v w : View) → IsLayout v.sizes → MatchAdvanced r v w → HasNoPass v → HasNoPass w
advanced_pass r v w z m = (advances r v w z m).pass

pub advanced_there : (r : Advanced) (v w : View) (limbo : LimboValue) → IsLayout v.sizes → MatchAdvanced r v w
    → v.number < v.sizes.callers → w.number < w.sizes.callers
advanced_there r v w limbo z m = ((advances r v w z m).parts limbo).there

pub advanced_limit : (r : Advanced) (v w : View) → IsLayout v.sizes → MatchAdvanced r v w
    → made moves v.number v.front + 1 < most_moves → made moves w.number w.front < most_moves
advanced_limit r v w z m few =
    let leaves = (advances r v w z m).leaves in
    let n = makes_counts moves v w leaves.own leaves.makes in
    let one = leaves.shifts in
    omega (arith, n, one, few)

-- giving back ends a call too
ends_by : (v w : View) → MakesOnly IsGiving v w → MakesOnly IsEnding v w
ends_by v w h = record {
  own = h.own;
  are = each_kind IsGiving IsEnding (λ k p. inr (inr p)) h.own h.are;
  makes = h.makes;
}

-- a call ends: its pass is closed
module _ (g : TableValue) (old : HandValue) (t : TokenValue) (h : IsHandOf g old) (pass : HasPass old.token.view)
    (makes : Makes old.token.view (withdraw_event old.token.view ∷ []) t.view) (closed : HasNoPass t.view) where
  first_parts : LeavesParts old.limbo old.limbo old.token.view t.view
  first_parts = closed_parts old.token.view t.view h.of.layout makes old.limbo

  pub ending_limit : made moves old.token.view.number old.token.view.front < most_moves
      → made moves t.view.number t.view.front < most_moves
  ending_limit few =
      let n = makes_counts moves old.token.view t.view (withdraw_event old.token.view ∷ []) makes in
      omega (arith, n, few)

  pub ending_number : t.view.numbered ≡ true
  ending_number = first_parts.numbered h.numbered

  pub ending_there : t.view.number < t.view.sizes.callers
  ending_there = first_parts.there h.there

  pub ending_limbo : IsRoomyLimbo old.limbo t.view
  ending_limbo = first_parts.limbo h.limbo

  -- the hand retired no node
  module _ (none : old.retired ≡ false) where
    abbrev pub at_rest : HandValue
    at_rest = record { token = t; limbo = old.limbo; spare = old.spare; uses = old.uses; retired = old.retired }

    pub rest_hand : IsOf g t → IsHandOf g at_rest
    rest_hand = hand_goes g old at_rest h refl first_parts

    rest_leaves : LeavesGraph false 0 1 old.token.view t.view
    rest_leaves = leaves_less false 0 0 0 1 old.token.view t.view (omega arith) (omega arith)
        (closed_leaves old.token.view t.view h.of.layout makes)

    pub rest_order : IsInOrder old → IsInOrder at_rest
    rest_order ord =
        let one = due_open old.token.view pass in
        let zero = due_closed t.view closed in
        let most = ord.uses in
        order_goes old at_rest 0 1 h.of.layout rest_leaves (nodes_go g old at_rest h refl first_parts ord.nodes)
        (omega arith) (omega (arith, one, zero)) most ord

    pub rest_finished : IsFinished old at_rest
    rest_finished = record {
      only = closed_only old.token.view t.view h.of.layout makes;
      stretch = rest_leaves;
      closed = closed;
      gone = [];
      limbo = refl;
      room = refl;
      shut = t.view;
      withdrew = makes;
      tidied = λ is. absurd (cc);
      still = λ _. (refl, refl);
      spare = refl;
      uses = refl;
      retired = none;
      nodes = nodes_go g old at_rest h refl first_parts;
    }

  -- it did: the epoch is moved on, and ripe nodes are given back
  module _ (some : old.retired ≡ true) (limbo : LimboValue) (u : TokenValue)
      (tidied : HasTidied old.limbo limbo t.view u.view) where
    abbrev m : View
    m = tidied.moved

    abbrev given : GivesOldest tidied.epoch old.limbo limbo m u.view
    given = tidied.given.given

    moved : Advances t.view m
    moved = advances tidied.result t.view m (still_layout old.token.view t.view (withdraw_event old.token.view ∷ [])
        h.of.layout makes) tidied.advanced

    layout : IsLayout m.sizes
    layout = still_layout t.view m moved.leaves.own (still_layout old.token.view t.view
        (withdraw_event old.token.view ∷ []) h.of.layout makes) moved.leaves.makes

    second_parts : LeavesParts old.limbo old.limbo old.token.view m
    second_parts = parts_chain old.limbo old.limbo old.limbo old.token.view t.view m first_parts
        (moved.parts old.limbo)

    abbrev pub ended : HandValue
    ended = record { token = u; limbo = limbo; spare = old.spare; uses = old.uses; retired = false }

    last_parts : LeavesParts old.limbo limbo old.token.view u.view
    last_parts = parts_chain old.limbo old.limbo limbo old.token.view m u.view second_parts
        (giving_parts m u.view layout given.only old.limbo limbo given.limbo given.all)

    pub ended_hand : IsOf g u → IsHandOf g ended
    ended_hand = hand_goes g old ended h refl last_parts

    ended_leaves : LeavesGraph false 0 1 old.token.view u.view
    ended_leaves = leaves_chain false 0 1 0 0 old.token.view m u.view
        (leaves_chain false 0 0 0 1 old.token.view t.view m
        (closed_leaves old.token.view t.view h.of.layout makes) moved.leaves)
        (giving_leaves m u.view layout given.only)

    ended_closed : HasNoPass u.view
    ended_closed = giving_pass m u.view layout given.only false (moved.pass closed)

    pub ended_order : IsInOrder old → IsInOrder ended
    ended_order ord =
        let one = due_open old.token.view pass in
        let zero = due_closed u.view ended_closed in
        let most = ord.uses in
        order_goes old ended 0 1 h.of.layout ended_leaves (nodes_go g old ended h refl last_parts ord.nodes)
        (omega arith) (omega (arith, one, zero)) most ord

    pub ended_finished : IsFinished old ended
    ended_finished = record {
      only = only_chain IsEnding old.token.view m u.view
          (only_chain IsEnding old.token.view t.view m
          (closed_only old.token.view t.view h.of.layout makes) moved.only)
          (ends_by m u.view given.only);
      stretch = ended_leaves;
      closed = ended_closed;
      gone = given.gone;
      limbo = given.nodes;
      room = given.room;
      shut = t.view;
      withdrew = makes;
      tidied = λ _. tidied;
      still = λ is. absurd (cc);
      spare = refl;
      uses = refl;
      retired = refl;
      nodes = nodes_go g old ended h refl last_parts;
    }
