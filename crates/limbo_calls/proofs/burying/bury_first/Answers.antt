use Rattle.std.proofs.Common.{◌≡◌, List, [], ◌∷◌, length, true, refl, None, sym, subst, arith}
use Rattle.core_rule.specs.OwnEvents.{withdraw_event}
use Rattle.epoch_limbo.proofs.LimboStays.{limbo_of_none, limbo_still_by_kind}
use Rattle.epoch_limbo.specs.Limbos.{IsLimboOf}
use Rattle.graph_table.specs.Tokens.{RipeValue}
use Rattle.limbo_calls.proofs.StaysSteady.{one_node, out_of_none, steady_on}
use Rattle.limbo_calls.proofs.burying.bury_first.Goals as goal

pub close-requires-clause-steady : goal.close-requires-clause-steady
close-requires-clause-steady c =
    let v = c.close_list.new.token.view in
    steady_on true c.args._steps v c.retire.new.token.view [] c.close_list.ensures.table.layout tt tt refl refl
    c.retire.ensures.makes (c.if-not-close_list.ensures.steady refl)

pub returns-clause-buried : goal.returns-clause-buried
returns-clause-buried c =
    let v = c.close_list.new.token.view in
    let w = c.retire.new.token.view in
    let u = c.close.new.token.view in
    let r = c.retire.ensures.retired in
    let empty = c.requires.empty in
    let into = r.limbo None (subst (λ (rs : List RipeValue). IsLimboOf None v rs) (sym empty) (limbo_of_none None v))
    (c.if-not-close_list.ensures.closed refl) (out_of_none _ c.args.limbo.now.nodes empty) in
    let one : length c.retire.new.self.nodes ≡ 1 = one_node c.args.limbo.now.nodes c.retire.new.self.nodes _ empty
    r.nodes in
    λ _. record {
      steady = c.close.ensures.steady;
      limbo = limbo_still_by_kind None w u (withdraw_event w ∷ []) c.retire.ensures.table.layout c.close.ensures.makes
          c.retire.new.self.nodes ((λ y. absurd (cc)), tt) into;
      one = one;
      room = omega (arith, one, r.room, c.requires.room);
    }
