use Rattle.std.proofs.Common.{rules, ◌≡◌, ◌<◌, List, length, get_or, sym, ap, ◌∙◌, subst, drop}
use Rattle.caller_run.specs.Asked.{HasAnsweredAll, answers_to_caller, rows_of_caller}
use Rattle.caller_run.specs.declared.lane.Lane.{Lane}
use Rattle.graph_kinds.specs.History.{calls_of}
use Rattle.graph_table.specs.Tokens.{TableValue}
use Rattle.shared_graph.specs.Callers.{CallerValue, IsCallerOf, seen_by, uses_left}
use Rattle.shared_graph.specs.Ports.{caller_in}
use Rattle.graph_tool.specs.OnCallers.{caller_of, entries_of, graph_of_lane}
use Rattle.graph_tool.specs.declared.gated.GatedPort.{GatedPort}
use Rattle.graph_tool.proofs.Along.{answered-along, item-of, lent_back}
use Rattle.graph_tool.proofs.on_callers.ask_callers.Goals as goal

pub run_callers-requires-clause-numbers : goal.run_callers-requires-clause-numbers
run_callers-requires-clause-numbers g c κs within = λ i d h.
    let inside : i < length c.args.callers.items = search rules in
    ap (λ l. (caller_of (get_or l i d)).hand.token.view.number) c.as_mut_slice.ensures.value
    ∙ ap (λ (x : CallerValue). x.hand.token.view.number) (c.in_ok-lanes.ensures.callers i d (caller_of d) inside)
    ∙ c.requires.numbers i (caller_of d) inside

pub returns-clause-home : goal.returns-clause-home
returns-clause-home g c = λ i d h.
    let there : i < length c.in_ok-lanes.lanes.items = search rules in
    let e : Lane (GatedPort g.row.G.Denot) = item-of c.in_ok-lanes.lanes.items i there in
    let back = lent_back c.in_ok-lanes.lanes.len c.run_callers.new.lanes
    (drop (length c.run_callers.new.lanes) c.in_ok-lanes.lanes.items) (search rules) in
    let inside : i < length c.run_callers.new.lanes = search rules in
    let same : graph_of_lane (get_or c.run_callers.new.lanes i e) ≡ c.args.graph.now =
    c.in_ok-answers.ensures.origin i e (search rules)
    ∙ ap (λ l. graph_of_lane (get_or l i e)) c.as_mut_slice.ensures.value
    ∙ c.in_ok-lanes.ensures.graph i e (search rules) in
    subst (λ (t : TableValue). IsCallerOf t (get_or c.in_ok-callers.callers.items i d))
    (ap (λ l. graph_of_lane (get_or l i e)) back ∙ same)
    (c.in_ok-callers.ensures.home i d e
    (subst (λ (l : List (Lane (GatedPort g.row.G.Denot))). i < length l) (sym back) inside))

pub returns-clause-numbers : goal.returns-clause-numbers
returns-clause-numbers g c = λ i d h.
    let there : i < length c.in_ok-lanes.lanes.items = search rules in
    let e : Lane (GatedPort g.row.G.Denot) = item-of c.in_ok-lanes.lanes.items i there in
    let back = lent_back c.in_ok-lanes.lanes.len c.run_callers.new.lanes
    (drop (length c.run_callers.new.lanes) c.in_ok-lanes.lanes.items) (search rules) in
    let inside : i < length c.run_callers.new.lanes = search rules in
    ap (λ (x : CallerValue). x.hand.token.view.number) (c.in_ok-callers.ensures.callers i d e
    (subst (λ (l : List (Lane (GatedPort g.row.G.Denot))). i < length l) (sym back) inside))
    ∙ ap (λ l. (caller_of (get_or l i e)).hand.token.view.number) back
    ∙ c.in_ok-answers.ensures.number i e (search rules)

pub returns-clause-answered : goal.returns-clause-answered
returns-clause-answered g c = λ i d h.
    let there : i < length c.in_ok-lanes.lanes.items = search rules in
    let e : Lane (GatedPort g.row.G.Denot) = item-of c.in_ok-lanes.lanes.items i there in
    let all = answered-along (λ (p : GatedPort g.row.G.Denot). caller_in p.port) entries_of uses_left seen_by
    (get_or c.as_mut_slice.result.now i e).port (get_or c.run_callers.new.lanes i e).port c.args.tries
    (calls_of (rows_of_caller i c.args.rows.now)) (answers_to_caller i c.args.rows.now c.in_ok-answers.answers.items)
    (c.in_ok-answers.ensures.books i e (search rules)) in
    let old : caller_of (get_or c.as_mut_slice.result.now i e) ≡ get_or c.args.callers.items i d =
    ap (λ l. caller_of (get_or l i e)) c.as_mut_slice.ensures.value ∙ c.in_ok-lanes.ensures.callers i e d h in
    let back = lent_back c.in_ok-lanes.lanes.len c.run_callers.new.lanes
    (drop (length c.run_callers.new.lanes) c.in_ok-lanes.lanes.items) (search rules) in
    let inside : i < length c.run_callers.new.lanes = search rules in
    let new : caller_of (get_or c.run_callers.new.lanes i e) ≡ get_or c.in_ok-callers.callers.items i d =
    ap (λ l. caller_of (get_or l i e)) (sym back)
    ∙ sym (c.in_ok-callers.ensures.callers i d e
    (subst (λ (l : List (Lane (GatedPort g.row.G.Denot))). i < length l) (sym back) inside)) in
    subst (λ (x : CallerValue). HasAnsweredAll entries_of uses_left seen_by x (get_or c.in_ok-callers.callers.items i d)
    c.args.tries (calls_of (rows_of_caller i c.args.rows.now))
    (answers_to_caller i c.args.rows.now c.in_ok-answers.answers.items)) old
    (subst (λ (x : CallerValue). HasAnsweredAll entries_of uses_left seen_by
    (caller_of (get_or c.as_mut_slice.result.now i e)) x c.args.tries (calls_of (rows_of_caller i c.args.rows.now))
    (answers_to_caller i c.args.rows.now c.in_ok-answers.answers.items)) new all)
