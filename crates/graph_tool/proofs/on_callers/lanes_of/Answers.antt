use Rattle.std.proofs.Common.{rules, ◌≡◌, List, [], ◌∷◌, ◌++◌, length, get_or, sym, ap, ◌∙◌, subst}
use Rattle.std.specs.Prelude.{All}
use Rattle.caller_run.specs.declared.lane.Lane.{Lane}
use Rattle.graph_tool.specs.OnCallers.{caller_of, graph_of_lane}
use Rattle.graph_tool.specs.declared.gated.GatedPort.{GatedPort}
use Rattle.graph_tool.proofs.Along.{all-more, length-more, pairs-more}
use Rattle.graph_tool.proofs.on_callers.lanes_of.Goals as goal

pub loop-caller-preserved : goal.loop-caller-preserved
loop-caller-preserved g c =
    let items : c.push.new.self.items ≡ c.loop-caller.lanes.items ++ c.lane_of.result ∷ [] = search rules in
    let same : length c.loop-caller.lanes.items ≡ length c.loop-caller.yielded = search rules in
    let count : length c.push.new.self.items ≡ length (c.loop-caller.yielded ++ c.in-Some.caller ∷ []) =
    ap length items
    ∙ length-more c.loop-caller.lanes.items c.loop-caller.yielded c.lane_of.result c.in-Some.caller same in
    let all : All (λ (x : Lane (GatedPort g.row.G.Denot)). graph_of_lane x ≡ c.args.graph.now)
    c.push.new.self.items =
    subst (All (λ (x : Lane (GatedPort g.row.G.Denot)). graph_of_lane x ≡ c.args.graph.now)) (sym items)
    (all-more (λ (x : Lane (GatedPort g.row.G.Denot)). graph_of_lane x ≡ c.args.graph.now) c.loop-caller.lanes.items
    c.lane_of.result (λ i d low. c.loop-caller.invariant.graph i d (search rules)) c.lane_of.ensures.graph) in
    record {
      len = search rules;
      callers = λ i d e low. ap (λ (l : List (Lane (GatedPort g.row.G.Denot))). caller_of (get_or l i d)) items
          ∙ pairs-more caller_of c.loop-caller.lanes.items c.loop-caller.yielded c.lane_of.result c.in-Some.caller same
          c.loop-caller.invariant.callers c.lane_of.ensures.caller i d e low;
      graph = λ i d low. all i d (search rules);
    }
