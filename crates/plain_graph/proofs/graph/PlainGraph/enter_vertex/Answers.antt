use Rattle.std.proofs.Common.{◌≡◌, Bool, not, ap, sym, subst, ◌∙◌}
use Rattle.std.specs.Prelude.{IfOk}
use Rattle.std.proofs.lemmas.Result.{on_ok_weaker, on_err_weaker}
use Rattle.graph_kinds.specs.Graph.{Graph, has}
use Rattle.plain_graph.proofs.Held.{has-held}
use Rattle.plain_graph.proofs.Steps.{mirror-kept, keys-entered, keys-left, view-stays, view-add_vertex, kept-add_vertex}
use Rattle.plain_graph.proofs.graph.PlainGraph.enter_vertex.Goals as goal

pub invariant_of-self : goal.invariant_of-self
invariant_of-self c =
    let m = c.self.inside.vertices in
    let n = c.enter_vertex.new.vertices in
    record {
      mirror = mirror-kept m n c.self.inside.sources c.enter_vertex.ensures.weights c.self.invariant.mirror;
      kept = kept-add_vertex m n c.args.self.now c.self.view_is c.self.invariant.kept c.enter_vertex.ensures.rises
          c.args.key c.enter_vertex.result c.requires
          (on_ok_weaker c.enter_vertex.result (keys-entered m n c.args.key c.enter_vertex.ensures.others)
          c.enter_vertex.ensures.there)
          (on_err_weaker c.enter_vertex.result (keys-left m n c.args.key c.enter_vertex.ensures.others)
          c.enter_vertex.ensures.stays) c.enter_vertex.ensures.weights;
    }

pub returns-clause-ok : goal.returns-clause-ok
returns-clause-ok c =
    let m = c.self.inside.vertices in
    let n = c.enter_vertex.new.vertices in
    on_ok_weaker c.enter_vertex.result
    (λ there. view-add_vertex m n c.args.self.now c.self.view_is c.self.invariant.kept c.enter_vertex.ensures.rises
    c.args.key (keys-entered m n c.args.key c.enter_vertex.ensures.others there) c.enter_vertex.ensures.weights)
    c.enter_vertex.ensures.there

pub returns-clause-err : goal.returns-clause-err
returns-clause-err c =
    let m = c.self.inside.vertices in
    let n = c.enter_vertex.new.vertices in
    on_err_weaker c.enter_vertex.result
    (λ same. view-stays m n c.args.self.now c.self.view_is c.self.invariant.kept c.enter_vertex.ensures.rises
    (keys-left m n c.args.key c.enter_vertex.ensures.others same) c.enter_vertex.ensures.weights)
    c.enter_vertex.ensures.stays

pub returns-clause-fresh : goal.returns-clause-fresh
returns-clause-fresh c = subst (λ (b : Bool). IfOk c.enter_vertex.result (λ fresh. fresh ≡ not b))
    (sym (has-held c.self.inside.vertices c.args.key) ∙ ap (λ (g : Graph). has g c.args.key) c.self.view_is)
    c.enter_vertex.ensures.fresh
