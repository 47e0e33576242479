use Rattle.std.proofs.Common.{◌-◌, cond, ap, sym, ◌∙◌, Option, Some, is_some, ℕ}
use Rattle.plain_graph.proofs.Cuts.{told_weight, told_none}
use Rattle.plain_graph.proofs.Steps.{told-looked_up, view-cut_edge, kept-cut_edge, counted-there}
use Rattle.plain_graph.proofs.graph.PlainGraph.cut_edge.Goals as goal

pub overflow_sub-self : goal.overflow_sub-self
overflow_sub-self c =
    let e = c.in-Some-Some.ensures in
    counted-there c.self.inside.vertices c.remove_edge.new.vertices c.args.self.now c.self.view_is
    c.self.invariant.kept e.rises c.args.from c.args.to e.keys
    (ap is_some (told_weight c.self.inside.vertices c.args.from c.args.to c.in-Some-Some.field-0 e.before
    ∙ c.in-Some-Some.field-0-is))

pub invariant_of-self : goal.invariant_of-self
invariant_of-self c =
    let e = c.in-Some-Some.ensures in
    record {
      mirror = e.mirror;
      kept = kept-cut_edge c.self.inside.vertices c.remove_edge.new.vertices c.args.self.now c.self.view_is
          c.self.invariant.kept e.rises c.args.from c.args.to e.keys e.weights _
          (sym (ap (λ (o : Option ℕ). cond (is_some o) (c.self.inside.edges - 1) c.self.inside.edges)
          (told_weight c.self.inside.vertices c.args.from c.args.to c.in-Some-Some.field-0 e.before
          ∙ c.in-Some-Some.field-0-is)));
    }

pub returns-in-Some-Some-clause-cut : goal.returns-in-Some-Some-clause-cut
returns-in-Some-Some-clause-cut c =
    let e = c.in-Some-Some.ensures in
    view-cut_edge c.self.inside.vertices c.remove_edge.new.vertices c.args.self.now c.self.view_is
    c.self.invariant.kept e.rises c.args.from c.args.to e.keys e.weights

pub returns-in-Some-Some-clause-was : goal.returns-in-Some-Some-clause-was
returns-in-Some-Some-clause-was c =
    let e = c.in-Some-Some.ensures in
    ap (λ (o : Option ℕ). Some o) (sym c.in-Some-Some.field-0-is) ∙ e.before
    ∙ told-looked_up c.self.inside.vertices c.self.inside.sources c.args.self.now c.self.view_is c.self.invariant
    c.args.from c.args.to

pub invariant_of-self-in-Some-None : goal.invariant_of-self-in-Some-None
invariant_of-self-in-Some-None c =
    let e = c.in-Some-None.ensures in
    record {
      mirror = e.mirror;
      kept = kept-cut_edge c.self.inside.vertices c.remove_edge.new.vertices c.args.self.now c.self.view_is
          c.self.invariant.kept e.rises c.args.from c.args.to e.keys e.weights _
          (sym (ap (λ (o : Option ℕ). cond (is_some o) (c.self.inside.edges - 1) c.self.inside.edges)
          (told_weight c.self.inside.vertices c.args.from c.args.to c.in-Some-None.field-0 e.before
          ∙ c.in-Some-None.field-0-is)));
    }

pub returns-in-Some-None-clause-cut : goal.returns-in-Some-None-clause-cut
returns-in-Some-None-clause-cut c =
    let e = c.in-Some-None.ensures in
    view-cut_edge c.self.inside.vertices c.remove_edge.new.vertices c.args.self.now c.self.view_is
    c.self.invariant.kept e.rises c.args.from c.args.to e.keys e.weights

pub returns-in-Some-None-clause-was : goal.returns-in-Some-None-clause-was
returns-in-Some-None-clause-was c =
    let e = c.in-Some-None.ensures in
    ap (λ (o : Option ℕ). Some o) (sym c.in-Some-None.field-0-is) ∙ e.before
    ∙ told-looked_up c.self.inside.vertices c.self.inside.sources c.args.self.now c.self.view_is c.self.invariant
    c.args.from c.args.to

pub invariant_of-self-in-None : goal.invariant_of-self-in-None
invariant_of-self-in-None c =
    let e = c.in-None.ensures in
    record {
      mirror = e.mirror;
      kept = kept-cut_edge c.self.inside.vertices c.remove_edge.new.vertices c.args.self.now c.self.view_is
          c.self.invariant.kept e.rises c.args.from c.args.to e.keys e.weights _
          (sym (ap (λ (o : Option ℕ). cond (is_some o) (c.self.inside.edges - 1) c.self.inside.edges)
          (told_none c.self.inside.vertices c.args.from c.args.to e.before)));
    }

pub returns-in-None-clause-cut : goal.returns-in-None-clause-cut
returns-in-None-clause-cut c =
    let e = c.in-None.ensures in
    view-cut_edge c.self.inside.vertices c.remove_edge.new.vertices c.args.self.now c.self.view_is
    c.self.invariant.kept e.rises c.args.from c.args.to e.keys e.weights

pub returns-in-None-clause-was : goal.returns-in-None-clause-was
returns-in-None-clause-was c =
    let e = c.in-None.ensures in
    e.before
    ∙ told-looked_up c.self.inside.vertices c.self.inside.sources c.args.self.now c.self.view_is c.self.invariant
    c.args.from c.args.to
