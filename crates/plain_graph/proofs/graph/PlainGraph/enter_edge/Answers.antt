use Rattle.std.proofs.Common.{◌≡◌, ℕ, ◌+◌, ◌==◌, ◌&&◌, Bool, false, cond, Some, None, ap, sym, ◌∙◌}
use Rattle.std.proofs.lemmas.Result.{err_from_is_err_and}
use Rattle.graph_kinds.specs.declared.call.Call.TheVariants.{AddEdge}
use Rattle.graph_kinds.specs.Graph.{Graph, has, weight_of}
use Rattle.graph_kinds.specs.Answer.{change}
use Rattle.plain_graph.specs.Kept.{holds, weight_held}
use Rattle.plain_graph.proofs.Held.{has-held}
use Rattle.plain_graph.proofs.Outcomes.{source_gone}
use Rattle.plain_graph.proofs.Steps.{view-stays, kept-stays, view-entered, kept-entered, entered-before}
use Rattle.plain_graph.proofs.graph.PlainGraph.enter_edge.Goals as goal

pub invariant_of-self : goal.invariant_of-self
invariant_of-self c = record {
  mirror = c.in_err-before.ensures.mirror;
  kept = kept-stays c.self.inside.vertices
      c.insert_edge.new.vertices c.args.self.now c.self.view_is c.self.invariant.kept c.in_err-before.ensures.rises
      c.in_err-before.ensures.keys c.in_err-before.ensures.stays;
}

pub returns-in_err-before-clause-err : goal.returns-in_err-before-clause-err
returns-in_err-before-clause-err c = let p = err_from_is_err_and c.from_residual.result c.from_residual.ensures.1 in rw
    p.1
    (view-stays c.self.inside.vertices c.insert_edge.new.vertices c.args.self.now c.self.view_is c.self.invariant.kept
    c.in_err-before.ensures.rises c.in_err-before.ensures.keys c.in_err-before.ensures.stays)

pub invariant_of-self-then-is_none : goal.invariant_of-self-then-is_none
invariant_of-self-then-is_none c = record {
  mirror = c.in_ok-before.ensures.mirror;
  kept = kept-entered c.self.inside.vertices c.insert_edge.new.vertices c.args.self.now c.self.view_is
      c.self.invariant.kept c.in_ok-before.ensures.rises c.args.from c.args.to c.in_ok-before.ensures.keys c.args.weight
      _ _ c.in_ok-before.ensures.weights c.in_ok-before.ensures.before c.in-Some.is c.requires.to_key
      c.requires.weighed c.requires.room _
      (ap (λ t. cond t c.self.inside.edges (c.self.inside.edges + 1)) (sym c.if-is_none.ensures));
}

pub returns-then-is_none-clause-ok : goal.returns-then-is_none-clause-ok
returns-then-is_none-clause-ok c = view-entered c.self.inside.vertices c.insert_edge.new.vertices c.args.self.now
    c.self.view_is c.self.invariant.kept c.in_ok-before.ensures.rises c.args.from c.args.to c.in_ok-before.ensures.keys
    c.args.weight _ _ c.in_ok-before.ensures.weights c.in_ok-before.ensures.before c.in-Some.is

pub returns-then-is_none-clause-before : goal.returns-then-is_none-clause-before
returns-then-is_none-clause-before c = entered-before c.self.inside.vertices c.insert_edge.new.vertices
    c.args.self.now c.self.view_is c.self.invariant.kept c.in_ok-before.ensures.rises c.args.from c.args.to
    c.in_ok-before.ensures.keys c.args.weight _ _ c.in_ok-before.ensures.weights c.in_ok-before.ensures.before
    c.in-Some.is

pub invariant_of-self-else-is_none : goal.invariant_of-self-else-is_none
invariant_of-self-else-is_none c = record {
  mirror = c.in_ok-before.ensures.mirror;
  kept = kept-entered c.self.inside.vertices c.insert_edge.new.vertices c.args.self.now c.self.view_is
      c.self.invariant.kept c.in_ok-before.ensures.rises c.args.from c.args.to c.in_ok-before.ensures.keys c.args.weight
      _ _ c.in_ok-before.ensures.weights c.in_ok-before.ensures.before c.in-Some.is c.requires.to_key
      c.requires.weighed c.requires.room _
      (ap (λ t. cond t c.self.inside.edges (c.self.inside.edges + 1)) (sym c.if-is_none.ensures));
}

pub returns-else-is_none-clause-ok : goal.returns-else-is_none-clause-ok
returns-else-is_none-clause-ok c = view-entered c.self.inside.vertices c.insert_edge.new.vertices c.args.self.now
    c.self.view_is c.self.invariant.kept c.in_ok-before.ensures.rises c.args.from c.args.to c.in_ok-before.ensures.keys
    c.args.weight _ _ c.in_ok-before.ensures.weights c.in_ok-before.ensures.before c.in-Some.is

pub returns-else-is_none-clause-before : goal.returns-else-is_none-clause-before
returns-else-is_none-clause-before c = entered-before c.self.inside.vertices c.insert_edge.new.vertices
    c.args.self.now c.self.view_is c.self.invariant.kept c.in_ok-before.ensures.rises c.args.from c.args.to
    c.in_ok-before.ensures.keys c.args.weight _ _ c.in_ok-before.ensures.weights c.in_ok-before.ensures.before
    c.in-Some.is

-- nothing was put: the source isn't there
gone : (c : goal.In-None) → holds c.self.inside.vertices c.args.from ≡ false
gone c = source_gone _ _ _ c.in_ok-before.ensures.before c.in-None.is

no_key : (c : goal.In-None) → has c.args.self.now c.args.from ≡ false
no_key c = sym (ap (λ (g : Graph). has g c.args.from) c.self.view_is)
    ∙ (has-held c.self.inside.vertices c.args.from ∙ gone c)

same : (c : goal.In-None) (a b : ℕ) → weight_held c.insert_edge.new.vertices a b
    ≡ weight_held c.self.inside.vertices a b
same c a b = c.in_ok-before.ensures.weights a b ∙ ap (λ (t : Bool). cond (t && ((c.args.from == a) &&
    (c.args.to == b))) (Some c.args.weight) (weight_held c.self.inside.vertices a b)) (gone c)

pub invariant_of-self-in-None : goal.invariant_of-self-in-None
invariant_of-self-in-None c = record {
  mirror = c.in_ok-before.ensures.mirror;
  kept = kept-stays c.self.inside.vertices c.insert_edge.new.vertices c.args.self.now c.self.view_is
      c.self.invariant.kept c.in_ok-before.ensures.rises c.in_ok-before.ensures.keys (same c);
}

pub returns-in-None-clause-ok : goal.returns-in-None-clause-ok
returns-in-None-clause-ok c = view-stays c.self.inside.vertices c.insert_edge.new.vertices c.args.self.now
    c.self.view_is c.self.invariant.kept c.in_ok-before.ensures.rises c.in_ok-before.ensures.keys (same c)
    ∙ sym (ap (λ t. cond t (change c.args.self.now (AddEdge c.args.from c.args.to c.args.weight)) c.args.self.now)
    (no_key c))

pub returns-in-None-clause-before : goal.returns-in-None-clause-before
returns-in-None-clause-before c =
    sym (ap (λ t. cond t (Some (weight_of c.args.self.now c.args.from c.args.to)) None) (no_key c))
