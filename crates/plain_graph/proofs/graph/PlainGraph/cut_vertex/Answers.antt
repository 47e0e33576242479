use Rattle.std.proofs.Common.{◌≡◌, ℕ, ◌+◌, ◌==◌, false, cond, None, is_some, refl, sym, ap, subst}
use Rattle.std.proofs.Common.{◌∙◌, arith}
use Rattle.graph_kinds.specs.Graph.{Graph, has, pair_count, IsGraph}
use Rattle.plain_graph.specs.Kept.{holds, weight_held, graph_in_maps}
use Rattle.plain_graph.proofs.Changes.{without-absent}
use Rattle.plain_graph.proofs.Held.{has-held}
use Rattle.plain_graph.proofs.Steps.{view-stays, kept-stays, keys-absent, weights-absent, view-cut_vertex}
use Rattle.plain_graph.proofs.Steps.{kept-cut_vertex}
use Rattle.plain_graph.proofs.graph.PlainGraph.cut_vertex.Goals as goal

-- the vertex isn't there, and all stands as before
absent : (c : goal.In_default) → holds c.self.inside.vertices c.args.key ≡ false
absent c = sym c.remove_vertex.ensures.was ∙ ap is_some c.in_default.is

same_keys : (c : goal.In_default) (q : ℕ) → holds c.remove_vertex.new.vertices q ≡ holds c.self.inside.vertices q
same_keys c = keys-absent c.self.inside.vertices c.remove_vertex.new.vertices c.args.self.now c.self.view_is
    c.self.invariant.kept c.remove_vertex.ensures.rises c.args.key (absent c) c.remove_vertex.ensures.keys

same_weights : (c : goal.In_default) (a b : ℕ) → weight_held c.remove_vertex.new.vertices a b
    ≡ weight_held c.self.inside.vertices a b
same_weights c = weights-absent c.self.inside.vertices c.remove_vertex.new.vertices c.args.self.now c.self.view_is
    c.self.invariant.kept c.remove_vertex.ensures.rises c.args.key (absent c) c.remove_vertex.ensures.weights

no_key : (c : goal.In_default) → has c.args.self.now c.args.key ≡ false
no_key c = sym (ap (λ (g : Graph). has g c.args.key) c.self.view_is)
    ∙ (has-held c.self.inside.vertices c.args.key ∙ absent c)

pub invariant_of-self : goal.invariant_of-self
invariant_of-self c = record {
  mirror = c.remove_vertex.ensures.mirror;
  kept = kept-stays c.self.inside.vertices c.remove_vertex.new.vertices c.args.self.now c.self.view_is
      c.self.invariant.kept c.remove_vertex.ensures.rises (same_keys c) (same_weights c);
}

pub returns-in_default-clause-cut : goal.returns-in_default-clause-cut
returns-in_default-clause-cut c = view-stays c.self.inside.vertices c.remove_vertex.new.vertices c.args.self.now
    c.self.view_is c.self.invariant.kept c.remove_vertex.ensures.rises (same_keys c) (same_weights c)
    ∙ sym (without-absent c.args.self.now c.args.key (subst IsGraph c.self.view_is c.self.invariant.kept.sound)
    (no_key c))

pub returns-in_default-clause-was : goal.returns-in_default-clause-was
returns-in_default-clause-was c = sym (no_key c)

-- the vertex was taken out with its edges
keys : (c : goal.After-forget) (q : ℕ) → holds c.remove_edges_to-inward.new.vertices q
    ≡ cond (c.args.key == q) false (holds c.self.inside.vertices q)
keys c q = c.remove_edges_to-inward.ensures.keys q ∙ c.remove_vertex.ensures.keys q

weights : (c : goal.After-forget) (a b : ℕ) → weight_held c.remove_edges_to-inward.new.vertices a b
    ≡ cond (c.args.key == b) None (cond (c.args.key == a) None (weight_held c.self.inside.vertices a b))
weights c a b = c.remove_edges_to-inward.ensures.weights a b ∙ ap (cond (c.args.key == b) None)
    (c.remove_vertex.ensures.weights a b)

less : (c : goal.After-forget) → pair_count (graph_in_maps c.remove_edges_to-inward.new.vertices)
    + (c.in-Some.outward + c.remove_edges_to-inward.result) ≡ pair_count (graph_in_maps c.self.inside.vertices)
less c =
    let outward = c.in-Some.ensures.count in
    let inward = c.remove_edges_to-inward.ensures.count in
    omega (arith, outward, inward)

pub invariant_of-self-2 : goal.invariant_of-self-2
invariant_of-self-2 c = record {
  mirror = c.remove_edges_to-inward.ensures.mirror;
  kept = kept-cut_vertex c.self.inside.vertices c.remove_edges_to-inward.new.vertices c.args.self.now c.self.view_is
      c.self.invariant.kept c.remove_edges_to-inward.ensures.rises c.args.key (keys c) (weights c)
      (c.in-Some.outward + c.remove_edges_to-inward.result) _ (less c) refl;
}

pub returns-clause-cut : goal.returns-clause-cut
returns-clause-cut c = view-cut_vertex c.self.inside.vertices c.remove_edges_to-inward.new.vertices c.args.self.now
    c.self.view_is c.self.invariant.kept c.remove_edges_to-inward.ensures.rises c.args.key (keys c) (weights c)

pub returns-clause-was : goal.returns-clause-was
returns-clause-was c = sym (ap is_some c.in-Some.is) ∙ (c.remove_vertex.ensures.was
    ∙ (sym (has-held c.self.inside.vertices c.args.key) ∙ ap (λ (g : Graph). has g c.args.key) c.self.view_is))
