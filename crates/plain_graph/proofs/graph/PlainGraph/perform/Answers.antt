use Rattle.std.proofs.Common.{◌≤◌, ◌∙◌, rules}
use Rattle.graph_kinds.specs.declared.call.Call.TheVariants.{AddEdge}
use Rattle.plain_graph.proofs.Outcomes.{after_sound, reach_below, levels_below, ok_below, updated_below}
use Rattle.plain_graph.proofs.graph.PlainGraph.perform.Goals as goal

pub returns-in_ok-add_vertex-in-AddVertex-clause-bounded : goal.returns-in_ok-add_vertex-in-AddVertex-clause-bounded
returns-in_ok-add_vertex-in-AddVertex-clause-bounded c = updated_below _ _ _ _ (λ x. x)
    (c.bare.ensures ∙ c.in_ok-add_vertex-in-AddVertex.ensures.answer)

pub returns-in_ok-add_vertex-in-AddVertex-clause-sound : goal.returns-in_ok-add_vertex-in-AddVertex-clause-sound
returns-in_ok-add_vertex-in-AddVertex-clause-sound c = after_sound _ _ _ c.allocator-alloc.ensures.sound tt
    c.in_ok-add_vertex-in-AddVertex.ensures.change

pub returns-in-RemoveVertex-clause-bounded : goal.returns-in-RemoveVertex-clause-bounded
returns-in-RemoveVertex-clause-bounded c = updated_below _ _ _ _ (λ x. x)
    (c.bare-in-RemoveVertex.ensures ∙ c.remove_vertex.ensures.answer)

pub returns-in-RemoveVertex-clause-sound : goal.returns-in-RemoveVertex-clause-sound
returns-in-RemoveVertex-clause-sound c = after_sound _ _ _ c.allocator-alloc.ensures.sound tt
    c.remove_vertex.ensures.change

pub returns-in-HasVertex-clause-bounded : goal.returns-in-HasVertex-clause-bounded
returns-in-HasVertex-clause-bounded c = updated_below _ _ _ _ (λ x. x)
    (c.bare-in-HasVertex.ensures ∙ c.has_vertex.ensures.answer)

pub returns-in_ok-add_edge-in-AddEdge-clause-bounded : goal.returns-in_ok-add_edge-in-AddEdge-clause-bounded
returns-in_ok-add_edge-in-AddEdge-clause-bounded c = updated_below _ _ _ _ (λ x. x)
    (c.bare-in-AddEdge.ensures ∙ c.in_ok-add_edge-in-AddEdge.ensures.answer)

pub returns-in_ok-add_edge-in-AddEdge-clause-sound : goal.returns-in_ok-add_edge-in-AddEdge-clause-sound
returns-in_ok-add_edge-in-AddEdge-clause-sound c =
    let made : 1 ≤ c.in-AddEdge.weight = search rules in
    after_sound _ _ (AddEdge c.in-AddEdge.from c.in-AddEdge.to c.in-AddEdge.weight) c.allocator-alloc.ensures.sound made
    c.in_ok-add_edge-in-AddEdge.ensures.change

pub returns-in-RemoveEdge-clause-bounded : goal.returns-in-RemoveEdge-clause-bounded
returns-in-RemoveEdge-clause-bounded c = updated_below _ _ _ _ (λ x. x)
    (c.bare-in-RemoveEdge.ensures ∙ c.remove_edge.ensures.answer)

pub returns-in-RemoveEdge-clause-sound : goal.returns-in-RemoveEdge-clause-sound
returns-in-RemoveEdge-clause-sound c = after_sound _ _ _ c.allocator-alloc.ensures.sound tt c.remove_edge.ensures.change

pub returns-in-HasEdge-clause-bounded : goal.returns-in-HasEdge-clause-bounded
returns-in-HasEdge-clause-bounded c = updated_below _ _ _ _ (λ x. x)
    (c.bare-in-HasEdge.ensures ∙ c.has_edge.ensures.answer)

pub returns-in-Reach-clause-bounded : goal.returns-in-Reach-clause-bounded
returns-in-Reach-clause-bounded c = ok_below _ c.reach.result _ c.reach.ensures.answer (reach_below _ _ _ _)

pub returns-in-Levels-clause-bounded : goal.returns-in-Levels-clause-bounded
returns-in-Levels-clause-bounded c = ok_below _ c.levels.result _ c.levels.ensures.answer (levels_below _ _ _)
