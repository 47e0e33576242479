use Rattle.std.proofs.Common.{◌+◌, Option, ap, ◌∙◌, rules}
use Rattle.graph_kinds.specs.Graph.{pair_count}
use Rattle.plain_graph.specs.Kept.{Edges, Rises, graph_in_maps, edges_out}
use Rattle.plain_graph.proofs.Cuts.{count-cut_vertex}
use Rattle.plain_graph.proofs.maps.remove_vertex.Goals as goal

pub returns-clause-count : goal.returns-clause-count
returns-clause-count c =
    let after : Rises c.remove.new.self = search rules in
    ap (λ (o : Option Edges). pair_count (graph_in_maps c.remove.new.self) + edges_out o) c.remove.ensures.value
    ∙ count-cut_vertex c.args.vertices.now c.remove.new.self c.requires after c.args.key c.remove.ensures.entries
