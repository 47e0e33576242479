use Rattle.std.proofs.Common.{arith, ap, ap₂, sym, subst, ◌∙◌, ◌≡◌, ℕ}
use Rattle.packed_link.specs.Link.{pack, tag_of}
use Rattle.packed_link.specs.declared.link.Life.{Life}
use Rattle.graph_table.specs.Tokens.{TokenValue}
use Rattle.edge_list.specs.EdgeChanges.{IsEdgeTryLost, IsEdgeUnlinked}
use Rattle.edge_list.specs.EdgePositions.{EdgePositionValue, IsEdgePosition, LeadsToDeadEdge}
use Rattle.edge_list.proofs.EdgeChangesTell.{edge_lost}
use Rattle.edge_list.proofs.EdgeUnlinksTell.{dead_edge_seen, may_unlink_edge, edge_unlinked}
use Rattle.edge_list.proofs.changes.unlink.Goals as goal

pub unlink_edge-requires-clause-may : goal.unlink_edge-requires-clause-may
unlink_edge-requires-clause-may c =
    let v = c.args.token.now.view in
    let p : EdgePositionValue = record {
      source = c.position.inside.source;
      key = c.position.inside.key;
      place = c.position.inside.place;
      word = c.position.inside.word;
      link = c.position.inside.link;
      moment = c.position.inside.moment.value.view.front;
    } in
    let h = subst (λ (q : EdgePositionValue). IsEdgePosition c.requires.position.0 v q)
    (sym c.position.view_is) c.requires.position.1 in
    let dead = subst (λ (q : EdgePositionValue). LeadsToDeadEdge v q) (sym c.position.view_is) c.requires.dead in
    let d = dead_edge_seen v p c.index-index.result c.tag.result c.requires.table.layout c.requires.table.sound dead
    c.index-index.ensures.index c.tag.ensures.tag in (
      p.source,
      may_unlink_edge c.requires.position.0 v p _ c.index-next.result c.requires.table.layout h d
          c.index-next.ensures.index,
    )

pub returns-in-Won-clause-unlinked : goal.returns-in-Won-clause-unlinked
returns-in-Won-clause-unlinked c =
    let v = c.args.token.now.view in
    let p : EdgePositionValue = record {
      source = c.position.inside.source;
      key = c.position.inside.key;
      place = c.position.inside.place;
      word = c.position.inside.word;
      link = c.position.inside.link;
      moment = c.position.inside.moment.value.view.front;
    } in
    let h = subst (λ (q : EdgePositionValue). IsEdgePosition c.requires.position.0 v q)
    (sym c.position.view_is) c.requires.position.1 in
    let dead = subst (λ (q : EdgePositionValue). LeadsToDeadEdge v q) (sym c.position.view_is) c.requires.dead in
    let d = dead_edge_seen v p c.index-index.result c.tag.result c.requires.table.layout c.requires.table.sound dead
    c.index-index.ensures.index c.tag.ensures.tag in
    let w = c.unlink_edge.new.token.view in
    let q : EdgePositionValue = record {
      source = c.position.inside.source;
      key = c.position.inside.key;
      place = c.position.inside.place;
      word = c.pack-word.result.0;
      link = 0;
      moment = c.of-moment.result.value.view.front;
    } in
    let word : c.pack-word.result.0 ≡ pack c.index-next.result 0 (tag_of p.word) = c.pack-word.ensures.word
    ∙ ap (pack c.index-next.result 0) c.tag-in-Won.ensures.tag in
    let is : q ≡ record {
      source = p.source;
      key = p.key;
      place = p.place;
      word = pack c.index-next.result 0 (tag_of p.word);
      link = 0;
      moment = w.front;
    } = ap₂ (λ (x : ℕ) (t : TokenValue). record {
      source = p.source;
      key = p.key;
      place = p.place;
      word = x;
      link = 0;
      moment = t.view.front;
    }) word c.of-moment.ensures in
    let done = edge_unlinked c.requires.position.0 v p _ c.index-next.result c.requires.table.layout h d
    c.index-next.ensures.index w q c.requires.number c.requires.table.sound c.in-Won.ensures.tried.1
    (omega (arith, c.index-next.ensures.bound)) is in
    subst (λ (x : Life). IsEdgeUnlinked c.args.position v w x q) (sym c.in-Won.ensures.tried.0)
    (subst (λ (r : EdgePositionValue). IsEdgeUnlinked r v w
    (record { index = c.index-index.result; tag = c.tag.result }) q) c.position.view_is done)

pub returns-clause-unlinked : goal.returns-clause-unlinked
returns-clause-unlinked c =
    let v = c.args.token.now.view in
    let p : EdgePositionValue = record {
      source = c.position.inside.source;
      key = c.position.inside.key;
      place = c.position.inside.place;
      word = c.position.inside.word;
      link = c.position.inside.link;
      moment = c.position.inside.moment.value.view.front;
    } in
    let h = subst (λ (q : EdgePositionValue). IsEdgePosition c.requires.position.0 v q)
    (sym c.position.view_is) c.requires.position.1 in
    let w = c.unlink_edge.new.token.view in
    subst (λ (r : EdgePositionValue). IsEdgeTryLost r v w) c.position.view_is
    (edge_lost c.requires.position.0 v w p _ c.unlink_edge.ensures.table.layout c.requires.number c.requires.table.sound
    h c.in-Lost.ensures.tried)
