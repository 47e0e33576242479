use Rattle.std.proofs.Common.{◌≡◌, [], Some, None, refl, sym, ap, ◌∙◌, rules}
use Rattle.std.specs.Ordering.{nat_cmp}
use Rattle.std.specs.BTreeMap.{get}
use Rattle.scan_record.specs.declared.rows.VertexRow.{VertexRow}
use Rattle.scan_record.specs.Scan.{row_at}
use Rattle.scan_record.specs.declared.rows.EdgeRow.{EdgeRow}
use Rattle.plain_graph.specs.Collecting.{LeadsToRow, edge_list}
use Rattle.plain_graph.proofs.Collects.{row_begins, row_ends, row_meets, row_pushes, row_rises, row_weighed}
use Rattle.plain_graph.proofs.parts.push_row.Goals as goal

pub push_edge-requires-clause-weighed : goal.push_edge-requires-clause-weighed
push_edge-requires-clause-weighed c =
    let m = c.args.vertices.now in
    let key = c.vertex-key.result.key in
    let root = (row_at c.args.scan.now 0).key in
    let found : get nat_cmp m key ≡ Some c.in-Some.edges.now = search rules in
    let before = rw c.in-Some-2.ensures.steps at c.loop-to.invariant in
    row_weighed m c.requires.rises c.requires.sound c.in-Some.edges.now key found c.args.row root c.loop-to.numbers
    c.loop-to.scan (c.in-Some-2.to.now, c.in-Some-2.weight.now) c.next.new.self before

pub push_edge-requires-clause-rising : goal.push_edge-requires-clause-rising
push_edge-requires-clause-rising c =
    let m = c.args.vertices.now in
    let key = c.vertex-key.result.key in
    let root = (row_at c.args.scan.now 0).key in
    let found : get nat_cmp m key ≡ Some c.in-Some.edges.now = search rules in
    let before = rw c.in-Some-2.ensures.steps at c.loop-to.invariant in
    let met = row_meets m c.requires.rises c.requires.sound c.in-Some.edges.now key found c.args.row root
    c.loop-to.numbers c.meet.new.numbers c.loop-to.scan c.meet.new.scan
    (c.in-Some-2.to.now, c.in-Some-2.weight.now) c.next.new.self before
    c.in_ok-target.ensures.meets c.in_ok-target.ensures.numbering c.in_ok-target.ensures.indexed in
    row_rises m c.requires.rises c.requires.sound c.in-Some.edges.now key found c.args.row root c.meet.new.numbers
    c.meet.new.scan (c.in-Some-2.to.now, c.in-Some-2.weight.now) c.next.new.self met

pub loop-to-preserved : goal.loop-to-preserved
loop-to-preserved c =
    let m = c.args.vertices.now in
    let key = c.vertex-key.result.key in
    let root = (row_at c.args.scan.now 0).key in
    let found : get nat_cmp m key ≡ Some c.in-Some.edges.now = search rules in
    let before = rw c.in-Some-2.ensures.steps at c.loop-to.invariant in
    let met = row_meets m c.requires.rises c.requires.sound c.in-Some.edges.now key found c.args.row root
    c.loop-to.numbers c.meet.new.numbers c.loop-to.scan c.meet.new.scan
    (c.in-Some-2.to.now, c.in-Some-2.weight.now) c.next.new.self before
    c.in_ok-target.ensures.meets c.in_ok-target.ensures.numbering c.in_ok-target.ensures.indexed in
    let row = rw c.in-Some-3.is at c.in_ok-target.ensures.row in
    let edge : EdgeRow = record {
      life = record { index = 0; tag = 0 };
      link = 0;
      key = c.in-Some-2.to.now;
      weight =
          c.in-Some-2.weight.now;
      target = Some c.in-Some-3.target;
    } in
    let leads : LeadsToRow c.meet.new.scan edge = record {
      row = c.in-Some-3.target;
      target = refl;
      within = row.0;
      key
          = row.1;
    } in
    row_pushes m c.requires.rises c.requires.sound c.in-Some.edges.now key found c.args.row root c.meet.new.numbers
    c.meet.new.scan c.push_edge.new.self edge (c.in-Some-2.to.now, c.in-Some-2.weight.now) c.next.new.self met
    c.edges.ensures.valid leads refl c.push_edge.ensures.pushed c.push_edge.ensures.last

pub returns-in_default-clause-collected : goal.returns-in_default-clause-collected
returns-in_default-clause-collected c =
    let m = c.args.vertices.now in
    let s = c.args.scan.now in
    let t = c.start_edges.new.self in
    let key = c.vertex-key.result.key in
    let none : get nat_cmp m key ≡ None = search rules in
    λ _. row_ends m c.args.numbers.now t c.args.row key (row_at s 0).key
    (row_begins m c.args.numbers.now s t c.args.row key [] c.requires.collected c.requires.row
    c.start_edges.ensures.started c.start_edges.ensures.no_edges
    (ap (λ (r : VertexRow). r.key) c.vertex-key.ensures) (sym (ap edge_list none)))

pub loop-to-init : goal.loop-to-init
loop-to-init c =
    let m = c.args.vertices.now in
    let s = c.args.scan.now in
    let key = c.vertex-key.result.key in
    let found : get nat_cmp m key ≡ Some c.in-Some.edges.now = search rules in
    let all : c.into_iter-to-iterator.result ≡ c.in-Some.edges.now.entries = search rules in
    row_begins m c.args.numbers.now s c.start_edges.new.self c.args.row key c.into_iter-to-iterator.result
    c.requires.collected c.requires.row c.start_edges.ensures.started c.start_edges.ensures.no_edges
    (ap (λ (r : VertexRow). r.key) c.vertex-key.ensures) (all ∙ sym (ap edge_list found))

pub returns-clause-collected : goal.returns-clause-collected
returns-clause-collected c =
    let none : c.loop-to.to-iterator ≡ [] = search rules in
    λ _. row_ends c.args.vertices.now c.loop-to.numbers c.loop-to.scan c.args.row c.vertex-key.result.key
    (row_at c.args.scan.now 0).key (rw none at c.loop-to.invariant)
