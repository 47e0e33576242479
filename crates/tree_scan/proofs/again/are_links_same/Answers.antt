use Rattle.std.proofs.Common.{ap, sym, subst, ◌∙◌, ◌≡◌, arith, ℕ}
use Rattle.packed_link.specs.Layout.{Sizes, link_at}
use Rattle.scan_record.specs.Scan.{row_at}
use Rattle.scan_record.specs.declared.rows.VertexRow.{VertexRow}
use Rattle.core_scans.specs.Walking.{IsRowAgain}
use Rattle.core_scans.proofs.VerifyGoesOn.{again_later, link_again}
use Rattle.core_stretches.proofs.MakesAddUp.{makes_self}
use Rattle.tree_scan.proofs.RowsAgain.{edge_there, load_makes, word_loaded}
use Rattle.tree_scan.proofs.again.are_links_same.Goals as goal

pub loop-place-init : goal.loop-place-init
loop-place-init c = record {
  of = c.requires.table;
  makes = makes_self c.args.token.now.view c.requires.number c.requires.table.sound;
  few = omega arith;
  again = λ end h. h;
}

pub returns-then-link-edge-clause-makes : goal.returns-then-link-edge-clause-makes
returns-then-link-edge-clause-makes c = load_makes c.args.table.now c.args.token.now c.loop-place.token
    c.load-link.new.token c.link_at.result c.load-link.result c.requires.number c.loop-place.invariant.makes
    c.loop-place.invariant.of c.load-link.ensures.looked

pub returns-then-link-edge-clause-again : goal.returns-then-link-edge-clause-again
returns-then-link-edge-clause-again c =
    let place = c.link_at.ensures.place
    ∙ ap (λ (z : Sizes). link_at z c.edge-edge.result.life.index) c.layout-layout.ensures.sizes in
    let word = word_loaded c.args.table.now c.loop-place.token c.load-link.new.token c.link_at.result _
    c.load-link.result c.loop-place.invariant.of c.load-link.ensures.looked place in
    record {
      place = c.loop-place.place;
      edge = c.edge-edge.result;
      at = edge_there c.args.scan.now c.args.row c.loop-place.place c.vertex-vertex.result c.edge-edge.result
          c.edges-edges.ensures.valid c.requires.row c.loop-place-test.true c.vertex-vertex.ensures c.edge-edge.ensures;
      other = λ same. c.if-link-edge.true (sym word ∙ same);
    }

pub loop-place-preserved : goal.loop-place-preserved
loop-place-preserved c =
    let place = c.link_at.ensures.place
    ∙ ap (λ (z : Sizes). link_at z c.edge-edge.result.life.index) c.layout-layout.ensures.sizes in
    let word = word_loaded c.args.table.now c.loop-place.token c.load-link.new.token c.link_at.result _
    c.load-link.result c.loop-place.invariant.of c.load-link.ensures.looked place in
    let at = edge_there c.args.scan.now c.args.row c.loop-place.place c.vertex-vertex.result c.edge-edge.result
    c.edges-edges.ensures.valid c.requires.row c.loop-place-test.true c.vertex-vertex.ensures c.edge-edge.ensures in
    let count = ap (λ (r : VertexRow). r.count) c.vertex-vertex.ensures in
    record {
      of = c.load-link.ensures.table;
      makes = load_makes c.args.table.now c.args.token.now c.loop-place.token c.load-link.new.token c.link_at.result
          c.load-link.result c.requires.number c.loop-place.invariant.makes c.loop-place.invariant.of
          c.load-link.ensures.looked;
      few = omega (arith, c.loop-place-test.true, count);
      again = λ end h. link_again c.args.table.now.sizes c.args.scan.now end c.load-link.new.token.view.front
          (row_at c.args.scan.now c.args.row) c.loop-place.place c.edge-edge.result
          (again_later c.args.table.now.sizes c.args.scan.now end c.loop-place.token.view.front
          c.load-link.new.token.view.front c.load-link.ensures.looked.grows
          (row_at c.args.scan.now c.args.row) c.loop-place.place (c.loop-place.invariant.again end h)) at
          (word ∙ c.if-link-edge.false);
    }

pub returns-clause-again : goal.returns-clause-again
returns-clause-again c =
    let count = ap (λ (r : VertexRow). r.count) c.vertex-vertex.ensures in
    let few = c.loop-place.invariant.few in
    let whole : c.loop-place.place ≡ (row_at c.args.scan.now c.args.row).count =
    omega (arith, count, few, c.loop-place-test.false) in
    λ end h. subst (λ (n : ℕ). IsRowAgain c.args.table.now.sizes c.args.scan.now end c.loop-place.token.view.front
    (row_at c.args.scan.now c.args.row) n) whole (c.loop-place.invariant.again end h)
