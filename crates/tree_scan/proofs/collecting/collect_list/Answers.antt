use Rattle.std.proofs.Common.{arith, sym, ap, ◌∙◌, ◌≢◌}
use Rattle.packed_link.specs.Link.{index_of, nowhere}
use Rattle.packed_link.specs.Layout.{Sizes}
use Rattle.tree_scan.proofs.ListsWalked.{walk_done, walk_few, walk_first, walk_has, walk_next}
use Rattle.tree_scan.proofs.collecting.collect_list.Goals as goal

pub loop-token-init : goal.loop-token-init
loop-token-init c = walk_first c.args.table.now c.args.token.now c.args.scan.now c.args.head c.requires.table
    c.requires.number c.requires.stands.0 c.requires.stands.1

pub collect_edge-at-requires-clause-table : goal.collect_edge-at-requires-clause-table
collect_edge-at-requires-clause-table c = c.loop-token.invariant.of

pub collect_edge-at-requires-clause-number : goal.collect_edge-at-requires-clause-number
collect_edge-at-requires-clause-number c = walk_has c.args.table.now c.args.token.now c.args.scan.now c.args.head
    c.loop-token.token
    c.loop-token.scan c.loop-token.at c.loop-token.steps
    c.requires.number c.loop-token.invariant

pub collect_edge-at-requires-clause-stands : goal.collect_edge-at-requires-clause-stands
collect_edge-at-requires-clause-stands c =
    (c.loop-token.invariant.start, c.loop-token.steps, c.loop-token.invariant.some)

pub overflow_add-steps : goal.overflow_add-steps
overflow_add-steps c =
    let some : index_of c.loop-token.at ≢ nowhere = λ is. c.loop-token-test.true (c.index.ensures.index ∙ is) in
    let less = walk_few c.args.table.now c.args.token.now c.args.scan.now c.args.head c.loop-token.token
    c.loop-token.scan c.loop-token.at c.loop-token.steps
    c.loop-token.invariant some in
    omega (arith, less, ap (λ (z : Sizes). z.nodes) c.requires.table.sizes, c.requires.table.layout.few_nodes)

pub loop-token-smaller : goal.loop-token-smaller
loop-token-smaller c =
    let some : index_of c.loop-token.at ≢ nowhere = λ is. c.loop-token-test.true (c.index.ensures.index ∙ is) in
    let less = walk_few c.args.table.now c.args.token.now c.args.scan.now c.args.head c.loop-token.token
    c.loop-token.scan c.loop-token.at c.loop-token.steps
    c.loop-token.invariant some in
    omega (arith, less)

pub loop-token-preserved : goal.loop-token-preserved
loop-token-preserved c = walk_next c.args.table.now c.args.token.now c.args.scan.now c.args.head c.loop-token.token
    c.collect_edge-at.new.token c.loop-token.scan c.collect_edge-at.new.scan c.loop-token.at c.loop-token.steps
    c.collect_edge-at.result c.loop-token.invariant c.collect_edge-at.ensures.table c.collect_edge-at.ensures.makes
    c.collect_edge-at.ensures.grown c.collect_edge-at.ensures.stands

pub returns-clause-table : goal.returns-clause-table
returns-clause-table c = c.loop-token.invariant.of

pub returns-clause-makes : goal.returns-clause-makes
returns-clause-makes c = c.loop-token.invariant.makes

pub returns-clause-grown : goal.returns-clause-grown
returns-clause-grown c = c.loop-token.invariant.grown

pub returns-clause-stands : goal.returns-clause-stands
returns-clause-stands c = walk_done c.args.table.now c.args.token.now c.args.scan.now c.args.head c.loop-token.token
    c.loop-token.scan c.loop-token.at c.loop-token.steps
    c.loop-token.invariant (sym c.index.ensures.index ∙ c.loop-token-test.false)
