use Rattle.std.proofs.Common.{arith, refl, ap, ◌∙◌, ◌<◌, ◌^◌, []}
use Rattle.packed_link.specs.Layout.{key_at}
use Rattle.core_stretches.proofs.MakesAddUp.{makes_look}
use Rattle.core_stretches.proofs.MakesTell.{makes_later}
use Rattle.scan_record.specs.Scan.{ScanValue, with_vertex}
use Rattle.tree_scan.proofs.EdgesLoaded.{first_loaded, place_is}
use Rattle.tree_scan.proofs.RowsCollected.{collect_done, collect_first, collect_next, root_key_fits}
use Rattle.tree_scan.proofs.collecting.collect.Goals as goal

pub overflow_cast-key : goal.overflow_cast-key
overflow_cast-key c =
    let g = c.args.table.now in
    let t = c.args.token.now in
    let u = c.load-key.new.token in
    let x = c.args.root.index in
    let z = c.requires.table.layout in
    let loaded = first_loaded g t u c.key_at.result (key_at t.view.sizes x) c.load-key.result c.requires.table
    c.requires.number c.load-key.ensures.looked
    (place_is (λ y i. key_at y i) c.key_at.result c.layout-layout.result g.sizes t.view.sizes x x
    c.key_at.ensures.place c.layout-layout.ensures.sizes c.requires.table.sizes refl) in
    let made = makes_look t.view u.view c.key_at.result c.load-key.result c.requires.number c.requires.table.sound
    c.load-key.ensures.looked in
    let low : c.load-key.result < 2 ^ 32 = root_key_fits t.view u.view z made c.args.root c.load-key.result loaded
    c.requires.found.2.met c.requires.table.sound.kept in
    omega (arith, low)

pub loop-row-init : goal.loop-row-init
loop-row-init c =
    let g = c.args.table.now in
    let t = c.args.token.now in
    let u = c.load-key.new.token in
    let x = c.args.root.index in
    let z = c.requires.table.layout in
    let loaded = first_loaded g t u c.key_at.result (key_at t.view.sizes x) c.load-key.result c.requires.table
    c.requires.number c.load-key.ensures.looked
    (place_is (λ y i. key_at y i) c.key_at.result c.layout-layout.result g.sizes t.view.sizes x x
    c.key_at.ensures.place c.layout-layout.ensures.sizes c.requires.table.sizes refl) in
    let made = makes_look t.view u.view c.key_at.result c.load-key.result c.requires.number c.requires.table.sound
    c.load-key.ensures.looked in
    collect_first g t u c.args.root c.args.scan.now c.push_vertex.new.self c.load-key.result c.requires.table
    c.load-key.ensures.table made c.requires.room loaded
    (c.push_vertex.ensures.pushed ∙ ap (λ (y : ScanValue). with_vertex y c.args.root c.load-key.result)
    c.clear.ensures) c.requires.found.0 c.requires.found.1 c.requires.found.2

pub collect_row-requires-clause-table : goal.collect_row-requires-clause-table
collect_row-requires-clause-table c = c.loop-row.invariant.of

pub collect_row-requires-clause-number : goal.collect_row-requires-clause-number
collect_row-requires-clause-number c = (makes_later c.args.token.now.view c.loop-row.token.view []
    c.loop-row.invariant.makes).numbered ∙ c.requires.number

pub collect_row-requires-clause-row : goal.collect_row-requires-clause-row
collect_row-requires-clause-row c = c.loop-row.invariant.next

pub collect_row-requires-clause-stands : goal.collect_row-requires-clause-stands
collect_row-requires-clause-stands c = (c.loop-row.invariant.start, c.loop-row.invariant.some)

pub loop-row-smaller : goal.loop-row-smaller
loop-row-smaller c = omega (
  arith,
  c.loop-row-test.true,
  c.vertices.ensures.count,
  c.vertices.ensures.valid.rows_fit,
  c.loop-row.invariant.nodes,
)

pub loop-row-preserved : goal.loop-row-preserved
loop-row-preserved c = collect_next c.args.table.now c.args.token.now c.args.root c.args.scan.now c.loop-row.token
    c.collect_row.new.token c.loop-row.scan c.collect_row.new.scan c.loop-row.row c.loop-row.invariant
    c.collect_row.ensures.table c.collect_row.ensures.makes c.collect_row.ensures.more c.collect_row.ensures.room
    c.collect_row.ensures.next c.collect_row.ensures.stands

pub returns-clause-table : goal.returns-clause-table
returns-clause-table c = c.loop-row.invariant.of

pub returns-clause-makes : goal.returns-clause-makes
returns-clause-makes c = c.loop-row.invariant.makes

pub returns-clause-room : goal.returns-clause-room
returns-clause-room c = c.loop-row.invariant.nodes

pub returns-clause-filled : goal.returns-clause-filled
returns-clause-filled c = collect_done c.args.table.now c.args.token.now c.args.root c.args.scan.now c.loop-row.token
    c.loop-row.scan c.loop-row.row c.loop-row.invariant c.vertices.ensures.valid
    (omega (arith, c.loop-row-test.false, c.vertices.ensures.count))
