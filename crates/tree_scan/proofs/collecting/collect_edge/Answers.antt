use Rattle.std.proofs.Common.{arith, sym, subst, ◌+◌, []}
use Rattle.core_stretches.proofs.MakesAddUp.{makes_chain}
use Rattle.scan_record.specs.Scan.{ScanValue}
use Rattle.tree_scan.specs.Collects.{IsAtEdge, IsGrown}
use Rattle.tree_scan.proofs.EdgesRecorded.{edge_later, grown, passed, recorded, rising, room_pushed, target_inside}
use Rattle.tree_scan.proofs.collecting.collect_edge.Goals as goal

pub aim_of-requires-clause-stands : goal.aim_of-requires-clause-stands
aim_of-requires-clause-stands c =
    let v = c.args.token.now.view in
    let u = c.load_edge-edge.new.token.view in
    record {
      start = c.requires.stands.0;
      at = c.args.at;
      steps = c.requires.stands.1;
      stands = edge_later v u c.requires.table.layout c.load_edge-edge.ensures.makes c.requires.stands.0
          c.args.scan.now c.args.at c.requires.stands.1 c.requires.stands.2;
    }

pub prove-unreachable-requires-in-Target : goal.prove-unreachable-requires-in-Target
prove-unreachable-requires-in-Target c =
    let v = c.args.token.now.view in
    let u = c.load_edge-edge.new.token.view in
    let w = c.aim_of.new.token.view in
    let s = c.args.scan.now in
    let z = c.requires.table.layout in
    let h = edge_later v u z c.load_edge-edge.ensures.makes c.requires.stands.0 s c.args.at c.requires.stands.1
    c.requires.stands.2 in
    let room = room_pushed u w c.load_edge-edge.ensures.table.layout c.aim_of.ensures.makes s c.args.at
    c.load_edge-edge.result c.requires.some c.load_edge-edge.ensures.told c.aim_of.new.scan c.in-Target.target
    c.in-Target.ensures.aim
    c.requires.stands.0 c.requires.stands.1 h c.edges.ensures.valid in
    omega (arith, room, c.if-prove-2.true, c.edges-in-Target.ensures.count, c.nodes-in-Target.ensures.count)

pub push_edge-requires-clause-target : goal.push_edge-requires-clause-target
push_edge-requires-clause-target c =
    let v = c.args.token.now.view in
    let u = c.load_edge-edge.new.token.view in
    let w = c.aim_of.new.token.view in
    let s = c.args.scan.now in
    let z = c.requires.table.layout in
    target_inside u w c.load_edge-edge.ensures.table.layout c.aim_of.ensures.makes s c.args.at
    c.load_edge-edge.result c.requires.some c.load_edge-edge.ensures.told c.aim_of.new.scan c.in-Target.target
    c.in-Target.ensures.aim

pub push_edge-requires-clause-rising : goal.push_edge-requires-clause-rising
push_edge-requires-clause-rising c =
    let v = c.args.token.now.view in
    let u = c.load_edge-edge.new.token.view in
    let w = c.aim_of.new.token.view in
    let s = c.args.scan.now in
    let z = c.requires.table.layout in
    let h = edge_later v u z c.load_edge-edge.ensures.makes c.requires.stands.0 s c.args.at c.requires.stands.1
    c.requires.stands.2 in
    rising u w c.load_edge-edge.ensures.table.layout c.aim_of.ensures.makes s c.args.at
    c.load_edge-edge.result c.requires.some c.load_edge-edge.ensures.told c.aim_of.new.scan c.in-Target.target
    c.in-Target.ensures.aim
    c.requires.stands.0 c.requires.stands.1 h

pub returns-in-Replaced-clause-makes : goal.returns-in-Replaced-clause-makes
returns-in-Replaced-clause-makes c = makes_chain c.args.token.now.view c.load_edge-edge.new.token.view
    c.aim_of.new.token.view [] [] c.load_edge-edge.ensures.makes c.aim_of.ensures.makes

pub returns-in-Replaced-clause-stands : goal.returns-in-Replaced-clause-stands
returns-in-Replaced-clause-stands c =
    let v = c.args.token.now.view in
    let u = c.load_edge-edge.new.token.view in
    let w = c.aim_of.new.token.view in
    let s = c.args.scan.now in
    let z = c.requires.table.layout in
    let aim = c.in-Replaced.ensures.aim in
    λ start steps h. subst (λ (y : ScanValue). IsAtEdge w start y c.load_edge-edge.result.row.link (steps + 1))
    (sym aim.0) (passed u w c.load_edge-edge.ensures.table.layout c.aim_of.ensures.makes s c.args.at
    c.load_edge-edge.result c.requires.some c.load_edge-edge.ensures.told start steps
    (edge_later v u z c.load_edge-edge.ensures.makes start s c.args.at steps h) aim.1)

pub returns-in-Target-clause-makes : goal.returns-in-Target-clause-makes
returns-in-Target-clause-makes c = makes_chain c.args.token.now.view c.load_edge-edge.new.token.view
    c.aim_of.new.token.view [] [] c.load_edge-edge.ensures.makes c.aim_of.ensures.makes

pub returns-in-Target-clause-grown : goal.returns-in-Target-clause-grown
returns-in-Target-clause-grown c =
    let v = c.args.token.now.view in
    let u = c.load_edge-edge.new.token.view in
    let w = c.aim_of.new.token.view in
    let s = c.args.scan.now in
    let z = c.requires.table.layout in
    subst (IsGrown s) (sym c.push_edge.ensures.pushed) (grown u w c.load_edge-edge.ensures.table.layout
    c.aim_of.ensures.makes s c.args.at
    c.load_edge-edge.result c.requires.some c.load_edge-edge.ensures.told c.aim_of.new.scan c.in-Target.target
    c.in-Target.ensures.aim
    c.edges-in-Target.ensures.valid)

pub returns-in-Target-clause-stands : goal.returns-in-Target-clause-stands
returns-in-Target-clause-stands c =
    let v = c.args.token.now.view in
    let u = c.load_edge-edge.new.token.view in
    let w = c.aim_of.new.token.view in
    let s = c.args.scan.now in
    let z = c.requires.table.layout in
    λ start steps h.
    let e = edge_later v u z c.load_edge-edge.ensures.makes start s c.args.at steps h in
    subst (λ (y : ScanValue). IsAtEdge w start y c.load_edge-edge.result.row.link (steps + 1))
    (sym c.push_edge.ensures.pushed) (recorded u w c.load_edge-edge.ensures.table.layout c.aim_of.ensures.makes s
    c.args.at
    c.load_edge-edge.result c.requires.some c.load_edge-edge.ensures.told c.aim_of.new.scan c.in-Target.target
    c.in-Target.ensures.aim
    c.edges-in-Target.ensures.valid start steps e (c.aim_of.ensures.met start c.args.at steps e))
