use Rattle.std.proofs.Common.{arith}
use Rattle.scan_record.proofs.Vertices.{vertex_stored}
use Rattle.scan_record.proofs.scan.Scan.push_vertex.Goals as goal

pub invariant_of-self : goal.invariant_of-self
invariant_of-self c = vertex_stored c.self.inside _ c.args.self.now c.args.life c.args.key c.self.invariant
    c.self.view_is
    c.requires.room c.requires.index c.requires.absent c.ranges.key.fits (cc) (cc)
    (record {
      rows = omega arith;
      edges = omega arith;
      keys = omega arith;
      ends = omega arith;
      costs = omega arith;
      slot_zero = omega arith;
      slot_one = omega arith;
      slot_two = omega arith;
    })
