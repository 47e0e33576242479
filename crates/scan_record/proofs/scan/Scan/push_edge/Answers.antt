use Rattle.std.proofs.Common.{◌≡◌, ◌<◌, ◌-◌, length, sym, subst, arith}
use Rattle.std.proofs.lemmas.List.{get_or_read}
use Rattle.scan_record.specs.Scan.{ScanValue, row_at, new_row, blank_life}
use Rattle.scan_record.specs.Storage.{scan_of}
use Rattle.scan_record.proofs.Edges.{edge_stored}
use Rattle.scan_record.proofs.scan.Scan.push_edge.Goals as goal

pub invariant_of-self : goal.invariant_of-self
invariant_of-self c =
    let some : 0 < c.self.inside.next = subst (λ (v : ScanValue). 0 < v.next) (sym c.self.view_is) c.requires.started in
    let inside : c.self.inside.next - 1 < length c.self.inside.rows.items = omega
    (arith, c.self.invariant.scan.started_are_rows) in
    let seen : c.index_mut-last.result.now ≡ row_at (scan_of c.self.inside) (c.self.inside.next - 1) =
    get_or_read c.self.inside.rows.items (c.self.inside.next - 1) c.index_mut-last.result.now inside
    c.index_mut-last.ensures.value (new_row blank_life 0) in
    edge_stored c.self.inside _ c.args.self.now c.args.edge c.self.invariant c.self.view_is
    c.requires.room c.requires.started c.requires.weighed c.requires.target c.requires.rising (omega arith)
    (omega arith) (cc) (cc)
    (record {
      rows = omega arith;
      edges = omega arith;
      keys = omega arith;
      ends = omega arith;
      costs = omega arith;
      slot_zero = omega arith;
      slot_one = omega arith;
      slot_two = omega arith;
    })
