use Rattle.std.proofs.Common.{◌≡◌, ◌<◌, length, sym, subst, arith}
use Rattle.std.proofs.lemmas.List.{get_or_read}
use Rattle.scan_record.specs.Scan.{ScanValue, row_at, new_row, blank_life}
use Rattle.scan_record.specs.Storage.{scan_of}
use Rattle.scan_record.proofs.Starts.{start_stored}
use Rattle.scan_record.proofs.scan.Scan.start_edges.Goals as goal

pub invariant_of-self : goal.invariant_of-self
invariant_of-self c =
    let inside : c.args.row < length c.self.inside.rows.items = subst (λ (v : ScanValue). c.args.row < length v.rows)
    (sym c.self.view_is) c.requires.row in
    let seen : c.index_mut-start.result.now ≡ row_at (scan_of c.self.inside) c.args.row =
    get_or_read c.self.inside.rows.items c.args.row c.index_mut-start.result.now inside c.index_mut-start.ensures.value
    (new_row blank_life 0) in
    let first : c.len-first.result ≡ length c.self.inside.edges.items = omega arith in
    start_stored c.self.inside _ c.args.self.now c.args.row c.args.counter c.args.head c.self.invariant c.self.view_is
    c.requires.row c.requires.rising (cc) (cc)
    (record {
      rows = omega arith;
      edges = omega arith;
      keys = omega arith;
      ends = omega arith;
      costs = omega arith;
      slot_zero = omega arith;
      slot_one = omega arith;
      slot_two = omega arith;
    })
