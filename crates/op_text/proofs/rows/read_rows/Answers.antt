use Rattle.std.proofs.Common.{rules, ◌≡◌, ◌∙◌, inr, arith, true}
use Rattle.std.specs.Result.{is_ok}
use Rattle.csv.specs.Records.{fields_of}
use Rattle.op_text.proofs.RowSteps.{all_rows, bad_row, next_row, no_rows}
use Rattle.op_text.proofs.rows.read_rows.Goals as goal

pub loop-number-init : goal.loop-number-init
loop-number-init c =
    let made = c.from_reader-reader.ensures in
    let set = c.flexible.ensures in
    let named = c.has_headers.ensures in
    no_rows c.args.bytes.now c.args.callers c.from_reader-reader.result c.new-read.result.items c.new-read.ensures.items
    (rw (set, named) at made.trim ∙ c.new.ensures.trim)
    (rw set at made.flexible) (inr (inr (rw (set, named) at made.has_headers, made.headers)))
    (rw (set, named) at made.config ∙ c.new.ensures.config) made.state made.source

pub returns-in-Ok-false-clause-ok : goal.returns-in-Ok-false-clause-ok
returns-in-Ok-false-clause-ok c =
    let inv = c.loop-number.invariant in
    all_rows c.args.bytes.now c.args.callers c.loop-number.number c.loop-number.reader c.read_byte_record.new.self
    c.loop-number.read.items
    (fields_of c.read_byte_record.new.row) inv (rw c.in-Ok-false.field-0-test at
    (c.in-Ok-false.ensures.reads inv.trim inv.ready))

pub returns-in-Ok-false-clause-most : goal.returns-in-Ok-false-clause-most
returns-in-Ok-false-clause-most c = omega (arith, c.loop-number.invariant.count, c.loop-number.invariant.few)

pub returns-in-Err-row_of_record-clause-bad : goal.returns-in-Err-row_of_record-clause-bad
returns-in-Err-row_of_record-clause-bad c =
    let inv = c.loop-number.invariant in
    bad_row c.args.bytes.now c.args.callers c.loop-number.number c.loop-number.reader c.read_byte_record.new.self
    c.loop-number.read.items
    (fields_of c.read_byte_record.new.row) c.in-Err-row_of_record.cause inv
    (rw c.in-Ok-true.field-0-test at (c.in-Ok-true.ensures.reads inv.trim inv.ready))
    c.in-Err-row_of_record.ensures.row

pub loop-number-preserved : goal.loop-number-preserved
loop-number-preserved c =
    let inv = c.loop-number.invariant in
    let good : is_ok c.push.result ≡ true = search rules in
    let more = rw good at c.push.ensures.items in
    rw more (next_row c.args.bytes.now c.args.callers c.loop-number.number c.loop-number.reader
    c.read_byte_record.new.self c.loop-number.read.items
    (fields_of c.read_byte_record.new.row) c.in-Ok.row inv (rw c.in-Ok-true.field-0-test at
    (c.in-Ok-true.ensures.reads inv.trim inv.ready))
    (c.in-Ok-true.ensures.flexible) (c.in-Ok-true.ensures.ready inv.trim) c.in-Ok.ensures.row
    c.in-Ok.ensures.caller c.in-Ok.ensures.well_made (omega (arith, c.in-Ok.ensures.most, inv.few)))
