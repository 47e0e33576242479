use Rattle.std.proofs.Common.{sym}
use Rattle.csv.specs.Records.{fields_of}
use Rattle.csv.proofs.RecordFacts.{field-there}
use Rattle.op_text.proofs.rows.field.Goals as goal

-- the record has a field at this place
pub unreachable-requires : goal.unreachable-requires
unreachable-requires c = field-there (fields_of c.args.csv_record.now) c.args.place c.requires
    (sym c.in_default.ensures.value)
