use Rattle.std.proofs.Common.{arith}
use Rattle.csv.specs.Records.{fields_of}
use Rattle.op_text.proofs.RowFields.{five_fields}
use Rattle.op_text.proofs.rows.Fields.of_record.Goals as goal

pub returns-clause-five : goal.returns-clause-five
returns-clause-five c =
    five_fields (fields_of c.args.csv_record.now) _ _ _ _ _ (omega arith) c.field.ensures c.field-2.ensures
    c.field-3.ensures c.field-4.ensures c.field-5.ensures
