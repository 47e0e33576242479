use Rattle.std.proofs.Common.{◌∷◌, [], Some}
use Rattle.std.specs.List.{join_with_byte}
use Rattle.op_text.specs.RowText.{number_field}
use Rattle.op_text.proofs.TextWrites.{gives-then, gives-stop}
use Rattle.op_text.proofs.row_lines.give_fields.Goals as goal

pub returns-in_err-give_text-2 : goal.returns-in_err-give_text-2
returns-in_err-give_text-2 g c =
    gives-then c.in_ok-give_text.ensures (gives-stop (44 ∷ join_with_byte 44
    (number_field (Some c.args.first) ∷ number_field c.args.second ∷ number_field c.args.weight ∷ []))
    c.from_residual-in_err-give_text-2.ensures.0 c.in_err-give_text-2.ensures)

pub returns-in_err-give_field : goal.returns-in_err-give_field
returns-in_err-give_field g c =
    gives-then c.in_ok-give_text.ensures (gives-then c.in_ok-give_text-2.ensures
    (gives-stop (44 ∷ join_with_byte 44 (number_field c.args.second ∷ number_field c.args.weight ∷ []))
    c.from_residual-in_err-give_field.ensures.0 c.in_err-give_field.ensures))

pub returns-in_err-give_field-2 : goal.returns-in_err-give_field-2
returns-in_err-give_field-2 g c =
    gives-then c.in_ok-give_text.ensures (gives-then c.in_ok-give_text-2.ensures
    (gives-then c.in_ok-give_field.ensures (gives-stop (44 ∷ number_field c.args.weight)
    c.from_residual-in_err-give_field-2.ensures.0 c.in_err-give_field-2.ensures)))

pub returns : goal.returns
returns g c =
    gives-then c.in_ok-give_text.ensures (gives-then c.in_ok-give_text-2.ensures
    (gives-then c.in_ok-give_field.ensures (gives-then c.in_ok-give_field-2.ensures c.give_field-3.ensures)))
