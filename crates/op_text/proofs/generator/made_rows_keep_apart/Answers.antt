use Rattle.std.proofs.lemmas.List.Elements.{All-contains}
use Rattle.op_text.specs.Generator.{NamesOwnKeys, made_rows}
use Rattle.op_text.specs.RowText.{IsRowFor}
use Rattle.op_text.proofs.Apart.{each_row, one_owner, row_own, row_valid, rows_count}
use Rattle.op_text.proofs.generator.made_rows_keep_apart.Goals as goal

pub returns-clause-count : goal.returns-clause-count
returns-clause-count c = rows_count

pub returns-clause-valid : goal.returns-clause-valid
returns-clause-valid c = λ number count callers some few. each_row (IsRowFor callers) number count callers
    (λ i. row_valid number callers i some few)

pub returns-clause-own : goal.returns-clause-own
returns-clause-own c = λ number count callers. each_row NamesOwnKeys number count callers
    (λ i. row_own number callers i)

pub returns-clause-apart : goal.returns-clause-apart
returns-clause-apart c = λ number count callers p q key in_p in_q.
    let own = each_row NamesOwnKeys number count callers (λ i. row_own number callers i) in
    one_owner p q key (All-contains NamesOwnKeys (made_rows number count callers) p own in_p)
    (All-contains NamesOwnKeys (made_rows number count callers) q own in_q)
