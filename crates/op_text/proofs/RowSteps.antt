-- The rows of the records read so far, before those of the records that are left.
use Rattle.std.proofs.Common.{◌≡◌, ℕ, ◌+◌, ◌<◌, ◌≤◌, ◌∙◌, sym, ap, refl, false, List, [], ◌∷◌, ◌++◌, length, Bor}
use Rattle.std.proofs.Common.{Option, Some, Result, Ok, Err, true, inl, arith, append_assoc, All}
use Rattle.std.proofs.lemmas.List.{append-nil, length-append}
use Rattle.std.proofs.lemmas.List.Elements.{All-nil, All-push, All-same}
use Rattle.csv.specs.Machine.{ends_at_end}
use Rattle.csv.specs.Reading.{ReadRecord, Ready, default_config, is_flexible, source_of, strip_bom, took_first}
use Rattle.csv.specs.declared.parser.State.TheVariants as st
use Rattle.csv.specs.declared.reader.Reader.{Reader}
use Rattle.csv.specs.declared.reader.Trim.TheVariants as trim
use Rattle.graph_kinds.specs.Answer.{IsWellMade}
use Rattle.graph_kinds.specs.declared.call.Row.{Row}
use Rattle.op_text.specs.Rows.{most_rows, row_of, rows, rows_from, then_rows}
use Rattle.op_text.specs.declared.rows.RowCause.{RowCause}
use Rattle.op_text.proofs.RowRecords.{none_read, record_read, records_left}

-- rows, and then what the further records give
abbrev pub rows_joined : List Row → Result (List Row) (ℕ × RowCause) → Result (List Row) (ℕ × RowCause)
rows_joined read (Ok more) = Ok (read ++ more)
rows_joined read (Err e) = Err e

joined_more : (read : List Row) (row : Row) (number : ℕ) (rest : Result (List Row) (ℕ × RowCause)) → rows_joined read
    (then_rows (Ok row) number rest) ≡ rows_joined (read ++ row ∷ []) rest
joined_more read row number (Ok more) = ap Ok (sym (append_assoc read (row ∷ []) more))
joined_more read row number (Err e) = refl

-- a record that is a row
pub joined_row : (callers number : ℕ) (fields : List (List ℕ)) (more : List (List (List ℕ))) (read : List Row)
    (row : Row) → Ok row ≡ row_of callers number fields
    → rows_joined read (rows_from callers number (fields ∷ more)) ≡ rows_joined (read ++ row ∷ [])
    (rows_from callers (number + 1) more)
joined_row callers number fields more read row e =
    ap (λ r. rows_joined read (then_rows r number (rows_from callers (number + 1) more))) (sym e)
    ∙ joined_more read row number (rows_from callers (number + 1) more)

-- the first record that is none
pub joined_bad : (callers number : ℕ) (fields : List (List ℕ)) (more : List (List (List ℕ))) (read : List Row)
    (cause : RowCause) → Err cause ≡ row_of callers number fields
    → rows_joined read (rows_from callers number (fields ∷ more)) ≡ Err (number, cause)
joined_bad callers number fields more read cause e = ap (λ r. rows_joined read
    (then_rows r number (rows_from callers (number + 1) more))) (sym e)

-- what a reader over a text has left underneath
abbrev pub known : Bor (List ℕ) → Option (List ℕ)
known s = Some s.now

-- the rows read are those of the records before this number; the reader has the further records left, and takes them at
-- any length
pub record IsReadSoFar (bytes : List ℕ) (callers number : ℕ) (reader : Reader (Bor (List ℕ)))
    (read : List Row) : Type 0 where
  pub left : List ℕ
  pub trim : reader.trim ≡ trim.None
  pub flexible : reader.flexible ≡ true
  pub ready : Ready reader
  pub config : reader.config ≡ default_config
  pub fresh : ends_at_end reader.state ≡ false
  pub source : source_of known reader ≡ Some left
  pub rows : rows callers bytes ≡ rows_joined read
      (rows_from callers number (records_left default_config reader.state left))
  pub count : length read + 1 ≡ number
  pub few : number ≤ most_rows + 1
  pub within : All (λ r. r.caller < callers) read
  pub well_made : All (λ r. IsWellMade r.call) read

joined_none : (r : Result (List Row) (ℕ × RowCause)) → r ≡ rows_joined [] r
joined_none (Ok more) = refl
joined_none (Err e) = refl

-- no record yet
pub no_rows : (bytes : List ℕ) (callers : ℕ) (a : Reader (Bor (List ℕ))) (read : List Row) → read ≡ []
    → a.trim ≡ trim.None → a.flexible ≡ true → Ready a → a.config ≡ default_config → a.state ≡ st.StartRecord
    → source_of known a ≡ Some (strip_bom bytes)
    → IsReadSoFar bytes callers 1 a read
unfolding rows
no_rows bytes callers a read none trims flexible ready config state source =
    let records = rows_from callers 1 (records_left default_config st.StartRecord (strip_bom bytes)) in
    record {
      left = strip_bom bytes;
      trim = trims;
      flexible = flexible;
      ready = ready;
      config = config;
      fresh = ap ends_at_end state;
      source = source;
      rows = rw (none, state) (joined_none records);
      count = omega (arith, ap length none);
      few = omega arith;
      within = All-same (λ r. r.caller < callers) read [] none (All-nil (λ r. r.caller < callers));
      well_made = All-same (λ r. IsWellMade r.call) read [] none (All-nil (λ r. IsWellMade r.call));
    }

-- one more record, which is a row
pub next_row : (bytes : List ℕ) (callers number : ℕ) (a b : Reader (Bor (List ℕ))) (read : List Row)
    (fields : List (List ℕ)) (row : Row) → IsReadSoFar bytes callers number a read
    → ReadRecord known a b true fields → is_flexible b ≡ is_flexible a → took_first b ≡ true
    → Ok row ≡ row_of callers number fields → row.caller < callers → IsWellMade row.call → number < most_rows + 1
    → IsReadSoFar bytes callers (number + 1) b (read ++ row ∷ [])
next_row bytes callers number a b read fields row so_far record_b flexible first is_row caller well_made few =
    let (left, at_left, fresh, records) = record_read known a b fields default_config so_far.left so_far.config
    so_far.source so_far.fresh record_b in
    record {
      left = left;
      trim = record_b.3 ∙ so_far.trim;
      flexible = flexible ∙ so_far.flexible;
      ready = inl first;
      config = record_b.2 ∙ so_far.config;
      fresh = fresh;
      source = at_left;
      rows = so_far.rows ∙ ap (λ rs. rows_joined read (rows_from callers number rs)) records
          ∙ joined_row callers number fields (records_left default_config b.state left) read row is_row;
      count = simp length-append (omega (arith, so_far.count));
      few = omega arith;
      within = All-push (λ r. r.caller < callers) read row so_far.within caller;
      well_made = All-push (λ r. IsWellMade r.call) read row so_far.well_made well_made;
    }

-- the first record that is no row
pub bad_row : (bytes : List ℕ) (callers number : ℕ) (a b : Reader (Bor (List ℕ))) (read : List Row)
    (fields : List (List ℕ)) (cause : RowCause) → IsReadSoFar bytes callers number a read
    → ReadRecord known a b true fields → Err cause ≡ row_of callers number fields → rows callers bytes ≡ Err
    (number, cause)
bad_row bytes callers number a b read fields cause so_far record_b is_bad =
    let (left, at_left, fresh, records) = record_read known a b fields default_config so_far.left so_far.config
    so_far.source so_far.fresh record_b in
    so_far.rows ∙ ap (λ rs. rows_joined read (rows_from callers number rs)) records ∙ joined_bad callers number fields
    (records_left default_config b.state left) read cause is_bad

-- no record is left
pub all_rows : (bytes : List ℕ) (callers number : ℕ) (a b : Reader (Bor (List ℕ))) (read : List Row)
    (fields : List (List ℕ)) → IsReadSoFar bytes callers number a read
    → ReadRecord known a b false fields → rows callers bytes ≡ Ok read
all_rows bytes callers number a b read fields so_far record_b =
    let records = none_read known a b fields default_config so_far.left so_far.config so_far.source record_b in
    so_far.rows ∙ ap (λ rs. rows_joined read (rows_from callers number rs)) records ∙ ap Ok (append-nil read)
