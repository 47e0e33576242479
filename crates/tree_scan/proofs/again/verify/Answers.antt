use Rattle.std.proofs.Common.{sym, subst, ◌≡◌, ◌<◌, arith, ℕ, [], Bool, length}
use Rattle.packed_link.specs.Layout.{Sizes}
use Rattle.core_journal.proofs.Lists.{prefix_trans}
use Rattle.scan_record.specs.Scan.{row_at}
use Rattle.core_scans.specs.Differing.{DiffersNow}
use Rattle.core_scans.specs.Seen.{IsInside}
use Rattle.core_scans.specs.Walking.{AreRowsSame}
use Rattle.core_stretches.proofs.MakesAddUp.{makes_chain, makes_self}
use Rattle.core_stretches.proofs.MakesTell.{makes_later}
use Rattle.tree_scan.specs.Verdicts.{MatchRowAgain}
use Rattle.tree_scan.proofs.RowsAgain.{differs_told, inside_table, same_told}
use Rattle.tree_scan.proofs.again.verify.Goals as goal

pub loop-row-init : goal.loop-row-init
loop-row-init c = record {
  of = c.requires.table;
  makes = makes_self c.args.token.now.view c.requires.number c.requires.table.sound;
  few = omega arith;
  same = λ end p i low. absurd (omega (arith, low));
}

pub is_row_same-requires-clause-inside : goal.is_row_same-requires-clause-inside
is_row_same-requires-clause-inside c = subst (λ (z : Sizes). IsInside z c.args.scan.now) c.requires.table.sizes
    (inside_table c.args.token.now.view c.requires.filled.0 c.requires.filled.1 c.args.scan.now
    c.vertices-rows.ensures.valid c.requires.filled.2)

pub returns-then-not-is_row_same-clause-makes : goal.returns-then-not-is_row_same-clause-makes
returns-then-not-is_row_same-clause-makes c = makes_chain c.args.token.now.view c.loop-row.token.view
    c.is_row_same.new.token.view [] [] c.loop-row.invariant.makes c.is_row_same.ensures.makes

pub returns-then-not-is_row_same-clause-verdict : goal.returns-then-not-is_row_same-clause-verdict
returns-then-not-is_row_same-clause-verdict c =
    let makes = makes_chain c.args.token.now.view c.loop-row.token.view c.is_row_same.new.token.view [] []
    c.loop-row.invariant.makes c.is_row_same.ensures.makes in
    let low : c.loop-row.row < length c.args.scan.now.rows =
    omega (arith, c.loop-row-test.true, c.vertices-rows.ensures.count) in
    let other = subst (λ (b : Bool). MatchRowAgain b c.args.table.now.sizes c.loop-row.token.view.front
    c.is_row_same.new.token.view.front c.args.scan.now c.loop-row.row) c.if-not-is_row_same.true
    c.is_row_same.ensures.again in
    let differs = subst (λ (z : Sizes). DiffersNow z c.args.scan.now c.is_row_same.new.token.view.front
    (row_at c.args.scan.now c.loop-row.row)) (sym c.requires.table.sizes) other in
    λ start end filled. differs_told c.args.token.now.view c.is_row_same.new.token.view start end c.args.scan.now
    c.loop-row.row c.requires.table.layout makes low filled differs

pub loop-row-preserved : goal.loop-row-preserved
loop-row-preserved c =
    let low = c.loop-row-test.true in
    let grows = (makes_later c.args.token.now.view c.loop-row.token.view [] c.loop-row.invariant.makes).grows in
    let again = subst (λ (b : Bool). MatchRowAgain b c.args.table.now.sizes c.loop-row.token.view.front
    c.is_row_same.new.token.view.front c.args.scan.now c.loop-row.row) c.if-not-is_row_same.false
    c.is_row_same.ensures.again in
    record {
      of = c.is_row_same.ensures.table;
      makes = makes_chain c.args.token.now.view c.loop-row.token.view c.is_row_same.new.token.view [] []
          c.loop-row.invariant.makes c.is_row_same.ensures.makes;
      few = omega (arith, low, c.vertices-rows.ensures.count);
      same = λ end p. again end (prefix_trans end c.args.token.now.view.front c.loop-row.token.view.front p grows)
          (c.loop-row.invariant.same end p);
    }

pub returns-clause-verdict : goal.returns-clause-verdict
returns-clause-verdict c =
    let few = c.loop-row.invariant.few in
    let whole : c.loop-row.row ≡ length c.args.scan.now.rows =
    omega (arith, few, c.loop-row-test.false, c.vertices-rows.ensures.count) in
    λ start end filled.
    let found = subst (λ (n : ℕ). AreRowsSame c.args.table.now.sizes end c.loop-row.token.view.front c.args.scan.now n)
    whole (c.loop-row.invariant.same end filled.until) in
    let same = subst (λ (z : Sizes). AreRowsSame z end c.loop-row.token.view.front c.args.scan.now
    (length c.args.scan.now.rows)) (sym c.requires.table.sizes) found in
    same_told c.args.token.now.view c.loop-row.token.view start end c.args.scan.now c.requires.table.layout
    c.loop-row.invariant.makes c.vertices-rows.ensures.valid filled same
