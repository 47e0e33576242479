use Rattle.std.proofs.Common.{◌≡◌, ◌+◌, ◌++◌, get_or, drop, [], arith, refl, sym, ap, ◌∙◌, append_assoc, append-nil}
use Rattle.std.proofs.Common.{drop_of_length-le}
use Rattle.op_text.specs.Text.{barred, levels_by}
use Rattle.op_text.proofs.TextWrites.{gives-none, gives-then, gives-stop, gives-as}
use Rattle.op_text.proofs.TextLists.{end-inside, barred-step}
use Rattle.op_text.proofs.write.give_barred.Goals as goal

pub loop-i-init : goal.loop-i-init
loop-i-init g c = record {
  inside = omega arith;
  below = λ h. omega arith;
  done = [];
  gives = gives-none _;
  whole = refl;
}

pub slice_bounds-give_level-end : goal.slice_bounds-give_level-end
slice_bounds-give_level-end g c = end-inside c.requires.0 c.args.keys.now c.args.ends.now c.requires.1 c.loop-i.i
    (omega arith)

pub loop-i-preserved : goal.loop-i-preserved
loop-i-preserved g c =
    let ends = c.args.ends.now in
    let l = c.loop-i.invariant in
    record {
      inside = end-inside c.requires.0 c.args.keys.now ends c.requires.1 c.loop-i.i c.loop-i-test.true;
      below = λ h. omega (arith, c.requires.1.rise c.loop-i.i h);
      done = _;
      gives = gives-then l.gives c.in_ok-give_level.ensures;
      whole = append_assoc l.done _ _ ∙ ap (λ t. l.done ++ t)
          (barred-step c.args.keys.now ends c.loop-i.i c.loop-i.from c.loop-i-test.true (l.below c.loop-i-test.true))
          ∙ l.whole;
    }

pub returns-in_err-give_level : goal.returns-in_err-give_level
returns-in_err-give_level g c =
    let ends = c.args.ends.now in
    let end = get_or ends c.loop-i.i 0 in
    let l = c.loop-i.invariant in
    gives-as (ap (λ t. l.done ++ t) (barred-step c.args.keys.now ends c.loop-i.i c.loop-i.from c.loop-i-test.true
    (l.below c.loop-i-test.true)) ∙ l.whole)
    (gives-then l.gives (gives-stop (barred (levels_by end (drop end c.args.keys.now) (drop (c.loop-i.i + 1) ends)))
    c.from_residual.ensures.0 c.in_err-give_level.ensures))

pub returns : goal.returns
returns g c =
    let l = c.loop-i.invariant in
    let over : drop c.loop-i.i c.args.ends.now ≡ [] = drop_of_length-le c.args.ends.now {i = c.loop-i.i}
    (omega arith) in
    gives-as (sym (append-nil l.done) ∙ ap (λ es. l.done ++ barred
    (levels_by c.loop-i.from (drop c.loop-i.from c.args.keys.now) es)) (sym over) ∙ l.whole) l.gives
