use Rattle.std.proofs.Common.{rules, ◌≡◌, ◌+◌, ◌%◌, ◌∙◌, refl, ap, arith, true}
use Rattle.std.specs.Result.{is_ok}
use Rattle.op_text.proofs.Generated.{made_none, made_more, row_of_draws, state_after_row, twice_next}
use Rattle.op_text.proofs.generator.make_rows.Goals as goal

pub loop-index-init : goal.loop-index-init
loop-index-init c = record {
  small = c.requires.number;
  at = refl;
  so_far = made_none c.args.number c.args.callers c.new-made.result.items c.new-made.ensures.items;
  count = c.new-made.ensures.len;
}

pub loop-index-preserved : goal.loop-index-preserved
loop-index-preserved c =
    let l = c.loop-index.invariant in
    let i = c.loop-index.index in
    let first = c.next_draw-first in
    let second = c.next_draw-second in
    let states = state_after_row c.args.number i c.loop-index.state first.new.state second.new.state l.at
    first.ensures.state second.ensures.state in
    let is = row_of_draws c.args.number c.args.callers i first.new.state second.new.state first.result second.result
    c.call_of_draws-call.result states.0 states.1 first.ensures.draw second.ensures.draw
    c.call_of_draws-call.ensures in
    let good : is_ok c.push.result ≡ true = search rules in
    let more = rw good at c.push.ensures.items in
    record {
      small = omega (arith, second.ensures.state);
      at = states.1 ∙ twice_next c.args.number i;
      so_far = more ∙ made_more c.args.number c.args.callers i c.loop-index.made.items
          (record { caller = i % c.args.callers; call = c.call_of_draws-call.result }) l.so_far is;
      count = rw good at c.push.ensures.len ∙ ap (λ n. n + 1) l.count;
    }
