use Rattle.std.proofs.Common.{rules, ◌≡◌, ◌<◌, sym, subst, All, false, length, get_or}
use Rattle.caller_run.proofs.Driving.{if_ok_by, some-none}
use Rattle.caller_run.proofs.Merging.{all-own}
use Rattle.caller_run.proofs.run.run_callers.Goals as goal

pub returns-in_err-deal-clause-some : goal.returns-in_err-deal-clause-some
returns-in_err-deal-clause-some g c i d h =
    rw (c.deal.ensures.ports i d h)
    (some-none g.P.CallerPort.book g.P.CallerPort.left g.P.CallerPort.front _ c.args.tries _)

pub drive_all-requires-clause-calls : goal.drive_all-requires-clause-calls
drive_all-requires-clause-calls g c κs within i d h =
    let inside : i < length c.args.lanes.now = search rules in
    subst (All g.P.CallerPort.serves) (sym (c.in_ok-deal.ensures.calls i d inside))
    (all-own g.P.CallerPort.serves i c.args.rows.now c.requires.calls)

pub returns-clause-books : goal.returns-clause-books
returns-clause-books g c = if_ok_by _ _ c.merge.result
    (λ v parts i d h.
    let dealt : i < length c.deal.new.lanes = search rules in
    let inside : i < length c.drive_all.new.lanes = search rules in
    let full : (get_or c.drive_all.new.lanes i d).short ≡ false =
    c.any_short.ensures.none c.if-any_short.false i d inside in
    let turn = rw (c.deal.ensures.ports i d h, c.in_ok-deal.ensures.calls i d h) at
    ((c.drive_all.ensures.turns i d dealt).all full) in
    rw (c.merge.ensures.ports i d inside, parts i d inside) turn)
    c.merge.ensures.parts
