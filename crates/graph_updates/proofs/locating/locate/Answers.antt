use Rattle.std.proofs.Common.{◌-◌, ℕ, arith}
use Rattle.graph_updates.specs.Hands.{HandValue}
use Rattle.graph_updates.specs.Parts.{Fell}
use Rattle.graph_updates.proofs.HandsHelp.{has_helped_chain, has_helped_none}
use Rattle.graph_updates.proofs.LocatingTells.{fell_as, fell_more, fell_none, fell_on, gone_earlier, helped_grows}
use Rattle.graph_updates.proofs.LocatingTells.{here_earlier}
use Rattle.graph_updates.proofs.LocatingTells.{order_helped}
use Rattle.graph_updates.proofs.SeekingSteps.{helps_pass}
use Rattle.graph_updates.proofs.locating.locate.Goals as goal

pub loop-seen-init : goal.loop-seen-init
loop-seen-init c =
    let h = c.args.hand.now in
    record {
      hand = c.requires.hand;
      helped = has_helped_none c.args.table.now h c.requires.hand;
      more = omega arith;
      left = c.requires.left;
      fell = fell_zero c.args.lost.now h;
    }
  where
    fell_zero : (n : ℕ) (h : HandValue) → Fell (n - n) h.token.view.number h.token.view.front h.token.view.front
    fell_zero n h = fell_as 0 (n - n) h.token.view.number h.token.view.front h.token.view.front (omega arith)
        (fell_none h.token.view.number h.token.view.front h.token.view.front)

pub find-requires-clause-pass : goal.find-requires-clause-pass
find-requires-clause-pass c =
    let h = c.args.hand.now in
    let i = c.loop-seen.invariant in
    helps_pass h.token.view c.loop-seen.hand.token.view c.requires.hand.of.layout i.helped.helped.only c.requires.pass

pub returns-in-Here-clause-order : goal.returns-in-Here-clause-order
returns-in-Here-clause-order c =
    let h = c.args.hand.now in
    let k = c.loop-seen.hand in
    let l = c.find.new.hand in
    let i = c.loop-seen.invariant in
    let e = c.in-Here.ensures in
    let all = has_helped_chain h k l i.helped e.helped in
    order_helped c.args.table.now h l c.requires.hand c.requires.pass all

pub returns-in-Here-clause-helped : goal.returns-in-Here-clause-helped
returns-in-Here-clause-helped c =
    let h = c.args.hand.now in
    let k = c.loop-seen.hand in
    let l = c.find.new.hand in
    let i = c.loop-seen.invariant in
    let e = c.in-Here.ensures in
    let all = has_helped_chain h k l i.helped e.helped in
    all

pub returns-in-Here-clause-fell : goal.returns-in-Here-clause-fell
returns-in-Here-clause-fell c =
    let h = c.args.hand.now in
    let k = c.loop-seen.hand in
    let l = c.find.new.hand in
    let i = c.loop-seen.invariant in
    let e = c.in-Here.ensures in
    let all = has_helped_chain h k l i.helped e.helped in
    fell_on (c.loop-seen.lost - c.args.lost.now) h k l i.helped e.helped i.fell

pub returns-in-Here-clause-located : goal.returns-in-Here-clause-located
returns-in-Here-clause-located c =
    let h = c.args.hand.now in
    let k = c.loop-seen.hand in
    let l = c.find.new.hand in
    let i = c.loop-seen.invariant in
    let e = c.in-Here.ensures in
    let all = has_helped_chain h k l i.helped e.helped in
    let grows = helped_grows h k i.helped in
    (i.left, here_earlier c.args.key h.token.view k.token.view l.token.view c.in-Here.seen grows e.sought)

pub returns-in-Gone-clause-order : goal.returns-in-Gone-clause-order
returns-in-Gone-clause-order c =
    let h = c.args.hand.now in
    let k = c.loop-seen.hand in
    let l = c.find.new.hand in
    let i = c.loop-seen.invariant in
    let e = c.in-Gone.ensures in
    let all = has_helped_chain h k l i.helped e.helped in
    order_helped c.args.table.now h l c.requires.hand c.requires.pass all

pub returns-in-Gone-clause-helped : goal.returns-in-Gone-clause-helped
returns-in-Gone-clause-helped c =
    let h = c.args.hand.now in
    let k = c.loop-seen.hand in
    let l = c.find.new.hand in
    let i = c.loop-seen.invariant in
    let e = c.in-Gone.ensures in
    let all = has_helped_chain h k l i.helped e.helped in
    all

pub returns-in-Gone-clause-fell : goal.returns-in-Gone-clause-fell
returns-in-Gone-clause-fell c =
    let h = c.args.hand.now in
    let k = c.loop-seen.hand in
    let l = c.find.new.hand in
    let i = c.loop-seen.invariant in
    let e = c.in-Gone.ensures in
    let all = has_helped_chain h k l i.helped e.helped in
    fell_on (c.loop-seen.lost - c.args.lost.now) h k l i.helped e.helped i.fell

pub returns-in-Gone-clause-located : goal.returns-in-Gone-clause-located
returns-in-Gone-clause-located c =
    let h = c.args.hand.now in
    let k = c.loop-seen.hand in
    let l = c.find.new.hand in
    let i = c.loop-seen.invariant in
    let e = c.in-Gone.ensures in
    let all = has_helped_chain h k l i.helped e.helped in
    let grows = helped_grows h k i.helped in
    (i.left, gone_earlier c.args.key h.token.view k.token.view l.token.view c.in-Gone.gap grows e.sought)

pub returns-then-lost-tries-clause-order : goal.returns-then-lost-tries-clause-order
returns-then-lost-tries-clause-order c =
    let h = c.args.hand.now in
    let k = c.loop-seen.hand in
    let l = c.find.new.hand in
    let i = c.loop-seen.invariant in
    let e = c.in-Lost.ensures in
    let all = has_helped_chain h k l i.helped e.helped in
    order_helped c.args.table.now h l c.requires.hand c.requires.pass all

pub returns-then-lost-tries-clause-helped : goal.returns-then-lost-tries-clause-helped
returns-then-lost-tries-clause-helped c =
    let h = c.args.hand.now in
    let k = c.loop-seen.hand in
    let l = c.find.new.hand in
    let i = c.loop-seen.invariant in
    let e = c.in-Lost.ensures in
    let all = has_helped_chain h k l i.helped e.helped in
    all

pub returns-then-lost-tries-clause-fell : goal.returns-then-lost-tries-clause-fell
returns-then-lost-tries-clause-fell c =
    let h = c.args.hand.now in
    let k = c.loop-seen.hand in
    let l = c.find.new.hand in
    let i = c.loop-seen.invariant in
    let e = c.in-Lost.ensures in
    let all = has_helped_chain h k l i.helped e.helped in
    fell_more c.args.lost.now c.loop-seen.lost h k l i.more i.helped e.helped i.fell e.sought

pub loop-seen-preserved : goal.loop-seen-preserved
loop-seen-preserved c =
    let h = c.args.hand.now in
    let k = c.loop-seen.hand in
    let l = c.find.new.hand in
    let i = c.loop-seen.invariant in
    let e = c.in-Lost.ensures in
    let all = has_helped_chain h k l i.helped e.helped in
    let more = i.more in
    let left = i.left in
    let other = c.if-lost-tries.false in
    record {
      hand = e.hand;
      helped = all;
      more = omega (arith, more);
      left = omega (arith, left, other);
      fell = fell_more c.args.lost.now c.loop-seen.lost h k l i.more i.helped e.helped i.fell e.sought;
    }
