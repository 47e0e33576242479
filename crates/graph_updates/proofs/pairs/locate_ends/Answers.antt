use Rattle.std.proofs.Common.{inr}
use Rattle.graph_updates.proofs.EndsTell.{ends_both, fell_two}
use Rattle.graph_updates.proofs.HandsHelp.{has_helped_chain}
use Rattle.graph_updates.proofs.LocatingTells.{gone_earlier, helped_grows}
use Rattle.graph_updates.proofs.pairs.locate_ends.Goals as goal

pub returns-in-Here-locate-clause-helped : goal.returns-in-Here-locate-clause-helped
returns-in-Here-locate-clause-helped c = has_helped_chain c.args.hand.now c.locate.new.hand c.locate-2.new.hand
    c.in-Here.ensures.helped c.in-Here-locate.ensures.helped

pub returns-in-Here-locate-clause-fell : goal.returns-in-Here-locate-clause-fell
returns-in-Here-locate-clause-fell c = fell_two c.args.lost.now c.locate.new.lost c.locate-2.new.lost c.args.hand.now
    c.locate.new.hand c.locate-2.new.hand c.in-Here.ensures.lost c.in-Here-locate.ensures.lost c.in-Here.ensures.helped
    c.in-Here-locate.ensures.helped c.in-Here.ensures.fell c.in-Here-locate.ensures.fell

pub returns-in-Gone-locate-clause-helped : goal.returns-in-Gone-locate-clause-helped
returns-in-Gone-locate-clause-helped c = has_helped_chain c.args.hand.now c.locate.new.hand c.locate-2.new.hand
    c.in-Here.ensures.helped c.in-Gone-locate.ensures.helped

pub returns-in-Gone-locate-clause-fell : goal.returns-in-Gone-locate-clause-fell
returns-in-Gone-locate-clause-fell c = fell_two c.args.lost.now c.locate.new.lost c.locate-2.new.lost c.args.hand.now
    c.locate.new.hand c.locate-2.new.hand c.in-Here.ensures.lost c.in-Gone-locate.ensures.lost c.in-Here.ensures.helped
    c.in-Gone-locate.ensures.helped c.in-Here.ensures.fell c.in-Gone-locate.ensures.fell

pub returns-in-Again-locate-clause-helped : goal.returns-in-Again-locate-clause-helped
returns-in-Again-locate-clause-helped c = has_helped_chain c.args.hand.now c.locate.new.hand c.locate-2.new.hand
    c.in-Here.ensures.helped c.in-Again-locate.ensures.helped

pub returns-in-Again-locate-clause-fell : goal.returns-in-Again-locate-clause-fell
returns-in-Again-locate-clause-fell c = fell_two c.args.lost.now c.locate.new.lost c.locate-2.new.lost c.args.hand.now
    c.locate.new.hand c.locate-2.new.hand c.in-Here.ensures.lost c.in-Again-locate.ensures.lost c.in-Here.ensures.helped
    c.in-Again-locate.ensures.helped c.in-Here.ensures.fell c.in-Again-locate.ensures.fell

pub returns-in-Here-locate-clause-located : goal.returns-in-Here-locate-clause-located
returns-in-Here-locate-clause-located c = (
  c.in-Here-locate.ensures.located.0,
  ends_both c.args.from c.args.to c.args.hand.now c.locate.new.hand c.locate-2.new.hand c.in-Here.seen
      c.in-Here-locate.seen c.in-Here.ensures.hand.of.layout c.in-Here.ensures.helped c.in-Here-locate.ensures.helped
      c.in-Here.ensures.located.1 c.in-Here-locate.ensures.located.1,
)

pub returns-in-Gone-locate-clause-located : goal.returns-in-Gone-locate-clause-located
returns-in-Gone-locate-clause-located c = (
  c.in-Gone-locate.ensures.located.0,
  inr (gone_earlier c.args.to c.args.hand.now.token.view c.locate.new.hand.token.view c.locate-2.new.hand.token.view
      c.in-Gone-locate.gap (helped_grows c.args.hand.now c.locate.new.hand c.in-Here.ensures.helped)
      c.in-Gone-locate.ensures.located.1),
)
