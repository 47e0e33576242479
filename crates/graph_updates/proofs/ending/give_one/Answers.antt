use Rattle.std.proofs.Common.{subst}
use Rattle.epoch_limbo.specs.Limbos.{IsPutBack}
use Rattle.graph_updates.proofs.GivingTells.{done_gives, lost_fell, lost_gives, lost_ready}
use Rattle.graph_updates.proofs.ending.give_one.Goals as goal

pub put_back-requires : goal.put_back-requires
put_back-requires c = record {
  room = lost_ready c.args.limbo.now c.ripe.new.self c.args.token.now.view c.give_back.new.token.view c.args.epoch
      c.in-Some.ripe c.requires.table.layout c.in-Some.ensures.ripe c.requires.limbo c.in-Lost.ensures.given.1;
}

pub returns-in-Done-clause-given : goal.returns-in-Done-clause-given
returns-in-Done-clause-given c = (
  done_gives c.args.limbo.now c.ripe.new.self c.args.token.now.view c.give_back.new.token.view c.args.epoch
      c.in-Some.ripe c.requires.table.layout c.in-Some.ensures.ripe c.requires.limbo c.in-Done.ensures.given,
  (c.in-Some.ripe, c.in-Some.ensures.ripe.nodes),
)

pub returns-in-Lost-clause-given : goal.returns-in-Lost-clause-given
returns-in-Lost-clause-given c = (
  lost_gives c.args.limbo.now c.ripe.new.self c.args.token.now.view c.give_back.new.token.view c.args.epoch
      c.in-Some.ripe c.requires.table.layout c.in-Some.ensures.ripe c.requires.limbo c.in-Lost.ensures.given.1
      c.put_back.new.self
      (subst (λ q. IsPutBack c.ripe.new.self c.put_back.new.self q) c.in-Lost.ensures.given.0 c.put_back.ensures.back),
  lost_fell c.args.limbo.now c.ripe.new.self c.args.token.now.view c.give_back.new.token.view c.args.epoch
      c.in-Some.ripe c.requires.table.layout c.in-Some.ensures.ripe c.requires.limbo c.in-Lost.ensures.given.1,
)
