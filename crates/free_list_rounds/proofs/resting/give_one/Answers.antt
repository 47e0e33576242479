use Rattle.std.proofs.Common.{subst}
use Rattle.epoch_limbo.specs.Limbos.{IsPutBack}
use Rattle.free_list_rounds.proofs.GivingTells.{done_closed, done_counts, done_shown, done_spares, done_work}
use Rattle.free_list_rounds.proofs.GivingTells.{lost_closed, lost_counts, lost_ready, lost_shown, lost_spares}
use Rattle.free_list_rounds.proofs.GivingTells.{lost_work}
use Rattle.free_list_rounds.proofs.resting.give_one.Goals as goal

pub put_back-requires : goal.put_back-requires
put_back-requires c = record {
  room = lost_ready c.args.limbo.now c.ripe.new.self c.args.token.now.view c.give_back.new.token.view c.args.epoch
      c.in-Some.ripe c.requires.table.layout c.in-Some.ensures.ripe c.requires.work c.in-Lost.ensures.given.1;
}

pub returns-in-Done-clause-closed : goal.returns-in-Done-clause-closed
returns-in-Done-clause-closed c = done_closed c.args.limbo.now c.ripe.new.self c.args.token.now.view
    c.give_back.new.token.view c.args.epoch c.in-Some.ripe c.requires.table.layout c.in-Some.ensures.ripe
    c.requires.work c.in-Done.ensures.given c.requires.closed

pub returns-in-Done-clause-work : goal.returns-in-Done-clause-work
returns-in-Done-clause-work c = done_work c.args.limbo.now c.ripe.new.self c.args.token.now.view
    c.give_back.new.token.view c.args.epoch c.in-Some.ripe c.requires.table.layout c.in-Some.ensures.ripe
    c.requires.work c.in-Done.ensures.given

pub returns-in-Done-clause-shown : goal.returns-in-Done-clause-shown
returns-in-Done-clause-shown c = done_shown c.args.limbo.now c.ripe.new.self c.args.token.now.view
    c.give_back.new.token.view c.args.epoch c.in-Some.ripe c.requires.table.layout c.in-Some.ensures.ripe
    c.requires.work c.in-Done.ensures.given c.requires.shown

pub returns-in-Done-clause-spare : goal.returns-in-Done-clause-spare
returns-in-Done-clause-spare c = done_spares c.args.limbo.now c.ripe.new.self c.args.token.now.view
    c.give_back.new.token.view c.args.epoch c.in-Some.ripe c.requires.table.layout c.in-Some.ensures.ripe
    c.requires.work c.in-Done.ensures.given

pub returns-in-Done-clause-counts : goal.returns-in-Done-clause-counts
returns-in-Done-clause-counts c = done_counts c.args.limbo.now c.ripe.new.self c.args.token.now.view
    c.give_back.new.token.view c.args.epoch c.in-Some.ripe c.requires.table.layout c.in-Some.ensures.ripe
    c.requires.work c.in-Done.ensures.given

pub returns-in-Lost-clause-closed : goal.returns-in-Lost-clause-closed
returns-in-Lost-clause-closed c = lost_closed c.args.limbo.now c.ripe.new.self c.args.token.now.view
    c.give_back.new.token.view c.args.epoch c.in-Some.ripe c.requires.table.layout c.in-Some.ensures.ripe
    c.requires.work c.in-Lost.ensures.given.1 c.requires.closed

pub returns-in-Lost-clause-work : goal.returns-in-Lost-clause-work
returns-in-Lost-clause-work c = lost_work c.args.limbo.now c.ripe.new.self c.args.token.now.view
    c.give_back.new.token.view c.args.epoch c.in-Some.ripe c.requires.table.layout c.in-Some.ensures.ripe
    c.requires.work c.in-Lost.ensures.given.1 c.put_back.new.self
    (subst (λ q. IsPutBack c.ripe.new.self c.put_back.new.self q) c.in-Lost.ensures.given.0 c.put_back.ensures.back)

pub returns-in-Lost-clause-shown : goal.returns-in-Lost-clause-shown
returns-in-Lost-clause-shown c = lost_shown c.args.limbo.now c.ripe.new.self c.args.token.now.view
    c.give_back.new.token.view c.args.epoch c.in-Some.ripe c.requires.table.layout c.in-Some.ensures.ripe
    c.requires.work c.in-Lost.ensures.given.1 c.requires.shown

pub returns-in-Lost-clause-spare : goal.returns-in-Lost-clause-spare
returns-in-Lost-clause-spare c = lost_spares c.args.limbo.now c.ripe.new.self c.args.token.now.view
    c.give_back.new.token.view c.args.epoch c.in-Some.ripe c.requires.table.layout c.in-Some.ensures.ripe
    c.requires.work c.in-Lost.ensures.given.1

pub returns-in-Lost-clause-counts : goal.returns-in-Lost-clause-counts
returns-in-Lost-clause-counts c = lost_counts c.args.limbo.now c.ripe.new.self c.args.token.now.view
    c.give_back.new.token.view c.args.epoch c.in-Some.ripe c.requires.table.layout c.in-Some.ensures.ripe
    c.requires.work c.in-Lost.ensures.given.1
