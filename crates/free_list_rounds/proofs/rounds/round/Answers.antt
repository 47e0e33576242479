use Rattle.std.proofs.Common.{ap, arith, subst, sym}
use Rattle.graph_table.specs.Tokens.{IsOf}
use Rattle.free_list_rounds.specs.Rounds.{WorkerValue, IsBetweenRounds}
use Rattle.free_list_rounds.proofs.PassesTell.{closed, opened}
use Rattle.free_list_rounds.proofs.WorkGoesOn.{counts_chain, counts_same}
use Rattle.free_list_rounds.proofs.rounds.round.Goals as goal

pub build-spare-requires-clause-spare : goal.build-spare-requires-clause-spare
build-spare-requires-clause-spare c =
    let of = subst (λ (k : WorkerValue). IsOf c.args.table.now k.token) (sym c.caller.view_is) c.requires.table in
    let between = subst IsBetweenRounds (sym c.caller.view_is) c.requires.between in
    (opened c.caller.inside.token.view c.open_pass.new.token.view
    of.layout c.open_pass.ensures.opened).spares c.caller.inside.spare between.spare

pub build-spare-requires-clause-limit : goal.build-spare-requires-clause-limit
build-spare-requires-clause-limit c =
    let of = subst (λ (k : WorkerValue). IsOf c.args.table.now k.token) (sym c.caller.view_is) c.requires.table in
    let between = subst IsBetweenRounds (sym c.caller.view_is) c.requires.between in
    let o = opened c.caller.inside.token.view c.open_pass.new.token.view of.layout
    c.open_pass.ensures.opened in
    let k = o.counts.taken in
    let made = between.made.taken in
    let few = between.few_taken in
    let left = c.requires.left in
    let same = ap (λ (k : WorkerValue). k.rounds) c.caller.view_is in
    omega (arith, k, made, few, left, same)

pub clear-requires-clause-work : goal.clear-requires-clause-work
clear-requires-clause-work c =
    let of = subst (λ (k : WorkerValue). IsOf c.args.table.now k.token) (sym c.caller.view_is) c.requires.table in
    let between = subst IsBetweenRounds (sym c.caller.view_is) c.requires.between in
    let o = opened c.caller.inside.token.view c.open_pass.new.token.view of.layout
    c.open_pass.ensures.opened in
    c.build-spare.ensures.work c.caller.inside.limbo (o.work c.caller.inside.limbo between.work)

pub settle-gave-requires-clause-work : goal.settle-gave-requires-clause-work
settle-gave-requires-clause-work c = (closed c.clear.new.token.view c.close_pass.new.token.view
    c.clear.ensures.table.layout c.close_pass.ensures.makes).work c.clear.new.limbo c.clear.ensures.work

pub settle-gave-requires-clause-limit : goal.settle-gave-requires-clause-limit
settle-gave-requires-clause-limit c =
    let of = subst (λ (k : WorkerValue). IsOf c.args.table.now k.token) (sym c.caller.view_is) c.requires.table in
    let between = subst IsBetweenRounds (sym c.caller.view_is) c.requires.between in
    let o = opened c.caller.inside.token.view c.open_pass.new.token.view of.layout
    c.open_pass.ensures.opened in
    let s = closed c.clear.new.token.view c.close_pass.new.token.view c.clear.ensures.table.layout
    c.close_pass.ensures.makes in
    let first = o.counts.moved in
    let built = c.build-spare.ensures.counts.moved in
    let cleared = c.clear.ensures.counts.moved in
    let last = s.counts.moved in
    let k = between.made.moved in
    let left = c.requires.left in
    let same = ap (λ (k : WorkerValue). k.rounds) c.caller.view_is in
    omega (arith, first, built, cleared, last, k, left, same)

pub returns-clause-between : goal.returns-clause-between
returns-clause-between c =
    let of = subst (λ (k : WorkerValue). IsOf c.args.table.now k.token) (sym c.caller.view_is) c.requires.table in
    let between = subst IsBetweenRounds (sym c.caller.view_is) c.requires.between in
    let o = opened c.caller.inside.token.view c.open_pass.new.token.view of.layout
    c.open_pass.ensures.opened in
    let s = closed c.clear.new.token.view c.close_pass.new.token.view c.clear.ensures.table.layout
    c.close_pass.ensures.makes in
    let k = c.caller.inside in
    let counts = counts_chain k.token.view c.close_pass.new.token.view c.settle-gave.new.token.view
    (counts_same k.token.view c.clear.new.token.view c.close_pass.new.token.view
    (counts_same k.token.view c.build-spare.new.token.view c.clear.new.token.view
    (counts_chain k.token.view c.open_pass.new.token.view c.build-spare.new.token.view o.counts
    c.build-spare.ensures.counts c.build-spare.result.1 0 0 (omega arith) (omega arith) (omega arith))
    c.clear.ensures.counts) s.counts) c.settle-gave.ensures.counts
    c.build-spare.result.1 c.settle-gave.result 1 (omega arith) (omega arith) (omega arith) in
    let taken = counts.taken in
    let given = counts.given in
    let moved = counts.moved in
    let made = between.made in
    let few = c.build-spare.ensures.few in
    let few_taken = between.few_taken in
    let few_given = between.few_given in
    record {
      numbered = c.settle-gave.ensures.number;
      closed = c.settle-gave.ensures.closed;
      work = c.settle-gave.ensures.work;
      spare = c.settle-gave.ensures.spare c.build-spare.result.0 (s.spares c.build-spare.result.0
          (c.clear.ensures.spare c.build-spare.result.0 c.build-spare.ensures.spare));
      made = record {
        taken = omega (arith, taken, made);
        given = omega (arith, given, made);
        moved = omega (arith, moved, made);
      };
      few_taken = omega (arith, few_taken, few);
      few_given = omega (arith, few_given);
    }
