use Rattle.std.proofs.Common.{ap, arith, subst, sym}
use Rattle.free_list_rounds.specs.Rounds.{WorkerValue, IsBetweenRounds}
use Rattle.free_list_rounds.proofs.rounds.rest.Goals as goal

pub returns-clause-between : goal.returns-clause-between
returns-clause-between c =
    let between = subst IsBetweenRounds (sym c.caller.view_is) c.requires.between in
    let k = c.caller.inside in
    let end = c.settle-gave.ensures.counts in
    let taken = end.taken in
    let given = end.given in
    let moved = end.moved in
    let made = between.made in
    let few_taken = between.few_taken in
    let few_given = between.few_given in
    record {
      numbered = c.settle-gave.ensures.number;
      closed = c.settle-gave.ensures.closed;
      work = c.settle-gave.ensures.work;
      spare = c.settle-gave.ensures.spare k.spare between.spare;
      made = record {
        taken = omega (arith, taken, made);
        given = omega (arith, given, made);
        moved = omega (arith, moved, made);
      };
      few_taken = omega (arith, few_taken);
      few_given = omega (arith, few_given);
    }

pub settle-gave-requires-clause-limit : goal.settle-gave-requires-clause-limit
settle-gave-requires-clause-limit c =
    let between = subst IsBetweenRounds (sym c.caller.view_is) c.requires.between in
    let k = between.made.moved in
    let left = c.requires.left in
    let same = ap (λ (k : WorkerValue). k.rounds) c.caller.view_is in
    omega (arith, k, left, same)
