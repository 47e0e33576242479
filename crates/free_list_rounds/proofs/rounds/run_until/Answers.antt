use Rattle.std.proofs.Common.{ap, arith, refl}
use Rattle.free_list_rounds.specs.Rounds.{WorkerValue}
use Rattle.free_list_rounds.proofs.rounds.run_until.Goals as goal

pub returns-then-has_turned_over-clause-turned_over : goal.returns-then-has_turned_over-clause-turned_over
returns-then-has_turned_over-clause-turned_over c =
    let taken = ap (λ (k : WorkerValue). k.taken) c.caller.view_is in
    let given = ap (λ (k : WorkerValue). k.given) c.caller.view_is in
    let reached = c.if-has_turned_over.ensures.reached.0 refl in
    let rounds = c.loop.invariant.rounds in
    let test = c.loop-test.true in
    let one = c.from.ensures in
    let two = c.from-2.ensures in
    let three = c.from-3.ensures in
    record {
      within = omega (arith, rounds, test);
      taken = λ _. omega (arith, reached.0, taken, one, two);
      given = λ _. omega (arith, reached.1, given, three);
    }

pub returns-clause-turned_over : goal.returns-clause-turned_over
returns-clause-turned_over c =
    let rounds = c.loop.invariant.rounds in
    let test = c.loop-test.false in
    let end = c.loop.auto.counter-end in
    record {
      within = omega (arith, rounds, end);
      taken = λ fewer. absurd (omega (arith, fewer, rounds, test));
      given = λ fewer. absurd (omega (arith, fewer, rounds, test));
    }
