use Rattle.std.proofs.Common.{◌+◌, drop, sym, ◌∙◌, arith, length-drop}
use Rattle.std.proofs.lemmas.List.{get_or-drop}
use Rattle.path_levels.proofs.MetLists.{stands_nowhere}
use Rattle.path_levels.proofs.queue.place_of.Goals as goal

pub returns-clause-none : goal.returns-clause-none
returns-clause-none c =
    let keys = c.args.scan.now.keys in
    stands_nowhere (drop c.args.from keys) c.args.key
    (λ k lt same. c.loop-place.invariant (c.args.from + k) (omega arith)
    (omega (arith, lt, length-drop c.args.from keys)) (sym (get_or-drop c.args.from keys k 0) ∙ same))
