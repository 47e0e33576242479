use Rattle.std.proofs.Common.{rules, ◌≡◌, ◌++◌, ◌<◌, List, length, take, drop, refl, sym, subst}
use Rattle.shared_graph.specs.Callers.{CallerValue, HoldsEach}
use Rattle.shared_graph.specs.Closing.{IsReadBetween}
use Rattle.shared_graph.specs.Gathering.{AreBetweenCalls, LookOnEach}
use Rattle.shared_graph.specs.Joining.{AreClosedBy}
use Rattle.shared_graph.proofs.Gathered.{closed_as, holds_still, lent_back}
use Rattle.shared_graph.proofs.graph.SharedGraph.close.Goals as goal

pub finish-requires : goal.finish-requires
finish-requires c =
    let g = c.args.self in
    let xs = c.args.callers.items in
    let zs = c.gather_and_read.new.callers in
    let looks : LookOnEach xs zs = subst (λ (ys : List CallerValue). LookOnEach ys zs) c.as_mut_slice.ensures.value
    c.gather_and_read.ensures.looks in
    let back : take c.args.callers.len (zs ++ drop (length zs) xs) ≡ zs = lent_back c.args.callers.len zs
    (drop (length zs) xs) (search rules) in
    record {
      each = subst (λ (ys : List CallerValue). HoldsEach g ys) (sym back)
          (holds_still g xs zs looks c.gather_and_read.ensures.callers c.requires.each);
    }

pub returns-in-Ok-clause-closed : goal.returns-in-Ok-clause-closed
returns-in-Ok-clause-closed c =
    let g = c.args.self in
    let xs = c.args.callers.items in
    let zs = c.gather_and_read.new.callers in
    let value = c.as_mut_slice.ensures.value in
    let looks : LookOnEach xs zs = subst (λ (ys : List CallerValue). LookOnEach ys zs) value
    c.gather_and_read.ensures.looks in
    let between : AreBetweenCalls xs = subst AreBetweenCalls value c.gather_and_read.ensures.between in
    let read : IsReadBetween xs zs c.in-Ok.graph = subst
    (λ (ys : List CallerValue). IsReadBetween ys zs c.in-Ok.graph) value c.in-Ok.ensures.graph in
    let back : take c.args.callers.len (zs ++ drop (length zs) xs) ≡ zs = lent_back c.args.callers.len zs
    (drop (length zs) xs) (search rules) in
    let t = c.finish.ensures.ended.0 in
    let z : AreClosedBy g zs t = subst (λ (ys : List CallerValue). AreClosedBy g ys t) back
    c.finish.ensures.ended.1.0 in
    let some : 0 < length xs = search rules in
    closed_as g xs zs t c.in-Ok.graph some c.requires.each between looks read z

pub returns-in-Err-clause-refused : goal.returns-in-Err-clause-refused
returns-in-Err-clause-refused c =
    let g = c.args.self in
    let xs = c.args.callers.items in
    let zs = c.gather_and_read.new.callers in
    let looks : LookOnEach xs zs = subst (λ (ys : List CallerValue). LookOnEach ys zs) c.as_mut_slice.ensures.value
    c.gather_and_read.ensures.looks in
    let back : take c.args.callers.len (zs ++ drop (length zs) xs) ≡ zs = lent_back c.args.callers.len zs
    (drop (length zs) xs) (search rules) in
    let each = holds_still g xs zs looks c.gather_and_read.ensures.callers c.requires.each in
    record {
      same = refl;
      each = subst (λ (ys : List CallerValue). HoldsEach g ys) (sym back) each;
      looks = subst (λ (ys : List CallerValue). LookOnEach xs ys) (sym back) looks;
    }
