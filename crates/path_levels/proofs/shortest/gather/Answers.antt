use Rattle.std.proofs.Common.{◌≡◌, ℕ, ◌+◌, ◌-◌, ◌<◌, List, ◌++◌, length, take, reverse, get_or, set, sym, ap, ap₂, ◌∙◌}
use Rattle.std.proofs.Common.{arith, rules, length-set}
use Rattle.scan_record.specs.Scan.{ScanValue}
use Rattle.path_levels.specs.Queue.{trail}
use Rattle.path_levels.proofs.Gathering.{gather_next, gather_last}
use Rattle.path_levels.proofs.shortest.gather.Goals as goal

pub loop-at-preserved : goal.loop-at-preserved
loop-at-preserved c =
    let old = c.args.scan.now in
    let now = c.loop-at.invariant in
    let count = c.loop-at.count in
    let at = c.loop-at.at in
    let two = ap (λ (t : ScanValue). t.slot_two) c.set_work.ensures ∙ ap
    (λ (xs : List ℕ). set c.loop-at.scan.slot_two count (get_or xs at 0)) (c.keys.ensures ∙ now.keys) in
    let one : c.set_work.new.self.slot_one ≡ old.slot_one = ap (λ (t : ScanValue). t.slot_one) c.set_work.ensures
    ∙ now.parents in
    let parent : c.work-at.result ≡ get_or old.slot_one at 0 = c.work-at.ensures ∙ ap
    (λ (xs : List ℕ). get_or xs at 0) one in
    let before = c.requires.parents at c.loop-at-test.true (omega (arith, now.steps)) in
    let room : count < length c.loop-at.scan.slot_two = omega (arith, now.long, now.steps) in
    let next = gather_next old.keys old.slot_one c.loop-at.scan.slot_two c.args.goal count at c.loop-at-test.true
    now.steps room (trail old.keys old.slot_one c.args.goal c.args.goal) now.way in
    record {
      kept = search rules;
      keys = ap (λ (t : ScanValue). t.keys) c.set_work.ensures ∙ now.keys;
      parents = one;
      long = ap (λ (xs : List ℕ). length xs) two ∙ (length-set c.loop-at.scan.slot_two count (get_or old.keys at 0)
          ∙ now.long);
      steps = omega (arith, parent, before, now.steps);
      way = next ∙ sym (ap₂ (λ (p : ℕ) (xs : List ℕ). trail old.keys old.slot_one
          (c.args.goal - (count + 1)) p ++ reverse (take (count + 1) xs)) parent two);
    }

pub returns-clause-gathered : goal.returns-clause-gathered
returns-clause-gathered c =
    let old = c.args.scan.now in
    let now = c.loop-at.invariant in
    let count = c.loop-at.count in
    let two = ap (λ (t : ScanValue). t.slot_two) c.set_work-2.ensures ∙ ap
    (λ (xs : List ℕ). set c.loop-at.scan.slot_two count (get_or xs 0 0)) (c.keys-2.ensures ∙ now.keys) in
    let room : count < length c.loop-at.scan.slot_two = omega (arith, now.long, now.steps) in
    ap (λ (xs : List ℕ). reverse (take (count + 1) xs)) two
    ∙ gather_last old.keys old.slot_one c.loop-at.scan.slot_two c.args.goal count c.loop-at.at (omega arith) room
    (trail old.keys old.slot_one c.args.goal c.args.goal) now.way
