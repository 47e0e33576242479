use Rattle.std.proofs.Common.{◌≡◌, ℕ, ◌+◌, ◌-◌, ◌<◌, List, [], ◌∷◌, ◌++◌, length, take, reverse, get_or, sym, ap, ◌∙◌}
use Rattle.std.proofs.Common.{arith, length-append}
use Rattle.scan_record.specs.Scan.{ScanValue, slot_of}
use Rattle.scan_record.proofs.Gathered.{written_next, slot_kept, slot_long}
use Rattle.scan_record.proofs.back.write_back.Goals as goal

pub loop-left-preserved : goal.loop-left-preserved
loop-left-preserved c =
    let old = c.args.scan.now in
    let s = c.loop-left.scan in
    let now = c.loop-left.invariant in
    let left = c.loop-left.left in
    let slot = slot_of old c.args.slot in
    let same : slot_of s c.args.slot ≡ slot_of old c.args.slot = ap (λ (t : ScanValue). slot_of t c.args.slot) now.rest
    ∙ slot_kept old s.keys [] c.args.slot in
    let key : c.work.result ≡ get_or slot (left - 1) 0 = c.work.ensures ∙ ap
    (λ (xs : List ℕ). get_or xs (left - 1) 0) same in
    let keys = ap (λ (t : ScanValue). t.keys) c.put_key.ensures ∙ ap (λ (k : ℕ). s.keys ++ k ∷ []) key in
    let back : left - 1 + 1 ≡ left = omega arith in
    let room : left - 1 < length slot = omega (
      arith,
      now.fewer,
      c.requires.count,
      slot_long old
          c.vertices.ensures.valid c.args.slot,
    ) in
    let then : List ℕ → ScanValue = λ (ks : List ℕ). record old { keys = ks; ends = [] } in
    let more : ScanValue → ScanValue = λ (t : ScanValue). record t { keys = s.keys ++ c.work.result ∷ [] } in
    record {
      rest = c.put_key.ensures ∙ (ap more now.rest ∙ ap then (sym (ap (λ (t : ScanValue). t.keys) c.put_key.ensures)));
      fewer = omega (arith, now.fewer);
      long = omega (
        arith,
        ap (λ (xs : List ℕ). length xs) keys,
        length-append s.keys
            (get_or slot (left - 1) 0 ∷ []),
        now.long,
      );
      keys = ap (λ (xs : List ℕ). xs ++ reverse (take (left - 1) slot)) keys ∙
          (written_next s.keys slot (left - 1) room ∙ (ap (λ (n : ℕ). s.keys ++ reverse (take n slot)) back
          ∙ now.keys));
    }
