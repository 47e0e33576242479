use Rattle.std.proofs.Common.{◌≡◌, ◌+◌, take, drop, rules, refl, sym, ◌∙◌}
use Rattle.std.proofs.lemmas.Bool.{true≢false}
use Rattle.graph_kinds.specs.InMemory.{source_setup}
use Rattle.graph_kinds.proofs.InMemory.{listed-is}
use Rattle.graph_kinds.proofs.Bytes.{take-copied}
use Rattle.graph_kinds.proofs.mem_source.MemSourceSource.read.Goals as goal

pub returns-clause-got : goal.returns-clause-got
returns-clause-got c =
    let copied : c.copy_from_slice.new.self ≡ take c.min-n.result
    (drop c.args.self.now.at c.args.self.now.bytes.items) = search rules in (
      drop (c.args.self.now.at + c.min-n.result) c.args.self.now.bytes.items,
      take-copied c.args.self.now.at
          c.min-n.result c.args.self.now.bytes.items c.copy_from_slice.new.self c.args.into.now
          (search rules) copied,
      refl,
    )

pub returns-then-left-eq0-clause-fails : goal.returns-then-left-eq0-clause-fails
returns-then-left-eq0-clause-fails c =
    λ still listed. (let is = listed-is (source_setup c.args.self.now) c.deref.result.now _ c.args.self.now.reads
    c.contains.result c.contains.ensures.value c.deref.ensures.value c.saturating_add-self.ensures in
    absurd (true≢false (sym listed ∙ (sym is ∙ c.if-contains.false))))

pub returns-clause-fails : goal.returns-clause-fails
returns-clause-fails c =
    λ still listed. (let is = listed-is (source_setup c.args.self.now) c.deref.result.now _ c.args.self.now.reads
    c.contains.result c.contains.ensures.value c.deref.ensures.value c.saturating_add-self.ensures in
    absurd (true≢false (sym listed ∙ (sym is ∙ c.if-contains.false))))
