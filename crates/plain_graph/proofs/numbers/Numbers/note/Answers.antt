use Rattle.std.proofs.Common.{cond, Some, refl, sym, ap, ◌∙◌, true≢false}
use Rattle.std.proofs.Math.ListN.{set}
use Rattle.std.specs.Ordering.{nat_cmp}
use Rattle.std.specs.BTreeMap.{get, is_at}
use Rattle.plain_graph.specs.Collecting.{bucket_of}
use Rattle.plain_graph.proofs.Numbering.{numbering_first, numbering_other}
use Rattle.plain_graph.proofs.numbers.Numbers.note.Goals as goal

pub returns-in-Ok : goal.returns-in-Ok
returns-in-Ok c =
    numbering_other c.args.self.now (record { firsts = c.args.self.now.firsts; others = c.insert.new.self })
    c.args.scan.now c.args.key c.requires.numbering c.requires.absent
    (c.is_taken.ensures.0 c.if-is_taken.true) refl
    (λ q. c.in-Ok.ensures.updates.0 q ∙ ap (λ n. cond (is_at (nat_cmp c.args.key) q) (Some n)
    (get nat_cmp c.args.self.now.others q)) c.vertices-row.ensures.count)

pub returns : goal.returns
returns c =
    numbering_first c.args.self.now _ c.args.scan.now c.args.key c.requires.numbering c.requires.absent
    (λ is. true≢false (sym (c.is_taken.ensures.1 is) ∙ c.if-is_taken.false))
    (ap (set c.args.self.now.firsts.items (bucket_of c.args.key)) c.vertices-row.ensures.count) refl
