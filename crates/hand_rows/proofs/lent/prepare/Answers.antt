use Rattle.std.proofs.Common.{◌≡◌, ◌+◌, ◌<◌, ℕ, [], None, arith, ap, sym, subst, ◌∙◌}
use Rattle.packed_link.specs.Link.{index_of}
use Rattle.core_journal.specs.Event.{pops}
use Rattle.core_stretches.specs.Holdings.{IsFilledAsVertex}
use Rattle.core_stretches.proofs.MakesAddUp.{makes_chain}
use Rattle.core_stretches.proofs.MakesTell.{makes_counts}
use Rattle.node_arena.specs.declared.taking.Taken.TheVariants as taken
use Rattle.graph_updates.proofs.AddingTells.{filled_gap, node_gap, node_taken}
use Rattle.graph_updates.proofs.PartsLeave.{other_goes}
use Rattle.hand_rows.proofs.WorkGoesOn.{filled_work, took_work, work_goes}
use Rattle.hand_rows.proofs.lent.prepare.Goals as goal

pub take-requires-clause-none : goal.take-requires-clause-none
take-requires-clause-none c =
    let t = c.args.token.now in
    let m = c.start-first.new.token in
    let u = c.walk.new.token in
    let makes = makes_chain t.view m.view u.view [] [] c.start-first.ensures.makes c.in-Gone.ensures.makes in
    other_goes t.view u.view [] c.requires.work.of.layout makes tt tt None tt c.requires.none

pub take-requires-clause-limit : goal.take-requires-clause-limit
take-requires-clause-limit c =
    let t = c.args.token.now in
    let m = c.start-first.new.token in
    let u = c.walk.new.token in
    let makes = makes_chain t.view m.view u.view [] [] c.start-first.ensures.makes c.in-Gone.ensures.makes in
    let n = makes_counts pops t.view u.view [] makes in
    let low = c.requires.limit in
    omega (arith, n, low)

pub returns-in_default-take : goal.returns-in_default-take
returns-in_default-take c =
    let t = c.args.token.now in
    let m = c.start-first.new.token in
    let u = c.walk.new.token in
    let makes = makes_chain t.view m.view u.view [] [] c.start-first.ensures.makes c.in-Gone.ensures.makes in
    record {
      work = took_work c.take.result c.args.table.now u c.take.new.token c.take.ensures.table
          (work_goes c.args.table.now t u [] tt makes c.in-Gone.ensures.table c.requires.work) c.take.ensures.taken;
      prepared = tt;
    }

pub returns-clause-work : goal.returns-clause-work
returns-clause-work c =
    let g = c.args.table.now in
    let t = c.args.token.now in
    let m = c.start-first.new.token in
    let u = c.walk.new.token in
    let w = c.take.new.token in
    let makes = makes_chain t.view m.view u.view [] [] c.start-first.ensures.makes c.in-Gone.ensures.makes in
    let first = work_goes g t u [] tt makes c.in-Gone.ensures.table c.requires.work in
    let second = took_work (taken.Node c.in-Node.fresh) g u w c.in-Node.ensures.table first c.in-Node.ensures.taken in
    filled_work g w c.fill_vertex.new.token c.in-Node.fresh c.args.key (index_of c.word.result.0)
    c.fill_vertex.ensures.table second c.fill_vertex.ensures.makes

pub returns-clause-prepared : goal.returns-clause-prepared
returns-clause-prepared c =
    let u = c.walk.new.token.view in
    let w = c.take.new.token.view in
    let x = c.fill_vertex.new.token.view in
    let gap = c.in-Gone.gap in
    let fresh = c.in-Node.fresh in
    let node = node_taken (taken.Node fresh) u w c.in-Node.ensures.taken in
    let key : gap.key ≡ c.args.key = c.in-Gone.ensures.found.key ∙ c.start-first.ensures.key in
    let there = node_gap None u w fresh gap c.in-Gone.ensures.table.layout node c.in-Gone.ensures.found.gap in
    record {
      key_is = key;
      gap = filled_gap w x fresh c.args.key (index_of c.word.result.0) c.in-Node.ensures.table.layout
          c.fill_vertex.ensures.makes gap node.held there;
      filled = subst (λ (k : ℕ). IsFilledAsVertex x k (index_of gap.word) fresh) (sym key)
          (subst (λ (n : ℕ). IsFilledAsVertex x c.args.key (index_of n) fresh) c.word.ensures.word
          c.fill_vertex.ensures.filled);
    }
