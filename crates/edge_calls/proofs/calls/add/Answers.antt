use Rattle.std.proofs.Common.{arith, sym, subst, ◌≡◌, ◌∙◌, [], ℕ}
use Rattle.packed_link.specs.Link.{index_of}
use Rattle.core_journal.specs.Event.{pops}
use Rattle.core_rule.specs.Views.{GoesOn}
use Rattle.core_rule.proofs.CallLimits.{life_tag_low}
use Rattle.core_rule.proofs.ViewShows.{goes_further, key_still, vertex_still}
use Rattle.core_stretches.specs.Makes.{Makes}
use Rattle.core_stretches.proofs.HoldingsStay.{makes_none}
use Rattle.core_stretches.proofs.MakesAddUp.{makes_chain}
use Rattle.core_stretches.proofs.MakesTell.{makes_counts, makes_goes}
use Rattle.node_arena.specs.Filling.{edge_stores}
use Rattle.edge_list.specs.EdgePositions.{EdgePositionValue}
use Rattle.edge_calls.proofs.TriesGoOn.{filled_for, filled_goes, gap_filled, taken_goes}
use Rattle.core_stretches.specs.Holdings.{IsFilledAsEdge}
use Rattle.edge_calls.proofs.calls.add.Goals as goal

pub take-requires-clause-none : goal.take-requires-clause-none
take-requires-clause-none c =
    let v = c.args.token.now.view in
    let m = c.start.new.token.view in
    let w = c.walk.new.token.view in
    let walked : Makes v [] w = makes_chain v m w [] [] c.start.ensures.makes c.walk.ensures.makes in
    makes_none v w [] c.requires.table.layout tt walked c.requires.none

pub take-requires-clause-limit : goal.take-requires-clause-limit
take-requires-clause-limit c =
    let v = c.args.token.now.view in
    let m = c.start.new.token.view in
    let w = c.walk.new.token.view in
    let walked : Makes v [] w = makes_chain v m w [] [] c.start.ensures.makes c.walk.ensures.makes in
    let n = makes_counts pops v w [] walked in
    omega (arith, n, c.requires.limit)

pub fill_edge-requires-clause-tag : goal.fill_edge-requires-clause-tag
fill_edge-requires-clause-tag c =
    life_tag_low c.args.token.now.view c.requires.table.layout c.requires.table.sound.kept c.args.to c.requires.to.life

pub link-requires-clause-gap : goal.link-requires-clause-gap
link-requires-clause-gap c =
    let v = c.args.token.now.view in
    let m = c.start.new.token.view in
    let w = c.walk.new.token.view in
    let walked : Makes v [] w = makes_chain v m w [] [] c.start.ensures.makes c.walk.ensures.makes in
    let t = c.take.new.token.view in
    let x = c.in-Node.fresh in
    let taken = c.in-Node.ensures.taken in
    let went : GoesOn v w = makes_goes v w [] tt walked in
    let q : EdgePositionValue = c.in-Gone.position in
    let f = c.fill_edge.new.token.view in
    let found = c.in-Gone.ensures.found in
    let key : q.key ≡ c.args.key = found.key ∙ c.in-At.ensures.started.key_is in
    let stored : Makes t (edge_stores t x q.key (index_of q.word) c.args.to c.args.weight) f = subst
    (λ (k : ℕ). Makes t (edge_stores t x k (index_of q.word) c.args.to c.args.weight) f) (sym key)
    (subst (λ (n : ℕ). Makes t (edge_stores t x c.args.key (index_of n) c.args.to c.args.weight) f)
    c.word-next.ensures.word c.fill_edge.ensures.makes) in
    let filled = subst (λ (k : ℕ). IsFilledAsEdge f k (index_of q.word) c.args.to c.args.weight x) (sym key)
    (subst (λ (n : ℕ). IsFilledAsEdge f c.args.key (index_of n) c.args.to c.args.weight x) c.word-next.ensures.word
    c.fill_edge.ensures.filled) in
    let to = c.requires.to in
    let ready = filled_for w t f q x c.args.to c.args.weight c.walk.ensures.table.layout found.gap taken stored filled
    (vertex_still v w c.requires.table.layout went c.args.to to)
    (key_still v w c.requires.table.layout went c.args.to.index to.life.there to.met ∙ (c.requires.key ∙ sym key)) in
    gap_filled w t f q x c.args.to c.args.weight c.walk.ensures.table.layout found.gap taken stored filled

pub link-requires-clause-filled : goal.link-requires-clause-filled
link-requires-clause-filled c =
    let v = c.args.token.now.view in
    let m = c.start.new.token.view in
    let w = c.walk.new.token.view in
    let walked : Makes v [] w = makes_chain v m w [] [] c.start.ensures.makes c.walk.ensures.makes in
    let t = c.take.new.token.view in
    let x = c.in-Node.fresh in
    let taken = c.in-Node.ensures.taken in
    let went : GoesOn v w = makes_goes v w [] tt walked in
    let q : EdgePositionValue = c.in-Gone.position in
    let f = c.fill_edge.new.token.view in
    let found = c.in-Gone.ensures.found in
    let key : q.key ≡ c.args.key = found.key ∙ c.in-At.ensures.started.key_is in
    let stored : Makes t (edge_stores t x q.key (index_of q.word) c.args.to c.args.weight) f = subst
    (λ (k : ℕ). Makes t (edge_stores t x k (index_of q.word) c.args.to c.args.weight) f) (sym key)
    (subst (λ (n : ℕ). Makes t (edge_stores t x c.args.key (index_of n) c.args.to c.args.weight) f)
    c.word-next.ensures.word c.fill_edge.ensures.makes) in
    let filled = subst (λ (k : ℕ). IsFilledAsEdge f k (index_of q.word) c.args.to c.args.weight x) (sym key)
    (subst (λ (n : ℕ). IsFilledAsEdge f c.args.key (index_of n) c.args.to c.args.weight x) c.word-next.ensures.word
    c.fill_edge.ensures.filled) in
    let to = c.requires.to in
    let ready = filled_for w t f q x c.args.to c.args.weight c.walk.ensures.table.layout found.gap taken stored filled
    (vertex_still v w c.requires.table.layout went c.args.to to)
    (key_still v w c.requires.table.layout went c.args.to.index to.life.there to.met ∙ (c.requires.key ∙ sym key)) in
    (c.args.to, c.args.weight, ready)

pub returns-clause-added : goal.returns-clause-added
returns-clause-added c =
    let v = c.args.token.now.view in
    let m = c.start.new.token.view in
    let w = c.walk.new.token.view in
    let walked : Makes v [] w = makes_chain v m w [] [] c.start.ensures.makes c.walk.ensures.makes in
    let t = c.take.new.token.view in
    let x = c.in-Node.fresh in
    let taken = c.in-Node.ensures.taken in
    let went : GoesOn v w = makes_goes v w [] tt walked in
    let q : EdgePositionValue = c.in-Gone.position in
    let f = c.fill_edge.new.token.view in
    let found = c.in-Gone.ensures.found in
    let key : q.key ≡ c.args.key = found.key ∙ c.in-At.ensures.started.key_is in
    let stored : Makes t (edge_stores t x q.key (index_of q.word) c.args.to c.args.weight) f = subst
    (λ (k : ℕ). Makes t (edge_stores t x k (index_of q.word) c.args.to c.args.weight) f) (sym key)
    (subst (λ (n : ℕ). Makes t (edge_stores t x c.args.key (index_of n) c.args.to c.args.weight) f)
    c.word-next.ensures.word c.fill_edge.ensures.makes) in
    let filled = subst (λ (k : ℕ). IsFilledAsEdge f k (index_of q.word) c.args.to c.args.weight x) (sym key)
    (subst (λ (n : ℕ). IsFilledAsEdge f c.args.key (index_of n) c.args.to c.args.weight x) c.word-next.ensures.word
    c.fill_edge.ensures.filled) in
    let to = c.requires.to in
    let ready = filled_for w t f q x c.args.to c.args.weight c.walk.ensures.table.layout found.gap taken stored filled
    (vertex_still v w c.requires.table.layout went c.args.to to)
    (key_still v w c.requires.table.layout went c.args.to.index to.life.there to.met ∙ (c.requires.key ∙ sym key)) in
    record {
      then = f;
      goes = goes_further v w f went (goes_further w t f (taken_goes w t x taken)
          (filled_goes t f x q.key (index_of q.word) c.args.to c.args.weight stored));
      position = q;
      source_is = found.source ∙ c.in-At.ensures.started.source_is;
      key_is = key;
      fresh = x;
      linked = c.link.ensures.linked c.args.to c.args.weight ready;
    }
