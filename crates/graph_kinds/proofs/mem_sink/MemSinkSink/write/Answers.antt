use Rattle.std.proofs.Common.{inl, inr, sym, ◌∙◌, arith}
use Rattle.std.proofs.lemmas.Bool.{true≢false}
use Rattle.graph_kinds.specs.InMemory.{sink_setup}
use Rattle.graph_kinds.proofs.InMemory.{listed-is}
use Rattle.graph_kinds.proofs.mem_sink.MemSinkSink.write.Goals as goal
use Rattle.graph_kinds.proofs.mem_sink.MemSinkSink.write.Goals.{then-left-eq0-via-then-left-eq0}
use Rattle.graph_kinds.proofs.mem_sink.MemSinkSink.write.Goals.{then-left-eq0-via-else-left-eq0+then-contains}

pub returns-then-left-eq0-clause-listed : goal.returns-then-left-eq0-clause-listed
returns-then-left-eq0-clause-listed c =
    elim c.then-left-eq0.branch [
      | then-left-eq0-via-then-left-eq0 w ↦ inl (omega arith)
      | then-left-eq0-via-else-left-eq0+then-contains w ↦ inr
          (sym (listed-is (sink_setup c.args.self.now) w.deref.result.now _ c.args.self.now.writes w.contains.result
          w.contains.ensures.value w.deref.ensures.value c.saturating_add-self.ensures) ∙ w.if-contains.true)
    ]

pub returns-clause-fails : goal.returns-clause-fails
returns-clause-fails c =
    λ listed. (let is = listed-is (sink_setup c.args.self.now) c.deref.result.now _ c.args.self.now.writes
    c.contains.result c.contains.ensures.value c.deref.ensures.value c.saturating_add-self.ensures in
    absurd (true≢false (sym listed ∙ (sym is ∙ c.if-contains.false))))
