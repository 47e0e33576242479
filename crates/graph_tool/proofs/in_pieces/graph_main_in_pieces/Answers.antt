use Rattle.std.proofs.Common.{ℕ, List}
use Rattle.graph_kinds.specs.Stream.{Puts}
use Rattle.op_text.specs.Pieces.{given, held, inner}
use Rattle.op_text.proofs.TextPieces.{first-part}
use Rattle.graph_tool.specs.Run.{Asks}
use Rattle.graph_tool.proofs.Runs.{fault_behind, if_told, never_done, puts_all}
use Rattle.graph_tool.proofs.in_pieces.graph_main_in_pieces.Goals as goal

pub returns-in-Err-clause-prefix : goal.returns-in-Err-clause-prefix
returns-in-Err-clause-prefix g c =
    if_told (λ bytes. (written : List ℕ) × Asks c.args.words.now bytes written × Puts
    (given g.K.Sink.taken c.args.sink.now) (given g.K.Sink.taken c.graph_main.new.sink) written) _
    (g.S.Source.rest c.args.source.now) c.in-Done.ensures.done
    (λ bytes d. (d.0, d.1, puts_all _ _ _ d.0 d.2 c.in-Err.ensures.given))

pub returns-in-Err-clause-prefix_behind : goal.returns-in-Err-clause-prefix_behind
returns-in-Err-clause-prefix_behind g c =
    if_told (λ bytes. (written : List ℕ) × Asks c.args.words.now bytes written × Puts
    (given g.K.Sink.taken c.args.sink.now) (given g.K.Sink.taken c.graph_main.new.sink) written) _
    (g.S.Source.rest c.args.source.now) c.in-Done.ensures.done
    (λ bytes d. (
      d.0,
      d.1,
      first-part (g.K.Sink.taken (inner c.flush.new.self)) _ (held c.flush.new.self) d.0
          (puts_all _ _ _ d.0 d.2 c.in-Err.ensures.given),
    ))

pub returns-in-Err-clause-too_long_input : goal.returns-in-Err-clause-too_long_input
returns-in-Err-clause-too_long_input g c = λ accepted. never_done _ _ _ _ (c.in-Done.ensures.too_long_input accepted)

pub returns-in_default-clause-prefix_behind : goal.returns-in_default-clause-prefix_behind
returns-in_default-clause-prefix_behind g c = fault_behind c.graph_main.result _ _ _ (held c.graph_main.new.sink)
    (Asks c.args.words.now) c.graph_main.ensures.prefix
