use Rattle.std.proofs.Common.{take}
use Rattle.graph_kinds.specs.History.{calls_of}
use Rattle.plain_graph.proofs.Replays.{IsReplay}
use Rattle.plain_graph.proofs.rows.replay.Given as goal

-- the rows so far are replayed
abbrev pub invariant-loop-row : goal.invariant-loop-row
invariant-loop-row l = IsReplay (calls_of (take l.row-index l.rows)) l.answers.items l.graph
