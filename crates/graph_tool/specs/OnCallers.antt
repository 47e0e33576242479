-- Rows that callers of a shared graph answer, each caller those of its number.
use Rattle.std.specs.Prelude.{◌≡◌, ℕ, ◌<◌, List, length, slice_index_or}
use Rattle.caller_run.specs.Asked.{HasAnsweredAll, answers_to_caller, rows_of_caller}
use Rattle.caller_run.specs.Lanes.{port_of}
use Rattle.caller_run.specs.declared.lane.Lane.{Lane}
use Rattle.graph_kinds.specs.declared.answer.Answer.{Answer}
use Rattle.graph_kinds.specs.declared.call.Row.{Row}
use Rattle.graph_kinds.specs.declared.entry.Entry.{Entry}
use Rattle.graph_kinds.specs.History.{calls_of}
use Rattle.graph_table.specs.Tokens.{TableValue}
use Rattle.shared_graph.specs.Callers.{CallerValue, seen_by, uses_left}
use Rattle.shared_graph.specs.Ports.{caller_in, graph_in}
use Rattle.graph_tool.specs.declared.gated.GatedPort.{GatedPort}

-- the caller whose rows a lane's port answers
abbrev pub caller_of : {G : Type 0} → Lane (GatedPort G) → CallerValue
caller_of lane = caller_in (port_of lane).port

-- the graph on which it answers them
abbrev pub graph_of_lane : {G : Type 0} → Lane (GatedPort G) → TableValue
graph_of_lane lane = graph_in (port_of lane).port

-- what a caller was asked and has answered
abbrev pub entries_of : CallerValue → List Entry
entries_of c = c.hand.token.view.book

-- callers are numbered from 0 in order
abbrev pub AreNumbered : List CallerValue → Type 0
AreNumbered cs = (i : ℕ) (d : CallerValue) → i < length cs → (slice_index_or cs i d).hand.token.view.number ≡ i

-- each caller has answered the rows of its number, with so many tries each and with these answers
abbrev pub HaveAnswered : (old new : List CallerValue) (tries : ℕ) → List Row → List Answer → Type 0
HaveAnswered old new tries rows replies = (i : ℕ) (d : CallerValue) → i < length old
    → HasAnsweredAll entries_of uses_left seen_by (slice_index_or old i d) (slice_index_or new i d) tries
    (calls_of (rows_of_caller i rows)) (answers_to_caller i rows replies)
